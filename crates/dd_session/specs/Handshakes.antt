-- To be believed: what a handshake of a WebSocket that failed is answered (RFC 6455, section 4.4, and RFC 9110, section 15.5).
use Rattle.std.specs.Prelude.{ℕ, List, [], codes}
use Rattle.tungstenite.specs.declared.error.Error.{Error}
use Rattle.tungstenite.specs.declared.error.Error.TheVariants.{Handshake, JunkAfterRequest, AttackAttempt, Url, Refused}
use Rattle.websocket.specs.declared.handshake.failure.HandshakeError.{HandshakeError}
use Rattle.websocket.specs.declared.handshake.failure.HandshakeError.TheVariants.{MissingConnectionUpgradeHeader, MissingUpgradeWebSocketHeader, MissingSecWebSocketVersionHeader, OutOfMemory}
use Rattle.dd_session.specs.declared.handshake.HandshakeAnswer.{HandshakeAnswer}
use Rattle.dd_session.specs.declared.handshake.HandshakeAnswer.TheVariants.{BadRequest, UpgradeRequired, Given, Nothing}

-- a head that lacks the upgrade to a WebSocket or its version is told what is required, and any other that can't be taken that it is bad
abbrev pub answer_to_head : HandshakeError → HandshakeAnswer
answer_to_head MissingConnectionUpgradeHeader = UpgradeRequired
answer_to_head MissingUpgradeWebSocketHeader = UpgradeRequired
answer_to_head MissingSecWebSocketVersionHeader = UpgradeRequired
answer_to_head OutOfMemory = Nothing
answer_to_head _ = BadRequest

-- so is one with bytes behind it, with too many or too small pieces, or with an address that is none; one that was refused has its answer,
-- and where the stream or memory ended there is none
abbrev pub answer_to : Error → HandshakeAnswer
answer_to (Handshake cause) = answer_to_head cause
answer_to JunkAfterRequest = BadRequest
answer_to AttackAttempt = BadRequest
answer_to Url = BadRequest
answer_to (Refused response) = Given
answer_to _ = Nothing

-- the response of HTTP
abbrev pub answer_text : HandshakeAnswer → List ℕ
answer_text BadRequest = codes "HTTP/1.1 400 Bad Request\r\nConnection: close\r\nContent-Length: 0\r\n\r\n"
answer_text UpgradeRequired =
    codes "HTTP/1.1 426 Upgrade Required\r\nUpgrade: websocket\r\nConnection: Upgrade, close\r\nSec-WebSocket-Version: 13\r\nContent-Length: 0\r\n\r\n"
answer_text Given = []
answer_text Nothing = []
