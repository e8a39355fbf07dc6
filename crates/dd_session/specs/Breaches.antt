-- To be believed: what the peer of a WebSocket is told of what it sent against the protocol (RFC 6455, section 7.4.1).
use Rattle.std.specs.Prelude.{◌≡◌, ℕ, List, [], Option, None, Some}
use Rattle.tungstenite.specs.Connection.{close_step}
use Rattle.tungstenite.specs.Socket.{Socket, Writes}
use Rattle.tungstenite.specs.declared.error.Error.{Error}
use Rattle.tungstenite.specs.declared.error.Error.TheVariants.{Protocol, Capacity, Utf8}
use Rattle.websocket.specs.declared.error.ProtocolError.{ProtocolError}
use Rattle.websocket.specs.declared.error.ProtocolError.TheVariants.{ResetWithoutClosingHandshake}
use Rattle.websocket.specs.declared.protocol.frame.coding.CloseCode.{CloseCode}
use Rattle.websocket.specs.declared.protocol.frame.coding.CloseCode.TheVariants.{Size, Invalid, Protocol as ProtocolCode}
use Rattle.dd_session.specs.declared.socket.SocketEnd.{SocketEnd}
use Rattle.dd_session.specs.declared.socket.SocketEnd.TheVariants.{Read, Broken}

-- what is against the protocol has 1002; a stream that ended isn't
abbrev pub protocol_code : ProtocolError → Option CloseCode
protocol_code ResetWithoutClosingHandshake = None
protocol_code _ = Some ProtocolCode

-- a message or frame that is too big has 1009, and a text that is no UTF-8 has 1007
abbrev pub close_code : Error → Option CloseCode
close_code (Protocol cause) = protocol_code cause
close_code (Capacity cause) = Some Size
close_code Utf8 = Some Invalid
close_code _ = None

-- where there is a code, a close frame with it was sent, or could not be; where there is none nothing was
abbrev pub TellsBreach : {S : Type 0} → (S → Option (List ℕ)) → Option CloseCode → Socket S → Socket S → SocketEnd → Type 0
TellsBreach contents None old new end = (new ≡ old) × (end ≡ Read)
TellsBreach contents (Some code) old new Broken = Writes contents old new (close_step old.conn (Some (code, [])))
TellsBreach contents (Some code) old new end = end ≡ Read
