-- To be believed: what a request of HTTP begins with, and a handshake of TLS.
use Rattle.std.specs.Prelude.{ℕ, List, [], ◌∷◌, Bool, false, codes, nat_eq, ◌==◌, ◌||◌}
use Rattle.std.specs.List.{list_any, starts_with}

-- a method of RFC 9110 (section 9.3) or of RFC 5789, and the space after it
abbrev pub methods : List (List ℕ)
methods = codes "GET " ∷ codes "HEAD " ∷ codes "POST " ∷ codes "PUT " ∷ codes "DELETE " ∷ codes "CONNECT " ∷ codes "OPTIONS " ∷ codes "TRACE " ∷ codes "PATCH " ∷ []

-- a stream that begins with these bytes begins with a request of HTTP
abbrev pub begins_request : List ℕ → Bool
begins_request bytes = list_any (λ method. starts_with nat_eq bytes method) methods

-- more bytes may still make it one
abbrev pub may_begin_request : List ℕ → Bool
may_begin_request bytes = list_any (λ method. starts_with nat_eq method bytes) methods

-- A handshake of TLS begins with a record of this type (RFC 8446, section 5.1), which begins no line of JSON.
abbrev pub begins_handshake : List ℕ → Bool
begins_handshake [] = false
begins_handshake (byte ∷ bytes) = byte == 22

-- a stream that begins with these bytes is of another protocol
abbrev pub is_other_protocol : List ℕ → Bool
is_other_protocol bytes = begins_request bytes || begins_handshake bytes
