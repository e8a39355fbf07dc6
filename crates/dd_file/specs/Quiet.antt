-- Bytes that are passed on many at once, since they come out alone.
use Rattle.std.specs.Prelude.{◌≡◌, ℕ, zero, suc, ◌+◌, ◌-◌, ◌^◌, min, ◌<◌, ◌≤◌, ◌==◌, ◌&&◌, ◌||◌, Bool, true, false, List, [], ◌∷◌, ◌++◌, length, take, drop, Option, Some, None, option_and_then, nat_lt, slice_index_or, if◌then◌else◌}
use Rattle.std.specs.Int.{trailing_zeros, w64}
use mathlib.Core.Bool.{not}
use Rattle.dd_cards.specs.Hands.{FourHands}
use Rattle.dd_file.specs.declared.fill_state.FillState.{FillState}
use Rattle.dd_file.specs.declared.filler.Filler.{Filler}
use Rattle.dd_file.specs.declared.known_tag.TheConstants.{REQUIRED}
use Rattle.dd_file.specs.declared.mode.Mode.{Mode}
use Rattle.dd_file.specs.declared.mode.Mode.TheVariants.{Head, Mark1, Mark2, Start, Plain, Escaped, Remark, Braced, Quoted, Backslash}
use Rattle.dd_file.specs.declared.wanted.Wanted.{Wanted}
use Rattle.dd_file.specs.Filled.{Found, asks_from, filled_from}
use Rattle.dd_file.specs.Games.{marked_name}
use Rattle.dd_file.specs.Modes.{is_blank, next_mode}
use Rattle.dd_file.specs.Tags.{is_name}
use Rattle.dd_file.specs.Notices.{Notice}
use Rattle.dd_file.specs.Told.{GameNotes, one_more, told_from}
use Rattle.dd_file.specs.Windows.{Passed, PassesFront, Point, place_of, point_of, marked_at}

-- does nothing begin at a byte that stands so, outside of tags, whatever follows?
abbrev pub is_quiet : Mode → ℕ → Bool
is_quiet Head byte = false
is_quiet Mark1 byte = false
is_quiet Mark2 byte = false
is_quiet Start byte = not ((is_blank byte || byte == 10) || byte == 91)
is_quiet Plain byte = not (byte == 91)
is_quiet Escaped byte = true
is_quiet Remark byte = true
is_quiet Braced byte = true
is_quiet Quoted byte = true
is_quiet Backslash byte = true

-- the same where so many bytes with this one belong to a tag
abbrev pub is_quiet_within : ℕ → Mode → ℕ → Bool
is_quiet_within zero mode byte = is_quiet mode byte
is_quiet_within (suc more) mode byte = true

-- is it the end of an empty line, where no game has begun that could end there?
abbrev pub is_idle : Bool → ℕ → Mode → ℕ → Bool
is_idle true left mode byte = false
is_idle false (suc more) mode byte = false
is_idle false zero Start byte = byte == 10
is_idle false zero Head byte = false
is_idle false zero Mark1 byte = false
is_idle false zero Mark2 byte = false
is_idle false zero Plain byte = false
is_idle false zero Escaped byte = false
is_idle false zero Remark byte = false
is_idle false zero Braced byte = false
is_idle false zero Quoted byte = false
is_idle false zero Backslash byte = false

-- Does a byte come out alone, whatever follows? A game has begun, or not.
abbrev pub is_alone : Bool → ℕ → Mode → ℕ → Bool
is_alone begun left mode byte = is_quiet_within left mode byte || is_idle begun left mode byte

-- does the next byte stand as a quiet one, on the same line?
abbrev pub is_calm : Mode → ℕ → Bool
is_calm Head byte = false
is_calm Mark1 byte = false
is_calm Mark2 byte = false
is_calm Start byte = false
is_calm Plain byte = (((not (byte == 10) && not (byte == 34)) && not (byte == 59)) && not (byte == 91)) && not (byte == 123)
is_calm Escaped byte = not (byte == 10)
is_calm Remark byte = not (byte == 10)
is_calm Braced byte = not (byte == 10) && not (byte == 125)
is_calm Quoted byte = (not (byte == 10) && not (byte == 34)) && not (byte == 92)
is_calm Backslash byte = false

-- does it end a stretch of such bytes?
abbrev pub is_stop : Mode → ℕ → Bool
is_stop mode byte = not (is_calm mode byte)

-- of bytes with a bit each, how many come before the first whose bit is set
abbrev pub first_set : ℕ → ℕ
first_set mask = trailing_zeros w64 mask

-- are all of these so?
abbrev pub are_calm : Mode → List ℕ → Bool
are_calm mode [] = true
are_calm mode (byte ∷ bytes) = is_calm mode byte && are_calm mode bytes

-- the text after such bytes
unfoldable pub after_calm : Mode → List ℕ → List ℕ
after_calm mode [] = []
after_calm mode (byte ∷ text) = (if is_calm mode byte then after_calm mode text else byte ∷ text)

-- does nothing begin at any of these bytes, the first of which stands so?
abbrev pub are_quiet : Mode → List ℕ → Bool
are_quiet mode [] = true
are_quiet mode (byte ∷ bytes) = is_quiet mode byte && are_quiet (next_mode mode byte) bytes

-- how the byte behind them stands
abbrev pub mode_behind : Mode → List ℕ → Mode
mode_behind mode [] = mode
mode_behind mode (byte ∷ bytes) = mode_behind (next_mode mode byte) bytes

-- can a line of plain text begin with this byte: is it no blank, no line feed, no `[` and no `%`?
abbrev pub begins_plain : ℕ → Bool
begins_plain byte = is_quiet Start byte && not (byte == 37)

-- the last of these bytes is a line feed behind another byte
pub record EndsLine (bytes : List ℕ) : Type 0 where
  pub front : List ℕ
  pub byte : ℕ
  pub split : bytes ≡ front ++ byte ∷ 10 ∷ []

-- the text begins with lines at whose bytes nothing begins, and this is left of it behind them
pub record BeginsLines (text rest : List ℕ) : Type 0 where
  pub bytes : List ℕ
  pub split : text ≡ bytes ++ rest
  pub quiet : are_quiet Start bytes ≡ true
  pub outside : mode_behind Start bytes ≡ Start
  pub ended : 0 < length bytes → EndsLine bytes

-- the game at hand behind such lines: what comes before the last byte, a line feed, tells how the line ends
abbrev pub with_lines : List ℕ → FillState → FillState
with_lines bytes state = (if nat_lt (length bytes) 2 then state else record state { last = 10; has_return = slice_index_or bytes (length bytes - 2) 0 == 13 })

-- the last of these bytes, and this one where there is none
abbrev pub last_of : List ℕ → ℕ → ℕ
last_of [] last = last
last_of (byte ∷ bytes) last = last_of bytes byte

-- the game at hand behind bytes that end no line
abbrev pub with_line_bytes : List ℕ → FillState → FillState
with_line_bytes bytes state = record state { last = last_of bytes state.last }

-- the game at hand with a tag of this number, whatever its value
abbrev pub noted : ℕ → FillState → FillState
noted number state = record state { begun = true; names = marked_name number state.names }

-- the number of a name, where it is one of the fifteen that every game should have
abbrev pub required_number : Option ℕ → Option ℕ
required_number known = option_and_then (λ number. if nat_lt number REQUIRED then Some number else None) known

-- what is noted behind bytes that tell nothing of the game at hand
abbrev pub later : List ℕ → GameNotes → GameNotes
later [] notes = notes
later (byte ∷ bytes) notes = later bytes (record { number = notes.number; board = notes.board; texts = notes.texts; bytes = one_more notes.bytes })

-- From one place to another these bytes come out as they are, whatever is wanted, answered and follows, and no game ends.
pub record Stays (p q : Point) (bytes : List ℕ) : Type 0 where
  pub fills : (wanted : Wanted) (answers : List (Option Found)) (rest : List ℕ)
      → filled_from wanted answers p.state (marked_at p (bytes ++ rest)) ≡ bytes ++ filled_from wanted answers q.state (marked_at q rest)
  pub asks : (wanted : Wanted) (rest : List ℕ) → asks_from wanted p.state (marked_at p (bytes ++ rest)) ≡ asks_from wanted q.state (marked_at q rest)
  pub tells : (wanted : Wanted) (answers : List (Option Found)) (notes : GameNotes) (rest : List ℕ)
      → told_from wanted answers p.state notes (marked_at p (bytes ++ rest)) ≡ told_from wanted answers q.state (later bytes notes) (marked_at q rest)

-- the first bytes of a text were taken in so, and the rest is left
pub record Takes (old new : Filler) (before after : List ℕ) : Type 0 where
  pub wanted : new.wanted ≡ old.wanted
  pub bytes : List ℕ
  pub split : before ≡ bytes ++ after
  pub stays : Stays (point_of old) (point_of new) bytes

-- the number of the game at hand, what its tags say that is told, and how many bytes were passed on are as they were
pub record KeepsCounts (old new : Filler) : Type 0 where
  pub number : new.number ≡ old.number
  pub board : new.board ≡ old.board
  pub unknown : new.unknown ≡ old.unknown
  pub passed : new.passed ≡ old.passed

-- So many bytes more were passed on, in the same game; a count that is too great stays at the most.
pub record Counts (old new : Filler) (count : ℕ) : Type 0 where
  pub number : new.number ≡ old.number
  pub board : new.board ≡ old.board
  pub unknown : new.unknown ≡ old.unknown
  pub some : 0 < count → new.passed ≡ min (old.passed + count) (2 ^ 64 - 1)
  pub none : count ≡ 0 → new.passed ≡ old.passed

-- the first so many bytes of a text were passed on so
pub record PassesQuiet (old new : Filler) (text : List ℕ) (count : ℕ) (out_old out_new : List ℕ) : Type 0 where
  pub within : count ≤ length text
  pub wanted : new.wanted ≡ old.wanted
  pub appended : out_new ≡ out_old ++ take count text
  pub stays : Stays (point_of old) (point_of new) (take count text)

-- the first bytes were passed on, at least one and so many at most
pub record PassesSome {S : Type 0} (gives : FourHands → Option (List (List ℕ)) → Type 0) (way : S → Notice → S → Type 0) (is_all : Bool) (old new : Filler) (s t : S) (rest : List ℕ) (most count : ℕ) (out_old out_new : List ℕ) : Type 0 where
  pub some : 0 < count
  pub within : count ≤ most
  pub front : PassesFront gives way is_all old new s t rest (drop count rest) out_old out_new

-- ---- tags on one line

-- letters, digits and underscores
abbrev pub are_names : List ℕ → Bool
are_names [] = true
are_names (byte ∷ name) = (if is_name byte then are_names name else false)

-- does a byte end a name?
abbrev pub ends_name : ℕ → Bool
ends_name byte = not (is_name byte)

-- `[`, a name, a space, a string of bytes that are no backslash, no quote and no line feed, and `]`
abbrev pub short_tag : List ℕ → List ℕ → List ℕ
short_tag name quoted = 91 ∷ (name ++ 32 ∷ 34 ∷ (quoted ++ 34 ∷ 93 ∷ []))

-- the text begins with such a tag
pub record BeginsShort (text name quoted rest : List ℕ) : Type 0 where
  pub some : 1 ≤ length name
  pub names : are_names name ≡ true
  pub calm : are_calm Quoted quoted ≡ true
  pub spelled : text ≡ short_tag name quoted ++ rest

-- can a tag begin at a byte that stands so, and is it the first thing on its line then?
abbrev pub IsPlace : Mode → Bool → Type 0
IsPlace Start is_first = is_first ≡ true
IsPlace Plain is_first = is_first ≡ false
IsPlace Head is_first = ⊥
IsPlace Mark1 is_first = ⊥
IsPlace Mark2 is_first = ⊥
IsPlace Escaped is_first = ⊥
IsPlace Remark is_first = ⊥
IsPlace Braced is_first = ⊥
IsPlace Quoted is_first = ⊥
IsPlace Backslash is_first = ⊥

-- The first so many bytes of a text were passed on, a tag or none, with the lines of a game that ends before it, whatever follows. This is noted then.
pub record PassesTag {S : Type 0} (gives : FourHands → Option (List (List ℕ)) → Type 0) (way : S → Notice → S → Type 0) (old new : Filler) (notes : GameNotes) (s t : S) (text : List ℕ) (count : ℕ)
    (out_old out_new : List ℕ) : Type 0 where
  pub within : count ≤ length text
  pub wanted : new.wanted ≡ old.wanted
  pub added : List ℕ
  pub appended : out_new ≡ out_old ++ added
  pub passed : Passed gives way false old.wanted (place_of old s) (record { point = point_of new; notes = notes; heard = t }) (take count text) [] added

-- is it a small letter?
abbrev pub is_small : ℕ → Bool
is_small byte = not (nat_lt byte 97) && nat_lt byte 123

-- are all of these?
abbrev pub are_small : List ℕ → Bool
are_small [] = true
are_small (byte ∷ word) = is_small byte && are_small word
