-- To be believed: a file with what begins at each of its bytes.
use Rattle.std.specs.Prelude.{ℕ, zero, suc, ◌-◌, nat_le, Bool, true, false, List, [], ◌∷◌, length, take}
use Rattle.dd_file.specs.declared.mark.TheConstants.{NEAR}
use Rattle.dd_file.specs.declared.mode.Mode.{Mode}
use Rattle.dd_file.specs.declared.mode.Mode.TheVariants.{Head, Mark1, Mark2, Start, Plain, Escaped, Remark, Braced, Quoted, Backslash}
use Rattle.dd_file.specs.Modes.{next_mode}
use Rattle.dd_file.specs.Marks.{Begins, nothing, empty_line, tag, cut, mark_at}

-- The bytes of a file, each with what begins at it; and whether the file ends outside of comments in braces and of tags.
pub data Marked : Type 0 where
  end : Bool → Marked
  byte : Begins → ℕ → Marked → Marked

-- what begins at the first of these bytes, to the end of the file, which stands so: judged by the next 65,536 of them
abbrev pub begins : Mode → List ℕ → Begins
begins mode bytes = mark_at mode (nat_le (length bytes) NEAR) (take NEAR bytes)

-- how many bytes after its first one belong to it: within a tag nothing begins; of one that is cut off a byte is still to come at the end of the file
abbrev pub left_of : Begins → ℕ
left_of nothing = 0
left_of empty_line = 0
left_of (tag is_first length name quoted) = length - 1
left_of (cut length) = length

-- is the file closed where it ends so?
abbrev pub is_closed : ℕ → Mode → Bool
is_closed (suc more) mode = false
is_closed zero Braced = false
is_closed zero Head = true
is_closed zero Mark1 = true
is_closed zero Mark2 = true
is_closed zero Start = true
is_closed zero Plain = true
is_closed zero Escaped = true
is_closed zero Remark = true
is_closed zero Quoted = true
is_closed zero Backslash = true

-- what begins at a byte, of which so many with those after it still belong to a tag
abbrev pub begins_within : ℕ → Mode → List ℕ → Begins
begins_within zero mode bytes = begins mode bytes
begins_within (suc more) mode bytes = nothing

-- and how many of the bytes after it belong to a tag
abbrev pub left_within : ℕ → Begins → ℕ
left_within zero begun = left_of begun
left_within (suc more) begun = more

-- these bytes, to the end of the file, marked
unfoldable pub marked : ℕ → Mode → List ℕ → Marked
marked left mode [] = end (is_closed left mode)
marked left mode (first ∷ bytes) =
    byte (begins_within left mode (first ∷ bytes)) first (marked (left_within left (begins_within left mode (first ∷ bytes))) (next_mode mode first) bytes)

-- a whole file
abbrev pub marked_file : List ℕ → Marked
marked_file bytes = marked 0 Head bytes
