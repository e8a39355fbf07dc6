-- To be believed: what begins at a byte of a file: an empty line, a tag, or nothing of the two.
use Rattle.std.specs.Prelude.{ℕ, ◌-◌, ◌==◌, Bool, true, false, List, [], ◌∷◌, length, Result, Ok, Err, if◌then◌else◌}
use Rattle.dd_file.specs.declared.mode.Mode.{Mode}
use Rattle.dd_file.specs.declared.mode.Mode.TheVariants.{Head, Mark1, Mark2, Start, Plain, Escaped, Remark, Braced, Quoted, Backslash}
use Rattle.dd_file.specs.declared.mark.Mark.{Mark}
use Rattle.dd_file.specs.declared.mark.Mark.TheVariants as marks
use Rattle.dd_file.specs.declared.tag_reader.Miss.{Miss}
use Rattle.dd_file.specs.declared.tag_reader.Miss.TheVariants.{NoTag, Ends}
use Rattle.dd_file.specs.Modes.{is_blank}
use Rattle.dd_file.specs.Tags.{TagParts, tag_at}

-- What begins at a byte: nothing; a line that holds nothing but blanks; a tag of so many bytes, with the blanks before it where it is the first thing on
-- its line; a tag that the end of the file cuts off after so many bytes.
pub data Begins : Type 0 where
  nothing : Begins
  empty_line : Begins
  tag : Bool → ℕ → List ℕ → List ℕ → Begins
  cut : ℕ → Begins

-- the same as the code has it
abbrev pub shown : Mark → Begins
shown marks.Nothing = nothing
shown marks.EmptyLine = empty_line
shown (marks.Tag is_first length name quoted) = tag is_first length name.now quoted.now
shown (marks.Cut length) = cut length

-- the text after its blanks
unfoldable pub after_blanks : List ℕ → List ℕ
after_blanks [] = []
after_blanks (byte ∷ text) = (if is_blank byte then after_blanks text else byte ∷ text)

-- by what was read: a tag, or one that is cut off where all that follows was looked at
abbrev pub mark_read : Bool → Bool → List ℕ → Result TagParts Miss → Begins
mark_read is_first is_all near (Ok parts) = tag is_first (length near - length parts.rest) parts.name parts.quoted
mark_read is_first is_all near (Err NoTag) = nothing
mark_read is_first is_all near (Err Ends) = (if is_all then cut (length near) else nothing)

-- whether a tag begins at the text, which is what is left of the bytes
unfoldable pub tag_mark : Bool → Bool → List ℕ → List ℕ → Begins
tag_mark is_first is_all near text = mark_read is_first is_all near (tag_at text)

-- what a line begins with whose bytes after its blanks are these: it is empty where it ends there
unfoldable pub line_mark : Bool → List ℕ → List ℕ → Begins
line_mark is_all near [] = (if is_all then empty_line else nothing)
line_mark is_all near (byte ∷ text) = (if byte == 10 then empty_line else tag_mark true is_all near (byte ∷ text))

-- What begins at the first of these bytes, which stands so. They are all that follow, or as many as are looked at.
unfoldable pub mark_at : Mode → Bool → List ℕ → Begins
mark_at Head is_all near = line_mark is_all near (after_blanks near)
mark_at Start is_all near = line_mark is_all near (after_blanks near)
mark_at Mark1 is_all near = tag_mark false is_all near near
mark_at Mark2 is_all near = tag_mark false is_all near near
mark_at Plain is_all near = tag_mark false is_all near near
mark_at Escaped is_all near = nothing
mark_at Remark is_all near = nothing
mark_at Braced is_all near = nothing
mark_at Quoted is_all near = nothing
mark_at Backslash is_all near = nothing
