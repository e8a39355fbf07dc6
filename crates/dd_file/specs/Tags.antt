-- To be believed: the tag that a text begins with: `[`, a name, a string and `]`, with blanks, line ends, comments and escaped lines between them.
use Rattle.std.specs.Prelude.{◌≡◌, ℕ, ◌-◌, ◌==◌, ◌||◌, ◌&&◌, nat_le, Bool, true, false, List, [], ◌∷◌, length, take, Result, Ok, Err, if◌then◌else◌}
use Rattle.dd_file.specs.declared.mode.Mode.{Mode}
use Rattle.dd_file.specs.declared.mode.Mode.TheVariants.{Head, Mark1, Mark2, Start, Plain, Escaped, Remark, Braced, Quoted, Backslash}
use Rattle.dd_file.specs.declared.tag_reader.Miss.{Miss}
use Rattle.dd_file.specs.declared.tag_reader.Miss.TheVariants.{NoTag, Ends}
use Rattle.dd_file.specs.declared.tag_reader.TagText.{TagText}
use Rattle.dd_file.specs.Modes.{next_mode, is_blank}

-- one step of reading, and the next where the first did not fail
infixl 10 ◌>>=◌
abbrev pub ◌>>=◌ : {A B : Type 0} → Result A Miss → (A → Result B Miss) → Result B Miss
(Ok x) >>= f = f x
(Err e) >>= f = Err e

-- what a function returned, seen by view, is what reading gives
abbrev pub Reads : {X Y : Type 0} → (X → Y) → Result X Miss → Result Y Miss → Type 0
Reads view (Ok x) read = read ≡ Ok (view x)
Reads view (Err e) read = read ≡ Err e

-- a tag's name, its string as it stands between the quotes, and what follows the tag
pub record TagParts : Type 0 where
  pub name : List ℕ
  pub quoted : List ℕ
  pub rest : List ℕ

-- the same of a tag that was read
abbrev pub parts_of : TagText → TagParts
parts_of tag = record { name = tag.name.now; quoted = tag.quoted.now; rest = tag.rest.now }

-- of a text what stands before this rest of it, without so many bytes at its end
abbrev pub front_of : List ℕ → List ℕ → ℕ → List ℕ
front_of text rest without = take ((length text - length rest) - without) text

-- the text after this byte
unfoldable pub byte_at : ℕ → List ℕ → Result (List ℕ) Miss
byte_at byte [] = Err Ends
byte_at byte (first ∷ text) = (if first == byte then Ok text else Err NoTag)

-- does a byte that stands so belong to no part of a tag: a blank, a line feed, or a byte of a comment or of an escaped line?
abbrev pub is_gap : Mode → ℕ → Bool
is_gap Escaped byte = true
is_gap Remark byte = true
is_gap Braced byte = true
is_gap Start byte = (((is_blank byte || byte == 10) || byte == 59) || byte == 123) || byte == 37
is_gap Plain byte = ((is_blank byte || byte == 10) || byte == 59) || byte == 123
is_gap Head byte = false
is_gap Mark1 byte = false
is_gap Mark2 byte = false
is_gap Quoted byte = false
is_gap Backslash byte = false

-- the text after such bytes
unfoldable pub after_gap : Mode → List ℕ → List ℕ
after_gap mode [] = []
after_gap mode (byte ∷ text) = (if is_gap mode byte then after_gap (next_mode mode byte) text else byte ∷ text)

-- is it a letter, a digit or an underscore?
abbrev pub is_name : ℕ → Bool
is_name byte = (((nat_le 48 byte && nat_le byte 57) || (nat_le 65 byte && nat_le byte 90)) || (nat_le 97 byte && nat_le byte 122)) || byte == 95

-- the text after such bytes
unfoldable pub after_name : List ℕ → List ℕ
after_name [] = []
after_name (byte ∷ text) = (if is_name byte then after_name text else byte ∷ text)

-- the text after a name, of at least one byte
unfoldable pub name_at : List ℕ → Result (List ℕ) Miss
name_at [] = Err Ends
name_at (byte ∷ text) = (if is_name byte then Ok (after_name text) else Err NoTag)

-- the string has ended where its closing quote was read, and is no tag's value where its line ends first
abbrev pub string_at : Mode → List ℕ → Result (List ℕ) Miss → Result (List ℕ) Miss
string_at Plain text more = Ok text
string_at Start text more = Err NoTag
string_at Head text more = more
string_at Mark1 text more = more
string_at Mark2 text more = more
string_at Escaped text more = more
string_at Remark text more = more
string_at Braced text more = more
string_at Quoted text more = more
string_at Backslash text more = more

-- the text after the quote that ends the string
unfoldable pub after_string : Mode → List ℕ → Result (List ℕ) Miss
after_string mode [] = Err Ends
after_string mode (byte ∷ text) = string_at (next_mode mode byte) text (after_string (next_mode mode byte) text)

-- the tag that the text begins with
unfoldable pub tag_at : List ℕ → Result TagParts Miss
tag_at text = do
  bracket ← byte_at 91 text
  after ← name_at (after_gap Plain bracket)
  string ← byte_at 34 (after_gap Plain after)
  last ← after_string Quoted string
  rest ← byte_at 93 (after_gap Plain last)
  Ok (record { name = front_of (after_gap Plain bracket) after 0; quoted = front_of string last 1; rest = rest })
