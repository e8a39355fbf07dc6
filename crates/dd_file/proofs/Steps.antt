-- the steps of reading, at the first byte of a slice
use Rattle.std.proofs.Common.{◌≡◌, ◌∙◌, ℕ, ◌-◌, ◌<◌, ◌≤◌, Bool, true, false, refl, ap, arith, List, [], ◌∷◌, length, get_or, take, drop, if◌then◌else◌, Result, Ok, Err}
use Rattle.std.proofs.lemmas.List.{take_all}
use Rattle.dd_file.specs.declared.mode.Mode.{Mode}
use Rattle.dd_file.specs.declared.mode.Mode.TheVariants.{Head, Mark1, Mark2, Start, Plain, Escaped, Remark, Braced, Quoted, Backslash}
use Rattle.dd_file.specs.declared.tag_reader.Miss.{Miss}
use Rattle.dd_file.specs.declared.tag_reader.Miss.TheVariants.{NoTag, Ends}
use Rattle.dd_file.specs.Modes.{is_blank, next_mode}
use Rattle.dd_file.specs.Marks.{after_blanks}
use Rattle.dd_file.specs.Tags.{after_gap, after_name, after_string, is_gap, is_name, string_at}

-- what a slice pattern leaves of a text is its tail
pub tail-is : (byte : ℕ) (text : List ℕ) → take (length (byte ∷ text) - 1) text ≡ text
tail-is byte text = take_all (length (byte ∷ text) - 1) text (omega arith)

-- ---- blanks
pub after_blanks-blank : (text : List ℕ) → 1 ≤ length text → is_blank (get_or text 0 0) ≡ true → after_blanks text ≡ after_blanks (take (length text - 1) (drop 1 text))
unfolding after_blanks
after_blanks-blank [] some_left blank = absurd (omega arith)
after_blanks-blank (byte ∷ text) some_left blank = rw (tail-is byte text, blank, after_blanks) refl

pub after_blanks-other : (text : List ℕ) → is_blank (get_or text 0 0) ≡ false → after_blanks text ≡ text
unfolding after_blanks
after_blanks-other [] other = refl
after_blanks-other (byte ∷ text) other = rw (other, after_blanks) refl

pub after_blanks-shorter : (text : List ℕ) → length (after_blanks text) ≤ length text
unfolding after_blanks
after_blanks-shorter [] = omega arith
after_blanks-shorter (byte ∷ text) = go (is_blank byte) (after_blanks-shorter text)
  where
    go : (b : Bool) → length (after_blanks text) ≤ length text → length (if b then after_blanks text else byte ∷ text) ≤ length (byte ∷ text)
    go true shorter = omega arith
    go false shorter = omega arith

-- what follows the first byte, without its blanks
pub tail-shorter : (text : List ℕ) → 1 ≤ length text → length (after_blanks (take (length text - 1) (drop 1 text))) < length text
tail-shorter [] some_left = absurd (omega arith)
tail-shorter (byte ∷ text) some_left =
    let shorter : length (after_blanks text) ≤ length text = after_blanks-shorter text in
    rw (tail-is byte text) (omega arith)

pub after_blanks-end : (text : List ℕ) → length text < 1 → after_blanks text ≡ text
unfolding after_blanks
after_blanks-end [] none_left = refl
after_blanks-end (byte ∷ text) none_left = absurd (omega arith)

-- ---- a name
pub after_name-name : (text : List ℕ) → 1 ≤ length text → is_name (get_or text 0 0) ≡ true → after_name text ≡ after_name (take (length text - 1) (drop 1 text))
unfolding after_name
after_name-name [] some_left name = absurd (omega arith)
after_name-name (byte ∷ text) some_left name = rw (tail-is byte text, name, after_name) refl

pub after_name-other : (text : List ℕ) → is_name (get_or text 0 0) ≡ false → after_name text ≡ text
unfolding after_name
after_name-other [] other = refl
after_name-other (byte ∷ text) other = rw (other, after_name) refl

pub after_name-end : (text : List ℕ) → length text < 1 → after_name text ≡ text
unfolding after_name
after_name-end [] none_left = refl
after_name-end (byte ∷ text) none_left = absurd (omega arith)

-- ---- a gap
pub after_gap-gap : (mode : Mode) (text : List ℕ) → 1 ≤ length text → is_gap mode (get_or text 0 0) ≡ true → after_gap mode text ≡ after_gap (next_mode mode (get_or text 0 0)) (take (length text - 1) (drop 1 text))
unfolding after_gap
after_gap-gap mode [] some_left gap = absurd (omega arith)
after_gap-gap mode (byte ∷ text) some_left gap = rw (tail-is byte text) (rw (gap, after_gap) refl)

pub after_gap-other : (mode : Mode) (text : List ℕ) → is_gap mode (get_or text 0 0) ≡ false → after_gap mode text ≡ text
unfolding after_gap
after_gap-other mode [] other = refl
after_gap-other mode (byte ∷ text) other = rw (other, after_gap) refl

pub after_gap-end : (mode : Mode) (text : List ℕ) → length text < 1 → after_gap mode text ≡ text
unfolding after_gap
after_gap-end mode [] none_left = refl
after_gap-end mode (byte ∷ text) none_left = absurd (omega arith)

-- ---- a string
pub after_string-step : (mode : Mode) (text : List ℕ) → 1 ≤ length text → after_string mode text ≡ string_at (next_mode mode (get_or text 0 0)) (take (length text - 1) (drop 1 text)) (after_string (next_mode mode (get_or text 0 0)) (take (length text - 1) (drop 1 text)))
unfolding after_string
after_string-step mode [] some_left = absurd (omega arith)
after_string-step mode (byte ∷ text) some_left = rw (tail-is byte text) refl

-- the quote that ends it
pub after_string-closed : (mode : Mode) (text : List ℕ) → 1 ≤ length text → next_mode mode (get_or text 0 0) ≡ Plain → after_string mode text ≡ Ok (take (length text - 1) (drop 1 text))
after_string-closed mode text some_left plain =
    after_string-step mode text some_left ∙ ap (λ m. string_at m (take (length text - 1) (drop 1 text)) (after_string (next_mode mode (get_or text 0 0)) (take (length text - 1) (drop 1 text)))) plain

-- its line's end
pub after_string-broken : (mode : Mode) (text : List ℕ) → 1 ≤ length text → next_mode mode (get_or text 0 0) ≡ Start → after_string mode text ≡ Err NoTag
after_string-broken mode text some_left start =
    after_string-step mode text some_left ∙ ap (λ m. string_at m (take (length text - 1) (drop 1 text)) (after_string (next_mode mode (get_or text 0 0)) (take (length text - 1) (drop 1 text)))) start

string_at-other : (mode : Mode) (text : List ℕ) (more : Result (List ℕ) Miss) → (mode ≡ Plain → ⊥) → (mode ≡ Start → ⊥) → string_at mode text more ≡ more
string_at-other Head text more plain start = refl
string_at-other Mark1 text more plain start = refl
string_at-other Mark2 text more plain start = refl
string_at-other Start text more plain start = absurd (start refl)
string_at-other Plain text more plain start = absurd (plain refl)
string_at-other Escaped text more plain start = refl
string_at-other Remark text more plain start = refl
string_at-other Braced text more plain start = refl
string_at-other Quoted text more plain start = refl
string_at-other Backslash text more plain start = refl

-- any other byte
pub after_string-other : (mode : Mode) (text : List ℕ) → 1 ≤ length text → (next_mode mode (get_or text 0 0) ≡ Plain → ⊥) → (next_mode mode (get_or text 0 0) ≡ Start → ⊥)
    → after_string mode text ≡ after_string (next_mode mode (get_or text 0 0)) (take (length text - 1) (drop 1 text))
after_string-other mode text some_left plain start = after_string-step mode text some_left ∙ string_at-other _ _ _ plain start

-- the end of the text
pub after_string-end : (mode : Mode) (text : List ℕ) → length text < 1 → after_string mode text ≡ Err Ends
unfolding after_string
after_string-end mode [] none_left = refl
after_string-end mode (byte ∷ text) none_left = absurd (omega arith)
