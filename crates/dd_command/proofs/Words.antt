-- How a word is written.
use Rattle.std.proofs.Common.{◌≡◌, ◌∙◌, ℕ, Bool, cond, true, false, not, suc, ◌+◌, ◌==◌, ◌||◌, refl, ap, [], ◌∷◌, ◌++◌, take, drop, Option, Some, None}
use Rattle.std.specs.Prelude.{option_and_then}
use Rattle.std.specs.List.{position_or_len}
use Rattle.std.proofs.lemmas.Bool.{eqb-true}
use Rattle.std.proofs.Math.Numerals.{add-one, one-add}
use Rattle.clap.specs.Walk.{Text}
use Rattle.clap.specs.Lexer.{has_byte, long_of, long_of_rest, name_and_value, strip_byte}

-- a name, and after an equals sign a value where there is one
abbrev pub with_value : Text → Option Text → Text
with_value name None = name
with_value name (Some value) = name ++ 61 ∷ value

-- the byte is an equals sign
abbrev is_equals : ℕ → Bool
is_equals byte = byte == 61

-- a text is its name and value, with_value
joined-cut : (text : Text) → text ≡ with_value (name_and_value text).0 (name_and_value text).1
joined-cut [] = refl
joined-cut (x ∷ xs) = go (x == 61) refl (joined-cut xs)
  where
    go : (b : Bool) → (x == 61) ≡ b → xs ≡ with_value (name_and_value xs).0 (name_and_value xs).1
        → x ∷ xs ≡ with_value (take (cond (not b) (1 + position_or_len is_equals xs) 0) (x ∷ xs)) (cond (b || has_byte 61 xs) (Some (drop (cond (not b) (1 + position_or_len is_equals xs) 0 + 1) (x ∷ xs))) None)
    go true e ih = ap (λ n. n ∷ xs) (eqb-true x 61 e)
    go false e ih = rw (one-add (position_or_len is_equals xs), add-one (suc (position_or_len is_equals xs))) (tail (has_byte 61 xs) (rw add-one at ih))
      where
        tail : (h : Bool) → xs ≡ with_value (take (position_or_len is_equals xs) xs) (cond h (Some (drop (suc (position_or_len is_equals xs)) xs)) None)
            → x ∷ xs ≡ with_value (x ∷ take (position_or_len is_equals xs) xs) (cond h (Some (drop (suc (position_or_len is_equals xs)) xs)) None)
        tail true rest = ap (λ t. x ∷ t) rest
        tail false rest = ap (λ t. x ∷ t) rest

-- what follows a first byte
strip_byte-is : (c : ℕ) (text rest : Text) → strip_byte c text ≡ Some rest → text ≡ c ∷ rest
strip_byte-is c [] rest e = cc
strip_byte-is c (x ∷ xs) rest e = go (x == c) refl e
  where
    go : (b : Bool) → (x == c) ≡ b → cond b (Some xs) None ≡ Some rest → x ∷ xs ≡ c ∷ rest
    go true at is =
        let head = eqb-true x c at in
        cc
    go false at is = cc

-- a word with two hyphens is they and what follows them
pub long_of-is : (word name : Text) (value : Option Text) → long_of word ≡ Some (name, value) → word ≡ 45 ∷ 45 ∷ with_value name value
long_of-is word name value e = first (strip_byte 45 word) refl e
  where
    second : (xs : Text) (o : Option Text) → strip_byte 45 xs ≡ o → option_and_then long_of_rest o ≡ Some (name, value) → xs ≡ 45 ∷ with_value name value
    second xs None at is = cc
    second xs (Some []) at is = cc
    second xs (Some (y ∷ ys)) at is =
        let parts : name_and_value (y ∷ ys) ≡ (name, value) = cc in
        strip_byte-is 45 xs (y ∷ ys) at ∙ ap (λ t. 45 ∷ t) (joined-cut (y ∷ ys) ∙ ap (λ (p : Text × Option Text). with_value p.0 p.1) parts)

    first : (o : Option Text) → strip_byte 45 word ≡ o → option_and_then long_of_rest (option_and_then (strip_byte 45) o) ≡ Some (name, value) → word ≡ 45 ∷ 45 ∷ with_value name value
    first None at is = cc
    first (Some xs) at is = strip_byte-is 45 word xs at ∙ ap (λ t. 45 ∷ t) (second xs (strip_byte 45 xs) refl is)
