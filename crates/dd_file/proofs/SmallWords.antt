-- Names that are compared with words of small letters.
use Rattle.std.proofs.Common.{◌≡◌, ◌∙◌, ℕ, suc, ◌==◌, ◌+◌, ◌<◌, Bool, true, false, List, [], ◌∷◌, length, get_or, drop, bit_or, refl, sym, ap, ap₂, zero, arith, true≢false, eqb-true}
use Rattle.std.specs.Prelude.{◌&&◌, ◌||◌, nat_lt, if◌then◌else◌}
use Rattle.std.specs.Char.{to_ascii_lowercase}
use Rattle.std.proofs.lemmas.Bool.{agree_below, agree_below_at, and_parts, eq-eqb, ne_eqb}
use Rattle.std.proofs.lemmas.List.{drop_more}
use mathlib.Core.Bool.{not}
use Rattle.dd_file.specs.Quiet.{are_small, is_small}
use Rattle.dd_file.specs.Values.{is_word}

-- ---- a letter
abbrev small_or : ℕ → ℕ
small_or byte = (if is_small byte then byte else 0)

-- a byte is a small letter that no byte of another kind stands for
letter-of : (byte letter : ℕ) → is_small letter ≡ true → (byte == letter) ≡ (small_or byte == letter)
letter-of byte letter small = go (is_small byte) refl (byte == letter) refl (0 == letter) refl
  where
    go : (s : Bool) → is_small byte ≡ s → (e : Bool) → (byte == letter) ≡ e → (z : Bool) → (0 == letter) ≡ z → (byte == letter) ≡ ((if s then byte else 0) == letter)
    go true is e same z zero_is = refl
    go false is true same z zero_is = absurd (true≢false (sym small ∙ ap is_small (sym (eqb-true byte letter same)) ∙ is))
    go false is false same true zero_is = absurd (true≢false (sym small ∙ ap is_small (sym (eqb-true 0 letter zero_is))))
    go false is false same false zero_is = same ∙ sym zero_is

folds : agree_below (λ a. small_or (bit_or a 32) == small_or (to_ascii_lowercase a)) (λ _. true) 256 ≡ true
folds = refl

stays : agree_below (λ b. not (is_small b) || (to_ascii_lowercase b == b)) (λ _. true) 256 ≡ true
stays = refl

small-below : (b : ℕ) → is_small b ≡ true → b < 256
small-below b small = (let parts = and_parts (not (nat_lt b 97)) (nat_lt b 123) small in grind (arith))

lower-same : (b : ℕ) → is_small b ≡ true → to_ascii_lowercase b ≡ b
lower-same b small =
    eqb-true (to_ascii_lowercase b) b
    (sym (ap (λ (t : Bool). not t || (to_ascii_lowercase b == b)) small) ∙ agree_below_at (λ x. not (is_small x) || (to_ascii_lowercase x == x)) (λ _. true) 256 b stays (small-below b small))

letter-same : (a b : ℕ) → a < 256 → is_small b ≡ true → (bit_or a 32 == b) ≡ (to_ascii_lowercase a == to_ascii_lowercase b)
letter-same a b below small =
    let folded : small_or (bit_or a 32) ≡ small_or (to_ascii_lowercase a) =
    eqb-true (small_or (bit_or a 32)) (small_or (to_ascii_lowercase a)) (agree_below_at (λ x. small_or (bit_or x 32) == small_or (to_ascii_lowercase x)) (λ _. true) 256 a folds below) in
    letter-of (bit_or a 32) b small ∙ ap (λ (n : ℕ). n == b) folded ∙ sym (letter-of (to_ascii_lowercase a) b small) ∙ ap (λ (n : ℕ). to_ascii_lowercase a == n) (sym (lower-same b small))

-- ---- a word
small-at : (word : List ℕ) (at : ℕ) → at < length word → are_small word ≡ true → is_small (get_or word at 0) ≡ true
small-at [] at inside small = absurd (omega arith)
small-at (b ∷ word) zero inside small = (and_parts (is_small b) (are_small word) small).0
small-at (b ∷ word) (suc at) inside small = small-at word at (omega arith) (and_parts (is_small b) (are_small word) small).1

module _ (name word : List ℕ) (at : ℕ) (in_name : at < length name) (in_word : at < length word) (small : are_small word ≡ true) (below : get_or name at 0 < 256) where
  abbrev here : Bool
  here = to_ascii_lowercase (get_or name at 0) == to_ascii_lowercase (get_or word at 0)

  steps : is_word (drop at name) (drop at word) ≡ (here && is_word (drop (at + 1) name) (drop (at + 1) word))
  steps = ap₂ is_word (drop_more name at 0 in_name) (drop_more word at 0 in_word)

  told : (bit_or (get_or name at 0) 32 == get_or word at 0) ≡ here
  told = letter-same (get_or name at 0) (get_or word at 0) below (small-at word at in_word small)

  -- letters that are the same leave the question as it is
  pub same-letter : bit_or (get_or name at 0) 32 ≡ get_or word at 0 → is_word (drop (at + 1) name) (drop (at + 1) word) ≡ is_word (drop at name) (drop at word)
  same-letter same = sym (steps ∙ ap (λ (t : Bool). t && is_word (drop (at + 1) name) (drop (at + 1) word)) (sym told ∙ eq-eqb _ _ same))

  -- and others answer it
  pub other-letter : (bit_or (get_or name at 0) 32 ≡ get_or word at 0 → ⊥) → false ≡ is_word (drop at name) (drop at word)
  other-letter other = sym (steps ∙ ap (λ (t : Bool). t && is_word (drop (at + 1) name) (drop (at + 1) word)) (sym told ∙ ne_eqb _ _ other))
