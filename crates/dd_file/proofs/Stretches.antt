-- Bytes that are looked at sixteen at once: from a mask of those that end a stretch to what is left behind it.
use Rattle.std.proofs.Common.{◌≡◌, ◌∙◌, ℕ, suc, ◌+◌, ◌*◌, ◌%◌, ◌^◌, ◌<◌, ◌≤◌, Bool, true, false, not, cond, eqb, List, [], ◌∷◌, ◌++◌, map, length, take, drop, replicate, Fits, w8, refl, sym, ap, ap₂, arith, take-append-drop}
use Rattle.std.proofs.lemmas.Bool.{agree_below, agree_below_at}
use Rattle.std.proofs.lemmas.List.{length-map, length-take-le}
use Rattle.std.proofs.lemmas.List.Sums.{prefix_len-le-length}
use Rattle.std.proofs.lemmas.Simd.{mask_l-mod, splat_is_map, trailing_mask_l, zip2_of_maps, zip2_splat}
use Rattle.std.specs.List.{prefix_len}
use lib.Bits.{bit_or}
use lib.Lanes.{Each1, mask_l, top, zip2}
use Rattle.dd_file.specs.Quiet.{first_set}

-- ---- a mask that is computed lane by lane is held to a test at each of the 256 bytes
abbrev pub hit : ℕ → ℕ → ℕ
hit a b = cond (eqb a b) 255 0

pub either : (f g : ℕ → ℕ) (v : List ℕ) {a b : List ℕ} → a ≡ map f v → b ≡ map g v → zip2 bit_or a b ≡ map (λ x. bit_or (f x) (g x)) v
either f g v p q = zip2_of_maps bit_or f g v p q

-- the vector that has this byte in each lane
pub splat_is : (v : List ℕ) (y : ℕ) → length v ≡ 16 → replicate 16 y ≡ map (λ _. y) v
splat_is v y long = splat_is_map v 16 y long

-- a comparison of the bytes with one bit set
pub folded : (v : List ℕ) (y : ℕ) → length v ≡ 16 → zip2 hit (zip2 bit_or v (replicate 16 32)) (replicate 16 y) ≡ map (λ x. hit (bit_or x 32) y) v
folded v y long = zip2_of_maps hit (λ x. bit_or x 32) (λ _. y) v (zip2_splat bit_or v 16 32 long) (splat_is v y long)

each-byte : (f : ℕ → ℕ) (p : ℕ → Bool) → agree_below (λ x. top 7 (f x)) p 256 ≡ true → (v : List ℕ) → Each1 (Fits w8) v → map (top 7) (map f v) ≡ map p v
each-byte f p all [] fits = refl
each-byte f p all (x ∷ xs) fits = ap₂ (λ a b. a ∷ b) (agree_below_at (λ y. top 7 (f y)) p 256 x all fits.0.fits) (each-byte f p all xs fits.1)

pub masked : (f : ℕ → ℕ) (p : ℕ → Bool) (v z : List ℕ) → length v ≡ 16 → Each1 (Fits w8) v → z ≡ map f v → agree_below (λ x. top 7 (f x)) p 256 ≡ true
    → mask_l (map (top 7) z) % 2 ^ 64 ≡ mask_l (map p v)
masked f p v z long fits lanes all =
    ap (λ l. mask_l l % 2 ^ 64) (ap (map (top 7)) lanes ∙ each-byte f p all v fits) ∙ mask_l-mod (map p v) 64 (omega (arith, length-map v p, long))

-- ---- from a mask to what is left of a text
module _ (q : ℕ → Bool) (after : List ℕ → List ℕ) (step : (b : ℕ) (t : List ℕ) → q b ≡ true → after (b ∷ t) ≡ after t)
    (stop : (b : ℕ) (t : List ℕ) → q b ≡ false → after (b ∷ t) ≡ b ∷ t) where
  abbrev stops : List ℕ → ℕ
  stops v = mask_l (map (λ x. not (q x)) v)

  abbrev before : List ℕ → ℕ
  before v = prefix_len (λ x. not (not (q x))) v

  none-set : (v t : List ℕ) → stops v ≡ 0 → after (v ++ t) ≡ after t
  none-set [] t none = refl
  none-set (b ∷ v) t none = go (q b) refl none (none-set v t)
    where
      go : (g : Bool) → q b ≡ g → cond (not g) 1 0 + 2 * stops v ≡ 0 → (stops v ≡ 0 → after (v ++ t) ≡ after t) → after (b ∷ (v ++ t)) ≡ after t
      go true e none more = step b (v ++ t) e ∙ more (omega arith)
      go false e none more = absurd (omega arith)

  one-set : (v t : List ℕ) → 0 < stops v → after (v ++ t) ≡ drop (before v) (v ++ t)
  one-set [] t some = absurd (omega arith)
  one-set (b ∷ v) t some = go (q b) refl some (one-set v t)
    where
      go : (g : Bool) → q b ≡ g → 0 < cond (not g) 1 0 + 2 * stops v → (0 < stops v → after (v ++ t) ≡ drop (before v) (v ++ t))
          → after (b ∷ (v ++ t)) ≡ drop (cond (not (not g)) (1 + before v) 0) (b ∷ (v ++ t))
      go true e some more = (let up : suc (before v) ≡ 1 + before v = omega arith in step b (v ++ t) e ∙ more (omega arith) ∙ ap (λ (n : ℕ). drop n (b ∷ (v ++ t))) up)
      go false e some more = stop b (v ++ t) e

  run-through : (text : List ℕ) → stops (take 16 text) ≡ 0 → after text ≡ after (drop 16 text)
  run-through text none = ap after (sym (take-append-drop 16 text)) ∙ none-set (take 16 text) (drop 16 text) none

  run-stops : (text : List ℕ) → length (take 16 text) ≤ 64 → 0 < stops (take 16 text) → after text ≡ drop (first_set (stops (take 16 text))) text
  run-stops text few some =
      ap after (sym (take-append-drop 16 text)) ∙ one-set (take 16 text) (drop 16 text) some
      ∙ ap (λ (l : List ℕ). drop (before (take 16 text)) l) (take-append-drop 16 text)
      ∙ ap (λ (n : ℕ). drop n text) (sym (trailing_mask_l (λ x. not (q x)) 64 (take 16 text) few some))

  -- where no byte of the first sixteen ends the stretch
  pub none-left : (text rest : List ℕ) (mask : ℕ) → mask ≡ stops (take 16 text) → mask ≡ 0 → rest ≡ drop 16 text → after rest ≡ after text
  none-left text rest mask set none is = ap after is ∙ sym (run-through text (sym set ∙ none))

  -- where one does
  pub stop-within : (text : List ℕ) (mask : ℕ) → 16 ≤ length text → mask ≡ stops (take 16 text) → (mask ≡ 0 → ⊥) → first_set mask ≤ length text
  stop-within text mask long set some =
      let size : length (take 16 text) ≡ 16 = length-take-le 16 text long in
      let found : 0 < stops (take 16 text) = omega (arith, set, some) in
      let at : first_set mask ≡ before (take 16 text) = ap first_set set ∙ trailing_mask_l (λ x. not (q x)) 64 (take 16 text) (omega (arith, size)) found in
      omega (arith, at, size, prefix_len-le-length (λ x. not (not (q x))) (take 16 text))

  pub stop-left : (text rest : List ℕ) (mask : ℕ) → 16 ≤ length text → mask ≡ stops (take 16 text) → (mask ≡ 0 → ⊥) → rest ≡ drop (first_set mask) text → rest ≡ after text
  stop-left text rest mask long set some is =
      let size : length (take 16 text) ≡ 16 = length-take-le 16 text long in
      let found : 0 < stops (take 16 text) = omega (arith, set, some) in
      is ∙ ap (λ (n : ℕ). drop (first_set n) text) set ∙ sym (run-stops text (omega (arith, size)) found)
