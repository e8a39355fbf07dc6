-- pages as lists of bounds, of which the first ones of eight places are counted
use Rattle.std.proofs.Common.{◌≡◌, ℕ, ◌+◌, ◌<◌, ◌≤◌, List, length, take, set, get_or, length-set, length-take, get_or-take, get_or-set_same, get_or-set_other, sym, ap, ◌∙◌, subst, inl, inr, arith}
use Rattle.std.specs.List.{Contains}
use Rattle.std.proofs.lemmas.Bool.Decides.{eqb_tells}
use Rattle.std.proofs.lemmas.List.{get_or_default}
use Rattle.dd_cache.specs.StoredBounds.{StoredBoundsOf, MakesNeedless, StandsNeedless, Keeps}

-- so many are counted
counted : {X : Type 0} (xs : List X) (count : ℕ) → count ≤ length xs → length (take count xs) ≡ count
counted xs count within = (let l = length-take count xs in omega (arith, l, within))

-- what stands at a place that is counted is one of those
at-place : {X : Type 0} (xs : List X) (count k : ℕ) (t : X) → count ≤ length xs → k < count → get_or xs k t ≡ t → Contains (take count xs) t
at-place xs count k t within below here = (k, (let l = counted xs count within in omega (arith, l, below)), get_or-take count xs k t below ∙ here)

-- and each of those stands at one
place-of : {X : Type 0} (xs : List X) (count : ℕ) (t : X) → count ≤ length xs → (has : Contains (take count xs) t) → (has.0 < count) × (get_or xs has.0 t ≡ t)
place-of xs count t within has =
    let below : has.0 < count = (let l = counted xs count within in let h = has.1 in omega (arith, l, h)) in (below, sym (get_or-take count xs has.0 t below) ∙ has.2)

-- bounds that take the place of needless ones
pub keeps-set : (told : List StoredBoundsOf) (count place : ℕ) (new : StoredBoundsOf) → count ≤ length told → StandsNeedless new (take count told) place
    → Keeps (take count told) (take count (set told place new)) new
keeps-set told count place new within stands = record {
  told = at-place (set told place new) count place new within-set below (get_or-set_same told place new new less);
  others = λ t has.
      let at = place-of told count t within has in elim (eqb_tells has.0 place) [
        | inl same ↦ inr (subst (MakesNeedless new) (
            get_or_default (take count told) place new t stands.within ∙ ap (λ j. get_or (take count told) j t) (sym same.1) ∙ has.2
            ) stands.needless)
        | inr apart ↦ inl (at-place (set told place new) count has.0 t within-set at.0 (get_or-set_other told place has.0 new t apart.1 ∙ at.1))
      ];
  only = λ t has.
      let at = place-of (set told place new) count t within-set has in elim (eqb_tells has.0 place) [
        | inl same ↦ inr (sym (get_or-set_same told place new t less) ∙ ap (λ j. get_or (set told place new) j t) (sym same.1) ∙ at.1)
        | inr apart ↦ inl (at-place told count has.0 t within at.0 (sym (get_or-set_other told place has.0 new t apart.1) ∙ at.1))
      ];
}
  where
    below : place < count
    below = (let l = counted told count within in let s = stands.within in omega (arith, l, s))

    less : place < length told
    less = (let b = below in omega (arith, b, within))

    within-set : count ≤ length (set told place new)
    within-set = (let l = length-set told place new in omega (arith, l, within))

-- bounds that join the others
pub keeps-push : (told : List StoredBoundsOf) (count : ℕ) (new : StoredBoundsOf) → count < length told → Keeps (take count told) (take (count + 1) (set told count new)) new
keeps-push told count new less = record {
  told = at-place (set told count new) (count + 1) count new within-set (omega arith) (get_or-set_same told count new new less);
  others = λ t has.
      let at = place-of told count t within has in elim (eqb_tells has.0 count) [
        | inl same ↦ absurd (let b = at.0 in let s = same.1 in omega (arith, b, s))
        | inr apart ↦ inl (at-place (set told count new) (count + 1) has.0 t within-set (let b = at.0 in omega (arith, b)) (get_or-set_other told count has.0 new t apart.1 ∙ at.1))
      ];
  only = λ t has.
      let at = place-of (set told count new) (count + 1) t within-set has in elim (eqb_tells has.0 count) [
        | inl same ↦ inr (sym (get_or-set_same told count new t less) ∙ ap (λ j. get_or (set told count new) j t) (sym same.1) ∙ at.1)
        | inr apart ↦ inl (at-place told count has.0 t within (let b = at.0 in let a = apart.1 in omega (arith, b, a)) (sym (get_or-set_other told count has.0 new t apart.1) ∙ at.1))
      ];
}
  where
    within : count ≤ length told
    within = omega (arith, less)

    within-set : count + 1 ≤ length (set told count new)
    within-set = (let l = length-set told count new in omega (arith, l, less))
