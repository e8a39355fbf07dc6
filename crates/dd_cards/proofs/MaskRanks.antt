-- which ranks the mask of some ranks has
use Rattle.std.proofs.Common.{◌≡◌, ℕ, ◌*◌, ◌%◌, ◌^◌, true, refl, sym, ap, ◌∙◌, arith, List, [], ◌∷◌, bit_or, eq-eqb, inl, inr}
use Rattle.std.specs.Prelude.{filter, ◌==◌}
use Rattle.std.specs.Int.{bit_at}
use Rattle.std.proofs.lemmas.Nat.Bits.{bit_at-zero}
use Rattle.std.proofs.lemmas.Bool.Decides.{eqb_tells}
use Rattle.dd_cards.specs.Ranks.{IsRank, all_ranks, has_rank}
use Rattle.dd_cards.specs.Masks.{IsMask, in_mask, ranks_of, mask_of}
use Rattle.dd_cards.specs.MaskLaws.{mask_of-ranks}
use Rattle.dd_cards.proofs.Masks.{AddsRank, AddsRank-or, IsMask-or}
use Rattle.std.proofs.lemmas.Bool.{or_right}
use Rattle.std.proofs.lemmas.List.Elements.{filter_agree}

-- a mask that has these ranks and no others
record MaskFor (ranks : List ℕ) : Type 0 where
  mask : ℕ
  valid : IsMask mask
  has : (r : ℕ) → in_mask mask r ≡ has_rank ranks r

-- there is one for any ranks
mask-for : (ranks : List ℕ) → ((r : ℕ) → has_rank ranks r ≡ true → IsRank r) → MaskFor ranks
mask-for [] real = record { mask = 0; valid = (omega arith, refl); has = λ r. rw (bit_at-zero r) refl }
mask-for (x ∷ ranks) real =
    let rest : MaskFor ranks = mask-for ranks (λ r h. real r (or_right (x == r) (has_rank ranks r) h)) in
    let own : IsRank x = real x (rw (eq-eqb x x refl) refl) in
    let new : ℕ = bit_or rest.mask (1 * 2 ^ x % 65536) in
    let adds : AddsRank rest.mask new x = AddsRank-or rest.mask x own.1 in
    record {
      mask = new;
      valid = IsMask-or rest.mask x own.0 own.1 rest.valid;
      has = λ r. elim (eqb_tells x r) [
        | inl same ↦ rw same.0 (eq-eqb (bit_at new r) 1 (ap (bit_at new) (sym same.1) ∙ adds.has))
        | inr other ↦ rw other.0 (ap (λ b. b == 1) (adds.others r (λ e. other.1 (sym e))) ∙ rest.has r)
      ];
    }

-- the mask of a set of ranks has these ranks
pub in_mask-mask_of : (ranks : List ℕ) → filter (has_rank ranks) all_ranks ≡ ranks → ((r : ℕ) → has_rank ranks r ≡ true → IsRank r) → (r : ℕ) → in_mask (mask_of ranks) r ≡ has_rank ranks r
unfolding ranks_of
in_mask-mask_of ranks set real r =
    let made : MaskFor ranks = mask-for ranks real in
    let same : ranks_of made.mask ≡ ranks = filter_agree (in_mask made.mask) (has_rank ranks) made.has all_ranks ∙ set in
    let mask : mask_of ranks ≡ made.mask = ap mask_of (sym same) ∙ mask_of-ranks made.mask made.valid in
    ap (λ m. in_mask m r) mask ∙ made.has r
