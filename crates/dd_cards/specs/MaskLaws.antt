-- The ranks of a mask, as a list, give the mask back.
use Rattle.std.proofs.Common.{◌≡◌, ℕ, zero, suc, ◌+◌, ◌*◌, ◌%◌, ◌^◌, ◌<◌, Bool, true, false, cond, refl, sym, ap, ◌∙◌, arith, List, ◌∷◌, nat_eq, add_comm, zero-add}
use Rattle.std.specs.Prelude.{filter}
use Rattle.std.specs.Int.{bit_at}
use Rattle.std.proofs.lemmas.Nat.{mod-pow-add}
use Rattle.std.proofs.lemmas.Nat.Bits.{bit_at-lt}
use Rattle.std.proofs.lemmas.Bool.Decides.{nat_tests}
use Rattle.std.proofs.Math.Nat.{mod-eq_of_lt}
use Rattle.dd_cards.specs.Ranks.{lowest_ranks, all_ranks}
use Rattle.dd_cards.specs.Masks.{IsMask, in_mask, ranks_of, mask_of}
use Rattle.dd_cards.specs.declared.holding.Holding.TheInside.{Inside}

-- one more digit of m
pub digit : (m k : ℕ) → m % 2 ^ (k + 1) ≡ bit_at m k * 2 ^ k + m % 2 ^ k
digit m k = rw (add_comm k 1) (mod-pow-add m 1 k)

-- a rank that is kept adds its power of two
mask_of-cond : (b : Bool) (r : ℕ) (ranks : List ℕ) → mask_of (cond b (r ∷ ranks) ranks) ≡ cond b (2 ^ r) 0 + mask_of ranks
mask_of-cond true r ranks = refl
mask_of-cond false r ranks = sym (zero-add (mask_of ranks))

-- a bit of value p adds p where it is set
digit_value : (d p : ℕ) → d < 2 → cond (nat_eq d 1) p 0 ≡ d * p
digit_value d p h = grind (arith, nat_tests)

-- the mask of the ranks below k + 2 is the mask's lower part
mask_of-below : (m k : ℕ) → m % 4 ≡ 0 → mask_of (filter (in_mask m) (lowest_ranks k)) ≡ m % 2 ^ (k + 2)
unfolding lowest_ranks
mask_of-below m zero h = sym h
mask_of-below m (suc k) h =
    let ih : mask_of (filter (in_mask m) (lowest_ranks k)) ≡ m % 2 ^ (k + 2) = mask_of-below m k h in
    let d : m % 2 ^ (k + 2 + 1) ≡ bit_at m (k + 2) * 2 ^ (k + 2) + m % 2 ^ (k + 2) = digit m (k + 2) in
    let same : suc k + 2 ≡ k + 2 + 1 = omega arith in
    let kept : List ℕ = filter (in_mask m) (lowest_ranks k) in
    mask_of-cond (in_mask m (k + 2)) (k + 2) kept
    ∙ ap (λ x. x + mask_of kept) (digit_value (bit_at m (k + 2)) (2 ^ (k + 2)) (bit_at-lt m (k + 2)))
    ∙ ap (λ x. bit_at m (k + 2) * 2 ^ (k + 2) + x) ih
    ∙ sym d ∙ ap (λ x. m % 2 ^ x) (sym same)

-- a mask is the mask of its ranks
pub mask_of-ranks : (m : ℕ) → IsMask m → mask_of (ranks_of m) ≡ m
unfolding ranks_of all_ranks
mask_of-ranks m valid = mask_of-below m 13 valid.1 ∙ mod-eq_of_lt valid.0

-- a holding is told by its ranks
pub mask_of-ranks_of : (h : Inside) → IsMask h.mask → record { mask = mask_of (ranks_of h.mask) } ≡ h
mask_of-ranks_of h valid =
    let P : ℕ → Inside = λ m. record { mask = m } in
    ap P (mask_of-ranks h.mask valid)
