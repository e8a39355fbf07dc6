-- sets of cards put together, and the lowest rank of a holding
use Rattle.std.proofs.Common.{◌≡◌, ◌≢◌, ℕ, zero, ◌+◌, ◌-◌, ◌*◌, ◌/◌, ◌%◌, ◌^◌, ◌<◌, ◌≤◌, true, refl, sym, ap, ◌∙◌, arith, List, inl, inr, ◌⊎◌, bit_or, max, eq-eqb, w16}
use Rattle.std.specs.Prelude.{filter, ◌||◌}
use Rattle.std.specs.Int.{bit_at, trailing_zeros}
use Rattle.std.proofs.lemmas.Nat.{shr-shr, pow_pos, div_below}
use Rattle.std.proofs.lemmas.Map.Views.{any-filter_same}
use Rattle.std.proofs.lemmas.Nat.Bits.{bit_at-lt, bit_at-zero, bit_at_or, bit_at-trailing_zeros}
use Rattle.std.proofs.lemmas.Bool.{eqb-true, cases_lt, or_right}
use Rattle.dd_cards.specs.PlayingCard.{PlayingCard}
use Rattle.dd_cards.specs.Ranks.{IsRank, is_rank, has_rank}
use Rattle.dd_cards.specs.Cards.{deck, has_card, place_of, same_card}
use Rattle.dd_cards.specs.HandMasks.{in_hand, cards_of, IsHandMask}
use Rattle.dd_cards.specs.Masks.{IsMask, in_mask, ranks_of}
use Rattle.dd_cards.proofs.CardLists.{real_deck, IsRank-from, same_card-eq, has_card-deck}
use Rattle.dd_cards.proofs.SetLaws.{has_card-filter}
use Rattle.dd_cards.proofs.HandLists.{filter-deck, has_card-cards_of, place_of-lt, place_of-mod, bit_of-or, passes}
use Rattle.dd_cards.proofs.Masks.{le_14}
use Rattle.dd_cards.proofs.RankLists.{has_rank-ranks_of}
use Rattle.dd_cards.proofs.General.{and-right}
use Rattle.dd_cards.proofs.Sequences.{or-set}

-- the bits of either mask are the cards of either
pub cards_of-or : (m n : ℕ) → cards_of (bit_or m n) ≡ filter (λ c. has_card (cards_of m) c || has_card (cards_of n) c) deck
unfolding cards_of
cards_of-or m n =
    filter-deck (in_hand (bit_or m n)) (λ c. has_card (cards_of m) c || has_card (cards_of n) c) (λ c real.
    rw (has_card-cards_of m c real, has_card-cards_of n c real, bit_at_or m n (place_of c)) (or-set (bit_at m (place_of c)) (bit_at n (place_of c)) (bit_at-lt m (place_of c)) (bit_at-lt n (place_of c))))

pub IsHandMask-or : (m n : ℕ) → IsHandMask m → IsHandMask n → IsHandMask (bit_or m n)
IsHandMask-or m n valid valid' i h = elim (one (bit_at m i) (bit_at n i) (sym (bit_at_or m n i) ∙ h)) [ inl a ↦ valid i a | inr b ↦ valid' i b ]
  where
    one : (a b : ℕ) → max a b ≡ 1 → (a ≡ 1) ⊎ (b ≡ 1)
    one a b h = elim (cases_lt b a) [ inl l ↦ inl (omega (arith, h, l)) | inr l ↦ inr (omega (arith, h, l)) ]

pub IsHandMask-insert : (m : ℕ) (c : PlayingCard) → IsRank c.rank → IsHandMask m → IsHandMask (bit_or m (1 * 2 ^ place_of c % 2 ^ 64))
IsHandMask-insert m c real valid i h = elim (bit_of-or m c i real h) [ inl old ↦ valid i old | inr new ↦ rw new (place_of-lt c real, rw (place_of-mod c real) real.0, rw (place_of-mod c real) real.1) ]

-- the cards of a mask are cards of the pack
pub cards-real : (m : ℕ) (c : PlayingCard) → has_card (cards_of m) c ≡ true → IsRank c.rank
unfolding cards_of
cards-real m c h = IsRank-from c.rank (passes (λ (d : PlayingCard). is_rank d.rank) c deck real_deck
    (and-right (in_hand m c) (has_card deck c) (sym (any-filter_same (λ d. same_card d c) (in_hand m) (in_hand m c) (λ d e. ap (in_hand m) (same_card-eq d c e)) deck) ∙ h)))

-- the lowest rank from k on
pub has-from : (m k : ℕ) → IsMask m → 0 < m / 2 ^ k → (in_mask m (k + trailing_zeros w16 (m / 2 ^ k)) ≡ true) × ((q : ℕ) → in_mask m q ≡ true → k ≤ q → k + trailing_zeros w16 (m / 2 ^ k) ≤ q)
has-from m k valid some =
    let t : ℕ = trailing_zeros w16 (m / 2 ^ k) in
    let small : m / 2 ^ k < 2 ^ 16 = div_below m (2 ^ k) (2 ^ 16) (pow_pos k) (let p : 0 < 2 ^ k = pow_pos k in let v = valid.0 in omega (arith, p, v)) in
    let found = bit_at-trailing_zeros w16 (m / 2 ^ k) some small in (
      eq-eqb _ _ (sym (shifted t) ∙ found.1),
      λ q h low. (
          let other : bit_at (m / 2 ^ k) (q - k) ≡ 1 = shifted (q - k) ∙ ap (bit_at m) (let e : k + (q - k) ≡ q = omega (arith, low) in e) ∙ eqb-true _ _ h in
          elim (cases_lt (q - k) t) [ inl less ↦ absurd (let none = found.2 (q - k) less in omega (arith, none, other)) | inr more ↦ omega (arith, more, low) ]),
    )
  where
    shifted : (i : ℕ) → bit_at (m / 2 ^ k) i ≡ bit_at m (k + i)
    shifted i = ap (λ x. x % 2) (shr-shr m k i)

-- none where no bit is left
pub none-from : (m k : ℕ) → m / 2 ^ k ≡ 0 → (q : ℕ) → in_mask m q ≡ true → q < k
none-from m k none q h = elim (cases_lt q k) [
  | inl less ↦ less
  | inr more ↦ absurd (
      let e : bit_at (m / 2 ^ k) (q - k) ≡ 1 = ap (λ x. x % 2) (shr-shr m k (q - k)) ∙ ap (bit_at m) (let e : k + (q - k) ≡ q = omega (arith, more) in e) ∙ eqb-true _ _ h in
      let z : bit_at (m / 2 ^ k) (q - k) ≡ 0 = ap (λ x. bit_at x (q - k)) none ∙ bit_at-zero (q - k) in
      omega (arith, e, z))
]

-- the same, of a holding's list
pub found-from : (m k n : ℕ) (ranks : List ℕ) → IsMask m → ranks_of m ≡ ranks → m / 2 ^ k ≢ 0 → n ≡ k + trailing_zeros w16 (m / 2 ^ k)
    → (has_rank ranks n ≡ true) × (k ≤ n) × ((q : ℕ) → has_rank ranks q ≡ true → k ≤ q → n ≤ q)
found-from m k n ranks valid view some is =
    let h = has-from m k valid (omega (arith, some)) in
    let has = λ (q : ℕ). ap (λ xs. has_rank xs q) (sym view) ∙ has_rank-ranks_of m q valid in
    (has n ∙ ap (in_mask m) is ∙ h.0, omega (arith, is), λ q there low. let l = h.1 q (sym (has q) ∙ there) low in omega (arith, l, is))

pub none-found : (m k : ℕ) (ranks : List ℕ) → IsMask m → ranks_of m ≡ ranks → m / 2 ^ k ≡ 0 → (q : ℕ) → has_rank ranks q ≡ true → q < k
none-found m k ranks valid view none q h = none-from m k none q (sym (ap (λ xs. has_rank xs q) (sym view) ∙ has_rank-ranks_of m q valid) ∙ h)

pub rank-from : (m k : ℕ) → IsMask m → 2 ≤ k → m / 2 ^ k ≢ 0 → (2 ≤ k + trailing_zeros w16 (m / 2 ^ k)) × (k + trailing_zeros w16 (m / 2 ^ k) ≤ 14)
rank-from m k valid low some =
    let h = has-from m k valid (omega (arith, some)) in
    (omega (arith, low), le_14 m (k + trailing_zeros w16 (m / 2 ^ k)) valid (eqb-true _ _ h.0))

-- what either has, both together have
pub union-left : (m n : ℕ) (c : PlayingCard) → has_card (cards_of m) c ≡ true → has_card (cards_of (bit_or m n)) c ≡ true
union-left m n c h = ap (λ l. has_card l c) (cards_of-or m n) ∙ has_card-filter (λ c. has_card (cards_of m) c || has_card (cards_of n) c) deck c ∙ rw (h, has_card-deck c (cards-real m c h)) refl

pub union-right : (m n : ℕ) (c : PlayingCard) → has_card (cards_of n) c ≡ true → has_card (cards_of (bit_or m n)) c ≡ true
union-right m n c h = ap (λ l. has_card l c) (cards_of-or m n) ∙ has_card-filter (λ c. has_card (cards_of m) c || has_card (cards_of n) c) deck c ∙ rw (or_right (has_card (cards_of m) c) (has_card (cards_of n) c) h, has_card-deck c (cards-real n c h)) refl
