-- the highest ranks of each suit, as cards
use Rattle.std.proofs.Common.{◌≡◌, ℕ, ◌+◌, ◌%◌, ◌^◌, ◌<◌, ◌≤◌, ◌⊎◌, sym, ap, ◌∙◌, arith, inl, inr}
use Rattle.std.specs.Prelude.{◌==◌, nat_lt}
use Rattle.std.specs.Int.{bit_at}
use Rattle.std.proofs.lemmas.Bool.{cases_lt, lt-ltb, le-ltb}
use Rattle.std.proofs.lemmas.Nat.{shr-shr}
use Rattle.std.proofs.lemmas.Nat.Bits.{bit_at_above}
use Rattle.dd_cards.specs.declared.suit.Suit.{Suit}
use Rattle.dd_cards.specs.declared.suit.Suit.TheVariants.{Spades, Hearts, Diamonds, Clubs}
use Rattle.dd_cards.specs.PlayingCard.{PlayingCard}
use Rattle.dd_cards.specs.Suits.{suit_shift}
use Rattle.dd_cards.specs.Ranks.{IsRank}
use Rattle.dd_cards.specs.Cards.{has_card}
use Rattle.dd_cards.specs.HandMasks.{IsHandMask, cards_of}
use Rattle.dd_cards.proofs.CallerLemmas.{card-bit}
use Rattle.dd_rank.specs.Depths.{FourDepths, depth_in}
use Rattle.dd_rank.specs.FirstOwners.{top_places}
use Rattle.dd_rank.specs.Lanes.{lane}
use Rattle.dd_rank.proofs.FourLanes.{lane-bit}
use Rattle.dd_rank.proofs.TopPlaces.{low-bit, top-bit, tops-small}

-- the bits of the highest places are those of ranks
top-real : (d r : ℕ) → d ≤ 13 → bit_at (top_places d) r ≡ 1 → IsRank r
top-real d r few one = elim (cases_lt (r + d) 15) [
  | inl less ↦ absurd (let none = low-bit d r (omega (arith, few)) less in omega (arith, none, one))
  | inr more ↦ elim (cases_lt r 15) [
    | inl less ↦ (omega (arith, more, few), omega (arith, less))
    | inr above ↦ absurd (let none = bit_at_above (top_places d) 15 r (tops-small d) above in omega (arith, none, one))
  ]
]

-- so those of all four suits are cards
pub tops-valid : (depths : FourDepths) (mask : ℕ) → mask < 2 ^ 64 → ((u : Suit) → depth_in depths u ≤ 13) → ((u : Suit) → lane mask u ≡ top_places (depth_in depths u)) → IsHandMask mask
tops-valid depths mask fits few tops i one = elim (cases_lt i 64) [
  | inl less ↦ (let real = go less in (less, real.0, real.1))
  | inr above ↦ absurd (let none = bit_at_above mask 64 i fits above in omega (arith, none, one))
]
  where
    of : (u : Suit) → suit_shift u + i % 16 ≡ i → IsRank (i % 16)
    of u e =
        let low : i % 16 < 16 = omega arith in
        top-real (depth_in depths u) (i % 16) (few u)
        (ap (λ n. bit_at n (i % 16)) (sym (tops u)) ∙ lane-bit mask u (i % 16) low ∙ ap (λ n. n % 2) (shr-shr mask (suit_shift u) (i % 16)) ∙ ap (bit_at mask) e ∙ one)

    go : i < 64 → IsRank (i % 16)
    go less = elim (cases_lt i 16) [
      | inl first ↦ of Clubs (omega (arith, first))
      | inr above ↦ elim (cases_lt i 32) [
        | inl second ↦ of Diamonds (omega (arith, above, second))
        | inr higher ↦ elim (cases_lt i 48) [
          | inl third ↦ of Hearts (omega (arith, higher, third))
          | inr top ↦ of Spades (omega (arith, top, less))
        ]
      ]
    ]

-- and a card is one of them where it is one of so many
pub tops-cards : (depths : FourDepths) (mask : ℕ) → ((u : Suit) → depth_in depths u ≤ 13) → ((u : Suit) → lane mask u ≡ top_places (depth_in depths u)) → (c : PlayingCard) → IsRank c.rank
    → has_card (cards_of mask) c ≡ nat_lt 14 (c.rank + depth_in depths c.suit)
tops-cards depths mask few tops c real =
    card-bit mask c.suit c.rank real
    ∙ ap (λ b. b == 1) (sym (lane-bit mask c.suit c.rank (let h = real.1 in omega (arith, h))) ∙ ap (λ n. bit_at n c.rank) (tops c.suit))
    ∙ go (depth_in depths c.suit) (few c.suit) (cases_lt (c.rank + depth_in depths c.suit) 15)
  where
    go : (d : ℕ) → d ≤ 13 → (c.rank + d < 15) ⊎ (15 ≤ c.rank + d) → (bit_at (top_places d) c.rank == 1) ≡ nat_lt 14 (c.rank + d)
    go d low (inl less) = ap (λ b. b == 1) (low-bit d c.rank (omega (arith, low)) less) ∙ sym (le-ltb 14 (c.rank + d) (omega (arith, less)))
    go d low (inr more) = ap (λ b. b == 1) (top-bit d c.rank (omega (arith, low)) (let h = real.1 in omega (arith, h)) more) ∙ sym (lt-ltb 14 (c.rank + d) (omega (arith, more)))
