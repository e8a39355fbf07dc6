-- the table of the bits of a suit below one of them
use Rattle.std.proofs.Common.{◌≡◌, ℕ, zero, suc, ◌-◌, ◌%◌, ◌^◌, ◌<◌, Bool, true, refl, sym, ap, ◌∙◌, arith, eqb-true, slice_index_or, inl, inr}
use Rattle.std.specs.Prelude.{◌==◌, ◌&&◌}
use Rattle.std.proofs.lemmas.Bool.Decides.{eqb_tells}
use Rattle.dd_cards.specs.declared.place.TheConstants.{BELOW}
use Rattle.dd_cards.specs.Suits.{suit_shift}
use Rattle.dd_cards.specs.Ranks.{IsRank}
use Rattle.dd_cards.specs.PlayingCard.{PlayingCard}
use Rattle.dd_cards.specs.Cards.{place_of}
use Rattle.dd_cards.proofs.CallerLemmas.{and-left, and-right}
use Rattle.dd_cards.proofs.HandLists.{place_of-lt, place_of-mod}

-- the bits from the lowest of the suit up to a place
abbrev bits_below : ℕ → ℕ
bits_below n = 2 ^ n - 2 ^ (n - n % 16)

-- the table is right for each number below n
right_below : ℕ → Bool
right_below zero = true
right_below (suc n) = (slice_index_or BELOW n 0 == bits_below n) && right_below n

right : right_below 64 ≡ true
unfolding right_below
right = refl

right-at : (n i : ℕ) → right_below n ≡ true → i < n → slice_index_or BELOW i 0 ≡ bits_below i
unfolding right_below
right-at zero i all h = absurd (omega arith)
right-at (suc n) i all h = elim (eqb_tells i n) [
  | inl same ↦ ap (λ j. slice_index_or BELOW j 0) same.1 ∙ eqb-true _ _ (and-left (slice_index_or BELOW n 0 == bits_below n) (right_below n) all) ∙ ap bits_below (sym same.1)
  | inr other ↦ right-at n i (and-right (slice_index_or BELOW n 0 == bits_below n) (right_below n) all) (omega (arith, other.1))
]

-- what it tells of a card
pub below-tells : (c : PlayingCard) → IsRank c.rank → slice_index_or BELOW (place_of c) 0 ≡ 2 ^ place_of c - 2 ^ suit_shift c.suit
below-tells c real =
    let e = place_of-mod c real in
    right-at 64 (place_of c) right (place_of-lt c real) ∙ ap (λ s. 2 ^ place_of c - 2 ^ s) (let lowest : place_of c - place_of c % 16 ≡ suit_shift c.suit = omega (arith, e) in lowest)
