use Rattle.std.proofs.Common.{◌≡◌, ℕ, ◌+◌, ◌/◌, ◌^◌, ◌<◌, ◌≤◌, ◌⊎◌, bit_and, subst}
use Rattle.std.specs.Prelude.{count_ones}
use Rattle.dd_cards.specs.Suits.{suit_shift}
use Rattle.dd_cards.proofs.HandLists.{bit_of-and}
use Rattle.dd_cards.proofs.FromTop.{IsFromTop, card-kept, some-kept}
use Rattle.dd_cards.proofs.hand.Hand.at_depth.Goals as goal
use Rattle.dd_cards.proofs.hand.Hand.at_depth.Goals.{After-place_from_top-place}

at : (c : After-place_from_top-place) → IsFromTop c.self.inside.mask c.args.suit c.args.depth c.place_from_top-place.result
at c = from (c.shift-shift.result) c.shift-shift.ensures.value c.place_from_top-place.ensures.low c.place_from_top-place.ensures.high
  where
    count : ℕ → ℕ → ℕ
    count shift k = count_ones (bit_and (c.self.inside.mask / 2 ^ shift) 32764 / 2 ^ k)

    from : (shift : ℕ) → shift ≡ suit_shift c.args.suit → (c.args.depth ≤ count shift c.place_from_top-place.result) ⊎ (c.place_from_top-place.result ≡ 0)
        → (count shift (c.place_from_top-place.result + 1) < c.args.depth) ⊎ (c.place_from_top-place.result ≡ 15)
        → IsFromTop c.self.inside.mask c.args.suit c.args.depth c.place_from_top-place.result
    from shift is low high = record {
      bound = c.place_from_top-place.ensures.bound;
      low = subst (λ x. (c.args.depth ≤ count x c.place_from_top-place.result) ⊎ (c.place_from_top-place.result ≡ 0)) is low;
      high = subst (λ x. (count x (c.place_from_top-place.result + 1) < c.args.depth) ⊎ (c.place_from_top-place.result ≡ 15)) is high;
    }

pub invariant_of-result : goal.invariant_of-result
invariant_of-result c = λ i h. c.self.invariant i (bit_of-and _ _ i h)

pub returns-clause-card : goal.returns-clause-card
returns-clause-card c = rw (← c.self.view_is, c.shift-shift.ensures.value) (λ d. card-kept c.self.inside.mask c.args.suit c.args.depth c.place_from_top-place.result d (at (goal.at.returns-clause-card c).After-place_from_top-place))

pub returns-clause-some : goal.returns-clause-some
returns-clause-some c = rw (← c.self.view_is, c.shift-shift.ensures.value) (some-kept c.self.inside.mask c.args.suit c.args.depth c.place_from_top-place.result (at (goal.at.returns-clause-some c).After-place_from_top-place))
