use Rattle.std.proofs.Common.{arith, ◌∙◌, sym, ap}
use Rattle.dd_cards.specs.HandMasks.{cards_of}
use Rattle.dd_cards.proofs.HandLists.{cards_of-zero, bit_of-and}
use Rattle.dd_cards.proofs.Places.{highest-set, at_place-first}
use Rattle.dd_cards.proofs.hand.Hand.take_first.Goals as goal

pub returns-then-self-eq0 : goal.returns-then-self-eq0
returns-then-self-eq0 c = (let e = sym c.self.view_is ∙ ap cards_of c.if-self-eq0.true ∙ cards_of-zero in (e, e))

pub at-requires : goal.at-requires
at-requires c = c.self.invariant _ (highest-set c.self.inside.mask (omega arith) (omega arith))

pub invariant_of-self : goal.invariant_of-self
invariant_of-self c = λ i h. c.self.invariant i (bit_of-and _ _ i h)

pub returns : goal.returns
returns c = rw (← c.self.view_is, c.at.ensures) (at_place-first c.self.inside.mask c.self.invariant (omega arith) (omega arith))
