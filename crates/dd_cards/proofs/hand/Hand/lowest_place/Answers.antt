use Rattle.std.proofs.Common.{arith, ◌∙◌, sym, ap}
use Rattle.dd_cards.specs.HandMasks.{cards_of}
use Rattle.dd_cards.proofs.HandLists.{cards_of-zero}
use Rattle.dd_cards.proofs.Places.{lowest-set, at_place-held}
use Rattle.dd_cards.proofs.hand.Hand.lowest_place.Goals as goal

pub returns-then-self-eq0 : goal.returns-then-self-eq0
returns-then-self-eq0 c = sym c.self.view_is ∙ ap cards_of c.if-self-eq0.true ∙ cards_of-zero

pub at-requires : goal.at-requires
at-requires c = c.self.invariant _ (lowest-set c.self.inside.mask (omega arith) (omega arith))

pub returns : goal.returns
returns c = rw (← c.self.view_is, c.at.ensures) (at_place-held c.self.inside.mask _ c.self.invariant (lowest-set c.self.inside.mask (omega arith) (omega arith)))
