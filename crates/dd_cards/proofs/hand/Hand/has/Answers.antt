use Rattle.std.proofs.Common.{◌∙◌, sym}
use Rattle.dd_cards.proofs.HandLists.{bit_test, has_card-cards_of, place_of-lt}
use Rattle.dd_cards.proofs.hand.Hand.has.Goals as goal

pub returns : goal.returns
returns c =
    rw (← c.self.view_is, c.place.ensures.value)
    (bit_test c.self.inside.mask _ (place_of-lt _ c.place.ensures.rank) ∙ sym (has_card-cards_of c.self.inside.mask c.args.card c.place.ensures.rank))
