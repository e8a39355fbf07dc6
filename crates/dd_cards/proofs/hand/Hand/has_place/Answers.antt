use Rattle.std.proofs.Common.{◌∙◌, sym}
use Rattle.dd_cards.proofs.HandLists.{bit_test, has_card-cards_of, place_of-lt}
use Rattle.dd_cards.proofs.hand.Hand.has_place.Goals as goal

pub returns : goal.returns
returns c =
    rw (← c.self.view_is, c.number.ensures.value)
    (bit_test c.self.inside.mask _ (place_of-lt _ c.number.ensures.real) ∙ sym (has_card-cards_of c.self.inside.mask c.args.place c.number.ensures.real))
