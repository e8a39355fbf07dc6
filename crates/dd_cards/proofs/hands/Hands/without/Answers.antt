use Rattle.dd_cards.proofs.HandLists.{AreHandMasks-kept, cards_of-kept, place_of-lt}
use Rattle.dd_cards.proofs.hands.Hands.without.Goals as goal

pub invariant_of-result : goal.invariant_of-result
invariant_of-result c = AreHandMasks-kept c.self.inside.masks _ c.self.invariant

pub returns : goal.returns
returns c =
    rw (c.place.ensures.value, ← c.self.view_is)
    (cards_of-kept c.self.inside.masks c.args.card c.place.ensures.rank (place_of-lt _ c.place.ensures.rank))
