use Rattle.std.proofs.Common.{◌∙◌, ap, sym, length}
use Rattle.dd_cards.specs.HandMasks.{mask_at}
use Rattle.dd_cards.proofs.Counts.{length-cards_of}
use Rattle.dd_cards.proofs.HandLists.{hand_of-masks}
use Rattle.dd_cards.proofs.hands.Hands.len.Goals as goal

pub returns : goal.returns
returns c =
    rw (← c.self.view_is, c.code.ensures.value)
    (sym (length-cards_of (mask_at c.self.inside.masks c.args.seat) (c.self.invariant.cards_only c.args.seat)) ∙ ap length (sym (hand_of-masks c.self.inside.masks c.args.seat)))
