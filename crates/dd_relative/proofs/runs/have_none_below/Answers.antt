use Rattle.std.proofs.Common.{sym, ap, ◌∙◌, arith, eqb-true}
use Rattle.dd_cards.specs.Cards.{has_card}
use Rattle.dd_relative.specs.Runs.{next_above}
use Rattle.dd_relative.proofs.Heads.{none-below}
use Rattle.dd_relative.proofs.runs.have_none_below.Goals as goal

pub returns : goal.returns
returns c = λ h d mine over.
    let own = c.mask.ensures.cards in
    let cards = c.mask-mask.ensures.cards in
    ap (λ l. has_card l d) (sym cards)
    ∙ none-below c.mask-mask.result c.mask.result c.mask-mask.ensures.mask (omega arith) (eqb-true _ _ h) d
    (ap (λ l. has_card l d) own ∙ mine) (ap (λ l. has_card l (next_above d)) cards ∙ over)
