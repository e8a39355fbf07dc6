use Rattle.std.proofs.Common.{◌∙◌, ◌∷◌, sym, ap}
use Rattle.std.specs.Prelude.{filter, nat_lt, slice_get}
use Rattle.dd_cards.proofs.RankLists.{first-of-ranks}
use Rattle.dd_cards.proofs.holding.Holding.pop_highest.Goals as goal

pub returns : goal.returns
returns c =
    let e = c.self.view_is in
    let h = c.in_ok-highest.highest in
    let first = sym c.highest.ensures ∙ c.in_ok-highest.was in
    sym e ∙ first-of-ranks c.self.inside.mask h first ∙ ap (λ l. h ∷ l) (sym c.below.ensures ∙ sym c.self-2.view_is)
