use Rattle.dd_cards.proofs.CallerLemmas.{same_hands-told}
use Rattle.dd_fill.proofs.deal.Deal.is_same.Goals as goal

pub returns : goal.returns
returns c = rw (← c.self.view_is, ← c.other.view_is) (same_hands-told _ _ _ c.eq.ensures)
