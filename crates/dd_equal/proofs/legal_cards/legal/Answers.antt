use Rattle.std.proofs.Common.{rules}
use Rattle.dd_play.proofs.CallerLemmas.{legal-13}
use Rattle.dd_equal.proofs.legal_cards.legal.Goals as goal

pub cards-init : goal.cards-init
cards-init c = record { whole = search rules; short = legal-13 _ c.choices-rest.ensures.board }
