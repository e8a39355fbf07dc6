use Rattle.std.proofs.Common.{ap, sym, ◌∙◌}
use Rattle.dd_cards.specs.declared.strain.Strain.{Strain}
use Rattle.dd_play.specs.Tricks.{winner_of}
use Rattle.dd_play.proofs.trick_winner.winner.Goals as goal

pub returns-in-Trump : goal.returns-in-Trump
returns-in-Trump c = c.winner_at.ensures ∙ ap (λ (strain : Strain). winner_of c.args.trick.now c.args.first strain) (sym c.in-Trump.is)

pub returns-in-Notrump : goal.returns-in-Notrump
returns-in-Notrump c = c.winner_at-in-Notrump.ensures ∙ ap (λ (strain : Strain). winner_of c.args.trick.now c.args.first strain) (sym c.in-Notrump.is)
