use Rattle.std.proofs.Common.{sym, ◌∙◌}
use Rattle.std.specs.Prelude.{◌&&◌}
use Rattle.dd_cards.specs.Cards.{is_of}
use Rattle.dd_play.specs.Board.{cards_at}
use Rattle.dd_quick.specs.QuickTricks.{is_winner}
use Rattle.dd_quick.proofs.NoRun.{no-run}
use Rattle.dd_quick.proofs.Reached.{length-of}
use Rattle.dd_quick.proofs.long_suit.led_out.Goals as goal

pub returns-then-run-eq0-clause-tricks : goal.returns-then-run-eq0-clause-tricks
returns-then-run-eq0-clause-tricks c p suit are =
    let run = length-of suit (λ d. is_of suit d && is_winner p p.first d) c.own_run.result (cards_at p p.first) (c.own_run.ensures p p.first suit are) in
    sym (no-run p suit (sym run ∙ sym c.len-run.ensures.len ∙ c.if-run-eq0.true))
