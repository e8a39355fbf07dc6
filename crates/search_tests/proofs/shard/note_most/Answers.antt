use Rattle.std.proofs.Common.{◌≡◌, ◌-◌, ◌≤◌, ap, ◌∙◌, arith}
use Rattle.dd_play.specs.Board.{tricks_left}
use Rattle.dd_play.specs.Value.{leaders_tricks}
use Rattle.dd_rank.specs.Depths.{depth_in}
use Rattle.dd_rank.proofs.CallerLemmas.{noted}
use Rattle.search_tests.proofs.shard.note_most.Goals as goal

pub note-requires-clause-holds : goal.note-requires-clause-holds
note-requires-clause-holds c = λ q board covers.
    let none : tricks_left c.args.start.now - tricks_left c.args.start.now ≡ 0 = omega arith in
    let held : (0 ≤ leaders_tricks q) × (leaders_tricks q ≤ tricks_left c.args.start.now) =
    noted c.match-spade.cards (depth_in c.of_cards.result) c.args.start.now 0 (tricks_left c.args.start.now) c.of_cards.ensures.real c.position.ensures.board (λ u. let same = c.of_cards.ensures.depths u in omega arith)
    (λ k to from t r _ _. omega arith) (λ k to from t r _ _. omega arith) q board covers in
    let lo = c.bounds.ensures.0 in
    let hi = c.bounds.ensures.1 in
    let tricks : c.tricks_left-left.result ≡ tricks_left c.args.start.now = c.tricks_left-left.ensures.tricks ∙ ap tricks_left c.position.ensures.value in
    (omega arith, omega arith)
