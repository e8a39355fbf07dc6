use Rattle.std.proofs.Common.{◌<◌, length, rules, sym, subst}
use Rattle.std.specs.Prelude.{All, IsOk}
use Rattle.dd_server.specs.Histories.{IsJournalOfRun}
use Rattle.dd_server.specs.Runs.{AreTold}
use Rattle.dd_server.specs.ServeArgs.{terms_by}
use Rattle.dd_program.specs.Endings.{AreRuns, TellsText, closed_texts}
use Rattle.dd_streams.specs.Endings.{state_of}
use Rattle.dd_program.proofs.Attended.{carried, ends-so}
use Rattle.dd_program.proofs.serving.attend.Goals as goal

pub returns : goal.returns
returns g c =
    let told = c.serve_told-telling.ensures.told in
    let way = g.V.TellsRuns.way in
    let before = g.V.TellsRuns.state c.args.watcher.now in
    let are_runs : AreRuns (terms_by c.args.args) c.args.events told.0 = subst (λ l. All (IsJournalOfRun l (terms_by c.args.args)) told.0) c.limits_for.ensures told.1 in
    let seen = subst (λ d. AreTold way (g.V.TellsRuns.state d) told.0 (g.V.TellsRuns.state c.serve_told-telling.result.watcher.now)) c.new-telling.ensures.watcher told.3 in
    let watched = subst (λ d. AreTold way before told.0 (g.V.TellsRuns.state d)) (sym c.end-served.ensures.watcher) seen in
    let from = subst (λ d. TellsText (closed_texts told.0) c.serve_told-telling.result.has_failed (state_of g.O.Write.contents d)
    (state_of g.O.Write.contents c.serve_told-telling.result.output.now)) c.new-telling.ensures.output told.4 in
    let upto = subst (λ d. TellsText (closed_texts told.0) c.serve_told-telling.result.has_failed (state_of g.O.Write.contents c.args.output.now)
    (state_of g.O.Write.contents d)) (sym c.end-served.ensures.output) from in
    let text = subst (λ f. TellsText (closed_texts told.0) f (state_of g.O.Write.contents c.args.output.now) (state_of g.O.Write.contents c.end-served.new.self.0))
    (sym c.end-served.ensures.failed) upto in
    let some = subst (λ s. IsOk s → 0 < length told.0) (sym c.end-served.ensures.served) told.2 in
    λ input first address listens.
    carried way before (g.V.TellsRuns.state c.end-served.new.self.1.0) _ (terms_by c.args.args) c.args.events input first (state_of g.O.Write.contents c.end-served.new.self.0) _
    (state_of g.E.Write.contents c.args.errors.now) (state_of g.E.Write.contents c.end.new.errors) c.end.result (search rules) (search rules)
    (ends-so way before _ (terms_by c.args.args) c.args.events address told.0 input first _ _ _ _ _ _ _ listens are_runs some watched text c.end.ensures)
