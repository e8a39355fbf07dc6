use Rattle.std.proofs.Common.{ap, ℕ}
use Rattle.dd_program.proofs.Attended.{told-references, told-runs, told-watcher}
use Rattle.dd_program.proofs.telling.serve_told.Goals as goal

pub returns-clause-same_output : goal.returns-clause-same_output
returns-clause-same_output g c =
    ap (λ (p : ℕ × ℕ). p.0) (told-references g.V.TellsRuns.way c.run_server-telling.ensures.runs _ _ c.run_server-telling.ensures.told)

pub returns-clause-same_watcher : goal.returns-clause-same_watcher
returns-clause-same_watcher g c =
    ap (λ (p : ℕ × ℕ). p.1) (told-references g.V.TellsRuns.way c.run_server-telling.ensures.runs _ _ c.run_server-telling.ensures.told)

pub returns-clause-told : goal.returns-clause-told
returns-clause-told g c =
    let each = c.run_server-telling.ensures in
    let way = g.V.TellsRuns.way in
    (each.runs, each.left, each.some, told-watcher way each.runs _ _ each.told, told-runs way each.runs _ _ c.requires.fresh each.told)
