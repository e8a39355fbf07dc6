use Rattle.std.specs.Prelude.{Err}
use Rattle.std.proofs.lemmas.Result.{err_from_is_err_and, IfErr-at_err}
use Rattle.dd_play.specs.Board.{board_of}
use Rattle.dd_play.specs.Positions.{IsFirstFault}
use Rattle.dd_request.specs.Targets.{TargetQuestion}
use Rattle.dd_wire.specs.Requests.{MeansBoard}
use Rattle.dd_wire.proofs.Objects.{map_err-err, at-each_err}
use Rattle.dd_wire.proofs.Starts.{means-fault}
use Rattle.dd_wire.proofs.target_reader.request.Goals as goal

pub returns-in_err-position : goal.returns-in_err-position
returns-in_err-position c =
    let p = err_from_is_err_and c.from_residual.result c.from_residual.ensures.1 in
    rw (p.1, p.2) (
    let board = board_of c.args.hands c.args.strain c.args.first c.args.trick.now in
    let asked : TargetQuestion = record { board = board; target = c.args.target; solutions = c.args.solutions } in
    let faults = at-each_err c.new.result (λ fault. IsFirstFault fault board) (λ fault is. (c.new.ensures.faults fault).0 is) in
    IfErr-at_err _ c.in_err-position.was (map_err-err c.new.result c.map_err.result _ _ _ (λ fault. MeansBoard board asked (Err fault)) c.map_err.ensures.cases faults faults
    (λ why fault turns is _. rw turns (means-fault board asked why c.requires.trick is))))
