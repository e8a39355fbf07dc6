use Rattle.std.proofs.Common.{◌≡◌, false, take, ◌≤◌, length}
use Rattle.dd_server.specs.Opening.{is_other_protocol}
use Rattle.dd_server.proofs.opening.read_first.Given as goal

abbrev pub invariant-loop : goal.invariant-loop
invariant-loop g l = (l.count ≤ length l.buf) × (is_other_protocol (take l.count l.buf) ≡ false)
