use Rattle.std.proofs.Common.{ℕ, ap}
use Rattle.dd_file.specs.declared.fill_state.FillState.{FillState}
use Rattle.dd_file.proofs.Calm.{last-of}
use Rattle.dd_file.proofs.fill_state.FillState.pass_line_bytes.Goals as goal

pub returns-in-len1-up : goal.returns-in-len1-up
returns-in-len1-up c =
    ap (λ (n : ℕ). (let s : FillState = record c.args.self.now { last = n } in s)) (last-of c.args.bytes.now c.args.self.now.last c.in-len1-up.len_at_least)
