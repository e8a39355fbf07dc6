use Rattle.std.proofs.Common.{ℕ, ap, refl, take}
use Rattle.dd_file.proofs.Staying.{Takes-calm}
use Rattle.dd_file.proofs.filler.Filler.take_calm.Goals as goal

pub returns-clause-takes : goal.returns-clause-takes
returns-clause-takes c =
    Takes-calm _ _ c.args.text.now (take c.saturating_sub.result c.args.text.now) _ c.after_calm-rest.ensures (ap (λ (n : ℕ). take n c.args.text.now) c.saturating_sub.ensures) c.pass_line_bytes.ensures
    c.saturating_sub-self.ensures refl refl
