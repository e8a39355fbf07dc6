use Rattle.std.proofs.Common.{ℕ, ap, refl, take}
use Rattle.dd_file.proofs.PlainLines.{Takes-lines, first-start}
use Rattle.dd_file.proofs.Staying.{Takes-none}
use Rattle.dd_file.proofs.filler.Filler.take_lines.Goals as goal

pub returns-in_default-clause-takes : goal.returns-in_default-clause-takes
returns-in_default-clause-takes c = Takes-none _ _

pub returns-clause-takes : goal.returns-clause-takes
returns-clause-takes c =
    Takes-lines _ _ c.args.text.now (take c.saturating_sub.result c.args.text.now) _ c.after_plain_lines-rest.ensures (ap (λ (n : ℕ). take n c.args.text.now) c.saturating_sub.ensures)
    c.in-Some-true.ensures.left (first-start _ _ c.in-Some-true.ensures.mode c.in-Some-true.field-0-test) c.pass_lines.ensures refl refl refl
