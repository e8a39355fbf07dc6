use Rattle.dd_file.proofs.Calm.{none-calm}
use Rattle.dd_file.proofs.quiet.after_calm.Goals as goal

pub returns-in_default : goal.returns-in_default
returns-in_default c =
    none-calm c.args.mode c.args.text.now c.in_default.not-Plain c.in_default.not-Escaped c.in_default.not-Remark c.in_default.not-Braced c.in_default.not-Quoted
