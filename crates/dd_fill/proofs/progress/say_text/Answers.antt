use Rattle.dd_fill.proofs.Saying.{says-text}
use Rattle.dd_fill.proofs.progress.say_text.Goals as goal

pub returns : goal.returns
returns g c =
    says-text g.E.Write.contents c.args.errors.now c.write_whole.new.writer c.args.text.now c.write_whole.result c.write_whole.ensures.ok c.write_whole.ensures.err c.write_whole.ensures.fault
