use Rattle.dd_fill.proofs.Saying.{ends-named}
use Rattle.dd_fill.proofs.filling.fill_within.Goals as goal

pub returns : goal.returns
returns g c =
    ends-named g.R.Read.remaining g.O.Write.contents c.args.budget g.N.LimitName.positions c.args.wanted c.args.shows_progress _ _ _ _ _ _ _ c.fill_saying-filled.result
    c.requires.named c.fill_saying-filled.ensures c.clear_progress.ensures
