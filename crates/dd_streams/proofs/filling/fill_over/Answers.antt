use Rattle.dd_bounds.specs.Spent.{IsSpent}
use Rattle.dd_streams.specs.Endings.{state_of}
use Rattle.dd_streams.proofs.FilledUntil.{ends-filling}
use Rattle.dd_streams.proofs.filling.fill_over.Goals as goal

pub returns : goal.returns
returns g c =
    ends-filling (IsSpent c.args.args.budget) c.args.wanted c.args.args.shows_progress g.R.Read.remaining g.O.Write.contents c.args.reader.now c.fill_deals-filled.new.reader c.args.output.now c.fill_deals-filled.new.writer
    (state_of g.E.Write.contents c.args.errors.now) (state_of g.E.Write.contents c.fill_deals-filled.new.errors) (state_of g.E.Write.contents c.end.new.errors) c.fill_deals-filled.result c.end.result
    c.end.ensures.ending c.fill_deals-filled.ensures c.end.ensures.silent c.end.ensures.says
