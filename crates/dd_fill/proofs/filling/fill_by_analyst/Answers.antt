use Rattle.dd_bounds.specs.Spent.{IsSpent}
use Rattle.dd_fill.proofs.Saying.{ends-stays, ends-told}
use Rattle.dd_fill.proofs.filling.fill_by_analyst.Goals as goal

pub returns-clause-same_table : goal.returns-clause-same_table
returns-clause-same_table g c =
    (ends-stays g.R.Read.remaining g.O.Write.contents (IsSpent g.N.LimitName.positions) c.args.wanted _ _ c.args.reader.now c.fill_file.new.reader c.args.writer.now c.fill_file.new.writer c.fill_file.result
    c.fill_file.ensures.told c.fill_file.ensures.err).table

pub returns-clause-same_reference : goal.returns-clause-same_reference
returns-clause-same_reference g c =
    (ends-stays g.R.Read.remaining g.O.Write.contents (IsSpent g.N.LimitName.positions) c.args.wanted _ _ c.args.reader.now c.fill_file.new.reader c.args.writer.now c.fill_file.new.writer c.fill_file.result
    c.fill_file.ensures.told c.fill_file.ensures.err).reference

pub returns-clause-fills : goal.returns-clause-fills
returns-clause-fills g c =
    ends-told g.R.Read.remaining g.O.Write.contents (IsSpent g.N.LimitName.positions) c.args.wanted _ _ c.args.reader.now c.fill_file.new.reader c.args.writer.now c.fill_file.new.writer c.fill_file.result
    c.fill_file.ensures.told c.fill_file.ensures.err c.fill_file.ensures.first
