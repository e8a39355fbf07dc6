use Rattle.dd_file.specs.Notes.{notes_of}
use Rattle.dd_file.proofs.Passed.{AddsAnswer-open}
use Rattle.dd_file.proofs.filler.Filler.add_lines_at.Goals as goal

pub returns-clause-adds : goal.returns-clause-adds
returns-clause-adds g c =
    AddsAnswer-open g.A.Analyst.gives g.A.Analyst.way c.args.has_place c.args.self.now.wanted c.args.self.now.state (notes_of c.args.self.now) _ _ _ c.if-has_place.false c.leave_open.ensures
