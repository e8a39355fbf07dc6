use Rattle.dd_tool.proofs.Solving.{reply-kept}
use Rattle.dd_tool.proofs.solver.LineSolverAnswering.answer_into.Goals as goal

pub returns-clause-way : goal.returns-clause-way
returns-clause-way g c = λ held kept. reply-kept c.args.self.now.explain c.args.self.now.budget c.args.line.now held _ kept c.put_reply_as.ensures.text
