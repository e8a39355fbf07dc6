use Rattle.dd_bounds.specs.Spent.{IsSpent}
use Rattle.dd_wire.proofs.CallerLemmas.{explained-is-line, reply-is-line}
use Rattle.dd_tool.proofs.laws.a_reply_is_one_line.Goals as goal

pub returns-clause-plain : goal.returns-clause-plain
returns-clause-plain c = λ budget. reply-is-line (IsSpent budget)

pub returns-clause-explained : goal.returns-clause-explained
returns-clause-explained c = λ budget. explained-is-line (IsSpent budget)
