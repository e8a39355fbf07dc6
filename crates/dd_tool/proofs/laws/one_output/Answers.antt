use Rattle.dd_tool.proofs.OneOutput.{each-line, one-output, one-run}
use Rattle.dd_tool.proofs.laws.one_output.Goals as goal

pub returns-clause-lines : goal.returns-clause-lines
returns-clause-lines c = each-line c.a_reply_is_one_line.ensures.plain c.a_reply_is_one_line.ensures.explained

pub returns-clause-outputs : goal.returns-clause-outputs
returns-clause-outputs c = one-output c.a_reply_is_one_line.ensures.plain c.a_reply_is_one_line.ensures.explained c.one_reply.ensures.plain c.one_reply.ensures.explained

pub returns-clause-runs : goal.returns-clause-runs
returns-clause-runs c = one-run c.a_reply_is_one_line.ensures.plain c.a_reply_is_one_line.ensures.explained c.one_reply.ensures.plain c.one_reply.ensures.explained
