use Rattle.std.proofs.Common.{rules}
use Rattle.std.specs.Fmt.{digits}
use Rattle.dd_wire.specs.ParReplies.{declarers_text}
use Rattle.dd_wire.proofs.par_reply.push_declarers.Goals as goal

pub returns-in-Both-NorthSouth-clause-bytes : goal.returns-in-Both-NorthSouth-clause-bytes
unfolding digits declarers_text
returns-in-Both-NorthSouth-clause-bytes c = search rules

pub returns-in-Both-EastWest-clause-bytes : goal.returns-in-Both-EastWest-clause-bytes
unfolding digits declarers_text
returns-in-Both-EastWest-clause-bytes c = search rules
