use Rattle.std.proofs.Common.{rules}
use Rattle.dd_play.proofs.Lengths.{choices-13}
use Rattle.dd_play.proofs.position.Position.choices_at.Goals as goal

pub returns-then-played-eq0-clause-bound : goal.returns-then-played-eq0-clause-bound
returns-then-played-eq0-clause-bound c = choices-13 c.args.self.now _ c.mover_at.ensures.board (search rules)

pub returns-then-is_empty-clause-bound : goal.returns-then-is_empty-clause-bound
returns-then-is_empty-clause-bound c = choices-13 c.args.self.now _ c.mover_at.ensures.board (search rules)

pub returns-else-is_empty-clause-bound : goal.returns-else-is_empty-clause-bound
returns-else-is_empty-clause-bound c = choices-13 c.args.self.now _ c.mover_at.ensures.board (search rules)
