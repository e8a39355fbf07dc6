use Rattle.dd_cards.proofs.Unions.{found-from, none-found, rank-from}
use Rattle.dd_cards.proofs.holding.Holding.next_from.Goals as goal

pub of-requires : goal.of-requires
of-requires c = rank-from c.self.inside.mask c.code-least.result c.self.invariant c.code-least.ensures.low c.if-part-eq0.false

pub returns-then-part-eq0 : goal.returns-then-part-eq0
returns-then-part-eq0 c = rw (← c.code-least.ensures.value) (none-found c.self.inside.mask c.code-least.result c.args.self c.self.invariant c.self.view_is c.if-part-eq0.true)

pub returns-else-part-eq0 : goal.returns-else-part-eq0
returns-else-part-eq0 c = rw (← c.code-least.ensures.value) (found-from c.self.inside.mask c.code-least.result c.of.result c.args.self c.self.invariant c.self.view_is c.if-part-eq0.false c.of.ensures)
