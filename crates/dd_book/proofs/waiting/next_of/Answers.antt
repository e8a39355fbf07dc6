use Rattle.std.proofs.lemmas.Option.{MatchOption-at_none}
use Rattle.dd_book.proofs.Places.{first-own, first-other, first-none}
use Rattle.dd_book.proofs.waiting.next_of.Goals as goal

pub returns-in-Some : goal.returns-in-Some
returns-in-Some c = first-own c.args.waiting.now c.args.owner c.args.from c.range.result (c.range.ensures.in_range tt) c.in-Some.field-0.now c.next.new.self c.in-Some.ensures.steps c.if-whose-owner.true

pub returns-in_default : goal.returns-in_default
returns-in_default c = first-other c.args.waiting.now c.args.owner c.args.from c.range.result (c.range.ensures.in_range tt) c.in-Some.field-0.now c.next.new.self c.in-Some.ensures.steps c.if-whose-owner.false

pub returns-in_default-2 : goal.returns-in_default-2
returns-in_default-2 c = first-none c.args.waiting.now c.args.owner c.args.from c.range.result (c.range.ensures.in_range tt) (MatchOption-at_none _ _ c.in_default.is c.next.ensures.steps).0
