use Rattle.std.proofs.Common.{◌∙◌, sym}
use Rattle.dd_quick.proofs.AcrossClaims.{crossed-full, crossed-is, crossed-none, no-entry}
use Rattle.dd_quick.proofs.crossing.crossing.Goals as goal

pub returns-then-can-clause-tricks : goal.returns-then-can-clause-tricks
returns-then-can-clause-tricks c =
    c.min.ensures
    ∙ crossed-is c.args.position.now _ _ _ _ _ _ _ _ _ c.next-spades.ensures.next c.next-hearts.ensures.next c.next-diamonds.ensures.next c.next-clubs.ensures.next (sym c.any-can.ensures ∙ c.if-can.true) c.requires.most

pub returns-else-can-clause-tricks : goal.returns-else-can-clause-tricks
returns-else-can-clause-tricks c = crossed-none c.args.position.now (no-entry c.args.position.now _ _ _ _ _ _ _ _ c.next-spades.ensures.next c.next-hearts.ensures.next c.next-diamonds.ensures.next c.next-clubs.ensures.next (sym c.any-can.ensures ∙ c.if-can.false))

pub returns-then-most-eq0-clause-tricks : goal.returns-then-most-eq0-clause-tricks
returns-then-most-eq0-clause-tricks c = crossed-full c.args.position.now (sym c.requires.most ∙ c.if-most-eq0.true)
