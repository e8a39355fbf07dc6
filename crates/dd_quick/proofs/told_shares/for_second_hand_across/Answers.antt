use Rattle.std.proofs.Common.{◌≤◌, arith, subst, sym}
use Rattle.std.specs.Prelude.{Some}
use Rattle.dd_quick.specs.Sharing.{shares}
use Rattle.dd_quick.proofs.Led.{after-leads}
use Rattle.dd_quick.proofs.told_shares.for_second_hand_across.Goals as goal

pub returns : goal.returns
returns c =
    let t = c.args.told in
    let first = c.share_of.ensures in
    let none = c.if-share_of-eq0.false in
    let some : 1 ≤ shares t.spades t.hearts t.diamonds t.clubs c.args.suit = omega (arith, first, none) in
    after-leads c.args.position.now c.args.seat c.led_by-before.result c.args.suit c.args.need c.led_by-before.ensures.board c.requires.start c.requires.opposes c.led_by-before.ensures.led (Some c.in_ok-cards.cards)
    (λ p led ready same. c.in_ok-cards.ensures.after_a_lead p led ready (subst (λ u. 1 ≤ shares t.spades t.hearts t.diamonds t.clubs u) (sym same) some))
