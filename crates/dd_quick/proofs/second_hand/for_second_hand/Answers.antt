use Rattle.dd_quick.proofs.Led.{after-leads}
use Rattle.dd_quick.proofs.second_hand.for_second_hand.Goals as goal

pub returns-in-Trump : goal.returns-in-Trump
returns-in-Trump c = after-leads c.args.position.now c.args.seat c.led_by-before.result c.args.suit c.args.need c.led_by-before.ensures.board c.requires.start c.requires.opposes c.led_by-before.ensures.led c.after_a_trump.result c.after_a_trump.ensures

pub returns-in_default : goal.returns-in_default
returns-in_default c = after-leads c.args.position.now c.args.seat c.led_by-before.result c.args.suit c.args.need c.led_by-before.ensures.board c.requires.start c.requires.opposes c.led_by-before.ensures.led c.after_a_side_suit.result c.after_a_side_suit.ensures
