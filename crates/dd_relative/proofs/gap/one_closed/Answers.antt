use Rattle.dd_cards.specs.declared.seat.Seat.TheVariants.{North, East, South, West}
use Rattle.dd_relative.proofs.gap.one_closed.Goals as goal

pub moved_up-requires : goal.moved_up-requires
moved_up-requires c = c.requires North

pub moved_up-requires-2 : goal.moved_up-requires-2
moved_up-requires-2 c = c.requires East

pub moved_up-requires-3 : goal.moved_up-requires-3
moved_up-requires-3 c = c.requires South

pub moved_up-requires-4 : goal.moved_up-requires-4
moved_up-requires-4 c = c.requires West
