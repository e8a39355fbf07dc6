use Rattle.dd_equal.proofs.OneClass.{exactly-one, mask-lower, only-legal}
use Rattle.dd_equal.proofs.laws.classes_part_the_legal_cards.Goals as goal

pub returns-clause-one : goal.returns-clause-one
returns-clause-one c = exactly-one

pub returns-clause-only : goal.returns-clause-only
returns-clause-only c = only-legal

pub returns-clause-lower : goal.returns-clause-lower
returns-clause-lower c = mask-lower
