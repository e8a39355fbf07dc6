use Rattle.dd_equal.proofs.ClassTops.{every-class}
use Rattle.dd_equal.proofs.laws.one_card_of_each_class.Goals as goal

pub returns : goal.returns
returns c = every-class
