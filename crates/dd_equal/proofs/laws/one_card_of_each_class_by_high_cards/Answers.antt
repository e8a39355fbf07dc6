use Rattle.dd_equal.proofs.Images.{each-class-whole}
use Rattle.dd_equal.proofs.laws.one_card_of_each_class_by_high_cards.Goals as goal

pub returns : goal.returns
returns c = each-class-whole
