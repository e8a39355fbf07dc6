use Rattle.std.proofs.Common.{arith}
use Rattle.dd_cards.proofs.CallerLemmas.{length-set_of_cards}
use Rattle.dd_play.proofs.position.is_even.Goals as goal

pub overflow_add-len : goal.overflow_add-len
overflow_add-len c = (let short = length-set_of_cards _ (c.requires.sets c.seat_after.result) in omega (arith, short, c.len.ensures))
