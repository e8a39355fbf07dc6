use Rattle.std.proofs.Common.{◌≡◌, length}
use Rattle.dd_pbn.specs.Reading.{suit_at}
use Rattle.dd_pbn.proofs.reading.read_suit.Given as goal

-- what is read from here on is what is read from the beginning
abbrev pub invariant-loop-rest : goal.invariant-loop-rest
invariant-loop-rest l = suit_at l.seat l.suit l.seen l.rest ≡ suit_at l.seat l.suit l.fn.seen l.fn.text

abbrev pub decreases-loop-rest : goal.decreases-loop-rest
decreases-loop-rest l = length l.rest
