use Rattle.std.proofs.Common.{◌≡◌, ◌<◌, ◌++◌, decimal, length}
use Rattle.dd_wire.proofs.usual_reader.read_longer.Given as goal

-- The digits so far are the number's, and come before what is left.
abbrev pub invariant-digits : goal.invariant-digits
invariant-digits l = (0 < l.number) × (decimal l.front ++ l.text ≡ decimal l.number ++ l.rest)

-- Each digit is taken off the text.
abbrev pub decreases-digits : goal.decreases-digits
decreases-digits l = length l.rest
