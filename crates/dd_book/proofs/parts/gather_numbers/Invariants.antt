use Rattle.std.proofs.Common.{◌≡◌, take}
use Rattle.dd_book.specs.Parts.{numbers_in}
use Rattle.dd_book.proofs.parts.gather_numbers.Given as goal

-- the numbers of the parts so far
abbrev pub invariant-loop-part : goal.invariant-loop-part
invariant-loop-part l = l.trace ≡ numbers_in (take l.part-index l.parts.items)
