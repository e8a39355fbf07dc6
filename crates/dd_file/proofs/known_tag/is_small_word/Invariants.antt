use Rattle.std.proofs.Common.{◌≡◌, drop}
use Rattle.dd_file.specs.Values.{is_word}
use Rattle.dd_file.proofs.known_tag.is_small_word.Given as goal

-- what is left of both answers
abbrev pub invariant-loop-at : goal.invariant-loop-at
invariant-loop-at l = is_word (drop l.at l.name) (drop l.at l.word) ≡ is_word l.name l.word
