use Rattle.std.proofs.Common.{◌≡◌, ◌≤◌, ◌++◌, length}
use Rattle.dd_play.specs.Play.{legal}
use Rattle.dd_equal.proofs.legal_cards.legal.Given as goal

-- the cards so far and those that are left are the legal ones
abbrev pub invariant-cards : goal.invariant-cards
invariant-cards l = record {
  whole : l.cards.items ++ l.rest ≡ legal l.fn.position;
  short : length (legal l.fn.position) ≤ 13;
}

abbrev pub decreases-cards : goal.decreases-cards
decreases-cards l = length l.rest
