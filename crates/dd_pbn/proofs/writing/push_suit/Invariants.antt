use Rattle.std.proofs.Common.{◌≡◌, ◌++◌, length}
use Rattle.std.specs.Prelude.{map, string_bytes}
use Rattle.dd_pbn.specs.Letters.{letter_of}
use Rattle.dd_pbn.specs.Deals.{suit_text}
use Rattle.dd_pbn.proofs.writing.push_suit.Given as goal

-- what stands there and the letters of the cards that are left are the whole
abbrev pub invariant-loop-card : goal.invariant-loop-card
invariant-loop-card l = string_bytes l.text ++ map (λ c. letter_of c.rank) l.cards ≡ string_bytes l.fn.text ++ suit_text l.fn.hand l.fn.suit

abbrev pub decreases-loop-card : goal.decreases-loop-card
decreases-loop-card l = length l.cards
