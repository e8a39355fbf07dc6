use Rattle.std.proofs.Common.{◌≡◌, take}
use Rattle.std.specs.Prelude.{filter, ◌||◌}
use Rattle.dd_cards.specs.Ranks.{all_ranks, has_rank}
use Rattle.dd_cards.specs.Cards.{card_of, has_card}
use Rattle.dd_equal.proofs.partition.other_ranks.Given as goal

abbrev pub invariant-loop-card : goal.invariant-loop-card
invariant-loop-card l = l.ranks ≡ filter (λ r. has_rank l.initial.ranks r || has_card (take l.card-index l.card-items) (card_of l.fn.suit r)) all_ranks
