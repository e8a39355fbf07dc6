use Rattle.std.proofs.Common.{◌≡◌, sym, subst, List, filter}
use Rattle.std.specs.Prelude.{◌&&◌, nat_lt}
use mathlib.Core.Bool.{not}
use Rattle.dd_cards.specs.PlayingCard.{PlayingCard}
use Rattle.dd_cards.specs.Cards.{deck, is_of}
use Rattle.dd_relative.specs.WinningRanks.{AreTop}
use Rattle.dd_relative.proofs.Downs.{down-seen, down-top}
use Rattle.dd_relative.proofs.winning_ranks.WinningRanks.down_to.Goals as goal
use Rattle.dd_relative.proofs.winning_ranks.WinningRanks.down_to.Goals.{After-without_below}

-- the cards
these : (c : After-without_below) → c.without_below.result ≡ filter (λ d. is_of c.args.card.suit d && not (nat_lt d.rank c.args.card.rank)) deck
these c = down-seen _ c.args.card c.pack.result c.of_suit-suit.result c.without_below.result c.card.view_is c.pack.ensures c.of_suit-suit.ensures c.without_below.ensures

pub invariant_of-result : goal.invariant_of-result
invariant_of-result c = subst (λ (l : List PlayingCard). AreTop l) (sym (these c)) (down-top c.args.card)

pub returns : goal.returns
returns c = these (goal.at.returns c).After-without_below
