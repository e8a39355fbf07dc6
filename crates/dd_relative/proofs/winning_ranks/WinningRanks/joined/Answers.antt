use Rattle.std.proofs.Common.{sym, subst, List}
use Rattle.dd_cards.specs.PlayingCard.{PlayingCard}
use Rattle.dd_relative.specs.WinningRanks.{AreTop}
use Rattle.dd_relative.proofs.Joined.{next-top}
use Rattle.dd_relative.proofs.winning_ranks.WinningRanks.joined.Goals as goal

pub invariant_of-result : goal.invariant_of-result
invariant_of-result c = subst (λ (x : List PlayingCard). AreTop x) (sym c.with_next.ensures) (next-top c.args.gap c.self.inside.cards c.self.invariant)
