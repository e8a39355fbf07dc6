use Rattle.std.proofs.Common.{◌∙◌, sym, ap}
use Rattle.dd_cards.specs.Cards.{has_card}
use Rattle.dd_relative.proofs.Joined.{union-are}
use Rattle.dd_relative.proofs.winning_ranks.WinningRanks.with_all.Goals as goal

pub invariant_of-result : goal.invariant_of-result
invariant_of-result c = union-are c.self.inside.cards c.other.inside.cards c.union.result c.self.invariant c.other.invariant c.union.ensures.cards

pub returns-clause-left : goal.returns-clause-left
returns-clause-left c d has = c.union.ensures.left d (ap (λ cards. has_card cards d) c.self.view_is ∙ has)

pub returns-clause-right : goal.returns-clause-right
returns-clause-right c d has = c.union.ensures.right d (ap (λ cards. has_card cards d) c.other.view_is ∙ has)
