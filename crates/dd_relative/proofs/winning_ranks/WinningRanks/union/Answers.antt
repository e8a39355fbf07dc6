use Rattle.std.proofs.Common.{◌∙◌}
use Rattle.std.specs.Prelude.{filter, ◌||◌}
use mathlib.Core.Path.{ap₂}
use Rattle.dd_cards.specs.Cards.{deck, has_card}
use Rattle.dd_relative.proofs.Joined.{union-are}
use Rattle.dd_relative.proofs.winning_ranks.WinningRanks.union.Goals as goal

pub invariant_of-result : goal.invariant_of-result
invariant_of-result c = union-are c.self.inside.cards c.other.inside.cards c.union.result c.self.invariant c.other.invariant c.union.ensures.cards

pub returns : goal.returns
returns c = c.union.ensures.cards ∙ ap₂ (λ a b. filter (λ d. has_card a d || has_card b d) deck) c.self.view_is c.other.view_is
