use Rattle.std.proofs.Common.{◌≡◌, ◌≤◌, ap, sym, subst, ◌∙◌, true, List}
use Rattle.dd_cards.specs.PlayingCard.{PlayingCard}
use Rattle.dd_cards.specs.Cards.{has_card}
use Rattle.dd_cards.specs.HandMasks.{cards_of}
use Rattle.dd_play.specs.Covers.{count_of}
use Rattle.dd_rank.proofs.HighestCards.{AreHighest, counts-of, highest-are-tops}
use Rattle.dd_rank.proofs.depths.Depths.of_bits.Goals as goal

pub invariant_of-result : goal.invariant_of-result
invariant_of-result c = highest-are-tops c.mask.result c.mask.ensures.mask c.mask.type_inv (subst AreHighest (sym c.mask.ensures.cards) c.requires)

pub returns : goal.returns
returns c = λ u. counts-of c.mask.result c.mask.ensures.mask c.mask.type_inv (subst AreHighest (sym c.mask.ensures.cards) c.requires) u ∙ ap (count_of u) c.mask.ensures.cards
