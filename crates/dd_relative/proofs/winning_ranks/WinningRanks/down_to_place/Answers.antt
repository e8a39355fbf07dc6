use Rattle.std.proofs.Common.{refl, sym, ap, ◌∙◌, subst, arith, List}
use Rattle.dd_cards.specs.PlayingCard.{PlayingCard}
use Rattle.dd_cards.specs.Cards.{has_card}
use Rattle.dd_relative.specs.WinningRanks.{AreTop}
use Rattle.dd_relative.proofs.Downs.{down-has, down-top}
use Rattle.dd_relative.proofs.winning_ranks.WinningRanks.down_to_place.Goals as goal

pub invariant_of-result : goal.invariant_of-result
invariant_of-result c = subst (λ (l : List PlayingCard). AreTop l) (sym c.down_to.ensures) (down-top c.args.place)

pub returns-clause-itself : goal.returns-clause-itself
returns-clause-itself c = ap (λ l. has_card l c.args.place) c.down_to.ensures ∙ down-has c.args.place c.args.place c.number-number.ensures.real refl (omega arith)
