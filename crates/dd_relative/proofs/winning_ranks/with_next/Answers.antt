use Rattle.std.proofs.Common.{◌∙◌, sym, ap, subst, List}
use Rattle.dd_cards.specs.PlayingCard.{PlayingCard}
use Rattle.dd_relative.specs.WinningRanks.{AreTop, with_next}
use Rattle.dd_relative.proofs.Bits.{run-cards, run-mask}
use Rattle.dd_relative.proofs.winning_ranks.with_next.Goals as goal

pub of_mask-requires : goal.of_mask-requires
of_mask-requires c = run-mask c.mask-mask.result c.places_below.result c.mask-mask.ensures.mask

pub returns : goal.returns
returns c =
    c.of_mask.ensures
    ∙ run-cards c.mask-mask.result c.places_below.result c.args.gap c.mask-mask.ensures.mask c.places_below.ensures.real (subst (λ (l : List PlayingCard). AreTop l) (sym c.mask-mask.ensures.cards) c.requires) c.places_below.ensures.value
    ∙ ap (with_next c.args.gap) c.mask-mask.ensures.cards
