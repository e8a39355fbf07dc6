use Rattle.std.proofs.Common.{arith, ◌∙◌, ap}
use Rattle.dd_cards.specs.Cards.{has_card}
use Rattle.dd_relative.proofs.Moved.{moved-cards, no-bit, up-fits, up-mask}
use Rattle.dd_relative.proofs.gap.moved_up.Goals as goal

pub overflow_add-mask : goal.overflow_add-mask
overflow_add-mask c = omega (arith, up-fits c.mask-mask.result c.places_below-below.result c.mask-mask.ensures.mask (omega arith))

pub of_mask-requires : goal.of_mask-requires
of_mask-requires c =
    let clear = no-bit c.mask-mask.result c.args.gap c.places_below-below.ensures.real (ap (λ cards. has_card cards c.args.gap) c.mask-mask.ensures.cards ∙ c.requires) in
    rw c.places_below-below.ensures.value (up-mask c.mask-mask.result c.args.gap c.mask-mask.ensures.mask c.places_below-below.ensures.real clear)

pub returns : goal.returns
returns c =
    let clear = no-bit c.mask-mask.result c.args.gap c.places_below-below.ensures.real (ap (λ cards. has_card cards c.args.gap) c.mask-mask.ensures.cards ∙ c.requires) in
    c.of_mask.ensures ∙ rw (c.places_below-below.ensures.value, ← c.mask-mask.ensures.cards) (moved-cards c.mask-mask.result c.args.gap c.mask-mask.ensures.mask c.places_below-below.ensures.real clear)
