use Rattle.std.proofs.Common.{◌∙◌, refl}
use Rattle.dd_relative.proofs.Bits.{raised-by}
use Rattle.dd_relative.proofs.gap.raised.Goals as goal

pub higher_by-requires : goal.higher_by-requires
higher_by-requires c = (raised-by c.args.gap c.args.card c.places_below.result c.number.result _ c.places_below.ensures.real c.number.ensures.real c.places_below.ensures.value c.number.ensures.value refl).1

pub returns : goal.returns
returns c = c.higher_by.ensures ∙ (raised-by c.args.gap c.args.card c.places_below.result c.number.result _ c.places_below.ensures.real c.number.ensures.real c.places_below.ensures.value c.number.ensures.value refl).2
