use Rattle.std.proofs.Common.{◌∙◌, ap, bit_and}
use mathlib.Core.Path.{ap₂}
use Rattle.dd_cards.specs.declared.suit.Suit.{Suit}
use Rattle.dd_cards.specs.declared.suit.Suit.TheVariants.{Spades, Hearts, Diamonds, Clubs}
use Rattle.dd_cards.specs.Ranks.{all_ranks}
use Rattle.dd_rank.specs.Lanes.{lane, places_of}
use Rattle.dd_rank.specs.DepthMasks.{tops_of}
use Rattle.dd_rank.proofs.BySuit.{by-suit}
use Rattle.dd_rank.proofs.DepthLanes.{lane-tops, tops-fit}
use Rattle.dd_rank.proofs.TopPlaces.{first-under, stays-under}
use Rattle.dd_rank.proofs.first_owners.FirstOwners.of.Goals as goal

pub returns-clause-owners : goal.returns-clause-owners
returns-clause-owners c =
    let odd = c.strings.inside.places.odd in
    let far = c.strings.inside.places.far in
    let each = λ (u : Suit). ap₂ (λ y z. places_of (lane y u) (lane z u) all_ranks) c.under.ensures.odd c.under.ensures.far ∙ first-under c.args.depths c.tops-mask.result odd far c.requires c.tops-mask.ensures.tops u in
    rw (← c.strings.view_is) (by-suit _ (each Spades) (each Hearts) (each Diamonds) (each Clubs))

pub invariant_of-result : goal.invariant_of-result
invariant_of-result c = record {
  fits = tops-fit c.args.depths;
  few = c.requires;
  tops = lane-tops c.args.depths;
  odd_under = stays-under _ _ (tops_of c.args.depths) (c.under.ensures.odd ∙ ap (bit_and _) c.tops-mask.ensures.mask);
  far_under = stays-under _ _ (tops_of c.args.depths) (c.under.ensures.far ∙ ap (bit_and _) c.tops-mask.ensures.mask);
}
