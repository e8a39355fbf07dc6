use Rattle.std.proofs.Common.{◌∙◌, ap, bit_and}
use Rattle.dd_rank.specs.DepthMasks.{tops_of}
use Rattle.dd_cards.specs.declared.suit.Suit.TheVariants.{Spades, Hearts, Diamonds, Clubs}
use Rattle.dd_rank.proofs.BySuit.{by-suit}
use Rattle.dd_rank.proofs.TopPlaces.{under-tells, under-gives}
use Rattle.dd_rank.proofs.first_owners.FirstOwners.are_in.Goals as goal

pub returns : goal.returns
returns c =
    let s = c.self.inside in
    let o = c.strings.inside in
    rw (← c.self.view_is, ← c.strings.view_is) (
      λ h. (let each = under-tells c.are.result s.depths (tops_of s.depths) s.places.odd s.places.far o.places.odd o.places.far _ _ c.self.invariant (c.under.ensures.odd ∙ ap (bit_and _) c.tops-mask.ensures.mask) (c.under.ensures.far ∙ ap (bit_and _) c.tops-mask.ensures.mask) c.are.ensures h in
          by-suit _ (each Spades) (each Hearts) (each Diamonds) (each Clubs)),
      λ f. under-gives c.are.result s.depths (tops_of s.depths) s.places.odd s.places.far o.places.odd o.places.far _ _ c.self.invariant
          (c.under.ensures.odd ∙ ap (bit_and _) c.tops-mask.ensures.mask) (c.under.ensures.far ∙ ap (bit_and _) c.tops-mask.ensures.mask) c.are.ensures (by-suit _ (f Spades) (f Hearts) (f Diamonds) (f Clubs)),
    )
