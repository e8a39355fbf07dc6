use Rattle.std.proofs.Common.{◌∙◌, ap, bit_and}
use Rattle.dd_rank.specs.DepthMasks.{tops_of}
use Rattle.dd_cards.specs.declared.suit.Suit.TheVariants.{Spades, Hearts, Diamonds, Clubs}
use Rattle.dd_rank.proofs.BySuit.{by-suit}
use Rattle.dd_rank.proofs.Packed.{true-is}
use Rattle.dd_rank.proofs.TopPlaces.{under-tells, under-gives}
use Rattle.dd_rank.proofs.first_owners.FirstOwners.include.Goals as goal

pub returns-then-are : goal.returns-then-are
returns-then-are c =
    let s = c.self.inside in
    let o = c.other.inside in
    rw (← c.self.view_is, ← c.other.view_is) (
      λ h. (let each = under-tells c.are.result s.depths (tops_of s.depths) s.places.odd s.places.far o.places.odd o.places.far _ _ c.self.invariant (c.under.ensures.odd ∙ ap (bit_and _) c.tops-mask.ensures.mask) (c.under.ensures.far ∙ ap (bit_and _) c.tops-mask.ensures.mask) c.are.ensures (true-is c.are.result c.if-are.true) in
          let few = c.are_within.ensures.0 h in
          by-suit _ (few Spades, each Spades) (few Hearts, each Hearts) (few Diamonds, each Diamonds) (few Clubs, each Clubs)),
      λ f. c.are_within.ensures.1 (λ u. (f u).0),
    )

pub returns-else-are : goal.returns-else-are
returns-else-are c =
    let s = c.self.inside in
    let o = c.other.inside in
    rw (← c.self.view_is, ← c.other.view_is) (
      λ h. absurd (let f = c.if-are.false in cc),
      λ f. under-gives c.are.result s.depths (tops_of s.depths) s.places.odd s.places.far o.places.odd o.places.far _ _ c.self.invariant (c.under.ensures.odd ∙ ap (bit_and _) c.tops-mask.ensures.mask) (c.under.ensures.far ∙ ap (bit_and _) c.tops-mask.ensures.mask) c.are.ensures
          (by-suit _ (f Spades).1 (f Hearts).1 (f Diamonds).1 (f Clubs).1),
    )
