use Rattle.std.proofs.Common.{◌≡◌, ℕ, ◌≤◌, ◌+◌, ◌*◌, ◌%◌, ◌^◌, sym, ap, ◌∙◌, subst}
use Rattle.dd_cards.specs.declared.suit.Suit.{Suit}
use Rattle.dd_rank.specs.Depths.{FourDepths, depth_in}
use Rattle.dd_rank.specs.DepthMasks.{AreTops, depths_in, tops_of}
use Rattle.dd_rank.specs.FirstOwners.{top_places}
use Rattle.dd_rank.proofs.BySuit.{by-suit}
use Rattle.dd_rank.proofs.DepthLanes.{are-tops, depths-back, moved-tops}
use Rattle.dd_rank.proofs.FourLanes.{lanes-same}
use Rattle.dd_rank.proofs.TopPlaces.{each_suit}
use Rattle.dd_rank.proofs.depths.Depths.of_suits.Goals as goal
use Rattle.dd_rank.proofs.depths.Depths.of_suits.Goals.{After-suit_tops-4}

-- the depths
abbrev four : (c : After-suit_tops-4) → FourDepths
four c = record { spades = c.args.spades; hearts = c.args.hearts; diamonds = c.args.diamonds; clubs = c.args.clubs }

few : (c : After-suit_tops-4) (u : Suit) → depth_in (four c) u ≤ 13
few c = by-suit _ c.requires.0 c.requires.1 c.requires.2 c.requires.3

-- what is made are their bits
made : (c : After-suit_tops-4) → c.suit_tops.result * 2 ^ 48 % 2 ^ 64 + c.suit_tops-2.result * 2 ^ 32 % 2 ^ 64 + c.suit_tops-3.result * 2 ^ 16 % 2 ^ 64 + c.suit_tops-4.result ≡ tops_of (four c)
made c =
    moved-tops c.suit_tops.result c.suit_tops-2.result c.suit_tops-3.result c.suit_tops-4.result
    c.suit_tops.ensures.bound c.suit_tops-2.ensures.bound c.suit_tops-3.ensures.bound c.suit_tops-4.ensures.bound
    ∙ lanes-same (each_suit c.suit_tops.result c.suit_tops-2.result c.suit_tops-3.result c.suit_tops-4.result) (λ u. top_places (depth_in (four c) u))
    (by-suit _ c.suit_tops.ensures.value c.suit_tops-2.ensures.value c.suit_tops-3.ensures.value c.suit_tops-4.ensures.value)

pub returns : goal.returns
returns c = ap depths_in (made c) ∙ depths-back (four c) (few c)

pub invariant_of-result : goal.invariant_of-result
invariant_of-result c = subst AreTops (sym (made c)) (are-tops (four c) (few c))
