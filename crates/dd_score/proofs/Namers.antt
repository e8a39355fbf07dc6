-- who declares is of the bidder's side
use Rattle.std.proofs.Common.{◌≡◌, Bool, true, false, cond, refl, ap, ◌∙◌}
use Rattle.std.specs.Prelude.{◌&&◌, ◌==◌}
use Rattle.dd_cards.specs.declared.seat.Seat.{Seat}
use Rattle.dd_cards.specs.declared.side.Side.{Side}
use Rattle.dd_cards.specs.declared.side.Side.TheVariants.{NorthSouth, EastWest}
use Rattle.dd_cards.specs.declared.strain.Strain.{Strain}
use Rattle.dd_cards.specs.Sides.{side_of, other_side, same_side, is_side}
use Rattle.dd_cards.specs.Strains.{strain_code}
use Rattle.dd_cards.proofs.CallerLemmas.{is-same}
use Rattle.dd_score.specs.Auctions.{pass, bid, double, redouble, Auction, opened_by, called, caller, bidder, declarer, first_to_name}
use Rattle.dd_score.specs.Bids.{strain_of}

-- no side is the other one
pub apart : (side : Side) → other_side side ≡ side → ⊥
apart NorthSouth e = cc
apart EastWest e = cc

-- the other side's other side
pub other-other : (side : Side) → other_side (other_side side) ≡ side
other-other NorthSouth = refl
other-other EastWest = refl

-- a caller of the other side is none of this side
pub not-of : (side : Side) (seat : Seat) → side_of seat ≡ other_side side → is_side side seat ≡ false
not-of side seat h = ap (λ x. same_side x side) h ∙ turned side
  where
    turned : (x : Side) → same_side (other_side x) x ≡ false
    turned NorthSouth = refl
    turned EastWest = refl

-- who names a strain first for a side is of that side
pub namer-side : (a : Auction) (side : Side) (strain : Strain) (late : Seat) → side_of late ≡ side → side_of (first_to_name a side strain late) ≡ side
namer-side (opened_by dealer) side strain late h = h
namer-side (called a pass) side strain late h = namer-side a side strain late h
namer-side (called a (bid k)) side strain late h =
    namer-side a side strain _ (pick (is_side side (caller a)) (strain_code (strain_of k) == strain_code strain) refl)
  where
    pick : (x y : Bool) → is_side side (caller a) ≡ x → side_of (cond (x && y) (caller a) late) ≡ side
    pick true true e = is-same (side_of (caller a)) side e
    pick true false e = h
    pick false y e = h
namer-side (called a double) side strain late h = namer-side a side strain late h
namer-side (called a redouble) side strain late h = namer-side a side strain late h

-- declarer is of the bidder's side
pub declarer-side : (a : Auction) → side_of (declarer a) ≡ side_of (bidder a)
declarer-side (opened_by dealer) = refl
declarer-side (called a pass) = declarer-side a
declarer-side (called a (bid k)) = namer-side a (side_of (caller a)) (strain_of k) (caller a) refl
declarer-side (called a double) = declarer-side a
declarer-side (called a redouble) = declarer-side a
