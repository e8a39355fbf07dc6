-- The card of a place gives the place back.
use Rattle.std.proofs.Common.{◌≡◌, ℕ, zero, suc, ◌*◌, ◌/◌, ◌<◌, refl, ap, arith}
use Rattle.dd_cards.specs.Suits.{suit_shift}
use Rattle.dd_cards.specs.Cards.{place_of}
use Rattle.dd_cards.specs.Places.{IsPlace, suit_of_lane, at_place}
use Rattle.dd_cards.specs.declared.place.Place.TheInside.{Inside}

-- the suit of a lane has its bits there
pub suit_of_lane-shift : (lane : ℕ) → lane < 4 → suit_shift (suit_of_lane lane) ≡ 16 * lane
suit_of_lane-shift zero h = refl
suit_of_lane-shift (suc zero) h = refl
suit_of_lane-shift (suc (suc zero)) h = refl
suit_of_lane-shift (suc (suc (suc zero))) h = refl
suit_of_lane-shift (suc (suc (suc (suc lane)))) h = absurd (omega (arith, h))

-- the card of a place stands at that place
pub place_of-at_place : (n : ℕ) → n < 64 → place_of (at_place n) ≡ n
unfolding at_place
place_of-at_place n h =
    let e = suit_of_lane-shift (n / 16) (omega (arith, h)) in
    omega (arith, e)

-- so a place is told by its card
pub place_of-inside : (p : Inside) → IsPlace p.at → record { at = place_of (at_place p.at) } ≡ p
place_of-inside p valid =
    let P : ℕ → Inside = λ n. record { at = n } in
    ap P (place_of-at_place p.at valid.0)
