-- bids by level and strain
use Rattle.std.proofs.Common.{◌≡◌, ℕ, ◌-◌, ◌%◌, ◌<◌, ◌≤◌, refl, ap, ◌∙◌, arith}
use Rattle.dd_cards.specs.declared.suit.Suit.TheVariants.{Spades, Hearts, Diamonds, Clubs}
use Rattle.dd_cards.specs.declared.strain.Strain.{Strain}
use Rattle.dd_cards.specs.declared.strain.Strain.TheVariants.{Trump, Notrump}
use Rattle.dd_score.specs.Bids.{level_of, strain_of, strain_at, strain_place, bid_of}

-- a strain's place is one of five
pub place-few : (strain : Strain) → strain_place strain < 5
place-few (Trump Clubs) = omega arith
place-few (Trump Diamonds) = omega arith
place-few (Trump Hearts) = omega arith
place-few (Trump Spades) = omega arith
place-few Notrump = omega arith

-- a strain by its place
strain-again : (strain : Strain) → strain_at (strain_place strain) ≡ strain
strain-again (Trump Clubs) = refl
strain-again (Trump Diamonds) = refl
strain-again (Trump Hearts) = refl
strain-again (Trump Spades) = refl
strain-again Notrump = refl

-- the level of a level's bid
pub level-again : (level : ℕ) (strain : Strain) → 1 ≤ level → level_of (bid_of level strain) ≡ level
unfolding level_of
level-again level strain h = let p : strain_place strain < 5 = place-few strain in omega (arith, p)

-- and its strain
pub strain-of-bid : (level : ℕ) (strain : Strain) → strain_of (bid_of level strain) ≡ strain
unfolding strain_of
strain-of-bid level strain =
    let p : strain_place strain < 5 = place-few strain in
    let e : (bid_of level strain - 1) % 5 ≡ strain_place strain = omega (arith, p) in
    ap strain_at e ∙ strain-again strain
