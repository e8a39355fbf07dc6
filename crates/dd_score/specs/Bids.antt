-- To be believed: bids by their numbers, 1 to 35: one club, one diamond, one heart, one spade, one notrump, two clubs and so on.
use Rattle.std.specs.Prelude.{ℕ, zero, suc, ◌+◌, ◌-◌, ◌*◌, ◌/◌, ◌%◌}
use Rattle.dd_cards.specs.declared.suit.Suit.TheVariants.{Spades, Hearts, Diamonds, Clubs}
use Rattle.dd_cards.specs.declared.strain.Strain.{Strain}
use Rattle.dd_cards.specs.declared.strain.Strain.TheVariants.{Trump, Notrump}

-- the strains from the lowest, counted from 0
abbrev pub strain_at : ℕ → Strain
strain_at zero = Trump Clubs
strain_at (suc zero) = Trump Diamonds
strain_at (suc (suc zero)) = Trump Hearts
strain_at (suc (suc (suc zero))) = Trump Spades
strain_at (suc (suc (suc (suc more)))) = Notrump

-- the odd tricks that a bid undertakes to win
unfoldable pub level_of : ℕ → ℕ
level_of number = (number - 1) / 5 + 1

-- the strain that a bid names
unfoldable pub strain_of : ℕ → Strain
strain_of number = strain_at ((number - 1) % 5)

-- a strain's place from the lowest, counted from 0
abbrev pub strain_place : Strain → ℕ
strain_place (Trump Clubs) = 0
strain_place (Trump Diamonds) = 1
strain_place (Trump Hearts) = 2
strain_place (Trump Spades) = 3
strain_place Notrump = 4

-- the bid of a level in a strain
abbrev pub bid_of : ℕ → Strain → ℕ
bid_of level strain = 5 * (level - 1) + strain_place strain + 1
