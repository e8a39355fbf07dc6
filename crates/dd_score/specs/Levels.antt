-- The five bids of a level, offered in turn.
use Rattle.std.specs.Prelude.{ℕ, List, ℤ}
use Rattle.dd_cards.specs.declared.seat.Seat.{Seat}
use Rattle.dd_cards.specs.declared.suit.Suit.TheVariants.{Spades, Hearts, Diamonds, Clubs}
use Rattle.dd_cards.specs.declared.strain.Strain.TheVariants.{Trump, Notrump}
use Rattle.dd_score.specs.declared.vulnerable.Vulnerable.{Vulnerable}
use Rattle.dd_score.specs.Bids.{bid_of}
use Rattle.dd_score.specs.Stands.{offered}

-- what stands after them
unfoldable pub level_offered : List (List ℕ) → Vulnerable → ℕ → List Seat → ℤ → ℤ
level_offered table vulnerable level seats x =
    offered table vulnerable (bid_of level Notrump) seats
    (offered table vulnerable (bid_of level (Trump Spades)) seats
    (offered table vulnerable (bid_of level (Trump Hearts)) seats
    (offered table vulnerable (bid_of level (Trump Diamonds)) seats (offered table vulnerable (bid_of level (Trump Clubs)) seats x))))
