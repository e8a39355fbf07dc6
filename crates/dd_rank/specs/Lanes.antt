-- Four suits at once: sixteen bits for each, the spades' on top, and in them bit r for the rank r.
use Rattle.std.specs.Prelude.{ℕ, ◌+◌, ◌*◌, ◌/◌, ◌%◌, ◌^◌, ◌==◌, Bool, List, [], ◌∷◌, map, count_ones}
use Rattle.std.specs.Int.{bit_at}
use Rattle.dd_cards.specs.declared.suit.Suit.{Suit}
use Rattle.dd_cards.specs.declared.suit.Suit.TheVariants.{Spades, Hearts, Diamonds, Clubs}
use Rattle.dd_cards.specs.Suits.{suit_shift}
use Rattle.dd_rank.specs.Strings.{number_of}

-- the bits of a suit
abbrev pub lane : ℕ → Suit → ℕ
lane mask u = mask / 2 ^ suit_shift u % 2 ^ 16

-- is the rank's bit clear?
abbrev pub is_clear : ℕ → ℕ → Bool
is_clear mask r = bit_at mask r == 0

-- the places of the holders of these ranks as one number to the base 4: `odd` has the bits of those of the second and
-- fourth hand, `far` of those of the third and fourth
abbrev pub places_of : ℕ → ℕ → List ℕ → ℕ
places_of odd far ranks = number_of 4 (map (λ r. bit_at odd r + 2 * bit_at far r) ranks)

-- the place of the holder of a suit's highest card
abbrev pub highest_in : ℕ → ℕ → Suit → ℕ
highest_in odd far u = bit_at (lane odd u) 14 + 2 * bit_at (lane far u) 14

-- how many bits of each suit are set, sixteen bits for each, the spades' on top
abbrev pub suit_counts : ℕ → ℕ
suit_counts mask = number_of (2 ^ 16) (count_ones (lane mask Clubs) ∷ count_ones (lane mask Diamonds) ∷ count_ones (lane mask Hearts) ∷ count_ones (lane mask Spades) ∷ [])
