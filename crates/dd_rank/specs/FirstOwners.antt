-- Of each suit's owners the first so many: those of its highest cards.
use Rattle.std.specs.Prelude.{◌≡◌, ℕ, ◌-◌, ◌<◌, ◌≤◌, ◌%◌, ◌^◌, bit_and}
use Rattle.dd_cards.specs.declared.suit.Suit.{Suit}
use Rattle.dd_cards.specs.declared.suit.Suit.TheVariants.{Spades, Hearts, Diamonds, Clubs}
use Rattle.dd_rank.specs.Depths.{FourDepths, depth_in}
use Rattle.dd_rank.specs.Lanes.{lane}
use Rattle.dd_rank.specs.Strings.{Strings, string_in}

-- how many of each suit, and these owners as a number to the base 4, the highest card's the lowest digit
pub record Firsts : Type 0 where
  pub depths : FourDepths
  pub spades : ℕ
  pub hearts : ℕ
  pub diamonds : ℕ
  pub clubs : ℕ

-- the first owners of a suit
abbrev pub first_in : Firsts → Suit → ℕ
first_in f Spades = f.spades
first_in f Hearts = f.hearts
first_in f Diamonds = f.diamonds
first_in f Clubs = f.clubs

-- the first owners of a position are these
abbrev pub AreFirst : Firsts → Strings → Type 0
AreFirst f s = (u : Suit) → string_in s u % 4 ^ depth_in f.depths u ≡ first_in f u

-- in each suit these are no more than those, and the first of them
abbrev pub IsBeginning : Firsts → Firsts → Type 0
IsBeginning few many = (u : Suit) → (depth_in few.depths u ≤ depth_in many.depths u) × (first_in many u % 4 ^ depth_in few.depths u ≡ first_in few u)

-- the bits in which so many of a suit's highest cards stand, where no card is missing between them
abbrev pub top_places : ℕ → ℕ
top_places depth = 2 ^ 15 - 2 ^ (15 - depth)

-- the bits of so many cards of each suit, and owners that have no others
pub record AreUnder (depths : FourDepths) (mask odd far : ℕ) : Type 0 where
  pub fits : mask < 2 ^ 64
  pub few : (u : Suit) → depth_in depths u ≤ 13
  pub tops : (u : Suit) → lane mask u ≡ top_places (depth_in depths u)
  pub odd_under : bit_and odd mask ≡ odd
  pub far_under : bit_and far mask ≡ far
