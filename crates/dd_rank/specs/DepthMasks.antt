-- Depths as the bits in which so many of each suit's highest cards stand.
use Rattle.std.specs.Prelude.{◌≡◌, ℕ, ◌+◌, ◌*◌, ◌≤◌, count_ones}
use Rattle.dd_cards.specs.declared.suit.Suit.{Suit}
use Rattle.dd_cards.specs.declared.suit.Suit.TheVariants.{Spades, Hearts, Diamonds, Clubs}
use Rattle.dd_rank.specs.Depths.{FourDepths, depth_in}
use Rattle.dd_rank.specs.FirstOwners.{top_places}
use Rattle.dd_rank.specs.Lanes.{lane}

-- how many bits of each suit are set
abbrev pub depths_in : ℕ → FourDepths
depths_in tops = record {
  spades = count_ones (lane tops Spades);
  hearts = count_ones (lane tops Hearts);
  diamonds = count_ones (lane tops Diamonds);
  clubs = count_ones (lane tops Clubs);
}

-- the bits of so many of each suit's highest cards
abbrev pub tops_of : FourDepths → ℕ
tops_of d = top_places d.clubs + 65536 * top_places d.diamonds + 4294967296 * top_places d.hearts + 281474976710656 * top_places d.spades

-- the bits are those of no more than thirteen of each suit's highest cards
pub record AreTops (tops : ℕ) : Type 0 where
  pub few : (u : Suit) → depth_in (depths_in tops) u ≤ 13
  pub highest : tops_of (depths_in tops) ≡ tops
