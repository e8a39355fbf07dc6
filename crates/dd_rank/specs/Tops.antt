-- The owners of the highest cards of each suit, as a cover keeps them beside its position.
use Rattle.std.specs.Prelude.{◌≡◌, ◌-◌, ◌≤◌, ◌%◌, ◌^◌, []}
use Rattle.dd_cards.specs.declared.suit.Suit.{Suit}
use Rattle.dd_cards.specs.declared.suit.Suit.TheVariants.{Spades, Hearts, Diamonds, Clubs}
use Rattle.dd_play.specs.Board.{Board, IsBoard}
use Rattle.dd_play.specs.Covers.{count_of}
use Rattle.dd_rank.specs.Depths.{FourDepths, depth_in, all_cards}
use Rattle.dd_rank.specs.Strings.{owners_number}
use Rattle.dd_rank.specs.declared.cover.Cover.TheInside.{Inside}
use Rattle.dd_rank.specs.declared.cover.TopOwners.{TopOwners}

-- the two bits of each of the suit's first owners, and those owners
pub record IsTopOf (p : Board) (depths : FourDepths) (u : Suit) (top : TopOwners) : Type 0 where
  pub mask : top.mask ≡ 4 ^ depth_in depths u - 1
  pub owners : top.owners ≡ owners_number p u % 4 ^ depth_in depths u

-- a start of a trick with depths that it has, and the first owners of its suits
pub record IsPacked (c : Inside) : Type 0 where
  pub board : IsBoard c.start
  pub no_trick : c.start.trick ≡ []
  pub within : (u : Suit) → depth_in c.depths u ≤ count_of u (all_cards c.start)
  pub spades_top : IsTopOf c.start c.depths Spades c.spades
  pub hearts_top : IsTopOf c.start c.depths Hearts c.hearts
  pub diamonds_top : IsTopOf c.start c.depths Diamonds c.diamonds
  pub clubs_top : IsTopOf c.start c.depths Clubs c.clubs
