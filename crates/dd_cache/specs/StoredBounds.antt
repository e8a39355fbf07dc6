-- Bounds by first owners: they hold of each position of a shape whose highest cards have these owners.
use Rattle.std.specs.Prelude.{◌≡◌, ◌≤◌, ◌<◌, ◌⊎◌, ℕ, List, [], length, get_or, Contains}
use Rattle.dd_cards.specs.declared.suit.Suit.{Suit}
use Rattle.dd_play.specs.Board.{Board, IsBoard}
use Rattle.dd_play.specs.Covers.{count_of}
use Rattle.dd_play.specs.Value.{leaders_tricks}
use Rattle.dd_play.specs.Intervals.{Holds}
use Rattle.dd_play.specs.declared.interval.Interval.{Interval}
use Rattle.dd_rank.specs.Depths.{all_cards, depth_in}
use Rattle.dd_rank.specs.Strings.{ShapeOf, shape_of, strings_of}
use Rattle.dd_rank.specs.FirstOwners.{Firsts, AreFirst, IsBeginning}

-- bounds, and the owners under which they hold
pub record StoredBoundsOf : Type 0 where
  pub firsts : Firsts
  pub interval : Interval

-- Positions of the shape have so many cards, and the bounds hold of each that has these first owners.
pub record IsSound (shape : ShapeOf) (told : StoredBoundsOf) : Type 0 where
  pub within : (q : Board) → IsBoard q → shape_of q ≡ shape → (u : Suit) → depth_in told.firsts.depths u ≤ count_of u (all_cards q)
  pub holds : (q : Board) → IsBoard q → q.trick ≡ [] → shape_of q ≡ shape → AreFirst told.firsts (strings_of q) → Holds told.interval (leaders_tricks q)

-- bounds of one shape
pub record PageOf : Type 0 where
  pub shape : ShapeOf
  pub told : List StoredBoundsOf

-- each of a page's bounds is sound
abbrev pub AreSound : PageOf → Type 0
AreSound page = (t : StoredBoundsOf) → Contains page.told t → IsSound page.shape t

-- bounds that say as much as these of each position of the shape of which these hold, so that these are needless
pub record MakesNeedless (new told : StoredBoundsOf) : Type 0 where
  pub lo : told.interval.lo ≤ new.interval.lo
  pub hi : new.interval.hi ≤ told.interval.hi
  pub firsts : IsBeginning new.firsts told.firsts

-- in this place of a list bounds stand that these make needless
pub record StandsNeedless (new : StoredBoundsOf) (told : List StoredBoundsOf) (place : ℕ) : Type 0 where
  pub within : place < length told
  pub needless : MakesNeedless new (get_or told place new)

-- A list with new bounds in it: these are told, each that was told before is told still or made needless by them, and none came besides.
pub record Keeps (old new : List StoredBoundsOf) (bounds : StoredBoundsOf) : Type 0 where
  pub told : Contains new bounds
  pub others : (t : StoredBoundsOf) → Contains old t → Contains new t ⊎ MakesNeedless bounds t
  pub only : (t : StoredBoundsOf) → Contains new t → Contains old t ⊎ (bounds ≡ t)
