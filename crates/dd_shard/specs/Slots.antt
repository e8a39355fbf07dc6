-- The pairs of a slot, and what a shard tells, as plain data.
use Rattle.std.specs.Prelude.{◌≡◌, ◌≢◌, List, [], ◌∷◌, Option, None, Some, Contains}
use Rattle.dd_play.specs.declared.interval.Interval.{Interval}
use Rattle.dd_rank.specs.Depths.{FourDepths}
use Rattle.dd_rank.specs.Strings.{ShapeOf, shape_of}
use Rattle.dd_rank.specs.Cover.{CoverOf}
use Rattle.dd_shard.specs.Entries.{Told, Pair}
use Rattle.dd_shard.specs.declared.slot.Bounded.{Bounded}

-- a cover and an interval as a pair
abbrev pub pair_of : CoverOf → Interval → Pair
pair_of cover bounds = record { board = cover.board; depths = cover.depths; lo = bounds.lo; hi = bounds.hi }

-- an interval and depths as what is told
abbrev pub told_of : Interval × FourDepths → Told
told_of told = record { depths = told.1; lo = told.0.lo; hi = told.0.hi }

-- the pairs of the places that have one
abbrev pub known_pairs : List (Option Bounded) → List Pair
known_pairs [] = []
known_pairs (None ∷ places) = known_pairs places
known_pairs (Some x ∷ places) = pair_of x.cover x.bounds ∷ known_pairs places

-- no place is blank
abbrev pub AllKnown : List (Option Bounded) → Type 0
AllKnown places = (place : Option Bounded) → Contains places place → place ≢ None

-- the pairs are of positions of this shape
abbrev pub HaveShape : ShapeOf → List Pair → Type 0
HaveShape shape pairs = (x : Pair) → Contains pairs x → shape_of x.board ≡ shape
