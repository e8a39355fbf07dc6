-- To be believed: what a shard keeps: shapes, last used first, each with covers and bounds of the values of the positions that they cover.
use Rattle.std.specs.Prelude.{◌≡◌, ◌≢◌, ℕ, ◌≤◌, ◌⊎◌, List, [], ◌∷◌, ◌++◌, length, take, min, max, Contains, Option, None, Some}
use Rattle.dd_cards.specs.declared.suit.Suit.{Suit}
use Rattle.dd_play.specs.Board.{Board, IsBoard}
use Rattle.dd_play.specs.Covers.{count_of}
use Rattle.dd_play.specs.Value.{leaders_tricks}
use Rattle.dd_rank.specs.Depths.{FourDepths, depth_in, all_cards, Covers}
use Rattle.dd_rank.specs.Strings.{ShapeOf, shape_of}
use Rattle.dd_rank.specs.Cover.{CoverOf, IsSameCover}

-- the most pairs that a shape may have
abbrev pub most_pairs : ℕ
most_pairs = 8

-- bounds, and the depths under which they hold
pub record Told : Type 0 where
  pub depths : FourDepths
  pub lo : ℕ
  pub hi : ℕ

-- a cover, and the least and the greatest value that the positions may have that it covers
pub record Pair : Type 0 where
  pub board : Board
  pub depths : FourDepths
  pub lo : ℕ
  pub hi : ℕ

-- a shape, and its pairs, newest first
pub record Entry : Type 0 where
  pub shape : ShapeOf
  pub pairs : List Pair

-- the entries, last used first, and how many there may be
pub record Entries : Type 0 where
  pub list : List Entry
  pub limit : ℕ

-- the cover of a pair
abbrev pub cover_of : Pair → CoverOf
cover_of x = record { board = x.board; depths = x.depths }

-- the cover of a pair covers q
abbrev pub IsCoverOf : Pair → Board → Type 0
IsCoverOf x q = Covers x.board (depth_in x.depths) q

-- the bounds and the depths of a pair
abbrev pub told_by : Pair → Told
told_by x = record { depths = x.depths; lo = x.lo; hi = x.hi }

-- the pair of a position and of what is told of it
abbrev pub pair_at : Board → Told → Pair
pair_at p told = record { board = p; depths = told.depths; lo = told.lo; hi = told.hi }

-- the value of each position that the pair covers lies within its bounds
abbrev pub IsSound : Pair → Type 0
IsSound x = (q : Board) → IsBoard q → IsCoverOf x q → (x.lo ≤ leaders_tricks q) × (leaders_tricks q ≤ x.hi)

-- a pair of a shape: a start of a trick of that shape, depths that the cards left allow, and bounds that hold
pub record IsPair (shape : ShapeOf) (x : Pair) : Type 0 where
  pub board : IsBoard x.board
  pub no_trick : x.board.trick ≡ []
  pub of_shape : shape_of x.board ≡ shape
  pub within : (u : Suit) → depth_in x.depths u ≤ count_of u (all_cards x.board)
  pub sound : IsSound x

-- one to eight pairs of its shape
pub record IsEntry (e : Entry) : Type 0 where
  pub some : 1 ≤ length e.pairs
  pub few : length e.pairs ≤ most_pairs
  pub each : (x : Pair) → Contains e.pairs x → IsPair e.shape x

-- the shape has no entry in the list
abbrev pub IsAbsent : ShapeOf → List Entry → Type 0
IsAbsent shape list = (e : Entry) → Contains list e → e.shape ≢ shape

-- no shape stands twice
abbrev pub EachOnce : List Entry → Type 0
EachOnce list = (front back : List Entry) (e : Entry) → list ≡ front ++ e ∷ back → IsAbsent e.shape front × IsAbsent e.shape back

-- what holds of every shard
pub record AreEntries (s : Entries) : Type 0 where
  pub once : EachOnce s.list
  pub few : length s.list ≤ s.limit
  pub each : (e : Entry) → Contains s.list e → IsEntry e

-- the entry of the shape stands in the old list, and at the front of the new one, where it is `after`
pub record ToFront (shape : ShapeOf) (old new : List Entry) (before after : Entry) : Type 0 where
  pub of_shape : before.shape ≡ shape
  pub moved : (front : List Entry) × (back : List Entry) × (old ≡ front ++ before ∷ back) × (new ≡ after ∷ front ++ back)

-- none of the pairs covers p
abbrev pub NoneCovers : Board → List Pair → Type 0
NoneCovers p pairs = (x : Pair) → Contains pairs x → ¬ IsCoverOf x p

-- the first of the pairs that covers p tells its bounds and depths; None where no pair covers p
abbrev pub Tells : Board → List Pair → Option Told → Type 0
Tells p pairs None = NoneCovers p pairs
Tells p pairs (Some told) =
    (front : List Pair) × (x : Pair) × (back : List Pair) × (pairs ≡ front ++ x ∷ back) × NoneCovers p front × IsCoverOf x p × (told ≡ told_by x)

-- A look at p: where its shape is in the list, that entry goes to the front, and its pairs tell the answer; where it is not,
-- the answer is None, and nothing changes.
pub record Looks (p : Board) (answer : Option Told) (old new : Entries) : Type 0 where
  pub limit : new.limit ≡ old.limit
  pub looked : ((e : Entry) × ToFront (shape_of p) old.list new.list e e × Tells p e.pairs answer)
      ⊎ (IsAbsent (shape_of p) old.list × (answer ≡ None) × (new.list ≡ old.list))

-- none of the pairs has the cover of x
abbrev pub IsNewCover : Pair → List Pair → Type 0
IsNewCover x pairs = (y : Pair) → Contains pairs y → ¬ IsSameCover (cover_of y) (cover_of x)

-- x, and the bounds of y hold as well
abbrev pub narrowed_pair : Pair → Pair → Pair
narrowed_pair x y = record { board = x.board; depths = x.depths; lo = max x.lo y.lo; hi = min x.hi y.hi }

-- x goes first. The pair with the same cover, if there is one, is taken out, and its bounds hold as well; else a ninth pair,
-- the oldest, is dropped.
abbrev pub PutsFirst : Pair → List Pair → List Pair → Type 0
PutsFirst x old new =
    ((front : List Pair) × (y : Pair) × (back : List Pair) × (old ≡ front ++ y ∷ back) × IsNewCover x front × IsSameCover (cover_of y) (cover_of x)
    × (new ≡ narrowed_pair x y ∷ front ++ back))
    ⊎ (IsNewCover x old × (new ≡ take most_pairs (x ∷ old)))

-- A note of what is told of p: its shape goes to the front, new if need be, where a full list drops its last entry; and the
-- pair goes first among the pairs of the shape.
pub record Notes (p : Board) (told : Told) (old new : Entries) : Type 0 where
  pub limit : new.limit ≡ old.limit
  pub noted : ((e : Entry) × (pairs : List Pair) × ToFront (shape_of p) old.list new.list e (record { shape = e.shape; pairs = pairs }) × PutsFirst (pair_at p told) e.pairs pairs)
      ⊎ (IsAbsent (shape_of p) old.list × (new.list ≡ take old.limit (record { shape = shape_of p; pairs = pair_at p told ∷ [] } ∷ old.list)))
