-- To be believed: what any actor may do in one step, and what becomes of the world.
use Rattle.std.specs.Prelude.{◌≡◌, ℕ, ◌≤◌, ◌⊎◌, List, [], ◌∷◌, ◌++◌, length, slice_get}
use Rattle.std.specs.declared.option.Option.{Option}
use Rattle.std.specs.declared.option.Option.TheVariants.{Some}
use Rattle.dd_cards.specs.declared.suit.Suit.{Suit}
use Rattle.dd_play.specs.Board.{Board, IsBoard}
use Rattle.dd_play.specs.Covers.{count_of}
use Rattle.dd_play.specs.Value.{leaders_tricks}
use Rattle.dd_rank.specs.Depths.{Covers, all_cards, depth_in}
use Rattle.dd_request.specs.Plays.{position_tricks}
use Rattle.dd_request.specs.Questions.{solved_question}
use Rattle.dd_request.specs.Results.{part_result}
use Rattle.dd_request.specs.Targets.{solved_target}
use Rattle.dd_shard.specs.Entries.{Entries, Looks, Notes, Told}
use Rattle.dd_table.specs.Front.{Exact, Gets, Sets}
use Rattle.dd_book.specs.declared.call.Call.{Call}
use Rattle.dd_book.specs.declared.call.Call.TheVariants.{Submit, Claim, Finish, Cancel, Fetch, Shut}
use Rattle.dd_book.specs.declared.call.Outcome.{Outcome}
use Rattle.dd_book.specs.declared.call.Outcome.TheVariants.{Solved, Part, Target, PlayPart, Spent, Stopped}
use Rattle.dd_book.specs.declared.call.Reply.{Reply}
use Rattle.dd_book.specs.Calls.{after, reply_of}
use Rattle.dd_desk.specs.Events.{IsBy, event}
use Rattle.dd_runs.specs.Worlds.{Places, World}

-- A step with what it is answered: a caller's call of the book; a look at a shard, and a note to it;
-- a get of a cell of the front, and a set.
pub data Step : Type 0 where
  call : ℕ → Call → Reply → Step
  look : Board → Option Told → Step
  note : Board → Told → Step
  get : ℕ → Board → Option ℕ → Step
  set : ℕ → Board → ℕ → Step

-- ---- what an actor owes

-- a position at the start of a trick
abbrev pub IsStart : Board → Type 0
IsStart p = IsBoard p × (p.trick ≡ [])

-- the number lies within the bounds
abbrev pub IsWithin : Told → ℕ → Type 0
IsWithin told n = (told.lo ≤ n) × (n ≤ told.hi)

-- the value of each position that p covers at these depths lies within the bounds
abbrev pub HoldsFor : Board → Told → Type 0
HoldsFor p told =
    (q : Board) → IsBoard q → Covers p (depth_in told.depths) q → IsWithin told (leaders_tricks q)

-- no depth is above the cards that are left of its suit
abbrev pub HasDepths : Board → Told → Type 0
HasDepths p told = (u : Suit) → depth_in told.depths u ≤ count_of u (all_cards p)

-- an answer or a result is that of the request, or of the part, that it names, and tricks are those of the side from the
-- position on
abbrev pub IsRight : Outcome → Type 0
IsRight (Solved solved) = solved ≡ solved_question solved.asked
IsRight (Part solved) = solved ≡ part_result solved.hands solved.part
IsRight (Target solved) = solved ≡ solved_target solved.asked
IsRight (PlayPart solved) = solved ≡ position_tricks solved.board solved.side
IsRight Spent = Unit {0}
IsRight Stopped = Unit {0}

abbrev pub CarriesRight : Call → Type 0
CarriesRight (Submit caller asked) = Unit {0}
CarriesRight (Claim worker) = Unit {0}
CarriesRight (Finish worker job claim outcome) = IsRight outcome
CarriesRight (Cancel caller job) = Unit {0}
CarriesRight (Fetch caller job) = Unit {0}
CarriesRight Shut = Unit {0}

-- A call names its caller, and carries no wrong answer. Looks, notes, gets and sets are of positions
-- at the start of a trick; what is noted holds, and what is set is the position's value, in its cell.
abbrev pub IsAllowed : Places → Step → Type 0
IsAllowed at (call k c reply) = IsBy k c × CarriesRight c
IsAllowed at (look p answer) = IsStart p
IsAllowed at (note p told) = IsStart p × HasDepths p told × HoldsFor p told
IsAllowed at (get cell p answer) = IsStart p
IsAllowed at (set cell p value) = IsStart p × (value ≡ leaders_tricks p) × (cell ≡ at.cell_of p)

-- ---- what it does

-- the element at a place is exchanged
pub record Exchanges {A : Type 0} (place : ℕ) (old new : List A) (x y : A) : Type 0 where
  pub front : List A
  pub back : List A
  pub at : length front ≡ place
  pub before : old ≡ front ++ x ∷ back
  pub after : new ≡ front ++ y ∷ back

-- a position with its value, as a cell has it
abbrev pub exact : Board → ℕ → Exact
exact p value = record { board = p; value = value }

-- the parts of a world that a step leaves
abbrev pub SameBook : World → World → Type 0
SameBook u w = (w.book ≡ u.book) × (w.journal ≡ u.journal)

abbrev pub SameTable : World → World → Type 0
SameTable u w = (w.shards ≡ u.shards) × (w.front ≡ u.front)

-- A call is answered by the book, changes it and joins the journal. A look and a note are those of a
-- shard's list (`Looks`, `Notes`); a note may be lost where memory is refused. A get and a set are
-- those of a cell (`Gets`, `Sets`); a get changes nothing.
abbrev pub Does : Places → World → Step → World → Type 0
Does at u (call k c reply) w =
    (reply ≡ reply_of u.book c) × (w.book ≡ after u.book c)
    × (w.journal ≡ u.journal ++ event k c reply ∷ []) × SameTable u w
Does at u (look p answer) w =
    SameBook u w × (w.front ≡ u.front) × ((old : Entries) × (new : Entries)
    × Exchanges (at.shard_of p) u.shards w.shards old new × Looks p answer old new)
Does at u (note p told) w =
    SameBook u w × (w.front ≡ u.front) × ((old : Entries) × (new : Entries)
    × Exchanges (at.shard_of p) u.shards w.shards old new × (Notes p told old new ⊎ (new ≡ old)))
Does at u (get cell p answer) w =
    (w ≡ u) × ((held : Option Exact) × (slice_get u.front cell ≡ Some held) × Gets p answer held)
Does at u (set cell p value) w =
    SameBook u w × (w.shards ≡ u.shards) × ((old : Option Exact) × (new : Option Exact)
    × Exchanges cell u.front w.front old new × Sets (exact p value) old new)
