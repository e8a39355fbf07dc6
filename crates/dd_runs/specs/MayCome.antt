-- To be believed: which steps can come: so the law of all runs isn't kept by there being none.
use Rattle.std.specs.Prelude.{◌≡◌, ℕ, ◌≤◌, [], ◌∷◌, slice_get}
use Rattle.std.specs.declared.option.Option.TheVariants.{None, Some}
use Rattle.dd_play.specs.Board.{Board}
use Rattle.dd_play.specs.Value.{leaders_tricks}
use Rattle.dd_shard.specs.Entries.{Entries, Told}
use Rattle.dd_book.specs.declared.call.Call.{Call}
use Rattle.dd_book.specs.Calls.{reply_of}
use Rattle.dd_desk.specs.Events.{IsBy}
use Rattle.dd_runs.specs.Worlds.{Places, World}
use Rattle.dd_runs.specs.Steps.{CarriesRight, HasDepths, HoldsFor, IsStart, call, get, look, note, set}
use Rattle.dd_runs.specs.Runs.{Leads}

-- in every world every caller may make every call that names it and carries no wrong answer
abbrev pub CallsMayCome : Type 0
CallsMayCome =
    (at : Places) (u : World) (k : ℕ) (c : Call) → IsBy k c → CarriesRight c
    → (w : World) × Leads at u (call k c (reply_of u.book c) ∷ []) w

-- what is noted of a position in an empty shard, a look at it may then be told
abbrev pub NotesMayBeTold : Type 0
NotesMayBeTold =
    (at : Places) (u : World) (shard : Entries) (p : Board) (told : Told) → IsStart p
    → HasDepths p told → HoldsFor p told → slice_get u.shards (at.shard_of p) ≡ Some shard
    → shard.list ≡ [] → 1 ≤ shard.limit
    → (w : World) × Leads at u (note p told ∷ look p (Some told) ∷ []) w

-- what is set in an empty cell, a get of it may then be told
abbrev pub SetsMayBeTold : Type 0
SetsMayBeTold =
    (at : Places) (u : World) (p : Board) → IsStart p → slice_get u.front (at.cell_of p) ≡ Some None
    → (w : World) × Leads at u (set (at.cell_of p) p (leaders_tricks p)
    ∷ get (at.cell_of p) p (Some (leaders_tricks p)) ∷ []) w
