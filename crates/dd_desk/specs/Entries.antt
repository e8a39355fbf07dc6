-- What a note of a place's cell knows.
use Rattle.std.specs.Prelude.{◌≡◌, ℕ, ◌+◌, ◌<◌, List, [], length, take, Option, None, Some, slice_get}
use Rattle.std.specs.Option.{option_map}
use Rattle.dd_desk.specs.declared.entry.Entry.{Entry}
use Rattle.dd_desk.specs.Events.{EventOf}
use Rattle.dd_desk.specs.Looks.{SeenOf, seen_of}
use Rattle.dd_desk.specs.Receipts.{HasReceipts, PassOf}

-- the event there, and the journal that ends with it
abbrev pub event_in : Option Entry → Option EventOf
event_in known = option_map (λ (e : Entry). e.event) known

abbrev pub journal_in : Option Entry → Option (List EventOf)
journal_in known = option_map (λ (e : Entry). e.upto.events) known

-- at each place of the journal its beginning is known that ends there
abbrev pub AreBeginnings : List (Option (List EventOf)) → List EventOf → Type 0
AreBeginnings known journal =
    (place : ℕ) → place < length journal → slice_get known place ≡ Some (Some (take (place + 1) journal))

-- the last journal that is known has all receipts of the pass
abbrev pub LastHas : List (Option (List EventOf)) → PassOf → Type 0
LastHas known pass =
    (at : ℕ) (journal : List EventOf) → at + 1 ≡ length pass.receipts → slice_get known at ≡ Some (Some journal) → HasReceipts journal pass

-- what the pass of this number has seen by such a note
abbrev pub seen_by : ℕ → Option Entry → SeenOf
seen_by number None = seen_of number []
seen_by number (Some entry) = seen_of number entry.upto.events
