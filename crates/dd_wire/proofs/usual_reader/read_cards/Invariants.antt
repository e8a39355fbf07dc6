use Rattle.std.proofs.Common.{ℕ, List}
use Rattle.std.specs.Prelude.{Some}
use Rattle.json.specs.Lex.{fresh, after_value}
use Rattle.serde_json.specs.Data.{Items}
use Rattle.dd_wire.specs.Reading.{ArePlayed}
use Rattle.dd_wire.specs.UsualLines.{AreItems, pairs_before}
use Rattle.dd_wire.proofs.usual_reader.read_cards.Given as goal

-- The pairs so far are the cards', and come before what is left.
abbrev pub invariant-cards : goal.invariant-cards
invariant-cards l = (pairs : List (ℕ × ℕ)) × ArePlayed (Some l.cards.items) pairs × ((items : Items) (end : List ℕ) → AreItems 1 after_value l.rest items end → AreItems 1 fresh l.text (pairs_before pairs items) end)
