-- What a shut needs.
use Rattle.std.specs.Prelude.{◌<◌, ℕ, Option, IsSome}

-- lists of so many elements with so much room have room for a receipt and its mark more, and there is an event to fill
abbrev pub IsReady : {E : Type 0} → ℕ → ℕ → ℕ → ℕ → Option E → Type 0
IsReady receipts room marks marks_room spare = (receipts < room) × (marks < marks_room) × IsSome spare
