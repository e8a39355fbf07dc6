-- Whose turn it is in a trick: the first hand leads, and each hand after it finds one card more on the trick.
use Rattle.std.specs.Prelude.{ℕ}
use Rattle.dd_order.specs.declared.turn.Turn.{Turn}
use Rattle.dd_order.specs.declared.turn.Turn.TheVariants.{First, Second, Third, Fourth}

-- the cards that lie on the trick when it is this hand's turn
abbrev pub cards_before : Turn → ℕ
cards_before First = 0
cards_before Second = 1
cards_before Third = 2
cards_before Fourth = 3
