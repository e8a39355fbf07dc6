use Rattle.std.proofs.Common.{take}
use Rattle.serde_json.specs.View.{items_view}
use Rattle.dd_wire.specs.ReadingPlay.{ReadsCards, list_in}
use Rattle.dd_wire.specs.Requests.{pairs_of}
use Rattle.dd_wire.proofs.play_reader.cards_of.Given as goal

-- The cards of the pairs so far.
abbrev pub invariant-loop-value : goal.invariant-loop-value
invariant-loop-value l = ReadsCards (pairs_of (items_view (take l.value-index l.values))) (list_in l.cards)
