use Rattle.std.proofs.Common.{take}
use Rattle.std.specs.Prelude.{option_map}
use Rattle.serde_json.specs.View.{items_view}
use Rattle.dd_wire.specs.Reading.{ReadsPlayed}
use Rattle.dd_wire.specs.Requests.{pairs_of}
use Rattle.dd_wire.proofs.request_reader.played_of.Given as goal

-- The cards of the pairs so far.
abbrev pub invariant-loop-value : goal.invariant-loop-value
invariant-loop-value l = ReadsPlayed (pairs_of (items_view (take l.value-index l.values))) (option_map (λ cards. cards.items) l.played)
