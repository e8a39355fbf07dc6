-- Reading a request line, step by step.
use Rattle.std.specs.Prelude.{◌≡◌, ℕ, ◌<◌, ◌⊎◌, List, length, map, Option, None, Some, option_map, IsTrue, IsFalse}
use Rattle.arrayvec.specs.declared.array_vec.ArrayVec.{ArrayVec}
use Rattle.serde_json.specs.View.{view}
use Rattle.serde_json.specs.declared.value.Value.{Value}
use Rattle.dd_cards.specs.PlayingCard.{PlayingCard}
use Rattle.dd_play.specs.declared.play_fault.PlayFault.{PlayFault}
use Rattle.dd_play.specs.declared.play_fault.PlayFault.TheVariants.{Played, Twice, Uneven, Empty}
use Rattle.dd_wire.specs.declared.fault.Fault.{Fault}
use Rattle.dd_wire.specs.declared.fault.Fault.TheVariants.{NotAnObject, CardTwice, WrongPlayed, UnevenHands, NoCard, OutOfMemory}
use Rattle.dd_wire.specs.declared.request_reader.SolveFields as kept
use Rattle.dd_wire.specs.declared.target_reader.TargetFields as kept_target
use Rattle.dd_wire.specs.declared.request_reader.TheConstants.{MOST_PLAYED}
use Rattle.dd_wire.specs.Requests.{SolveFields, TargetFields, object_of, pair_of_value, are_cards, pair_of_card}

-- why a line gives no object: memory ran out, or the line is none
abbrev pub IsUnread : List ℕ → Fault → Type 0
IsUnread line fault = ((fault ≡ OutOfMemory) × (0 < length line)) ⊎ ((fault ≡ NotAnObject) × (object_of line ≡ None))

-- the pair that a value is
abbrev pub pair_in : Value → Option (ℕ × ℕ)
pair_in value = pair_of_value (view value)

-- the cards are those of these pairs, and there are none where the pairs are no cards that may lie on a trick
abbrev pub ArePlayed : Option (List PlayingCard) → List (ℕ × ℕ) → Type 0
ArePlayed None pairs = IsFalse (are_cards pairs)
ArePlayed (Some cards) pairs = IsTrue (are_cards pairs) × (map pair_of_card cards ≡ pairs)

-- pairs were read, and these cards are theirs
pub record ReadsPlayed (read : Option (List (ℕ × ℕ))) (cards : Option (List PlayingCard)) : Type 0 where
  pub pairs : List (ℕ × ℕ)
  pub are : read ≡ Some pairs
  pub played : ArePlayed cards pairs

-- the cards that are kept, where there are any
abbrev pub cards_in : Option (ArrayVec PlayingCard MOST_PLAYED (Unit {0})) → Option (List PlayingCard)
cards_in kept = option_map (λ cards. cards.items) kept

-- the cards played, as the program keeps them
abbrev pub played_in : kept.SolveFields → Option (List PlayingCard)
played_in fields = cards_in fields.played

-- the fields, as the program keeps them, where these are the pairs
abbrev pub fields_of : kept.SolveFields → List (ℕ × ℕ) → SolveFields
fields_of fields pairs = record { deal = fields.deal.now; trump = fields.trump; first = fields.first; played = pairs; solutions = fields.solutions }

-- fields were read, and the program keeps them so
pub record ReadsFields (read : Option SolveFields) (fields : kept.SolveFields) : Type 0 where
  pub pairs : List (ℕ × ℕ)
  pub are : read ≡ Some (fields_of fields pairs)
  pub played : ArePlayed (played_in fields) pairs

-- the fields with a target, as the program keeps them, where these are the pairs
abbrev pub target_fields_of : kept_target.TargetFields → List (ℕ × ℕ) → TargetFields
target_fields_of fields pairs = record { solve = fields_of fields.solve pairs; target = fields.target }

-- fields with a target were read, and the program keeps them so
pub record ReadsTarget (read : Option TargetFields) (fields : kept_target.TargetFields) : Type 0 where
  pub pairs : List (ℕ × ℕ)
  pub are : read ≡ Some (target_fields_of fields pairs)
  pub played : ArePlayed (played_in fields.solve) pairs

-- the fault of a request whose cards are no position
abbrev pub play_fault : PlayFault → Fault
play_fault Played = WrongPlayed
play_fault Twice = CardTwice
play_fault Uneven = UnevenHands
play_fault Empty = NoCard
