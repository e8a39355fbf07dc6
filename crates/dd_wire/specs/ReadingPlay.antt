-- Reading a line that asks for a play, step by step.
use Rattle.std.specs.Prelude.{◌≡◌, ℕ, List, map, Option, None, Some, option_map, IsTrue, IsFalse}
use Rattle.arrayvec.specs.declared.array_vec.ArrayVec.{ArrayVec}
use Rattle.dd_cards.specs.PlayingCard.{PlayingCard}
use Rattle.dd_request.specs.declared.play_request.TheConstants.{MOST_CARDS}
use Rattle.dd_wire.specs.declared.play_reader.PlayFields as kept
use Rattle.dd_wire.specs.PlayLines.{PlayFields, are_cards_played}
use Rattle.dd_wire.specs.Requests.{pair_of_card}

-- the cards are those of these pairs, and there are none where the pairs are no cards of a play
abbrev pub AreCards : Option (List PlayingCard) → List (ℕ × ℕ) → Type 0
AreCards None pairs = IsFalse (are_cards_played pairs)
AreCards (Some cards) pairs = IsTrue (are_cards_played pairs) × (map pair_of_card cards ≡ pairs)

-- pairs were read, and these cards are theirs
pub record ReadsCards (read : Option (List (ℕ × ℕ))) (cards : Option (List PlayingCard)) : Type 0 where
  pub pairs : List (ℕ × ℕ)
  pub are : read ≡ Some pairs
  pub cards_are : AreCards cards pairs

-- the cards that are kept, where there are any
abbrev pub list_in : Option (ArrayVec PlayingCard MOST_CARDS (Unit {0})) → Option (List PlayingCard)
list_in kept = option_map (λ cards. cards.items) kept

-- the cards of the play, as the program keeps them
abbrev pub cards_kept : kept.PlayFields → Option (List PlayingCard)
cards_kept fields = list_in fields.cards

-- the fields, as the program keeps them, where these are the pairs
abbrev pub fields_of : kept.PlayFields → List (ℕ × ℕ) → PlayFields
fields_of fields pairs = record { deal = fields.deal.now; trump = fields.trump; first = fields.first; cards = pairs }

-- fields were read, and the program keeps them so
pub record ReadsFields (read : Option PlayFields) (fields : kept.PlayFields) : Type 0 where
  pub pairs : List (ℕ × ℕ)
  pub are : read ≡ Some (fields_of fields pairs)
  pub cards_are : AreCards (cards_kept fields) pairs
