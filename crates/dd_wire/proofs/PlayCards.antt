-- The cards of a play, as pairs of whole numbers.
use Rattle.std.proofs.Common.{◌≡◌, ℕ, ◌+◌, ◌<◌, sym, ap, ◌∙◌, List, [], ◌∷◌, ◌++◌, length, take, get_or, Option, Some}
use Rattle.std.proofs.lemmas.List.{take_more}
use Rattle.serde_json.specs.declared.value.Value.{Value}
use Rattle.serde_json.specs.View.{items_view}
use Rattle.dd_cards.specs.PlayingCard.{PlayingCard}
use Rattle.dd_wire.specs.Reading.{pair_in}
use Rattle.dd_wire.specs.ReadingPlay.{AreCards, ReadsCards}
use Rattle.dd_wire.specs.Requests.{pairs_of}
use Rattle.dd_wire.proofs.Pairs.{pairs-append}

-- one pair more, as they are read
pub reads-card : (values : List Value) (i : ℕ) (value : Value) (pair : ℕ × ℕ) (old new : Option (List PlayingCard)) → i < length values → value ≡ get_or values i value → pair_in value ≡ Some pair
    → ((pairs : List (ℕ × ℕ)) → AreCards old pairs → AreCards new (pairs ++ pair ∷ []))
    → ReadsCards (pairs_of (items_view (take i values))) old → ReadsCards (pairs_of (items_view (take (i + 1) values))) new
reads-card values i value pair old new within here is more before =
    record {
      pairs = before.pairs ++ pair ∷ [];
      are = ap (λ (vs : List Value). pairs_of (items_view vs)) (take_more values i value within ∙ ap (λ (v : Value). take i values ++ v ∷ []) (sym here)) ∙ pairs-append (take i values) value before.pairs pair before.are is;
      cards_are = more before.pairs before.cards_are;
    }
