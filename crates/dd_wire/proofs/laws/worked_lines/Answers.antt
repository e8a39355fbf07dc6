use Rattle.std.proofs.Common.{refl, arith, inl, inr, [], ◌∷◌}
use Rattle.std.specs.Prelude.{Err}
use Rattle.std.specs.Str.{is_utf8, chars}
use Rattle.serde_json.proofs.OnLiterals.{serde_json_on_literals}
use Rattle.dd_cards.specs.declared.seat.Seat.TheVariants.{North, East}
use Rattle.dd_cards.specs.declared.strain.Strain.TheVariants.{Trump, Notrump}
use Rattle.dd_cards.specs.declared.suit.Suit.TheVariants.{Spades}
use Rattle.dd_cards.specs.Cards.{card_of}
use Rattle.dd_pbn.specs.declared.fault.PbnFault.TheVariants.{Absent, Twice}
use Rattle.dd_pbn.specs.Examples.{eight_spades, two_suits}
use Rattle.dd_pbn.proofs.CallerLemmas.{left-out, spades-and-hearts, tag-from-east, two-aces}
use Rattle.dd_play.specs.Board.{board_of}
use Rattle.dd_wire.specs.declared.fault.Fault.TheVariants.{WrongField}
use Rattle.dd_wire.proofs.Meanings.{means-table}
use Rattle.dd_wire.proofs.RequestExamples.{asks-best, asks-all, ace-led}
use Rattle.dd_wire.proofs.laws.worked_lines.Goals as goal

pub returns-clause-best_cards : goal.returns-clause-best_cards
unfolding is_utf8 chars serde_json_on_literals
returns-clause-best_cards c = (_, (_, inl (two_suits, spades-and-hearts.0, spades-and-hearts.1, (board_of two_suits Notrump East [], record { hands = refl; strain = refl; first = refl; trick = refl }, asks-best)), refl), refl)

pub returns-clause-every_card : goal.returns-clause-every_card
unfolding is_utf8 chars serde_json_on_literals
returns-clause-every_card c = (_, (_, inl (eight_spades, tag-from-east.0, tag-from-east.1, (board_of eight_spades (Trump Spades) North [], record { hands = refl; strain = refl; first = refl; trick = refl }, asks-all)), refl), refl)

pub returns-clause-table : goal.returns-clause-table
unfolding is_utf8 chars serde_json_on_literals
returns-clause-table c = (_, (_, inl (two_suits, spades-and-hearts.0, spades-and-hearts.1, means-table two_suits (refl, refl, refl) (omega arith)), refl), refl)

pub returns-clause-trump_of_a_table : goal.returns-clause-trump_of_a_table
unfolding is_utf8 chars serde_json_on_literals
returns-clause-trump_of_a_table c = (Err WrongField, refl, refl)

pub returns-clause-health : goal.returns-clause-health
unfolding is_utf8 chars serde_json_on_literals
returns-clause-health c = (Err WrongField, refl, refl)

pub returns-clause-no_object : goal.returns-clause-no_object
unfolding is_utf8 chars serde_json_on_literals
returns-clause-no_object c = refl

pub returns-clause-three_numbers : goal.returns-clause-three_numbers
unfolding is_utf8 chars serde_json_on_literals
returns-clause-three_numbers c = (Err WrongField, refl, refl)

pub returns-clause-left_out : goal.returns-clause-left_out
unfolding is_utf8 chars serde_json_on_literals
returns-clause-left_out c = (_, (_, inr (Absent, left-out, refl), refl), refl)

pub returns-clause-two_aces : goal.returns-clause-two_aces
unfolding is_utf8 chars serde_json_on_literals
returns-clause-two_aces c = (_, (_, inr (Twice, two-aces, refl), refl), refl)

pub returns-clause-no_trump : goal.returns-clause-no_trump
unfolding is_utf8 chars serde_json_on_literals
returns-clause-no_trump c = (_, (_, inl (two_suits, spades-and-hearts.0, spades-and-hearts.1, refl), refl), refl)

pub returns-clause-no_seat : goal.returns-clause-no_seat
unfolding is_utf8 chars serde_json_on_literals
returns-clause-no_seat c = (_, (_, inl (two_suits, spades-and-hearts.0, spades-and-hearts.1, refl), refl), refl)

pub returns-clause-no_card : goal.returns-clause-no_card
unfolding is_utf8 chars serde_json_on_literals
returns-clause-no_card c = (_, (_, inl (two_suits, spades-and-hearts.0, spades-and-hearts.1, refl), refl), refl)

pub returns-clause-no_solutions : goal.returns-clause-no_solutions
unfolding is_utf8 chars serde_json_on_literals
returns-clause-no_solutions c = (_, (_, inl (two_suits, spades-and-hearts.0, spades-and-hearts.1, refl), refl), refl)

pub returns-clause-ace_led : goal.returns-clause-ace_led
unfolding is_utf8 chars serde_json_on_literals
returns-clause-ace_led c = (_, (_, inl (two_suits, spades-and-hearts.0, spades-and-hearts.1, (board_of two_suits Notrump North (card_of Spades 14 ∷ []), record { hands = refl; strain = refl; first = refl; trick = refl }, ace-led)), refl), refl)

pub returns-clause-par_by_dealer : goal.returns-clause-par_by_dealer
unfolding is_utf8 chars serde_json_on_literals
returns-clause-par_by_dealer c = refl

pub returns-clause-par_by_side : goal.returns-clause-par_by_side
unfolding is_utf8 chars serde_json_on_literals
returns-clause-par_by_side c = refl

pub returns-clause-no_dealer : goal.returns-clause-no_dealer
unfolding is_utf8 chars serde_json_on_literals
returns-clause-no_dealer c = refl

pub returns-clause-no_vulnerability : goal.returns-clause-no_vulnerability
unfolding is_utf8 chars serde_json_on_literals
returns-clause-no_vulnerability c = refl

pub returns-clause-no_result : goal.returns-clause-no_result
unfolding is_utf8 chars serde_json_on_literals
returns-clause-no_result c = refl

pub returns-clause-dealer_and_side : goal.returns-clause-dealer_and_side
unfolding is_utf8 chars serde_json_on_literals
returns-clause-dealer_and_side c = (Err WrongField, refl, refl)

pub returns-clause-table_and_deal : goal.returns-clause-table_and_deal
unfolding is_utf8 chars serde_json_on_literals
returns-clause-table_and_deal c = (Err WrongField, refl, refl)

pub returns-clause-nineteen_results : goal.returns-clause-nineteen_results
unfolding is_utf8 chars serde_json_on_literals
returns-clause-nineteen_results c = (Err WrongField, refl, refl)

pub returns-clause-wait : goal.returns-clause-wait
unfolding is_utf8 chars serde_json_on_literals
returns-clause-wait c = (_, (_, inl (two_suits, spades-and-hearts.0, spades-and-hearts.1, means-table two_suits (refl, refl, refl) (omega arith)), refl), refl)

pub returns-clause-wait_below_zero : goal.returns-clause-wait_below_zero
unfolding is_utf8 chars serde_json_on_literals
returns-clause-wait_below_zero c = refl
