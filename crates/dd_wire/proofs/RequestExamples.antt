-- The definitions at work: what request lines are as fields, which of their values are in range, and what boards are asked about.
use Rattle.std.proofs.Common.{◌≡◌, ℕ, zero, suc, ◌≤◌, refl, true, false, arith, [], ◌∷◌, List}
use Rattle.std.specs.Prelude.{codes, None, Some, Ok, Err, Option, option_and_then}
use Rattle.std.specs.Str.{is_utf8, chars}
use Rattle.serde_json.proofs.OnLiterals.{serde_json_on_literals}
use Rattle.dd_cards.specs.declared.seat.Seat.{Seat}
use Rattle.dd_cards.specs.declared.seat.Seat.TheVariants.{North, East}
use Rattle.dd_cards.specs.declared.strain.Strain.{Strain}
use Rattle.dd_cards.specs.declared.strain.Strain.TheVariants.{Trump, Notrump}
use Rattle.dd_cards.specs.declared.suit.Suit.TheVariants.{Spades}
use Rattle.dd_cards.specs.Cards.{card_of}
use Rattle.dd_cards.specs.Hands.{FourHands, AreHands}
use Rattle.dd_pbn.specs.Examples.{eight_spades, two_suits}
use Rattle.dd_pbn.proofs.CallerLemmas.{spades-and-hearts, tag-from-east}
use Rattle.dd_play.specs.Board.{board_of, NoneTwice, IsEven}
use Rattle.dd_play.proofs.CallerLemmas.{times_in-once}
use Rattle.dd_pbn.specs.Values.{begins_tag}
use Rattle.dd_wire.specs.declared.fault.Fault.TheVariants.{CardTwice}
use Rattle.dd_wire.specs.Requests.{SolveFields, MeansBoard, question, object_of, solve_fields, are_cards}
use Rattle.dd_wire.proofs.Starts.{means-twice, means-some}

-- the fields of a line
abbrev fields : List ℕ → Option SolveFields
fields line = option_and_then solve_fields (object_of line)

-- the cards played may be left out, and the fields stand in any order
played-left-out : fields (codes "{\"trump\":4,\"first\":0,\"solutions\":3,\"deal\":\"N:\",\"do\":\"solve\"}") ≡ Some (record { deal = codes "N:"; trump = 4; first = 0; played = []; solutions = 3 })
unfolding is_utf8 chars serde_json_on_literals
played-left-out = refl

-- cards played, as suits and ranks
two-played : fields (codes "{\"do\":\"solve\",\"deal\":\"\",\"trump\":0,\"first\":3,\"solutions\":1,\"played\":[[0,14],[3,2]]}") ≡ Some (record { deal = []; trump = 0; first = 3; played = (0, 14) ∷ (3, 2) ∷ []; solutions = 1 })
unfolding is_utf8 chars serde_json_on_literals
two-played = refl

-- of a key that stands twice the last value counts
last-counts : fields (codes "{\"do\":\"solve\",\"deal\":\"\",\"trump\":9,\"first\":0,\"solutions\":3,\"trump\":4}") ≡ Some (record { deal = []; trump = 4; first = 0; played = []; solutions = 3 })
unfolding is_utf8 chars serde_json_on_literals
last-counts = refl

-- three numbers are no card played
three-numbers : fields (codes "{\"do\":\"solve\",\"deal\":\"\",\"trump\":4,\"first\":0,\"solutions\":3,\"played\":[[0,14,0]]}") ≡ None
unfolding is_utf8 chars serde_json_on_literals
three-numbers = refl

-- a number with a point is no whole number
no-point : fields (codes "{\"do\":\"solve\",\"deal\":\"\",\"trump\":4.0,\"first\":0,\"solutions\":3}") ≡ None
unfolding is_utf8 chars serde_json_on_literals
no-point = refl

-- no other field may stand there
unknown-field : fields (codes "{\"do\":\"solve\",\"deal\":\"\",\"trump\":4,\"first\":0,\"solutions\":3,\"x\":1}") ≡ None
unfolding is_utf8 chars serde_json_on_literals
unknown-field = refl

-- up to three cards lie on a trick
three-cards : are_cards ((0, 14) ∷ (3, 2) ∷ (1, 10) ∷ []) ≡ true
three-cards = refl

four-cards : are_cards ((0, 14) ∷ (3, 2) ∷ (1, 10) ∷ (1, 11) ∷ []) ≡ false
four-cards = refl

-- there is no fifth suit, and no rank above the ace
no-suit : are_cards ((4, 14) ∷ []) ≡ false
no-suit = refl

no-rank : are_cards ((0, 15) ∷ []) ≡ false
no-rank = refl

-- a tag begins with [, past blanks
tag-begins : begins_tag (codes " [Deal \"N:\"]") ≡ true
tag-begins = refl

value-begins : begins_tag (codes "N:[") ≡ false
value-begins = refl

-- ---- boards
-- each hand of this deal has two cards
suits-even : IsEven (board_of two_suits Notrump East [])
suits-even zero h = refl
suits-even (suc zero) h = refl
suits-even (suc (suc zero)) h = refl
suits-even (suc (suc (suc zero))) h = refl
suits-even (suc (suc (suc (suc k)))) h = absurd (omega arith)

-- and of this
spades-even : IsEven (board_of eight_spades (Trump Spades) North [])
spades-even zero h = refl
spades-even (suc zero) h = refl
spades-even (suc (suc zero)) h = refl
spades-even (suc (suc (suc zero))) h = refl
spades-even (suc (suc (suc (suc k)))) h = absurd (omega arith)

-- four hands hold no card twice
none-twice : (hands : FourHands) (strain : Strain) (first : Seat) → AreHands hands → NoneTwice (board_of hands strain first [])
none-twice hands strain first are c = let one = times_in-once hands c are in omega arith

-- East is asked for the best cards
pub asks-best : MeansBoard (board_of two_suits Notrump East []) (question 2 (board_of two_suits Notrump East [])) (Ok (record { board = board_of two_suits Notrump East []; solutions = 2 }))
asks-best = means-some (board_of two_suits Notrump East []) (question 2 (board_of two_suits Notrump East [])) (none-twice two_suits Notrump East spades-and-hearts.0) suits-even (omega arith)

-- North is asked for every card
pub asks-all : MeansBoard (board_of eight_spades (Trump Spades) North []) (question 3 (board_of eight_spades (Trump Spades) North [])) (Ok (record { board = board_of eight_spades (Trump Spades) North []; solutions = 3 }))
asks-all = means-some (board_of eight_spades (Trump Spades) North []) (question 3 (board_of eight_spades (Trump Spades) North [])) (none-twice eight_spades (Trump Spades) North tag-from-east.0) spades-even (omega arith)

-- the ace that is led is still in North's hand
pub ace-led : MeansBoard (board_of two_suits Notrump North (card_of Spades 14 ∷ [])) (question 3 (board_of two_suits Notrump North (card_of Spades 14 ∷ []))) (Err CardTwice)
ace-led = means-twice (board_of two_suits Notrump North (card_of Spades 14 ∷ [])) (question 3 (board_of two_suits Notrump North (card_of Spades 14 ∷ []))) (λ once. (let most : 2 ≤ 1 = once (card_of Spades 14) in omega arith))
