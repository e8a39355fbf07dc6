-- What the fields of a request for a play ask: something, and one thing.
use Rattle.std.proofs.Common.{◌≡◌, ◌<◌, ◌≤◌, inl, inr, true, false, refl, sym, ap, ◌∙◌, subst, arith, List, [], length}
use Rattle.std.specs.Prelude.{Result, Ok, Err, map, nat_lt, nat_le}
use Rattle.std.specs.List.{list_all}
use Rattle.std.proofs.lemmas.Bool.{le-ltb, ltb-false}
use Rattle.std.proofs.lemmas.Bool.Decides.{eqb_tells}
use Rattle.dd_cards.specs.PlayingCard.{PlayingCard}
use Rattle.dd_cards.specs.Seats.{seat_code}
use Rattle.dd_cards.specs.Strains.{strain_code}
use Rattle.dd_cards.specs.declared.seat.Seat.{Seat}
use Rattle.dd_cards.specs.declared.strain.Strain.{Strain}
use Rattle.dd_cards.specs.Hands.{AreHands, FourHands, times}
use Rattle.dd_cards.proofs.CallerLemmas.{seat_code-injective, strain_code-injective, and-right}
use Rattle.dd_play.specs.Board.{Board, board_of, IsEven, tricks_left}
use Rattle.dd_play.specs.Positions as positions
use Rattle.dd_play.specs.declared.play_fault.PlayFault.{PlayFault}
use Rattle.dd_play.specs.declared.play_fault.PlayFault.TheVariants.{Played, Twice, Uneven, Empty}
use Rattle.dd_play.proofs.CallerLemmas.{times_in-once, board-eq}
use Rattle.dd_request.specs.declared.card_fault.CardFault.{CardFault}
use Rattle.dd_request.specs.declared.card_fault.CardFault.TheVariants as faults
use Rattle.dd_request.specs.CardFaults.{IsFirstFault}
use Rattle.dd_request.specs.Plays.{Play, IsRegular}
use Rattle.dd_request.specs.declared.asked.Asked.TheVariants as asked
use Rattle.serde_json.specs.Data.{Members}
use Rattle.dd_request.proofs.CallerLemmas.{regular-decided, regular-faultless, one-first-fault}
use Rattle.dd_wire.specs.declared.fault.Fault.{Fault}
use Rattle.dd_wire.specs.declared.fault.Fault.TheVariants.{WrongTrump, WrongFirst, WrongPlayed, UnevenHands, NoCard, OutOfMemory}
use Rattle.dd_wire.specs.PlayLines.{PlayFields, MeansAsked, MeansPlay, MeansPlayed, MeansPlayFields, IsPlayOf, are_cards_played, card_fault, play_fields}
use Rattle.dd_wire.specs.Reading.{play_fault}
use Rattle.dd_wire.specs.Requests.{pair_of_card}
use Rattle.dd_wire.proofs.Pairs.{is_card}
use Rattle.dd_wire.proofs.Meanings.{SomeMeaning, by-test, by-bool, by-fields, by-option, cards-of, deal-memory, even-decided, object-memory, seat-of, some-deal, some-object, some-way, strain-of, way-memory}
use Rattle.dd_wire.proofs.OneMeaning.{AtMostOne, both, one-by-option, one-by-test, one-deal, one-object, one-trick, one-way}

-- ---- the cards decide

-- hands that aren't even
pub play-uneven : (play : Play) → (IsEven play.opening → ⊥) → MeansPlay play (Err UnevenHands)
play-uneven play odd = record { uneven = λ _. refl; none = λ even _. absurd (odd even); fault = λ even _ _ _. absurd (odd even); some = λ even _ _. absurd (odd even) }

-- no card to play
pub play-empty : (play : Play) → IsEven play.opening → tricks_left play.opening ≡ 0 → MeansPlay play (Err NoCard)
play-empty play even empty =
    record { uneven = λ odd. absurd (odd even); none = λ _ _. refl; fault = λ _ more _ _. absurd (omega (arith, empty, more)); some = λ _ more _. absurd (omega (arith, empty, more)) }

-- a card that may not be played in its turn
pub play-faulty : (play : Play) (fault : CardFault) → IsEven play.opening → 0 < tricks_left play.opening → IsFirstFault fault play.opening play.cards → MeansPlay play (Err (card_fault fault))
play-faulty play fault even more is =
    record {
      uneven = λ odd. absurd (odd even);
      none = λ _ empty. absurd (omega (arith, empty, more));
      fault = λ _ _ other there. ap (λ (f : CardFault). Err (card_fault f)) (one-first-fault fault other play.opening play.cards is there);
      some = λ _ _ regular. absurd (regular-faultless fault play.opening play.cards regular is);
    }

-- and a play
pub play-regular : (play : Play) → IsEven play.opening → 0 < tricks_left play.opening → IsRegular play.opening play.cards → MeansPlay play (Ok play)
play-regular play even more regular =
    record {
      uneven = λ odd. absurd (odd even);
      none = λ _ empty. absurd (omega (arith, empty, more));
      fault = λ _ _ fault there. absurd (regular-faultless fault play.opening play.cards regular there);
      some = λ _ _ _. refl;
    }

-- hands that are no position before a lead: no card stands twice in hands, and none lies on the trick
pub opening-fault : (play : Play) (fault : PlayFault) → AreHands play.opening.hands → play.opening.trick ≡ [] → positions.IsFirstFault fault play.opening → MeansPlay play (Err (play_fault fault))
opening-fault play Played are start is = absurd (let none = ap length start in omega (arith, is, none))
opening-fault play Twice are start is = absurd (is.1 (λ c. let once = times_in-once play.opening.hands c are in let none = ap (λ cards. times cards c) start in omega (arith, once, none)))
opening-fault play Uneven are start is = play-uneven play is.2
opening-fault play Empty are start is = play-empty play is.2 is.3

-- with a strain, a leader and cards in range the cards decide
pub means-played : (fields : PlayFields) (hands : FourHands) (strain : Strain) (first : Seat) (cards : List PlayingCard) (meaning : Result Play Fault)
    → strain_code strain ≡ fields.trump → fields.trump ≤ 4 → seat_code first ≡ fields.first → fields.first < 4 → map pair_of_card cards ≡ fields.cards → are_cards_played fields.cards ≡ true
    → MeansPlay (record { opening = board_of hands strain first []; cards = cards }) meaning → MeansPlayed fields hands meaning
means-played fields hands strain first cards meaning trump low leader below played are means =
    let strain-test : nat_lt 4 fields.trump ≡ false = le-ltb 4 fields.trump low in
    let first-test : nat_lt 3 fields.first ≡ false = le-ltb 3 fields.first (omega arith) in
    rw (strain-test, first-test, are) (record { opening = board_of hands strain first []; cards = cards }, record { dealt = refl; strain = trump; first = leader; trick = refl; cards = played }, means)

-- ---- every one has a meaning
some-play : (play : Play) → SomeMeaning (MeansPlay play)
some-play play =
    elim (even-decided play.opening) [
      | inr odd ↦ (Err UnevenHands, play-uneven play odd)
      | inl even ↦ elim (eqb_tells (tricks_left play.opening) 0) [
        | inl none ↦ (Err NoCard, play-empty play even none.1)
        | inr some ↦ (let more : 0 < tricks_left play.opening = (let ne = some.1 in omega arith) in elim (regular-decided play.opening play.cards) [
          | inl regular ↦ (Ok play, play-regular play even more regular)
          | inr fault ↦ (Err (card_fault fault.0), play-faulty play fault.0 even more fault.1)
        ])
      ]
    ]

some-played : (fields : PlayFields) (hands : FourHands) → SomeMeaning (MeansPlayed fields hands)
some-played fields hands =
    by-test (nat_lt 4 fields.trump) _ _ (λ _. (Err WrongTrump, refl)) (λ trump.
    by-test (nat_lt 3 fields.first) _ _ (λ _. (Err WrongFirst, refl)) (λ first.
    by-test (are_cards_played fields.cards) _ _ (λ played. cards trump first played) (λ _. (Err WrongPlayed, refl))))
  where
    cards : nat_lt 4 fields.trump ≡ false → nat_lt 3 fields.first ≡ false → are_cards_played fields.cards ≡ true → SomeMeaning (λ m. (play : Play) × IsPlayOf hands fields play × MeansPlay play m)
    cards trump first played =
        let strain = strain-of fields.trump (ltb-false 4 fields.trump trump) in
        let seat = seat-of fields.first (ltb-false 3 fields.first first) in
        let cards = cards-of fields.cards (and-right (nat_le (length fields.cards) 52) (list_all is_card fields.cards) played) in
        let play : Play = record { opening = board_of hands strain.0 seat.0 []; cards = cards.0 } in
        let means = some-play play in
        (means.0, (play, record { dealt = refl; strain = strain.1; first = seat.1; trick = refl; cards = cards.1 }, means.1))

some-play-fields : (fields : PlayFields) → SomeMeaning (MeansPlayFields fields)
some-play-fields fields = some-deal fields.deal (MeansPlayed fields) (λ hands _. some-played fields hands)

-- what a job book takes too
pub some-taken : (members : Members) → SomeMeaning (MeansAsked members)
some-taken members = by-option (play_fields members) _ _ (some-object members) (λ fields _. some-way asked.Play (MeansPlayFields fields) (some-play-fields fields))

-- ---- and one
one-play : (play : Play) → AtMostOne (MeansPlay play)
one-play play a b means_a means_b =
    elim (even-decided play.opening) [
      | inr odd ↦ both _ a b (means_a.uneven odd) (means_b.uneven odd)
      | inl even ↦ elim (eqb_tells (tricks_left play.opening) 0) [
        | inl none ↦ both _ a b (means_a.none even none.1) (means_b.none even none.1)
        | inr some ↦ (let more : 0 < tricks_left play.opening = (let ne = some.1 in omega arith) in elim (regular-decided play.opening play.cards) [
          | inl regular ↦ both _ a b (means_a.some even more regular) (means_b.some even more regular)
          | inr fault ↦ both _ a b (means_a.fault even more fault.0 fault.1) (means_b.fault even more fault.0 fault.1)
        ])
      ]
    ]

-- fields ask for one play
one-asked : (hands : FourHands) (fields : PlayFields) (x y : Play) → IsPlayOf hands fields x → IsPlayOf hands fields y → x ≡ y
one-asked hands fields x y asks_x asks_y =
    same-play x.opening y.opening x.cards y.cards
    (board-eq x.opening.hands y.opening.hands x.opening.strain y.opening.strain x.opening.first y.opening.first x.opening.trick y.opening.trick (asks_x.dealt ∙ sym asks_y.dealt)
    (strain_code-injective x.opening.strain y.opening.strain (asks_x.strain ∙ sym asks_y.strain))
    (seat_code-injective x.opening.first y.opening.first (asks_x.first ∙ sym asks_y.first))
    (asks_x.trick ∙ sym asks_y.trick))
    (one-trick x.cards y.cards (asks_x.cards ∙ sym asks_y.cards))
  where
    same-play : (p q : Board) (cs ds : List PlayingCard) → p ≡ q → cs ≡ ds → record { opening = p; cards = cs } ≡ (let play : Play = record { opening = q; cards = ds } in play)
    same-play p q cs ds a b = rw (a, b) refl

one-played : (fields : PlayFields) (hands : FourHands) → AtMostOne (MeansPlayed fields hands)
one-played fields hands =
    one-by-test (nat_lt 4 fields.trump) _ _ (both _)
    (one-by-test (nat_lt 3 fields.first) _ _ (both _)
    (one-by-test (are_cards_played fields.cards) _ _ cards (both _)))
  where
    cards : AtMostOne (λ m. (play : Play) × IsPlayOf hands fields play × MeansPlay play m)
    cards a b (x, asks_x, means_x) (y, asks_y, means_y) =
        let same : y ≡ x = one-asked hands fields y x asks_y asks_x in
        one-play x a b means_x (subst (λ (play : Play). MeansPlay play b) same means_y)

one-play-fields : (fields : PlayFields) → AtMostOne (MeansPlayFields fields)
one-play-fields fields = one-deal fields.deal (MeansPlayed fields) (λ hands _. one-played fields hands)

pub one-taken : (members : Members) → AtMostOne (MeansAsked members)
one-taken members = one-by-option (play_fields members) _ _ (one-object members) (λ fields. one-way asked.Play (MeansPlayFields fields) (one-play-fields fields))

-- ---- no meaning is that memory ran out
card-memory : (fault : CardFault) → Err OutOfMemory ≡ (let err : Result Play Fault = Err (card_fault fault) in err) → ⊥
card-memory faults.AfterLast is = cc
card-memory faults.NotInHand is = cc
card-memory faults.Revoke is = cc

one-memory : (play : Play) → MeansPlay play (Err OutOfMemory) → ⊥
one-memory play means =
    elim (even-decided play.opening) [
      | inr odd ↦ (let no = means.uneven odd in cc)
      | inl even ↦ elim (eqb_tells (tricks_left play.opening) 0) [
        | inl none ↦ (let no = means.none even none.1 in cc)
        | inr some ↦ (let more : 0 < tricks_left play.opening = (let ne = some.1 in omega arith) in elim (regular-decided play.opening play.cards) [
          | inl regular ↦ (let no = means.some even more regular in cc)
          | inr fault ↦ card-memory fault.0 (means.fault even more fault.0 fault.1)
        ])
      ]
    ]

played-memory : (fields : PlayFields) (hands : FourHands) → MeansPlayed fields hands (Err OutOfMemory) → ⊥
played-memory fields hands =
    by-bool (nat_lt 4 fields.trump) _ _ (λ no. cc)
    (by-bool (nat_lt 3 fields.first) _ _ (λ no. cc)
    (by-bool (are_cards_played fields.cards) _ _ (λ asked. one-memory asked.0 asked.2) (λ no. cc)))

play-memory : (fields : PlayFields) → MeansPlayFields fields (Err OutOfMemory) → ⊥
play-memory fields = deal-memory fields.deal (MeansPlayed fields) (played-memory fields)

pub taken-memory : (members : Members) → MeansAsked members (Err OutOfMemory) → ⊥
taken-memory members =
    by-fields (play_fields members) _ _ (object-memory members) (λ fields means. way-memory asked.Play (MeansPlayFields fields) (play-memory fields) means.0 means.1 means.2)
