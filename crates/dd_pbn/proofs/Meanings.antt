-- what is seen of a value: its hands, whether one is left out, and whether a card stands twice
use Rattle.std.proofs.Common.{◌≡◌, ◌≢◌, ℕ, ◌≤◌, Bool, true, false, refl, sym, ap, ◌∙◌, subst, arith, List, [], ◌∷◌, ◌++◌, length, Option, Some, None, inl, inr}
use Rattle.std.specs.Prelude.{◌||◌}
use Rattle.std.proofs.lemmas.Bool.{cases_Bool}
use Rattle.dd_cards.specs.declared.seat.Seat.{Seat}
use Rattle.dd_cards.specs.declared.seat.Seat.TheVariants.{North, East, South, West}
use Rattle.dd_cards.specs.declared.suit.Suit.{Suit}
use Rattle.dd_cards.specs.declared.suit.Suit.TheVariants.{Spades, Hearts, Diamonds, Clubs}
use Rattle.dd_cards.specs.Seats.{next_seat, seat_after}
use Rattle.dd_cards.specs.PlayingCard.{PlayingCard}
use Rattle.dd_cards.specs.Ranks.{IsRank}
use Rattle.dd_cards.specs.Cards.{has_card}
use Rattle.dd_cards.specs.Hands.{hand_of, times, AreHands, FourHands, dealt}
use Rattle.dd_cards.proofs.CallerLemmas.{AreHands-new, real-set, same-members, times-append}
use Rattle.dd_pbn.specs.declared.hands_so_far.HandsSoFar.{HandsSoFar}
use Rattle.dd_pbn.specs.Letters.{rank_of}
use Rattle.dd_pbn.specs.Values.{HandText, suits, dash, Value}
use Rattle.dd_pbn.specs.Deals.{cards_of_suit, cards_of_hand, cards_of_value, is_dash, leaves_out, Holds, Spells}
use Rattle.dd_pbn.specs.Reading.{nothing, note}
use Rattle.dd_pbn.proofs.Bytes.{rank_of-real}
use Rattle.dd_pbn.proofs.HandTexts.{note_all, note_hand}
use Rattle.dd_pbn.proofs.ValueTexts.{seen_of}
use Rattle.dd_pbn.proofs.Noting.{AllReal, real-has, real-append, times-pile, has_double, doubled-some, doubled-none, doubled-past, pile, Sees, Sees-all, absent-all, others-all, holds-all}

-- ---- real cards
-- the cards that letters spell are real
real-suit : (suit : Suit) (letters : List ℕ) → AllReal (cards_of_suit suit letters)
real-suit suit [] = tt
real-suit suit (byte ∷ letters) = go (real-suit suit letters) (rank_of byte) refl
  where
    go : AllReal (cards_of_suit suit letters) → (o : Option ℕ) → rank_of byte ≡ o → AllReal (cards_of_suit suit (byte ∷ letters))
    go rest None none = rw none rest
    go rest (Some rank) some = rw some (rank_of-real byte rank some, rest)

-- the cards of a hand are real
pub real-hand : (hand : HandText) → AllReal (cards_of_hand hand)
real-hand dash = tt
real-hand (suits a b c d) =
    real-append (cards_of_suit Spades a ++ cards_of_suit Hearts b ++ cards_of_suit Diamonds c) (cards_of_suit Clubs d)
    (real-append (cards_of_suit Spades a ++ cards_of_suit Hearts b) (cards_of_suit Diamonds c)
    (real-append (cards_of_suit Spades a) (cards_of_suit Hearts b) (real-suit Spades a) (real-suit Hearts b)) (real-suit Diamonds c)) (real-suit Clubs d)

-- two lists of real cards with the same real cards have the same cards
same-cards : (xs ys : List PlayingCard) → ((card : PlayingCard) → IsRank card.rank → has_card xs card ≡ has_card ys card)
    → ((card : PlayingCard) → has_card xs card ≡ true → IsRank card.rank) → ((card : PlayingCard) → has_card ys card ≡ true → IsRank card.rank)
    → (card : PlayingCard) → has_card xs card ≡ has_card ys card
same-cards xs ys same x y card =
    elim (cases_Bool (has_card xs card)) [
      | inl in_x ↦ same card (x card in_x)
      | inr out_x ↦ elim (cases_Bool (has_card ys card)) [
        | inl in_y ↦ same card (y card in_y)
        | inr out_y ↦ out_x ∙ sym out_y
      ]
    ]

-- ---- one hand
-- cards are noted in two parts as they are in one
note_all-append : (seat : Seat) (xs ys : List PlayingCard) (seen : HandsSoFar) → note_all seat (xs ++ ys) seen ≡ note_all seat ys (note_all seat xs seen)
note_all-append seat [] ys seen = refl
note_all-append seat (card ∷ xs) ys seen = note_all-append seat xs ys (note seat card seen)

-- a hand is noted card by card
note_hand-all : (seat : Seat) (a b c d : List ℕ) (seen : HandsSoFar) → note_all seat (cards_of_hand (suits a b c d)) seen ≡ note_hand seat (suits a b c d) seen
note_hand-all seat a b c d seen =
    note_all-append seat (cards_of_suit Spades a ++ cards_of_suit Hearts b ++ cards_of_suit Diamonds c) (cards_of_suit Clubs d) seen
    ∙ ap (note_all seat (cards_of_suit Clubs d)) (note_all-append seat (cards_of_suit Spades a ++ cards_of_suit Hearts b) (cards_of_suit Diamonds c) seen
    ∙ ap (note_all seat (cards_of_suit Diamonds c)) (note_all-append seat (cards_of_suit Spades a) (cards_of_suit Hearts b) seen))

-- what noting a hand does
record Noted (past : List PlayingCard) (seat : Seat) (hand : HandText) (seen new : HandsSoFar) : Type 0 where
  sees : Sees (pile past (cards_of_hand hand)) new
  absent : new.absent ≡ (seen.absent || is_dash hand)
  others : (s : Seat) → s ≢ seat → hand_of new.hands s ≡ hand_of seen.hands s
  holds : has_double (pile past (cards_of_hand hand)) ≡ false → (card : PlayingCard) → IsRank card.rank
      → has_card (hand_of new.hands seat) card ≡ (has_card (cards_of_hand hand) card || has_card (hand_of seen.hands seat) card)

-- a test that holds is enough
or-true : (b : Bool) → true ≡ (b || true)
or-true true = refl
or-true false = refl

-- a test that fails changes nothing
or-false : (b : Bool) → b ≡ (b || false)
or-false true = refl
or-false false = refl

-- noting a hand does so
hand-noted : (past : List PlayingCard) (seat : Seat) (hand : HandText) (seen : HandsSoFar) → Sees past seen → Noted past seat hand seen (note_hand seat hand seen)
hand-noted past seat dash seen sees =
    record {
      sees = record { are = sees.are; free = sees.free; twice = sees.twice };
      absent = or-true seen.absent;
      others = λ s differs. refl;
      holds = λ single card real. refl;
    }
hand-noted past seat (suits a b c d) seen sees =
    let hand = suits a b c d in
    let real = real-hand hand in
    subst (λ (new : HandsSoFar). Noted past seat (suits a b c d) seen new) (note_hand-all seat a b c d seen) (record {
      sees = Sees-all past seat (cards_of_hand hand) seen real sees;
      absent = absent-all seat (cards_of_hand hand) seen ∙ or-false seen.absent;
      others = λ s differs. others-all past seat (cards_of_hand hand) seen s real sees differs;
      holds = λ single card there. holds-all past seat (cards_of_hand hand) seen card real there sees single;
    })

-- ---- four hands
-- the next seat is another
next-other : (s : Seat) → next_seat s ≢ s
next-other North = λ e. cc
next-other East = λ e. cc
next-other South = λ e. cc
next-other West = λ e. cc

-- so is the second
second-other : (s : Seat) → next_seat (next_seat s) ≢ s
second-other North = λ e. cc
second-other East = λ e. cc
second-other South = λ e. cc
second-other West = λ e. cc

-- and the third
third-other : (s : Seat) → next_seat (next_seat (next_seat s)) ≢ s
third-other North = λ e. cc
third-other East = λ e. cc
third-other South = λ e. cc
third-other West = λ e. cc

-- what holds of four seats that follow one another holds of all
pub all-seats : (P : Seat → Type 0) (first : Seat) → P first → P (seat_after first 1) → P (seat_after first 2) → P (seat_after first 3) → (s : Seat) → P s
all-seats P North a b c d North = a
all-seats P North a b c d East = b
all-seats P North a b c d South = c
all-seats P North a b c d West = d
all-seats P East a b c d East = a
all-seats P East a b c d South = b
all-seats P East a b c d West = c
all-seats P East a b c d North = d
all-seats P South a b c d South = a
all-seats P South a b c d West = b
all-seats P South a b c d North = c
all-seats P South a b c d East = d
all-seats P West a b c d West = a
all-seats P West a b c d North = b
all-seats P West a b c d East = c
all-seats P West a b c d South = d

-- at first each hand is empty
no-cards : (seat : Seat) → hand_of nothing.hands seat ≡ []
no-cards North = refl
no-cards East = refl
no-cards South = refl
no-cards West = refl

-- nothing is seen at first
Sees-nothing : Sees [] nothing
Sees-nothing =
    record {
      are = AreHands-new;
      free = λ card real. refl;
      twice = refl;
    }

-- each seat has just the cards written for it
pub record HoldsAll (value : Value) (deal : FourHands) : Type 0 where
  pub holds1 : Holds (hand_of deal value.first) value.hand1
  pub holds2 : Holds (hand_of deal (seat_after value.first 1)) value.hand2
  pub holds3 : Holds (hand_of deal (seat_after value.first 2)) value.hand3
  pub holds4 : Holds (hand_of deal (seat_after value.first 3)) value.hand4

-- what is seen is what the value says
pub record Tells (value : Value) (seen : HandsSoFar) : Type 0 where
  pub are : AreHands seen.hands
  pub absent : seen.absent ≡ leaves_out value
  pub double : seen.twice ≡ true → (card : PlayingCard) × (2 ≤ times (cards_of_value value) card)
  pub single : seen.twice ≡ false → (card : PlayingCard) → times (cards_of_value value) card ≤ 1
  pub holds : seen.twice ≡ false → HoldsAll value seen.hands

-- a hand of four has its cards, where it was empty before and the later ones leave it
held : (new seen : List PlayingCard) (hand : HandText) → seen ≡ [] → ((card : PlayingCard) → IsRank card.rank → has_card new card ≡ (has_card (cards_of_hand hand) card || has_card seen card))
    → ((card : PlayingCard) → has_card new card ≡ true → IsRank card.rank) → Holds new hand
held new seen hand empty has real =
    same-cards new (cards_of_hand hand)
    (λ card there. has card there ∙ ap (λ (cards : List PlayingCard). has_card (cards_of_hand hand) card || has_card cards card) empty ∙ sym (or-false (has_card (cards_of_hand hand) card)))
    real (λ card has_it. real-has (cards_of_hand hand) card (real-hand hand) has_it)

-- what is seen of a value is what it says
pub tells : (value : Value) → Tells value (seen_of value)
tells value =
    let s0 = value.first in
    let s1 = next_seat s0 in
    let s2 = next_seat s1 in
    let s3 = next_seat s2 in
    let c1 = cards_of_hand value.hand1 in
    let c2 = cards_of_hand value.hand2 in
    let c3 = cards_of_hand value.hand3 in
    let c4 = cards_of_hand value.hand4 in
    let p1 = pile [] c1 in
    let p2 = pile p1 c2 in
    let p3 = pile p2 c3 in
    let p4 = pile p3 c4 in
    let n1 = hand-noted [] s0 value.hand1 nothing Sees-nothing in
    let seen1 = note_hand s0 value.hand1 nothing in
    let n2 = hand-noted p1 s1 value.hand2 seen1 n1.sees in
    let seen2 = note_hand s1 value.hand2 seen1 in
    let n3 = hand-noted p2 s2 value.hand3 seen2 n2.sees in
    let seen3 = note_hand s2 value.hand3 seen2 in
    let n4 = hand-noted p3 s3 value.hand4 seen3 n3.sees in
    let seen4 = note_hand s3 value.hand4 seen3 in
    let count : (card : PlayingCard) → times p4 card ≡ times (cards_of_value value) card = λ card. (
    let t1 = times-pile [] c1 card in
    let t2 = times-pile p1 c2 card in
    let t3 = times-pile p2 c3 card in
    let t4 = times-pile p3 c4 card in
    let a2 = times-append c1 c2 card in
    let a3 = times-append (c1 ++ c2) c3 card in
    let a4 = times-append (c1 ++ c2 ++ c3) c4 card in
    omega arith) in
    let real : (s : Seat) (card : PlayingCard) → has_card (hand_of seen4.hands s) card ≡ true → IsRank card.rank = λ s card has. real-set (hand_of seen4.hands s) card (n4.sees.are.sets s) has in
    record {
      are = n4.sees.are;
      absent = n4.absent ∙ ap (λ b. b || is_dash value.hand4) (n3.absent ∙ ap (λ b. b || is_dash value.hand3) (n2.absent ∙ ap (λ b. b || is_dash value.hand2) n1.absent));
      double = λ twice. (let some = doubled-some p4 (sym n4.sees.twice ∙ twice) in (some.0, subst (λ n. 2 ≤ n) (count some.0) some.1));
      single = λ once card. subst (λ n. n ≤ 1) (count card) (doubled-none p4 (sym n4.sees.twice ∙ once) card);
      holds = λ once. (
          let d4 : has_double p4 ≡ false = sym n4.sees.twice ∙ once in
          let d3 : has_double p3 ≡ false = doubled-past p3 c4 d4 in
          let d2 : has_double p2 ≡ false = doubled-past p2 c3 d3 in
          let d1 : has_double p1 ≡ false = doubled-past p1 c2 d2 in
          let later1 : hand_of seen4.hands s0 ≡ hand_of seen1.hands s0 = n4.others s0 (λ e. third-other s0 (sym e)) ∙ n3.others s0 (λ e. second-other s0 (sym e)) ∙ n2.others s0 (λ e. next-other s0 (sym e)) in
          let later2 : hand_of seen4.hands s1 ≡ hand_of seen2.hands s1 = n4.others s1 (λ e. second-other s1 (sym e)) ∙ n3.others s1 (λ e. next-other s1 (sym e)) in
          let later3 : hand_of seen4.hands s2 ≡ hand_of seen3.hands s2 = n4.others s2 (λ e. next-other s2 (sym e)) in
          let before1 : hand_of nothing.hands s0 ≡ [] = no-cards s0 in
          let before2 : hand_of seen1.hands s1 ≡ [] = n1.others s1 (next-other s0) ∙ no-cards s1 in
          let before3 : hand_of seen2.hands s2 ≡ [] = n2.others s2 (next-other s1) ∙ n1.others s2 (second-other s0) ∙ no-cards s2 in
          let before4 : hand_of seen3.hands s3 ≡ [] = n3.others s3 (next-other s2) ∙ n2.others s3 (second-other s1) ∙ n1.others s3 (third-other s0) ∙ no-cards s3 in
          record {
            holds1 = held (hand_of seen4.hands s0) (hand_of nothing.hands s0) value.hand1 before1 (λ card there. ap (λ (cards : List PlayingCard). has_card cards card) later1 ∙ n1.holds d1 card there) (real s0);
            holds2 = held (hand_of seen4.hands s1) (hand_of seen1.hands s1) value.hand2 before2 (λ card there. ap (λ (cards : List PlayingCard). has_card cards card) later2 ∙ n2.holds d2 card there) (real s1);
            holds3 = held (hand_of seen4.hands s2) (hand_of seen2.hands s2) value.hand3 before3 (λ card there. ap (λ (cards : List PlayingCard). has_card cards card) later3 ∙ n3.holds d3 card there) (real s2);
            holds4 = held (hand_of seen4.hands s3) (hand_of seen3.hands s3) value.hand4 before4 (λ card there. n4.holds d4 card there) (real s3);
          });
    }

-- ---- no two deals
-- two deals with the same hand at each seat are one
same-hands : (xs ys : FourHands) → ((s : Seat) → hand_of xs s ≡ hand_of ys s) → xs ≡ ys
same-hands xs ys same =
    let go : (a b c d a' b' c' d' : List PlayingCard) → a ≡ a' → b ≡ b' → c ≡ c' → d ≡ d' → dealt a b c d ≡ dealt a' b' c' d' = λ a b c d a' b' c' d' p q r s. rw (p, q, r, s) refl in
    go _ _ _ _ _ _ _ _ (same North) (same East) (same South) (same West)

-- two deals with the cards of one value are one
pub same-deal : (value : Value) (xs ys : FourHands) → AreHands xs → AreHands ys → HoldsAll value xs → HoldsAll value ys → xs ≡ ys
same-deal value xs ys x y in_x in_y =
    same-hands xs ys (λ s. same-members (hand_of xs s) (hand_of ys s) (x.sets s) (y.sets s) (λ card real.
    all-seats (λ (t : Seat). has_card (hand_of xs t) card ≡ has_card (hand_of ys t) card) value.first
    (in_x.holds1 card ∙ sym (in_y.holds1 card)) (in_x.holds2 card ∙ sym (in_y.holds2 card)) (in_x.holds3 card ∙ sym (in_y.holds3 card)) (in_x.holds4 card ∙ sym (in_y.holds4 card)) s))

-- a deal that the value spells has its cards
pub Spells-holds : (value : Value) (deal : FourHands) → Spells value deal → HoldsAll value deal
Spells-holds value deal spells = record { holds1 = spells.holds1; holds2 = spells.holds2; holds3 = spells.holds3; holds4 = spells.holds4 }
