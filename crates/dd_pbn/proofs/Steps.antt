-- the steps of reading, at the first byte of a slice
use Rattle.std.proofs.Common.{◌≡◌, ◌↔◌, ℕ, ◌-◌, ◌<◌, ◌≤◌, Bool, true, false, IsTrue, refl, arith, List, [], ◌∷◌, length, get_or, take, drop, Some, None}
use Rattle.std.specs.Prelude.{◌||◌}
use Rattle.std.proofs.lemmas.List.{take_all}
use mathlib.Core.Bool.{not}
use Rattle.dd_cards.specs.declared.seat.Seat.{Seat}
use Rattle.dd_cards.specs.declared.seat.Seat.TheVariants.{North, East, South, West}
use Rattle.dd_cards.specs.declared.suit.Suit.{Suit}
use Rattle.dd_cards.specs.PlayingCard.{PlayingCard}
use Rattle.dd_cards.specs.Cards.{card_of, has_card}
use Rattle.dd_cards.specs.Hands.{FourHands, hand_of}
use Rattle.dd_pbn.specs.declared.hands_so_far.HandsSoFar.{HandsSoFar}
use Rattle.dd_pbn.specs.Letters.{rank_of, is_blank}
use Rattle.dd_pbn.specs.Reading.{is_free, note, after_blanks, suit_at}

-- ---- blanks
-- a blank is passed over
pub after_blanks-blank : (text : List ℕ) → 1 ≤ length text → is_blank (get_or text 0 0) ≡ true → after_blanks text ≡ after_blanks (take (length text - 1) (drop 1 text))
unfolding after_blanks
after_blanks-blank [] some_left blank = absurd (omega arith)
after_blanks-blank (byte ∷ text) some_left blank =
    let e : take (length (byte ∷ text) - 1) text ≡ text = take_all (length (byte ∷ text) - 1) text (omega arith) in
    rw (e, blank, after_blanks) refl

-- another byte is where the blanks end
pub after_blanks-other : (text : List ℕ) → is_blank (get_or text 0 0) ≡ false → after_blanks text ≡ text
unfolding after_blanks
after_blanks-other [] other = refl
after_blanks-other (byte ∷ text) other = rw (other, after_blanks) refl

-- and so is the end of the text
pub after_blanks-end : (text : List ℕ) → length text < 1 → after_blanks text ≡ text
unfolding after_blanks
after_blanks-end [] none_left = refl
after_blanks-end (byte ∷ text) none_left = absurd (omega arith)

-- ---- a suit
-- a rank is noted
pub suit_at-rank : (seat : Seat) (suit : Suit) (seen : HandsSoFar) (text : List ℕ) (rank : ℕ) → 1 ≤ length text → rank_of (get_or text 0 0) ≡ Some rank
    → suit_at seat suit seen text ≡ suit_at seat suit (note seat (card_of suit rank) seen) (take (length text - 1) (drop 1 text))
unfolding suit_at
suit_at-rank seat suit seen [] rank some_left some = absurd (omega arith)
suit_at-rank seat suit seen (byte ∷ text) rank some_left some =
    let e : take (length (byte ∷ text) - 1) text ≡ text = take_all (length (byte ∷ text) - 1) text (omega arith) in
    rw e (rw (some, suit_at) refl)

-- another byte ends the suit
pub suit_at-other : (seat : Seat) (suit : Suit) (seen : HandsSoFar) (text : List ℕ) → rank_of (get_or text 0 0) ≡ None → suit_at seat suit seen text ≡ (seen, text)
unfolding suit_at
suit_at-other seat suit seen [] none = refl
suit_at-other seat suit seen (byte ∷ text) none = rw (none, suit_at) refl

-- and so does the end of the text
pub suit_at-end : (seat : Seat) (suit : Suit) (seen : HandsSoFar) (text : List ℕ) → length text < 1 → suit_at seat suit seen text ≡ (seen, text)
unfolding suit_at
suit_at-end seat suit seen [] none_left = refl
suit_at-end seat suit seen (byte ∷ text) none_left = absurd (omega arith)

-- ---- a card
-- a card is free where each hand lacks it
pub free : (hands : FourHands) (card : PlayingCard) → ((seat : Seat) → has_card (hand_of hands seat) card ≡ false) → is_free hands card ≡ true
free hands card none = rw (none North, none East, none South, none West) refl

-- each hand lacks a free card
pub lacks : (hands : FourHands) (card : PlayingCard) → is_free hands card ≡ true → (seat : Seat) → has_card (hand_of hands seat) card ≡ false
lacks hands card h seat = go (has_card (hand_of hands North) card) (has_card (hand_of hands East) card) (has_card (hand_of hands South) card) (has_card (hand_of hands West) card) refl refl refl refl h seat
  where
    go : (n e s w : Bool) → has_card (hand_of hands North) card ≡ n → has_card (hand_of hands East) card ≡ e → has_card (hand_of hands South) card ≡ s → has_card (hand_of hands West) card ≡ w
        → not (n || e || s || w) ≡ true → (seat : Seat) → has_card (hand_of hands seat) card ≡ false
    go false false false false n e s w h North = n
    go false false false false n e s w h East = e
    go false false false false n e s w h South = s
    go false false false false n e s w h West = w
    go true e s w en ee es ew h seat = absurd (cc)
    go false true s w en ee es ew h seat = absurd (cc)
    go false false true w en ee es ew h seat = absurd (cc)
    go false false false true en ee es ew h seat = absurd (cc)

-- a test that tells whether each hand lacks a card tells whether it is free
pub is_free-by : (inserted : Bool) (hands : FourHands) (card : PlayingCard) → (IsTrue inserted ↔ ((seat : Seat) → has_card (hand_of hands seat) card ≡ false)) → is_free hands card ≡ inserted
is_free-by true hands card h = free hands card (h.0 refl)
is_free-by false hands card h = go (is_free hands card) refl
  where
    go : (b : Bool) → is_free hands card ≡ b → b ≡ false
    go true e = absurd (let t = h.1 (lacks hands card e) in cc)
    go false e = refl
