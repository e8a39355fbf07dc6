-- equal cards have one score
use Rattle.std.proofs.Common.{◌≡◌, ◌≢◌, ℕ, ◌-◌, Bool, true, false, refl, sym, ap, ◌∙◌, arith, List, [], ◌∷◌, ◌++◌, inl, inr, ◌⊎◌, eq-eqb}
use Rattle.std.specs.Prelude.{◌&&◌, ◌||◌, nat_le, nat_lt, if◌then◌else◌}
use Rattle.std.specs.List.{list_any}
use mathlib.Core.Bool.{not}
use Rattle.std.proofs.lemmas.Bool.Decides.{nat_tests}
use Rattle.std.proofs.lemmas.List.Folds.{list_any-append}
use Rattle.dd_cards.specs.declared.seat.Seat.{Seat}
use Rattle.dd_cards.specs.declared.seat.Seat.TheVariants.{North, East, South, West}
use Rattle.dd_cards.specs.PlayingCard.{PlayingCard}
use Rattle.dd_cards.specs.Cards.{is_of, same_card, has_card}
use Rattle.dd_cards.specs.Seats.{seat_after, is_north_south}
use Rattle.dd_cards.proofs.CallerLemmas.{and-left, and-right, same_card-eq, none-at}
use Rattle.dd_cards.specs.declared.side.Side.TheVariants.{NorthSouth}
use Rattle.dd_play.specs.Board.{Board, IsBoard, cards_at, mover, tricks_left}
use Rattle.dd_play.specs.Simulations.{IsLegal}
use Rattle.dd_play.specs.Value.{score}
use Rattle.dd_play.proofs.CallerLemmas.{of-suit', own-card, suit-of, won-north-south}
use Rattle.dd_equal.specs.EqualCards.{other_cards, is_between, are_equal}
use Rattle.dd_equal.proofs.Swaps.{IsNotBetween, AreEqual, one-hand, not-on-trick, equal-won}
use Rattle.std.proofs.lemmas.Bool.{or_parts, not-true}

-- ---- no card passes a test

-- none of two lists together is none of each
none-of : (test : PlayingCard → Bool) (xs ys : List PlayingCard) → list_any test (xs ++ ys) ≡ false → (list_any test xs ≡ false) × (list_any test ys ≡ false)
none-of test xs ys none = or_parts (list_any test xs) (list_any test ys) (sym (list_any-append test xs ys) ∙ none)

-- ---- a card that is not between, by ranks

-- a number that is neither and not between two is on one side of both
same-side : (a b e : ℕ) → e ≢ a → e ≢ b → ((nat_lt a e && nat_lt e b) || (nat_lt b e && nat_lt e a)) ≡ false → (nat_le a e ≡ nat_le b e) × (nat_le e a ≡ nat_le e b)
same-side a b e not_a not_b none = (grind (arith, nat_tests), grind (arith, nat_tests))

-- two cards of one suit that are not the same have two ranks
two-ranks : (e c : PlayingCard) → e.suit ≡ c.suit → (e ≡ c → ⊥) → e.rank ≢ c.rank
two-ranks e c suit differ = λ same. differ (same_card-eq e c (rw (of-suit' c.suit e suit, eq-eqb e.rank c.rank same) refl))

-- a strange card that doesn't pass the test stands on one side of both cards
on-one-side : (c d e : PlayingCard) → d.suit ≡ c.suit → (e ≡ c → ⊥) → (e ≡ d → ⊥) → is_between c d e ≡ false → IsNotBetween c d e
on-one-side c d e suits not_c not_d none = λ suit.
    same-side c.rank d.rank e.rank (two-ranks e c suit not_c) (two-ranks e d (suit ∙ sym suits) not_d)
    (let k : (is_of c.suit e && ((nat_lt c.rank e.rank && nat_lt e.rank d.rank) || (nat_lt d.rank e.rank && nat_lt e.rank c.rank))) ≡ false = none in rw (of-suit' c.suit e suit) at k)

-- ---- the other hands

-- a seat other than the mover's comes one, two or three places after it
other-seat : (m x : Seat) → x ≢ m → (x ≡ seat_after m 1) ⊎ ((x ≡ seat_after m 2) ⊎ (x ≡ seat_after m 3))
other-seat North North n = absurd (n refl)
other-seat North East n = inl refl
other-seat North South n = inr (inl refl)
other-seat North West n = inr (inr refl)
other-seat East East n = absurd (n refl)
other-seat East South n = inl refl
other-seat East West n = inr (inl refl)
other-seat East North n = inr (inr refl)
other-seat South South n = absurd (n refl)
other-seat South West n = inl refl
other-seat South North n = inr (inl refl)
other-seat South East n = inr (inr refl)
other-seat West West n = absurd (n refl)
other-seat West North n = inl refl
other-seat West East n = inr (inl refl)
other-seat West South n = inr (inr refl)

-- the test tells the relation
pub tells-equal : (p : Board) (c d : PlayingCard) → IsBoard p → has_card (cards_at p (mover p)) c ≡ true → has_card (cards_at p (mover p)) d ≡ true → are_equal p c d ≡ true → AreEqual p c d
tells-equal p c d valid own_c own_d test =
    record {
      has_c = own_c;
      has_d = own_d;
      suit = suits;
      hands = λ x e away has. on-one-side c d e suits (strange x e away has c own_c) (strange x e away has d own_d) (hand x e away has);
      trick = λ e has. on-one-side c d e suits (played e has c own_c) (played e has d own_d) (none-at (is_between c d) p.trick e on_trick has);
    }
  where
    suits : d.suit ≡ c.suit
    suits = suit-of c.suit d (and-left (is_of c.suit d) (not (list_any (is_between c d) (other_cards p))) test)

    none : list_any (is_between c d) (other_cards p) ≡ false
    none = not-true _ (and-right (is_of c.suit d) (not (list_any (is_between c d) (other_cards p))) test)

    one : List PlayingCard
    one = cards_at p (seat_after (mover p) 1)

    two : List PlayingCard
    two = cards_at p (seat_after (mover p) 2)

    three : List PlayingCard
    three = cards_at p (seat_after (mover p) 3)

    free-all : (list_any (is_between c d) (one ++ two ++ three) ≡ false) × (list_any (is_between c d) p.trick ≡ false)
    free-all = none-of (is_between c d) (one ++ two ++ three) p.trick none

    free-three : (list_any (is_between c d) (one ++ two) ≡ false) × (list_any (is_between c d) three ≡ false)
    free-three = none-of (is_between c d) (one ++ two) three free-all.0

    free-two : (list_any (is_between c d) one ≡ false) × (list_any (is_between c d) two ≡ false)
    free-two = none-of (is_between c d) one two free-three.0

    on_trick : list_any (is_between c d) p.trick ≡ false
    on_trick = free-all.1

    at : (x y : Seat) (e : PlayingCard) → x ≡ y → has_card (cards_at p x) e ≡ true → list_any (is_between c d) (cards_at p y) ≡ false → is_between c d e ≡ false
    at x y e same has free = none-at (is_between c d) (cards_at p y) e free (ap (λ z. has_card (cards_at p z) e) (sym same) ∙ has)

    hand : (x : Seat) (e : PlayingCard) → x ≢ mover p → has_card (cards_at p x) e ≡ true → is_between c d e ≡ false
    hand x e away has = elim (other-seat (mover p) x away) [
      | inl i ↦ at x (seat_after (mover p) 1) e i has free-two.0
      | inr o ↦ elim o [
        | inl i ↦ at x (seat_after (mover p) 2) e i has free-two.1
        | inr i ↦ at x (seat_after (mover p) 3) e i has free-three.1
      ]
    ]

    strange : (x : Seat) (e : PlayingCard) → x ≢ mover p → has_card (cards_at p x) e ≡ true → (y : PlayingCard) → has_card (cards_at p (mover p)) y ≡ true → e ≡ y → ⊥
    strange x e away has y own same = away (one-hand p valid x (mover p) e has (ap (has_card (cards_at p (mover p))) same ∙ own))

    played : (e : PlayingCard) → has_card p.trick e ≡ true → (y : PlayingCard) → has_card (cards_at p (mover p)) y ≡ true → e ≡ y → ⊥
    played e has y own same = not-on-trick p valid (mover p) e (ap (has_card (cards_at p (mover p))) same ∙ own) has

-- Equal cards have one score.
pub equal-score : (p : Board) (c d : PlayingCard) → IsBoard p → IsLegal p c → IsLegal p d → are_equal p c d ≡ true → score p d ≡ score p c
equal-score p c d valid has has' test =
    let eq : AreEqual p c d = tells-equal p c d valid (own-card p c has) (own-card p d has') test in
    ap (λ m. if is_north_south (mover p) then m else (tricks_left p - m)) (sym (won-north-south p d) ∙ equal-won NorthSouth p c d valid has has' eq ∙ won-north-south p c)
