-- The position before the lead: the card led is back in the leader's hand, and an opponent of the leader has the lead. It is
-- a legal state of play, and where one position with one card on the trick covers another, so does the one before it.
use Rattle.std.proofs.Common.{◌≡◌, ◌≢◌, ℕ, suc, ◌+◌, ◌*◌, ◌≤◌, Bool, true, false, cond, refl, sym, ap, ◌∙◌, subst, arith, List, [], ◌∷◌, length, inl, inr}
use Rattle.std.specs.Prelude.{nat_lt, ◌==◌, ◌&&◌, ◌||◌, ◌⊎◌}
use mathlib.Core.Bool.{not}
use Rattle.std.proofs.lemmas.Bool.Decides.{nat_tests}
use mathlib.Core.Path.{ap₂}
use Rattle.dd_cards.specs.declared.seat.Seat.{Seat}
use Rattle.dd_cards.specs.declared.suit.Suit.{Suit}
use Rattle.dd_cards.specs.PlayingCard.{PlayingCard}
use Rattle.dd_cards.specs.Ranks.{IsRank}
use Rattle.dd_cards.specs.Cards.{deck, is_of, has_card, same_card, with_card, without}
use Rattle.dd_cards.specs.Hands.{IsSet, times}
use Rattle.dd_cards.specs.Suits.{suit_code}
use Rattle.dd_cards.specs.Seats.{seat_code, seat_after}
use Rattle.dd_cards.specs.declared.side.Side.{Side}
use Rattle.dd_cards.proofs.CallerLemmas.{IsSet-with_card, IsSet-without, and-left, filter-true, hand_of-with_hand, has_card-filter, has_card-with_card, has_card-without, same-members, seat_code-injective, same_card-eq, same_card-self, times-cons, times-has_card, times-has}
use Rattle.dd_play.specs.Board.{Board, IsBoard, cards_at, tricks_left, times_in}
use Rattle.dd_play.specs.Covers.{AllAnswer, Answers, ForMet, IsCover, IsOver, Keeps, count_of}
use Rattle.dd_play.proofs.CallerLemmas.{card-real, count, count-without, flag_of, hand-other, has-first, same-or, times-hand, times_in-with_hand, turn-apart}
use Rattle.dd_quick.specs.SecondHand.{unled}
use Rattle.dd_quick.proofs.Hands.{places-on}
use Rattle.std.proofs.lemmas.Bool.{or_right, false_from_ne_true}

-- ---- a card put into a hand

-- a card put into a set that lacks it is counted where it passes
pub count-with : (test : PlayingCard → Bool) (cards : List PlayingCard) (c : PlayingCard) → IsSet cards → has_card cards c ≡ false → IsRank c.rank → count test (with_card cards c) ≡ count test cards + flag_of (test c)
count-with test cards c set absent real =
    let there : has_card (with_card cards c) c ≡ true = has_card-with_card cards c c real ∙ rw (same_card-self c) refl in
    let one : times (with_card cards c) c ≡ 1 = times-has_card (with_card cards c) c (IsSet-with_card cards c) ∙ ap (λ b. cond b 1 0) there in
    let taken : count test (without (with_card cards c) c) + times (with_card cards c) c * flag_of (test c) ≡ count test (with_card cards c) = count-without test (with_card cards c) c in
    let taken1 : count test (without (with_card cards c) c) + 1 * flag_of (test c) ≡ count test (with_card cards c) = subst (λ (m : ℕ). count test (without (with_card cards c) c) + m * flag_of (test c) ≡ count test (with_card cards c)) one taken in
    let same : count test (without (with_card cards c) c) ≡ count test cards = ap (count test) out in
    omega (arith, taken1, same)
  where
    go : (d : PlayingCard) (b : Bool) → same_card d c ≡ b → (not b && (b || has_card cards d)) ≡ has_card cards d
    go d true e = sym (ap (has_card cards) (same_card-eq d c e) ∙ absent)
    go d false e = refl

    out : without (with_card cards c) c ≡ cards
    out = same-members (without (with_card cards c) c) cards (IsSet-without (with_card cards c) c (IsSet-with_card cards c)) set (λ d real_d.
        has_card-without (with_card cards c) c d ∙ ap (λ b. not (same_card d c) && b) (has_card-with_card cards c d real_d) ∙ go d (same_card d c) refl)

-- ---- one card on the trick

-- a card that was led, alone on the trick
module _ (p : Board) (c : PlayingCard) (valid : IsBoard p) (led : p.trick ≡ c ∷ []) where
  -- the card is real
  real-led : IsRank c.rank
  real-led = valid.real c (ap (λ trick. has_card trick c) led ∙ has-first c [])

  -- how often a card stands on the trick
  times-led : (d : PlayingCard) → times p.trick d ≡ flag_of (same_card c d)
  times-led d = ap (λ trick. times trick d) led ∙ times-cons c [] d ∙ omega arith

  -- no hand has it
  absent-led : (x : Seat) → has_card (cards_at p x) c ≡ false
  absent-led x = false_from_ne_true (has_card (cards_at p x) c) (λ h.
      let here = times-has (cards_at p x) c h in
      let all = times-hand p.hands x c in
      let once = valid.once c in
      let one = times-led c in
      let f : flag_of (same_card c c) ≡ 1 = ap flag_of (same_card-self c) in
      omega (arith, here, all, once, one, f))

  -- the leader's hand with the card back in it
  pub count-back : (test : PlayingCard → Bool) → count test (with_card (cards_at p p.first) c) ≡ count test (cards_at p p.first) + flag_of (test c)
  count-back test = count-with test (cards_at p p.first) c (valid.sets p.first) (absent-led p.first) real-led

  -- how many cards a hand has
  hand-size : (x : Seat) → seat_code x ≢ seat_code p.first → length (cards_at p x) ≡ tricks_left p
  hand-size x apart =
      let on = places-on p.first x apart in
      let even = valid.even on.0 on.2 in
      let one : length p.trick ≡ 1 = ap length led in
      let at : length (cards_at p x) ≡ length (cards_at p (seat_after p.first on.0)) = ap (λ y. length (cards_at p y)) on.3 in
      let flag : flag_of (nat_lt on.0 (length p.trick)) ≡ 0 = ap flag_of (later on.0 (length p.trick) one on.1) in
      omega (arith, even, at, flag)
    where
      later : (a b : ℕ) → b ≡ 1 → 1 ≤ a → nat_lt a b ≡ false
      later a b e l = grind (arith, nat_tests)

  leaders-size : length (cards_at p p.first) + 1 ≡ tricks_left p
  leaders-size =
      let even = valid.even 0 (omega arith) in
      let flag : flag_of (nat_lt 0 (length p.trick)) ≡ 1 = ap (λ trick. flag_of (nat_lt 0 (length trick))) led in
      omega (arith, even, flag)

  module _ (h : Seat) where
    -- the leader's hand, and the others
    pub leaders-back : cards_at (unled p c h) p.first ≡ with_card (cards_at p p.first) c
    leaders-back = elim (hand_of-with_hand p.hands p.first (with_card (cards_at p p.first) c) p.first) [ inl same ↦ same.1 | inr other ↦ absurd (other.0 refl) ]

    pub others-back : (x : Seat) → seat_code x ≢ seat_code p.first → cards_at (unled p c h) x ≡ cards_at p x
    others-back x apart = hand-other p.hands p.first x (with_card (cards_at p p.first) c) apart

    -- each hand has as many cards
    size-back : (x : Seat) → length (cards_at (unled p c h) x) ≡ tricks_left p
    size-back x = elim (same-or x p.first) [
      | inl e ↦ (
          let a : length (cards_at (unled p c h) x) ≡ length (with_card (cards_at p p.first) c) = ap length (ap (cards_at (unled p c h)) e ∙ leaders-back) in
          let b = count-back (λ d. true) in
          let f = ap length (filter-true (with_card (cards_at p p.first) c)) in
          let g = ap length (filter-true (cards_at p p.first)) in
          let n = leaders-size in
          omega (arith, a, b, f, g, n))
      | inr apart ↦ ap length (others-back x apart) ∙ hand-size x apart
    ]

    -- no card stands twice
    once-back : (d : PlayingCard) → times_in (unled p c h).hands d ≤ 1
    once-back d =
        let moved = times_in-with_hand p.hands p.first (with_card (cards_at p p.first) c) d in
        let more = count-back (λ e. same_card e d) in
        let once = valid.once d in
        let one = times-led d in
        omega (arith, moved, more, once, one)

    -- it is a legal state of play
    pub board-back : IsBoard (unled p c h)
    board-back = record {
      sets = λ x. elim (same-or x p.first) [
        | inl e ↦ subst IsSet (sym (ap (cards_at (unled p c h)) e ∙ leaders-back)) (IsSet-with_card (cards_at p p.first) c)
        | inr apart ↦ subst IsSet (sym (others-back x apart)) (valid.sets x)
      ];
      short = omega arith;
      real = λ d has. absurd (cc);
      once = λ d. (let o = once-back d in omega (arith, o));
      even = λ k less. (let a = size-back (seat_after h k) in let b = size-back h in let flag : flag_of (nat_lt k 0) ≡ 0 = ap flag_of (not-under k) in omega (arith, a, b, flag));
    }
      where
        not-under : (a : ℕ) → nat_lt a 0 ≡ false
        not-under a = grind (arith, nat_tests)

    -- a card of a hand is the one that was led, in the leader's hand, or was there
    pub was-back : (x : Seat) (d : PlayingCard) → has_card (cards_at (unled p c h) x) d ≡ true → ((x ≡ p.first) × (d ≡ c)) ⊎ (has_card (cards_at p x) d ≡ true)
    was-back x d has = elim (same-or x p.first) [
      | inl e ↦ (
          let there : has_card (with_card (cards_at p p.first) c) d ≡ true = ap (λ cards. has_card cards d) (sym (ap (cards_at (unled p c h)) e ∙ leaders-back)) ∙ has in
          elim (which-with (cards_at p p.first) c d there) [ inl same ↦ inl (e, same) | inr before ↦ inr (ap (λ y. has_card (cards_at p y) d) e ∙ before) ])
      | inr apart ↦ inr (ap (λ cards. has_card cards d) (sym (others-back x apart)) ∙ has)
    ]
      where
        which-with : (cards : List PlayingCard) (x d : PlayingCard) → has_card (with_card cards x) d ≡ true → (d ≡ x) ⊎ (has_card cards d ≡ true)
        which-with cards x d h = go (same_card d x) refl
          where
            both : (same_card d x || has_card cards d) ≡ true
            both = and-left (same_card d x || has_card cards d) (has_card deck d) (sym (has_card-filter (λ y. same_card y x || has_card cards y) deck d) ∙ h)

            go : (b : Bool) → same_card d x ≡ b → (d ≡ x) ⊎ (has_card cards d ≡ true)
            go true e = inl (same_card-eq d x e)
            go false e = inr (rw e at both)

    -- what was in a hand is there still
    pub is-back : (x : Seat) (d : PlayingCard) → has_card (cards_at p x) d ≡ true → has_card (cards_at (unled p c h) x) d ≡ true
    is-back x d has = elim (same-or x p.first) [
      | inl e ↦ (
          let real = card-real p x d valid has in
          ap (λ cards. has_card cards d) (ap (cards_at (unled p c h)) e ∙ leaders-back) ∙ has_card-with_card (cards_at p p.first) c d real
          ∙ or_right (same_card d c) (has_card (cards_at p p.first) d) (ap (λ y. has_card (cards_at p y) d) (sym e) ∙ has))
      | inr apart ↦ ap (λ cards. has_card cards d) (others-back x apart) ∙ has
    ]

    -- the leader has the card led
    pub led-back : has_card (cards_at (unled p c h) p.first) c ≡ true
    led-back = ap (λ cards. has_card cards c) leaders-back ∙ has_card-with_card (cards_at p p.first) c c real-led ∙ rw (same_card-self c) refl

    -- what holds of all cards that can meet on a trick holds of those that can meet after
    met-back : (P : PlayingCard → PlayingCard → Type 0) → ForMet p P → ForMet (unled p c h) P
    met-back P met = record { hands = hands; trick = λ d e hd he. absurd (cc); coming = λ k d e low high hd he. absurd (cc) }
      where
        has_led : has_card p.trick c ≡ true
        has_led = ap (λ trick. has_card trick c) led ∙ has-first c []

        coming : (x : Seat) (d : PlayingCard) → x ≢ p.first → has_card (cards_at p x) d ≡ true → P c d × P d c
        coming x d apart has =
            let on = places-on p.first x (λ e. apart (seat_code-injective x p.first e)) in
            let one : length p.trick ≡ 1 = ap length led in
            met.coming on.0 c d (let l = on.1 in omega (arith, one, l)) on.2 has_led (ap (λ y. has_card (cards_at p y) d) (sym on.3) ∙ has)

        hands : (x y : Seat) (d e : PlayingCard) → x ≢ y → has_card (cards_at (unled p c h) x) d ≡ true → has_card (cards_at (unled p c h) y) e ≡ true → P d e
        hands x y d e differ hd he = elim (was-back x d hd) [
          | inl a ↦ elim (was-back y e he) [
            | inl b ↦ absurd (differ (a.0 ∙ sym b.0))
            | inr b ↦ subst (λ z. P z e) (sym a.1) (coming y e (λ z. differ (a.0 ∙ sym z)) b).0
          ]
          | inr a ↦ elim (was-back y e he) [
            | inl b ↦ subst (λ z. P d z) (sym b.1) (coming x d (λ z. differ (z ∙ sym b.0)) a).1
            | inr b ↦ met.hands x y d e differ a b
          ]
        ]

-- ---- covers

-- one card on a trick is answered by one
pub answered : (to from : PlayingCard → PlayingCard) (top : PlayingCard → Bool) (cs ds : List PlayingCard) (c : PlayingCard) → cs ≡ c ∷ [] → AllAnswer to from top cs ds → (d : PlayingCard) × (ds ≡ d ∷ []) × Answers to from top c d
answered to from top [] ds c e a = absurd (cc)
answered to from top (x ∷ []) [] c e a = absurd a
answered to from top (x ∷ []) (d ∷ []) c e a = (d, refl, subst (λ y. Answers to from top y d) (first e) a.0)
  where
    first : x ∷ [] ≡ c ∷ [] → x ≡ c
    first h = cc
answered to from top (x ∷ []) (d ∷ y ∷ ds) c e a = absurd a.1
answered to from top (x ∷ y ∷ cs) ds c e a = absurd (let k : suc (suc (length cs)) ≡ 1 = ap length e in omega (arith, k))

-- where one position covers another, the one before the lead covers the one before the card that answers it
pub cover-back : (top : PlayingCard → Bool) (k : ℕ) (to from : PlayingCard → PlayingCard) (s : Side) (p : Board) (t : Side) (q : Board) (c d : PlayingCard) (h : Seat) → p.trick ≡ c ∷ [] → q.trick ≡ d ∷ []
    → Answers to from top c d → IsCover top k to from s p t q → IsCover top k to from s (unled p c h) t (unled q d (seat_after h k))
cover-back top k to from s p t q c d h led answer a r = record {
  valid_p = board-back p c r.valid_p led h;
  valid_q = board-back q d r.valid_q answer (seat_after h k);
  sides = r.sides;
  strain = r.strain;
  first = refl;
  to_suit = r.to_suit;
  from_suit = r.from_suit;
  forth = forth;
  back = back;
  lengths = lengths;
  trick = tt;
  keeps = met-back p c r.valid_p led h (Keeps to top) r.keeps;
  over_p = met-back p c r.valid_p led h (IsOver top) r.over_p;
  over_q = met-back q d r.valid_q answer (seat_after h k) (IsOver (λ e. top (from e))) r.over_q;
}
  where
    o : Board
    o = unled p c h

    u : Board
    u = unled q d (seat_after h k)

    forth : (x : Seat) (e : PlayingCard) → has_card (cards_at o x) e ≡ true → top e ≡ true → (has_card (cards_at u (seat_after x k)) (to e) ≡ true) × (from (to e) ≡ e)
    forth x e he te = elim (was-back p c r.valid_p led h x e he) [
      | inl now ↦ (
          let m = a.same (ap top (sym now.1) ∙ te) in
          let image : to e ≡ d = ap to now.1 ∙ sym m.0 in
          let seat : seat_after x k ≡ q.first = ap (λ y. seat_after y k) now.0 ∙ sym r.first in
          (ap₂ (λ y z. has_card (cards_at u y) z) seat image ∙ led-back q d r.valid_q answer (seat_after h k), ap from image ∙ m.1 ∙ sym now.1))
      | inr before ↦ (let f = r.forth x e before te in (is-back q d r.valid_q answer (seat_after h k) (seat_after x k) (to e) f.0, f.1))
    ]

    back : (x : Seat) (e : PlayingCard) → has_card (cards_at u (seat_after x k)) e ≡ true → top (from e) ≡ true → (has_card (cards_at o x) (from e) ≡ true) × (to (from e) ≡ e)
    back x e he te = elim (was-back q d r.valid_q answer (seat_after h k) (seat_after x k) e he) [
      | inl now ↦ (
          let tc : top c ≡ true = sym a.kind ∙ ap (λ y. top (from y)) (sym now.1) ∙ te in
          let m = a.same tc in
          let image : from e ≡ c = ap from now.1 ∙ m.1 in
          let seat : x ≡ p.first = elim (same-or x p.first) [ inl y ↦ y | inr apart ↦ absurd (turn-apart x p.first k apart (ap seat_code (now.0 ∙ r.first))) ] in
          (ap₂ (λ y z. has_card (cards_at o y) z) seat image ∙ led-back p c r.valid_p led h, ap to image ∙ sym m.0 ∙ sym now.1))
      | inr before ↦ (let f = r.back x e before te in (is-back p c r.valid_p led h x (from e) f.0, f.1))
    ]

    lengths : (x : Seat) (suit : Suit) → count_of suit (cards_at u (seat_after x k)) ≡ count_of suit (cards_at o x)
    lengths x suit = elim (same-or x p.first) [
      | inl e ↦ (
          let seat : seat_after x k ≡ q.first = ap (λ y. seat_after y k) e ∙ sym r.first in
          let mine : count_of suit (cards_at o x) ≡ count_of suit (with_card (cards_at p p.first) c) = ap (count_of suit) (ap (cards_at o) e ∙ leaders-back p c r.valid_p led h) in
          let his : count_of suit (cards_at u (seat_after x k)) ≡ count_of suit (with_card (cards_at q q.first) d) = ap (count_of suit) (ap (cards_at u) seat ∙ leaders-back q d r.valid_q answer (seat_after h k)) in
          let more = count-back p c r.valid_p led (is_of suit) in
          let more' = count-back q d r.valid_q answer (is_of suit) in
          let same : flag_of (is_of suit d) ≡ flag_of (is_of suit c) = ap (λ v. flag_of (suit_code v == suit_code suit)) a.suit in
          let old : count_of suit (cards_at q q.first) ≡ count_of suit (cards_at p p.first) = ap (λ y. count_of suit (cards_at q y)) r.first ∙ r.lengths p.first suit in
          omega (arith, mine, his, more, more', same, old))
      | inr apart ↦ (
          let away : seat_code (seat_after x k) ≢ seat_code q.first = λ e. turn-apart x p.first k apart (e ∙ ap seat_code r.first) in
          ap (count_of suit) (others-back q d r.valid_q answer (seat_after h k) (seat_after x k) away) ∙ r.lengths x suit ∙ ap (count_of suit) (sym (others-back p c r.valid_p led h x apart)))
    ]
