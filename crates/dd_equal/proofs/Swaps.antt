-- two cards with no strange card between them: the position is related to itself by their swap
use Rattle.std.proofs.Common.{◌≡◌, ◌≢◌, ℕ, ◌+◌, ◌<◌, ◌≤◌, Bool, true, false, refl, sym, ap, ◌∙◌, arith, List, [], ◌∷◌, length, inl, inr, ◌⊎◌}
use Rattle.std.specs.Prelude.{nat_le, if◌then◌else◌}
use mathlib.Core.Path.{ap₂}
use Rattle.dd_cards.specs.declared.seat.Seat.{Seat}
use Rattle.dd_cards.specs.declared.seat.Seat.TheVariants.{North, East, South, West}
use Rattle.dd_cards.specs.PlayingCard.{PlayingCard}
use Rattle.dd_cards.specs.Cards.{same_card, has_card}
use Rattle.dd_cards.specs.Seats.{seat_code, seat_after}
use Rattle.dd_cards.specs.Hands.{times, hand_of}
use Rattle.dd_cards.proofs.CallerLemmas.{same_card-eq, same_card-self, times-has}
use Rattle.dd_cards.specs.declared.side.Side.{Side}
use Rattle.dd_play.specs.Board.{Board, IsBoard, cards_at, mover, times_in}
use Rattle.dd_play.specs.Play.{after}
use Rattle.dd_play.specs.Simulations.{IsLegal}
use Rattle.dd_play.specs.Covers.{Keeps, Answers, AllAnswer, IsCover, any_card}
use Rattle.dd_play.proofs.CallerLemmas.{has-first, in-rest, same-or, stepped, times-hand, twins-won, won_with}
use Rattle.std.proofs.lemmas.Bool.{false_from_ne_true}

-- e does not stand between c and d
abbrev pub IsNotBetween : PlayingCard → PlayingCard → PlayingCard → Type 0
IsNotBetween c d e = e.suit ≡ c.suit → (nat_le c.rank e.rank ≡ nat_le d.rank e.rank) × (nat_le e.rank c.rank ≡ nat_le e.rank d.rank)

-- two cards of the mover's hand and of one suit, with no card between them in another hand or on the trick
pub record AreEqual (p : Board) (c d : PlayingCard) : Type 0 where
  pub has_c : has_card (cards_at p (mover p)) c ≡ true
  pub has_d : has_card (cards_at p (mover p)) d ≡ true
  pub suit : d.suit ≡ c.suit
  pub hands : (x : Seat) (e : PlayingCard) → x ≢ mover p → has_card (cards_at p x) e ≡ true → IsNotBetween c d e
  pub trick : (e : PlayingCard) → has_card p.trick e ≡ true → IsNotBetween c d e

-- the two cards change places
pub swap : PlayingCard → PlayingCard → PlayingCard → PlayingCard
swap c d x = (if same_card x c then d else (if same_card x d then c else x))

-- the one becomes the other
swap-first : (c d x : PlayingCard) → x ≡ c → swap c d x ≡ d
unfolding swap
swap-first c d x e = rw (ap (λ y. same_card y c) e ∙ same_card-self c) refl

-- what a card is: the one, the other or neither
abbrev Which : (c d x : PlayingCard) → Type 0
Which c d x = (x ≡ c) ⊎ (((x ≡ d) × (same_card x c ≡ false)) ⊎ ((same_card x c ≡ false) × (same_card x d ≡ false)))

-- a card is one of these three
which : (c d x : PlayingCard) → Which c d x
which c d x = go (same_card x c) (same_card x d) refl refl
  where
    go : (a b : Bool) → same_card x c ≡ a → same_card x d ≡ b → Which c d x
    go true b e f = inl (same_card-eq x c e)
    go false true e f = inr (inl (same_card-eq x d f, e))
    go false false e f = inr (inr (e, f))

-- the other becomes the one
swap-second : (c d x : PlayingCard) → x ≡ d → same_card x c ≡ false → swap c d x ≡ c
unfolding swap
swap-second c d x e n = rw (n, ap (λ y. same_card y d) e ∙ same_card-self d) refl

-- each third card stays
swap-other : (c d x : PlayingCard) → same_card x c ≡ false → same_card x d ≡ false → swap c d x ≡ x
unfolding swap
swap-other c d x n m = rw (n, m) refl

-- the swap keeps suits
swap-suit : (c d x : PlayingCard) → d.suit ≡ c.suit → (swap c d x).suit ≡ x.suit
swap-suit c d x suits = elim (which c d x) [
  | inl e ↦ ap (λ (y : PlayingCard). y.suit) (swap-first c d x e) ∙ suits ∙ ap (λ (y : PlayingCard). y.suit) (sym e)
  | inr o ↦ elim o [
    | inl h ↦ ap (λ (y : PlayingCard). y.suit) (swap-second c d x h.0 h.1) ∙ sym suits ∙ ap (λ (y : PlayingCard). y.suit) (sym h.0)
    | inr h ↦ ap (λ (y : PlayingCard). y.suit) (swap-other c d x h.0 h.1)
  ]
]

-- twice is once back
swap-back : (c d : PlayingCard) → same_card d c ≡ false → (x : PlayingCard) → swap c d (swap c d x) ≡ x
swap-back c d apart x = elim (which c d x) [
  | inl e ↦ ap (swap c d) (swap-first c d x e) ∙ swap-second c d d refl apart ∙ sym e
  | inr o ↦ elim o [
    | inl h ↦ ap (swap c d) (swap-second c d x h.0 h.1) ∙ swap-first c d c refl ∙ sym h.0
    | inr h ↦ ap (swap c d) (swap-other c d x h.0 h.1) ∙ swap-other c d x h.0 h.1
  ]
]

-- a card is in one hand
pub one-hand : (p : Board) → IsBoard p → (x y : Seat) (c : PlayingCard) → has_card (cards_at p x) c ≡ true → has_card (cards_at p y) c ≡ true → x ≡ y
one-hand p valid x y c hx hy = elim (same-or x y) [
  | inl e ↦ e
  | inr n ↦ (
      let a : 1 ≤ times (cards_at p x) c = times-has (cards_at p x) c hx in
      let b : 1 ≤ times (cards_at p y) c = times-has (cards_at p y) c hy in
      let o = valid.once c in
      let t : times (cards_at p x) c + times (cards_at p y) c ≤ times_in p.hands c = two x y n in
      absurd (omega (arith, a, b, o, t)))
]
  where
    two : (x y : Seat) → seat_code x ≢ seat_code y → times (hand_of p.hands x) c + times (hand_of p.hands y) c ≤ times_in p.hands c
    two North North n = absurd (n refl)
    two North East n = omega arith
    two North South n = omega arith
    two North West n = omega arith
    two East North n = omega arith
    two East East n = absurd (n refl)
    two East South n = omega arith
    two East West n = omega arith
    two South North n = omega arith
    two South East n = omega arith
    two South South n = absurd (n refl)
    two South West n = omega arith
    two West North n = omega arith
    two West East n = omega arith
    two West South n = omega arith
    two West West n = absurd (n refl)

-- a card on the trick is in no hand
pub not-on-trick : (p : Board) → IsBoard p → (x : Seat) (c : PlayingCard) → has_card (cards_at p x) c ≡ true → has_card p.trick c ≡ true → ⊥
not-on-trick p valid x c hand trick =
    let a : 1 ≤ times (cards_at p x) c = times-has (cards_at p x) c hand in
    let b : 1 ≤ times p.trick c = times-has p.trick c trick in
    let o = valid.once c in
    let t = times-hand p.hands x c in
    omega (arith, a, b, o, t)

-- a position is related to itself by the swap
equal-cover : (s : Side) (p : Board) (c d : PlayingCard) → IsBoard p → same_card d c ≡ false → AreEqual p c d → IsCover any_card 0 (swap c d) (swap c d) s p s p
equal-cover s p c d good apart eq =
    record {
      valid_p = good;
      valid_q = good;
      sides = λ x. refl;
      strain = refl;
      first = refl;
      to_suit = λ x. swap-suit c d x eq.suit;
      from_suit = λ x. swap-suit c d x eq.suit;
      forth = λ x e h t. (stays x e h, swap-back c d apart e);
      back = λ x e h t. (stays x e h, swap-back c d apart e);
      lengths = λ x u. refl;
      trick = tricks p.trick (λ e h. h);
      keeps = record { hands = hands; trick = trick; coming = coming };
      over_p = record { hands = λ x y a b n ha hb t u e. absurd (cc); trick = λ a b ha hb t u e. absurd (cc); coming = λ k a b low high ha hb. (λ t u e. absurd (cc), λ t u e. absurd (cc)) };
      over_q = record { hands = λ x y a b n ha hb t u e. absurd (cc); trick = λ a b ha hb t u e. absurd (cc); coming = λ k a b low high ha hb. (λ t u e. absurd (cc), λ t u e. absurd (cc)) };
    }
  where
    mine : Seat
    mine = mover p

    stays : (x : Seat) (e : PlayingCard) → has_card (cards_at p x) e ≡ true → has_card (cards_at p x) (swap c d e) ≡ true
    stays x e h = elim (which c d e) [
      | inl i ↦ (
          let here : x ≡ mover p = one-hand p good x (mover p) c (ap (has_card (cards_at p x)) (sym i) ∙ h) eq.has_c in
          ap (has_card (cards_at p x)) (swap-first c d e i) ∙ ap (λ y. has_card (cards_at p y) d) here ∙ eq.has_d)
      | inr o ↦ elim o [
        | inl i ↦ (
            let here : x ≡ mover p = one-hand p good x (mover p) d (ap (has_card (cards_at p x)) (sym i.0) ∙ h) eq.has_d in
            ap (has_card (cards_at p x)) (swap-second c d e i.0 i.1) ∙ ap (λ y. has_card (cards_at p y) c) here ∙ eq.has_c)
        | inr i ↦ ap (has_card (cards_at p x)) (swap-other c d e i.0 i.1) ∙ h
      ]
    ]

    -- neither of the two is elsewhere
    fixed : (e : PlayingCard) → ((x : PlayingCard) → has_card (cards_at p (mover p)) x ≡ true → e ≡ x → ⊥) → swap c d e ≡ e
    fixed e never = swap-other c d e (false_from_ne_true _ (λ h. never c eq.has_c (same_card-eq e c h))) (false_from_ne_true _ (λ h. never d eq.has_d (same_card-eq e d h)))

    fixed-hand : (x : Seat) (e : PlayingCard) → x ≢ mover p → has_card (cards_at p x) e ≡ true → swap c d e ≡ e
    fixed-hand x e n h = fixed e (λ y hy i. n (one-hand p good x (mover p) e h (ap (has_card (cards_at p (mover p))) i ∙ hy)))

    fixed-trick : (e : PlayingCard) → has_card p.trick e ≡ true → swap c d e ≡ e
    fixed-trick e h = fixed e (λ y hy i. not-on-trick p good (mover p) e (ap (has_card (cards_at p (mover p))) i ∙ hy) h)

    tricks : (cards : List PlayingCard) → ((e : PlayingCard) → has_card cards e ≡ true → has_card p.trick e ≡ true) → AllAnswer (swap c d) (swap c d) any_card cards cards
    tricks [] each = tt
    tricks (e ∷ cards) each =
        let f : swap c d e ≡ e = fixed-trick e (each e (has-first e cards)) in
        (record { suit = refl; kind = refl; same = λ h. (sym f, f) }, tricks cards (λ x h. each x (in-rest e x cards h)))

    -- against a card that is neither, and not between
    against : (a e : PlayingCard) → IsNotBetween c d e → swap c d e ≡ e → e.suit ≡ a.suit → (nat_le (swap c d a).rank (swap c d e).rank ≡ nat_le a.rank e.rank) × (nat_le (swap c d e).rank (swap c d a).rank ≡ nat_le e.rank a.rank)
    against a e between f suits = elim (which c d a) [
      | inl i ↦ (
          let b = between (suits ∙ ap (λ (y : PlayingCard). y.suit) i) in
          let g : (swap c d a).rank ≡ d.rank = ap (λ (y : PlayingCard). y.rank) (swap-first c d a i) in
          let h : (swap c d e).rank ≡ e.rank = ap (λ (y : PlayingCard). y.rank) f in
          let j : a.rank ≡ c.rank = ap (λ (y : PlayingCard). y.rank) i in
          (ap₂ nat_le g h ∙ sym b.0 ∙ ap (λ n. nat_le n e.rank) (sym j), ap₂ nat_le h g ∙ sym b.1 ∙ ap (nat_le e.rank) (sym j)))
      | inr o ↦ elim o [
        | inl i ↦ (
            let b = between (suits ∙ ap (λ (y : PlayingCard). y.suit) i.0 ∙ eq.suit) in
            let g : (swap c d a).rank ≡ c.rank = ap (λ (y : PlayingCard). y.rank) (swap-second c d a i.0 i.1) in
            let h : (swap c d e).rank ≡ e.rank = ap (λ (y : PlayingCard). y.rank) f in
            let j : a.rank ≡ d.rank = ap (λ (y : PlayingCard). y.rank) i.0 in
            (ap₂ nat_le g h ∙ b.0 ∙ ap (λ n. nat_le n e.rank) (sym j), ap₂ nat_le h g ∙ b.1 ∙ ap (nat_le e.rank) (sym j)))
        | inr i ↦ (
            let g : (swap c d a).rank ≡ a.rank = ap (λ (y : PlayingCard). y.rank) (swap-other c d a i.0 i.1) in
            let h : (swap c d e).rank ≡ e.rank = ap (λ (y : PlayingCard). y.rank) f in
            (ap₂ nat_le g h, ap₂ nat_le h g))
      ]
    ]

    hands : (x y : Seat) (a b : PlayingCard) → x ≢ y → has_card (cards_at p x) a ≡ true → has_card (cards_at p y) b ≡ true → Keeps (swap c d) any_card a b
    hands x y a b n ha hb t u e = elim (same-or y (mover p)) [
      | inl here ↦ (
          let away : x ≢ mover p = λ f. n (f ∙ sym here) in
          (against b a (eq.hands x a away ha) (fixed-hand x a away ha) e).1)
      | inr here ↦ (
          let away : y ≢ mover p = λ f. here (ap seat_code f) in
          (against a b (eq.hands y b away hb) (fixed-hand y b away hb) (sym e)).0)
    ]

    trick : (a b : PlayingCard) → has_card p.trick a ≡ true → has_card p.trick b ≡ true → Keeps (swap c d) any_card a b
    trick a b ha hb t u e = (against a b (eq.trick b hb) (fixed-trick b hb) (sym e)).0

    coming : (k : ℕ) (a b : PlayingCard) → length p.trick ≤ k → k < 4 → has_card p.trick a ≡ true → has_card (cards_at p (seat_after p.first k)) b ≡ true → Keeps (swap c d) any_card a b × Keeps (swap c d) any_card b a
    coming k a b low high ha hb = (λ t u e. (against b a (eq.trick a ha) (fixed-trick a ha) e).1, λ t u e. (against b a (eq.trick a ha) (fixed-trick a ha) (sym e)).0)

-- what either side takes is the same with either card
pub equal-won : (s : Side) (p : Board) (c d : PlayingCard) → IsBoard p → IsLegal p c → IsLegal p d → AreEqual p c d → won_with s p d ≡ won_with s p c
equal-won s p c d good has has' eq = go (same_card d c) refl
  where
    go : (b : Bool) → same_card d c ≡ b → won_with s p d ≡ won_with s p c
    go true e = ap (won_with s p) (same_card-eq d c e)
    go false e =
        let cover : IsCover any_card 0 (swap c d) (swap c d) s p s p = equal-cover s p c d good e eq in
        let m : Answers (swap c d) (swap c d) any_card c d = record { suit = eq.suit; kind = refl; same = λ h. (sym (swap-first c d c refl), swap-second c d d refl e) } in
        let n = stepped any_card 0 (swap c d) (swap c d) s p s p cover c d has has' m (λ e i l h f. refl) in
        ap₂ (λ a b. a + b) n.worth (twins-won s (after p c) s (after p d) (0, swap c d, swap c d, n.cover))
