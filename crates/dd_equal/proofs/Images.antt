-- equal cards that a claim rests on are answered by equal cards, so one is worth as much as another
use Rattle.std.proofs.Common.{◌≡◌, ◌≢◌, ℕ, zero, suc, ◌+◌, ◌*◌, ◌<◌, ◌≤◌, Bool, true, false, refl, sym, ap, ◌∙◌, subst, arith, length, inl, inr, ◌⊎◌}
use Rattle.std.specs.Prelude.{nat_le, nat_lt, ◌&&◌, ◌||◌}
use mathlib.Core.Bool.{not}
use Rattle.std.specs.List.{list_any}
use mathlib.Core.Path.{ap₂}
use Rattle.std.proofs.lemmas.Bool.{le-leb, ltb-true, false_from_ne_true}
use Rattle.std.proofs.lemmas.Bool.Decides.{nat_tests}
use Rattle.dd_cards.specs.declared.seat.Seat.{Seat}
use Rattle.dd_cards.specs.declared.seat.Seat.TheVariants.{North, East, South, West}
use Rattle.dd_cards.specs.PlayingCard.{PlayingCard}
use Rattle.dd_cards.specs.Cards.{is_of, has_card}
use Rattle.dd_cards.specs.Seats.{seat_code, seat_after}
use Rattle.dd_cards.proofs.CallerLemmas.{and-left, and-right, any-some}
use Rattle.dd_cards.specs.Sides.{is_side}
use Rattle.dd_cards.specs.declared.side.Side.{Side}
use Rattle.dd_play.specs.Board.{Board, IsBoard, cards_at, mover, tricks_left}
use Rattle.dd_play.specs.Play.{legal}
use Rattle.dd_play.specs.Simulations.{IsLegal}
use Rattle.dd_play.specs.Covers.{ForMet, Keeps, IsOver, Answers, IsCover}
use Rattle.dd_play.specs.Reach.{IsUpward, TakesBy, IsWorth}
use Rattle.dd_play.proofs.CallerLemmas.{Pulled, by-each, card-real, filter-has, legal-to, met-back, met-both, mover-turned, of-suit', own-card, suit-of, trick-back, unturn, won_with, worth-low}
use Rattle.dd_equal.specs.EqualCards.{other_cards, is_between, are_equal, is_top, tops, IsWhole}
use Rattle.dd_equal.proofs.Swaps.{IsNotBetween, AreEqual, equal-won}
use Rattle.dd_equal.proofs.Equal.{tells-equal}
use Rattle.dd_equal.proofs.Suits.{others-split}

-- ---- equal top cards have equal images
side-keeps : (top : PlayingCard → Bool) (to from : PlayingCard → PlayingCard) (e y : PlayingCard) → Pulled top to from (Keeps to top) e y → top (from e) ≡ true → top (from y) ≡ true → (from e).suit ≡ (from y).suit
    → nat_le e.rank y.rank ≡ nat_le (from e).rank (from y).rank
side-keeps top to from e y m te ty suits =
    let g = m te ty in
    sym (ap₂ (λ (a b : PlayingCard). nat_le a.rank b.rank) g.1 g.2) ∙ g.0 te ty suits

abbrev Both : (PlayingCard → Bool) → (PlayingCard → PlayingCard) → (PlayingCard → PlayingCard) → PlayingCard → PlayingCard → Type 0
Both top to from a b = IsOver (λ y. top (from y)) a b × Pulled top to from (Keeps to top) a b

not-between : (top : PlayingCard → Bool) (to from : PlayingCard → PlayingCard) → ((y : PlayingCard) → (from y).suit ≡ y.suit) → (e f y : PlayingCard)
    → top (from e) ≡ true → top (from f) ≡ true → f.suit ≡ e.suit
    → Both top to from e y → Both top to from y e → Both top to from f y → Both top to from y f
    → (top (from y) ≡ true → IsNotBetween (from e) (from f) (from y)) → IsNotBetween e f y
not-between top to from suited e f y te tf suits ey ye fy yf there = λ yes. go (top (from y)) refl yes
  where
    lower : (a b : ℕ) → a < b → (nat_le a b ≡ true) × (nat_le b a ≡ false)
    lower a b h = (le-leb a b (omega (arith, h)), strictly a b h)
      where
        strictly : (a b : ℕ) → a < b → nat_le b a ≡ false
        strictly a b h = grind (arith, nat_tests)

    go : (b : Bool) → top (from y) ≡ b → y.suit ≡ e.suit → (nat_le e.rank y.rank ≡ nat_le f.rank y.rank) × (nat_le y.rank e.rank ≡ nat_le y.rank f.rank)
    go true ty ye_suit =
        let a : (from y).suit ≡ (from e).suit = suited y ∙ ye_suit ∙ sym (suited e) in
        let b : (from y).suit ≡ (from f).suit = suited y ∙ ye_suit ∙ sym suits ∙ sym (suited f) in
        let k = there ty a in (
          side-keeps top to from e y ey.1 te ty (sym a) ∙ k.0 ∙ sym (side-keeps top to from f y fy.1 tf ty (sym b)),
          side-keeps top to from y e ye.1 ty te a ∙ k.1 ∙ sym (side-keeps top to from y f yf.1 ty tf b),
        )
    go false ty ye_suit =
        let a = lower y.rank e.rank (ey.0 te ty (sym ye_suit)) in
        let b = lower y.rank f.rank (fy.0 tf ty (suits ∙ sym ye_suit)) in
        (a.1 ∙ sym b.1, a.0 ∙ sym b.0)

pub equal-images : (top : PlayingCard → Bool) (k : ℕ) (to from : PlayingCard → PlayingCard) (s : Side) (p : Board) (t : Side) (q : Board) → IsCover top k to from s p t q
    → (c d : PlayingCard) → top c ≡ true → top d ≡ true → AreEqual p c d → AreEqual q (to c) (to d)
equal-images top k to from s p t q r c d tc td eq =
    record { has_c = own_c; has_d = own_d; suit = r.to_suit d ∙ eq.suit ∙ sym (r.to_suit c); hands = hands; trick = trick }
  where
    turned : mover q ≡ seat_after (mover p) k
    turned = mover-turned top k to from s p t q r

    fc : (has_card (cards_at q (seat_after (mover p) k)) (to c) ≡ true) × (from (to c) ≡ c)
    fc = r.forth (mover p) c eq.has_c tc

    fd : (has_card (cards_at q (seat_after (mover p) k)) (to d) ≡ true) × (from (to d) ≡ d)
    fd = r.forth (mover p) d eq.has_d td

    own_c : has_card (cards_at q (mover q)) (to c) ≡ true
    own_c = ap (λ y. has_card (cards_at q y) (to c)) turned ∙ fc.0

    own_d : has_card (cards_at q (mover q)) (to d) ≡ true
    own_d = ap (λ y. has_card (cards_at q y) (to d)) turned ∙ fd.0

    met : ForMet q (Both top to from)
    met = met-both q (IsOver (λ y. top (from y))) (Pulled top to from (Keeps to top)) r.over_q (met-back top k to from s p t q (Keeps to top) r r.keeps)

    pull : (y : PlayingCard) → IsNotBetween c d (from y) → IsNotBetween (from (to c)) (from (to d)) (from y)
    pull y h = subst (λ a. IsNotBetween a (from (to d)) (from y)) (sym fc.1) (subst (λ b. IsNotBetween c b (from y)) (sym fd.1) h)

    hands : (x : Seat) (y : PlayingCard) → x ≢ mover q → has_card (cards_at q x) y ≡ true → IsNotBetween (to c) (to d) y
    hands x y away h =
        not-between top to from r.from_suit (to c) (to d) y (ap top fc.1 ∙ tc) (ap top fd.1 ∙ td) (r.to_suit d ∙ eq.suit ∙ sym (r.to_suit c))
        (met.hands (mover q) x (to c) y (λ z. away (sym z)) own_c h) (met.hands x (mover q) y (to c) away h own_c)
        (met.hands (mover q) x (to d) y (λ z. away (sym z)) own_d h) (met.hands x (mover q) y (to d) away h own_d)
        (λ ty. pull y (
        let x' : Seat = seat_after x (3 * k) in
        let b = r.back x' y (ap (λ z. has_card (cards_at q z) y) (unturn x k) ∙ h) ty in
        eq.hands x' (from y) (λ z. away (sym (unturn x k) ∙ ap (λ z. seat_after z k) z ∙ sym turned)) b.0))

    trick : (y : PlayingCard) → has_card q.trick y ≡ true → IsNotBetween (to c) (to d) y
    trick y h =
        let short : length q.trick < 4 = (let v = r.valid_q.short in omega (arith, v)) in
        let mc = met.coming (length q.trick) y (to c) (omega arith) short h own_c in
        let md = met.coming (length q.trick) y (to d) (omega arith) short h own_d in
        not-between top to from r.from_suit (to c) (to d) y (ap top fc.1 ∙ tc) (ap top fd.1 ∙ td) (r.to_suit d ∙ eq.suit ∙ sym (r.to_suit c))
        mc.1 mc.0 md.1 md.0
        (λ ty. pull y (eq.trick (from y) (trick-back to from top p.trick q.trick r.trick y h ty).0))

-- of two equal cards that a claim rests on, one is worth as much as the other
worth-equal : (top : PlayingCard → Bool) (s : Side) (p : Board) (c d : PlayingCard) (n : ℕ) → IsLegal p c → IsLegal p d → top c ≡ true → top d ≡ true → AreEqual p c d → IsWorth top s p d n → IsWorth top s p c n
worth-equal top s p c d n hc hd tc td eq worth k to from t q r strict e le a =
    let f = r.forth (mover p) d eq.has_d td in
    let b : Answers to from top d (to d) = record { suit = r.to_suit d; kind = ap top f.1; same = λ h. (refl, f.1) } in
    let own : has_card (cards_at q (mover q)) (to d) ≡ true = ap (λ y. has_card (cards_at q y) (to d)) (mover-turned top k to from s p t q r) ∙ f.0 in
    let le' : IsLegal q (to d) = legal-to top k to from s p t q r d (to d) hd own b in
    let one : n ≤ won_with t q (to d) = worth k to from t q r strict (to d) le' b in
    let image : e ≡ to c = (a.same tc).0 in
    let same : won_with t q (to d) ≡ won_with t q (to c) = equal-won t q (to c) (to d) r.valid_q (ap (has_card (legal q)) (sym image) ∙ le) le' (equal-images top k to from s p t q r c d tc td eq) in
    let done : won_with t q e ≡ won_with t q (to c) = ap (won_with t q) image in
    omega (arith, one, same, done)

-- equality is an equivalence
itself-equal : (p : Board) (c : PlayingCard) → has_card (cards_at p (mover p)) c ≡ true → AreEqual p c c
itself-equal p c has = record { has_c = has; has_d = has; suit = refl; hands = λ x e n h suit. (refl, refl); trick = λ e h suit. (refl, refl) }

on-equal : (p : Board) (c d e : PlayingCard) → AreEqual p c d → AreEqual p d e → AreEqual p c e
on-equal p c d e a b = record {
  has_c = a.has_c;
  has_d = b.has_d;
  suit = b.suit ∙ a.suit;
  hands = λ x y n h suit. (let i = a.hands x y n h suit in let j = b.hands x y n h (suit ∙ sym a.suit) in (i.0 ∙ j.0, i.1 ∙ j.1));
  trick = λ y h suit. (let i = a.trick y h suit in let j = b.trick y h (suit ∙ sym a.suit) in (i.0 ∙ j.0, i.1 ∙ j.1));
}

pub back-equal : (p : Board) (c d : PlayingCard) → AreEqual p c d → AreEqual p d c
back-equal p c d a = record {
  has_c = a.has_d;
  has_d = a.has_c;
  suit = sym a.suit;
  hands = λ x y n h suit. (let i = a.hands x y n h (suit ∙ a.suit) in (sym i.0, sym i.1));
  trick = λ y h suit. (let i = a.trick y h (suit ∙ a.suit) in (sym i.0, sym i.1));
}

-- the highest card of a legal card's class
abbrev pub HighestOf : Board → PlayingCard → Type 0
HighestOf p c = (t : PlayingCard) × (has_card (tops p) t ≡ true) × IsLegal p t × AreEqual p c t × (c.rank ≤ t.rank)

-- From a card that is not the highest of its class there is a higher equal one, and ranks end at the ace.
highest-from : (n : ℕ) (p : Board) (c : PlayingCard) → IsBoard p → IsLegal p c → 15 ≤ c.rank + n → HighestOf p c
highest-from zero p c valid has h = absurd (let r = card-real p (mover p) c valid (own-card p c has) in omega (arith, h, r.1))
highest-from (suc n) p c valid has h = go (list_any (λ d. are_equal p c d && nat_lt c.rank d.rank) (legal p)) refl (highest-from n p)
  where
    go : (b : Bool) → list_any (λ d. are_equal p c d && nat_lt c.rank d.rank) (legal p) ≡ b
        → ((d : PlayingCard) → IsBoard p → IsLegal p d → 15 ≤ d.rank + n → HighestOf p d) → HighestOf p c
    go false e rest = (c, filter-has (is_top p) (legal p) c has (ap not e), has, itself-equal p c (own-card p c has), omega arith)
    go true e rest =
        let d = any-some (λ d. are_equal p c d && nat_lt c.rank d.rank) (legal p) e in
        let equal : are_equal p c d.0 ≡ true = and-left (are_equal p c d.0) (nat_lt c.rank d.0.rank) d.2 in
        let higher : c.rank < d.0.rank = ltb-true c.rank d.0.rank (and-right (are_equal p c d.0) (nat_lt c.rank d.0.rank) d.2) in
        let t = rest d.0 valid d.1 (omega (arith, h, higher)) in
        let high = t.4 in
        (t.0, t.1, t.2, on-equal p c d.0 t.0 (tells-equal p c d.0 valid (own-card p c has) (own-card p d.0 d.1) equal) t.3, omega (arith, higher, high))

pub highest-of : (p : Board) (c : PlayingCard) → IsBoard p → IsLegal p c → HighestOf p c
highest-of p c valid has = highest-from 15 p c valid has (omega arith)

-- Where the other side is to play, the highest card of each class stands for the class, if a class of which it is a card that
-- the claim rests on is so wholly.
pub each-class-by : (top : PlayingCard → Bool) (s : Side) (p : Board) (n : ℕ) → IsUpward top → IsBoard p → is_side s (mover p) ≡ false → 1 ≤ tricks_left p
    → ((t c : PlayingCard) → has_card (tops p) t ≡ true → IsLegal p c → AreEqual p t c → c.rank ≤ t.rank → top t ≡ true → top c ≡ true)
    → ((c : PlayingCard) → has_card (tops p) c ≡ true → IsWorth top s p c n) → TakesBy top s p n
each-class-by top s p n up valid turn some whole each =
    by-each top s p n turn some (λ c has.
    let t = highest-of p c valid has in
    go c has t (top t.0) refl)
  where
    low : (c t : PlayingCard) → top t ≡ false → t.suit ≡ c.suit → c.rank ≤ t.rank → (b : Bool) → top c ≡ b → top c ≡ false
    low c t none suits h false e = e
    low c t none suits h true e = absurd (let k = up c t e none (sym suits) in omega (arith, k, h))

    go : (c : PlayingCard) → IsLegal p c → (t : HighestOf p c) → (b : Bool) → top t.0 ≡ b → IsWorth top s p c n
    go c has t true e = worth-equal top s p c t.0 n has t.2 (whole t.0 c t.1 has (back-equal p c t.0 t.3) t.4 e) e t.3 (each t.0 t.1)
    go c has t false e = worth-low top s p t.0 c n e (low c t.0 e t.3.suit t.4 (top c) refl) (sym t.3.suit) (each t.0 t.1)

-- ---- the test, from the relation

-- a card on one side of both is not between
not-apart : (c d e : PlayingCard) → IsNotBetween c d e → is_between c d e ≡ false
not-apart c d e h = false_from_ne_true _ (λ hit.
    let suit : e.suit ≡ c.suit = suit-of c.suit e (and-left (is_of c.suit e) ((nat_lt c.rank e.rank && nat_lt e.rank d.rank) || (nat_lt d.rank e.rank && nat_lt e.rank c.rank)) hit) in
    let k = h suit in
    beside c.rank d.rank e.rank k.0 k.1 (and-right (is_of c.suit e) ((nat_lt c.rank e.rank && nat_lt e.rank d.rank) || (nat_lt d.rank e.rank && nat_lt e.rank c.rank)) hit))
  where
    beside : (a b e : ℕ) → nat_le a e ≡ nat_le b e → nat_le e a ≡ nat_le e b → ((nat_lt a e && nat_lt e b) || (nat_lt b e && nat_lt e a)) ≡ true → ⊥
    beside a b e x y z = grind (arith, nat_tests)

-- a seat is not one, two or three places after itself
seat-apart : (m : Seat) → (seat_after m 1 ≢ m) × (seat_after m 2 ≢ m) × (seat_after m 3 ≢ m)
seat-apart North = (λ e. absurd (let k : 1 ≡ 0 = ap seat_code e in omega (arith, k)), λ e. absurd (let k : 2 ≡ 0 = ap seat_code e in omega (arith, k)), λ e. absurd (let k : 3 ≡ 0 = ap seat_code e in omega (arith, k)))
seat-apart East = (λ e. absurd (let k : 2 ≡ 1 = ap seat_code e in omega (arith, k)), λ e. absurd (let k : 3 ≡ 1 = ap seat_code e in omega (arith, k)), λ e. absurd (let k : 0 ≡ 1 = ap seat_code e in omega (arith, k)))
seat-apart South = (λ e. absurd (let k : 3 ≡ 2 = ap seat_code e in omega (arith, k)), λ e. absurd (let k : 0 ≡ 2 = ap seat_code e in omega (arith, k)), λ e. absurd (let k : 1 ≡ 2 = ap seat_code e in omega (arith, k)))
seat-apart West = (λ e. absurd (let k : 0 ≡ 3 = ap seat_code e in omega (arith, k)), λ e. absurd (let k : 1 ≡ 3 = ap seat_code e in omega (arith, k)), λ e. absurd (let k : 2 ≡ 3 = ap seat_code e in omega (arith, k)))

pub equal-tells : (p : Board) (c d : PlayingCard) → AreEqual p c d → are_equal p c d ≡ true
equal-tells p c d a = rw (of-suit' c.suit d a.suit, none) refl
  where
    or-split : (a b : Bool) → (a || b) ≡ true → (a ≡ true) ⊎ (b ≡ true)
    or-split true b h = inl refl
    or-split false b h = inr h

    apart : (seat_after (mover p) 1 ≢ mover p) × (seat_after (mover p) 2 ≢ mover p) × (seat_after (mover p) 3 ≢ mover p)
    apart = seat-apart (mover p)

    each : (e : PlayingCard) → has_card (other_cards p) e ≡ true → IsNotBetween c d e
    each e h = elim (or-split _ _ (sym (others-split p e) ∙ h)) [
      | inl i ↦ elim (or-split _ _ i) [
        | inl j ↦ elim (or-split _ _ j) [
          | inl k ↦ a.hands (seat_after (mover p) 1) e apart.0 k
          | inr k ↦ a.hands (seat_after (mover p) 2) e apart.1 k
        ]
        | inr j ↦ a.hands (seat_after (mover p) 3) e apart.2 j
      ]
      | inr i ↦ a.trick e i
    ]

    none : list_any (is_between c d) (other_cards p) ≡ false
    none = false_from_ne_true _ (λ hit. let e = any-some (is_between c d) (other_cards p) hit in absurd (let z : false ≡ true = sym (not-apart c d e.0 (each e.0 e.1)) ∙ e.2 in cc))

-- the law, in the words of the test
pub each-class-whole : (top : PlayingCard → Bool) (s : Side) (p : Board) (n : ℕ) → IsUpward top → IsBoard p → is_side s (mover p) ≡ false → 1 ≤ tricks_left p
    → IsWhole top p → ((c : PlayingCard) → has_card (tops p) c ≡ true → IsWorth top s p c n) → TakesBy top s p n
each-class-whole top s p n up valid turn some whole each =
    each-class-by top s p n up valid turn some (λ t c has legal eq low h. whole t c has legal (equal-tells p t c eq) h) each
