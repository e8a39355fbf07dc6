-- what a legal card does to the hands, to the pairs that can meet, and which cards are legal
use Rattle.std.proofs.Common.{◌≡◌, ◌≢◌, ℕ, ◌+◌, ◌<◌, ◌≤◌, Bool, true, false, refl, sym, ap, ◌∙◌, subst, arith, List, [], ◌∷◌, ◌++◌, length, length-append, inl, inr, ◌⊎◌, eq-eqb}
use Rattle.std.specs.Prelude.{filter, if◌then◌else◌, nat_lt}
use mathlib.Core.Bool.{not}
use Rattle.std.proofs.lemmas.Bool.{eqb-true, lt-ltb, ltb-true}
use Rattle.std.proofs.lemmas.Bool.Decides.{eqb_tells}
use Rattle.dd_cards.specs.declared.seat.Seat.{Seat}
use Rattle.dd_cards.specs.declared.suit.Suit.{Suit}
use Rattle.dd_cards.specs.declared.seat.Seat.TheVariants.{North, East, South, West}
use Rattle.dd_cards.specs.PlayingCard.{PlayingCard}
use Rattle.dd_cards.specs.Suits.{suit_code}
use Rattle.dd_cards.specs.Cards.{is_of, same_card, has_card, without}
use Rattle.dd_cards.specs.Seats.{seat_code, seat_after}
use Rattle.dd_cards.specs.Hands.{hand_of, times, FourHands}
use Rattle.dd_cards.proofs.CallerLemmas.{and-left, any-filter, has_card-filter, same_card-eq, same_card-self, seat_code-injective, suit_code-injective, seat_code-lt, times-has, and-right}
use Rattle.dd_cards.specs.Ranks.{IsRank}
use Rattle.dd_play.specs.Board.{Board, IsBoard, cards_at, mover, times_in}
use Rattle.dd_play.specs.Tricks.{or_else, winner_of}
use Rattle.dd_play.specs.Play.{following, completes, trick_with, hands_after, after}
use Rattle.dd_play.proofs.Values.{in-following, hands-after}
use Rattle.dd_play.proofs.Boards.{push-real, card-real, flag_of, after-code, hand-same, hand-other, times-push, after-once, has-first, in-rest}
use Rattle.dd_play.specs.Simulations.{IsLegal}
use Rattle.dd_play.specs.Covers.{ForMet}
use Rattle.dd_play.proofs.Counts.{in-without}
use Rattle.dd_cards.specs.Sequences.{is_above}

-- ---- seats

-- turns of the table may be made in either order
pub turn-turn : (x : Seat) (j k : ℕ) → seat_after (seat_after x j) k ≡ seat_after (seat_after x k) j
turn-turn x j k =
    let a = after-code x j in
    let b = after-code x k in
    let c = after-code (seat_after x j) k in
    let d = after-code (seat_after x k) j in
    seat_code-injective (seat_after (seat_after x j) k) (seat_after (seat_after x k) j) (omega (arith, a, b, c, d))

-- two seats are still two after a turn
pub turn-apart : (x y : Seat) (k : ℕ) → seat_code x ≢ seat_code y → seat_code (seat_after x k) ≢ seat_code (seat_after y k)
turn-apart x y k apart = λ e.
    let a = after-code x k in
    let b = after-code y k in
    let c = seat_code-lt x in
    let d = seat_code-lt y in
    apart (omega (arith, a, b, c, d, e))

-- two seats are the same, or have two codes
pub same-or : (x y : Seat) → (x ≡ y) ⊎ (seat_code x ≢ seat_code y)
same-or x y = elim (eqb_tells (seat_code x) (seat_code y)) [ inl e ↦ inl (seat_code-injective x y e.1) | inr e ↦ inr e.1 ]

-- ---- hands

-- a legal card is in the mover's hand
pub own-card : (p : Board) (c : PlayingCard) → IsLegal p c → has_card (cards_at p (mover p)) c ≡ true
own-card p c has = in-following p.trick (cards_at p (mover p)) c has

-- the mover's hand after the play is without the card
pub hand-own : (p : Board) (c : PlayingCard) → IsBoard p → cards_at (after p c) (mover p) ≡ without (cards_at p (mover p)) c
hand-own p c valid = ap (λ h. hand_of h (mover p)) (hands-after p c) ∙ hand-same p.hands (mover p) (without (cards_at p (mover p)) c)

-- the other hands are as they were
pub hand-others : (p : Board) (c : PlayingCard) (x : Seat) → seat_code x ≢ seat_code (mover p) → cards_at (after p c) x ≡ cards_at p x
hand-others p c x apart = ap (λ h. hand_of h x) (hands-after p c) ∙ hand-other p.hands (mover p) x (without (cards_at p (mover p)) c) apart

-- a card that is in a hand after the play was there before
pub was-in : (p : Board) (c : PlayingCard) → IsBoard p → (x : Seat) (d : PlayingCard) → has_card (cards_at (after p c) x) d ≡ true → has_card (cards_at p x) d ≡ true
was-in p c valid x d has = elim (same-or x (mover p)) [
  | inl e ↦ (
      let h : has_card (without (cards_at p (mover p)) c) d ≡ true = ap (λ cards. has_card cards d) (sym (ap (cards_at (after p c)) e ∙ hand-own p c valid)) ∙ has in
      ap (λ y. has_card (cards_at p y) d) e ∙ any-filter (λ y. same_card y d) (λ y. not (same_card y c)) (cards_at p (mover p)) h)
  | inr e ↦ ap (λ cards. has_card cards d) (sym (hand-others p c x e)) ∙ has
]

-- each other card stays where it was
pub is-in : (p : Board) (c : PlayingCard) → IsBoard p → (x : Seat) (d : PlayingCard) → has_card (cards_at p x) d ≡ true → same_card d c ≡ false → has_card (cards_at (after p c) x) d ≡ true
is-in p c valid x d has apart = elim (same-or x (mover p)) [
  | inl e ↦ ap (λ cards. has_card cards d) (ap (cards_at (after p c)) e ∙ hand-own p c valid) ∙ in-without (cards_at p (mover p)) c d (ap (λ y. has_card (cards_at p y) d) (sym e) ∙ has) apart
  | inr e ↦ ap (λ cards. has_card cards d) (hand-others p c x e) ∙ has
]

-- a card stands in a hand no more often than in all four
pub times-hand : (hands : FourHands) (x : Seat) (c : PlayingCard) → times (hand_of hands x) c ≤ times_in hands c
times-hand hands North c = omega arith
times-hand hands East c = omega arith
times-hand hands South c = omega arith
times-hand hands West c = omega arith

-- a card stands in a hand at most once
pub once-in : (p : Board) → IsBoard p → (x : Seat) (c : PlayingCard) → times (cards_at p x) c ≤ 1
once-in p valid x c = (let a = times-hand p.hands x c in let b = valid.once c in omega (arith, a, b))

-- the card played is in no hand afterwards
pub gone : (p : Board) (c : PlayingCard) → IsBoard p → IsLegal p c → (x : Seat) → has_card (cards_at (after p c) x) c ≡ true → ⊥
gone p c valid has x there =
    let a : times_in (hands_after p c) c + times (trick_with p c) c ≤ 1 = after-once p c valid (own-card p c has) c in
    let b : times (trick_with p c) c ≡ times p.trick c + flag_of (same_card c c) = times-push p.trick c c in
    let f : flag_of (same_card c c) ≡ 1 = ap flag_of (same_card-self c) in
    let d : times (hand_of (hands_after p c) x) c ≤ times_in (hands_after p c) c = times-hand (hands_after p c) x c in
    let e : 1 ≤ times (hand_of (hands_after p c) x) c = times-has (hand_of (hands_after p c) x) c (ap (λ h. has_card (hand_of h x) c) (sym (hands-after p c)) ∙ there) in
    omega (arith, a, b, f, d, e)

-- ---- the trick

-- a card that completes no trick goes on it, and the leader stays
pub trick-after : (p : Board) (c : PlayingCard) → completes p ≡ false → ((after p c).trick ≡ trick_with p c) × ((after p c).first ≡ p.first)
trick-after p c e = rw e (refl, refl)

-- a card that completes a trick leaves an empty one, and its winner leads
pub trick-closed : (p : Board) (c : PlayingCard) → completes p ≡ true → ((after p c).trick ≡ []) × ((after p c).first ≡ winner_of (trick_with p c) p.first p.strain)
trick-closed p c e = rw e (refl, refl)

-- the strain stays
pub strain-after : (p : Board) (c : PlayingCard) → (after p c).strain ≡ p.strain
strain-after p c = elim (completes p) as (λ b. (if b
    then (let r : Board = record { hands = hands_after p c; strain = p.strain; first = winner_of (trick_with p c) p.first p.strain; trick = [] } in r)
    else (let r : Board = record { hands = hands_after p c; strain = p.strain; first = p.first; trick = trick_with p c } in r)).strain ≡ p.strain) [ true ↦ refl | false ↦ refl ]

-- a card of a list with a last card is that card or one before it
pub in-push : (cards : List PlayingCard) (c d : PlayingCard) → has_card (cards ++ c ∷ []) d ≡ true → (has_card cards d ≡ true) ⊎ (c ≡ d)
in-push [] c d h = go (same_card c d) refl
  where
    go : (b : Bool) → same_card c d ≡ b → (false ≡ true) ⊎ (c ≡ d)
    go true e = inr (same_card-eq c d e)
    go false e = absurd (let k : false ≡ true = rw e at h in cc)
in-push (x ∷ cards) c d h = go (same_card x d) refl (λ k. in-push cards c d k)
  where
    go : (b : Bool) → same_card x d ≡ b → (has_card (cards ++ c ∷ []) d ≡ true → (has_card cards d ≡ true) ⊎ (c ≡ d)) → (has_card (x ∷ cards) d ≡ true) ⊎ (c ≡ d)
    go true e ih = inl (rw e refl)
    go false e ih = elim (ih (rw e at h)) [ inl k ↦ inl (in-rest x d cards k) | inr k ↦ inr k ]

-- what holds of all cards that can meet holds of any two on the trick with the card played
pub met-trick : (p : Board) (c : PlayingCard) (P : PlayingCard → PlayingCard → Type 0) → ((e : PlayingCard) → P e e) → IsBoard p → IsLegal p c → ForMet p P
    → (d e : PlayingCard) → has_card (trick_with p c) d ≡ true → has_card (trick_with p c) e ≡ true → length p.trick < 4 → P d e
met-trick p c P own-P valid has met d e hd he short =
    let own : has_card (cards_at p (mover p)) c ≡ true = own-card p c has in
    elim (in-push p.trick c d hd) [
      | inl td ↦ elim (in-push p.trick c e he) [
        | inl te ↦ met.trick d e td te
        | inr ce ↦ subst (λ y. P d y) ce (met.coming (length p.trick) d c (omega arith) short td own).0
      ]
      | inr cd ↦ elim (in-push p.trick c e he) [
        | inl te ↦ subst (λ y. P y e) cd (met.coming (length p.trick) e c (omega arith) short te own).1
        | inr ce ↦ subst (λ y. P y e) cd (subst (λ y. P c y) ce (own-P c))
      ]
    ]

-- ---- pairs that can meet

-- what holds of all cards that can meet holds of those that can meet after the play
pub met-after : (p : Board) (c : PlayingCard) (P : PlayingCard → PlayingCard → Type 0) → ((e : PlayingCard) → P e e) → IsBoard p → IsLegal p c → ForMet p P → ForMet (after p c) P
met-after p c P own-P valid has met = go (completes p) refl
  where
    own : has_card (cards_at p (mover p)) c ≡ true
    own = own-card p c has

    hands : (x y : Seat) (d e : PlayingCard) → x ≢ y → has_card (cards_at (after p c) x) d ≡ true → has_card (cards_at (after p c) y) e ≡ true → P d e
    hands x y d e differ hd he = met.hands x y d e differ (was-in p c valid x d hd) (was-in p c valid y e he)

    no : (d : PlayingCard) (trick : List PlayingCard) → trick ≡ [] → has_card trick d ≡ true → ⊥
    no d trick e h = (let k : false ≡ true = ap (λ cards. has_card cards d) (sym e) ∙ h in cc)

    two : (d e : PlayingCard) → has_card (trick_with p c) d ≡ true → has_card (trick_with p c) e ≡ true → P d e
    two d e hd he = met-trick p c P own-P valid has met d e hd he (let s = valid.short in omega (arith, s))

    away : (k : ℕ) → length p.trick + 1 ≤ k → k < 4 → mover p ≢ seat_after p.first k
    away k low high = λ e.
        let a = after-code p.first (length p.trick) in
        let b = after-code p.first k in
        let f : seat_code (mover p) ≡ seat_code (seat_after p.first k) = ap seat_code e in
        omega (arith, a, b, f, low, high)

    come : (k : ℕ) (d e : PlayingCard) → length p.trick + 1 ≤ k → k < 4 → has_card (trick_with p c) d ≡ true → has_card (cards_at p (seat_after p.first k)) e ≡ true → P d e × P e d
    come k d e low high hd he = elim (in-push p.trick c d hd) [
      | inl td ↦ met.coming k d e (omega (arith, low)) high td he
      | inr cd ↦ subst (λ y. P y e × P e y) cd (met.hands (mover p) (seat_after p.first k) c e (away k low high) own he, met.hands (seat_after p.first k) (mover p) e c (λ z. away k low high (sym z)) he own)
    ]

    go : (b : Bool) → completes p ≡ b → ForMet (after p c) P
    go true e =
        let t = (trick-closed p c e).0 in
        record {
          hands = hands;
          trick = λ d f hd hf. absurd (no d (after p c).trick t hd);
          coming = λ k d f low high hd hf. absurd (no d (after p c).trick t hd);
        }
    go false e =
        let t = (trick-after p c e).0 in
        let f = (trick-after p c e).1 in
        let longer : length (p.trick ++ c ∷ []) ≡ length p.trick + 1 = length-append p.trick (c ∷ []) in
        record {
          hands = hands;
          trick = λ d g hd hg. two d g (ap (λ cards. has_card cards d) (sym t) ∙ hd) (ap (λ cards. has_card cards g) (sym t) ∙ hg);
          coming = λ k d g low high hd hg. (
              let l : length (after p c).trick ≡ length p.trick + 1 = ap length t ∙ longer in
              let was : has_card (cards_at p (seat_after (after p c).first k)) g ≡ true = was-in p c valid (seat_after (after p c).first k) g hg in
              come k d g (omega (arith, l, low)) high (ap (λ cards. has_card cards d) (sym t) ∙ hd) (ap (λ y. has_card (cards_at p (seat_after y k)) g) (sym f) ∙ was));
        }

-- ---- ranks

-- the cards of the trick with a legal card on it are real
pub real-trick : (p : Board) (c : PlayingCard) → IsBoard p → IsLegal p c → (d : PlayingCard) → has_card (trick_with p c) d ≡ true → IsRank d.rank
real-trick p c valid has = push-real p.trick c valid.real (card-real p (mover p) c valid (own-card p c has))

-- ---- which cards are legal: those of the hand that follow suit where the hand can

-- the card is of the suit led, unless the hand has none of that suit
abbrev pub Obeys : List PlayingCard → List PlayingCard → PlayingCard → Type 0
Obeys [] hand c = Unit {0}
Obeys (led ∷ rest) hand c = (d : PlayingCard) → has_card hand d ≡ true → d.suit ≡ led.suit → c.suit ≡ led.suit

-- a card that passes the test of a suit is of that suit
pub suit-of : (u : Suit) (c : PlayingCard) → is_of u c ≡ true → c.suit ≡ u
suit-of u c h = suit_code-injective c.suit u (eqb-true (suit_code c.suit) (suit_code u) h)

-- and a card of a suit passes its test
pub of-suit' : (u : Suit) (c : PlayingCard) → c.suit ≡ u → is_of u c ≡ true
of-suit' u c e = eq-eqb (suit_code c.suit) (suit_code u) (ap suit_code e)

-- a card of a list that passes a test is in the part that passes
pub filter-has : (test : PlayingCard → Bool) (cards : List PlayingCard) (c : PlayingCard) → has_card cards c ≡ true → test c ≡ true → has_card (filter test cards) c ≡ true
filter-has test cards c has t = has_card-filter test cards c ∙ rw (t, has) refl

-- a card of the part that passes a test passes it
pub filter-passes : (test : PlayingCard → Bool) (cards : List PlayingCard) (c : PlayingCard) → has_card (filter test cards) c ≡ true → test c ≡ true
filter-passes test cards c has = and-left (test c) (has_card cards c) (sym (has_card-filter test cards c) ∙ has)

-- a card of the hand that follows suit if the hand can is legal
pub legal-in : (trick hand : List PlayingCard) (c : PlayingCard) → has_card hand c ≡ true → Obeys trick hand c → has_card (following trick hand) c ≡ true
legal-in [] hand c has obeys = has
legal-in (led ∷ rest) hand c has obeys = go (filter (is_of led.suit) hand) refl
  where
    go : (same : List PlayingCard) → filter (is_of led.suit) hand ≡ same → has_card (or_else same hand) c ≡ true
    go [] e = has
    go (d ∷ same) e =
        let there : has_card (filter (is_of led.suit) hand) d ≡ true = ap (λ cards. has_card cards d) e ∙ has-first d same in
        let own : has_card hand d ≡ true = any-filter (λ y. same_card y d) (is_of led.suit) hand there in
        let suit : d.suit ≡ led.suit = suit-of led.suit d (filter-passes (is_of led.suit) hand d there) in
        ap (λ cards. has_card cards c) (sym e) ∙ filter-has (is_of led.suit) hand c has (of-suit' led.suit c (obeys d own suit))

-- a legal card follows suit if the hand can
pub legal-out : (trick hand : List PlayingCard) (c : PlayingCard) → has_card (following trick hand) c ≡ true → Obeys trick hand c
legal-out [] hand c has = tt
legal-out (led ∷ rest) hand c has = λ d own suit. go (filter (is_of led.suit) hand) refl d (filter-has (is_of led.suit) hand d own (of-suit' led.suit d suit))
  where
    go : (same : List PlayingCard) → filter (is_of led.suit) hand ≡ same → (d : PlayingCard) → has_card (filter (is_of led.suit) hand) d ≡ true → c.suit ≡ led.suit
    go [] e d there = absurd (let k : false ≡ true = ap (λ cards. has_card cards d) (sym e) ∙ there in cc)
    go (x ∷ same) e d there =
        let h : has_card (filter (is_of led.suit) hand) c ≡ true = ap (λ cards. has_card cards c) e ∙ (let k : has_card (or_else (filter (is_of led.suit) hand) hand) c ≡ true = has in rw e at k) in
        suit-of led.suit c (filter-passes (is_of led.suit) hand c h)

-- ---- a card above another
-- a higher card of the suit is above
pub above-is : (c e : PlayingCard) → e.suit ≡ c.suit → c.rank < e.rank → is_above c e ≡ true
above-is c e suits h = rw (of-suit' c.suit e suits, lt-ltb c.rank e.rank h) refl

-- a card above another is of its suit
pub above-suit : (c e : PlayingCard) → is_above c e ≡ true → e.suit ≡ c.suit
above-suit c e h = suit-of c.suit e (and-left (is_of c.suit e) (nat_lt c.rank e.rank) h)

-- and of a higher rank
pub above-rank : (c e : PlayingCard) → is_above c e ≡ true → c.rank < e.rank
above-rank c e h = ltb-true c.rank e.rank (and-right (is_of c.suit e) (nat_lt c.rank e.rank) h)
