-- One later trick. No hand has a trump, and the leader's side would have to take all tricks, so it leads to each of them. In a
-- suit that nobody guards each lead makes the longer of its two holdings shorter. A suit is guarded by an opponent that has a
-- card, the honour, with a card beside it for each higher one, all of which are the leader's side's. A lead of the suit takes
-- one of those higher cards, or the honour wins: to a higher card, or before a hand that has to play one, the opponent plays
-- another card than the honour, and else the honour. So the suit has no more rounds than higher cards. With one card for each
-- suit that it guards these rounds are no more than the tricks left, so neither opponent has to throw what it keeps.
use Rattle.std.proofs.Common.{◌≡◌, ◌≢◌, ℕ, zero, suc, ◌+◌, ◌<◌, ◌≤◌, Bool, true, false, refl, sym, ap, ◌∙◌, subst, arith, List, [], ◌∷◌, ◌++◌, length, length-append, get_or, inl, inr, max, zero-le}
use Rattle.std.specs.Prelude.{nat_lt, ◌&&◌, ◌==◌, ◌⊎◌, if◌then◌else◌}
use mathlib.Core.Bool.{not}
use mathlib.Core.Path.{ap₂}
use Rattle.std.proofs.lemmas.Bool.{cases_lt, eq-eqb, eqb-true, lt-ltb, false_from_ne_true}
use Rattle.std.proofs.lemmas.Bool.Decides.{eqb_tells}
use Rattle.dd_cards.specs.declared.seat.Seat.{Seat}
use Rattle.dd_cards.specs.declared.seat.Seat.TheVariants.{North, East, South, West}
use Rattle.dd_cards.specs.declared.suit.Suit.{Suit}
use Rattle.dd_cards.specs.declared.side.Side.{Side}
use Rattle.dd_cards.specs.PlayingCard.{PlayingCard}
use Rattle.dd_cards.specs.Ranks.{IsRank}
use Rattle.dd_cards.specs.Cards.{is_of, same_card, card_of, has_card}
use Rattle.dd_cards.specs.Seats.{seat_code, seat_after}
use Rattle.dd_cards.specs.Sides.{side_of, other_side, is_side}
use Rattle.dd_cards.proofs.CallerLemmas.{and-left, and-right, filter-true, has_card-without, is-same, same_card-eq, seat_code-injective, seat_code-lt}
use Rattle.dd_play.specs.Board.{Board, IsBoard, cards_at, tricks_left, mover}
use Rattle.dd_play.specs.Tricks.{is_trump, winner_of, winning_place}
use Rattle.dd_play.specs.Play.{after, completes, following, trick_with}
use Rattle.dd_play.specs.Simulations.{IsLegal}
use Rattle.dd_play.specs.Covers.{count_of}
use Rattle.dd_play.specs.Won.{trick_for, won}
use Rattle.dd_play.proofs.CallerLemmas.{Obeys, after-code, can, count, count-cons, count-has, count-some, flag_of, hand-others, hand-own, has-at, has-first, legal-in, legal-leads, legal-out, of-suit', once-in, own-card, real-trick, same-or, strain-after, suit-of, trick-after, trick-closed, was-in, won_with}
use Rattle.dd_quick.proofs.Cashing.{total, more-somewhere}
use Rattle.dd_quick.proofs.Chosen.{count-never}
use Rattle.dd_quick.proofs.Covered.{by-suits}
use Rattle.dd_quick.proofs.Crossings.{HasFollowed}
use Rattle.dd_quick.proofs.Hands.{one-hand}
use Rattle.dd_quick.proofs.GuardedSuits.{CanHold, guards_of, not-over, other-card, over, rest-after, rounds_of, same-suit, total-more, under}
use Rattle.dd_quick.proofs.HonourLed.{head-wins, last-side, leaders-side, opposite, two-same}
use Rattle.dd_quick.proofs.JointTrumps.{place-of}
use Rattle.dd_quick.proofs.PlainTrick.{IsHighest, at-place, hand-left, suit-wins}
use Rattle.dd_quick.proofs.Plays.{count-own, count-push, place-push, whoever}
use Rattle.dd_quick.proofs.Sound.{in-left, in-right, opponents-side}
use Rattle.dd_rank.proofs.CallerLemmas.{count-le}

-- ---- the game

module _ (o : Board) (guarded : Suit → Bool) (keeper : Suit → Seat) (honour : Suit → PlayingCard) (hold : CanHold o guarded keeper honour) where
  abbrev t : Side
  t = other_side (side_of o.first)

  abbrev rounds : Board → Suit → ℕ
  rounds p u = rounds_of o.first guarded honour p u

  -- how many suits the seat guards
  abbrev guards : Seat → ℕ
  guards x = total (λ u. flag_of (guards_of guarded keeper x u))

  -- Before a trick that the leader's side leads: of each guarded suit its keeper has the honour and a card for each round; the
  -- rounds are fewer than the tricks left, and with the suits that one hand guards no more.
  record IsOutside (p : Board) : Type 0 where
    valid : IsBoard p
    same : p.strain ≡ o.strain
    start : p.trick ≡ []
    theirs : is_side t p.first ≡ false
    part : (x : Seat) (c : PlayingCard) → has_card (cards_at p x) c ≡ true → has_card (cards_at o x) c ≡ true
    keeps : (u : Suit) → guarded u ≡ true → has_card (cards_at p (keeper u)) (honour u) ≡ true
    long : (u : Suit) → guarded u ≡ true → rounds p u + 1 ≤ count_of u (cards_at p (keeper u))
    few : total (rounds p) + 1 ≤ tricks_left p
    room : (x : Seat) → is_side t x ≡ true → total (rounds p) + guards x ≤ tricks_left p

  -- the hand behind the keeper is to play, and has only cards over the honour to follow suit with
  abbrev IsDue : Board → PlayingCard → List PlayingCard → Type 0
  IsDue p m trick = (length trick ≡ 2) × (1 ≤ count (over honour m.suit) (cards_at p (seat_after p.first 2)))
      × ((c : PlayingCard) → has_card (cards_at p (seat_after p.first 2)) c ≡ true → c.suit ≡ m.suit → over honour m.suit c ≡ true)

  -- the keeper of the suit led has saved its honour, for a card over it is played, or will be
  record IsSaved (p : Board) (m : PlayingCard) (q : Board) (trick : List PlayingCard) : Type 0 where
    has : has_card (cards_at q (keeper m.suit)) (honour m.suit) ≡ true
    paid : (1 ≤ count (over honour m.suit) trick) ⊎ IsDue p m trick

  -- it has played the honour, which no card beats that is played or may be
  record IsPlayed (p : Board) (m : PlayingCard) (trick : List PlayingCard) : Type 0 where
    none : count (over honour m.suit) trick ≡ 0
    there : has_card trick (honour m.suit) ≡ true
    coming : (i : ℕ) → length trick ≤ i → i < 4 → count (over honour m.suit) (cards_at p (seat_after p.first i)) ≡ 0

  -- these cards were played to a lead of a guarded suit, and the hands are those of q
  record IsFight (p : Board) (m : PlayingCard) (q : Board) (trick : List PlayingCard) : Type 0 where
    rest : rounds q m.suit + count (over honour m.suit) trick ≡ rounds p m.suit
    place : (i : ℕ) × (i < 4) × (keeper m.suit ≡ seat_after p.first i)
    state : (length trick ≤ place.0) ⊎ ((place.0 < length trick) × (IsSaved p m q trick ⊎ IsPlayed p m trick))

  -- In a trick to which m was led at p: the other suits that are guarded are as they were, hands that wait have all their cards,
  -- and those that have played have lost one and followed suit if they could.
  record IsUnder (p : Board) (m : PlayingCard) (q : Board) : Type 0 where
    valid : IsBoard q
    same : q.strain ≡ o.strain
    first : q.first ≡ p.first
    led : (tail : List PlayingCard) × (q.trick ≡ m ∷ tail)
    part : (x : Seat) (c : PlayingCard) → has_card (cards_at q x) c ≡ true → has_card (cards_at o x) c ≡ true
    keeps : (u : Suit) → guarded u ≡ true → u ≢ m.suit → has_card (cards_at q (keeper u)) (honour u) ≡ true
    long : (u : Suit) → guarded u ≡ true → u ≢ m.suit → rounds p u + 1 ≤ count_of u (cards_at q (keeper u))
    still : (i : ℕ) → length q.trick ≤ i → i < 4 → cards_at q (seat_after p.first i) ≡ cards_at p (seat_after p.first i)
    fewer : (x : Seat) (test : PlayingCard → Bool) → count test (cards_at q x) ≤ count test (cards_at p x)
    one : (x : Seat) (test : PlayingCard → Bool) → count test (cards_at p x) ≤ count test (cards_at q x) + 1
    followed : (i : ℕ) → i < length q.trick → HasFollowed m.suit p q (seat_after p.first i)
    played : (i : ℕ) (d : PlayingCard) → i < length q.trick → has_card (cards_at p (seat_after p.first i)) (get_or q.trick i d) ≡ true
    paid : length (cards_at q p.first) + 1 ≡ tricks_left p
    fight : guarded m.suit ≡ true → IsFight p m q q.trick

  -- the card leaves its hand what it keeps of the suits that were not led
  abbrev IsFree : Board → PlayingCard → Board → PlayingCard → Type 0
  IsFree p m q c = (u : Suit) → guarded u ≡ true → u ≢ m.suit → keeper u ≡ mover q → (c ≢ honour u) × (rounds p u + 1 + flag_of (is_of u c) ≤ count_of u (cards_at q (mover q)))

  -- the keeper of the suit led saves its honour where a card over it is played, or will be, and else plays it
  abbrev IsWise : Board → PlayingCard → Board → PlayingCard → Type 0
  IsWise p m q c = guarded m.suit ≡ true → keeper m.suit ≡ mover q
      → ((c ≢ honour m.suit) × ((1 ≤ count (over honour m.suit) q.trick) ⊎ IsDue p m (q.trick ++ c ∷ [])))
      ⊎ ((c ≡ honour m.suit) × (count (over honour m.suit) q.trick ≡ 0) × ((i : ℕ) → length q.trick + 1 ≤ i → i < 4 → count (over honour m.suit) (cards_at p (seat_after p.first i)) ≡ 0))

  -- of the leader's side nothing is asked
  ours-free : (p : Board) (m : PlayingCard) (q : Board) (c : PlayingCard) → is_side t (mover q) ≡ false → IsFree p m q c
  ours-free p m q c e u g differs at = absurd (let k : true ≡ false = sym (hold.theirs u g) ∙ ap (is_side t) at ∙ e in cc)

  ours-wise : (p : Board) (m : PlayingCard) (q : Board) (c : PlayingCard) → is_side t (mover q) ≡ false → IsWise p m q c
  ours-wise p m q c e g at = absurd (let k : true ≡ false = sym (hold.theirs m.suit g) ∙ ap (is_side t) at ∙ e in cc)

  -- the leader is one of the two partners
  leader-of : (p : Board) → IsOutside p → (p.first ≡ o.first) ⊎ (p.first ≡ seat_after o.first 2)
  leader-of p was = by (place-of o.first p.first)
    where
      sides : (is_side t (seat_after o.first 1) ≡ true) × (is_side t (seat_after o.first 3) ≡ true)
      sides = opponents-side o.first

      by : (i : ℕ) × (i < 4) × (p.first ≡ seat_after o.first i) → (p.first ≡ o.first) ⊎ (p.first ≡ seat_after o.first 2)
      by (zero, l, e) = inl e
      by (suc zero, l, e) = absurd (let k : false ≡ true = sym was.theirs ∙ ap (is_side t) e ∙ sides.0 in cc)
      by (suc (suc zero), l, e) = inr e
      by (suc (suc (suc zero)), l, e) = absurd (let k : false ≡ true = sym was.theirs ∙ ap (is_side t) e ∙ sides.1 in cc)
      by (suc (suc (suc (suc j))), l, e) = absurd (omega (arith, l))

  -- what a card that is played does
  module _ (p : Board) (m : PlayingCard) (q : Board) (c : PlayingCard) (was : IsOutside p) (now : IsUnder p m q) (has : IsLegal q c) (free : IsFree p m q c) (wise : IsWise p m q c) where
    -- the mover's place
    turn : mover q ≡ seat_after p.first (length q.trick)
    turn = ap (λ f. seat_after f (length q.trick)) now.first

    short : length q.trick ≤ 3
    short = now.valid.short

    begun : 1 ≤ length q.trick
    begun = (let k : length q.trick ≡ length (m ∷ now.led.0) = ap length now.led.1 in omega (arith, k))

    -- it has all its cards, and this is one of them
    waited : cards_at q (mover q) ≡ cards_at p (mover q)
    waited = ap (cards_at q) turn ∙ now.still (length q.trick) (omega arith) (let k = short in omega (arith, k)) ∙ ap (cards_at p) (sym turn)

    mine : has_card (cards_at p (mover q)) c ≡ true
    mine = ap (λ cards. has_card cards c) (sym waited) ∙ own-card q c has

    apart-places : (i : ℕ) → i < 4 → i ≢ length q.trick → seat_code (seat_after p.first i) ≢ seat_code (mover q)
    apart-places i l differs = (let a = after-code p.first i in let b = after-code p.first (length q.trick) in let d = seat_code-lt p.first in let k = short in let s : seat_code (mover q) ≡ seat_code (seat_after p.first (length q.trick)) = ap seat_code turn in λ e. omega (arith, a, b, d, e, k, s, l, differs))

    part-on : (x : Seat) (d : PlayingCard) → has_card (cards_at (after q c) x) d ≡ true → has_card (cards_at o x) d ≡ true
    part-on x d h = now.part x d (was-in q c now.valid x d h)

    -- another card stays where it is
    stays : (x : Seat) (d : PlayingCard) → (x ≡ mover q → c ≢ d) → has_card (cards_at q x) d ≡ true → has_card (cards_at (after q c) x) d ≡ true
    stays x d differs own = elim (same-or x (mover q)) [
      | inl e ↦ (
          let before : has_card (cards_at q (mover q)) d ≡ true = subst (λ y. has_card (cards_at q y) d ≡ true) e own in
          let other : same_card d c ≡ false = false_from_ne_true (same_card d c) (λ k. absurd (differs e (sym (same_card-eq d c k)))) in
          ap (λ y. has_card (cards_at (after q c) y) d) e ∙ ap (λ cards. has_card cards d) (hand-own q c now.valid) ∙ has_card-without (cards_at q (mover q)) c d ∙ ap₂ (λ a b. not a && b) other before)
      | inr apart ↦ ap (λ cards. has_card cards d) (hand-others q c x apart) ∙ own
    ]

    keeps-on : (u : Suit) → guarded u ≡ true → u ≢ m.suit → has_card (cards_at (after q c) (keeper u)) (honour u) ≡ true
    keeps-on u g differs = stays (keeper u) (honour u) (λ at. (free u g differs at).0) (now.keeps u g differs)

    long-on : (u : Suit) → guarded u ≡ true → u ≢ m.suit → rounds p u + 1 ≤ count_of u (cards_at (after q c) (keeper u))
    long-on u g differs = elim (same-or (keeper u) (mover q)) [
      | inl e ↦ subst (λ y. rounds p u + 1 ≤ count_of u (cards_at (after q c) y)) (sym e) (let k = count-own (is_of u) q c now.valid has in let f = (free u g differs e).1 in omega (arith, k, f))
      | inr apart ↦ (let e : count_of u (cards_at (after q c) (keeper u)) ≡ count_of u (cards_at q (keeper u)) = ap (count_of u) (hand-others q c (keeper u) apart) in let l = now.long u g differs in omega (arith, e, l))
    ]

    fewer-on : (x : Seat) (test : PlayingCard → Bool) → count test (cards_at (after q c) x) ≤ count test (cards_at p x)
    fewer-on x test = elim (same-or x (mover q)) [
      | inl e ↦ subst (λ y. count test (cards_at (after q c) y) ≤ count test (cards_at p y)) (sym e) (let k = count-own test q c now.valid has in let f = now.fewer (mover q) test in omega (arith, k, f))
      | inr apart ↦ (let e : count test (cards_at (after q c) x) ≡ count test (cards_at q x) = ap (count test) (hand-others q c x apart) in let f = now.fewer x test in omega (arith, e, f))
    ]

    one-on : (x : Seat) (test : PlayingCard → Bool) → count test (cards_at p x) ≤ count test (cards_at (after q c) x) + 1
    one-on x test = elim (same-or x (mover q)) [
      | inl e ↦ subst (λ y. count test (cards_at p y) ≤ count test (cards_at (after q c) y) + 1) (sym e) (
          let k = count-own test q c now.valid has in
          let w : count test (cards_at q (mover q)) ≡ count test (cards_at p (mover q)) = ap (count test) waited in
          let f = flag-most (test c) in
          omega (arith, k, w, f))
      | inr apart ↦ (let e : count test (cards_at (after q c) x) ≡ count test (cards_at q x) = ap (count test) (hand-others q c x apart) in let f = now.one x test in omega (arith, e, f))
    ]
      where
        flag-most : (b : Bool) → flag_of b ≤ 1
        flag-most true = omega arith
        flag-most false = omega arith

    -- it follows suit if it can
    suited : 1 ≤ count_of m.suit (cards_at q (mover q)) → c.suit ≡ m.suit
    suited some =
        let card = count-some (is_of m.suit) (cards_at q (mover q)) some in
        let obeys : Obeys (m ∷ now.led.0) (cards_at q (mover q)) c = subst (λ trick. Obeys trick (cards_at q (mover q)) c) now.led.1 (legal-out q.trick (cards_at q (mover q)) c has) in
        obeys card.0 card.1 (suit-of m.suit card.0 card.2)

    followed-on : (i : ℕ) → i < length q.trick + 1 → HasFollowed m.suit p (after q c) (seat_after p.first i)
    followed-on i l = elim (eqb_tells i (length q.trick)) [
      | inl r ↦ subst (HasFollowed m.suit p (after q c)) (turn ∙ ap (seat_after p.first) (sym r.1)) (
          let k = count-own (is_of m.suit) q c now.valid has in
          let f = now.fewer (mover q) (is_of m.suit) in
          elim (cases_lt 0 (count_of m.suit (cards_at q (mover q)))) [
            | inl some ↦ inr (let one : flag_of (is_of m.suit c) ≡ 1 = ap flag_of (of-suit' m.suit c (suited some)) in omega (arith, k, f, one))
            | inr none ↦ inl (omega (arith, k, none))
          ])
      | inr r ↦ subst (λ cards. (count_of m.suit cards ≡ 0) ⊎ (count_of m.suit cards + 1 ≤ count_of m.suit (cards_at p (seat_after p.first i)))) (sym (hand-others q c (seat_after p.first i) (apart-places i (let k = short in omega (arith, l, k)) r.1)))
          (now.followed i (let d = r.1 in omega (arith, l, d)))
    ]

    played-on : (i : ℕ) (d : PlayingCard) → i < length (q.trick ++ c ∷ []) → has_card (cards_at p (seat_after p.first i)) (get_or (q.trick ++ c ∷ []) i d) ≡ true
    played-on i d l = elim (place-push q.trick c d i l) [
      | inl r ↦ ap (has_card (cards_at p (seat_after p.first i))) r.1 ∙ now.played i d r.0
      | inr r ↦ ap₂ (λ j x. has_card (cards_at p (seat_after p.first j)) x) r.0 r.1 ∙ ap (λ x. has_card (cards_at p x) c) (sym turn) ∙ mine
    ]

    -- the leader has played
    paid-on : length (cards_at (after q c) p.first) + 1 ≡ tricks_left p
    paid-on = ap (λ cards. length cards + 1) (hand-others q c p.first (apart-places 0 (omega arith) (let k = begun in λ e. omega (arith, e, k)))) ∙ now.paid

    longer-trick : length (q.trick ++ c ∷ []) ≡ length q.trick + 1
    longer-trick = length-append q.trick (c ∷ [])

    pushed : count (over honour m.suit) (q.trick ++ c ∷ []) ≡ count (over honour m.suit) q.trick + flag_of (over honour m.suit c)
    pushed = count-push (over honour m.suit) q.trick c

    -- the fight for the suit led
    fight-on : guarded m.suit ≡ true → IsFight p m q q.trick → IsFight p m (after q c) (q.trick ++ c ∷ [])
    fight-on g now_is = record {
      rest = (let a = rest-after o guarded keeper honour hold q c m.suit now.valid has g now.part in let b = pushed in let r = now_is.rest in omega (arith, a, b, r));
      place = now_is.place;
      state = elim now_is.state [
        | inl waits ↦ elim (cases_lt (length q.trick) now_is.place.0) [
          | inl l ↦ inl (let k = longer-trick in omega (arith, l, k))
          | inr l ↦ inr ((let k = longer-trick in omega (arith, l, k)), plays (now_is.place.2 ∙ ap (seat_after p.first) (let z : now_is.place.0 ≡ length q.trick = omega (arith, waits, l) in z) ∙ sym turn))
        ]
        | inr gone ↦ inr ((let k = longer-trick in let l = gone.0 in omega (arith, l, k)), elim gone.1 [ inl s ↦ inl (saved now_is.place gone.0 s) | inr w ↦ inr (wins w) ])
      ];
    }
      where
        -- the keeper plays
        plays : keeper m.suit ≡ mover q → IsSaved p m (after q c) (q.trick ++ c ∷ []) ⊎ IsPlayed p m (q.trick ++ c ∷ [])
        plays at = elim (wise g at) [
          | inl low ↦ inl (record {
            has = stays (keeper m.suit) (honour m.suit) (λ e. low.0) own;
            paid = elim low.1 [ inl some ↦ inl (let k = pushed in omega (arith, k, some)) | inr due ↦ inr due ];
          })
          | inr high ↦ inr (record {
            none = (let k = pushed in let z = high.1 in let f : flag_of (over honour m.suit c) ≡ 0 = ap flag_of (hold.low m.suit g (mover q) c (ap (is_side t) (sym at) ∙ hold.theirs m.suit g) (now.part (mover q) c (own-card q c has))) in omega (arith, k, z, f));
            there = in-right q.trick (c ∷ []) (honour m.suit) (ap (has_card (c ∷ [])) (sym high.0) ∙ has-first c []);
            coming = λ i l k. high.2 i (let z = longer-trick in omega (arith, l, z)) k;
          })
        ]
          where
            own : has_card (cards_at q (keeper m.suit)) (honour m.suit) ≡ true
            own = ap (λ x. has_card (cards_at q x) (honour m.suit)) at ∙ ap (λ cards. has_card cards (honour m.suit)) waited ∙ ap (λ x. has_card (cards_at p x) (honour m.suit)) (sym at) ∙ was.keeps m.suit g

        -- it has saved its honour
        saved : (place : (i : ℕ) × (i < 4) × (keeper m.suit ≡ seat_after p.first i)) → place.0 < length q.trick → IsSaved p m q q.trick → IsSaved p m (after q c) (q.trick ++ c ∷ [])
        saved place l s = record {
          has = stays (keeper m.suit) (honour m.suit) (λ e. absurd (apart-places place.0 place.1 (λ z. omega (arith, l, z)) (ap seat_code (sym place.2 ∙ e)))) s.has;
          paid = inl (elim s.paid [
            | inl some ↦ (let k = pushed in omega (arith, k, some))
            | inr due ↦ (
                let at : mover q ≡ seat_after p.first 2 = turn ∙ ap (seat_after p.first) due.0 in
                let some = due.1 in
                let more = count-le (over honour m.suit) (is_of m.suit) (cards_at p (seat_after p.first 2)) (λ d own pass. and-left (is_of m.suit d) (nat_lt (honour m.suit).rank d.rank) pass) in
                let hand : cards_at q (mover q) ≡ cards_at p (seat_after p.first 2) = waited ∙ ap (cards_at p) at in
                let suit : c.suit ≡ m.suit = suited (let e : count_of m.suit (cards_at q (mover q)) ≡ count_of m.suit (cards_at p (seat_after p.first 2)) = ap (count_of m.suit) hand in omega (arith, some, more, e)) in
                let f : flag_of (over honour m.suit c) ≡ 1 = ap flag_of (due.2 c (ap (λ cards. has_card cards c) (sym hand) ∙ own-card q c has) suit) in
                let k = pushed in
                omega (arith, k, f))
          ]);
        }

        -- it has played it
        wins : IsPlayed p m q.trick → IsPlayed p m (q.trick ++ c ∷ [])
        wins w = record {
          none = (
              let zero_over = w.coming (length q.trick) (omega arith) (let k = short in omega (arith, k)) in
              let low : over honour m.suit c ≡ false = false_from_ne_true (over honour m.suit c) (λ e. absurd (let some = count-has (over honour m.suit) (cards_at p (seat_after p.first (length q.trick))) c (ap (λ x. has_card (cards_at p x) c) (sym turn) ∙ mine) e in omega (arith, some, zero_over))) in
              let f : flag_of (over honour m.suit c) ≡ 0 = ap flag_of low in
              let k = pushed in
              let z = w.none in
              omega (arith, k, f, z));
          there = in-left q.trick (c ∷ []) (honour m.suit) w.there;
          coming = λ i l k. w.coming i (let z = longer-trick in omega (arith, l, z)) k;
        }

    -- where the trick goes on
    under-on : completes q ≡ false → IsUnder p m (after q c)
    under-on e =
        let on : (after q c).trick ≡ q.trick ++ c ∷ [] = (trick-after q c e).0 in
        let long : length (q.trick ++ c ∷ []) ≡ length q.trick + 1 = longer-trick in
        let size : length (after q c).trick ≡ length (q.trick ++ c ∷ []) = ap length on in
        record {
          valid = (legal-leads q c now.valid has).valid;
          same = strain-after q c ∙ now.same;
          first = (trick-after q c e).1 ∙ now.first;
          led = (now.led.0 ++ c ∷ [], on ∙ ap (λ trick. trick ++ c ∷ []) now.led.1);
          part = part-on;
          keeps = keeps-on;
          long = long-on;
          still = λ i l k. hand-others q c (seat_after p.first i) (apart-places i k (λ z. omega (arith, l, long, size, z))) ∙ now.still i (omega (arith, l, long, size)) k;
          fewer = fewer-on;
          one = one-on;
          followed = λ i l. followed-on i (omega (arith, l, long, size));
          played = λ i d l. ap (λ trick. has_card (cards_at p (seat_after p.first i)) (get_or trick i d)) on ∙ played-on i d (omega (arith, l, size));
          paid = paid-on;
          fight = λ g. subst (IsFight p m (after q c)) (sym on) (fight-on g (now.fight g));
        }

    -- where it is over and the leader's side has won it
    outside-on : 1 ≤ count_of m.suit (cards_at p p.first) → completes q ≡ true → is_side t (winner_of (trick_with q c) q.first q.strain) ≡ false → IsOutside (after q c)
    outside-on some full lost =
        let less = total-more (rounds (after q c)) (rounds p) m.suit at-most one-less in
        let size = hand-left (after q c) board closed.0 p.first in
        let gone : tricks_left (after q c) + 1 ≡ tricks_left p = (let paid = paid-on in omega (arith, size, paid)) in
        record {
          valid = board;
          same = strain-after q c ∙ now.same;
          start = closed.0;
          theirs = ap (is_side t) closed.1 ∙ lost;
          part = part-on;
          keeps = λ u g. elim (same-suit u m.suit) [ inl e ↦ subst (λ v. guarded v ≡ true → has_card (cards_at (after q c) (keeper v)) (honour v) ≡ true) (sym e) (λ h. (spent h).0) g | inr differs ↦ keeps-on u g differs ];
          long = λ u g. elim (same-suit u m.suit) [
            | inl e ↦ subst (λ v. guarded v ≡ true → rounds (after q c) v + 1 ≤ count_of v (cards_at (after q c) (keeper v))) (sym e) (λ h. (let a = (spent h).1 in let b = was.long m.suit h in let d = one-on (keeper m.suit) (is_of m.suit) in omega (arith, a, b, d))) g
            | inr differs ↦ (let a = long-on u g differs in let b = at-most u in omega (arith, a, b))
          ];
          few = (let before = was.few in omega (arith, gone, less, before));
          room = λ x on. (let before = was.room x on in omega (arith, gone, less, before));
        }
      where
        closed : ((after q c).trick ≡ []) × ((after q c).first ≡ winner_of (trick_with q c) q.first q.strain)
        closed = trick-closed q c full

        board : IsBoard (after q c)
        board = (legal-leads q c now.valid has).valid

        three : length q.trick ≡ 3
        three = eqb-true (length q.trick) 3 full

        trick : List PlayingCard
        trick = q.trick ++ c ∷ []

        four : length trick ≡ 4
        four = (let l = longer-trick in let k = three in omega (arith, l, k))

        at-most : (u : Suit) → rounds (after q c) u ≤ rounds p u
        at-most u = go (guarded u)
          where
            go : (b : Bool) → (if b then count (over honour u) (cards_at (after q c) o.first) + count (over honour u) (cards_at (after q c) (seat_after o.first 2)) else max (count_of u (cards_at (after q c) o.first)) (count_of u (cards_at (after q c) (seat_after o.first 2)))) ≤ (if b then count (over honour u) (cards_at p o.first) + count (over honour u) (cards_at p (seat_after o.first 2)) else max (count_of u (cards_at p o.first)) (count_of u (cards_at p (seat_after o.first 2))))
            go true = (let a = fewer-on o.first (over honour u) in let b = fewer-on (seat_after o.first 2) (over honour u) in omega (arith, a, b))
            go false = (let a = fewer-on o.first (is_of u) in let b = fewer-on (seat_after o.first 2) (is_of u) in omega (arith, a, b))

        -- the honour was not played, since the other side would have won
        no-honour : IsPlayed p m trick → guarded m.suit ≡ true → ⊥
        no-honour w g = one-hand p was.valid (seat_after p.first place) (keeper m.suit) (honour m.suit) apart (ap (has_card (cards_at p (seat_after p.first place))) (sym same_one) ∙ played-on place c wins.within) (was.keeps m.suit g)
          where
            whole : trick ≡ m ∷ (now.led.0 ++ c ∷ [])
            whole = ap (λ l. l ++ c ∷ []) now.led.1

            real : (x : PlayingCard) → has_card trick x ≡ true → IsRank x.rank
            real x there = real-trick q c now.valid has x there

            no-trump : (x : PlayingCard) → has_card trick x ≡ true → is_trump q.strain x ≡ false
            no-trump x there =
                let at = at-place trick x c there in
                ap (λ y. is_trump q.strain y) (sym at.2) ∙ ap (λ z. is_trump z (get_or trick at.0 c)) now.same ∙ hold.plain (seat_after p.first at.0) (get_or trick at.0 c) (was.part (seat_after p.first at.0) (get_or trick at.0 c) (played-on at.0 c at.1))

            place : ℕ
            place = winning_place q.strain trick

            wins : IsHighest trick m.suit place c
            wins = subst (λ l. IsHighest l m.suit (winning_place q.strain l) c) (sym whole) (suit-wins q.strain m (now.led.0 ++ c ∷ []) c (λ x there. real x (ap (λ l. has_card l x) whole ∙ there)) (λ x there. no-trump x (ap (λ l. has_card l x) whole ∙ there)))

            best : PlayingCard
            best = get_or trick place c

            low : over honour m.suit best ≡ false
            low = false_from_ne_true (over honour m.suit best) (λ e. absurd (let some = count-has (over honour m.suit) trick best (has-at trick place c wins.within) e in let z = w.none in omega (arith, some, z)))

            same_one : best ≡ honour m.suit
            same_one = ap₂ card_of (wins.suit ∙ sym (hold.suit m.suit g)) (
                let high = wins.high (honour m.suit) w.there (hold.suit m.suit g) in
                let least = not-over honour m.suit best wins.suit low in
                omega (arith, high, least))

            apart : seat_code (seat_after p.first place) ≢ seat_code (keeper m.suit)
            apart = λ e. (let k : false ≡ true = sym (ap (λ f. is_side t (seat_after f place)) (sym now.first) ∙ lost) ∙ ap (is_side t) (seat_code-injective (seat_after p.first place) (keeper m.suit) e) ∙ hold.theirs m.suit g in cc)

        -- so a card over it was
        spent : guarded m.suit ≡ true → (has_card (cards_at (after q c) (keeper m.suit)) (honour m.suit) ≡ true) × (rounds (after q c) m.suit + 1 ≤ rounds p m.suit)
        spent g = elim (fight-on g (now.fight g)).state [
          | inl waits ↦ absurd (let k = four in let l = (fight-on g (now.fight g)).place.1 in omega (arith, waits, k, l))
          | inr gone ↦ elim gone.1 [
            | inl s ↦ (
              s.has,
              elim s.paid [
                | inl one ↦ (let r = (fight-on g (now.fight g)).rest in omega (arith, r, one))
                | inr due ↦ absurd (let k = four in let l = due.0 in omega (arith, k, l))
              ],
            )
            | inr w ↦ absurd (no-honour w g)
          ]
        ]

        at : (x : Seat) → HasFollowed m.suit p (after q c) x
        at x = (let i = place-of p.first x in subst (HasFollowed m.suit p (after q c)) (sym i.2) (followed-on i.0 (let l = i.1 in let k = three in omega (arith, l, k))))

        longer_one : guarded m.suit ≡ false → rounds (after q c) m.suit + 1 ≤ rounds p m.suit
        longer_one plain_suit =
            let open_now : rounds (after q c) m.suit ≡ max (count_of m.suit (cards_at (after q c) o.first)) (count_of m.suit (cards_at (after q c) (seat_after o.first 2))) = ap (λ b. if b then count (over honour m.suit) (cards_at (after q c) o.first) + count (over honour m.suit) (cards_at (after q c) (seat_after o.first 2)) else max (count_of m.suit (cards_at (after q c) o.first)) (count_of m.suit (cards_at (after q c) (seat_after o.first 2)))) plain_suit in
            let open_was : rounds p m.suit ≡ max (count_of m.suit (cards_at p o.first)) (count_of m.suit (cards_at p (seat_after o.first 2))) = ap (λ b. if b then count (over honour m.suit) (cards_at p o.first) + count (over honour m.suit) (cards_at p (seat_after o.first 2)) else max (count_of m.suit (cards_at p o.first)) (count_of m.suit (cards_at p (seat_after o.first 2)))) plain_suit in
            let high : 1 ≤ max (count_of m.suit (cards_at p o.first)) (count_of m.suit (cards_at p (seat_after o.first 2))) = elim (leader-of p was) [
              | inl e ↦ (let k : 1 ≤ count_of m.suit (cards_at p o.first) = subst (λ y. 1 ≤ count_of m.suit (cards_at p y)) e some in omega (arith, k))
              | inr e ↦ (let k : 1 ≤ count_of m.suit (cards_at p (seat_after o.first 2)) = subst (λ y. 1 ≤ count_of m.suit (cards_at p y)) e some in omega (arith, k))
            ] in
            elim (at o.first) [
              | inl a ↦ elim (at (seat_after o.first 2)) [ inl b ↦ omega (arith, open_now, open_was, high, a, b) | inr b ↦ omega (arith, open_now, open_was, high, a, b) ]
              | inr a ↦ elim (at (seat_after o.first 2)) [ inl b ↦ omega (arith, open_now, open_was, high, a, b) | inr b ↦ omega (arith, open_now, open_was, high, a, b) ]
            ]

        one-less : rounds (after q c) m.suit + 1 ≤ rounds p m.suit
        one-less = go (guarded m.suit) refl
          where
            go : (b : Bool) → guarded m.suit ≡ b → rounds (after q c) m.suit + 1 ≤ rounds p m.suit
            go true e = (spent e).1
            go false e = longer_one e

  -- a card of the suit led leaves all other suits as they are
  suited-free : (p : Board) (m : PlayingCard) (q : Board) (c : PlayingCard) → IsUnder p m q → c.suit ≡ m.suit → IsFree p m q c
  suited-free p m q c now suit u g differs at =
      let f : flag_of (is_of u c) ≡ 0 = ap flag_of (false_from_ne_true (is_of u c) (λ e. absurd (differs (sym (suit-of u c e) ∙ suit)))) in
      let l : rounds p u + 1 ≤ count_of u (cards_at q (mover q)) = subst (λ x. rounds p u + 1 ≤ count_of u (cards_at q x)) at (now.long u g differs) in
      (λ e. differs (sym (hold.suit u g) ∙ ap (λ (d : PlayingCard). d.suit) (sym e) ∙ suit), omega (arith, f, l))

  -- the other side has a card to play
  module _ (p : Board) (m : PlayingCard) (q : Board) (was : IsOutside p) (now : IsUnder p m q) (some : 1 ≤ rounds p m.suit) (on : is_side t (mover q) ≡ true) where
    abbrev Picks : Type 0
    Picks = (c : PlayingCard) × IsLegal q c × IsFree p m q c × IsWise p m q c

    legal : (d : PlayingCard) → has_card (following (m ∷ now.led.0) (cards_at q (mover q))) d ≡ true → IsLegal q d
    legal d h = ap (λ trick. has_card (following trick (cards_at q (mover q))) d) now.led.1 ∙ h

    turns : mover q ≡ seat_after p.first (length q.trick)
    turns = ap (λ f. seat_after f (length q.trick)) now.first

    waits : cards_at q (mover q) ≡ cards_at p (mover q)
    waits = ap (cards_at q) turns ∙ now.still (length q.trick) (omega arith) (let k = now.valid.short in omega (arith, k)) ∙ ap (cards_at p) (sym turns)

    -- the keeper of the suit led
    module _ (g : guarded m.suit ≡ true) (at : keeper m.suit ≡ mover q) where
      abbrev u : Suit
      u = m.suit

      own : has_card (cards_at q (mover q)) (honour u) ≡ true
      own = ap (λ cards. has_card cards (honour u)) waits ∙ ap (λ x. has_card (cards_at p x) (honour u)) (sym at) ∙ was.keeps u g

      many : rounds p u + 1 ≤ count_of u (cards_at q (mover q))
      many = subst (λ cards. rounds p u + 1 ≤ count_of u cards) (sym waits) (subst (λ x. rounds p u + 1 ≤ count_of u (cards_at p x)) at (was.long u g))

      follows : (d : PlayingCard) → has_card (cards_at q (mover q)) d ≡ true → d.suit ≡ u → IsLegal q d
      follows d has suit = legal d (legal-in (m ∷ now.led.0) (cards_at q (mover q)) d has (λ e his suits. suit))

      -- it saves its honour
      low-card : ((1 ≤ count (over honour u) q.trick) ⊎ ((c : PlayingCard) → IsDue p m (q.trick ++ c ∷ []))) → Picks
      low-card paid =
          let d = other-card (is_of u) (cards_at q (mover q)) (honour u) (once-in q now.valid (mover q) (honour u)) (let k = many in omega (arith, k, some)) in
          let suit = suit-of u d.0 d.2 in
          (d.0, follows d.0 d.1 suit, suited-free p m q d.0 now suit, λ h e. inl (d.3, elim paid [ inl one ↦ inl one | inr due ↦ inr (due d.0) ]))

      -- it plays it
      high-card : count (over honour u) q.trick ≡ 0 → ((i : ℕ) → length q.trick + 1 ≤ i → i < 4 → count (over honour u) (cards_at p (seat_after p.first i)) ≡ 0) → Picks
      high-card none coming = (honour u, follows (honour u) own (hold.suit u g), suited-free p m q (honour u) now (hold.suit u g), λ h e. inr (refl, none, coming))

      -- where the hand behind it has cards over the honour it has no others to follow suit with
      due-card : keeper u ≡ seat_after p.first 1 → 1 ≤ count (over honour u) (cards_at p (seat_after p.first 2)) → (c : PlayingCard) → has_card (cards_at p (seat_after p.first 2)) c ≡ true → c.suit ≡ u → over honour u c ≡ true
      due-card place more c has suit = elim (hold.behind u g) [
        | inl none ↦ absurd (
            let d = count-some (over honour u) (cards_at p (seat_after p.first 2)) more in
            let one = count-has (over honour u) (cards_at o (seat_after (keeper u) 1)) d.0 (here d.0 d.1) d.2 in
            omega (arith, none, one))
        | inr each ↦ each c (here c has) suit
      ]
        where
          here : (d : PlayingCard) → has_card (cards_at p (seat_after p.first 2)) d ≡ true → has_card (cards_at o (seat_after (keeper u) 1)) d ≡ true
          here d his = ap (λ x. has_card (cards_at o x) d) (ap (λ x. seat_after x 1) place ∙ next p.first) ∙ was.part (seat_after p.first 2) d his
            where
              next : (f : Seat) → seat_after (seat_after f 1) 1 ≡ seat_after f 2
              next North = refl
              next East = refl
              next South = refl
              next West = refl

      keeper-card : Picks
      keeper-card = elim (cases_lt 0 (count (over honour u) q.trick)) [
        | inl one ↦ low-card (inl one)
        | inr none ↦ by (length q.trick) refl (let z : count (over honour u) q.trick ≡ 0 = omega (arith, none) in z)
      ]
        where
          -- a seat of the other side has none
          theirs : (x : Seat) → is_side t x ≡ true → count (over honour u) (cards_at p x) ≡ 0
          theirs x side = count-never (over honour u) (cards_at p x) (λ d his. hold.low u g x d side (was.part x d his))

          by : (n : ℕ) → length q.trick ≡ n → count (over honour u) q.trick ≡ 0 → Picks
          by zero e none = absurd (let k : length q.trick ≡ length (m ∷ now.led.0) = ap length now.led.1 in omega (arith, k, e))
          by (suc zero) e none = elim (cases_lt 0 (count (over honour u) (cards_at p (seat_after p.first 2)))) [
            | inl more ↦ low-card (inr (λ c. ((let k = length-append q.trick (c ∷ []) in omega (arith, k, e)), more, due-card (at ∙ turns ∙ ap (seat_after p.first) e) more)))
            | inr few ↦ high-card none (λ i l k. elim (cases_lt i 3) [
              | inl h ↦ subst (λ j. count (over honour u) (cards_at p (seat_after p.first j)) ≡ 0) (let z : 2 ≡ i = omega (arith, h, l, e) in z) (omega (arith, few))
              | inr h ↦ subst (λ j. count (over honour u) (cards_at p (seat_after p.first j)) ≡ 0) (let z : 3 ≡ i = omega (arith, h, k) in z) (theirs (seat_after p.first 3) (last-side t p.first was.theirs))
            ])
          ]
          by (suc (suc zero)) e none = absurd (let k : false ≡ true = sym was.theirs ∙ sym (two-same t p.first) ∙ ap (λ n. is_side t (seat_after p.first n)) (sym e) ∙ ap (is_side t) (sym turns) ∙ on in cc)
          by (suc (suc (suc n))) e none = high-card none (λ i l k. absurd (omega (arith, l, k, e)))

    -- another hand, or in another suit
    module _ (apart : guarded m.suit ≡ true → keeper m.suit ≡ mover q → ⊥) where
      -- so many cards of the suit it keeps
      abbrev kept : Suit → ℕ
      kept u = (if guards_of guarded keeper (mover q) u then rounds p u + 1 else 0)

      kept-most : (u : Suit) → kept u ≤ rounds p u + flag_of (guards_of guarded keeper (mover q) u)
      kept-most u = go (guards_of guarded keeper (mover q) u)
        where
          go : (b : Bool) → (if b then rounds p u + 1 else 0) ≤ rounds p u + flag_of b
          go true = omega arith
          go false = zero-le

      kept-led : kept m.suit + 1 ≤ rounds p m.suit + flag_of (guards_of guarded keeper (mover q) m.suit)
      kept-led = (let k : kept m.suit ≡ 0 = ap (λ b. if b then rounds p m.suit + 1 else 0) none in omega (arith, k, some))
        where
          none : guards_of guarded keeper (mover q) m.suit ≡ false
          none = false_from_ne_true (guards_of guarded keeper (mover q) m.suit) (λ e. absurd (apart (and-left (guarded m.suit) (seat_code (keeper m.suit) == seat_code (mover q)) e) (seat_code-injective (keeper m.suit) (mover q) (eqb-true (seat_code (keeper m.suit)) (seat_code (mover q)) (and-right (guarded m.suit) (seat_code (keeper m.suit) == seat_code (mover q)) e)))))

      spare-card : count_of m.suit (cards_at q (mover q)) ≡ 0 → Picks
      spare-card none = pick (guards_of guarded keeper (mover q) v.0) refl
        where
          hand : List PlayingCard
          hand = cards_at q (mover q)

          v : (u : Suit) × (kept u + 1 ≤ count_of u (cards_at q (mover q)))
          v = more-somewhere kept (λ u. count_of u (cards_at q (mover q))) (
              let less = total-more kept (λ u. rounds p u + flag_of (guards_of guarded keeper (mover q) u)) m.suit kept-most kept-led in
              let room = was.room (mover q) on in
              let size = hand-left p was.valid was.start (mover q) in
              let whole = by-suits (cards_at q (mover q)) in
              let l : length (cards_at q (mover q)) ≡ length (cards_at p (mover q)) = ap length waits in
              omega (arith, less, room, size, whole, l))

          leads : (d : PlayingCard) → has_card hand d ≡ true → IsLegal q d
          leads d has = legal d (legal-in (m ∷ now.led.0) hand d has (λ e own suits. absurd (let k = count-has (is_of m.suit) hand e own (of-suit' m.suit e suits) in omega (arith, k, none))))

          -- it leaves what is kept
          frees : (d : PlayingCard) → d.suit ≡ v.0 → (guards_of guarded keeper (mover q) v.0 ≡ true → (d ≢ honour v.0) × (rounds p v.0 + 2 ≤ count_of v.0 hand)) → IsFree p m q d
          frees d suit keep u g differs at = elim (same-suit u v.0) [
            | inl e ↦ subst (λ w. (d ≢ honour w) × (rounds p w + 1 + flag_of (is_of w d) ≤ count_of w hand)) (sym e) (
                let kept_v = keep (ap₂ (λ a b. a && b) (ap guarded (sym e) ∙ g) (eq-eqb (seat_code (keeper v.0)) (seat_code (mover q)) (ap seat_code (ap keeper (sym e) ∙ at)))) in
                let f : flag_of (is_of v.0 d) ≡ 1 = ap flag_of (of-suit' v.0 d suit) in
                (kept_v.0, let k = kept_v.1 in omega (arith, k, f)))
            | inr other ↦ (
                let f : flag_of (is_of u d) ≡ 0 = ap flag_of (false_from_ne_true (is_of u d) (λ e. absurd (other (sym (suit-of u d e) ∙ suit)))) in
                let l : rounds p u + 1 ≤ count_of u hand = subst (λ x. rounds p u + 1 ≤ count_of u (cards_at q x)) at (now.long u g differs) in
                (λ e. other (sym (hold.suit u g) ∙ ap (λ (x : PlayingCard). x.suit) (sym e) ∙ suit), omega (arith, f, l)))
          ]

          pick : (b : Bool) → guards_of guarded keeper (mover q) v.0 ≡ b → Picks
          pick true e =
              let many : rounds p v.0 + 2 ≤ count_of v.0 hand = (let k : kept v.0 ≡ rounds p v.0 + 1 = ap (λ b. if b then rounds p v.0 + 1 else 0) e in let l = v.1 in omega (arith, k, l)) in
              let d = other-card (is_of v.0) hand (honour v.0) (once-in q now.valid (mover q) (honour v.0)) (omega (arith, many)) in
              (d.0, leads d.0 d.1, frees d.0 (suit-of v.0 d.0 d.2) (λ z. (d.3, many)), λ g at. absurd (apart g at))
          pick false e =
              let d = count-some (is_of v.0) hand (let l = v.1 in omega (arith, l)) in
              (d.0, leads d.0 d.1, frees d.0 (suit-of v.0 d.0 d.2) (λ z. absurd (let k : true ≡ false = sym z ∙ e in cc)), λ g at. absurd (apart g at))

      other-hand : Picks
      other-hand = elim (cases_lt 0 (count_of m.suit (cards_at q (mover q)))) [
        | inl l ↦ (
            let d = count-some (is_of m.suit) (cards_at q (mover q)) l in
            let suit = suit-of m.suit d.0 d.2 in
            (d.0, legal d.0 (legal-in (m ∷ now.led.0) (cards_at q (mover q)) d.0 d.1 (λ e own suits. suit)), suited-free p m q d.0 now suit, λ g at. absurd (apart g at)))
        | inr l ↦ spare-card (omega (arith, l))
      ]

    free-card : Picks
    free-card = go (guarded m.suit) refl
      where
        go : (b : Bool) → guarded m.suit ≡ b → Picks
        go true g = elim (same-or (keeper m.suit) (mover q)) [ inl at ↦ keeper-card g at | inr away ↦ other-hand (λ h at. away (ap seat_code at)) ]
        go false g = other-hand (λ h at. (let k : true ≡ false = sym h ∙ g in cc))

  -- the trick to its end
  trick-on : (p : Board) (m : PlayingCard) → IsOutside p → 1 ≤ count_of m.suit (cards_at p p.first) → 1 ≤ rounds p m.suit → ((q : Board) → tricks_left q + 1 ≡ tricks_left p → IsOutside q → 1 ≤ won t q)
      → (j : ℕ) (q : Board) → length q.trick + j ≡ 4 → IsUnder p m q → 1 ≤ won t q
  trick-on p m was own some next zero q size now = absurd (let h = now.valid.short in omega (arith, h, size))
  trick-on p m was own some next (suc j) q size now = go (is_side t (mover q)) refl (λ z n k. trick-on p m was own some next j z n k)
    where
      Goes : Type 0
      Goes = (z : Board) → length z.trick + j ≡ 4 → IsUnder p m z → 1 ≤ won t z

      leaves : (c : PlayingCard) → IsLegal q c → IsFree p m q c → IsWise p m q c → (x : Bool) → completes q ≡ x → Goes → 1 ≤ won_with t q c
      leaves c has free wise false e ih =
          let long : length (q.trick ++ c ∷ []) ≡ length q.trick + 1 = length-append q.trick (c ∷ []) in
          let on : length (after q c).trick ≡ length (q.trick ++ c ∷ []) = ap length (trick-after q c e).0 in
          let later : 1 ≤ won t (after q c) = ih (after q c) (omega (arith, long, on, size)) (under-on p m q c was now has free wise e) in
          omega (arith, later)
      leaves c has free wise true e ih = ends (is_side t (winner_of (trick_with q c) q.first q.strain)) refl
        where
          ends : (w : Bool) → is_side t (winner_of (trick_with q c) q.first q.strain) ≡ w → 1 ≤ won_with t q c
          ends true w = (let one : trick_for t q c ≡ 1 = ap₂ (λ a b. flag_of (a && b)) e w in omega (arith, one))
          ends false w =
              let on = outside-on p m q c was now has free wise own e w in
              let paid = paid-on p m q c was now has free wise in
              let left = hand-left (after q c) on.valid on.start p.first in
              let later : 1 ≤ won t (after q c) = next (after q c) (omega (arith, paid, left)) on in
              omega (arith, later)

      some-left : 1 ≤ tricks_left q
      some-left =
          let even = now.valid.even 0 (omega arith) in
          let begun : 1 ≤ length q.trick = (let k : length q.trick ≡ length (m ∷ now.led.0) = ap length now.led.1 in omega (arith, k)) in
          let flag : flag_of (nat_lt 0 (length q.trick)) ≡ 1 = ap flag_of (lt-ltb 0 (length q.trick) begun) in
          omega (arith, even, flag)

      go : (x : Bool) → is_side t (mover q) ≡ x → Goes → 1 ≤ won t q
      go true e ih =
          let c = free-card p m q was now some e in
          let enough = leaves c.0 c.1 c.2 c.3 (completes q) refl ih in
          let reach : won_with t q c.0 ≤ won t q = can t q c.0 now.valid e c.1 in
          omega (arith, enough, reach)
      go false e ih = whoever t q 1 now.valid some-left (λ c has. leaves c has (ours-free p m q c e) (ours-wise p m q c e) (completes q) refl ih)

  -- a lead by the leader's side
  module _ (p : Board) (m : PlayingCard) (was : IsOutside p) (has : IsLegal p m) where
    led-at : mover p ≡ p.first
    led-at = ap (λ trick. seat_after p.first (length trick)) was.start

    led-opens : completes p ≡ false
    led-opens = ap (λ trick. length trick == 3) was.start

    led-trick : (after p m).trick ≡ m ∷ []
    led-trick = (trick-after p m led-opens).0 ∙ ap (λ trick. trick ++ m ∷ []) was.start

    led-one : length (after p m).trick ≡ 1
    led-one = ap length led-trick

    led-mine : has_card (cards_at p p.first) m ≡ true
    led-mine = ap (λ x. has_card (cards_at p x) m) (sym led-at) ∙ own-card p m has

    led-own : 1 ≤ count_of m.suit (cards_at p p.first)
    led-own = count-has (is_of m.suit) (cards_at p p.first) m led-mine (of-suit' m.suit m refl)

    led-lost : (test : PlayingCard → Bool) → count test (cards_at (after p m) p.first) + flag_of (test m) ≡ count test (cards_at p p.first)
    led-lost test = subst (λ x. count test (cards_at (after p m) x) + flag_of (test m) ≡ count test (cards_at p x)) led-at (count-own test p m was.valid has)

    led-others : (x : Seat) → seat_code x ≢ seat_code p.first → cards_at (after p m) x ≡ cards_at p x
    led-others x apart = hand-others p m x (λ z. apart (z ∙ ap seat_code led-at))

    -- the keepers are other hands
    led-away : (u : Suit) → guarded u ≡ true → seat_code (keeper u) ≢ seat_code p.first
    led-away u g = λ z. (let k : false ≡ true = sym was.theirs ∙ ap (is_side t) (sym (seat_code-injective (keeper u) p.first z)) ∙ hold.theirs u g in cc)

    led-fight : guarded m.suit ≡ true → IsFight p m (after p m) (m ∷ [])
    led-fight g = record {
      rest = (let r = rest-after o guarded keeper honour hold p m m.suit was.valid has g was.part in let k = count-cons (over honour m.suit) m [] in let z : count (over honour m.suit) [] ≡ 0 = refl in omega (arith, r, k, z));
      place = place-of p.first (keeper m.suit);
      state = inl (at-place-of (place-of p.first (keeper m.suit)));
    }
      where
        at-place-of : (place : (i : ℕ) × (i < 4) × (keeper m.suit ≡ seat_after p.first i)) → 1 ≤ place.0
        at-place-of (zero, l, e) = absurd (led-away m.suit g (ap seat_code e))
        at-place-of (suc i, l, e) = omega arith

    led-under : IsUnder p m (after p m)
    led-under = record {
      valid = (legal-leads p m was.valid has).valid;
      same = strain-after p m ∙ was.same;
      first = (trick-after p m led-opens).1;
      led = ([], led-trick);
      part = λ x d h. was.part x d (was-in p m was.valid x d h);
      keeps = λ u g differs. ap (λ cards. has_card cards (honour u)) (led-others (keeper u) (led-away u g)) ∙ was.keeps u g;
      long = λ u g differs. subst (λ cards. rounds p u + 1 ≤ count_of u cards) (sym (led-others (keeper u) (led-away u g))) (was.long u g);
      still = λ i l k. led-others (seat_after p.first i) (let a = after-code p.first i in let b = seat_code-lt p.first in let z = led-one in λ e. omega (arith, a, b, z, e, l, k));
      fewer = λ x test. elim (same-or x p.first) [
        | inl f ↦ subst (λ y. count test (cards_at (after p m) y) ≤ count test (cards_at p y)) (sym f) (let l = led-lost test in omega (arith, l))
        | inr apart ↦ (let f : count test (cards_at (after p m) x) ≡ count test (cards_at p x) = ap (count test) (led-others x apart) in omega (arith, f))
      ];
      one = λ x test. elim (same-or x p.first) [
        | inl f ↦ subst (λ y. count test (cards_at p y) ≤ count test (cards_at (after p m) y) + 1) (sym f) (let l = led-lost test in let b = flag-most (test m) in omega (arith, l, b))
        | inr apart ↦ (let f : count test (cards_at (after p m) x) ≡ count test (cards_at p x) = ap (count test) (led-others x apart) in omega (arith, f))
      ];
      followed = λ i l. subst (λ n. HasFollowed m.suit p (after p m) (seat_after p.first n)) (let z = led-one in let k : 0 ≡ i = omega (arith, l, z) in k) (inr (let l = led-lost (is_of m.suit) in let f : flag_of (is_of m.suit m) ≡ 1 = ap flag_of (of-suit' m.suit m refl) in omega (arith, l, f)));
      played = λ i d l. (let k = led-one in let z : 0 ≡ i = omega (arith, l, k) in
          subst (λ n. has_card (cards_at p (seat_after p.first n)) (get_or (after p m).trick n d) ≡ true) z (ap (λ trick. has_card (cards_at p p.first) (get_or trick 0 d)) led-trick ∙ led-mine));
      paid = (
          let l = led-lost (λ c. true) in
          let a = ap length (filter-true (cards_at (after p m) p.first)) in
          let b = ap length (filter-true (cards_at p p.first)) in
          let n = hand-left p was.valid was.start p.first in
          omega (arith, l, a, b, n));
      fight = λ g. subst (IsFight p m (after p m)) (sym led-trick) (led-fight g);
    }
      where
        flag-most : (b : Bool) → flag_of b ≤ 1
        flag-most true = omega arith
        flag-most false = omega arith

    led-goes : 1 ≤ rounds p m.suit → ((q : Board) → tricks_left q + 1 ≡ tricks_left p → IsOutside q → 1 ≤ won t q) → 1 ≤ won t (after p m)
    led-goes some ih = trick-on p m was led-own some ih 3 (after p m) (let z = led-one in omega (arith, z)) led-under

    -- the honour is the highest card that is left
    led-wins : guarded m.suit ≡ true → rounds p m.suit ≡ 0 → 1 ≤ won t (after p m)
    led-wins g none =
        let place = opposite t p.first (keeper m.suit) was.theirs (hold.theirs m.suit g) in
        let it_wins = head-wins p m (honour m.suit) (keeper m.suit) place.0 was.valid (λ x c his. ap (λ s. is_trump s c) was.same ∙ hold.plain x c (was.part x c his)) was.start has place.1 place.2 (was.keeps m.suit g) (sym (hold.suit m.suit g)) highest in
        subst (λ s. 1 ≤ won s (after p m)) (is-same (side_of (keeper m.suit)) t (hold.theirs m.suit g)) it_wins
      where
        open_is : rounds p m.suit ≡ count (over honour m.suit) (cards_at p o.first) + count (over honour m.suit) (cards_at p (seat_after o.first 2))
        open_is = ap (λ b. if b then count (over honour m.suit) (cards_at p o.first) + count (over honour m.suit) (cards_at p (seat_after o.first 2)) else max (count_of m.suit (cards_at p o.first)) (count_of m.suit (cards_at p (seat_after o.first 2)))) g

        -- no hand has a card over it
        none-over : (y : Seat) (d : PlayingCard) → has_card (cards_at p y) d ≡ true → over honour m.suit d ≡ false
        none-over y d his = by (place-of o.first y)
          where
            ours : (x : Seat) → y ≡ x → count (over honour m.suit) (cards_at p x) ≡ 0 → over honour m.suit d ≡ false
            ours x e zero_over = false_from_ne_true (over honour m.suit d) (λ h. absurd (let one = count-has (over honour m.suit) (cards_at p x) d (subst (λ z. has_card (cards_at p z) d ≡ true) e his) h in omega (arith, one, zero_over)))

            by : (i : ℕ) × (i < 4) × (y ≡ seat_after o.first i) → over honour m.suit d ≡ false
            by (zero, l, e) = ours o.first e (omega (arith, none, open_is))
            by (suc zero, l, e) = hold.low m.suit g y d (ap (is_side t) e ∙ (opponents-side o.first).0) (was.part y d his)
            by (suc (suc zero), l, e) = ours (seat_after o.first 2) e (omega (arith, none, open_is))
            by (suc (suc (suc zero)), l, e) = hold.low m.suit g y d (ap (is_side t) e ∙ (opponents-side o.first).1) (was.part y d his)
            by (suc (suc (suc (suc j))), l, e) = absurd (omega (arith, l))

        highest : (y : Seat) (d : PlayingCard) → seat_code y ≢ seat_code (keeper m.suit) → has_card (cards_at p y) d ≡ true → d.suit ≡ (honour m.suit).suit → d.rank < (honour m.suit).rank
        highest y d apart his suit = under honour m.suit d (hold.suit m.suit g) (suit ∙ hold.suit m.suit g) (none-over y d his) (λ e. one-hand p was.valid y (keeper m.suit) (honour m.suit) apart (ap (has_card (cards_at p y)) (sym e) ∙ his) (was.keeps m.suit g))

  -- so the other side takes a trick
  comes-in : (k : ℕ) (p : Board) → tricks_left p ≡ k → IsOutside p → 1 ≤ won t p
  comes-in zero p size was = absurd (let few = was.few in omega (arith, few, size))
  comes-in (suc k) p size was = whoever t p 1 was.valid (omega (arith, size)) (λ m has. (let later = leads m has (guarded m.suit) refl (λ q n w. comes-in k q n w) in omega (arith, later)))
    where
      Later : Type 0
      Later = (q : Board) → tricks_left q ≡ k → IsOutside q → 1 ≤ won t q

      leads : (m : PlayingCard) → IsLegal p m → (b : Bool) → guarded m.suit ≡ b → Later → 1 ≤ won t (after p m)
      leads m has true e ih = elim (cases_lt 0 (rounds p m.suit)) [ inl some ↦ led-goes p m was has some (λ q n w. ih q (omega (arith, n, size)) w) | inr none ↦ led-wins p m was has e (omega (arith, none)) ]
      leads m has false e ih = led-goes p m was has some (λ q n w. ih q (omega (arith, n, size)) w)
        where
          some : 1 ≤ rounds p m.suit
          some =
              let long = led-own p m was has in
              let open_was : rounds p m.suit ≡ max (count_of m.suit (cards_at p o.first)) (count_of m.suit (cards_at p (seat_after o.first 2))) = ap (λ b. if b then count (over honour m.suit) (cards_at p o.first) + count (over honour m.suit) (cards_at p (seat_after o.first 2)) else max (count_of m.suit (cards_at p o.first)) (count_of m.suit (cards_at p (seat_after o.first 2)))) e in
              elim (leader-of p was) [
                | inl f ↦ (let k : 1 ≤ count_of m.suit (cards_at p o.first) = subst (λ y. 1 ≤ count_of m.suit (cards_at p y)) f long in omega (arith, k, open_was))
                | inr f ↦ (let k : 1 ≤ count_of m.suit (cards_at p (seat_after o.first 2)) = subst (λ y. 1 ≤ count_of m.suit (cards_at p y)) f long in omega (arith, k, open_was))
              ]

  -- where that holds at first
  pub one-later : IsBoard o → o.trick ≡ [] → ((u : Suit) → guarded u ≡ true → rounds o u + 1 ≤ count_of u (cards_at o (keeper u))) → total (rounds o) + 1 ≤ tricks_left o → ((x : Seat) → is_side t x ≡ true → total (rounds o) + guards x ≤ tricks_left o) → 1 ≤ won t o
  one-later valid start long few room = comes-in (tricks_left o) o refl (record { valid = valid; same = refl; start = start; theirs = leaders-side o.first; part = λ x c h. h; keeps = hold.own; long = long; few = few; room = room })
