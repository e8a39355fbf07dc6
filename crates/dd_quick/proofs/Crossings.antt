-- The leader crosses to its partner: it leads a low card of a suit in which the partner has a winner, and that takes the trick,
-- where an opponent with trumps has to follow suit.
use Rattle.std.proofs.Common.{◌≡◌, ◌≢◌, ℕ, ◌+◌, ◌<◌, ◌≤◌, Bool, true, false, refl, sym, ap, ◌∙◌, subst, arith, List, [], ◌∷◌, ◌++◌, length, length-append, inl, inr}
use Rattle.std.specs.Prelude.{filter, nat_le, nat_lt, ◌&&◌, ◌==◌, ◌⊎◌}
use Rattle.std.specs.List.{list_all}
use mathlib.Core.Path.{ap₂}
use Rattle.std.proofs.lemmas.Bool.{cases_lt, leb-true, lt-ltb, false_from_ne_true}
use Rattle.std.proofs.lemmas.Bool.Decides.{eqb_tells}
use Rattle.dd_cards.specs.declared.seat.Seat.{Seat}
use Rattle.dd_cards.specs.declared.suit.Suit.{Suit}
use Rattle.dd_cards.specs.declared.strain.Strain.{Strain}
use Rattle.dd_cards.specs.PlayingCard.{PlayingCard}
use Rattle.dd_cards.specs.Cards.{is_of, same_card, has_card}
use Rattle.dd_cards.specs.Seats.{seat_code, seat_after}
use Rattle.dd_cards.specs.Sides.{is_side}
use Rattle.dd_cards.specs.declared.side.Side.{Side}
use Rattle.dd_cards.proofs.CallerLemmas.{and-left, and-right, passes, same_card-eq, seat_code-lt}
use Rattle.dd_play.specs.Board.{Board, IsBoard, cards_at, mover, tricks_left}
use Rattle.dd_play.specs.Tricks.{is_trump, deciding, is_highest_of, winning_place, or_else, winner_of}
use Rattle.dd_play.specs.Play.{completes, trick_with, after, following}
use Rattle.dd_play.specs.Simulations.{IsLegal}
use Rattle.dd_play.specs.Covers.{count_of}
use Rattle.dd_play.specs.Won.{won, trick_for}
use Rattle.dd_play.proofs.CallerLemmas.{Obeys, after-code, can, count, count-has, count-some, filter-has, filter-passes, flag_of, hand-others, has-first, in-rest, legal-in, legal-leads, legal-out, of-suit', own-card, same-or, strain-after, suit-of, trick-after, trick-closed, was-in, won_with, trump-suit as same-trump}
use Rattle.dd_quick.proofs.Plays.{whoever, count-own}
use Rattle.dd_quick.proofs.FirstCard.{IsWeaker, none-higher}
use Rattle.dd_quick.proofs.Cashing.{FollowsSuit, hand_on, less, partner-too, sure_of}
use Rattle.dd_quick.proofs.Hands.{IsOpposed}
use Rattle.dd_quick.proofs.Chosen.{Chosen, count-same}

-- ---- the third hand wins

-- no hand has a trump
abbrev pub NoTrumps : Board → Type 0
NoTrumps p = (x : Seat) (c : PlayingCard) → has_card (cards_at p x) c ≡ true → is_trump p.strain c ≡ false

-- without trumps the cards of the suit led decide
decided : (strain : Strain) (m : PlayingCard) (rest : List PlayingCard) → ((e : PlayingCard) → has_card (m ∷ rest) e ≡ true → is_trump strain e ≡ false) → deciding strain (m ∷ rest) ≡ filter (is_of m.suit) (m ∷ rest)
decided strain m rest each = ap (λ trumps. or_else trumps (filter (is_of m.suit) (m ∷ rest))) (none (m ∷ rest) each)
  where
    none : (cards : List PlayingCard) → ((e : PlayingCard) → has_card cards e ≡ true → is_trump strain e ≡ false) → filter (is_trump strain) cards ≡ []
    none [] each = refl
    none (c ∷ cards) each = rw (each c (has-first c cards)) (none cards (λ e h. each e (in-rest c e cards h)))

-- a card of the trick that is weaker than another of the suit led is not the highest
not-highest : (suit : Suit) (trick : List PlayingCard) (w e : PlayingCard) → has_card trick w ≡ true → w.suit ≡ suit → (e.suit ≡ suit → e.rank < w.rank) → is_highest_of (filter (is_of suit) trick) e ≡ false
not-highest suit trick w e has of_suit low = false_from_ne_true (is_highest_of (filter (is_of suit) trick) e) (λ h.
    let own = and-left (has_card (filter (is_of suit) trick) e) (list_all (λ d. nat_le d.rank e.rank) (filter (is_of suit) trick)) h in
    let all = and-right (has_card (filter (is_of suit) trick) e) (list_all (λ d. nat_le d.rank e.rank) (filter (is_of suit) trick)) h in
    let there = filter-has (is_of suit) trick w has (of-suit' suit w of_suit) in
    let over = leb-true w.rank e.rank (passes (λ (d : PlayingCard). nat_le d.rank e.rank) w (filter (is_of suit) trick) all there) in
    let under = low (suit-of suit e (filter-passes (is_of suit) trick e own)) in
    omega (arith, over, under))

-- a card of a list is its first or one of the rest
first-or : (x e : PlayingCard) (xs : List PlayingCard) → has_card (x ∷ xs) e ≡ true → (x ≡ e) ⊎ (has_card xs e ≡ true)
first-or x e xs h = go (same_card x e) refl
  where
    go : (b : Bool) → same_card x e ≡ b → (x ≡ e) ⊎ (has_card xs e ≡ true)
    go true f = inl (same_card-eq x e f)
    go false f = inr (rw f at h)

-- the card of the suit led at the third place wins from weaker cards
third-wins : (strain : Strain) (m c w d : PlayingCard) → m.suit ≡ w.suit → is_trump strain w ≡ false → IsWeaker strain w m → IsWeaker strain w c → IsWeaker strain w d → winning_place strain (m ∷ c ∷ w ∷ d ∷ []) ≡ 2
third-wins strain m c w d suits plain weak_m weak_c weak_d = rw (fails m weak_m, fails c weak_c, wins) refl
  where
    trick : List PlayingCard
    trick = m ∷ c ∷ w ∷ d ∷ []

    -- each card of the trick is no trump, and not higher
    each : (e : PlayingCard) → has_card trick e ≡ true → (is_trump strain e ≡ false) × (e.suit ≡ w.suit → e.rank ≤ w.rank)
    each e h = elim (first-or m e (c ∷ w ∷ d ∷ []) h) [
      | inl k ↦ weak e (subst (IsWeaker strain w) k weak_m)
      | inr h ↦ elim (first-or c e (w ∷ d ∷ []) h) [
        | inl k ↦ weak e (subst (IsWeaker strain w) k weak_c)
        | inr h ↦ elim (first-or w e (d ∷ []) h) [
          | inl k ↦ subst (λ y. (is_trump strain y ≡ false) × (y.suit ≡ w.suit → y.rank ≤ w.rank)) k (plain, λ s. omega arith)
          | inr h ↦ elim (first-or d e [] h) [ inl k ↦ weak e (subst (IsWeaker strain w) k weak_d) | inr h ↦ absurd (cc) ]
        ]
      ]
    ]
      where
        weak : (e : PlayingCard) → IsWeaker strain w e → (is_trump strain e ≡ false) × (e.suit ≡ w.suit → e.rank ≤ w.rank)
        weak e k = (k.0, λ s. (let l = k.1 s in omega (arith, l)))

    decide : deciding strain trick ≡ filter (is_of m.suit) trick
    decide = decided strain m (c ∷ w ∷ d ∷ []) (λ e h. (each e h).0)

    here : has_card trick w ≡ true
    here = in-rest m w (c ∷ w ∷ d ∷ []) (in-rest c w (w ∷ d ∷ []) (has-first w (d ∷ [])))

    fails : (e : PlayingCard) → IsWeaker strain w e → is_highest_of (deciding strain trick) e ≡ false
    fails e weak = ap (λ cards. is_highest_of cards e) decide ∙ not-highest m.suit trick w e here (sym suits) (λ s. weak.1 (s ∙ suits))

    wins : is_highest_of (deciding strain trick) w ≡ true
    wins =
        ap (λ cards. is_highest_of cards w) (decide ∙ ap (λ u. filter (is_of u) trick) suits)
        ∙ ap₂ (λ a b. a && b) (filter-has (is_of w.suit) trick w here (of-suit' w.suit w refl)) (none-higher w trick (λ e h. (each e h).1))

-- ---- the trick

-- a hand has lost a card of the suit since q, or has none
abbrev pub HasFollowed : Suit → Board → Board → Seat → Type 0
HasFollowed u q p x = (count_of u (cards_at p x) ≡ 0) ⊎ (count_of u (cards_at p x) + 1 ≤ count_of u (cards_at q x))

-- of the cards of a hand one was played, of w's suit if there was one
abbrev pub HasAnswered : PlayingCard → List PlayingCard → List PlayingCard → Type 0
HasAnswered w his rest = (c : PlayingCard) × ((test : PlayingCard → Bool) → count test rest + flag_of (test c) ≡ count test his) × FollowsSuit w his c

-- so of the suit there is one fewer, or none
pub answered-fewer : (w : PlayingCard) (his rest : List PlayingCard) → HasAnswered w his rest → (count_of w.suit rest ≡ 0) ⊎ (count_of w.suit rest + 1 ≤ count_of w.suit his)
answered-fewer w his rest given =
    let taken = given.1 (is_of w.suit) in
    elim (cases_lt 0 (count_of w.suit his)) [
      | inl some ↦ inr (let one : flag_of (is_of w.suit given.0) ≡ 1 = ap flag_of (of-suit' w.suit given.0 (given.2 some)) in omega (arith, taken, one))
      | inr none ↦ inl (omega (arith, taken, none))
    ]

-- The hands only lost cards since q, and the same seat leads. The hands that have played, but the partner's, have answered the
-- lead; the others have all their cards.
record IsFrom (w : PlayingCard) (q p : Board) : Type 0 where
  valid : IsBoard p
  same : p.strain ≡ q.strain
  first : p.first ≡ q.first
  part : (x : Seat) (c : PlayingCard) → has_card (cards_at p x) c ≡ true → has_card (cards_at q x) c ≡ true
  fewer : (x : Seat) (test : PlayingCard → Bool) → count test (cards_at p x) ≤ count test (cards_at q x)
  followed : (i : ℕ) → i < length p.trick → i ≢ 2 → HasAnswered w (hand_on q i) (cards_at p (seat_after q.first i))
  waits : (i : ℕ) → length p.trick ≤ i → i < 4 → cards_at p (seat_after q.first i) ≡ hand_on q i

-- after the trick that the partner wins with w: it is on lead, has lost that card, the hands only lost cards, and the others
-- have answered the lead
pub record HasCrossed (q : Board) (w : PlayingCard) (r : Board) : Type 0 where
  pub valid : IsBoard r
  pub same : r.strain ≡ q.strain
  pub start : r.trick ≡ []
  pub first : r.first ≡ seat_after q.first 2
  pub part : (x : Seat) (c : PlayingCard) → has_card (cards_at r x) c ≡ true → has_card (cards_at q x) c ≡ true
  pub taken : (test : PlayingCard → Bool) → count test (cards_at r r.first) + flag_of (test w) ≡ count test (hand_on q 2)
  pub fewer : (x : Seat) (test : PlayingCard → Bool) → count test (cards_at r x) ≤ count test (cards_at q x)
  pub followed : (i : ℕ) → i < 4 → i ≢ 2 → HasAnswered w (hand_on q i) (cards_at r (seat_after q.first i))

-- the partner's card is higher than all of its suit in the other hands
abbrev pub IsOver : Board → PlayingCard → Type 0
IsOver q w = (x : Seat) (d : PlayingCard) → seat_code x ≢ seat_code (seat_after q.first 2) → has_card (cards_at q x) d ≡ true → d.suit ≡ w.suit → d.rank < w.rank

-- an opponent can't ruff the suit: it has no trumps, or so many cards of the suit
abbrev pub CantRuff : Board → ℕ → Suit → ℕ → Type 0
CantRuff q i u n = (count (is_trump q.strain) (hand_on q i) ≡ 0) ⊎ (n ≤ count_of u (hand_on q i))

-- the leader leads m, of the suit of the partner's card w
module _ (s : Side) (q : Board) (m w : PlayingCard) (valid : IsBoard q) (start : q.trick ≡ []) (ours : is_side s q.first ≡ true) (plain : is_trump q.strain w ≡ false)
    (follow : (i : ℕ) → IsOpposed i → CantRuff q i w.suit 1) (own : has_card (cards_at q q.first) m ≡ true) (his : has_card (hand_on q 2) w ≡ true) (suits : m.suit ≡ w.suit) (over : IsOver q w) where
  -- the mover's place
  turn : (p : Board) (trick : List PlayingCard) → IsFrom w q p → p.trick ≡ trick → mover p ≡ seat_after q.first (length trick)
  turn p trick from on = ap₂ (λ f t. seat_after f (length t)) from.first on

  -- the mover has all its cards
  whole : (p : Board) (trick : List PlayingCard) → IsFrom w q p → p.trick ≡ trick → length trick < 4 → cards_at p (mover p) ≡ hand_on q (length trick)
  whole p trick from on short = ap (cards_at p) (turn p trick from on) ∙ from.waits (length trick) (let k : length p.trick ≡ length trick = ap length on in omega (arith, k)) short

  -- two places are two seats
  two : (i j : ℕ) → i < 4 → j < 4 → i ≢ j → seat_code (seat_after q.first i) ≢ seat_code (seat_after q.first j)
  two i j l k differs = λ e. (let a = after-code q.first i in let b = after-code q.first j in let c = seat_code-lt q.first in omega (arith, a, b, c, e, l, k, differs))

  -- another hand keeps its cards
  stays : (p : Board) (trick : List PlayingCard) (c : PlayingCard) (i : ℕ) → IsFrom w q p → p.trick ≡ trick → length trick < 4 → i < 4 → i ≢ length trick → cards_at (after p c) (seat_after q.first i) ≡ cards_at p (seat_after q.first i)
  stays p trick c i from on l k differs = hand-others p c (seat_after q.first i) (λ e. two i (length trick) k l differs (e ∙ ap seat_code (turn p trick from on)))

  -- a hand only loses cards
  loses : (p : Board) (c : PlayingCard) → IsFrom w q p → IsLegal p c → (x : Seat) (test : PlayingCard → Bool) → count test (cards_at (after p c) x) ≤ count test (cards_at q x)
  loses p c from has x test = elim (same-or x (mover p)) [
    | inl e ↦ subst (λ y. count test (cards_at (after p c) y) ≤ count test (cards_at q y)) (sym e) (let t = count-own test p c from.valid has in let f = from.fewer (mover p) test in omega (arith, t, f))
    | inr apart ↦ (let e : count test (cards_at (after p c) x) ≡ count test (cards_at p x) = ap (count test) (hand-others p c x apart) in let f = from.fewer x test in omega (arith, e, f))
  ]

  -- the hands that have played have answered the lead
  follow-on : (p : Board) (trick : List PlayingCard) (c : PlayingCard) → IsFrom w q p → p.trick ≡ trick → length trick < 4 → IsLegal p c → (length trick ≢ 2 → FollowsSuit w (cards_at p (mover p)) c)
      → (i : ℕ) → i < length trick + 1 → i ≢ 2 → HasAnswered w (hand_on q i) (cards_at (after p c) (seat_after q.first i))
  follow-on p trick c from on short has suited i l other = elim (eqb_tells i (length trick)) [
    | inl r ↦ subst (λ j. HasAnswered w (hand_on q j) (cards_at (after p c) (seat_after q.first j))) (sym r.1) (
      c,
      λ test. subst (λ x. count test (cards_at (after p c) x) + flag_of (test c) ≡ count test (hand_on q (length trick))) (turn p trick from on) (count-own test p c from.valid has ∙ ap (count test) (whole p trick from on short)),
      subst (λ cards. FollowsSuit w cards c) (whole p trick from on short) (suited (λ e. other (r.1 ∙ e))),
    )
    | inr r ↦ subst (HasAnswered w (hand_on q i)) (sym (stays p trick c i from on short (omega (arith, l, short)) r.1)) (from.followed i (let k : length p.trick ≡ length trick = ap length on in let d = r.1 in omega (arith, k, l, d)) other)
  ]

  -- a card that may be played follows suit
  suited-by : (p : Board) (tail : List PlayingCard) (c : PlayingCard) → p.trick ≡ m ∷ tail → IsLegal p c → FollowsSuit w (cards_at p (mover p)) c
  suited-by p tail c on has some =
      let card = count-some (is_of w.suit) (cards_at p (mover p)) some in
      let obeys : Obeys (m ∷ tail) (cards_at p (mover p)) c = subst (λ t. Obeys t (cards_at p (mover p)) c) on (legal-out p.trick (cards_at p (mover p)) c has) in
      obeys card.0 card.1 (suit-of w.suit card.0 card.2 ∙ sym suits) ∙ suits

  -- a card goes on the trick
  goes-on : (p : Board) (trick : List PlayingCard) (c : PlayingCard) → IsFrom w q p → p.trick ≡ trick → (length trick == 3) ≡ false → length trick < 4 → IsLegal p c → (length trick ≢ 2 → FollowsSuit w (cards_at p (mover p)) c)
      → IsFrom w q (after p c) × ((after p c).trick ≡ trick ++ c ∷ [])
  goes-on p trick c from on short less has suited =
      let unfinished : completes p ≡ false = ap (λ t. length t == 3) on ∙ short in
      let pushed : (after p c).trick ≡ trick ++ c ∷ [] = (trick-after p c unfinished).0 ∙ ap (λ t. t ++ c ∷ []) on in
      let long : length (trick ++ c ∷ []) ≡ length trick + 1 = length-append trick (c ∷ []) in
      let k : length (after p c).trick ≡ length (trick ++ c ∷ []) = ap length pushed in
      let was : length p.trick ≡ length trick = ap length on in (
        record {
          valid = (legal-leads p c from.valid has).valid;
          same = strain-after p c ∙ from.same;
          first = (trick-after p c unfinished).1 ∙ from.first;
          part = λ x d h. from.part x d (was-in p c from.valid x d h);
          fewer = loses p c from has;
          followed = λ i l other. follow-on p trick c from on less has suited i (omega (arith, l, long, k)) other;
          waits = λ i l b. stays p trick c i from on less b (omega (arith, l, long, k)) ∙ from.waits i (omega (arith, l, long, k, was)) b;
        },
        pushed,
      )

  -- a card that an opponent plays is weaker than w
  played : (p : Board) (trick : List PlayingCard) (c : PlayingCard) → IsFrom w q p → p.trick ≡ trick → length trick < 4 → IsOpposed (length trick) → IsLegal p c → FollowsSuit w (cards_at p (mover p)) c → IsWeaker q.strain w c
  played p trick c from on short opposed has suited = (quiet, over (mover p) c (λ e. two (length trick) 2 short (omega arith) other (sym (ap seat_code (turn p trick from on)) ∙ e)) (from.part (mover p) c (own-card p c has)))
    where
      other : length trick ≢ 2
      other = λ e. elim opposed [ inl a ↦ omega (arith, a, e) | inr a ↦ omega (arith, a, e) ]

      quiet : is_trump q.strain c ≡ false
      quiet = elim (follow (length trick) opposed) [
        | inl none ↦ false_from_ne_true (is_trump q.strain c) (λ t.
            let one = count-has (is_trump q.strain) (cards_at p (mover p)) c (own-card p c has) t in
            let all : count (is_trump q.strain) (cards_at p (mover p)) ≡ 0 = ap (count (is_trump q.strain)) (whole p trick from on short) ∙ none in
            omega (arith, one, all))
        | inr some ↦ same-trump q.strain c w (suited (subst (λ cards. 1 ≤ count_of w.suit cards) (sym (whole p trick from on short)) some)) ∙ plain
      ]

  -- there is a card to play
  some-left : (p : Board) (trick : List PlayingCard) → IsFrom w q p → p.trick ≡ trick → 1 ≤ length trick → 1 ≤ tricks_left p
  some-left p trick from on l =
      let full = from.valid.even 0 (omega arith) in
      let k : length p.trick ≡ length trick = ap length on in
      let one : flag_of (nat_lt 0 (length p.trick)) ≡ 1 = ap flag_of (lt-ltb 0 (length p.trick) (omega (arith, k, l))) in
      omega (arith, full, one)

  -- the leader is to play, and may lead the card
  leads : mover q ≡ q.first
  leads = ap (λ trick. seat_after q.first (length trick)) start

  may-lead : IsLegal q m
  may-lead = ap (λ trick. has_card (following trick (cards_at q (mover q))) m) start ∙ ap (λ x. has_card (cards_at q x) m) leads ∙ own

  -- at first
  here : IsFrom w q q
  here = record {
    valid = valid;
    same = refl;
    first = refl;
    part = λ x c h. h;
    fewer = λ x test. omega arith;
    followed = λ i l other. absurd (let k : length q.trick ≡ 0 = ap length start in omega (arith, l, k));
    waits = λ i l b. refl;
  }

  -- the partner wins with w, whatever the others play, and goes on
  pub crosses : (b : ℕ) → ((r : Board) → HasCrossed q w r → b ≤ won s r) → b + 1 ≤ won s q
  crosses b next =
      let on = goes-on q [] m here start refl (omega arith) may-lead (λ other some. suits) in
      let later : b + 1 ≤ won s (after q m) = second (after q m) on.0 on.1 in
      let reach : won_with s q m ≤ won s q = can s q m valid (ap (is_side s) leads ∙ ours) may-lead in
      omega (arith, later, reach)
    where
      -- the fourth hand plays any card
      fourth : (p : Board) (c : PlayingCard) → IsFrom w q p → p.trick ≡ m ∷ c ∷ w ∷ [] → IsWeaker q.strain w c
          → ((test : PlayingCard → Bool) → count test (cards_at p (seat_after q.first 2)) + flag_of (test w) ≡ count test (hand_on q 2)) → b + 1 ≤ won s p
      fourth p c from on weak taken = whoever s p (b + 1) from.valid (some-left p (m ∷ c ∷ w ∷ []) from on (omega arith)) last
        where
          last : (d : PlayingCard) → IsLegal p d → b + 1 ≤ won_with s p d
          last d has =
              let closed : completes p ≡ true = ap (λ t. length t == 3) on in
              let weak_d = played p (m ∷ c ∷ w ∷ []) d from on (omega arith) (inr refl) has (suited-by p (c ∷ w ∷ []) d on has) in
              let weak_m : IsWeaker q.strain w m = (same-trump q.strain m w suits ∙ plain, over q.first m (two 0 2 (omega arith) (omega arith) (omega arith)) own) in
              let pushed : trick_with p d ≡ m ∷ c ∷ w ∷ d ∷ [] = ap (λ t. t ++ d ∷ []) on in
              let place : winning_place p.strain (trick_with p d) ≡ 2 = ap₂ winning_place from.same pushed ∙ third-wins q.strain m c w d suits plain weak_m weak weak_d in
              let wins : winner_of (trick_with p d) p.first p.strain ≡ seat_after q.first 2 = ap₂ seat_after from.first place in
              let point_is : trick_for s p d ≡ 1 = ap₂ (λ a b. flag_of (a && b)) closed (ap (is_side s) wins ∙ partner-too s q.first ours) in
              let first_is : (after p d).first ≡ seat_after q.first 2 = (trick-closed p d closed).1 ∙ wins in
              let keeps : cards_at (after p d) (after p d).first ≡ cards_at p (seat_after q.first 2) = ap (cards_at (after p d)) first_is ∙ stays p (m ∷ c ∷ w ∷ []) d 2 from on (omega arith) (omega arith) (omega arith) in
              let later : b ≤ won s (after p d) = next (after p d) (record {
                valid = (legal-leads p d from.valid has).valid;
                same = strain-after p d ∙ from.same;
                start = (trick-closed p d closed).0;
                first = first_is;
                part = λ x e h. from.part x e (was-in p d from.valid x e h);
                taken = λ test. ap (λ cards. count test cards + flag_of (test w)) keeps ∙ taken test;
                fewer = loses p d from has;
                followed = λ i l other. follow-on p (m ∷ c ∷ w ∷ []) d from on (omega arith) has (λ three. suited-by p (c ∷ w ∷ []) d on has) i (omega (arith, l)) other;
              }) in
              omega (arith, point_is, later)

      -- the partner plays w
      third : (p : Board) (c : PlayingCard) → IsFrom w q p → p.trick ≡ m ∷ c ∷ [] → IsWeaker q.strain w c → b + 1 ≤ won s p
      third p c from on weak =
          let at : mover p ≡ seat_after q.first 2 = turn p (m ∷ c ∷ []) from on in
          let hand : cards_at p (mover p) ≡ hand_on q 2 = whole p (m ∷ c ∷ []) from on (omega arith) in
          let has : IsLegal p w = ap₂ (λ t cards. has_card (following t cards) w) on hand ∙ legal-in (m ∷ c ∷ []) (hand_on q 2) w his (λ e own s. sym suits) in
          let next_on = goes-on p (m ∷ c ∷ []) w from on refl (omega arith) has (λ other. absurd (other refl)) in
          let later : b + 1 ≤ won s (after p w) = fourth (after p w) c next_on.0 next_on.1 weak (λ test. ap (λ x. count test (cards_at (after p w) x) + flag_of (test w)) (sym at) ∙ count-own test p w from.valid has ∙ ap (count test) hand) in
          let reach : won_with s p w ≤ won s p = can s p w from.valid (ap (is_side s) at ∙ partner-too s q.first ours) has in
          omega (arith, later, reach)

      -- the second hand plays any card
      second : (p : Board) → IsFrom w q p → p.trick ≡ m ∷ [] → b + 1 ≤ won s p
      second p from on = whoever s p (b + 1) from.valid (some-left p (m ∷ []) from on (omega arith)) plays
        where
          plays : (c : PlayingCard) → IsLegal p c → b + 1 ≤ won_with s p c
          plays c has =
              let next_on = goes-on p (m ∷ []) c from on refl (omega arith) has (λ other. suited-by p [] c on has) in
              let weak = played p (m ∷ []) c from on (omega arith) (inl refl) has (suited-by p [] c on has) in
              let later : b + 1 ≤ won s (after p c) = third (after p c) c next_on.0 next_on.1 weak in
              omega (arith, later)

-- ---- cards chosen

-- cards chosen suit by suit, as many of each suit
pub chosen-many : (hand : List PlayingCard) (test : Suit → PlayingCard → Bool) (k : Suit → ℕ) (chosen : (u : Suit) → Chosen (λ c. is_of u c && test u c) hand (k u)) (u : Suit) → sure_of (λ c. (chosen c.suit).kept c) u hand ≡ k u
chosen-many hand test k chosen u = count-same (λ c. is_of u c && (chosen c.suit).kept c) (chosen u).kept hand (λ c has. agree c (is_of u c) refl) ∙ (chosen u).many
  where
    agree : (c : PlayingCard) → (b : Bool) → is_of u c ≡ b → (is_of u c && (chosen c.suit).kept c) ≡ (chosen u).kept c
    agree c true f = ap (λ a. a && (chosen c.suit).kept c) f ∙ ap (λ v. (chosen v).kept c) (suit-of u c f)
    agree c false f =
        ap (λ a. a && (chosen c.suit).kept c) f
        ∙ sym (false_from_ne_true ((chosen u).kept c) (λ k. let other : is_of u c ≡ true = and-left (is_of u c) (test u c) ((chosen u).within c k).1 in let no : false ≡ true = sym f ∙ other in cc))
