-- A guarded trump. The highest trump left is in the hand before y's, the second highest in y's hand, and y has another trump. Where
-- y is to play to a trick, the hand before it has played, unless y leads: if it has played the highest trump, y plays another
-- card, and its trump is the highest then; if not, y's trump wins the trick, or y has to follow a side suit and keeps its trumps.
use Rattle.std.proofs.Common.{◌≡◌, ◌≢◌, ℕ, zero, suc, ◌+◌, ◌<◌, ◌≤◌, Bool, true, false, refl, sym, ap, ◌∙◌, subst, arith, List, [], ◌∷◌, ◌++◌, length, length-append, get_or, inl, inr}
use Rattle.std.specs.Prelude.{nat_le, ◌&&◌, ◌⊎◌}
use mathlib.Core.Bool.{not}
use mathlib.Core.Path.{ap₂}
use Rattle.std.proofs.lemmas.Bool.{cases_lt, eqb-true, leb-true, le-leb, not-true, false_from_ne_true}
use Rattle.dd_cards.specs.declared.seat.Seat.{Seat}
use Rattle.dd_cards.specs.declared.suit.Suit.{Suit}
use Rattle.dd_cards.specs.declared.side.Side.{Side}
use Rattle.dd_cards.specs.declared.strain.Strain.TheVariants.{Trump}
use Rattle.dd_cards.specs.PlayingCard.{PlayingCard}
use Rattle.dd_cards.specs.Cards.{is_of, same_card, has_card}
use Rattle.dd_cards.specs.Seats.{seat_code, seat_after}
use Rattle.dd_cards.specs.Sides.{side_of, is_side}
use Rattle.dd_cards.proofs.CallerLemmas.{and-left, and-right, has_card-without, length-filter-le, same_card-eq, same_card-self, seat_code-lt}
use Rattle.dd_play.specs.Board.{Board, IsBoard, cards_at, cards_left, tricks_left, mover}
use Rattle.dd_play.specs.Tricks.{winning_place, winner_of}
use Rattle.dd_play.specs.Play.{after, completes, following, trick_with}
use Rattle.dd_play.specs.Simulations.{IsLegal}
use Rattle.dd_play.specs.Covers.{count_of}
use Rattle.dd_play.specs.Won.{trick_for, won}
use Rattle.dd_play.proofs.CallerLemmas.{after-code, can, cards-tricks, cards_left-after, count, count-has, count-some, flag_of, has-at, has-first, hand-others, hand-own, in-push, legal-in, legal-leads, of-suit', once-in, own-card, real-trick, same-or, strain-after, suit-of, trick-after, trick-closed, was-in, won_with}
use Rattle.dd_quick.specs.QuickTricks.{from_rank, joint_trumps}
use Rattle.dd_quick.proofs.Chosen.{count-never, count-split}
use Rattle.dd_quick.proofs.Hands.{one-hand}
use Rattle.dd_quick.proofs.JointPlans.{is_top}
use Rattle.dd_quick.proofs.JointTrumps.{hand-in, place-of, top-wins}
use Rattle.dd_quick.proofs.Plays.{count-own, place-push, whoever}
use Rattle.dd_quick.proofs.Sound.{in-left, in-right, joint-sure, own-side, partners-side, rank-joint}
use Rattle.dd_rank.proofs.CallerLemmas.{count-le}

-- y's trump is below none but the highest, in the hand before it
pub record CanGuard (o : Board) (y : Seat) (u : Suit) (hi lo : PlayingCard) : Type 0 where
  pub valid : IsBoard o
  pub lo_suit : lo.suit ≡ u
  pub lower : (z : Seat) (c : PlayingCard) → seat_code z ≢ seat_code y → has_card (cards_at o z) c ≡ true → c.suit ≡ u → (c ≡ hi) ⊎ (c.rank < lo.rank)
  pub lo_own : has_card (cards_at o y) lo ≡ true

module _ (o : Board) (y : Seat) (u : Suit) (hi lo : PlayingCard) (guard : CanGuard o y u hi lo) where
  abbrev s : Side
  s = side_of y

  -- the hand before y's
  abbrev x : Seat
  x = seat_after y 3

  -- the highest trump is still in its hand, and not on the trick, or it is in no hand
  abbrev HiIs : Board → List PlayingCard → Type 0
  HiIs q trick = ((has_card (cards_at q x) hi ≡ true) × (has_card trick hi ≡ false)) ⊎ ((z : Seat) → has_card (cards_at q z) hi ≡ false)

  -- y, at the place i, has not yet played; or it has, and kept its trump; or played it while the highest was still to come
  abbrev YIs : ℕ → Board → List PlayingCard → Type 0
  YIs i q trick = ((length trick ≤ i) × (has_card (cards_at q y) lo ≡ true) × (2 ≤ count_of u (cards_at q y)))
      ⊎ (((i < length trick) × (has_card (cards_at q y) lo ≡ true) × ((2 ≤ count_of u (cards_at q y)) ⊎ ((z : Seat) → has_card (cards_at q z) hi ≡ false)))
      ⊎ ((i < length trick) × (has_card trick lo ≡ true) × (has_card trick hi ≡ false) × (has_card (cards_at q x) hi ≡ true)))

  -- before a trick that another hand leads, or in it
  record IsUnder (i : ℕ) (q : Board) : Type 0 where
    valid : IsBoard q
    same : q.strain ≡ Trump u
    place : (1 ≤ i) × (i < 4) × (y ≡ seat_after q.first i)
    part : (z : Seat) (c : PlayingCard) → has_card (cards_at q z) c ≡ true → has_card (cards_at o z) c ≡ true
    played : (j : ℕ) (d : PlayingCard) → j < length q.trick → has_card (cards_at o (seat_after q.first j)) (get_or q.trick j d) ≡ true
    hi_is : HiIs q q.trick
    y_is : YIs i q q.trick

  -- a card put on a trick that lacks another card
  push-lacks : (trick : List PlayingCard) (c d : PlayingCard) → has_card trick d ≡ false → c ≢ d → has_card (trick ++ c ∷ []) d ≡ false
  push-lacks trick c d none differs = false_from_ne_true (has_card (trick ++ c ∷ []) d) (λ h. elim (in-push trick c d h) [ inl k ↦ (let z : false ≡ true = sym none ∙ k in cc) | inr k ↦ differs k ])

  -- before a trick
  begins : (p : Board) → IsBoard p → p.strain ≡ Trump u → p.trick ≡ [] → ((z : Seat) (c : PlayingCard) → has_card (cards_at p z) c ≡ true → has_card (cards_at o z) c ≡ true) → has_card (cards_at p x) hi ≡ true → has_card (cards_at p y) lo ≡ true → 2 ≤ count_of u (cards_at p y) → p.first ≢ y
      → IsUnder (place-of p.first y).0 p
  begins p valid same start part at mine two away = record {
    valid = valid;
    same = same;
    place = (one (place-of p.first y).0 (place-of p.first y).2, (place-of p.first y).1, (place-of p.first y).2);
    part = part;
    played = λ j d l. absurd (let none : length p.trick ≡ 0 = ap length start in omega (arith, none, l));
    hi_is = inl (at, ap (λ trick. has_card trick hi) start);
    y_is = inl ((let none : length p.trick ≡ 0 = ap length start in omega (arith, none)), mine, two);
  }
    where
      one : (j : ℕ) → y ≡ seat_after p.first j → 1 ≤ j
      one zero e = absurd (away (sym e))
      one (suc j) e = omega arith

  -- ---- a play

  module _ (i : ℕ) (q : Board) (c : PlayingCard) (now : IsUnder i q) (has : IsLegal q c) where
    own : has_card (cards_at q (mover q)) c ≡ true
    own = own-card q c has

    hi-on : HiIs (after q c) (q.trick ++ c ∷ [])
    hi-on = elim now.hi_is [
      | inl at ↦ elim (same-or x (mover q)) [ inl e ↦ by-x at.0 at.1 e (same_card hi c) refl | inr apart ↦ inl (ap (λ cards. has_card cards hi) (hand-others q c x apart) ∙ at.0, push-lacks q.trick c hi at.1 (λ e. one-hand q now.valid x (mover q) hi apart at.0 (subst (λ d. has_card (cards_at q (mover q)) d ≡ true) e own))) ]
      | inr gone ↦ inr (λ z. false_from_ne_true (has_card (cards_at (after q c) z) hi) (λ h. let k : false ≡ true = sym (gone z) ∙ was-in q c now.valid z hi h in cc))
    ]
      where
        by-x : has_card (cards_at q x) hi ≡ true → has_card q.trick hi ≡ false → x ≡ mover q → (b : Bool) → same_card hi c ≡ b → HiIs (after q c) (q.trick ++ c ∷ [])
        by-x at none e true f = inr (λ z. elim (same-or z (mover q)) [
          | inl k ↦ ap (λ w. has_card (cards_at (after q c) w) hi) k ∙ ap (λ cards. has_card cards hi) (hand-own q c now.valid) ∙ has_card-without (cards_at q (mover q)) c hi ∙ ap (λ b. not b && has_card (cards_at q (mover q)) hi) f
          | inr apart ↦ false_from_ne_true (has_card (cards_at (after q c) z) hi) (λ h. one-hand q now.valid z (mover q) hi apart (was-in q c now.valid z hi h) (subst (λ w. has_card (cards_at q w) hi ≡ true) e at))
        ])
        by-x at none e false f = inl (
          ap (λ w. has_card (cards_at (after q c) w) hi) e ∙ ap (λ cards. has_card cards hi) (hand-own q c now.valid) ∙ has_card-without (cards_at q (mover q)) c hi ∙ ap₂ (λ a b. not a && b) f (ap (λ w. has_card (cards_at q w) hi) (sym e) ∙ at),
          push-lacks q.trick c hi none (λ e2. let k : true ≡ false = sym (same_card-self hi) ∙ ap (same_card hi) (sym e2) ∙ f in cc),
        )

    part-on : (z : Seat) (d : PlayingCard) → has_card (cards_at (after q c) z) d ≡ true → has_card (cards_at o z) d ≡ true
    part-on z d h = now.part z d (was-in q c now.valid z d h)

    played-on : (j : ℕ) (d : PlayingCard) → j < length (q.trick ++ c ∷ []) → has_card (cards_at o (seat_after q.first j)) (get_or (q.trick ++ c ∷ []) j d) ≡ true
    played-on j d l = elim (place-push q.trick c d j l) [
      | inl r ↦ ap (has_card (cards_at o (seat_after q.first j))) r.1 ∙ now.played j d r.0
      | inr r ↦ ap₂ (λ k e. has_card (cards_at o (seat_after q.first k)) e) r.0 r.1 ∙ now.part (mover q) c own
    ]

    -- another hand than y's plays
    y-on : seat_code y ≢ seat_code (mover q) → YIs i (after q c) (q.trick ++ c ∷ [])
    y-on apart =
        let long = length-append q.trick (c ∷ []) in
        let same : cards_at (after q c) y ≡ cards_at q y = hand-others q c y apart in
        elim now.y_is [
          | inl w ↦ (
              let less = w.0 in
              let differs : i ≢ length q.trick = λ e. apart (ap seat_code (now.place.2 ∙ ap (seat_after q.first) e)) in
              inl (omega (arith, long, less, differs), ap (λ cards. has_card cards lo) same ∙ w.1, subst (λ cards. 2 ≤ count_of u cards) (sym same) w.2))
          | inr r ↦ elim r [
            | inl k ↦ (let less = k.0 in inr (inl (
              omega (arith, long, less),
              ap (λ cards. has_card cards lo) same ∙ k.1,
              elim k.2 [
                | inl two ↦ inl (subst (λ cards. 2 ≤ count_of u cards) (sym same) two)
                | inr gone ↦ inr (λ z. false_from_ne_true (has_card (cards_at (after q c) z) hi) (λ h. let e : false ≡ true = sym (gone z) ∙ was-in q c now.valid z hi h in cc))
              ],
            )))
            | inr k ↦ (let less = k.0 in
                let other = not-before less in
                let still : cards_at (after q c) x ≡ cards_at q x = hand-others q c x other in
                inr (inr (
                  omega (arith, long, less),
                  in-left q.trick (c ∷ []) lo k.1,
                  push-lacks q.trick c hi k.2 (λ e. one-hand q now.valid x (mover q) hi other k.3 (subst (λ d. has_card (cards_at q (mover q)) d ≡ true) e own)),
                  ap (λ cards. has_card cards hi) still ∙ k.3,
                )))
          ]
        ]
      where
        -- the hand before y's has played
        not-before : i < length q.trick → seat_code x ≢ seat_code (mover q)
        not-before less =
            let a = after-code q.first i in
            let b = after-code q.first (length q.trick) in
            let d = after-code y 3 in
            let e = seat_code-lt q.first in
            let f : seat_code y ≡ seat_code (seat_after q.first i) = ap seat_code now.place.2 in
            let low = now.place.0 in
            let short = now.valid.short in
            λ z. omega (arith, a, b, d, e, f, low, short, less, z)

    -- y plays its trump, where the highest is still in the hand before it
    y-spends : mover q ≡ y → c ≡ lo → i ≡ length q.trick → has_card (cards_at q x) hi ≡ true → has_card q.trick hi ≡ false → YIs i (after q c) (q.trick ++ c ∷ [])
    y-spends turn is here at none =
        let long = length-append q.trick (c ∷ []) in
        let apart : seat_code x ≢ seat_code (mover q) = (let a = after-code y 3 in let b = seat_code-lt y in let e : seat_code (mover q) ≡ seat_code y = ap seat_code turn in λ z. omega (arith, a, b, e, z)) in
        inr (inr (
          omega (arith, long, here),
          ap (λ d. has_card (q.trick ++ c ∷ []) d) (sym is) ∙ in-right q.trick (c ∷ []) c (has-first c []),
          push-lacks q.trick c hi none (λ e. one-hand q now.valid x (mover q) hi apart at (subst (λ d. has_card (cards_at q (mover q)) d ≡ true) e own)),
          ap (λ cards. has_card cards hi) (hand-others q c x apart) ∙ at,
        ))

    -- y plays another card, where the highest is gone or the card is no trump
    y-keeps : mover q ≡ y → i ≡ length q.trick → has_card (cards_at q y) lo ≡ true → same_card lo c ≡ false → ((z : Seat) → has_card (cards_at q z) hi ≡ false) ⊎ ((is_of u c ≡ false) × (2 ≤ count_of u (cards_at q y))) → YIs i (after q c) (q.trick ++ c ∷ [])
    y-keeps turn here mine differs why =
        let long = length-append q.trick (c ∷ []) in
        let there : has_card (cards_at (after q c) y) lo ≡ true = ap (λ w. has_card (cards_at (after q c) w) lo) (sym turn) ∙ ap (λ cards. has_card cards lo) (hand-own q c now.valid) ∙ has_card-without (cards_at q (mover q)) c lo ∙ ap₂ (λ a b. not a && b) differs (ap (λ w. has_card (cards_at q w) lo) turn ∙ mine) in
        inr (inl (
          omega (arith, long, here),
          there,
          elim why [
            | inl gone ↦ inr (λ z. false_from_ne_true (has_card (cards_at (after q c) z) hi) (λ h. let e : false ≡ true = sym (gone z) ∙ was-in q c now.valid z hi h in cc))
            | inr side ↦ inl (subst (λ w. 2 ≤ count_of u (cards_at (after q c) w)) turn (let k = count-own (is_of u) q c now.valid has in let f : flag_of (is_of u c) ≡ 0 = ap flag_of side.0 in let two : 2 ≤ count_of u (cards_at q (mover q)) = subst (λ w. 2 ≤ count_of u (cards_at q w)) (sym turn) side.1 in omega (arith, k, f, two)))
          ],
        ))

  -- ---- y's card

  -- y has a card to play beside its trump
  another : (q : Board) (m : PlayingCard) (tail : List PlayingCard) → IsBoard q → q.trick ≡ m ∷ tail → mover q ≡ y → 2 ≤ count_of u (cards_at q y) → (c : PlayingCard) × IsLegal q c × (same_card lo c ≡ false)
  another q m tail valid led turn two = elim (cases_lt 0 (count (λ c. is_of m.suit c && not (same_card c lo)) (cards_at q y))) [
    | inl l ↦ (
        let c = count-some (λ c. is_of m.suit c && not (same_card c lo)) (cards_at q y) l in
        let suit = suit-of m.suit c.0 (and-left (is_of m.suit c.0) (not (same_card c.0 lo)) c.2) in
        (c.0, legal c.0 (legal-in (m ∷ tail) (cards_at q y) c.0 c.1 (λ e his suits. suit)), differs c.0 (and-right (is_of m.suit c.0) (not (same_card c.0 lo)) c.2)))
    | inr none ↦ (
        let split = count-split (is_of u) (λ c. same_card c lo) (cards_at q y) in
        let least = count-le (λ c. is_of u c && same_card c lo) (λ c. same_card c lo) (cards_at q y) (λ c his e. and-right (is_of u c) (same_card c lo) e) in
        let once : count (λ c. same_card c lo) (cards_at q y) ≤ 1 = once-in q valid y lo in
        let c = count-some (λ c. is_of u c && not (same_card c lo)) (cards_at q y) (omega (arith, split, least, once, two)) in
        (c.0, legal c.0 (legal-in (m ∷ tail) (cards_at q y) c.0 c.1 (λ e his suits. void none c.0 c.1 c.2 e his suits)), differs c.0 (and-right (is_of u c.0) (not (same_card c.0 lo)) c.2)))
  ]
    where
      legal : (d : PlayingCard) → has_card (following (m ∷ tail) (cards_at q y)) d ≡ true → IsLegal q d
      legal d e = ap₂ (λ trick w. has_card (following trick (cards_at q w)) d) led turn ∙ e

      differs : (d : PlayingCard) → not (same_card d lo) ≡ true → same_card lo d ≡ false
      differs d e = false_from_ne_true (same_card lo d) (λ k. let z : true ≡ false = sym (same_card-self lo) ∙ ap (λ a. same_card a lo) (same_card-eq lo d k) ∙ not-true (same_card d lo) e in cc)

      -- where it has none of the suit led but its trump, its other trump may be played
      void : count (λ c. is_of m.suit c && not (same_card c lo)) (cards_at q y) ≤ 0 → (c : PlayingCard) → has_card (cards_at q y) c ≡ true → (is_of u c && not (same_card c lo)) ≡ true → (e : PlayingCard) → has_card (cards_at q y) e ≡ true → e.suit ≡ m.suit → c.suit ≡ m.suit
      void none c his pass e mine suits = go (same_card e lo) refl
        where
          go : (b : Bool) → same_card e lo ≡ b → c.suit ≡ m.suit
          go true k = suit-of u c (and-left (is_of u c) (not (same_card c lo)) pass) ∙ sym guard.lo_suit ∙ ap (λ (d : PlayingCard). d.suit) (sym (same_card-eq e lo k)) ∙ suits
          go false k = absurd (let one = count-has (λ c. is_of m.suit c && not (same_card c lo)) (cards_at q y) e mine (ap₂ (λ a b. a && not b) (of-suit' m.suit e suits) k) in omega (arith, one, none))

  -- y's play, by whether the highest trump is gone and whether its own may be played
  record Plays (i : ℕ) (q : Board) : Type 0 where
    card : PlayingCard
    may : IsLegal q card
    then_is : YIs i (after q card) (q.trick ++ card ∷ [])

  plays : (i : ℕ) (q : Board) (m : PlayingCard) (tail : List PlayingCard) → q.trick ≡ m ∷ tail → (now : IsUnder i q) → mover q ≡ y → i ≡ length q.trick → Plays i q
  plays i q m tail led now turn here = elim now.y_is [
    | inl w ↦ elim now.hi_is [ inl at ↦ with-lo w at (has_card (following (m ∷ tail) (cards_at q y)) lo) refl | inr gone ↦ (let c = another q m tail now.valid led turn w.2 in record { card = c.0; may = c.1; then_is = y-keeps i q c.0 now c.1 turn here w.1 c.2 (inl gone) }) ]
    | inr r ↦ elim r [ inl k ↦ absurd (let less = k.0 in omega (arith, less, here)) | inr k ↦ absurd (let less = k.0 in omega (arith, less, here)) ]
  ]
    where
      Waits : Type 0
      Waits = (length q.trick ≤ i) × (has_card (cards_at q y) lo ≡ true) × (2 ≤ count_of u (cards_at q y))

      legal : (d : PlayingCard) → has_card (following (m ∷ tail) (cards_at q y)) d ≡ true → IsLegal q d
      legal d e = ap₂ (λ trick w. has_card (following trick (cards_at q w)) d) led turn ∙ e

      with-lo : Waits → (has_card (cards_at q x) hi ≡ true) × (has_card q.trick hi ≡ false) → (b : Bool) → has_card (following (m ∷ tail) (cards_at q y)) lo ≡ b → Plays i q
      with-lo w at true e = record { card = lo; may = legal lo e; then_is = y-spends i q lo now (legal lo e) turn refl here at.0 at.1 }
      with-lo w at false e = side (is_of m.suit lo) refl
        where
          side : (b : Bool) → is_of m.suit lo ≡ b → Plays i q
          side true f = absurd (let k : false ≡ true = sym e ∙ legal-in (m ∷ tail) (cards_at q y) lo w.1 (λ d his suits. suit-of m.suit lo f) in cc)
          side false f = elim (cases_lt 0 (count_of m.suit (cards_at q y))) [
            | inl l ↦ (
                let c = count-some (is_of m.suit) (cards_at q y) l in
                let suit = suit-of m.suit c.0 c.2 in
                let may = legal c.0 (legal-in (m ∷ tail) (cards_at q y) c.0 c.1 (λ d his suits. suit)) in
                let plain : is_of u c.0 ≡ false = false_from_ne_true (is_of u c.0) (λ k. let z : true ≡ false = sym (of-suit' m.suit lo (guard.lo_suit ∙ sym (suit-of u c.0 k) ∙ suit)) ∙ f in cc) in
                let other : same_card lo c.0 ≡ false = false_from_ne_true (same_card lo c.0) (λ k. let z : true ≡ false = sym (of-suit' m.suit lo (ap (λ (d : PlayingCard). d.suit) (same_card-eq lo c.0 k) ∙ suit)) ∙ f in cc) in
                record { card = c.0; may = may; then_is = y-keeps i q c.0 now may turn here w.1 other (inr (plain, w.2)) })
            | inr l ↦ absurd (let k : false ≡ true = sym e ∙ legal-in (m ∷ tail) (cards_at q y) lo w.1 (λ d his suits. absurd (let one = count-has (is_of m.suit) (cards_at q y) d his (of-suit' m.suit d suits) in omega (arith, one, l))) in cc)
          ]

  -- ---- the end of a trick

  -- with n cards in the hands its side takes a trick
  abbrev Takes : ℕ → Type 0
  Takes n = (i : ℕ) (q : Board) → cards_left q ≡ n → IsUnder i q → 1 ≤ won s q

  -- where the highest trump is gone, y's is the highest
  is-highest : (z : Board) → IsBoard z → z.strain ≡ Trump u → z.trick ≡ [] → ((v : Seat) (c : PlayingCard) → has_card (cards_at z v) c ≡ true → has_card (cards_at o v) c ≡ true) → has_card (cards_at z y) lo ≡ true → ((v : Seat) → has_card (cards_at z v) hi ≡ false) → 1 ≤ won s z
  is-highest z valid same start part mine gone = joint-sure z y s 1 valid start (own-side y) (partners-side y) (subst (λ k. 1 ≤ joint_trumps k z y) (sym same) (rank-joint u z y lo.rank 1 valid (let a = own_has in let b = long in let d = none 1 (inl refl) in let e = none 3 (inr refl) in omega (arith, a, b, d, e))))
    where
      passes : (is_of u lo && nat_le lo.rank lo.rank) ≡ true
      passes = rw (of-suit' u lo guard.lo_suit, le-leb lo.rank lo.rank (omega arith)) refl

      own_has : 1 ≤ from_rank z y u lo.rank
      own_has = count-has (λ c. is_of u c && nat_le lo.rank c.rank) (cards_at z y) lo mine passes

      long : 1 ≤ count_of u (cards_at z y)
      long = count-has (is_of u) (cards_at z y) lo mine (of-suit' u lo guard.lo_suit)

      none : (j : ℕ) → (j ≡ 1) ⊎ (j ≡ 3) → from_rank z (seat_after y j) u lo.rank ≡ 0
      none j opposed = count-never (λ c. is_of u c && nat_le lo.rank c.rank) (cards_at z (seat_after y j)) (λ c has. false_from_ne_true (is_of u c && nat_le lo.rank c.rank) (λ e.
          let away : seat_code (seat_after y j) ≢ seat_code y = (let a = after-code y j in let b = seat_code-lt y in elim opposed [ inl r ↦ (λ d. omega (arith, a, b, d, r)) | inr r ↦ (λ d. omega (arith, a, b, d, r)) ]) in
          elim (guard.lower (seat_after y j) c away (part (seat_after y j) c has) (suit-of u c (and-left (is_of u c) (nat_le lo.rank c.rank) e))) [
            | inl k ↦ (let f : false ≡ true = sym (gone (seat_after y j)) ∙ ap (has_card (cards_at z (seat_after y j))) (sym k) ∙ has in cc)
            | inr f ↦ (let over = leb-true lo.rank c.rank (and-right (is_of u c) (nat_le lo.rank c.rank) e) in omega (arith, over, f))
          ]))

  -- y's trump on the trick without the highest wins it
  lo-wins : (i : ℕ) (q : Board) (c : PlayingCard) (now : IsUnder i q) (has : IsLegal q c) → completes q ≡ true → has_card (q.trick ++ c ∷ []) lo ≡ true → has_card (q.trick ++ c ∷ []) hi ≡ false → trick_for s q c ≡ 1
  lo-wins i q c now has full on off = ap₂ (λ a b. flag_of (a && b)) full (ap (λ k. is_side s (winner_of (trick_with q c) q.first k)) now.same ∙ ap (is_side s) seat ∙ own-side y)
    where
      top : is_top (Trump u) lo.rank lo ≡ true
      top = rw (of-suit' u lo guard.lo_suit, le-leb lo.rank lo.rank (omega arith)) refl

      best : (winning_place (Trump u) (q.trick ++ c ∷ []) < length (q.trick ++ c ∷ [])) × (is_top (Trump u) lo.rank (get_or (q.trick ++ c ∷ []) (winning_place (Trump u) (q.trick ++ c ∷ [])) c) ≡ true)
      best = top-wins (Trump u) lo.rank (q.trick ++ c ∷ []) lo c (real-trick q c now.valid has) on top

      d : PlayingCard
      d = get_or (q.trick ++ c ∷ []) (winning_place (Trump u) (q.trick ++ c ∷ [])) c

      his : has_card (cards_at o (seat_after q.first (winning_place (Trump u) (q.trick ++ c ∷ [])))) d ≡ true
      his = played-on i q c now has (winning_place (Trump u) (q.trick ++ c ∷ [])) c best.0

      seat : seat_after q.first (winning_place (Trump u) (q.trick ++ c ∷ [])) ≡ y
      seat = elim (same-or (seat_after q.first (winning_place (Trump u) (q.trick ++ c ∷ []))) y) [
        | inl e ↦ e
        | inr apart ↦ absurd (elim (guard.lower (seat_after q.first (winning_place (Trump u) (q.trick ++ c ∷ []))) d apart his (suit-of u d (and-left (is_of u d) (nat_le lo.rank d.rank) best.1))) [
          | inl k ↦ (let f : false ≡ true = sym off ∙ ap (has_card (q.trick ++ c ∷ [])) (sym k) ∙ has-at (q.trick ++ c ∷ []) (winning_place (Trump u) (q.trick ++ c ∷ [])) c best.0 in cc)
          | inr f ↦ (let over = leb-true lo.rank d.rank (and-right (is_of u d) (nat_le lo.rank d.rank) best.1) in omega (arith, over, f))
        ])
      ]

  goes : (n i : ℕ) (q : Board) (c : PlayingCard) → Takes n → cards_left q ≡ suc n → (now : IsUnder i q) → (has : IsLegal q c) → YIs i (after q c) (q.trick ++ c ∷ []) → 1 ≤ won_with s q c
  goes n i q c ih size now has then_is = go (completes q) refl
    where
      z : Board
      z = after q c

      few : cards_left (after q c) + 1 ≡ cards_left q
      few = cards_left-after q c now.valid has

      board : IsBoard (after q c)
      board = (legal-leads q c now.valid has).valid

      long : length (q.trick ++ c ∷ []) ≡ length q.trick + 1
      long = length-append q.trick (c ∷ [])

      go : (b : Bool) → completes q ≡ b → 1 ≤ won_with s q c
      go false e =
          let on = trick-after q c e in
          let f = few in
          let later : 1 ≤ won s (after q c) = ih i (after q c) (omega (arith, f, size)) (record {
            valid = board;
            same = strain-after q c ∙ now.same;
            place = (now.place.0, now.place.1, now.place.2 ∙ ap (λ g. seat_after g i) (sym on.1));
            part = part-on i q c now has;
            played = λ j d l. ap₂ (λ g trick. has_card (cards_at o (seat_after g j)) (get_or trick j d)) on.1 on.0 ∙ played-on i q c now has j d (let k : length (after q c).trick ≡ length (q.trick ++ c ∷ []) = ap length on.0 in omega (arith, l, k));
            hi_is = subst (HiIs (after q c)) (sym on.0) (hi-on i q c now has);
            y_is = subst (YIs i (after q c)) (sym on.0) then_is;
          }) in
          omega (arith, later)
      go true e = elim then_is [
        | inl waits ↦ absurd (let l = long in let three : length q.trick ≡ 3 = eqb-true (length q.trick) 3 e in let a = waits.0 in let b = now.place.1 in omega (arith, l, three, a, b))
        | inr r ↦ elim r [
          | inl kept ↦ elim (hi-on i q c now has) [
            | inr gone ↦ (let later = highest kept.1 gone in omega (arith, later))
            | inl at ↦ elim kept.2 [ inr gone ↦ (let later = highest kept.1 gone in omega (arith, later)) | inl two ↦ by-side (is_side s z.first) refl kept.1 at.0 two ]
          ]
          | inr spent ↦ (let one = lo-wins i q c now has e spent.1 spent.2 in omega (arith, one))
        ]
      ]
        where
          closed : ((after q c).trick ≡ []) × ((after q c).first ≡ winner_of (trick_with q c) q.first q.strain)
          closed = trick-closed q c e

          highest : has_card (cards_at z y) lo ≡ true → ((v : Seat) → has_card (cards_at z v) hi ≡ false) → 1 ≤ won s (after q c)
          highest mine gone = is-highest (after q c) board (strain-after q c ∙ now.same) closed.0 (part-on i q c now has) mine gone

          by-side : (b : Bool) → is_side s z.first ≡ b → has_card (cards_at z y) lo ≡ true → has_card (cards_at z x) hi ≡ true → 2 ≤ count_of u (cards_at z y) → 1 ≤ won_with s q c
          by-side true f mine at two = (let one : trick_for s q c ≡ 1 = ap₂ (λ a b. flag_of (a && b)) e (ap (is_side s) (sym closed.1) ∙ f) in omega (arith, one))
          by-side false f mine at two =
              let k = few in
              let later : 1 ≤ won s (after q c) = ih (place-of (after q c).first y).0 (after q c) (omega (arith, k, size)) (begins (after q c) board (strain-after q c ∙ now.same) closed.0 (part-on i q c now has) at mine two (λ g. let h : false ≡ true = sym f ∙ ap (is_side s) g ∙ own-side y in cc)) in
              omega (arith, later)

  -- so its side takes a trick
  takes : (n : ℕ) → Takes n
  takes zero i q size now = absurd (elim now.y_is [
    | inl w ↦ no-cards w.1
    | inr r ↦ elim r [ inl k ↦ no-cards k.1 | inr k ↦ (let one = count-has (λ c. true) (cards_at q x) hi k.3 refl in let few = length-filter-le (λ c. true) (cards_at q x) in let all = hand-in q x in omega (arith, one, few, all, size)) ]
  ])
    where
      no-cards : has_card (cards_at q y) lo ≡ true → ⊥
      no-cards mine = (let one = count-has (λ c. true) (cards_at q y) lo mine refl in let few = length-filter-le (λ c. true) (cards_at q y) in let all = hand-in q y in omega (arith, one, few, all, size))
  takes (suc n) i q size now = elim (same-or (mover q) y) [
    | inl turn ↦ (
        let here = at turn in
        let led = begun q.trick refl here in
        let play = plays i q led.0 led.1 led.2 now turn here in
        let enough = goes n i q play.card (takes n) size now play.may play.then_is in
        let reach : won_with s q play.card ≤ won s q = can s q play.card now.valid (ap (is_side s) turn ∙ own-side y) play.may in
        omega (arith, enough, reach))
    | inr apart ↦ whoever s q 1 now.valid some (λ c has. goes n i q c (takes n) size now has (y-on i q c now has (λ e. apart (sym e))))
  ]
    where
      some : 1 ≤ tricks_left q
      some = (let four = cards-tricks q now.valid in omega (arith, four, size))

      at : mover q ≡ y → i ≡ length q.trick
      at turn =
          let a = after-code q.first i in
          let b = after-code q.first (length q.trick) in
          let d : seat_code (seat_after q.first (length q.trick)) ≡ seat_code (seat_after q.first i) = ap seat_code (turn ∙ now.place.2) in
          let short = now.valid.short in
          let less = now.place.1 in
          let e = seat_code-lt q.first in
          omega (arith, a, b, d, short, less, e)

      begun : (trick : List PlayingCard) → q.trick ≡ trick → i ≡ length q.trick → (m : PlayingCard) × (tail : List PlayingCard) × (q.trick ≡ m ∷ tail)
      begun [] e here = absurd (let low = now.place.0 in let none : length q.trick ≡ 0 = ap length e in omega (arith, low, none, here))
      begun (m ∷ tail) e here = (m, tail, e)

  -- where that holds at first
  pub guarded-takes : o.strain ≡ Trump u → o.trick ≡ [] → has_card (cards_at o x) hi ≡ true → 2 ≤ count_of u (cards_at o y) → o.first ≢ y → 1 ≤ won (side_of y) o
  guarded-takes same start at two away = takes (cards_left o) (place-of o.first y).0 o refl (begins o guard.valid same start (λ z c h. h) at guard.lo_own two away)
