-- winning ranks with the rest of the classes that they reach in part
use Rattle.std.proofs.Common.{◌≡◌, ℕ, zero, suc, ◌+◌, ◌-◌, ◌<◌, ◌≤◌, ◌⊎◌, Bool, true, false, refl, sym, ap, ◌∙◌, arith, inl, inr, eq-eqb, List, ◌++◌}
use Rattle.std.specs.Prelude.{filter, nat_lt, ◌||◌, ◌&&◌}
use Rattle.std.specs.List.{list_any}
use mathlib.Core.Bool.{not}
use Rattle.std.proofs.lemmas.Bool.{cases_lt, lt-ltb, ltb-true, and_from, or_left, or_right, or_cases, not-true, not_from_false, false_from_ne_true, true_from_ne_false}
use Rattle.std.proofs.lemmas.List.Folds.{list_any-append}
use Rattle.dd_cards.specs.declared.seat.Seat.{Seat}
use Rattle.dd_cards.specs.declared.seat.Seat.TheVariants.{North, East, South, West}
use Rattle.dd_cards.specs.PlayingCard.{PlayingCard}
use Rattle.dd_cards.specs.Suits.{suit_code}
use Rattle.dd_cards.specs.Ranks.{IsRank}
use Rattle.dd_cards.specs.Cards.{deck, has_card, is_of, same_card}
use Rattle.dd_cards.specs.Hands.{AreHands}
use Rattle.dd_cards.specs.Seats.{seat_after, seat_code}
use Rattle.dd_cards.specs.Sequences.{is_headed, is_above}
use Rattle.dd_cards.proofs.CallerLemmas.{IsSet-deck, IsSet-filter, and-left, and-right, has_card-deck, has_card-filter, real-set, same_card-eq, any-some, times-has, any-card}
use Rattle.dd_play.specs.Board.{Board, IsBoard, cards_at, mover}
use Rattle.dd_play.specs.Play.{legal}
use Rattle.dd_play.specs.Reach.{reach}
use Rattle.dd_play.specs.Simulations.{IsLegal}
use Rattle.dd_play.proofs.CallerLemmas.{filter-has, filter-passes, in-following, legal-in, legal-out, of-suit', reach-some, suit-of, times-hand, above-is, above-suit, above-rank, reach-in, board-hands}
use Rattle.dd_equal.specs.EqualCards.{IsWhole, are_equal, is_between, other_cards, is_top}
use Rattle.dd_relative.specs.Runs.{next_above}
use Rattle.dd_relative.specs.WinningRanks.{AreTop}
use Rattle.dd_relative.proofs.Tops.{obeys-suit}

-- ---- reached cards
-- with each higher one of its suit: what is reached is there
pub top-reach : (cards : List PlayingCard) (c : PlayingCard) → AreTop cards → c.rank ≤ 14 → reach cards c ≡ true → has_card cards c ≡ true
top-reach cards c top high h = (let d = reach-some cards c h in top d.0 c d.1 (sym d.2) d.3 high)

-- ---- cards above others
-- none of these cards is between two
abbrev IsClear : List PlayingCard → PlayingCard → PlayingCard → Type 0
IsClear others c t = (e : PlayingCard) → has_card others e ≡ true → e.suit ≡ c.suit → c.rank < e.rank → e.rank < t.rank → ⊥

headed-by : (cards others : List PlayingCard) (c : PlayingCard) → is_headed cards others c ≡ true
    → (t : PlayingCard) × (has_card cards t ≡ true) × (t.suit ≡ c.suit) × (c.rank < t.rank) × IsClear others c t
headed-by cards others c h =
    let t = any-some (λ d. is_above c d && not (list_any (λ e. is_above c e && is_above e d) others)) cards h in
    let over : is_above c t.0 ≡ true = and-left (is_above c t.0) (not (list_any (λ e. is_above c e && is_above e t.0) others)) t.2 in
    let clear : list_any (λ e. is_above c e && is_above e t.0) others ≡ false = not-true _ (and-right (is_above c t.0) (not (list_any (λ e. is_above c e && is_above e t.0) others)) t.2) in (
      t.0,
      t.1,
      above-suit c t.0 over,
      above-rank c t.0 over,
      λ e has suit low high.
          let yes : list_any (λ x. is_above c x && is_above x t.0) others ≡ true =
          any-card (λ x. is_above c x && is_above x t.0) others e has (and_from (is_above c e) (is_above e t.0) (above-is c e suit low) (above-is e t.0 (above-suit c t.0 over ∙ sym suit) high)) in
          let no : true ≡ false = sym yes ∙ clear in cc,
    )

by-headed : (cards others : List PlayingCard) (c t : PlayingCard) → has_card cards t ≡ true → t.suit ≡ c.suit → c.rank < t.rank → IsClear others c t → is_headed cards others c ≡ true
by-headed cards others c t has suit less clear =
    any-card (λ d. is_above c d && not (list_any (λ e. is_above c e && is_above e d) others)) cards t has
    (and_from (is_above c t) _ (above-is c t suit less) (not_from_false _ (false_from_ne_true _ (λ h.
    let e = any-some (λ x. is_above c x && is_above x t) others h in
    let low = and-left (is_above c e.0) (is_above e.0 t) e.2 in
    let high = and-right (is_above c e.0) (is_above e.0 t) e.2 in
    clear e.0 e.1 (above-suit c e.0 low) (above-rank c e.0 low) (above-rank e.0 t high)))))

-- another seat is not the same
one-on : (m : Seat) → m ≡ seat_after m 1 → ⊥
one-on North e = (let k : seat_code North ≡ seat_code East = ap seat_code e in omega (arith, k))
one-on East e = (let k : seat_code East ≡ seat_code South = ap seat_code e in omega (arith, k))
one-on South e = (let k : seat_code South ≡ seat_code West = ap seat_code e in omega (arith, k))
one-on West e = (let k : seat_code West ≡ seat_code North = ap seat_code e in omega (arith, k))

two-on : (m : Seat) → m ≡ seat_after m 2 → ⊥
two-on North e = (let k : seat_code North ≡ seat_code South = ap seat_code e in omega (arith, k))
two-on East e = (let k : seat_code East ≡ seat_code West = ap seat_code e in omega (arith, k))
two-on South e = (let k : seat_code South ≡ seat_code North = ap seat_code e in omega (arith, k))
two-on West e = (let k : seat_code West ≡ seat_code East = ap seat_code e in omega (arith, k))

three-on : (m : Seat) → m ≡ seat_after m 3 → ⊥
three-on North e = (let k : seat_code North ≡ seat_code West = ap seat_code e in omega (arith, k))
three-on East e = (let k : seat_code East ≡ seat_code North = ap seat_code e in omega (arith, k))
three-on South e = (let k : seat_code South ≡ seat_code East = ap seat_code e in omega (arith, k))
three-on West e = (let k : seat_code West ≡ seat_code South = ap seat_code e in omega (arith, k))

-- a card of the mover's is in no other hand and not on the trick
own-apart : (p : Board) → IsBoard p → (e : PlayingCard) → has_card (cards_at p (mover p)) e ≡ true → has_card (other_cards p) e ≡ true → ⊥
own-apart p valid e mine other = elim (or_cases _ _ (sym (list_any-append test ((a ++ b) ++ c) p.trick) ∙ other)) [
  | inl three ↦ elim (or_cases _ _ (sym (list_any-append test (a ++ b) c) ∙ three)) [
    | inl two ↦ elim (or_cases _ _ (sym (list_any-append test a b) ∙ two)) [
      | inl first ↦ one-on m (hands.disjoint e m (seat_after m 1) mine first)
      | inr second ↦ two-on m (hands.disjoint e m (seat_after m 2) mine second)
    ]
    | inr third ↦ three-on m (hands.disjoint e m (seat_after m 3) mine third)
  ]
  | inr trick ↦ (
      let o = valid.once e in
      let h = times-hand p.hands m e in
      let k = times-has (cards_at p m) e mine in
      let l = times-has p.trick e trick in
      omega (arith, o, h, k, l))
]
  where
    test : PlayingCard → Bool
    test d = same_card d e

    m : Seat
    m = mover p

    a : List PlayingCard
    a = cards_at p (seat_after m 1)

    b : List PlayingCard
    b = cards_at p (seat_after m 2)

    c : List PlayingCard
    c = cards_at p (seat_after m 3)

    hands : AreHands p.hands
    hands = board-hands p valid

-- ---- the cards that join
-- what is made of the winning ranks: `lower` are the legal cards that one of the mover's among the ranks is above, with no other hand's between
pub record IsWidened (p : Board) (own others ranks reached lower : List PlayingCard) : Type 0 where
  pub valid : IsBoard p
  pub mine : own ≡ cards_at p (mover p)
  pub theirs : others ≡ filter (λ c. not (has_card own c)) deck
  pub kept : reached ≡ filter (λ c. not (has_card others c)) ranks
  pub joins : lower ≡ filter (is_headed reached others) (legal p)
  pub top : AreTop ranks
  pub real : (c : PlayingCard) → has_card ranks c ≡ true → IsRank c.rank
  pub there : (c k : PlayingCard) → has_card (cards_at p (mover p)) c ≡ true → k.suit ≡ c.suit → c.rank ≤ k.rank → k.rank ≤ 14
      → (has_card (cards_at p (mover p)) k ≡ true) ⊎ (has_card (other_cards p) k ≡ true)

module _ (p : Board) (own others ranks reached lower : List PlayingCard) (made : IsWidened p own others ranks reached lower) where
  -- both
  abbrev pub widened : List PlayingCard
  widened = filter (λ c. has_card ranks c || has_card lower c) deck

  abbrev hand : List PlayingCard
  hand = cards_at p (mover p)

  legal-own : (c : PlayingCard) → has_card (legal p) c ≡ true → has_card own c ≡ true
  legal-own c h = ap (λ l. has_card l c) made.mine ∙ in-following p.trick hand c h

  own-real : (c : PlayingCard) → has_card own c ≡ true → IsRank c.rank
  own-real c h = real-set hand c (made.valid.sets (mover p)) (ap (λ l. has_card l c) (sym made.mine) ∙ h)

  other-not : (c : PlayingCard) → has_card others c ≡ true → has_card own c ≡ false
  other-not c h = not-true _ (filter-passes (λ x. not (has_card own x)) deck c (ap (λ l. has_card l c) (sym made.theirs) ∙ h))

  else-own : (c : PlayingCard) → IsRank c.rank → (has_card others c ≡ true → ⊥) → has_card own c ≡ true
  else-own c real none = true_from_ne_false _ (λ no. none (ap (λ l. has_card l c) made.theirs ∙ filter-has (λ x. not (has_card own x)) deck c (has_card-deck c real) (not_from_false _ no)))

  is-reached : (c : PlayingCard) → has_card ranks c ≡ true → has_card own c ≡ true → has_card reached c ≡ true
  is-reached c has mine =
      ap (λ l. has_card l c) made.kept ∙ filter-has (λ x. not (has_card others x)) ranks c has (not_from_false _ (false_from_ne_true _ (λ h. let no : true ≡ false = sym mine ∙ other-not c h in cc)))

  reached-rank : (c : PlayingCard) → has_card reached c ≡ true → has_card ranks c ≡ true
  reached-rank c h = and-right _ _ (sym (has_card-filter (λ x. not (has_card others x)) ranks c) ∙ ap (λ l. has_card l c) (sym made.kept) ∙ h)

  lower-legal : (c : PlayingCard) → has_card lower c ≡ true → has_card (legal p) c ≡ true
  lower-legal c h = and-right _ _ (sym (has_card-filter (is_headed reached others) (legal p) c) ∙ ap (λ l. has_card l c) (sym made.joins) ∙ h)

  lower-headed : (c : PlayingCard) → has_card lower c ≡ true → is_headed reached others c ≡ true
  lower-headed c h = filter-passes (is_headed reached others) (legal p) c (ap (λ l. has_card l c) (sym made.joins) ∙ h)

  is-lower : (c : PlayingCard) → has_card (legal p) c ≡ true → is_headed reached others c ≡ true → has_card lower c ≡ true
  is-lower c h head = ap (λ l. has_card l c) made.joins ∙ filter-has (is_headed reached others) (legal p) c h head

  pub in-ranks : (c : PlayingCard) → IsRank c.rank → has_card ranks c ≡ true → has_card widened c ≡ true
  in-ranks c real h = filter-has (λ x. has_card ranks x || has_card lower x) deck c (has_card-deck c real) (or_left _ _ h)

  in-lower : (c : PlayingCard) → IsRank c.rank → has_card lower c ≡ true → has_card widened c ≡ true
  in-lower c real h = filter-has (λ x. has_card ranks x || has_card lower x) deck c (has_card-deck c real) (or_right _ _ h)

  in-one : (c : PlayingCard) → has_card widened c ≡ true → (has_card ranks c ≡ true) ⊎ (has_card lower c ≡ true)
  in-one c h = or_cases _ _ (filter-passes (λ x. has_card ranks x || has_card lower x) deck c h)

  widened-real : (c : PlayingCard) → has_card widened c ≡ true → IsRank c.rank
  widened-real c h = real-set widened c (IsSet-filter (λ x. has_card ranks x || has_card lower x) deck IsSet-deck) h

  reached-own : (c : PlayingCard) → has_card reached c ≡ true → has_card own c ≡ true
  reached-own c h =
      let kept = ap (λ l. has_card l c) (sym made.kept) ∙ h in
      else-own c (made.real c (reached-rank c h)) (λ other. let no : false ≡ true = sym (ap not other) ∙ filter-passes (λ x. not (has_card others x)) ranks c kept in cc)

  -- a card of the suit of a legal one, which the mover has, is legal
  legal-too : (c d : PlayingCard) → has_card (legal p) c ≡ true → d.suit ≡ c.suit → has_card own d ≡ true → has_card (legal p) d ≡ true
  legal-too c d h suit mine =
      legal-in p.trick hand d (ap (λ l. has_card l d) (sym made.mine) ∙ mine) (obeys-suit p.trick hand c d suit (legal-out p.trick hand c h))

  -- both are top cards
  pub widened-top : AreTop widened
  widened-top c d has suit low high = elim (in-one c has) [
    | inl rank ↦ (let there = made.top c d rank suit low high in in-ranks d (real c d has suit low high) there)
    | inr under ↦ (
        let legal_c = lower-legal c under in
        let t = headed-by reached others c (lower-headed c under) in
        let real_c = own-real c (legal-own c legal_c) in
        elim (cases_lt d.rank t.0.rank) [
          | inr over ↦ in-ranks d (real c d has suit low high) (made.top t.0 d (reached-rank t.0 t.1) (suit ∙ sym t.2) over high)
          | inl less ↦ in-lower d (real c d has suit low high) (between c d t.0 legal_c under suit low less t.1 t.2 t.4)
        ])
  ]
    where
      real : (c d : PlayingCard) → has_card widened c ≡ true → d.suit ≡ c.suit → c.rank ≤ d.rank → d.rank ≤ 14 → IsRank d.rank
      real c d has suit low high = (let r = (widened-real c has).0 in (omega (arith, r, low), high))

      between : (c d t : PlayingCard) → has_card (legal p) c ≡ true → has_card lower c ≡ true → d.suit ≡ c.suit → c.rank ≤ d.rank → d.rank < t.rank → has_card reached t ≡ true → t.suit ≡ c.suit
          → IsClear others c t → has_card lower d ≡ true
      between c d t legal_c under suit low less has suits clear = elim (cases_lt c.rank d.rank) [
        | inr same ↦ (
            let e : d ≡ c = same_card-eq d c (and_from _ _ (eq-eqb _ _ (ap suit_code suit)) (eq-eqb _ _ (omega (arith, low, same)))) in
            ap (λ x. has_card lower x) e ∙ under)
        | inl more ↦ (
            let real_c = own-real c (legal-own c legal_c) in
            let real_t = own-real t (reached-own t has) in
            let mine : has_card own d ≡ true = else-own d (omega (arith, real_c.0, more), omega (arith, less, real_t.1)) (λ h. clear d h suit more less) in
            is-lower d (legal-too c d legal_c suit mine) (by-headed reached others d t has (suits ∙ sym suit) less (λ e h es low' high'. clear e h (es ∙ suit) (omega (arith, more, low')) high')))
      ]

  -- with one card of a class, all of it
  pub widened-whole : IsWhole (reach widened) p
  widened-whole t c top legal_c equal h = elim (cases_lt c.rank t.rank) [
    | inr low ↦ reach-in widened c (widened-top t c has_t suit low (own-real c (legal-own c legal_c)).1)
    | inl less ↦ reach-in widened c (in-lower c (own-real c (legal-own c legal_c)) (elim (in-one t has_t) [
      | inl rank ↦ is-lower c legal_c (by-headed reached others c t (is-reached t rank (legal-own t legal_t)) (sym suit) less (clear less))
      | inr under ↦ (let u = headed-by reached others t (lower-headed t under) in
          is-lower c legal_c (by-headed reached others c u.0 u.1 (u.2 ∙ sym suit) (let more = u.3 in omega (arith, less, more)) (farther less u.0 u.4)))
    ]))
  ]
    where
      legal_t : has_card (legal p) t ≡ true
      legal_t = and-right (is_top p t) (has_card (legal p) t) (sym (has_card-filter (is_top p) (legal p) t) ∙ top)

      suit : c.suit ≡ t.suit
      suit = suit-of t.suit c (and-left (is_of t.suit c) (not (list_any (is_between t c) (other_cards p))) equal)

      has_t : has_card widened t ≡ true
      has_t = top-reach widened t widened-top (own-real t (legal-own t legal_t)).1 h

      none : list_any (is_between t c) (other_cards p) ≡ false
      none = not-true (list_any (is_between t c) (other_cards p)) (and-right (is_of t.suit c) (not (list_any (is_between t c) (other_cards p))) equal)

      clear : c.rank < t.rank → IsClear others c t
      clear less e he es low high = elim (made.there c e (ap (λ l. has_card l c) (sym made.mine) ∙ legal-own c legal_c) es (omega (arith, low)) (let r = (own-real t (legal-own t legal_t)).1 in omega (arith, high, r))) [
        | inl mine ↦ (let no : true ≡ false = sym (ap (λ l. has_card l e) made.mine ∙ mine) ∙ other-not e he in cc)
        | inr other ↦ (
            let between : is_between t c e ≡ true = and_from (is_of t.suit e) _ (of-suit' t.suit e (es ∙ suit)) (or_right _ _ (and_from (nat_lt c.rank e.rank) (nat_lt e.rank t.rank) (lt-ltb c.rank e.rank low) (lt-ltb e.rank t.rank high))) in
            let no : true ≡ false = sym (any-card (is_between t c) (other_cards p) e other between) ∙ none in cc)
      ]

      farther : c.rank < t.rank → (u : PlayingCard) → IsClear others t u → IsClear others c u
      farther less u over e he es low high = elim (cases_lt e.rank t.rank) [
        | inl below ↦ clear less e he es low below
        | inr up ↦ elim (cases_lt t.rank e.rank) [
          | inl more ↦ over e he (es ∙ suit) more high
          | inr at ↦ (
              let same : e ≡ t = same_card-eq e t (and_from _ _ (eq-eqb _ _ (ap suit_code (es ∙ suit))) (eq-eqb _ _ (omega (arith, up, at)))) in
              let no : true ≡ false = sym (ap (λ x. has_card own x) same ∙ legal-own t legal_t) ∙ other-not e he in cc)
        ]
      ]

  -- what joined is equal to one of the ranks
  pub widened-only : (c : PlayingCard) → has_card widened c ≡ true
      → (has_card ranks c ≡ true) ⊎ ((t : PlayingCard) × (has_card ranks t ≡ true) × IsLegal p t × IsLegal p c × (are_equal p t c ≡ true))
  widened-only c has = elim (in-one c has) [
    | inl rank ↦ inl rank
    | inr under ↦ (
        let legal_c = lower-legal c under in
        let t = headed-by reached others c (lower-headed c under) in
        let legal_t = legal-too c t.0 legal_c t.2 (reached-own t.0 t.1) in
        inr (
          t.0,
          reached-rank t.0 t.1,
          legal_t,
          legal_c,
          and_from (is_of t.0.suit c) _ (of-suit' t.0.suit c (sym t.2)) (not_from_false _ (false_from_ne_true _ (λ h.
              let e = any-some (is_between t.0 c) (other_cards p) h in
              apart c t.0 e.0 legal_c t.3 t.2 (reached-own t.0 t.1) t.4 e.1 e.2))),
        ))
  ]
    where
      apart : (c t e : PlayingCard) → has_card (legal p) c ≡ true → c.rank < t.rank → t.suit ≡ c.suit → has_card own t ≡ true → IsClear others c t → has_card (other_cards p) e ≡ true → is_between t c e ≡ true → ⊥
      apart c t e legal_c less suits mine_t clear other between =
          let suit : e.suit ≡ t.suit = suit-of t.suit e (and-left (is_of t.suit e) ((nat_lt t.rank e.rank && nat_lt e.rank c.rank) || (nat_lt c.rank e.rank && nat_lt e.rank t.rank)) between) in
          elim (or_cases (nat_lt t.rank e.rank && nat_lt e.rank c.rank) (nat_lt c.rank e.rank && nat_lt e.rank t.rank) (and-right (is_of t.suit e) ((nat_lt t.rank e.rank && nat_lt e.rank c.rank) || (nat_lt c.rank e.rank && nat_lt e.rank t.rank)) between)) [
            | inl over ↦ (
                let a = ltb-true t.rank e.rank (and-left (nat_lt t.rank e.rank) (nat_lt e.rank c.rank) over) in
                let b = ltb-true e.rank c.rank (and-right (nat_lt t.rank e.rank) (nat_lt e.rank c.rank) over) in
                absurd (omega (arith, a, b, less)))
            | inr within ↦ (
                let a = ltb-true c.rank e.rank (and-left (nat_lt c.rank e.rank) (nat_lt e.rank t.rank) within) in
                let b = ltb-true e.rank t.rank (and-right (nat_lt c.rank e.rank) (nat_lt e.rank t.rank) within) in
                let real_c = own-real c (legal-own c legal_c) in
                let real_t = own-real t mine_t in
                let not_mine : has_card own e ≡ false = false_from_ne_true _ (λ h. own-apart p made.valid e (ap (λ l. has_card l e) (sym made.mine) ∙ h) other) in
                clear e (ap (λ l. has_card l e) made.theirs ∙ filter-has (λ x. not (has_card own x)) deck e (has_card-deck e (omega (arith, real_c.0, a), omega (arith, real_t.1, b))) (not_from_false _ not_mine))
                (suit ∙ suits) a b)
          ]

  -- ---- where no class is reached in part
  -- a card with none of the others between it and one that is reached is reached too, step by step
  climb : ((c : PlayingCard) → has_card own c ≡ true → has_card reached (next_above c) ≡ true → has_card reached c ≡ true)
      → (n : ℕ) (c t : PlayingCard) → t.rank ≡ c.rank + suc n → t.suit ≡ c.suit → has_card own c ≡ true → has_card reached t ≡ true → IsClear others c t → has_card reached c ≡ true
  climb none zero c t e suit mine has clear =
      none c mine (ap (λ x. has_card reached x) (same_card-eq (next_above c) t (and_from _ _ (eq-eqb _ _ (ap suit_code (sym suit))) (eq-eqb _ _ (omega (arith, e))))) ∙ has)
  climb none (suc n) c t e suit mine has clear =
      let real_c = own-real c mine in
      let real_t = own-real t (reached-own t has) in
      let next : has_card own (next_above c) ≡ true = else-own (next_above c) (omega (arith, real_c.0), omega (arith, real_t.1, e)) (λ h. clear (next_above c) h refl (omega arith) (omega (arith, e))) in
      none c mine (climb none n (next_above c) t (omega (arith, e)) suit next has (λ x h same low high. clear x h same (omega (arith, low)) high))

  -- so nothing joins
  lower-ranks : ((c : PlayingCard) → has_card own c ≡ true → has_card reached (next_above c) ≡ true → has_card reached c ≡ true) → (c : PlayingCard) → has_card lower c ≡ true → has_card ranks c ≡ true
  lower-ranks none c h =
      let t = headed-by reached others c (lower-headed c h) in
      reached-rank c (climb none (t.0.rank - c.rank - 1) c t.0 (let less = t.3 in omega (arith, less)) t.2 (legal-own c (lower-legal c h)) t.1 t.4)

  -- and the ranks have whole classes
  pub whole-already : ((c : PlayingCard) → has_card own c ≡ true → has_card reached (next_above c) ≡ true → has_card reached c ≡ true) → IsWhole (reach ranks) p
  whole-already none t c top legal_c equal h =
      let legal_t = and-right (is_top p t) (has_card (legal p) t) (sym (has_card-filter (is_top p) (legal p) t) ∙ top) in
      let real_t = own-real t (legal-own t legal_t) in
      let real_c = own-real c (legal-own c legal_c) in
      let wide = widened-whole t c top legal_c equal (reach-in widened t (in-ranks t real_t (top-reach ranks t made.top real_t.1 h))) in
      elim (in-one c (top-reach widened c widened-top real_c.1 wide)) [
        | inl rank ↦ reach-in ranks c rank
        | inr under ↦ reach-in ranks c (lower-ranks none c under)
      ]
