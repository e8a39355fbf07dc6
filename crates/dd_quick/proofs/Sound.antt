-- the quick tricks of a side are no more than the tricks that it takes
use Rattle.std.proofs.Common.{◌≡◌, ◌≢◌, ℕ, zero, suc, ◌+◌, ◌<◌, ◌≤◌, Bool, true, false, refl, sym, ap, ◌∙◌, subst, arith, List, [], ◌∷◌, ◌++◌, length, length-append, inl, inr, min, zero-le}
use Rattle.std.specs.Prelude.{filter, nat_le, nat_lt, ◌&&◌, ◌||◌, ◌==◌, ◌⊎◌}
use mathlib.Core.Bool.{not}
use mathlib.Core.Path.{ap₂}
use Rattle.std.proofs.lemmas.Bool.{leb-true, le-leb, eqb-true, cases_lt, or_right, or_cases, false_from_ne_true}
use Rattle.std.proofs.lemmas.Bool.Decides.{nat_tests}
use Rattle.dd_cards.specs.declared.seat.Seat.{Seat}
use Rattle.dd_cards.specs.declared.seat.Seat.TheVariants.{North, East, South, West}
use Rattle.dd_cards.specs.declared.suit.Suit.{Suit}
use Rattle.dd_cards.specs.declared.strain.Strain.{Strain}
use Rattle.dd_cards.specs.declared.strain.Strain.TheVariants.{Trump, Notrump}
use Rattle.dd_cards.specs.PlayingCard.{PlayingCard}
use Rattle.dd_cards.specs.Cards.{is_of, same_card, card_of, has_card}
use Rattle.dd_cards.specs.Ranks.{all_ranks, has_rank}
use Rattle.dd_cards.specs.Seats.{seat_code, seat_after}
use Rattle.dd_cards.proofs.CallerLemmas.{and-left, and-right, any-filter, length-filter-le, same_card-eq, seat_code-lt, has-all}
use Rattle.dd_cards.specs.Sides.{side_of, other_side, is_side}
use Rattle.dd_cards.specs.declared.side.Side.{Side}
use Rattle.dd_play.specs.Board.{Board, IsBoard, cards_at, tricks_left}
use Rattle.dd_play.specs.Tricks.{is_trump}
use Rattle.dd_play.specs.Covers.{count_of}
use Rattle.dd_play.specs.Won.{won}
use Rattle.dd_play.proofs.CallerLemmas.{after-code, card-real, count, filter-has, filter-passes, flag_of, has-first, in-rest, inject, once-in, suit-of, trump-suit as same-trump}
use Rattle.dd_quick.specs.QuickTricks.{from_rank, greatest, is_winner, is_unbeaten, joint_trumps, length_at, longer_of, run, taken_from, trumps_at}
use Rattle.dd_quick.proofs.Chosen.{count-never, count-same}
use Rattle.dd_quick.proofs.Hands.{IsOpposed, no-higher, none-over, one-hand}
use Rattle.dd_quick.proofs.JointPlans.{is_top, trumps-plain}
use Rattle.dd_quick.proofs.JointTrumps.{around, in_play, joint-taken, place-of}
use Rattle.dd_quick.proofs.Plans.{IsPlan, planned}
use Rattle.dd_quick.proofs.Cashing.{Aims, AllLetCash, IsLater, OnlyTrumps, hand_on, is_plain, no_cards, spare_of, sure_of, total}
use Rattle.dd_rank.proofs.CallerLemmas.{count-le}

-- ---- two lists

-- a card of the first list is one of both
pub in-left : (xs ys : List PlayingCard) (d : PlayingCard) → has_card xs d ≡ true → has_card (xs ++ ys) d ≡ true
in-left [] ys d h = absurd (cc)
in-left (x ∷ xs) ys d h = go (same_card x d) refl (in-left xs ys d)
  where
    go : (b : Bool) → same_card x d ≡ b → (has_card xs d ≡ true → has_card (xs ++ ys) d ≡ true) → has_card (x ∷ xs ++ ys) d ≡ true
    go true e ih = rw e refl
    go false e ih = rw e (ih (rw e at h))

-- a card of the second list is one of both
pub in-right : (xs ys : List PlayingCard) (d : PlayingCard) → has_card ys d ≡ true → has_card (xs ++ ys) d ≡ true
in-right [] ys d h = h
in-right (x ∷ xs) ys d h = in-rest x d (xs ++ ys) (in-right xs ys d h)

-- a card of both is one of either
pub in-either : (xs ys : List PlayingCard) (d : PlayingCard) → has_card (xs ++ ys) d ≡ true → (has_card xs d ≡ true) ⊎ (has_card ys d ≡ true)
in-either [] ys d h = inr h
in-either (x ∷ xs) ys d h = go (same_card x d) refl (in-either xs ys d)
  where
    go : (b : Bool) → same_card x d ≡ b → (has_card (xs ++ ys) d ≡ true → (has_card xs d ≡ true) ⊎ (has_card ys d ≡ true)) → (has_card (x ∷ xs) d ≡ true) ⊎ (has_card ys d ≡ true)
    go true e ih = inl (rw e refl)
    go false e ih = elim (ih (rw e at h)) [ inl k ↦ inl (rw e k) | inr k ↦ inr k ]

-- ---- the lowest of the highest trumps

-- of a list that has some, a card whose number is the lowest
pub lowest : (number : PlayingCard → ℕ) (c : PlayingCard) (cards : List PlayingCard) → (d : PlayingCard) × (has_card (c ∷ cards) d ≡ true) × ((e : PlayingCard) → has_card (c ∷ cards) e ≡ true → number d ≤ number e)
lowest number c [] = (c, has-first c [], λ e h. go e (same_card c e) refl h)
  where
    go : (e : PlayingCard) (b : Bool) → same_card c e ≡ b → has_card (c ∷ []) e ≡ true → number c ≤ number e
    go e true f h = (let k : number c ≡ number e = ap number (same_card-eq c e f) in omega (arith, k))
    go e false f h = absurd (let k : false ≡ true = rw f at h in cc)
lowest number c (x ∷ cards) = pick (lowest number x cards)
  where
    Lowest : PlayingCard → List PlayingCard → Type 0
    Lowest x cards = (d : PlayingCard) × (has_card (x ∷ cards) d ≡ true) × ((e : PlayingCard) → has_card (x ∷ cards) e ≡ true → number d ≤ number e)

    under : (d e : PlayingCard) → number d ≤ number c → ((e : PlayingCard) → has_card (x ∷ cards) e ≡ true → number d ≤ number e) → has_card (c ∷ x ∷ cards) e ≡ true → number d ≤ number e
    under d e first rest h = go (same_card c e) refl
      where
        go : (b : Bool) → same_card c e ≡ b → number d ≤ number e
        go true f = (let k : number c ≡ number e = ap number (same_card-eq c e f) in omega (arith, k, first))
        go false f = rest e (rw f at h)

    pick : Lowest x cards → Lowest c (x ∷ cards)
    pick r = elim (cases_lt (number c) (number r.0)) [
      | inl l ↦ (c, has-first c (x ∷ cards), λ e h. under c e (omega arith) (λ d k. (let m = r.2 d k in omega (arith, l, m))) h)
      | inr l ↦ (r.0, in-rest c r.0 (x ∷ cards) r.1, λ e h. under r.0 e l r.2 h)
    ]

-- ---- sides

-- two places on twice is the seat again
pub round : (a : Seat) → seat_after (seat_after a 2) 2 ≡ a
round North = refl
round East = refl
round South = refl
round West = refl

-- a seat is on its own side
pub own-side : (h : Seat) → is_side (side_of h) h ≡ true
own-side North = refl
own-side East = refl
own-side South = refl
own-side West = refl

-- and so is its partner
pub partners-side : (h : Seat) → is_side (side_of h) (seat_after h 2) ≡ true
partners-side North = refl
partners-side East = refl
partners-side South = refl
partners-side West = refl

-- the next seat and the last are on the other side
pub opponents-side : (h : Seat) → (is_side (other_side (side_of h)) (seat_after h 1) ≡ true) × (is_side (other_side (side_of h)) (seat_after h 3) ≡ true)
opponents-side North = (refl, refl)
opponents-side East = (refl, refl)
opponents-side South = (refl, refl)
opponents-side West = (refl, refl)

-- how many cards of the suit the seat holds that no opponent can beat
abbrev pub unbeaten : Board → Seat → Suit → ℕ
unbeaten p seat suit = count (λ c. is_of suit c && is_unbeaten p seat c) (cards_at p seat)

-- trumps of this rank or a higher one are all of the two seats, and there are as many as no opponent can beat
record IsFloor (strain : Strain) (p : Board) (a b : Seat) (k floor : ℕ) : Type 0 where
  owned : (x : Seat) (c : PlayingCard) → has_card (cards_at p x) c ≡ true → is_top strain floor c ≡ true → (x ≡ a) ⊎ (x ≡ b)
  enough : k ≤ count (is_top strain floor) (cards_at p a) + count (is_top strain floor) (cards_at p b)

-- there is such a rank
floor-of : (t : Suit) (p : Board) (a b : Seat) → IsBoard p → b ≡ seat_after a 2 → (floor : ℕ) × IsFloor (Trump t) p a b (unbeaten p a t + unbeaten p b t) floor
floor-of t p a b valid partner = go (filter (free a) (cards_at p a) ++ filter (free b) (cards_at p b)) refl
  where
    free : Seat → PlayingCard → Bool
    free h c = is_of t c && is_unbeaten p h c

    Found : Type 0
    Found = (floor : ℕ) × IsFloor (Trump t) p a b (unbeaten p a t + unbeaten p b t) floor

    -- the opponents of one are those of the other
    opposed : (x h : Seat) → (h ≡ a) ⊎ (h ≡ b) → ((x ≡ a) ⊎ (x ≡ b)) ⊎ ((i : ℕ) × IsOpposed i × (x ≡ seat_after h i))
    opposed x h mine = by (place-of h x)
      where
        two : (j : ℕ) → x ≡ seat_after h j → (j ≡ 0) ⊎ (j ≡ 2) → (x ≡ a) ⊎ (x ≡ b)
        two j at even = elim mine [
          | inl e ↦ elim even [ inl z ↦ inl (at ∙ ap (seat_after h) z ∙ e) | inr z ↦ inr (at ∙ ap (seat_after h) z ∙ ap (λ y. seat_after y 2) e ∙ sym partner) ]
          | inr e ↦ elim even [ inl z ↦ inr (at ∙ ap (seat_after h) z ∙ e) | inr z ↦ inl (at ∙ ap (seat_after h) z ∙ ap (λ y. seat_after y 2) (e ∙ partner) ∙ round a) ]
        ]

        by : (j : ℕ) × (j < 4) × (x ≡ seat_after h j) → ((x ≡ a) ⊎ (x ≡ b)) ⊎ ((i : ℕ) × IsOpposed i × (x ≡ seat_after h i))
        by (zero, l, at) = inl (two 0 at (inl refl))
        by (suc zero, l, at) = inr (1, inl refl, at)
        by (suc (suc zero), l, at) = inl (two 2 at (inr refl))
        by (suc (suc (suc zero)), l, at) = inr (3, inr refl, at)
        by (suc (suc (suc (suc j))), l, at) = absurd (omega (arith, l))

    go : (cards : List PlayingCard) → filter (free a) (cards_at p a) ++ filter (free b) (cards_at p b) ≡ cards → Found
    go [] e = (
      15,
      record {
        owned = λ x c has top. absurd (let real = (card-real p x c valid has).1 in let high : 15 ≤ c.rank = leb-true 15 c.rank (and-right (is_of t c) (nat_le 15 c.rank) top) in omega (arith, real, high));
        enough = (let none : length (filter (free a) (cards_at p a) ++ filter (free b) (cards_at p b)) ≡ 0 = ap length e in let all = length-append (filter (free a) (cards_at p a)) (filter (free b) (cards_at p b)) in omega (arith, none, all));
      },
    )
    go (c ∷ cards) e = (floor, record { owned = owned; enough = (let x = counted a (λ d h. in-left (filter (free a) (cards_at p a)) (filter (free b) (cards_at p b)) d h) in let y = counted b (λ d h. in-right (filter (free a) (cards_at p a)) (filter (free b) (cards_at p b)) d h) in omega (arith, x, y)) })
      where
        low : (d : PlayingCard) × (has_card (c ∷ cards) d ≡ true) × ((e : PlayingCard) → has_card (c ∷ cards) e ≡ true → d.rank ≤ e.rank)
        low = lowest (λ (y : PlayingCard). y.rank) c cards

        floor : ℕ
        floor = low.0.rank

        Holder : Type 0
        Holder = (h : Seat) × ((h ≡ a) ⊎ (h ≡ b)) × (has_card (filter (free h) (cards_at p h)) low.0 ≡ true)

        holder : Holder
        holder = elim (in-either (filter (free a) (cards_at p a)) (filter (free b) (cards_at p b)) low.0 (ap (λ cards. has_card cards low.0) e ∙ low.1)) [ inl k ↦ (a, inl refl, k) | inr k ↦ (b, inr refl, k) ]

        passes : free holder.0 low.0 ≡ true
        passes = filter-passes (free holder.0) (cards_at p holder.0) low.0 holder.2

        own : has_card (cards_at p holder.0) low.0 ≡ true
        own = any-filter (λ y. same_card y low.0) (free holder.0) (cards_at p holder.0) holder.2

        owned : (x : Seat) (d : PlayingCard) → has_card (cards_at p x) d ≡ true → is_top (Trump t) floor d ≡ true → (x ≡ a) ⊎ (x ≡ b)
        owned x d has top = elim (opposed x holder.0 holder.1) [
          | inl e ↦ e
          | inr r ↦ absurd (
              let suits : d.suit ≡ low.0.suit = suit-of t d (and-left (is_of t d) (nat_le floor d.rank) top) ∙ sym (suit-of t low.0 (and-left (is_of t low.0) (is_unbeaten p holder.0 low.0) passes)) in
              let under : d.rank < low.0.rank = none-over p valid holder.0 r.0 low.0 d r.1 (and-right (is_of t low.0) (is_unbeaten p holder.0 low.0) passes) own (subst (λ y. has_card (cards_at p y) d ≡ true) r.2 has) suits in
              let over : low.0.rank ≤ d.rank = leb-true floor d.rank (and-right (is_of t d) (nat_le floor d.rank) top) in
              omega (arith, under, over))
        ]

        counted : (h : Seat) → ((d : PlayingCard) → has_card (filter (free h) (cards_at p h)) d ≡ true → has_card (filter (free a) (cards_at p a) ++ filter (free b) (cards_at p b)) d ≡ true)
            → unbeaten p h t ≤ count (is_top (Trump t) floor) (cards_at p h)
        counted h inside = count-le (free h) (is_top (Trump t) floor) (cards_at p h) (λ d has high.
            let over : low.0.rank ≤ d.rank = low.2 d (ap (λ cards. has_card cards d) (sym e) ∙ inside d (filter-has (free h) (cards_at p h) d has high)) in
            ap₂ (λ a b. a && b) (and-left (is_of t d) (is_unbeaten p h d) high) (le-leb floor d.rank over))

-- ---- the greatest of the numbers by rank

-- each is no greater
pub in-greatest : (f : ℕ → ℕ) (ranks : List ℕ) (r : ℕ) → has_rank ranks r ≡ true → f r ≤ greatest f ranks
in-greatest f [] r h = absurd (cc)
in-greatest f (q ∷ ranks) r h = go (q == r) refl (in-greatest f ranks r)
  where
    go : (b : Bool) → (q == r) ≡ b → (has_rank ranks r ≡ true → f r ≤ greatest f ranks) → f r ≤ greatest f (q ∷ ranks)
    go true e ih = (let k : f q ≡ f r = ap f (eqb-true q r e) in omega (arith, k))
    go false e ih = (let k = ih (rw e at h) in omega (arith, k))

-- it is one of them, or nothing
pub some-greatest : (f : ℕ → ℕ) (ranks : List ℕ) (n : ℕ) → n ≤ greatest f ranks → (n ≡ 0) ⊎ ((r : ℕ) × (n ≤ f r))
some-greatest f [] n h = inl (omega (arith, h))
some-greatest f (q ∷ ranks) n h = elim (cases_lt (f q) n) [ inl l ↦ some-greatest f ranks n (omega (arith, h, l)) | inr l ↦ inr (q, l) ]

-- it is no greater than what none exceeds
pub greatest-least : (f : ℕ → ℕ) (ranks : List ℕ) (n : ℕ) → ((r : ℕ) → f r ≤ n) → greatest f ranks ≤ n
greatest-least f [] n each = zero-le
greatest-least f (q ∷ ranks) n each = (let a = each q in let b = greatest-least f ranks n each in omega (arith, a, b))

-- ---- joint trumps

-- a side has no more joint trumps than its longer hand has trumps
pub joint-longer : (t : Suit) (p : Board) (a : Seat) → joint_trumps (Trump t) p a ≤ longer_of p a t
joint-longer t p a = greatest-least (taken_from p a t) all_ranks (longer_of p a t) (λ r. omega arith)

-- what the trumps of any rank or higher take are joint trumps
pub rank-joint : (t : Suit) (p : Board) (a : Seat) (r n : ℕ) → IsBoard p → n ≤ taken_from p a t r → n ≤ joint_trumps (Trump t) p a
rank-joint t p a r n valid few = elim (cases_lt r 2) [
  | inl low ↦ (
      let d = at-two a low in
      let e = at-two (seat_after a 2) low in
      let f = at-two (seat_after a 1) low in
      let g = at-two (seat_after a 3) low in
      let k = in-greatest (taken_from p a t) all_ranks 2 (has-all 2 (omega arith, omega arith)) in
      omega (arith, few, d, e, f, g, k))
  | inr l ↦ elim (cases_lt r 15) [
    | inl high ↦ (let k = in-greatest (taken_from p a t) all_ranks r (has-all r (l, omega (arith, high))) in omega (arith, few, k))
    | inr none ↦ (let d = nothing a none in let e = nothing (seat_after a 2) none in omega (arith, few, d, e))
  ]
]
  where
    -- no card is below the two
    at-two : (x : Seat) → r < 2 → from_rank p x t r ≡ from_rank p x t 2
    at-two x low = count-same (λ c. is_of t c && nat_le r c.rank) (λ c. is_of t c && nat_le 2 c.rank) (cards_at p x) (λ c has.
        let real = (card-real p x c valid has).0 in ap (λ b. is_of t c && b) (le-leb r c.rank (omega (arith, low, real)) ∙ sym (le-leb 2 c.rank real)))

    -- nor above the ace
    nothing : (x : Seat) → 15 ≤ r → from_rank p x t r ≡ 0
    nothing x none = count-never (λ c. is_of t c && nat_le r c.rank) (cards_at p x) (λ c has. false_from_ne_true (is_of t c && nat_le r c.rank) (λ e.
        let real = (card-real p x c valid has).1 in let high = leb-true r c.rank (and-right (is_of t c) (nat_le r c.rank) e) in omega (arith, none, real, high)))

-- The cards that no opponent beats are joint trumps, as far as the longer hand has trumps.
pub unbeaten-joint : (t : Suit) (p : Board) (a : Seat) → IsBoard p → min (unbeaten p a t + unbeaten p (seat_after a 2) t) (longer_of p a t) ≤ joint_trumps (Trump t) p a
unbeaten-joint t p a valid =
    let low = floor-of t p a (seat_after a 2) valid refl in
    let enough = low.1.enough in
    let one = nobody low.0 low.1.owned 1 (inl refl) in
    let three = nobody low.0 low.1.owned 3 (inr refl) in
    rank-joint t p a low.0 (min (unbeaten p a t + unbeaten p (seat_after a 2) t) (longer_of p a t)) valid (omega (arith, enough, one, three))
  where
    -- an opponent has none of them
    nobody : (floor : ℕ) → ((x : Seat) (c : PlayingCard) → has_card (cards_at p x) c ≡ true → is_top (Trump t) floor c ≡ true → (x ≡ a) ⊎ (x ≡ seat_after a 2)) → (i : ℕ) → IsOpposed i → from_rank p (seat_after a i) t floor ≡ 0
    nobody floor owned i opposed = count-never (is_top (Trump t) floor) (cards_at p (seat_after a i)) (λ c has. false_from_ne_true (is_top (Trump t) floor c) (λ top.
        let x = after-code a i in
        let y = after-code a 2 in
        let z = seat_code-lt a in
        elim (owned (seat_after a i) c has top) [
          | inl e ↦ (let k : seat_code (seat_after a i) ≡ seat_code a = ap seat_code e in elim opposed [ inl f ↦ omega (arith, x, z, k, f) | inr f ↦ omega (arith, x, z, k, f) ])
          | inr e ↦ (let k : seat_code (seat_after a i) ≡ seat_code (seat_after a 2) = ap seat_code e in elim opposed [ inl f ↦ omega (arith, x, y, z, k, f) | inr f ↦ omega (arith, x, y, z, k, f) ])
        ]))

-- a test of the highest trumps passes trumps alone
tops-only : (strain : Strain) (floor : ℕ) → OnlyTrumps strain (is_top strain floor)
tops-only strain floor c e = ap (λ b. b && nat_le floor c.rank) e

-- The trumps of a rank or higher take their tricks, also later, where the two hands have lost none of their trumps.
module _ (t : Suit) (o q : Board) (a : Seat) (s : Side) (r : ℕ) (valid : IsBoard o) (now : IsBoard q) (same : q.strain ≡ Trump t) (start : q.trick ≡ []) (ours_a : is_side s a ≡ true) (ours_b : is_side s (seat_after a 2) ≡ true)
    (part : (x : Seat) (c : PlayingCard) → has_card (cards_at q x) c ≡ true → has_card (cards_at o x) c ≡ true)
    (mine : (test : PlayingCard → Bool) → OnlyTrumps (Trump t) test → count test (cards_at q a) ≡ count test (cards_at o a))
    (his : (test : PlayingCard → Bool) → OnlyTrumps (Trump t) test → count test (cards_at q (seat_after a 2)) ≡ count test (cards_at o (seat_after a 2))) where
  -- a trump of the rank or higher of an opponent's
  abbrev theirs : PlayingCard → Bool
  theirs c = is_top (Trump t) r c && (has_card (cards_at o (seat_after a 1)) c || has_card (cards_at o (seat_after a 3)) c)

  -- two seats at two places are two
  two-seats : (i j : ℕ) → i < 4 → j < 4 → i ≢ j → seat_code (seat_after a i) ≢ seat_code (seat_after a j)
  two-seats i j l m e = (let x = after-code a i in let y = after-code a j in let z = seat_code-lt a in λ k. omega (arith, x, y, z, k, l, m, e))

  -- the two hands have none of theirs
  not-ours : (i : ℕ) → i < 4 → i ≢ 1 → i ≢ 3 → count theirs (cards_at q (seat_after a i)) ≡ 0
  not-ours i l one three = count-never theirs (cards_at q (seat_after a i)) (λ c has. false_from_ne_true (theirs c) (λ e.
      elim (or_cases (has_card (cards_at o (seat_after a 1)) c) (has_card (cards_at o (seat_after a 3)) c) (and-right (is_top (Trump t) r c) (has_card (cards_at o (seat_after a 1)) c || has_card (cards_at o (seat_after a 3)) c) e)) [
        | inl h ↦ one-hand o valid (seat_after a i) (seat_after a 1) c (two-seats i 1 l (omega arith) one) (part (seat_after a i) c has) h
        | inr h ↦ one-hand o valid (seat_after a i) (seat_after a 3) c (two-seats i 3 l (omega arith) three) (part (seat_after a i) c has) h
      ]))

  -- and the others no more than at first
  no-more : (x : Seat) → count theirs (cards_at q x) ≤ from_rank o x t r
  no-more x = inject (λ c. c) (λ c. c) theirs (is_top (Trump t) r) (cards_at q x) (cards_at o x) (once-in q now x) (λ c has e. (part x c has, and-left (is_top (Trump t) r c) (has_card (cards_at o (seat_after a 1)) c || has_card (cards_at o (seat_after a 3)) c) e, refl))

  their-trumps : in_play theirs q ≤ from_rank o (seat_after a 1) t r + from_rank o (seat_after a 3) t r
  their-trumps =
      let all = around theirs q a in
      let x = not-ours 0 (omega arith) (λ e. omega (arith, e)) (λ e. omega (arith, e)) in
      let y = not-ours 2 (omega arith) (λ e. omega (arith, e)) (λ e. omega (arith, e)) in
      let z = no-more (seat_after a 1) in
      let w = no-more (seat_after a 3) in
      let none : count theirs q.trick ≡ 0 = ap (count theirs) start in
      omega (arith, all, x, y, z, w, none)

  -- the trumps of the rank or higher are the side's and theirs
  owned : (x : Seat) (c : PlayingCard) → has_card (cards_at q x) c ≡ true → is_top (Trump t) r c ≡ true → ((x ≡ a) ⊎ (x ≡ seat_after a 2)) ⊎ (theirs c ≡ true)
  owned x c has top = by (place-of a x)
    where
      both : {b d : Bool} → b ≡ true → d ≡ true → (b && d) ≡ true
      both e f = rw (e, f) refl

      by : (i : ℕ) × (i < 4) × (x ≡ seat_after a i) → ((x ≡ a) ⊎ (x ≡ seat_after a 2)) ⊎ (theirs c ≡ true)
      by (zero, l, e) = inl (inl e)
      by (suc zero, l, e) = inr (both top (ap (λ b. b || has_card (cards_at o (seat_after a 3)) c) (subst (λ y. has_card (cards_at o y) c ≡ true) e (part x c has))))
      by (suc (suc zero), l, e) = inl (inr e)
      by (suc (suc (suc zero)), l, e) = inr (both top (or_right (has_card (cards_at o (seat_after a 1)) c) (has_card (cards_at o (seat_after a 3)) c) (subst (λ y. has_card (cards_at o y) c ≡ true) e (part x c has))))
      by (suc (suc (suc (suc j))), l, e) = absurd (omega (arith, l))

  -- nothing of them is on the trick
  none-played : (i : ℕ) (d : PlayingCard) → i < length q.trick → ⊥
  none-played i d l = (let none : length q.trick ≡ 0 = ap length start in omega (arith, none, l))

  rank-later : (k : ℕ) → k ≤ taken_from o a t r → k ≤ won s q
  rank-later k few = elim (cases_lt 0 k) [
    | inl some ↦ (
        let tops_a = mine (is_top (Trump t) r) (tops-only (Trump t) r) in
        let tops_b = his (is_top (Trump t) r) (tops-only (Trump t) r) in
        let trumps_a = mine (is_trump (Trump t)) (λ c e. e) in
        let trumps_b = his (is_trump (Trump t)) (λ c e. e) in
        let over = their-trumps in
        let apart : seat_code a ≢ seat_code (seat_after a 2) = (let x = after-code a 2 in let y = seat_code-lt a in omega (arith, x, y)) in
        elim (cases_lt (count (is_trump (Trump t)) (cards_at o a)) (count (is_trump (Trump t)) (cards_at o (seat_after a 2)))) [
          | inl l ↦ (
              let taken = joint-taken (Trump t) r (k + (from_rank o (seat_after a 1) t r + from_rank o (seat_after a 3) t r)) theirs (seat_after a 2) a s q ours_b ours_a (λ e. apart (sym e)) (record {
                valid = now;
                same = same;
                held = λ x c has top. elim (owned x c has top) [ inl e ↦ inl (elim e [ inl f ↦ inr f | inr f ↦ inl f ]) | inr e ↦ inr e ];
                played = λ i d l t. absurd (none-played i d l);
              }) start (omega (arith, few, some, tops_a, tops_b)) (omega (arith, few, some, trumps_b, l)) in
              omega (arith, taken, over))
          | inr l ↦ (
              let taken = joint-taken (Trump t) r (k + (from_rank o (seat_after a 1) t r + from_rank o (seat_after a 3) t r)) theirs a (seat_after a 2) s q ours_a ours_b apart (record {
                valid = now;
                same = same;
                held = owned;
                played = λ i d l t. absurd (none-played i d l);
              }) start (omega (arith, few, some, tops_a, tops_b)) (omega (arith, few, some, trumps_a, l)) in
              omega (arith, taken, over))
        ])
    | inr none ↦ omega (arith, none)
  ]

-- Joint trumps take their tricks, also later, where the two hands have lost none of their trumps.
pub joint-later : (strain : Strain) (o q : Board) (a : Seat) (s : Side) (k : ℕ) → IsBoard o → IsBoard q → q.strain ≡ strain → q.trick ≡ [] → is_side s a ≡ true → is_side s (seat_after a 2) ≡ true → k ≤ joint_trumps strain o a
    → ((x : Seat) (c : PlayingCard) → has_card (cards_at q x) c ≡ true → has_card (cards_at o x) c ≡ true)
    → ((test : PlayingCard → Bool) → OnlyTrumps strain test → count test (cards_at q a) ≡ count test (cards_at o a))
    → ((test : PlayingCard → Bool) → OnlyTrumps strain test → count test (cards_at q (seat_after a 2)) ≡ count test (cards_at o (seat_after a 2))) → k ≤ won s q
joint-later Notrump o q a s k valid now same start ours_a ours_b few part mine his = omega (arith, few)
joint-later (Trump t) o q a s k valid now same start ours_a ours_b few part mine his = elim (some-greatest (taken_from o a t) all_ranks k few) [
  | inl none ↦ omega (arith, none)
  | inr r ↦ rank-later t o q a s r.0 valid now same start ours_a ours_b part mine his k r.1
]

-- before a trick, a side takes its joint trumps
pub joint-sure : (p : Board) (a : Seat) (s : Side) (k : ℕ) → IsBoard p → p.trick ≡ [] → is_side s a ≡ true → is_side s (seat_after a 2) ≡ true → k ≤ joint_trumps p.strain p a → k ≤ won s p
joint-sure p a s k valid start ours_a ours_b few = joint-later p.strain p p a s k valid valid refl start ours_a ours_b few (λ x c h. h) (λ test only. refl) (λ test only. refl)

-- ---- the leader's side

-- The leader can cash n cards of each suit, and its side has k joint trumps.
pub record CanTake (p : Board) (n : Suit → ℕ) (k : ℕ) : Type 0 where
  pub held : (u : Suit) → n u ≤ length_at p p.first u
  pub yields : (u : Suit) (i : ℕ) → 1 ≤ i → i < 4 → min (n u) (length_at p (seat_after p.first i) u) ≤ run p p.first u
  pub plain : (u : Suit) → 1 ≤ n u → is_trump p.strain (card_of u 0) ≡ false
  pub follows : (i : ℕ) → IsOpposed i → (trumps_at p.strain p (seat_after p.first i) ≡ 0) ⊎ ((u : Suit) → n u ≤ length_at p (seat_after p.first i) u)
  pub throws : total n + trumps_at p.strain p (seat_after p.first 2) ≤ tricks_left p
  pub joint : k ≤ joint_trumps p.strain p p.first

-- a seat's trumps by the test of a trump
pub trumps-count : (strain : Strain) (p : Board) (x : Seat) → count (is_trump strain) (cards_at p x) ≡ trumps_at strain p x
trumps-count (Trump t) p x = refl
trumps-count Notrump p x = none (cards_at p x)
  where
    none : (cards : List PlayingCard) → count (is_trump Notrump) cards ≡ 0
    none [] = refl
    none (c ∷ cards) = none cards

-- cards that the partner has beside its trumps are no trumps
pub plain-left : (p : Board) (x : ℕ) → IsBoard p → p.trick ≡ [] → x + trumps_at p.strain p (seat_after p.first 2) ≤ tricks_left p → x ≤ count (is_plain p.strain) (hand_on p 2)
plain-left p x valid start few =
    let all = trumps-plain p.strain (hand_on p 2) in
    let trumps = trumps-count p.strain p (seat_after p.first 2) in
    let even = valid.even 2 (omega arith) in
    let flag : flag_of (nat_lt 2 (length p.trick)) ≡ 0 = ap (λ trick. flag_of (nat_lt 2 (length trick))) start in
    omega (arith, all, trumps, even, flag, few)

-- before a trick a hand has no more cards of a suit than tricks are left
pub length-left : (p : Board) (i : ℕ) (u : Suit) → IsBoard p → p.trick ≡ [] → i < 4 → length_at p (seat_after p.first i) u ≤ tricks_left p
length-left p i u valid start less =
    let part = length-filter-le (is_of u) (cards_at p (seat_after p.first i)) in
    let even = valid.even i less in
    let none : length p.trick ≡ 0 = ap length start in
    let flag : flag_of (nat_lt i (length p.trick)) ≡ 0 = ap flag_of (not-under i (length p.trick) none) in
    omega (arith, part, even, flag)
  where
    not-under : (a b : ℕ) → b ≡ 0 → nat_lt a b ≡ false
    not-under a b h = grind (arith, nat_tests)

-- these cards of the leader's are sure, and the partner keeps its trumps
abbrev pub keeping_trumps : Strain → (PlayingCard → Bool) → List PlayingCard → ℕ → Aims
keeping_trumps strain sure own most = record { sure = sure; kept = is_trump strain; low = no_cards; over = λ u. sure_of sure u own; rest = λ u. most; least = no_cards }

-- so the winners of the leader at this position
abbrev pub leaders_aims : Board → Aims
leaders_aims p = keeping_trumps p.strain (is_winner p p.first) (cards_at p p.first) (tricks_left p)

-- of side suits a hand may spare all cards where it keeps its trumps
pub side-spared : (strain : Strain) (n : Suit → ℕ) (hand : List PlayingCard) → ((u : Suit) → 1 ≤ n u → is_trump strain (card_of u 0) ≡ false) → (u : Suit) → min (no_cards u + n u) (count_of u hand) ≤ spare_of (is_trump strain) u hand
side-spared strain n hand plain u = elim (cases_lt 0 (n u)) [
  | inl some ↦ (
      let all : count_of u hand ≤ spare_of (is_trump strain) u hand = count-le (is_of u) (λ c. is_of u c && not (is_trump strain c)) hand
      (λ c has of_u. ap₂ (λ a b. a && not b) of_u (same-trump strain c (card_of u 0) (suit-of u c of_u) ∙ plain u some)) in
      omega (arith, all))
  | inr none ↦ omega (arith, none)
]

-- a hand that is neither the leader's nor its partner's is an opponent's
pub opponent : (i : ℕ) → 1 ≤ i → i < 4 → i ≢ 2 → IsOpposed i
opponent zero l k other = absurd (omega (arith, l))
opponent (suc zero) l k other = inl refl
opponent (suc (suc zero)) l k other = absurd (other refl)
opponent (suc (suc (suc zero))) l k other = inr refl
opponent (suc (suc (suc (suc i)))) l k other = absurd (omega (arith, k))

-- so each hand that does not lead lets these cards be cashed
pub can-let : (p : Board) (n : Suit → ℕ) (k : ℕ) → IsBoard p → p.trick ≡ [] → CanTake p n k → AllLetCash p.strain (leaders_aims p) n p
can-let p n k valid start can i l m = record {
  yields = λ u. (let y = can.yields u i l m in omega (arith, y));
  follows = λ other. elim (can.follows i (opponent i l m other)) [
    | inl none ↦ inl (trumps-count p.strain p (seat_after p.first i) ∙ none)
    | inr each ↦ inr (λ u. (let y = each u in omega (arith, y)))
  ];
  spares = λ two. side-spared p.strain n (hand_on p i) can.plain;
  throws = λ two. subst (λ j. total no_cards + total n ≤ count (is_plain p.strain) (hand_on p j)) (sym two) (let k = plain-left p (total n) valid start can.throws in omega (arith, k));
  leaves = λ other u. (let k = length-left p i u valid start m in omega (arith, k));
}

-- later, where it has lost no trumps, its side still takes its joint trumps
joint-on : (p : Board) (n : Suit → ℕ) (k : ℕ) → IsBoard p → CanTake p n k → (q : Board) → q.trick ≡ [] → IsLater p.strain (leaders_aims p) p (side_of p.first) q → k ≤ won (side_of p.first) q
joint-on p n k valid can q empty later =
    joint-later p.strain p q p.first (side_of p.first) k valid later.valid later.same empty (own-side p.first) (partners-side p.first) can.joint later.part
    (λ test only. ap (λ x. count test (cards_at q x)) (sym later.first) ∙ later.mine test only)
    (λ test only. ap (λ x. count test (cards_at q (seat_after x 2))) (sym later.first) ∙ later.partners test only)

-- so it is a plan to cash them
pub take-plan : (p : Board) (n : Suit → ℕ) (k : ℕ) → IsBoard p → p.trick ≡ [] → CanTake p n k → IsPlan p.strain p (side_of p.first) (leaders_aims p) n k
take-plan p n k valid start can = record {
  masters = λ c own winner x e away his suits. no-higher p valid p.first x c e away winner own his suits;
  begins = record { valid = valid; same = refl; ours = own-side p.first; first = refl; part = λ x c h. h; mine = λ test only. refl; partners = λ test only. refl; trumps = λ c e. e };
  cards = record { held = λ u. (let h = can.held u in omega (arith, h)); tops = λ u. omega arith; plain = λ u c some e. same-trump p.strain c (card_of u 0) e ∙ can.plain u some; most = λ u. (let k = length-left p 0 u valid start (omega arith) in omega (arith, k)) };
  lets = can-let p n k valid start can;
  beyond = λ q r empty later cards lets none. joint-on p n k valid can q empty later;
}

-- and it takes so many tricks
pub can-take : (p : Board) (n : Suit → ℕ) (k : ℕ) → IsBoard p → p.trick ≡ [] → CanTake p n k → total n + k ≤ won (side_of p.first) p
can-take p n k valid start can = planned p.strain p (side_of p.first) (leaders_aims p) n k start (take-plan p n k valid start can)
