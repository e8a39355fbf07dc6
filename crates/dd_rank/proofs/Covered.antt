-- a cover at depths is an instance of the one relation
use Rattle.std.proofs.Common.{◌≡◌, ℕ, ◌+◌, ◌<◌, ◌≤◌, Bool, true, false, refl, sym, ap, ◌∙◌, subst, arith, List, [], ◌∷◌, ◌++◌, inl, inr, ◌⊎◌, eq-eqb}
use Rattle.std.specs.Prelude.{filter, nat_le, nat_lt, ◌&&◌, ◌==◌}
use mathlib.Core.Path.{ap₂}
use Rattle.std.proofs.lemmas.Bool.{leb-true, lt-ltb, ltb-true, le-ltb, eqb-true, or_cases, false_from_ne_true}
use Rattle.std.proofs.lemmas.Bool.Decides.{nat_tests}
use Rattle.std.proofs.lemmas.List.Folds.{list_any-append}
use Rattle.dd_cards.specs.declared.seat.Seat.{Seat}
use Rattle.dd_cards.specs.declared.seat.Seat.TheVariants.{North, East, South, West}
use Rattle.dd_cards.specs.declared.suit.Suit.{Suit}
use Rattle.dd_cards.specs.PlayingCard.{PlayingCard}
use Rattle.dd_cards.specs.Cards.{is_of, same_card, has_card}
use Rattle.dd_cards.specs.Seats.{seat_after}
use Rattle.dd_cards.proofs.CallerLemmas.{and-left, and-right, any-filter}
use Rattle.dd_cards.specs.Sides.{side_of, is_side}
use Rattle.dd_play.specs.Board.{Board, IsBoard, cards_at}
use Rattle.dd_play.proofs.CallerLemmas.{filter-has, filter-passes, has-first, of-suit', suit-of, unturn, above-is, above-suit, above-rank}
use Rattle.dd_play.specs.Won.{won}
use Rattle.dd_play.specs.Covers.{Keeps, IsOver, AllAnswer, IsCover}
use Rattle.dd_rank.specs.Depths.{all_cards, place, is_within, IsCoverAt, depths_of}
use Rattle.dd_play.specs.Reach.{IsUpward, IsStrict, TakesBy}
use Rattle.dd_rank.proofs.AlikeLead.{met-start, turned-sides}
use Rattle.std.proofs.Common.{◌*◌}
use Rattle.dd_rank.proofs.Places.{count-le, count-lt, place-le, order-place, place-one, in-all}
use Rattle.dd_cards.specs.Sequences.{is_above}

-- one of all cards is in a hand
pub all-in : (p : Board) (c : PlayingCard) → has_card (all_cards p) c ≡ true → (x : Seat) × (has_card (cards_at p x) c ≡ true)
all-in p c h =
    elim (or_cases _ _ (sym (list_any-append test ((n ++ e) ++ s) w) ∙ h)) [
      | inl a ↦ elim (or_cases _ _ (sym (list_any-append test (n ++ e) s) ∙ a)) [
        | inl b ↦ elim (or_cases _ _ (sym (list_any-append test n e) ∙ b)) [ inl i ↦ (North, i) | inr i ↦ (East, i) ]
        | inr i ↦ (South, i)
      ]
      | inr i ↦ (West, i)
    ]
  where
    test : PlayingCard → Bool
    test d = same_card d c

    n : List PlayingCard
    n = cards_at p North

    e : List PlayingCard
    e = cards_at p East

    s : List PlayingCard
    s = cards_at p South

    w : List PlayingCard
    w = cards_at p West

-- the card of the suit at a place, or one lower than all
first_or : List PlayingCard → PlayingCard → PlayingCard
first_or [] d = d
first_or (c ∷ cards) d = c

-- is it the suit's card at this place?
abbrev at_place : Board → Suit → ℕ → PlayingCard → Bool
at_place b u i e = is_of u e && (place b e == i)

-- a card of the suit lower than all
abbrev bottom : Suit → PlayingCard
bottom u = record { suit = u; rank = 0 }

-- the suit's card at this place, or the one lower than all
pub pick : Board → Suit → ℕ → PlayingCard
pick b u i = first_or (filter (at_place b u i) (all_cards b)) (bottom u)

-- a card of the suit that is left, at this place
abbrev Picked : Board → Suit → ℕ → PlayingCard → Type 0
Picked b u i c = (has_card (all_cards b) c ≡ true) × (c.suit ≡ u) × (place b c ≡ i)

-- what is picked stands there, or is the one lower than all
picked : (b : Board) (u : Suit) (i : ℕ) → Picked b u i (pick b u i) ⊎ (pick b u i ≡ bottom u)
unfolding pick first_or
picked b u i = go (filter (at_place b u i) (all_cards b)) refl
  where
    go : (cards : List PlayingCard) → filter (at_place b u i) (all_cards b) ≡ cards → Picked b u i (first_or cards (bottom u)) ⊎ (first_or cards (bottom u) ≡ bottom u)
    go [] e = inr refl
    go (c ∷ cards) e =
        let there : has_card (filter (at_place b u i) (all_cards b)) c ≡ true = ap (λ l. has_card l c) e ∙ has-first c cards in
        let test : at_place b u i c ≡ true = filter-passes (at_place b u i) (all_cards b) c there in
        inl (any-filter (λ y. same_card y c) (at_place b u i) (all_cards b) there, suit-of u c (and-left (is_of u c) (place b c == i) test), eqb-true (place b c) i (and-right (is_of u c) (place b c == i) test))

-- what is picked is of the suit
pub pick-suit : (b : Board) (u : Suit) (i : ℕ) → (pick b u i).suit ≡ u
pick-suit b u i = elim (picked b u i) [ inl h ↦ h.1 | inr e ↦ ap (λ (y : PlayingCard). y.suit) e ]

-- a card at a place is the one that is picked
pub pick-finds : (b : Board) (u : Suit) (i : ℕ) (e : PlayingCard) → has_card (all_cards b) e ≡ true → e.suit ≡ u → place b e ≡ i → pick b u i ≡ e
unfolding pick first_or
pick-finds b u i e has suits at = go (filter (at_place b u i) (all_cards b)) refl
  where
    there : has_card (filter (at_place b u i) (all_cards b)) e ≡ true
    there = filter-has (at_place b u i) (all_cards b) e has (rw (of-suit' u e suits, eq-eqb (place b e) i at) refl)

    go : (cards : List PlayingCard) → filter (at_place b u i) (all_cards b) ≡ cards → first_or cards (bottom u) ≡ e
    go [] f = absurd (let k : false ≡ true = ap (λ l. has_card l e) (sym f) ∙ there in cc)
    go (c ∷ cards) f =
        let found : has_card (filter (at_place b u i) (all_cards b)) c ≡ true = ap (λ l. has_card l c) f ∙ has-first c cards in
        let test : at_place b u i c ≡ true = filter-passes (at_place b u i) (all_cards b) c found in
        let suit : c.suit ≡ u = suit-of u c (and-left (is_of u c) (place b c == i) test) in
        let same : place b c ≡ i = eqb-true (place b c) i (and-right (is_of u c) (place b c == i) test) in
        place-one b e c has (any-filter (λ y. same_card y c) (at_place b u i) (all_cards b) found) (suit ∙ sym suits) (same ∙ sym at)

-- the cards that stand at one place
abbrev pub to_of : Board → Board → PlayingCard → PlayingCard
to_of p q c = pick q c.suit (place p c)

-- top cards of p are those within the depths, and a rank below all is no top card
abbrev pub IsTopOf : (PlayingCard → Bool) → (Suit → ℕ) → Board → Type 0
IsTopOf top depths p = ((c : PlayingCard) → has_card (all_cards p) c ≡ true → top c ≡ is_within depths p c) × ((u : Suit) → top (record { suit = u; rank = 0 }) ≡ false)

-- a cover at depths is the one relation, with the cards within the depths as top cards
pub covers-cover : (top : PlayingCard → Bool) (k : ℕ) (depths : Suit → ℕ) (p q : Board) → IsTopOf top depths p → IsBoard p → IsBoard q → IsCoverAt k depths p q
    → IsCover top k (to_of p q) (to_of q p) (side_of p.first) p (side_of q.first) q × IsStrict top (to_of p q) (to_of q p) p q
covers-cover top k depths p q is_top good_p good_q a = (
  record {
    valid_p = good_p;
    valid_q = good_q;
    sides = λ x. ap (λ y. is_side (side_of y) (seat_after x k)) a.first ∙ turned-sides k x p.first;
    strain = a.strain;
    first = a.first;
    to_suit = λ c. pick-suit q c.suit (place p c);
    from_suit = λ d. pick-suit p d.suit (place q d);
    forth = λ x c h t. (
        let d = a.forth x c h (ltb-true (place p c) (depths c.suit) (tops x c h t)) in
        let e : to c ≡ d.0 = pick-finds q c.suit (place p c) d.0 (in-all q (seat_after x k) d.0 d.1) d.2 d.3 in
        let f : from d.0 ≡ c = pick-finds p d.0.suit (place q d.0) c (in-all p x c h) (sym d.2) (sym d.3) in
        (ap (has_card (cards_at q (seat_after x k))) e ∙ d.1, ap from e ∙ f));
    back = λ x d h t. (
        let c = a.back x d h (ltb-true (place q d) (depths d.suit) (sym (same x d h) ∙ t)) in
        let e : from d ≡ c.0 = pick-finds p d.suit (place q d) c.0 (in-all p x c.0 c.1) c.2 c.3 in
        let f : to c.0 ≡ d = pick-finds q c.0.suit (place p c.0) d (in-all q (seat_after x k) d h) (sym c.2) (sym c.3) in
        (ap (has_card (cards_at p x)) e ∙ c.1, ap to e ∙ f));
    lengths = a.lengths;
    trick = subst (λ cs. AllAnswer to from top cs q.trick) (sym a.start_p) (subst (λ ds. AllAnswer to from top [] ds) (sym a.start_q) tt);
    keeps = met-start p (Keeps to top) a.start_p (λ x y c d n hc hd tc td suits. keeps x y c d hc hd tc td suits);
    over_p = met-start p (IsOver top) a.start_p (λ x y c d n hc hd tc td suits. over p c d (in-all p x c hc) suits (ltb-true _ _ (tops x c hc tc)) (not-lt _ _ (sym (is_top.0 d (in-all p y d hd)) ∙ td)));
    over_q = met-start q (IsOver (λ d. top (from d))) a.start_q (λ x y c d n hc hd tc td suits. over q c d (in-all q x c hc) suits
        (ltb-true _ _ (sym (same' x c hc) ∙ tc)) (not-lt _ _ (sym (same' y d hd) ∙ td)));
  },
  record {
    keeps = λ x c d hc hd tc td suits. keeps x x c d hc hd tc td suits;
    over = λ x c d hc hd tc td suits. over q c d (in-all q x c hc) suits (ltb-true _ _ (sym (same' x c hc) ∙ tc)) (not-lt _ _ (sym (same' x d hd) ∙ td));
  },
)
  where
    to : PlayingCard → PlayingCard
    to c = pick q c.suit (place p c)

    from : PlayingCard → PlayingCard
    from d = pick p d.suit (place q d)

    tops : (x : Seat) (c : PlayingCard) → has_card (cards_at p x) c ≡ true → top c ≡ true → nat_lt (place p c) (depths c.suit) ≡ true
    tops x c h t = sym (is_top.0 c (in-all p x c h)) ∙ t

    not-lt : (m n : ℕ) → nat_lt m n ≡ false → n ≤ m
    not-lt m n h = grind (arith, nat_tests)

    -- top cards of q are those within the depths of q
    same : (x : Seat) (d : PlayingCard) → has_card (cards_at q (seat_after x k)) d ≡ true → top (from d) ≡ nat_lt (place q d) (depths d.suit)
    same x d h = elim (picked p d.suit (place q d)) [
      | inl g ↦ is_top.0 (from d) g.0 ∙ ap₂ nat_lt g.2 (ap depths g.1)
      | inr g ↦ (
          let out : top (from d) ≡ false = ap top g ∙ is_top.1 d.suit in
          out ∙ sym (go (nat_lt (place q d) (depths d.suit)) refl out))
    ]
      where
        go : (b : Bool) → nat_lt (place q d) (depths d.suit) ≡ b → top (from d) ≡ false → nat_lt (place q d) (depths d.suit) ≡ false
        go false e out = e
        go true e out =
            let c = a.back x d h (ltb-true (place q d) (depths d.suit) e) in
            let f : from d ≡ c.0 = pick-finds p d.suit (place q d) c.0 (in-all p x c.0 c.1) c.2 c.3 in
            let i : top (from d) ≡ true = ap top f ∙ is_top.0 c.0 (in-all p x c.0 c.1) ∙ ap₂ nat_lt c.3 (ap depths c.2) ∙ e in
            absurd (let z : false ≡ true = sym out ∙ i in cc)

    same' : (x : Seat) (d : PlayingCard) → has_card (cards_at q x) d ≡ true → top (from d) ≡ nat_lt (place q d) (depths d.suit)
    same' x d h = same (seat_after x (3 * k)) d (ap (λ z. has_card (cards_at q z) d) (unturn x k) ∙ h)

    over : (b : Board) (c d : PlayingCard) → has_card (all_cards b) c ≡ true → c.suit ≡ d.suit → place b c < depths c.suit → depths d.suit ≤ place b d → d.rank < c.rank
    over b c d hc suits low high = above (nat_le c.rank d.rank) refl
      where
        lower : (m n : ℕ) → nat_le m n ≡ false → n < m
        lower m n h = grind (arith, nat_tests)

        above : (v : Bool) → nat_le c.rank d.rank ≡ v → d.rank < c.rank
        above false e = lower c.rank d.rank e
        above true e =
            let l : place b d ≤ place b c = place-le b c d (sym suits) (leb-true _ _ e) in
            let s : depths c.suit ≡ depths d.suit = ap depths suits in
            absurd (omega (arith, l, s, low, high))

    keeps : (x y : Seat) (c d : PlayingCard) → has_card (cards_at p x) c ≡ true → has_card (cards_at p y) d ≡ true → top c ≡ true → top d ≡ true → c.suit ≡ d.suit → nat_le (to c).rank (to d).rank ≡ nat_le c.rank d.rank
    keeps x y c d hc hd tc td suits =
        let e = a.forth x c hc (ltb-true (place p c) (depths c.suit) (tops x c hc tc)) in
        let f = a.forth y d hd (ltb-true (place p d) (depths d.suit) (tops y d hd td)) in
        let m : to c ≡ e.0 = pick-finds q c.suit (place p c) e.0 (in-all q (seat_after x k) e.0 e.1) e.2 e.3 in
        let n : to d ≡ f.0 = pick-finds q d.suit (place p d) f.0 (in-all q (seat_after y k) f.0 f.1) f.2 f.3 in
        ap₂ (λ (u v : PlayingCard). nat_le u.rank v.rank) m n
        ∙ order-place q e.0 f.0 (in-all q (seat_after x k) e.0 e.1) (f.2 ∙ sym suits ∙ sym e.2)
        ∙ ap₂ nat_le f.3 e.3
        ∙ sym (order-place p c d (in-all p x c hc) (sym suits))

-- ---- upward cards, of which none is lower than all ranks
abbrev pub IsLifted : (PlayingCard → Bool) → Type 0
IsLifted top = IsUpward top × ((u : Suit) → top (record { suit = u; rank = 0 }) ≡ false)

-- upward cards are those within their depths
pub lifted-top : (top : PlayingCard → Bool) (p : Board) → IsLifted top → IsTopOf top (depths_of top p) p
lifted-top top p lifted = (λ c has. go c has (top c) refl, lifted.1)
  where
    both : (a b : Bool) → a ≡ true → b ≡ true → (a && b) ≡ true
    both a b h k = rw (h, k) refl

    yes-or : (b : Bool) → (b ≡ false → ⊥) → b ≡ true
    yes-or true h = refl
    yes-or false h = absurd (h refl)

    go : (c : PlayingCard) → has_card (all_cards p) c ≡ true → (b : Bool) → top c ≡ b → top c ≡ nat_lt (place p c) (depths_of top p c.suit)
    go c has true e =
        let k : place p c + 1 ≤ depths_of top p c.suit = count-lt (is_above c) (λ y. is_of c.suit y && top y) (all_cards p)
        (λ y t. both _ _ (of-suit' c.suit y (above-suit c y t)) (yes-or (top y) (λ low. let r = above-rank c y t in let z = lifted.0 c y e low (sym (above-suit c y t)) in omega (arith, r, z))))
        c has (both _ _ (of-suit' c.suit c refl) e) (false_from_ne_true _ (λ t. let r = above-rank c c t in omega (arith, r))) in
        e ∙ sym (lt-ltb _ _ (omega (arith, k)))
    go c has false e =
        let k : depths_of top p c.suit ≤ place p c = count-le (λ y. is_of c.suit y && top y) (is_above c) (all_cards p)
        (λ y h t. let suits : y.suit ≡ c.suit = suit-of c.suit y (and-left (is_of c.suit y) (top y) t) in
        above-is c y suits (lifted.0 y c (and-right (is_of c.suit y) (top y) t) e suits)) in
        e ∙ sym (le-ltb _ _ k)

-- what a search claims at p by top cards holds at every position that p covers at their depths
pub by-covered : (top : PlayingCard → Bool) (k : ℕ) (p q : Board) (n : ℕ) → IsLifted top → IsBoard p → IsBoard q → IsCoverAt k (depths_of top p) p q
    → TakesBy top (side_of p.first) p n → n ≤ won (side_of q.first) q
by-covered top k p q n lifted good_p good_q a takes =
    let r = covers-cover top k (depths_of top p) p q (lifted-top top p lifted) good_p good_q a in
    takes k (to_of p q) (to_of q p) (side_of q.first) q r.0 r.1
