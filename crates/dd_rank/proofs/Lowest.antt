-- the set of all cards left, and how many of them are reached
use Rattle.std.proofs.Common.{◌≡◌, ℕ, suc, ◌+◌, ◌<◌, ◌≤◌, Bool, true, false, cond, refl, sym, ap, ◌∙◌, subst, arith, List, [], ◌∷◌, length, inl, inr, ◌⊎◌, Some, eq-eqb, zero-le}
use Rattle.std.specs.Prelude.{unwrap_or, filter, map, slice_get, nat_le, nat_lt, ◌&&◌, ◌||◌}
use mathlib.Core.Path.{ap₂}
use Rattle.std.proofs.lemmas.Bool.{cases_lt, le-leb, leb-true, lt-ltb, ltb-true, le-ltb, and_from, or_cases, false_from_ne_true}
use Rattle.std.proofs.lemmas.Bool.Decides.{nat_tests}
use Rattle.dd_cards.specs.declared.suit.Suit.{Suit}
use Rattle.dd_cards.specs.declared.seat.Seat.{Seat}
use Rattle.dd_cards.specs.declared.seat.Seat.TheVariants.{North, East, South, West}
use Rattle.dd_cards.specs.PlayingCard.{PlayingCard}
use Rattle.dd_cards.specs.Ranks.{IsRank, has_rank}
use Rattle.dd_cards.specs.Cards.{is_of, card_of, same_card, has_card, deck}
use Rattle.dd_cards.specs.Hands.{times, IsSet}
use Rattle.dd_cards.proofs.CallerLemmas.{IsSet-deck, IsSet-filter, and-false, and-left, and-right, same_card-eq, both-ways, filter-filter, filter-map, has_card-deck, has_card-filter, has_rank-holding}
use Rattle.dd_play.specs.Board.{Board, IsBoard, cards_at}
use Rattle.dd_play.specs.Covers.{count_of}
use Rattle.dd_play.specs.Reach.{reach}
use Rattle.dd_play.proofs.CallerLemmas.{card-real, count, filter-has, inject, of-suit', reach-of, reach-some, suit-of}
use Rattle.dd_rank.specs.Depths.{all_cards}
use Rattle.dd_cards.specs.Sequences.{is_above}
use Rattle.dd_rank.proofs.Places.{in-all}
use Rattle.dd_rank.proofs.Covered.{all-in}
use Rattle.std.proofs.lemmas.List.Elements.{filter_agree}

-- two sets of the same cards, each once, count alike
pub same-count : (test : PlayingCard → Bool) (xs ys : List PlayingCard) → ((c : PlayingCard) → times xs c ≤ 1) → ((c : PlayingCard) → times ys c ≤ 1) → ((c : PlayingCard) → has_card xs c ≡ has_card ys c)
    → length (filter test xs) ≡ length (filter test ys)
same-count test xs ys once once' same =
    let a : count test xs ≤ count test ys = inject (λ c. c) (λ c. c) test test xs ys once (λ c h t. (sym (same c) ∙ h, t, refl)) in
    let b : count test ys ≤ count test xs = inject (λ c. c) (λ c. c) test test ys xs once' (λ c h t. (same c ∙ h, t, refl)) in
    omega (arith, a, b)

-- a card of a union is in one of the two
abbrev pub IsUnion : List PlayingCard → List PlayingCard → List PlayingCard → Type 0
IsUnion u x y = u ≡ filter (λ c. has_card x c || has_card y c) deck

-- a card of a union is in one of the two
union-one : (u x y : List PlayingCard) (c : PlayingCard) → IsUnion u x y → has_card u c ≡ true → (has_card x c ≡ true) ⊎ (has_card y c ≡ true)
union-one u x y c e h = go (has_card x c) refl (and-left (has_card x c || has_card y c) (has_card deck c) (sym (has_card-filter (λ c. has_card x c || has_card y c) deck c) ∙ ap (λ l. has_card l c) (sym e) ∙ h))
  where
    go : (b : Bool) → has_card x c ≡ b → (b || has_card y c) ≡ true → (has_card x c ≡ true) ⊎ (has_card y c ≡ true)
    go true f k = inl f
    go false f k = inr k

-- the cards of the first are in the union
union-left : (u x y : List PlayingCard) (c : PlayingCard) → IsUnion u x y → IsRank c.rank → has_card x c ≡ true → has_card u c ≡ true
union-left u x y c e real h = ap (λ l. has_card l c) e ∙ filter-has (λ c. has_card x c || has_card y c) deck c (has_card-deck c real) (rw h refl)

-- .. and so are those of the second
union-right : (u x y : List PlayingCard) (c : PlayingCard) → IsUnion u x y → IsRank c.rank → has_card y c ≡ true → has_card u c ≡ true
union-right u x y c e real h = ap (λ l. has_card l c) e ∙ filter-has (λ c. has_card x c || has_card y c) deck c (has_card-deck c real) (or-yes (has_card x c) (has_card y c) h)
  where
    or-yes : (a b : Bool) → b ≡ true → (a || b) ≡ true
    or-yes true b h = refl
    or-yes false b h = h

-- the union of four hands has the cards of all
pub union-all : (p : Board) (n e s w a b u : List PlayingCard) → IsBoard p → n ≡ cards_at p North → e ≡ cards_at p East → s ≡ cards_at p South → w ≡ cards_at p West
    → IsUnion a n e → IsUnion b a s → IsUnion u b w → IsSet u × ((c : PlayingCard) → has_card u c ≡ has_card (all_cards p) c)
union-all p n e s w a b u valid en ee es ew ea eb eu = (
  subst IsSet (sym eu) (IsSet-filter _ deck IsSet-deck),
  λ c. both-ways (has_card u c) (has_card (all_cards p) c)
      (λ h. elim (union-one u b w c eu h) [
        | inr i ↦ in-all p West c (ap (λ l. has_card l c) (sym ew) ∙ i)
        | inl i ↦ elim (union-one b a s c eb i) [
          | inr j ↦ in-all p South c (ap (λ l. has_card l c) (sym es) ∙ j)
          | inl j ↦ elim (union-one a n e c ea j) [
            | inr k ↦ in-all p East c (ap (λ l. has_card l c) (sym ee) ∙ k)
            | inl k ↦ in-all p North c (ap (λ l. has_card l c) (sym en) ∙ k)
          ]
        ]
      ])
      (λ h. let x = all-in p c h in at c x.0 x.1 (card-real p x.0 c valid x.1)),
)
  where
    at : (c : PlayingCard) (x : Seat) → has_card (cards_at p x) c ≡ true → IsRank c.rank → has_card u c ≡ true
    at c North h real = union-left u b w c eu real (union-left b a s c eb real (union-left a n e c ea real (ap (λ l. has_card l c) en ∙ h)))
    at c East h real = union-left u b w c eu real (union-left b a s c eb real (union-right a n e c ea real (ap (λ l. has_card l c) ee ∙ h)))
    at c South h real = union-left u b w c eu real (union-right b a s c eb real (ap (λ l. has_card l c) es ∙ h))
    at c West h real = union-right u b w c eu real (ap (λ l. has_card l c) ew ∙ h)

-- ---- how many of a suit are reached

-- the ranks of the suit's cards
abbrev pub AreOf : Suit → List ℕ → List PlayingCard → Type 0
AreOf s ranks cards = map (card_of s) ranks ≡ filter (is_of s) cards

-- as many cards as ranks
length-map' : (s : Suit) (xs : List ℕ) → length (map (card_of s) xs) ≡ length xs
length-map' s [] = refl
length-map' s (x ∷ xs) = ap suc (length-map' s xs)

-- the suit's cards that pass a test, by their ranks
pub suit-count : (s : Suit) (ranks : List ℕ) (all : List PlayingCard) (test : PlayingCard → Bool) → AreOf s ranks all → length (filter (λ e. is_of s e && test e) all) ≡ length (filter (λ q. test (card_of s q)) ranks)
suit-count s ranks all test are =
    ap length (sym (filter-filter test (is_of s) all) ∙ ap (filter test) (sym are) ∙ filter-map test (card_of s) ranks) ∙ length-map' s (filter (λ q. test (card_of s q)) ranks)

-- the numbers below a bound and those from it on are all
parts-length : (n : ℕ) (xs : List ℕ) → length (filter (λ q. nat_lt q n) xs) + length (filter (λ q. nat_le n q) xs) ≡ length xs
parts-length n [] = refl
parts-length n (x ∷ xs) = let ih = parts-length n xs in elim (cases_lt x n) [
  | inl low ↦ rw (lt-ltb x n low, not-le n x low) (omega (arith, ih))
  | inr high ↦ rw (le-ltb x n high, le-leb n x high) (omega (arith, ih))
]
  where
    not-le : (a b : ℕ) → b < a → nat_le a b ≡ false
    not-le a b h = grind (arith, nat_tests)

-- none reached
pub depth-none : (s : Suit) (held : List ℕ) (cards all : List PlayingCard) → AreOf s held cards → ((d : PlayingCard) → has_card cards d ≡ true → IsRank d.rank) → ((q : ℕ) → has_rank held q ≡ true → q < 2)
    → 0 ≡ length (filter (λ e. is_of s e && reach cards e) all)
depth-none s held cards all are real none = sym (none-pass all)
  where
    fails : (e : PlayingCard) → (is_of s e && reach cards e) ≡ false
    fails e = false_from_ne_true _ (λ h.
        let suit : e.suit ≡ s = suit-of s e (and-left (is_of s e) (reach cards e) h) in
        let d = reach-some cards e (and-right (is_of s e) (reach cards e) h) in
        let low = (real d.0 d.1).0 in
        let same : d.0 ≡ card_of s d.0.rank = ap (λ (u : Suit). card_of u d.0.rank) (d.2 ∙ suit) in
        let less = none d.0.rank (has_rank-holding s held cards d.0.rank are ∙ ap (has_card cards) (sym same) ∙ d.1) in
        omega (arith, low, less))

    none-pass : (xs : List PlayingCard) → length (filter (λ e. is_of s e && reach cards e) xs) ≡ 0
    none-pass [] = refl
    none-pass (x ∷ xs) = rw (fails x) (none-pass xs)

-- as many as are not below the lowest
pub depth-some : (s : Suit) (held ranks below : List ℕ) (cards all : List PlayingCard) (floor : ℕ) → AreOf s held cards → AreOf s ranks all → ((d : PlayingCard) → has_card cards d ≡ true → IsRank d.rank)
    → has_rank held floor ≡ true → ((q : ℕ) → has_rank held q ≡ true → 2 ≤ q → floor ≤ q) → below ≡ filter (λ q. nat_lt q floor) ranks
    → length below + length (filter (λ e. is_of s e && reach cards e) all) ≡ length ranks
depth-some s held ranks below cards all floor are ranked real low least part =
    ap₂ (λ (n m : ℕ). n + m) (ap length part) (suit-count s ranks all (reach cards) ranked ∙ ap length (filter_agree (λ q. reach cards (card_of s q)) (λ q. nat_le floor q) (λ q. both-ways _ _
    (λ h.
    let d = reach-some cards (card_of s q) h in
    let two = (real d.0 d.1).0 in
    let same : d.0 ≡ card_of s d.0.rank = ap (λ (u : Suit). card_of u d.0.rank) d.2 in
    let l = least d.0.rank (has_rank-holding s held cards d.0.rank are ∙ ap (has_card cards) (sym same) ∙ d.1) two in
    let m = d.3 in
    le-leb floor q (omega (arith, l, m)))
    (λ h. reach-of cards (card_of s floor) (card_of s q) (sym (has_rank-holding s held cards floor are) ∙ low) refl (leb-true floor q h))) ranks))
    ∙ parts-length floor ranks

-- the first rank is there
pub first-there : (xs : List ℕ) (n : ℕ) → Some n ≡ slice_get xs 0 → has_rank xs n ≡ true
first-there [] n e = absurd (cc)
first-there (x ∷ xs) n e = let same : n ≡ x = ap (λ o. unwrap_or o n) e in rw (eq-eqb x n (sym same)) refl

-- of two tests the wider passes more
pub more-pass : {X : Type 0} (few many : X → Bool) (xs : List X) → ((x : X) → few x ≡ true → many x ≡ true) → length (filter few xs) ≤ length (filter many xs)
more-pass few many [] within = zero-le
more-pass few many (x ∷ xs) within = let ih = more-pass few many xs within in go (few x) (many x) refl refl ih
  where
    go : (a b : Bool) → few x ≡ a → many x ≡ b → length (filter few xs) ≤ length (filter many xs) → length (cond a (x ∷ filter few xs) (filter few xs)) ≤ length (cond b (x ∷ filter many xs) (filter many xs))
    go true true e f ih = omega (arith, ih)
    go true false e f ih = absurd (let k : false ≡ true = sym f ∙ within x e in cc)
    go false true e f ih = omega (arith, ih)
    go false false e f ih = ih

-- .. and one more where a card passes it alone
one-more-passes : (few many : PlayingCard → Bool) (xs : List PlayingCard) (c : PlayingCard) → ((x : PlayingCard) → few x ≡ true → many x ≡ true) → has_card xs c ≡ true → few c ≡ false → many c ≡ true → length (filter few xs) + 1 ≤ length (filter many xs)
one-more-passes few many [] c within has out in_ = absurd (cc)
one-more-passes few many (x ∷ xs) c within has out in_ = elim (or_cases (same_card x c) (has_card xs c) has) [
  | inl same ↦ (
      let is : x ≡ c = same_card-eq x c same in
      let m = more-pass few many xs within in
      rw (ap few is ∙ out, ap many is ∙ in_) (omega (arith, m)))
  | inr later ↦ (
      let ih = one-more-passes few many xs c within later out in_ in
      go (few x) (many x) refl refl ih)
]
  where
    go : (a b : Bool) → few x ≡ a → many x ≡ b → length (filter few xs) + 1 ≤ length (filter many xs) → length (cond a (x ∷ filter few xs) (filter few xs)) + 1 ≤ length (cond b (x ∷ filter many xs) (filter many xs))
    go true true e f ih = omega (arith, ih)
    go true false e f ih = absurd (let k : false ≡ true = sym f ∙ within x e in cc)
    go false true e f ih = omega (arith, ih)
    go false false e f ih = ih

-- what a depth picks of a suit: a card with one fewer above it, where there are so many
pub record IsPicked (s : Suit) (all picked : List PlayingCard) (depth : ℕ) : Type 0 where
  pub card : (c : PlayingCard) → has_card picked c ≡ true → (has_card all c ≡ true) × (c.suit ≡ s) × (length (filter (is_above c) all) + 1 ≡ depth)
  pub some : 1 ≤ depth → depth ≤ length (filter (is_of s) all) → (c : PlayingCard) × (has_card picked c ≡ true)

-- with the card of a depth the suit is reached as deep
pub depth-picked : (s : Suit) (all picked cards : List PlayingCard) (depth : ℕ) → IsPicked s all picked depth → depth ≤ count_of s all → ((c : PlayingCard) → has_card picked c ≡ true → has_card cards c ≡ true)
    → depth ≤ length (filter (λ e. is_of s e && reach cards e) all)
depth-picked s all picked cards depth is enough within = elim (cases_lt depth 1) [
  | inl none ↦ omega (arith, none)
  | inr pos ↦ (
      let c = is.some pos enough in
      let x : PlayingCard = c.0 in
      let k = is.card x c.1 in
      let there = within x c.1 in
      let above = λ (e : PlayingCard) (h : is_above x e ≡ true). (
      let suit : e.suit ≡ x.suit = suit-of x.suit e (and-left (is_of x.suit e) (nat_lt x.rank e.rank) h) in
      let less = ltb-true x.rank e.rank (and-right (is_of x.suit e) (nat_lt x.rank e.rank) h) in
      and_from (is_of s e) (reach cards e) (of-suit' s e (suit ∙ k.1)) (reach-of cards x e there (sym suit) (omega (arith, less)))) in
      let itself = and_from (is_of s x) (reach cards x) (of-suit' s x k.1) (reach-of cards x x there refl (omega arith)) in
      let not : is_above x x ≡ false = ap (λ b. is_of x.suit x && b) (le-ltb x.rank x.rank (omega arith)) ∙ sym (and-false (is_of x.suit x)) in
      let m = one-more-passes (is_above x) (λ e. is_of s e && reach cards e) all x above k.0 not itself in
      let n = k.2 in
      omega (arith, m, n))
]

-- as many cards as ranks
pub length-of : (s : Suit) (ranks : List ℕ) (all : List PlayingCard) → AreOf s ranks all → count_of s all ≡ length ranks
length-of s ranks all are = ap length (sym are) ∙ length-map' s ranks
