-- the highest card of each sequence of a hand
use Rattle.std.proofs.Common.{◌≡◌, ℕ, zero, suc, ◌+◌, ◌%◌, ◌^◌, ◌<◌, ◌≤◌, Bool, true, false, refl, sym, ap, ◌∙◌, arith, List, [], ◌∷◌, inl, inr, eq-eqb, bit_and, w64}
use Rattle.std.specs.Prelude.{filter, ◌&&◌, ◌||◌, nat_lt, nat_le}
use Rattle.std.specs.List.{list_any}
use Rattle.std.specs.Int.{bit_not}
use mathlib.Core.Bool.{not}
use Rattle.std.proofs.lemmas.Bool.{eqb-true, ltb-true, leb-true, and_from, or_left, or_right, or_cases, not-true, not_from_false, false_from_ne_true}
use Rattle.std.proofs.lemmas.Bool.Decides.{eqb_tells, nat_tests}
use Rattle.dd_cards.specs.declared.suit.Suit.{Suit}
use Rattle.dd_cards.specs.Suits.{suit_code, suit_shift}
use Rattle.dd_cards.specs.PlayingCard.{PlayingCard}
use Rattle.dd_cards.specs.Ranks.{IsRank}
use Rattle.dd_cards.specs.Cards.{is_of, card_of, same_card, deck, has_card, place_of}
use Rattle.dd_cards.specs.HandMasks.{in_hand, cards_of, IsHandMask}
use Rattle.dd_cards.specs.Sequences.{is_above, is_headed, heads}
use Rattle.dd_cards.proofs.CardLists.{suit_code-lt, suit_code-injective, same_card-eq}
use Rattle.dd_cards.proofs.HandLists.{filter-deck, has_card-cards_of, place_of-lt}
use Rattle.dd_cards.proofs.SetLaws.{same_card-self}
use Rattle.dd_cards.proofs.Unions.{cards-real}
use Rattle.dd_cards.proofs.General.{and-left, and-right, both-ways, filter-filter}
use Rattle.dd_cards.proofs.Sequences.{is_set, reaches, set-and, set-not}

-- the bits of all cards
abbrev pub pack : ℕ
pack = 9222386859403673596

-- the bits of all cards but these
abbrev pub free_of : ℕ → ℕ
free_of n = bit_and pack (bit_not w64 n)

all_below : (ℕ → Bool) → ℕ → Bool
all_below p zero = true
all_below p (suc n) = p n && all_below p n

all_below-at : (p : ℕ → Bool) (n i : ℕ) → all_below p n ≡ true → i < n → p i ≡ true
unfolding all_below
all_below-at p zero i all h = absurd (omega arith)
all_below-at p (suc n) i all h = elim (eqb_tells i n) [
  | inl same ↦ ap p same.1 ∙ and-left (p n) (all_below p n) all
  | inr other ↦ all_below-at p n i (and-right (p n) (all_below p n) all) (omega (arith, other.1))
]

is_place : ℕ → Bool
is_place i = nat_le 2 (i % 16) && nat_le (i % 16) 14

every-place : all_below (λ i. (not (is_place i) || is_set pack i) && (not (is_set pack i) || is_place i)) 64 ≡ true
unfolding all_below is_place
every-place = refl

place-in : (i : ℕ) → i < 64 → is_place i ≡ true → is_set pack i ≡ true
place-in i h e = go (is_place i) (is_set pack i) e (and-left (not (is_place i) || is_set pack i) (not (is_set pack i) || is_place i) (all_below-at (λ i. (not (is_place i) || is_set pack i) && (not (is_set pack i) || is_place i)) 64 i every-place h))
  where
    go : (a b : Bool) → a ≡ true → (not a || b) ≡ true → b ≡ true
    go true b e h = h
    go false b e h = absurd (cc)

in-place : (i : ℕ) → i < 64 → is_set pack i ≡ true → is_place i ≡ true
in-place i h e = go (is_set pack i) (is_place i) e (and-right (not (is_place i) || is_set pack i) (not (is_set pack i) || is_place i) (all_below-at (λ i. (not (is_place i) || is_set pack i) && (not (is_set pack i) || is_place i)) 64 i every-place h))
  where
    go : (a b : Bool) → a ≡ true → (not a || b) ≡ true → b ≡ true
    go true b e h = h
    go false b e h = absurd (cc)

-- the place of a rank in its suit's lane
rank-at : (s : Suit) (r : ℕ) → r ≤ 15 → ((suit_shift s + r) % 16 ≡ r) × (suit_shift s + r < 64)
rank-at s r h = let k : suit_code s < 4 = suit_code-lt s in (omega (arith, h, k), omega (arith, h, k))

real-place : (s : Suit) (r : ℕ) → IsRank r → is_set pack (suit_shift s + r) ≡ true
unfolding is_place
real-place s r real =
    let at = rank-at s r (omega (arith, real.1)) in
    place-in (suit_shift s + r) at.1 (rw at.0 (and_from (nat_le 2 r) (nat_le r 14) (le-true 2 r real.0) (le-true r 14 real.1)))
  where
    le-true : (a b : ℕ) → a ≤ b → nat_le a b ≡ true
    le-true a b h = grind (arith, nat_tests)

place-real : (s : Suit) (r : ℕ) → r ≤ 15 → is_set pack (suit_shift s + r) ≡ true → IsRank r
unfolding is_place
place-real s r h set =
    let at = rank-at s r h in
    let e : is_place (suit_shift s + r) ≡ true = in-place (suit_shift s + r) at.1 set in
    let low = leb-true 2 ((suit_shift s + r) % 16) (and-left (nat_le 2 ((suit_shift s + r) % 16)) (nat_le ((suit_shift s + r) % 16) 14) e) in
    let high = leb-true ((suit_shift s + r) % 16) 14 (and-right (nat_le 2 ((suit_shift s + r) % 16)) (nat_le ((suit_shift s + r) % 16) 14) e) in
    (omega (arith, low, at.0), omega (arith, high, at.0))

-- a free place is a card's, and not one of these
free-set : (n i : ℕ) → n < 2 ^ 64 → i < 64 → is_set (free_of n) i ≡ (is_set pack i && not (is_set n i))
free-set n i small h = set-and pack (bit_not w64 n) i ∙ ap (λ b. is_set pack i && b) (set-not n i small h)

-- a rank above, of these, with none of the others between
abbrev pub Above : ℕ → ℕ → Suit → ℕ → ℕ → Type 0
Above m n s r q = (r < q) × IsRank q × (is_set m (suit_shift s + q) ≡ true) × ((x : ℕ) → r < x → x < q → is_set n (suit_shift s + x) ≡ false)

-- what is reached is such a rank
found : (m n : ℕ) (s : Suit) (k r : ℕ) → IsHandMask m → n < 2 ^ 64 → IsRank r → reaches (is_set m) (is_set (free_of n)) k (suit_shift s + r) ≡ true → (q : ℕ) × Above m n s r q
unfolding reaches
found m n s zero r valid small real h = absurd (cc)
found m n s (suc k) r valid small real h =
    let next : suit_shift s + r + 1 ≡ suit_shift s + (r + 1) = omega arith in
    let at = rank-at s (r + 1) (let t = real.1 in omega (arith, t)) in
    elim (or_cases (is_set m (suit_shift s + r + 1)) (is_set (free_of n) (suit_shift s + r + 1) && reaches (is_set m) (is_set (free_of n)) k (suit_shift s + r + 1)) h) [
      | inl own ↦ (
          let v = valid (suit_shift s + r + 1) (eqb-true _ _ own) in
          let low = v.1 in
          let high = v.2 in
          (r + 1, (omega arith, (let a = at.0 in let l = real.0 in omega (arith, l), let a = at.0 in omega (arith, high, a, next)), ap (is_set m) (sym next) ∙ own, λ x l u. absurd (omega (arith, l, u)))))
      | inr rest ↦ (
          let here = is_set (free_of n) (suit_shift s + r + 1) in
          let beyond = reaches (is_set m) (is_set (free_of n)) k (suit_shift s + r + 1) in
          let gap : is_set (free_of n) (suit_shift s + (r + 1)) ≡ true = ap (is_set (free_of n)) (sym next) ∙ and-left here beyond rest in
          let far : reaches (is_set m) (is_set (free_of n)) k (suit_shift s + (r + 1)) ≡ true = ap (reaches (is_set m) (is_set (free_of n)) k) (sym next) ∙ and-right here beyond rest in
          let taken = is_set n (suit_shift s + (r + 1)) in
          let both : (is_set pack (suit_shift s + (r + 1)) && not taken) ≡ true = sym (free-set n (suit_shift s + (r + 1)) small at.1) ∙ gap in
          let card : IsRank (r + 1) = place-real s (r + 1) (let t = real.1 in omega (arith, t)) (and-left (is_set pack (suit_shift s + (r + 1))) (not taken) both) in
          let none : is_set n (suit_shift s + (r + 1)) ≡ false = not-true taken (and-right (is_set pack (suit_shift s + (r + 1))) (not taken) both) in
          let later : (q : ℕ) × Above m n s (r + 1) q = found m n s k (r + 1) valid small card far in
          let q : ℕ = later.0 in
          let higher : r + 1 < q = later.1.0 in (
            q,
            (
              omega (arith, higher),
              later.1.1,
              later.1.2,
              λ x l u. elim (eqb_tells x (r + 1)) [
                | inl same ↦ ap (λ y. is_set n (suit_shift s + y)) same.1 ∙ none
                | inr other ↦ later.1.3 x (let o = other.1 in omega (arith, o, l)) u
              ],
            ),
          ))
    ]

-- and such a rank is reached
finds : (m n : ℕ) (s : Suit) (k r q : ℕ) → n < 2 ^ 64 → IsRank r → Above m n s r q → q ≤ r + k → reaches (is_set m) (is_set (free_of n)) k (suit_shift s + r) ≡ true
unfolding reaches
finds m n s zero r q small real above near = absurd (let l = above.0 in omega (arith, l, near))
finds m n s (suc k) r q small real above near =
    let next : suit_shift s + (r + 1) ≡ suit_shift s + r + 1 = omega arith in
    let low = real.0 in
    let l = above.0 in
    let top = above.1.1 in
    elim (eqb_tells q (r + 1)) [
      | inl same ↦ or_left (is_set m (suit_shift s + r + 1)) _ (ap (is_set m) (sym next) ∙ ap (λ y. is_set m (suit_shift s + y)) (sym same.1) ∙ above.2)
      | inr other ↦ (
          let o = other.1 in
          let higher : r + 1 < q = omega (arith, l, o) in
          let card : IsRank (r + 1) = (omega (arith, low), omega (arith, higher, top)) in
          let at = rank-at s (r + 1) (omega (arith, higher, top)) in
          let none : is_set n (suit_shift s + (r + 1)) ≡ false = above.3 (r + 1) (omega arith) higher in
          let rest : reaches (is_set m) (is_set (free_of n)) k (suit_shift s + r + 1) ≡ true =
          ap (reaches (is_set m) (is_set (free_of n)) k) (sym next)
          ∙ finds m n s k (r + 1) q small card (higher, above.1, above.2, λ x a b. above.3 x (omega (arith, a)) b) (omega (arith, near)) in
          let gap : is_set (free_of n) (suit_shift s + r + 1) ≡ true =
          ap (is_set (free_of n)) (sym next) ∙ free-set n (suit_shift s + (r + 1)) small at.1
          ∙ ap (λ b. b && not (is_set n (suit_shift s + (r + 1)))) (real-place s (r + 1) card)
          ∙ ap (λ b. true && not b) none in
          or_right (is_set m (suit_shift s + r + 1)) _ (and_from (is_set (free_of n) (suit_shift s + r + 1)) _ gap rest))
    ]

-- ---- of lists

pub any-of : (t : PlayingCard → Bool) (d : PlayingCard) (cards : List PlayingCard) → has_card cards d ≡ true → t d ≡ true → list_any t cards ≡ true
any-of t d [] has e = absurd (cc)
any-of t d (c ∷ cards) has e = elim (or_cases (same_card c d) (has_card cards d) has) [
  | inl same ↦ or_left (t c) (list_any t cards) (ap t (same_card-eq c d same) ∙ e)
  | inr later ↦ or_right (t c) (list_any t cards) (any-of t d cards later e)
]

pub any-some : (t : PlayingCard → Bool) (cards : List PlayingCard) → list_any t cards ≡ true → (d : PlayingCard) × (has_card cards d ≡ true) × (t d ≡ true)
any-some t [] h = absurd (cc)
any-some t (c ∷ cards) h = elim (or_cases (t c) (list_any t cards) h) [
  | inl here ↦ (c, or_left (same_card c c) (has_card cards c) (same_card-self c), here)
  | inr later ↦ (let d = any-some t cards later in (d.0, or_right (same_card c d.0) (has_card cards d.0) d.1, d.2))
]

above-is : (s : Suit) (r q : ℕ) → r < q → is_above (card_of s r) (card_of s q) ≡ true
above-is s r q h = and_from (is_of s (card_of s q)) (nat_lt r q) (eq-eqb (suit_code s) (suit_code s) refl) (lt r q h)
  where
    lt : (a b : ℕ) → a < b → nat_lt a b ≡ true
    lt a b h = grind (arith, nat_tests)

above-tells : (s : Suit) (r : ℕ) (d : PlayingCard) → is_above (card_of s r) d ≡ true → (d ≡ card_of s d.rank) × (r < d.rank)
above-tells s r d h =
    let suits : d.suit ≡ s = suit_code-injective d.suit s (eqb-true _ _ (and-left _ _ h)) in
    (ap (λ u. card_of u d.rank) suits, ltb-true r d.rank (and-right (is_of s d) _ h))

-- a card of a mask has its bit set
set-of : (m : ℕ) (s : Suit) (r : ℕ) → IsRank r → has_card (cards_of m) (card_of s r) ≡ is_set m (suit_shift s + r)
set-of m s r real = has_card-cards_of m (card_of s r) real

-- a rank is reached exactly where another of these heads it
headed : (m n : ℕ) (s : Suit) (r : ℕ) → IsHandMask m → n < 2 ^ 64 → IsRank r
    → reaches (is_set m) (is_set (free_of n)) 16 (suit_shift s + r) ≡ is_headed (cards_of m) (cards_of n) (card_of s r)
headed m n s r valid small real = both-ways _ _ there back
  where
    c : PlayingCard
    c = card_of s r

    between : PlayingCard → PlayingCard → Bool
    between d e = is_above c e && is_above e d

    test : PlayingCard → Bool
    test d = is_above c d && not (list_any (between d) (cards_of n))

    there : reaches (is_set m) (is_set (free_of n)) 16 (suit_shift s + r) ≡ true → list_any test (cards_of m) ≡ true
    there h =
        let q = found m n s 16 r valid small real h in
        let d : PlayingCard = card_of s q.0 in
        any-of test d (cards_of m) (set-of m s q.0 q.1.1 ∙ q.1.2) (and_from (is_above c d) _ (above-is s r q.0 q.1.0) (not_from_false _ (false_from_ne_true _ (λ some.
        let e = any-some (between d) (cards_of n) some in
        let up = above-tells s r e.0 (and-left (is_above c e.0) (is_above e.0 d) e.2) in
        let down : e.0.rank < q.0 = ltb-true e.0.rank q.0 (and-right _ (nat_lt e.0.rank q.0) (and-right (is_above c e.0) (is_above e.0 d) e.2)) in
        let bit : is_set n (suit_shift s + e.0.rank) ≡ true = sym (set-of n s e.0.rank (cards-real n e.0 e.1)) ∙ ap (has_card (cards_of n)) (sym up.0) ∙ e.1 in
        let none = q.1.3 e.0.rank up.1 down in
        (let no : true ≡ false = sym bit ∙ none in cc)))))

    back : list_any test (cards_of m) ≡ true → reaches (is_set m) (is_set (free_of n)) 16 (suit_shift s + r) ≡ true
    back h =
        let d = any-some test (cards_of m) h in
        let up = above-tells s r d.0 (and-left (is_above c d.0) _ d.2) in
        let rank = cards-real m d.0 d.1 in
        let high = rank.1 in
        let none : list_any (between d.0) (cards_of n) ≡ false = not-true _ (and-right (is_above c d.0) _ d.2) in
        finds m n s 16 r d.0.rank small real (
          up.1,
          rank,
          sym (set-of m s d.0.rank rank) ∙ ap (has_card (cards_of m)) (sym up.0) ∙ d.1,
          λ x a b. false_from_ne_true _ (λ bit.
              let low = real.0 in
              let card : IsRank x = (omega (arith, low, a), omega (arith, high, b)) in
              let there : list_any (between d.0) (cards_of n) ≡ true = any-of (between d.0) (card_of s x) (cards_of n) (set-of n s x card ∙ bit)
              (and_from (is_above c (card_of s x)) _ (above-is s r x a) (ap (is_above (card_of s x)) up.0 ∙ above-is s x d.0.rank b)) in
              (let no : true ≡ false = sym there ∙ none in cc)),
        ) (omega (arith, high))

-- the cards whose bits are set are those that another of `m` heads
abbrev pub AreHeaded : ℕ → ℕ → ℕ → Type 0
AreHeaded m n below = (c : PlayingCard) → IsRank c.rank → in_hand below c ≡ is_headed (cards_of m) (cards_of n) c

-- what is reached from a mask's places is headed by its cards
pub headed-below : (m n below : ℕ) → IsHandMask m → n < 2 ^ 64 → ((i : ℕ) → is_set below i ≡ reaches (is_set m) (is_set (free_of n)) 16 i) → AreHeaded m n below
headed-below m n below valid small same c real = same (place_of c) ∙ headed m n c.suit c.rank valid small real

-- so what is left without these is the highest of each sequence
pub heads-of : (m n below : ℕ) → below < 2 ^ 64 → AreHeaded m n below → cards_of (bit_and m (bit_not w64 below)) ≡ heads (cards_of m) (cards_of n)
unfolding cards_of
heads-of m n below small same =
    filter-deck (in_hand (bit_and m (bit_not w64 below))) (λ c. in_hand m c && not (is_headed (cards_of m) (cards_of n) c)) (λ c real.
    set-and m (bit_not w64 below) (place_of c)
    ∙ ap (λ b. in_hand m c && b) (set-not below (place_of c) small (place_of-lt c real) ∙ ap not (same c real)))
    ∙ sym (filter-filter (λ c. not (is_headed (cards_of m) (cards_of n) c)) (in_hand m) deck)

-- and with these alone the cards that are headed
pub headed-of : (own m n below : ℕ) → AreHeaded m n below → cards_of (bit_and own below) ≡ filter (is_headed (cards_of m) (cards_of n)) (cards_of own)
unfolding cards_of
headed-of own m n below same =
    filter-deck (in_hand (bit_and own below)) (λ c. in_hand own c && is_headed (cards_of m) (cards_of n) c) (λ c real.
    set-and own below (place_of c) ∙ ap (λ b. in_hand own c && b) (same c real))
    ∙ sym (filter-filter (is_headed (cards_of m) (cards_of n)) (in_hand own) deck)

-- the cards of one mask alone
pub cards_of-difference : (m n : ℕ) → n < 2 ^ 64 → cards_of (bit_and m (bit_not w64 n)) ≡ filter (λ c. not (has_card (cards_of n) c)) (cards_of m)
unfolding cards_of
cards_of-difference m n small =
    filter-deck (in_hand (bit_and m (bit_not w64 n))) (λ c. in_hand m c && not (has_card (cards_of n) c)) (λ c real.
    set-and m (bit_not w64 n) (place_of c)
    ∙ ap (λ b. in_hand m c && b) (set-not n (place_of c) small (place_of-lt c real) ∙ ap not (sym (has_card-cards_of n c real))))
    ∙ sym (filter-filter (λ c. not (has_card (cards_of n) c)) (in_hand m) deck)

-- a test that no card of a list passes, at one of them
pub none-at : (test : PlayingCard → Bool) (cards : List PlayingCard) (e : PlayingCard) → list_any test cards ≡ false → has_card cards e ≡ true → test e ≡ false
none-at test [] e none has = absurd (cc)
none-at test (d ∷ cards) e none has = go (same_card d e) (test d) refl refl (none-at test cards e)
  where
    go : (a b : Bool) → same_card d e ≡ a → test d ≡ b → (list_any test cards ≡ false → has_card cards e ≡ true → test e ≡ false) → test e ≡ false
    go a true f g ih = absurd (let no : true ≡ false = rw g at none in cc)
    go true false f g ih = ap test (sym (same_card-eq d e f)) ∙ g
    go false false f g ih = ih (rw g at none) (rw f at has)

-- a card that is there and passes is found
pub any-card : (f : PlayingCard → Bool) (cards : List PlayingCard) (c : PlayingCard) → has_card cards c ≡ true → f c ≡ true → list_any f cards ≡ true
any-card f [] c has h = absurd (cc)
any-card f (d ∷ cards) c has h = go (same_card d c) refl (λ k. any-card f cards c k h) has
  where
    go : (b : Bool) → same_card d c ≡ b → (has_card cards c ≡ true → list_any f cards ≡ true) → (b || has_card cards c) ≡ true → list_any f (d ∷ cards) ≡ true
    go true e ih k = rw (ap f (same_card-eq d c e) ∙ h) refl
    go false e ih k = or_right (f d) _ (ih k)
