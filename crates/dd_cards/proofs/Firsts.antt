-- the first card of a hand
use Rattle.std.proofs.Common.{◌≡◌, ◌≢◌, ℕ, ◌+◌, ◌-◌, ◌*◌, ◌/◌, ◌%◌, ◌^◌, ◌<◌, ◌≤◌, Bool, true, false, cond, refl, sym, ap, ◌∙◌, subst, arith, List, [], ◌∷◌, inl, inr, eq-eqb, bit_and, w64, min, lit<}
use Rattle.std.specs.Prelude.{filter, ◌&&◌, nat_lt}
use Rattle.std.specs.List.{list_all}
use Rattle.std.specs.Int.{bit_at, bit_not, leading_zeros}
use Rattle.std.proofs.lemmas.Bool.{eqb-true, ltb-true, cases_lt, and_from}
use Rattle.std.proofs.lemmas.Bool.Decides.{eqb_tells}
use Rattle.std.proofs.lemmas.Nat.{leading_top, shl_whole, pow-add}
use Rattle.std.proofs.lemmas.Nat.Bits.{bit_at-lt, bit_at_and, bit_at_mask_inside, bit_at_mask_below, bit_at_mask_above}
use Rattle.dd_cards.specs.declared.suit.Suit.{Suit}
use Rattle.dd_cards.specs.Suits.{suit_code, suit_shift}
use Rattle.dd_cards.specs.PlayingCard.{PlayingCard}
use Rattle.dd_cards.specs.Cards.{is_of, same_card, deck, has_card, place_of, without}
use Rattle.dd_cards.specs.HandMasks.{in_hand, cards_of, IsHandMask}
use Rattle.dd_cards.specs.Hands.{IsSet}
use Rattle.dd_cards.proofs.CardLists.{suit_from, suit_code-suit_from, suit_code-lt, same_card-eq, has_card-deck}
use Rattle.dd_cards.specs.Ranks.{IsRank}
use Rattle.dd_cards.proofs.HandLists.{passes, filter-deck, cards_of-remove, place_of-lt}
use Rattle.dd_cards.proofs.Masks.{IsHighest, highest_at}
use Rattle.dd_cards.proofs.General.{and-false, and-left, and-right, and-true, filter-filter}

-- the places fall along the list
abbrev pub falls : List PlayingCard → Bool
falls [] = true
falls (c ∷ cards) = list_all (λ d. nat_lt (place_of d) (place_of c)) cards && falls cards

-- the places fall along the deck
pub falls-deck : falls deck ≡ true
unfolding deck Rattle.dd_cards.specs.Cards.suit_cards Rattle.dd_cards.specs.Ranks.all_ranks Rattle.dd_cards.specs.Ranks.lowest_ranks
falls-deck = refl

-- a card at a lower place is another card
pub lower-differs : (d c : PlayingCard) → nat_lt (place_of d) (place_of c) ≡ true → same_card d c ≡ false
lower-differs d c h = go (same_card d c) refl
  where
    go : (b : Bool) → same_card d c ≡ b → b ≡ false
    go true e = absurd (let less : place_of d < place_of c = ltb-true _ _ h in let f : place_of d ≡ place_of c = ap place_of (same_card-eq d c e) in omega arith)
    go false e = refl

-- c is in none of the lower cards
without-lower : (p : PlayingCard → Bool) (c : PlayingCard) (cards : List PlayingCard) → list_all (λ d. nat_lt (place_of d) (place_of c)) cards ≡ true → without (filter p cards) c ≡ filter p cards
without-lower p c [] all = refl
without-lower p c (d ∷ cards) all =
    let later = λ (x : PlayingCard). nat_lt (place_of x) (place_of c) in
    let differs : same_card d c ≡ false = lower-differs d c (and-left (later d) (list_all later cards) all) in
    let rest : without (filter p cards) c ≡ filter p cards = without-lower p c cards (and-right (later d) (list_all later cards) all) in
    elim (p d) as (λ b. without (cond b (d ∷ filter p cards) (filter p cards)) c ≡ cond b (d ∷ filter p cards) (filter p cards)) [
      | true ↦ rw (differs, rest) refl
      | false ↦ rest
    ]

-- where the places fall, the passing card at the highest place comes first
first-falls : (p : PlayingCard → Bool) (c : PlayingCard) → p c ≡ true → ((d : PlayingCard) → p d ≡ true → place_of d ≤ place_of c)
    → (cards : List PlayingCard) → falls cards ≡ true → has_card cards c ≡ true → filter p cards ≡ c ∷ without (filter p cards) c
first-falls p c here top [] fall has = absurd (cc)
first-falls p c here top (d ∷ cards) fall has = go (λ f h. first-falls p c here top cards f h) (same_card d c) refl
  where
    higher : list_all (λ x. nat_lt (place_of x) (place_of d)) cards ≡ true
    higher = and-left (list_all (λ x. nat_lt (place_of x) (place_of d)) cards) (falls cards) fall

    fall' : falls cards ≡ true
    fall' = and-right (list_all (λ x. nat_lt (place_of x) (place_of d)) cards) (falls cards) fall

    fails : place_of c < place_of d → (b : Bool) → p d ≡ b → b ≡ false
    fails less true e = absurd (let le = top d e in omega arith)
    fails less false e = refl

    go : (falls cards ≡ true → has_card cards c ≡ true → filter p cards ≡ c ∷ without (filter p cards) c) → (b : Bool) → same_card d c ≡ b → filter p (d ∷ cards) ≡ c ∷ without (filter p (d ∷ cards)) c
    go ih true e =
        let same : d ≡ c = same_card-eq d c e in
        let pd : p d ≡ true = ap p same ∙ here in
        let lower : list_all (λ x. nat_lt (place_of x) (place_of c)) cards ≡ true = subst (λ y. list_all (λ x. nat_lt (place_of x) (place_of y)) cards ≡ true) same higher in
        let rest : without (filter p cards) c ≡ filter p cards = without-lower p c cards lower in
        rw (pd, e, rest) (ap (λ x. x ∷ filter p cards) same)
    go ih false e =
        let has' : has_card cards c ≡ true = rw e at has in
        let less : place_of c < place_of d = ltb-true _ _ (passes (λ x. nat_lt (place_of x) (place_of d)) c cards higher has') in
        let pd : p d ≡ false = fails less (p d) refl in
        rw pd (ih fall' has')

-- the highest bit is the first card's
pub cards_of-highest : (m : ℕ) (c : PlayingCard) → IsRank c.rank → IsHighest m (place_of c) → cards_of m ≡ c ∷ cards_of (bit_and m (bit_not w64 (1 * 2 ^ place_of c % 2 ^ 64)))
unfolding cards_of
cards_of-highest m c real top =
    first-falls (in_hand m) c (eq-eqb _ _ top.member) (λ d h. top.top (place_of d) (eqb-true _ _ h)) deck falls-deck (has_card-deck c real)
    ∙ ap (λ cards. c ∷ cards) (sym (cards_of-remove m c real (place_of-lt c real)))

-- the highest bit set, by the zeros above it
pub highest-leading : (m : ℕ) → 0 < m → m < 2 ^ 64 → IsHighest m (63 - leading_zeros w64 m)
highest-leading m pos small =
    let t = leading_top 64 m pos small in
    let e : 63 - leading_zeros w64 m ≡ t.0 = omega (arith, t.1) in
    rw e (highest_at m t.0 t.2 t.3)

-- sixteen ones from bit k on
pub lane_mask : (k : ℕ) → k ≤ 48 → 65535 * 2 ^ k % 2 ^ 64 ≡ 2 ^ (k + 16) - 2 ^ k
lane_mask k h = shl_whole 65535 16 k 64 (lit< tt) (omega arith) ∙ (let e : 2 ^ (k + 16) ≡ 2 ^ k * 65536 = pow-add 2 k 16 in omega (arith, e))

-- the bits of a suit's own lane are kept
inside : (m : ℕ) (s : Suit) (d : PlayingCard) → IsRank d.rank → suit_code d.suit ≡ suit_code s → bit_at (bit_and m (65535 * 2 ^ suit_shift s % 2 ^ 64)) (place_of d) ≡ bit_at m (place_of d)
inside m s d real same =
    let k : ℕ = suit_shift s in
    let code : suit_code s < 4 = suit_code-lt s in
    let b : bit_at m (place_of d) < 2 = bit_at-lt m (place_of d) in
    rw (lane_mask k (omega arith)) (bit_at_and m (2 ^ (k + 16) - 2 ^ k) (place_of d)
    ∙ ap (min (bit_at m (place_of d))) (bit_at_mask_inside k (k + 16) (place_of d) (omega arith) (omega arith)) ∙ omega arith)

-- the bits of the other lanes are cleared
outside : (m : ℕ) (s : Suit) (d : PlayingCard) → IsRank d.rank → suit_code d.suit ≢ suit_code s → bit_at (bit_and m (65535 * 2 ^ suit_shift s % 2 ^ 64)) (place_of d) ≡ 0
outside m s d real other =
    let k : ℕ = suit_shift s in
    let code : suit_code s < 4 = suit_code-lt s in
    let code' : suit_code d.suit < 4 = suit_code-lt d.suit in
    let zero_bit : bit_at (2 ^ (k + 16) - 2 ^ k) (place_of d) ≡ 0 = elim (cases_lt (place_of d) k) [
      | inl low ↦ bit_at_mask_below k (k + 16) (place_of d) low
      | inr high ↦ bit_at_mask_above k (k + 16) (place_of d) (omega arith)
    ] in
    rw (lane_mask k (omega arith)) (bit_at_and m (2 ^ (k + 16) - 2 ^ k) (place_of d) ∙ ap (min (bit_at m (place_of d))) zero_bit ∙ omega arith)

-- a lane's bits are the cards of its suit
pub cards_of-suit : (m : ℕ) (s : Suit) → cards_of (bit_and m (65535 * 2 ^ suit_shift s % 2 ^ 64)) ≡ filter (is_of s) (cards_of m)
unfolding cards_of
cards_of-suit m s =
    filter-deck (in_hand (bit_and m (65535 * 2 ^ suit_shift s % 2 ^ 64))) (λ d. in_hand m d && is_of s d) (λ d real. elim (eqb_tells (suit_code d.suit) (suit_code s)) [
      | inl same ↦ rw (same.0, inside m s d real same.1) (and-true (in_hand m d))
      | inr other ↦ rw (other.0, outside m s d real other.1) (and-false (in_hand m d))
    ])
    ∙ sym (filter-filter (is_of s) (in_hand m) deck)

-- the card of a place
abbrev card_at : ℕ → PlayingCard
card_at i = record { suit = suit_from (3 - i / 16); rank = i % 16 }

-- the card of a place stands at that place
place_of-card_at : (i : ℕ) → i < 64 → place_of (card_at i) ≡ i
place_of-card_at i h =
    let lane : 3 - i / 16 < 4 = omega arith in
    rw (suit_code-suit_from (3 - i / 16) lane) (omega arith)

-- a hand without cards has no bit set
pub not-empty : (m : ℕ) → IsHandMask m → m < 2 ^ 64 → cards_of m ≡ [] → m ≡ 0
not-empty m valid small none =
    elim (cases_lt 0 m) [
      | inr le ↦ omega arith
      | inl pos ↦ (
          let top : IsHighest m (63 - leading_zeros w64 m) = highest-leading m pos small in
          let real = valid (63 - leading_zeros w64 m) top.member in
          let place : place_of (card_at (63 - leading_zeros w64 m)) ≡ 63 - leading_zeros w64 m = place_of-card_at (63 - leading_zeros w64 m) real.0 in
          let e = cards_of-highest m (card_at (63 - leading_zeros w64 m)) (real.1, real.2) (rw place top) in
          absurd (cc)
          )
    ]

-- ---- a set
-- what all pass, all of a part pass
part-all : (t p : PlayingCard → Bool) (cards : List PlayingCard) → list_all t cards ≡ true → list_all t (filter p cards) ≡ true
part-all t p [] all = refl
part-all t p (c ∷ cards) all =
    let rest : list_all t (filter p cards) ≡ true = part-all t p cards (and-right (t c) (list_all t cards) all) in
    elim (p c) as (λ b. list_all t (cond b (c ∷ filter p cards) (filter p cards)) ≡ true) [
      | true ↦ and_from (t c) (list_all t (filter p cards)) (and-left (t c) (list_all t cards) all) rest
      | false ↦ rest
    ]

-- where places fall along a list, they fall along a part of it
part-falls : (p : PlayingCard → Bool) (cards : List PlayingCard) → falls cards ≡ true → falls (filter p cards) ≡ true
part-falls p [] fall = refl
part-falls p (c ∷ cards) fall =
    let lower = λ (d : PlayingCard). nat_lt (place_of d) (place_of c) in
    let rest : falls (filter p cards) ≡ true = part-falls p cards (and-right (list_all lower cards) (falls cards) fall) in
    elim (p c) as (λ b. falls (cond b (c ∷ filter p cards) (filter p cards)) ≡ true) [
      | true ↦ and_from (list_all lower (filter p cards)) (falls (filter p cards)) (part-all lower p cards (and-left (list_all lower cards) (falls cards) fall)) rest
      | false ↦ rest
    ]

-- the first card of a set stands at the highest place
pub set-first : (c : PlayingCard) (rest : List PlayingCard) → IsSet (c ∷ rest) → (d : PlayingCard) → has_card rest d ≡ true → place_of d < place_of c
set-first c rest set d has =
    let fall : falls (c ∷ rest) ≡ true = subst (λ (l : List PlayingCard). falls l ≡ true) set (part-falls (has_card (c ∷ rest)) deck falls-deck) in
    let lower = λ (x : PlayingCard). nat_lt (place_of x) (place_of c) in
    ltb-true (place_of d) (place_of c) (passes lower d rest (and-left (list_all lower rest) (falls rest) fall) has)
