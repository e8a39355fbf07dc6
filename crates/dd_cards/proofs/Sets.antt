-- a hand is a set
use Rattle.std.proofs.Common.{◌≡◌, ℕ, ◌+◌, ◌≤◌, Bool, true, false, cond, refl, ap, ◌∙◌, subst, arith, List, [], ◌∷◌, length, ◌++◌}
use Rattle.std.specs.Prelude.{filter, nat_lt, ◌||◌}
use Rattle.std.specs.List.{list_all}
use Rattle.std.proofs.lemmas.List.Filters.{length-filter_both}
use Rattle.dd_cards.specs.PlayingCard.{PlayingCard}
use Rattle.dd_cards.specs.Cards.{same_card, has_card, deck, place_of}
use Rattle.dd_cards.specs.HandMasks.{in_hand, cards_of, mask_at, hands_of, AreHandMasks}
use Rattle.dd_cards.specs.Hands.{times, IsSet, AreHands}
use Rattle.dd_cards.proofs.HandLists.{filter-deck, has_card-cards_of, AreDisjoint-masks, hand_of-masks}
use Rattle.dd_cards.proofs.CardLists.{same_card-eq}
use Rattle.dd_cards.proofs.Firsts.{falls, falls-deck, lower-differs}
use Rattle.dd_cards.proofs.General.{and-left, and-right}
use mathlib.Core.Bool.{not}

-- the cards of a mask are a set
pub IsSet-cards_of : (m : ℕ) → IsSet (cards_of m)
unfolding cards_of
IsSet-cards_of m = filter-deck (has_card (cards_of m)) (in_hand m) (λ c valid. has_card-cards_of m c valid)

-- one time more where the first card is the card
pub times-cons : (d : PlayingCard) (cards : List PlayingCard) (c : PlayingCard) → times (d ∷ cards) c ≡ cond (same_card d c) 1 0 + times cards c
times-cons d cards c =
    elim (same_card d c) as (λ b. length (cond b (d ∷ filter (λ d. same_card d c) cards) (filter (λ d. same_card d c) cards)) ≡ cond b 1 0 + times cards c) [
      | true ↦ omega arith
      | false ↦ omega arith
    ]

-- a card stands not among lower ones
times-lower : (p : PlayingCard → Bool) (c : PlayingCard) (cards : List PlayingCard) → list_all (λ d. nat_lt (place_of d) (place_of c)) cards ≡ true → times (filter p cards) c ≡ 0
times-lower p c [] all = refl
times-lower p c (d ∷ cards) all =
    let later = λ (x : PlayingCard). nat_lt (place_of x) (place_of c) in
    let differs : same_card d c ≡ false = lower-differs d c (and-left (later d) (list_all later cards) all) in
    let rest : times (filter p cards) c ≡ 0 = times-lower p c cards (and-right (later d) (list_all later cards) all) in
    elim (p d) as (λ b. times (cond b (d ∷ filter p cards) (filter p cards)) c ≡ 0) [
      | true ↦ times-cons d (filter p cards) c ∙ rw differs (omega (arith, rest))
      | false ↦ rest
    ]

-- where the places fall, a card stands once at most
times-falls : (p : PlayingCard → Bool) (c : PlayingCard) (cards : List PlayingCard) → falls cards ≡ true → times (filter p cards) c ≤ 1
times-falls p c [] fall = omega arith
times-falls p c (d ∷ cards) fall =
    let higher : list_all (λ x. nat_lt (place_of x) (place_of d)) cards ≡ true = and-left _ (falls cards) fall in
    let rest : times (filter p cards) c ≤ 1 = times-falls p c cards (and-right (list_all (λ x. nat_lt (place_of x) (place_of d)) cards) (falls cards) fall) in
    elim (p d) as (λ b. times (cond b (d ∷ filter p cards) (filter p cards)) c ≤ 1) [
      | true ↦ go p c d cards higher rest (same_card d c) refl
      | false ↦ rest
    ]
  where
    go : (p : PlayingCard → Bool) (c d : PlayingCard) (cards : List PlayingCard) → list_all (λ x. nat_lt (place_of x) (place_of d)) cards ≡ true → times (filter p cards) c ≤ 1 → (b : Bool) → same_card d c ≡ b → times (d ∷ filter p cards) c ≤ 1
    go p c d cards higher rest true e =
        let none : times (filter p cards) c ≡ 0 = times-lower p c cards (subst (λ y. list_all (λ x. nat_lt (place_of x) (place_of y)) cards ≡ true) (same_card-eq d c e) higher) in
        let k : times (d ∷ filter p cards) c ≡ 1 + times (filter p cards) c = times-cons d (filter p cards) c ∙ rw e refl in
        omega arith
    go p c d cards higher rest false e =
        let k : times (d ∷ filter p cards) c ≡ 0 + times (filter p cards) c = times-cons d (filter p cards) c ∙ rw e refl in
        omega arith

-- the deck has 52 cards
pub length-deck : length deck ≡ 52
unfolding deck Rattle.dd_cards.specs.Cards.suit_cards Rattle.dd_cards.specs.Ranks.all_ranks Rattle.dd_cards.specs.Ranks.lowest_ranks
length-deck = refl

-- a set has a card once at most
pub times-set : (cards : List PlayingCard) (c : PlayingCard) → IsSet cards → times cards c ≤ 1
times-set cards c set = subst (λ (xs : List PlayingCard). times xs c ≤ 1) set (times-falls (has_card cards) c deck falls-deck)

-- a set has 52 cards at most
pub length-set_of_cards : (cards : List PlayingCard) → IsSet cards → length cards ≤ 52
length-set_of_cards cards set =
    let e = length-filter_both (has_card cards) (λ c. not (has_card cards c)) (λ c. refl) deck in
    let k = length-deck in
    let s : length (filter (has_card cards) deck) ≡ length cards = ap length set in
    omega arith

-- the hands of four masks are four hands
pub AreHands-masks : (masks : List ℕ) → AreHandMasks masks → AreHands (hands_of masks)
AreHands-masks masks valid =
    record {
      sets = λ s. rw (hand_of-masks masks s) (IsSet-cards_of (mask_at masks s));
      disjoint = AreDisjoint-masks masks valid;
    }

-- ---- the four hands together
abbrev pub flag_of : Bool → ℕ
flag_of b = cond b 1 0

-- of four tests no two of which hold together, one at most holds
pub at-most-one : (a b c d : Bool) → (a ≡ true → b ≡ true → ⊥) → (a ≡ true → c ≡ true → ⊥) → (a ≡ true → d ≡ true → ⊥) → (b ≡ true → c ≡ true → ⊥) → (b ≡ true → d ≡ true → ⊥) → (c ≡ true → d ≡ true → ⊥)
    → flag_of a + flag_of b + flag_of c + flag_of d ≤ 1
at-most-one true true c d ab ac ad bc bd cd = absurd (ab refl refl)
at-most-one true false true d ab ac ad bc bd cd = absurd (ac refl refl)
at-most-one true false false true ab ac ad bc bd cd = absurd (ad refl refl)
at-most-one true false false false ab ac ad bc bd cd = omega arith
at-most-one false true true d ab ac ad bc bd cd = absurd (bc refl refl)
at-most-one false true false true ab ac ad bc bd cd = absurd (bd refl refl)
at-most-one false true false false ab ac ad bc bd cd = omega arith
at-most-one false false true true ab ac ad bc bd cd = absurd (cd refl refl)
at-most-one false false true false ab ac ad bc bd cd = omega arith
at-most-one false false false true ab ac ad bc bd cd = omega arith
at-most-one false false false false ab ac ad bc bd cd = omega arith

-- a card stands in two lists as often as in both
pub times-append : (xs ys : List PlayingCard) (card : PlayingCard) → times (xs ++ ys) card ≡ times xs card + times ys card
times-append [] ys card = omega arith
times-append (x ∷ xs) ys card =
    let ih = times-append xs ys card in
    let one = times-cons x (xs ++ ys) card in
    let two = times-cons x xs card in
    omega arith

-- a card that a list has stands in it at least once
pub times-has : (cards : List PlayingCard) (c : PlayingCard) → has_card cards c ≡ true → 1 ≤ times cards c
times-has [] c h = absurd (cc)
times-has (d ∷ cards) c h =
    rw (times-cons d cards c) (elim (same_card d c) as (λ b. (b || has_card cards c) ≡ true → 1 ≤ cond b 1 0 + times cards c) [
      | true ↦ λ _. omega arith
      | false ↦ λ k. (let i = times-has cards c k in omega arith)
    ] h)
