-- cards as suits and ranks, and the deck
use Rattle.std.proofs.Common.{◌≡◌, ◌≢◌, ℕ, ◌<◌, Bool, true, false, cond, refl, sym, ap, ◌∙◌, subst, arith, List, [], ◌∷◌, ◌++◌, inl, inr, ◌⊎◌, eq-eqb, suc, zero}
use Rattle.std.specs.Prelude.{map, ◌==◌}
use mathlib.Core.Path.{ap₂}
use Rattle.std.specs.List.{list_any, list_all}
use Rattle.std.proofs.lemmas.Bool.{eqb-true, leb-true}
use Rattle.std.proofs.lemmas.Bool.Decides.{eqb_tells, nat_tests}
use Rattle.std.proofs.lemmas.List.Folds.{list_any-append}
use Rattle.dd_cards.specs.declared.suit.Suit.{Suit}
use Rattle.dd_cards.specs.declared.suit.Suit.TheVariants.{Spades, Hearts, Diamonds, Clubs}
use Rattle.dd_cards.specs.Suits.{suit_code}
use Rattle.dd_cards.specs.Ranks.{IsRank, is_rank, lowest_ranks, all_ranks, has_rank}
use Rattle.dd_cards.specs.PlayingCard.{PlayingCard}
use Rattle.dd_cards.specs.Cards.{same_card, card_of, suit_cards, deck, has_card, place_of}
use Rattle.dd_cards.proofs.RankLists.{has_rank-lowest_ranks}
use Rattle.std.proofs.Math.Bool.{or-true}

-- the suit of a code
pub suit_from : ℕ → Suit
suit_from n = cond (n == 0) Spades (cond (n == 1) Hearts (cond (n == 2) Diamonds Clubs))

-- the suit of a suit's code is that suit
suit_from-suit_code : (s : Suit) → suit_from (suit_code s) ≡ s
unfolding suit_from
suit_from-suit_code Spades = refl
suit_from-suit_code Hearts = refl
suit_from-suit_code Diamonds = refl
suit_from-suit_code Clubs = refl

-- the code of a code's suit is that code
pub suit_code-suit_from : (n : ℕ) → n < 4 → suit_code (suit_from n) ≡ n
unfolding suit_from
suit_code-suit_from zero h = refl
suit_code-suit_from (suc zero) h = refl
suit_code-suit_from (suc (suc zero)) h = refl
suit_code-suit_from (suc (suc (suc zero))) h = refl
suit_code-suit_from (suc (suc (suc (suc n)))) h = absurd (omega arith)

-- two suits with one code are one suit
pub suit_code-injective : (s t : Suit) → suit_code s ≡ suit_code t → s ≡ t
suit_code-injective s t e = sym (suit_from-suit_code s) ∙ ap suit_from e ∙ suit_from-suit_code t

-- a suit's code is below 4
pub suit_code-lt : (s : Suit) → suit_code s < 4
suit_code-lt Spades = omega arith
suit_code-lt Hearts = omega arith
suit_code-lt Diamonds = omega arith
suit_code-lt Clubs = omega arith

-- two real cards are the same, or have different places
abbrev pub Compared : PlayingCard → PlayingCard → Type 0
Compared c d = ((same_card c d ≡ true) × (c ≡ d)) ⊎ ((same_card c d ≡ false) × (place_of c ≢ place_of d))

-- two cards of one suit and one rank are one card
card-eq : (c d : PlayingCard) → suit_code c.suit ≡ suit_code d.suit → c.rank ≡ d.rank → c ≡ d
card-eq c d e f = ap₂ (λ (s : Suit) (r : ℕ). let card : PlayingCard = record { suit = s; rank = r } in card) (suit_code-injective c.suit d.suit e) f

-- any two real cards can be compared so
pub compared : (c d : PlayingCard) → IsRank c.rank → IsRank d.rank → Compared c d
compared c d cr dr =
    let x : suit_code c.suit < 4 = suit_code-lt c.suit in
    let y : suit_code d.suit < 4 = suit_code-lt d.suit in
    elim (eqb_tells (suit_code c.suit) (suit_code d.suit)) [
      | inl suits ↦ elim (eqb_tells c.rank d.rank) [
        | inl ranks ↦ inl (rw (suits.0, ranks.0) refl, card-eq c d suits.1 ranks.1)
        | inr ranks ↦ inr (rw (suits.0, ranks.0) refl, λ e. ranks.1 (omega (arith, suits.1, e)))
      ]
      | inr suits ↦ inr (rw suits.0 refl, λ e. suits.1 (omega (arith, e)))
    ]

-- cards that the test calls the same are equal
pub same_card-eq : (c d : PlayingCard) → same_card c d ≡ true → c ≡ d
same_card-eq c d h =
    elim (eqb_tells (suit_code c.suit) (suit_code d.suit)) [
      | inl suits ↦ card-eq c d suits.1 (eqb-true c.rank d.rank (rw suits.0 at h))
      | inr suits ↦ absurd (let no : false ≡ true = rw suits.0 at h in cc)
    ]

-- what the first part has, the whole has
any-left : {X : Type 0} (p : X → Bool) (xs ys : List X) → list_any p xs ≡ true → list_any p (xs ++ ys) ≡ true
any-left p xs ys h = list_any-append p xs ys ∙ rw h refl

-- what the second part has, the whole has
any-right : {X : Type 0} (p : X → Bool) (xs ys : List X) → list_any p ys ≡ true → list_any p (xs ++ ys) ≡ true
any-right p xs ys h = list_any-append p xs ys ∙ rw h (or-true (list_any p xs))

-- a real card is among the thirteen of its suit
has-suit_cards : (c : PlayingCard) → IsRank c.rank → has_card (suit_cards c.suit) c ≡ true
unfolding suit_cards all_ranks
has-suit_cards c valid = go (lowest_ranks 13) (has_rank-lowest_ranks 13 c.rank valid.0 (omega arith))
  where
    suit_same : (suit_code c.suit == suit_code c.suit) ≡ true
    suit_same = eq-eqb _ _ refl

    go : (ranks : List ℕ) → has_rank ranks c.rank ≡ true → has_card (map (card_of c.suit) ranks) c ≡ true
    go [] h = h
    go (r ∷ ranks) h = elim (eqb_tells r c.rank) [ inl e ↦ rw (suit_same, e.0) refl | inr e ↦ rw (suit_same, e.0) (go ranks (rw e.0 at h)) ]

-- a real card is in the deck
pub has_card-deck : (c : PlayingCard) → IsRank c.rank → has_card deck c ≡ true
unfolding deck
has_card-deck c valid = go c.suit refl
  where
    test : PlayingCard → Bool
    test d = same_card d c

    own : (s : Suit) → s ≡ c.suit → list_any test (suit_cards s) ≡ true
    own s e = subst (λ s. list_any test (suit_cards s) ≡ true) (sym e) (has-suit_cards c valid)

    go : (s : Suit) → s ≡ c.suit → list_any test deck ≡ true
    go Spades e = any-left test _ (suit_cards Clubs) (any-left test _ (suit_cards Diamonds) (any-left test _ (suit_cards Hearts) (own Spades e)))
    go Hearts e = any-left test _ (suit_cards Clubs) (any-left test _ (suit_cards Diamonds) (any-right test (suit_cards Spades) _ (own Hearts e)))
    go Diamonds e = any-left test _ (suit_cards Clubs) (any-right test (suit_cards Spades ++ suit_cards Hearts) _ (own Diamonds e))
    go Clubs e = any-right test (suit_cards Spades ++ suit_cards Hearts ++ suit_cards Diamonds) _ (own Clubs e)

-- each card of the deck is real
pub real_deck : list_all (λ c. is_rank c.rank) deck ≡ true
unfolding deck suit_cards all_ranks lowest_ranks
real_deck = refl

-- what passes the test is a rank
pub IsRank-from : (r : ℕ) → is_rank r ≡ true → IsRank r
IsRank-from r h = (leb-true 2 r (grind (arith, nat_tests)), leb-true r 14 (grind (arith, nat_tests)))

-- sameness of cards has no direction
pub same_card-swap : (c d : PlayingCard) → same_card c d ≡ same_card d c
same_card-swap c d = rw (swap (suit_code c.suit) (suit_code d.suit), swap c.rank d.rank) refl
  where
    swap : (a b : ℕ) → (a == b) ≡ (b == a)
    swap a b = grind (arith, nat_tests)
