-- the cards that are still to be tried
use Rattle.std.proofs.Common.{◌≡◌, ℕ, ◌+◌, ◌<◌, Bool, true, false, cond, refl, sym, ap, ◌∙◌, arith, List, [], ◌∷◌, Option, None, Some, length, inl, inr, ◌⊎◌}
use Rattle.std.specs.Prelude.{filter, map, IfSome, ◌&&◌, nat_lt, slice_get}
use Rattle.std.proofs.lemmas.Bool.{eqb-true, ltb-true, not-false}
use mathlib.Core.Bool.{not}
use Rattle.dd_cards.specs.declared.suit.Suit.{Suit}
use Rattle.dd_cards.specs.PlayingCard.{PlayingCard}
use Rattle.dd_cards.specs.Ranks.{has_rank}
use Rattle.dd_cards.specs.Cards.{same_card, has_card, card_of, is_of}
use Rattle.dd_cards.proofs.CallerLemmas.{any-filter, and-left, and-right, has_card-filter, has_rank-holding, length-filter-le, same_card-eq, same_card-self, suit_code-injective}
use Rattle.dd_play.specs.Board.{Board}
use Rattle.dd_play.specs.Play.{legal}
use Rattle.dd_play.specs.Reach.{reach}
use Rattle.dd_play.specs.Simulations.{IsLegal}
use Rattle.dd_rank.proofs.CallerLemmas.{first-there}
use Rattle.dd_equal.specs.EqualCards.{is_top, tops}

-- the highest card of a class is legal
pub top-legal : (p : Board) (c : PlayingCard) → has_card (tops p) c ≡ true → IsLegal p c
top-legal p c has = any-filter (λ d. same_card d c) (is_top p) (legal p) has

-- ---- a list of one card

pub has-only : (c : PlayingCard) → has_card (c ∷ []) c ≡ true
has-only c = rw (same_card-self c) refl

pub is-only : (d c : PlayingCard) → has_card (c ∷ []) d ≡ true → d ≡ c
is-only d c has = go (same_card c d) refl has
  where
    go : (b : Bool) → same_card c d ≡ b → has_card (c ∷ []) d ≡ true → d ≡ c
    go true e h = sym (same_card-eq c d e)
    go false e h = absurd (let no : false ≡ true = rw e at h in cc)

-- ---- fewer cards are left

-- a card that does not pass makes the list shorter
pub shorter : (f : PlayingCard → Bool) (c : PlayingCard) → f c ≡ false → (cards : List PlayingCard) → has_card cards c ≡ true → length (filter f cards) < length cards
shorter f c fails [] has = absurd (cc)
shorter f c fails (d ∷ cards) has = go (same_card d c) refl (shorter f c fails cards)
  where
    add : (b : Bool) (n : ℕ) → length (filter f cards) < n → length (cond b (d ∷ filter f cards) (filter f cards)) < n + 1
    add true n h = omega (arith, h)
    add false n h = omega (arith, h)

    go : (b : Bool) → same_card d c ≡ b → (has_card cards c ≡ true → length (filter f cards) < length cards) → length (filter f (d ∷ cards)) < length (d ∷ cards)
    go true e ih =
        let gone : f d ≡ false = ap f (same_card-eq d c e) ∙ fails in
        let rest = length-filter-le f cards in
        rw gone (omega (arith, rest))
    go false e ih =
        let less = ih (rw e at has) in
        let more = add (f d) (length cards) less in
        omega (arith, more)

-- what was left out is told by its failure, or is the card itself
abbrev pub IsTold : List PlayingCard → PlayingCard → List PlayingCard → List PlayingCard → Type 0
IsTold old card by new = (c : PlayingCard) → has_card old c ≡ true → (has_card new c ≡ true) ⊎ ((c ≡ card) ⊎ ((c.suit ≡ card.suit) × (reach by c ≡ false) × (reach by card ≡ false)))

-- what a test keeps, and what it leaves out
pub kept-told : (f : PlayingCard → Bool) (old : List PlayingCard) (card : PlayingCard) (by new : List PlayingCard) → new ≡ filter f old
    → ((c : PlayingCard) → f c ≡ false → (c ≡ card) ⊎ ((c.suit ≡ card.suit) × (reach by c ≡ false) × (reach by card ≡ false))) → IsTold old card by new
kept-told f old card by new is out c has = go (f c) refl
  where
    go : (b : Bool) → f c ≡ b → (has_card new c ≡ true) ⊎ ((c ≡ card) ⊎ ((c.suit ≡ card.suit) × (reach by c ≡ false) × (reach by card ≡ false)))
    go true e = inl (ap (λ xs. has_card xs c) is ∙ has_card-filter f old c ∙ rw e has)
    go false e = inr (out c e)

-- a card that is the card
pub is-same : (c d : PlayingCard) → not (same_card c d) ≡ false → c ≡ d
is-same c d h = same_card-eq c d (not-false (same_card c d) h)

-- a card of the suit that is lower
pub is-low : (s : Suit) (c : PlayingCard) (r : ℕ) → not (is_of s c && nat_lt c.rank r) ≡ false → (c.suit ≡ s) × (c.rank < r)
is-low s c r h =
    let both = not-false (is_of s c && nat_lt c.rank r) h in
    (suit_code-injective c.suit s (eqb-true _ _ (and-left (is_of s c) (nat_lt c.rank r) both)), ltb-true c.rank r (and-right (is_of s c) (nat_lt c.rank r) both))

-- a card of the suit
pub is-of-suit : (s : Suit) (c : PlayingCard) → not (is_of s c) ≡ false → c.suit ≡ s
is-of-suit s c h = suit_code-injective c.suit s (eqb-true _ _ (not-false (is_of s c) h))

-- ---- where there is one choice

-- it is a highest card
pub only-top : (p : Board) (card d : PlayingCard) → tops p ≡ card ∷ [] → has_card (card ∷ []) d ≡ true → has_card (tops p) d ≡ true
only-top p card d is has = ap (λ cards. has_card cards d) is ∙ has

-- and may be played
pub only-legal : (p : Board) (card : PlayingCard) → tops p ≡ card ∷ [] → IsLegal p card
only-legal p card is = top-legal p card (only-top p card card is (has-only card))
