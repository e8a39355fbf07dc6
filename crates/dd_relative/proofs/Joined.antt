-- the next lower card of a suit joins a set of winning ranks
use Rattle.std.proofs.Common.{◌≡◌, ◌≢◌, ◌+◌, ◌<◌, ◌≤◌, ◌⊎◌, true, refl, sym, ap, ◌∙◌, subst, arith, inl, inr, List, eq-eqb}
use Rattle.std.specs.Prelude.{filter, ◌&&◌, ◌||◌}
use Rattle.std.proofs.lemmas.Bool.{cases_lt, and_from, or_left, or_right, or_cases}
use Rattle.dd_cards.specs.PlayingCard.{PlayingCard}
use Rattle.dd_cards.specs.Suits.{suit_code}
use Rattle.dd_cards.specs.Ranks.{IsRank}
use Rattle.dd_cards.specs.Cards.{deck, has_card, is_of}
use Rattle.dd_cards.specs.Hands.{IsSet}
use Rattle.dd_cards.proofs.CallerLemmas.{IsSet-deck, IsSet-filter, and-left, and-right, and-true, both-ways, has_card-deck, has_card-filter, real-set, same_card-eq}
use Rattle.dd_play.proofs.CallerLemmas.{of-suit', suit-of}
use Rattle.dd_relative.specs.Gaps.{raised}
use Rattle.dd_relative.specs.Runs.{next_above}
use Rattle.dd_relative.specs.WinningRanks.{AreTop, with_next}
use Rattle.dd_relative.proofs.Cards.{low-or, raised-below, raised-else}

-- ---- the cards
-- a real card is in it by the test
pub next-has : (g : PlayingCard) (cards : List PlayingCard) (d : PlayingCard) → IsRank d.rank → has_card (with_next g cards) d ≡ (has_card cards d || (has_card cards g && (is_of g.suit d && has_card cards (next_above d))))
next-has g cards d real =
    has_card-filter (λ x. has_card cards x || (has_card cards g && (is_of g.suit x && has_card cards (next_above x)))) deck d
    ∙ ap (λ b. (has_card cards d || (has_card cards g && (is_of g.suit d && has_card cards (next_above d)))) && b) (has_card-deck d real)
    ∙ sym (and-true _)

pub next-set : (g : PlayingCard) (cards : List PlayingCard) → IsSet (with_next g cards)
next-set g cards = IsSet-filter (λ x. has_card cards x || (has_card cards g && (is_of g.suit x && has_card cards (next_above x)))) deck IsSet-deck

-- with a card each higher one is in it
pub next-top : (g : PlayingCard) (cards : List PlayingCard) → AreTop cards → AreTop (with_next g cards)
next-top g cards top c d h suit less most =
    let real = real-set (with_next g cards) c (next-set g cards) h in
    let low = real.0 in
    next-has g cards d (omega (arith, low, less), most)
    ∙ go (or_cases (has_card cards c) (has_card cards g && (is_of g.suit c && has_card cards (next_above c))) (sym (next-has g cards c real) ∙ h))
  where
    go : (has_card cards c ≡ true) ⊎ ((has_card cards g && (is_of g.suit c && has_card cards (next_above c))) ≡ true)
        → (has_card cards d || (has_card cards g && (is_of g.suit d && has_card cards (next_above d)))) ≡ true
    go (inl there) = or_left (has_card cards d) _ (top c d there suit less most)
    go (inr joins) = elim (cases_lt c.rank d.rank) [
      | inl more ↦ or_left (has_card cards d) _ (
          top (next_above c) d (and-right (is_of g.suit c) (has_card cards (next_above c)) (and-right (has_card cards g) (is_of g.suit c && has_card cards (next_above c)) joins)) suit (omega (arith, more)) most)
      | inr same ↦ (
          let e : d.rank ≡ c.rank = omega (arith, less, same) in
          let here : c ≡ d = same_card-eq c d (and_from _ _ (eq-eqb _ _ (ap suit_code (sym suit))) (eq-eqb _ _ (sym e))) in
          or_right (has_card cards d) _ (ap (λ x. has_card cards g && (is_of g.suit x && has_card cards (next_above x))) (sym here) ∙ joins))
    ]

-- Where a card stands in it when the cards below the gap move up, it stood in it before.
pub next-raised : (g c : PlayingCard) (cards : List PlayingCard) → AreTop cards → IsRank g.rank → IsRank c.rank → (c.suit ≡ g.suit → c.rank ≢ g.rank) → has_card (with_next g cards) c ≡ has_card cards (raised g c)
next-raised g c cards top real_g real_c apart = next-has g cards c real_c ∙ go (low-or g c)
  where
    most : c.rank < g.rank → c.rank + 1 ≤ 14
    most low = (let a = real_g.1 in omega (arith, low, a))

    go : ((c.suit ≡ g.suit) × (c.rank < g.rank)) ⊎ (c.suit ≡ g.suit → g.rank ≤ c.rank) → (has_card cards c || (has_card cards g && (is_of g.suit c && has_card cards (next_above c)))) ≡ has_card cards (raised g c)
    go (inl low) =
        both-ways _ _
        (λ h. elim (or_cases (has_card cards c) _ h) [
          | inl there ↦ top c (next_above c) there refl (omega arith) (most low.1)
          | inr joins ↦ and-right (is_of g.suit c) (has_card cards (next_above c)) (and-right (has_card cards g) (is_of g.suit c && has_card cards (next_above c)) joins)
        ])
        (λ h. or_right (has_card cards c) _ (and_from (has_card cards g) _ (let l = low.1 in top (next_above c) g h (sym low.0) (omega (arith, l)) real_g.1)
        (and_from (is_of g.suit c) (has_card cards (next_above c)) (of-suit' g.suit c low.0) h)))
        ∙ ap (has_card cards) (sym (raised-below g c low.0 low.1))
    go (inr high) =
        both-ways _ _
        (λ h. elim (or_cases (has_card cards c) _ h) [
          | inl there ↦ there
          | inr joins ↦ (
              let suit : c.suit ≡ g.suit = suit-of g.suit c (and-left (is_of g.suit c) (has_card cards (next_above c)) (and-right (has_card cards g) (is_of g.suit c && has_card cards (next_above c)) joins)) in
              top g c (and-left (has_card cards g) (is_of g.suit c && has_card cards (next_above c)) joins) suit (high suit) real_c.1)
        ])
        (λ h. or_left (has_card cards c) _ h)
        ∙ ap (has_card cards) (sym (raised-else g c high))

-- the cards of two sets
pub union-top : (a b cards : List PlayingCard) → AreTop a → AreTop b → IsSet cards → ((c : PlayingCard) → IsRank c.rank → has_card cards c ≡ (has_card a c || has_card b c)) → AreTop cards
union-top a b cards top_a top_b set has c d h suit less most =
    let real = real-set cards c set h in
    let low = real.0 in
    has d (omega (arith, low, less), most) ∙ go (or_cases (has_card a c) (has_card b c) (sym (has c real) ∙ h))
  where
    go : (has_card a c ≡ true) ⊎ (has_card b c ≡ true) → (has_card a d || has_card b d) ≡ true
    go (inl x) = or_left (has_card a d) (has_card b d) (top_a c d x suit less most)
    go (inr x) = or_right (has_card a d) (has_card b d) (top_b c d x suit less most)

pub union-are : (a b cards : List PlayingCard) → AreTop a → AreTop b → cards ≡ filter (λ c. has_card a c || has_card b c) deck → AreTop cards
union-are a b cards top_a top_b are =
    union-top a b cards top_a top_b (let e : IsSet (filter (λ c. has_card a c || has_card b c) deck) = IsSet-filter (λ c. has_card a c || has_card b c) deck IsSet-deck in subst IsSet (sym are) e)
    (λ c real. ap (λ l. has_card l c) are ∙ has_card-filter (λ x. has_card a x || has_card b x) deck c ∙ ap (λ t. (has_card a c || has_card b c) && t) (has_card-deck c real) ∙ sym (and-true _))
