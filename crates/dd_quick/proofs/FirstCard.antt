-- The card that is led wins the trick where the others are weaker.
use Rattle.std.proofs.Common.{◌≡◌, ◌<◌, ◌≤◌, Bool, true, false, refl, ap, ◌∙◌, subst, arith, List, [], ◌∷◌}
use Rattle.std.specs.Prelude.{filter, nat_le, ◌&&◌}
use Rattle.std.specs.List.{list_all}
use mathlib.Core.Path.{ap₂}
use Rattle.std.proofs.lemmas.Bool.{le-leb}
use Rattle.dd_cards.specs.declared.strain.Strain.{Strain}
use Rattle.dd_cards.specs.PlayingCard.{PlayingCard}
use Rattle.dd_cards.specs.Cards.{is_of, same_card, has_card}
use Rattle.dd_cards.proofs.CallerLemmas.{same_card-eq}
use Rattle.dd_play.specs.Tricks.{is_trump, deciding, is_highest_of, winning_place, or_else}
use Rattle.dd_play.proofs.CallerLemmas.{filter-has, has-first, in-rest, of-suit', suit-of}

-- no card of the list is a trump
pub no-trump : (strain : Strain) (cards : List PlayingCard) → ((e : PlayingCard) → has_card cards e ≡ true → is_trump strain e ≡ false) → filter (is_trump strain) cards ≡ []
no-trump strain [] each = refl
no-trump strain (c ∷ cards) each = rw (each c (has-first c cards)) (no-trump strain cards (λ e h. each e (in-rest c e cards h)))

-- no card of the suit is higher
pub none-higher : (m : PlayingCard) (cards : List PlayingCard) → ((e : PlayingCard) → has_card cards e ≡ true → e.suit ≡ m.suit → e.rank ≤ m.rank) → list_all (λ e. nat_le e.rank m.rank) (filter (is_of m.suit) cards) ≡ true
none-higher m [] each = refl
none-higher m (c ∷ cards) each = go (is_of m.suit c) refl (none-higher m cards (λ e h. each e (in-rest c e cards h)))
  where
    go : (b : Bool) → is_of m.suit c ≡ b → list_all (λ e. nat_le e.rank m.rank) (filter (is_of m.suit) cards) ≡ true → list_all (λ e. nat_le e.rank m.rank) (filter (is_of m.suit) (c ∷ cards)) ≡ true
    go true e rest =
        let here : nat_le c.rank m.rank ≡ true = le-leb c.rank m.rank (each c (has-first c cards) (suit-of m.suit c e)) in
        rw (e, here, rest) refl
    go false e rest = rw e rest

-- it is no trump, and no higher card of the suit led
abbrev pub IsWeaker : Strain → PlayingCard → PlayingCard → Type 0
IsWeaker strain m e = (is_trump strain e ≡ false) × (e.suit ≡ m.suit → e.rank < m.rank)

-- a card led that is no trump wins the trick from weaker cards
pub first-wins : (strain : Strain) (m : PlayingCard) (rest : List PlayingCard) → is_trump strain m ≡ false → ((e : PlayingCard) → has_card rest e ≡ true → IsWeaker strain m e) → winning_place strain (m ∷ rest) ≡ 0
first-wins strain m rest plain each = rw highest refl
  where
    split : (e : PlayingCard) → has_card (m ∷ rest) e ≡ true → (is_trump strain e ≡ false) × (e.suit ≡ m.suit → e.rank ≤ m.rank)
    split e h = go (same_card m e) refl
      where
        go : (b : Bool) → same_card m e ≡ b → (is_trump strain e ≡ false) × (e.suit ≡ m.suit → e.rank ≤ m.rank)
        go true f = subst (λ y. (is_trump strain y ≡ false) × (y.suit ≡ m.suit → y.rank ≤ m.rank)) (same_card-eq m e f) (plain, λ s. omega arith)
        go false f = (let w = each e (rw f at h) in (w.0, λ s. (let k = w.1 s in omega (arith, k))))

    decide : deciding strain (m ∷ rest) ≡ filter (is_of m.suit) (m ∷ rest)
    decide = ap (λ trumps. or_else trumps (filter (is_of m.suit) (m ∷ rest))) (no-trump strain (m ∷ rest) (λ e h. (split e h).0))

    there : has_card (filter (is_of m.suit) (m ∷ rest)) m ≡ true
    there = filter-has (is_of m.suit) (m ∷ rest) m (has-first m rest) (of-suit' m.suit m refl)

    highest : is_highest_of (deciding strain (m ∷ rest)) m ≡ true
    highest = ap (λ cards. is_highest_of cards m) decide ∙ ap₂ (λ a b. a && b) there (none-higher m (m ∷ rest) (λ e h. (split e h).1))
