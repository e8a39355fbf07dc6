use Rattle.std.proofs.Common.{◌≤◌, ◌≡◌, ◌<◌, ◌⊎◌, ◌∙◌, Bool, true, false, sym, ap, inl, inr, List, refl, eq-eqb, length}
use Rattle.std.specs.Prelude.{filter, ◌&&◌}
use mathlib.Core.Bool.{not}
use Rattle.dd_cards.specs.PlayingCard.{PlayingCard}
use Rattle.dd_cards.specs.Suits.{suit_code}
use Rattle.dd_cards.specs.Cards.{is_of, same_card, has_card}
use Rattle.dd_cards.proofs.CallerLemmas.{any-filter, has_card-filter, same_card-self}
use Rattle.dd_play.specs.Reach.{reach}
use Rattle.dd_play.proofs.CallerLemmas.{reach-some, filter-passes, suit-of}
use Rattle.dd_relative.specs.WinningRanks.{AreTop}
use Rattle.dd_search.proofs.Orders.{shorter, kept-told, is-same}
use Rattle.dd_search.proofs.placed_untried.still_untried.Goals as goal
use Rattle.dd_search.proofs.placed_untried.still_untried.Goals.{Else-has_place}
use Rattle.std.proofs.lemmas.Bool.{not-false}

own-suit : (card : PlayingCard) → is_of card.suit card ≡ true
own-suit card = eq-eqb (suit_code card.suit) (suit_code card.suit) refl

-- a card that passes a test is kept
kept : (f : PlayingCard → Bool) (cards : List PlayingCard) (c : PlayingCard) → f c ≡ true → has_card cards c ≡ true → has_card (filter f cards) c ≡ true
kept f cards c passes has = has_card-filter f cards c ∙ rw passes has

pub returns-then-has_place-clause-fewer : goal.returns-then-has_place-clause-fewer
returns-then-has_place-clause-fewer c = rw (c.without_place-others.ensures) (shorter (λ d. not (same_card d c.args.card)) c.args.card (ap not (same_card-self c.args.card)) c.args.untried c.requires)

pub returns-then-has_place-clause-among : goal.returns-then-has_place-clause-among
returns-then-has_place-clause-among c d has = any-filter _ _ c.args.untried (ap (λ xs. has_card xs d) (sym c.without_place-others.ensures) ∙ has)

pub returns-then-has_place-clause-told : goal.returns-then-has_place-clause-told
returns-then-has_place-clause-told c = kept-told (λ d. not (same_card d c.args.card)) c.args.untried c.args.card c.args.ranks.now c.without_place-others.result c.without_place-others.ensures (λ d out. inl (is-same d c.args.card out))

-- the cards of its suit that are not reached
abbrev lower : (cards ranks : List PlayingCard) (card : PlayingCard) → List PlayingCard
lower cards ranks card = filter (λ d. not (has_card ranks d)) (filter (is_of card.suit) cards)

low-is : (c : Else-has_place) → c.difference-lower.result ≡ lower c.args.untried c.cards-reached.result c.args.card
low-is c = c.difference-lower.ensures ∙ ap (filter (λ d. not (has_card c.cards-reached.result d))) c.of_suit_at.ensures

-- the card is one of them
itself : (c : Else-has_place) → has_card c.difference-lower.result c.args.card ≡ true
itself c = ap (λ xs. has_card xs c.args.card) (low-is c) ∙ kept _ (filter (is_of c.args.card.suit) c.args.untried) c.args.card (ap not (sym c.has_place.ensures ∙ c.if-has_place.false))
    (kept (is_of c.args.card.suit) c.args.untried c.args.card (own-suit c.args.card) c.requires)

pub returns-else-has_place-clause-fewer : goal.returns-else-has_place-clause-fewer
returns-else-has_place-clause-fewer c =
    rw (c.difference-higher.ensures) (shorter (λ d. not (has_card c.difference-lower.result d)) c.args.card (ap not (itself (goal.at.returns-else-has_place-clause-fewer c).Else-has_place)) c.args.untried c.requires)

pub returns-else-has_place-clause-among : goal.returns-else-has_place-clause-among
returns-else-has_place-clause-among c d has = any-filter _ _ c.args.untried (ap (λ xs. has_card xs d) (sym c.difference-higher.ensures) ∙ has)

-- a card of its suit that is not among the ranks is not reached by them, which have all higher ones
unreached : (ranks : List PlayingCard) (d : PlayingCard) → AreTop ranks → d.rank ≤ 14 → has_card ranks d ≡ false → reach ranks d ≡ false
unreached ranks d top most out = go (reach ranks d) refl
  where
    go : (b : Bool) → reach ranks d ≡ b → b ≡ false
    go false e = refl
    go true e =
        let some = reach-some ranks d e in
        absurd (let no : false ≡ true = sym out ∙ top some.0 d some.1 (sym some.2) some.3 most in cc)

-- what is not kept is of the card's suit and not among the ranks
out-of : (cards ranks : List PlayingCard) (card d : PlayingCard) → not (has_card (lower cards ranks card) d) ≡ false → (d.suit ≡ card.suit) × (has_card ranks d ≡ false)
out-of cards ranks card d out =
    let low : has_card (lower cards ranks card) d ≡ true = not-false (has_card (lower cards ranks card) d) out in
    let own : has_card (filter (is_of card.suit) cards) d ≡ true = any-filter _ _ (filter (is_of card.suit) cards) low in
    (suit-of card.suit d (filter-passes (is_of card.suit) cards d own), is-not (has_card ranks d) (filter-passes (λ e. not (has_card ranks e)) (filter (is_of card.suit) cards) d low))
  where
    is-not : (b : Bool) → not b ≡ true → b ≡ false
    is-not false h = refl
    is-not true h = absurd (cc)

-- of a card that is not kept: it is of the suit, and not reached
gone : (c : Else-has_place) (d : PlayingCard) → has_card c.args.untried d ≡ true → not (has_card c.difference-lower.result d) ≡ false → (d.suit ≡ c.args.card.suit) × (reach c.args.ranks.now d ≡ false)
gone c d here out =
    let low = out-of c.args.untried c.cards-reached.result c.args.card d (ap (λ xs. not (has_card xs d)) (sym (low-is c)) ∙ out) in
    let ranks = c.cards-reached.ensures.cards in
    (low.0, unreached c.args.ranks.now d c.cards-reached.ensures.top (c.holding-real.ensures.real d here).1 (ap (λ xs. has_card xs d) (sym ranks) ∙ low.1))

pub returns-else-has_place-clause-told : goal.returns-else-has_place-clause-told
returns-else-has_place-clause-told c =
    let at = (goal.at.returns-else-has_place-clause-told c).Else-has_place in
    kept-told (λ d. not (has_card c.difference-lower.result d)) c.args.untried c.args.card c.args.ranks.now c.difference-higher.result c.difference-higher.ensures (λ d out.
    let here : has_card c.args.untried d ≡ true = any-filter _ _ c.args.untried (any-filter _ _ (filter (is_of c.args.card.suit) c.args.untried) (ap (λ xs. has_card xs d) (sym (low-is at)) ∙ not-false (has_card c.difference-lower.result d) out)) in
    let low = gone at d here out in
    inr (low.0, low.1, (gone at c.args.card c.requires (ap not (itself at))).1))
