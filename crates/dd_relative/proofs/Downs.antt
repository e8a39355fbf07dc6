-- a card and all higher ones of its suit
use Rattle.std.proofs.Common.{◌≡◌, ◌≤◌, Bool, true, false, refl, sym, ap, ◌∙◌, subst, arith, List}
use Rattle.std.specs.Prelude.{filter, nat_lt, ◌&&◌}
use mathlib.Core.Bool.{not}
use Rattle.std.proofs.lemmas.Bool.{le-ltb, ltb-false, and_from, not-true, not_from_false}
use Rattle.dd_cards.specs.PlayingCard.{PlayingCard}
use Rattle.dd_cards.specs.Ranks.{IsRank}
use Rattle.dd_cards.specs.Cards.{deck, has_card, is_of}
use Rattle.dd_cards.proofs.CallerLemmas.{IsSet-deck, and-left, and-right, filter-filter, has_card-deck, has_card-filter, real-set}
use Rattle.dd_play.proofs.CallerLemmas.{filter-has, of-suit', suit-of}
use Rattle.dd_relative.specs.WinningRanks.{AreTop}
use Rattle.std.proofs.lemmas.List.Elements.{filter_agree}

-- no lower card of the suit, in two steps
two-steps : (b l : Bool) → (b && not (b && l)) ≡ (b && not l)
two-steps true l = refl
two-steps false l = refl

down-same : (card : PlayingCard) (pack suit cards : List PlayingCard) → pack ≡ deck → suit ≡ filter (is_of card.suit) pack
    → cards ≡ filter (λ c. not (is_of card.suit c && nat_lt c.rank card.rank)) suit → cards ≡ filter (λ c. is_of card.suit c && not (nat_lt c.rank card.rank)) deck
down-same card pack suit cards all of down =
    down ∙ ap (filter (λ c. not (is_of card.suit c && nat_lt c.rank card.rank))) (of ∙ ap (filter (is_of card.suit)) all)
    ∙ filter-filter (λ c. not (is_of card.suit c && nat_lt c.rank card.rank)) (is_of card.suit) deck
    ∙ filter_agree _ _ (λ c. two-steps (is_of card.suit c) (nat_lt c.rank card.rank)) deck

-- .. of a card that is seen as this one
pub down-seen : (seen card : PlayingCard) (pack suit cards : List PlayingCard) → seen ≡ card → pack ≡ deck → suit ≡ filter (is_of seen.suit) pack
    → cards ≡ filter (λ c. not (is_of seen.suit c && nat_lt c.rank seen.rank)) suit → cards ≡ filter (λ c. is_of card.suit c && not (nat_lt c.rank card.rank)) deck
down-seen seen card pack suit cards same all of down =
    subst (λ (x : PlayingCard). cards ≡ filter (λ c. is_of x.suit c && not (nat_lt c.rank x.rank)) deck) same (down-same seen pack suit cards all of down)

pub down-top : (card : PlayingCard) → AreTop (filter (λ c. is_of card.suit c && not (nat_lt c.rank card.rank)) deck)
down-top card c d has suit low high =
    let both = has_card-filter (λ x. is_of card.suit x && not (nat_lt x.rank card.rank)) deck c in
    let passes : (is_of card.suit c && not (nat_lt c.rank card.rank)) ≡ true = and-left _ _ (sym both ∙ has) in
    let real : IsRank c.rank = real-set deck c IsSet-deck (and-right _ _ (sym both ∙ has)) in
    let two = real.0 in
    let least : card.rank ≤ c.rank = ltb-false c.rank card.rank (not-true _ (and-right (is_of card.suit c) (not (nat_lt c.rank card.rank)) passes)) in
    let of : is_of card.suit d ≡ true = of-suit' card.suit d (suit ∙ suit-of card.suit c (and-left (is_of card.suit c) (not (nat_lt c.rank card.rank)) passes)) in
    filter-has (λ x. is_of card.suit x && not (nat_lt x.rank card.rank)) deck d (has_card-deck d (omega (arith, two, low), high))
    (and_from _ _ of (not_from_false _ (le-ltb d.rank card.rank (omega (arith, least, low)))))

-- it has each card of the suit from this rank up
pub down-has : (card d : PlayingCard) → IsRank d.rank → d.suit ≡ card.suit → card.rank ≤ d.rank → has_card (filter (λ c. is_of card.suit c && not (nat_lt c.rank card.rank)) deck) d ≡ true
down-has card d real suit low =
    filter-has (λ x. is_of card.suit x && not (nat_lt x.rank card.rank)) deck d (has_card-deck d real) (and_from _ _ (of-suit' card.suit d suit) (not_from_false _ (le-ltb d.rank card.rank low)))
