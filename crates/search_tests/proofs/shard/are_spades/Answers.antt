use Rattle.std.proofs.Common.{◌≡◌, ℕ, ◌+◌, ◌<◌, refl, sym, ap, ◌∙◌, arith, List, [], ◌∷◌, ◌++◌, take, length, get_or, append_assoc}
use Rattle.std.proofs.lemmas.List.{append-nil, take_all, take_more, map-append}
use Rattle.dd_cards.specs.declared.suit.Suit.{Suit}
use Rattle.dd_cards.specs.declared.suit.Suit.TheVariants.{Spades, Hearts, Diamonds, Clubs}
use Rattle.dd_cards.specs.Suits.{suit_code}
use Rattle.dd_cards.specs.PlayingCard.{PlayingCard}
use Rattle.dd_cards.specs.Cards.{card_of}
use Rattle.dd_play.specs.Deals.{spades}
use Rattle.search_tests.proofs.shard.are_spades.Goals as goal

-- the suit of code 0
spades-code : (suit : Suit) → suit_code suit ≡ 0 → suit ≡ Spades
spades-code Spades e = refl
spades-code Hearts e = absurd (omega arith)
spades-code Diamonds e = absurd (omega arith)
spades-code Clubs e = absurd (omega arith)

-- one card more of a hand is a spade of the next rank
one-more : (hand rest next : List PlayingCard) (ranks : List ℕ) (i : ℕ) (card : PlayingCard) → i < length ranks → hand ≡ spades (take i ranks) ++ rest → rest ≡ card ∷ next
    → suit_code card.suit ≡ 0 → card.rank ≡ get_or ranks i 0 → hand ≡ spades (take (i + 1) ranks) ++ next
one-more hand rest next ranks i card h so same suit rank =
    let is : card ≡ card_of Spades (get_or ranks i 0) = ap (λ s. card_of s card.rank) (spades-code card.suit suit) ∙ ap (card_of Spades) rank in
    so ∙ rw (same, is, take_more ranks i 0 h, map-append (card_of Spades) (take i ranks) (get_or ranks i 0 ∷ []), append_assoc) refl

pub loop-rank-preserved : goal.loop-rank-preserved
loop-rank-preserved c =
    one-more c.args.hand c.loop-rank.rest c.pop_first.new.self c.args.ranks.now c.loop-rank.rank-index c.in-Some.card (omega arith) c.loop-rank.invariant c.in-Some.ensures
    (ap (λ k. suit_code k.suit) (sym c.card.view_is) ∙ sym c.code.ensures.value ∙ c.if-code-ne0.false)
    (ap (λ k. k.rank) (sym c.card.view_is) ∙ sym c.code-else-code-ne0.ensures.value ∙ c.if-code-rank.false)

pub returns : goal.returns
returns c = λ empty. c.loop-rank.invariant ∙ rw (c.is_empty.ensures.0 empty, append-nil, take_all c.loop-rank.rank-index c.args.ranks.now (omega arith)) refl
