use Rattle.std.proofs.Common.{◌≡◌, ℕ, sym, ◌∙◌, subst, List}
use Rattle.dd_cards.specs.declared.suit.Suit.{Suit}
use Rattle.dd_cards.specs.declared.suit.Suit.TheVariants.{Spades, Hearts, Diamonds, Clubs}
use Rattle.dd_cards.specs.PlayingCard.{PlayingCard}
use Rattle.dd_cards.specs.Cards.{is_of, has_card}
use Rattle.dd_play.specs.Board.{Board, IsBoard}
use Rattle.dd_play.specs.Covers.{count_of}
use Rattle.dd_cards.specs.Hands.{IsSet}
use Rattle.dd_cards.proofs.CallerLemmas.{times-set}
use Rattle.dd_rank.specs.Depths.{FourDepths, all_cards, depth_in}
use Rattle.dd_rank.proofs.Looked.{all-once}
use Rattle.dd_rank.proofs.Lowest.{same-count, length-of}
use Rattle.dd_rank.proofs.depths.Depths.full.Goals as goal

-- the depths of all four suits
by-suits : (p : Board) (all : List PlayingCard) (a b d e : ℕ) → IsBoard p → IsSet all → ((c : PlayingCard) → has_card all c ≡ has_card (all_cards p) c)
    → a ≡ count_of Spades all → b ≡ count_of Hearts all → d ≡ count_of Diamonds all → e ≡ count_of Clubs all
    → (u : Suit) → depth_in (record { spades = a; hearts = b; diamonds = d; clubs = e }) u ≡ count_of u (all_cards p)
by-suits p all a b d e valid set same ea eb ed ee u = go u
  where
    count : (u : Suit) → count_of u all ≡ count_of u (all_cards p)
    count u = same-count (is_of u) all (all_cards p) (λ c. times-set all c set) (all-once p valid) same

    go : (u : Suit) → depth_in (record { spades = a; hearts = b; diamonds = d; clubs = e }) u ≡ count_of u (all_cards p)
    go Spades = ea ∙ count Spades
    go Hearts = eb ∙ count Hearts
    go Diamonds = ed ∙ count Diamonds
    go Clubs = ee ∙ count Clubs

pub returns : goal.returns
returns c = subst (λ (d : FourDepths). (u : Suit) → depth_in d u ≡ count_of u (all_cards c.args.start.now)) (sym c.of_suits.ensures) (
    subst (λ (p : Board). (u : Suit) → depth_in (record { spades = c.len.result; hearts = c.len-2.result; diamonds = c.len-3.result; clubs = c.len-4.result }) u ≡ count_of u (all_cards p)) c.position.ensures.value
    (by-suits c.position.result.now c.cards_left-all.result c.len.result c.len-2.result c.len-3.result c.len-4.result c.cards_left-all.ensures.board c.cards_left-all.ensures.set c.cards_left-all.ensures.cards
    (c.len.ensures.len ∙ sym (length-of Spades c.holding.result c.cards_left-all.result c.holding.ensures.ranks)) (c.len-2.ensures.len ∙ sym (length-of Hearts c.holding-2.result c.cards_left-all.result c.holding-2.ensures.ranks))
    (c.len-3.ensures.len ∙ sym (length-of Diamonds c.holding-3.result c.cards_left-all.result c.holding-3.ensures.ranks)) (c.len-4.ensures.len ∙ sym (length-of Clubs c.holding-4.result c.cards_left-all.result c.holding-4.ensures.ranks))))
