use Rattle.std.proofs.Common.{◌≡◌, ◌≤◌, arith, ℕ, ◌∙◌, sym, subst, List, length}
use Rattle.std.specs.Prelude.{filter, ◌&&◌}
use Rattle.dd_cards.specs.declared.suit.Suit.{Suit}
use Rattle.dd_cards.specs.declared.suit.Suit.TheVariants.{Spades, Hearts, Diamonds, Clubs}
use Rattle.dd_cards.specs.PlayingCard.{PlayingCard}
use Rattle.dd_cards.specs.Cards.{is_of, has_card}
use Rattle.dd_play.specs.Board.{Board, IsBoard}
use Rattle.dd_play.specs.Reach.{reach}
use Rattle.dd_cards.specs.Hands.{IsSet}
use Rattle.dd_cards.proofs.CallerLemmas.{and-left, times-set}
use Rattle.dd_rank.specs.Depths.{all_cards, depths_of, FourDepths, depth_in}
use Rattle.dd_play.specs.Covers.{count_of}
use Rattle.dd_rank.proofs.Looked.{all-once}
use Rattle.dd_rank.proofs.Lowest.{same-count, more-pass}
use Rattle.dd_rank.proofs.depths.Depths.of_cards.Goals as goal

-- the depths of all four suits
by-suits : (p : Board) (all cards : List PlayingCard) (a b d e : ℕ) → IsBoard p → IsSet all → ((c : PlayingCard) → has_card all c ≡ has_card (all_cards p) c)
    → a ≡ length (filter (λ x. is_of Spades x && reach cards x) all) → b ≡ length (filter (λ x. is_of Hearts x && reach cards x) all) → d ≡ length (filter (λ x. is_of Diamonds x && reach cards x) all) → e ≡ length (filter (λ x. is_of Clubs x && reach cards x) all)
    → (u : Suit) → depth_in (record { spades = a; hearts = b; diamonds = d; clubs = e }) u ≡ depths_of (reach cards) p u
by-suits p all cards a b d e valid set same ea eb ed ee u = go u
  where
    count : (u : Suit) → length (filter (λ x. is_of u x && reach cards x) all) ≡ depths_of (reach cards) p u
    count u = same-count (λ x. is_of u x && reach cards x) all (all_cards p) (λ c. times-set all c set) (all-once p valid) same

    go : (u : Suit) → depth_in (record { spades = a; hearts = b; diamonds = d; clubs = e }) u ≡ depths_of (reach cards) p u
    go Spades = ea ∙ count Spades
    go Hearts = eb ∙ count Hearts
    go Diamonds = ed ∙ count Diamonds
    go Clubs = ee ∙ count Clubs

-- no depth is above the number of the suit's cards
lengths : (p : Board) (d : FourDepths) (cards : List PlayingCard) → ((u : Suit) → depth_in d u ≡ depths_of (reach cards) p u) → (u : Suit) → depth_in d u ≤ count_of u (all_cards p)
lengths p d cards same u = (let e = same u in let m = more-pass (λ x. is_of u x && reach cards x) (is_of u) (all_cards p) (λ x h. and-left (is_of u x) (reach cards x) h) in omega (arith, e, m))

pub returns-clause-depths : goal.returns-clause-depths
returns-clause-depths c = subst (λ (d : FourDepths). (u : Suit) → depth_in d u ≡ depths_of (reach c.args.cards) c.args.start.now u) (sym c.of_suits.ensures) (
    subst (λ (p : Board). (u : Suit) → depth_in (record { spades = c.depth_of.result; hearts = c.depth_of-2.result; diamonds = c.depth_of-3.result; clubs = c.depth_of-4.result }) u ≡ depths_of (reach c.args.cards) p u) c.position.ensures.value
    (by-suits c.position.result.now c.cards_left-all.result c.args.cards c.depth_of.result c.depth_of-2.result c.depth_of-3.result c.depth_of-4.result c.cards_left-all.ensures.board c.cards_left-all.ensures.set c.cards_left-all.ensures.cards
    c.depth_of.ensures.depth c.depth_of-2.ensures.depth c.depth_of-3.ensures.depth c.depth_of-4.ensures.depth))

pub returns-clause-within : goal.returns-clause-within
returns-clause-within c = subst (λ (d : FourDepths). (u : Suit) → depth_in d u ≤ count_of u (all_cards c.args.start.now)) (sym c.of_suits.ensures) (
    lengths c.args.start.now (record { spades = c.depth_of.result; hearts = c.depth_of-2.result; diamonds = c.depth_of-3.result; clubs = c.depth_of-4.result }) c.args.cards
    (subst (λ (p : Board). (u : Suit) → depth_in (record { spades = c.depth_of.result; hearts = c.depth_of-2.result; diamonds = c.depth_of-3.result; clubs = c.depth_of-4.result }) u ≡ depths_of (reach c.args.cards) p u) c.position.ensures.value
    (by-suits c.position.result.now c.cards_left-all.result c.args.cards c.depth_of.result c.depth_of-2.result c.depth_of-3.result c.depth_of-4.result c.cards_left-all.ensures.board c.cards_left-all.ensures.set c.cards_left-all.ensures.cards
    c.depth_of.ensures.depth c.depth_of-2.ensures.depth c.depth_of-3.ensures.depth c.depth_of-4.ensures.depth)))
