use Rattle.std.proofs.Common.{◌≡◌, ◌∙◌, ℕ, List, true, subst}
use Rattle.std.specs.Prelude.{IfSome, Option}
use Rattle.dd_cards.specs.declared.suit.Suit.{Suit}
use Rattle.dd_cards.specs.PlayingCard.{PlayingCard}
use Rattle.dd_cards.specs.Cards.{has_card}
use Rattle.dd_cards.specs.Sides.{side_of, other_side}
use Rattle.dd_play.specs.Board.{Board}
use Rattle.dd_play.specs.Play.{after, legal}
use Rattle.dd_play.specs.Reach.{reach, TakesBy}
use Rattle.dd_search.proofs.relative_cutoffs.second_hands_winners.Goals as goal

-- what is told of one board holds of the same one
of-same : (p q : Board) (suit : Suit) (need : ℕ) (found : Option (List PlayingCard)) → p ≡ q
    → IfSome found (λ cards. (card : PlayingCard) → has_card (legal p) card ≡ true → card.suit ≡ suit → TakesBy (reach cards) (other_side (side_of p.first)) (after p card) need)
    → IfSome found (λ cards. (card : PlayingCard) → has_card (legal q) card ≡ true → card.suit ≡ suit → TakesBy (reach cards) (other_side (side_of q.first)) (after q card) need)
of-same p q suit need found same told = subst (λ (r : Board). IfSome found (λ cards. (card : PlayingCard) → has_card (legal r) card ≡ true → card.suit ≡ suit → TakesBy (reach cards) (other_side (side_of r.first)) (after r card) need)) same told

pub returns-then-may_draw : goal.returns-then-may_draw
returns-then-may_draw c = of-same _ _ c.args.suit c.args.need c.for_second_hand.result (c.position-position.ensures.value ∙ c.at_lead.ensures.same) c.for_second_hand.ensures

pub returns-then-takes : goal.returns-then-takes
returns-then-takes c = of-same _ _ c.args.suit c.args.need c.for_second_hand_by.result (c.position-position.ensures.value ∙ c.at_lead.ensures.same) c.for_second_hand_by.ensures

pub returns : goal.returns
returns c = of-same _ _ c.args.suit c.args.need c.for_second_hand_across.result (c.position-position.ensures.value ∙ c.at_lead.ensures.same) c.for_second_hand_across.ensures
