use Rattle.std.proofs.Common.{ap, ◌∙◌}
use Rattle.std.specs.Prelude.{◌==◌, ◌&&◌}
use Rattle.std.specs.Cmp.{nat_eq_equiv}
use Rattle.dd_cards.specs.PlayingCard.{PlayingCard}
use Rattle.dd_cards.specs.Suits.{suit_code}
use Rattle.dd_play.proofs.Choices.{same-suit}
use Rattle.dd_play.proofs.SameLaws.{pointwise-same}
use Rattle.dd_play.proofs.position.is_same_trick.Goals as goal

pub returns : goal.returns
returns c = c.eq.ensures ∙ pointwise-same _ _ (λ (x : PlayingCard) (y : PlayingCard).
    ap (λ b. b && (x.rank == y.rank)) (same-suit x.suit y.suit ∙ nat_eq_equiv.symm (suit_code y.suit) (suit_code x.suit))) c.args.trick.now c.args.other.now
