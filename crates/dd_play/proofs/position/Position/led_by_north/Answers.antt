use Rattle.std.proofs.Common.{◌∙◌, [], ap, arith, refl, sym, subst}
use mathlib.Core.Path.{ap₂}
use Rattle.std.specs.Prelude.{◌||◌}
use Rattle.dd_cards.specs.declared.seat.Seat.TheVariants.{North, East, South, West}
use Rattle.dd_cards.specs.Hands.{FourHands, dealt}
use Rattle.dd_play.specs.Board.{IsBoard, board_of}
use Rattle.dd_play.specs.InPlay.{is_in_play}
use Rattle.dd_play.proofs.InPlay.{both-set, both-has, none-lies}
use Rattle.dd_play.proofs.LedBy.{board-hands}
use Rattle.dd_play.proofs.position.Position.led_by_north.Goals as goal

pub of_four-requires : goal.of_four-requires
of_four-requires c = board-hands _ c.requires

pub invariant_of-result : goal.invariant_of-result
invariant_of-result c =
    let sets = c.requires.sets in
    let same = sym c.of_four.ensures in (
      omega arith,
      refl,
      subst (λ (hands : FourHands). IsBoard (board_of hands c.args.strain North [])) same c.requires,
      λ d.
          both-has _ _ _ c.union-in_play.ensures.cards (both-set _ _ _ c.union-north_east.ensures.cards) (both-set _ _ _ c.union-south_west.ensures.cards) d
          ∙ ap₂ (λ x y. x || y)
          (both-has _ _ _ c.union-north_east.ensures.cards (sets North) (sets East) d)
          (both-has _ _ _ c.union-south_west.ensures.cards (sets South) (sets West) d)
          ∙ none-lies (dealt c.args.north c.args.east c.args.south c.args.west) d
          ∙ ap (λ (hands : FourHands). is_in_play (board_of hands c.args.strain North []) d) same,
    )
