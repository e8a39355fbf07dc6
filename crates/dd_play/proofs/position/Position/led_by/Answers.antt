use Rattle.std.proofs.Common.{rules, ◌≡◌, ◌∙◌, [], sym, ap, arith, subst}
use mathlib.Core.Path.{ap₂}
use Rattle.dd_cards.specs.declared.strain.Strain.{Strain}
use Rattle.dd_cards.specs.Hands.{FourHands}
use Rattle.dd_play.specs.Board.{Board, IsBoard, board_of}
use Rattle.dd_play.specs.InPlay.{is_in_play}
use Rattle.dd_play.proofs.LedBy.{led-by, in-play-led}
use Rattle.dd_play.proofs.position.Position.led_by.Goals as goal

pub invariant_of-result : goal.invariant_of-result
invariant_of-result c =
    let hands = c.copy.ensures ∙ ap (λ (b : Board). b.hands) c.self.view_is in
    let strain = ap (λ (b : Board). b.strain) c.self.view_is in
    let same = sym (ap₂ (λ (h : FourHands) (s : Strain). board_of h s c.args.leader []) hands strain) in (
      omega arith,
      c.self.invariant.1,
      subst IsBoard same (led-by c.args.self.now c.args.leader (subst IsBoard c.self.view_is c.self.invariant.2) c.requires.start),
      λ d. c.self.invariant.3 d ∙ ap (λ (b : Board). is_in_play b d) c.self.view_is ∙ in-play-led c.args.self.now c.args.leader c.requires.start d ∙ ap (λ (b : Board). is_in_play b d) same,
    )
