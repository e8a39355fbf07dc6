use Rattle.std.proofs.Common.{◌≡◌, ap, ◌∙◌, subst}
use Rattle.dd_play.specs.Board.{Board}
use Rattle.dd_play.specs.Play.{legal}
use Rattle.dd_equal.specs.EqualCards.{tops}
use Rattle.dd_relative.specs.Runs.{heads_of}
use Rattle.dd_relative.proofs.Tops.{trick-tops}
use Rattle.dd_relative.proofs.placed_trick.PlacedTrick.tops_of.Goals as goal

pub returns : goal.returns
returns c =
    c.run_heads.ensures ∙ ap heads_of c.requires.choices
    ∙ subst (λ (q : Board). heads_of (legal q) ≡ tops q) c.self.view_is
    (trick-tops c.self.inside.start.now c.self.inside.trick c.self.inside.played c.start-start.ensures.relative c.self.invariant.1 c.self.invariant.0 c.self.invariant.2)
