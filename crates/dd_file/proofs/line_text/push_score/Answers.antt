use Rattle.std.proofs.Common.{◌∙◌, ◌++◌, ap}
use Rattle.std.specs.Prelude.{codes}
use Rattle.std.proofs.Math.Facts.{to_z-of_z}
use Rattle.std.proofs.lemmas.Result.{on_ok_weaker}
use Rattle.dd_file.specs.Lines.{after_line, before_line, line_with, score_text}
use Rattle.dd_file.proofs.Joined.{joined5}
use Rattle.dd_file.proofs.line_text.push_score.Goals as goal

pub returns : goal.returns
unfolding line_with
returns c = on_ok_weaker c.end_line.result
    (λ e. joined5 c.args.out.now.items (before_line c.args.ends) (codes "[OptimumScore \"") (score_text c.args.score) (codes "\"]") (after_line c.args.ends) _ _ _ _ _
    c.in_ok-begin_line.ensures c.in_ok-extend_from_slice.ensures.items (c.in_ok-push_score_text.ensures ∙ ap (λ z. c.extend_from_slice.new.self.items ++ score_text z) (to_z-of_z c.ranges.score)) c.in_ok-extend_from_slice-2.ensures.items e) c.end_line.ensures
