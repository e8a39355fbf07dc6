use Rattle.std.proofs.Common.{ap, ◌∙◌}
use Rattle.dd_solve.proofs.Reaching.{reaching-asked}
use Rattle.dd_solve.proofs.target_solving.solve_target.Goals as goal

pub of-requires-2 : goal.of-requires-2
of-requires-2 g c =
    c.of.ensures ∙ c.in_ok-answer.ensures.found
    ∙ reaching-asked c.position.result.now c.args.request.board c.target.result c.args.request.target c.solutions.result c.args.request.solutions c.most_asked.result
    c.position.ensures.play.board c.position.ensures.value c.target.ensures.value c.solutions.ensures.value c.most_asked.ensures

pub returns-clause-solved : goal.returns-clause-solved
returns-clause-solved g c = c.of-2.ensures ∙ ap (λ classes. record { asked = c.args.request; answer = classes })
    (c.of.ensures ∙ c.in_ok-answer.ensures.found
    ∙ reaching-asked c.position.result.now c.args.request.board c.target.result c.args.request.target c.solutions.result c.args.request.solutions c.most_asked.result
    c.position.ensures.play.board c.position.ensures.value c.target.ensures.value c.solutions.ensures.value c.most_asked.ensures)
