use Rattle.std.proofs.Common.{◌≡◌, ◌∙◌, [], ◌∷◌, ◌++◌, true, ap, sym}
use Rattle.std.specs.Prelude.{◌&&◌}
use Rattle.std.proofs.lemmas.Result.{on_ok_weaker}
use Rattle.dd_file.specs.Marked.{is_closed}
use Rattle.dd_file.specs.Filled.{ends_last}
use Rattle.dd_file.specs.Notes.{notes_of}
use Rattle.dd_file.proofs.Passed.{AddsLast-open, answers-ended, closed-told, last-begun, text-ended}
use Rattle.dd_file.proofs.filler.Filler.add_last.Goals as goal

pub returns-clause-adds : goal.returns-clause-adds
returns-clause-adds g c =
    let state = c.args.self.now.state in
    let wanted = c.args.self.now.wanted in
    let notes = notes_of c.args.self.now in
    let closed : is_closed c.args.self.now.left c.args.self.now.mode ≡ true = sym c.is_closed.ensures ∙ c.if-not-is_closed.false in
    let begun : state.begun ≡ true = c.if-not-self.false in
    let is : ends_last (is_closed c.args.self.now.left c.args.self.now.mode) state ≡ true = ap (λ b. b && state.begun) closed ∙ begun in
    on_ok_weaker c.add_lines.result
    (λ adds. record {
      answers = adds.answer ∷ [];
      hears = last-begun g.A.Analyst.way _ _ _ wanted state notes adds.answer begun (closed-told g.A.Analyst.way _ _ _ wanted state notes adds.answer closed adds.hears);
      right = answers-ended g.A.Analyst.gives _ _ adds.answer is adds.right;
      text = adds.text ∙ ap (λ t. c.args.out.now.items ++ t) (sym (text-ended _ c.args.self.now.wanted state adds.answer is));
    }) c.add_lines.ensures.adds

pub returns-then-not-is_closed-clause-adds : goal.returns-then-not-is_closed-clause-adds
returns-then-not-is_closed-clause-adds g c =
    AddsLast-open g.A.Analyst.gives g.A.Analyst.way _ c.args.self.now _ _ _ (sym c.is_closed.ensures ∙ c.if-not-is_closed.true) c.if-not-self.false c.leave_open.ensures
