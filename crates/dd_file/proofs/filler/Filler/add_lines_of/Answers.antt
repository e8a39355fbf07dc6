use Rattle.std.proofs.Common.{◌∙◌, ap, sym}
use Rattle.dd_file.specs.Filled.{needs}
use Rattle.dd_file.specs.declared.analyst.Reason.TheVariants.{Spent}
use Rattle.dd_file.specs.Notes.{notes_of, unknown_of}
use Rattle.dd_file.specs.Told.{because, left_of_game, why_par}
use Rattle.dd_file.proofs.Heard.{Hears-from}
use Rattle.dd_file.proofs.Passed.{AddsFound-answer, AddsAnswer-spent, AddsAnswer-unneeded}
use Rattle.dd_file.proofs.filler.Filler.add_lines_of.Goals as goal

pub returns-in_ok-push_found-in-Some-clause-adds : goal.returns-in_ok-push_found-in-Some-clause-adds
returns-in_ok-push_found-in-Some-clause-adds g c =
    let told = Hears-from g.A.Analyst.way _ (g.A.Analyst.state c.args.analyst.now) _
    (left_of_game (notes_of c.args.self.now) (why_par c.lacks-lacking.result c.args.self.now.state (unknown_of c.args.self.now))) c.in-Some.ensures.state c.tell_unknown-in-Some.ensures in
    AddsFound-answer g.A.Analyst.gives g.A.Analyst.way c.args.self.now.wanted c.args.self.now.state (notes_of c.args.self.now) _ _ c.args.deal.now _ _ _ _ _ _ c.line_ends.ensures c.lacks-lacking.ensures c.conditions-conditions.ensures
    (ap (λ b. needs c.lacks-lacking.result b) (sym c.is_some.ensures) ∙ sym c.needs.ensures ∙ c.if-not-needs.false) c.in-Some.ensures.gives told c.in_ok-push_found-in-Some.ensures

pub returns-then-not-needs-clause-adds : goal.returns-then-not-needs-clause-adds
returns-then-not-needs-clause-adds g c =
    AddsAnswer-unneeded g.A.Analyst.gives g.A.Analyst.way c.args.self.now.wanted c.args.self.now.state (notes_of c.args.self.now) _ _ c.args.deal.now c.lacks-lacking.result c.conditions-conditions.result _
    c.lacks-lacking.ensures c.conditions-conditions.ensures
    (ap (λ b. needs c.lacks-lacking.result b) (sym c.is_some.ensures) ∙ sym c.needs.ensures ∙ c.if-not-needs.true) c.tell_unknown.ensures

pub returns-in-None-clause-adds : goal.returns-in-None-clause-adds
returns-in-None-clause-adds g c =
    AddsAnswer-spent g.A.Analyst.gives g.A.Analyst.way c.args.self.now.wanted c.args.self.now.state (notes_of c.args.self.now) _ _ c.args.deal.now c.lacks-lacking.result c.conditions-conditions.result _
    c.lacks-lacking.ensures c.conditions-conditions.ensures
    (ap (λ b. needs c.lacks-lacking.result b) (sym c.is_some.ensures) ∙ sym c.needs.ensures ∙ c.if-not-needs.false) c.in-None.ensures.gives
    (Hears-from g.A.Analyst.way (g.A.Analyst.state c.results.new.self) (g.A.Analyst.state c.args.analyst.now) _ (left_of_game (notes_of c.args.self.now) (because Spent)) c.in-None.ensures.state c.leave.ensures)
