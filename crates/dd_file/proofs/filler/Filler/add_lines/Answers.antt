use Rattle.std.proofs.Common.{◌∙◌, true, ap, sym}
use Rattle.std.proofs.lemmas.Result.{on_ok_weaker}
use mathlib.Core.Bool.{not}
use Rattle.dd_file.specs.Filled.{needs}
use Rattle.dd_file.specs.Notes.{notes_of}
use Rattle.dd_file.specs.Values.{thirteen_in}
use Rattle.dd_file.proofs.Passed.{AddsAnswer-deal, AddsAnswer-none, AddsAnswer-unfit, lacking-some, unfit-told}
use Rattle.dd_file.proofs.filler.Filler.add_lines.Goals as goal

pub returns-then-lacks_none-clause-adds : goal.returns-then-lacks_none-clause-adds
returns-then-lacks_none-clause-adds g c =
    AddsAnswer-none g.A.Analyst.gives g.A.Analyst.way c.args.self.now.wanted c.args.self.now.state (notes_of c.args.self.now) _ c.args.out.now.items
    (ap (λ k. not (needs k true)) (sym c.lacks.ensures) ∙ sym c.lacks_none.ensures ∙ c.if-lacks_none.true)

pub returns-in-Ok-clause-adds : goal.returns-in-Ok-clause-adds
returns-in-Ok-clause-adds g c =
    on_ok_weaker c.add_lines_of.result
    (λ adds. AddsAnswer-deal g.A.Analyst.gives g.A.Analyst.way c.args.self.now.wanted c.args.self.now.state (notes_of c.args.self.now) _ _ _ _ _
    (lacking-some c.args.self.now.wanted c.lacks.result c.args.self.now.state c.lacks_none.result c.lacks.ensures c.lacks_none.ensures c.if-lacks_none.false) (ap (λ d. thirteen_in d) (sym c.value.ensures) ∙ sym c.in-Ok.ensures.value) adds) c.add_lines_of.ensures.adds

pub returns-in-Err-clause-adds : goal.returns-in-Err-clause-adds
returns-in-Err-clause-adds g c =
    AddsAnswer-unfit g.A.Analyst.gives g.A.Analyst.way c.args.self.now.wanted c.args.self.now.state (notes_of c.args.self.now) _ _ c.in-Err.unfit _
    (lacking-some c.args.self.now.wanted c.lacks.result c.args.self.now.state c.lacks_none.result c.lacks.ensures c.lacks_none.ensures c.if-lacks_none.false) (ap (λ d. thirteen_in d) (sym c.value.ensures) ∙ sym c.in-Err.ensures.value) (unfit-told g.A.Analyst.way _ _ (notes_of c.args.self.now) c.in-Err.unfit c.reason_of.result c.reason_of.ensures c.leave.ensures)
