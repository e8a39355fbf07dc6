use Rattle.std.proofs.Common.{◌∙◌, Bool, ap}
use Rattle.std.proofs.lemmas.Result.{on_ok_weaker}
use Rattle.dd_file.specs.Notes.{board_of, unknown_of}
use Rattle.dd_file.specs.Told.{board_here, number_here, texts_here}
use Rattle.dd_file.proofs.Passed.{EndsHere-before}
use Rattle.dd_file.proofs.filler.Filler.end_before.Goals as goal

pub returns-clause-ends : goal.returns-clause-ends
returns-clause-ends g c = on_ok_weaker c.end_here.result
    (λ ends. EndsHere-before g.A.Analyst.gives g.A.Analyst.way _ _ _ _ _ _ _ _ _ c.ends-ends.ensures c.has_place.ensures ends) c.end_here.ensures.ends

pub returns-clause-number : goal.returns-clause-number
returns-clause-number g c = on_ok_weaker c.end_here.result (λ is. is ∙ ap (λ (h : Bool). number_here h c.args.self.now.number) c.ends-ends.ensures) c.end_here.ensures.number

pub returns-clause-board : goal.returns-clause-board
returns-clause-board g c = on_ok_weaker c.end_here.result (λ is. is ∙ ap (λ (h : Bool). board_here h (board_of c.args.self.now)) c.ends-ends.ensures) c.end_here.ensures.board

pub returns-clause-texts : goal.returns-clause-texts
returns-clause-texts g c = on_ok_weaker c.end_here.result (λ is. is ∙ ap (λ (h : Bool). texts_here h (unknown_of c.args.self.now)) c.ends-ends.ensures) c.end_here.ensures.texts

pub returns-clause-asks : goal.returns-clause-asks
returns-clause-asks g c = λ none. c.end_here.ensures.asks (c.ends-ends.ensures ∙ none)
