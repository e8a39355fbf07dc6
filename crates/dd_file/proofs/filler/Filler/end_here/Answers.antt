use Rattle.std.proofs.Common.{◌≡◌, ◌∙◌, [], ◌∷◌, ◌++◌, true, ap, sym}
use Rattle.dd_file.specs.Filled.{ask_at}
use Rattle.dd_file.specs.Notes.{notes_of}
use Rattle.dd_file.proofs.Passed.{answers-ended, text-ended, state-ended, told-ended}
use Rattle.dd_file.proofs.filler.Filler.end_here.Goals as goal

pub returns-clause-ends : goal.returns-clause-ends
returns-clause-ends g c =
    let state = c.args.self.now.state in
    let wanted = c.args.self.now.wanted in
    let is : c.args.ends ≡ true = c.if-not-ends.false in
    let adds = c.in_ok-add_lines_at.ensures.adds in
    record {
      place = c.end_game.ensures.place;
      answers = adds.answer ∷ [];
      hears = told-ended g.A.Analyst.way _ _ _ c.args.ends c.args.has_place wanted state (notes_of c.args.self.now) adds.answer is adds.hears c.passed.ensures;
      right = answers-ended g.A.Analyst.gives _ (ask_at c.args.has_place wanted state) adds.answer is adds.right;
      text = adds.text ∙ ap (λ t. c.args.out.now.items ++ t) (sym (text-ended _ wanted state adds.answer is));
      state = c.end_game.ensures.state ∙ sym (state-ended _ state is);
    }
