use Rattle.dd_wire.proofs.UsualMeanings.{solve-of}
use Rattle.dd_wire.proofs.usual_asked.fields_of_solve.Goals as goal

pub returns : goal.returns
returns c =
    solve-of c.args.fields c.in_ok-deal.deal c.in_ok-first.first c.in_ok-solutions.solutions c.in_ok-trump.trump c.trick_of-trick.result.cards c.requires c.in_ok-absent.ensures c.in_ok-absent-2.ensures
    c.in_ok-absent-3.ensures c.in_ok-absent-4.ensures c.in_ok-absent-5.ensures c.in_ok-deal.was c.in_ok-first.was c.in_ok-solutions.was c.in_ok-trump.was c.trick_of-trick.ensures.items
    c.trick_of-trick.ensures.valid
