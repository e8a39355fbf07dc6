use Rattle.std.proofs.Common.{◌∙◌}
use Rattle.dd_request.proofs.CallerLemmas.{results-strains}
use Rattle.dd_solve.proofs.table_solving.solve_table.Goals as goal

pub returns-clause-results : goal.returns-clause-results
returns-clause-results g c =
    c.by_strains.ensures
    ∙ results-strains c.args.request.now _ _ _ _ _ c.in_ok-spades.ensures.results c.in_ok-hearts.ensures.results c.in_ok-diamonds.ensures.results
    c.in_ok-clubs.ensures.results c.in_ok-notrump.ensures.results
