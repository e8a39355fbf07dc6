use Rattle.std.proofs.Common.{◌≡◌, true, false, sym, subst}
use Rattle.dd_score.specs.Tables.{IsTable}
use Rattle.dd_fill.specs.Told.{table_of}
use Rattle.dd_fill.proofs.Tables.{table-scored}
use Rattle.dd_fill.proofs.solving.results_by_strains.Goals as goal

pub unreachable-requires : goal.unreachable-requires
unreachable-requires c =
    let same : c.args.rows ≡ table_of c.args.deal.now = c.requires in
    let table : IsTable c.args.rows = subst IsTable (sym same) (table-scored c.args.deal.now c.request-request.ensures.thirteen) in
    let some : false ≡ true = c.in-None.ensures.valid.1 table in
    cc
