use Rattle.std.proofs.Common.{◌≡◌, ℕ, List, ◌∙◌, sym, ap, subst}
use Rattle.dd_score.specs.Tables.{IsTable}
use Rattle.dd_request.specs.Results.{results}
use Rattle.dd_wire.specs.ParReplies.{rows_of}
use Rattle.dd_wire.proofs.ParResults.{results-table}
use Rattle.dd_wire.proofs.line_reply.put_deal_par.Goals as goal

pub put_table_par-requires : goal.put_table_par-requires
put_table_par-requires g c =
    let found : c.in-Some.found ≡ results c.args.asked.now.hands = c.in-Some.ensures.results ∙ ap results c.request.ensures.value in
    subst (λ (r : List ℕ). IsTable (rows_of r)) (sym found) (results-table c.args.asked.now.hands c.request.ensures.even c.request.ensures.thirteen)
