use Rattle.std.proofs.Common.{◌≡◌, ◌+◌, ◌*◌, IfSome, subst}
use Rattle.dd_request.specs.Results.{Contract, contract_of, tricks_of}
use Rattle.dd_request.proofs.CallerLemmas.{contract-at}
use Rattle.dd_solve.proofs.table_solving.tricks_within.Goals as goal

pub returns-clause-tricks : goal.returns-clause-tricks
returns-clause-tricks g c =
    let part : contract_of (4 * c.code.result + c.code-2.result) ≡ record { strain = c.args.strain; declarer = c.args.declarer } =
    rw (c.code.ensures.value, c.code-2.ensures.value) (contract-at c.args.strain c.args.declarer) in
    let P : Contract → Type 0 = λ contract. IfSome c.part_within.result (λ tricks. tricks ≡ tricks_of c.args.request.now contract) in
    subst P part c.part_within.ensures.tricks
