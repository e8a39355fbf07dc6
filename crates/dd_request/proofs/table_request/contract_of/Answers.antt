use Rattle.std.proofs.Common.{◌≡◌, ◌/◌, ◌%◌, arith}
use Rattle.dd_cards.specs.Seats.{seat_code}
use Rattle.dd_cards.specs.Strains.{strain_code}
use Rattle.dd_request.proofs.Openings.{contract-coded}
use Rattle.dd_request.proofs.table_request.contract_of.Goals as goal

pub returns : goal.returns
returns c =
    let strain : strain_code c.in-Some-Some.strain ≡ c.args.part / 4 = c.in-Some-Some.ensures.value in
    let declarer : seat_code c.in-Some-Some.declarer ≡ c.args.part % 4 = c.in-Some-Some.ensures'.value in
    contract-coded c.args.part c.in-Some-Some.strain c.in-Some-Some.declarer (omega (arith, strain, declarer))
