use Rattle.std.proofs.Common.{ap, arith, length, List}
use Rattle.dd_desk.specs.Receipts.{ReceiptOf}
use Rattle.dd_session.proofs.GivenUp.{goes-end, goes-further}
use Rattle.dd_session.proofs.leaving.give_up_jobs.Goals as goal

pub loop-place-preserved : goal.loop-place-preserved
loop-place-preserved g c =
    let count = ap (λ (rs : List ReceiptOf). length rs) c.receipts-count.ensures in
    goes-further c.args.pass.now c.args.before c.args.refusals c.loop-place.place c.loop-place.pass c.give_up_at-refused.new.pass c.loop-place.refused c.give_up_at-refused.result
    (omega (arith, count, c.loop-place-test.true)) c.loop-place.invariant c.give_up_at-refused.ensures

pub returns : goal.returns
returns g c =
    let count = ap (λ (rs : List ReceiptOf). length rs) c.receipts-count.ensures in
    let most = c.loop-place.auto.place-end (omega (arith, count, c.requires)) in
    goes-end c.args.pass.now c.args.before c.args.refusals c.loop-place.place c.loop-place.pass c.loop-place.refused (omega (arith, count, most, c.loop-place-test.false)) c.loop-place.invariant
