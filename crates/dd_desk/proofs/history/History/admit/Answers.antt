use Rattle.std.proofs.Common.{◌≡◌, ◌+◌, ◌-◌, length, arith}
use Rattle.dd_desk.proofs.Reserved.{has-room, no-room}
use Rattle.dd_desk.proofs.history.History.admit.Goals as goal

pub returns-in-Some-clause-room : goal.returns-in-Some-clause-room
returns-in-Some-clause-room c = λ caller.
    let self = c.args.self.now in
    let left = c.events-2.result - c.len-2.result - 1 in
    let room : left + 1 + length self.journal.items ≡ self.limits.events =
    omega (arith, c.events.ensures.value, c.events-2.ensures.value, c.len.ensures, c.len-2.ensures, c.if-len-events.false, self.journal.ok.0) in
    has-room self.limits c.counted_after-counted.result self.book self.journal.items caller c.args.call.now left c.in-Some.field-0 self.replayed c.counted_after-counted.ensures room c.in-Some.ensures

pub returns-in-None-clause-room : goal.returns-in-None-clause-room
returns-in-None-clause-room c = λ caller.
    let self = c.args.self.now in
    let left = c.events-2.result - c.len-2.result - 1 in
    let room : left + 1 + length self.journal.items ≡ self.limits.events =
    omega (arith, c.events.ensures.value, c.events-2.ensures.value, c.len.ensures, c.len-2.ensures, c.if-len-events.false, self.journal.ok.0) in
    no-room self.limits c.counted_after-counted.result self.book self.journal.items caller c.args.call.now left self.replayed c.counted_after-counted.ensures room c.in-None.ensures
