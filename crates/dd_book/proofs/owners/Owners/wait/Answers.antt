use Rattle.std.proofs.Common.{true}
use Rattle.dd_book.proofs.Seats.{job-stopped}
use Rattle.dd_book.proofs.owners.Owners.wait.Goals as goal

pub returns-clause-changed : goal.returns-clause-changed
returns-clause-changed c = λ jobs was job here own same last waits x.
    rw (c.reseat.ensures.waiting, c.reseat.ensures.last_turns)
    (job-stopped jobs c.args.place c.args.owner was job here own same c.args.self.now.waiting c.put.new.waiting c.args.self.now.last_turns c.args.self.now.turns c.reseat.new.self.turns true
    c.first_of-before.result c.reseat.ensures.turns.0 waits last c.in_ok-put.ensures.ok c.first_of-before.ensures c.reseat.ensures.turns.2 c.reseat.ensures.turns.1 x)
