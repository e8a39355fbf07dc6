use Rattle.std.proofs.Common.{false}
use Rattle.dd_book.proofs.Seats.{job-stopped}
use Rattle.dd_book.proofs.owners.Owners.end.Goals as goal

pub returns : goal.returns
returns c = λ jobs was job here own same last waits x.
    rw (c.reseat.ensures.waiting, c.reseat.ensures.last_turns)
    (job-stopped jobs c.args.place c.args.owner was job here own same c.args.self.now.waiting c.take.new.waiting c.args.self.now.last_turns c.args.self.now.turns c.reseat.new.self.turns false
    c.first_of-before.result c.reseat.ensures.turns.0 waits last c.take.ensures c.first_of-before.ensures c.reseat.ensures.turns.2 c.reseat.ensures.turns.1 x)
