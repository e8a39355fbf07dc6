use Rattle.dd_book.proofs.Seats.{job-claimed, place-roomy, was-there}
use Rattle.dd_book.proofs.owners.Owners.claim.Goals as goal

pub reseat-requires-clause-is : goal.reseat-requires-clause-is
reseat-requires-clause-is c = λ p h.
    place-roomy c.requires.kept.0 c.args.self.now.waiting c.args.self.now.last_turns c.args.self.now.turns c.args.owner p c.requires.kept.1
    (was-there c.args.self.now.waiting c.keep.new.waiting c.args.owner c.args.place p c.args.waits c.keep.ensures c.requires.waited h)

pub returns : goal.returns
returns c = λ jobs was job here own same last waits x.
    rw (c.reseat.ensures.waiting, c.reseat.ensures.last_turns)
    (job-claimed jobs c.args.place c.args.owner was job here own same c.args.self.now.waiting c.keep.new.waiting c.args.self.now.last_turns c.raise.new.counts c.args.self.now.turns c.reseat.new.self.turns c.args.claim c.args.waits
    c.first_of-before.result c.reseat.ensures.turns.0 waits last c.keep.ensures c.raise.ensures.raised c.raise.ensures.kept c.raise.ensures.alone c.first_of-before.ensures c.reseat.ensures.turns.2 c.reseat.ensures.turns.1 x)
