use Rattle.std.proofs.Common.{◌<◌, arith, false, length, subst, true}
use Rattle.dd_book.specs.Waiting.{IsFirstPlace, SetsOnly}
use Rattle.dd_book.proofs.Seats.{job-dropped, job-pushed, place-roomy, put-roomy}
use Rattle.dd_book.proofs.owners.Owners.add.Goals as goal

pub reseat-requires-clause-was : goal.reseat-requires-clause-was
reseat-requires-clause-was c = λ p is.
    place-roomy c.requires.0 c.args.self.now.waiting c.args.self.now.last_turns c.args.self.now.turns c.args.owner p c.requires.2
    (subst (λ o. IsFirstPlace c.args.self.now.waiting c.args.owner o) is c.first_of-before.ensures).0

pub reseat-requires-clause-is : goal.reseat-requires-clause-is
reseat-requires-clause-is c = λ p there.
    put-roomy c.requires.0 c.args.self.now.waiting c.put.new.waiting c.args.self.now.last_turns c.args.self.now.turns c.args.owner c.args.place p c.requires.2 c.requires.1 c.in_ok-put.ensures.ok there

pub returns-in-Err-clause-err : goal.returns-in-Err-clause-err
returns-in-Err-clause-err c = λ jobs end x.
    job-dropped jobs c.args.self.now.waiting c.put.new.waiting c.take.new.waiting c.args.self.now.last_turns c.know.new.counts c.args.self.now.turns c.args.owner
    (subst (λ n. SetsOnly c.args.self.now.waiting c.put.new.waiting c.args.owner n true) end c.in_ok-put.ensures.ok)
    (subst (λ n. SetsOnly c.put.new.waiting c.take.new.waiting c.args.owner n false) end c.take.ensures)
    c.know.ensures.kept c.in-Err.ensures.err x

pub returns-clause-pushed : goal.returns-clause-pushed
returns-clause-pushed c = λ jobs job end same turn waits x.
    let room : length jobs < length c.args.self.now.turns = omega (arith, end, c.requires.1) in
    rw (c.reseat.ensures.waiting, c.reseat.ensures.last_turns)
    (job-pushed jobs c.args.owner job same c.args.self.now.waiting c.put.new.waiting c.args.self.now.last_turns c.know.new.counts c.args.self.now.turns c.reseat.new.self.turns c.args.claims
    c.first_of-before.result c.reseat.ensures.turns.0 waits turn room c.in_default.ensures.known c.know.ensures.kept c.know.ensures.alone c.know.ensures.had c.in_default.ensures.begun
    (subst (λ n. SetsOnly c.args.self.now.waiting c.put.new.waiting c.args.owner n true) end c.in_ok-put.ensures.ok)
    c.first_of-before.ensures c.reseat.ensures.turns.2 c.reseat.ensures.turns.1 x)
