-- What the worker is told of a search that was given up.
use Rattle.dd_book.specs.declared.call.Call.TheVariants.{Finish}
use Rattle.dd_work.proofs.Rounds.{may-go-on}
use Rattle.dd_work.proofs.work.finishes.Goals as goal

-- it is told that the part was no longer its own
pub returns-else-not-stopped-clause-goes : goal.returns-else-not-stopped-clause-goes
returns-else-not-stopped-clause-goes g c late =
    may-go-on c.args.pass.now c.finish-told.new.pass (Finish c.args.pass.now.number c.args.job c.args.claim c.args.outcome) c.in-Ok.reply c.in-Ok.ensures
    (λ stopped. c.is_late.ensures late)
