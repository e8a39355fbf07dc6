use Rattle.std.proofs.Common.{◌∙◌, ap, sym}
use Rattle.dd_request.specs.declared.asked.Asked.TheVariants.{Target}
use Rattle.dd_request.proofs.CallerLemmas.{same_target-is}
use Rattle.dd_book.proofs.job.Job.finish_target.Goals as goal

pub invariant_of-self : goal.invariant_of-self
invariant_of-self c = c.in-Target.is ∙ ap Target (same_target-is _ _ (sym c.eq.ensures ∙ c.if-eq.true) ∙ c.request.ensures)
