use Rattle.std.proofs.Common.{Bool, true, false, subst}
use Rattle.std.specs.Prelude.{◌&&◌}
use Rattle.std.specs.Bool.{IsTrue}
use Rattle.dd_rank.specs.FirstOwners.{AreFirst}
use Rattle.dd_cache.specs.StoredBounds.{StoredBoundsOf}
use Rattle.dd_cache.proofs.stored_bounds.StoredBounds.answers.Goals as goal

-- where both are true the second is
second : (a b : Bool) → IsTrue (a && b) → IsTrue b
second true b h = h
second false b h = absurd (cc)

pub returns-clause-firsts : goal.returns-clause-firsts
returns-clause-firsts c = λ h. subst (λ (v : StoredBoundsOf). AreFirst v.firsts c.args.strings.now) c.self.view_is (c.are_in-holds.ensures.0 (second _ _ h))
