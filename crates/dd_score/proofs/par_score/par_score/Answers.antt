use Rattle.std.proofs.Common.{◌≡◌, ℕ, ◌-◌, ◌*◌, ◌≤◌, List, ℤ, ◌∙◌, ap, rules, SFits, w16, to_z-of_z, arith}
use Rattle.dd_score.specs.declared.order.Order.{Order}
use Rattle.dd_score.specs.declared.vulnerable.Vulnerable.{Vulnerable}
use Rattle.dd_score.specs.Stands.{stands}
use Rattle.dd_score.proofs.ParLemmas.{par-stands, none-stands, more-stands}
use Rattle.dd_score.proofs.par_score.par_score.Goals as goal

pub loop-level-init : goal.loop-level-init
loop-level-init c = none-stands _ _ _

pub loop-level-preserved : goal.loop-level-preserved
loop-level-preserved c =
    let fits : SFits w16 c.level_offered-score.result = search rules in
    to_z-of_z fits
    ∙ more-stands c.args.worths.now.tricks c.args.worths.now.vulnerable c.args.order c.loop-level.level _ _ c.level_offered-score.result (search rules)
    c.asked-asked.ensures c.loop-level.invariant c.level_offered-score.ensures

-- all levels' bids stand when the loop ends
all : (level : ℕ) (order : Order) (table : List (List ℕ)) (vulnerable : Vulnerable) (score : ℤ) → 8 ≤ level → level ≤ 8
    → score ≡ stands table vulnerable order (5 * (level - 1)) → score ≡ stands table vulnerable order 35
all level order table vulnerable score low high so =
    let last : 5 * (level - 1) ≡ 35 = omega arith in
    so ∙ ap (stands table vulnerable order) last

pub returns-clause-stands : goal.returns-clause-stands
returns-clause-stands c = all c.loop-level.level c.args.order c.args.worths.now.tricks c.args.worths.now.vulnerable _ (omega arith) (omega arith) c.loop-level.invariant

pub returns-clause-par : goal.returns-clause-par
returns-clause-par c =
    par-stands c.args.worths.now.tricks c.args.worths.now.vulnerable c.args.order _
    (all c.loop-level.level c.args.order c.args.worths.now.tricks c.args.worths.now.vulnerable _ (omega arith) (omega arith) c.loop-level.invariant)
