use Rattle.dd_work.proofs.Rounds.{claimed-goes, claimed-leaves, held-answered, one-claim, part-goes, part-leaves, play-goes, play-leaves, target-goes, target-leaves}
use Rattle.dd_work.proofs.work.work_on.Goals as goal

pub returns-in-Claimed-clause-goes : goal.returns-in-Claimed-clause-goes
returns-in-Claimed-clause-goes g c = λ goes before claims.
    let at = c.in-Claimed in
    claimed-goes c.args.budget before c.new-held.new.pass c.finishes.new.pass c.args.claimed at.job at.claim at.request c.outcome_of-outcome.result at.is (held-answered before c.args.pass.now _ c.args.claimed c.new-held.ensures claims.0)
    c.outcome_of-outcome.ensures (c.finishes.ensures.goes goes)

pub returns-in-Claimed-clause-leaves : goal.returns-in-Claimed-clause-leaves
returns-in-Claimed-clause-leaves g c = λ before claims.
    let at = c.in-Claimed in
    claimed-leaves c.args.budget before c.new-held.new.pass c.finishes.new.pass c.args.claimed at.job at.claim at.request c.outcome_of-outcome.result at.is (held-answered before c.args.pass.now _ c.args.claimed c.new-held.ensures claims.0)
    c.outcome_of-outcome.ensures c.finishes.ensures.leaves

pub returns-in-ClaimedTarget-clause-goes : goal.returns-in-ClaimedTarget-clause-goes
returns-in-ClaimedTarget-clause-goes g c = λ goes before claims.
    let at = c.in-ClaimedTarget in
    target-goes c.args.budget before c.new-held-in-ClaimedTarget.new.pass c.finishes-in-ClaimedTarget.new.pass c.args.claimed at.job at.claim at.request c.outcome_of_target-outcome.result at.is (held-answered before c.args.pass.now _ c.args.claimed c.new-held-in-ClaimedTarget.ensures claims.0)
    c.outcome_of_target-outcome.ensures (c.finishes-in-ClaimedTarget.ensures.goes goes)

pub returns-in-ClaimedTarget-clause-leaves : goal.returns-in-ClaimedTarget-clause-leaves
returns-in-ClaimedTarget-clause-leaves g c = λ before claims.
    let at = c.in-ClaimedTarget in
    target-leaves c.args.budget before c.new-held-in-ClaimedTarget.new.pass c.finishes-in-ClaimedTarget.new.pass c.args.claimed at.job at.claim at.request c.outcome_of_target-outcome.result at.is (held-answered before c.args.pass.now _ c.args.claimed c.new-held-in-ClaimedTarget.ensures claims.0)
    c.outcome_of_target-outcome.ensures c.finishes-in-ClaimedTarget.ensures.leaves

pub returns-in-ClaimedPart-clause-goes : goal.returns-in-ClaimedPart-clause-goes
returns-in-ClaimedPart-clause-goes g c = λ goes before claims.
    let at = c.in-ClaimedPart in
    part-goes c.args.budget before c.new-held-in-ClaimedPart.new.pass c.finishes-in-ClaimedPart.new.pass c.args.claimed at.job at.part at.claim at.request c.outcome_of_part-outcome.result at.is (held-answered before c.args.pass.now _ c.args.claimed c.new-held-in-ClaimedPart.ensures claims.0)
    c.outcome_of_part-outcome.ensures (c.finishes-in-ClaimedPart.ensures.goes goes)

pub returns-in-ClaimedPart-clause-leaves : goal.returns-in-ClaimedPart-clause-leaves
returns-in-ClaimedPart-clause-leaves g c = λ before claims.
    let at = c.in-ClaimedPart in
    part-leaves c.args.budget before c.new-held-in-ClaimedPart.new.pass c.finishes-in-ClaimedPart.new.pass c.args.claimed at.job at.part at.claim at.request c.outcome_of_part-outcome.result at.is (held-answered before c.args.pass.now _ c.args.claimed c.new-held-in-ClaimedPart.ensures claims.0)
    c.outcome_of_part-outcome.ensures c.finishes-in-ClaimedPart.ensures.leaves

pub returns-in-ClaimedPlayPart-clause-goes : goal.returns-in-ClaimedPlayPart-clause-goes
returns-in-ClaimedPlayPart-clause-goes g c = λ goes before claims.
    let at = c.in-ClaimedPlayPart in
    play-goes c.args.budget before c.new-held-in-ClaimedPlayPart.new.pass c.finishes-in-ClaimedPlayPart.new.pass c.args.claimed at.job _ at.claim at.position at.side c.outcome_of_play_part-outcome.result at.is (held-answered before c.args.pass.now _ c.args.claimed c.new-held-in-ClaimedPlayPart.ensures claims.0)
    c.outcome_of_play_part-outcome.ensures (c.finishes-in-ClaimedPlayPart.ensures.goes goes)

pub returns-in-ClaimedPlayPart-clause-leaves : goal.returns-in-ClaimedPlayPart-clause-leaves
returns-in-ClaimedPlayPart-clause-leaves g c = λ before claims.
    let at = c.in-ClaimedPlayPart in
    play-leaves c.args.budget before c.new-held-in-ClaimedPlayPart.new.pass c.finishes-in-ClaimedPlayPart.new.pass c.args.claimed at.job _ at.claim at.position at.side c.outcome_of_play_part-outcome.result at.is (held-answered before c.args.pass.now _ c.args.claimed c.new-held-in-ClaimedPlayPart.ensures claims.0)
    c.outcome_of_play_part-outcome.ensures c.finishes-in-ClaimedPlayPart.ensures.leaves

pub returns-in_default-clause-leaves : goal.returns-in_default-clause-leaves
returns-in_default-clause-leaves g c = λ before claims. one-claim c.args.budget before c.args.pass.now c.args.claimed claims.0 claims.1
