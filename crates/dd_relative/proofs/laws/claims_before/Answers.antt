use Rattle.dd_relative.proofs.Claims.{leaders-before, others-before}
use Rattle.dd_relative.proofs.laws.claims_before.Goals as goal

pub returns-clause-leaders : goal.returns-clause-leaders
returns-clause-leaders c = λ p q later cards n real real_before valid relative alike top before.
    leaders-before p q later cards n (record { valid = valid; relative = relative; alike = alike; top = top; real = real; real_before = real_before; before = before })
    c.one_relative_start.ensures.one c.alike_claims.ensures.leaders

pub returns-clause-others : goal.returns-clause-others
returns-clause-others c = λ p q later cards n real real_before valid relative alike top before.
    others-before p q later cards n (record { valid = valid; relative = relative; alike = alike; top = top; real = real; real_before = real_before; before = before })
    c.one_relative_start.ensures.one c.alike_claims.ensures.others
