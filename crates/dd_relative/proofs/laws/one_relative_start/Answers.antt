use Rattle.dd_relative.proofs.Ranked.{alike-same, one-start}
use Rattle.dd_relative.proofs.laws.one_relative_start.Goals as goal

pub returns-clause-alone : goal.returns-clause-alone
returns-clause-alone c = λ p q relative_p relative_q. alike-same p q relative_p relative_q (λ depths. c.covered_positions.ensures.full p q depths relative_p.board relative_q.board)

pub returns-clause-one : goal.returns-clause-one
returns-clause-one c = λ p q r valid start relative_q relative_r.
    one-start p q r valid start relative_q relative_r c.alike_strings.ensures.alike (λ depths. c.covered_positions.ensures.full q r depths relative_q.board relative_r.board)
