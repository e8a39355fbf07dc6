use Rattle.dd_play.proofs.ClaimRules.{nothing, fewer, one-card, every-card, one-trick, both, all, exactly, bounds}
use Rattle.dd_play.proofs.laws.claims.Goals as goal

pub returns-clause-nothing : goal.returns-clause-nothing
returns-clause-nothing c = nothing

pub returns-clause-fewer : goal.returns-clause-fewer
returns-clause-fewer c = fewer

pub returns-clause-one_card : goal.returns-clause-one_card
returns-clause-one_card c = one-card

pub returns-clause-every_card : goal.returns-clause-every_card
returns-clause-every_card c = every-card

pub returns-clause-trick_for : goal.returns-clause-trick_for
returns-clause-trick_for c = one-trick

pub returns-clause-both : goal.returns-clause-both
returns-clause-both c = both

pub returns-clause-all : goal.returns-clause-all
returns-clause-all c = all

pub returns-clause-exactly : goal.returns-clause-exactly
returns-clause-exactly c = exactly

pub returns-clause-bounds : goal.returns-clause-bounds
returns-clause-bounds c = bounds
