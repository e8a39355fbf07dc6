use Rattle.std.proofs.Common.{ap}
use Rattle.dd_table.specs.Places.{shard_of}
use Rattle.dd_table.proofs.Meeting.{slot-same, shard-same}
use Rattle.dd_table.proofs.laws.alike_positions_meet.Goals as goal

pub returns-clause-slots : goal.returns-clause-slots
returns-clause-slots c = λ p q valid_p valid_q a.
    slot-same p q ((c.alike_strings.ensures.alike p q valid_p valid_q a.3.start_p a.3.start_q).0 a)

pub returns-clause-shards : goal.returns-clause-shards
returns-clause-shards c = λ count p q valid_p valid_q a.
    shard-same count p q ((c.alike_strings.ensures.alike p q valid_p valid_q a.3.start_p a.3.start_q).0 a)

pub returns-clause-covers : goal.returns-clause-covers
returns-clause-covers c = λ count depths p q valid_p valid_q a.
    ap (shard_of count) (c.covered_positions.ensures.shapes p q depths valid_p valid_q a)
