use Rattle.std.proofs.Common.{ap}
use Rattle.dd_rank.specs.Strings.{hash_in}
use Rattle.dd_rank.proofs.Alikes.{alike-strings, strings-tell, shapes-tell}
use Rattle.dd_rank.proofs.laws.alike_strings.Goals as goal

pub returns-clause-alike : goal.returns-clause-alike
returns-clause-alike c = alike-strings

pub returns-clause-keys : goal.returns-clause-keys
returns-clause-keys c = strings-tell

pub returns-clause-hashed : goal.returns-clause-hashed
returns-clause-hashed c = λ x y h. ap hash_in ((strings-tell x y).0 h)

pub returns-clause-shapes : goal.returns-clause-shapes
returns-clause-shapes c = shapes-tell
