use Rattle.dd_file.proofs.WovenLemmas.{HasLines-from}
use Rattle.dd_file.proofs.laws.filling_keeps_the_file.Goals as goal

pub returns : goal.returns
returns c = λ wanted answers file. HasLines-from wanted answers _ _ _ file
