use Rattle.dd_relative.proofs.Ranked.{covers-tops}
use Rattle.dd_relative.proofs.laws.covered_starts.Goals as goal

pub returns : goal.returns
returns c = covers-tops
