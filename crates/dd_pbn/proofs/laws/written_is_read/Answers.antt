use Rattle.dd_pbn.specs.Deals.{text_of_deal}
use Rattle.dd_pbn.proofs.Decided.{one-deal}
use Rattle.dd_pbn.proofs.Written.{written-spells}
use Rattle.dd_pbn.proofs.laws.written_is_read.Goals as goal

pub returns-clause-spells : goal.returns-clause-spells
returns-clause-spells c = written-spells

pub returns-clause-only : goal.returns-clause-only
returns-clause-only c deal other are others spells = one-deal (text_of_deal deal) other deal others are spells (written-spells deal are)
