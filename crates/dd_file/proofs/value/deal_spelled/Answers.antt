use Rattle.dd_file.proofs.Spelled.{outcome-spelled}
use Rattle.dd_file.proofs.value.deal_spelled.Goals as goal

pub returns : goal.returns
returns c = outcome-spelled c.args.text.now c.read_deal.result c.read_deal.ensures.read c.read_deal.ensures.hands c.read_deal.ensures.fault
