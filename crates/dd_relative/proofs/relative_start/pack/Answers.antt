use Rattle.std.proofs.Common.{◌∙◌}
use Rattle.dd_relative.proofs.Packs.{pack-cards, pack-mask}
use Rattle.dd_relative.proofs.relative_start.pack.Goals as goal

pub of_mask-requires : goal.of_mask-requires
of_mask-requires c = pack-mask

pub returns : goal.returns
returns c = c.of_mask.ensures ∙ pack-cards
