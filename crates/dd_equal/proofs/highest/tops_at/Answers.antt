use Rattle.std.proofs.Common.{◌∙◌}
use Rattle.dd_equal.proofs.HeadCards.{tops-heads}
use Rattle.dd_equal.proofs.highest.tops_at.Goals as goal

pub returns : goal.returns
returns c = c.heads.ensures ∙ tops-heads c.args.position.now c.choices_at.result c.others_at.result c.choices_at.ensures.cards c.others_at.ensures
