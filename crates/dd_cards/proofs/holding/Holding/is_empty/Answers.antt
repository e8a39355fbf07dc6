use Rattle.std.proofs.Common.{◌∙◌, sym, ap, eq-eqb}
use Rattle.std.proofs.lemmas.Bool.{eqb-true}
use Rattle.dd_cards.specs.Masks.{ranks_of, mask_of}
use Rattle.dd_cards.specs.MaskLaws.{mask_of-ranks}
use Rattle.dd_cards.proofs.RankLists.{ranks_of-zero}
use Rattle.dd_cards.proofs.holding.Holding.is_empty.Goals as goal

pub returns : goal.returns
returns c = (
  λ t. sym c.self.view_is ∙ ap ranks_of (eqb-true _ _ t) ∙ ranks_of-zero,
  λ e. eq-eqb _ _ (sym (mask_of-ranks _ c.self.invariant) ∙ ap mask_of (c.self.view_is ∙ e)),
)
