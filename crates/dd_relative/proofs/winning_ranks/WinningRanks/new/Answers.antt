use Rattle.std.proofs.Common.{◌≡◌, true, false, sym, ap, ◌∙◌}
use Rattle.dd_cards.specs.Cards.{has_card}
use Rattle.dd_relative.proofs.winning_ranks.WinningRanks.new.Goals as goal

pub invariant_of-result : goal.invariant_of-result
invariant_of-result c = λ a b h suit less most. absurd (let no : false ≡ true = sym (ap (λ cards. has_card cards a) c.new.ensures) ∙ h in cc)
