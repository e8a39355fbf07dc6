use Rattle.std.proofs.Common.{◌≡◌, ◌∙◌, ◌++◌, ◌∷◌, [], ap, sym, arith, bit_and, ◌-◌, ◌<◌}
use Rattle.dd_cards.specs.Masks.{ranks_of}
use Rattle.dd_cards.proofs.Masks.{IsMask-and}
use Rattle.dd_cards.proofs.RankLists.{ranks_of-zero}
use Rattle.dd_cards.proofs.Lowest.{lowest-rank, ranks_of-lowest}
use Rattle.dd_cards.proofs.holding.Holding.pop_lowest.Goals as goal

pub returns-then-self-eq0 : goal.returns-then-self-eq0
returns-then-self-eq0 c =
    let none = sym c.self.view_is ∙ ap ranks_of c.if-self-eq0.true ∙ ranks_of-zero in
    (none, none)

pub of-lowest-requires : goal.of-lowest-requires
of-lowest-requires c = lowest-rank c.self.inside.mask c.self.invariant (let h = c.if-self-eq0.false in omega (arith, h))

pub invariant_of-self : goal.invariant_of-self
invariant_of-self c = IsMask-and _ _ c.self.invariant

pub returns : goal.returns
returns c =
    let some : 0 < c.self.inside.mask = (let h = c.if-self-eq0.false in omega (arith, h)) in
    sym c.self.view_is ∙ ranks_of-lowest c.self.inside.mask c.self.invariant some ∙ ap (λ r. ranks_of (bit_and c.self.inside.mask (c.self.inside.mask - 1)) ++ r ∷ []) (sym c.of-lowest.ensures)
