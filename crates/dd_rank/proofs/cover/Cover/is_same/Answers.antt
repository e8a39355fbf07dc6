use Rattle.std.proofs.Common.{sym, ap, ◌∙◌}
use Rattle.dd_rank.specs.Cover.{CoverOf}
use Rattle.dd_rank.specs.Strings.{shape_of}
use Rattle.dd_rank.proofs.Packed.{same-tested}
use Rattle.dd_rank.proofs.cover.Cover.is_same.Goals as goal

pub returns : goal.returns
returns c =
    let shape = ap (λ (v : CoverOf). shape_of v.board) c.other.view_is ∙ c.requires ∙ ap (λ (v : CoverOf). shape_of v.board) (sym c.self.view_is) in
    rw (← c.self.view_is, ← c.other.view_is)
    (same-tested c.self.inside c.other.inside c.is_same.result c.is_same-2.result c.is_same-3.result c.is_same-4.result c.self.invariant c.other.invariant shape
    c.is_same.ensures c.is_same-2.ensures c.is_same-3.ensures c.is_same-4.ensures)
