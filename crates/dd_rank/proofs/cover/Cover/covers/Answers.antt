use Rattle.std.proofs.Common.{sym, ap, ◌∙◌, bit_and, nat_eq, subst}
use Rattle.std.specs.Prelude.{◌&&◌, ◌↔◌, IsTrue}
use Rattle.dd_rank.specs.Cover.{CoverOf}
use Rattle.dd_rank.specs.Depths.{Covers, depth_in}
use Rattle.dd_rank.specs.Strings.{shape_of, shape_in}
use Rattle.dd_rank.proofs.Packed.{covers-tested}
use Rattle.dd_rank.proofs.cover.Cover.covers.Goals as goal

pub returns : goal.returns
returns c = λ q valid start is.
    let shape = ap shape_in (sym is) ∙ c.requires ∙ ap (λ (v : CoverOf). shape_of v.board) (sym c.self.view_is) in
    subst (λ (v : CoverOf). IsTrue (c.are_in.result && c.are_in-2.result && c.are_in-3.result && c.are_in-4.result) ↔ Covers v.board (depth_in v.depths) q) c.self.view_is
    (covers-tested c.self.inside c.args.strings.now q c.are_in.result c.are_in-2.result c.are_in-3.result c.are_in-4.result c.self.invariant is shape valid start
    (c.are_in.ensures ∙ ap (λ n. nat_eq (bit_and n c.self.inside.spades.mask) c.self.inside.spades.owners) c.suit.ensures)
    (c.are_in-2.ensures ∙ ap (λ n. nat_eq (bit_and n c.self.inside.hearts.mask) c.self.inside.hearts.owners) c.suit-2.ensures)
    (c.are_in-3.ensures ∙ ap (λ n. nat_eq (bit_and n c.self.inside.diamonds.mask) c.self.inside.diamonds.owners) c.suit-3.ensures)
    (c.are_in-4.ensures ∙ ap (λ n. nat_eq (bit_and n c.self.inside.clubs.mask) c.self.inside.clubs.owners) c.suit-4.ensures))
