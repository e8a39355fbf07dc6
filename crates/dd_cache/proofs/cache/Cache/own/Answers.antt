use Rattle.std.proofs.Common.{◌≡◌, sym, ap, ◌∙◌, subst}
use Rattle.dd_rank.specs.Strings.{ShapeOf, shape_in}
use Rattle.dd_cache.specs.StoredBounds.{StoredBoundsOf, IsSound}
use Rattle.dd_cache.proofs.cache.Cache.own.Goals as goal

pub returns-in-Some-clause-told : goal.returns-in-Some-clause-told
returns-in-Some-clause-told g c =
    let same = (c.alike_strings.ensures.shapes c.shape.result c.shape-shape.result).0 (sym c.eq.ensures ∙ c.if-eq.true) in
    let shape : c.in_ok-page.page.now.shape ≡ shape_in c.args.strings.now = sym c.shape.ensures ∙ same ∙ c.shape-shape.ensures in (
      c.in-Some.told.now,
      subst (λ (s : ShapeOf). IsSound s c.in-Some.told.now) shape c.in-Some.ensures.sound,
      c.in-Some.ensures.firsts,
      sym (c.depths.ensures ∙ ap (λ (t : StoredBoundsOf). t.firsts.depths) c.told.view_is),
      sym (ap (λ (t : StoredBoundsOf). t.interval) c.told.view_is),
    )
