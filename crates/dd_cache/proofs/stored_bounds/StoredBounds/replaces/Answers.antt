use Rattle.std.proofs.Common.{Bool, true, false, refl, subst}
use Rattle.std.specs.Prelude.{◌&&◌}
use Rattle.std.specs.Bool.{IsTrue}
use Rattle.std.proofs.lemmas.Bool.{leb-true}
use Rattle.dd_cache.specs.StoredBounds.{StoredBoundsOf, MakesNeedless}
use Rattle.dd_cache.proofs.stored_bounds.StoredBounds.replaces.Goals as goal

-- where both are true each is
first : (a b : Bool) → IsTrue (a && b) → IsTrue a
first true b h = refl
first false b h = absurd (cc)

second : (a b : Bool) → IsTrue (a && b) → IsTrue b
second true b h = h
second false b h = absurd (cc)

pub returns : goal.returns
returns c = λ h.
    let bounds = first _ _ h in
    subst (λ (v : StoredBoundsOf). MakesNeedless v c.args.other.now) c.self.view_is
    (subst (λ (v : StoredBoundsOf). MakesNeedless (record { firsts = c.self.inside.firsts; interval = c.self.inside.interval }) v) c.other.view_is (record {
      lo = leb-true _ _ (first _ _ bounds);
      hi = leb-true _ _ (second _ _ bounds);
      firsts = c.include.ensures.0 (second _ _ h);
    }))
