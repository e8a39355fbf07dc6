use Rattle.std.proofs.Common.{refl, arith, sym, subst, [], ◌∷◌}
use mathlib.Core.Path.{ap₂}
use Rattle.dd_cache.specs.StoredBounds.{IsSound}
use Rattle.dd_rank.specs.Strings.{ShapeOf}
use Rattle.dd_cache.proofs.Lists.{only-that}
use Rattle.dd_cache.proofs.page.Page.new.Goals as goal

-- Each of a new page's bounds is the first.
pub invariant_of-result : goal.invariant_of-result
invariant_of-result c = (
  refl,
  omega arith,
  λ t has.
      subst (λ (s : ShapeOf). IsSound s t) (ap₂ (λ x y. record { strain = x; lengths = y }) (sym c.strain.ensures) (sym c.lengths.ensures))
      (subst (IsSound c.args.shape) (only-that c.args.first t (c.copy.result ∷ c.copy-2.result ∷ c.copy-3.result ∷ c.copy-4.result ∷ c.copy-5.result ∷ c.copy-6.result ∷ c.copy-7.result ∷ c.args.first ∷ []) (c.copy.ensures, (c.copy-2.ensures, (c.copy-3.ensures, (c.copy-4.ensures, (c.copy-5.ensures, (c.copy-6.ensures, (c.copy-7.ensures, (refl, tt)))))))) has) c.requires),
)
