use Rattle.std.proofs.Common.{ℕ, ◌+◌, arith, set, take, length-set, sym, ◌∙◌, subst, inl, inr}
use Rattle.std.specs.List.{Contains}
use Rattle.dd_cache.specs.StoredBounds.{StoredBoundsOf, PageOf, IsSound, AreSound, StandsNeedless, Keeps}
use Rattle.dd_cache.proofs.Lists.{set-has}
use Rattle.dd_cache.proofs.Pages.{keeps-set, keeps-push}
use Rattle.dd_cache.proofs.page.Page.keep.Goals as goal

-- a page on which one of the bounds is written anew
written : (page : PageOf) (place : ℕ) (new : StoredBoundsOf) → AreSound page → IsSound page.shape new → (t : StoredBoundsOf) → Contains (set page.told place new) t → IsSound page.shape t
written page place new sound one t has = elim (set-has page.told place new t has) [ inl old ↦ sound t old | inr same ↦ subst (IsSound page.shape) same one ]

pub invariant_of-self : goal.invariant_of-self
invariant_of-self c = (
  length-set c.self.inside.told c.in-Some.place c.args.new ∙ c.self.invariant.0,
  c.self.invariant.1,
  written (record { shape = record { strain = c.self.inside.strain; lengths = c.self.inside.lengths }; told = c.self.inside.told }) c.in-Some.place c.args.new c.self.invariant.2 (subst (λ (p : PageOf). IsSound p.shape c.args.new) (sym c.self.view_is) c.requires),
)

pub invariant_of-self-2 : goal.invariant_of-self-2
invariant_of-self-2 c = (
  length-set c.self.inside.told c.self.inside.count c.args.new ∙ c.self.invariant.0,
  omega arith,
  written (record { shape = record { strain = c.self.inside.strain; lengths = c.self.inside.lengths }; told = c.self.inside.told }) c.self.inside.count c.args.new c.self.invariant.2 (subst (λ (p : PageOf). IsSound p.shape c.args.new) (sym c.self.view_is) c.requires),
)

pub returns-in-Some-clause-ok : goal.returns-in-Some-clause-ok
returns-in-Some-clause-ok c =
    subst (λ (p : PageOf). Keeps p.told (take c.self.inside.count (set c.self.inside.told c.in-Some.place c.args.new)) c.args.new) c.self.view_is
    (keeps-set c.self.inside.told c.self.inside.count c.in-Some.place c.args.new
    (let l = c.self.invariant.0 in let few = c.self.invariant.1 in omega (arith, l, few))
    (subst (λ (p : PageOf). StandsNeedless c.args.new p.told c.in-Some.place) (sym c.self.view_is) c.in-Some.ensures))

pub returns-clause-ok : goal.returns-clause-ok
returns-clause-ok c =
    subst (λ (p : PageOf). Keeps p.told (take (c.self.inside.count + 1) (set c.self.inside.told c.self.inside.count c.args.new)) c.args.new) c.self.view_is
    (keeps-push c.self.inside.told c.self.inside.count c.args.new (let l = c.self.invariant.0 in omega (arith, l)))
