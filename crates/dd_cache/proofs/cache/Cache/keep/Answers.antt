use Rattle.std.proofs.Common.{ap, sym, ◌∙◌, subst}
use Rattle.dd_rank.specs.Strings.{ShapeOf}
use Rattle.dd_rank.proofs.CallerLemmas.{shapes-tell}
use Rattle.dd_cache.specs.StoredBounds.{IsSound, PageOf}
use Rattle.dd_cache.proofs.cache.Cache.keep.Goals as goal
use Rattle.dd_cache.proofs.cache.Cache.keep.Goals.{in-Some-get_mut+in-Err, in_default-get_mut, in_default-get_mut-2, in-None-1}

-- What goes onto a new page is what was to be kept: a page gave it back, or none was asked.
pub new-requires : goal.new-requires
new-requires g c = elim c.match-get_mut-2.branch [
  | in-Some-get_mut+in-Err w ↦ subst (IsSound c.args.shape) (sym (w.new-is ∙ w.in-Err.ensures.back)) c.requires
  | in_default-get_mut w ↦ subst (IsSound c.args.shape) (sym w.new-is) c.requires
  | in_default-get_mut-2 w ↦ subst (IsSound c.args.shape) (sym w.new-is) c.requires
  | in-None-1 w ↦ subst (IsSound c.args.shape) (sym w.new-is) c.requires
]

-- The page is of the shape.
pub keep-requires : goal.keep-requires
keep-requires g c = subst (λ (s : ShapeOf). IsSound s c.args.new)
    (sym ((shapes-tell c.shape.result c.args.shape).0 (sym c.eq.ensures ∙ c.if-eq.true)) ∙ c.shape.ensures ∙ ap (λ (p : PageOf). p.shape) (sym c.remember.ensures)) c.requires
