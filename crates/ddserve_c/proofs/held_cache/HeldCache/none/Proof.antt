-- `none` is a pointer to nothing, and keeps nothing.
use Rattle.std.proofs.Common.{[], ◌∷◌, refl, lit<}
use types.Kit.{raw, ◌$◌, ◌∵◌, !, qed, drop, join, suffices, done}
use types.Run.{enter, no_more, and_then, lit, returns}
use types.ByLocal.{alloc_all, pass_all, free_all, look_at, sets}
use types.Part.{agg}
use denote.RawPtr.{null_ptr}
use denote.Steps.{nothing}
use denote.Triple.Entry.{on_entry}
use denote.Triple.Walked.{says, Stays, ends_at}
use Rattle.std.proofs.raw_atomic.Walks.{proved}
use Rattle.std.specs.Prelude.{None}
use Rattle.ddserve_c.proofs.HeldSteps.{word, held_in}
use Rattle.ddserve_c.specs.contracts.held_cache.HeldCache.none as f
use Rattle.ddserve_c.proofs.held_cache.HeldCache.none.Statement.{statement}
use Rattle.ddserve_c.proofs.held_cache.HeldCache.none.Code as code

abbrev stayed : Stays f.ended.signature.params f.ended.kept
stayed = tt

pub none_spec : {M : Type 1} → statement M
none_spec 𝓤 𝓛 𝓜 𝓡 wired =
    let c = f.clauses 𝓛 𝓜.mem 𝓡.returns in
    proved 𝓛 f.ended stayed c 𝓜 𝓡 tt f.Key.name code.function (code.unfolded 𝓤 𝓛.H 𝓜 𝓡 wired)
    (λ κs. tt) (λ κs. tt) (λ κs qs bounds a g are.
    qed 𝓛 (raw (on_entry 𝓛 f.signature κs qs a tt) ∷ raw ((c κs a).requires g) ∷ []) ∵ drop ! $ drop ! $
    enter ! _ _ _ _ _ $ alloc_all ! (λ l. pass_all ! refl tt $
    sets ! (agg ! (and_then ! (lit ! tt) (no_more !))) refl (tt, (record { fits = lit< tt }, tt)) $
    returns ! (look_at ! 0 refl) $ free_all ! refl $
    suffices ! _ (ends_at 𝓛 f.ended stayed c ((κs, qs, bounds, a, tt), g) (word null_ptr) (record { at = null_ptr; kept = None }) tt tt) $ says ! refl $
    nothing ! $ held_in ! null_ptr None $ nothing ! $ join ! $ nothing ! $ join ! $ done !))
