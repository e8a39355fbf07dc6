-- `into_parts` moves the pointer, and what it owns goes with it.
use mathlib.Core.Path.{refl, sym, subst, ap, ◌∙◌}
use mathlib.Core.List.{List, [], ◌∷◌, ◌++◌}
use seplogic.Ra.Ura.{Ura}
use mir.Raw.{raw as bare}
use mir.Val.{Val}
use base.Logic.{SProp, ent, id⊢, never, fst∗}
use base.Fml.{ftrue, fsep}
use prog.Memory.{Memory}
use prog.Routine.{Routine}
use prog.Wp.{WpFn, Tables}
use types.Logic.{Logic, sem}
use contract.Monad.{Fun, fact}
use contract.Running.{tables, tables_of}
use sound.WpLaws.{WpFn-mono}
use types.Kit.{‵, raw, ◌⊛◌, ◌$◌, ◌∵◌, !, qed, move, drop, use1, join, split, fsplit, fjoin, rewrite, suffices, done}
use types.Part.{whole, sub, agg}
use types.Run.{stop, fld, no_more, and_then, of_opd, returns, enter}
use types.ByLocal.{alloc_all, pass_all, free_all, look_at, get, get_in, sets}
use denote.Exit.{yes}
use denote.Memory.{lone}
use denote.RawPtr.{Ptr, block_ptr, null_ptr, in_a_block}
use denote.Signature.{type_at}
use denote.Steps.{heard, nothing}
use denote.Triple.Spec.{triple_of}
use denote.Triple.Table.{entered}
use denote.Triple.Walked.{says, Stays, stay_dropped, walk_of, ends_at, Goes-dropped, walk_Meets}
use Rattle.core.proofs.alloc.Calls.{token, handle_tells}
use Rattle.std.specs.Prelude.{Option, IsSome}
use Rattle.std_alloc.specs.Box.Ownership.{box_owns}
use Rattle.std_alloc.proofs.BoxSteps.Form.{D, R, word, box_typed}
use Rattle.std_alloc.proofs.BoxSteps.Steps.{box_in}
use Rattle.ddserve_c.proofs.AsBox.{E, FromHeld, FromGlobal}
use Rattle.ddserve_c.proofs.HeldSteps.{held_out, kept_value}
use Rattle.ddserve_c.proofs.HeldSteps.{word as held_word}
use Rattle.ddserve_c.specs.Kept.{kept_owns}
use Rattle.ddserve_c.specs.contracts.held_cache.HeldCache as held
use Rattle.ddserve_c.specs.contracts.held_cache.HeldCache.into_parts as F
use Rattle.ddserve_c.specs.contracts.held_cache.HeldCache.into_parts.Key.{name as #self}
use Rattle.ddserve_c.proofs.held_cache.HeldCache.into_parts.Statement as stated
use Rattle.ddserve_c.proofs.held_cache.HeldCache.into_parts.Code as code

abbrev stayed : Stays (F.ended).signature.params (F.ended).kept
stayed = (stay_dropped FromHeld yes, (stay_dropped FromGlobal yes, tt))

module _ {M : Type 1} {𝓤 : Ura M} (𝓛 : Logic 𝓤) (at_mem : Memory → SProp 𝓤) (run : Routine → Fun 𝓤) (𝓣 : Tables 𝓤 𝓛.H) where
  open 𝓛 use {H}

  walk : (z : (walk_of 𝓛 F.ended stayed (F.clauses 𝓛 at_mem run)).Ghost)
      → ent 𝓤 ((walk_of 𝓛 F.ended stayed (F.clauses 𝓛 at_mem run)).pre z) (WpFn 𝓤 H 𝓣.C 𝓣.Λ code.function (z.0.4.0 ++ (z.0.4.1.0 ++ [])) ((walk_of 𝓛 F.ended stayed (F.clauses 𝓛 at_mem run)).post z))
  walk z =
      let Post = (walk_of 𝓛 F.ended stayed (F.clauses 𝓛 at_mem run)).post z in
      let Run : List Val → SProp 𝓤 = λ us. WpFn 𝓤 H 𝓣.C 𝓣.Λ code.function us Post in
      let d = z.0.3.0 in let a = z.0.3.1.0 in
      let To = type_at (F.signature).result tt in
      qed 𝓛 ((‵ ftrue ⊛ ‵ (fsep (held.the_row.own_val d z.0.4.0) (fsep (E.al.row.own_val a z.0.4.1.0) ftrue))) ∷ raw (fact 𝓤 (IsSome d.kept)) ∷ []) ∵ split ! $ drop ! $ move ! (1 ∷ []) $ heard ! (IsSome d.kept) (λ some. let kept = kept_value d.kept some in let x = kept.0 in let is = kept.1 in fsplit ! $
      held_out ! d z.0.4.0 (λ ws. rewrite ! 0 (λ (k : Option E.row.Denot). ‵ (kept_owns d.at k)) is refl $
      in_a_block ! d.at (λ p. box_owns (token E.al a) (R E) p x) (fst∗ 𝓤 (never 𝓤) (sem 𝓛 (token E.al a (bare (lone (R E).mir)) null_ptr))) (λ b o e.
      move ! (1 ∷ []) $ fsplit ! $ move ! (1 ∷ []) $ drop ! $ handle_tells E.al ! a z.0.4.1.0 (λ hv eh fa. move ! (1 ∷ []) $ fsplit ! $
      let v : D E = record { ptr = block_ptr b o; alloc = a; value = x } in
      let made : To.Denot = record { ptr = v.ptr; alloc = v.alloc; value = v.value } in
      let w = word E hv b o in let p = held_word (block_ptr b o) in
      box_in E ! v b o x refl refl $ use1 𝓛 (‵ (To.own_val made (w ∷ []))) (id⊢ 𝓤 _) $
      suffices ! (Run (p ∷ hv ∷ [])) (subst (λ (us : List Val). ent 𝓤 (Run (p ∷ hv ∷ [])) (Run us)) (sym (λ i. (ws ∙ ap (λ (q : Ptr). held_word q ∷ []) e) i ++ (eh i ++ []))) (id⊢ 𝓤 (Run (p ∷ hv ∷ [])))) $
      enter ! 𝓣.C 𝓣.Λ code.function (p ∷ hv ∷ []) Post $ alloc_all ! (λ ls. pass_all ! refl ((tt, (tt, tt)), (fa, tt)) $
      sets ! (of_opd ! (get_in ! (fld ! refl (stop !)) (sub ! 0 refl (whole !)))) refl (tt, tt) $
      sets ! (agg ! (and_then ! (get ! refl) (and_then ! (get ! refl) (no_more !)))) refl (box_typed E hv b o fa) $ returns ! (look_at ! 0 refl) $ free_all ! refl $
      suffices ! _ (ends_at 𝓛 F.ended stayed (F.clauses 𝓛 at_mem run) z w made (tt, (tt, tt)) (tt, (tt, tt))) $ says ! is $
      nothing ! $ nothing ! $ fjoin ! $ nothing ! $ fjoin ! $ join ! $ nothing ! $ join ! $ done !)))))

pub into_parts_spec : {M : Type 1} → stated.statement M
unfolding tables_of
into_parts_spec 𝓤 𝓛 𝓜 𝓡 wired =
    let 𝓣 : Tables 𝓤 𝓛.H = tables_of 𝓤 𝓛.H 𝓜 (tables 𝓤 𝓛.H 𝓜 𝓡 𝓡.env) in
    entered 𝓤 𝓛.H (triple_of 𝓛 F.signature (F.spec 𝓛 𝓜.mem 𝓡.returns)) 𝓣.C 𝓣.Λ #self code.function (code.unfolded 𝓤 𝓛.H 𝓜 𝓡 wired)
    (walk_Meets 𝓛 F.ended stayed (Goes-dropped 𝓛 0 FromHeld yes (λ κs x f. refl), (Goes-dropped 𝓛 0 FromGlobal yes (λ κs x f. refl), tt)) (F.clauses 𝓛 𝓜.mem 𝓡.returns) (WpFn 𝓤 𝓛.H 𝓣.C 𝓣.Λ code.function) (WpFn-mono 𝓤 𝓛.H 𝓛.laws 𝓣 code.function)
    (walk 𝓛 𝓜.mem 𝓡.returns 𝓣))
