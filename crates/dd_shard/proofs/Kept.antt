-- What a shard keeps of its cache.
use Rattle.std.proofs.Common.{◌≡◌, ℕ, zero, suc, ◌-◌, ◌≤◌, true, false, refl, sym, ap, ◌∙◌, subst, ap₂, arith, List, [], ◌∷◌, ◌++◌, map, take, length, Contains, Option, Some, None, inl, inr, ◌⊎◌}
use Rattle.std.specs.Prelude.{slice_get, option_map}
use Rattle.std.proofs.lemmas.Option.{slice_get-map}
use Rattle.std.specs.List.{IsDistinct, take-map}
use Rattle.std.proofs.lemmas.List.{map-append, length-map}
use Rattle.std.specs.Option.{UnwrapsOrElse}
use Rattle.std.specs.Map.{keys_of, lookup, lookup_entry, remove_entry}
use Rattle.lru.specs.LruCache.{LruCache, lru_cache, promoted, put_entries}
use Rattle.lru.proofs.Splits.{Contains-cons, Contains-nil, Contains-middle, cons_head, cons_tail, all_at, all_unmap}
use Rattle.lru.proofs.CallerLemmas.{Contains-promoted, Contains-put_entries}
use Rattle.dd_play.specs.Board.{Board}
use Rattle.dd_rank.specs.Strings.{ShapeOf, shape_of}
use Rattle.dd_shard.specs.Entries.{most_pairs, Pair, Told, Entry, IsPair, IsEntry, IsAbsent, EachOnce, AreEntries, ToFront, Tells, Looks, PutsFirst, Notes, pair_at}
use Rattle.dd_shard.specs.Kept.{entry_of, entries_of, IsKept}
use Rattle.dd_rank.specs.Strings.{same_shape}
use Rattle.dd_rank.proofs.CallerLemmas.{shapes-tell}
use Rattle.dd_shard.proofs.Told.{puts-entry, puts-alone}
use Rattle.dd_shard.proofs.Lists.{Contains-map, Contains-at, Cut, cut-found, none-passes, no-entry}

-- a shape that isn't found has no entry
pub absent : (k : ShapeOf) (es : List (ShapeOf × List Pair)) → lookup (same_shape k) es ≡ None → IsAbsent k (map entry_of es)
absent k es none e c same =
    let on = Contains-map entry_of es e c in
    let key : on.0.0 ≡ k = ap (λ (x : Entry). x.shape) on.2 ∙ same in
    let no : same_shape k k ≡ false = subst (λ (x : ShapeOf). same_shape k x ≡ false) key (none-passes (same_shape k) es none on.0 on.1) in
    let yes : same_shape k k ≡ true = (shapes-tell k k).1 refl in
    absurd (cc)

-- what is known where the shape k has the pairs v
pub record Hit (k : ShapeOf) (es : List (ShapeOf × List Pair)) (v : List Pair) : Type 0 where
  pub entry : IsEntry (entry_of (k, v))
  pub found : lookup_entry (same_shape k) es ≡ Some (k, v)
  pub moves : (w : List Pair) → ToFront k (map entry_of es) (map entry_of ((k, w) ∷ remove_entry (same_shape k) es)) (entry_of (k, v)) (entry_of (k, w))

-- a shape that is found has one entry, which a use moves to the front
pub hit : (k : ShapeOf) (es : List (ShapeOf × List Pair)) (v : List Pair) → ((x : ShapeOf × List Pair) → Contains es x → IsEntry (entry_of x))
    → lookup (same_shape k) es ≡ Some v → Hit k es v
hit k es v all found =
    let on = cut-found (same_shape k) es v found in
    let key : k ≡ on.0.0 = (shapes-tell k on.0.0).0 on.2.passes in
    let both : on.0 ≡ (k, v) = ap₂ (λ (j : ShapeOf) (ps : List Pair). let x : ShapeOf × List Pair = (j, ps) in x) (sym key) on.1 in
    let cut : Cut (same_shape k) es (k, v) = subst (Cut (same_shape k) es) both on.2 in
    record {
      entry = all (k, v) (subst (λ l. Contains l (k, v)) (sym cut.cut) (Contains-middle cut.front (k, v) cut.back));
      found = cut.found;
      moves = λ w. record {
        of_shape = refl;
        moved = (
          map entry_of cut.front,
          map entry_of cut.back,
          ap (map entry_of) cut.cut ∙ map-append entry_of cut.front ((k, v) ∷ cut.back),
          ap (λ l. entry_of (k, w) ∷ map entry_of l) cut.rest ∙ ap (λ l. entry_of (k, w) ∷ l) (map-append entry_of cut.front cut.back),
        );
      };
    }

-- a look keeps a shard's cache
pub look-kept : (c : LruCache ShapeOf (List Pair)) (k : ShapeOf) → IsKept c → IsKept (lru_cache (promoted (same_shape k) c.entries) c.cap)
look-kept c k kept = record {
  filed = λ x d. kept.filed x (Contains-promoted (same_shape k) c.entries x d);
  least = kept.least;
  most = kept.most;
}

-- a look at a shape that is there
pub look-found : (p : Board) (k : ShapeOf) (c : LruCache ShapeOf (List Pair)) (v : List Pair) (answer : Option Told) → k ≡ shape_of p → Hit k c.entries v → Tells p v answer
    → Looks p answer (entries_of c) (entries_of (lru_cache (promoted (same_shape k) c.entries) c.cap))
look-found p k c v answer same h tells = record {
  limit = refl;
  looked = inl (entry_of (k, v), rw h.found (subst (λ (j : ShapeOf). ToFront j (map entry_of c.entries) (map entry_of ((k, v) ∷ remove_entry (same_shape k) c.entries)) (entry_of (k, v)) (entry_of (k, v))) same (h.moves v)), tells);
}

-- .. and at one that isn't
pub look-missed : (p : Board) (k : ShapeOf) (c : LruCache ShapeOf (List Pair)) (answer : Option Told) → k ≡ shape_of p → lookup (same_shape k) c.entries ≡ None → answer ≡ None
    → Looks p answer (entries_of c) (entries_of (lru_cache (promoted (same_shape k) c.entries) c.cap))
look-missed p k c answer same none is = record {
  limit = refl;
  looked = inr (subst (λ (j : ShapeOf). IsAbsent j (map entry_of c.entries)) same (absent k c.entries none), is, rw (no-entry (same_shape k) c.entries none) refl);
}

-- the slot that a note fills: that of the shape, or an empty one where there is none
abbrev pub IsOpen : ShapeOf → List (ShapeOf × List Pair) → List Pair → Type 0
IsOpen k es v = (lookup (same_shape k) es ≡ Some v) ⊎ ((lookup (same_shape k) es ≡ None) × (v ≡ []))

-- what a look-up found, or else an empty slot
pub opened : (k : ShapeOf) (es : List (ShapeOf × List Pair)) (P : List Pair → Type 0) (v : List Pair) → ((w : List Pair) → P w → w ≡ []) → UnwrapsOrElse (lookup (same_shape k) es) P v → IsOpen k es v
opened k es P v empty h = go (lookup (same_shape k) es) h where
  go : (o : Option (List Pair)) → UnwrapsOrElse o P v → (o ≡ Some v) ⊎ ((o ≡ None) × (v ≡ []))
  go None h = inr (refl, empty v h)
  go (Some w) h = inl (ap (λ (ps : List Pair). Some ps) (sym h))

-- its pairs are of the shape, and at most eight
pub open-pairs : (k : ShapeOf) (c : LruCache ShapeOf (List Pair)) (v : List Pair) → IsKept c → IsOpen k c.entries v → (length v ≤ most_pairs) × ((x : Pair) → Contains v x → IsPair k x)
open-pairs k c v kept (inl found) = let h = hit k c.entries v kept.filed found in (h.entry.few, h.entry.each)
open-pairs k c v kept (inr none) = (rw none.1 (omega arith), λ x d. absurd (Contains-nil x (subst (λ l. Contains l x) none.1 d)))

-- a note keeps a shard's cache
pub note-kept : (c : LruCache ShapeOf (List Pair)) (k : ShapeOf) (x : Pair) (v new : List Pair) → IsKept c → IsOpen k c.entries v → IsPair k x → PutsFirst x v new
    → IsKept (lru_cache (put_entries same_shape c k new) c.cap)
note-kept c k x v new kept filled good puts =
    let before = open-pairs k c v kept filled in
    let entry : IsEntry (entry_of (k, new)) = puts-entry k x v new good before.0 before.1 puts in
    record {
      filed = λ pair d. elim (Contains-put_entries same_shape c k new pair d) [
        | inl old ↦ kept.filed pair old
        | inr put ↦ (
            let key : pair.0 ≡ k = elim put.1 [ inl e ↦ e | inr was ↦ sym ((shapes-tell k pair.0).0 was.2) ] in
            let both : (k, new) ≡ pair = ap₂ (λ (j : ShapeOf) (ps : List Pair). let y : ShapeOf × List Pair = (j, ps) in y) (sym key) (sym put.0) in
            subst (λ y. IsEntry (entry_of y)) both entry)
      ];
      least = kept.least;
      most = kept.most;
    }

-- the first of n elements, and n - 1 more
take-first : {X : Type 0} (n : ℕ) (x : X) (xs : List X) → 1 ≤ n → take n (x ∷ xs) ≡ x ∷ take (n - 1) xs
take-first zero x xs h = absurd (omega arith)
take-first (suc n) x xs h = let e : suc n - 1 ≡ n = omega arith in rw e refl

-- a note of a shape that is there, or of a new one
pub note-notes : (p : Board) (k : ShapeOf) (c : LruCache ShapeOf (List Pair)) (told : Told) (v new : List Pair) → k ≡ shape_of p → IsKept c → IsOpen k c.entries v → PutsFirst (pair_at p told) v new
    → Notes p told (entries_of c) (entries_of (lru_cache (put_entries same_shape c k new) c.cap))
note-notes p k c told v new same kept (inl found) puts =
    let h = hit k c.entries v kept.filed found in
    record {
      limit = refl;
      noted = inl (
        entry_of (k, v),
        new,
        rw h.found (subst (λ (j : ShapeOf). ToFront j (map entry_of c.entries) (map entry_of ((k, new) ∷ remove_entry (same_shape k) c.entries)) (entry_of (k, v)) (entry_of (k, new))) same (h.moves new)),
        puts,
      );
    }
note-notes p k c told v new same kept (inr none) puts = record {
  limit = refl;
  noted = inr (
    subst (λ (j : ShapeOf). IsAbsent j (map entry_of c.entries)) same (absent k c.entries none.0),
    rw (no-entry (same_shape k) c.entries none.0) (
        ap₂ (λ (e : Entry) l. e ∷ l) (ap₂ (λ (j : ShapeOf) (ps : List Pair). let e : Entry = record { shape = j; pairs = ps } in e) same (puts-alone (pair_at p told) v new none.1 puts)) (sym (take-map entry_of (c.cap - 1) c.entries))
        ∙ sym (take-first c.cap (record { shape = shape_of p; pairs = pair_at p told ∷ [] }) (map entry_of c.entries) kept.least)),
  );
}

-- a shape that differs from all others has no other entry
apart : (p : ShapeOf × List Pair) (es : List (ShapeOf × List Pair)) → IsDistinct same_shape (keys_of (p ∷ es)) → IsAbsent p.0 (map entry_of es)
unfolding IsDistinct
apart p es d e c same =
    let on = Contains-map entry_of es e c in
    let no : same_shape p.0 on.0.0 ≡ false =
    all_at (λ (q : ShapeOf × List Pair). same_shape p.0 q.0 ≡ false) es on.0 (all_unmap (λ (q : ShapeOf × List Pair). q.0) (λ (j : ShapeOf). same_shape p.0 j ≡ false) es d.0) on.1 in
    let key : on.0.0 ≡ p.0 = ap (λ (x : Entry). x.shape) on.2 ∙ same in
    let differs : same_shape p.0 p.0 ≡ false = subst (λ (j : ShapeOf). same_shape p.0 j ≡ false) key no in
    let equals : same_shape p.0 p.0 ≡ true = (shapes-tell p.0 p.0).1 refl in
    absurd (cc)

-- no shape of a cache stands twice
pub each-once : (es : List (ShapeOf × List Pair)) → IsDistinct same_shape (keys_of es) → EachOnce (map entry_of es)
unfolding IsDistinct
each-once [] d [] back e h = absurd (cc)
each-once [] d (f ∷ front) back e h = absurd (cc)
each-once (p ∷ es) d [] back e h =
    let here : entry_of p ≡ e = cons_head _ _ _ _ h in
    let rest : map entry_of es ≡ back = cons_tail _ _ _ _ h in (
      λ x c. absurd (Contains-nil x c),
      λ x c same. apart p es d x (subst (λ l. Contains l x) (sym rest) c) (same ∙ ap (λ (y : Entry). y.shape) (sym here)),
    )
each-once (p ∷ es) d (f ∷ front) back e h =
    let here : entry_of p ≡ f = cons_head _ _ _ _ h in
    let rest : map entry_of es ≡ front ++ e ∷ back = cons_tail _ _ _ _ h in
    let on = each-once es d.1 front back e rest in (
      λ x c same. elim (Contains-cons f front x c) [
        | inl first ↦ (
            let later : Contains (map entry_of es) e = subst (λ l. Contains l e) (sym rest) (Contains-middle front e back) in
            apart p es d e later (sym same ∙ ap (λ (y : Entry). y.shape) (sym first) ∙ ap (λ (y : Entry). y.shape) (sym here)))
        | inr d' ↦ on.0 x d' same
      ],
      on.1,
    )

-- what a shard keeps are entries
pub kept-entries : (c : LruCache ShapeOf (List Pair)) → IsKept c → IsDistinct same_shape (keys_of c.entries) → length c.entries ≤ c.cap → AreEntries (entries_of c)
kept-entries c kept d few = record {
  once = each-once c.entries d;
  few = rw length-map few;
  each = λ e has. (let on = Contains-map entry_of c.entries e has in subst IsEntry on.2 (kept.filed on.0 on.1));
}

-- what a kept cache has at a place is the entry there
pub entry-at : (c : LruCache ShapeOf (List Pair)) (place : ℕ) (x : ShapeOf × List Pair) → IsKept c → slice_get c.entries place ≡ Some x
    → (slice_get (map entry_of c.entries) place ≡ Some (entry_of x)) × IsEntry (entry_of x)
entry-at c place x kept here = (slice_get-map entry_of c.entries place ∙ ap (option_map entry_of) here, kept.filed x (Contains-at c.entries place x here))
