use Rattle.std.proofs.Common.{◌≡◌, ℕ, ◌<◌, ◌≤◌, refl, sym, ap, ◌∙◌, subst, arith, List, ◌∷◌, ◌++◌, [], reverse, Contains, Option, Some, None}
use Rattle.std.proofs.lemmas.Bool.{eqb-true, eqb-false}
use Rattle.dd_play.specs.Value.{leaders_tricks}
use Rattle.dd_play.specs.Intervals.{Holds}
use Rattle.dd_rank.specs.Cover.{CoverOf, IsSameCover}
use Rattle.dd_shard.specs.Entries.{most_pairs, Pair, cover_of, PutsFirst}
use Rattle.dd_shard.specs.Slots.{pair_of, known_pairs}
use Rattle.dd_shard.specs.declared.slot.Bounded.{Bounded}
use Rattle.dd_shard.proofs.Slots.{shown-shape, seen-pair, found-there, newest-pushed, all-both, all-one, IsRoom, room-taken, room-full, room-left}
use Rattle.dd_shard.proofs.slot.Slot.note.Goals as goal
use Rattle.dd_shard.proofs.slot.Slot.note.Goals.{in-Some+in-Some-remove+in-Some-meet, in-None+then-is_full, in-None+else-is_full}

pub place_of-requires : goal.place_of-requires
place_of-requires c = shown-shape _ c.deref.result.now c.args.self.now (ap (λ places. reverse (known_pairs places)) c.deref.ensures.0 ∙ c.self.view_is) c.requires.shape

pub unreachable-requires : goal.unreachable-requires
unreachable-requires c =
    let on = c.in-Some.ensures in
    let cut : c.self.inside.pairs.items ≡ on.0 ++ Some on.1 ∷ on.2 = sym c.deref.ensures.0 ∙ on.3 in
    let there : Some c.in-Some-remove.pair ≡ Some on.1 =
    found-there c.self.inside.pairs.items on.0 (Some on.1) (Some c.in-Some-remove.pair) on.2 c.in-Some.place cut on.4 c.in-Some-remove.ensures.value in
    let one : c.in-Some-remove.pair ≡ on.1 = cc in
    let held = c.requires.known (pair_of on.1.cover on.1.bounds) (seen-pair c.self.inside.pairs.items c.args.self.now on.0 on.1 on.2 cut c.self.view_is) on.6 in
    c.in-None-meet.ensures (leaders_tricks c.args.cover.board) (subst (λ (x : Bounded). Holds x.bounds (leaders_tricks c.args.cover.board)) (sym one) held, c.requires.holds)

pub unreachable-requires-in-None-remove : goal.unreachable-requires-in-None-remove
unreachable-requires-in-None-remove c =
    let on = c.in-Some.ensures in
    let cut : c.self.inside.pairs.items ≡ on.0 ++ Some on.1 ∷ on.2 = sym c.deref.ensures.0 ∙ on.3 in
    let there : None ≡ Some on.1 = found-there c.self.inside.pairs.items on.0 (Some on.1) None on.2 c.in-Some.place cut on.4 c.in-None-remove.ensures.value in
    absurd (cc)

-- not full, so there is room
below-full : (n : ℕ) → n ≤ most_pairs → (n ≡ most_pairs → ⊥) → n < most_pairs
below-full n most other = omega arith

-- none of the pairs at these places has the cover
abbrev IsNewIn : CoverOf → List (Option Bounded) → Type 0
IsNewIn cover places = (y : Pair) → Contains (known_pairs places) y → ¬ IsSameCover (cover_of y) cover

-- what is put down, and what is left beside it
room : (c : goal.After-push) → IsRoom c.args.cover c.args.bounds c.match-place_of.bounds c.self.inside.pairs.items c.match-place_of.self-inside.pairs.items
room c = elim c.match-place_of.branch [
  | in-Some+in-Some-remove+in-Some-meet w ↦ (
      let on = w.in-Some.ensures in
      let cut : c.self.inside.pairs.items ≡ on.0 ++ Some on.1 ∷ on.2 = sym c.deref.ensures.0 ∙ on.3 in
      let held = c.requires.known (pair_of on.1.cover on.1.bounds) (seen-pair c.self.inside.pairs.items c.args.self.now on.0 on.1 on.2 cut c.self.view_is) on.6 in
      rw (w.bounds-is, w.self-inside-is) (
      room-taken c.args.cover c.args.bounds w.in-Some-meet.both (leaders_tricks c.args.cover.board) w.in-Some.place c.self.inside.pairs.items w.remove.new.self.items on.0 on.1 w.in-Some-remove.pair on.2
      c.self.invariant cut on.4 on.5 on.6 w.in-Some-remove.ensures.value w.in-Some-remove.ensures.items held c.requires.holds w.in-Some-meet.ensures))
  | in-None+then-is_full w ↦ (
      rw (w.bounds-is, w.self-inside-is) (
      room-full c.args.cover c.args.bounds c.self.inside.pairs.items w.remove-then-is_full.new.self.items c.self.invariant (eqb-true _ _ (sym w.if-is_full.ensures.value)) w.remove-then-is_full.ensures.items
      (subst (IsNewIn c.args.cover) c.deref.ensures.0 w.in-None.ensures)))
  | in-None+else-is_full w ↦ (
      rw (w.bounds-is, w.self-inside-is) (
      room-left c.args.cover c.args.bounds c.self.inside.pairs.items c.self.inside.pairs.items c.self.invariant (below-full _ w.if-is_full.ensures.fits (eqb-false _ _ (sym w.if-is_full.ensures.value))) refl
      (subst (IsNewIn c.args.cover) c.deref.ensures.0 w.in-None.ensures)))
]

pub invariant_of-self : goal.invariant_of-self
invariant_of-self c =
    rw c.push.ensures.items (all-both c.match-place_of.self-inside.pairs.items (Some (record { cover = c.args.cover; bounds = c.match-place_of.bounds }) ∷ []) (room c).all (all-one _))

pub returns : goal.returns
returns c = subst (λ l. PutsFirst (pair_of c.args.cover c.args.bounds) l (reverse (known_pairs c.push.new.self.items))) c.self.view_is
    (rw (c.push.ensures.items, newest-pushed c.match-place_of.self-inside.pairs.items (record { cover = c.args.cover; bounds = c.match-place_of.bounds })) (room c).puts)
