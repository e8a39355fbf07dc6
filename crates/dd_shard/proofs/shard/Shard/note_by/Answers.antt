use Rattle.std.proofs.Common.{◌≡◌, sym, ap, ap₂, ◌∙◌, subst, None}
use Rattle.std.specs.Map.{lookup}
use Rattle.dd_play.specs.Board.{Board, IsBoard}
use Rattle.dd_play.specs.Intervals.{Holds}
use Rattle.dd_play.specs.Value.{leaders_tricks}
use Rattle.dd_rank.specs.Depths.{FourDepths, depth_in}
use Rattle.dd_rank.proofs.CallerLemmas.{itself}
use Rattle.dd_rank.specs.Strings.{ShapeOf, shape_of, shape_in}
use Rattle.dd_shard.specs.Entries.{Pair, IsAbsent, PutsFirst, pair_at}
use Rattle.dd_shard.specs.Kept.{entries_of}
use Rattle.dd_shard.specs.Slots.{pair_of, told_of}
use Rattle.dd_rank.specs.Strings.{same_shape}
use Rattle.dd_shard.proofs.Lists.{missing, on-error}
use Rattle.dd_shard.proofs.Told.{same-holds}
use Rattle.dd_shard.proofs.Kept.{absent, IsOpen, opened, open-pairs, note-kept, note-notes}
use Rattle.dd_shard.proofs.shard.Shard.note_by.Goals as goal
use Rattle.dd_shard.proofs.shard.Shard.note_by.Goals.{In_ok-slot}

-- where the note fails the shape is new
none-there : (c : goal.After-from_residual) → IsAbsent (shape_of c.args.position.now) c.args.self.now.list
none-there c =
    let none : lookup (same_shape c.shape.result) c.self.inside.cache.entries ≡ None = missing _ (λ some. let no = c.in_err-slot.ensures.succeeds some in absurd (cc)) in
    rw (← c.self.view_is)
    (subst (λ (k : ShapeOf). IsAbsent k (entries_of c.self.inside.cache).list) (c.shape.ensures ∙ ap shape_in c.requires.strings) (absent c.shape.result c.self.inside.cache.entries none))

pub returns-in_err-slot-clause-err : goal.returns-in_err-slot-clause-err
returns-in_err-slot-clause-err c = on-error c.from_residual.result _ (c.self.view_is, none-there c)

pub returns-in_err-slot-clause-succeeds : goal.returns-in_err-slot-clause-succeeds
returns-in_err-slot-clause-succeeds c e has same = absurd (none-there c e has same)

-- the slot that is noted in
slot : (c : goal.In_ok-slot) → IsOpen c.shape.result c.self.inside.cache.entries c.in_ok-slot.slot.now
slot c = opened c.shape.result c.self.inside.cache.entries _ c.in_ok-slot.slot.now (λ w p. p) c.in_ok-slot.ensures.value

pub note-requires-clause-shape : goal.note-requires-clause-shape
note-requires-clause-shape c = λ x has.
    ((open-pairs c.shape.result c.self.inside.cache c.in_ok-slot.slot.now c.self.invariant (slot c)).1 x has).of_shape ∙ c.shape.ensures ∙ ap shape_in c.requires.strings ∙ ap shape_of (sym c.new-cover.ensures.0)

pub note-requires-clause-known : goal.note-requires-clause-known
note-requires-clause-known c = λ x has same.
    same-holds c.shape.result x c.new-cover.result ((open-pairs c.shape.result c.self.inside.cache c.in_ok-slot.slot.now c.self.invariant (slot c)).1 x has)
    (subst IsBoard (sym c.new-cover.ensures.0) c.position.ensures.board) same

pub note-requires-clause-holds : goal.note-requires-clause-holds
note-requires-clause-holds c =
    subst (λ (p : Board). Holds c.args.interval (leaders_tricks p)) (sym c.new-cover.ensures.0)
    (c.requires.holds c.args.position.now c.position.ensures.board (itself c.args.position.now (depth_in c.args.depths) c.position.ensures.start c.requires.within))

-- what is put first
first : (c : goal.After-self-2-1) → pair_of c.new-cover.result c.args.interval ≡ pair_at c.args.position.now (told_of (c.args.interval, c.args.depths))
first c = ap₂ (λ (p : Board) (depths : FourDepths). pair_at p (told_of (c.args.interval, depths))) c.new-cover.ensures.0 c.new-cover.ensures.1

-- .. is so
puts : (c : goal.After-self-2-1) → PutsFirst (pair_at c.args.position.now (told_of (c.args.interval, c.args.depths))) c.in_ok-slot.slot.now c.note.new.self
puts c = subst (λ (x : Pair). PutsFirst x c.in_ok-slot.slot.now c.note.new.self) (first c) c.note.ensures

pub invariant_of-self-2 : goal.invariant_of-self-2
invariant_of-self-2 c =
    note-kept c.self.inside.cache c.shape.result (pair_at c.args.position.now (told_of (c.args.interval, c.args.depths))) c.in_ok-slot.slot.now c.note.new.self c.self.invariant
    (slot (goal.at.invariant_of-self-2 c).In_ok-slot)
    (record {
      board = c.position.ensures.board;
      no_trick = c.position.ensures.start;
      of_shape = sym (c.shape.ensures ∙ ap shape_in c.requires.strings);
      within = c.requires.within;
      sound = c.requires.holds;
    })
    (puts c)

pub returns-clause-ok : goal.returns-clause-ok
returns-clause-ok c =
    rw (← c.self.view_is)
    (note-notes c.args.position.now c.shape.result c.self.inside.cache (told_of (c.args.interval, c.args.depths)) c.in_ok-slot.slot.now c.note.new.self (c.shape.ensures ∙ ap shape_in c.requires.strings)
    c.self.invariant (slot (goal.at.returns-clause-ok c).In_ok-slot) (puts c))
