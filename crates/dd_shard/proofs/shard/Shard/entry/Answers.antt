use Rattle.std.proofs.Common.{◌≡◌, ◌≤◌, refl, sym, ap, ◌∙◌, arith, length, Some}
use Rattle.std.specs.Prelude.{option_map, slice_get}
use Rattle.std.proofs.lemmas.Iterator.Consumers.{nth_from_yields_List, YieldsList-from_rest}
use Rattle.std.specs.Map.Iter.{deref_pair}
use Rattle.dd_shard.specs.Kept.{entry_of}
use Rattle.dd_shard.specs.Slots.{pair_of}
use Rattle.dd_shard.proofs.Kept.{entry-at}
use Rattle.dd_shard.proofs.shard.Shard.entry.Goals as goal
use Rattle.dd_shard.proofs.shard.Shard.entry.Goals.{After-newest}

-- what stands at the place
here : (c : goal.After-newest) → slice_get c.self.inside.cache.entries c.args.place ≡ Some (c.in_ok-slot.field-0-0.now, c.in_ok-slot.slot.now)
here c =
    sym (nth_from_yields_List c.nth.result c.nth.new.self c.args.place c.nth.ensures.ran (YieldsList-from_rest c.self.inside.cache.entries c.iter.ensures.rest)) ∙ ap (option_map deref_pair) c.in_ok-slot.was

pub returns-in_err-newest : goal.returns-in_err-newest
returns-in_err-newest c =
    let at = entry-at c.self.inside.cache c.args.place (c.in_ok-slot.field-0-0.now, c.in_ok-slot.slot.now) c.self.invariant (here (goal.at.returns-in_err-newest c).After-newest) in
    let some : 1 ≤ length c.in_ok-slot.slot.now = at.1.some in
    let none : length c.in_ok-slot.slot.now ≡ 0 = ap length c.in_err-newest.ensures in
    absurd (omega arith)

pub returns : goal.returns
returns c =
    let at = entry-at c.self.inside.cache c.args.place (c.in_ok-slot.field-0-0.now, c.in_ok-slot.slot.now) c.self.invariant (here (goal.at.returns c).After-newest) in
    let on = c.in_ok-newest.ensures in
    rw (← c.self.view_is)
    (entry_of (c.in_ok-slot.field-0-0.now, c.in_ok-slot.slot.now), pair_of c.in_ok-newest.newest.now.cover c.in_ok-newest.newest.now.bounds, on.0, at.0, on.1, c.start.ensures, c.depths.ensures.depths, refl, refl)
