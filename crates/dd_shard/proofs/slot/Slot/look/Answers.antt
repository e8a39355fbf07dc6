use Rattle.std.proofs.Common.{sym, ap, ◌∙◌, subst, reverse}
use Rattle.dd_rank.specs.Depths.{FourDepths}
use Rattle.dd_shard.specs.Entries.{Told, IsCoverOf, NoneCovers}
use Rattle.dd_shard.specs.Slots.{pair_of, known_pairs}
use Rattle.dd_shard.proofs.Slots.{shown-shape, all-reversed, newest-cut}
use Rattle.dd_shard.proofs.slot.Slot.look.Goals as goal

pub covering_pair-requires : goal.covering_pair-requires
covering_pair-requires c = shown-shape _ c.deref.result.now c.args.self.now (ap (λ places. reverse (known_pairs places)) c.deref.ensures.0 ∙ c.self.view_is) c.requires

pub returns-in_err-pair : goal.returns-in_err-pair
returns-in_err-pair c = λ q board start same.
    rw (c.from_residual.ensures)
    (let none : NoneCovers q (known_pairs c.deref.result.now) = c.in_err-pair.ensures q board start same in
    subst (NoneCovers q) (ap (λ places. reverse (known_pairs places)) c.deref.ensures.0 ∙ c.self.view_is) (all-reversed (λ x. ¬ IsCoverOf x q) (known_pairs c.deref.result.now) none))

pub returns : goal.returns
returns c = λ q board start same. (
    let on = c.in_ok-pair.ensures q board start same in (
      reverse (known_pairs on.1),
      pair_of c.in_ok-pair.pair.now.cover c.in_ok-pair.pair.now.bounds,
      reverse (known_pairs on.0),
      sym c.self.view_is ∙ ap (λ places. reverse (known_pairs places)) (sym c.deref.ensures.0 ∙ on.2) ∙ newest-cut on.0 c.in_ok-pair.pair.now on.1,
      all-reversed (λ x. ¬ IsCoverOf x q) (known_pairs on.1) on.3,
      on.4,
      ap (λ (depths : FourDepths). let told : Told = record { depths = depths; lo = c.in_ok-pair.pair.now.bounds.lo; hi = c.in_ok-pair.pair.now.bounds.hi } in told) c.depths.ensures.depths,
    ))
