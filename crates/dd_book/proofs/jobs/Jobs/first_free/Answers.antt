use Rattle.std.proofs.Common.{◌≡◌, ◌<◌, ◌∙◌, ap, arith, length, refl, subst, sym, Some}
use Rattle.std.specs.Prelude.{slice_get}
use Rattle.std.specs.List.{position}
use Rattle.std.proofs.lemmas.Option.{slice_get_read}
use Rattle.dd_book.specs.Jobs.{is_free_by}
use Rattle.dd_book.specs.Waiting.{IsNextPlace}
use Rattle.dd_book.proofs.Chosen.{next-within, next-free, next-passed, next-none}
use Rattle.dd_book.proofs.jobs.Jobs.first_free.Goals as goal
use Rattle.dd_book.proofs.jobs.Jobs.first_free.Goals.{After-index}

-- the place stands in the list
within : (c : After-index) → c.in-Some.place < length c.self.inside.list.items
within c = next-within c.self.inside.list.items c.self.inside.owners.waiting c.self.invariant.owners.places c.args.owner c.loop-place.from c.loop-place.invariant c.in-Some.place c.in-Some.ensures

-- its job
here : (c : After-index) → slice_get c.self.inside.list.items c.in-Some.place ≡ Some c.index.result.now
here c = slice_get_read c.self.inside.list.items _ _ _ refl (within c) c.index.ensures

pub returns-then-has_free : goal.returns-then-has_free
returns-then-has_free c =
    sym (next-free c.self.inside.list.items c.self.inside.owners.waiting c.self.invariant.owners.places c.args.owner c.loop-place.from c.loop-place.invariant
    c.in-Some.place c.index.result.now c.in-Some.ensures (here (goal.at.returns-then-has_free c).After-index) (sym c.has_free.ensures ∙ c.if-has_free.true))
    ∙ ap (position (is_free_by c.args.owner)) c.self.view_is

pub overflow_add-from : goal.overflow_add-from
overflow_add-from c = omega (arith, within (goal.at.overflow_add-from c).After-index, c.self.inside.list.ok.0, c.self.inside.list.ok.1, c.self.inside.list.small)

pub loop-place-smaller : goal.loop-place-smaller
loop-place-smaller c = omega (arith, within (goal.at.loop-place-smaller c).After-index, c.in-Some.ensures.0)

pub loop-place-preserved : goal.loop-place-preserved
loop-place-preserved c =
    next-passed c.self.inside.list.items c.self.inside.owners.waiting c.self.invariant.owners.places c.args.owner c.loop-place.from c.loop-place.invariant
    c.in-Some.place c.index.result.now c.in-Some.ensures (here (goal.at.loop-place-preserved c).After-index) (sym c.has_free.ensures ∙ c.if-has_free.false)

pub returns : goal.returns
returns c =
    sym (next-none c.self.inside.list.items c.self.inside.owners.waiting c.self.invariant.owners.places c.args.owner c.loop-place.from c.loop-place.invariant (subst (IsNextPlace c.self.inside.owners.waiting c.args.owner c.loop-place.from) c.in_default.is c.next_of.ensures))
    ∙ ap (position (is_free_by c.args.owner)) c.self.view_is
