use Rattle.std.proofs.Common.{◌≡◌, ◌-◌, ◌∙◌, ap, arith, refl, sym}
use Rattle.std.specs.List.{find}
use Rattle.dd_book.specs.Next.{from_last, next_of_play, waits_at}
use Rattle.dd_book.proofs.NextPart.{last-found, last-passed}
use Rattle.dd_book.proofs.parts.Parts.next_of_play.Goals as goal

pub loop-place-init : goal.loop-place-init
loop-place-init c =
    let all = c.len-place.ensures in
    (omega arith, ap (λ n. find (waits_at c.args.self.now) (from_last n)) all)

pub waits_at-requires : goal.waits_at-requires
waits_at-requires c = let within = c.loop-place.invariant.0 in omega arith

pub returns-then-waits_at : goal.returns-then-waits_at
returns-then-waits_at c =
    last-found (waits_at c.args.self.now) c.loop-place.place (c.loop-place.place - 1) (next_of_play c.args.self.now) c.loop-place-test.true refl
    (sym c.waits_at.ensures ∙ c.if-waits_at.true) c.loop-place.invariant.1

pub loop-place-preserved : goal.loop-place-preserved
loop-place-preserved c =
    let within = c.loop-place.invariant.0 in (
      omega arith,
      last-passed (waits_at c.args.self.now) c.loop-place.place (c.loop-place.place - 1) (next_of_play c.args.self.now) c.loop-place-test.true refl
          (sym c.waits_at.ensures ∙ c.if-waits_at.false) c.loop-place.invariant.1,
    )

pub returns : goal.returns
unfolding from_last
returns c =
    let none = c.loop-place-test.false in
    ap (λ n. find (waits_at c.args.self.now) (from_last n)) (let zero : 0 ≡ c.loop-place.place = omega arith in zero) ∙ c.loop-place.invariant.1
