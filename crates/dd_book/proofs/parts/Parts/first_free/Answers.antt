use Rattle.std.proofs.Common.{◌≡◌, ◌+◌, ◌-◌, ◌∙◌, ap, arith, length, sym}
use Rattle.std.specs.List.{find, range_with_len}
use Rattle.dd_book.specs.Next.{is_free}
use Rattle.dd_book.proofs.NextPart.{first-found, first-passed}
use Rattle.dd_book.proofs.parts.Parts.first_free.Goals as goal

pub loop-place-init : goal.loop-place-init
loop-place-init c =
    (omega arith, ap (λ n. find (is_free c.args.self.now) (range_with_len 0 n)) (let all : length c.args.self.now - 0 ≡ length c.args.self.now = omega arith in all))

pub returns-then-is_free : goal.returns-then-is_free
returns-then-is_free c =
    let all = c.len.ensures in
    let within = c.loop-place-test.true in
    first-found (is_free c.args.self.now) c.loop-place.place (length c.args.self.now - c.loop-place.place) _ (omega arith)
    (sym c.is_free.ensures ∙ c.if-is_free.true) c.loop-place.invariant.1

pub loop-place-smaller : goal.loop-place-smaller
loop-place-smaller c =
    let all = c.len.ensures in
    let within = c.loop-place-test.true in
    omega arith

pub loop-place-preserved : goal.loop-place-preserved
loop-place-preserved c =
    let all = c.len.ensures in
    let within = c.loop-place-test.true in (
      omega arith,
      first-passed (is_free c.args.self.now) c.loop-place.place (length c.args.self.now - c.loop-place.place) (length c.args.self.now - (c.loop-place.place + 1)) _ (omega arith) (omega arith)
          (sym c.is_free.ensures ∙ c.if-is_free.false) c.loop-place.invariant.1,
    )

pub returns : goal.returns
returns c =
    let all = c.len.ensures in
    let past = c.loop-place-test.false in
    ap (λ n. find (is_free c.args.self.now) (range_with_len c.loop-place.place n)) (let none : 0 ≡ length c.args.self.now - c.loop-place.place = omega arith in none) ∙ c.loop-place.invariant.1
