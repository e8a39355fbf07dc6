use Rattle.std.proofs.Common.{rules, ◌∙◌, arith, sym}
use Rattle.dd_streams.proofs.NamedTags.{comma-named, more-named, named-comma, named-end}
use Rattle.dd_streams.proofs.tags.named_in.Goals as goal

pub loop-length-init : goal.loop-length-init
loop-length-init c = search rules

pub returns-in_err-wanted : goal.returns-in_err-wanted
returns-in_err-wanted c = search (rules, named-comma)

pub loop-length-smaller-then-rest-length-eq-COMMA :
    goal.loop-length-smaller-then-rest-length-eq-COMMA
loop-length-smaller-then-rest-length-eq-COMMA c =
    let shorter = c.after-rest.ensures.len in
    omega arith

pub loop-length-preserved-then-rest-length-eq-COMMA :
    goal.loop-length-preserved-then-rest-length-eq-COMMA
loop-length-preserved-then-rest-length-eq-COMMA c = (
  omega arith,
  rw (c.after-rest.ensures.text) (comma-named _ c.loop-length.wanted c.in_ok-wanted.wanted c.loop-length.rest.now c.loop-length.length c.loop-length-test.true c.if-rest-length-eq-COMMA.true
      (sym c.with_tag.ensures ∙ c.in_ok-wanted.was) c.loop-length.invariant.1),
)

pub loop-length-smaller : goal.loop-length-smaller
loop-length-smaller c = search rules

pub loop-length-preserved : goal.loop-length-preserved
loop-length-preserved c =
    let within = c.loop-length-test.true in
    rw (c.one_more-length.ensures) (omega arith, more-named _ c.loop-length.wanted c.loop-length.rest.now c.loop-length.length within c.if-rest-length-eq-COMMA.false c.loop-length.invariant.1)

pub returns : goal.returns
returns c = search (rules, named-end)
