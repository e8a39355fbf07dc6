use Rattle.std.proofs.Common.{◌∙◌, sym}
use Rattle.dd_pbn.proofs.Steps.{suit_at-rank, suit_at-other, suit_at-end}
use Rattle.dd_pbn.proofs.reading.read_suit.Goals as goal

pub returns-in_default-rank_of : goal.returns-in_default-rank_of
returns-in_default-rank_of c =
    let none = sym c.rank_of.ensures ∙ c.in_default-rank_of.is in
    sym c.loop-rest.invariant ∙ suit_at-other _ _ c.loop-rest.seen c.loop-rest.rest.now none

pub loop-rest-preserved : goal.loop-rest-preserved
loop-rest-preserved c =
    let some = sym c.rank_of.ensures ∙ c.in-Some.is in
    rw c.note.ensures (sym (suit_at-rank _ _ c.loop-rest.seen c.loop-rest.rest.now _ c.in-len1-up.len_at_least some) ∙ c.loop-rest.invariant)

pub returns : goal.returns
returns c = sym c.loop-rest.invariant ∙ suit_at-end _ _ c.loop-rest.seen c.loop-rest.rest.now c.in_default.len_below
