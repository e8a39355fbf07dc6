use Rattle.std.proofs.Common.{◌∙◌, refl}
use Rattle.dd_pbn.proofs.Steps.{is_free-by}
use Rattle.dd_pbn.proofs.hands_so_far.HandsSoFar.note.Goals as goal

pub returns-else-not-insert : goal.returns-else-not-insert
returns-else-not-insert c =
    let free = is_free-by c.insert.result _ _ c.insert.ensures.inserts ∙ c.if-not-insert.false in
    rw free (rw c.if-not-insert.ensures.hands refl)
