use Rattle.std.proofs.Common.{ℕ, List, ap, arith, length}
use Rattle.dd_file.proofs.Steps.{after_blanks-shorter, tail-shorter}
use Rattle.dd_file.proofs.value.closed_up.Goals as goal

pub letter_closed-requires-clause-rest : goal.letter_closed-requires-clause-rest
letter_closed-requires-clause-rest c =
    let whole = after_blanks-shorter c.args.text.now in
    let same = ap (λ (l : List ℕ). length l) c.after_blanks.ensures in
    let tail = tail-shorter c.after_blanks.result.now c.in-len1-up.len_at_least in
    let rest = ap (λ (l : List ℕ). length l) c.after_blanks-in-len1-up.ensures in
    let fits = c.requires in
    omega arith
