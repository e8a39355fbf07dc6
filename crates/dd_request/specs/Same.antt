-- To be believed: whether two questions are the same: tests on their parts. Two tables are where their hands are. That each test is
-- an equivalence stands below.
use Rattle.std.specs.Prelude.{◌&&◌, ◌==◌, Bool}
use Rattle.std.specs.Cmp.{IsEquivalence, IsPartialEquivalence, and_equiv, nat_eq_equiv, on_equiv, partial_equiv_from_equiv}
use Rattle.dd_play.specs.Same.{same_board, same-board}
use Rattle.dd_request.specs.Questions.{Question}
use Rattle.dd_request.specs.Targets.{TargetQuestion}

-- the same position, and as many cards asked for
abbrev pub same_question : Question → Question → Bool
same_question a b = same_board a.board b.board && (a.solutions == b.solutions)

-- the same position and target, and as many cards asked for
abbrev pub same_target : TargetQuestion → TargetQuestion → Bool
same_target a b = same_board a.board b.board && (a.target == b.target) && (a.solutions == b.solutions)

-- ---- what is the same by a test is an equivalence

pub same-question : IsEquivalence same_question
same-question = and_equiv (on_equiv (λ (q : Question). q.board) same-board) (on_equiv (λ (q : Question). q.solutions) nat_eq_equiv)

pub same-target : IsEquivalence same_target
same-target =
    and_equiv (and_equiv (on_equiv (λ (q : TargetQuestion). q.board) same-board) (on_equiv (λ (q : TargetQuestion). q.target) nat_eq_equiv))
    (on_equiv (λ (q : TargetQuestion). q.solutions) nat_eq_equiv)

-- .. and so a partial one
pub same-question-partial : IsPartialEquivalence same_question
same-question-partial = partial_equiv_from_equiv same-question

pub same-target-partial : IsPartialEquivalence same_target
same-target-partial = partial_equiv_from_equiv same-target
