-- what is the same by the tests is the same
use Rattle.std.proofs.Common.{◌≡◌, ℕ, Bool, true, false, refl, sym, ap, ◌∙◌, subst}
use Rattle.std.specs.Prelude.{◌&&◌, ◌==◌}
use Rattle.std.proofs.lemmas.Bool.{eqb-true, and_from}
use Rattle.std.specs.Cmp.{nat_eq_equiv}
use Rattle.dd_cards.specs.Hands.{FourHands}
use Rattle.dd_cards.specs.Same.{same_hands, same-hands}
use Rattle.dd_cards.proofs.CallerLemmas.{and-left, and-right, same_hands-is}
use Rattle.dd_play.specs.Board.{Board}
use Rattle.dd_play.specs.Same.{same_board}
use Rattle.dd_play.proofs.CallerLemmas.{same_board-is}
use Rattle.dd_request.specs.Questions.{Question}
use Rattle.dd_request.specs.Targets.{TargetQuestion}
use Rattle.dd_request.specs.Results.{PartResult, part_result}
use Rattle.dd_request.specs.Same.{same_question, same_target}

abbrev question : Board → ℕ → Question
question board solutions = record { board = board; solutions = solutions }

question-eq : (b b' : Board) (k k' : ℕ) → b ≡ b' → k ≡ k' → question b k ≡ question b' k'
question-eq b b' k k' p q = rw (p, q) refl

-- the same position, and as many cards asked for, are one question
pub same_question-is : (a b : Question) → same_question a b ≡ true → a ≡ b
same_question-is a b h =
    let board = same_board-is a.board b.board (and-left (same_board a.board b.board) (a.solutions == b.solutions) h) in
    let solutions = eqb-true a.solutions b.solutions (and-right (same_board a.board b.board) (a.solutions == b.solutions) h) in
    question-eq _ _ _ _ board solutions

target-eq : (b b' : Board) (t t' k k' : ℕ) → b ≡ b' → t ≡ t' → k ≡ k'
    → (let x : TargetQuestion = record { board = b; target = t; solutions = k } in x) ≡ (let y : TargetQuestion = record { board = b'; target = t'; solutions = k' } in y)
target-eq b b' t t' k k' p q r = rw (p, q, r) refl

-- the parts of three tests
three-of : (a b c : Bool) → (a && b && c) ≡ true → (a ≡ true) × (b ≡ true) × (c ≡ true)
three-of true true true h = (refl, refl, refl)
three-of true true false h = absurd (cc)
three-of true false c h = absurd (cc)
three-of false b c h = absurd (cc)

-- the same with a target
pub same_target-is : (a b : TargetQuestion) → same_target a b ≡ true → a ≡ b
same_target-is a b h =
    let parts = three-of (same_board a.board b.board) (a.target == b.target) (a.solutions == b.solutions) h in
    let board = same_board-is a.board b.board parts.0 in
    let target = eqb-true a.target b.target parts.1 in
    let solutions = eqb-true a.solutions b.solutions parts.2 in
    target-eq _ _ _ _ _ _ board target solutions

-- a result is that of a part of some hands exactly where it is of these hands and this part
pub same_part-told : (told : Bool) (solved : PartResult) (hands : FourHands) (part : ℕ) → solved ≡ part_result solved.hands solved.part
    → told ≡ (same_hands hands solved.hands && (solved.part == part))
    → (told ≡ true → solved ≡ part_result hands part) × (solved ≡ part_result hands part → told ≡ true)
same_part-told told solved hands part own is = (
  (λ h.
      let both : (same_hands hands solved.hands && (solved.part == part)) ≡ true = sym is ∙ h in
      let theirs = same_hands-is hands solved.hands (and-left (same_hands hands solved.hands) (solved.part == part) both) in
      let number = eqb-true solved.part part (and-right (same_hands hands solved.hands) (solved.part == part) both) in
      own ∙ ap (λ (xs : FourHands). part_result xs solved.part) (sym theirs) ∙ ap (part_result hands) number),
  (λ e.
      let theirs : hands ≡ solved.hands = ap (λ (s : PartResult). s.hands) (sym e) in
      let number : part ≡ solved.part = ap (λ (s : PartResult). s.part) (sym e) in
      is ∙ and_from (same_hands hands solved.hands) (solved.part == part)
      (subst (λ (xs : FourHands). same_hands hands xs ≡ true) theirs (same-hands.refl hands))
      (subst (λ k. (solved.part == k) ≡ true) (sym number) (nat_eq_equiv.refl solved.part))),
)
