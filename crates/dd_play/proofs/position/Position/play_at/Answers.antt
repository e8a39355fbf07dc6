use Rattle.std.proofs.Common.{rules, ◌≡◌, ◌+◌, take, [], sym, ap, ◌∙◌, arith, ℕ, false, inl, inr}
use Rattle.std.proofs.lemmas.Bool.Decides.{eqb_tells}
use Rattle.std.specs.Prelude.{◌==◌}
use Rattle.std.proofs.lemmas.Grind.{common_steps}
use Rattle.dd_play.specs.Board.{Board, board_of}
use Rattle.dd_play.specs.InPlay.{is_in_play}
use Rattle.dd_play.specs.Play.{after}
use Rattle.dd_play.proofs.Boards.{after-board}
use Rattle.dd_play.proofs.InPlay.{none-lies, stays-in-play}
use Rattle.dd_play.proofs.TrickCards.{lie-number}
use Rattle.dd_play.proofs.position.Position.play_at.Goals as goal

closed : (c : goal.After-next-then-played-eq3-1) → board_of c.hands_without-hands.result c.self.inside.strain c.winner-seat.result [] ≡ after c.args.self.now c.args.card
closed c =
    let full : c.self.inside.played ≡ 3 = lie-number c.self.inside.trick c.args.self.now.trick c.self.inside.played c.args.played (ap (λ (b : Board). b.trick) c.self.view_is) c.self.invariant.1 c.self.invariant.0 c.requires.turn ∙ c.if-played-eq3.true in
    search rules

open_trick : (c : goal.After-with_place) → board_of c.hands_without-hands.result c.self.inside.strain c.self.inside.first (take (c.args.played + 1) c.with_place.result) ≡ after c.args.self.now c.args.card
open_trick c =
    let number : c.self.inside.played ≡ c.args.played = lie-number c.self.inside.trick c.args.self.now.trick c.self.inside.played c.args.played (ap (λ (b : Board). b.trick) c.self.view_is) c.self.invariant.1 c.self.invariant.0 c.requires.turn in
    grind (arith, common_steps)

-- fewer than three lie there
unequal : {n : ℕ} → (n ≡ 3 → ⊥) → (n == 3) ≡ false
unequal {n} apart = elim (eqb_tells n 3) [ inl same ↦ absurd (apart same.1) | inr other ↦ other.0 ]

pub invariant_of-next : goal.invariant_of-next
invariant_of-next c = (omega arith, c.self.invariant.1, after-board c.args.self.now _ c.args.card c.hands_without-hands.ensures.board c.requires.card (closed c), λ d. c.in_hands-in_play.ensures d ∙ none-lies c.hands_without-hands.result d)

pub invariant_of-next-else-played-eq3 : goal.invariant_of-next-else-played-eq3
invariant_of-next-else-played-eq3 c = (
  omega arith,
  search rules,
  after-board c.args.self.now _ c.args.card c.hands_without-hands.ensures.board c.requires.card (open_trick c),
  λ d.
      c.self.invariant.3 d ∙ ap (λ (b : Board). is_in_play b d) c.self.view_is
      ∙ sym (stays-in-play c.args.self.now c.args.card d c.hands_without-hands.ensures.board c.requires.card (ap (λ n. n == 3) c.requires.turn ∙ unequal c.if-played-eq3.false)) ∙ ap (λ (b : Board). is_in_play b d) (sym (open_trick c)),
)

pub returns-then-played-eq3-clause-legal : goal.returns-then-played-eq3-clause-legal
returns-then-played-eq3-clause-legal c = after-board c.args.self.now _ c.args.card c.hands_without-hands.ensures.board c.requires.card (closed c)

pub returns-else-played-eq3-clause-legal : goal.returns-else-played-eq3-clause-legal
returns-else-played-eq3-clause-legal c = after-board c.args.self.now _ c.args.card c.hands_without-hands.ensures.board c.requires.card (open_trick c)
