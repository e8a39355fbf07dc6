use Rattle.std.proofs.Common.{◌≡◌, ◌+◌, ◌-◌, true, false, sym, ap, ◌∙◌, subst, arith, Bool}
use Rattle.dd_play.specs.Board.{tricks_left}
use Rattle.dd_play.specs.Reach.{reach, TakesBy}
use Rattle.dd_search.specs.ClaimsBy.{ClaimBy, IsAnswerBy}
use Rattle.dd_search.proofs.Relied.{claims-within, claim-wider}
use Rattle.dd_cards.specs.declared.side.Side.TheVariants.{NorthSouth, EastWest}
use Rattle.dd_search.proofs.position_value.north_souths_tricks.Goals as goal

pub window-init : goal.window-init
window-init g c = record {
  window = c.window-window.ensures;
  within = claims-within c.args.position.now c.window-window.result.0 c.window-window.result.1 c.tricks_left-left.ensures.board c.window-window.ensures;
  ticked = c.in_ok-go_on.ensures.ticked;
  limit = c.go_on.ensures.limit;
}

pub window-preserved-then-is_yes : goal.window-preserved-then-is_yes
window-preserved-then-is_yes g c =
    let p = c.args.position.now in
    let need = c.next_question-need.result in
    let said : c.in_ok-answer.answer.yes ≡ true = sym c.is_yes.ensures ∙ c.if-is_yes.true in
    let cards = sym c.cards.ensures in
    let answer : IsAnswerBy p need c.in_ok-answer.answer.cards true = subst (λ (b : Bool). IsAnswerBy p need c.in_ok-answer.answer.cards b) said c.in_ok-answer.ensures.winning_ranks in
    let here : TakesBy (reach c.cards.result) NorthSouth p need = subst (λ x. TakesBy (reach x) NorthSouth p need) cards answer in
    let ours : ClaimBy = record { tricks = need; cards = c.cards.result } in
    record {
      window = (here, c.window.invariant.window.1);
      within = claims-within p ours c.window.theirs c.tricks_left-left.ensures.board (here, c.window.invariant.window.1);
      ticked = g.met.M.Meter.later c.args.meter.now c.window.meter c.zero_window_in_order.new.meter c.window.invariant.ticked c.in_ok-answer.ensures.ticked;
      limit = c.zero_window_in_order.ensures.limit ∙ c.window.invariant.limit;
    }

pub window-preserved : goal.window-preserved
window-preserved g c =
    let p = c.args.position.now in
    let need = c.next_question-need.result in
    let said : c.in_ok-answer.answer.yes ≡ false = sym c.is_yes.ensures ∙ c.if-is_yes.false in
    let cards = sym c.cards-else-is_yes.ensures in
    let answer : IsAnswerBy p need c.in_ok-answer.answer.cards false = subst (λ (b : Bool). IsAnswerBy p need c.in_ok-answer.answer.cards b) said c.in_ok-answer.ensures.winning_ranks in
    let rest = ap (λ n. n + 1 - need) (sym c.tricks_left-left.ensures.tricks) in
    let here : TakesBy (reach c.cards-else-is_yes.result) EastWest p (c.tricks_left-left.result + 1 - need) = subst (λ n. TakesBy (reach c.cards-else-is_yes.result) EastWest p n) rest (subst (λ x. TakesBy (reach x) EastWest p (tricks_left p + 1 - need)) cards answer) in
    let theirs : ClaimBy = record { tricks = c.tricks_left-left.result + 1 - need; cards = c.cards-else-is_yes.result } in
    record {
      window = (c.window.invariant.window.0, here);
      within = claims-within p c.window.ours theirs c.tricks_left-left.ensures.board (c.window.invariant.window.0, here);
      ticked = g.met.M.Meter.later c.args.meter.now c.window.meter c.zero_window_in_order.new.meter c.window.invariant.ticked c.in_ok-answer.ensures.ticked;
      limit = c.zero_window_in_order.ensures.limit ∙ c.window.invariant.limit;
    }

pub returns-clause-theirs : goal.returns-clause-theirs
returns-clause-theirs g c =
    let tricks = ap (λ (a : ClaimBy). a.tricks) c.ours.view_is in
    claim-wider NorthSouth c.args.position.now c.window.ours c.union.result c.ours.inside.tricks c.window.invariant.window.0 (rw (← ap (λ (a : ClaimBy). a.cards) c.ours.view_is) c.union.ensures.left) (omega (arith, tricks))

pub returns-clause-others : goal.returns-clause-others
returns-clause-others g c =
    let ours = ap (λ (a : ClaimBy). a.tricks) c.ours.view_is in
    let theirs = ap (λ (a : ClaimBy). a.tricks) c.theirs.view_is in
    let left_is = c.tricks_left-left.ensures.tricks in
    let done = c.window-test.false in
    claim-wider EastWest c.args.position.now c.window.theirs c.union.result _ c.window.invariant.window.1 (rw (← ap (λ (a : ClaimBy). a.cards) c.theirs.view_is) c.union.ensures.right) (omega (arith, ours, theirs, left_is, done))
