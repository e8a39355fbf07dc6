use Rattle.std.proofs.Common.{◌-◌, ap, sym, ◌∙◌, arith}
use Rattle.dd_cards.specs.Seats.{is_north_south}
use Rattle.dd_play.proofs.CallerLemmas.{left-13}
use Rattle.dd_search.specs.ClaimsBy.{ClaimBy}
use Rattle.dd_search.proofs.Greatest.{value-north-south, value-east-west}
use Rattle.dd_search.proofs.Relied.{IsExactly, exactly-theirs, exactly-others}
use Rattle.dd_search.proofs.position_value.value_from_guess.Goals as goal
use Rattle.dd_search.proofs.position_value.value_from_guess.Goals.{After-is_north_south}

-- what was found
found : (g : _) (c : After-is_north_south g) → IsExactly c.args.position.now c.in_ok-found.found.tricks c.in_ok-found.found.cards
found g c = record { valid = c.mover.ensures.board; theirs = c.in_ok-found.ensures.theirs; others = c.in_ok-found.ensures.others; within = c.in_ok-found.ensures.within }

pub returns-then-is_north_south-clause-value : goal.returns-then-is_north_south-clause-value
returns-then-is_north_south-clause-value g c =
    let k = found g (goal.at.returns-then-is_north_south-clause-value g c).After-is_north_south in
    ap (λ (a : ClaimBy). a.tricks) c.found.view_is
    ∙ value-north-south c.args.position.now c.in_ok-found.found.tricks c.mover.ensures.board (exactly-theirs _ _ _ k) (exactly-others _ _ _ k) k.within
    (sym (c.is_north_south.ensures ∙ ap is_north_south c.mover.ensures.seat) ∙ c.if-is_north_south.true)

pub returns-then-is_north_south-clause-bound : goal.returns-then-is_north_south-clause-bound
returns-then-is_north_south-clause-bound g c =
    let few = left-13 c.args.position.now c.mover.ensures.board in
    let within = c.in_ok-found.ensures.within in
    let tricks = ap (λ (a : ClaimBy). a.tricks) c.found.view_is in
    omega (arith, few, within, tricks)

pub returns-else-is_north_south-clause-value : goal.returns-else-is_north_south-clause-value
returns-else-is_north_south-clause-value g c =
    let k = found g (goal.at.returns-else-is_north_south-clause-value g c).After-is_north_south in
    ap (λ (a : ClaimBy). c.tricks_left.result - a.tricks) c.found.view_is
    ∙ ap (λ n. n - c.in_ok-found.found.tricks) c.tricks_left.ensures.tricks
    ∙ value-east-west c.args.position.now c.in_ok-found.found.tricks c.mover.ensures.board (exactly-theirs _ _ _ k) (exactly-others _ _ _ k) k.within
    (sym (c.is_north_south.ensures ∙ ap is_north_south c.mover.ensures.seat) ∙ c.if-is_north_south.false)
