use Rattle.std.proofs.Common.{◌≡◌, ◌+◌, ◌-◌, ◌<◌, ap, sym, ◌∙◌, arith, length, true, false}
use Rattle.dd_cards.specs.Sides.{side_of, is_side}
use Rattle.dd_play.specs.Board.{mover}
use Rattle.dd_play.specs.Play.{legal}
use Rattle.dd_play.specs.Won.{won}
use Rattle.dd_request.specs.Plays.{declarers, tricks_after}
use Rattle.dd_request.proofs.CallerLemmas.{Stands}
use Rattle.dd_solve.proofs.Numbers.{least-declarers, least-defenders, next-within, number-declarers, number-defenders, number-forced}
use Rattle.dd_solve.proofs.play_solving.number_after.Goals as goal
use Rattle.dd_solve.proofs.play_solving.number_after.Goals.{in-None+in_ok-value-in-None, in-Some+else-len-eq1+in_ok-value-in-Some, then-declarer_plays, else-declarer_plays, then-declarer_plays-2, else-declarer_plays-2}
use Rattle.dd_search.proofs.CallerLemmas.{value-within}

pub returns-then-len-eq1-clause-number : goal.returns-then-len-eq1-clause-number
returns-then-len-eq1-clause-number g c =
    let s : Stands c.args.request.now c.args.count c.after-position.result.0 c.after-position.result.1 = record { valid = c.after-position.ensures.board; regular = c.after-position.ensures.regular; position = c.after-position.ensures.position; won = c.after-position.ensures.won } in
    let known : (c.args.count < length c.args.request.now.cards) × (c.in-Some.next ≡ tricks_after c.args.request.now (c.args.count + 1)) = rw c.in-Some.is at c.requires.next in
    let one : length (legal c.after-position.result.0) ≡ 1 = sym (ap length c.choices.ensures.cards) ∙ sym c.len.ensures ∙ c.if-len-eq1.true in
    number-forced c.args.request.now c.args.count c.after-position.result.0 c.after-position.result.1 c.in-Some.next s known.0 known.1 one

pub returns-then-len-eq1-clause-bound : goal.returns-then-len-eq1-clause-bound
returns-then-len-eq1-clause-bound g c =
    let s : Stands c.args.request.now c.args.count c.after-position.result.0 c.after-position.result.1 = record { valid = c.after-position.ensures.board; regular = c.after-position.ensures.regular; position = c.after-position.ensures.position; won = c.after-position.ensures.won } in
    let known : (c.args.count < length c.args.request.now.cards) × (c.in-Some.next ≡ tricks_after c.args.request.now (c.args.count + 1)) = rw c.in-Some.is at c.requires.next in
    let within = next-within c.args.request.now c.args.count c.after-position.result.0 c.after-position.result.1 c.in-Some.next s known.0 known.1 in
    let most = within.1 in
    let few = c.after-position.ensures.bound in
    omega (arith, most, few)

pub overflow_sub-rest : goal.overflow_sub-rest
overflow_sub-rest g c =
    let s : Stands c.args.request.now c.args.count c.after-position.result.0 c.after-position.result.1 = record { valid = c.after-position.ensures.board; regular = c.after-position.ensures.regular; position = c.after-position.ensures.position; won = c.after-position.ensures.won } in
    let known : (c.args.count < length c.args.request.now.cards) × (c.in-Some.next ≡ tricks_after c.args.request.now (c.args.count + 1)) = rw c.in-Some.is at c.requires.next in
    let within = next-within c.args.request.now c.args.count c.after-position.result.0 c.after-position.result.1 c.in-Some.next s known.0 known.1 in
    within.0

pub overflow_sub-least : goal.overflow_sub-least
overflow_sub-least g c =
    let s : Stands c.args.request.now c.args.count c.after-position.result.0 c.after-position.result.1 = record { valid = c.after-position.ensures.board; regular = c.after-position.ensures.regular; position = c.after-position.ensures.position; won = c.after-position.ensures.won } in
    let known : (c.args.count < length c.args.request.now.cards) × (c.in-Some.next ≡ tricks_after c.args.request.now (c.args.count + 1)) = rw c.in-Some.is at c.requires.next in
    let within = next-within c.args.request.now c.args.count c.after-position.result.0 c.after-position.result.1 c.in-Some.next s known.0 known.1 in
    let most = within.1 in
    let left = c.tricks_left-left.ensures.tricks in
    omega (arith, most, left)

pub value_at_least-requires : goal.value_at_least-requires
value_at_least-requires g c =
    let s : Stands c.args.request.now c.args.count c.after-position.result.0 c.after-position.result.1 = record { valid = c.after-position.ensures.board; regular = c.after-position.ensures.regular; position = c.after-position.ensures.position; won = c.after-position.ensures.won } in
    let known : (c.args.count < length c.args.request.now.cards) × (c.in-Some.next ≡ tricks_after c.args.request.now (c.args.count + 1)) = rw c.in-Some.is at c.requires.next in
    elim c.if-declarer_plays.branch [
      | then-declarer_plays w ↦ (
          let turn : is_side (declarers c.args.request.now.opening) (mover c.after-position.result.0) ≡ true = sym c.declarer_plays-declarer_plays.ensures ∙ w.if-declarer_plays.true in
          let least = least-declarers c.args.request.now c.args.count c.after-position.result.0 c.after-position.result.1 c.in-Some.next s known.0 known.1 turn in
          let is = w.least-is in
          omega (arith, least, is))
      | else-declarer_plays w ↦ (
          let turn : is_side (declarers c.args.request.now.opening) (mover c.after-position.result.0) ≡ false = sym c.declarer_plays-declarer_plays.ensures ∙ w.if-declarer_plays.false in
          let least = least-defenders c.args.request.now c.args.count c.after-position.result.0 c.after-position.result.1 c.in-Some.next s known.0 known.1 turn in
          let is = w.least-is in
          let left = c.tricks_left-left.ensures.tricks in
          omega (arith, least, is, left))
    ]

pub overflow_sub-to_come : goal.overflow_sub-to_come
overflow_sub-to_come g c =
    let s : Stands c.args.request.now c.args.count c.after-position.result.0 c.after-position.result.1 = record { valid = c.after-position.ensures.board; regular = c.after-position.ensures.regular; position = c.after-position.ensures.position; won = c.after-position.ensures.won } in
    let value : c.match-next.value ≡ won (side_of (mover c.after-position.result.0)) c.after-position.result.0 = elim c.match-next.branch [
      | in-None+in_ok-value-in-None w ↦ w.value-is ∙ w.in_ok-value-in-None.ensures.value
      | in-Some+else-len-eq1+in_ok-value-in-Some w ↦ w.value-is ∙ w.in_ok-value-in-Some.ensures.value
    ] in
    let turn : is_side (declarers c.args.request.now.opening) (mover c.after-position.result.0) ≡ false = sym c.declarer_plays-declarer_plays.ensures ∙ c.if-declarer_plays-2.false in
    let most = (number-defenders c.args.request.now c.args.count c.after-position.result.0 c.after-position.result.1 c.match-next.value s value turn).0 in
    let left = c.tricks_left-left.ensures.tricks in
    omega (arith, most, left)

pub returns-clause-number : goal.returns-clause-number
returns-clause-number g c =
    let s : Stands c.args.request.now c.args.count c.after-position.result.0 c.after-position.result.1 = record { valid = c.after-position.ensures.board; regular = c.after-position.ensures.regular; position = c.after-position.ensures.position; won = c.after-position.ensures.won } in
    let value : c.match-next.value ≡ won (side_of (mover c.after-position.result.0)) c.after-position.result.0 = elim c.match-next.branch [
      | in-None+in_ok-value-in-None w ↦ w.value-is ∙ w.in_ok-value-in-None.ensures.value
      | in-Some+else-len-eq1+in_ok-value-in-Some w ↦ w.value-is ∙ w.in_ok-value-in-Some.ensures.value
    ] in
    elim c.if-declarer_plays-2.branch [
      | then-declarer_plays-2 w ↦ (
          let turn : is_side (declarers c.args.request.now.opening) (mover c.after-position.result.0) ≡ true = sym c.declarer_plays-declarer_plays.ensures ∙ w.if-declarer_plays-2.true in
          ap (λ n. c.after-position.result.1 + n) w.to_come-is ∙ number-declarers c.args.request.now c.args.count c.after-position.result.0 c.after-position.result.1 c.match-next.value s value turn)
      | else-declarer_plays-2 w ↦ (
          let turn : is_side (declarers c.args.request.now.opening) (mover c.after-position.result.0) ≡ false = sym c.declarer_plays-declarer_plays.ensures ∙ w.if-declarer_plays-2.false in
          ap (λ n. c.after-position.result.1 + n) w.to_come-is ∙ ap (λ n. c.after-position.result.1 + (n - c.match-next.value)) c.tricks_left-left.ensures.tricks
          ∙ (number-defenders c.args.request.now c.args.count c.after-position.result.0 c.after-position.result.1 c.match-next.value s value turn).1)
    ]

pub returns-clause-bound : goal.returns-clause-bound
returns-clause-bound g c =
    let s : Stands c.args.request.now c.args.count c.after-position.result.0 c.after-position.result.1 = record { valid = c.after-position.ensures.board; regular = c.after-position.ensures.regular; position = c.after-position.ensures.position; won = c.after-position.ensures.won } in
    let value : c.match-next.value ≡ won (side_of (mover c.after-position.result.0)) c.after-position.result.0 = elim c.match-next.branch [
      | in-None+in_ok-value-in-None w ↦ w.value-is ∙ w.in_ok-value-in-None.ensures.value
      | in-Some+else-len-eq1+in_ok-value-in-Some w ↦ w.value-is ∙ w.in_ok-value-in-Some.ensures.value
    ] in
    let few = c.after-position.ensures.bound in
    let left = c.tricks_left-left.ensures.tricks in
    elim c.if-declarer_plays-2.branch [
      | then-declarer_plays-2 w ↦ (
          let is = w.to_come-is in
          let most = value-within c.after-position.result.0 c.tricks_left-left.ensures.board in
          omega (arith, few, is, value, most))
      | else-declarer_plays-2 w ↦ (let is = w.to_come-is in omega (arith, few, is, left))
    ]
