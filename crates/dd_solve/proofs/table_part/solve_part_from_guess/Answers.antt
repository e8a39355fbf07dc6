use Rattle.std.proofs.Common.{◌≡◌, ◌-◌, ap, sym, ◌∙◌}
use Rattle.dd_cards.specs.Hands.{FourHands}
use Rattle.dd_play.specs.Board.{tricks_left}
use Rattle.dd_play.specs.Value.{leaders_tricks}
use Rattle.dd_request.specs.Results.{tricks_of, contract_of}
use Rattle.dd_solve.proofs.table_part.solve_part_from_guess.Goals as goal

pub of-requires-clause-tricks : goal.of-requires-clause-tricks
unfolding tricks_of
of-requires-clause-tricks g c =
    c.in_ok-tricks.ensures.tricks ∙ ap (λ p. tricks_left p - leaders_tricks p) c.opening.ensures.value ∙ ap (λ hands. tricks_of hands (contract_of c.args.part)) (sym c.copy.ensures.same)

pub returns-clause-solved : goal.returns-clause-solved
unfolding tricks_of
returns-clause-solved g c =
    let same : c.copy.result ≡ c.args.request.now = c.copy.ensures.same in
    let tricks : c.in_ok-tricks.tricks ≡ tricks_of c.args.request.now (contract_of c.args.part) = c.in_ok-tricks.ensures.tricks ∙ ap (λ p. tricks_left p - leaders_tricks p) c.opening.ensures.value in
    c.of.ensures
    ∙ ap (λ (hands : FourHands). record { hands = hands; part = c.args.part; tricks = c.in_ok-tricks.tricks }) same
    ∙ ap (λ n. record { hands = c.args.request.now; part = c.args.part; tricks = n }) tricks
