use Rattle.std.proofs.Common.{◌≡◌, ◌≤◌, ◌<◌, ◌∙◌, ap, sym, subst, true, Some}
use Rattle.std.specs.Prelude.{map, is_some, option_map}
use Rattle.dd_cards.specs.Seats.{seat_code}
use Rattle.dd_cards.specs.Strains.{strain_code}
use Rattle.dd_play.specs.Board.{board_of}
use Rattle.dd_wire.specs.Reading.{ArePlayed, target_fields_of}
use Rattle.dd_wire.specs.Requests.{MeansBoard, target_question, are_cards, pair_of_card}
use Rattle.dd_wire.proofs.Meanings.{means-target_cards}
use Rattle.dd_wire.proofs.target_reader.request_for.Goals as goal

pub returns : goal.returns
returns c = λ pairs found.
    let fields = target_fields_of c.args.fields.now pairs in
    let low : fields.solve.trump ≤ 4 = c.strain_of.ensures.valid.0 (ap is_some c.in_ok-strain.ensures.ok_part) in
    let strain : strain_code c.in_ok-strain.strain ≡ fields.solve.trump = rw c.in_ok-strain.ensures.ok_part at c.strain_of.ensures.value in
    let below : fields.solve.first < 4 = c.seat_of.ensures.valid.0 (ap is_some c.in_ok-first.ensures.ok_part) in
    let first : seat_code c.in_ok-first.first ≡ fields.solve.first = rw c.in_ok-first.ensures.ok_part at c.seat_of.ensures.value in
    let kept : c.args.fields.now.solve.played ≡ Some c.in_ok-trick.trick.now = sym c.as_ref.ensures.value ∙ ap (option_map (λ t. t.now)) c.in_ok-trick.ensures.ok_part in
    let cards : (are_cards fields.solve.played ≡ true) × (map pair_of_card c.in_ok-trick.trick.now.items ≡ fields.solve.played) = subst (λ trick. ArePlayed (option_map (λ t. t.items) trick) pairs) kept found in
    let played : map pair_of_card c.as_slice.result.now ≡ fields.solve.played = ap (map pair_of_card) c.as_slice.ensures.value ∙ cards.1 in
    let within : (1 ≤ fields.solve.solutions) × (fields.solve.solutions ≤ 2) = c.solutions_of.ensures.valid.0 (ap is_some c.in_ok-solutions.ensures.ok_part) in
    let solutions : c.in_ok-solutions.solutions ≡ fields.solve.solutions = rw c.in_ok-solutions.ensures.ok_part at c.solutions_of.ensures.value in
    let bound : fields.target ≤ 13 = c.target_of.ensures.valid.0 (ap is_some c.in_ok-target.ensures.ok_part) in
    let target : c.in_ok-target.target ≡ fields.target = rw c.in_ok-target.ensures.ok_part at c.target_of.ensures.value in
    let board = board_of c.args.hands c.in_ok-strain.strain c.in_ok-first.first c.as_slice.result.now in
    let means : MeansBoard board (target_question fields board) c.request.result = rw (solutions, target) at c.request.ensures in
    means-target_cards fields c.args.hands c.in_ok-strain.strain c.in_ok-first.first c.as_slice.result.now c.request.result strain low first below played cards.0 within.0 within.1 bound means
