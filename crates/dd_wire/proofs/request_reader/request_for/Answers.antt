use Rattle.std.proofs.Common.{◌≡◌, ◌≤◌, ◌<◌, ◌∙◌, ap, sym, subst, true, Some}
use Rattle.std.specs.Prelude.{map, is_some, option_map}
use Rattle.dd_cards.specs.Seats.{seat_code}
use Rattle.dd_cards.specs.Strains.{strain_code}
use Rattle.dd_play.specs.Board.{board_of}
use Rattle.dd_wire.specs.Reading.{ArePlayed, fields_of}
use Rattle.dd_wire.specs.Requests.{MeansBoard, question, are_cards, pair_of_card}
use Rattle.dd_wire.proofs.Meanings.{means-cards}
use Rattle.dd_wire.proofs.request_reader.request_for.Goals as goal

pub returns : goal.returns
returns c = λ pairs found.
    let fields = fields_of c.args.fields.now pairs in
    let low : fields.trump ≤ 4 = c.strain_of.ensures.valid.0 (ap is_some c.in_ok-strain.ensures.ok_part) in
    let strain : strain_code c.in_ok-strain.strain ≡ fields.trump = rw c.in_ok-strain.ensures.ok_part at c.strain_of.ensures.value in
    let below : fields.first < 4 = c.seat_of.ensures.valid.0 (ap is_some c.in_ok-first.ensures.ok_part) in
    let first : seat_code c.in_ok-first.first ≡ fields.first = rw c.in_ok-first.ensures.ok_part at c.seat_of.ensures.value in
    let kept : c.args.fields.now.played ≡ Some c.in_ok-trick.trick.now = sym c.as_ref.ensures.value ∙ ap (option_map (λ t. t.now)) c.in_ok-trick.ensures.ok_part in
    let cards : (are_cards fields.played ≡ true) × (map pair_of_card c.in_ok-trick.trick.now.items ≡ fields.played) = subst (λ trick. ArePlayed (option_map (λ t. t.items) trick) pairs) kept found in
    let played : map pair_of_card c.as_slice.result.now ≡ fields.played = ap (map pair_of_card) c.as_slice.ensures.value ∙ cards.1 in
    let within : (1 ≤ fields.solutions) × (fields.solutions ≤ 3) = c.solutions_of.ensures.valid.0 (ap is_some c.in_ok-solutions.ensures.ok_part) in
    let solutions : c.in_ok-solutions.solutions ≡ fields.solutions = rw c.in_ok-solutions.ensures.ok_part at c.solutions_of.ensures.value in
    let board = board_of c.args.hands c.in_ok-strain.strain c.in_ok-first.first c.as_slice.result.now in
    let means : MeansBoard board (question fields.solutions board) c.request.result = rw solutions at c.request.ensures in
    means-cards fields c.args.hands c.in_ok-strain.strain c.in_ok-first.first c.as_slice.result.now c.request.result strain low first below played cards.0 within.0 within.1 means
