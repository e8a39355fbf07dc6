use Rattle.std.proofs.Common.{◌≡◌, ◌≤◌, ◌<◌, ◌∙◌, ap, sym, subst, true, Some}
use Rattle.std.specs.Prelude.{map, is_some, option_map}
use Rattle.dd_cards.specs.Seats.{seat_code}
use Rattle.dd_cards.specs.Strains.{strain_code}
use Rattle.dd_wire.specs.PlayLines.{are_cards_played}
use Rattle.dd_wire.specs.ReadingPlay.{AreCards, fields_of}
use Rattle.dd_wire.specs.Requests.{pair_of_card}
use Rattle.dd_wire.proofs.PlayMeanings.{means-played}
use Rattle.dd_wire.proofs.play_reader.play_of_hands.Goals as goal

pub returns : goal.returns
returns c = λ pairs found.
    let fields = fields_of c.args.fields.now pairs in
    let low : fields.trump ≤ 4 = c.strain_of.ensures.valid.0 (ap is_some c.in_ok-strain.ensures.ok_part) in
    let strain : strain_code c.in_ok-strain.strain ≡ fields.trump = rw c.in_ok-strain.ensures.ok_part at c.strain_of.ensures.value in
    let below : fields.first < 4 = c.seat_of.ensures.valid.0 (ap is_some c.in_ok-first.ensures.ok_part) in
    let first : seat_code c.in_ok-first.first ≡ fields.first = rw c.in_ok-first.ensures.ok_part at c.seat_of.ensures.value in
    let kept : c.args.fields.now.cards ≡ Some c.in_ok-cards.cards.now = sym c.as_ref.ensures.value ∙ ap (option_map (λ t. t.now)) c.in_ok-cards.ensures.ok_part in
    let cards : (are_cards_played fields.cards ≡ true) × (map pair_of_card c.in_ok-cards.cards.now.items ≡ fields.cards) = subst (λ cs. AreCards (option_map (λ t. t.items) cs) pairs) kept found in
    let played : map pair_of_card c.as_slice.result.now ≡ fields.cards = ap (map pair_of_card) c.as_slice.ensures.value ∙ cards.1 in
    means-played fields c.args.hands c.in_ok-strain.strain c.in_ok-first.first c.as_slice.result.now c.play_request.result strain low first below played cards.0 c.play_request.ensures
