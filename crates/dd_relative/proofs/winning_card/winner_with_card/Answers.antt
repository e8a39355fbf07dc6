use Rattle.std.proofs.Common.{◌∙◌, sym}
use Rattle.dd_relative.proofs.Winners.{best-some, card-is, wins}
use Rattle.dd_relative.proofs.winning_card.winner_with_card.Goals as goal
use Rattle.dd_play.proofs.CallerLemmas.{real-four}

pub unreachable-requires : goal.unreachable-requires
unreachable-requires c =
    best-some c.args.strain c.args.first c.args.second c.args.third c.args.fourth c.four_cards-trick.result
    (real-four c.args.first c.args.second c.args.third c.args.fourth c.number.ensures.real c.number-2.ensures.real c.number-3.ensures.real c.number-4.ensures.real) c.four_cards-trick.ensures
    (sym c.deciding-best.ensures ∙ c.in-None.ensures.0)

pub returns-clause-seat : goal.returns-clause-seat
returns-clause-seat c =
    c.after.ensures
    ∙ wins c.args.strain c.args.first c.args.second c.args.third c.args.fourth c.four_cards-trick.result
    (real-four c.args.first c.args.second c.args.third c.args.fourth c.number.ensures.real c.number-2.ensures.real c.number-3.ensures.real c.number-4.ensures.real) c.four_cards-trick.ensures
    c.in-Some.won c.take_first.new.self (sym c.deciding-best.ensures ∙ c.in-Some.ensures) c.place_among.result c.place_among.ensures.value

pub returns-clause-card : goal.returns-clause-card
returns-clause-card c =
    card-is c.args.strain c.args.first c.args.second c.args.third c.args.fourth c.four_cards-trick.result
    (real-four c.args.first c.args.second c.args.third c.args.fourth c.number.ensures.real c.number-2.ensures.real c.number-3.ensures.real c.number-4.ensures.real) c.four_cards-trick.ensures
    c.in-Some.won c.take_first.new.self (sym c.deciding-best.ensures ∙ c.in-Some.ensures) c.after.result c.place_among.result c.place_among.ensures.value c.place_among.ensures.bound c.after.ensures
