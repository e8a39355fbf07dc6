use Rattle.std.proofs.Common.{◌≡◌, ◌+◌, ◌*◌, length}
use mathlib.Core.Bool.{not}
use Rattle.dd_play.specs.Board.{cards_left}
use Rattle.dd_search.proofs.Relied.{AllLead, AllLegal}
use Rattle.dd_search.proofs.zero_window.+zero_window.Given as goal

-- A question comes before a start of a trick, that before its leads, these before the play that answers it, that before the choices, these before a card,
-- and that before the question after the card.
abbrev pub decreases-zero_window_at_first_hand : goal.decreases-zero_window_at_first_hand
decreases-zero_window_at_first_hand g l = 8 * cards_left l.position.now + 6

abbrev pub decreases-zero_window_at_start : goal.decreases-zero_window_at_start
decreases-zero_window_at_start g l = 8 * cards_left l.start.now + 5

abbrev pub decreases-zero_window_at_second_hand : goal.decreases-zero_window_at_second_hand
decreases-zero_window_at_second_hand g l = 8 * cards_left l.position.now + 5

abbrev pub decreases-zero_window_at_third_hand : goal.decreases-zero_window_at_third_hand
decreases-zero_window_at_third_hand g l = 8 * cards_left l.position.now + 5

abbrev pub decreases-zero_window_at_fourth_hand : goal.decreases-zero_window_at_fourth_hand
decreases-zero_window_at_fourth_hand g l = 8 * cards_left l.position.now + 5

abbrev pub decreases-answer_at_start : goal.decreases-answer_at_start
decreases-answer_at_start g l = 8 * cards_left l.start.now + 4

abbrev pub decreases-answer_by_leads : goal.decreases-answer_by_leads
decreases-answer_by_leads g l = 8 * cards_left l.start.now + 3

abbrev pub decreases-answer_by_play : goal.decreases-answer_by_play
decreases-answer_by_play g l = 8 * cards_left l.position.now + 2

abbrev pub decreases-answer_by_only_choice : goal.decreases-answer_by_only_choice
decreases-answer_by_only_choice g l = 8 * cards_left l.position.now + 1

abbrev pub decreases-answer_by_choices : goal.decreases-answer_by_choices
decreases-answer_by_choices g l = 8 * cards_left l.position.now + 1

abbrev pub decreases-answer_after : goal.decreases-answer_after
decreases-answer_after g l = 8 * cards_left l.position.now

-- Of each class the highest card is still to be tried, or is not enough for the side to play, by these cards.
abbrev pub invariant-answer_by_choices-tries : goal.invariant-answer_by_choices-tries
invariant-answer_by_choices-tries g l = record {
  lead : AllLead l.position l.need l.untried l.cards (not l.north_south);
  legal : AllLegal l.position l.untried;
  ticked : (m : g.row.M.Denot) → g.M.Meter.ticked m l.fn.meter → g.M.Meter.ticked m l.meter;
  limit : g.M.Meter.limit l.meter ≡ g.M.Meter.limit l.fn.meter;
}

abbrev pub decreases-answer_by_choices-tries : goal.decreases-answer_by_choices-tries
decreases-answer_by_choices-tries g l = length l.untried

abbrev pub decreases-answer_after_trick : goal.decreases-answer_after_trick
decreases-answer_after_trick g l = 8 * cards_left l.position.now + 7
