use Rattle.std.proofs.Common.{◌≡◌, ◌+◌, ◌*◌, length}
use mathlib.Core.Bool.{not}
use Rattle.dd_play.specs.Board.{cards_left}
use Rattle.dd_play.specs.Play.{after}
use Rattle.dd_search.proofs.Relied.{AllLead, AllLegal}
use Rattle.dd_search.proofs.relative_window.+relative_window.Given as goal

-- A question comes before the answer at a start, that before the play, that before the choices, these before a card, that before the card that
-- completes a trick, and that before the question of the next start.
abbrev pub decreases-relative_at_start : goal.decreases-relative_at_start
decreases-relative_at_start g l = 9 * cards_left l.coming.now + 5

abbrev pub decreases-answer_at_relative_start : goal.decreases-answer_at_relative_start
decreases-answer_at_relative_start g l = 9 * cards_left l.coming.now + 4

abbrev pub decreases-relative_at_second_hand : goal.decreases-relative_at_second_hand
decreases-relative_at_second_hand g l = 9 * cards_left l.trick.now + 5

abbrev pub decreases-relative_at_third_hand : goal.decreases-relative_at_third_hand
decreases-relative_at_third_hand g l = 9 * cards_left l.trick.now + 5

abbrev pub decreases-relative_at_fourth_hand : goal.decreases-relative_at_fourth_hand
decreases-relative_at_fourth_hand g l = 9 * cards_left l.trick.now + 5

abbrev pub decreases-relative_by_play : goal.decreases-relative_by_play
decreases-relative_by_play g l = 9 * cards_left l.trick.now + 3

abbrev pub decreases-relative_by_lead : goal.decreases-relative_by_lead
decreases-relative_by_lead g l = 9 * cards_left l.trick.now + 3

abbrev pub decreases-relative_by_only_choice : goal.decreases-relative_by_only_choice
decreases-relative_by_only_choice g l = 9 * cards_left l.trick.now + 2

abbrev pub decreases-relative_by_choices : goal.decreases-relative_by_choices
decreases-relative_by_choices g l = 9 * cards_left l.trick.now + 2

abbrev pub decreases-relative_after : goal.decreases-relative_after
decreases-relative_after g l = 9 * cards_left l.trick.now + 1

abbrev pub decreases-relative_by_trick : goal.decreases-relative_by_trick
decreases-relative_by_trick g l = 9 * cards_left l.trick.now

abbrev pub decreases-relative_after_trick : goal.decreases-relative_after_trick
decreases-relative_after_trick g l = 9 * cards_left (after l.trick.now l.card) + 6

-- Of each class the highest card is still to be tried, or is not enough for the side to play, by these ranks.
abbrev pub invariant-relative_by_choices-tries : goal.invariant-relative_by_choices-tries
invariant-relative_by_choices-tries g l = record {
  lead : AllLead l.trick l.need l.untried l.ranks (not l.leaders);
  legal : AllLegal l.trick l.untried;
  ticked : (m : g.row.M.Denot) → g.M.Meter.ticked m l.fn.meter → g.M.Meter.ticked m l.meter;
  limit : g.M.Meter.limit l.meter ≡ g.M.Meter.limit l.fn.meter;
}

abbrev pub decreases-relative_by_choices-tries : goal.decreases-relative_by_choices-tries
decreases-relative_by_choices-tries g l = length l.untried
