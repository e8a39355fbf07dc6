use Rattle.std.specs.Prelude.{◌==◌}
use Rattle.std.proofs.Common.{◌≡◌, ◌+◌, ◌∙◌, length, ap, sym, subst, arith, List, [], refl, true, Bool, inl, inr}
use mathlib.Core.Bool.{not, beq}
use Rattle.dd_cards.specs.PlayingCard.{PlayingCard}
use Rattle.dd_cards.specs.Cards.{has_card}
use Rattle.dd_cards.specs.Seats.{is_north_south}
use Rattle.dd_play.specs.Board.{cards_left}
use Rattle.dd_play.specs.Simulations.{IsLegal}
use Rattle.dd_play.proofs.CallerLemmas.{cards_left-after}
use Rattle.dd_search.specs.ClaimsBy.{IsAnswerBy, IsAnswerAfter, AnswerBy}
use Rattle.dd_search.proofs.Relied.{answer-here, one-more, answered-against, answered-for, leads, all-tried}
use Rattle.dd_search.proofs.Orders.{top-legal, is-only, only-legal}
use Rattle.dd_search.proofs.Scores.{needed-after}
use Rattle.dd_search.proofs.Turns.{goes-on, closes}
use Rattle.dd_order.specs.Turns.{cards_before}
use Rattle.dd_search.proofs.zero_window.+zero_window.Goals as goal
use Rattle.dd_search.proofs.zero_window.+zero_window.Goals.{answer_after-After-is_yes, answer_after-in-First+in_ok-later-in-First, answer_after-in-Second+in_ok-later-in-Second, answer_after-in-Third+in_ok-later-in-Third, answer_after-in-Fourth+in_ok-later-in-Fourth, answer_by_choices-In-Some}

-- An answer by a look holds at the position.
pub answer_at_start-returns-in-Some-clause-answer : goal.answer_at_start-returns-in-Some-clause-answer
answer_at_start-returns-in-Some-clause-answer g t c =
    let answer = c.in-Some.answer in
    answer-here c.args.start.now c.args.need answer.cards answer.yes c.told_answer.ensures.board c.in-Some.ensures.answer

-- So does one by quick tricks.
pub answer_at_start-returns-in-Some-quick_answer-clause-answer : goal.answer_at_start-returns-in-Some-quick_answer-clause-answer
answer_at_start-returns-in-Some-quick_answer-clause-answer g t c =
    let answer = c.in-Some-quick_answer.answer in
    answer-here c.args.start.now c.args.need answer.cards answer.yes c.quick_answer.ensures.board c.in-Some-quick_answer.ensures.answer

-- what was found after the card answers what is still needed then
later-answer : (g : _) (t : _) (c : answer_after-After-is_yes g t) → IsAnswerBy c.play_at-played.result.0 c.rest_after-rest.result c.match-turn.later.cards c.match-turn.later.yes
later-answer g t c =
    let q = c.play_at-played.result.0 in
    let rest = c.rest_after-rest.result in
    elim c.match-turn.branch [
      | answer_after-in-First+in_ok-later-in-First w ↦ subst (λ (a : AnswerBy). IsAnswerBy q rest a.cards a.yes) (sym w.later-is) w.in_ok-later-in-First.ensures.winning_ranks
      | answer_after-in-Second+in_ok-later-in-Second w ↦ subst (λ (a : AnswerBy). IsAnswerBy q rest a.cards a.yes) (sym w.later-is) w.in_ok-later-in-Second.ensures.winning_ranks
      | answer_after-in-Third+in_ok-later-in-Third w ↦ subst (λ (a : AnswerBy). IsAnswerBy q rest a.cards a.yes) (sym w.later-is) w.in_ok-later-in-Third.ensures.winning_ranks
      | answer_after-in-Fourth+in_ok-later-in-Fourth w ↦ subst (λ (a : AnswerBy). IsAnswerBy q rest a.cards a.yes) (sym w.later-is) w.in_ok-later-in-Fourth.ensures.winning_ranks
    ]

-- what had ticked has ticked still
later-ticked : (g : _) (t : _) (c : answer_after-After-is_yes g t) (m : g.row.M.Denot) → g.M.Meter.ticked m c.args.meter.now → g.M.Meter.ticked m c.match-turn.meter
later-ticked g t c m before = elim c.match-turn.branch [
  | answer_after-in-First+in_ok-later-in-First w ↦ subst (λ n. g.M.Meter.ticked m n) (sym w.meter-is)
      (g.met.M.Meter.later m c.args.meter.now w.zero_window_at_second_hand.new.meter before w.in_ok-later-in-First.ensures.ticked)
  | answer_after-in-Second+in_ok-later-in-Second w ↦ subst (λ n. g.M.Meter.ticked m n) (sym w.meter-is)
      (g.met.M.Meter.later m c.args.meter.now w.zero_window_at_third_hand.new.meter before w.in_ok-later-in-Second.ensures.ticked)
  | answer_after-in-Third+in_ok-later-in-Third w ↦ subst (λ n. g.M.Meter.ticked m n) (sym w.meter-is)
      (g.met.M.Meter.later m c.args.meter.now w.zero_window_at_fourth_hand.new.meter before w.in_ok-later-in-Third.ensures.ticked)
  | answer_after-in-Fourth+in_ok-later-in-Fourth w ↦ subst (λ n. g.M.Meter.ticked m n) (sym w.meter-is) (w.in_ok-later-in-Fourth.ensures.ticked m before)
]

-- and the meter's limit is what it was
later-limit : (g : _) (t : _) (c : answer_after-After-is_yes g t) → g.M.Meter.limit c.match-turn.meter ≡ g.M.Meter.limit c.args.meter.now
later-limit g t c = elim c.match-turn.branch [
  | answer_after-in-First+in_ok-later-in-First w ↦ ap g.M.Meter.limit w.meter-is ∙ w.zero_window_at_second_hand.ensures.limit
  | answer_after-in-Second+in_ok-later-in-Second w ↦ ap g.M.Meter.limit w.meter-is ∙ w.zero_window_at_third_hand.ensures.limit
  | answer_after-in-Third+in_ok-later-in-Third w ↦ ap g.M.Meter.limit w.meter-is ∙ w.zero_window_at_fourth_hand.ensures.limit
  | answer_after-in-Fourth+in_ok-later-in-Fourth w ↦ ap g.M.Meter.limit w.meter-is ∙ w.answer_after_trick.ensures.limit
]

pub answer_after-returns-clause-found : goal.answer_after-returns-clause-found
answer_after-returns-clause-found g t c =
    let at = goal.at.answer_after-returns-clause-found g t c in
    let p = c.args.position.now in
    let later = c.match-turn.later in
    let found = leads p c.play_at-played.result.0 c.args.need c.rest_after-rest.result c.args.card later.cards c.settled_by.result later.yes
    c.play_at-played.ensures.board c.requires.legal c.requires.low c.play_at-played.ensures.next
    (needed-after p c.args.card _ _ _ c.rest_after-rest.ensures c.play_at-played.ensures.wins) (later-answer g t at.After-is_yes)
    (λ d has. c.settled_by.ensures.more d (ap (λ cards. has_card cards d) c.cards.ensures ∙ has)) c.settled_by.ensures.settled in
    subst (λ (a : AnswerBy). IsAnswerAfter p c.args.need c.args.card a.cards a.yes) (sym c.new.ensures)
    (subst (λ (b : Bool). IsAnswerAfter p c.args.need c.args.card c.settled_by.result b) (sym c.is_yes.ensures) found)

pub answer_after-returns-clause-ticked : goal.answer_after-returns-clause-ticked
answer_after-returns-clause-ticked g t c = later-ticked g t (goal.at.answer_after-returns-clause-ticked g t c).After-is_yes

pub answer_after-returns-clause-limit : goal.answer_after-returns-clause-limit
answer_after-returns-clause-limit g t c = later-limit g t (goal.at.answer_after-returns-clause-limit g t c).After-is_yes

-- ---- one choice

pub answer_by_choices-tries-init : goal.answer_by_choices-tries-init
answer_by_choices-tries-init g t c = record {
  lead = λ d has. inl (ap (λ cards. has_card cards d) c.requires.choices ∙ has);
  legal = λ d has. top-legal c.args.position.now d (ap (λ cards. has_card cards d) (sym c.requires.choices) ∙ has);
  ticked = λ m h. h;
  limit = refl;
}

-- the card that is tried may be played
tried-legal : (g : _) (t : _) (c : answer_by_choices-In-Some g t) → IsLegal c.args.position.now c.in-Some.card
tried-legal g t c = c.tries.invariant.legal c.in-Some.card c.in-Some.ensures

pub answer_by_choices-answer_after-requires : goal.answer_by_choices-answer_after-requires
answer_by_choices-answer_after-requires g t c κs within =
    (omega arith, (within.0, (within.1, (tried-legal g t (goal.at.answer_by_choices-answer_after-requires g t c).In-Some, (c.requires.turn, (c.requires.low, c.requires.high))))))

pub answer_by_choices-returns-then-is_yes-north_south-clause-winning_ranks : goal.answer_by_choices-returns-then-is_yes-north_south-clause-winning_ranks
answer_by_choices-returns-then-is_yes-north_south-clause-winning_ranks g t c =
    let found = c.in_ok-found.found in
    answered-for c.args.position.now c.args.need c.in-Some.card found.cards c.is_north_south-north_south.result found.yes
    (tried-legal g t (goal.at.answer_by_choices-returns-then-is_yes-north_south-clause-winning_ranks g t c).In-Some) (c.is_north_south-north_south.ensures ∙ ap is_north_south c.mover_at.ensures.seat) c.in_ok-found.ensures.found
    (ap (λ (x : Bool). beq x c.is_north_south-north_south.result) (sym c.is_yes.ensures) ∙ c.if-is_yes-north_south.true)

pub answer_by_choices-returns-then-is_yes-north_south-clause-answer : goal.answer_by_choices-returns-then-is_yes-north_south-clause-answer
answer_by_choices-returns-then-is_yes-north_south-clause-answer g t c =
    answer-here c.args.position.now c.args.need c.in_ok-found.found.cards c.in_ok-found.found.yes c.mover_at.ensures.board (answer_by_choices-returns-then-is_yes-north_south-clause-winning_ranks g t c)

pub answer_by_choices-tries-preserved : goal.answer_by_choices-tries-preserved
answer_by_choices-tries-preserved g t c =
    let p = c.args.position.now in
    let need = c.args.need in
    let b = c.is_north_south-north_south.result in
    let found = c.in_ok-found.found in
    let winning_ranks = c.cards-winning_ranks.result in
    let here : IsAnswerAfter p need c.in-Some.card winning_ranks found.yes = subst (λ (cards : List PlayingCard). IsAnswerAfter p need c.in-Some.card cards found.yes) (sym c.cards-winning_ranks.ensures) c.in_ok-found.ensures.found in
    record {
      lead = one-more p need c.in-Some.card c.tries.untried c.still_untried-untried.result winning_ranks c.tries.cards c.union-cards.result (not b)
          c.still_untried-untried.ensures.told c.union-cards.ensures.left c.union-cards.ensures.right
          (answered-against p need c.in-Some.card winning_ranks b found.yes here (ap (λ (x : Bool). beq x b) (sym c.is_yes.ensures) ∙ c.if-is_yes-north_south.false)) c.tries.invariant.lead;
      legal = λ d has. c.tries.invariant.legal d (c.still_untried-untried.ensures.among d has);
      ticked = λ m before. c.in_ok-found.ensures.ticked m (c.tries.invariant.ticked m before);
      limit = c.answer_after.ensures.limit ∙ c.tries.invariant.limit;
    }

pub answer_by_choices-returns-clause-winning_ranks : goal.answer_by_choices-returns-clause-winning_ranks
answer_by_choices-returns-clause-winning_ranks g t c =
    subst (λ (a : AnswerBy). IsAnswerBy c.args.position.now c.args.need a.cards a.yes) (sym c.new.ensures)
    (all-tried c.args.position.now c.args.need c.tries.untried c.tries.cards c.whole_at.result c.is_north_south-north_south.result
    c.mover_at.ensures.board (c.is_north_south-north_south.ensures ∙ ap is_north_south c.mover_at.ensures.seat) c.requires.low c.requires.high
    c.in_default.ensures c.tries.invariant.lead c.whole_at.ensures.more c.whole_at.ensures.whole)

pub answer_by_choices-returns-clause-answer : goal.answer_by_choices-returns-clause-answer
answer_by_choices-returns-clause-answer g t c =
    answer-here c.args.position.now c.args.need c.new.result.cards c.new.result.yes c.mover_at.ensures.board (answer_by_choices-returns-clause-winning_ranks g t c)

-- ---- where there is one choice

pub answer_by_only_choice-answer_after-requires : goal.answer_by_only_choice-answer_after-requires
answer_by_only_choice-answer_after-requires g t c κs within =
    (omega arith, (within.0, (within.1, (only-legal c.args.position.now c.args.card c.requires.only, (c.requires.turn, (c.requires.low, c.requires.high))))))

pub answer_by_only_choice-returns-then-is_yes-north_south-clause-winning_ranks : goal.answer_by_only_choice-returns-then-is_yes-north_south-clause-winning_ranks
answer_by_only_choice-returns-then-is_yes-north_south-clause-winning_ranks g t c =
    let p = c.args.position.now in
    let found = c.in_ok-found.found in
    answered-for p c.args.need c.args.card found.cards c.is_north_south-north_south.result found.yes
    (only-legal p c.args.card c.requires.only) (c.is_north_south-north_south.ensures ∙ ap is_north_south c.mover_at.ensures.seat) c.in_ok-found.ensures.found
    (ap (λ (x : Bool). beq x c.is_north_south-north_south.result) (sym c.is_yes.ensures) ∙ c.if-is_yes-north_south.true)

pub answer_by_only_choice-returns-then-is_yes-north_south-clause-answer : goal.answer_by_only_choice-returns-then-is_yes-north_south-clause-answer
answer_by_only_choice-returns-then-is_yes-north_south-clause-answer g t c =
    answer-here c.args.position.now c.args.need c.in_ok-found.found.cards c.in_ok-found.found.yes c.mover_at.ensures.board (answer_by_only_choice-returns-then-is_yes-north_south-clause-winning_ranks g t c)

pub answer_by_only_choice-returns-clause-winning_ranks : goal.answer_by_only_choice-returns-clause-winning_ranks
answer_by_only_choice-returns-clause-winning_ranks g t c =
    let p = c.args.position.now in
    let need = c.args.need in
    let b = c.is_north_south-north_south.result in
    let found = c.in_ok-found.found in
    let winning_ranks = c.cards.result in
    let here : IsAnswerAfter p need c.args.card winning_ranks found.yes = subst (λ (cards : List PlayingCard). IsAnswerAfter p need c.args.card cards found.yes) (sym c.cards.ensures) c.in_ok-found.ensures.found in
    subst (λ (a : AnswerBy). IsAnswerBy p need a.cards a.yes) (sym c.new.ensures)
    (all-tried p need [] winning_ranks c.whole_at.result b c.mover_at.ensures.board (c.is_north_south-north_south.ensures ∙ ap is_north_south c.mover_at.ensures.seat) c.requires.low c.requires.high refl
    (λ d has. inr (subst (λ (x : PlayingCard). IsAnswerAfter p need x winning_ranks (not b)) (sym (is-only d c.args.card (ap (λ cards. has_card cards d) (sym c.requires.only) ∙ has)))
    (answered-against p need c.args.card winning_ranks b found.yes here (ap (λ (x : Bool). beq x b) (sym c.is_yes.ensures) ∙ c.if-is_yes-north_south.false))))
    c.whole_at.ensures.more c.whole_at.ensures.whole)

pub answer_by_only_choice-returns-clause-answer : goal.answer_by_only_choice-returns-clause-answer
answer_by_only_choice-returns-clause-answer g t c =
    answer-here c.args.position.now c.args.need c.new.result.cards c.new.result.yes c.mover_at.ensures.board (answer_by_only_choice-returns-clause-winning_ranks g t c)

-- ---- whose turn it is after the card

pub answer_after-zero_window_at_second_hand-requires : goal.answer_after-zero_window_at_second_hand-requires
answer_after-zero_window_at_second_hand-requires g t c κs within =
    let p = c.args.position.now in
    let q = c.play_at-played.result.0 in
    let fewer : cards_left q + 1 ≡ cards_left p = ap (λ x. cards_left x + 1) c.play_at-played.ensures.next ∙ cards_left-after p c.args.card c.play_at-played.ensures.board c.requires.legal in
    let lie : length p.trick ≡ 0 = c.requires.turn ∙ ap cards_before c.in-First.is in
    let on = goes-on p q c.args.card c.args.need c.rest_after-rest.result c.play_at-played.result.1 (record {
      valid = c.play_at-played.ensures.board;
      legal = c.requires.legal;
      next = c.play_at-played.ensures.next;
      needed = c.rest_after-rest.ensures;
      wins = c.play_at-played.ensures.wins;
      low = c.requires.low;
      high = c.requires.high;
    }) (ap (λ n. n == 3) lie) in
    (omega (arith, fewer), (within.0, (within.1, (on.0 ∙ ap (λ n. n + 1) lie, on.1))))

pub answer_after-zero_window_at_third_hand-requires : goal.answer_after-zero_window_at_third_hand-requires
answer_after-zero_window_at_third_hand-requires g t c κs within =
    let p = c.args.position.now in
    let q = c.play_at-played.result.0 in
    let fewer : cards_left q + 1 ≡ cards_left p = ap (λ x. cards_left x + 1) c.play_at-played.ensures.next ∙ cards_left-after p c.args.card c.play_at-played.ensures.board c.requires.legal in
    let lie : length p.trick ≡ 1 = c.requires.turn ∙ ap cards_before c.in-Second.is in
    let on = goes-on p q c.args.card c.args.need c.rest_after-rest.result c.play_at-played.result.1 (record {
      valid = c.play_at-played.ensures.board;
      legal = c.requires.legal;
      next = c.play_at-played.ensures.next;
      needed = c.rest_after-rest.ensures;
      wins = c.play_at-played.ensures.wins;
      low = c.requires.low;
      high = c.requires.high;
    }) (ap (λ n. n == 3) lie) in
    (omega (arith, fewer), (within.0, (within.1, (on.0 ∙ ap (λ n. n + 1) lie, on.1))))

pub answer_after-zero_window_at_fourth_hand-requires : goal.answer_after-zero_window_at_fourth_hand-requires
answer_after-zero_window_at_fourth_hand-requires g t c κs within =
    let p = c.args.position.now in
    let q = c.play_at-played.result.0 in
    let fewer : cards_left q + 1 ≡ cards_left p = ap (λ x. cards_left x + 1) c.play_at-played.ensures.next ∙ cards_left-after p c.args.card c.play_at-played.ensures.board c.requires.legal in
    let lie : length p.trick ≡ 2 = c.requires.turn ∙ ap cards_before c.in-Third.is in
    let on = goes-on p q c.args.card c.args.need c.rest_after-rest.result c.play_at-played.result.1 (record {
      valid = c.play_at-played.ensures.board;
      legal = c.requires.legal;
      next = c.play_at-played.ensures.next;
      needed = c.rest_after-rest.ensures;
      wins = c.play_at-played.ensures.wins;
      low = c.requires.low;
      high = c.requires.high;
    }) (ap (λ n. n == 3) lie) in
    (omega (arith, fewer), (within.0, (within.1, (on.0 ∙ ap (λ n. n + 1) lie, on.1))))

pub answer_after-answer_after_trick-requires : goal.answer_after-answer_after_trick-requires
answer_after-answer_after_trick-requires g t c κs within =
    let p = c.args.position.now in
    let q = c.play_at-played.result.0 in
    let fewer : cards_left q + 1 ≡ cards_left p = ap (λ x. cards_left x + 1) c.play_at-played.ensures.next ∙ cards_left-after p c.args.card c.play_at-played.ensures.board c.requires.legal in
    let lie : length p.trick ≡ 3 = c.requires.turn ∙ ap cards_before c.in-Fourth.is in
    (omega (arith, fewer), (within.0, (within.1, closes p q c.args.card c.play_at-played.ensures.next (ap (λ n. n == 3) lie))))
