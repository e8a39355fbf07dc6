use Rattle.std.specs.Prelude.{◌==◌, if◌then◌else◌}
use Rattle.std.proofs.Common.{◌-◌, Option, None, Some, ◌≡◌, ◌+◌, ◌∙◌, length, ap, sym, subst, arith, List, [], refl, true, Bool, inl, inr, ℕ}
use mathlib.Core.Bool.{not, beq}
use Rattle.dd_cards.specs.PlayingCard.{PlayingCard}
use Rattle.dd_cards.specs.Cards.{has_card}
use Rattle.dd_cards.specs.Seats.{is_north_south}
use Rattle.dd_play.specs.Board.{Board, cards_left}
use Rattle.dd_play.specs.Tricks.{winner_of}
use Rattle.dd_play.specs.Play.{after, completes, trick_with}
use Rattle.dd_play.specs.Reach.{reach}
use Rattle.dd_play.specs.Simulations.{IsLegal}
use Rattle.dd_play.proofs.CallerLemmas.{cards_left-after, reach-in}
use Rattle.dd_search.specs.ClaimsBy.{IsAnswerBy, IsAnswerAfter, AnswerBy}
use Rattle.dd_order.specs.Turns.{cards_before}
use Rattle.dd_search.proofs.Carried.{answer-turned}
use Rattle.dd_search.proofs.Opens.{found-open, stays-open}
use Rattle.dd_search.proofs.Scores.{needed-after}
use Rattle.dd_search.proofs.Relied.{one-more, answered-against, answered-for, leads, all-tried}
use Rattle.dd_search.proofs.Orders.{top-legal, is-only, only-legal}
use Rattle.dd_search.proofs.relative_window.+relative_window.Goals as goal
use Rattle.dd_search.proofs.relative_window.+relative_window.Goals.{relative_by_choices-In-Some}

-- ---- the walk over the choices

pub relative_by_choices-tries-init : goal.relative_by_choices-tries-init
relative_by_choices-tries-init g t c = record {
  lead = λ d has. inl (ap (λ cards. has_card cards d) c.requires.choices ∙ has);
  legal = λ d has. top-legal c.args.trick.now d (ap (λ cards. has_card cards d) (sym c.requires.choices) ∙ has);
  ticked = λ m h. h;
  limit = refl;
}

-- the card that is tried may be played
tried-legal : (g : _) (t : _) (c : relative_by_choices-In-Some g t) → IsLegal c.args.trick.now c.in-Some.card
tried-legal g t c = c.tries.invariant.legal c.in-Some.card c.in-Some.ensures

pub relative_by_choices-returns-then-is_yes-leaders-clause-winning_ranks : goal.relative_by_choices-returns-then-is_yes-leaders-clause-winning_ranks
relative_by_choices-returns-then-is_yes-leaders-clause-winning_ranks g t c =
    let found = c.in_ok-found.found in
    answered-for c.args.trick.now c.args.need c.in-Some.card found.cards c.is_north_south-leaders.result found.yes
    (tried-legal g t (goal.at.relative_by_choices-returns-then-is_yes-leaders-clause-winning_ranks g t c).In-Some) (c.is_north_south-leaders.ensures ∙ ap is_north_south c.mover_at.ensures.seat) c.in_ok-found.ensures.found
    (ap (λ (x : Bool). beq x c.is_north_south-leaders.result) (sym c.is_yes.ensures) ∙ c.if-is_yes-leaders.true)

pub relative_by_choices-tries-preserved : goal.relative_by_choices-tries-preserved
relative_by_choices-tries-preserved g t c =
    let p = c.args.trick.now in
    let need = c.args.need in
    let b = c.is_north_south-leaders.result in
    let found = c.in_ok-found.found in
    let ranks = c.ranks-winning_ranks.result in
    let here : IsAnswerAfter p need c.in-Some.card ranks found.yes = subst (λ (cards : List PlayingCard). IsAnswerAfter p need c.in-Some.card cards found.yes) (sym c.ranks-winning_ranks.ensures) c.in_ok-found.ensures.found in
    record {
      lead = one-more p need c.in-Some.card c.tries.untried c.still_untried-untried.result ranks c.tries.ranks c.with_all-ranks.result (not b)
          c.still_untried-untried.ensures.told c.with_all-ranks.ensures.left c.with_all-ranks.ensures.right
          (answered-against p need c.in-Some.card ranks b found.yes here (ap (λ (x : Bool). beq x b) (sym c.is_yes.ensures) ∙ c.if-is_yes-leaders.false)) c.tries.invariant.lead;
      legal = λ d has. c.tries.invariant.legal d (c.still_untried-untried.ensures.among d has);
      ticked = λ m before. c.in_ok-found.ensures.ticked m (c.tries.invariant.ticked m before);
      limit = c.relative_after.ensures.limit ∙ c.tries.invariant.limit;
    }

pub relative_by_choices-returns-clause-winning_ranks : goal.relative_by_choices-returns-clause-winning_ranks
relative_by_choices-returns-clause-winning_ranks g t c =
    subst (λ (a : AnswerBy). IsAnswerBy c.args.trick.now c.args.need a.cards a.yes) (sym c.new.ensures)
    (all-tried c.args.trick.now c.args.need c.tries.untried c.tries.ranks c.whole_at-whole.result c.is_north_south-leaders.result
    c.mover_at.ensures.board (c.is_north_south-leaders.ensures ∙ ap is_north_south c.mover_at.ensures.seat) c.requires.low c.requires.high
    c.in_default.ensures c.tries.invariant.lead c.whole_at-whole.ensures.more c.whole_at-whole.ensures.whole)

-- ---- where there is one choice

pub relative_by_only_choice-relative_after-requires : goal.relative_by_only_choice-relative_after-requires
relative_by_only_choice-relative_after-requires g t c κs within =
    (omega arith, (within.0, (within.1, (only-legal c.args.trick.now c.args.card c.requires.only, (c.requires.turn, (c.requires.low, c.requires.high))))))

pub relative_by_only_choice-returns-then-is_yes-leaders-clause-winning_ranks : goal.relative_by_only_choice-returns-then-is_yes-leaders-clause-winning_ranks
relative_by_only_choice-returns-then-is_yes-leaders-clause-winning_ranks g t c =
    let p = c.args.trick.now in
    let found = c.in_ok-found.found in
    answered-for p c.args.need c.args.card found.cards c.is_north_south-leaders.result found.yes
    (only-legal p c.args.card c.requires.only) (c.is_north_south-leaders.ensures ∙ ap is_north_south c.mover_at.ensures.seat) c.in_ok-found.ensures.found
    (ap (λ (x : Bool). beq x c.is_north_south-leaders.result) (sym c.is_yes.ensures) ∙ c.if-is_yes-leaders.true)

pub relative_by_only_choice-returns-clause-winning_ranks : goal.relative_by_only_choice-returns-clause-winning_ranks
relative_by_only_choice-returns-clause-winning_ranks g t c =
    let p = c.args.trick.now in
    let need = c.args.need in
    let b = c.is_north_south-leaders.result in
    let found = c.in_ok-found.found in
    let ranks = c.ranks.result in
    let here : IsAnswerAfter p need c.args.card ranks found.yes = subst (λ (cards : List PlayingCard). IsAnswerAfter p need c.args.card cards found.yes) (sym c.ranks.ensures) c.in_ok-found.ensures.found in
    subst (λ (a : AnswerBy). IsAnswerBy p need a.cards a.yes) (sym c.new.ensures)
    (all-tried p need [] ranks c.whole_at-ranks.result b c.mover_at.ensures.board (c.is_north_south-leaders.ensures ∙ ap is_north_south c.mover_at.ensures.seat) c.requires.low c.requires.high refl
    (λ d has. inr (subst (λ (x : PlayingCard). IsAnswerAfter p need x ranks (not b)) (sym (is-only d c.args.card (ap (λ cards. has_card cards d) (sym c.requires.only) ∙ has)))
    (answered-against p need c.args.card ranks b found.yes here (ap (λ (x : Bool). beq x b) (sym c.is_yes.ensures) ∙ c.if-is_yes-leaders.false))))
    c.whole_at-ranks.ensures.more c.whole_at-ranks.ensures.whole)

-- ---- a card that leaves the trick open

pub relative_after-relative_at_second_hand-requires : goal.relative_after-relative_at_second_hand-requires
relative_after-relative_at_second_hand-requires g t c κs within =
    let p = c.args.trick.now in
    let q = c.play_at.result in
    let fewer : cards_left q + 1 ≡ cards_left p = ap (λ x. cards_left x + 1) c.play_at.ensures.next ∙ cards_left-after p c.args.card c.play_at.ensures.board c.requires.legal in
    let lie : length p.trick ≡ 0 = c.requires.turn ∙ ap cards_before c.in-First.is in
    let on = stays-open p q c.args.card c.args.need c.play_at.ensures.board c.requires.legal c.play_at.ensures.next (ap (λ n. n == 3) lie) c.requires.low c.requires.high in
    (omega (arith, fewer), (within.0, (within.1, (on.0 ∙ ap (λ n. n + 1) lie, on.1))))

pub relative_after-relative_at_third_hand-requires : goal.relative_after-relative_at_third_hand-requires
relative_after-relative_at_third_hand-requires g t c κs within =
    let p = c.args.trick.now in
    let q = c.play_at-in-Second.result in
    let fewer : cards_left q + 1 ≡ cards_left p = ap (λ x. cards_left x + 1) c.play_at-in-Second.ensures.next ∙ cards_left-after p c.args.card c.play_at-in-Second.ensures.board c.requires.legal in
    let lie : length p.trick ≡ 1 = c.requires.turn ∙ ap cards_before c.in-Second.is in
    let on = stays-open p q c.args.card c.args.need c.play_at-in-Second.ensures.board c.requires.legal c.play_at-in-Second.ensures.next (ap (λ n. n == 3) lie) c.requires.low c.requires.high in
    (omega (arith, fewer), (within.0, (within.1, (on.0 ∙ ap (λ n. n + 1) lie, on.1))))

pub relative_after-relative_at_fourth_hand-requires : goal.relative_after-relative_at_fourth_hand-requires
relative_after-relative_at_fourth_hand-requires g t c κs within =
    let p = c.args.trick.now in
    let q = c.play_at-in-Third.result in
    let fewer : cards_left q + 1 ≡ cards_left p = ap (λ x. cards_left x + 1) c.play_at-in-Third.ensures.next ∙ cards_left-after p c.args.card c.play_at-in-Third.ensures.board c.requires.legal in
    let lie : length p.trick ≡ 2 = c.requires.turn ∙ ap cards_before c.in-Third.is in
    let on = stays-open p q c.args.card c.args.need c.play_at-in-Third.ensures.board c.requires.legal c.play_at-in-Third.ensures.next (ap (λ n. n == 3) lie) c.requires.low c.requires.high in
    (omega (arith, fewer), (within.0, (within.1, (on.0 ∙ ap (λ n. n + 1) lie, on.1))))

pub relative_after-returns-in-First-clause-found : goal.relative_after-returns-in-First-clause-found
relative_after-returns-in-First-clause-found g t c =
    found-open c.args.trick.now c.play_at.result c.args.card c.args.need c.relative_at_second_hand.result c.play_at.ensures.board c.requires.legal c.play_at.ensures.next
    (ap (λ n. n == 3) (c.requires.turn ∙ ap cards_before c.in-First.is)) c.requires.low c.relative_at_second_hand.ensures.winning_ranks

pub relative_after-returns-in-Second-clause-found : goal.relative_after-returns-in-Second-clause-found
relative_after-returns-in-Second-clause-found g t c =
    found-open c.args.trick.now c.play_at-in-Second.result c.args.card c.args.need c.relative_at_third_hand.result c.play_at-in-Second.ensures.board c.requires.legal c.play_at-in-Second.ensures.next
    (ap (λ n. n == 3) (c.requires.turn ∙ ap cards_before c.in-Second.is)) c.requires.low c.relative_at_third_hand.ensures.winning_ranks

pub relative_after-returns-in-Third-clause-found : goal.relative_after-returns-in-Third-clause-found
relative_after-returns-in-Third-clause-found g t c =
    found-open c.args.trick.now c.play_at-in-Third.result c.args.card c.args.need c.relative_at_fourth_hand.result c.play_at-in-Third.ensures.board c.requires.legal c.play_at-in-Third.ensures.next
    (ap (λ n. n == 3) (c.requires.turn ∙ ap cards_before c.in-Third.is)) c.requires.low c.relative_at_fourth_hand.ensures.winning_ranks

-- ---- the card that completes the trick

pub relative_by_trick-relative_after_trick-requires : goal.relative_by_trick-relative_after_trick-requires
relative_by_trick-relative_after_trick-requires g t c κs within =
    let p = c.copy-own.result in
    let same = c.copy-own.ensures.same in
    let legal : IsLegal p c.args.card = subst (λ (q : Board). IsLegal q c.args.card) (sym same) c.requires.legal in
    let fewer = cards_left-after p c.args.card c.outcome-winner.ensures.board legal in
    let as_many : cards_left p ≡ cards_left c.args.trick.now = ap cards_left same in
    (omega (arith, fewer, as_many), (within.0, (within.1, (legal, (ap (λ (q : Board). length q.trick) same ∙ c.requires.turn, (c.outcome-winner.ensures.first, c.outcome-winner.ensures.board))))))

pub relative_by_trick-returns-clause-found : goal.relative_by_trick-returns-clause-found
relative_by_trick-returns-clause-found g t c =
    let p = c.copy-own.result in
    let same = c.copy-own.ensures.same in
    let later = c.in_ok-later.later in
    let legal : IsLegal p c.args.card = subst (λ (q : Board). IsLegal q c.args.card) (sym same) c.requires.legal in
    let full : completes p ≡ true = ap (λ n. n == 3) (ap (λ (q : Board). length q.trick) same ∙ c.requires.turn) in
    let wins : Some c.outcome-winner.result.0 ≡ (if completes p then Some (winner_of (trick_with p c.args.card) p.first p.strain) else None) =
    ap Some c.outcome-winner.ensures.wins ∙ sym (ap (λ (b : Bool). (if b then Some (winner_of (trick_with p c.args.card) p.first p.strain) else None)) full) in
    let found = leads p (after p c.args.card) c.args.need c.rest_after-rest.result c.args.card later.cards c.with_all.result later.yes
    c.outcome-winner.ensures.board legal c.requires.low refl (needed-after p c.args.card _ _ _ c.rest_after-rest.ensures wins) c.in_ok-later.ensures.winning_ranks
    (λ d has. c.with_all.ensures.left d (ap (λ cards. has_card cards d) c.ranks.ensures ∙ has))
    (c.outcome-winner.ensures.contested (reach c.with_all.result) (λ d has. reach-in c.with_all.result d (c.with_all.ensures.right d has))) in
    subst (λ (q : Board). IsAnswerAfter q c.args.need c.args.card c.new.result.cards c.new.result.yes) same
    (subst (λ (a : AnswerBy). IsAnswerAfter p c.args.need c.args.card a.cards a.yes) (sym c.new.ensures)
    (subst (λ (b : Bool). IsAnswerAfter p c.args.need c.args.card c.with_all.result b) (sym c.is_yes.ensures) found))

pub relative_after_trick-returns-clause-winning_ranks : goal.relative_after_trick-returns-clause-winning_ranks
relative_after_trick-returns-clause-winning_ranks g t c =
    let q = after c.args.trick.now c.args.card in
    let next = c.next_start-next.result in
    let found = c.in_ok-found.found in
    let told : IsAnswerBy next c.asked_of-asked.result c.ranks.result found.yes = subst (λ (cards : List PlayingCard). IsAnswerBy next c.asked_of-asked.result cards found.yes) (sym c.ranks.ensures) c.in_ok-found.ensures.winning_ranks in
    let left = c.tricks_left_with-left.ensures.tricks in
    let answer = answer-turned q next c.args.need c.asked_of-asked.result c.ranks.result c.ranks_here-ranks.result c.is_north_south-leads.result found.yes
    (record { leaders = c.ranks_here-ranks.ensures.leaders; others = c.ranks_here-ranks.ensures.others })
    c.next_start-next.ensures.relative.leader (c.is_north_south-leads.ensures ∙ ap is_north_south c.requires.winner) c.next_start-next.ensures.tricks
    (let some = c.if-need-eq0.false in omega (arith, some)) (let most = c.if-need-left.false in omega (arith, most, left))
    (c.asked_of-asked.ensures.value ∙ ap (λ n. (if c.is_north_south-leads.result then c.args.need else n + 1 - c.args.need)) left) told in
    subst (λ (a : AnswerBy). IsAnswerBy q c.args.need a.cards a.yes) (sym c.new-2.ensures)
    (subst (λ (b : Bool). IsAnswerBy q c.args.need c.ranks_here-ranks.result (beq b c.is_north_south-leads.result)) (sym c.is_yes.ensures) answer)
