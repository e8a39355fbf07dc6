use Rattle.std.specs.Prelude.{◌-◌, if◌then◌else◌}
use Rattle.std.proofs.Common.{◌≡◌, ◌≤◌, ◌+◌, ◌∙◌, ℕ, Bool, List, arith, true, false, refl, ap, sym, subst}
use mathlib.Core.Bool.{beq}
use Rattle.dd_cards.specs.PlayingCard.{PlayingCard}
use Rattle.dd_cards.specs.Seats.{is_north_south}
use Rattle.dd_cards.specs.declared.suit.Suit.{Suit}
use Rattle.dd_play.specs.Board.{Board, tricks_left}
use Rattle.dd_play.specs.Covers.{count_of}
use Rattle.dd_play.specs.Reach.{reach}
use Rattle.dd_rank.specs.Depths.{all_cards, depths_of}
use Rattle.dd_search.specs.ClaimsBy.{IsAnswerBy, AnswerBy}
use Rattle.dd_search.proofs.Carried.{Carries, alike-carries, alike-left, answer-turned}
use Rattle.dd_search.proofs.Relied.{answer-here}
use Rattle.dd_search.proofs.relative_root.by_relative_ranks.Goals as goal
use Rattle.dd_search.proofs.relative_root.by_relative_ranks.Goals.{After-as_trick_start-there, then-leads, else-leads}

-- so many are asked for
abbrev turned : Bool → ℕ → ℕ → ℕ
turned b need left = (if b then need else left + 1 - need)

-- no more than are left
turned-high : (b : Bool) (need left rest : ℕ) → 1 ≤ need → need ≤ left → rest ≡ turned b need left → rest ≤ left
turned-high true need left rest some most is = omega (arith, is, most)
turned-high false need left rest some most is = omega (arith, is, some)

-- of North and South's tricks they are the leader's side's
asked-is : (g : _) (c : After-as_trick_start-there g) → c.if-leads.asked ≡ turned c.is_north_south-leads.result c.args.need (tricks_left c.args.start.now)
asked-is g c =
    let need = c.args.need in
    let left = tricks_left c.args.start.now in
    let tricks = c.tricks_left-left.ensures.tricks ∙ ap tricks_left c.position-position.ensures.value in
    elim c.if-leads.branch [
      | then-leads w ↦ w.asked-is ∙ sym (ap (λ b. turned b need left) w.if-leads.true)
      | else-leads w ↦ w.asked-is ∙ ap (λ n. n + 1 - need) tricks ∙ sym (ap (λ b. turned b need left) w.if-leads.false)
    ]

-- the start by relative ranks has as many tricks
left : (g : _) (c : After-as_trick_start-there g) → tricks_left c.of-relative.result ≡ tricks_left c.args.start.now
left g c = alike-left c.args.start.now c.of-relative.result c.position-position.ensures.board c.as_trick_start-there.ensures.relative.board c.of-relative.ensures

-- It has the same strings.
pub new-known-requires : goal.new-known-requires
new-known-requires g c =
    let relative = c.as_trick_start-there.ensures.relative in
    let same = (c.alike_strings.ensures.alike c.args.start.now c.of-relative.result c.position-position.ensures.board relative.board c.position-position.ensures.start relative.start).0 c.of-relative.ensures in
    c.requires.strings ∙ sym same

pub relative_by_lead-requires-clause-high : goal.relative_by_lead-requires-clause-high
relative_by_lead-requires-clause-high g c =
    let at = (goal.at.relative_by_lead-requires-clause-high g c).After-as_trick_start-there in
    subst (λ n. c.if-leads.asked ≤ n) (sym (ap tricks_left (c.led-trick.ensures.same ∙ c.new-known.ensures) ∙ left g at))
    (turned-high c.is_north_south-leads.result c.args.need (tricks_left c.args.start.now) c.if-leads.asked c.requires.low c.requires.high (asked-is g at))

-- It has as many cards of each suit.
pub cards-requires-2 : goal.cards-requires-2
cards-requires-2 g c =
    let p = c.args.start.now in
    let q = c.of-relative.result in
    let valid = c.position-position.ensures.board in
    let relative = c.as_trick_start-there.ensures.relative in
    let all : Suit → ℕ = λ u. count_of u (all_cards p) in
    let cover = (c.covered_positions.ensures.full p q all valid relative.board (λ u. refl)).1 c.of-relative.ensures in
    let shape = c.covered_positions.ensures.shapes p q all valid relative.board cover in
    λ u.
    let same = ap (λ (r : Board). count_of u (all_cards r)) c.as_trick_start-there.ensures.same ∙ c.covered_positions.ensures.counts p q valid relative.board shape u in
    let within = c.of_cards-depths.ensures.within u in
    omega (arith, same, within)

-- What is told there is turned back.
pub returns-clause-winning_ranks : goal.returns-clause-winning_ranks
returns-clause-winning_ranks g c =
    let at = (goal.at.returns-clause-winning_ranks g c).After-as_trick_start-there in
    let p = c.args.start.now in
    let q = c.of-relative.result in
    let need = c.args.need in
    let leads = c.is_north_south-leads.result in
    let found = c.in_ok-found.found in
    let later = c.cards.result in
    let here = c.cards-2.result in
    let relative = c.as_trick_start-there.ensures.relative in
    let there = c.as_trick_start-there.ensures.same in
    let carries : Carries p q later here = alike-carries p q later here (record {
      valid = c.position-position.ensures.board;
      start = c.position-position.ensures.start;
      relative = relative;
      alike = c.of-relative.ensures;
      real = c.of_cards-depths.ensures.real;
      real_here = c.cards-2.ensures.real;
      deep = λ u.
          let same = c.of_cards-depths.ensures.depths u ∙ ap (λ (r : Board). depths_of (reach later) r u) there in
          let most = c.cards-2.ensures.depths u in
          omega (arith, same, most);
    }) c.alike_claims.ensures.leaders c.alike_claims.ensures.others in
    let played : IsAnswerBy q c.if-leads.asked found.cards found.yes = subst (λ (r : Board). IsAnswerBy r c.if-leads.asked found.cards found.yes) (c.led-trick.ensures.same ∙ c.new-known.ensures) c.in_ok-found.ensures.winning_ranks in
    let told : IsAnswerBy q c.if-leads.asked later found.yes = subst (λ (cards : List PlayingCard). IsAnswerBy q c.if-leads.asked cards found.yes) (sym (c.cards.ensures.cards ∙ c.ranks.ensures)) played in
    let answer : IsAnswerBy p need here (beq found.yes leads) = answer-turned p q need c.if-leads.asked later here leads found.yes carries relative.leader
    (c.is_north_south-leads.ensures ∙ ap is_north_south (c.first.ensures ∙ ap (λ (r : Board). r.first) c.position-position.ensures.value)) (left g at) c.requires.low c.requires.high (asked-is g at) told in
    subst (λ (a : AnswerBy). IsAnswerBy p need a.cards a.yes) (sym c.new.ensures)
    (subst (λ (x : Bool). IsAnswerBy p need here (beq x leads)) (sym c.is_yes.ensures) answer)

pub returns-clause-answer : goal.returns-clause-answer
returns-clause-answer g c = answer-here c.args.start.now c.args.need c.new.result.cards c.new.result.yes c.position-position.ensures.board (returns-clause-winning_ranks g c)
