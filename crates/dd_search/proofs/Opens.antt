-- a card that leaves the trick open: the question stays as it was
use Rattle.std.proofs.Common.{◌≡◌, ℕ, ◌+◌, ◌≤◌, Bool, true, false, sym, ap, ◌∙◌, arith, List, Option, None, Some, length, refl, Result, Ok, Err}
use Rattle.std.specs.Prelude.{if◌then◌else◌, IfOk}
use Rattle.dd_cards.specs.PlayingCard.{PlayingCard}
use Rattle.dd_cards.specs.declared.seat.Seat.{Seat}
use Rattle.dd_play.specs.Board.{Board, IsBoard, tricks_left}
use Rattle.dd_play.specs.Covers.{IsSettled}
use Rattle.dd_play.specs.Tricks.{winner_of}
use Rattle.dd_play.specs.Play.{completes, trick_with, after}
use Rattle.dd_play.specs.Reach.{reach}
use Rattle.dd_play.specs.Simulations.{IsLegal}
use Rattle.dd_search.specs.ClaimsBy.{IsAnswerBy, IsAnswerAfter, AnswerBy}
use Rattle.dd_bounds.specs.declared.meter.Halt.{Halt}
use Rattle.dd_search.proofs.Relied.{leads}
use Rattle.dd_search.proofs.Scores.{needed-after}
use Rattle.dd_search.proofs.Turns.{Asked, goes-on}

-- nobody wins the trick yet
none-wins : (p : Board) (c : PlayingCard) → completes p ≡ false → None ≡ (if completes p then Some (winner_of (trick_with p c) p.first p.strain) else None)
none-wins p c unfinished = sym (ap (λ (b : Bool). (if b then Some (winner_of (trick_with p c) p.first p.strain) else None)) unfinished)

-- the same is asked where the next hand is to play
pub stays-open : (p q : Board) (c : PlayingCard) (need : ℕ) → IsBoard p → IsLegal p c → q ≡ after p c → completes p ≡ false → 1 ≤ need → need ≤ tricks_left p
    → (length q.trick ≡ length p.trick + 1) × ((1 ≤ need) × (need ≤ tricks_left q))
stays-open p q c need valid legal next unfinished low high = goes-on p q c need need None (record {
  valid = valid;
  legal = legal;
  next = next;
  needed = omega arith;
  wins = none-wins p c unfinished;
  low = low;
  high = high;
}) unfinished

-- what answers there answers for the card
answers-open : (p q : Board) (c : PlayingCard) (need : ℕ) (cards : List PlayingCard) (said : Bool) → IsBoard p → IsLegal p c → q ≡ after p c → completes p ≡ false → 1 ≤ need
    → IsAnswerBy q need cards said → IsAnswerAfter p need c cards said
answers-open p q c need cards said valid legal next unfinished low answer =
    leads p q need need c cards cards said valid legal low next (needed-after p c need need None (omega arith) (none-wins p c unfinished)) answer (λ d has. has) settled
  where
    settled : IsSettled (reach cards) p c
    settled full i l other same = absurd (let no : false ≡ true = sym unfinished ∙ full in cc)

-- and so where there is an answer at all
pub found-open : (p q : Board) (c : PlayingCard) (need : ℕ) (found : Result AnswerBy Halt) → IsBoard p → IsLegal p c → q ≡ after p c → completes p ≡ false → 1 ≤ need
    → IfOk found (λ a. IsAnswerBy q need a.cards a.yes) → IfOk found (λ a. IsAnswerAfter p need c a.cards a.yes)
found-open p q c need (Ok a) valid legal next unfinished low answer = answers-open p q c need a.cards a.yes valid legal next unfinished low answer
found-open p q c need (Err halt) valid legal next unfinished low answer = tt
