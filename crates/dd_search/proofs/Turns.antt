-- whose turn it is after a card, and what is then asked
use Rattle.std.proofs.Common.{◌≡◌, ℕ, ◌+◌, ◌≤◌, Bool, true, false, ap, ◌∙◌, arith, Option, Some, None, ◌∷◌, [], length, length-append}
use Rattle.std.specs.Prelude.{if◌then◌else◌}
use Rattle.dd_cards.specs.PlayingCard.{PlayingCard}
use Rattle.dd_cards.specs.declared.seat.Seat.{Seat}
use Rattle.dd_play.specs.Board.{Board, IsBoard, tricks_left}
use Rattle.dd_play.specs.Tricks.{winner_of}
use Rattle.dd_play.specs.Play.{completes, trick_with, after}
use Rattle.dd_play.specs.Value.{north_souths_trick}
use Rattle.dd_play.specs.Simulations.{IsLegal}
use Rattle.dd_play.proofs.CallerLemmas.{flag_of, legal-leads, trick-after, trick-closed}

-- What is known when a card was played: by it the position q came, its trick perhaps won by a winner, and so much is still needed.
pub record Asked (p q : Board) (c : PlayingCard) (need rest : ℕ) (winner : Option Seat) : Type 0 where
  pub valid : IsBoard p
  pub legal : IsLegal p c
  pub next : q ≡ after p c
  pub needed : rest + north_souths_trick winner ≡ need
  pub wins : winner ≡ (if completes p then Some (winner_of (trick_with p c) p.first p.strain) else None)
  pub low : 1 ≤ need
  pub high : need ≤ tricks_left p

-- a card that completes no trick lies on it, and the question stays as it was
pub goes-on : (p q : Board) (c : PlayingCard) (need rest : ℕ) (winner : Option Seat) → Asked p q c need rest winner → completes p ≡ false
    → (length q.trick ≡ length p.trick + 1) × ((1 ≤ rest) × (rest ≤ tricks_left q))
goes-on p q c need rest winner k unfinished =
    let longer : length q.trick ≡ length p.trick + 1 = ap (λ x. length x.trick) k.next ∙ ap length (trick-after p c unfinished).0 ∙ length-append p.trick (c ∷ []) in
    let point : north_souths_trick winner ≡ 0 = ap north_souths_trick (k.wins ∙ ap (λ (b : Bool). (if b then Some (winner_of (trick_with p c) p.first p.strain) else None)) unfinished) in
    let tricks : tricks_left (after p c) + flag_of (completes p) ≡ tricks_left p = (legal-leads p c k.valid k.legal).tricks in
    let none : flag_of (completes p) ≡ 0 = ap flag_of unfinished in
    let same : tricks_left q ≡ tricks_left (after p c) = ap tricks_left k.next in
    let needed = k.needed in
    let low = k.low in
    let high = k.high in
    (longer, (omega (arith, needed, point, low), omega (arith, needed, point, high, tricks, none, same)))

-- a card that completes a trick leaves an empty one
pub closes : (p q : Board) (c : PlayingCard) → q ≡ after p c → completes p ≡ true → length q.trick ≡ 0
closes p q c next full = ap (λ x. length x.trick) next ∙ ap length (trick-closed p c full).0
