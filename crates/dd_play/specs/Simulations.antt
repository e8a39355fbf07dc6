-- To be believed: a relation between games, each a side and a position, under which the second side does at least as well.
use Rattle.std.specs.Prelude.{◌≡◌, ◌≤◌, true, false, []}
use Rattle.dd_cards.specs.PlayingCard.{PlayingCard}
use Rattle.dd_cards.specs.Cards.{has_card}
use Rattle.dd_cards.specs.Sides.{is_side}
use Rattle.dd_cards.specs.declared.side.Side.{Side}
use Rattle.dd_play.specs.Board.{Board, IsBoard, mover}
use Rattle.dd_play.specs.Play.{legal, after}
use Rattle.dd_play.specs.Won.{trick_for}

-- a legal card
abbrev pub IsLegal : Board → PlayingCard → Type 0
IsLegal p c = has_card (legal p) c ≡ true

-- Each card of the first side has an answer by the second, each card against the second an answer against the first,
-- and the answer keeps the relation and is worth no less to the second side.
pub record IsSimulation (R : Side → Board → Side → Board → Type 0) : Type 0 where
  pub boards : (s : Side) (p : Board) (t : Side) (q : Board) → R s p t q → IsBoard p × IsBoard q
  pub turns : (s : Side) (p : Board) (t : Side) (q : Board) → R s p t q → is_side t (mover q) ≡ is_side s (mover p)
  pub ends : (s : Side) (p : Board) (t : Side) (q : Board) → R s p t q → legal q ≡ [] → legal p ≡ []
  pub forth : (s : Side) (p : Board) (t : Side) (q : Board) → R s p t q → is_side s (mover p) ≡ true → (c : PlayingCard) → IsLegal p c
      → (d : PlayingCard) × IsLegal q d × (trick_for s p c ≤ trick_for t q d) × R s (after p c) t (after q d)
  pub back : (s : Side) (p : Board) (t : Side) (q : Board) → R s p t q → is_side s (mover p) ≡ false → (d : PlayingCard) → IsLegal q d
      → (c : PlayingCard) × IsLegal p c × (trick_for s p c ≤ trick_for t q d) × R s (after p c) t (after q d)
