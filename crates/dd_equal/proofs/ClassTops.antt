-- a legal card wins as much as the highest card of its class
use Rattle.std.proofs.Common.{◌≡◌, ℕ, zero, suc, ◌+◌, ◌<◌, ◌≤◌, Bool, true, false, refl, ap, ◌∙◌, arith}
use Rattle.std.specs.Prelude.{nat_lt, ◌&&◌}
use Rattle.std.specs.List.{list_any}
use mathlib.Core.Bool.{not}
use Rattle.std.proofs.lemmas.Bool.{ltb-true}
use Rattle.dd_cards.specs.PlayingCard.{PlayingCard}
use Rattle.dd_cards.specs.Cards.{has_card}
use Rattle.dd_cards.proofs.CallerLemmas.{and-left, and-right, any-some}
use Rattle.dd_cards.specs.Sides.{is_side}
use Rattle.dd_cards.specs.declared.side.Side.{Side}
use Rattle.dd_play.specs.Board.{Board, IsBoard, mover, tricks_left}
use Rattle.dd_play.specs.Play.{legal, after}
use Rattle.dd_play.specs.Simulations.{IsLegal}
use Rattle.dd_play.specs.Won.{trick_for, won}
use Rattle.dd_play.specs.Claims.{Takes}
use Rattle.dd_play.proofs.CallerLemmas.{card-real, every-card, filter-has, own-card, won_with}
use Rattle.dd_equal.specs.EqualCards.{are_equal, is_top, tops}
use Rattle.dd_equal.proofs.Equal.{tells-equal}
use Rattle.dd_equal.proofs.Swaps.{equal-won}

-- a card that is the highest of its class and wins as much as c
abbrev TopFor : Side → Board → PlayingCard → Type 0
TopFor side p c = (t : PlayingCard) × (has_card (tops p) t ≡ true) × (won_with side p t ≡ won_with side p c)

-- From a card that is not the highest of its class there is a higher equal one, and ranks end at the ace.
climb : (n : ℕ) (side : Side) (p : Board) (c : PlayingCard) → IsBoard p → IsLegal p c → 15 ≤ c.rank + n → TopFor side p c
climb zero side p c valid has h = absurd (let r = card-real p (mover p) c valid (own-card p c has) in omega (arith, h, r.1))
climb (suc n) side p c valid has h = go (list_any (λ d. are_equal p c d && nat_lt c.rank d.rank) (legal p)) refl (climb n side p)
  where
    go : (b : Bool) → list_any (λ d. are_equal p c d && nat_lt c.rank d.rank) (legal p) ≡ b
        → ((d : PlayingCard) → IsBoard p → IsLegal p d → 15 ≤ d.rank + n → TopFor side p d) → TopFor side p c
    go false e rest = (c, filter-has (is_top p) (legal p) c has (ap not e), refl)
    go true e rest =
        let d = any-some (λ d. are_equal p c d && nat_lt c.rank d.rank) (legal p) e in
        let equal : are_equal p c d.0 ≡ true = and-left (are_equal p c d.0) (nat_lt c.rank d.0.rank) d.2 in
        let higher : c.rank < d.0.rank = ltb-true c.rank d.0.rank (and-right (are_equal p c d.0) (nat_lt c.rank d.0.rank) d.2) in
        let t = rest d.0 valid d.1 (omega (arith, h, higher)) in
        (t.0, t.1, t.2 ∙ equal-won side p c d.0 valid has d.1 (tells-equal p c d.0 valid (own-card p c has) (own-card p d.0 d.1) equal))

-- where the other side is to play, the highest card of each class stands for the class
pub every-class : (side : Side) (p : Board) (n : ℕ) → IsBoard p → is_side side (mover p) ≡ false → 1 ≤ tricks_left p
    → ((c : PlayingCard) → has_card (tops p) c ≡ true → (m : ℕ) × Takes side (after p c) m × (n ≤ m + trick_for side p c)) → Takes side p n
every-class side p n valid turn some each =
    every-card side p n valid turn some (λ c has.
    let t = climb 15 side p c valid has (omega arith) in
    let k = each t.0 t.1 in
    let take = k.1 in
    let enough = k.2 in
    let same = t.2 in
    (won side (after p c), omega arith, omega (arith, take, enough, same)))
