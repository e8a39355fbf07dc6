-- one question of the position itself: does the mover's side take so many?
use Rattle.std.proofs.Common.{◌≡◌, ℕ, ◌+◌, ◌-◌, ◌≤◌, Bool, true, false, refl, sym, ap, ◌∙◌, arith}
use Rattle.std.specs.Prelude.{nat_le}
use Rattle.std.proofs.lemmas.Bool.{leb-false}
use mathlib.Core.Bool.{beq}
use Rattle.dd_cards.specs.Seats.{is_north_south}
use Rattle.dd_cards.specs.Sides.{same_side, side_of}
use Rattle.dd_cards.specs.declared.side.Side.{Side}
use Rattle.dd_cards.specs.declared.side.Side.TheVariants.{NorthSouth, EastWest}
use Rattle.dd_cards.proofs.CallerLemmas.{is-same}
use Rattle.dd_play.specs.Board.{Board, IsBoard, mover, tricks_left}
use Rattle.dd_play.specs.Value.{ns}
use Rattle.dd_play.specs.Won.{won}
use Rattle.dd_play.proofs.CallerLemmas.{all, ns-le}
use Rattle.dd_search.specs.ClaimsBy.{IsAnswer}
use Rattle.dd_search.proofs.Scores.{answer-tells, not-the-rest}

-- whether North or South, who is to play, takes so many
pub takes-north-south : (p : Board) (tricks need : ℕ) (said b : Bool) → IsBoard p → IsAnswer p need said → b ≡ is_north_south (mover p) → b ≡ true → need ≡ tricks
    → beq said b ≡ nat_le tricks (won (side_of (mover p)) p)
takes-north-south p tricks need said b valid answer side e is =
    rw e (same said ∙ answer-tells p need said valid answer ∙ ap (λ n. nat_le n (ns p)) is ∙ ap (λ s. nat_le tricks (won s p)) (sym (is-same (side_of (mover p)) NorthSouth (sym side ∙ e))))
  where
    same : (x : Bool) → beq x true ≡ x
    same true = refl
    same false = refl

-- and East or West, where it is asked whether North and South take one more than these then leave
pub takes-east-west : (p : Board) (tricks need : ℕ) (said b : Bool) → IsBoard p → IsAnswer p need said → b ≡ is_north_south (mover p) → b ≡ false → need ≡ tricks_left p + 1 - tricks
    → beq said b ≡ nat_le tricks (won (side_of (mover p)) p)
takes-east-west p tricks need said b valid answer side e is =
    rw e (not-the-rest said tricks (ns p) (tricks_left p) (ns-le p valid) (answer-tells p need said valid answer ∙ ap (λ n. nat_le n (ns p)) is)
    ∙ ap (λ s. nat_le tricks (won s p)) (sym (east-west (side_of (mover p)) (sym side ∙ e))))
  where
    east-west : (a : Side) → same_side a NorthSouth ≡ false → a ≡ EastWest
    east-west EastWest h = refl
    east-west NorthSouth h = absurd (cc)

-- the mover's side takes no more tricks than are left, and so no more than thirteen
pub value-within : (p : Board) → IsBoard p → won (side_of (mover p)) p ≤ tricks_left p
value-within p valid = let sum = all (side_of (mover p)) p valid in omega (arith, sum)

-- as many as are known and not one more
pub value-known : (p : Board) (tricks : ℕ) (more : Bool) → tricks ≤ won (side_of (mover p)) p → more ≡ nat_le (tricks + 1) (won (side_of (mover p)) p) → more ≡ false → tricks ≡ won (side_of (mover p)) p
value-known p tricks more known is fewer = let less = leb-false (tricks + 1) (won (side_of (mover p)) p) (sym is ∙ fewer) in omega (arith, known, less)

-- as many as are known and no more left
pub value-all : (p : Board) (tricks left : ℕ) → IsBoard p → tricks ≤ won (side_of (mover p)) p → left ≡ tricks_left p → left ≤ tricks → tricks ≡ won (side_of (mover p)) p
value-all p tricks left valid known is done = let most = value-within p valid in omega (arith, known, is, done, most)
