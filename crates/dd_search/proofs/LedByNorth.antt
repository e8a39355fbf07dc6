-- answers at a start of a trick that North leads to: North and South are the leader's side
use Rattle.std.proofs.Common.{◌≡◌, ℕ, ◌+◌, ◌-◌, ◌<◌, ◌≤◌, ◌⊎◌, Bool, true, false, refl, sym, ap, subst, List}
use Rattle.std.specs.Prelude.{nat_le}
use mathlib.Core.Bool.{beq}
use Rattle.dd_cards.specs.declared.seat.Seat.TheVariants.{North}
use Rattle.dd_cards.specs.declared.side.Side.{Side}
use Rattle.dd_cards.specs.declared.side.Side.TheVariants.{NorthSouth, EastWest}
use Rattle.dd_cards.specs.PlayingCard.{PlayingCard}
use Rattle.dd_cards.specs.Seats.{is_north_south}
use Rattle.dd_cards.specs.Sides.{side_of, other_side}
use Rattle.dd_play.specs.Board.{Board, tricks_left}
use Rattle.dd_play.specs.Reach.{reach, TakesBy}
use Rattle.dd_play.proofs.CallerLemmas.{by-more, reach-upward, reach-within}
use Rattle.dd_search.specs.ClaimsBy.{IsAnswerBy}
use Rattle.dd_search.proofs.Relied.{IsWindowBy, Within, told-answer}

leads : (p : Board) → p.first ≡ North → true ≡ is_north_south p.first
leads p north = sym (ap is_north_south north)

-- bounds of the leader's tricks that settle it are an answer
pub told-north : (p : Board) (lo hi need : ℕ) (cards : List PlayingCard) → p.first ≡ North → 1 ≤ need → need ≤ tricks_left p → (need ≤ lo) ⊎ (hi < need)
    → TakesBy (reach cards) (side_of p.first) p lo × TakesBy (reach cards) (other_side (side_of p.first)) p (tricks_left p - hi) → IsAnswerBy p need cards (nat_le need lo)
told-north p lo hi need cards north some most settles claims =
    told-answer p lo hi need need (tricks_left p) true (nat_le need lo) cards (leads p north) refl some most (λ t. refl) (λ t. absurd (let no : true ≡ false = t in cc)) settles (sym (itself (nat_le need lo))) claims.0 claims.1
  where
    itself : (b : Bool) → beq b true ≡ b
    itself true = refl
    itself false = refl

-- what the leader's side takes by some cards is an answer by more
pub yes-north : (p : Board) (need : ℕ) (few many : List PlayingCard) → p.first ≡ North → Within few many → TakesBy (reach few) (side_of p.first) p need → IsAnswerBy p need many true
yes-north p need few many north within takes =
    by-more (reach few) (reach many) NorthSouth p need (reach-within few many within) (reach-upward few) (subst (λ (x : Side). TakesBy (reach few) x p need) (ap side_of north) takes)

-- and so is what the other side takes
pub no-north : (p : Board) (need against : ℕ) (few many : List PlayingCard) → p.first ≡ North → against ≡ tricks_left p + 1 - need → Within few many
    → TakesBy (reach few) (other_side (side_of p.first)) p against → IsAnswerBy p need many false
no-north p need against few many north is within takes =
    by-more (reach few) (reach many) EastWest p (tricks_left p + 1 - need) (reach-within few many within) (reach-upward few)
    (subst (λ n. TakesBy (reach few) EastWest p n) is (subst (λ (x : Side). TakesBy (reach few) (other_side x) p against) (ap side_of north) takes))

-- bounds of North and South's tricks are those of the leader's
pub window-north : (p : Board) (cards : List PlayingCard) (lo hi : ℕ) → p.first ≡ North → IsWindowBy p cards lo hi
    → TakesBy (reach cards) (side_of p.first) p lo × TakesBy (reach cards) (other_side (side_of p.first)) p (tricks_left p - hi)
window-north p cards lo hi north window =
    subst (λ (x : Side). TakesBy (reach cards) x p lo × TakesBy (reach cards) (other_side x) p (tricks_left p - hi)) (sym (ap side_of north)) window
