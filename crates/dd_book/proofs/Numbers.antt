-- A number of a play's trace, by the position of its part.
use Rattle.std.proofs.Common.{◌≡◌, ℕ, ◌+◌, true, refl, sym, ap, ◌∙◌, subst, take}
use denote.Enum.Bare.{sameb}
use Rattle.dd_cards.specs.contracts.side.Side.{the_type}
use Rattle.dd_cards.specs.declared.side.Side.{Side}
use Rattle.dd_cards.specs.declared.side.Side.TheVariants.{NorthSouth, EastWest}
use Rattle.dd_cards.specs.Sides.{same_side}
use Rattle.dd_cards.proofs.CallerLemmas.{is-same}
use Rattle.dd_play.specs.Board.{Board}
use Rattle.dd_play.specs.Same.{same_board}
use Rattle.dd_play.specs.Won.{won}
use Rattle.dd_play.proofs.CallerLemmas.{same_board-is}
use Rattle.dd_request.specs.Plays.{Play, PositionTricks, declarers, position_at, position_tricks, tricks_after, tricks_won}
use Rattle.dd_book.specs.Jobs.{is_of_play}

-- two sides are the same by the code where they are by the test
pub sides-told : (a b : Side) → sameb the_type a b ≡ same_side a b
sides-told NorthSouth NorthSouth = refl
sides-told NorthSouth EastWest = refl
sides-told EastWest NorthSouth = refl
sides-told EastWest EastWest = refl

-- the tricks won by then, with those that declarer's side takes from that position on
pub number-is : (play : Play) (count : ℕ) (p : Board) (solved : PositionTricks) (k tricks : ℕ) → p ≡ position_at play count → k ≡ tricks_won (declarers play.opening) play.opening (take count play.cards)
    → same_board p solved.board ≡ true → same_side (declarers play.opening) solved.side ≡ true → tricks ≡ solved.tricks → solved ≡ position_tricks solved.board solved.side
    → (is_of_play play count solved ≡ true) × (k + tricks ≡ tricks_after play count)
unfolding tricks_after
number-is play count p solved k tricks at so_far board side is right =
    let there : same_board (position_at play count) solved.board ≡ true = subst (λ q. same_board q solved.board ≡ true) at board in
    let same : position_at play count ≡ solved.board = same_board-is (position_at play count) solved.board there in
    let who = is-same (declarers play.opening) solved.side side in
    let takes : tricks ≡ won (declarers play.opening) (position_at play count) = is ∙ ap (λ (s : PositionTricks). s.tricks) right ∙ ap (won solved.side) (sym same) ∙ ap (λ s. won s (position_at play count)) (sym who) in
    (rw (there, side) refl, rw (so_far, takes) refl)
