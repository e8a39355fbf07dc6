-- the numbers of a trace, card by card
use Rattle.std.proofs.Common.{◌≡◌, ℕ, ◌+◌, ◌≤◌, Bool, true, false, refl, sym, ap, ◌∙◌, subst, arith, List, [], ◌∷◌, ◌++◌, take, drop, Option, Some, None}
use Rattle.std.specs.Prelude.{◌&&◌, if◌then◌else◌}
use Rattle.std.proofs.lemmas.List.{take-append-drop}
use Rattle.dd_cards.specs.declared.seat.Seat.{Seat}
use Rattle.dd_cards.specs.PlayingCard.{PlayingCard}
use Rattle.dd_cards.specs.Sides.{is_side}
use Rattle.dd_cards.specs.declared.side.Side.{Side}
use Rattle.dd_play.specs.Board.{Board, IsBoard, tricks_left}
use Rattle.dd_play.specs.Tricks.{winner_of}
use Rattle.dd_play.specs.Play.{completes, trick_with, after}
use Rattle.dd_play.specs.Won.{won, trick_for}
use Rattle.dd_play.proofs.CallerLemmas.{all, left-13, legal-leads, one-trick}
use Rattle.dd_request.specs.Plays.{Play, IsRegular, declarers, position_after, tricks_won, tricks_after}
use Rattle.dd_request.specs.SideTricks.{side_trick}

-- ---- some cards, and then some more

-- what both leave is what the later ones leave after the earlier
pub after-append : (p : Board) (cs ds : List PlayingCard) → position_after p (cs ++ ds) ≡ position_after (position_after p cs) ds
after-append p [] ds = refl
after-append p (c ∷ cs) ds = after-append (after p c) cs ds

-- and both win what each win
pub won-append : (side : Side) (p : Board) (cs ds : List PlayingCard) → tricks_won side p (cs ++ ds) ≡ tricks_won side p cs + tricks_won side (position_after p cs) ds
won-append side p [] ds = omega arith
won-append side p (c ∷ cs) ds = let rest = won-append side (after p c) cs ds in omega (arith, rest)

-- both are regular where each are
pub regular-front : (p : Board) (cs ds : List PlayingCard) → IsRegular p (cs ++ ds) → IsRegular p cs × IsRegular (position_after p cs) ds
regular-front p [] ds h = (tt, h)
regular-front p (c ∷ cs) ds h = let rest = regular-front (after p c) cs ds h.1 in ((h.0, rest.0), rest.1)

-- legal cards lead to a legal state of play
valid-after : (p : Board) (cs : List PlayingCard) → IsBoard p → IsRegular p cs → IsBoard (position_after p cs)
valid-after p [] valid h = valid
valid-after p (c ∷ cs) valid h = valid-after (after p c) cs (legal-leads p c valid h.0).valid h.1

-- ---- the loop over the first cards

-- what was played so far, with what is left to play, is the whole
pub record IsOnTheWay (side : Side) (p : Board) (cards : List PlayingCard) (q : Board) (won_so_far : ℕ) (rest : List PlayingCard) : Type 0 where
  pub position : position_after q rest ≡ position_after p cards
  pub won : won_so_far + tricks_won side q rest ≡ tricks_won side p cards
  pub regular : IsRegular q rest
  pub bound : won_so_far + tricks_left q ≤ 13

-- the first cards of a regular play are one
pub regular-take : (p : Board) (n : ℕ) (cards : List PlayingCard) → IsRegular p cards → IsRegular p (take n cards)
regular-take p n cards h = (regular-front p (take n cards) (drop n cards) (subst (IsRegular p) (sym (take-append-drop n cards)) h)).0

-- at first nothing was played
pub way-none : (side : Side) (p : Board) (cards : List PlayingCard) → IsBoard p → IsRegular p cards → IsOnTheWay side p cards p 0 cards
way-none side p cards valid regular = record { position = refl; won = omega arith; regular = regular; bound = (let few = left-13 p valid in omega (arith, few)) }

-- a card wins at most the trick that it completes
trick-most : (side : Side) (p : Board) (c : PlayingCard) → trick_for side p c ≤ (if completes p then 1 else 0)
trick-most side p c = let sum = one-trick side p c in omega (arith, sum)

-- one card more
pub way-more : (side : Side) (p : Board) (cards : List PlayingCard) (q : Board) (won_so_far : ℕ) (c : PlayingCard) (rest : List PlayingCard) → IsBoard q
    → IsOnTheWay side p cards q won_so_far (c ∷ rest) → IsOnTheWay side p cards (after q c) (won_so_far + trick_for side q c) rest
way-more side p cards q won_so_far c rest valid k =
    let is = k.won in
    let bound = k.bound in
    let fewer = (legal-leads q c valid k.regular.0).tricks in
    let one = trick-most side q c in
    record {
      position = k.position;
      won = omega (arith, is);
      regular = k.regular.1;
      bound = omega (arith, bound, fewer, one);
    }

-- the trick of the seat that wins it
winner-trick : (side : Side) (p : Board) (c : PlayingCard) → side_trick side (if completes p then Some (winner_of (trick_with p c) p.first p.strain) else None) ≡ trick_for side p c
winner-trick side p c = go (completes p) (winner_of (trick_with p c) p.first p.strain)
  where
    go : (b : Bool) (seat : Seat) → side_trick side (if b then Some seat else None) ≡ (if b && is_side side seat then 1 else 0)
    go true seat = refl
    go false seat = refl

-- one card more, as the code counts it
pub way-won : (side : Side) (p : Board) (cards : List PlayingCard) (q next : Board) (won_so_far point : ℕ) (c : PlayingCard) (rest left : List PlayingCard) (winner : Option Seat) → IsBoard q
    → IsOnTheWay side p cards q won_so_far left → left ≡ c ∷ rest → next ≡ after q c → winner ≡ (if completes q then Some (winner_of (trick_with q c) q.first q.strain) else None) → point ≡ side_trick side winner
    → IsOnTheWay side p cards next (won_so_far + point) rest
way-won side p cards q next won_so_far point c rest left winner valid k is to wins counted =
    let same : point ≡ trick_for side q c = counted ∙ ap (side_trick side) wins ∙ winner-trick side q c in
    let k' : IsOnTheWay side p cards q won_so_far (c ∷ rest) = subst (λ cs. IsOnTheWay side p cards q won_so_far cs) is k in
    rw (to, same) (way-more side p cards q won_so_far c rest valid k')

-- ---- one number of a trace

-- the position after some cards, and the tricks won by then
pub record Stands (play : Play) (count : ℕ) (q : Board) (won_so_far : ℕ) : Type 0 where
  pub valid : IsBoard play.opening
  pub regular : IsRegular play.opening play.cards
  pub position : q ≡ position_after play.opening (take count play.cards)
  pub won : won_so_far ≡ tricks_won (declarers play.opening) play.opening (take count play.cards)

-- that position is a legal state of play
pub stands-valid : (play : Play) (count : ℕ) (q : Board) (k : ℕ) → Stands play count q k → IsBoard q
stands-valid play count q k s =
    subst IsBoard (sym s.position) (valid-after play.opening (take count play.cards) s.valid (regular-take play.opening count play.cards s.regular))

-- the number is what was won by then, with what comes
pub number-here : (play : Play) (count : ℕ) (q : Board) (k : ℕ) → Stands play count q k → tricks_after play count ≡ k + won (declarers play.opening) q
unfolding tricks_after
number-here play count q k s = rw (s.position, s.won) refl

-- where no card is left the number is what was won
pub number-last : (play : Play) (count : ℕ) (q : Board) (k : ℕ) → Stands play count q k → tricks_left q ≡ 0 → k ≡ tricks_after play count
number-last play count q k s none =
    let here = number-here play count q k s in
    let sum = all (declarers play.opening) q (stands-valid play count q k s) in
    omega (arith, here, sum, none)
