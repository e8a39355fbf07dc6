-- what a side takes by winning ranks of the next start it takes by those that stand before
use Rattle.std.proofs.Common.{◌≡◌, ℕ, ◌*◌, ◌≤◌, true, sym, ap, ◌∙◌, subst, List, []}
use Rattle.std.specs.Prelude.{◌&&◌}
use Rattle.dd_cards.specs.declared.suit.Suit.{Suit}
use Rattle.dd_cards.specs.PlayingCard.{PlayingCard}
use Rattle.dd_cards.specs.Ranks.{IsRank}
use Rattle.dd_cards.specs.Cards.{has_card, is_of}
use Rattle.dd_cards.specs.Seats.{seat_after}
use Rattle.dd_cards.specs.Sides.{side_of, other_side}
use Rattle.dd_cards.proofs.CallerLemmas.{and-left, and-right}
use Rattle.dd_play.specs.Board.{Board, IsBoard, cards_at, tricks_left}
use Rattle.dd_play.specs.Reach.{reach, TakesBy}
use Rattle.dd_play.proofs.CallerLemmas.{card-real, inject, of-suit', suit-of, unturn, reach-in}
use Rattle.dd_rank.specs.Alike.{AreAlike, IsAlikeBy}
use Rattle.dd_rank.specs.Depths.{all_cards, depths_of}
use Rattle.dd_relative.specs.Relative.{IsRelative}
use Rattle.dd_relative.specs.WinningRanks.{AreTop, AreBefore}
use Rattle.dd_relative.proofs.Whole.{top-reach}
use Rattle.std.proofs.lemmas.Bool.{and_from}
use Rattle.dd_rank.proofs.CallerLemmas.{in-all, all-once, all-in}

-- the cards before reach as many of each suit
before-depths : (k : ℕ) (to from : PlayingCard → PlayingCard) (p q : Board) (later cards : List PlayingCard) (u : Suit) → IsBoard q → IsAlikeBy k to from p q → AreTop later
    → ((c : PlayingCard) → has_card (all_cards p) c ≡ true → has_card cards c ≡ has_card later (to c)) → depths_of (reach later) q u ≤ depths_of (reach cards) p u
before-depths k to from p q later cards u valid alike top same =
    inject from to (λ e. is_of u e && reach later e) (λ e. is_of u e && reach cards e) (all_cards q) (all_cards p) (all-once q valid) each
  where
    each : (d : PlayingCard) → has_card (all_cards q) d ≡ true → (is_of u d && reach later d) ≡ true
        → (has_card (all_cards p) (from d) ≡ true) × ((is_of u (from d) && reach cards (from d)) ≡ true) × (to (from d) ≡ d)
    each d has passes =
        let y = all-in q d has in
        let b = alike.back (seat_after y.0 (3 * k)) d (ap (λ z. has_card (cards_at q z) d) (unturn y.0 k) ∙ y.1) in
        let all = in-all p (seat_after y.0 (3 * k)) (from d) b.0 in
        let of = of-suit' u (from d) (alike.from_suit d ∙ suit-of u d (and-left (is_of u d) (reach later d) passes)) in
        let there = top-reach later d top (card-real q y.0 d valid y.1).1 (and-right (is_of u d) (reach later d) passes) in
        let here = same (from d) all ∙ ap (has_card later) b.1 ∙ there in
        (all, and_from (is_of u (from d)) (reach cards (from d)) of (reach-in cards (from d) here), b.1)

-- what is known of the two
pub record IsStep (p q : Board) (later cards : List PlayingCard) : Type 0 where
  pub valid : IsBoard p
  pub relative : IsRelative q
  pub alike : AreAlike p q
  pub top : AreTop later
  pub real : (c : PlayingCard) → has_card later c ≡ true → IsRank c.rank
  pub real_before : (c : PlayingCard) → has_card cards c ≡ true → IsRank c.rank
  pub before : AreBefore p later cards

-- the start that the ranks were told of is this one
the-start : (p q : Board) (later cards : List PlayingCard) (step : IsStep p q later cards)
    → ((x y z : Board) → IsBoard x → x.trick ≡ [] → IsRelative y → IsRelative z → AreAlike x y → AreAlike x z → y ≡ z) → step.before.q ≡ q
the-start p q later cards step one =
    one p step.before.q q step.valid step.before.alike.start_p step.before.relative step.relative (step.before.k, step.before.to, step.before.from, step.before.alike) step.alike

pub leaders-before : (p q : Board) (later cards : List PlayingCard) (n : ℕ) → IsStep p q later cards
    → ((x y z : Board) → IsBoard x → x.trick ≡ [] → IsRelative y → IsRelative z → AreAlike x y → AreAlike x z → y ≡ z)
    → ((cs here : List PlayingCard) (x y : Board) (m : ℕ) → ((c : PlayingCard) → has_card cs c ≡ true → IsRank c.rank) → ((c : PlayingCard) → has_card here c ≡ true → IsRank c.rank)
    → IsBoard x → IsBoard y → x.trick ≡ [] → y.trick ≡ [] → AreAlike x y → ((u : Suit) → depths_of (reach cs) y u ≤ depths_of (reach here) x u)
    → TakesBy (reach cs) (side_of y.first) y m → TakesBy (reach here) (side_of x.first) x m)
    → TakesBy (reach later) (side_of q.first) q n → TakesBy (reach cards) (side_of p.first) p n
leaders-before p q later cards n step one carries takes =
    let b = step.before in
    let same = the-start p q later cards step one in
    carries later cards p b.q n step.real step.real_before step.valid b.relative.board b.alike.start_p b.alike.start_q (b.k, b.to, b.from, b.alike)
    (λ u. before-depths b.k b.to b.from p b.q later cards u b.relative.board b.alike step.top b.same)
    (subst (λ (x : Board). TakesBy (reach later) (side_of x.first) x n) (sym same) takes)

pub others-before : (p q : Board) (later cards : List PlayingCard) (n : ℕ) → IsStep p q later cards
    → ((x y z : Board) → IsBoard x → x.trick ≡ [] → IsRelative y → IsRelative z → AreAlike x y → AreAlike x z → y ≡ z)
    → ((cs here : List PlayingCard) (x y : Board) (m : ℕ) → ((c : PlayingCard) → has_card cs c ≡ true → IsRank c.rank) → ((c : PlayingCard) → has_card here c ≡ true → IsRank c.rank)
    → IsBoard x → IsBoard y → x.trick ≡ [] → y.trick ≡ [] → AreAlike x y → ((u : Suit) → depths_of (reach cs) y u ≤ depths_of (reach here) x u) → m ≤ tricks_left y
    → TakesBy (reach cs) (other_side (side_of y.first)) y m → TakesBy (reach here) (other_side (side_of x.first)) x m)
    → n ≤ tricks_left q → TakesBy (reach later) (other_side (side_of q.first)) q n → TakesBy (reach cards) (other_side (side_of p.first)) p n
others-before p q later cards n step one carries few takes =
    let b = step.before in
    let same = the-start p q later cards step one in
    carries later cards p b.q n step.real step.real_before step.valid b.relative.board b.alike.start_p b.alike.start_q (b.k, b.to, b.from, b.alike)
    (λ u. before-depths b.k b.to b.from p b.q later cards u b.relative.board b.alike step.top b.same)
    (subst (λ (x : Board). n ≤ tricks_left x) (sym same) few)
    (subst (λ (x : Board). TakesBy (reach later) (other_side (side_of x.first)) x n) (sym same) takes)
