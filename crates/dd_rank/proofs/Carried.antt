-- A claim at an alike position is a claim here: by cards that reach as many of each suit from the top down.
use Rattle.std.proofs.Common.{◌≡◌, refl, ℕ, ◌-◌, ◌≤◌, true, arith, sym, subst, List, []}
use Rattle.std.specs.Prelude.{◌&&◌}
use Rattle.dd_cards.specs.declared.suit.Suit.{Suit}
use Rattle.dd_cards.specs.PlayingCard.{PlayingCard}
use Rattle.dd_cards.specs.Ranks.{IsRank}
use Rattle.dd_cards.specs.Cards.{has_card, is_of}
use Rattle.dd_cards.proofs.CallerLemmas.{and-left}
use Rattle.dd_cards.specs.Sides.{side_of, other_side}
use Rattle.dd_play.specs.Board.{Board, IsBoard, tricks_left}
use Rattle.dd_play.specs.Covers.{count_of}
use Rattle.dd_play.specs.Reach.{reach, TakesBy}
use Rattle.dd_play.proofs.CallerLemmas.{by-nothing}
use Rattle.dd_rank.specs.Alike.{AreAlike}
use Rattle.dd_rank.specs.Depths.{all_cards, Covers, depths_of}
use Rattle.dd_rank.proofs.Alikes.{alike-full, alike-strings}
use Rattle.dd_rank.proofs.Looked.{covers-less}
use Rattle.dd_rank.proofs.Lowest.{more-pass}
use Rattle.dd_rank.proofs.Sound.{same-left}
use Rattle.dd_rank.proofs.Told.{told, noted, chained}

-- cards that are reached are no more than the suit has
depths-few : (cards : List PlayingCard) (q : Board) (u : Suit) → depths_of (reach cards) q u ≤ count_of u (all_cards q)
depths-few cards q u = more-pass (λ e. is_of u e && reach cards e) (is_of u) (all_cards q) (λ e h. and-left _ _ h)

-- a position covers each that is alike to it, at the depths of any cards
pub alike-covers : (cards : List PlayingCard) (p q : Board) → IsBoard p → IsBoard q → p.trick ≡ [] → q.trick ≡ [] → AreAlike p q → Covers q (depths_of (reach cards) q) p
alike-covers cards p q valid_p valid_q start_p start_q alike =
    let back : AreAlike q p = (alike-strings q p valid_q valid_p start_q start_p).1 (sym ((alike-strings p q valid_p valid_q start_p start_q).0 alike)) in
    let full = alike-full q p (λ u. count_of u (all_cards q)) valid_q valid_p (λ u. refl) back in
    (full.0, covers-less full.0 (depths_of (reach cards) q) (λ u. count_of u (all_cards q)) q p (depths-few cards q) full.1)

-- What the leader's side takes at q by these cards, it takes at p by those that reach no fewer of each suit.
pub carried-lead : (cards here : List PlayingCard) (p q : Board) (n : ℕ) → ((c : PlayingCard) → has_card cards c ≡ true → IsRank c.rank) → ((c : PlayingCard) → has_card here c ≡ true → IsRank c.rank)
    → IsBoard p → IsBoard q → p.trick ≡ [] → q.trick ≡ [] → AreAlike p q → ((u : Suit) → depths_of (reach cards) q u ≤ depths_of (reach here) p u)
    → TakesBy (reach cards) (side_of q.first) q n → TakesBy (reach here) (side_of p.first) p n
carried-lead cards here p q n real_cards real_here valid_p valid_q start_p start_q alike deep low =
    let depths = depths_of (reach cards) q in
    let cover = alike-covers cards p q valid_p valid_q start_p start_q alike in
    let none : TakesBy (reach cards) (other_side (side_of q.first)) q (tricks_left q - tricks_left q) = subst (λ k. TakesBy (reach cards) (other_side (side_of q.first)) q k) (omega arith) (by-nothing (reach cards) (other_side (side_of q.first)) q) in
    (told here depths p n (tricks_left q) real_here start_p deep (λ r good a. noted cards depths q n (tricks_left q) real_cards valid_q (λ u. omega arith) low none r good (chained depths q p r cover a))).0

-- The same of the other side.
pub carried-against : (cards here : List PlayingCard) (p q : Board) (n : ℕ) → ((c : PlayingCard) → has_card cards c ≡ true → IsRank c.rank) → ((c : PlayingCard) → has_card here c ≡ true → IsRank c.rank)
    → IsBoard p → IsBoard q → p.trick ≡ [] → q.trick ≡ [] → AreAlike p q → ((u : Suit) → depths_of (reach cards) q u ≤ depths_of (reach here) p u) → n ≤ tricks_left q
    → TakesBy (reach cards) (other_side (side_of q.first)) q n → TakesBy (reach here) (other_side (side_of p.first)) p n
carried-against cards here p q n real_cards real_here valid_p valid_q start_p start_q alike deep few high =
    let depths = depths_of (reach cards) q in
    let cover = alike-covers cards p q valid_p valid_q start_p start_q alike in
    let most : tricks_left q - (tricks_left q - n) ≡ n = omega (arith, few) in
    let lefts : tricks_left p ≡ tricks_left q = same-left cover.0 depths q p cover.1 in
    let high' = subst (λ k. TakesBy (reach cards) (other_side (side_of q.first)) q k) (sym most) high in
    let claims = told here depths p 0 (tricks_left q - n) real_here start_p deep (λ r good a. noted cards depths q 0 (tricks_left q - n) real_cards valid_q (λ u. omega arith) (by-nothing (reach cards) (side_of q.first) q) high' r good (chained depths q p r cover a)) in
    subst (λ k. TakesBy (reach here) (other_side (side_of p.first)) p k) (omega (arith, lefts, few)) claims.1
