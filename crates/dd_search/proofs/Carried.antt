-- claims of a start of a trick by relative ranks, where North leads, seen from the position that it is alike to
use Rattle.std.proofs.Common.{◌≡◌, ℕ, ◌+◌, ◌-◌, ◌≤◌, Bool, true, false, refl, sym, ap, ◌∙◌, subst, arith, length, List, []}
use Rattle.std.specs.Prelude.{if◌then◌else◌}
use mathlib.Core.Bool.{beq}
use Rattle.dd_cards.specs.declared.seat.Seat.TheVariants.{North}
use Rattle.dd_cards.specs.declared.side.Side.{Side}
use Rattle.dd_cards.specs.declared.side.Side.TheVariants.{NorthSouth, EastWest}
use Rattle.dd_cards.specs.declared.suit.Suit.{Suit}
use Rattle.dd_cards.specs.PlayingCard.{PlayingCard}
use Rattle.dd_cards.specs.Cards.{has_card}
use Rattle.dd_cards.specs.Ranks.{IsRank}
use Rattle.dd_cards.specs.Seats.{is_north_south, seat_after}
use Rattle.dd_cards.specs.Sides.{side_of, other_side}
use Rattle.dd_cards.proofs.CallerLemmas.{filter-true}
use Rattle.dd_play.specs.Board.{Board, IsBoard, cards_at, tricks_left}
use Rattle.dd_play.specs.Reach.{reach, TakesBy}
use Rattle.dd_play.proofs.CallerLemmas.{count, inject, once-in}
use Rattle.dd_rank.specs.Alike.{AreAlike}
use Rattle.dd_rank.specs.Depths.{depths_of}
use Rattle.dd_relative.specs.Relative.{IsRelative}
use Rattle.dd_search.specs.ClaimsBy.{IsAnswerBy, claimant}
use Rattle.dd_search.proofs.Relied.{claimant-of}

-- what the side of the leader takes at q by the later cards, the side of the leader takes at p by these, and so the other sides
pub record Carries (p q : Board) (later cards : List PlayingCard) : Type 0 where
  pub leaders : (n : ℕ) → TakesBy (reach later) (side_of q.first) q n → TakesBy (reach cards) (side_of p.first) p n
  pub others : (n : ℕ) → n ≤ tricks_left q → TakesBy (reach later) (other_side (side_of q.first)) q n → TakesBy (reach cards) (other_side (side_of p.first)) p n

-- what is told at q, whose leader is North, answers at p, where the leader may be of the other side
pub answer-turned : (p q : Board) (need rest : ℕ) (later cards : List PlayingCard) (leads said : Bool) → Carries p q later cards
    → q.first ≡ North → leads ≡ is_north_south p.first → tricks_left q ≡ tricks_left p → 1 ≤ need → need ≤ tricks_left p
    → rest ≡ (if leads then need else tricks_left p + 1 - need) → IsAnswerBy q rest later said → IsAnswerBy p need cards (beq said leads)
answer-turned p q need rest later cards leads said carries north side tricks some most is told = go leads said side is told
  where
    -- the side of q's leader
    ours : side_of q.first ≡ NorthSouth
    ours = ap side_of north

    leaders : (b : Bool) (n : ℕ) → b ≡ is_north_south p.first → TakesBy (reach later) NorthSouth q n → TakesBy (reach cards) (claimant b) p n
    leaders b n s h = subst (λ (x : Side). TakesBy (reach cards) x p n) (sym (claimant-of b p.first s)) (carries.leaders n (subst (λ (x : Side). TakesBy (reach later) x q n) (sym ours) h))

    others : (b : Bool) (n : ℕ) → b ≡ is_north_south p.first → n ≤ tricks_left q → TakesBy (reach later) EastWest q n → TakesBy (reach cards) (other_side (claimant b)) p n
    others b n s few h = subst (λ (x : Side). TakesBy (reach cards) (other_side x) p n) (sym (claimant-of b p.first s)) (carries.others n few (subst (λ (x : Side). TakesBy (reach later) (other_side x) q n) (sym ours) h))

    go : (b k : Bool) → b ≡ is_north_south p.first → rest ≡ (if b then need else tricks_left p + 1 - need) → IsAnswerBy q rest later k → IsAnswerBy p need cards (beq k b)
    go true true s e h = leaders true need s (subst (λ n. TakesBy (reach later) NorthSouth q n) e h)
    go true false s e h =
        let same : tricks_left q + 1 - rest ≡ tricks_left p + 1 - need = omega (arith, e, tricks) in
        others true (tricks_left p + 1 - need) s (omega (arith, tricks, some)) (subst (λ n. TakesBy (reach later) EastWest q n) same h)
    go false true s e h = leaders false (tricks_left p + 1 - need) s (subst (λ n. TakesBy (reach later) NorthSouth q n) e h)
    go false false s e h =
        let same : tricks_left q + 1 - rest ≡ need = omega (arith, e, tricks, some, most) in
        others false need s (omega (arith, tricks, most)) (subst (λ n. TakesBy (reach later) EastWest q n) same h)

-- ---- from a start of a trick to one that is alike

-- as many tricks are left there
pub alike-left : (p q : Board) → IsBoard p → IsBoard q → AreAlike p q → tricks_left q ≡ tricks_left p
alike-left p q valid_p valid_q (k, to, from, alike) =
    let x = p.first in
    let here = cards_at p x in
    let there = cards_at q (seat_after x k) in
    let most : count (λ _. true) here ≤ count (λ _. true) there =
    inject to from (λ _. true) (λ _. true) here there (once-in p valid_p x) (λ c has t. let f = alike.forth x c has in (f.0, refl, f.1)) in
    let least : count (λ _. true) there ≤ count (λ _. true) here =
    inject from to (λ _. true) (λ _. true) there here (once-in q valid_q (seat_after x k)) (λ d has t. let b = alike.back x d has in (b.0, refl, b.1)) in
    let all_here : count (λ _. true) here ≡ length here = ap length (filter-true here) in
    let all_there : count (λ _. true) there ≡ length there = ap length (filter-true there) in
    let ours : tricks_left p ≡ length here = ap (λ cards. length (cards_at p (seat_after x (length cards)))) alike.start_p in
    let theirs : tricks_left q ≡ length there = ap (λ y. length (cards_at q y)) (ap (λ cards. seat_after q.first (length cards)) alike.start_q ∙ alike.first) in
    omega (arith, most, least, all_here, all_there, ours, theirs)

-- what is known of a start, of one by relative ranks that is alike, and of cards there and here
pub record AreCarried (p q : Board) (later cards : List PlayingCard) : Type 0 where
  pub valid : IsBoard p
  pub start : p.trick ≡ []
  pub relative : IsRelative q
  pub alike : AreAlike p q
  pub real : (c : PlayingCard) → has_card later c ≡ true → IsRank c.rank
  pub real_here : (c : PlayingCard) → has_card cards c ≡ true → IsRank c.rank
  pub deep : (u : Suit) → depths_of (reach later) q u ≤ depths_of (reach cards) p u

-- by the laws of claims at alike positions they carry
pub alike-carries : (p q : Board) (later cards : List PlayingCard) → AreCarried p q later cards
    → ((cards here : List PlayingCard) (p q : Board) (n : ℕ) → ((c : PlayingCard) → has_card cards c ≡ true → IsRank c.rank) → ((c : PlayingCard) → has_card here c ≡ true → IsRank c.rank)
    → IsBoard p → IsBoard q → p.trick ≡ [] → q.trick ≡ [] → AreAlike p q → ((u : Suit) → depths_of (reach cards) q u ≤ depths_of (reach here) p u)
    → TakesBy (reach cards) (side_of q.first) q n → TakesBy (reach here) (side_of p.first) p n)
    → ((cards here : List PlayingCard) (p q : Board) (n : ℕ) → ((c : PlayingCard) → has_card cards c ≡ true → IsRank c.rank) → ((c : PlayingCard) → has_card here c ≡ true → IsRank c.rank)
    → IsBoard p → IsBoard q → p.trick ≡ [] → q.trick ≡ [] → AreAlike p q → ((u : Suit) → depths_of (reach cards) q u ≤ depths_of (reach here) p u) → n ≤ tricks_left q
    → TakesBy (reach cards) (other_side (side_of q.first)) q n → TakesBy (reach here) (other_side (side_of p.first)) p n)
    → Carries p q later cards
alike-carries p q later cards k leaders others = record {
  leaders = λ n. leaders later cards p q n k.real k.real_here k.valid k.relative.board k.start k.relative.start k.alike k.deep;
  others = λ n. others later cards p q n k.real k.real_here k.valid k.relative.board k.start k.relative.start k.alike k.deep;
}
