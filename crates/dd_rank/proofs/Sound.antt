-- an interval with least ranks holds every covered position's value
use Rattle.std.proofs.Common.{◌≡◌, ℕ, ◌+◌, ◌-◌, ◌≤◌, Bool, refl, sym, ap, ◌∙◌, arith, List, [], ◌∷◌, length}
use mathlib.Core.Bool.{not}
use Rattle.dd_cards.specs.declared.suit.Suit.{Suit}
use Rattle.dd_cards.specs.declared.suit.Suit.TheVariants.{Spades, Hearts, Diamonds, Clubs}
use Rattle.dd_cards.specs.PlayingCard.{PlayingCard}
use Rattle.dd_cards.specs.Cards.{is_of}
use Rattle.dd_cards.specs.Seats.{seat_after}
use Rattle.dd_cards.specs.Sides.{side_of, other_side}
use Rattle.dd_cards.specs.declared.side.Side.{Side}
use Rattle.dd_play.specs.Board.{Board, IsBoard, cards_at, tricks_left, mover}
use Rattle.dd_play.specs.Value.{leaders_tricks}
use Rattle.dd_play.proofs.CallerLemmas.{all, count-cons, flag_of, leaders_tricks-won}
use Rattle.dd_play.specs.Won.{won}
use Rattle.dd_play.specs.Covers.{IsCover, count_of}
use Rattle.dd_rank.specs.Depths.{IsCoverAt, depths_of}
use Rattle.dd_play.specs.Reach.{TakesBy}
use Rattle.dd_rank.proofs.Covered.{to_of, covers-cover, IsLifted, lifted-top, by-covered}
use Rattle.dd_cards.proofs.CallerLemmas.{same-not}

-- the other two sides are related too
pub other-sides : (top : PlayingCard → Bool) (k : ℕ) (to from : PlayingCard → PlayingCard) (s : Side) (p : Board) (t : Side) (q : Board) → IsCover top k to from s p t q → IsCover top k to from (other_side s) p (other_side t) q
other-sides top k to from s p t q r = record {
  valid_p = r.valid_p;
  valid_q = r.valid_q;
  sides = λ x. same-not (side_of (seat_after x k)) t ∙ ap not (r.sides x) ∙ sym (same-not (side_of x) s);
  strain = r.strain;
  first = r.first;
  to_suit = r.to_suit;
  from_suit = r.from_suit;
  forth = r.forth;
  back = r.back;
  lengths = r.lengths;
  trick = r.trick;
  keeps = r.keeps;
  over_p = r.over_p;
  over_q = r.over_q;
}

-- a hand's cards are those of its four suits
suits-length : (cards : List PlayingCard) → count_of Spades cards + count_of Hearts cards + count_of Diamonds cards + count_of Clubs cards ≡ length cards
suits-length [] = refl
suits-length (c ∷ cards) =
    let ih = suits-length cards in
    let s = count-cons (is_of Spades) c cards in
    let h = count-cons (is_of Hearts) c cards in
    let d = count-cons (is_of Diamonds) c cards in
    let k = count-cons (is_of Clubs) c cards in
    let o = one c.suit in
    omega (arith, ih, s, h, d, k, o)
  where
    one : (u : Suit) → flag_of (is_of Spades (let x : PlayingCard = record { suit = u; rank = 0 } in x)) + flag_of (is_of Hearts (let x : PlayingCard = record { suit = u; rank = 0 } in x))
        + flag_of (is_of Diamonds (let x : PlayingCard = record { suit = u; rank = 0 } in x)) + flag_of (is_of Clubs (let x : PlayingCard = record { suit = u; rank = 0 } in x)) ≡ 1
    one Spades = refl
    one Hearts = refl
    one Diamonds = refl
    one Clubs = refl

-- a covered position has as many tricks left
pub same-left : (k : ℕ) (depths : Suit → ℕ) (p q : Board) → IsCoverAt k depths p q → tricks_left q ≡ tricks_left p
same-left k depths p q a =
    let l = λ (u : Suit). a.lengths p.first u in
    let s = l Spades in
    let h = l Hearts in
    let d = l Diamonds in
    let c = l Clubs in
    let m = suits-length (cards_at q (seat_after p.first k)) in
    let n = suits-length (cards_at p p.first) in
    let x : length (cards_at q (mover q)) ≡ length (cards_at q (seat_after p.first k)) = ap (λ y. length (cards_at q y)) (ap (λ z. seat_after q.first (length z)) a.start_q ∙ a.first) in
    let y : length (cards_at p (mover p)) ≡ length (cards_at p p.first) = ap (λ z. length (cards_at p (seat_after p.first (length z)))) a.start_p in
    omega (arith, s, h, d, c, m, n, x, y)

-- what both sides claim at p bounds the value of each position that it covers
pub sound-lead : (top : PlayingCard → Bool) (k : ℕ) (p q : Board) (lo hi : ℕ) → IsLifted top → IsBoard p → IsBoard q
    → TakesBy top (side_of p.first) p lo → TakesBy top (other_side (side_of p.first)) p (tricks_left p - hi) → IsCoverAt k (depths_of top p) p q
    → (lo ≤ leaders_tricks q) × (leaders_tricks q ≤ hi)
sound-lead top k p q lo hi lifted good_p good_q low high a =
    let r = covers-cover top k (depths_of top p) p q (lifted-top top p lifted) good_p good_q a in
    let same : leaders_tricks q ≡ won (side_of q.first) q = leaders_tricks-won q in
    let under : lo ≤ won (side_of q.first) q = by-covered top k p q lo lifted good_p good_q a low in
    let over : tricks_left p - hi ≤ won (other_side (side_of q.first)) q =
    high k (to_of p q) (to_of q p) (other_side (side_of q.first)) q (other-sides top k (to_of p q) (to_of q p) (side_of p.first) p (side_of q.first) q r.0) r.1 in
    let both : won (side_of q.first) q + won (other_side (side_of q.first)) q ≡ tricks_left q = all (side_of q.first) q good_q in
    let lefts : tricks_left q ≡ tricks_left p = same-left k (depths_of top p) p q a in
    (omega (arith, same, under), omega (arith, same, over, both, lefts))
