-- the one relation, at an empty trick, is a cover at depths: what a table tells of every covered position may be used
use Rattle.std.proofs.Common.{◌≡◌, ℕ, ◌+◌, ◌*◌, ◌<◌, ◌≤◌, Bool, true, false, refl, sym, ap, ◌∙◌, subst, arith, List, [], ◌∷◌, ◌++◌, inl, inr}
use Rattle.std.specs.Prelude.{nat_le, ◌&&◌}
use Rattle.std.proofs.lemmas.Bool.{lt-ltb, true_from_ne_false, leb-false, lt-leb}
use Rattle.std.proofs.lemmas.Bool.Decides.{nat_tests}
use Rattle.dd_cards.specs.declared.seat.Seat.{Seat}
use Rattle.dd_cards.specs.declared.seat.Seat.TheVariants.{North, East, South, West}
use Rattle.dd_cards.specs.declared.suit.Suit.{Suit}
use Rattle.dd_cards.specs.PlayingCard.{PlayingCard}
use Rattle.dd_cards.specs.Cards.{is_of, same_card, has_card}
use Rattle.dd_cards.specs.Seats.{seat_code, seat_after}
use Rattle.dd_cards.specs.Hands.{times}
use Rattle.dd_cards.proofs.CallerLemmas.{and-left, and-right, is-other, is-same, same-other, same-self}
use Rattle.dd_cards.specs.Sides.{side_of, other_side, is_side}
use Rattle.dd_cards.specs.declared.side.Side.{Side}
use Rattle.dd_play.specs.Board.{Board, IsBoard, cards_at}
use Rattle.dd_play.specs.Won.{won}
use Rattle.dd_play.specs.Covers.{Keeps, IsOver, AllAnswer, IsCover}
use Rattle.dd_play.specs.Reach.{IsStrict, TakesBy}
use Rattle.dd_rank.specs.Depths.{all_cards, place, IsCoverAt, depths_of}
use Rattle.dd_play.proofs.CallerLemmas.{count, count-cons, inject, same-or, suit-of, unturn, above-is, above-suit, above-rank}
use Rattle.dd_rank.proofs.Places.{count-le, in-all}
use Rattle.dd_rank.proofs.Covered.{all-in, IsTopOf, IsLifted, lifted-top}
use Rattle.dd_cards.specs.Sequences.{is_above}

-- two lists together count as much as each by itself
pub count-append : (test : PlayingCard → Bool) (xs ys : List PlayingCard) → count test (xs ++ ys) ≡ count test xs + count test ys
count-append test [] ys = omega arith
count-append test (x ∷ xs) ys =
    let a = count-cons test x xs in
    let b = count-cons test x (xs ++ ys) in
    let ih = count-append test xs ys in
    omega (arith, a, b, ih)

-- no card stands twice among all
pub all-once : (p : Board) → IsBoard p → (c : PlayingCard) → times (all_cards p) c ≤ 1
all-once p valid c =
    let test : PlayingCard → Bool = λ d. same_card d c in
    let n = cards_at p North in
    let e = cards_at p East in
    let s = cards_at p South in
    let w = cards_at p West in
    let a : count test (((n ++ e) ++ s) ++ w) ≡ count test ((n ++ e) ++ s) + count test w = count-append test ((n ++ e) ++ s) w in
    let b : count test ((n ++ e) ++ s) ≡ count test (n ++ e) + count test s = count-append test (n ++ e) s in
    let d : count test (n ++ e) ≡ count test n + count test e = count-append test n e in
    let o = valid.once c in
    omega (arith, a, b, d, o)

-- what answers an empty trick is empty
pub no-trick : (to from : PlayingCard → PlayingCard) (top : PlayingCard → Bool) (cs ds : List PlayingCard) → cs ≡ [] → AllAnswer to from top cs ds → ds ≡ []
no-trick to from top cs ds e a = go ds (subst (λ xs. AllAnswer to from top xs ds) e a)
  where
    go : (ds : List PlayingCard) → AllAnswer to from top [] ds → ds ≡ []
    go [] a = refl
    go (d ∷ ds) a = absurd a

-- the one relation at an empty trick, with upward top cards, is a cover at their depths
pub cover-covers : (top : PlayingCard → Bool) (k : ℕ) (to from : PlayingCard → PlayingCard) (s : Side) (p : Board) (t : Side) (q : Board) → IsLifted top → p.trick ≡ []
    → IsCover top k to from s p t q → IsStrict top to from p q → IsCoverAt k (depths_of top p) p q
cover-covers top k to from s p t q lifted start r strict =
    record {
      start_p = start;
      start_q = no-trick to from top p.trick q.trick start r.trick;
      strain = r.strain;
      first = r.first;
      most = λ u. count-le (λ e. is_of u e && top e) (is_of u) (all_cards p) (λ e h y. and-left (is_of u e) (top e) y);
      lengths = r.lengths;
      forth = λ x c h low. (
          let tc : top c ≡ true = is_top.0 c (in-all p x c h) ∙ lt-ltb (place p c) (depths_of top p c.suit) low in
          let f = r.forth x c h tc in
          (to c, f.0, r.to_suit c, same-place x c h tc));
      back = λ x d h low. (
          let td : top (from d) ≡ true = true_from_ne_false (top (from d)) (λ no_top. (let far = beyond x d h no_top in omega (arith, far, low))) in
          let f = r.back x d h td in
          (from d, f.0, r.from_suit d, sym (same-place x (from d) f.0 td) ∙ ap (place q) f.1));
    }
  where
    is_top : IsTopOf top (depths_of top p) p
    is_top = lifted-top top p lifted

    -- the order of two top cards, wherever they are
    keeps : (x y : Seat) (c d : PlayingCard) → has_card (cards_at p x) c ≡ true → has_card (cards_at p y) d ≡ true → Keeps to top c d
    keeps x y c d hc hd = elim (same-or x y) [
      | inl e ↦ strict.keeps y c d (ap (λ z. has_card (cards_at p z) c) (sym e) ∙ hc) hd
      | inr e ↦ r.keeps.hands x y c d (λ z. e (ap seat_code z)) hc hd
    ]

    over : (x y : Seat) (c d : PlayingCard) → has_card (cards_at q x) c ≡ true → has_card (cards_at q y) d ≡ true → IsOver (λ z. top (from z)) c d
    over x y c d hc hd = elim (same-or x y) [
      | inl e ↦ strict.over y c d (ap (λ z. has_card (cards_at q z) c) (sym e) ∙ hc) hd
      | inr e ↦ r.over_q.hands x y c d (λ z. e (ap seat_code z)) hc hd
    ]

    same-place : (x : Seat) (c : PlayingCard) → has_card (cards_at p x) c ≡ true → top c ≡ true → place q (to c) ≡ place p c
    same-place x c hc tc =
        let f = r.forth x c hc tc in
        let up : place p c ≤ place q (to c) = inject to from (is_above c) (is_above (to c)) (all_cards p) (all_cards q) (all-once p r.valid_p) (λ e he te.
        let y = all-in p e he in
        let suits : e.suit ≡ c.suit = above-suit c e te in
        let higher : c.rank < e.rank = above-rank c e te in
        let top_e : top e ≡ true = true_from_ne_false (top e) (λ low. (let z = lifted.0 c e tc low (sym suits) in omega (arith, z, higher))) in
        let g = r.forth y.0 e y.1 top_e in
        let order : nat_le (to e).rank (to c).rank ≡ false = keeps y.0 x e c y.1 hc top_e tc suits ∙ lt-leb e.rank c.rank higher in
        (in-all q (seat_after y.0 k) (to e) g.0, above-is (to c) (to e) (r.to_suit e ∙ suits ∙ sym (r.to_suit c)) (leb-false (to e).rank (to c).rank order), g.1)) in
        let down : place q (to c) ≤ place p c = inject from to (is_above (to c)) (is_above c) (all_cards q) (all_cards p) (all-once q r.valid_q) (λ e he te.
        let y = all-in q e he in
        let y' : Seat = seat_after y.0 (3 * k) in
        let suits : e.suit ≡ (to c).suit = above-suit (to c) e te in
        let higher : (to c).rank < e.rank = above-rank (to c) e te in
        let top_e : top (from e) ≡ true = true_from_ne_false (top (from e)) (λ low. (
        let z = over (seat_after x k) y.0 (to c) e f.0 y.1 (ap top f.1 ∙ tc) low (sym suits) in omega (arith, z, higher))) in
        let g = r.back y' e (ap (λ z. has_card (cards_at q z) e) (unturn y.0 k) ∙ y.1) top_e in
        let suited : (from e).suit ≡ c.suit = r.from_suit e ∙ suits ∙ r.to_suit c in
        let order : nat_le (from e).rank c.rank ≡ false =
        sym (keeps y' x (from e) c g.0 hc top_e tc suited) ∙ ap (λ (z : PlayingCard). nat_le z.rank (to c).rank) g.1 ∙ lt-leb e.rank (to c).rank higher in
        (in-all p y' (from e) g.0, above-is c (from e) suited (leb-false (from e).rank c.rank order), g.1)) in
        omega (arith, up, down)

    -- a low card of q stands below all its top cards
    beyond : (x : Seat) (d : PlayingCard) → has_card (cards_at q (seat_after x k)) d ≡ true → top (from d) ≡ false → depths_of top p d.suit ≤ place q d
    beyond x d hd low = inject to from (λ e. is_of d.suit e && top e) (is_above d) (all_cards p) (all_cards q) (all-once p r.valid_p) (λ e he te.
        let y = all-in p e he in
        let suits : e.suit ≡ d.suit = suit-of d.suit e (and-left (is_of d.suit e) (top e) te) in
        let top_e : top e ≡ true = and-right (is_of d.suit e) (top e) te in
        let g = r.forth y.0 e y.1 top_e in
        let under : d.rank < (to e).rank = over (seat_after y.0 k) (seat_after x k) (to e) d g.0 hd (ap top g.1 ∙ top_e) low (r.to_suit e ∙ suits) in
        (in-all q (seat_after y.0 k) (to e) g.0, above-is d (to e) (r.to_suit e ∙ suits) under, g.1))

-- of fewer depths, fewer cards are the same
pub covers-less : (k : ℕ) (few many : Suit → ℕ) (p q : Board) → ((u : Suit) → few u ≤ many u) → IsCoverAt k many p q → IsCoverAt k few p q
covers-less k few many p q less a = record {
  start_p = a.start_p;
  start_q = a.start_q;
  strain = a.strain;
  first = a.first;
  most = λ u. (let m = a.most u in let l = less u in omega (arith, m, l));
  lengths = a.lengths;
  forth = λ x c h low. a.forth x c h (let l = less c.suit in omega (arith, l, low));
  back = λ x d h low. a.back x d h (let l = less d.suit in omega (arith, l, low));
}

-- what holds of every position that p covers at depths is a claim at p, by top cards that are at least as many
pub by-looked : (top : PlayingCard → Bool) (depths : Suit → ℕ) (p : Board) (n : ℕ) → IsLifted top → p.trick ≡ [] → ((u : Suit) → depths u ≤ depths_of top p u)
    → ((k : ℕ) (q : Board) → IsBoard q → IsCoverAt k depths p q → n ≤ won (side_of q.first) q) → TakesBy top (side_of p.first) p n
by-looked top depths p n lifted start less each k to from t q r strict =
    let at : n ≤ won (side_of q.first) q = each k q r.valid_q (covers-less k depths (depths_of top p) p q less (cover-covers top k to from (side_of p.first) p t q lifted start r strict)) in
    let side : is_side t q.first ≡ is_side (side_of p.first) p.first = ap (is_side t) r.first ∙ r.sides p.first in
    subst (λ b. n ≤ won b q) (is-same (side_of q.first) t (side ∙ same-self (side_of p.first))) at

-- and so for the other side
pub by-looked' : (top : PlayingCard → Bool) (depths : Suit → ℕ) (p : Board) (n : ℕ) → IsLifted top → p.trick ≡ [] → ((u : Suit) → depths u ≤ depths_of top p u)
    → ((k : ℕ) (q : Board) → IsBoard q → IsCoverAt k depths p q → n ≤ won (other_side (side_of q.first)) q) → TakesBy top (other_side (side_of p.first)) p n
by-looked' top depths p n lifted start less each k to from t q r strict =
    let at : n ≤ won (other_side (side_of q.first)) q = each k q r.valid_q (covers-less k depths (depths_of top p) p q less (cover-covers top k to from (other_side (side_of p.first)) p t q lifted start r strict)) in
    let side : is_side t q.first ≡ is_side (other_side (side_of p.first)) p.first = ap (is_side t) r.first ∙ r.sides p.first in
    subst (λ b. n ≤ won b q) (is-other (side_of q.first) t (side ∙ same-other (side_of p.first))) at
