-- in suits without gaps a card's rank tells how many cards are above it
use Rattle.std.proofs.Common.{◌≡◌, ℕ, zero, suc, ◌+◌, ◌-◌, ◌*◌, ◌<◌, ◌≤◌, Bool, true, false, refl, ap, ◌∙◌, subst, arith, inl, inr, eq-eqb, ne_eqb, List, [], ◌∷◌, ◌++◌, length}
use Rattle.std.specs.Prelude.{filter, nat_lt, ◌&&◌, ◌==◌}
use mathlib.Core.Bool.{not}
use Rattle.std.proofs.lemmas.Bool.{cases_lt, lt-ltb, le-ltb, ltb-true, and_from}
use Rattle.std.proofs.lemmas.List.{length-append}
use Rattle.std.proofs.lemmas.List.Elements.{filter-append, filter_agree}
use Rattle.dd_cards.specs.declared.seat.Seat.TheVariants.{North, East, South, West}
use Rattle.dd_cards.specs.declared.suit.Suit.{Suit}
use Rattle.dd_cards.specs.PlayingCard.{PlayingCard}
use Rattle.dd_cards.specs.Cards.{has_card, is_of, card_of, same_card, without}
use Rattle.dd_cards.specs.Hands.{times}
use Rattle.dd_cards.proofs.CallerLemmas.{and-left, and-right, filter-filter, times-has}
use Rattle.dd_play.specs.Board.{Board, IsBoard, cards_at}
use Rattle.dd_play.specs.Covers.{count_of}
use Rattle.dd_play.proofs.CallerLemmas.{card-real, count, count-cons, count-some, count-without, flag_of, of-suit'}
use Rattle.dd_rank.specs.Depths.{all_cards, place}
use Rattle.dd_relative.specs.Relative.{IsRelative}
use Rattle.dd_rank.proofs.CallerLemmas.{all-once, all-in}
use Rattle.dd_cards.specs.Sequences.{is_above}

-- ---- counting
pub flag-le : (b d : Bool) → (b ≡ true → d ≡ true) → flag_of b ≤ flag_of d
flag-le false d more = omega arith
flag-le true d more = (let e = ap flag_of (more refl) in omega (arith, e))

-- a test that holds where another does counts no fewer
more-count : (f g : PlayingCard → Bool) → ((c : PlayingCard) → f c ≡ true → g c ≡ true) → (cards : List PlayingCard) → count f cards ≤ count g cards
more-count f g more [] = omega arith
more-count f g more (c ∷ cards) =
    let rest = more-count f g more cards in
    let here : count f (c ∷ cards) ≡ flag_of (f c) + count f cards = count-cons f c cards in
    let there : count g (c ∷ cards) ≡ flag_of (g c) + count g cards = count-cons g c cards in
    let flags = flag-le (f c) (g c) (more c) in
    omega (arith, rest, here, there, flags)

-- of a suit all hands have as many as each has
pub all-count : (p : Board) (u : Suit) → count_of u (all_cards p) ≡ count_of u (cards_at p North) + count_of u (cards_at p East) + count_of u (cards_at p South) + count_of u (cards_at p West)
all-count p u =
    let n = cards_at p North in
    let e = cards_at p East in
    let s = cards_at p South in
    let w = cards_at p West in
    let one : count_of u (((n ++ e) ++ s) ++ w) ≡ count_of u ((n ++ e) ++ s) + count_of u w = count-append (is_of u) ((n ++ e) ++ s) w in
    let two : count_of u ((n ++ e) ++ s) ≡ count_of u (n ++ e) + count_of u s = count-append (is_of u) (n ++ e) s in
    let three : count_of u (n ++ e) ≡ count_of u n + count_of u e = count-append (is_of u) n e in
    omega (arith, one, two, three)
  where
    count-append : (test : PlayingCard → Bool) (xs ys : List PlayingCard) → count test (xs ++ ys) ≡ count test xs + count test ys
    count-append test xs ys = ap length (filter-append test xs ys) ∙ length-append (filter test xs) (filter test ys)

-- ---- a card stands once among all
-- ---- how many are above a rank
-- above the rank, and not the next one: above that
step-test : (b : Bool) (r m : ℕ) → ((not (b && (m == r + 1))) && (b && nat_lt r m)) ≡ (b && nat_lt (r + 1) m)
step-test false r m = refl
step-test true r m = elim (cases_lt (r + 1) m) [
  | inl over ↦ rw (lt-ltb (r + 1) m over, lt-ltb r m (omega (arith, over)), ne_eqb m (r + 1) (λ e. omega (arith, e, over))) refl
  | inr high ↦ elim (cases_lt r m) [
    | inl low ↦ rw (le-ltb (r + 1) m high, eq-eqb m (r + 1) (omega (arith, high, low))) refl
    | inr low ↦ rw (le-ltb (r + 1) m high, le-ltb r m low, ne_eqb m (r + 1) (λ e. omega (arith, e, low))) refl
  ]
]

-- where all ranks above are there, as many as there are ranks
pub above-count : (p : Board) → IsBoard p → (s : Suit) (n r : ℕ) → r + n ≡ 14
    → ((d : PlayingCard) → d.suit ≡ s → r < d.rank → d.rank ≤ 14 → has_card (all_cards p) d ≡ true)
    → count (is_above (card_of s r)) (all_cards p) ≡ n
above-count p valid s zero r e all = none (count (is_above (card_of s r)) (all_cards p)) refl
  where
    none : (m : ℕ) → count (is_above (card_of s r)) (all_cards p) ≡ m → m ≡ 0
    none zero k = refl
    none (suc m) k =
        let some = count-some (is_above (card_of s r)) (all_cards p) (omega (arith, k)) in
        let x = all-in p some.0 some.1 in
        let high = (card-real p x.0 some.0 valid x.1).1 in
        let over : r < some.0.rank = ltb-true r some.0.rank (and-right _ _ some.2) in
        absurd (omega (arith, e, high, over))
above-count p valid s (suc n) r e all =
    let next = card_of s (r + 1) in
    let below : count (is_above next) (all_cards p) ≡ n = above-count p valid s n (r + 1) (omega (arith, e)) (λ d suit over high. all d suit (omega (arith, over)) high) in
    let has : has_card (all_cards p) next ≡ true = all next refl (omega arith) (omega (arith, e)) in
    let w : count (is_above (card_of s r)) (without (all_cards p) next) + times (all_cards p) next * flag_of (is_above (card_of s r) next) ≡ count (is_above (card_of s r)) (all_cards p) =
    count-without (is_above (card_of s r)) (all_cards p) next in
    let f : flag_of (is_above (card_of s r) next) ≡ 1 = ap flag_of (and_from _ _ (of-suit' s next refl) (lt-ltb r (r + 1) (omega arith))) in
    let w1 : count (is_above (card_of s r)) (without (all_cards p) next) + times (all_cards p) next * 1 ≡ count (is_above (card_of s r)) (all_cards p) =
    subst (λ x. count (is_above (card_of s r)) (without (all_cards p) next) + times (all_cards p) next * x ≡ count (is_above (card_of s r)) (all_cards p)) f w in
    let some : 1 ≤ times (all_cards p) next = times-has (all_cards p) next has in
    let most : times (all_cards p) next ≤ 1 = all-once p valid next in
    let rest : count (is_above (card_of s r)) (without (all_cards p) next) ≡ count (is_above next) (all_cards p) =
    ap length (filter-filter (is_above (card_of s r)) (λ d. not (same_card d next)) (all_cards p) ∙ filter_agree _ (is_above next) (λ d. step-test (is_of s d) r d.rank) (all_cards p)) in
    omega (arith, below, w1, some, most, rest)

-- so the rank of a card of a start by relative ranks tells its place
pub rank-place : (p : Board) (c : PlayingCard) → IsRelative p → has_card (all_cards p) c ≡ true → place p c + c.rank ≡ 14
rank-place p c relative has =
    let x = all-in p c has in
    let high = (card-real p x.0 c relative.board x.1).1 in
    let k : count (is_above (card_of c.suit c.rank)) (all_cards p) ≡ 14 - c.rank =
    above-count p relative.board c.suit (14 - c.rank) c.rank (omega (arith, high)) (λ d suit over top. relative.closed c d has suit (omega (arith, over)) top) in
    omega (arith, k, high)

-- it is not among those above it
pub place-within : (p : Board) (c : PlayingCard) → has_card (all_cards p) c ≡ true → place p c < count_of c.suit (all_cards p)
place-within p c has =
    let cards = all_cards p in
    let above : count (is_above c) (without cards c) + times cards c * flag_of (is_above c c) ≡ count (is_above c) cards = count-without (is_above c) cards c in
    let of : count (is_of c.suit) (without cards c) + times cards c * flag_of (is_of c.suit c) ≡ count (is_of c.suit) cards = count-without (is_of c.suit) cards c in
    let self : is_above c c ≡ false = rw (of-suit' c.suit c refl) (le-ltb c.rank c.rank (omega arith)) in
    let no : flag_of (is_above c c) ≡ 0 = ap flag_of self in
    let yes : flag_of (is_of c.suit c) ≡ 1 = ap flag_of (of-suit' c.suit c refl) in
    let above1 : count (is_above c) (without cards c) + times cards c * 0 ≡ count (is_above c) cards = subst (λ x. count (is_above c) (without cards c) + times cards c * x ≡ count (is_above c) cards) no above in
    let of1 : count (is_of c.suit) (without cards c) + times cards c * 1 ≡ count (is_of c.suit) cards = subst (λ x. count (is_of c.suit) (without cards c) + times cards c * x ≡ count (is_of c.suit) cards) yes of in
    let more = more-count (is_above c) (is_of c.suit) (λ e h. and-left _ _ h) (without cards c) in
    let some : 1 ≤ times cards c = times-has cards c has in
    omega (arith, above1, of1, more, some)
