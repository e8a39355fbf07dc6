-- A position covers another at depths exactly where shapes and first owners are the same.
use Rattle.std.proofs.Common.{◌≡◌, ℕ, ◌%◌, ◌^◌, ◌<◌, ◌≤◌, true, sym, ap, ◌∙◌, subst, arith, [], length, get_or}
use mathlib.Core.Path.{ap₂}
use Rattle.dd_cards.specs.declared.seat.Seat.{Seat}
use Rattle.dd_cards.specs.declared.suit.Suit.{Suit}
use Rattle.dd_cards.specs.PlayingCard.{PlayingCard}
use Rattle.dd_cards.specs.Cards.{has_card}
use Rattle.dd_cards.specs.Seats.{seat_after}
use Rattle.dd_play.specs.Board.{Board, IsBoard, cards_at}
use Rattle.dd_play.specs.Covers.{count_of}
use Rattle.dd_play.proofs.CallerLemmas.{turn-turn}
use Rattle.dd_rank.specs.Depths.{all_cards, place, Covers}
use Rattle.dd_rank.specs.Strings.{places_after, owner_places, owners_number, length_at, all_lengths, ShapeOf, shape_of}
use Rattle.dd_rank.proofs.Digits.{digits-give, digits-tell}
use Rattle.dd_rank.proofs.Lengths.{lengths-tell, lengths-give, counts-same}
use Rattle.dd_rank.proofs.Standing.{places-count, stands-at, someone-at, places-digits}
use Rattle.dd_rank.proofs.Turned.{places-lt, after-places, turned-places, places-tell}

-- what code compares: the shapes, and of each suit the numbers of so many owners
pub record AreAgreed (depths : Suit → ℕ) (p q : Board) : Type 0 where
  pub shape : shape_of q ≡ shape_of p
  pub most : (u : Suit) → depths u ≤ count_of u (all_cards p)
  pub owners : (u : Suit) → owners_number q u % 4 ^ depths u ≡ owners_number p u % 4 ^ depths u

-- a place after the leader, where seats and leader turn
turned-place : (p q : Board) (k : ℕ) (x : Seat) → q.first ≡ seat_after p.first k → places_after q.first (seat_after x k) ≡ places_after p.first x
turned-place p q k x first = ap (λ f. places_after f (seat_after x k)) first ∙ turned-places k p.first x

-- the owner at a card's place, by suit and number
at-place : (p : Board) → IsBoard p → (x : Seat) (c : PlayingCard) (u : Suit) (i : ℕ) → has_card (cards_at p x) c ≡ true → c.suit ≡ u → place p c ≡ i → get_or (owner_places p u) i 0 ≡ places_after p.first x
at-place p valid x c u i h suit at = ap₂ (λ (s : Suit) (j : ℕ). get_or (owner_places p s) j 0) (sym suit) (sym at) ∙ (stands-at p valid x c h).0

-- a card and one at its place whose holder is turned have one owner
same-owner : (p q : Board) (k : ℕ) (x : Seat) (c d : PlayingCard) (u : Suit) (i : ℕ) → IsBoard p → IsBoard q → q.first ≡ seat_after p.first k
    → has_card (cards_at p x) c ≡ true → has_card (cards_at q (seat_after x k)) d ≡ true → d.suit ≡ c.suit → c.suit ≡ u → place q d ≡ place p c → place p c ≡ i
    → get_or (owner_places q u) i 0 ≡ get_or (owner_places p u) i 0
same-owner p q k x c d u i valid_p valid_q first hc hd suits suit places at =
    at-place q valid_q (seat_after x k) d u i hd (suits ∙ suit) (places ∙ at) ∙ turned-place p q k x first ∙ sym (at-place p valid_p x c u i hc suit at)

-- a cover agrees
pub covers-agree : (depths : Suit → ℕ) (p q : Board) → IsBoard p → IsBoard q → Covers p depths q → AreAgreed depths p q
unfolding owners_number
covers-agree depths p q valid_p valid_q a = record {
  shape = ap₂ (λ s n. (let r : ShapeOf = record { strain = s; lengths = n } in r)) a.1.strain (lengths-give p q lengths);
  most = a.1.most;
  owners = λ u. digits-give (depths u) (owner_places p u) (owner_places q u) (places-digits p u) (places-digits q u) (owner u);
}
  where
    lengths : (u : Suit) (j : ℕ) → length_at q u j ≡ length_at p u j
    lengths u j = ap (λ y. count_of u (cards_at q y)) (ap (λ f. seat_after f j) a.1.first ∙ sym (turn-turn p.first j a.0)) ∙ a.1.lengths (seat_after p.first j) u

    owner : (u : Suit) (i : ℕ) → i < depths u → get_or (owner_places q u) i 0 ≡ get_or (owner_places p u) i 0
    owner u i h =
        let some = someone-at p valid_p u i (let m = a.1.most u in let n = places-count p valid_p u in omega (arith, h, m, n)) in
        let low : place p some.1 < depths some.1.suit = subst (λ s. place p some.1 < depths s) (sym some.3) (let e = some.4 in omega (arith, e, h)) in
        let d = a.1.forth some.0 some.1 some.2 low in
        same-owner p q a.0 some.0 some.1 d.0 u i valid_p valid_q a.1.first some.2 d.1 d.2 some.3 d.3 some.4

-- and what agrees is a cover
pub agree-covers : (depths : Suit → ℕ) (p q : Board) → IsBoard p → IsBoard q → p.trick ≡ [] → q.trick ≡ [] → AreAgreed depths p q → Covers p depths q
unfolding owners_number
agree-covers depths p q valid_p valid_q start_p start_q a = (
  k,
  record {
    start_p = start_p;
    start_q = start_q;
    strain = ap (λ (s : ShapeOf). s.strain) a.shape;
    first = first;
    most = a.most;
    lengths = lengths;
    forth = λ x c h low. (
        let i = place p c in
        let here = stands-at p valid_p x c h in
        let more : place p c < length (owner_places q c.suit) = (let l = here.1 in let m = places-count p valid_p c.suit in let n = places-count q valid_q c.suit in let e = counts-same p q valid_p valid_q same c.suit in omega (arith, l, m, n, e)) in
        let some = someone-at q valid_q c.suit (place p c) more in
        let seat : some.0 ≡ seat_after x k = places-tell q.first some.0 (seat_after x k) (
        sym (at-place q valid_q some.0 some.1 c.suit (place p c) some.2 some.3 some.4) ∙ owner c.suit (place p c) low ∙ here.0 ∙ sym (turned-place p q k x first)) in
        (some.1, ap (λ y. has_card (cards_at q y) some.1) (sym seat) ∙ some.2, some.3, some.4));
    back = λ x d h low. (
        let there = stands-at q valid_q (seat_after x k) d h in
        let more : place q d < length (owner_places p d.suit) = (let m = a.most d.suit in let n = places-count p valid_p d.suit in omega (arith, low, m, n)) in
        let some = someone-at p valid_p d.suit (place q d) more in
        let seat : some.0 ≡ x = places-tell p.first some.0 x (
        sym (at-place p valid_p some.0 some.1 d.suit (place q d) some.2 some.3 some.4) ∙ sym (owner d.suit (place q d) low) ∙ there.0 ∙ turned-place p q k x first) in
        (some.1, ap (λ y. has_card (cards_at p y) some.1) (sym seat) ∙ some.2, some.3, some.4));
  },
)
  where
    k : ℕ
    k = places_after p.first q.first

    first : q.first ≡ seat_after p.first k
    first = sym (after-places p.first q.first)

    same : all_lengths q ≡ all_lengths p
    same = ap (λ (s : ShapeOf). s.lengths) a.shape

    owner : (u : Suit) (i : ℕ) → i < depths u → get_or (owner_places q u) i 0 ≡ get_or (owner_places p u) i 0
    owner u i h = digits-tell (depths u) (owner_places p u) (owner_places q u) (places-digits p u) (places-digits q u) (a.owners u) i h

    lengths : (x : Seat) (u : Suit) → count_of u (cards_at q (seat_after x k)) ≡ count_of u (cards_at p x)
    lengths x u =
        let j = places_after p.first x in
        let own : seat_after p.first j ≡ x = after-places p.first x in
        let turned : seat_after x k ≡ seat_after q.first j = ap (λ y. seat_after y k) (sym own) ∙ turn-turn p.first j k ∙ ap (λ f. seat_after f j) (sym first) in
        ap (λ y. count_of u (cards_at q y)) turned ∙ lengths-tell p q valid_p valid_q same u j (places-lt p.first x) ∙ ap (λ y. count_of u (cards_at p y)) own
