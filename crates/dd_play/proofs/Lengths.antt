-- how many cards: a hand by its suits, the hands by their seats, and no more than the deck has
use Rattle.std.proofs.Common.{◌≡◌, ℕ, zero, suc, ◌+◌, ◌*◌, ◌≤◌, true, refl, ap, arith, List, [], ◌∷◌, length, zero-le}
use Rattle.std.specs.Prelude.{filter, nat_lt, ◌==◌, if◌then◌else◌}
use Rattle.std.proofs.lemmas.Bool.Decides.{nat_tests}
use Rattle.dd_cards.specs.declared.seat.Seat.{Seat}
use Rattle.dd_cards.specs.declared.seat.Seat.TheVariants.{North, East, South, West}
use Rattle.dd_cards.specs.Seats.{seat_after}
use Rattle.dd_cards.specs.Suits.{suit_code}
use Rattle.dd_cards.specs.PlayingCard.{PlayingCard}
use Rattle.dd_cards.specs.Cards.{is_of, same_card, has_card, deck}
use Rattle.dd_cards.specs.Hands.{times}
use Rattle.dd_cards.proofs.CallerLemmas.{has_card-deck, length-deck, length-filter-le, real-set, times-cons, same_card-swap, times-has}
use Rattle.dd_play.specs.Board.{Board, IsBoard, cards_at, cards_left, mover, tricks_left}
use Rattle.dd_play.specs.Tricks.{or_else}
use Rattle.dd_play.specs.Play.{legal, following}
use Rattle.dd_play.proofs.Boards.{flag_of, has-first, in-rest}

-- ---- no more cards than the deck has
-- how often the cards of one list stand in another
tally : List PlayingCard → List PlayingCard → ℕ
tally xs [] = 0
tally xs (y ∷ ys) = times xs y + tally xs ys

-- one card more in the first list
tally-cons : (x : PlayingCard) (xs ys : List PlayingCard) → tally (x ∷ xs) ys ≡ times ys x + tally xs ys
unfolding tally
tally-cons x xs [] = omega arith
tally-cons x xs (y ∷ ys) =
    let ih = tally-cons x xs ys in
    let one = times-cons x xs y in
    let two = times-cons y ys x in
    let swap : flag_of (same_card x y) ≡ flag_of (same_card y x) = ap flag_of (same_card-swap x y) in
    omega (arith, ih, one, two, swap)

-- a list is no longer than its cards stand in a list that has them all
length-tally : (xs ys : List PlayingCard) → ((c : PlayingCard) → has_card xs c ≡ true → has_card ys c ≡ true) → length xs ≤ tally xs ys
length-tally [] ys all = zero-le
length-tally (x ∷ xs) ys all =
    let ih : length xs ≤ tally xs ys = length-tally xs ys (λ c has. all c (in-rest x c xs has)) in
    let here : 1 ≤ times ys x = times-has ys x (all x (has-first x xs)) in
    let e = tally-cons x xs ys in
    omega (arith, ih, here, e)

-- five lists in which no card stands twice
five-tallies : (a b c d e : List PlayingCard) → ((x : PlayingCard) → times a x + times b x + times c x + times d x + times e x ≤ 1)
    → (ys : List PlayingCard) → tally a ys + tally b ys + tally c ys + tally d ys + tally e ys ≤ length ys
unfolding tally
five-tallies a b c d e once [] = omega arith
five-tallies a b c d e once (y ∷ ys) = let ih = five-tallies a b c d e once ys in let h = once y in omega (arith, ih, h)

-- the hands and the trick have at most 52 cards
pub board-52 : (p : Board) → IsBoard p → cards_left p + length p.trick ≤ 52
board-52 p valid =
    let own = λ (s : Seat). length-tally (cards_at p s) deck (λ c has. has_card-deck c (real-set (cards_at p s) c (valid.sets s) has)) in
    let north : length (cards_at p North) ≤ tally (cards_at p North) deck = own North in
    let east : length (cards_at p East) ≤ tally (cards_at p East) deck = own East in
    let south : length (cards_at p South) ≤ tally (cards_at p South) deck = own South in
    let west : length (cards_at p West) ≤ tally (cards_at p West) deck = own West in
    let trick : length p.trick ≤ tally p.trick deck = length-tally p.trick deck (λ c has. has_card-deck c (valid.real c has)) in
    let all = five-tallies (cards_at p North) (cards_at p East) (cards_at p South) (cards_at p West) p.trick valid.once deck in
    let deck_length = length-deck in
    omega (arith, north, east, south, west, trick, all, deck_length)

-- ---- thirteen tricks
by-seats : (p : Board) → length (cards_at p (seat_after p.first 0)) + length (cards_at p (seat_after p.first 1)) + length (cards_at p (seat_after p.first 2)) + length (cards_at p (seat_after p.first 3)) ≡ cards_left p
by-seats p = go p.first
  where
    go : (s : Seat) → length (cards_at p (seat_after s 0)) + length (cards_at p (seat_after s 1)) + length (cards_at p (seat_after s 2)) + length (cards_at p (seat_after s 3)) ≡ cards_left p
    go North = omega arith
    go East = omega arith
    go South = omega arith
    go West = omega arith

-- the hands that have played are as many as the cards on the trick
flags : (n : ℕ) → n ≤ 3 → (if nat_lt 0 n then 1 else 0) + (if nat_lt 1 n then 1 else 0) + (if nat_lt 2 n then 1 else 0) + (if nat_lt 3 n then 1 else 0) ≡ n
flags zero h = refl
flags (suc zero) h = refl
flags (suc (suc zero)) h = refl
flags (suc (suc (suc zero))) h = refl
flags (suc (suc (suc (suc n)))) h = absurd (omega (arith, h))

-- each trick that is left takes a card of each hand
pub cards-tricks : (p : Board) → IsBoard p → cards_left p + length p.trick ≡ 4 * tricks_left p
cards-tricks p valid =
    let seats = by-seats p in
    let played = flags (length p.trick) valid.short in
    let a = valid.even 0 (omega arith) in
    let b = valid.even 1 (omega arith) in
    let c = valid.even 2 (omega arith) in
    let d = valid.even 3 (omega arith) in
    omega (arith, seats, played, a, b, c, d)

-- at most thirteen tricks are left
pub left-13 : (p : Board) → IsBoard p → tricks_left p ≤ 13
left-13 p valid = let all = board-52 p valid in let tricks = cards-tricks p valid in omega (arith, all, tricks)

-- and at most thirteen cards may be played
pub legal-13 : (p : Board) → IsBoard p → length (legal p) ≤ 13
legal-13 p valid = let l = left-13 p valid in let k = go p.trick (cards_at p (mover p)) in omega (arith, l, k)
  where
    part : (these hand : List PlayingCard) → length these ≤ length hand → length (or_else these hand) ≤ length hand
    part [] hand h = omega arith
    part (c ∷ these) hand h = h

    go : (trick hand : List PlayingCard) → length (following trick hand) ≤ length hand
    go [] hand = omega arith
    go (led ∷ rest) hand = part (filter (is_of led.suit) hand) hand (length-filter-le (is_of led.suit) hand)

-- the same, of a list that is known to be the legal cards
pub choices-13 : (p : Board) (cards : List PlayingCard) → IsBoard p → cards ≡ legal p → length cards ≤ 13
choices-13 p cards valid is = let l = legal-13 p valid in let k : length cards ≡ length (legal p) = ap length is in omega (arith, l, k)
