-- how many cards and tricks are left at a start of a trick, and at one that is alike
use Rattle.std.proofs.Common.{◌≡◌, ℕ, ◌+◌, ◌*◌, ◌<◌, ◌≤◌, true, refl, sym, ap, ◌∙◌, arith, List, [], length}
use Rattle.std.specs.Prelude.{nat_lt}
use Rattle.std.proofs.lemmas.Bool.{le-ltb}
use Rattle.dd_cards.specs.declared.seat.Seat.{Seat}
use Rattle.dd_cards.specs.declared.seat.Seat.TheVariants.{North}
use Rattle.dd_cards.specs.PlayingCard.{PlayingCard}
use Rattle.dd_cards.specs.Cards.{has_card, without}
use Rattle.dd_cards.specs.Hands.{times}
use Rattle.dd_cards.specs.Seats.{seat_code, seat_after}
use Rattle.dd_cards.proofs.CallerLemmas.{filter-true, seat_code-lt, times-set, times-has}
use Rattle.dd_play.specs.Board.{Board, IsBoard, cards_at, cards_left, tricks_left}
use Rattle.dd_play.proofs.CallerLemmas.{cards-tricks, count, count-without, flag_of, inject, left-13}
use Rattle.dd_rank.specs.Alike.{AreAlike, IsAlikeBy}
use Rattle.dd_relative.specs.Relative.{IsRelative}
use Rattle.dd_relative.proofs.Turned.{from-at, places_to_north, turned-hand}

-- each hand has as many cards as tricks are left
pub start-tricks : (p : Board) → IsBoard p → p.trick ≡ [] → (x : Seat) → length (cards_at p x) ≡ tricks_left p
start-tricks p valid start x =
    let y = seat_after x (places_to_north p.first) in
    let same : length (cards_at p x) ≡ length (cards_at p (seat_after p.first (seat_code y))) = ap length (sym (turned-hand p.hands p.first x) ∙ from-at p.hands p.first y) in
    let even : length (cards_at p (seat_after p.first (seat_code y))) + flag_of (nat_lt (seat_code y) (length p.trick)) ≡ tricks_left p = valid.even (seat_code y) (seat_code-lt y) in
    let none : flag_of (nat_lt (seat_code y) (length p.trick)) ≡ 0 =
    ap (λ (trick : List PlayingCard). flag_of (nat_lt (seat_code y) (length trick))) start ∙ ap flag_of (le-ltb (seat_code y) 0 (omega arith)) in
    omega (arith, same, even, none)

-- .. of a start by relative ranks the leader, which is North
pub lead-13 : (s : Board) (hand : List PlayingCard) (n : ℕ) → IsRelative s → hand ≡ cards_at s North → n ≡ length hand → n ≤ 13
lead-13 s hand n relative is number =
    let a = start-tricks s relative.board relative.start North in
    let b = left-13 s relative.board in
    let c : length hand ≡ length (cards_at s North) = ap length is in
    omega (arith, a, b, c, number)

-- alike boards have hands as long
alike-hand : (k : ℕ) (to from : PlayingCard → PlayingCard) (p q : Board) → IsBoard p → IsBoard q → IsAlikeBy k to from p q → (x : Seat) → length (cards_at q (seat_after x k)) ≡ length (cards_at p x)
alike-hand k to from p q valid_p valid_q a x =
    let here = cards_at p x in
    let there = cards_at q (seat_after x k) in
    let most : count (λ _. true) here ≤ count (λ _. true) there =
    inject to from (λ _. true) (λ _. true) here there (λ c. times-set here c (valid_p.sets x)) (λ c has t. let f = a.forth x c has in (f.0, refl, f.1)) in
    let least : count (λ _. true) there ≤ count (λ _. true) here =
    inject from to (λ _. true) (λ _. true) there here (λ c. times-set there c (valid_q.sets (seat_after x k))) (λ d has t. let b = a.back x d has in (b.0, refl, b.1)) in
    let e : count (λ _. true) here ≡ length here = ap length (filter-true here) in
    let f : count (λ _. true) there ≡ length there = ap length (filter-true there) in
    omega (arith, most, least, e, f)

-- .. so as many tricks left
pub alike-tricks : (p q : Board) → IsBoard p → IsBoard q → AreAlike p q → tricks_left q ≡ tricks_left p
alike-tricks p q valid_p valid_q (k, to, from, a) =
    sym (start-tricks q valid_q a.start_q (seat_after North k)) ∙ alike-hand k to from p q valid_p valid_q a North ∙ start-tricks p valid_p a.start_p North

-- .. and as many cards
pub alike-cards : (p q : Board) → IsBoard p → IsBoard q → AreAlike p q → cards_left q ≡ cards_left p
alike-cards p q valid_p valid_q (k, to, from, a) =
    let tricks = alike-tricks p q valid_p valid_q (k, to, from, a) in
    let here = cards-tricks p valid_p in
    let there = cards-tricks q valid_q in
    let none_p : length p.trick ≡ 0 = ap length a.start_p in
    let none_q : length q.trick ≡ 0 = ap length a.start_q in
    omega (arith, tricks, here, there, none_p, none_q)

-- a card that goes leaves fewer
pub fewer-left : (cards left : List PlayingCard) (c : PlayingCard) → has_card cards c ≡ true → left ≡ without cards c → length left < length cards
fewer-left cards left c has gone =
    let w : count (λ _. true) (without cards c) + times cards c * 1 ≡ count (λ _. true) cards = count-without (λ _. true) cards c in
    let some : 1 ≤ times cards c = times-has cards c has in
    let a : count (λ _. true) (without cards c) ≡ length (without cards c) = ap length (filter-true (without cards c)) in
    let b : count (λ _. true) cards ≡ length cards = ap length (filter-true cards) in
    let e : length left ≡ length (without cards c) = ap length gone in
    omega (arith, w, some, a, b, e)
