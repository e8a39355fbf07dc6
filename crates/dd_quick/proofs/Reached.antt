-- which winners the cards reach that the code puts together
use Rattle.std.proofs.Common.{◌≡◌, ℕ, ◌≤◌, Bool, true, refl, sym, ap, ◌∙◌, arith, List, length}
use Rattle.std.specs.Prelude.{filter, map, min, nat_lt, ◌&&◌, if◌then◌else◌}
use mathlib.Core.Path.{ap₂}
use Rattle.std.proofs.lemmas.Bool.{ltb-true}
use Rattle.std.proofs.lemmas.List.{length-map}
use Rattle.dd_cards.specs.declared.seat.Seat.{Seat}
use Rattle.dd_cards.specs.declared.suit.Suit.{Suit}
use Rattle.dd_cards.specs.PlayingCard.{PlayingCard}
use Rattle.dd_cards.specs.Ranks.{all_ranks}
use Rattle.dd_cards.specs.Cards.{is_of, card_of, has_card}
use Rattle.dd_cards.specs.Seats.{seat_after}
use Rattle.dd_cards.proofs.CallerLemmas.{and-left, and-right, filter-filter, filter-map, ranks-from_cards, suit-ranks}
use Rattle.dd_play.specs.Board.{Board, IsBoard, cards_at}
use Rattle.dd_play.specs.Reach.{reach}
use Rattle.dd_play.proofs.CallerLemmas.{count, flag_of, reach-of, reach-within}
use Rattle.dd_quick.specs.QuickTricks.{RestsOn, RestsOnGuard, RestsOnNext, ahead, guards, is_ahead, is_next, is_winner, length_at, longer, tops}
use Rattle.dd_rank.proofs.CallerLemmas.{count-le}

-- where the ranks are the cards of a list that pass, those among the cards are reached
pub reached-of : (suit : Suit) (test : PlayingCard → Bool) (ranks : List ℕ) (hand cards : List PlayingCard) → map (card_of suit) ranks ≡ filter test hand
    → length (filter (λ q. has_card cards (card_of suit q)) ranks) ≤ count (λ c. test c && reach cards c) hand
reached-of suit test ranks hand cards same =
    let a : length (filter (λ q. has_card cards (card_of suit q)) ranks) ≡ length (filter (has_card cards) (map (card_of suit) ranks)) = sym (length-map (filter (λ q. has_card cards (card_of suit q)) ranks) (card_of suit)) ∙ ap length (sym (filter-map (has_card cards) (card_of suit) ranks)) in
    let b : length (filter (has_card cards) (map (card_of suit) ranks)) ≡ count (λ c. test c && has_card cards c) hand = ap (λ l. length (filter (has_card cards) l)) same ∙ ap length (filter-filter (has_card cards) test hand) in
    let d = count-le (λ c. test c && has_card cards c) (λ c. test c && reach cards c) hand (λ c has pass. ap₂ (λ x y. x && y) (and-left (test c) (has_card cards c) pass) (reach-of cards c c (and-right (test c) (has_card cards c) pass) refl (omega arith))) in
    omega (arith, a, b, d)

-- as many ranks as cards
pub length-of : (suit : Suit) (test : PlayingCard → Bool) (ranks : List ℕ) (hand : List PlayingCard) → map (card_of suit) ranks ≡ filter test hand → length ranks ≡ count test hand
length-of suit test ranks hand same = sym (length-map ranks (card_of suit)) ∙ ap length same

-- the winners that are put in are reached
pub winners-reached : (p : Board) (suit : Suit) (ranks : List ℕ) (cards : List PlayingCard) (n : ℕ) → map (card_of suit) ranks ≡ filter (λ c. is_of suit c && is_winner p p.first c) (cards_at p p.first)
    → min n (length ranks) ≤ length (filter (λ q. has_card cards (card_of suit q)) ranks) → RestsOn p suit cards n
winners-reached p suit ranks cards n same most =
    let a = reached-of suit (λ c. is_of suit c && is_winner p p.first c) ranks (cards_at p p.first) cards same in
    let b = length-of suit (λ c. is_of suit c && is_winner p p.first c) ranks (cards_at p p.first) same in
    omega (arith, a, b, most)

-- a card with which an opponent guards a suit is reached
pub guard-reached : (p : Board) (i : ℕ) (suit : Suit) (ranks : List ℕ) (cards : List PlayingCard) (n : ℕ) → map (card_of suit) ranks ≡ filter (λ c. is_of suit c && is_ahead p (seat_after p.first i) c) (cards_at p (seat_after p.first i))
    → n ≡ (if guards p i suit then 1 else 0) → min n (length ranks) ≤ length (filter (λ q. has_card cards (card_of suit q)) ranks) → RestsOnGuard p i suit cards
guard-reached p i suit ranks cards n same one most it_guards =
    let a = reached-of suit (λ c. is_of suit c && is_ahead p (seat_after p.first i) c) ranks (cards_at p (seat_after p.first i)) cards same in
    let b = length-of suit (λ c. is_of suit c && is_ahead p (seat_after p.first i) c) ranks (cards_at p (seat_after p.first i)) same in
    let e : n ≡ 1 = one ∙ ap flag_of it_guards in
    let k : nat_lt 0 (ahead p (seat_after p.first i) suit) ≡ true = and-left (nat_lt 0 (ahead p (seat_after p.first i) suit)) _ (and-left (nat_lt 0 (ahead p (seat_after p.first i) suit) && nat_lt (tops p suit) (longer p suit)) _ (and-left ((nat_lt 0 (ahead p (seat_after p.first i) suit) && nat_lt (tops p suit) (longer p suit)) && nat_lt (tops p suit) (length_at p (seat_after p.first i) suit)) _ it_guards)) in
    let some = ltb-true 0 (ahead p (seat_after p.first i) suit) k in
    omega (arith, a, b, e, some, most)

-- with more cards too
pub guard-more : (p : Board) (i : ℕ) (suit : Suit) (few many : List PlayingCard) → ((c : PlayingCard) → has_card few c ≡ true → has_card many c ≡ true) → RestsOnGuard p i suit few → RestsOnGuard p i suit many
guard-more p i suit few many within rests it_guards =
    let r = rests it_guards in
    let m = count-le (λ c. (is_of suit c && is_ahead p (seat_after p.first i) c) && reach few c) (λ c. (is_of suit c && is_ahead p (seat_after p.first i) c) && reach many c) (cards_at p (seat_after p.first i)) (λ c has pass.
    ap₂ (λ a b. a && b) (and-left (is_of suit c && is_ahead p (seat_after p.first i) c) (reach few c) pass) (reach-within few many within c (and-right (is_of suit c && is_ahead p (seat_after p.first i) c) (reach few c) pass))) in
    omega (arith, r, m)

-- and so are the partner's cards next below the leader's run
pub next-reached : (p : Board) (suit : Suit) (ranks : List ℕ) (cards : List PlayingCard) (n : ℕ) → map (card_of suit) ranks ≡ filter (λ c. is_of suit c && is_next p c) (cards_at p (seat_after p.first 2))
    → min n (length ranks) ≤ length (filter (λ q. has_card cards (card_of suit q)) ranks) → RestsOnNext p suit cards n
next-reached p suit ranks cards n same most =
    let a = reached-of suit (λ c. is_of suit c && is_next p c) ranks (cards_at p (seat_after p.first 2)) cards same in
    let b = length-of suit (λ c. is_of suit c && is_next p c) ranks (cards_at p (seat_after p.first 2)) same in
    omega (arith, a, b, most)

-- the ranks of a hand's cards of a suit that pass are those of all ranks
pub ranks-part : (p : Board) (x : Seat) (suit : Suit) (test : PlayingCard → Bool) (ranks : List ℕ) → IsBoard p → map (card_of suit) ranks ≡ filter (λ c. is_of suit c && test c) (cards_at p x)
    → ranks ≡ filter (λ q. has_card (cards_at p x) (card_of suit q) && test (card_of suit q)) all_ranks
ranks-part p x suit test ranks valid same = ranks-from_cards suit ranks (filter (λ q. has_card (cards_at p x) (card_of suit q) && test (card_of suit q)) all_ranks) (same
    ∙ sym (filter-filter test (is_of suit) (cards_at p x)) ∙ ap (filter test) (suit-ranks suit (cards_at p x) (valid.sets x)) ∙ filter-map test (card_of suit) (filter (λ q. has_card (cards_at p x) (card_of suit q)) all_ranks)
    ∙ ap (map (card_of suit)) (filter-filter (λ q. test (card_of suit q)) (λ q. has_card (cards_at p x) (card_of suit q)) all_ranks))
