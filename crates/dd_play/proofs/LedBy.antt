-- a start of a trick is one whichever seat leads
use Rattle.std.proofs.Common.{◌≡◌, ℕ, ◌+◌, ◌<◌, ◌≤◌, refl, ap, ◌∙◌, arith, subst, List, [], length, zero-le}
use Rattle.std.specs.Prelude.{nat_lt, ◌||◌, if◌then◌else◌}
use Rattle.std.proofs.lemmas.Bool.Decides.{nat_tests}
use Rattle.dd_cards.specs.declared.seat.Seat.{Seat}
use Rattle.dd_cards.specs.declared.seat.Seat.TheVariants.{North, East, South, West}
use Rattle.dd_cards.specs.PlayingCard.{PlayingCard}
use Rattle.dd_cards.specs.Cards.{has_card}
use Rattle.dd_cards.specs.Seats.{seat_after}
use Rattle.dd_cards.specs.Hands.{FourHands, hand_of, times, AreHands}
use Rattle.dd_play.specs.InPlay.{is_in_hands, is_in_play}
use Rattle.dd_play.specs.Board.{Board, IsBoard, board_of, cards_at, times_in, tricks_left}
use Rattle.dd_cards.proofs.CallerLemmas.{times-has}

-- where all hands have as many cards, counted from one seat, each has
each : (hands : FourHands) (first : Seat) (n : ℕ) → ((k : ℕ) → k < 4 → length (hand_of hands (seat_after first k)) ≡ n) → (s : Seat) → length (hand_of hands s) ≡ n
each hands North n all North = all 0 (omega arith)
each hands North n all East = all 1 (omega arith)
each hands North n all South = all 2 (omega arith)
each hands North n all West = all 3 (omega arith)
each hands East n all North = all 3 (omega arith)
each hands East n all East = all 0 (omega arith)
each hands East n all South = all 1 (omega arith)
each hands East n all West = all 2 (omega arith)
each hands South n all North = all 2 (omega arith)
each hands South n all East = all 3 (omega arith)
each hands South n all South = all 0 (omega arith)
each hands South n all West = all 1 (omega arith)
each hands West n all North = all 1 (omega arith)
each hands West n all East = all 2 (omega arith)
each hands West n all South = all 3 (omega arith)
each hands West n all West = all 0 (omega arith)

-- no hand has played
flag : ℕ → List PlayingCard → ℕ
flag k trick = if nat_lt k (length trick) then 1 else 0

none-played : (k : ℕ) → flag k [] ≡ 0
unfolding flag
none-played k = grind (arith, nat_tests)

pub led-by : (p : Board) (s : Seat) → IsBoard p → p.trick ≡ [] → IsBoard (board_of p.hands p.strain s [])
unfolding flag
led-by p s valid start =
    let counted : (k : ℕ) → k < 4 → length (cards_at p (seat_after p.first k)) ≡ tricks_left p = λ k below. (
    let e : length (cards_at p (seat_after p.first k)) + (if nat_lt k (length p.trick) then 1 else 0) ≡ tricks_left p = valid.even k below in
    let none : flag k p.trick ≡ 0 = ap (flag k) start ∙ none-played k in
    omega (arith, e, none)) in
    let lengths : (t : Seat) → length (hand_of p.hands t) ≡ tricks_left p = each p.hands p.first (tricks_left p) counted in
    record {
      sets = valid.sets;
      short = zero-le;
      real = λ c has. valid.real c (ap (λ (t : List PlayingCard). has_card t c) start ∙ has);
      once = λ c. subst (λ (t : List PlayingCard). times_in p.hands c + times t c ≤ 1) start (valid.once c);
      even = λ k below. (
          let own = lengths (seat_after s k) in
          let leaders = lengths s in
          let none = none-played k in
          omega (arith, own, leaders, none));
    }

-- and the same cards are in play
pub in-play-led : (p : Board) (s : Seat) → p.trick ≡ [] → (c : PlayingCard) → is_in_play p c ≡ is_in_play (board_of p.hands p.strain s []) c
in-play-led p s start c = ap (λ (t : List PlayingCard). is_in_hands p.hands c || has_card t c) start

-- the hands of a board are four hands
pub board-hands : (p : Board) → IsBoard p → AreHands p.hands
board-hands p valid = record { sets = valid.sets; disjoint = λ c s t h k. go c s t (times-has _ c h) (times-has _ c k) (fewer c) }
  where
    fewer : (c : PlayingCard) → times_in p.hands c ≤ 1
    fewer c = (let o = valid.once c in omega (arith, o))

    go : (c : PlayingCard) (s t : Seat) → 1 ≤ times (cards_at p s) c → 1 ≤ times (cards_at p t) c → times_in p.hands c ≤ 1 → s ≡ t
    go c North North a b o = refl
    go c North East a b o = absurd (omega (arith, a, b, o))
    go c North South a b o = absurd (omega (arith, a, b, o))
    go c North West a b o = absurd (omega (arith, a, b, o))
    go c East North a b o = absurd (omega (arith, a, b, o))
    go c East East a b o = refl
    go c East South a b o = absurd (omega (arith, a, b, o))
    go c East West a b o = absurd (omega (arith, a, b, o))
    go c South North a b o = absurd (omega (arith, a, b, o))
    go c South East a b o = absurd (omega (arith, a, b, o))
    go c South South a b o = refl
    go c South West a b o = absurd (omega (arith, a, b, o))
    go c West North a b o = absurd (omega (arith, a, b, o))
    go c West East a b o = absurd (omega (arith, a, b, o))
    go c West South a b o = absurd (omega (arith, a, b, o))
    go c West West a b o = refl
