-- where the leader has no winner of a suit
use Rattle.std.proofs.Common.{◌≡◌, ℕ, ◌<◌, ◌≤◌, true, false, refl, ap, arith, inl, inr}
use Rattle.std.specs.Prelude.{nat_lt, ◌&&◌}
use Rattle.dd_cards.specs.declared.seat.Seat.{Seat}
use Rattle.dd_cards.specs.declared.suit.Suit.{Suit}
use Rattle.dd_cards.specs.PlayingCard.{PlayingCard}
use Rattle.dd_cards.specs.Cards.{is_of}
use Rattle.dd_cards.specs.Seats.{seat_after}
use Rattle.dd_play.specs.Board.{Board, cards_at}
use Rattle.dd_play.proofs.CallerLemmas.{count-has, suit-of}
use Rattle.dd_quick.specs.QuickTricks.{beats, is_winner, length_at, longest, run, suit_tricks}
use Rattle.dd_quick.proofs.Claims.{in-longest, long-or-run}
use Rattle.dd_quick.proofs.Runs.{none-passes}
use Rattle.std.proofs.lemmas.Bool.{false_from_ne_true}
use Rattle.dd_rank.proofs.CallerLemmas.{count-le}

-- a hand without the suit beats no card of it
no-suit : (p : Board) (x : Seat) (c : PlayingCard) → length_at p x c.suit ≡ 0 → beats p x c ≡ false
no-suit p x c none = none-passes (λ d. is_of c.suit d && nat_lt c.rank d.rank) (cards_at p x) (λ d has. ap (λ b. b && nat_lt c.rank d.rank) (false_from_ne_true (is_of c.suit d) (λ of.
    let some = count-has (is_of c.suit) (cards_at p x) d has of in
    absurd (omega (arith, some, none)))))

-- where no other hand has the suit each card of it is a winner
all-winners : (p : Board) (u : Suit) → longest p u ≡ 0 → length_at p p.first u ≤ run p p.first u
all-winners p u none = count-le (is_of u) (λ c. is_of u c && is_winner p p.first c) (cards_at p p.first) (λ c has of. rw of (wins c (suit-of u c of)))
  where
    at : (i : ℕ) → 1 ≤ i → i < 4 → (c : PlayingCard) → c.suit ≡ u → beats p (seat_after p.first i) c ≡ false
    at i l m c same = no-suit p (seat_after p.first i) c (let few = in-longest p u i l m in let e : length_at p (seat_after p.first i) c.suit ≡ length_at p (seat_after p.first i) u = ap (length_at p (seat_after p.first i)) same in omega (arith, few, none, e))

    wins : (c : PlayingCard) → c.suit ≡ u → is_winner p p.first c ≡ true
    wins c same = rw (at 1 (omega arith) (omega arith) c same, at 2 (omega arith) (omega arith) c same, at 3 (omega arith) (omega arith) c same) refl

-- where the leader has no winner of a suit it cashes none of it
pub no-run : (p : Board) (u : Suit) → run p p.first u ≡ 0 → suit_tricks p u ≡ 0
no-run p u none = elim (long-or-run p u) [
  | inl long ↦ (let few = long.0 in let all = long.1 in let mine = all-winners p u (omega (arith, few, none)) in omega (arith, all, mine, none))
  | inr short ↦ (let all = short.1 in omega (arith, all, none))
]
