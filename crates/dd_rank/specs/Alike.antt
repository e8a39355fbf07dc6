-- To be believed: alike positions: one is the other with other ranks, and perhaps with the seats turned.
use Rattle.std.specs.Prelude.{◌≡◌, ℕ, true, [], nat_le}
use Rattle.dd_cards.specs.declared.seat.Seat.{Seat}
use Rattle.dd_cards.specs.PlayingCard.{PlayingCard}
use Rattle.dd_cards.specs.Seats.{seat_after}
use Rattle.dd_cards.specs.Cards.{has_card}
use Rattle.dd_play.specs.Board.{Board, cards_at}

-- At an empty trick: strain and leader are the same but for a turn of all seats by k places, and a one-to-one map between
-- the cards keeps suit, holder and which of two cards of a suit is higher.
pub record IsAlikeBy (k : ℕ) (to from : PlayingCard → PlayingCard) (p q : Board) : Type 0 where
  pub start_p : p.trick ≡ []
  pub start_q : q.trick ≡ []
  pub strain : q.strain ≡ p.strain
  pub first : q.first ≡ seat_after p.first k
  pub to_suit : (c : PlayingCard) → (to c).suit ≡ c.suit
  pub from_suit : (d : PlayingCard) → (from d).suit ≡ d.suit
  pub forth : (x : Seat) (c : PlayingCard) → has_card (cards_at p x) c ≡ true → (has_card (cards_at q (seat_after x k)) (to c) ≡ true) × (from (to c) ≡ c)
  pub back : (x : Seat) (d : PlayingCard) → has_card (cards_at q (seat_after x k)) d ≡ true → (has_card (cards_at p x) (from d) ≡ true) × (to (from d) ≡ d)
  pub order : (x y : Seat) (c d : PlayingCard) → has_card (cards_at p x) c ≡ true → has_card (cards_at p y) d ≡ true → c.suit ≡ d.suit → nat_le (to c).rank (to d).rank ≡ nat_le c.rank d.rank

-- alike, by some turn of the seats and some map
abbrev pub AreAlike : Board → Board → Type 0
AreAlike p q = (k : ℕ) × (to : PlayingCard → PlayingCard) × (from : PlayingCard → PlayingCard) × IsAlikeBy k to from p q

-- alike without a turn: the seats are the same
abbrev pub IsAlike : Board → Board → Type 0
IsAlike p q = (to : PlayingCard → PlayingCard) × (from : PlayingCard → PlayingCard) × IsAlikeBy 0 to from p q
