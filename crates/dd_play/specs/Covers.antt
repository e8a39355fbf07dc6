-- To be believed: one relation between games: the top cards of the one stand for those of the other, and the low cards only agree in number.
use Rattle.std.specs.Prelude.{◌≡◌, ◌≢◌, ℕ, ◌<◌, ◌≤◌, Bool, true, false, List, [], ◌∷◌, length, filter, nat_le, slice_index_or}
use Rattle.dd_cards.specs.declared.seat.Seat.{Seat}
use Rattle.dd_cards.specs.declared.suit.Suit.{Suit}
use Rattle.dd_cards.specs.PlayingCard.{PlayingCard}
use Rattle.dd_cards.specs.Seats.{seat_after}
use Rattle.dd_cards.specs.Cards.{is_of, has_card}
use Rattle.dd_cards.specs.Sides.{is_side}
use Rattle.dd_cards.specs.declared.side.Side.{Side}
use Rattle.dd_play.specs.Board.{Board, IsBoard, cards_at}
use Rattle.dd_play.specs.Tricks.{winning_place}
use Rattle.dd_play.specs.Play.{completes, trick_with}

-- P holds of each two cards that can still meet on a trick: two in different hands, two on the trick, or one on the trick and
-- one in a hand that has not yet played to it. (Two cards of one hand never meet, nor do a card on the trick and one in a
-- hand that has played to it.)
pub record ForMet (p : Board) (P : PlayingCard → PlayingCard → Type 0) : Type 0 where
  pub hands : (x y : Seat) (c d : PlayingCard) → x ≢ y → has_card (cards_at p x) c ≡ true → has_card (cards_at p y) d ≡ true → P c d
  pub trick : (c d : PlayingCard) → has_card p.trick c ≡ true → has_card p.trick d ≡ true → P c d
  pub coming : (k : ℕ) (c d : PlayingCard) → length p.trick ≤ k → k < 4 → has_card p.trick c ≡ true → has_card (cards_at p (seat_after p.first k)) d ≡ true → P c d × P d c

-- the map keeps which of two top cards of a suit is higher
abbrev pub Keeps : (PlayingCard → PlayingCard) → (PlayingCard → Bool) → PlayingCard → PlayingCard → Type 0
Keeps to top c d = top c ≡ true → top d ≡ true → c.suit ≡ d.suit → nat_le (to c).rank (to d).rank ≡ nat_le c.rank d.rank

-- a top card is higher than a low one of its suit
abbrev pub IsOver : (PlayingCard → Bool) → PlayingCard → PlayingCard → Type 0
IsOver top c d = top c ≡ true → top d ≡ false → c.suit ≡ d.suit → d.rank < c.rank

-- d can stand for c: of its suit, top where c is, and then the very card that c is mapped to
pub record Answers (to from : PlayingCard → PlayingCard) (top : PlayingCard → Bool) (c d : PlayingCard) : Type 0 where
  pub suit : d.suit ≡ c.suit
  pub kind : top (from d) ≡ top c
  pub same : top c ≡ true → (d ≡ to c) × (from d ≡ c)

-- place by place
abbrev pub AllAnswer : (PlayingCard → PlayingCard) → (PlayingCard → PlayingCard) → (PlayingCard → Bool) → List PlayingCard → List PlayingCard → Type 0
AllAnswer to from top [] [] = Unit {0}
AllAnswer to from top (c ∷ cs) (d ∷ ds) = Answers to from top c d × AllAnswer to from top cs ds
AllAnswer to from top [] (d ∷ ds) = ⊥
AllAnswer to from top (c ∷ cs) [] = ⊥

-- how many cards of the suit
abbrev pub count_of : Suit → List PlayingCard → ℕ
count_of suit cards = length (filter (is_of suit) cards)

-- Side t's game at q is related to side s's game at p: the seats are turned by k places, the maps `to` and `from` are
-- one-to-one between the top cards of p and of q (q's top cards are those that come `from` one).
pub record IsCover (top : PlayingCard → Bool) (k : ℕ) (to from : PlayingCard → PlayingCard) (s : Side) (p : Board) (t : Side) (q : Board) : Type 0 where
  pub valid_p : IsBoard p
  pub valid_q : IsBoard q
  pub sides : (x : Seat) → is_side t (seat_after x k) ≡ is_side s x
  pub strain : q.strain ≡ p.strain
  pub first : q.first ≡ seat_after p.first k
  pub to_suit : (c : PlayingCard) → (to c).suit ≡ c.suit
  pub from_suit : (d : PlayingCard) → (from d).suit ≡ d.suit
  pub forth : (x : Seat) (c : PlayingCard) → has_card (cards_at p x) c ≡ true → top c ≡ true → (has_card (cards_at q (seat_after x k)) (to c) ≡ true) × (from (to c) ≡ c)
  pub back : (x : Seat) (d : PlayingCard) → has_card (cards_at q (seat_after x k)) d ≡ true → top (from d) ≡ true → (has_card (cards_at p x) (from d) ≡ true) × (to (from d) ≡ d)
  pub lengths : (x : Seat) (suit : Suit) → count_of suit (cards_at q (seat_after x k)) ≡ count_of suit (cards_at p x)
  pub trick : AllAnswer to from top p.trick q.trick
  pub keeps : ForMet p (Keeps to top)
  pub over_p : ForMet p (IsOver top)
  pub over_q : ForMet q (IsOver (λ d. top (from d)))

-- the card at a place of a trick
abbrev pub card_at : List PlayingCard → ℕ → PlayingCard → PlayingCard
card_at trick i c = slice_index_or trick i c

-- the strongest card is a top card, or the only one of its suit on the trick
abbrev pub IsSettled : (PlayingCard → Bool) → Board → PlayingCard → Type 0
IsSettled top p c = completes p ≡ true → (i : ℕ) → i < length (trick_with p c) → i ≢ winning_place p.strain (trick_with p c)
    → (card_at (trick_with p c) i c).suit ≡ (card_at (trick_with p c) (winning_place p.strain (trick_with p c)) c).suit
    → top (card_at (trick_with p c) (winning_place p.strain (trick_with p c)) c) ≡ true

-- every card is a top card
abbrev pub any_card : PlayingCard → Bool
any_card c = true

-- the relation with all cards as top cards, under which both games have one value
abbrev pub AreTwins : Side → Board → Side → Board → Type 0
AreTwins s p t q = (k : ℕ) × (to : PlayingCard → PlayingCard) × (from : PlayingCard → PlayingCard) × IsCover any_card k to from s p t q
