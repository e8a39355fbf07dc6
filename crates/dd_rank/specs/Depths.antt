-- To be believed: a position covers another at depths: the same lengths, and the same holders of the highest cards of each suit.
use Rattle.std.specs.Prelude.{◌≡◌, ℕ, ◌<◌, ◌≤◌, ◌&&◌, Bool, true, List, [], ◌++◌, length, filter, nat_lt}
use Rattle.dd_cards.specs.declared.seat.Seat.{Seat}
use Rattle.dd_cards.specs.declared.seat.Seat.TheVariants.{North, East, South, West}
use Rattle.dd_cards.specs.declared.suit.Suit.{Suit}
use Rattle.dd_cards.specs.declared.suit.Suit.TheVariants.{Spades, Hearts, Diamonds, Clubs}
use Rattle.dd_cards.specs.PlayingCard.{PlayingCard}
use Rattle.dd_cards.specs.Seats.{seat_after}
use Rattle.dd_cards.specs.Cards.{is_of, has_card}
use Rattle.dd_play.specs.Board.{Board, cards_at}
use Rattle.dd_play.specs.Covers.{count_of}
use Rattle.dd_cards.specs.Sequences.{is_above}

-- the cards of the four hands
abbrev pub all_cards : Board → List PlayingCard
all_cards p = cards_at p North ++ cards_at p East ++ cards_at p South ++ cards_at p West

-- how many cards of its suit are higher: its place from the top, counted from 0
abbrev pub place : Board → PlayingCard → ℕ
place p c = length (filter (is_above c) (all_cards p))

-- is it one of the highest of its suit?
abbrev pub is_within : (Suit → ℕ) → Board → PlayingCard → Bool
is_within depths p c = nat_lt (place p c) (depths c.suit)

-- With q's seats those of p turned by k places: the same strain, leader and length of every suit in every hand, and in each
-- suit the same holders, in order of rank, of its highest `depths` cards.
pub record IsCoverAt (k : ℕ) (depths : Suit → ℕ) (p q : Board) : Type 0 where
  pub start_p : p.trick ≡ []
  pub start_q : q.trick ≡ []
  pub strain : q.strain ≡ p.strain
  pub first : q.first ≡ seat_after p.first k
  pub most : (u : Suit) → depths u ≤ count_of u (all_cards p)
  pub lengths : (x : Seat) (u : Suit) → count_of u (cards_at q (seat_after x k)) ≡ count_of u (cards_at p x)
  pub forth : (x : Seat) (c : PlayingCard) → has_card (cards_at p x) c ≡ true → place p c < depths c.suit
      → (d : PlayingCard) × (has_card (cards_at q (seat_after x k)) d ≡ true) × (d.suit ≡ c.suit) × (place q d ≡ place p c)
  pub back : (x : Seat) (d : PlayingCard) → has_card (cards_at q (seat_after x k)) d ≡ true → place q d < depths d.suit
      → (c : PlayingCard) × (has_card (cards_at p x) c ≡ true) × (c.suit ≡ d.suit) × (place p c ≡ place q d)

-- p covers q at these depths, by some turn of the seats
abbrev pub Covers : Board → (Suit → ℕ) → Board → Type 0
Covers p depths q = (k : ℕ) × IsCoverAt k depths p q

-- the depths of top cards: how many of the suit's cards are top cards
abbrev pub depths_of : (PlayingCard → Bool) → Board → Suit → ℕ
depths_of top p u = length (filter (λ e. is_of u e && top e) (all_cards p))

-- a depth for each suit
pub record FourDepths : Type 0 where
  pub spades : ℕ
  pub hearts : ℕ
  pub diamonds : ℕ
  pub clubs : ℕ

-- the depth of a suit
abbrev pub depth_in : FourDepths → Suit → ℕ
depth_in d Spades = d.spades
depth_in d Hearts = d.hearts
depth_in d Diamonds = d.diamonds
depth_in d Clubs = d.clubs
