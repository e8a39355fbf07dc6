-- A hand as 64 bits, sixteen for each suit.
use Rattle.std.specs.Prelude.{◌≡◌, ℕ, ◌==◌, ◌<◌, ◌≤◌, ◌%◌, ◌^◌, bit_or, Bool, List, [], ◌∷◌, filter, slice_index_or}
use Rattle.std.specs.Int.{bit_at}
use Rattle.dd_cards.specs.PlayingCard.{PlayingCard}
use Rattle.dd_cards.specs.declared.seat.Seat.{Seat}
use Rattle.dd_cards.specs.declared.seat.Seat.TheVariants.{North, East, South, West}
use Rattle.dd_cards.specs.Seats.{seat_code}
use Rattle.dd_cards.specs.Cards.{deck, place_of}
use Rattle.dd_cards.specs.Hands.{FourHands, dealt}

-- is the card's bit set?
abbrev pub in_hand : ℕ → PlayingCard → Bool
in_hand m c = bit_at m (place_of c) == 1

-- the cards whose bits are set
unfoldable pub cards_of : ℕ → List PlayingCard
cards_of m = filter (in_hand m) deck

-- the mask of these cards
abbrev pub hand_mask_of : List PlayingCard → ℕ
hand_mask_of [] = 0
hand_mask_of (c ∷ cards) = bit_or (2 ^ place_of c) (hand_mask_of cards)

-- the mask of a seat, of four from North clockwise
abbrev pub mask_at : List ℕ → Seat → ℕ
mask_at masks seat = slice_index_or masks (seat_code seat) 0

-- the hands whose cards have their bits set
abbrev pub hands_of : List ℕ → FourHands
hands_of masks = dealt (cards_of (mask_at masks North)) (cards_of (mask_at masks East)) (cards_of (mask_at masks South)) (cards_of (mask_at masks West))

-- only bits of cards are set
abbrev pub IsHandMask : ℕ → Type 0
IsHandMask m = (i : ℕ) → bit_at m i ≡ 1 → (i < 64) × (2 ≤ i % 16) × (i % 16 ≤ 14)

-- only bits of cards are set, and each in one hand at most
pub record AreHandMasks (masks : List ℕ) : Type 0 where
  pub cards_only : (s : Seat) → IsHandMask (mask_at masks s)
  pub one_holder : (i : ℕ) (s t : Seat) → bit_at (mask_at masks s) i ≡ 1 → bit_at (mask_at masks t) i ≡ 1 → s ≡ t
