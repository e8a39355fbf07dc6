-- To be believed: equal cards: cards of the hand to play, of one suit, with no card of another hand or the trick between them (DDS manual, futureTricks).
use Rattle.std.specs.Prelude.{◌≡◌, true, ℕ, ◌&&◌, ◌||◌, Bool, List, ◌++◌, map, filter, nat_lt}
use Rattle.std.specs.List.{list_any}
use mathlib.Core.Bool.{not}
use Rattle.dd_cards.specs.PlayingCard.{PlayingCard}
use Rattle.dd_cards.specs.Cards.{is_of, same_card, has_card}
use Rattle.dd_cards.specs.Seats.{seat_after}
use Rattle.dd_cards.specs.Masks.{in_mask, mask_of}
use Rattle.dd_play.specs.Board.{Board, cards_at, mover}
use Rattle.dd_play.specs.Play.{legal}
use Rattle.dd_play.specs.Simulations.{IsLegal}

-- the cards in the other hands and on the trick
abbrev pub other_cards : Board → List PlayingCard
other_cards p = cards_at p (seat_after (mover p) 1) ++ cards_at p (seat_after (mover p) 2) ++ cards_at p (seat_after (mover p) 3) ++ p.trick

-- does e lie between c and d in their suit?
abbrev pub is_between : PlayingCard → PlayingCard → PlayingCard → Bool
is_between c d e = is_of c.suit e && ((nat_lt c.rank e.rank && nat_lt e.rank d.rank) || (nat_lt d.rank e.rank && nat_lt e.rank c.rank))

-- Two cards of the mover's hand are equal when they are of one suit and no card between them is in another hand or on the trick.
abbrev pub are_equal : Board → PlayingCard → PlayingCard → Bool
are_equal p c d = is_of c.suit d && not (list_any (is_between c d) (other_cards p))

-- is the card the highest of its class of equal cards?
abbrev pub is_top : Board → PlayingCard → Bool
is_top p c = not (list_any (λ d. are_equal p c d && nat_lt c.rank d.rank) (legal p))

-- the highest card of each class of the legal cards, suit by suit from the spades on, and in a suit from the highest down
abbrev pub tops : Board → List PlayingCard
tops p = filter (is_top p) (legal p)

-- the mask of the lower cards of the class: bit r for rank r
abbrev pub equals_of : Board → PlayingCard → ℕ
equals_of p c = mask_of (map (λ d. d.rank) (filter (λ d. are_equal p c d && nat_lt d.rank c.rank) (legal p)))

-- a class by its highest card and the mask of its other cards
pub record EqualCards : Type 0 where
  pub top : PlayingCard
  pub equals : ℕ

abbrev pub class_of : Board → PlayingCard → EqualCards
class_of p c = record { top = c; equals = equals_of p c }

-- has the class this card: as its highest, or in the mask of its others?
abbrev pub class_has : EqualCards → PlayingCard → Bool
class_has class c = same_card class.top c || (is_of class.top.suit c && in_mask class.equals c.rank)

-- every class of the legal cards, in the order of their highest cards
abbrev pub classes_of : Board → List EqualCards
classes_of p = map (class_of p) (tops p)

-- with the highest card of a class, the whole class
abbrev pub IsWhole : (PlayingCard → Bool) → Board → Type 0
IsWhole top p = (t c : PlayingCard) → has_card (tops p) t ≡ true → IsLegal p c → are_equal p t c ≡ true → top t ≡ true → top c ≡ true
