-- the cards that may be played are a set
use Rattle.std.proofs.Common.{◌≡◌, ℕ, refl, ap, List, [], ◌∷◌}
use Rattle.std.specs.Prelude.{filter, map}
use Rattle.dd_cards.specs.declared.suit.Suit.{Suit}
use Rattle.dd_cards.specs.PlayingCard.{PlayingCard}
use Rattle.dd_cards.specs.Cards.{is_of, card_of}
use Rattle.dd_cards.specs.Hands.{IsSet}
use Rattle.dd_cards.proofs.CallerLemmas.{IsSet-filter}
use Rattle.dd_play.specs.Board.{Board, IsBoard, cards_at, mover}
use Rattle.dd_play.specs.Tricks.{or_else}
use Rattle.dd_play.specs.Play.{legal, following}

-- the one set or the other is a set
set-or_else : (these those : List PlayingCard) → IsSet these → IsSet those → IsSet (or_else these those)
set-or_else [] those a b = b
set-or_else (c ∷ these) those a b = a

-- the cards of a hand that may follow are a set
set-following : (trick hand : List PlayingCard) → IsSet hand → IsSet (following trick hand)
set-following [] hand set = set
set-following (led ∷ rest) hand set = set-or_else (filter (is_of led.suit) hand) hand (IsSet-filter (is_of led.suit) hand set) set

-- the cards that may be played are a set
pub set-legal : (p : Board) → IsBoard p → IsSet (legal p)
set-legal p valid = set-following p.trick (cards_at p (mover p)) (valid.sets (mover p))

-- the ranks of cards that were made from ranks
pub ranks-of-suit : (s : Suit) (ranks : List ℕ) → map (λ c. c.rank) (map (card_of s) ranks) ≡ ranks
ranks-of-suit s [] = refl
ranks-of-suit s (r ∷ ranks) = ap (λ rs. r ∷ rs) (ranks-of-suit s ranks)
