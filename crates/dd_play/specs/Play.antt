-- To be believed: which cards may be played (Laws of Duplicate Bridge 2017, 44A, 44C, 44D), and what playing one does (44B, 44G, 45).
use Rattle.std.specs.Prelude.{List, [], ◌∷◌, ◌++◌, filter, length, Bool, ◌==◌, if◌then◌else◌}
use Rattle.dd_cards.specs.PlayingCard.{PlayingCard}
use Rattle.dd_cards.specs.Cards.{is_of, without}
use Rattle.dd_cards.specs.Hands.{FourHands, with_hand}
use Rattle.dd_play.specs.Board.{Board, cards_at, mover}
use Rattle.dd_play.specs.Tricks.{or_else, winner_of}

-- a player follows suit if able, and else plays any card; the leader plays any card
abbrev pub following : List PlayingCard → List PlayingCard → List PlayingCard
following [] hand = hand
following (led ∷ rest) hand = or_else (filter (is_of led.suit) hand) hand

-- the cards that the mover may play, suit by suit from the spades on, and in a suit from the highest down
abbrev pub legal : Board → List PlayingCard
legal p = following p.trick (cards_at p (mover p))

-- does the next card complete the trick?
abbrev pub completes : Board → Bool
completes p = length p.trick == 3

-- the trick with c on it
abbrev pub trick_with : Board → PlayingCard → List PlayingCard
trick_with p c = p.trick ++ c ∷ []

-- the card leaves the mover's hand
abbrev pub hands_after : Board → PlayingCard → FourHands
hands_after p c = with_hand p.hands (mover p) (without (cards_at p (mover p)) c)

-- The card leaves the mover's hand and goes last on the trick. A fourth card empties the trick, and its winner leads next.
abbrev pub after : Board → PlayingCard → Board
after p c =
    (if completes p
    then record { hands = hands_after p c; strain = p.strain; first = winner_of (trick_with p c) p.first p.strain; trick = [] }
    else record { hands = hands_after p c; strain = p.strain; first = p.first; trick = trick_with p c })
