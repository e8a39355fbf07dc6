-- To be believed: why a card of a play may not be played in its turn (Laws of Duplicate Bridge 2017, 44 and 45).
use Rattle.std.specs.Prelude.{◌≡◌, ◌≤◌, ◌⊎◌, true, false, List, [], ◌∷◌}
use Rattle.dd_cards.specs.PlayingCard.{PlayingCard}
use Rattle.dd_cards.specs.Cards.{has_card}
use Rattle.dd_play.specs.Board.{Board, cards_at, mover, tricks_left}
use Rattle.dd_play.specs.Play.{legal, after}
use Rattle.dd_play.specs.Simulations.{IsLegal}
use Rattle.dd_request.specs.declared.card_fault.CardFault.{CardFault}
use Rattle.dd_request.specs.declared.card_fault.CardFault.TheVariants.{AfterLast, NotInHand, Revoke}

-- no card is left to play; the hand to play does not hold this one; it holds it, and must follow suit with another
abbrev pub IsFaultOf : CardFault → Board → PlayingCard → Type 0
IsFaultOf AfterLast p c = tricks_left p ≡ 0
IsFaultOf NotInHand p c = (1 ≤ tricks_left p) × (has_card (cards_at p (mover p)) c ≡ false)
IsFaultOf Revoke p c = (has_card (cards_at p (mover p)) c ≡ true) × (has_card (legal p) c ≡ false)

-- the fault of the first card that is not legal in its turn
abbrev pub IsFirstFault : CardFault → Board → List PlayingCard → Type 0
IsFirstFault fault p [] = ⊥
IsFirstFault fault p (c ∷ cards) = IsFaultOf fault p c ⊎ (IsLegal p c × IsFirstFault fault (after p c) cards)
