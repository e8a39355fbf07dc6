-- Deal texts, read.
use Rattle.std.proofs.Common.{◌≡◌, ℕ, refl, List, Ok, Err}
use Rattle.std.specs.Prelude.{codes}
use Rattle.dd_cards.specs.PlayingCard.{PlayingCard}
use Rattle.dd_cards.specs.Cards.{deck, suit_cards}
use Rattle.dd_cards.specs.Ranks.{all_ranks, lowest_ranks}
use Rattle.dd_cards.specs.Hands.{FourHands, AreHands}
use Rattle.dd_pbn.specs.declared.fault.PbnFault.{PbnFault}
use Rattle.dd_pbn.specs.declared.fault.PbnFault.TheVariants.{Grammar, Absent, Twice}
use Rattle.dd_pbn.specs.Letters.{rank_of}
use Rattle.dd_pbn.specs.Values.{IsValue, IsTag}
use Rattle.dd_pbn.specs.Deals.{DealText, DealFault, TagText, text_of_deal}
use Rattle.dd_pbn.specs.Examples.{eight_spades, two_suits}
use Rattle.dd_pbn.specs.Reading.{outcome, value_of, tag_of, value_at, quoted_at, name_at, hands_at, next_hand, hand_at, next_suit, suit_at, seat_at, seat_of, letter_at, byte_at, gap_at, after_blanks, at_end}
use Rattle.dd_pbn.proofs.ValueTexts.{Reads-value, Reads-tag}
use Rattle.dd_pbn.proofs.Decided.{result-read, result-fault}

-- a text whose reading is computed spells what is read, or has that fault
value-spells : (text : List ℕ) (deal : FourHands) → Ok deal ≡ outcome (value_of text) → AreHands deal × DealText text deal
value-spells text deal is = result-read (IsValue text) (value_of text) (Reads-value text) (Ok deal) is

-- a text whose reading is computed has the fault that is met
value-fails : (text : List ℕ) (fault : PbnFault) → Err fault ≡ outcome (value_of text) → DealFault text fault
value-fails text fault is = (result-fault (IsValue text) (value_of text) (Reads-value text) (Err fault) is fault).0 refl

-- a tag whose reading is computed spells what is read
tag-spells : (text : List ℕ) (deal : FourHands) → Ok deal ≡ outcome (tag_of text) → AreHands deal × TagText text deal
tag-spells text deal is = result-read (IsTag text) (tag_of text) (Reads-tag text) (Ok deal) is

-- ---- values
-- two suits
pub spades-and-hearts : AreHands two_suits × DealText (codes "N:A.2.. K.A.. Q.K.. J.Q..") two_suits
unfolding rank_of all_ranks lowest_ranks deck suit_cards value_of value_at hands_at next_hand hand_at next_suit suit_at seat_at seat_of byte_at gap_at after_blanks at_end
spades-and-hearts = value-spells (codes "N:A.2.. K.A.. Q.K.. J.Q..") two_suits refl

-- from North on
pub from-north : AreHands eight_spades × DealText (codes "N:32... K4... AQ... 65...") eight_spades
unfolding rank_of all_ranks lowest_ranks deck suit_cards value_of value_at hands_at next_hand hand_at next_suit suit_at seat_at seat_of byte_at gap_at after_blanks at_end
from-north = value-spells (codes "N:32... K4... AQ... 65...") eight_spades refl

-- the same deal from East on, in lower case
pub from-east : AreHands eight_spades × DealText (codes "e:k4... aq... 65... 32...") eight_spades
unfolding rank_of all_ranks lowest_ranks deck suit_cards value_of value_at hands_at next_hand hand_at next_suit suit_at seat_at seat_of byte_at gap_at after_blanks at_end
from-east = value-spells (codes "e:k4... aq... 65... 32...") eight_spades refl

-- a hand of three suits has not the form
pub three-suits : DealFault (codes "N:A.. K... Q... J...") Grammar
unfolding rank_of all_ranks lowest_ranks deck suit_cards value_of value_at hands_at next_hand hand_at next_suit suit_at seat_at seat_of byte_at gap_at after_blanks at_end
three-suits = value-fails (codes "N:A.. K... Q... J...") Grammar refl

-- a hand is left out
pub left-out : DealFault (codes "N:A... - Q... J...") Absent
unfolding rank_of all_ranks lowest_ranks deck suit_cards value_of value_at hands_at next_hand hand_at next_suit suit_at seat_at seat_of byte_at gap_at after_blanks at_end
left-out = value-fails (codes "N:A... - Q... J...") Absent refl

-- an ace stands twice in one hand
pub two-aces : DealFault (codes "N:AA... K2... Q3... J4...") Twice
unfolding rank_of all_ranks lowest_ranks deck suit_cards value_of value_at hands_at next_hand hand_at next_suit suit_at seat_at seat_of byte_at gap_at after_blanks at_end
two-aces = value-fails (codes "N:AA... K2... Q3... J4...") Twice refl

-- a hand is left out, and an ace stands twice in two others
pub left-out-and-two-aces : DealFault (codes "N:A... - A... J...") Absent
unfolding rank_of all_ranks lowest_ranks deck suit_cards value_of value_at hands_at next_hand hand_at next_suit suit_at seat_at seat_of byte_at gap_at after_blanks at_end
left-out-and-two-aces = value-fails (codes "N:A... - A... J...") Absent refl

-- ---- a tag
-- a tag
pub tag-from-east : AreHands eight_spades × TagText (codes "[Deal \"e:k4... aq... 65... 32...\"]") eight_spades
unfolding rank_of all_ranks lowest_ranks deck suit_cards tag_of quoted_at name_at letter_at value_at hands_at next_hand hand_at next_suit suit_at seat_at seat_of byte_at gap_at after_blanks at_end
tag-from-east = tag-spells (codes "[Deal \"e:k4... aq... 65... 32...\"]") eight_spades refl

-- ---- the form that is written
pub written-eight : text_of_deal eight_spades ≡ codes "N:32... K4... AQ... 65..."
written-eight = refl
