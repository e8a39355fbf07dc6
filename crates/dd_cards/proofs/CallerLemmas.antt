-- What the crates above may cite of these proofs: they import nothing else of them.

-- ---- Booleans and parts of lists: what the standard library lacks, for all crates
-- both, so the first
pub use Rattle.dd_cards.proofs.General.{and-left}
-- both, so the second
pub use Rattle.dd_cards.proofs.General.{and-right}
-- a test and true is the test
pub use Rattle.dd_cards.proofs.General.{and-true}
-- a test and false is false
pub use Rattle.dd_cards.proofs.General.{and-false}
-- all four, so each
pub use Rattle.dd_cards.proofs.General.{all-four}
-- each of four, so all
pub use Rattle.dd_cards.proofs.General.{four-all}
-- two tests that imply each other are one
pub use Rattle.dd_cards.proofs.General.{both-ways}
-- tests that agree on what a list has keep the same part of it
pub use Rattle.dd_cards.proofs.General.{filter-where}
-- two filters are one
pub use Rattle.dd_cards.proofs.General.{filter-filter}
-- a filter of what a function gives
pub use Rattle.dd_cards.proofs.General.{filter-map}
-- a test that is always true keeps all
pub use Rattle.dd_cards.proofs.General.{filter-true}
-- a filter makes a list no longer
pub use Rattle.dd_cards.proofs.General.{length-filter-le}
-- what passes a test in a part of a list passes it in the list
pub use Rattle.dd_cards.proofs.General.{any-filter}
-- ---- what a mask's operations do to the list of its ranks
-- each of the lowest ranks is one of them
pub use Rattle.dd_cards.proofs.RankLists.{has_rank-lowest_ranks}
-- ---- cards as suits and ranks, and the deck
-- two suits with one code are one suit
pub use Rattle.dd_cards.proofs.CardLists.{suit_code-injective}
-- a suit's code is below 4
pub use Rattle.dd_cards.proofs.CardLists.{suit_code-lt}
-- cards that the test calls the same are equal
pub use Rattle.dd_cards.proofs.CardLists.{same_card-eq}
-- a real card is in the deck
pub use Rattle.dd_cards.proofs.CardLists.{has_card-deck}
-- each card of the deck is real
pub use Rattle.dd_cards.proofs.CardLists.{real_deck}
-- what passes the test is a rank
pub use Rattle.dd_cards.proofs.CardLists.{IsRank-from}
-- ---- a hand's bits and its cards
-- two seats with one code are one seat
pub use Rattle.dd_cards.proofs.HandLists.{seat_code-injective}
-- a seat's code is below 4
pub use Rattle.dd_cards.proofs.HandLists.{seat_code-lt}
-- what all pass, each of them passes
pub use Rattle.dd_cards.proofs.HandLists.{passes}
-- ---- a hand is a set
-- one time more where the first card is the card
pub use Rattle.dd_cards.proofs.Sets.{times-cons}
-- the deck has 52 cards
pub use Rattle.dd_cards.proofs.Sets.{length-deck}
-- a set has a card once at most
pub use Rattle.dd_cards.proofs.Sets.{times-set}
-- a set has 52 cards at most
pub use Rattle.dd_cards.proofs.Sets.{length-set_of_cards}
-- of four tests no two of which hold together, one at most holds
pub use Rattle.dd_cards.proofs.Sets.{at-most-one}
-- ---- what holds of every set of cards, and of every four hands
-- a card is the same as itself
pub use Rattle.dd_cards.proofs.SetLaws.{same_card-self}
-- a part of a list has the cards of the list that pass the test
pub use Rattle.dd_cards.proofs.SetLaws.{has_card-filter}
-- without a card, the other cards are left
pub use Rattle.dd_cards.proofs.SetLaws.{has_card-without}
-- with a card, that card and those before
pub use Rattle.dd_cards.proofs.SetLaws.{has_card-with_card}
-- the deck is a set
pub use Rattle.dd_cards.proofs.SetLaws.{IsSet-deck}
-- any part of a set is a set
pub use Rattle.dd_cards.proofs.SetLaws.{IsSet-filter}
-- a set with a card taken out is a set
pub use Rattle.dd_cards.proofs.SetLaws.{IsSet-without}
-- a list with a card put in its place is a set
pub use Rattle.dd_cards.proofs.SetLaws.{IsSet-with_card}
-- every card in a set is real
pub use Rattle.dd_cards.proofs.SetLaws.{real-set}
-- two sets with the same cards are the same list
pub use Rattle.dd_cards.proofs.SetLaws.{same-members}
-- a card that a set has stands in it once, and one that it has not, never
pub use Rattle.dd_cards.proofs.SetLaws.{times-has_card}
-- a set is its spades, its hearts, its diamonds and its clubs
pub use Rattle.dd_cards.proofs.SetLaws.{set-by-suits}
-- the cards of a suit, by the ranks of those that the set has, highest first
pub use Rattle.dd_cards.proofs.SetLaws.{suit-ranks}
-- the ranks of a suit's cards are told by the cards
pub use Rattle.dd_cards.proofs.SetLaws.{ranks-from_cards}
-- a holding of a suit has the ranks of the hand's cards of that suit
pub use Rattle.dd_cards.proofs.SetLaws.{has_rank-holding}
-- a suit has at most thirteen cards in a set
pub use Rattle.dd_cards.proofs.SetLaws.{length-suit}
-- ---- what keeps four hands four hands
-- the hand that is written, and the others
pub use Rattle.dd_cards.proofs.HandsLaws.{hand_of-with_hand}
-- four empty hands
pub use Rattle.dd_cards.proofs.HandsLaws.{AreHands-new}
-- a card put into a hand, that no hand has
pub use Rattle.dd_cards.proofs.HandsLaws.{AreHands-with_card}
-- ---- no two suits, seats, strains or cards have one code
-- two strains with one code are one strain
pub use Rattle.dd_cards.proofs.Codes.{strain_code-injective}
-- ---- sides and the seats that play for them
-- a side is itself
pub use Rattle.dd_cards.proofs.SideLaws.{same-self}
-- and not the other one
pub use Rattle.dd_cards.proofs.SideLaws.{same-other}
-- a side is one of the two
pub use Rattle.dd_cards.proofs.SideLaws.{same-not}
-- the opponents of one side are one side
pub use Rattle.dd_cards.proofs.SideLaws.{same-others}
-- what the test says of one side
pub use Rattle.dd_cards.proofs.SideLaws.{is-same}
-- and of two
pub use Rattle.dd_cards.proofs.SideLaws.{is-other}
-- the next seat plays for the other side
pub use Rattle.dd_cards.proofs.SideLaws.{next-side}
-- ---- which ranks the mask of some ranks has
-- the mask of a set of ranks has these ranks
pub use Rattle.dd_cards.proofs.MaskRanks.{in_mask-mask_of}
-- ---- the bits of one suit of a hand
-- a lane of a hand's mask is the mask of a holding
pub use Rattle.dd_cards.proofs.SuitBits.{lane-valid}
-- a hand has as many cards of a suit as bits are set in its lane
pub use Rattle.dd_cards.proofs.SuitBits.{suit-ones}
-- a hand has a card where the bit of its rank is set in the lane of its suit
pub use Rattle.dd_cards.proofs.SuitBits.{card-bit}
-- the first card of a set stands at the highest place
pub use Rattle.dd_cards.proofs.Firsts.{set-first}
-- ---- what is the same by the tests
-- the same cards in the same order are one list
pub use Rattle.dd_cards.proofs.SameLaws.{same_cards-is}
-- the same cards in each hand are the same hands
pub use Rattle.dd_cards.proofs.SameLaws.{same_hands-is}
-- what tells the test tells whether they are the same hands
pub use Rattle.dd_cards.proofs.SameLaws.{same_hands-told}
-- the parts of four tests
pub use Rattle.dd_cards.proofs.SameLaws.{four-of}
-- where a card of a list passes a test, one of it does
pub use Rattle.dd_cards.proofs.Heads.{any-some}
-- where a card that stands in a list passes a test, one of it does
pub use Rattle.dd_cards.proofs.Heads.{any-of}
-- a card of a mask's list has a real rank
pub use Rattle.dd_cards.proofs.Unions.{cards-real}
-- all ranks are real
pub use Rattle.dd_cards.proofs.Lanes.{real_ranks}
-- a bit of an intersection is one of the first
pub use Rattle.dd_cards.proofs.HandLists.{bit_of-and}
-- a card of a mask's list is a bit of the mask
pub use Rattle.dd_cards.proofs.HandLists.{has_card-cards_of}
-- sameness of cards has no direction
pub use Rattle.dd_cards.proofs.CardLists.{same_card-swap}
-- a card stands in two lists as often as in both
pub use Rattle.dd_cards.proofs.Sets.{times-append}
-- a card that a list has stands in it at least once
pub use Rattle.dd_cards.proofs.Sets.{times-has}
-- a test that no card of a list passes, at one of them
pub use Rattle.dd_cards.proofs.Heads.{none-at}
-- a card that is there and passes is found
pub use Rattle.dd_cards.proofs.Heads.{any-card}
-- every real rank is among the thirteen
pub use Rattle.dd_cards.proofs.RankLists.{has-all}
-- the members of a part
pub use Rattle.dd_cards.proofs.RankLists.{has-filter}
-- two tests that agree on the members keep the same part
pub use Rattle.dd_cards.proofs.RankLists.{filter-members}
