-- What the crates above may cite of these proofs: they import nothing else of them.

-- ---- what a card that is played does to the number of cards, and the value by one step
-- a legal card is in the hand
pub use Rattle.dd_play.proofs.Values.{in-following}
-- a legal card leaves one card fewer
pub use Rattle.dd_play.proofs.Values.{cards_left-after}
-- ---- playing a legal card leads from one legal state of play to another
-- k seats on, the code is k more, round the table
pub use Rattle.dd_play.proofs.Boards.{after-code}
-- when one hand is written anew each other hand is as it was
pub use Rattle.dd_play.proofs.Boards.{hand-other}
-- 1 for true, 0 for false
pub use Rattle.dd_play.proofs.Boards.{flag_of}
-- how often a card stands when one hand is written anew
pub use Rattle.dd_play.proofs.Boards.{times_in-with_hand}
-- a legal card leads to a legal state of play
pub use Rattle.dd_play.proofs.Boards.{legal-leads}
-- the cards in the hands are real
pub use Rattle.dd_play.proofs.Boards.{card-real}
-- a list has its first card
pub use Rattle.dd_play.proofs.Boards.{has-first}
-- a list has the cards of its rest
pub use Rattle.dd_play.proofs.Boards.{in-rest}
-- a card that does not complete a trick gains none
pub use Rattle.dd_play.proofs.Boards.{gain-le}
-- North and South take at most the tricks that are left
pub use Rattle.dd_play.proofs.Boards.{ns-le}
-- ---- the winner by the Laws is the place of the greatest strength
-- The winner by the Laws stands at the place of the greatest strength.
pub use Rattle.dd_play.proofs.Strengths.{winning-strongest}
-- ---- how many cards: a hand by its suits, the hands by their seats, and no more than the deck has
-- each trick that is left takes a card of each hand
pub use Rattle.dd_play.proofs.Lengths.{cards-tricks}
-- at most thirteen tricks are left
pub use Rattle.dd_play.proofs.Lengths.{left-13}
-- at most thirteen cards may be played
pub use Rattle.dd_play.proofs.Lengths.{legal-13}
-- ---- cards that are put into a hand one by one, and how often each stands then
-- a card stands in four hands at most once
pub use Rattle.dd_play.proofs.Twice.{times_in-once}
-- ---- the four rules of one step of play, for either side
-- what the side takes when c is played
pub use Rattle.dd_play.proofs.Rules.{won_with}
-- what North and South take when a card is played
pub use Rattle.dd_play.proofs.Rules.{won-north-south}
-- what the one side takes when a card is played, the other does not
pub use Rattle.dd_play.proofs.Rules.{won-east-west}
-- where the side is to play, each legal card is within its reach
pub use Rattle.dd_play.proofs.Rules.{can}
-- against the other side it takes at least what each legal card leaves it
pub use Rattle.dd_play.proofs.Rules.{least}
-- with no legal card no trick is left
pub use Rattle.dd_play.proofs.Rules.{no-legal}
-- ---- counting cards
-- how many cards pass a test
pub use Rattle.dd_play.proofs.Counts.{count}
-- a card put first is counted where it passes
pub use Rattle.dd_play.proofs.Counts.{count-cons}
-- where the count is not zero, some card passes
pub use Rattle.dd_play.proofs.Counts.{count-some}
-- a card that is there and passes is counted
pub use Rattle.dd_play.proofs.Counts.{count-has}
-- without a card, those that pass are as many fewer as the card stood, if it passes
pub use Rattle.dd_play.proofs.Counts.{count-without}
-- where a one-to-one map takes each card that passes to one that passes, there are at least as many of the latter
pub use Rattle.dd_play.proofs.Counts.{inject}
-- ---- what a legal card does to the hands, to the pairs that can meet, and which cards are legal
-- turns of the table may be made in either order
pub use Rattle.dd_play.proofs.Plays.{turn-turn}
-- two seats are still two after a turn
pub use Rattle.dd_play.proofs.Plays.{turn-apart}
-- two seats are the same, or have two codes
pub use Rattle.dd_play.proofs.Plays.{same-or}
-- a legal card is in the mover's hand
pub use Rattle.dd_play.proofs.Plays.{own-card}
-- the mover's hand after the play is without the card
pub use Rattle.dd_play.proofs.Plays.{hand-own}
-- the other hands are as they were
pub use Rattle.dd_play.proofs.Plays.{hand-others}
-- a card that is in a hand after the play was there before
pub use Rattle.dd_play.proofs.Plays.{was-in}
-- a card stands in a hand no more often than in all four
pub use Rattle.dd_play.proofs.Plays.{times-hand}
-- a card stands in a hand at most once
pub use Rattle.dd_play.proofs.Plays.{once-in}
-- a card that completes no trick goes on it, and the leader stays
pub use Rattle.dd_play.proofs.Plays.{trick-after}
-- a card that completes a trick leaves an empty one, and its winner leads
pub use Rattle.dd_play.proofs.Plays.{trick-closed}
-- the strain stays
pub use Rattle.dd_play.proofs.Plays.{strain-after}
-- a card of a list with a last card is that card or one before it
pub use Rattle.dd_play.proofs.Plays.{in-push}
-- the cards of the trick with a legal card on it are real
pub use Rattle.dd_play.proofs.Plays.{real-trick}
-- the card is of the suit led, unless the hand has none of that suit
pub use Rattle.dd_play.proofs.Plays.{Obeys}
-- a card that passes the test of a suit is of that suit
pub use Rattle.dd_play.proofs.Plays.{suit-of}
-- a card of a suit passes its test
pub use Rattle.dd_play.proofs.Plays.{of-suit'}
-- a card of a list that passes a test is in the part that passes
pub use Rattle.dd_play.proofs.Plays.{filter-has}
-- a card of the part that passes a test passes it
pub use Rattle.dd_play.proofs.Plays.{filter-passes}
-- a card of the hand that follows suit if the hand can is legal
pub use Rattle.dd_play.proofs.Plays.{legal-in}
-- a legal card follows suit if the hand can
pub use Rattle.dd_play.proofs.Plays.{legal-out}
-- ---- the strongest card of a trick and of one that answers it place by place
-- the place of the greatest is one of the list
pub use Rattle.dd_play.proofs.Winners.{place-within}
-- a card's strength, by whether it is a trump, whether it is of the suit led, and its rank
pub use Rattle.dd_play.proofs.Winners.{strength_by}
-- a list has the card at each of its places
pub use Rattle.dd_play.proofs.Winners.{has-at}
-- ---- one step of play keeps the relation
-- where one position covers another, the mover of the one is the mover of the other, turned
pub use Rattle.dd_play.proofs.Steps.{mover-turned}
-- each card of a hand of q answers one of that hand of p
pub use Rattle.dd_play.proofs.Steps.{reply'}
-- an answer to a legal card is legal
pub use Rattle.dd_play.proofs.Steps.{legal-to}
-- a legal card and its legal answer keep the relation, where the winner of a trick that they complete is settled
pub use Rattle.dd_play.proofs.Steps.{stepped}
-- ---- positions related with all cards as top cards have one value
-- twins have one value
pub use Rattle.dd_play.proofs.Twins.{twins-won}
-- ---- the rules of claims: what a side takes, and how it follows from what it takes after one card more
-- where the other side is to play, each of its cards has to leave the side as many
pub use Rattle.dd_play.proofs.ClaimRules.{every-card}
-- a completed trick is won by one of the two sides
pub use Rattle.dd_play.proofs.ClaimRules.{one-trick}
-- the two sides take all that are left
pub use Rattle.dd_play.proofs.ClaimRules.{all}
-- the two sides claim no more together than is left
pub use Rattle.dd_play.proofs.ClaimRules.{both}
-- where the claims of the two sides add up to all tricks, each takes what it claims
pub use Rattle.dd_play.proofs.ClaimRules.{exactly}
-- the leader's tricks are those of its side
pub use Rattle.dd_play.proofs.ClaimRules.{leaders_tricks-won}
-- ---- fewer top cards cover more positions, and play keeps the order within a hand
-- two relations of cards that can meet on one trick hold together
pub use Rattle.dd_play.proofs.Fewer.{met-both}
-- each seat is another one turned
pub use Rattle.dd_play.proofs.Fewer.{unturn}
-- a top card on q's trick is the image of one on p's
pub use Rattle.dd_play.proofs.Fewer.{trick-back}
-- a relation of the cards that answer, asked of the cards that they answer
pub use Rattle.dd_play.proofs.Fewer.{Pulled}
-- two top cards of q that can meet come from two of p that can
pub use Rattle.dd_play.proofs.Fewer.{met-back}
-- a cover is one with fewer top cards
pub use Rattle.dd_play.proofs.Fewer.{cover-fewer}
-- the order of each hand is kept with fewer top cards
pub use Rattle.dd_play.proofs.Fewer.{strict-fewer}
-- ---- the rules of claims that rest on high cards: they hold at every position that is covered
-- no trick may be claimed at any time
pub use Rattle.dd_play.proofs.Worth.{by-nothing}
-- with the same cards a side takes fewer tricks than it claims
pub use Rattle.dd_play.proofs.Worth.{by-fewer}
-- what rests on fewer cards rests on more
pub use Rattle.dd_play.proofs.Worth.{by-more}
-- a legal card is worth what is claimed after it, and the trick that it completes, if the winner is settled
pub use Rattle.dd_play.proofs.Worth.{worth-after}
-- a card that is worth n is worth less
pub use Rattle.dd_play.proofs.Worth.{worth-fewer}
-- what a card is worth by some cards it is worth by more
pub use Rattle.dd_play.proofs.Worth.{worth-more}
-- one low card is worth as much as another of its suit
pub use Rattle.dd_play.proofs.Worth.{worth-low}
-- where the side is to play, one card is enough
pub use Rattle.dd_play.proofs.Worth.{by-one}
-- where the other side is to play, each of its cards has to be worth as many
pub use Rattle.dd_play.proofs.Worth.{by-each}
-- a claim holds where it was made
pub use Rattle.dd_play.proofs.Worth.{by-here}
-- a card that is reached is so by one of the cards
pub use Rattle.dd_play.proofs.Worth.{reach-some}
-- where a card is reached, one of the cards reaches it
pub use Rattle.dd_play.proofs.Worth.{reach-of}
-- more cards reach what fewer reach
pub use Rattle.dd_play.proofs.Worth.{reach-within}
-- with a card each higher one of its suit is reached
pub use Rattle.dd_play.proofs.Worth.{reach-upward}
-- ---- starts of tricks
-- the hands of a board are four hands
pub use Rattle.dd_play.proofs.LedBy.{board-hands}
-- ---- the card on which a trick's winner rests
-- four cards of a trick, its leader and winner, the winner's place among them and its card
pub use Rattle.dd_play.proofs.Contests.{IsFour}
-- a trick whose winning card is a top card is settled
pub use Rattle.dd_play.proofs.Contests.{settled-by-top}
-- and one whose winning card is alone of its suit
pub use Rattle.dd_play.proofs.Contests.{settled-alone}
-- ---- what is the same by the tests
-- the same hands, strain, leader and trick are one position
pub use Rattle.dd_play.proofs.SameLaws.{same_board-is}
-- while a trick is left there is a legal card
pub use Rattle.dd_play.proofs.ClaimRules.{some-legal}
-- tests that agree on the cards of a list find the same place
pub use Rattle.dd_play.proofs.Strengths.{position-where}
-- each of four cards with real ranks has one
pub use Rattle.dd_play.proofs.Strengths.{real-four}
-- boards with the same parts are one
pub use Rattle.dd_play.proofs.SameLaws.{board-eq}
-- a higher card of the suit is above
pub use Rattle.dd_play.proofs.Plays.{above-is}
-- a card above another is of its suit
pub use Rattle.dd_play.proofs.Plays.{above-suit}
-- and of a higher rank
pub use Rattle.dd_play.proofs.Plays.{above-rank}
-- of two cards of a suit both are trumps or none
pub use Rattle.dd_play.proofs.Winners.{trump-suit}
-- a card of a set is reached by it
pub use Rattle.dd_play.proofs.Worth.{reach-in}
