-- The definitions at work: answers of small positions, and texts of replies.
use Rattle.std.proofs.Common.{◌≡◌, ℕ, refl, List, [], ◌∷◌}
use Rattle.std.specs.Prelude.{codes}
use Rattle.std.specs.Fmt.{digits}
use Rattle.dd_cards.specs.declared.suit.Suit.TheVariants.{Spades, Hearts}
use Rattle.dd_cards.specs.declared.seat.Seat.{Seat}
use Rattle.dd_cards.specs.declared.seat.Seat.TheVariants.{North, East}
use Rattle.dd_cards.specs.declared.strain.Strain.{Strain}
use Rattle.dd_cards.specs.declared.strain.Strain.TheVariants.{Trump, Notrump}
use Rattle.dd_cards.specs.PlayingCard.{PlayingCard}
use Rattle.dd_cards.specs.Hands.{dealt}
use Rattle.dd_cards.specs.Cards.{card_of}
use Rattle.dd_play.specs.Board.{Board}
use Rattle.dd_play.specs.Value.{ns_within}
use Rattle.dd_request.specs.declared.asked.Asked.TheVariants.{Solve, Table}
use Rattle.dd_wire.specs.declared.fault.Fault.TheVariants.{NoCard}
use Rattle.dd_request.specs.ScoredClasses.{ScoredClass, answer, all_scores}
use Rattle.dd_request.specs.Results.{results, contracts, tricks_of}
use Rattle.dd_wire.specs.HealthReplies.{health_text}
use Rattle.dd_wire.specs.LineReplies.{asked_text}
use Rattle.dd_wire.specs.Replies.{class_text, fault_text}

-- four hands, from North clockwise, the strain, the seat that leads, and the trick
abbrev board : List PlayingCard → List PlayingCard → List PlayingCard → List PlayingCard → Strain → Seat → List PlayingCard → Board
board north east south west strain first trick = record { hands = dealt north east south west; strain = strain; first = first; trick = trick }

-- a class by its highest card, the mask of the others, and the score
abbrev class : PlayingCard → ℕ → ℕ → ScoredClass
class card equals score = record { card = card; equals = equals; score = score }

abbrev spade : ℕ → PlayingCard
spade = card_of Spades

abbrev heart : ℕ → PlayingCard
heart = card_of Hearts

-- the ace of spades takes the one trick that is left
ace-wins : answer (board (spade 14 ∷ []) (spade 13 ∷ []) (spade 12 ∷ []) (spade 11 ∷ []) Notrump North []) 3 ≡ class (spade 14) 0 1 ∷ []
unfolding ns_within all_scores
ace-wins = refl

-- the score is that of the mover's side: East's king loses to the ace
king-loses : answer (board (spade 14 ∷ []) (spade 13 ∷ []) (spade 12 ∷ []) (spade 11 ∷ []) Notrump East []) 3 ≡ class (spade 13) 0 0 ∷ []
unfolding ns_within all_scores
king-loses = refl

-- a trump takes the trick from the ace of another suit
trump-wins : answer (board (spade 14 ∷ []) (heart 2 ∷ []) (spade 2 ∷ []) (spade 3 ∷ []) (Trump Hearts) North []) 3 ≡ class (spade 14) 0 0 ∷ []
unfolding ns_within all_scores
trump-wins = refl

-- the finesse: South's queen and ace stand over East's king, and the two is equal to the three
finesse-wins : answer (board (spade 3 ∷ spade 2 ∷ []) (spade 13 ∷ spade 4 ∷ []) (spade 14 ∷ spade 12 ∷ []) (spade 6 ∷ spade 5 ∷ []) Notrump North []) 3 ≡ class (spade 3) 4 2 ∷ []
unfolding ns_within all_scores
finesse-wins = refl

-- the finesse loses where West has the king
finesse-loses : answer (board (spade 3 ∷ spade 2 ∷ []) (spade 6 ∷ spade 5 ∷ []) (spade 14 ∷ spade 12 ∷ []) (spade 13 ∷ spade 4 ∷ []) Notrump North []) 3 ≡ class (spade 3) 4 1 ∷ []
unfolding ns_within all_scores
finesse-loses = refl

-- cards are equal where only cards that are gone lie between them
apart-equal : answer (board (spade 14 ∷ spade 11 ∷ []) (heart 14 ∷ heart 13 ∷ []) (heart 12 ∷ heart 11 ∷ []) (heart 10 ∷ heart 9 ∷ []) Notrump North []) 3 ≡ class (spade 14) 2048 2 ∷ []
unfolding ns_within all_scores
apart-equal = refl

-- classes of one score stand in the order of their suits
same-score : answer (board (spade 14 ∷ heart 2 ∷ []) (spade 13 ∷ heart 14 ∷ []) (spade 12 ∷ heart 13 ∷ []) (spade 11 ∷ heart 12 ∷ []) Notrump North []) 3 ≡ class (spade 14) 0 1 ∷ class (heart 2) 0 1 ∷ []
unfolding ns_within all_scores
same-score = refl

-- a card on the trick separates: the jack lies between South's queen and ten
trick-separates : answer (board (heart 6 ∷ heart 5 ∷ []) (heart 2 ∷ []) (spade 12 ∷ spade 10 ∷ []) (heart 4 ∷ heart 3 ∷ []) Notrump East (spade 11 ∷ [])) 3 ≡ class (spade 12) 0 2 ∷ class (spade 10) 0 1 ∷ []
unfolding ns_within all_scores
trick-separates = refl

-- of two best cards the first in the order of suits is the one that is asked for
one-best : answer (board (spade 14 ∷ heart 2 ∷ []) (spade 13 ∷ heart 14 ∷ []) (spade 12 ∷ heart 13 ∷ []) (spade 11 ∷ heart 12 ∷ []) Notrump North []) 1 ≡ class (spade 14) 0 1 ∷ []
unfolding ns_within all_scores
one-best = refl

-- the best cards alone: the ten scores less than the queen
best-alone : answer (board (heart 6 ∷ heart 5 ∷ []) (heart 2 ∷ []) (spade 12 ∷ spade 10 ∷ []) (heart 4 ∷ heart 3 ∷ []) Notrump East (spade 11 ∷ [])) 2 ≡ class (spade 12) 0 2 ∷ []
unfolding ns_within all_scores
best-alone = refl

-- the text of a class
class-spelled : class_text (class (spade 14) 0 1) ≡ codes "{\"equals\":0,\"rank\":14,\"score\":1,\"suit\":0}"
unfolding digits
class-spelled = refl

-- the text of a fault
fault-spelled : fault_text NoCard ≡ codes "{\"fault\":8}"
unfolding digits
fault-spelled = refl

-- how a run is
health-spelled : health_text (record { events_left = 799000; jobs = 3; workers = 4 }) ≡ codes "{\"events_left\":799000,\"jobs\":3,\"workers\":4}"
unfolding digits
health-spelled = refl

-- the text of an answer
answer-spelled : asked_text (Solve record { board = board (spade 14 ∷ []) (spade 13 ∷ []) (spade 12 ∷ []) (spade 11 ∷ []) Notrump North []; solutions = 3 }) ≡ codes "{\"cards\":[{\"equals\":0,\"rank\":14,\"score\":1,\"suit\":0}]}"
unfolding ns_within all_scores digits
answer-spelled = refl

-- the twenty results: North and South have the ace, whatever is trump
table-spelled : asked_text (Table (dealt (spade 14 ∷ []) (spade 13 ∷ []) (spade 12 ∷ []) (spade 11 ∷ []))) ≡ codes "{\"table\":[[1,0,1,0],[1,0,1,0],[1,0,1,0],[1,0,1,0],[1,0,1,0]]}"
unfolding ns_within digits results contracts tricks_of
table-spelled = refl

-- each side has one suit: it takes the trick where that is trump, and else the leader's side does, which is the defenders'
suit-each : results (dealt (spade 14 ∷ []) (heart 2 ∷ []) (spade 13 ∷ []) (heart 3 ∷ []))
    ≡ 1 ∷ 0 ∷ 1 ∷ 0 ∷ 0 ∷ 1 ∷ 0 ∷ 1 ∷ 0 ∷ 0 ∷ 0 ∷ 0 ∷ 0 ∷ 0 ∷ 0 ∷ 0 ∷ 0 ∷ 0 ∷ 0 ∷ 0 ∷ []
unfolding ns_within results contracts tricks_of
suit-each = refl
