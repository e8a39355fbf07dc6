-- What the cards of a position decide.
use Rattle.std.proofs.Common.{◌≡◌, ◌<◌, ◌≤◌, refl, arith, length}
use Rattle.std.specs.Prelude.{Ok, Err}
use Rattle.dd_play.specs.Board.{Board, NoneTwice, IsEven, tricks_left}
use Rattle.dd_play.specs.Positions.{IsFirstFault}
use Rattle.dd_play.specs.declared.play_fault.PlayFault.{PlayFault}
use Rattle.dd_play.specs.declared.play_fault.PlayFault.TheVariants.{Played, Twice, Uneven, Empty}
use Rattle.dd_wire.specs.declared.fault.Fault.TheVariants.{CardTwice, UnevenHands, NoCard}
use Rattle.dd_wire.specs.Reading.{play_fault}
use Rattle.dd_wire.specs.Requests.{MeansBoard}

-- a card that stands twice comes first, whatever the counts
pub means-twice : {A : Type 0} (board : Board) (asked : A) → (NoneTwice board → ⊥) → MeansBoard board asked (Err CardTwice)
means-twice board asked double =
    record { twice = λ _. refl; uneven = λ once _. absurd (double once); none = λ once _ _. absurd (double once); some = λ once _ _. absurd (double once) }

-- a board whose counts do not fit is uneven, whatever the mover has
pub means-uneven : {A : Type 0} (board : Board) (asked : A) → NoneTwice board → (IsEven board → ⊥) → MeansBoard board asked (Err UnevenHands)
means-uneven board asked once odd =
    record { twice = λ double. absurd (double once); uneven = λ _ _. refl; none = λ _ even _. absurd (odd even); some = λ _ even _. absurd (odd even) }

-- a board whose counts fit and whose mover has no card has nothing to play
pub means-empty : {A : Type 0} (board : Board) (asked : A) → NoneTwice board → IsEven board → tricks_left board ≡ 0 → MeansBoard board asked (Err NoCard)
means-empty board asked once even empty =
    record { twice = λ double. absurd (double once); uneven = λ _ odd. absurd (odd even); none = λ _ _ _. refl; some = λ _ _ more. absurd (omega arith) }

-- a board with no card twice, whose counts fit and whose mover has a card, is what is asked about
pub means-some : {A : Type 0} (board : Board) (asked : A) → NoneTwice board → IsEven board → 0 < tricks_left board → MeansBoard board asked (Ok asked)
means-some board asked once even more =
    record { twice = λ double. absurd (double once); uneven = λ _ odd. absurd (odd even); none = λ _ _ empty. absurd (omega arith); some = λ _ _ _. refl }

-- the first fault of a board with at most three cards on the trick
pub means-fault : {A : Type 0} (board : Board) (asked : A) (fault : PlayFault) → length board.trick ≤ 3 → IsFirstFault fault board → MeansBoard board asked (Err (play_fault fault))
means-fault board asked Played short is = absurd (omega arith)
means-fault board asked Twice short is = means-twice board asked is.1
means-fault board asked Uneven short is = means-uneven board asked is.1 is.2
means-fault board asked Empty short is = means-empty board asked is.1 is.2 is.3
