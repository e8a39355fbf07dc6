-- To be believed: a file that is filled again.
use Rattle.std.specs.Prelude.{◌≡◌, ℕ, ◌≤◌, List, Option, None, Some, All, IsNone}
use Rattle.dd_cards.specs.Hands.{FourHands}
use Rattle.dd_cards.specs.declared.seat.Seat.{Seat}
use Rattle.dd_cards.specs.declared.strain.Strain.{Strain}
use Rattle.dd_score.specs.Tables.{tricks_of}
use Rattle.dd_file.specs.declared.wanted.Wanted.{Wanted}
use Rattle.dd_file.specs.Filled.{Found, AreAnswers, asks, filled}

-- no deal's results were given up, and none is above 13
abbrev pub AreResults : FourHands → Option (List (List ℕ)) → Type 0
AreResults deal None = ⊥
AreResults deal (Some table) = (strain : Strain) (declarer : Seat) → tricks_of table strain declarer ≤ 13

-- they may have been given up
abbrev pub MayBeResults : FourHands → Option (List (List ℕ)) → Type 0
MayBeResults deal None = Unit {0}
MayBeResults deal (Some table) = AreResults deal (Some table)

-- where each game that asks was answered, no game of the filled file asks
abbrev pub AsksNothingAgain : Type 0
AsksNothingAgain =
    (wanted : Wanted) (answers : List (Option Found)) (file : List ℕ) → AreAnswers AreResults (asks wanted file) answers → All IsNone (asks wanted (filled wanted answers file))

-- and filled again, by whatever answers that, it is as it was
abbrev pub AddsNothingAgain : Type 0
AddsNothingAgain =
    (wanted : Wanted) (answers : List (Option Found)) (file : List ℕ) → AreAnswers AreResults (asks wanted file) answers
    → (again : List (Option Found)) → AreAnswers AreResults (asks wanted (filled wanted answers file)) again → filled wanted again (filled wanted answers file) ≡ filled wanted answers file
