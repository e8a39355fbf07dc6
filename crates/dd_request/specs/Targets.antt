-- To be believed: the cards that reach a target: the classes of equal cards that win so many tricks (DDS manual, SolveBoard with a target of
-- 0 to 13 and solutions 1 or 2).
use Rattle.std.specs.Prelude.{ℕ, ◌==◌, List, map, filter, take, nat_le, if◌then◌else◌}
use Rattle.dd_cards.specs.PlayingCard.{PlayingCard}
use Rattle.dd_play.specs.Board.{Board}
use Rattle.dd_play.specs.Value.{score}
use Rattle.dd_equal.specs.EqualCards.{tops, equals_of}
use Rattle.dd_request.specs.ScoredClasses.{ScoredClass}

-- what a request with a target asks: the cards of this position that win so many tricks; all of them (2), or the first (1)
pub record TargetQuestion : Type 0 where
  pub board : Board
  pub target : ℕ
  pub solutions : ℕ

-- a class with the target in the place of its score: at least so many
abbrev pub target_class : Board → ℕ → PlayingCard → ScoredClass
target_class p target c = record { card = c; equals = equals_of p c; score = target }

-- every class whose score is at least the target: suit rising, then rank falling
abbrev pub all_reaching : Board → ℕ → List ScoredClass
all_reaching p target = map (target_class p target) (filter (λ c. nat_le target (score p c)) (tops p))

-- DDS: solutions 2 asks for all of them, 1 for the first
abbrev pub reaching : Board → ℕ → ℕ → List ScoredClass
reaching p target solutions = (if solutions == 2 then all_reaching p target else take 1 (all_reaching p target))

-- what was asked, and the classes that were found
pub record SolvedTargetQuestion : Type 0 where
  pub asked : TargetQuestion
  pub answer : List ScoredClass

-- the question with its answer
abbrev pub solved_target : TargetQuestion → SolvedTargetQuestion
solved_target asked = record { asked = asked; answer = reaching asked.board asked.target asked.solutions }
