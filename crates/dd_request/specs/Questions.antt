-- To be believed: what a request to solve asks, and what answers it.
use Rattle.std.specs.Prelude.{ℕ, List}
use Rattle.dd_play.specs.Board.{Board}
use Rattle.dd_request.specs.ScoredClasses.{ScoredClass, answer as answer_of}

-- what a request asks: the cards of this position; all of them (3), those of the greatest score (2), or one of these (1)
pub record Question : Type 0 where
  pub board : Board
  pub solutions : ℕ

-- what was asked, and the classes that were found
pub record SolvedQuestion : Type 0 where
  pub asked : Question
  pub answer : List ScoredClass

-- the question with its answer
abbrev pub solved_question : Question → SolvedQuestion
solved_question asked = record { asked = asked; answer = answer_of asked.board asked.solutions }
