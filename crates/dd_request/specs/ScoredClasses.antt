-- To be believed: the answer to a position: every class of equal cards that may be played, with the tricks that its side wins (DDS manual, SolveBoard
-- with target -1: futureTricks).
use Rattle.std.specs.Prelude.{ℕ, ◌==◌, List, [], ◌∷◌, map, filter, take, nat_le, if◌then◌else◌}
use Rattle.std.specs.List.{flat_map, list_all}
use Rattle.dd_cards.specs.PlayingCard.{PlayingCard}
use Rattle.dd_play.specs.Board.{Board}
use Rattle.dd_play.specs.Value.{score}
use Rattle.dd_equal.specs.EqualCards.{tops, equals_of}

-- a class by its highest card, the mask of its other cards, and the tricks that the mover's side takes from here on when it is played
pub record ScoredClass : Type 0 where
  pub card : PlayingCard
  pub equals : ℕ
  pub score : ℕ

abbrev pub scored_class : Board → PlayingCard → ScoredClass
scored_class p c = record { card = c; equals = equals_of p c; score = score p c }

-- the scores that there are, the greatest first
unfoldable pub all_scores : List ℕ
all_scores = 13 ∷ 12 ∷ 11 ∷ 10 ∷ 9 ∷ 8 ∷ 7 ∷ 6 ∷ 5 ∷ 4 ∷ 3 ∷ 2 ∷ 1 ∷ 0 ∷ []

-- the greatest score first, and those of one score as they stood
abbrev pub by_score : List ScoredClass → List ScoredClass
by_score classes = flat_map (λ n. filter (λ class. class.score == n) classes) all_scores

-- every class of legal cards: score falling, then suit rising, then rank falling
abbrev pub all_classes : Board → List ScoredClass
all_classes p = by_score (map (scored_class p) (tops p))

-- those of the greatest score
abbrev pub best_classes : List ScoredClass → List ScoredClass
best_classes classes = filter (λ class. list_all (λ other. nat_le other.score class.score) classes) classes

-- DDS: solutions 3 asks for all classes, 2 for those of the greatest score, 1 for the first of these
abbrev pub answer : Board → ℕ → List ScoredClass
answer p solutions = (if solutions == 3 then all_classes p else if solutions == 2 then best_classes (all_classes p) else take 1 (best_classes (all_classes p)))
