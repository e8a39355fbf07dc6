use Rattle.std.proofs.Common.{◌≡◌, ◌+◌, ◌*◌, ◌∙◌, ℕ, arith, length-set, set}
use Rattle.dd_book.specs.Tournaments.{IsWon}
use Rattle.dd_book.proofs.Winning.{winner-found, won-replayed}
use Rattle.dd_book.proofs.tournament.+replay.Goals as goal
use Rattle.dd_book.proofs.tournament.+replay.Goals.{After-earlier}

-- all winners are right that don't rest on the one that was made so
replayed : (t : ℕ) (c : After-earlier t) (i : ℕ) → (2 * i + 1 ≡ c.args.place → ⊥) → (2 * i + 2 ≡ c.args.place → ⊥) → IsWon c.args.keys.now (set c.args.winners.now c.args.place c.earlier.result) i
replayed t c i left right =
    won-replayed c.args.keys.now c.args.winners.now c.args.place c.earlier.result c.requires.within.0 c.requires.within.1
    (winner-found c.args.keys.now c.args.winners.now c.args.place c.winner.result c.winner-2.result c.own_entry.result c.earlier-below.result c.earlier.result
    c.winner.ensures c.winner-2.ensures c.own_entry.ensures c.earlier-below.ensures c.earlier.ensures)
    c.requires.others i left right

pub replay-requires : goal.replay-requires
replay-requires t c = (
  omega (arith, c.decreases),
  (
    (omega (arith, c.requires.within.0), length-set c.args.winners.now c.args.place c.earlier.result ∙ c.requires.within.1),
    (
      c.requires.small,
      λ i other.
          replayed t (goal.at.replay-requires t c).After-earlier i (λ e. other (omega arith)) (λ e. other (omega arith)),
    ),
  ),
)

pub returns-else-place-gt0 : goal.returns-else-place-gt0
returns-else-place-gt0 t c = record { won = λ i. replayed t (goal.at.returns-else-place-gt0 t c).After-earlier i (λ e. omega (arith, c.if-place-gt0.false)) (λ e. omega (arith, c.if-place-gt0.false)) }
