-- Which job is due, and which part of it is claimed next, in rows.
use Rattle.std.proofs.Common.{◌≡◌, ℕ, refl, List, [], ◌∷◌, Some, None}
use Rattle.std.specs.Prelude.{Option, option_map}
use Rattle.dd_cards.specs.Hands.{FourHands}
use Rattle.dd_request.specs.Plays as plays
use Rattle.dd_request.specs.Questions.{Question}
use Rattle.dd_request.specs.declared.asked.Asked.{Asked}
use Rattle.dd_request.specs.declared.asked.Asked.TheVariants.{Solve, Table, Play}
use Rattle.dd_book.specs.declared.job.Stage.TheVariants.{Open}
use Rattle.dd_book.specs.declared.parts.Part.{Part}
use Rattle.dd_book.specs.declared.parts.Part.TheVariants.{Waiting, Running, Number}
use Rattle.dd_book.specs.Jobs.{JobOf, Turn, first_turn, next_turn}
use Rattle.dd_book.specs.Next.{from_last}

-- the owner of a job, its last turn and its parts, whatever was asked
abbrev row : Asked → ℕ → ℕ → List Part → JobOf
row asked owner last parts = record { owner = owner; asked = asked; stage = Open parts; last_turn = last }

-- the number of the job that is due, and of its part
abbrev due : List JobOf → Option (ℕ × ℕ)
due jobs = option_map (λ (t : Turn). (t.number, t.part)) (next_turn jobs)

module _ (question : Question) where
  -- no owner was claimed for: the first job
  first-of_all : due (row (Solve question) 7 0 (Waiting ∷ []) ∷ row (Solve question) 5 0 (Waiting ∷ []) ∷ []) ≡ Some (1, 0)
  first-of_all = refl

  -- owner 7 was claimed for when owner 5 had asked: its parts that wait come after owner 5's
  other-owner : due (row (Solve question) 7 1 (Running 9 1 ∷ Waiting ∷ []) ∷ row (Solve question) 5 0 (Waiting ∷ []) ∷ []) ≡ Some (2, 0)
  other-owner = refl

  -- nobody else waits: the first waiting part of the same job
  same-owner : due (row (Solve question) 7 1 (Running 9 1 ∷ Waiting ∷ Waiting ∷ []) ∷ row (Solve question) 5 2 (Running 9 2 ∷ []) ∷ []) ≡ Some (1, 1)
  same-owner = refl

  -- three owners: the one whose newest claim is the oldest, though another job of it was claimed
  oldest-claim : due (row (Solve question) 7 5 (Running 9 5 ∷ Waiting ∷ []) ∷ row (Solve question) 5 3 (Running 9 3 ∷ []) ∷ row (Solve question) 6 4 (Running 9 4 ∷ Waiting ∷ [])
      ∷ row (Solve question) 5 0 (Running 9 2 ∷ Waiting ∷ []) ∷ []) ≡ Some (4, 1)
  oldest-claim = refl

  -- a new job of an owner that was claimed for lately waits for the others
  new-job_of_last : due (row (Solve question) 7 2 (Waiting ∷ []) ∷ row (Solve question) 5 3 (Running 9 3 ∷ []) ∷ row (Solve question) 5 0 (Waiting ∷ []) ∷ []) ≡ Some (1, 0)
  new-job_of_last = refl

  -- owners that asked before owner 7 had its last turn come before it, and of two that asked alike the one whose waiting job is first
  asked-before : due (row (Solve question) 7 2 (Waiting ∷ []) ∷ row (Solve question) 5 0 (Waiting ∷ []) ∷ row (Solve question) 6 0 (Waiting ∷ []) ∷ []) ≡ Some (2, 0)
  asked-before = refl

  -- owner 5 asked for the first time after owner 7's last turn: it comes behind
  asked-after : due (row (Solve question) 5 3 (Waiting ∷ []) ∷ row (Solve question) 7 2 (Waiting ∷ []) ∷ []) ≡ Some (2, 0)
  asked-after = refl

  -- it asked right after that turn, before another claim: the job that was there first
  asked-next : due (row (Solve question) 7 2 (Waiting ∷ []) ∷ row (Solve question) 5 2 (Waiting ∷ []) ∷ []) ≡ Some (1, 0)
  asked-next = refl

  -- three claims were given: who asks for the first time stands behind them, and who had a job where it stood
  newcomer : first_turn 5 (row (Solve question) 7 2 (Waiting ∷ []) ∷ []) 3 ≡ 3
  newcomer = refl

  asks-again : first_turn 7 (row (Solve question) 7 2 [] ∷ []) 3 ≡ 0
  asks-again = refl

  -- nothing waits
  nothing-waits : due (row (Solve question) 7 2 (Running 9 2 ∷ []) ∷ row (Solve question) 5 0 [] ∷ []) ≡ None
  nothing-waits = refl

-- a table whose parts stand strain by strain
module _ (hands : FourHands) where
  -- a worker has the first strain: the next one goes on
  second-strain : due (row (Table hands) 7 1 (Running 9 1 ∷ Waiting ∷ Waiting ∷ Waiting ∷ Waiting ∷ Waiting ∷ Waiting ∷ Waiting ∷ []) ∷ []) ≡ Some (1, 4)
  second-strain = refl

  -- each strain has a worker, and the owner's next table has free ones
  next-table : due (row (Table hands) 7 2 (Running 9 1 ∷ Waiting ∷ Waiting ∷ Waiting ∷ Running 8 2 ∷ Waiting ∷ Waiting ∷ Waiting ∷ []) ∷ row (Table hands) 7 0 (Waiting ∷ Waiting ∷ Waiting ∷ Waiting ∷ []) ∷ []) ≡ Some (2, 0)
  next-table = refl

  -- it is another owner's, that was claimed for lately
  next-table_of_other : due (row (Table hands) 7 2 (Running 9 1 ∷ Waiting ∷ Waiting ∷ Waiting ∷ []) ∷ row (Table hands) 5 3 (Running 6 3 ∷ Waiting ∷ Waiting ∷ Waiting ∷ Waiting ∷ Waiting ∷ Waiting ∷ Waiting ∷ []) ∷ []) ≡ Some (1, 1)
  next-table_of_other = refl

  -- its part has ended: so does the first strain
  same-strain : due (row (Table hands) 7 2 (Number 9 ∷ Waiting ∷ Waiting ∷ Waiting ∷ Running 8 2 ∷ Waiting ∷ Waiting ∷ Waiting ∷ []) ∷ []) ≡ Some (1, 1)
  same-strain = refl

  -- each strain has a worker: the first part that waits
  no-strain_is_free : due (row (Table hands) 7 2 (Running 9 1 ∷ Waiting ∷ Waiting ∷ Waiting ∷ Running 8 2 ∷ Waiting ∷ Waiting ∷ Waiting ∷ []) ∷ []) ≡ Some (1, 1)
  no-strain_is_free = refl

-- a play goes from its last part back
module _ (play : plays.Play) where
  last-part : due (row (Play play) 7 0 (Waiting ∷ Waiting ∷ Waiting ∷ Number 1 ∷ []) ∷ []) ≡ Some (1, 2)
  unfolding from_last
  last-part = refl

  -- a worker has a part of the first: the owner's next play
  next-play : due (row (Play play) 7 1 (Waiting ∷ Waiting ∷ Running 9 1 ∷ Number 1 ∷ []) ∷ row (Play play) 7 0 (Waiting ∷ Waiting ∷ []) ∷ []) ≡ Some (2, 1)
  unfolding from_last
  next-play = refl

  part-before : due (row (Play play) 7 1 (Waiting ∷ Waiting ∷ Running 9 1 ∷ Number 1 ∷ []) ∷ []) ≡ Some (1, 1)
  unfolding from_last
  part-before = refl
