-- To be believed: how many parts of open jobs wait and run.
use Rattle.std.specs.Prelude.{ℕ, Bool, List}
use Rattle.std.specs.List.{count_by, sum_by}
use Rattle.dd_book.specs.declared.part_counts.PartCounts.{PartCounts}
use Rattle.dd_book.specs.declared.parts.Part.{Part}
use Rattle.dd_book.specs.Parts.{is_waiting, is_running}
use Rattle.dd_book.specs.Jobs.{JobOf, parts_of}

-- how many parts of open jobs pass this test
abbrev pub parts_in : (Part → Bool) → List JobOf → ℕ
parts_in test jobs = sum_by (λ (job : JobOf). count_by test (parts_of job.stage)) jobs

-- how many wait for a worker
abbrev pub waiting_in : List JobOf → ℕ
waiting_in jobs = parts_in is_waiting jobs

-- how many a worker has
abbrev pub running_in : List JobOf → ℕ
running_in jobs = parts_in is_running jobs

abbrev pub counts_in : List JobOf → PartCounts
counts_in jobs = record { waiting = waiting_in jobs; running = running_in jobs }
