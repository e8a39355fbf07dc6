-- To be believed: what workers have.
use Rattle.std.specs.Prelude.{ℕ, Bool, false, List, option_map, unwrap_or}
use Rattle.std.specs.Option.{is_some}
use Rattle.std.specs.List.{position}
use Rattle.dd_book.specs.Parts.{runs_by}
use Rattle.dd_book.specs.Jobs.{JobOf, job_at, parts_of}

-- this worker has a part of the job under this claim number
abbrev pub runs_in : ℕ → ℕ → JobOf → Bool
runs_in worker claim job = is_some (position (runs_by worker claim) (parts_of job.stage))

-- and one of the job of this number
abbrev pub runs_at : List JobOf → ℕ → ℕ → ℕ → Bool
runs_at jobs worker number claim = unwrap_or (option_map (runs_in worker claim) (job_at jobs number)) false
