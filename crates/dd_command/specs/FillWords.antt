-- To be believed: what a command line of `pbn` asks for.
use Rattle.std.specs.Prelude.{◌≡◌, ℕ, List, [], Option, Some, None, codes, nat_le, if◌then◌else◌, unwrap_or, string_bytes}
use Rattle.clap.specs.Words.{Row, first_of, subcommand_of}
use Rattle.clap.specs.Faults.{fault_of}
use Rattle.dd_limits.specs.declared.limits.TheConstants.{MOST_SHAPES}
use Rattle.dd_command.specs.declared.command_line.Args.{Args}
use Rattle.dd_command.specs.declared.command_line.Args.TheVariants.{Fill, Serve, Solve}
use Rattle.dd_command.specs.declared.command_line.TheConstants.{MOST_WORKERS}
use Rattle.dd_command.specs.Program.{program_app}
use Rattle.dd_command.specs.ServeWords.{HasNumber, IsGiven}

-- the limit that is given, where it is no more than the most; else none
abbrev pub limit_up_to : ℕ → Option ℕ → Option ℕ
limit_up_to most None = None
limit_up_to most (Some number) = (if nat_le number most then Some number else None)

-- what the options of `pbn` ask for, by the rows that the parser of arguments gave them
abbrev pub AsksToFillBy : List Row → Args → Type 0
AsksToFillBy rows (Solve budget entries workers explain) = ⊥
AsksToFillBy rows (Serve listen workers shards entries budget events idle websocket allow_stop explain) = ⊥
AsksToFillBy rows (Fill tags budget entries workers) =
    HasNumber (codes "entries") rows 1 MOST_SHAPES 4096 entries
    × ((given : Option ℕ) × IsGiven 64 (codes "budget") rows given × (budget ≡ limit_up_to 1000000000000 given))
    × (string_bytes tags ≡ unwrap_or (first_of (codes "tags") rows) [])
    × HasNumber (codes "workers") rows 1 MOST_WORKERS 1 workers

-- The line is one of `pbn`: the parser of arguments finds no fault in it, and the arguments are what it makes of the options.
abbrev pub AsksToFill : List (List ℕ) → Args → Type 0
AsksToFill arguments args =
    (rows : List Row) × (fault_of program_app arguments ≡ []) × (subcommand_of program_app arguments ≡ Some (codes "pbn", rows)) × AsksToFillBy rows args
