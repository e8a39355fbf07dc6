-- To be believed: what a command line of `serve` asks for.
use Rattle.std.specs.Prelude.{◌≡◌, ◌&&◌, ℕ, zero, suc, List, [], Bool, false, Option, Some, None, codes, nat_le, if◌then◌else◌, unwrap_or, string_bytes}
use Rattle.std.specs.Str.Parse.{digits_value, without_leading_plus}
use Rattle.clap.specs.Words.{Row, first_of, one_of, subcommand_of}
use Rattle.clap.specs.Faults.{fault_of}
use Rattle.dd_limits.specs.declared.limits.TheConstants.{MOST_EVENTS, MOST_SHAPES, MOST_SHARDS}
use Rattle.dd_command.specs.declared.command_line.Args.{Args}
use Rattle.dd_command.specs.declared.command_line.Args.TheVariants.{Fill, Serve, Solve}
use Rattle.dd_command.specs.declared.command_line.TheConstants.{LEAST_EVENTS, MOST_IDLE, MOST_WORKERS}
use Rattle.dd_command.specs.Program.{program_app, FitsBits}
use Rattle.std.specs.Option.{option_map_or}
use Rattle.std.specs.Str.{bytes_eq}

-- the number that is given, where it lies in this range; else the default
abbrev pub number_in : ℕ → ℕ → ℕ → Option ℕ → ℕ
number_in least most default None = default
number_in least most default (Some number) = (if nat_le least number && nat_le number most then number else default)

-- the limit that is given, where it is no more than the most; none where 0 is given; else the default
abbrev pub limit_in : ℕ → ℕ → Option ℕ → Option ℕ
limit_in most default None = Some default
limit_in most default (Some zero) = None
limit_in most default (Some (suc number)) = (if nat_le (suc number) most then Some (suc number) else Some default)

-- what a text gives: the number that it writes, or none, where it writes none of so many bits
abbrev pub IsGivenBy : ℕ → Option (List ℕ) → Option ℕ → Type 0
IsGivenBy bits text (Some number) = (t : List ℕ) × (text ≡ Some t) × FitsBits bits t × (number ≡ digits_value 10 (without_leading_plus t))
IsGivenBy bits text None = (t : List ℕ) → text ≡ Some t → ¬ FitsBits bits t

-- what the option gives, by the text in its row
abbrev pub IsGiven : ℕ → List ℕ → List Row → Option ℕ → Type 0
IsGiven bits option rows given = IsGivenBy bits (one_of option rows) given

-- the same of a number in a range, with its default
abbrev pub HasNumber : List ℕ → List Row → ℕ → ℕ → ℕ → ℕ → Type 0
HasNumber option rows least most default number = (given : Option ℕ) × IsGiven 32 option rows given × (number ≡ number_in least most default given)

-- the same of a limit, which may be none
abbrev pub HasLimit : List ℕ → List Row → ℕ → ℕ → Option ℕ → Type 0
HasLimit option rows most default limit = (given : Option ℕ) × IsGiven 64 option rows given × (limit ≡ limit_in most default given)

-- the flag's text
abbrev pub is_set : List ℕ → List Row → Bool
is_set flag rows = option_map_or (λ text. bytes_eq text (codes "true")) (first_of flag rows) false

-- what the options of `serve` ask for, by the rows that the parser of arguments gave them
abbrev pub AsksToServeBy : List Row → Args → Type 0
AsksToServeBy rows (Solve budget entries workers explain) = ⊥
AsksToServeBy rows (Fill tags budget entries workers) = ⊥
AsksToServeBy rows (Serve listen workers shards entries budget events idle websocket allow_stop explain) =
    (string_bytes listen ≡ unwrap_or (first_of (codes "listen") rows) [])
    × HasNumber (codes "workers") rows 1 MOST_WORKERS 4 workers
    × HasNumber (codes "shards") rows 1 MOST_SHARDS 16 shards
    × HasNumber (codes "entries") rows 1 MOST_SHAPES 4096 entries
    × HasLimit (codes "budget") rows 1000000000000 50000000 budget
    × HasNumber (codes "events") rows LEAST_EVENTS MOST_EVENTS MOST_EVENTS events
    × HasLimit (codes "idle") rows MOST_IDLE 600 idle
    × (websocket ≡ is_set (codes "websocket") rows)
    × (allow_stop ≡ is_set (codes "allow-stop") rows)
    × (explain ≡ is_set (codes "explain") rows)

-- The line is one of `serve`: the parser of arguments finds no fault in it, and the arguments are what it makes of the options.
abbrev pub AsksToServe : List (List ℕ) → Args → Type 0
AsksToServe arguments args =
    (rows : List Row) × (fault_of program_app arguments ≡ []) × (subcommand_of program_app arguments ≡ Some (codes "serve", rows)) × AsksToServeBy rows args
