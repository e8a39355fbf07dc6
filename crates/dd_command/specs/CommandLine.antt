-- To be believed: what a command line asks for.
use Rattle.std.specs.Prelude.{⊤, ◌≡◌, ◌≤◌, ◌⊎◌, ℕ, Bool, true, false, if◌then◌else◌, List, [], ◌∷◌, ◌++◌, Option, Some, None, IfSome, unwrap_or, take, length, codes, string_bytes}
use Rattle.std.specs.List.{list_any}
use Rattle.std.specs.Str.{bytes_eq}
use Rattle.std.specs.Str.Parse.{IsNumeral, digits_value, without_leading_plus}
use Rattle.dd_limits.specs.declared.limits.TheConstants.{MOST_EVENTS, MOST_SHAPES, MOST_SHARDS}
use Rattle.dd_command.specs.declared.command_line.Args.{Args}
use Rattle.dd_command.specs.declared.command_line.Args.TheVariants.{Fill, Serve, Solve}
use Rattle.dd_command.specs.declared.command_line.TheConstants.{LEAST_EVENTS, MOST_IDLE, MOST_WORKERS}
use Rattle.dd_command.specs.FillWords.{AsksToFill}
use Rattle.dd_command.specs.ServeWords.{AsksToServe}

-- the bytes of a word
abbrev pub Text : Type 0
Text = List ℕ

-- the text is the number in decimal digits, maybe after a plus sign
abbrev pub IsNumberText : Text → ℕ → Type 0
IsNumberText text number = IsNumeral 10 (without_leading_plus text) × (digits_value 10 (without_leading_plus text) ≡ number)

-- a budget is at most 1,000,000,000,000 positions
abbrev pub IsBudget : ℕ → Type 0
IsBudget positions = positions ≤ 1000000000000

-- a table has at least one entry, and no more than a shard may have shapes
abbrev pub IsTableSize : ℕ → Type 0
IsTableSize entries = (1 ≤ entries) × (entries ≤ MOST_SHAPES)

-- a run has at least 1,024 events, and no more than a journal may have
abbrev pub IsEventCount : ℕ → Type 0
IsEventCount events = (LEAST_EVENTS ≤ events) × (events ≤ MOST_EVENTS)

-- a connection without an open job may be silent for a day at most, in seconds
abbrev pub IsIdle : ℕ → Type 0
IsIdle seconds = seconds ≤ MOST_IDLE

-- the options of `solve`
pub data SolveOption : Type 0 where
  Budget : SolveOption
  Entries : SolveOption
  Workers : SolveOption

-- the word of each
abbrev pub word_of : SolveOption → Text
word_of Budget = codes "--budget"
word_of Entries = codes "--entries"
word_of Workers = codes "--workers"

-- the numbers that each may be given
abbrev pub Admits : SolveOption → ℕ → Type 0
Admits Budget positions = IsBudget positions
Admits Entries entries = IsTableSize entries
Admits Workers workers = (1 ≤ workers) × (workers ≤ MOST_WORKERS)

abbrev pub is_option : SolveOption → SolveOption → Bool
is_option Budget Budget = true
is_option Entries Entries = true
is_option Workers Workers = true
is_option _ _ = false

-- what a line of `solve` gives: an option what it takes, or the flag that replies are explained
pub data Given (X : Type 0) : Type 0 where
  numbered : SolveOption → X → Given X
  explained : Given X

-- what the list gives the option first, if it does at all
abbrev pub given_to : {X : Type 0} → SolveOption → List (Given X) → Option X
given_to option [] = None
given_to option (numbered other x ∷ given) = (if is_option other option then Some x else given_to option given)
given_to option (explained ∷ given) = given_to option given

-- the list gives the flag
abbrev pub gives_flag : {X : Type 0} → List (Given X) → Bool
gives_flag [] = false
gives_flag (numbered other x ∷ given) = gives_flag given
gives_flag (explained ∷ given) = true

-- the list gives no option twice, nor the flag
abbrev pub GivesEachOnce : {X : Type 0} → List (Given X) → Type 0
GivesEachOnce [] = ⊤
GivesEachOnce (numbered option x ∷ given) = (given_to option given ≡ None) × GivesEachOnce given
GivesEachOnce (explained ∷ given) = (gives_flag given ≡ false) × GivesEachOnce given

-- The words give these options these numbers, and the flag, in this order, each number as `--option N` or as `--option=N`, and
-- maybe end with `--`.
abbrev pub GiveOptions : List (Given ℕ) → List Text → Type 0
GiveOptions [] words = (words ≡ []) ⊎ (words ≡ codes "--" ∷ [])
GiveOptions (numbered option number ∷ given) words =
    (text : Text) × (rest : List Text) × IsNumberText text number × Admits option number
    × ((words ≡ word_of option ∷ text ∷ rest) ⊎ (words ≡ (word_of option ++ codes "=" ++ text) ∷ rest)) × GiveOptions given rest
GiveOptions (explained ∷ given) words = (rest : List Text) × (words ≡ codes "--explain" ∷ rest) × GiveOptions given rest

-- The line is the program's name, `solve` and words that give these options these numbers, and maybe the flag, each once, in any order.
pub record AsksToSolve (arguments : List Text) (given : List (Given ℕ)) : Type 0 where
  pub program : Text
  pub words : List Text
  pub line : arguments ≡ program ∷ codes "solve" ∷ words
  pub gives : GiveOptions given words
  pub once : GivesEachOnce given

-- The line asks for this. Without `--budget` there is no limit, without `--entries` there are 4,096 of them, without `--workers` there is one, and
-- without `--explain` replies are not explained.
abbrev pub Asks : List Text → Args → Type 0
Asks arguments (Solve budget entries workers explain) =
    (given : List (Given ℕ)) × AsksToSolve arguments given × (budget ≡ given_to Budget given)
    × (entries ≡ unwrap_or (given_to Entries given) 4096) × (workers ≡ unwrap_or (given_to Workers given) 1) × (explain ≡ gives_flag given)
Asks arguments (Serve listen workers shards entries budget events idle websocket allow_stop explain) = AsksToServe arguments (Serve listen workers shards entries budget events idle websocket allow_stop explain)
Asks arguments (Fill tags budget entries workers) = AsksToFill arguments (Fill tags budget entries workers)

-- the same is asked for: the same numbers, and an address or names of tags of the same text
abbrev pub IsSame : Args → Args → Type 0
IsSame (Solve b e w y) (Solve c f x z) = Solve b e w y ≡ Solve c f x z
IsSame (Serve l w s e b n i k a y) (Serve m x t f c o h j d z) =
    (string_bytes l ≡ string_bytes m) × (w ≡ x) × (s ≡ t) × (e ≡ f) × (b ≡ c) × (n ≡ o) × (i ≡ h) × (k ≡ j) × (a ≡ d) × (y ≡ z)
IsSame (Fill t b e w) (Fill u c f x) = (string_bytes t ≡ string_bytes u) × (b ≡ c) × (e ≡ f) × (w ≡ x)
IsSame (Solve b e w y) (Serve m x t f c o h j d z) = ⊥
IsSame (Serve l w s e b n i k a y) (Solve c f x z) = ⊥
IsSame (Solve b e w y) (Fill u c f x) = ⊥
IsSame (Fill t b e w) (Solve c f x z) = ⊥
IsSame (Serve l w s e b n i k a y) (Fill u c f x) = ⊥
IsSame (Fill t b e w) (Serve m x s f c o h j d z) = ⊥

-- each number lies in its range
abbrev pub IsInRange : Args → Type 0
IsInRange (Solve budget entries workers explain) = IfSome budget IsBudget × IsTableSize entries × (1 ≤ workers) × (workers ≤ MOST_WORKERS)
IsInRange (Serve listen workers shards entries budget events idle websocket allow_stop explain) =
    (1 ≤ workers) × (workers ≤ MOST_WORKERS) × (1 ≤ shards) × (shards ≤ MOST_SHARDS) × IsTableSize entries × IfSome budget IsBudget
    × IsEventCount events × IfSome idle IsIdle
IsInRange (Fill tags budget entries workers) = IfSome budget IsBudget × IsTableSize entries × (1 ≤ workers) × (workers ≤ MOST_WORKERS)

-- no word is the option's name or begins with it
abbrev pub IsLeftOut : Text → List Text → Type 0
IsLeftOut option arguments = list_any (λ word. bytes_eq (take (length option) word) option) arguments ≡ false

-- an option that is left out has its default
abbrev pub HasDefaults : List Text → Args → Type 0
HasDefaults arguments (Solve budget entries workers explain) =
    (IsLeftOut (codes "--budget") arguments → budget ≡ None) × (IsLeftOut (codes "--entries") arguments → entries ≡ 4096)
    × (IsLeftOut (codes "--workers") arguments → workers ≡ 1) × (IsLeftOut (codes "--explain") arguments → explain ≡ false)
HasDefaults arguments (Serve listen workers shards entries budget events idle websocket allow_stop explain) =
    (IsLeftOut (codes "--workers") arguments → workers ≡ 4) × (IsLeftOut (codes "--shards") arguments → shards ≡ 16)
    × (IsLeftOut (codes "--entries") arguments → entries ≡ 4096) × (IsLeftOut (codes "--budget") arguments → budget ≡ Some 50000000)
    × (IsLeftOut (codes "--events") arguments → events ≡ MOST_EVENTS) × (IsLeftOut (codes "--idle") arguments → idle ≡ Some 600)
HasDefaults arguments (Fill tags budget entries workers) =
    (IsLeftOut (codes "--tags") arguments → string_bytes tags ≡ []) × (IsLeftOut (codes "--budget") arguments → budget ≡ None)
    × (IsLeftOut (codes "--entries") arguments → entries ≡ 4096) × (IsLeftOut (codes "--workers") arguments → workers ≡ 1)
