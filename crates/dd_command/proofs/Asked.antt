-- What the program makes of a line that the parser let through.
use Rattle.std.proofs.Common.{◌≡◌, ◌∙◌, ◌⊎◌, ℕ, Bool, codes, true, false, ◌==◌, ◌≤◌, refl, sym, ap, subst, inl, inr, arith, true≢false, List, [], ◌∷◌, ◌++◌, Option, Some, None}
use Rattle.std.specs.Prelude.{IfErr, slice_index, IfSome, IsErrAnd, Result, Ok, Err, option_map, length, unwrap_or}
use Rattle.std.specs.List.{list_any}
use Rattle.std.specs.Str.{bytes_eq}
use Rattle.clap.specs.Walk.{Row, Text, arg_by_short, has_row, one_of, rows_of}
use Rattle.std.specs.Box.{box_value}
use Rattle.clap.specs.Matches.{found_of, subcommand_name_of}
use Rattle.clap.specs.Simple.{App, HasMatchesOf, subcommand_of, subcommand_rows_of}
use Rattle.clap.specs.Faults.{fault_of}
use Rattle.clap.specs.Kinds.{HasKind, IsAmong}
use Rattle.clap.specs.Values.{kind_of}
use Rattle.clap.specs.declared.error.Error.{Error}
use Rattle.clap.specs.declared.error.kind.ErrorKind.TheVariants.{OutOfMemory}
use Rattle.clap.specs.declared.parser.matches.ArgMatches.{ArgMatches}
use Rattle.clap.specs.declared.parser.matches.ArgMatches.TheViews.{out-ArgMatches, out-SubCommand}
use Rattle.dd_command.specs.CommandLine.{SolveOption, Budget, Entries, Workers, Given, numbered, explained, gives_flag, Asks, AsksToSolve, GiveOptions, HasDefaults, IsBudget, IsEventCount, IsIdle, IsInRange, IsLeftOut, IsSame, IsTableSize, given_to, is_option, word_of}
use Rattle.dd_command.specs.FillWords.{AsksToFillBy, limit_up_to}
use Rattle.dd_command.specs.ServeWords.{AsksToServeBy, is_set}
use Rattle.dd_command.specs.Program.{number_of, program_app}
use Rattle.dd_command.specs.declared.command_line.Args.{Args}
use Rattle.dd_command.specs.declared.command_line.Args.TheVariants.{Fill, Serve, Solve}
use Rattle.dd_command.specs.declared.command_line.TheConstants.{LEAST_EVENTS, MOST_IDLE, MOST_WORKERS}
use Rattle.dd_limits.specs.declared.limits.TheConstants.{MOST_EVENTS, MOST_SHARDS, MOST_SHAPES}
use Rattle.dd_command.proofs.Given.{same-or-other}
use Rattle.dd_command.proofs.Lines.{Asked, asked-of, given-admitted, one-meaning, walked-line}
use Rattle.dd_command.proofs.OtherWords.{IsNamedById, begins, row-left-out}
use Rattle.dd_command.proofs.Programs.{Fills, IsOneOf, Serves, Solves, fill-rows, fill_rows, fill_rules, line-of, serve-rows, serve_rows, serve_rules, solve_rows, solves-free, subcommand-rows}
use Rattle.dd_command.proofs.ServeWords.{given-one, limit-default, limit-fits, limit-one, no-first, no-row, none-given, number-default, number-fits, number-one, up-to-fits}
use Rattle.dd_command.proofs.LeftOut.{Avoids, Each}
use Rattle.dd_command.proofs.Runs.{faultless-runs}
use Rattle.std.proofs.lemmas.Bool.{or_parts}

-- ---- the subcommand

-- a line without a fault enters `solve`, with its rows
enters : (arguments : List Text) (s : Solves arguments) → subcommand_of program_app arguments ≡ Some (codes "solve", solve_rows s.rest)
enters arguments s = ap (subcommand_of program_app) s.line ∙ subcommand-rows s.program s.rest

-- the same of `serve`
enters-serve : (arguments : List Text) (s : Serves arguments) → subcommand_of program_app arguments ≡ Some (codes "serve", serve_rows s.rest)
enters-serve arguments s = ap (subcommand_of program_app) s.line ∙ serve-rows s.program s.rest

-- the parse has the rows of the line
has-rows : (app : App) (arguments : List Text) (m : ArgMatches) → app ≡ program_app → HasMatchesOf app arguments m → subcommand_rows_of m ≡ subcommand_of program_app arguments
has-rows app arguments m is matches = (subst (λ a. HasMatchesOf a arguments m) is matches refl).1

-- and of `pbn`
enters-fill : (arguments : List Text) (s : Fills arguments) → subcommand_of program_app arguments ≡ Some (codes "pbn", fill_rows s.rest)
enters-fill arguments s = ap (subcommand_of program_app) s.line ∙ fill-rows s.program s.rest

-- a line without a fault is one of `solve`, of `serve` or of `pbn`
line-free : (app : App) (arguments : List Text) → app ≡ program_app → fault_of app arguments ≡ [] → IsOneOf arguments
line-free app arguments is free = line-of arguments (subst (λ a. fault_of a arguments ≡ []) is free)

-- two letters that differ
apart : (a b : ℕ) → a ≡ 111 → b ≡ 101 → a ≡ b → ⊥
apart a b is-a is-b same = omega arith

-- `solve` is not `serve`
pub other-name : codes "solve" ≡ codes "serve" → ⊥
other-name e = apart (slice_index (codes "solve") 1) (slice_index (codes "serve") 1) refl refl (ap (λ xs. slice_index xs 1) e)

-- nor is a name of five letters one of three
five-three : (name : Text) → length name ≡ 5 → name ≡ codes "pbn" → ⊥
five-three name five is =
    let three : 5 ≡ 3 = sym five ∙ ap (λ (n : Text). length n) is in
    cc

-- so neither is `pbn`
pub solve-pbn : codes "solve" ≡ codes "pbn" → ⊥
solve-pbn e = five-three (codes "solve") refl e

pub serve-pbn : codes "serve" ≡ codes "pbn" → ⊥
serve-pbn e = five-three (codes "serve") refl e

-- the first part of a value's two
first-part : {X A B : Type 0} (o : Option X) (f : X → A) (g : X → B) → option_map f o ≡ option_map (λ (p : A × B). p.0) (option_map (λ x. (f x, g x)) o)
first-part None f g = refl
first-part (Some x) f g = refl

-- the name of the subcommand is the one beside its rows
same-name : (m : ArgMatches) → subcommand_name_of m ≡ option_map (λ p. p.0) (subcommand_rows_of m)
same-name m = first-part (out-ArgMatches m).subcommand (λ b. (out-SubCommand (box_value b)).name.now) (λ b. rows_of (found_of (out-SubCommand (box_value b)).matches))

-- the parse of a line without a fault met `solve`, `serve` or `pbn`
pub meets : (app : App) (arguments : List Text) (m : ArgMatches) → app ≡ program_app → fault_of app arguments ≡ [] → HasMatchesOf app arguments m
    → (subcommand_name_of m ≡ Some (codes "solve")) ⊎ ((subcommand_name_of m ≡ Some (codes "serve")) ⊎ (subcommand_name_of m ≡ Some (codes "pbn")))
meets app arguments m is free matches = elim (line-free app arguments is free) [
  | inl s ↦ inl (same-name m ∙ ap (option_map (λ p. p.0)) (has-rows app arguments m is matches ∙ enters arguments s))
  | inr (inl s) ↦ inr (inl (same-name m ∙ ap (option_map (λ p. p.0)) (has-rows app arguments m is matches ∙ enters-serve arguments s)))
  | inr (inr s) ↦ inr (inr (same-name m ∙ ap (option_map (λ p. p.0)) (has-rows app arguments m is matches ∙ enters-fill arguments s)))
]

-- the name that the parse met, and its rows, are those of the line
entered-is : (app : App) (arguments : List Text) (m : ArgMatches) (name : Text) (rows : List Row) (entered : Text × List Row) → app ≡ program_app → HasMatchesOf app arguments m
    → subcommand_of program_app arguments ≡ Some entered → subcommand_name_of m ≡ Some name → Some rows ≡ option_map (λ p. p.1) (subcommand_rows_of m)
    → (name ≡ entered.0) × (rows ≡ entered.1)
entered-is app arguments m name rows entered is matches line named has =
    let parse : subcommand_rows_of m ≡ Some entered = has-rows app arguments m is matches ∙ line in
    let names : Some name ≡ Some entered.0 = sym named ∙ same-name m ∙ ap (option_map (λ p. p.0)) parse in
    let all-rows : Some rows ≡ Some entered.1 = has ∙ ap (option_map (λ p. p.1)) parse in
    (let e : name ≡ entered.0 = cc in e, let e : rows ≡ entered.1 = cc in e)

-- the rows that the parse of a line of `solve` met are what the line asks for
pub asked-rows : (app : App) (arguments : List Text) (m : ArgMatches) (rows : List Row) → app ≡ program_app → fault_of app arguments ≡ [] → HasMatchesOf app arguments m
    → subcommand_name_of m ≡ Some (codes "solve") → Some rows ≡ option_map (λ p. p.1) (subcommand_rows_of m) → Asked arguments rows
asked-rows app arguments m rows is free matches named has = elim (line-free app arguments is free) [
  | inl s ↦
      let met = entered-is app arguments m (codes "solve") rows (codes "solve", solve_rows s.rest) is matches (enters arguments s) named has in
      subst (Asked arguments) (sym met.1) (asked-of s.program s.rest arguments _ s.line (faultless-runs s.rest [] s.faultless))
  | inr (inl s) ↦
      let met = entered-is app arguments m (codes "solve") rows (codes "serve", serve_rows s.rest) is matches (enters-serve arguments s) named has in
      absurd (other-name met.0)
  | inr (inr s) ↦
      let met = entered-is app arguments m (codes "solve") rows (codes "pbn", fill_rows s.rest) is matches (enters-fill arguments s) named has in
      absurd (solve-pbn met.0)
]

-- the parse of a line of `serve` has the rows that the line has
pub serve-has : (app : App) (arguments : List Text) (m : ArgMatches) (rows : List Row) → app ≡ program_app → fault_of app arguments ≡ [] → HasMatchesOf app arguments m
    → subcommand_name_of m ≡ Some (codes "serve") → Some rows ≡ option_map (λ p. p.1) (subcommand_rows_of m)
    → (fault_of program_app arguments ≡ []) × (subcommand_of program_app arguments ≡ Some (codes "serve", rows))
serve-has app arguments m rows is free matches named has = elim (line-free app arguments is free) [
  | inl s ↦
      let met = entered-is app arguments m (codes "serve") rows (codes "solve", solve_rows s.rest) is matches (enters arguments s) named has in
      absurd (other-name (sym met.0))
  | inr (inl s) ↦
      let met = entered-is app arguments m (codes "serve") rows (codes "serve", serve_rows s.rest) is matches (enters-serve arguments s) named has in
      (subst (λ a. fault_of a arguments ≡ []) is free, enters-serve arguments s ∙ ap (λ r. Some (codes "serve", r)) (sym met.1))
  | inr (inr s) ↦
      let met = entered-is app arguments m (codes "serve") rows (codes "pbn", fill_rows s.rest) is matches (enters-fill arguments s) named has in
      absurd (serve-pbn met.0)
]

-- the parse of a line of `pbn` has the rows that the line has
pub fill-has : (app : App) (arguments : List Text) (m : ArgMatches) (rows : List Row) → app ≡ program_app → fault_of app arguments ≡ [] → HasMatchesOf app arguments m
    → subcommand_name_of m ≡ Some (codes "pbn") → Some rows ≡ option_map (λ p. p.1) (subcommand_rows_of m)
    → (fault_of program_app arguments ≡ []) × (subcommand_of program_app arguments ≡ Some (codes "pbn", rows))
fill-has app arguments m rows is free matches named has = elim (line-free app arguments is free) [
  | inl s ↦
      let met = entered-is app arguments m (codes "pbn") rows (codes "solve", solve_rows s.rest) is matches (enters arguments s) named has in
      absurd (solve-pbn (sym met.0))
  | inr (inl s) ↦
      let met = entered-is app arguments m (codes "pbn") rows (codes "serve", serve_rows s.rest) is matches (enters-serve arguments s) named has in
      absurd (serve-pbn (sym met.0))
  | inr (inr s) ↦
      let met = entered-is app arguments m (codes "pbn") rows (codes "pbn", fill_rows s.rest) is matches (enters-fill arguments s) named has in
      (subst (λ a. fault_of a arguments ≡ []) is free, enters-fill arguments s ∙ ap (λ r. Some (codes "pbn", r)) (sym met.1))
]

-- ---- the arguments

-- arguments that have the rows' numbers
abbrev HasNumbersOf : List Row → Args → Type 0
HasNumbersOf rows args = (entries : ℕ) × (workers : ℕ) × (number_of (codes "entries") rows ≡ Some entries) × (number_of (codes "workers") rows ≡ Some workers)
    × (args ≡ Solve (number_of (codes "budget") rows) entries workers (is_set (codes "explain") rows))

-- arguments with the numbers of the rows are what the line asks for
pub asks-args : (arguments : List Text) (rows : List Row) (args : Args) → Asked arguments rows → HasNumbersOf rows args → Asks arguments args
asks-args arguments rows args asked has =
    let entries-are : Some has.0 ≡ Some (unwrap_or (given_to Entries asked.given) 4096) = sym has.2 ∙ asked.reads.has_entries in
    let workers-are : Some has.1 ≡ Some (unwrap_or (given_to Workers asked.given) 1) = sym has.3 ∙ asked.reads.has_workers in
    subst (Asks arguments) (sym has.4) (asked.given, asked.asks, asked.reads.has_budget, some-number entries-are, some-number workers-are, asked.reads.has_flag)
  where
    some-number : {m n : ℕ} → Some m ≡ Some n → m ≡ n
    some-number e = cc

-- what is given lies in a range, and so does the default
or-in-range : (most default : ℕ) (given : Option ℕ) → 1 ≤ default → default ≤ most → IfSome given (λ n. (1 ≤ n) × (n ≤ most)) → (1 ≤ unwrap_or given default) × (unwrap_or given default ≤ most)
or-in-range most default None low high fits = (low, high)
or-in-range most default (Some number) low high fits = fits

-- arguments of the rows of `serve` are what the line asks for
pub asks-serve : (arguments : List Text) (rows : List Row) (args : Args) → (fault_of program_app arguments ≡ []) × (subcommand_of program_app arguments ≡ Some (codes "serve", rows))
    → AsksToServeBy rows args → Asks arguments args
asks-serve arguments rows (Solve budget entries workers explain) line by = absurd by
asks-serve arguments rows (Fill tags budget entries workers) line by = absurd by
asks-serve arguments rows (Serve listen workers shards entries budget events idle websocket allow_stop explain) line by = (rows, line.0, line.1, by)

-- the same of the rows of `pbn`
pub asks-fill : (arguments : List Text) (rows : List Row) (args : Args) → (fault_of program_app arguments ≡ []) × (subcommand_of program_app arguments ≡ Some (codes "pbn", rows))
    → AsksToFillBy rows args → Asks arguments args
asks-fill arguments rows (Solve budget entries workers explain) line by = absurd by
asks-fill arguments rows (Serve listen workers shards entries budget events idle websocket allow_stop explain) line by = absurd by
asks-fill arguments rows (Fill tags budget entries workers) line by = (rows, line.0, line.1, by)

-- the numbers of a line that asks lie in their ranges
pub in-range : (arguments : List Text) (args : Args) → Asks arguments args → IsInRange args
in-range arguments (Solve budget entries workers explain) (given, asks, budget-is, entries-are, workers-are, flag-is) =
    let entries-fit = or-in-range MOST_SHAPES 4096 (given_to Entries given) (omega arith) (omega arith) (given-admitted Entries given asks.words asks.gives) in
    let workers-fit = or-in-range MOST_WORKERS 1 (given_to Workers given) (omega arith) (omega arith) (given-admitted Workers given asks.words asks.gives) in
    let workers-range = subst (λ n. (1 ≤ n) × (n ≤ MOST_WORKERS)) (sym workers-are) workers-fit in (
      subst (λ b. IfSome b IsBudget) (sym budget-is) (given-admitted Budget given asks.words asks.gives),
      subst IsTableSize (sym entries-are) entries-fit,
      workers-range.0,
      workers-range.1,
    )
in-range arguments (Serve listen workers shards entries budget events idle websocket allow_stop explain) (rows, free, line, by) =
    let workers-fit = subst (λ n. (1 ≤ n) × (n ≤ MOST_WORKERS)) (sym by.1.2) (number-fits 1 MOST_WORKERS 4 by.1.0 (omega arith) (omega arith)) in
    let shards-fit = subst (λ n. (1 ≤ n) × (n ≤ MOST_SHARDS)) (sym by.2.2) (number-fits 1 MOST_SHARDS 16 by.2.0 (omega arith) (omega arith)) in
    let entries-fit = subst IsTableSize (sym by.3.2) (number-fits 1 MOST_SHAPES 4096 by.3.0 (omega arith) (omega arith)) in
    let events-fit = subst IsEventCount (sym by.5.2) (number-fits LEAST_EVENTS MOST_EVENTS MOST_EVENTS by.5.0 (omega arith) (omega arith)) in
    let budget-fit = subst (λ b. IfSome b IsBudget) (sym by.4.2) (limit-fits 1000000000000 50000000 by.4.0 (omega arith)) in
    let idle-fit = subst (λ i. IfSome i IsIdle) (sym by.6.2) (limit-fits MOST_IDLE 600 by.6.0 (omega arith)) in
    (workers-fit.0, workers-fit.1, shards-fit.0, shards-fit.1, entries-fit, budget-fit, events-fit, idle-fit)
in-range arguments (Fill tags budget entries workers) (rows, free, line, by) =
    let budget-fit = subst (λ b. IfSome b IsBudget) (sym by.1.2) (up-to-fits 1000000000000 by.1.0) in
    let entries-fit = subst IsTableSize (sym by.0.2) (number-fits 1 MOST_SHAPES 4096 by.0.0 (omega arith) (omega arith)) in
    let workers-fit = subst (λ n. (1 ≤ n) × (n ≤ MOST_WORKERS)) (sym by.3.2) (number-fits 1 MOST_WORKERS 1 by.3.0 (omega arith) (omega arith)) in
    (budget-fit, entries-fit, workers-fit.0, workers-fit.1)

-- the name of what a line enters
abbrev entered_name : Option (Text × List Row) → Text
entered_name None = []
entered_name (Some entered) = entered.0

abbrev entered_rows : Option (Text × List Row) → List Row
entered_rows None = []
entered_rows (Some entered) = entered.1

-- a line of `solve` is none of `serve`
solve-only : (arguments : List Text) (given : List (Given ℕ)) (rows : List Row) → AsksToSolve arguments given → subcommand_of program_app arguments ≡ Some (codes "serve", rows) → ⊥
solve-only arguments given rows asks line =
    let as-solve : subcommand_of program_app arguments ≡ Some (codes "solve", solve_rows asks.words) = ap (subcommand_of program_app) asks.line ∙ subcommand-rows asks.program asks.words in
    let both : codes "solve" ≡ codes "serve" = ap entered_name (sym as-solve ∙ line) in
    other-name both

-- nor of `pbn`
solve-no-fill : (arguments : List Text) (given : List (Given ℕ)) (rows : List Row) → AsksToSolve arguments given → subcommand_of program_app arguments ≡ Some (codes "pbn", rows) → ⊥
solve-no-fill arguments given rows asks line =
    let as-solve : subcommand_of program_app arguments ≡ Some (codes "solve", solve_rows asks.words) = ap (subcommand_of program_app) asks.line ∙ subcommand-rows asks.program asks.words in
    let both : codes "solve" ≡ codes "pbn" = ap entered_name (sym as-solve ∙ line) in
    solve-pbn both

-- and a line of `serve` is none of `pbn`
serve-no-fill : (arguments : List Text) (rows rows2 : List Row) → subcommand_of program_app arguments ≡ Some (codes "serve", rows) → subcommand_of program_app arguments ≡ Some (codes "pbn", rows2) → ⊥
serve-no-fill arguments rows rows2 line line2 =
    let both : codes "serve" ≡ codes "pbn" = ap entered_name (sym line ∙ line2) in
    serve-pbn both

-- a line asks for one thing
pub asks-one : (arguments : List Text) (args other : Args) → Asks arguments args → Asks arguments other → IsSame other args
asks-one arguments (Solve b e w y) (Solve c f x z) asks also =
    let same = one-meaning arguments asks.0 also.0 asks.1 also.1 in
    (λ i. Solve ((also.2 ∙ sym same.0 ∙ sym asks.2) i) ((also.3 ∙ sym same.1 ∙ sym asks.3) i) ((also.4 ∙ sym same.2 ∙ sym asks.4) i) ((also.5 ∙ sym same.3 ∙ sym asks.5) i))
asks-one arguments (Solve b e w y) (Serve m x t f c o h j d z) asks also = solve-only arguments asks.0 also.0 asks.1 also.2
asks-one arguments (Serve l w s e b n i k a y) (Solve c f x z) asks also = solve-only arguments also.0 asks.0 also.1 asks.2
asks-one arguments (Serve l w s e b n i k a y) (Serve m x t f c o h j d z) (rows, free, line, by) (rows2, free2, line2, by2) =
    let same : rows2 ≡ rows = ap entered_rows (sym line2 ∙ line) in
    let also = subst (λ r. AsksToServeBy r (Serve m x t f c o h j d z)) same by2 in (
      also.0 ∙ sym by.0,
      number-one (codes "workers") rows 1 MOST_WORKERS 4 x w also.1 by.1,
      number-one (codes "shards") rows 1 MOST_SHARDS 16 t s also.2 by.2,
      number-one (codes "entries") rows 1 MOST_SHAPES 4096 f e also.3 by.3,
      limit-one (codes "budget") rows 1000000000000 50000000 c b also.4 by.4,
      number-one (codes "events") rows LEAST_EVENTS MOST_EVENTS MOST_EVENTS o n also.5 by.5,
      limit-one (codes "idle") rows MOST_IDLE 600 h i also.6 by.6,
      also.7 ∙ sym by.7,
      also.8 ∙ sym by.8,
      also.9 ∙ sym by.9,
    )
asks-one arguments (Solve b e w y) (Fill u c f x) asks also = solve-no-fill arguments asks.0 also.0 asks.1 also.2
asks-one arguments (Fill t b e w) (Solve c f x z) asks also = solve-no-fill arguments also.0 asks.0 also.1 asks.2
asks-one arguments (Serve l w s e b n i k a y) (Fill u c f x) asks also = serve-no-fill arguments asks.0 also.0 asks.2 also.2
asks-one arguments (Fill t b e w) (Serve m x s f c o h j d z) asks also = serve-no-fill arguments also.0 asks.0 also.2 asks.2
asks-one arguments (Fill t b e w) (Fill u c f x) (rows, free, line, by) (rows2, free2, line2, by2) =
    let same : rows2 ≡ rows = ap entered_rows (sym line2 ∙ line) in
    let also = subst (λ r. AsksToFillBy r (Fill u c f x)) same by2 in (
      also.2 ∙ sym by.2,
      also.1.2 ∙ ap (limit_up_to 1000000000000) (given-one 64 (one_of (codes "budget") rows) also.1.0 by.1.0 also.1.1 by.1.1) ∙ sym by.1.2,
      number-one (codes "entries") rows 1 MOST_SHAPES 4096 f e also.0 by.0,
      number-one (codes "workers") rows 1 MOST_WORKERS 1 x w also.3 by.3,
    )

-- ---- what is left out

-- a word of an option begins with it, with or without a text
word-begins : (o : SolveOption) (text : Text) → (begins (word_of o) (word_of o) ≡ true) × (begins (word_of o) (word_of o ++ codes "=" ++ text) ≡ true)
word-begins Budget text = (refl, refl)
word-begins Entries text = (refl, refl)
word-begins Workers text = (refl, refl)

-- words of which none begins with an option give it nothing
gives-nothing : (o : SolveOption) (given : List (Given ℕ)) (words : List Text) → GiveOptions given words → list_any (begins (word_of o)) words ≡ false → given_to o given ≡ None
gives-nothing o [] words gives out = refl
gives-nothing o (explained ∷ given) words (rest, is, gives) out =
    let all-out = subst (λ ws. list_any (begins (word_of o)) ws ≡ false) is out in
    gives-nothing o given rest gives (or_parts (begins (word_of o) (codes "--explain")) (list_any (begins (word_of o)) rest) all-out).1
gives-nothing o (numbered p number ∷ given) words (text, rest, is, admits, forms, gives) out = go (same-or-other p o) (gives-nothing o given rest gives (later forms))
  where
    named : (words ≡ word_of p ∷ text ∷ rest) ⊎ (words ≡ (word_of p ++ codes "=" ++ text) ∷ rest) → list_any (begins (word_of p)) words ≡ true
    named (inl words-are) = subst (λ ws. list_any (begins (word_of p)) ws ≡ true) (sym words-are) (rw (word-begins p text).0 refl)
    named (inr words-are) = subst (λ ws. list_any (begins (word_of p)) ws ≡ true) (sym words-are) (rw (word-begins p text).1 refl)

    later : (words ≡ word_of p ∷ text ∷ rest) ⊎ (words ≡ (word_of p ++ codes "=" ++ text) ∷ rest) → list_any (begins (word_of o)) rest ≡ false
    later (inl words-are) =
        let all-out = subst (λ ws. list_any (begins (word_of o)) ws ≡ false) words-are out in
        let after-flag = (or_parts (begins (word_of o) (word_of p)) _ all-out).1 in
        (or_parts (begins (word_of o) text) _ after-flag).1
    later (inr words-are) =
        let all-out = subst (λ ws. list_any (begins (word_of o)) ws ≡ false) words-are out in
        (or_parts (begins (word_of o) (word_of p ++ codes "=" ++ text)) _ all-out).1

    go : (p ≡ o) ⊎ (is_option p o ≡ false) → given_to o given ≡ None → given_to o (numbered p number ∷ given) ≡ None
    go (inl same) none = absurd (true≢false (sym (subst (λ q. list_any (begins (word_of q)) words ≡ true) same (named forms)) ∙ out))
    go (inr other) none = rw other none

-- words of which none begins with the flag don't give it
gives-no-flag : (given : List (Given ℕ)) (words : List Text) → GiveOptions given words → list_any (begins (codes "--explain")) words ≡ false → gives_flag given ≡ false
gives-no-flag [] words gives out = refl
gives-no-flag (explained ∷ given) words (rest, is, gives) out = absurd (true≢false (subst (λ ws. list_any (begins (codes "--explain")) ws ≡ false) is out))
gives-no-flag (numbered p number ∷ given) words (text, rest, is, admits, forms, gives) out = gives-no-flag given rest gives (later forms)
  where
    later : (words ≡ word_of p ∷ text ∷ rest) ⊎ (words ≡ (word_of p ++ codes "=" ++ text) ∷ rest) → list_any (begins (codes "--explain")) rest ≡ false
    later (inl words-are) =
        let all-out = subst (λ ws. list_any (begins (codes "--explain")) ws ≡ false) words-are out in
        let after-flag = (or_parts (begins (codes "--explain") (word_of p)) _ all-out).1 in
        (or_parts (begins (codes "--explain") text) _ after-flag).1
    later (inr words-are) =
        let all-out = subst (λ ws. list_any (begins (codes "--explain")) ws ≡ false) words-are out in
        (or_parts (begins (codes "--explain") (word_of p ++ codes "=" ++ text)) _ all-out).1

-- nor does such a line
line-gives-no-flag : (arguments : List Text) (given : List (Given ℕ)) → AsksToSolve arguments given → IsLeftOut (codes "--explain") arguments → gives_flag given ≡ false
line-gives-no-flag arguments given asks out =
    let from-line = subst (λ ws. list_any (begins (codes "--explain")) ws ≡ false) asks.line out in
    let after-program = (or_parts (begins (codes "--explain") asks.program) _ from-line).1 in
    gives-no-flag given asks.words asks.gives (or_parts (begins (codes "--explain") (codes "solve")) _ after-program).1

-- so a line of which no word begins with an option gives it nothing
line-gives-nothing : (o : SolveOption) (arguments : List Text) (given : List (Given ℕ)) → AsksToSolve arguments given → IsLeftOut (word_of o) arguments → given_to o given ≡ None
line-gives-nothing o arguments given asks out =
    let from-line = subst (λ ws. list_any (begins (word_of o)) ws ≡ false) asks.line out in
    let after-program = (or_parts (begins (word_of o) asks.program) _ from-line).1 in
    gives-nothing o given asks.words asks.gives (or_parts (begins (word_of o) (codes "solve")) _ after-program).1

-- the rules of `serve` avoid a short flag or a place for this option, and have no default for it
serve-avoids : (o : Text) → bytes_eq (codes "help") o ≡ false → Avoids serve_rules o
serve-avoids o other = record {
  short = λ x. only-help x (104 == x) refl;
  index = λ i. refl;
}
  where
    only-help : (x : ℕ) (b : Bool) → (104 == x) ≡ b → IfSome (arg_by_short serve_rules x) (λ a. bytes_eq a.id o ≡ false)
    only-help x true is = rw is other
    only-help x false is = rw is tt

all-named : Each IsNamedById serve_rules
unfolding IsNamedById
all-named = ((refl, refl), ((refl, refl), ((refl, refl), ((refl, refl), ((refl, refl), ((refl, refl), ((refl, refl), ((refl, refl), ((refl, refl), ((refl, refl), ((refl, refl), tt)))))))))))

-- an option that is left out has no row
left-out : (arguments : List Text) (s : Serves arguments) (rows : List Row) (o : Text) → subcommand_of program_app arguments ≡ Some (codes "serve", rows) → bytes_eq (codes "help") o ≡ false
    → Each (λ a. (bytes_eq a.id o ≡ false) ⊎ (a.defaults ≡ [])) serve_rules → IsLeftOut (45 ∷ 45 ∷ o) arguments → one_of o rows ≡ None
left-out arguments s rows o line other none out =
    let rows-are : rows ≡ serve_rows s.rest = ap entered_rows (sym line ∙ enters-serve arguments s) in
    no-row o rows (subst (λ r. has_row o r ≡ false) (sym rows-are) (row-left-out serve_rules arguments s.program (codes "serve") s.rest o s.line (serve-avoids o other) all-named none out))

-- the same of `pbn`
fill-avoids : (o : Text) → bytes_eq (codes "help") o ≡ false → Avoids fill_rules o
fill-avoids o other = record {
  short = λ x. only-help x (104 == x) refl;
  index = λ i. refl;
}
  where
    only-help : (x : ℕ) (b : Bool) → (104 == x) ≡ b → IfSome (arg_by_short fill_rules x) (λ a. bytes_eq a.id o ≡ false)
    only-help x true is = rw is other
    only-help x false is = rw is tt

fill-named : Each IsNamedById fill_rules
unfolding IsNamedById
fill-named = ((refl, refl), ((refl, refl), ((refl, refl), ((refl, refl), ((refl, refl), tt)))))

fill-left-out : (arguments : List Text) (s : Fills arguments) (rows : List Row) (o : Text) → subcommand_of program_app arguments ≡ Some (codes "pbn", rows) → bytes_eq (codes "help") o ≡ false
    → Each (λ a. (bytes_eq a.id o ≡ false) ⊎ (a.defaults ≡ [])) fill_rules → IsLeftOut (45 ∷ 45 ∷ o) arguments → has_row o rows ≡ false
fill-left-out arguments s rows o line other none out =
    let rows-are : rows ≡ fill_rows s.rest = ap entered_rows (sym line ∙ enters-fill arguments s) in
    subst (λ r. has_row o r ≡ false) (sym rows-are) (row-left-out fill_rules arguments s.program (codes "pbn") s.rest o s.line (fill-avoids o other) fill-named none out)

-- an option that is left out of a line that asks has its default
pub has-defaults : (arguments : List Text) (args : Args) → Asks arguments args → HasDefaults arguments args
has-defaults arguments (Solve budget entries workers explain) (given, asks, budget-is, entries-are, workers-are, flag-is) = (
  λ out. budget-is ∙ line-gives-nothing Budget arguments given asks out,
  λ out. entries-are ∙ ap (λ n. unwrap_or n 4096) (line-gives-nothing Entries arguments given asks out),
  λ out. workers-are ∙ ap (λ n. unwrap_or n 1) (line-gives-nothing Workers arguments given asks out),
  λ out. flag-is ∙ line-gives-no-flag arguments given asks out,
)
has-defaults arguments (Serve listen workers shards entries budget events idle websocket allow_stop explain) (rows, free, line, by) = elim (line-of arguments free) [
  | inl s ↦ absurd (other-name (ap entered_name (sym (enters arguments s) ∙ line)))
  | inr (inr s) ↦ absurd (serve-pbn (ap entered_name (sym line ∙ enters-fill arguments s)))
  | inr (inl s) ↦ (
    λ out. number-default (codes "workers") rows 1 MOST_WORKERS 4 workers (left-out arguments s rows (codes "workers") line refl (inr refl, (inr refl, (inr refl, (inr refl, (inr refl, (inr refl, (inr refl, (inl refl, (inl refl, (inl refl, (inr refl, tt))))))))))) out) by.1,
    λ out. number-default (codes "shards") rows 1 MOST_SHARDS 16 shards (left-out arguments s rows (codes "shards") line refl (inr refl, (inr refl, (inr refl, (inr refl, (inr refl, (inr refl, (inr refl, (inl refl, (inl refl, (inl refl, (inr refl, tt))))))))))) out) by.2,
    λ out. number-default (codes "entries") rows 1 MOST_SHAPES 4096 entries (left-out arguments s rows (codes "entries") line refl (inr refl, (inr refl, (inr refl, (inr refl, (inr refl, (inr refl, (inr refl, (inl refl, (inl refl, (inl refl, (inr refl, tt))))))))))) out) by.3,
    λ out. limit-default (codes "budget") rows 1000000000000 50000000 budget (left-out arguments s rows (codes "budget") line refl (inr refl, (inr refl, (inr refl, (inr refl, (inr refl, (inr refl, (inr refl, (inl refl, (inl refl, (inl refl, (inr refl, tt))))))))))) out) by.4,
    λ out. number-default (codes "events") rows LEAST_EVENTS MOST_EVENTS MOST_EVENTS events (left-out arguments s rows (codes "events") line refl (inr refl, (inr refl, (inr refl, (inr refl, (inr refl, (inr refl, (inr refl, (inl refl, (inl refl, (inl refl, (inr refl, tt))))))))))) out) by.5,
    λ out. limit-default (codes "idle") rows MOST_IDLE 600 idle (left-out arguments s rows (codes "idle") line refl (inr refl, (inr refl, (inr refl, (inr refl, (inr refl, (inr refl, (inr refl, (inl refl, (inl refl, (inl refl, (inr refl, tt))))))))))) out) by.6,
  )
]
has-defaults arguments (Fill tags budget entries workers) (rows, free, line, by) = elim (line-of arguments free) [
  | inl s ↦ absurd (solve-pbn (ap entered_name (sym (enters arguments s) ∙ line)))
  | inr (inl s) ↦ absurd (serve-pbn (ap entered_name (sym (enters-serve arguments s) ∙ line)))
  | inr (inr s) ↦ (
    λ out. by.2 ∙ ap (λ (t : Option Text). unwrap_or t []) (no-first (codes "tags") rows (fill-left-out arguments s rows (codes "tags") line refl (inr refl, (inr refl, (inr refl, (inr refl, (inr refl, tt))))) out)),
    λ out. by.1.2 ∙ ap (limit_up_to 1000000000000) (none-given 64 (one_of (codes "budget") rows) by.1.0 (no-row (codes "budget") rows (fill-left-out arguments s rows (codes "budget") line refl (inr refl, (inr refl, (inr refl, (inr refl, (inr refl, tt))))) out)) by.1.1),
    λ out. number-default (codes "entries") rows 1 MOST_SHAPES 4096 entries (no-row (codes "entries") rows (fill-left-out arguments s rows (codes "entries") line refl (inr refl, (inr refl, (inr refl, (inr refl, (inr refl, tt))))) out)) by.0,
    λ out. number-default (codes "workers") rows 1 MOST_WORKERS 1 workers (no-row (codes "workers") rows (fill-left-out arguments s rows (codes "workers") line refl (inr refl, (inr refl, (inr refl, (inr refl, (inr refl, tt))))) out)) by.3,
  )
]

-- ---- what is refused

-- a line that asks for something has no fault
pub asks-free : (app : App) (arguments : List Text) (args : Args) → app ≡ program_app → Asks arguments args → fault_of app arguments ≡ []
asks-free app arguments (Solve budget entries workers explain) is (given, asks, budget-is, entries-are, workers-are, flag-is) =
    let free = solves-free asks.program asks.words (walked-line arguments given asks).faultless in
    subst (λ a. fault_of a arguments ≡ []) (sym is) (subst (λ ws. fault_of program_app ws ≡ []) (sym asks.line) free)
asks-free app arguments (Serve listen workers shards entries budget events idle websocket allow_stop explain) is asks = subst (λ a. fault_of a arguments ≡ []) (sym is) asks.1
asks-free app arguments (Fill tags budget entries workers) is asks = subst (λ a. fault_of a arguments ≡ []) (sym is) asks.1

-- the parser's error says that memory ran out, or the line asks for nothing
abbrev pub Refuses : List Text → Error → Type 0
Refuses arguments error = (kind_of error ≡ OutOfMemory) ⊎ ((args : Args) → ¬ Asks arguments args)

-- a fault is no fault of a line that asks
pub refusal : (app : App) (arguments : List Text) (error : Error) → app ≡ program_app → HasKind (fault_of app arguments) error → Refuses arguments error
refusal app arguments error is (inl memory) = inl memory
refusal app arguments error is (inr among) = inr (λ args asks. subst (IsAmong (kind_of error)) (asks-free app arguments args is asks) among)

-- two that are there are the same
pub some-same : {a b : Text} → Some a ≡ Some b → a ≡ b
some-same e = cc

-- an error is passed up as it is
pub passed-up : {T : Type 0} (result : Result T Error) (error : Error) (P : Error → Type 0) → IsErrAnd result (λ other. other ≡ error) → P error → IfErr result P
passed-up (Ok x) error P is holds = tt
passed-up (Err other) error P is holds = subst P (sym is) holds
