-- What the rows of uses have, once each option that was left out has its default.
use Rattle.std.proofs.Common.{◌≡◌, ◌∙◌, ◌⊎◌, ◌≤◌, ◌||◌, ℕ, Bool, cond, codes, true, false, refl, sym, ap, subst, inl, inr, arith, List, [], ◌∷◌, map, Option, Some, None, is_some}
use Rattle.std.specs.Prelude.{IfSome, IsSome, option_and_then, option_map, unwrap_or, fold, pos}
use Rattle.std.specs.List.{find, list_any}
use Rattle.std.specs.Option.{option_or}
use Rattle.std.specs.Str.{bytes_eq}
use Rattle.std.proofs.lemmas.List.Folds.{find-append}
use Rattle.clap.specs.Lexer.{without_minus}
use Rattle.clap.specs.Walk.{Row, Text, has_row, more_values, one_of, reading_by, row_text, with_default, with_values}
use Rattle.clap.specs.Values.{IsSignedIn}
use Rattle.clap.specs.declared.builder.value_parser.Reading.{Reading}
use Rattle.clap.specs.declared.parser.matches.ValueSource.TheVariants.{DefaultValue}
use Rattle.dd_limits.specs.declared.limits.TheConstants.{MOST_SHAPES}
use Rattle.dd_command.specs.declared.command_line.TheConstants.{MOST_WORKERS}
use Rattle.dd_command.specs.CommandLine.{SolveOption, Budget, Entries, Workers, Given, numbered, explained, given_to, gives_flag, is_option}
use Rattle.dd_command.specs.Program.{FitsBits, HasNumbers, number_of}
use Rattle.dd_command.specs.ServeWords.{is_set}
use Rattle.dd_command.proofs.Given.{AllPass, Passes, at-missing, flag-other, given-passes, is-itself, other-flag, row_of, same-name, same-or-other}
use Rattle.dd_command.proofs.Numbers.{budget-accepted, numeral-without_minus, range-accepted, value_of}
use Rattle.dd_command.proofs.Options.{flag_rule, name_of, rule_for, solve_rules}
use Rattle.dd_command.proofs.Runs.{Use}
use Rattle.std.specs.Option.{option_map_or}
use Rattle.std.specs.Prelude.{slice_get}

-- the row of this name
abbrev row_in : Text → List Row → Option Row
row_in name rows = find (λ r. bytes_eq r.id name) rows

-- the rows of the options that are given, with the defaults of those that are not
abbrev pub with_defaults : List Row → List Row
with_defaults rows = fold with_default rows solve_rules

-- ---- defaults

-- some element passes a test where one is found
any-found : {X : Type 0} (p : X → Bool) (xs : List X) → list_any p xs ≡ is_some (find p xs)
any-found p [] = refl
any-found p (x ∷ xs) = go (p x) (any-found p xs)
  where
    go : (b : Bool) → list_any p xs ≡ is_some (find p xs) → (b || list_any p xs) ≡ is_some (cond b (Some x) (find p xs))
    go true e = refl
    go false e = e

-- the row of a default
abbrev default_row : Text → Reading → Text → Row
default_row id how text = record { id = id; values = text ∷ []; count = None; source = Some DefaultValue; reading = how }

-- the rows with the default where there is no row of its option
abbrev filled_by : Text → Reading → Text → List Row → List Row
filled_by id how text rows = cond (has_row id rows) rows (with_values id how DefaultValue (text ∷ []) rows)

-- its own row is then there
filled-own : (id : Text) (how : Reading) (text : Text) (rows : List Row) → bytes_eq id id ≡ true
    → row_in id (filled_by id how text rows) ≡ option_or (row_in id rows) (Some (default_row id how text))
filled-own id how text rows own = go (has_row id rows) refl
  where
    there : (o : Option Row) → is_some o ≡ true → o ≡ option_or o (Some (default_row id how text))
    there None e = cc
    there (Some r) e = refl

    go : (b : Bool) → has_row id rows ≡ b
        → row_in id (cond b rows (with_values id how DefaultValue (text ∷ []) rows)) ≡ option_or (row_in id rows) (Some (default_row id how text))
    go true is = there (row_in id rows) (sym (any-found (λ (r : Row). bytes_eq r.id id) rows) ∙ is)
    go false is =
        let last : row_in id (default_row id how text ∷ []) ≡ Some (default_row id how text) = rw own refl in
        ap (row_in id) (at-missing id (more_values DefaultValue (text ∷ [])) (default_row id how text ∷ []) rows is)
        ∙ find-append (λ (r : Row). bytes_eq r.id id) rows (default_row id how text ∷ []) ∙ ap (option_or (row_in id rows)) last

-- where there is nothing else it is what there is
none-more : (o : Option Row) → option_or o None ≡ o
none-more None = refl
none-more (Some r) = refl

-- another's is as it was
filled-other : (id other : Text) (how : Reading) (text : Text) (rows : List Row) → bytes_eq id other ≡ false → row_in other (filled_by id how text rows) ≡ row_in other rows
filled-other id other how text rows differs = go (has_row id rows) refl
  where
    go : (b : Bool) → has_row id rows ≡ b → row_in other (cond b rows (with_values id how DefaultValue (text ∷ []) rows)) ≡ row_in other rows
    go true is = refl
    go false is =
        let last : row_in other (default_row id how text ∷ []) ≡ None = rw differs refl in
        ap (row_in other) (at-missing id (more_values DefaultValue (text ∷ [])) (default_row id how text ∷ []) rows is)
        ∙ find-append (λ (r : Row). bytes_eq r.id other) rows (default_row id how text ∷ []) ∙ ap (option_or (row_in other rows)) last
        ∙ none-more (row_in other rows)

-- the rows with the defaults of the two options that have one, and of the flag
abbrev with_entries : List Row → List Row
with_entries = filled_by (codes "entries") (reading_by (rule_for Entries)) (codes "4096")

abbrev with_workers : List Row → List Row
with_workers = filled_by (codes "workers") (reading_by (rule_for Workers)) (codes "1")

abbrev with_flag : List Row → List Row
with_flag = filled_by (codes "explain") (reading_by flag_rule) (codes "false")

-- where an option has no default nothing changes
same-both : (b : Bool) (rows : List Row) → cond b rows rows ≡ rows
same-both true rows = refl
same-both false rows = refl

-- so all defaults are these three
three-defaults : (rows : List Row) → with_defaults rows ≡ with_flag (with_workers (with_entries rows))
three-defaults rows =
    let filled_rows = with_flag (with_workers (with_entries (with_default rows (rule_for Budget)))) in
    same-both (has_row (codes "help") filled_rows) filled_rows ∙ ap (λ r. with_flag (with_workers (with_entries r))) (same-both (has_row (codes "budget") rows) rows)

-- the text that stands for an option that is left out
abbrev default_text : SolveOption → Option Text
default_text Budget = None
default_text Entries = Some (codes "4096")
default_text Workers = Some (codes "1")

abbrev default_of : SolveOption → Option Row
default_of o = option_map (default_row (name_of o) (reading_by (rule_for o))) (default_text o)

-- the row of an option is its own or that of its default
own-or-default : (o : SolveOption) (rows : List Row) → row_in (name_of o) (with_workers (with_entries rows)) ≡ option_or (row_in (name_of o) rows) (default_of o)
own-or-default Budget rows =
    filled-other (codes "workers") (codes "budget") (reading_by (rule_for Workers)) (codes "1") (with_entries rows) refl
    ∙ filled-other (codes "entries") (codes "budget") (reading_by (rule_for Entries)) (codes "4096") rows refl ∙ sym (none-more (row_in (codes "budget") rows))
own-or-default Entries rows =
    filled-other (codes "workers") (codes "entries") (reading_by (rule_for Workers)) (codes "1") (with_entries rows) refl
    ∙ filled-own (codes "entries") (reading_by (rule_for Entries)) (codes "4096") rows refl
own-or-default Workers rows =
    filled-own (codes "workers") (reading_by (rule_for Workers)) (codes "1") (with_entries rows) refl
    ∙ ap (λ o. option_or o (default_of Workers)) (filled-other (codes "entries") (codes "workers") (reading_by (rule_for Entries)) (codes "4096") rows refl)

-- the flag's default leaves it as it is
own-beside-flag : (o : SolveOption) (rows : List Row) → row_in (name_of o) (with_flag (with_workers (with_entries rows))) ≡ option_or (row_in (name_of o) rows) (default_of o)
own-beside-flag o rows =
    filled-other (codes "explain") (name_of o) (reading_by flag_rule) (codes "false") (with_workers (with_entries rows)) (flag-other o) ∙ own-or-default o rows

-- the row of the flag is its own or that of its default
flag-or-default : (rows : List Row)
    → row_in (codes "explain") (with_flag (with_workers (with_entries rows))) ≡ option_or (row_in (codes "explain") rows) (Some (default_row (codes "explain") (reading_by flag_rule) (codes "false")))
flag-or-default rows =
    filled-own (codes "explain") (reading_by flag_rule) (codes "false") (with_workers (with_entries rows)) refl
    ∙ ap (λ o. option_or o (Some (default_row (codes "explain") (reading_by flag_rule) (codes "false"))))
    (filled-other (codes "workers") (codes "explain") (reading_by (rule_for Workers)) (codes "1") (with_entries rows) refl
    ∙ filled-other (codes "entries") (codes "explain") (reading_by (rule_for Entries)) (codes "4096") rows refl)

-- ---- uses

-- the row of an option among those of uses is that of its use
used-row : (o : SolveOption) (us : List Use) → row_in (name_of o) (map row_of us) ≡ option_map (λ text. row_of (numbered o text)) (given_to o us)
used-row o [] = refl
used-row o (explained ∷ us) = rw (flag-other o) (used-row o us)
used-row o (numbered p text ∷ us) = go (same-or-other p o) (used-row o us)
  where
    go : (p ≡ o) ⊎ (is_option p o ≡ false) → row_in (name_of o) (map row_of us) ≡ option_map (λ t. row_of (numbered o t)) (given_to o us)
        → row_in (name_of o) (map row_of (numbered p text ∷ us)) ≡ option_map (λ t. row_of (numbered o t)) (given_to o (numbered p text ∷ us))
    go (inl same) later =
        subst (λ q. row_in (name_of q) (map row_of (numbered p text ∷ us)) ≡ option_map (λ t. row_of (numbered q t)) (given_to q (numbered p text ∷ us))) same
        (rw (same-name p p ∙ is-itself p, is-itself p) refl)
    go (inr other) later = rw (same-name p o ∙ other, other) later

-- the row of the flag among those of uses is there where it is used
abbrev flag_row : Bool → Option Row
flag_row true = Some (row_of explained)
flag_row false = None

used-flag : (us : List Use) → row_in (codes "explain") (map row_of us) ≡ flag_row (gives_flag us)
used-flag [] = refl
used-flag (explained ∷ us) = refl
used-flag (numbered o text ∷ us) = rw (other-flag o) (used-flag us)

-- so the flag is set exactly where it is used
flag-read : (us : List Use) → is_set (codes "explain") (with_defaults (map row_of us)) ≡ gives_flag us
flag-read us =
    ap (λ rows. is_set (codes "explain") rows) (three-defaults (map row_of us))
    ∙ ap set_by (flag-or-default (map row_of us) ∙ ap (λ r. option_or r (Some (default_row (codes "explain") (reading_by flag_rule) (codes "false")))) (used-flag us))
    ∙ by-flag (gives_flag us)
  where
    set_by : Option Row → Bool
    set_by row = option_map_or (λ text. bytes_eq text (codes "true")) (option_and_then (λ r. slice_get r.values 0) row) false

    by-flag : (b : Bool) → set_by (option_or (flag_row b) (Some (default_row (codes "explain") (reading_by flag_rule) (codes "false")))) ≡ b
    by-flag true = refl
    by-flag false = refl

-- a text that passes is read as it is written
read-as-written : (most : ℕ) (text : Text) → IsSignedIn (pos 1) (pos most) text → without_minus text ≡ text
read-as-written most text passes = numeral-without_minus text (range-accepted most text passes).0.0

-- the text that is read of an option is the one of its use, or that of its default
read-text : (o : SolveOption) (given : Option Text) → IfSome given (Passes o)
    → option_and_then row_text (option_or (option_map (λ text. row_of (numbered o text)) given) (default_of o)) ≡ option_or given (default_text o)
read-text Budget None passes = refl
read-text Budget (Some text) passes = refl
read-text Entries None passes = refl
read-text Entries (Some text) passes = ap Some (read-as-written MOST_SHAPES text passes)
read-text Workers None passes = refl
read-text Workers (Some text) passes = ap Some (read-as-written MOST_WORKERS text passes)

use-read : (o : SolveOption) (us : List Use) → AllPass us → one_of (name_of o) (with_defaults (map row_of us)) ≡ option_or (given_to o us) (default_text o)
use-read o us passes =
    ap (λ rows. one_of (name_of o) rows) (three-defaults (map row_of us))
    ∙ ap (option_and_then row_text) (own-beside-flag o (map row_of us) ∙ ap (λ r. option_or r (default_of o)) (used-row o us))
    ∙ read-text o (given_to o us) (given-passes o us passes)

-- ---- numbers

-- the uses with their numbers in place of their texts
abbrev pub number_in : Use → Given ℕ
number_in (numbered o text) = numbered o (value_of text)
number_in explained = explained

abbrev pub numbers_of : List Use → List (Given ℕ)
numbers_of us = map number_in us

-- what an option is given by its number
pub given-number : (o : SolveOption) (us : List Use) → given_to o (numbers_of us) ≡ option_map value_of (given_to o us)
given-number o [] = refl
given-number o (explained ∷ us) = given-number o us
given-number o (numbered p text ∷ us) = go (is_option p o) (given-number o us)
  where
    go : (b : Bool) → given_to o (numbers_of us) ≡ option_map value_of (given_to o us)
        → cond b (Some (value_of text)) (given_to o (numbers_of us)) ≡ option_map value_of (cond b (Some text) (given_to o us))
    go true e = refl
    go false e = e

-- the flag is as it was
pub given-flag : (us : List Use) → gives_flag (numbers_of us) ≡ gives_flag us
given-flag [] = refl
given-flag (explained ∷ us) = refl
given-flag (numbered o text ∷ us) = given-flag us

-- the rows have what the options are given, or their defaults
pub record Reads (rows : List Row) (given : List (Given ℕ)) : Type 0 where
  pub has_budget : number_of (codes "budget") rows ≡ given_to Budget given
  pub has_entries : number_of (codes "entries") rows ≡ Some (unwrap_or (given_to Entries given) 4096)
  pub has_workers : number_of (codes "workers") rows ≡ Some (unwrap_or (given_to Workers given) 1)
  pub has_flag : is_set (codes "explain") rows ≡ gives_flag given

-- what stands in place of nothing, by its number
no-default : (given : Option Text) → option_map value_of (option_or given None) ≡ option_map value_of given
no-default None = refl
no-default (Some text) = refl

or-default : (given : Option Text) (default : Text) → option_map value_of (option_or given (Some default)) ≡ Some (unwrap_or (option_map value_of given) (value_of default))
or-default None default = refl
or-default (Some text) default = refl

-- so have those of uses that pass
pub reads-of : (us : List Use) → AllPass us → Reads (with_defaults (map row_of us)) (numbers_of us)
reads-of us passes = record {
  has_budget = ap (option_map value_of) (use-read Budget us passes) ∙ no-default (given_to Budget us) ∙ sym (given-number Budget us);
  has_entries = ap (option_map value_of) (use-read Entries us passes) ∙ or-default (given_to Entries us) (codes "4096") ∙ ap (λ n. Some (unwrap_or n 4096)) (sym (given-number Entries us));
  has_workers = ap (option_map value_of) (use-read Workers us passes) ∙ or-default (given_to Workers us) (codes "1") ∙ ap (λ n. Some (unwrap_or n 1)) (sym (given-number Workers us));
  has_flag = flag-read us ∙ sym (given-flag us);
}

-- a budget that passes fits its type
budget-fits : (given : Option Text) → IfSome given (Passes Budget) → IfSome (option_or given None) (FitsBits 64)
budget-fits None passes = tt
budget-fits (Some text) passes =
    let small : value_of text ≤ 1000000000000 = (budget-accepted text passes).1 in
    (passes.0, omega arith)

-- a number of a small range does, and so does its default
range-fits : (most : ℕ) (given : Option Text) (default : Text) → most ≤ 65536 → FitsBits 32 default → IfSome given (IsSignedIn (pos 1) (pos most))
    → IsSome (option_or given (Some default)) × IfSome (option_or given (Some default)) (FitsBits 32)
range-fits most None default small fits passes = (refl, fits)
range-fits most (Some text) default small fits passes =
    let is = range-accepted most text passes in
    let high : value_of text ≤ most = is.1.1 in
    (refl, (is.0.0, omega arith))

-- so the numbers can be read
pub uses-have-numbers : (us : List Use) → AllPass us → HasNumbers (with_defaults (map row_of us))
uses-have-numbers us passes =
    let of-entries = range-fits MOST_SHAPES (given_to Entries us) (codes "4096") (omega arith)
    ((omega arith, (omega arith, (omega arith, (omega arith, (omega arith, tt))))), omega arith) (given-passes Entries us passes) in
    let of-workers = range-fits MOST_WORKERS (given_to Workers us) (codes "1") (omega arith) ((omega arith, (omega arith, tt)), omega arith) (given-passes Workers us passes) in (
      subst (λ o. IfSome o (FitsBits 64)) (sym (use-read Budget us passes)) (budget-fits (given_to Budget us) (given-passes Budget us passes)),
      subst IsSome (sym (use-read Entries us passes)) of-entries.0,
      subst (λ o. IfSome o (FitsBits 32)) (sym (use-read Entries us passes)) of-entries.1,
      subst IsSome (sym (use-read Workers us passes)) of-workers.0,
      subst (λ o. IfSome o (FitsBits 32)) (sym (use-read Workers us passes)) of-workers.1,
    )
