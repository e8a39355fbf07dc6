-- What the uses of the options give.
use Rattle.std.specs.Prelude.{⊤}
use Rattle.std.proofs.Common.{◌≡◌, ◌∙◌, ◌⊎◌, ◌||◌, ◌&&◌, Bool, cond, codes, true, false, true≢false, refl, sym, ap, subst, inl, inr, List, [], ◌∷◌, ◌++◌, append-nil, append_assoc, map, Some, None}
use Rattle.std.specs.Prelude.{IfSome, pos}
use Rattle.std.specs.Str.{bytes_eq}
use Rattle.std.proofs.lemmas.List.Folds.{list_any-append}
use Rattle.clap.specs.Walk.{Row, Text, at_row, has_row, more_values, reading_by, used, with_values, without}
use Rattle.clap.specs.Kinds.{Kinds, or_else}
use Rattle.clap.specs.Values.{IsSignedIn, IsUnsignedIn}
use Rattle.clap.specs.ValueTests.{accepts}
use Rattle.clap.specs.Faults.{repeat_fault, use_fault, values_fault}
use Rattle.clap.specs.declared.error.kind.ErrorKind.TheVariants.{ArgumentConflict, ValueValidation}
use Rattle.clap.specs.declared.builder.value_parser.Reading.{Reading}
use Rattle.clap.specs.declared.builder.value_parser.ValueParser.{ValueParser}
use Rattle.clap.specs.declared.builder.value_parser.ValueParser.TheVariants.{Signed, Unsigned}
use Rattle.clap.specs.declared.parser.matches.ValueSource.TheVariants.{CommandLine}
use Rattle.clap.proofs.ValueTestLemmas.{Accepts-accepts, accepts-Accepts}
use Rattle.dd_limits.specs.declared.limits.TheConstants.{MOST_SHAPES}
use Rattle.dd_command.specs.declared.command_line.TheConstants.{MOST_WORKERS}
use Rattle.dd_command.specs.CommandLine.{SolveOption, Budget, Entries, Workers, numbered, explained, given_to, gives_flag, is_option, GivesEachOnce}
use Rattle.dd_command.proofs.Options.{flag_rule, name_of, rule_for}
use Rattle.dd_command.proofs.Steps.{first-free, second-free}
use Rattle.dd_command.proofs.Runs.{Leads, Use}
use Rattle.std.proofs.lemmas.Bool.{or_parts}
use Rattle.std.proofs.Math.Bool.{or-false}

-- ---- options

-- options have one name exactly where they are one
pub same-name : (o p : SolveOption) → bytes_eq (name_of o) (name_of p) ≡ is_option o p
same-name Budget Budget = refl
same-name Budget Entries = refl
same-name Budget Workers = refl
same-name Entries Budget = refl
same-name Entries Entries = refl
same-name Entries Workers = refl
same-name Workers Budget = refl
same-name Workers Entries = refl
same-name Workers Workers = refl

pub is-itself : (o : SolveOption) → is_option o o ≡ true
is-itself Budget = refl
is-itself Entries = refl
is-itself Workers = refl

-- an option is another's, or a different one
pub same-or-other : (o p : SolveOption) → (o ≡ p) ⊎ (is_option o p ≡ false)
same-or-other Budget Budget = inl refl
same-or-other Budget Entries = inr refl
same-or-other Budget Workers = inr refl
same-or-other Entries Budget = inr refl
same-or-other Entries Entries = inl refl
same-or-other Entries Workers = inr refl
same-or-other Workers Budget = inr refl
same-or-other Workers Entries = inr refl
same-or-other Workers Workers = inl refl

-- the text passes the option's parser
abbrev pub Passes : SolveOption → Text → Type 0
Passes Budget text = IsUnsignedIn 0 1000000000000 text
Passes Entries text = IsSignedIn (pos 1) (pos MOST_SHAPES) text
Passes Workers text = IsSignedIn (pos 1) (pos MOST_WORKERS) text

-- each text passes the parser of its option
abbrev pub AllPass : List Use → Type 0
AllPass [] = ⊤
AllPass (numbered o text ∷ us) = Passes o text × AllPass us
AllPass (explained ∷ us) = AllPass us

-- what an option is given passes its parser
pub given-passes : (o : SolveOption) (us : List Use) → AllPass us → IfSome (given_to o us) (Passes o)
given-passes o [] passes = tt
given-passes o (explained ∷ us) passes = given-passes o us passes
given-passes o (numbered p text ∷ us) passes = go (same-or-other p o) (given-passes o us passes.1)
  where
    go : (p ≡ o) ⊎ (is_option p o ≡ false) → IfSome (given_to o us) (Passes o) → IfSome (given_to o (numbered p text ∷ us)) (Passes o)
    go (inl same) later = subst (λ q. IfSome (given_to q (numbered p text ∷ us)) (Passes q)) same (rw (is-itself p) passes.0)
    go (inr other) later = rw other later

-- ---- one use

-- the row of a use
abbrev pub row_of : Use → Row
row_of (numbered o text) = record { id = name_of o; values = text ∷ []; count = None; source = Some CommandLine; reading = reading_by (rule_for o) }
row_of explained = record { id = codes "explain"; values = codes "true" ∷ []; count = None; source = Some CommandLine; reading = reading_by flag_rule }

-- what is to be at a row that is missing comes at the end
pub at-missing : (id : Text) (change : Row → List Row) (missing rows : List Row) → has_row id rows ≡ false → at_row id change missing rows ≡ rows ++ missing
at-missing id change missing [] e = refl
at-missing id change missing (r ∷ rs) e =
    let parts = or_parts (bytes_eq r.id id) (has_row id rs) e in
    rw parts.0 (ap (λ xs. r ∷ xs) (at-missing id change missing rs parts.1))

-- a first use adds its row
set-adds : (id : Text) (how : Reading) (text : Text) (rows : List Row) → has_row id rows ≡ false
    → with_values id how CommandLine (text ∷ []) (without id rows) ≡ rows ++ (record { id = id; values = text ∷ []; count = None; source = Some CommandLine; reading = how }) ∷ []
set-adds id how text rows lacks =
    ap (with_values id how CommandLine (text ∷ [])) (at-missing id (λ _. []) [] rows lacks ∙ append-nil rows) ∙ at-missing id (more_values CommandLine (text ∷ [])) _ rows lacks

use-adds : (o : SolveOption) (text : Text) (rows : List Row) → has_row (name_of o) rows ≡ false → used (rule_for o) (text ∷ []) rows ≡ rows ++ row_of (numbered o text) ∷ []
use-adds Budget text rows lacks = set-adds (codes "budget") (reading_by (rule_for Budget)) text rows lacks
use-adds Entries text rows lacks = set-adds (codes "entries") (reading_by (rule_for Entries)) text rows lacks
use-adds Workers text rows lacks = set-adds (codes "workers") (reading_by (rule_for Workers)) text rows lacks

flag-adds : (rows : List Row) → has_row (codes "explain") rows ≡ false → used flag_rule [] rows ≡ rows ++ row_of explained ∷ []
flag-adds rows lacks = set-adds (codes "explain") (reading_by flag_rule) (codes "true") rows lacks

-- an option has a row where it had one, or is the one that was used
row-added : (p o : SolveOption) (text : Text) (rows : List Row) → has_row (name_of p) (rows ++ row_of (numbered o text) ∷ []) ≡ (has_row (name_of p) rows || is_option o p)
row-added p o text rows =
    list_any-append (λ (r : Row). bytes_eq r.id (name_of p)) rows (row_of (numbered o text) ∷ []) ∙ ap (λ b. has_row (name_of p) rows || b) (or-false (bytes_eq (name_of o) (name_of p)) ∙ same-name o p)

-- the flag's name is no option's
pub flag-other : (o : SolveOption) → bytes_eq (codes "explain") (name_of o) ≡ false
flag-other Budget = refl
flag-other Entries = refl
flag-other Workers = refl

pub other-flag : (o : SolveOption) → bytes_eq (name_of o) (codes "explain") ≡ false
other-flag Budget = refl
other-flag Entries = refl
other-flag Workers = refl

-- so no row of an option comes by the flag
row-flagged : (p : SolveOption) (rows : List Row) → has_row (name_of p) (rows ++ row_of explained ∷ []) ≡ has_row (name_of p) rows
row-flagged p rows =
    list_any-append (λ (r : Row). bytes_eq r.id (name_of p)) rows (row_of explained ∷ []) ∙ ap (λ b. has_row (name_of p) rows || b) (or-false (bytes_eq (codes "explain") (name_of p)) ∙ flag-other p) ∙ or-false (has_row (name_of p) rows)

-- nor the flag's by an option
flag-kept : (o : SolveOption) (text : Text) (rows : List Row) → has_row (codes "explain") (rows ++ row_of (numbered o text) ∷ []) ≡ has_row (codes "explain") rows
flag-kept o text rows =
    list_any-append (λ (r : Row). bytes_eq r.id (codes "explain")) rows (row_of (numbered o text) ∷ []) ∙ ap (λ b. has_row (codes "explain") rows || b) (or-false (bytes_eq (name_of o) (codes "explain")) ∙ other-flag o) ∙ or-false (has_row (codes "explain") rows)

-- by the flag it has one
flag-there : (rows : List Row) → has_row (codes "explain") (rows ++ row_of explained ∷ []) ≡ true
flag-there rows = list_any-append (λ (r : Row). bytes_eq r.id (codes "explain")) rows (row_of explained ∷ []) ∙ on-right (has_row (codes "explain") rows)
  where
    on-right : (b : Bool) → (b || true) ≡ true
    on-right true = refl
    on-right false = refl

-- a parser that has no fault at a text accepts it
accepted : (parser : ValueParser) (text : Text) (rest : Kinds)
    → or_else (cond (accepts false parser text) [] (ValueValidation ∷ [])) rest ≡ [] → accepts false parser text ≡ true
accepted parser text rest free = go (accepts false parser text) refl (first-free _ rest free)
  where
    go : (b : Bool) → accepts false parser text ≡ b → cond b [] (ValueValidation ∷ []) ≡ [] → b ≡ true
    go true is e = refl
    go false is e = cc

-- a use without a fault has a text that passes
use-passes : (o : SolveOption) (text : Text) (rows : List Row) → use_fault false (rule_for o) (text ∷ []) rows ≡ [] → Passes o text
use-passes Budget text rows free =
    accepts-Accepts false (Unsigned 0 1000000000000) text
    (accepted (Unsigned 0 1000000000000) text [] (second-free (repeat_fault false (codes "budget") rows) (values_fault (rule_for Budget) (text ∷ [])) free))
use-passes Entries text rows free =
    accepts-Accepts false (Signed (pos 1) (pos MOST_SHAPES)) text
    (accepted (Signed (pos 1) (pos MOST_SHAPES)) text [] (second-free (repeat_fault false (codes "entries") rows) (values_fault (rule_for Entries) (text ∷ [])) free))
use-passes Workers text rows free =
    accepts-Accepts false (Signed (pos 1) (pos MOST_WORKERS)) text
    (accepted (Signed (pos 1) (pos MOST_WORKERS)) text [] (second-free (repeat_fault false (codes "workers") rows) (values_fault (rule_for Workers) (text ∷ [])) free))

-- and is the first of its option
first-lacks : (id : Text) (rows : List Row) → repeat_fault false id rows ≡ [] → has_row id rows ≡ false
first-lacks id rows free = go (has_row id rows) free
  where
    go : (b : Bool) → cond (b && true) (ArgumentConflict ∷ []) [] ≡ [] → b ≡ false
    go true e = cc
    go false e = refl

use-lacks : (o : SolveOption) (text : Text) (rows : List Row) → use_fault false (rule_for o) (text ∷ []) rows ≡ [] → has_row (name_of o) rows ≡ false
use-lacks Budget text rows free = first-lacks (codes "budget") rows (first-free (repeat_fault false (codes "budget") rows) (values_fault (rule_for Budget) (text ∷ [])) free)
use-lacks Entries text rows free = first-lacks (codes "entries") rows (first-free (repeat_fault false (codes "entries") rows) (values_fault (rule_for Entries) (text ∷ [])) free)
use-lacks Workers text rows free = first-lacks (codes "workers") rows (first-free (repeat_fault false (codes "workers") rows) (values_fault (rule_for Workers) (text ∷ [])) free)

-- so is a use of the flag without one
flag-lacks : (rows : List Row) → use_fault false flag_rule [] rows ≡ [] → has_row (codes "explain") rows ≡ false
flag-lacks rows free = first-lacks (codes "explain") rows (first-free (repeat_fault false (codes "explain") rows) (values_fault flag_rule (codes "true" ∷ [])) free)

-- and its first use has none
flag-free : (rows : List Row) → has_row (codes "explain") rows ≡ false → use_fault false flag_rule [] rows ≡ []
flag-free rows lacks = rw lacks refl

-- a first use with a text that passes has no fault
use-free : (o : SolveOption) (text : Text) (rows : List Row) → has_row (name_of o) rows ≡ false → Passes o text → use_fault false (rule_for o) (text ∷ []) rows ≡ []
use-free Budget text rows lacks passes = rw (lacks, Accepts-accepts false (Unsigned 0 1000000000000) text passes) refl
use-free Entries text rows lacks passes = rw (lacks, Accepts-accepts false (Signed (pos 1) (pos MOST_SHAPES)) text passes) refl
use-free Workers text rows lacks passes = rw (lacks, Accepts-accepts false (Signed (pos 1) (pos MOST_WORKERS)) text passes) refl

-- ---- uses in turn

-- each option is used once, none that has a row already, each text passes, and the rows of the uses are added
pub record Once (rows : List Row) (us : List Use) (out : List Row) : Type 0 where
  pub once : GivesEachOnce us
  pub passes : AllPass us
  pub adds : out ≡ rows ++ map row_of us
  pub later : (p : SolveOption) → has_row (name_of p) rows ≡ true → given_to p us ≡ None
  pub later_flag : has_row (codes "explain") rows ≡ true → gives_flag us ≡ false

-- uses in turn without a fault are so
pub once-of : (us : List Use) (rows out : List Row) → Leads rows us out → Once rows us out
once-of [] rows out leads = record { once = tt; passes = tt; adds = sym leads ∙ sym (append-nil rows); later = λ p has. refl; later_flag = λ has. refl }
once-of (explained ∷ us) rows out leads =
    let lacks = flag-lacks rows leads.0 in
    let rest = once-of us (rows ++ row_of explained ∷ []) out (subst (λ r. Leads r us out) (flag-adds rows lacks) leads.1) in
    record {
      once = (rest.later_flag (flag-there rows), rest.once);
      passes = rest.passes;
      adds = rest.adds ∙ append_assoc rows (row_of explained ∷ []) (map row_of us);
      later = λ p has. rest.later p (row-flagged p rows ∙ has);
      later_flag = λ has. absurd (true≢false (sym has ∙ lacks));
    }
once-of (numbered o text ∷ us) rows out leads =
    let lacks = use-lacks o text rows leads.0 in
    let rest = once-of us (rows ++ row_of (numbered o text) ∷ []) out (subst (λ r. Leads r us out) (use-adds o text rows lacks) leads.1) in
    record {
      once = (rest.later o (row-added o o text rows ∙ rw (lacks, is-itself o) refl), rest.once);
      passes = (use-passes o text rows leads.0, rest.passes);
      adds = rest.adds ∙ append_assoc rows (row_of (numbered o text) ∷ []) (map row_of us);
      later = λ p has. again p has lacks rest.later (same-or-other o p);
      later_flag = λ has. rest.later_flag (flag-kept o text rows ∙ has);
    }
  where
    again : (p : SolveOption) → has_row (name_of p) rows ≡ true → has_row (name_of o) rows ≡ false
        → ((q : SolveOption) → has_row (name_of q) (rows ++ row_of (numbered o text) ∷ []) ≡ true → given_to q us ≡ None)
        → (o ≡ p) ⊎ (is_option o p ≡ false) → given_to p (numbered o text ∷ us) ≡ None
    again p has lacks later (inl same) = absurd (true≢false (sym has ∙ subst (λ q. has_row (name_of q) rows ≡ false) same lacks))
    again p has lacks later (inr other) = rw other (later p (row-added p o text rows ∙ rw has refl))

-- uses that are so meet no fault
pub once-leads : (us : List Use) (rows : List Row) → GivesEachOnce us → AllPass us → ((p : SolveOption) → has_row (name_of p) rows ≡ true → given_to p us ≡ None)
    → (has_row (codes "explain") rows ≡ true → gives_flag us ≡ false) → Leads rows us (rows ++ map row_of us)
once-leads [] rows once passes later later_flag = sym (append-nil rows)
once-leads (explained ∷ us) rows once passes later later_flag =
    let lacks = fresh (has_row (codes "explain") rows) refl in
    let now = rows ++ row_of explained ∷ [] in
    let rest = once-leads us now once.1 passes (λ p has. later p (sym (row-flagged p rows) ∙ has)) (λ has. once.0) in (
      flag-free rows lacks,
      subst (λ r. Leads r us (rows ++ map row_of (explained ∷ us))) (sym (flag-adds rows lacks)) (subst (Leads now us) (append_assoc rows (row_of explained ∷ []) (map row_of us)) rest),
    )
  where
    fresh : (b : Bool) → has_row (codes "explain") rows ≡ b → has_row (codes "explain") rows ≡ false
    fresh false is = is
    fresh true is = absurd (true≢false (later_flag is))
once-leads (numbered o text ∷ us) rows once passes later later_flag =
    let lacks = fresh (has_row (name_of o) rows) refl (later o) in
    let now = rows ++ row_of (numbered o text) ∷ [] in
    let rest = once-leads us now once.1 passes.1 (λ p has. after p has (same-or-other o p)) (λ has. later_flag (sym (flag-kept o text rows) ∙ has)) in (
      use-free o text rows lacks passes.0,
      subst (λ r. Leads r us (rows ++ map row_of (numbered o text ∷ us))) (sym (use-adds o text rows lacks)) (subst (Leads now us) (append_assoc rows (row_of (numbered o text) ∷ []) (map row_of us)) rest),
    )
  where
    had : (a b : Bool) → b ≡ false → (a || b) ≡ true → a ≡ true
    had true b is e = refl
    had false b is e = absurd (true≢false (sym e ∙ is))

    fresh : (b : Bool) → has_row (name_of o) rows ≡ b → (has_row (name_of o) rows ≡ true → given_to o (numbered o text ∷ us) ≡ None) → has_row (name_of o) rows ≡ false
    fresh false is none = is
    fresh true is none =
        let gone = none is in
        let bad = rw (is-itself o) at gone in
        cc

    after : (p : SolveOption) → has_row (name_of p) (rows ++ row_of (numbered o text) ∷ []) ≡ true → (o ≡ p) ⊎ (is_option o p ≡ false) → given_to p us ≡ None
    after p has (inl same) = subst (λ q. given_to q us ≡ None) same once.0
    after p has (inr other) =
        let gone = later p (had (has_row (name_of p) rows) (is_option o p) other (sym (row-added p o text rows) ∙ has)) in
        rw other at gone
