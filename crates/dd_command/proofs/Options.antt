-- The options of `solve`, and the places of a walk over its arguments.
use Rattle.std.proofs.Common.{◌≡◌, ◌⊎◌, Bool, codes, true, false, refl, sym, inl, inr, List, [], ◌∷◌, Option, None}
use Rattle.std.specs.Prelude.{option_map, fold}
use Rattle.std.specs.Str.{bytes_eq}
use Rattle.std.proofs.lemmas.Slice.Eq.{bytes_eq-Decides}
use Rattle.clap.specs.Walk.{Held, Row, Rule, Text, Waiting, Walk, arg_by_long, settled, walked}
use Rattle.clap.specs.Simple.{Shape, filled, help_rule}
use Rattle.clap.specs.Faults.{settle_fault, walk_fault}
use Rattle.dd_command.specs.CommandLine.{SolveOption, Budget, Entries, Workers}
use Rattle.dd_command.specs.Program.{budget_rule, entries_rule, explain_rule, line_workers_rule, solve_app}

-- an option's name, without the hyphens
abbrev pub name_of : SolveOption → Text
name_of Budget = codes "budget"
name_of Entries = codes "entries"
name_of Workers = codes "workers"

-- its rule once the command is built
abbrev pub rule_for : SolveOption → Rule
rule_for Budget = filled budget_rule
rule_for Entries = filled entries_rule
rule_for Workers = filled line_workers_rule

-- the flag's rule once the command is built
abbrev pub flag_rule : Rule
flag_rule = filled explain_rule

-- the rules of `solve` once it is built: its options, its flag and the call for help
abbrev pub solve_rules : List Rule
solve_rules = rule_for Budget ∷ rule_for Entries ∷ rule_for Workers ∷ flag_rule ∷ filled help_rule ∷ []

-- `solve` once it is built
abbrev pub solve_shape : Shape
solve_shape = record solve_app.top { rules = solve_rules; is_built = true; disable_help_subcommand = true }

-- what is known of a long name
abbrev Known : Text → Type 0
Known name = ((o : SolveOption) × (name ≡ name_of o)) ⊎ ((name ≡ codes "explain") ⊎ ((name ≡ codes "help") ⊎ (arg_by_long solve_rules name ≡ None)))

-- a long name is an option's, or the flag's, or that of the call for help, or nobody's
pub known_name : (name : Text) → Known name
known_name name =
    go (bytes_eq (codes "budget") name) refl (bytes_eq (codes "entries") name) refl (bytes_eq (codes "workers") name) refl (bytes_eq (codes "explain") name) refl
    (bytes_eq (codes "help") name) refl
  where
    go : (b : Bool) → bytes_eq (codes "budget") name ≡ b → (e : Bool) → bytes_eq (codes "entries") name ≡ e → (w : Bool) → bytes_eq (codes "workers") name ≡ w
        → (x : Bool) → bytes_eq (codes "explain") name ≡ x → (h : Bool) → bytes_eq (codes "help") name ≡ h → Known name
    go true is-b e is-e w is-w x is-x h is-h = inl (Budget, sym ((bytes_eq-Decides (codes "budget") name).0 is-b))
    go false is-b true is-e w is-w x is-x h is-h = inl (Entries, sym ((bytes_eq-Decides (codes "entries") name).0 is-e))
    go false is-b false is-e true is-w x is-x h is-h = inl (Workers, sym ((bytes_eq-Decides (codes "workers") name).0 is-w))
    go false is-b false is-e false is-w true is-x h is-h = inr (inl (sym ((bytes_eq-Decides (codes "explain") name).0 is-x)))
    go false is-b false is-e false is-w false is-x true is-h = inr (inr (inl (sym ((bytes_eq-Decides (codes "help") name).0 is-h))))
    go false is-b false is-e false is-w false is-x false is-h = inr (inr (inr (rw (is-b, is-e, is-w, is-x, is-h) refl)))

-- what a walk holds between two arguments
abbrev pub held_rows : List Row → Option (Text × List Text) → Held
held_rows rows pending = record { rows = rows; pending = pending; skip = 0 }

-- a place of the walk before any `--`
abbrev pub here : List Row → Option (Text × List Text) → Waiting → Walk
here rows pending waiting = record { held = held_rows rows pending; waiting = waiting; position = 1; is_trailing = false; stopped = None }

-- an option's text that is read and not yet used
abbrev pub pending_of : Option (SolveOption × Text) → Option (Text × List Text)
pending_of = option_map (λ p. (name_of p.0, p.1 ∷ []))

-- the walk from here over these arguments, and the use of what is pending then, meet no fault
abbrev pub IsFaultless : Walk → List Text → Type 0
IsFaultless w arguments =
    (walk_fault solve_shape [] w arguments ≡ []) × (settle_fault solve_rules false (fold (walked solve_rules []) w arguments).held ≡ [])

-- the rows at the end of the walk from here over these arguments
abbrev pub rows_at_end : Walk → List Text → List Row
rows_at_end w arguments = (settled solve_rules (fold (walked solve_rules []) w arguments).held).rows
