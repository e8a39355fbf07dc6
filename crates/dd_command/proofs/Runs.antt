-- The walk over all the arguments of `solve`.
use Rattle.std.specs.Prelude.{⊤}
use Rattle.std.proofs.Common.{◌≡◌, ◌∙◌, ◌⊎◌, codes, false, refl, sym, ap, subst, inl, inr, List, [], ◌∷◌, Option, Some, None}
use Rattle.clap.specs.Walk.{Row, Text, Walk, idle, option, settled, used, walked}
use Rattle.clap.specs.Kinds.{Kinds, or_else}
use Rattle.clap.specs.Faults.{settle_fault, turn_fault, use_fault, walk_fault}
use Rattle.clap.proofs.OnLiterals.{clap_on_literals}
use Rattle.dd_command.proofs.Numbers.{IsPlain}
use Rattle.dd_command.specs.CommandLine.{SolveOption, Budget, Entries, Workers, Given, numbered, explained}
use Rattle.dd_command.proofs.Options.{IsFaultless, flag_rule, held_rows, here, name_of, pending_of, rows_at_end, rule_for, solve_rules, solve_shape}
use Rattle.dd_command.proofs.Steps.{after_end, after_end-fails, apart-fault, apart-walked, end-walked, first-free, flag-fault, flag-walked, idle-form, joined-fault, joined-walked, second-free, settle-fails, text-free, text-walked, waiting-form}
use Rattle.dd_command.proofs.Words.{with_value}

-- an option with its text, or the flag
abbrev pub Use : Type 0
Use = Given Text

-- an option with its text
abbrev pub Pending : Type 0
Pending = SolveOption × Text

-- an option's word alone
abbrev pub flag : SolveOption → Text
flag o = 45 ∷ 45 ∷ with_value (name_of o) None

-- an option's word with its text
abbrev pub flag_with : Pending → Text
flag_with u = 45 ∷ 45 ∷ with_value (name_of u.0) (Some u.1)

-- the arguments are these uses, and then the end
abbrev pub Spells : List Use → List Text → List Text → Type 0
Spells [] end arguments = arguments ≡ end
Spells (numbered o text ∷ us) end arguments =
    (rest : List Text) × ((arguments ≡ flag o ∷ text ∷ rest) ⊎ (arguments ≡ flag_with (o, text) ∷ rest)) × Spells us end rest
Spells (explained ∷ us) end arguments = (rest : List Text) × (arguments ≡ codes "--explain" ∷ rest) × Spells us end rest

-- nothing, or a last `--`
abbrev pub IsEnd : List Text → Type 0
IsEnd end = (end ≡ []) ⊎ (end ≡ codes "--" ∷ [])

-- the uses in turn meet no fault, and lead from the rows to the rows
abbrev pub Leads : List Row → List Use → List Row → Type 0
Leads rows [] out = rows ≡ out
Leads rows (numbered o text ∷ us) out =
    (use_fault false (rule_for o) (text ∷ []) rows ≡ []) × Leads (used (rule_for o) (text ∷ []) rows) us out
Leads rows (explained ∷ us) out = (use_fault false flag_rule [] rows ≡ []) × Leads (used flag_rule [] rows) us out

-- the use that is pending stands before the uses
abbrev pub with_pending : Option Pending → List Use → List Use
with_pending None us = us
with_pending (Some (o, text)) us = numbered o text ∷ us

-- the arguments are uses which lead from the rows, with a use pending, to the rows
pub record Ran (rows : List Row) (pending : Option Pending) (arguments : List Text) (out : List Row) : Type 0 where
  pub uses : List Use
  pub end : List Text
  pub spells : Spells uses end arguments
  pub ends : IsEnd end
  pub leads : Leads rows (with_pending pending uses) out

-- ---- one word more

-- the first of arguments without a fault has none
faultless-turn : (w : Walk) (word : Text) (rest : List Text) → IsFaultless w (word ∷ rest) → turn_fault solve_shape [] w word ≡ []
unfolding walk_fault
faultless-turn w word rest free = first-free _ _ free.0

-- nor have those after it
faultless-rest : (w after : Walk) (word : Text) (rest : List Text) → walked solve_rules [] w word ≡ after → IsFaultless w (word ∷ rest) → IsFaultless after rest
unfolding walk_fault
faultless-rest w after word rest is free =
    subst (λ v. IsFaultless v rest) is (second-free (turn_fault solve_shape [] w word) (walk_fault solve_shape [] (walked solve_rules [] w word) rest) free.0, free.1)

-- the rows at the end are those after the rest of the arguments
same-end : (w after : Walk) (word : Text) (rest : List Text) → walked solve_rules [] w word ≡ after → rows_at_end after rest ≡ rows_at_end w (word ∷ rest)
same-end w after word rest is = sym (ap (λ v. rows_at_end v rest) is)

-- what is pending is used first
settled-first : (rows : List Row) (pending : Option Pending) (us : List Use) (out : List Row) → settle_fault solve_rules false (held_rows rows (pending_of pending)) ≡ []
    → Leads (settled solve_rules (held_rows rows (pending_of pending))).rows us out → Leads rows (with_pending pending us) out
settled-first rows None us out free leads = leads
settled-first rows (Some (Budget, text)) us out free leads = (free, leads)
settled-first rows (Some (Entries, text)) us out free leads = (free, leads)
settled-first rows (Some (Workers, text)) us out free leads = (free, leads)

-- ---- arguments without a fault are uses

-- what arguments without a fault are, where no option waits
abbrev IdleRuns : List Text → Type 0
IdleRuns arguments = (rows : List Row) (pending : Option Pending) → IsFaultless (here rows (pending_of pending) idle) arguments
    → Ran rows pending arguments (rows_at_end (here rows (pending_of pending) idle) arguments)

-- and where one does
abbrev WaitingRuns : List Text → Type 0
WaitingRuns arguments = (rows : List Row) (o : SolveOption) → IsFaultless (here rows (Some (name_of o, [])) (option (name_of o))) arguments
    → (text : Text) × (rest : List Text) × (arguments ≡ text ∷ rest) × Ran rows (Some (o, text)) rest (rows_at_end (here rows (Some (name_of o, [])) (option (name_of o))) arguments)

-- no word at all
idle-none : IdleRuns []
unfolding walk_fault
idle-none rows pending free = record { uses = []; end = []; spells = refl; ends = inl refl; leads = settled-first rows pending [] _ free.1 refl }

-- an option without its text at the end is a fault
waiting-none : WaitingRuns []
waiting-none rows o free = absurd (settle-fails rows o free.1)

-- after `--` nothing comes
idle-ended : (rest : List Text) (rows : List Row) (pending : Option Pending) → IsFaultless (here rows (pending_of pending) idle) (codes "--" ∷ rest)
    → Ran rows pending (codes "--" ∷ rest) (rows_at_end (here rows (pending_of pending) idle) (codes "--" ∷ rest))
unfolding clap_on_literals
idle-ended [] rows pending free =
    record { uses = []; end = codes "--" ∷ []; spells = refl; ends = inr refl; leads = settled-first rows pending [] _ free.1 refl }
idle-ended (x ∷ xs) rows pending free =
    let later = faultless-rest (here rows (pending_of pending) idle) (after_end rows (pending_of pending) idle) (codes "--") (x ∷ xs) (end-walked rows (pending_of pending) idle) free in
    absurd (after_end-fails rows (pending_of pending) idle x (faultless-turn (after_end rows (pending_of pending) idle) x xs later))

-- `--` in the place of a text is a fault
waiting-ended : (rest : List Text) (rows : List Row) (o : SolveOption) → IsFaultless (here rows (Some (name_of o, [])) (option (name_of o))) (codes "--" ∷ rest) → ⊥
unfolding clap_on_literals
waiting-ended [] rows o free = settle-fails rows o free.1
waiting-ended (x ∷ xs) rows o free =
    let after = after_end rows (Some (name_of o, [])) (option (name_of o)) in
    let later = faultless-rest (here rows (Some (name_of o, [])) (option (name_of o))) after (codes "--") (x ∷ xs) (end-walked rows (Some (name_of o, [])) (option (name_of o))) free in
    after_end-fails rows (Some (name_of o, [])) (option (name_of o)) x (faultless-turn after x xs later)

-- an option with its text in one word, and then the rest
idle-joined : (rest : List Text) → IdleRuns rest → (rows : List Row) (pending : Option Pending) (o : SolveOption) (text : Text)
    → IsFaultless (here rows (pending_of pending) idle) (flag_with (o, text) ∷ rest)
    → Ran rows pending (flag_with (o, text) ∷ rest) (rows_at_end (here rows (pending_of pending) idle) (flag_with (o, text) ∷ rest))
idle-joined rest runs rows pending o text free =
    let before = here rows (pending_of pending) idle in
    let step = joined-walked rows (pending_of pending) o text in
    let faults = first-free _ _ (sym (joined-fault rows (pending_of pending) o text) ∙ faultless-turn before (flag_with (o, text)) rest free) in
    let settles : settle_fault solve_rules false (held_rows rows (pending_of pending)) ≡ [] = first-free _ _ faults in
    let passes : use_fault false (rule_for o) (text ∷ []) (settled solve_rules (held_rows rows (pending_of pending))).rows ≡ [] =
    second-free (settle_fault solve_rules false (held_rows rows (pending_of pending))) _ faults in
    let later = runs (used (rule_for o) (text ∷ []) (settled solve_rules (held_rows rows (pending_of pending))).rows) None (faultless-rest before _ (flag_with (o, text)) rest step free) in
    let same = same-end before _ (flag_with (o, text)) rest step in
    record {
      uses = numbered o text ∷ later.uses;
      end = later.end;
      spells = (rest, inr refl, later.spells);
      ends = later.ends;
      leads = settled-first rows pending (numbered o text ∷ later.uses) _ settles
          (passes, subst (Leads (used (rule_for o) (text ∷ []) (settled solve_rules (held_rows rows (pending_of pending))).rows) later.uses) same later.leads);
    }

-- an option and then its text, and then the rest
idle-apart : (rest : List Text) → WaitingRuns rest → (rows : List Row) (pending : Option Pending) (o : SolveOption)
    → IsFaultless (here rows (pending_of pending) idle) (flag o ∷ rest)
    → Ran rows pending (flag o ∷ rest) (rows_at_end (here rows (pending_of pending) idle) (flag o ∷ rest))
idle-apart rest runs rows pending o free =
    let before = here rows (pending_of pending) idle in
    let now = (settled solve_rules (held_rows rows (pending_of pending))).rows in
    let step = apart-walked rows (pending_of pending) o in
    let settles : settle_fault solve_rules false (held_rows rows (pending_of pending)) ≡ [] =
    first-free _ _ (sym (apart-fault rows (pending_of pending) o) ∙ faultless-turn before (flag o) rest free) in
    let later = runs now o (faultless-rest before _ (flag o) rest step free) in
    let same = same-end before _ (flag o) rest step in
    record {
      uses = numbered o later.0 ∷ later.3.uses;
      end = later.3.end;
      spells = (later.1, inl (ap (λ ws. flag o ∷ ws) later.2), later.3.spells);
      ends = later.3.ends;
      leads = settled-first rows pending (numbered o later.0 ∷ later.3.uses) _ settles (subst (Leads now (numbered o later.0 ∷ later.3.uses)) same later.3.leads);
    }

-- the flag, and then the rest
idle-flag : (rest : List Text) → IdleRuns rest → (rows : List Row) (pending : Option Pending) → IsFaultless (here rows (pending_of pending) idle) (codes "--explain" ∷ rest)
    → Ran rows pending (codes "--explain" ∷ rest) (rows_at_end (here rows (pending_of pending) idle) (codes "--explain" ∷ rest))
idle-flag rest runs rows pending free =
    let before = here rows (pending_of pending) idle in
    let now = (settled solve_rules (held_rows rows (pending_of pending))).rows in
    let step = flag-walked rows (pending_of pending) in
    let faults = first-free _ _ (sym (flag-fault rows (pending_of pending)) ∙ faultless-turn before (codes "--explain") rest free) in
    let settles : settle_fault solve_rules false (held_rows rows (pending_of pending)) ≡ [] = first-free _ _ faults in
    let passes : use_fault false flag_rule [] now ≡ [] = second-free (settle_fault solve_rules false (held_rows rows (pending_of pending))) _ faults in
    let later = runs (used flag_rule [] now) None (faultless-rest before _ (codes "--explain") rest step free) in
    let same = same-end before _ (codes "--explain") rest step in
    record {
      uses = explained ∷ later.uses;
      end = later.end;
      spells = (rest, refl, later.spells);
      ends = later.ends;
      leads = settled-first rows pending (explained ∷ later.uses) _ settles (passes, subst (Leads (used flag_rule [] now) later.uses) same later.leads);
    }

-- any word, where no option waits
idle-more : (word : Text) (rest : List Text) → IdleRuns rest → WaitingRuns rest → IdleRuns (word ∷ rest)
idle-more word rest idle-rest waiting-rest rows pending free = elim (idle-form rows (pending_of pending) word (faultless-turn (here rows (pending_of pending) idle) word rest free)) [
  | inl is ↦ as-word (codes "--") is (λ same. idle-ended rest rows pending same)
  | inr (inl (o, None, is)) ↦ as-word (flag o) is (λ same. idle-apart rest waiting-rest rows pending o same)
  | inr (inl (o, Some text, is)) ↦ as-word (flag_with (o, text)) is (λ same. idle-joined rest idle-rest rows pending o text same)
  | inr (inr is) ↦ as-word (codes "--explain") is (λ same. idle-flag rest idle-rest rows pending same)
]
  where
    as-word : (other : Text) → word ≡ other
        → (IsFaultless (here rows (pending_of pending) idle) (other ∷ rest) → Ran rows pending (other ∷ rest) (rows_at_end (here rows (pending_of pending) idle) (other ∷ rest)))
        → Ran rows pending (word ∷ rest) (rows_at_end (here rows (pending_of pending) idle) (word ∷ rest))
    as-word other is runs =
        subst (λ v. Ran rows pending (v ∷ rest) (rows_at_end (here rows (pending_of pending) idle) (v ∷ rest))) (sym is)
        (runs (subst (λ v. IsFaultless (here rows (pending_of pending) idle) (v ∷ rest)) is free))

-- any word, where one does
waiting-more : (word : Text) (rest : List Text) → IdleRuns rest → WaitingRuns (word ∷ rest)
waiting-more word rest idle-rest rows o free = elim (waiting-form rows o word (faultless-turn (here rows (Some (name_of o, [])) (option (name_of o))) word rest free)) [
  | inl is ↦ absurd (waiting-ended rest rows o (subst (λ v. IsFaultless (here rows (Some (name_of o, [])) (option (name_of o))) (v ∷ rest)) is free))
  | inr step ↦
      let later = idle-rest rows (Some (o, word)) (faultless-rest _ _ word rest step free) in
      (word, rest, refl, subst (Ran rows (Some (o, word)) rest) (same-end _ _ word rest step) later)
]

-- arguments without a fault are uses, and maybe a last `--`
runs : (arguments : List Text) → IdleRuns arguments × WaitingRuns arguments
runs [] = (idle-none, waiting-none)
runs (word ∷ rest) =
    let later = runs rest in
    (idle-more word rest later.0 later.1, waiting-more word rest later.0)

-- so of all the arguments of `solve`
pub faultless-runs : (arguments : List Text) (rows : List Row) → IsFaultless (here rows None idle) arguments → Ran rows None arguments (rows_at_end (here rows None idle) arguments)
faultless-runs arguments rows free = (runs arguments).0 rows None free

-- ---- uses that pass are arguments without a fault

-- the text of each use is no flag
abbrev pub ArePlain : List Use → Type 0
ArePlain [] = ⊤
ArePlain (numbered o text ∷ us) = IsPlain text × ArePlain us
ArePlain (explained ∷ us) = ArePlain us

-- uses that pass begin with the one that is pending
settled-back : (rows : List Row) (pending : Option Pending) (us : List Use) (out : List Row) → Leads rows (with_pending pending us) out
    → (settle_fault solve_rules false (held_rows rows (pending_of pending)) ≡ []) × Leads (settled solve_rules (held_rows rows (pending_of pending))).rows us out
settled-back rows None us out leads = (refl, leads)
settled-back rows (Some (Budget, text)) us out leads = (leads.0, leads.1)
settled-back rows (Some (Entries, text)) us out leads = (leads.0, leads.1)
settled-back rows (Some (Workers, text)) us out leads = (leads.0, leads.1)

-- the arguments meet no fault, and lead to the rows
abbrev RunsTo : Walk → List Text → List Row → Type 0
RunsTo w arguments out = IsFaultless w arguments × (rows_at_end w arguments ≡ out)

-- a word without a fault before arguments without one
one-more : (w after : Walk) (word : Text) (rest : List Text) (out : List Row) → turn_fault solve_shape [] w word ≡ [] → walked solve_rules [] w word ≡ after
    → RunsTo after rest out → RunsTo w (word ∷ rest) out
unfolding walk_fault
one-more w after word rest out free is run =
    let moved : RunsTo (walked solve_rules [] w word) rest out = subst (λ v. RunsTo v rest out) (sym is) run in
    ((ap (λ k. or_else k (walk_fault solve_shape [] (walked solve_rules [] w word) rest)) free ∙ moved.0.0, moved.0.1), moved.1)

-- where two steps meet no fault, their chain meets none
pub both-free : (a b : Kinds) → a ≡ [] → b ≡ [] → or_else a b ≡ []
both-free a b is-a is-b = ap (λ k. or_else k b) is-a ∙ is-b

-- the end of the arguments meets no fault
ended-runs : (end : List Text) (rows : List Row) (pending : Option Pending) (out : List Row) → IsEnd end → Leads rows (with_pending pending []) out
    → RunsTo (here rows (pending_of pending) idle) end out
unfolding clap_on_literals
ended-runs end rows pending out ends leads = elim ends [
  | inl is ↦ subst (λ e. RunsTo (here rows (pending_of pending) idle) e out) (sym is) (let back = settled-back rows pending [] out leads in ((refl, back.0), back.1))
  | inr is ↦ subst (λ e. RunsTo (here rows (pending_of pending) idle) e out) (sym is) (let back = settled-back rows pending [] out leads in ((refl, back.0), back.1))
]

-- the arguments of uses that pass meet no fault, and lead where the uses lead
pub uses-run : (us : List Use) (arguments end : List Text) (rows : List Row) (pending : Option Pending) (out : List Row) → Spells us end arguments → IsEnd end → ArePlain us
    → Leads rows (with_pending pending us) out → RunsTo (here rows (pending_of pending) idle) arguments out
uses-run [] arguments end rows pending out spells ends are-plain leads =
    subst (λ ws. RunsTo (here rows (pending_of pending) idle) ws out) (sym spells) (ended-runs end rows pending out ends leads)
uses-run (numbered o text ∷ us) arguments end rows pending out spells ends are-plain leads =
    let now = (settled solve_rules (held_rows rows (pending_of pending))).rows in
    let back = settled-back rows pending (numbered o text ∷ us) out leads in
    elim spells.1 [
      | inl is ↦
          let later = uses-run us spells.0 end now (Some (o, text)) out spells.2 ends are-plain.1 back.1 in
          let from-text = one-more _ _ text spells.0 out (text-free now o text are-plain.0) (text-walked now o text are-plain.0) later in
          let from-flag = one-more _ _ (flag o) (text ∷ spells.0) out
          (apart-fault rows (pending_of pending) o ∙ both-free _ [] back.0 refl) (apart-walked rows (pending_of pending) o) from-text in
          subst (λ ws. RunsTo (here rows (pending_of pending) idle) ws out) (sym is) from-flag
      | inr is ↦
          let later = uses-run us spells.0 end (used (rule_for o) (text ∷ []) now) None out spells.2 ends are-plain.1 back.1.1 in
          let from-flag = one-more _ _ (flag_with (o, text)) spells.0 out
          (joined-fault rows (pending_of pending) o text ∙ both-free _ [] (both-free _ _ back.0 back.1.0) refl) (joined-walked rows (pending_of pending) o text) later in
          subst (λ ws. RunsTo (here rows (pending_of pending) idle) ws out) (sym is) from-flag
    ]
uses-run (explained ∷ us) arguments end rows pending out spells ends are-plain leads =
    let now = (settled solve_rules (held_rows rows (pending_of pending))).rows in
    let back = settled-back rows pending (explained ∷ us) out leads in
    let later = uses-run us spells.0 end (used flag_rule [] now) None out spells.2 ends are-plain back.1.1 in
    let from-flag = one-more _ _ (codes "--explain") spells.0 out
    (flag-fault rows (pending_of pending) ∙ both-free _ [] (both-free _ _ back.0 back.1.0) refl) (flag-walked rows (pending_of pending)) later in
    subst (λ ws. RunsTo (here rows (pending_of pending) idle) ws out) (sym spells.1) from-flag
