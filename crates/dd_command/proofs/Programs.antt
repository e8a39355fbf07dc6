-- The walk over the arguments of the program, of which the first names the subcommand.
use Rattle.std.proofs.Common.{◌≡◌, ◌∙◌, ◌⊎◌, ℕ, Bool, cond, codes, true, false, ◌==◌, ◌||◌, refl, sym, ap, subst, inl, inr, List, [], ◌∷◌, ◌++◌, append-nil, append_assoc, Option, Some, None, is_some}
use Rattle.std.specs.Prelude.{fold, slice_get}
use Rattle.std.specs.Option.{option_map_or}
use Rattle.std.specs.Str.{bytes_eq, chars}
use Rattle.std.proofs.lemmas.Slice.Eq.{bytes_eq-Decides}
use Rattle.clap.specs.Lexer.{long_of, short_of}
use Rattle.clap.specs.Walk.{Held, Names, Row, Rule, Text, Walk, arg_by_long, arg_by_short, finished, has_row, idle, long_or_other, nothing_held, rows_after, settled, short_or_plain, walk_from, walked, with_default}
use Rattle.clap.specs.Simple.{Shape, built, built_leaf, entered, inherited, filled, help_rule, version_rule, names_of, subcommand_of}
use Rattle.clap.specs.Kinds.{Kinds, or_else}
use Rattle.clap.specs.Faults.{bundle_fault, check_fault, default_fault, defaults_fault, given_default_fault, entered_fault, fault_of, flag_word_fault, is_simple_and_free, level_fault, long_fault, settle_fault, short_fault, step_fault, turn_fault, walk_fault}
use Rattle.clap.proofs.OnLiterals.{clap_on_literals}
use Rattle.dd_command.specs.Program.{fill_app, program_app, serve_app}
use Rattle.dd_command.specs.CommandLine.{Budget, Entries, Workers}
use Rattle.dd_command.proofs.Options.{IsFaultless, flag_rule, here, rows_at_end, rule_for, solve_rules, solve_shape}
use Rattle.dd_command.proofs.Runs.{both-free}
use Rattle.dd_command.proofs.UseRows.{with_defaults}
use Rattle.dd_command.proofs.Steps.{first-free, second-free}

-- the parser states the matches and the faults of the program
pub program_is_simple : is_simple_and_free program_app ≡ true
program_is_simple = refl

-- the program's own rules are the calls for help and for the version
abbrev program_rules : List Rule
program_rules = filled help_rule ∷ filled version_rule ∷ []

-- the program without its subcommands, once it is built
abbrev program_shape : Shape
program_shape = (built program_app).top

-- the names of its subcommands
abbrev names : Names
names = names_of (built program_app)

-- a walk that stopped stays, and keeps the arguments that follow
stopped-walk : (w : Walk) (name : Text) (seen rest : List Text)
    → fold (walked program_rules names) (record w { stopped = Some (name, seen) }) rest ≡ record w { stopped = Some (name, seen ++ rest) }
unfolding walked
stopped-walk w name seen [] = ap (λ xs. record w { stopped = Some (name, xs) }) (sym (append-nil seen))
stopped-walk w name seen (x ∷ xs) =
    stopped-walk w name (seen ++ x ∷ []) xs ∙ ap (λ ys. record w { stopped = Some (name, ys) }) (append_assoc seen (x ∷ []) xs)

-- and meets no fault
stopped-free : (w : Walk) (name : Text) (seen rest : List Text) → walk_fault program_shape names (record w { stopped = Some (name, seen) }) rest ≡ []
unfolding walked walk_fault
stopped-free w name seen [] = refl
stopped-free w name seen (x ∷ xs) = stopped-free w name (seen ++ x ∷ []) xs

-- a call for help or for the version is a fault, and so is any other long word
program-long-fails : (name : Text) (value : Option Text) → long_fault program_rules false (arg_by_long program_rules name) value nothing_held ≡ [] → ⊥
program-long-fails name value e = go (bytes_eq (codes "help") name) refl (bytes_eq (codes "version") name) refl value e
  where
    go : (b : Bool) → bytes_eq (codes "help") name ≡ b → (d : Bool) → bytes_eq (codes "version") name ≡ d → (v : Option Text)
        → long_fault program_rules false (arg_by_long program_rules name) v nothing_held ≡ [] → ⊥
    go true is d is-v None free = let bad = rw is at free in cc
    go true is d is-v (Some v) free = let bad = rw is at free in cc
    go false is true is-v None free = let bad = rw (is, is-v) at free in cc
    go false is true is-v (Some v) free = let bad = rw (is, is-v) at free in cc
    go false is false is-v v free = let bad = rw (is, is-v) at free in cc

-- a short flag is a fault
program-flag-fails : (c : ℕ) (rest : Text) (next-fault : Held → Kinds) → short_fault program_rules false (arg_by_short program_rules c) rest nothing_held next-fault ≡ [] → ⊥
program-flag-fails c rest next-fault e = go (104 == c) refl (86 == c) refl e
  where
    go : (b : Bool) → (104 == c) ≡ b → (d : Bool) → (86 == c) ≡ d → short_fault program_rules false (arg_by_short program_rules c) rest nothing_held next-fault ≡ [] → ⊥
    go true is d is-d free = let bad = rw is at free in cc
    go false is true is-d free = let bad = rw (is, is-d) at free in cc
    go false is false is-d free = let bad = rw (is, is-d) at free in cc

-- any other word is one that no positional takes
program-short-fails : (word : Text) (flags : Option Text)
    → or_else (option_map_or (λ f. bundle_fault program_rules false f nothing_held) flags [])
    (step_fault program_shape 1 (short_or_plain program_rules idle word flags nothing_held).0 (short_or_plain program_rules idle word flags nothing_held).1) ≡ [] → ⊥
unfolding clap_on_literals
program-short-fails word None e = cc
program-short-fails word (Some []) e = cc
program-short-fails word (Some (x ∷ xs)) e = go (slice_get (chars (x ∷ xs)) 0) refl
  where
    go : (c : Option ℕ) → slice_get (chars (x ∷ xs)) 0 ≡ c → ⊥
    go None is =
        let bad = rw is at e in
        cc
    go (Some c) is =
        let free : bundle_fault program_rules false (x ∷ xs) nothing_held ≡ [] = first-free (bundle_fault program_rules false (x ∷ xs) nothing_held) _ e in
        let bad = rw is at free in
        program-flag-fails c _ _ bad

-- a word that names no subcommand is a fault
program-other-fails : (word : Text) (long : Option (Text × Option Text))
    → or_else (flag_word_fault program_rules false long word nothing_held)
    (step_fault program_shape 1 (long_or_other program_rules idle word long nothing_held).0 (long_or_other program_rules idle word long nothing_held).1) ≡ [] → ⊥
program-other-fails word None e = program-short-fails word (short_of word) e
program-other-fails word (Some (name, value)) e = program-long-fails name value (first-free _ _ e)

-- the word is one of these
abbrev IsFirst : Text → Type 0
IsFirst word = (word ≡ codes "solve") ⊎ ((word ≡ codes "serve") ⊎ ((word ≡ codes "pbn") ⊎ (word ≡ codes "--")))

-- the first word without a fault is `solve`, `serve`, `pbn` or `--`
first-form : (word : Text) → turn_fault program_shape names (walk_from nothing_held) word ≡ [] → IsFirst word
first-form word e =
    go (bytes_eq (codes "solve") word) refl (bytes_eq (codes "serve") word) refl (bytes_eq (codes "pbn") word) refl (bytes_eq (codes "help") word) refl
    (bytes_eq word (codes "--")) refl
  where
    go : (s : Bool) → bytes_eq (codes "solve") word ≡ s → (v : Bool) → bytes_eq (codes "serve") word ≡ v → (p : Bool) → bytes_eq (codes "pbn") word ≡ p
        → (h : Bool) → bytes_eq (codes "help") word ≡ h → (d : Bool) → bytes_eq word (codes "--") ≡ d → IsFirst word
    go true is-s v is-v p is-p h is-h d is-d = inl (sym ((bytes_eq-Decides (codes "solve") word).0 is-s))
    go false is-s true is-v p is-p h is-h d is-d = inr (inl (sym ((bytes_eq-Decides (codes "serve") word).0 is-v)))
    go false is-s false is-v true is-p h is-h d is-d = inr (inr (inl (sym ((bytes_eq-Decides (codes "pbn") word).0 is-p))))
    go false is-s false is-v false is-p true is-h d is-d = let bad = rw (is-s, is-v, is-p, is-h) at e in cc
    go false is-s false is-v false is-p false is-h true is-d = inr (inr (inr ((bytes_eq-Decides word (codes "--")).0 is-d)))
    go false is-s false is-v false is-p false is-h false is-d = absurd (program-other-fails word (long_of word) (rw (is-s, is-v, is-p, is-h, is-d) at e))

-- ---- a line without a fault

-- the walk over a line that names `solve` stops there
solve-stops : (rest : List Text)
    → fold (walked program_rules names) (walk_from nothing_held) (codes "solve" ∷ rest) ≡ record (walk_from nothing_held) { stopped = Some (codes "solve", rest) }
unfolding walked
solve-stops rest = stopped-walk (walk_from nothing_held) (codes "solve") [] rest

-- the same of `serve`
serve-stops : (rest : List Text)
    → fold (walked program_rules names) (walk_from nothing_held) (codes "serve" ∷ rest) ≡ record (walk_from nothing_held) { stopped = Some (codes "serve", rest) }
unfolding walked
serve-stops rest = stopped-walk (walk_from nothing_held) (codes "serve") [] rest

-- and of `pbn`
fill-stops : (rest : List Text)
    → fold (walked program_rules names) (walk_from nothing_held) (codes "pbn" ∷ rest) ≡ record (walk_from nothing_held) { stopped = Some (codes "pbn", rest) }
unfolding walked
fill-stops rest = stopped-walk (walk_from nothing_held) (codes "pbn") [] rest

-- the walk's faults over a line of `solve` are those of `solve`
abbrev solve_faults : List Text → Kinds
solve_faults rest = level_fault solve_shape [] nothing_held rest false []

-- `solve` got these rows
abbrev pub solve_rows : List Text → List Row
solve_rows rest = with_defaults (rows_at_end (here [] None idle) rest)

-- the arguments are the program's name, `solve` and arguments in which its walk meets no fault
pub record Solves (arguments : List Text) : Type 0 where
  pub program : Text
  pub rest : List Text
  pub line : arguments ≡ program ∷ codes "solve" ∷ rest
  pub faultless : IsFaultless (here [] None idle) rest

-- the parse of a line of `solve` enters it with its rows
pub subcommand-rows : (program : Text) (rest : List Text) → subcommand_of program_app (program ∷ codes "solve" ∷ rest) ≡ Some (codes "solve", solve_rows rest)
subcommand-rows program rest = ap (λ (w : Walk). entered (built program_app) w.stopped) (solve-stops rest)

-- where such a line has no fault, `solve` has none
solve-free : (program : Text) (rest : List Text) → fault_of program_app (program ∷ codes "solve" ∷ rest) ≡ [] → solve_faults rest ≡ []
solve-free program rest e =
    let after = second-free (walk_fault program_shape names (walk_from nothing_held) (codes "solve" ∷ rest)) _ e in
    let below = first-free (entered_fault (built program_app) (fold (walked program_rules names) (walk_from nothing_held) (codes "solve" ∷ rest)).stopped) _ after in
    sym (ap (λ (w : Walk). entered_fault (built program_app) w.stopped) (solve-stops rest)) ∙ below

-- the rules of `serve` once it is built
abbrev pub serve_rules : List Rule
serve_rules = (built_leaf (inherited program_app.top serve_app.top)).rules

-- `serve` got these rows
abbrev pub serve_rows : List Text → List Row
serve_rows rest = rows_after serve_rules [] rest

-- the arguments are the program's name, `serve` and others
pub record Serves (arguments : List Text) : Type 0 where
  pub program : Text
  pub rest : List Text
  pub line : arguments ≡ program ∷ codes "serve" ∷ rest

-- the parse of a line of `serve` enters it with its rows
pub serve-rows : (program : Text) (rest : List Text) → subcommand_of program_app (program ∷ codes "serve" ∷ rest) ≡ Some (codes "serve", serve_rows rest)
serve-rows program rest = ap (λ (w : Walk). entered (built program_app) w.stopped) (serve-stops rest)

-- the rules of `pbn` once it is built
abbrev pub fill_rules : List Rule
fill_rules = (built_leaf (inherited program_app.top fill_app.top)).rules

-- `pbn` got these rows
abbrev pub fill_rows : List Text → List Row
fill_rows rest = rows_after fill_rules [] rest

-- the arguments are the program's name, `pbn` and others
pub record Fills (arguments : List Text) : Type 0 where
  pub program : Text
  pub rest : List Text
  pub line : arguments ≡ program ∷ codes "pbn" ∷ rest

-- the parse of a line of `pbn` enters it with its rows
pub fill-rows : (program : Text) (rest : List Text) → subcommand_of program_app (program ∷ codes "pbn" ∷ rest) ≡ Some (codes "pbn", fill_rows rest)
fill-rows program rest = ap (λ (w : Walk). entered (built program_app) w.stopped) (fill-stops rest)

-- the line is one of `solve`, of `serve` or of `pbn`
abbrev pub IsOneOf : List Text → Type 0
IsOneOf arguments = Solves arguments ⊎ (Serves arguments ⊎ Fills arguments)

-- a line without a fault goes on after its first word as one of these
line-from : (program word : Text) (rest : List Text) → IsFirst word → fault_of program_app (program ∷ word ∷ rest) ≡ [] → IsOneOf (program ∷ word ∷ rest)
unfolding clap_on_literals
line-from program word rest (inl is) e =
    let free = solve-free program rest (subst (λ w. fault_of program_app (program ∷ w ∷ rest) ≡ []) is e) in
    let after = second-free (walk_fault solve_shape [] (walk_from nothing_held) rest) _ free in
    inl (record {
      program = program;
      rest = rest;
      line = ap (λ w. program ∷ w ∷ rest) is;
      faultless = (first-free _ _ free, first-free _ _ after);
    })
line-from program word rest (inr (inl is)) e = inr (inl (record { program = program; rest = rest; line = ap (λ w. program ∷ w ∷ rest) is }))
line-from program word rest (inr (inr (inl is))) e = inr (inr (record { program = program; rest = rest; line = ap (λ w. program ∷ w ∷ rest) is }))
line-from program word [] (inr (inr (inr is))) e = let bad = subst (λ w. fault_of program_app (program ∷ w ∷ []) ≡ []) is e in cc
line-from program word (x ∷ xs) (inr (inr (inr is))) e = let bad = subst (λ w. fault_of program_app (program ∷ w ∷ x ∷ xs) ≡ []) is e in cc

-- a line without a fault is one of these
pub line-of : (arguments : List Text) → fault_of program_app arguments ≡ [] → IsOneOf arguments
unfolding clap_on_literals
line-of [] e = cc
line-of (program ∷ []) e = cc
line-of (program ∷ word ∷ rest) e =
    let walk-free = first-free (walk_fault program_shape names (walk_from nothing_held) (word ∷ rest)) _ e in
    line-from program word rest (first-form word (first-free _ _ walk-free)) e

-- ---- a line of `solve` has no fault

-- a default is no fault, whatever was given
default-of-budget : (rows : List Row) → default_fault rows (rule_for Budget) ≡ []
default-of-budget rows = go (has_row (codes "budget") rows)
  where
    go : (b : Bool) → cond (b || true) [] (given_default_fault (rule_for Budget) (rule_for Budget).defaults) ≡ []
    go true = refl
    go false = refl

-- so of the entries
default-of-entries : (rows : List Row) → default_fault rows (rule_for Entries) ≡ []
default-of-entries rows = go (has_row (codes "entries") rows)
  where
    go : (b : Bool) → cond (b || false) [] (given_default_fault (rule_for Entries) (rule_for Entries).defaults) ≡ []
    go true = refl
    go false = refl

-- and of the workers
default-of-workers : (rows : List Row) → default_fault rows (rule_for Workers) ≡ []
default-of-workers rows = go (has_row (codes "workers") rows)
  where
    go : (b : Bool) → cond (b || false) [] (given_default_fault (rule_for Workers) (rule_for Workers).defaults) ≡ []
    go true = refl
    go false = refl

-- and of the flag
default-of-flag : (rows : List Row) → default_fault rows flag_rule ≡ []
default-of-flag rows = go (has_row (codes "explain") rows)
  where
    go : (b : Bool) → cond (b || false) [] (given_default_fault flag_rule flag_rule.defaults) ≡ []
    go true = refl
    go false = refl

-- and of help, which has none
default-of-help : (rows : List Row) → default_fault rows (filled help_rule) ≡ []
default-of-help rows = go (has_row (codes "help") rows)
  where
    go : (b : Bool) → cond (b || true) [] (given_default_fault (filled help_rule) (filled help_rule).defaults) ≡ []
    go true = refl
    go false = refl

-- and so of all in turn
defaults-free : (rows : List Row) → defaults_fault rows solve_rules ≡ []
unfolding defaults_fault
defaults-free rows =
    let after-budget = with_default rows (rule_for Budget) in
    let after-entries = with_default after-budget (rule_for Entries) in
    let after-workers = with_default after-entries (rule_for Workers) in
    let after-flag = with_default after-workers flag_rule in
    both-free _ _ (default-of-budget rows)
    (both-free _ _ (default-of-entries after-budget)
    (both-free _ _ (default-of-workers after-entries) (both-free _ _ (default-of-flag after-workers) (both-free _ [] (default-of-help after-flag) refl))))

-- the options of `solve` without a fault have none at its end
solve-faultless : (rest : List Text) → IsFaultless (here [] None idle) rest → solve_faults rest ≡ []
solve-faultless rest free =
    let end = (fold (walked solve_rules []) (here [] None idle) rest).held in
    both-free _ _ free.0 (both-free _ _ free.1 (both-free _ [] (defaults-free (settled solve_rules end).rows) refl))

-- what comes after the walk over the program's arguments
abbrev after_walk : Walk → Kinds
after_walk w = or_else (entered_fault (built program_app) w.stopped)
    (or_else (settle_fault program_rules false w.held)
    (or_else (defaults_fault (settled program_rules w.held).rows program_rules)
    (check_fault program_shape (finished program_rules w.held) (is_some (entered (built program_app) w.stopped)))))

-- a line whose arguments for `solve` meet no fault has none
pub solves-free : (program : Text) (rest : List Text) → IsFaultless (here [] None idle) rest → fault_of program_app (program ∷ codes "solve" ∷ rest) ≡ []
unfolding clap_on_literals
solves-free program rest free =
    both-free (walk_fault program_shape names (walk_from nothing_held) (codes "solve" ∷ rest)) _
    (stopped-free (walk_from nothing_held) (codes "solve") [] rest)
    (ap after_walk (solve-stops rest) ∙ both-free (solve_faults rest) [] (solve-faultless rest free) refl)
