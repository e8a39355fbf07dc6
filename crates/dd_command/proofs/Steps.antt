-- One word of the options of `solve`: what it is, where it meets no fault, and what the walk makes of it.
use Rattle.std.proofs.Common.{◌≡◌, ◌⊎◌, ℕ, Bool, codes, true, false, ◌==◌, refl, ap, subst, inl, inr, List, [], ◌∷◌, Option, Some, None}
use Rattle.std.specs.Prelude.{slice_get}
use Rattle.std.specs.Option.{option_map_or}
use Rattle.std.specs.Str.{bytes_eq, chars}
use Rattle.std.proofs.lemmas.Slice.Eq.{bytes_eq-Decides}
use Rattle.clap.specs.Lexer.{long_of, short_of}
use Rattle.clap.specs.Walk.{Held, Row, Step, Text, Waiting, Walk, after_step, arg_by_long, arg_by_short, idle, long_or_other, next, option, positional, settled, short_or_plain, used, walked}
use Rattle.clap.specs.Kinds.{Kinds, or_else}
use Rattle.clap.specs.Faults.{bundle_fault, flag_word_fault, long_fault, settle_fault, short_fault, step_fault, turn_fault, use_fault}
use Rattle.clap.proofs.OnLiterals.{clap_on_literals}
use Rattle.dd_command.specs.CommandLine.{SolveOption, Budget, Entries, Workers}
use Rattle.dd_command.proofs.Options.{flag_rule, held_rows, here, known_name, name_of, rule_for, solve_rules, solve_shape}
use Rattle.dd_command.proofs.Numbers.{IsPlain}
use Rattle.dd_command.proofs.Words.{with_value, long_of-is}

-- where two steps meet no fault, the first meets none
pub first-free : (a b : Kinds) → or_else a b ≡ [] → a ≡ []
first-free [] b e = refl
first-free (k ∷ ks) b e = e

-- nor does the second
pub second-free : (a b : Kinds) → or_else a b ≡ [] → b ≡ []
second-free [] b e = e
second-free (k ∷ ks) b e = cc

-- a call for help is a fault
help-fails : (rows : List Row) (pending : Option (Text × List Text)) (value : Option Text)
    → long_fault solve_rules false (arg_by_long solve_rules (codes "help")) value (held_rows rows pending) ≡ [] → ⊥
help-fails rows pending (Some v) e = cc
help-fails rows pending None e =
    let bad = second-free (settle_fault solve_rules false (held_rows rows pending)) _ e in
    cc

-- a word of short flags is a fault, where it has a character
flag-fails : (rows : List Row) (pending : Option (Text × List Text)) (c : ℕ) (rest : Text) (next-fault : Held → Kinds)
    → short_fault solve_rules false (arg_by_short solve_rules c) rest (held_rows rows pending) next-fault ≡ [] → ⊥
flag-fails rows pending c rest next-fault e = go (104 == c) refl e
  where
    go : (b : Bool) → (104 == c) ≡ b → short_fault solve_rules false (arg_by_short solve_rules c) rest (held_rows rows pending) next-fault ≡ [] → ⊥
    go true is free =
        let bad = second-free (settle_fault solve_rules false (held_rows rows pending)) _ (first-free _ _ (rw is at free)) in
        cc
    go false is free =
        let bad = rw is at free in
        cc

-- ---- a word where no option waits for its text

-- a word that is no flag is a fault
short-fails : (rows : List Row) (pending : Option (Text × List Text)) (word : Text) (flags : Option Text)
    → or_else (option_map_or (λ f. bundle_fault solve_rules false f (held_rows rows pending)) flags [])
    (step_fault solve_shape 1 (short_or_plain solve_rules idle word flags (held_rows rows pending)).0 (short_or_plain solve_rules idle word flags (held_rows rows pending)).1) ≡ [] → ⊥
unfolding clap_on_literals
short-fails rows pending word None e = cc
short-fails rows pending word (Some []) e = cc
short-fails rows pending word (Some (x ∷ xs)) e = go (slice_get (chars (x ∷ xs)) 0) refl
  where
    go : (c : Option ℕ) → slice_get (chars (x ∷ xs)) 0 ≡ c → ⊥
    go None is =
        let bad = rw is at e in
        cc
    go (Some c) is =
        let free : bundle_fault solve_rules false (x ∷ xs) (held_rows rows pending) ≡ [] = first-free (bundle_fault solve_rules false (x ∷ xs) (held_rows rows pending)) _ e in
        let bad = rw is at free in
        flag-fails rows pending c _ _ bad

-- the flag with a text is a fault
flag_text-fails : (rows : List Row) (pending : Option (Text × List Text)) (text : Text)
    → long_fault solve_rules false (arg_by_long solve_rules (codes "explain")) (Some text) (held_rows rows pending) ≡ [] → ⊥
flag_text-fails rows pending text e = cc

-- a long word without a fault is one of the options, alone or with its text, or the flag
abbrev IsLong : Option (Text × Option Text) → Type 0
IsLong long = ((o : SolveOption) × (value : Option Text) × (long ≡ Some (name_of o, value))) ⊎ (long ≡ Some (codes "explain", None))

-- a word that is no `--` is such a word
long-form : (rows : List Row) (pending : Option (Text × List Text)) (word : Text) (long : Option (Text × Option Text))
    → or_else (flag_word_fault solve_rules false long word (held_rows rows pending))
    (step_fault solve_shape 1 (long_or_other solve_rules idle word long (held_rows rows pending)).0 (long_or_other solve_rules idle word long (held_rows rows pending)).1) ≡ []
    → IsLong long
long-form rows pending word None e = absurd (short-fails rows pending word (short_of word) e)
long-form rows pending word (Some (name, value)) e = elim (known_name name) [
  | inl known ↦ inl (known.0, value, ap (λ n. Some (n, value)) known.1)
  | inr (inl is) ↦
      let free : long_fault solve_rules false (arg_by_long solve_rules name) value (held_rows rows pending) ≡ [] = first-free _ _ e in
      inr (flagged value is (subst (λ n. long_fault solve_rules false (arg_by_long solve_rules n) value (held_rows rows pending) ≡ []) is free))
  | inr (inr (inl is)) ↦
      let free : long_fault solve_rules false (arg_by_long solve_rules name) value (held_rows rows pending) ≡ [] = first-free _ _ e in
      absurd (help-fails rows pending value (subst (λ n. long_fault solve_rules false (arg_by_long solve_rules n) value (held_rows rows pending) ≡ []) is free))
  | inr (inr (inr none)) ↦
      let free : long_fault solve_rules false (arg_by_long solve_rules name) value (held_rows rows pending) ≡ [] = first-free _ _ e in
      let bad = rw none at free in
      cc
]
  where
    flagged : (v : Option Text) → name ≡ codes "explain" → long_fault solve_rules false (arg_by_long solve_rules (codes "explain")) v (held_rows rows pending) ≡ []
        → ◌≡◌ {A = Option (Text × Option Text)} (Some (name, v)) (Some (codes "explain", None))
    flagged None is free = ap (λ (n : Text). Some (n, None)) is
    flagged (Some text) is free = absurd (flag_text-fails rows pending text free)

-- what a word without a fault is, where no option waits: `--`, an option, alone or with its text, or the flag
abbrev pub IsIdleWord : Text → Type 0
IsIdleWord word =
    (word ≡ codes "--") ⊎ (((o : SolveOption) × (value : Option Text) × (word ≡ 45 ∷ 45 ∷ with_value (name_of o) value)) ⊎ (word ≡ codes "--explain"))

pub idle-form : (rows : List Row) (pending : Option (Text × List Text)) (word : Text) → turn_fault solve_shape [] (here rows pending idle) word ≡ []
    → IsIdleWord word
idle-form rows pending word e = go (bytes_eq word (codes "--")) refl
  where
    formed : IsLong (long_of word) → IsIdleWord word
    formed (inl (o, value, is)) = inr (inl (o, value, long_of-is word (name_of o) value is))
    formed (inr is) = inr (inr (long_of-is word (codes "explain") None is))

    go : (b : Bool) → bytes_eq word (codes "--") ≡ b → IsIdleWord word
    go true is = inl ((bytes_eq-Decides word (codes "--")).0 is)
    go false is = formed (long-form rows pending word (long_of word) (rw is at e))

-- ---- a word where an option waits for its text

-- the text that an option without one would have is a fault
pub settle-fails : (rows : List Row) (o : SolveOption) → settle_fault solve_rules false (held_rows rows (Some (name_of o, []))) ≡ [] → ⊥
settle-fails rows Budget e = cc
settle-fails rows Entries e = cc
settle-fails rows Workers e = cc

-- where an option waits, a long word is a fault
waiting-long-fails : (rows : List Row) (o : SolveOption) (name : Text) (value : Option Text)
    → long_fault solve_rules false (arg_by_long solve_rules name) value (held_rows rows (Some (name_of o, []))) ≡ [] → ⊥
waiting-long-fails rows o name value e = elim (known_name name) [
  | inl known ↦ taken known.0 value (subst (λ n. long_fault solve_rules false (arg_by_long solve_rules n) value (held_rows rows (Some (name_of o, []))) ≡ []) known.1 e)
  | inr (inl is) ↦ flagged value (subst (λ n. long_fault solve_rules false (arg_by_long solve_rules n) value (held_rows rows (Some (name_of o, []))) ≡ []) is e)
  | inr (inr (inl is)) ↦ help-fails rows (Some (name_of o, [])) value (subst (λ n. long_fault solve_rules false (arg_by_long solve_rules n) value (held_rows rows (Some (name_of o, []))) ≡ []) is e)
  | inr (inr (inr none)) ↦
      let bad = rw none at e in
      cc
]
  where
    flagged : (v : Option Text) → long_fault solve_rules false (arg_by_long solve_rules (codes "explain")) v (held_rows rows (Some (name_of o, []))) ≡ [] → ⊥
    flagged None free = settle-fails rows o (first-free _ _ free)
    flagged (Some text) free = flag_text-fails rows (Some (name_of o, [])) text free

    taken : (k : SolveOption) (v : Option Text) → long_fault solve_rules false (arg_by_long solve_rules (name_of k)) v (held_rows rows (Some (name_of o, []))) ≡ [] → ⊥
    taken Budget None free = settle-fails rows o free
    taken Budget (Some v) free = settle-fails rows o (first-free _ _ free)
    taken Entries None free = settle-fails rows o free
    taken Workers None free = settle-fails rows o free
    taken Entries (Some v) free = settle-fails rows o (first-free _ _ free)
    taken Workers (Some v) free = settle-fails rows o (first-free _ _ free)

-- the walk after a word that is no flag, where an option waits
waiting-plain : (rows : List Row) (o : SolveOption) (word : Text) (flags : Option Text)
    → option_map_or (λ f. bundle_fault solve_rules false f (held_rows rows (Some (name_of o, [])))) flags [] ≡ []
    → short_or_plain solve_rules (option (name_of o)) word flags (held_rows rows (Some (name_of o, []))) ≡ (held_rows rows (Some (name_of o, word ∷ [])), next idle)
unfolding clap_on_literals
waiting-plain rows Budget word None e = refl
waiting-plain rows Entries word None e = refl
waiting-plain rows Workers word None e = refl
waiting-plain rows Budget word (Some []) e = refl
waiting-plain rows Entries word (Some []) e = refl
waiting-plain rows Workers word (Some []) e = refl
waiting-plain rows o word (Some (x ∷ xs)) e = go (slice_get (chars (x ∷ xs)) 0) refl o e
  where
    go : (c : Option ℕ) → slice_get (chars (x ∷ xs)) 0 ≡ c → (k : SolveOption) → bundle_fault solve_rules false (x ∷ xs) (held_rows rows (Some (name_of k, []))) ≡ []
        → short_or_plain solve_rules (option (name_of k)) word (Some (x ∷ xs)) (held_rows rows (Some (name_of k, []))) ≡ (held_rows rows (Some (name_of k, word ∷ [])), next idle)
    go None is Budget free = rw is refl
    go None is Entries free = rw is refl
    go None is Workers free = rw is refl
    go (Some c) is k free =
        let bad = rw is at free in
        absurd (flag-fails rows (Some (name_of k, [])) c _ _ bad)

-- a place after `--`
abbrev pub after_end : List Row → Option (Text × List Text) → Waiting → Walk
after_end rows pending waiting = record { held = held_rows rows pending; waiting = waiting; position = 1; is_trailing = true; stopped = None }

-- where an option waits, a word without a fault is `--` or its text
pub waiting-form : (rows : List Row) (o : SolveOption) (word : Text) → turn_fault solve_shape [] (here rows (Some (name_of o, [])) (option (name_of o))) word ≡ []
    → (word ≡ codes "--") ⊎ (walked solve_rules [] (here rows (Some (name_of o, [])) (option (name_of o))) word ≡ here rows (Some (name_of o, word ∷ [])) idle)
unfolding clap_on_literals
waiting-form rows o word e = go (bytes_eq word (codes "--")) refl (long_of word) refl
  where
    go : (b : Bool) → bytes_eq word (codes "--") ≡ b → (long : Option (Text × Option Text)) → long_of word ≡ long
        → (word ≡ codes "--") ⊎ (walked solve_rules [] (here rows (Some (name_of o, [])) (option (name_of o))) word ≡ here rows (Some (name_of o, word ∷ [])) idle)
    go true is long met = inl ((bytes_eq-Decides word (codes "--")).0 is)
    go false is (Some (name, value)) met =
        let free : flag_word_fault solve_rules false (long_of word) word (held_rows rows (Some (name_of o, []))) ≡ [] = first-free _ _ (rw is at e) in
        absurd (waiting-long-fails rows o name value (rw met at free))
    go false is None met =
        let free : flag_word_fault solve_rules false (long_of word) word (held_rows rows (Some (name_of o, []))) ≡ [] = first-free _ _ (rw is at e) in
        let plain-word = waiting-plain rows o word (short_of word) (rw met at free) in
        inr (rw (is, met) (ap (λ (m : Held × Step). after_step solve_rules word (here rows (Some (name_of o, [])) (option (name_of o))) m.0 m.1) plain-word))

-- ---- what the walk makes of the arguments

-- an option with its text in one word
pub joined-walked : (rows : List Row) (pending : Option (Text × List Text)) (o : SolveOption) (text : Text)
    → walked solve_rules [] (here rows pending idle) (45 ∷ 45 ∷ with_value (name_of o) (Some text))
    ≡ here (used (rule_for o) (text ∷ []) (settled solve_rules (held_rows rows pending)).rows) None idle
unfolding clap_on_literals
joined-walked rows pending Budget text = refl
joined-walked rows pending Entries text = refl
joined-walked rows pending Workers text = refl

-- its fault is that of what is pending, or of the option
pub joined-fault : (rows : List Row) (pending : Option (Text × List Text)) (o : SolveOption) (text : Text)
    → turn_fault solve_shape [] (here rows pending idle) (45 ∷ 45 ∷ with_value (name_of o) (Some text))
    ≡ or_else (or_else (settle_fault solve_rules false (held_rows rows pending)) (use_fault false (rule_for o) (text ∷ []) (settled solve_rules (held_rows rows pending)).rows)) []
unfolding clap_on_literals
joined-fault rows pending Budget text = refl
joined-fault rows pending Entries text = refl
joined-fault rows pending Workers text = refl

-- an option whose text is the next word
pub apart-walked : (rows : List Row) (pending : Option (Text × List Text)) (o : SolveOption)
    → walked solve_rules [] (here rows pending idle) (45 ∷ 45 ∷ with_value (name_of o) None)
    ≡ here (settled solve_rules (held_rows rows pending)).rows (Some (name_of o, [])) (option (name_of o))
unfolding clap_on_literals
apart-walked rows pending Budget = refl
apart-walked rows pending Entries = refl
apart-walked rows pending Workers = refl

-- its fault is that of what is pending
pub apart-fault : (rows : List Row) (pending : Option (Text × List Text)) (o : SolveOption)
    → turn_fault solve_shape [] (here rows pending idle) (45 ∷ 45 ∷ with_value (name_of o) None) ≡ or_else (settle_fault solve_rules false (held_rows rows pending)) []
unfolding clap_on_literals
apart-fault rows pending Budget = refl
apart-fault rows pending Entries = refl
apart-fault rows pending Workers = refl

-- the flag
pub flag-walked : (rows : List Row) (pending : Option (Text × List Text))
    → walked solve_rules [] (here rows pending idle) (codes "--explain") ≡ here (used flag_rule [] (settled solve_rules (held_rows rows pending)).rows) None idle
unfolding clap_on_literals
flag-walked rows pending = refl

-- its fault is that of what is pending, or its own
pub flag-fault : (rows : List Row) (pending : Option (Text × List Text))
    → turn_fault solve_shape [] (here rows pending idle) (codes "--explain")
    ≡ or_else (or_else (settle_fault solve_rules false (held_rows rows pending)) (use_fault false flag_rule [] (settled solve_rules (held_rows rows pending)).rows)) []
unfolding clap_on_literals
flag-fault rows pending = refl

-- `--`
pub end-walked : (rows : List Row) (pending : Option (Text × List Text)) (waiting : Waiting)
    → walked solve_rules [] (here rows pending waiting) (codes "--") ≡ after_end rows pending waiting
unfolding clap_on_literals
end-walked rows pending idle = refl
end-walked rows pending (option id) = refl
end-walked rows pending positional = refl

-- a word after it is a fault
pub after_end-fails : (rows : List Row) (pending : Option (Text × List Text)) (waiting : Waiting) (word : Text)
    → turn_fault solve_shape [] (after_end rows pending waiting) word ≡ [] → ⊥
after_end-fails rows pending waiting word e = cc

-- where an option waits, a word that is no flag and not `--` is its text
pub text-walked : (rows : List Row) (o : SolveOption) (text : Text) → IsPlain text
    → walked solve_rules [] (here rows (Some (name_of o, [])) (option (name_of o))) text ≡ here rows (Some (name_of o, text ∷ [])) idle
unfolding walked
text-walked rows Budget text is-plain = rw (is-plain.0, is-plain.1, is-plain.2) refl
text-walked rows Entries text is-plain = rw (is-plain.0, is-plain.1, is-plain.2) refl
text-walked rows Workers text is-plain = rw (is-plain.0, is-plain.1, is-plain.2) refl

-- and it is no fault
pub text-free : (rows : List Row) (o : SolveOption) (text : Text) → IsPlain text → turn_fault solve_shape [] (here rows (Some (name_of o, [])) (option (name_of o))) text ≡ []
text-free rows Budget text is-plain = rw (is-plain.0, is-plain.1, is-plain.2) refl
text-free rows Entries text is-plain = rw (is-plain.0, is-plain.1, is-plain.2) refl
text-free rows Workers text is-plain = rw (is-plain.0, is-plain.1, is-plain.2) refl
