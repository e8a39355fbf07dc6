-- An option that no word names gets no row.
use Rattle.std.proofs.Common.{◌≡◌, ◌∙◌, ◌⊎◌, ℕ, zero, suc, Bool, cond, true, false, refl, sym, subst, inl, inr, List, [], ◌∷◌, ◌++◌, Option, Some, None}
use Rattle.std.specs.Prelude.{⊤, ◌+◌, min, IfSome, unwrap_or, fold, slice_get, drop, length, encode_utf8, nat_lt}
use Rattle.std.specs.List.{find}
use Rattle.std.specs.Str.{bytes_eq, chars}
use Rattle.std.proofs.lemmas.List.Folds.{list_any-append}
use Rattle.std.proofs.lemmas.Slice.Eq.{bytes_eq-Decides}
use Rattle.clap.specs.Lexer.{long_of, short_of}
use Rattle.clap.specs.Walk.{Held, Outcome, Row, Rule, Step, Text, Waiting, Walk, action_of, after_flag, after_step, arg_by_id, arg_by_index, arg_by_long, arg_by_short, at_row, attached_value, bundle, bundle_met, bundle_step, count_of, counted, default_rows, done, flag_met, has_row, idle, long_met, long_or_other, more_values, most_values, new_count, next, option, option_met, option_word, pending_count, plain, plain_word, positional, pushed, reacted, reading_by, refused, settled, settled_rows, short_met, short_or_plain, subcommand, subcommand_or_other, takes_values, to_positional, trailing, used, used_as, value, values_or_missing, waits, walked, walked_from, with_count, with_default, with_values, without, word_met}
use Rattle.clap.specs.declared.builder.action.ArgAction.{ArgAction}
use Rattle.clap.specs.declared.builder.action.ArgAction.TheVariants.{Set, Append, SetTrue, SetFalse, Count, Help, HelpShort, HelpLong, Version}
use Rattle.clap.specs.declared.parser.matches.ValueSource.{ValueSource}
use Rattle.clap.specs.declared.builder.value_parser.Reading.{Reading}
use Rattle.clap.specs.declared.parser.matches.ValueSource.TheVariants.{DefaultValue, CommandLine}
use Rattle.std.proofs.lemmas.Bool.{or_parts, or_from}

-- ---- tests

-- P holds of each element
abbrev pub Each : {X : Type 0} → (X → Type 0) → List X → Type 0
Each P [] = ⊤
Each P (x ∷ xs) = P x × Each P xs

-- what is found passes the test, and has what all have
pub find-has : {X : Type 0} (p : X → Bool) (P : X → Type 0) (xs : List X) (x : X) → find p xs ≡ Some x → Each P xs → (p x ≡ true) × P x
find-has p P [] x e all = cc
find-has p P (y ∷ ys) x e all = go (p y) refl e (λ f. find-has p P ys x f all.1)
  where
    go : (b : Bool) → p y ≡ b → cond b (Some y) (find p ys) ≡ Some x → (find p ys ≡ Some x → (p x ≡ true) × P x) → (p x ≡ true) × P x
    go true is found later =
        let same : y ≡ x = cc in
        (subst (λ z. p z ≡ true) same is, subst P same all.0)
    go false is found later = later found

-- every element has nothing to show
anything : {X : Type 0} (xs : List X) → Each (λ _. ⊤) xs
anything [] = tt
anything (x ∷ xs) = (tt, anything xs)

-- the argument that an id finds has that id
id-found : (c : List Rule) (id : Text) (a : Rule) → arg_by_id c id ≡ Some a → a.id ≡ id
id-found c id a e = (bytes_eq-Decides a.id id).0 (find-has (λ (r : Rule). bytes_eq r.id id) (λ _. ⊤) c a e (anything c)).0

-- ---- rows

-- a change of rows that brings no row of the option
at-row-lacks : (o id : Text) (change : Row → List Row) (missing rows : List Row) → ((r : Row) → bytes_eq r.id o ≡ false → has_row o (change r) ≡ false)
    → has_row o missing ≡ false → has_row o rows ≡ false → has_row o (at_row id change missing rows) ≡ false
at-row-lacks o id change missing [] keeps none e = none
at-row-lacks o id change missing (r ∷ rs) keeps none e =
    go (bytes_eq r.id id) (or_parts (bytes_eq r.id o) (has_row o rs) e) (at-row-lacks o id change missing rs keeps none)
  where
    go : (b : Bool) → (bytes_eq r.id o ≡ false) × (has_row o rs ≡ false) → (has_row o rs ≡ false → has_row o (at_row id change missing rs) ≡ false)
        → has_row o (cond b (change r ++ rs) (r ∷ at_row id change missing rs)) ≡ false
    go true parts later = list_any-append (λ (x : Row). bytes_eq x.id o) (change r) rs ∙ or_from _ _ (keeps r parts.0) parts.1
    go false parts later = or_from _ _ parts.0 (later parts.1)

without-lacks : (o id : Text) (rows : List Row) → has_row o rows ≡ false → has_row o (without id rows) ≡ false
without-lacks o id rows e = at-row-lacks o id (λ _. []) [] rows (λ r h. refl) refl e

with-values-lacks : (o id : Text) (how : Reading) (s : ValueSource) (values : List Text) (rows : List Row) → bytes_eq id o ≡ false → has_row o rows ≡ false
    → has_row o (with_values id how s values rows) ≡ false
with-values-lacks o id how s values rows other e = at-row-lacks o id (more_values s values) _ rows (λ r h. or_from _ _ h refl) (or_from _ _ other refl) e

with-count-lacks : (o id : Text) (how : Reading) (s : ValueSource) (n : ℕ) (rows : List Row) → bytes_eq id o ≡ false → has_row o rows ≡ false
    → has_row o (with_count id how s n rows) ≡ false
with-count-lacks o id how s n rows other e = at-row-lacks o id (new_count s n) _ rows (λ r h. or_from _ _ h refl) (or_from _ _ other refl) e

-- a use of another option
used-lacks : (o : Text) (a : Rule) (values : List Text) (rows : List Row) → bytes_eq a.id o ≡ false → has_row o rows ≡ false → has_row o (used a values rows) ≡ false
used-lacks o a values rows other e = by-action (action_of a) (values_or_missing a values)
  where
    set : (vs : List Text) → has_row o (with_values a.id (reading_by a) CommandLine vs (without a.id rows)) ≡ false
    set vs = with-values-lacks o a.id (reading_by a) CommandLine vs (without a.id rows) other (without-lacks o a.id rows e)

    count : (vs : List Text) → has_row o (counted a.id (reading_by a) vs rows) ≡ false
    count [] = with-count-lacks o a.id (reading_by a) CommandLine (min (count_of a.id rows + 1) 255) (without a.id rows) other (without-lacks o a.id rows e)
    count (v ∷ vs) = set (v ∷ vs)

    by-action : (x : ArgAction) (vs : List Text) → has_row o (used_as x a.id (reading_by a) vs rows) ≡ false
    by-action Set vs = set vs
    by-action SetTrue vs = set vs
    by-action SetFalse vs = set vs
    by-action Append vs = with-values-lacks o a.id (reading_by a) CommandLine vs rows other e
    by-action Count vs = count vs
    by-action Help vs = e
    by-action HelpShort vs = e
    by-action HelpLong vs = e
    by-action Version vs = e

-- ---- what is held between two arguments

-- nothing of the option is held
abbrev pub Lacks : Text → Held → Type 0
Lacks o h = (has_row o h.rows ≡ false) × IfSome h.pending (λ p. bytes_eq p.0 o ≡ false)

-- it is not the option that waits for its text
abbrev pub WaitsOther : Text → Waiting → Type 0
WaitsOther o (option id) = bytes_eq id o ≡ false
WaitsOther o idle = ⊤
WaitsOther o positional = ⊤

abbrev OutcomeOther : Text → Outcome → Type 0
OutcomeOther o (waits id) = bytes_eq id o ≡ false
OutcomeOther o done = ⊤
OutcomeOther o plain = ⊤
OutcomeOther o refused = ⊤

abbrev StepOther : Text → Step → Type 0
StepOther o (next waiting) = WaitsOther o waiting
StepOther o (trailing position) = ⊤
StepOther o (subcommand name) = ⊥
StepOther o value = ⊤

-- what is pending is used
pub settled-lacks : (c : List Rule) (o : Text) (h : Held) → Lacks o h → has_row o (settled c h).rows ≡ false
settled-lacks c o h lacks = go h.pending lacks.1
  where
    found : (id : Text) (values : List Text) (x : Option Rule) → arg_by_id c id ≡ x → bytes_eq id o ≡ false → has_row o (settled_rows c (Some (id, values)) h.rows) ≡ false
    found id values None is other = rw is lacks.0
    found id values (Some a) is other =
        let same : bytes_eq a.id o ≡ false = subst (λ i. bytes_eq i o ≡ false) (sym (id-found c id a is)) other in
        rw is (used-lacks o a values h.rows same lacks.0)

    go : (p : Option (Text × List Text)) → IfSome p (λ p. bytes_eq p.0 o ≡ false) → has_row o (settled_rows c p h.rows) ≡ false
    go None other = lacks.0
    go (Some p) other = found p.0 p.1 (arg_by_id c p.0) refl other

reacted-lacks : (c : List Rule) (o : Text) (a : Rule) (values : List Text) (h : Held) → bytes_eq a.id o ≡ false → Lacks o h → Lacks o (reacted c a values h)
reacted-lacks c o a values h other lacks = (used-lacks o a values (settled c h).rows other (settled-lacks c o h lacks), tt)

option-lacks : (c : List Rule) (o : Text) (a : Rule) (v : Option Text) (h : Held) → bytes_eq a.id o ≡ false → Lacks o h
    → Lacks o (option_met c a v h).0 × OutcomeOther o (option_met c a v h).1
option-lacks c o a (Some v) h other lacks = (reacted-lacks c o a (v ∷ []) h other lacks, tt)
option-lacks c o a None h other lacks = ((settled-lacks c o h lacks, other), other)

flag-lacks : (c : List Rule) (o : Text) (a : Rule) (v : Option Text) (h : Held) → bytes_eq a.id o ≡ false → Lacks o h
    → Lacks o (flag_met c a v h).0 × OutcomeOther o (flag_met c a v h).1
flag-lacks c o a (Some v) h other lacks = (lacks, tt)
flag-lacks c o a None h other lacks = (reacted-lacks c o a [] h other lacks, tt)

long-lacks : (c : List Rule) (o : Text) (found : Option Rule) (v : Option Text) (h : Held) → IfSome found (λ a. bytes_eq a.id o ≡ false) → Lacks o h
    → Lacks o (long_met c found v h).0 × OutcomeOther o (long_met c found v h).1
long-lacks c o None v h other lacks = (lacks, tt)
long-lacks c o (Some a) v h other lacks = go (takes_values a)
  where
    go : (b : Bool) → Lacks o (cond b (option_met c a v h) (flag_met c a v h)).0 × OutcomeOther o (cond b (option_met c a v h) (flag_met c a v h)).1
    go true = option-lacks c o a v h other lacks
    go false = flag-lacks c o a v h other lacks

-- no short flag is the option's, and no argument has a place of its own
pub record Avoids (c : List Rule) (o : Text) : Type 0 where
  pub short : (x : ℕ) → IfSome (arg_by_short c x) (λ a. bytes_eq a.id o ≡ false)
  pub index : (i : ℕ) → arg_by_index c i ≡ None

-- what more flags of a word make of it
abbrev MoreLacks : Text → (Text → ℕ → Outcome → Held → Held × Outcome) → Type 0
MoreLacks o more = (flags : Text) (skip : ℕ) (so_far : Outcome) (h : Held) → Lacks o h → OutcomeOther o so_far
    → Lacks o (more flags skip so_far h).0 × OutcomeOther o (more flags skip so_far h).1

short-lacks : (c : List Rule) (o : Text) (found : Option Rule) (rest : Text) (h : Held) (after : Held → Held × Outcome) → IfSome found (λ a. bytes_eq a.id o ≡ false) → Lacks o h
    → ((g : Held) → Lacks o g → Lacks o (after g).0 × OutcomeOther o (after g).1) → Lacks o (short_met c found rest h after).0 × OutcomeOther o (short_met c found rest h after).1
short-lacks c o None rest h after other lacks more = (lacks, tt)
short-lacks c o (Some a) rest h after other lacks more = go (takes_values a)
  where
    go : (b : Bool) → Lacks o (cond b (option_met c a (attached_value rest) h) (after (reacted c a [] h))).0
        × OutcomeOther o (cond b (option_met c a (attached_value rest) h) (after (reacted c a [] h))).1
    go true = option-lacks c o a (attached_value rest) h other lacks
    go false = more (reacted c a [] h) (reacted-lacks c o a [] h other lacks)

bundle-step-lacks : (c : List Rule) (o : Text) → Avoids c o → (x : Option ℕ) (flags : Text) (skip : ℕ) (so_far : Outcome) (h : Held) (more : Text → ℕ → Outcome → Held → Held × Outcome)
    → MoreLacks o more → Lacks o h → OutcomeOther o so_far → Lacks o (bundle_step c x flags skip so_far h more).0 × OutcomeOther o (bundle_step c x flags skip so_far h more).1
bundle-step-lacks c o avoids None flags skip so_far h more keeps lacks other = (lacks, other)
bundle-step-lacks c o avoids (Some x) flags zero so_far h more keeps lacks other =
    let rest = drop (length (encode_utf8 x)) flags in
    short-lacks c o (arg_by_short c x) rest h (more rest 0 done) (avoids.short x) lacks (λ g l. keeps rest 0 done g l tt)
bundle-step-lacks c o avoids (Some x) flags (suc skip) so_far h more keeps lacks other = keeps (drop (length (encode_utf8 x)) flags) skip so_far h lacks other

bundle-lacks : (c : List Rule) (o : Text) → Avoids c o → (k : ℕ) → MoreLacks o (bundle_met c k)
unfolding bundle_met
bundle-lacks c o avoids zero flags skip so_far h lacks other = (lacks, other)
bundle-lacks c o avoids (suc k) flags skip so_far h lacks other =
    bundle-step-lacks c o avoids (slice_get (chars flags) 0) flags skip so_far h (bundle_met c k) (bundle-lacks c o avoids k) lacks other

-- ---- one word

-- a word that is no flag
plain-lacks : (c : List Rule) (o : Text) (waiting : Waiting) (word : Text) (h : Held) → WaitsOther o waiting → Lacks o h
    → Lacks o (plain_word c waiting word h).0 × StepOther o (plain_word c waiting word h).1
plain-lacks c o idle word h other lacks = (lacks, tt)
plain-lacks c o positional word h other lacks = (lacks, tt)
plain-lacks c o (option id) word h other lacks = go (arg_by_id c id)
  where
    started-other : (p : Option (Text × List Text)) → IfSome p (λ p. bytes_eq p.0 o ≡ false) → bytes_eq (unwrap_or p (id, [])).0 o ≡ false
    started-other None is = other
    started-other (Some p) is = is

    choose : (b : Bool) → WaitsOther o (cond b (option id) idle)
    choose true = other
    choose false = tt

    go : (found : Option Rule) → Lacks o (option_word found id word h).0 × WaitsOther o (option_word found id word h).1
    go None = (lacks, other)
    go (Some a) = ((lacks.0, started-other h.pending lacks.1), choose (nat_lt (pending_count a (pushed id word h).pending) (most_values a)))

after-flag-lacks : (c : List Rule) (o : Text) (waiting : Waiting) (word : Text) (h : Held) (x : Outcome) → WaitsOther o waiting → Lacks o h → OutcomeOther o x
    → Lacks o (after_flag c waiting word h x).0 × StepOther o (after_flag c waiting word h x).1
after-flag-lacks c o waiting word h done other lacks is = (lacks, tt)
after-flag-lacks c o waiting word h (waits id) other lacks is = (lacks, is)
after-flag-lacks c o waiting word h plain other lacks is = plain-lacks c o waiting word h other lacks
after-flag-lacks c o waiting word h refused other lacks is = plain-lacks c o waiting word h other lacks

short-word-lacks : (c : List Rule) (o : Text) → Avoids c o → (waiting : Waiting) (word : Text) (flags : Option Text) (h : Held) → WaitsOther o waiting → Lacks o h
    → Lacks o (short_or_plain c waiting word flags h).0 × StepOther o (short_or_plain c waiting word flags h).1
short-word-lacks c o avoids waiting word None h other lacks = plain-lacks c o waiting word h other lacks
short-word-lacks c o avoids waiting word (Some flags) h other lacks =
    let met = bundle-lacks c o avoids (length flags) flags h.skip plain (record h { skip = 0 }) (lacks.0, lacks.1) tt in
    after-flag-lacks c o waiting word (bundle c flags h).0 (bundle c flags h).1 other met.0 met.1

-- the word names another option, or none
abbrev pub NamesOther : List Rule → Text → Text → Type 0
NamesOther c o word = IfSome (long_of word) (λ p. IfSome (arg_by_long c p.0) (λ a. bytes_eq a.id o ≡ false))

long-word-lacks : (c : List Rule) (o : Text) → Avoids c o → (waiting : Waiting) (word : Text) (long : Option (Text × Option Text)) (h : Held)
    → IfSome long (λ p. IfSome (arg_by_long c p.0) (λ a. bytes_eq a.id o ≡ false)) → WaitsOther o waiting → Lacks o h
    → Lacks o (long_or_other c waiting word long h).0 × StepOther o (long_or_other c waiting word long h).1
long-word-lacks c o avoids waiting word None h named other lacks = short-word-lacks c o avoids waiting word (short_of word) h other lacks
long-word-lacks c o avoids waiting word (Some (name, v)) h named other lacks =
    let met = long-lacks c o (arg_by_long c name) v h named lacks in
    after-flag-lacks c o waiting word (long_met c (arg_by_long c name) v h).0 (long_met c (arg_by_long c name) v h).1 other met.0 met.1

-- a word where nothing is a subcommand
other-lacks : (c : List Rule) (o : Text) → Avoids c o → (waiting : Waiting) (position : ℕ) (word : Text) (h : Held) → NamesOther c o word → WaitsOther o waiting → Lacks o h
    → Lacks o (subcommand_or_other c None waiting position word h).0 × StepOther o (subcommand_or_other c None waiting position word h).1
other-lacks c o avoids waiting position word h named other lacks = go (bytes_eq word (45 ∷ 45 ∷ []))
  where
    go : (b : Bool) → Lacks o (cond b (h, trailing position) (long_or_other c waiting word (long_of word) h)).0
        × StepOther o (cond b (h, trailing position) (long_or_other c waiting word (long_of word) h)).1
    go true = (lacks, tt)
    go false = long-word-lacks c o avoids waiting word (long_of word) h named other lacks

word-lacks : (c : List Rule) (o : Text) → Avoids c o → (is_trailing : Bool) (waiting : Waiting) (position : ℕ) (word : Text) (h : Held) → NamesOther c o word → WaitsOther o waiting
    → Lacks o h → Lacks o (word_met c [] is_trailing waiting position word h).0 × StepOther o (word_met c [] is_trailing waiting position word h).1
word-lacks c o avoids true waiting position word h named other lacks = (lacks, tt)
word-lacks c o avoids false idle position word h named other lacks = other-lacks c o avoids idle position word h named other lacks
word-lacks c o avoids false (option id) position word h named other lacks = other-lacks c o avoids (option id) position word h named other lacks
word-lacks c o avoids false positional position word h named other lacks = other-lacks c o avoids positional position word h named other lacks

-- ---- the walk

-- the walk has met no subcommand and nothing of the option
pub record Clean (o : Text) (w : Walk) : Type 0 where
  pub goes_on : w.stopped ≡ None
  pub lacks : Lacks o w.held
  pub waits_other : WaitsOther o w.waiting

after-clean : (c : List Rule) (o : Text) → Avoids c o → (word : Text) (w : Walk) (h : Held) (step : Step) → Clean o w → Lacks o h → StepOther o step → Clean o (after_step c word w h step)
after-clean c o avoids word w h (next waiting) clean lacks other = record { goes_on = clean.goes_on; lacks = lacks; waits_other = other }
after-clean c o avoids word w h (trailing position) clean lacks other = record { goes_on = clean.goes_on; lacks = lacks; waits_other = clean.waits_other }
after-clean c o avoids word w h (subcommand name) clean lacks other = absurd other
after-clean c o avoids word w h value clean lacks other = go (arg_by_index c w.position) (avoids.index w.position)
  where
    go : (found : Option Rule) → found ≡ None → Clean o (to_positional c found word w h)
    go None is = record { goes_on = clean.goes_on; lacks = lacks; waits_other = clean.waits_other }
    go (Some a) is = cc

walked-clean : (c : List Rule) (o : Text) → Avoids c o → (word : Text) (w : Walk) → NamesOther c o word → Clean o w → Clean o (walked c [] w word)
unfolding walked
walked-clean c o avoids word w named clean = go w.stopped clean.goes_on
  where
    go : (s : Option (Text × List Text)) → s ≡ None → Clean o (walked_from c [] s w word)
    go None is =
        let met = word-lacks c o avoids w.is_trailing w.waiting w.position word w.held named clean.waits_other clean.lacks in
        after-clean c o avoids word w _ _ clean met.0 met.1
    go (Some p) is = cc

-- arguments of which none names the option leave nothing of it
pub walk-clean : (c : List Rule) (o : Text) → Avoids c o → (arguments : List Text) (w : Walk) → Each (NamesOther c o) arguments → Clean o w → Clean o (fold (walked c []) w arguments)
walk-clean c o avoids [] w named clean = clean
walk-clean c o avoids (word ∷ rest) w named clean = walk-clean c o avoids rest (walked c [] w word) named.1 (walked-clean c o avoids word w named.0 clean)

-- ---- defaults

-- the default of another argument
pub with-default-lacks : (o : Text) (rows : List Row) (a : Rule) → (bytes_eq a.id o ≡ false) ⊎ (a.defaults ≡ []) → has_row o rows ≡ false → has_row o (with_default rows a) ≡ false
with-default-lacks o rows a other e = go (has_row a.id rows)
  where
    given : (values : List Text) → (bytes_eq a.id o ≡ false) ⊎ (values ≡ []) → has_row o (default_rows a.id (reading_by a) values rows) ≡ false
    given [] is = e
    given (v ∷ vs) (inl is) = with-values-lacks o a.id (reading_by a) DefaultValue (v ∷ vs) rows is e
    given (v ∷ vs) (inr is) = cc

    go : (b : Bool) → has_row o (cond b rows (default_rows a.id (reading_by a) a.defaults rows)) ≡ false
    go true = e
    go false = given a.defaults other

pub defaults-lack : (o : Text) (c : List Rule) (rows : List Row) → Each (λ a. (bytes_eq a.id o ≡ false) ⊎ (a.defaults ≡ [])) c → has_row o rows ≡ false → has_row o (fold with_default rows c) ≡ false
defaults-lack o [] rows other e = e
defaults-lack o (a ∷ rest) rows other e = defaults-lack o rest (with_default rows a) other.1 (with-default-lacks o rows a other.0 e)
