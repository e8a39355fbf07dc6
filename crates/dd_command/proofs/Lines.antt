-- A line of `solve`: the words of its options, and what they ask for.
use Rattle.std.proofs.Common.{◌≡◌, ◌∙◌, ◌⊎◌, ℕ, codes, refl, sym, ap, subst, inl, inr, arith, false, List, [], ◌∷◌, ◌++◌, map, Option, Some, None}
use Rattle.std.specs.Prelude.{IfSome, option_map, unwrap_or}
use Rattle.clap.specs.Walk.{Row, Text, idle}
use Rattle.dd_limits.specs.declared.limits.TheConstants.{MOST_SHAPES}
use Rattle.dd_command.specs.declared.command_line.TheConstants.{MOST_WORKERS}
use Rattle.dd_command.specs.CommandLine.{SolveOption, Budget, Entries, Workers, Given, numbered, explained, gives_flag, Admits, AsksToSolve, GiveOptions, GivesEachOnce, IsNumberText, given_to, is_option, word_of}
use Rattle.dd_command.specs.Program.{HasNumbers}
use Rattle.dd_command.proofs.Numbers.{budget-accepted, budget-accepts, numeral-plain, range-accepted, range-accepts, value_of}
use Rattle.dd_command.proofs.Options.{IsFaultless, here, rows_at_end}
use Rattle.dd_command.proofs.Runs.{ArePlain, IsEnd, Ran, Spells, Use, flag, flag_with, uses-run}
use Rattle.dd_command.proofs.Given.{AllPass, Passes, is-itself, once-leads, once-of, row_of, same-or-other}
use Rattle.dd_command.proofs.UseRows.{Reads, given-flag, given-number, numbers_of, reads-of, uses-have-numbers, with_defaults}

-- ---- words and numbers

-- the word of an option
flag-word : (o : SolveOption) → flag o ≡ word_of o
flag-word Budget = refl
flag-word Entries = refl
flag-word Workers = refl

-- and with a text
flag_with-word : (o : SolveOption) (text : Text) → flag_with (o, text) ≡ word_of o ++ codes "=" ++ text
flag_with-word Budget text = refl
flag_with-word Entries text = refl
flag_with-word Workers text = refl

-- a text that passes is a number that the option may be given
passes-admitted : (o : SolveOption) (text : Text) → Passes o text → IsNumberText text (value_of text) × Admits o (value_of text)
passes-admitted Budget text passes = budget-accepted text passes
passes-admitted Entries text passes = range-accepted MOST_SHAPES text passes
passes-admitted Workers text passes = range-accepted MOST_WORKERS text passes

-- and so back
admitted-passes : (o : SolveOption) (text : Text) (number : ℕ) → IsNumberText text number → Admits o number → Passes o text
admitted-passes Budget text number is admits = budget-accepts text number is admits
admitted-passes Entries text number is admits = range-accepts MOST_SHAPES text number is admits.0 admits.1 (omega arith)
admitted-passes Workers text number is admits = range-accepts MOST_WORKERS text number is admits.0 admits.1 (omega arith)

-- texts that pass are no flags
pass-plain : (us : List Use) → AllPass us → ArePlain us
pass-plain [] passes = tt
pass-plain (explained ∷ us) passes = pass-plain us passes
pass-plain (numbered o text ∷ us) passes = (numeral-plain text (passes-admitted o text passes.0).0.0, pass-plain us passes.1)

-- ---- uses and what they give

-- the words of uses that pass give the numbers of these
pub gives-of : (us : List Use) (end words : List Text) → Spells us end words → IsEnd end → AllPass us → GiveOptions (numbers_of us) words
gives-of [] end words spells ends passes = elim ends [ inl is ↦ inl (spells ∙ is) | inr is ↦ inr (spells ∙ is) ]
gives-of (explained ∷ us) end words (rest, is, spells) ends passes = (rest, is, gives-of us end rest spells ends passes)
gives-of (numbered o text ∷ us) end words (rest, forms, spells) ends passes =
    let admitted = passes-admitted o text passes.0 in
    (text, rest, admitted.0, admitted.1, written forms, gives-of us end rest spells ends passes.1)
  where
    written : (words ≡ flag o ∷ text ∷ rest) ⊎ (words ≡ flag_with (o, text) ∷ rest) → (words ≡ word_of o ∷ text ∷ rest) ⊎ (words ≡ (word_of o ++ codes "=" ++ text) ∷ rest)
    written (inl is) = inl (is ∙ ap (λ w. w ∷ text ∷ rest) (flag-word o))
    written (inr is) = inr (is ∙ ap (λ w. w ∷ rest) (flag_with-word o text))

-- the words are those of uses that pass, with these numbers
record Used (given : List (Given ℕ)) (words : List Text) : Type 0 where
  uses : List Use
  end : List Text
  spells : Spells uses end words
  ends : IsEnd end
  passes : AllPass uses
  gives : numbers_of uses ≡ given

-- lists that begin with the same option
same-cons : (o : SolveOption) (m n : ℕ) (xs ys : List (Given ℕ)) → m ≡ n → xs ≡ ys → ◌≡◌ {A = List (Given ℕ)} (numbered o m ∷ xs) (numbered o n ∷ ys)
same-cons o m n xs ys e f = λ i. numbered o (e i) ∷ f i

-- words that give numbers are so
used-of : (given : List (Given ℕ)) (words : List Text) → GiveOptions given words → Used given words
used-of [] words gives = record { uses = []; end = words; spells = refl; ends = gives; passes = tt; gives = refl }
used-of (explained ∷ given) words (rest, is, gives) =
    let later = used-of given rest gives in
    record {
      uses = explained ∷ later.uses;
      end = later.end;
      spells = (rest, is, later.spells);
      ends = later.ends;
      passes = later.passes;
      gives = ap (λ (gs : List (Given ℕ)). explained ∷ gs) later.gives;
    }
used-of (numbered o number ∷ given) words (text, rest, is, admits, forms, gives) =
    let later = used-of given rest gives in
    record {
      uses = numbered o text ∷ later.uses;
      end = later.end;
      spells = (rest, spelled forms, later.spells);
      ends = later.ends;
      passes = (admitted-passes o text number is admits, later.passes);
      gives = same-cons o (value_of text) number (numbers_of later.uses) given is.1 later.gives;
    }
  where
    spelled : (words ≡ word_of o ∷ text ∷ rest) ⊎ (words ≡ (word_of o ++ codes "=" ++ text) ∷ rest) → (words ≡ flag o ∷ text ∷ rest) ⊎ (words ≡ flag_with (o, text) ∷ rest)
    spelled (inl is-words) = inl (is-words ∙ ap (λ w. w ∷ text ∷ rest) (sym (flag-word o)))
    spelled (inr is-words) = inr (is-words ∙ ap (λ w. w ∷ rest) (sym (flag_with-word o text)))

-- nothing is read of nothing
none-mapped : (x : Option Text) → option_map value_of x ≡ None → x ≡ None
none-mapped None e = refl
none-mapped (Some text) e = cc

-- uses give each option once where their numbers do
once-forth : (us : List Use) → GivesEachOnce us → GivesEachOnce (numbers_of us)
once-forth [] once = tt
once-forth (explained ∷ us) once = (given-flag us ∙ once.0, once-forth us once.1)
once-forth (numbered o text ∷ us) once = (given-number o us ∙ ap (option_map value_of) once.0, once-forth us once.1)

once-back : (us : List Use) → GivesEachOnce (numbers_of us) → GivesEachOnce us
once-back [] once = tt
once-back (explained ∷ us) once = (sym (given-flag us) ∙ once.0, once-back us once.1)
once-back (numbered o text ∷ us) once = (none-mapped (given_to o us) (sym (given-number o us) ∙ once.0), once-back us once.1)

-- ---- what a line of uses asks for

-- the line asks to solve, and the rows have the numbers that it asks for
pub record Asked (arguments : List Text) (rows : List Row) : Type 0 where
  pub given : List (Given ℕ)
  pub asks : AsksToSolve arguments given
  pub reads : Reads rows given
  pub numbers : HasNumbers rows

-- rows of uses are so, whatever they are called
asked-by : (arguments : List Text) (us : List Use) (rows : List Row) → rows ≡ map row_of us → AsksToSolve arguments (numbers_of us) → AllPass us → Asked arguments (with_defaults rows)
asked-by arguments us rows is asks passes = subst (λ r. Asked arguments (with_defaults r)) (sym is)
    (record { given = numbers_of us; asks = asks; reads = reads-of us passes; numbers = uses-have-numbers us passes })

-- a line of uses that lead to the rows asks for what they have
pub asked-of : (program : Text) (rest arguments : List Text) (rows : List Row) → arguments ≡ program ∷ codes "solve" ∷ rest → Ran [] None rest rows → Asked arguments (with_defaults rows)
asked-of program rest arguments rows is ran =
    let uses = once-of ran.uses [] rows ran.leads in
    let asks : AsksToSolve arguments (numbers_of ran.uses) = record {
      program = program;
      words = rest;
      line = is;
      gives = gives-of ran.uses ran.end rest ran.spells ran.ends uses.passes;
      once = once-forth ran.uses uses.once;
    } in
    asked-by arguments ran.uses rows uses.adds asks uses.passes

-- ---- a line that asks meets no fault

-- the walk over the words meets no fault, and its rows have these numbers
pub record Walked (words : List Text) (given : List (Given ℕ)) : Type 0 where
  pub faultless : IsFaultless (here [] None idle) words
  pub reads : Reads (with_defaults (rows_at_end (here [] None idle) words)) given

-- so is the walk over a line that asks
pub walked-line : (arguments : List Text) (given : List (Given ℕ)) (asks : AsksToSolve arguments given) → Walked asks.words given
walked-line arguments given asks =
    let used = used-of given asks.words asks.gives in
    let once = once-back used.uses (subst GivesEachOnce (sym used.gives) asks.once) in
    let run = uses-run used.uses asks.words used.end [] None (map row_of used.uses) used.spells used.ends (pass-plain used.uses used.passes)
    (once-leads used.uses [] once used.passes (λ p has. cc) (λ has. cc)) in
    record {
      faultless = run.0;
      reads = subst (Reads (with_defaults (rows_at_end (here [] None idle) asks.words))) used.gives
          (subst (λ rows. Reads (with_defaults rows) (numbers_of used.uses)) (sym run.1) (reads-of used.uses used.passes));
    }

-- two lines of one text ask for the same
pub one-meaning : (arguments : List Text) (given other : List (Given ℕ)) → AsksToSolve arguments given → AsksToSolve arguments other
    → (given_to Budget given ≡ given_to Budget other) × (unwrap_or (given_to Entries given) 4096 ≡ unwrap_or (given_to Entries other) 4096)
    × (unwrap_or (given_to Workers given) 1 ≡ unwrap_or (given_to Workers other) 1) × (gives_flag given ≡ gives_flag other)
one-meaning arguments given other one also =
    let first = walked-line arguments given one in
    let second = walked-line arguments other also in
    let same : also.words ≡ one.words = let lines = sym also.line ∙ one.line in cc in
    let again = subst (λ words. Walked words other) same second in
    let entries : Some (unwrap_or (given_to Entries given) 4096) ≡ Some (unwrap_or (given_to Entries other) 4096) = sym first.reads.has_entries ∙ again.reads.has_entries in
    let workers : Some (unwrap_or (given_to Workers given) 1) ≡ Some (unwrap_or (given_to Workers other) 1) = sym first.reads.has_workers ∙ again.reads.has_workers in
    (sym first.reads.has_budget ∙ again.reads.has_budget, some-number entries, some-number workers, sym first.reads.has_flag ∙ again.reads.has_flag)
  where
    some-number : {m n : ℕ} → Some m ≡ Some n → m ≡ n
    some-number e = cc

-- what an option is given it may be given
pub given-admitted : (o : SolveOption) (given : List (Given ℕ)) (words : List Text) → GiveOptions given words → IfSome (given_to o given) (Admits o)
given-admitted o [] words gives = tt
given-admitted o (explained ∷ given) words (rest, is, gives) = given-admitted o given rest gives
given-admitted o (numbered p number ∷ given) words (text, rest, is, admits, forms, gives) = go (same-or-other p o) (given-admitted o given rest gives)
  where
    go : (p ≡ o) ⊎ (is_option p o ≡ false) → IfSome (given_to o given) (Admits o) → IfSome (given_to o (numbered p number ∷ given)) (Admits o)
    go (inl same) later = subst (λ q. IfSome (given_to q (numbered p number ∷ given)) (Admits q)) same (rw (is-itself p) admits)
    go (inr other) later = rw other later
