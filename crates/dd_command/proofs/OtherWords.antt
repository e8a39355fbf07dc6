-- An option that no word of a line names has no row, whatever subcommand the line is of.
use Rattle.std.proofs.Common.{◌≡◌, ◌∙◌, ◌⊎◌, Bool, true, false, ◌||◌, ◌&&◌, not, is_some, refl, sym, ap, subst, true≢false, List, [], ◌∷◌, ◌++◌, Option, Some, None}
use Rattle.std.proofs.Math.Seq.{take-append_seam, take-length}
use Rattle.std.specs.Prelude.{fold, IfSome, take, length}
use Rattle.std.specs.List.{list_any}
use Rattle.std.specs.Str.{bytes_eq}
use Rattle.std.proofs.lemmas.Slice.Eq.{bytes_eq-Decides}
use Rattle.clap.specs.Lexer.{long_of}
use Rattle.clap.specs.Walk.{Rule, Text, arg_by_long, has_long, has_row, nothing_held, rows_after, walk_from, walked}
use Rattle.dd_command.specs.CommandLine.{IsLeftOut}
use Rattle.dd_command.proofs.LeftOut.{Avoids, Each, NamesOther, defaults-lack, find-has, settled-lacks, walk-clean}
use Rattle.dd_command.proofs.Words.{long_of-is, with_value}
use Rattle.std.proofs.lemmas.Bool.{or_parts, and_parts}

-- does the word begin with the option's name?
abbrev pub begins : Text → Text → Bool
begins option word = bytes_eq (take (length option) word) option

or-false : (a : Bool) → (a || false) ≡ true → a ≡ true
or-false true e = refl
or-false false e = e

-- an option with what follows it begins with the option
begins-with : (o : Text) (v : Option Text) → bytes_eq (take (length (45 ∷ 45 ∷ o)) (45 ∷ 45 ∷ with_value o v)) (45 ∷ 45 ∷ o) ≡ true
begins-with o None = (bytes_eq-Decides (take (length (45 ∷ 45 ∷ o)) (45 ∷ 45 ∷ o)) (45 ∷ 45 ∷ o)).1 (take-length (45 ∷ 45 ∷ o))
begins-with o (Some value) =
    (bytes_eq-Decides (take (length (45 ∷ 45 ∷ o)) ((45 ∷ 45 ∷ o) ++ 61 ∷ value)) (45 ∷ 45 ∷ o)).1 (take-append_seam (45 ∷ 45 ∷ o) (61 ∷ value))

-- the long name of an argument is its id, and it has no other
unfoldable pub IsNamedById : Rule → Type 0
IsNamedById a = (a.long ≡ Some a.id) × (a.aliases ≡ [])

-- so the argument that a long name finds has that name for its id
long-found : (c : List Rule) (name : Text) (a : Rule) → Each IsNamedById c → arg_by_long c name ≡ Some a → a.id ≡ name
unfolding IsNamedById
long-found c name a all e =
    let found = find-has (λ (r : Rule). not (is_some r.index) && has_long r name) IsNamedById c a e all in
    let long : has_long a name ≡ true = (and_parts (not (is_some a.index)) (has_long a name) found.0).1 in
    (bytes_eq-Decides a.id name).0 (or-false (bytes_eq a.id name) (rw (found.1.0, found.1.1) at long))

-- a word that does not begin with the option's name names another, or none
word-other : (c : List Rule) (o word : Text) → Each IsNamedById c → bytes_eq (take (length (45 ∷ 45 ∷ o)) word) (45 ∷ 45 ∷ o) ≡ false → NamesOther c o word
word-other c o word all out = first (long_of word) refl
  where
    begins-so : (v : Option Text) → word ≡ 45 ∷ 45 ∷ with_value o v → ⊥
    begins-so v is = true≢false (sym (begins-with o v) ∙ sym (ap (λ w. bytes_eq (take (length (45 ∷ 45 ∷ o)) w) (45 ∷ 45 ∷ o)) is) ∙ out)

    third : (name : Text) (v : Option Text) (a : Rule) → word ≡ 45 ∷ 45 ∷ with_value name v → a.id ≡ name → (b : Bool) → bytes_eq a.id o ≡ b → bytes_eq a.id o ≡ false
    third name v a word-is named false is = is
    third name v a word-is named true is =
        let same : name ≡ o = sym named ∙ (bytes_eq-Decides a.id o).0 is in
        absurd (begins-so v (word-is ∙ ap (λ n. 45 ∷ 45 ∷ with_value n v) same))

    second : (name : Text) (v : Option Text) → word ≡ 45 ∷ 45 ∷ with_value name v → (found : Option Rule) → arg_by_long c name ≡ found → IfSome found (λ a. bytes_eq a.id o ≡ false)
    second name v word-is None e = tt
    second name v word-is (Some a) e = third name v a word-is (long-found c name a all e) (bytes_eq a.id o) refl

    first : (p : Option (Text × Option Text)) → long_of word ≡ p → IfSome p (λ q. IfSome (arg_by_long c q.0) (λ a. bytes_eq a.id o ≡ false))
    first None e = tt
    first (Some (name, v)) e = second name v (long_of-is word name v e) (arg_by_long c name) refl

-- the same of each word of a line
arguments-other : (c : List Rule) (o : Text) (arguments : List Text) → Each IsNamedById c → list_any (begins (45 ∷ 45 ∷ o)) arguments ≡ false → Each (NamesOther c o) arguments
arguments-other c o [] all out = tt
arguments-other c o (word ∷ rest) all out =
    let parts = or_parts (begins (45 ∷ 45 ∷ o) word) (list_any (begins (45 ∷ 45 ∷ o)) rest) out in
    (word-other c o word all parts.0, arguments-other c o rest all parts.1)

-- an option that is left out has no row
pub row-left-out : (c : List Rule) (arguments : List Text) (program name : Text) (rest : List Text) (o : Text) → arguments ≡ program ∷ name ∷ rest → Avoids c o → Each IsNamedById c
    → Each (λ a. (bytes_eq a.id o ≡ false) ⊎ (a.defaults ≡ [])) c → IsLeftOut (45 ∷ 45 ∷ o) arguments → has_row o (rows_after c [] rest) ≡ false
row-left-out c arguments program name rest o line avoids all none out =
    let from-line : list_any (begins (45 ∷ 45 ∷ o)) (program ∷ name ∷ rest) ≡ false = subst (λ ws. list_any (begins (45 ∷ 45 ∷ o)) ws ≡ false) line out in
    let after-program = (or_parts (begins (45 ∷ 45 ∷ o) program) _ from-line).1 in
    let after-name = (or_parts (begins (45 ∷ 45 ∷ o) name) (list_any (begins (45 ∷ 45 ∷ o)) rest) after-program).1 in
    let end = walk-clean c o avoids rest (walk_from nothing_held) (arguments-other c o rest all after-name)
    (record { goes_on = refl; lacks = (refl, tt); waits_other = tt }) in
    defaults-lack o c _ none (settled-lacks c o (fold (walked c []) (walk_from nothing_held) rest).held end.lacks)
