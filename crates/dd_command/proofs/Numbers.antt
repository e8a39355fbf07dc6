-- The texts of numbers.
use Rattle.std.proofs.Common.{◌≡◌, ◌≤◌, ℕ, Bool, codes, true, false, ◌==◌, refl, sym, ap, subst, arith, [], ◌∷◌, Option, Some, None, Result, Ok, Err}
use Rattle.std.specs.Prelude.{IfSome, IsSome, option_map, pos}
use Rattle.std.specs.Str.{bytes_eq}
use Rattle.std.specs.Str.Parse.{IsNumeral, ParsesUnsigned, digits_value, starts_with_minus, without_leading_plus}
use Rattle.std.proofs.lemmas.Bool.{eqb-true}
use Rattle.std.proofs.lemmas.Int.{ints}
use Rattle.clap.specs.Lexer.{long_of, short_of, without_minus}
use Rattle.clap.specs.Values.{IsSignedIn, IsUnsignedIn}
use Rattle.clap.specs.Matches.{ReadsOne}
use Rattle.clap.specs.Walk.{Text}
use Rattle.dd_command.specs.CommandLine.{IsBudget, IsNumberText}
use Rattle.dd_command.specs.Program.{FitsBits}

-- the number that a text writes, after any plus sign
abbrev pub value_of : Text → ℕ
value_of text = digits_value 10 (without_leading_plus text)

-- the digits after a minus sign are no numeral of their own
minus-fails : (xs : Text) → IsNumeral 10 (without_leading_plus (45 ∷ xs)) → ⊥
minus-fails xs numeral = omega (arith, numeral.1.0)

-- a numeral begins with no minus sign
pub no-minus : (text : Text) → IsNumeral 10 (without_leading_plus text) → (x : ℕ) × (xs : Text) × (text ≡ x ∷ xs) × ((x == 45) ≡ false)
no-minus [] numeral = absurd (omega (arith, numeral.0))
no-minus (x ∷ xs) numeral = go (x == 45) refl
  where
    go : (b : Bool) → (x == 45) ≡ b → (y : ℕ) × (ys : Text) × (x ∷ xs ≡ y ∷ ys) × ((y == 45) ≡ false)
    go true is = absurd (minus-fails xs (subst (λ y. IsNumeral 10 (without_leading_plus (y ∷ xs))) (eqb-true x 45 is) numeral))
    go false is = (x, xs, refl, is)

-- the word is no flag, and not `--`
abbrev pub IsPlain : Text → Type 0
IsPlain text = (bytes_eq text (codes "--") ≡ false) × (long_of text ≡ None) × (short_of text ≡ None)

-- a numeral is such a word
pub numeral-plain : (text : Text) → IsNumeral 10 (without_leading_plus text) → IsPlain text
numeral-plain text numeral =
    let begun = no-minus text numeral in
    subst IsPlain (sym begun.2) (rw begun.3 refl, rw begun.3 refl, rw begun.3 refl)

-- so it is read as it is written
pub numeral-without_minus : (text : Text) → IsNumeral 10 (without_leading_plus text) → without_minus text ≡ text
numeral-without_minus text numeral =
    let begun = no-minus text numeral in
    subst (λ t. without_minus t ≡ t) (sym begun.2) (rw begun.3 refl)

-- and has no minus sign
numeral-sign : (text : Text) → IsNumeral 10 (without_leading_plus text) → starts_with_minus text ≡ false
numeral-sign text numeral =
    let begun = no-minus text numeral in
    subst (λ t. starts_with_minus t ≡ false) (sym begun.2) begun.3

-- what a parser of numbers from 1 to so many lets through
pub range-accepted : (most : ℕ) (text : Text) → IsSignedIn (pos 1) (pos most) text → IsNumberText text (value_of text) × ((1 ≤ value_of text) × (value_of text ≤ most))
range-accepted most text passed = go (starts_with_minus text) refl
  where
    go : (b : Bool) → starts_with_minus text ≡ b → IsNumberText text (value_of text) × ((1 ≤ value_of text) × (value_of text ≤ most))
    go true is =
        let low = rw is at passed.2 in
        absurd (omega (arith, ints))
    go false is =
        let numeral : IsNumeral 10 (without_leading_plus text) = rw is at passed.0 in
        let low = rw is at passed.2 in
        let high = rw is at passed.3 in
        ((numeral, refl), (omega (arith, ints), omega (arith, ints)))

-- it lets each number of its range through
pub range-accepts : (most : ℕ) (text : Text) (number : ℕ) → IsNumberText text number → 1 ≤ number → number ≤ most → most ≤ 65536 → IsSignedIn (pos 1) (pos most) text
range-accepts most text number is low high small =
    let sign = numeral-sign text is.0 in
    let same = is.1 in
    rw sign (is.0, omega (arith, ints), omega (arith, ints), omega (arith, ints))

-- what the parser of the budget lets through
pub budget-accepted : (text : Text) → IsUnsignedIn 0 1000000000000 text → IsNumberText text (value_of text) × IsBudget (value_of text)
budget-accepted text passed = ((passed.0, refl), passed.3)

-- it lets each number of its range through
pub budget-accepts : (text : Text) (number : ℕ) → IsNumberText text number → IsBudget number → IsUnsignedIn 0 1000000000000 text
budget-accepts text number is fits =
    let same = is.1 in
    (is.0, omega arith, omega arith, omega arith)

-- a number that fits its type is read
pub reads-number : (E : Type 0) (G : Text → Result ℕ E → Type 0) (bits : ℕ) (text : Text) (r : Option ℕ) → ReadsOne G text r
    → ((u : Text) (x : Result ℕ E) → G u x → ParsesUnsigned bits 10 u x) → FitsBits bits text → r ≡ Some (value_of text)
reads-number E G bits text (Some v) read parses fits = ap Some (parses text (Ok v) read).1
reads-number E G bits text None read parses fits = absurd (parses text (Err read.0) read.1 fits)

-- what a typed getter answers, where the text fits the type
pub option-read : (E : Type 0) (G : Text → Result ℕ E → Type 0) (bits : ℕ) (text : Option Text) (r : Option ℕ) → (text ≡ None → r ≡ None)
    → ((t : Text) → text ≡ Some t → ReadsOne G t r) → ((u : Text) (x : Result ℕ E) → G u x → ParsesUnsigned bits 10 u x) → IfSome text (FitsBits bits) → r ≡ option_map value_of text
option-read E G bits None r none some parses fits = none refl
option-read E G bits (Some t) r none some parses fits = reads-number E G bits t r (some t refl) parses fits

-- what is there is there when it is turned
pub is_some-mapped : {X Y : Type 0} (f : X → Y) (o : Option X) → IsSome o → IsSome (option_map f o)
is_some-mapped f None is = is
is_some-mapped f (Some x) is = refl
