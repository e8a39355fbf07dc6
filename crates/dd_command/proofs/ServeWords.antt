-- What a line of `serve` asks for.
use Rattle.std.proofs.Common.{◌≡◌, ◌∙◌, ◌≤◌, ◌&&◌, ◌||◌, true≢false, ℕ, zero, suc, Bool, cond, codes, true, false, refl, sym, ap, List, [], ◌∷◌, Option, Some, None, Result, Ok, Err, nat_le}
use Rattle.std.specs.Prelude.{IfOk, IfSome, option_and_then, option_map, slice_get, unwrap_or}
use Rattle.std.specs.List.{find, list_any}
use Rattle.std.specs.Option.{option_map_or}
use Rattle.std.specs.Str.{bytes_eq}
use Rattle.std.specs.Str.Parse.{ParsesUnsigned}
use Rattle.std.specs.Borrow.{Bor}
use Rattle.std.proofs.lemmas.Bool.{leb-true, or_from, and_parts}
use Rattle.clap.specs.Matches.{ReadsOne}
use Rattle.clap.specs.Walk.{Row, Rule, Text, first_of, has_row, one_of, row_text, rule_of}
use Rattle.clap.specs.Words.{AddsArg, AddsSubcommand, App, Shape, app_of, shape_of, with_rule, with_subcommand}
use Rattle.clap.specs.declared.builder.arg.Arg.{Arg}
use Rattle.clap.specs.declared.builder.command.Command.{Command}
use Rattle.clap.specs.declared.builder.command.Command.TheViews.{out-Command}
use Rattle.std.specs.declared.alloc.AllocError.{AllocError}
use Rattle.dd_command.specs.Program.{IsOption, IsSubcommand}
use Rattle.dd_command.specs.FillWords.{limit_up_to}
use Rattle.dd_command.specs.ServeWords.{IsGivenBy, HasLimit, HasNumber, limit_in, number_in}
use Rattle.dd_command.proofs.Numbers.{value_of}

-- a test that no element passes finds none
finds-none : {X : Type 0} (p : X → Bool) (xs : List X) → list_any p xs ≡ false → find p xs ≡ None
finds-none p [] e = refl
finds-none p (x ∷ xs) e = go (p x) refl e (finds-none p xs)
  where
    go : (b : Bool) → p x ≡ b → (b || list_any p xs) ≡ false → (list_any p xs ≡ false → find p xs ≡ None) → cond b (Some x) (find p xs) ≡ None
    go true is lacks later = absurd (true≢false lacks)
    go false is lacks later = later lacks

-- ---- what the getters answer

-- a flag that has a text is set where that is `true`
pub set-by : (found : Option (Bor Text)) (first : Option Text) (text : Bor Text) (is : Bool) → option_map (λ (s : Bor Text). s.now) found ≡ first → found ≡ Some text
    → is ≡ bytes_eq text.now (codes "true") → is ≡ option_map_or (λ t. bytes_eq t (codes "true")) first false
set-by found first text is of-first found-is is-true =
    is-true ∙ ap (λ (o : Option Text). option_map_or (λ t. bytes_eq t (codes "true")) o false) (sym (ap (option_map (λ (s : Bor Text). s.now)) found-is) ∙ of-first)

-- one that has none isn't
pub unset-by : (found : Option (Bor Text)) (first : Option Text) → option_map (λ (s : Bor Text). s.now) found ≡ first → found ≡ None
    → false ≡ option_map_or (λ t. bytes_eq t (codes "true")) first false
unset-by found first of-first found-is =
    ap (λ (o : Option Text). option_map_or (λ t. bytes_eq t (codes "true")) o false) (sym (ap (option_map (λ (s : Bor Text). s.now)) found-is) ∙ of-first)

-- the text of an option, or the default
pub text-or : (found : Option (Bor Text)) (first : Option Text) (default text : Bor Text) → option_map (λ (s : Bor Text). s.now) found ≡ first → default.now ≡ []
    → text ≡ unwrap_or found default → text.now ≡ unwrap_or first []
text-or None first default text of-first empty is = ap (λ (t : Bor Text). t.now) is ∙ empty ∙ ap (λ (o : Option Text). unwrap_or o []) of-first
text-or (Some found) first default text of-first empty is = ap (λ (t : Bor Text). t.now) is ∙ ap (λ (o : Option Text). unwrap_or o []) of-first

-- what a typed getter answers is what the option gives
pub given-read : (E : Type 0) (G : Text → Result ℕ E → Type 0) (bits : ℕ) (text : Option Text) (r : Option ℕ) → (text ≡ None → r ≡ None)
    → ((t : Text) → text ≡ Some t → ReadsOne G t r) → ((u : Text) (x : Result ℕ E) → G u x → ParsesUnsigned bits 10 u x) → IsGivenBy bits text r
given-read E G bits None None none some parses = λ t e. cc
given-read E G bits None (Some n) none some parses = let bad = none refl in cc
given-read E G bits (Some t) (Some n) none some parses = (let read = parses t (Ok n) (some t refl) in (t, refl, read.0, read.1))
given-read E G bits (Some t) None none some parses = λ u e fits.
    let same : t ≡ u = cc in
    let read = some u e in
    absurd (parses u (Err read.0) read.1 fits)

-- ---- the command

-- the command is this one, and no argument of it is global
abbrev pub Holds : App → Command → Type 0
Holds app command = (app_of command ≡ app) × ((out-Command command).has_globals ≡ false)

-- one option more
pub adds : (app : App) (rule : Rule) (old : Command) (a : Arg) (new : Command) → AddsArg old a new → IsOption a rule → Holds app old → Holds (with_rule app rule) new
adds app rule old a new added is before =
    (added.shape is.1 ∙ ap (λ x. with_rule x (rule_of a)) before.0 ∙ ap (with_rule app) is.0, added.globals ∙ or_from _ _ before.1 is.1)

-- the last one
pub adds-last : (app : App) (rule : Rule) (old : Command) (a : Arg) (result : Result Command AllocError) → IfOk result (λ new. AddsArg old a new) → IsOption a rule → Holds app old
    → IfOk result (λ command. IsSubcommand command (with_rule app rule).top)
adds-last app rule old a (Ok new) added is before =
    let done = adds app rule old a new added is before in
    (ap (λ (x : App). x.top) done.0, done.1)
adds-last app rule old a (Err e) added is before = tt

-- one subcommand more
pub adds-command : (app : App) (shape : Shape) (old sub new : Command) → AddsSubcommand old sub new → IsSubcommand sub shape → app_of old ≡ app → app_of new ≡ with_subcommand app shape
adds-command app shape old sub new added is before =
    added.shape is.1 ∙ ap (λ x. with_subcommand x (shape_of sub)) before ∙ ap (with_subcommand app) is.0

-- the last one
pub adds-last-command : (app : App) (shape : Shape) (old sub : Command) (result : Result Command AllocError) → IfOk result (λ new. AddsSubcommand old sub new) → IsSubcommand sub shape
    → app_of old ≡ app → IfOk result (λ command. app_of command ≡ with_subcommand app shape)
adds-last-command app shape old sub (Ok new) added is before = adds-command app shape old sub new added is before
adds-last-command app shape old sub (Err e) added is before = tt

-- ---- one meaning

-- a text gives one number
pub given-one : (bits : ℕ) (text : Option Text) (a b : Option ℕ) → IsGivenBy bits text a → IsGivenBy bits text b → a ≡ b
given-one bits text (Some m) (Some n) one other =
    let same : one.0 ≡ other.0 = let e : Some one.0 ≡ Some other.0 = sym one.1 ∙ other.1 in cc in
    ap Some (one.3 ∙ ap value_of same ∙ sym other.3)
given-one bits text (Some m) None one other = absurd (other one.0 one.1 one.2)
given-one bits text None (Some n) one other = absurd (one other.0 other.1 other.2)
given-one bits text None None one other = refl

-- rows have one number of an option
pub number-one : (option : Text) (rows : List Row) (least most default a b : ℕ) → HasNumber option rows least most default a → HasNumber option rows least most default b → a ≡ b
number-one option rows least most default a b one other =
    one.2 ∙ ap (number_in least most default) (given-one 32 (one_of option rows) one.0 other.0 one.1 other.1) ∙ sym other.2

-- and one limit
pub limit-one : (option : Text) (rows : List Row) (most default : ℕ) (a b : Option ℕ) → HasLimit option rows most default a → HasLimit option rows most default b → a ≡ b
limit-one option rows most default a b one other =
    one.2 ∙ ap (limit_in most default) (given-one 64 (one_of option rows) one.0 other.0 one.1 other.1) ∙ sym other.2

-- ---- ranges

-- a number lies in its range where its default does
pub number-fits : (least most default : ℕ) (given : Option ℕ) → least ≤ default → default ≤ most
    → (least ≤ number_in least most default given) × (number_in least most default given ≤ most)
number-fits least most default None low high = (low, high)
number-fits least most default (Some number) low high = go (nat_le least number && nat_le number most) refl
  where
    go : (b : Bool) → (nat_le least number && nat_le number most) ≡ b → (least ≤ cond b number default) × (cond b number default ≤ most)
    go true is =
        let parts = and_parts (nat_le least number) (nat_le number most) is in
        (leb-true least number parts.0, leb-true number most parts.1)
    go false is = (low, high)

-- and so does a limit
pub limit-fits : (most default : ℕ) (given : Option ℕ) → default ≤ most → IfSome (limit_in most default given) (λ number. number ≤ most)
limit-fits most default None low = low
limit-fits most default (Some zero) low = tt
limit-fits most default (Some (suc number)) low = go (nat_le (suc number) most) refl
  where
    go : (b : Bool) → nat_le (suc number) most ≡ b → IfSome (cond b (Some (suc number)) (Some default)) (λ n. n ≤ most)
    go true is = leb-true (suc number) most is
    go false is = low

-- a limit that has no default lies in its range
pub up-to-fits : (most : ℕ) (given : Option ℕ) → IfSome (limit_up_to most given) (λ number. number ≤ most)
up-to-fits most None = tt
up-to-fits most (Some number) = go (nat_le number most) refl
  where
    go : (b : Bool) → nat_le number most ≡ b → IfSome (cond b (Some number) None) (λ n. n ≤ most)
    go true is = leb-true number most is
    go false is = tt

-- ---- what is left out

-- an option without a row gives nothing
pub none-given : (bits : ℕ) (text : Option Text) (given : Option ℕ) → text ≡ None → IsGivenBy bits text given → given ≡ None
none-given bits text None none is = refl
none-given bits text (Some n) none is = let bad : None ≡ Some is.0 = sym none ∙ is.1 in cc

-- so its number is the default
pub number-default : (option : Text) (rows : List Row) (least most default number : ℕ) → one_of option rows ≡ None → HasNumber option rows least most default number → number ≡ default
number-default option rows least most default number none is = is.2 ∙ ap (number_in least most default) (none-given 32 (one_of option rows) is.0 none is.1)

-- and so is its limit
pub limit-default : (option : Text) (rows : List Row) (most default : ℕ) (limit : Option ℕ) → one_of option rows ≡ None → HasLimit option rows most default limit → limit ≡ Some default
limit-default option rows most default limit none is = is.2 ∙ ap (limit_in most default) (none-given 64 (one_of option rows) is.0 none is.1)

-- no row of an option has no text of it
pub no-row : (option : Text) (rows : List Row) → has_row option rows ≡ false → one_of option rows ≡ None
no-row option rows lacks = ap (option_and_then row_text) (finds-none (λ (r : Row). bytes_eq r.id option) rows lacks)

-- nor has it a first one
pub no-first : (option : Text) (rows : List Row) → has_row option rows ≡ false → first_of option rows ≡ None
no-first option rows lacks = ap (option_and_then (λ (r : Row). slice_get r.values 0)) (finds-none (λ (r : Row). bytes_eq r.id option) rows lacks)
