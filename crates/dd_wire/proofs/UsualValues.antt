-- Values of a usual form, as the tokens of their text.
use Rattle.std.proofs.Common.{◌≡◌, ℕ, zero, suc, ◌+◌, ◌-◌, ◌/◌, ◌%◌, ◌^◌, ◌<◌, ◌≤◌, Bool, true, false, cond, ◌&&◌, ◌||◌, ◌==◌, List, [], ◌∷◌, ◌++◌, length, Option, Some, None, option_map, option_and_then, inl, inr, refl, sym, ap, ap₂, ◌∙◌, subst, arith, ◌*◌, append_assoc, decimal}
use Rattle.std.proofs.lemmas.Bool.{false≢true, and_parts, or_parts, not-true, eqb-true}
use Rattle.std.proofs.lemmas.Bool.Decides.{eqb_tells}
use Rattle.std.proofs.lemmas.Fmt.{decimal_digit, decimal_step}
use Rattle.std.specs.List.{list_all}
use Rattle.std.specs.Prelude.{◌⊎◌, nat_lt, slice_get, IfSome}
use Rattle.json.specs.Token.{Token}
use Rattle.json.specs.Text.{content, plain, prepend}
use Rattle.json.specs.Word.{is_operator, is_space, ends_word, after_number}
use Rattle.json.specs.Run.{is_stop, is_plain}
use Rattle.json.specs.Lex.{Lexeme, token, colon, Mode, operator, space, other, Place, fresh, after_value, after_comma, after_key, may_begin, may_close, lex, lex_byte, between, in_string, begins_colon, string_token, punctuate}
use Rattle.json.specs.Json as json
use Rattle.json.specs.Json.{Parse, parse_map, after_end_array, read_key}
use Rattle.json.proofs.Grammar.{left as rest_of, skip_value-shorter, value_is, value-begin_array, value-begin_object, items_end, items_more, members_end, members_more, read_key-shorter}
use Rattle.json.proofs.Printed.Decimals.{IsNumber-decimal}
use Rattle.json.proofs.Printed.Numbers.{lex-number}
use Rattle.serde_json.specs.Data.{Num, negative, float, Data, number, unsigned, string, array, object, Items, no_items, item, Members, no_members, put}
use Rattle.serde_json.specs.Read.{number_of, of_json, of_items, of_members, converted, read}
use Rattle.serde_json.proofs.Numbers.{number_of-decimal}
use Rattle.serde_json.proofs.OnLiterals.{serde_json_on_literals}
use Rattle.dd_wire.specs.declared.usual_reader.Fields.{Fields}
use Rattle.dd_wire.specs.UsualLines.{Adds, members_of, left, IsValue, AreItems, Opens, Closes, GoesOn, IsMember, AreMembers}

-- ---- a value that was read

abbrev pick : {A : Type 0} → A → Option A → A
pick d None = d
pick d (Some a) = a

found : {A B : Type 0} (a : A) (r s : List Token) (x : Option B) (b : B) → option_map {U = B × List Token} (λ y. (y, r)) x ≡ Some (b, s) → (r ≡ s) × (x ≡ Some b)
found a r s None b e = absurd (cc)
found a r s (Some y) b e = let same = ap (pick (y, r)) e in (ap (λ p. p.1) same, ap (λ p. Some p.0) same)

converted_some : {A B : Type 0} (f : A → Option B) (o : Option (A × List Token)) (b : B) (r : List Token) → converted f o ≡ Some (b, r) → (a : A) × (o ≡ Some (a, r)) × (f a ≡ Some b)
converted_some f None b r e = absurd (cc)
converted_some f (Some p) b r e = let both = found p.0 p.1 r (f p.0) b e in (p.0, ap (λ s. Some (p.0, s)) both.0, both.1)

twice : {A B : Type 0} (g : A → B) (r : List Token) (x : Option A) → option_map (λ b. (b, r)) (option_map g x) ≡ parse_map g (option_map (λ a. (a, r)) x)
twice g r None = refl
twice g r (Some a) = refl

converted-array : (o : Option (json.Items × List Token)) → converted of_json (parse_map json.array o) ≡ parse_map array (converted of_items o)
converted-array None = refl
converted-array (Some p) = twice array p.1 (of_items p.0)

converted-object : (o : Option (json.Members × List Token)) → converted of_json (parse_map json.object o) ≡ parse_map object (converted (λ ms. of_members ms no_members) o)
converted-object None = refl
converted-object (Some p) = twice object p.1 (of_members p.0 no_members)

with_item : (j : json.Json) (d : Data) → of_json j ≡ Some d → (o : Option (json.Items × List Token)) → converted of_items (parse_map (json.item j) o) ≡ parse_map (item d) (converted of_items o)
with_item j d e None = refl
with_item j d e (Some p) = rw e (twice (item d) p.1 (of_items p.0))

with_member : (k : List ℕ) (j : json.Json) (d : Data) (old : Members) → of_json j ≡ Some d → (o : Option (json.Members × List Token))
    → converted (λ ms. of_members ms old) (parse_map (json.member k j) o) ≡ converted (λ ms. of_members ms (put k d old)) o
with_member k j d old e None = refl
with_member k j d old e (Some p) = rw e

-- a value takes a token or more
shorter : (depth : ℕ) (ts : List Token) (j : json.Json) (r : List Token) → json.value depth ts ≡ Some (j, r) → length r < length ts
shorter depth ts j r is = skip_value-shorter depth ts r (ap rest_of is)

-- and it doesn't begin where an array closes
no_end : (depth : ℕ) (ts : List Token) (j : json.Json) (r : List Token) → json.value depth ts ≡ Some (j, r) → after_end_array ts ≡ None
no_end depth [] j r is = refl
no_end depth (Token.begin_object ∷ ts) j r is = refl
no_end depth (Token.end_object ∷ ts) j r is = refl
no_end depth (Token.begin_array ∷ ts) j r is = refl
no_end depth (Token.end_array ∷ ts) j r is = absurd (let none = value_is depth (Token.end_array ∷ ts) in cc)
no_end depth (Token.key s ∷ ts) j r is = refl
no_end depth (Token.string s ∷ ts) j r is = refl
no_end depth (Token.number s ∷ ts) j r is = refl
no_end depth (Token.boolean b ∷ ts) j r is = refl
no_end depth (Token.null ∷ ts) j r is = refl
no_end depth (Token.bad ∷ ts) j r is = refl

-- ---- items

pub items-end : {least : ℕ} {text rest : List ℕ} (place : Place) → may_close place ≡ true → Closes text rest → AreItems least place text no_items rest
items-end place may closes = record { reads = λ depth n deep enough. ap (converted of_items) (items_end (json.value depth) n _ _ enough (ap after_end_array (closes.reads place may))) }

pub items-more : {least : ℕ} {text mid rest : List ℕ} {value : Data} {items : Items} (place : Place) → may_begin place ≡ true → IsValue least text value mid → AreItems least after_value mid items rest
    → AreItems least place text (item value items) rest
items-more {least} {text} {mid} {rest} {value} {items} place may is more =
    record {
      reads = λ depth n deep enough.
          let ts = left place text in
          let (j, at, of) = converted_some of_json (json.value depth ts) value (left after_value mid) (is.reads depth place deep may) in
          let less = shorter depth ts j (left after_value mid) at in
          ap (converted of_items) (items_more (json.value depth) n ts (left after_value mid) j (omega arith) (no_end depth ts j _ at) at) ∙ with_item j value of _
          ∙ ap (parse_map (item value)) (more.reads depth (n - 1) deep (omega arith));
    }

pub items-comma : {least : ℕ} {text next rest : List ℕ} {items : Items} → GoesOn text next → AreItems least after_comma next items rest → AreItems least after_value text items rest
items-comma {least} {text} {next} {rest} {items} on are =
    record { reads = λ depth n deep enough. rw on.reads (are.reads depth n deep (rw on.reads at enough)) }

-- an array of them
pub array-is : {least : ℕ} {text next rest : List ℕ} {items : Items} → Opens text next → AreItems least fresh next items rest → IsValue (suc least) text (array items) rest
array-is {least} {text} {next} {rest} {items} opens are =
    record {
      reads = λ depth place deep may.
          ap (converted of_json) (ap (json.value depth) (opens.reads place may) ∙ value-begin_array depth (left fresh next) (omega arith))
          ∙ converted-array (json.items (json.value (depth - 1)) (length (left fresh next)) (left fresh next)) ∙ ap (parse_map array) (are.reads (depth - 1) (length (left fresh next)) (omega arith) (omega arith));
    }

-- deeper arrays are allowed too
pub deeper : {least more : ℕ} {text rest : List ℕ} {value : Data} → least ≤ more → IsValue least text value rest → IsValue more text value rest
deeper le is = record { reads = λ depth place deep may. is.reads depth place (omega arith) may }

-- ---- members

pub members-end : {text rest : List ℕ} {old : Members} → left after_value text ≡ Token.end_object ∷ left after_value rest → AreMembers after_value text old old rest
members-end {text} {rest} {old} closes =
    record { reads = λ n enough. ap (converted (λ ms. of_members ms old)) (members_end (json.value 126) n _ _ enough (ap read_key closes)) }

pub members-more : {text key mid rest : List ℕ} {value : Data} {old new : Members} (place : Place) → may_begin place ≡ true → IsMember text key value mid → AreMembers after_value mid (put key value old) new rest
    → AreMembers place text old new rest
members-more {text} {key} {mid} {rest} {value} {old} {new} place may is more =
    record {
      reads = λ n enough.
          let ts = left place text in
          let s = left fresh is.after in
          let named : read_key ts ≡ Some (Some key, s) = ap read_key (is.named place may) in
          let (j, at, of) = converted_some of_json (json.value 126 s) value (left after_value mid) (is.valued.reads 126 fresh (omega arith) refl) in
          let less = shorter 126 s j (left after_value mid) at in
          let lesser = read_key-shorter ts (Some key) s named in
          ap (converted (λ ms. of_members ms old)) (members_more (json.value 126) n key ts s (left after_value mid) j (omega arith) named at) ∙ with_member key j value old of _
          ∙ more.reads (n - 1) (omega arith);
    }

-- a field more
pub adds-more : {text rest end : List ℕ} {old next : Fields} {new : Members} (place : Place) → may_begin place ≡ true → Adds text old rest next → AreMembers after_value rest (members_of next) new end
    → AreMembers place text (members_of old) new end
adds-more {text} {rest} {end} {old} {next} {new} place may adds more = members-more place may adds.is (subst (λ ms. AreMembers after_value rest ms new end) (sym adds.added) more)

pub members-comma : {text next rest : List ℕ} {old new : Members} → GoesOn text next → AreMembers after_comma next old new rest → AreMembers after_value text old new rest
members-comma {text} {next} {rest} {old} {new} on are = record { reads = λ n enough. rw on.reads (are.reads n (rw on.reads at enough)) }

-- ---- the whole line

pub line-is : (line text next : List ℕ) (new : Members) → line ≡ 123 ∷ text → lex between next ≡ lex between text → AreMembers fresh next no_members new [] → read line ≡ Some (object new)
unfolding lex punctuate
line-is line text next new stands same are =
    let ts = left fresh text in
    let next-ts : left fresh next ≡ ts = ap (punctuate fresh) same in
    let inside : converted (λ ms. of_members ms no_members) (json.members (json.value 126) (length ts) ts) ≡ Some (new, []) = rw next-ts at (are.reads (length ts) (rw next-ts (omega arith))) in
    let all : converted of_json (json.value 127 (Token.begin_object ∷ ts)) ≡ Some (object new, []) =
    ap (converted of_json) (value-begin_object 127 ts (omega arith)) ∙ converted-object (json.members (json.value 126) (length ts) ts) ∙ ap (parse_map object) inside in
    let (j, at, of) = converted_some of_json (json.value 127 (Token.begin_object ∷ ts)) (object new) [] all in
    ap read stands ∙ ap (λ o. option_and_then of_json (option_and_then (λ p. json.if_last p.0 p.1) o)) at ∙ of

-- ---- leaves

number-left : (place : Place) (s : List ℕ) (ls : List Lexeme) → may_begin place ≡ true → punctuate place (token (Token.number s) ∷ ls) ≡ Token.number s ∷ punctuate after_value ls
unfolding punctuate
number-left fresh s ls may = refl
number-left after_value s ls may = absurd (false≢true may)
number-left after_comma s ls may = refl
number-left after_key s ls may = absurd (false≢true may)

string-left : (place : Place) (s : List ℕ) (ls : List Lexeme) → may_begin place ≡ true → begins_colon ls ≡ false → punctuate place (token (Token.string s) ∷ ls) ≡ Token.string s ∷ punctuate after_value ls
unfolding punctuate
string-left fresh s ls may none = rw none refl
string-left after_value s ls may none = absurd (false≢true may)
string-left after_comma s ls may none = rw none refl
string-left after_key s ls may none = absurd (false≢true may)

key-left : (place : Place) (s : List ℕ) (ls : List Lexeme) → may_begin place ≡ true → punctuate place (token (Token.string s) ∷ colon ∷ ls) ≡ Token.key s ∷ punctuate fresh ls
unfolding punctuate
key-left fresh s ls may = refl
key-left after_value s ls may = absurd (false≢true may)
key-left after_comma s ls may = refl
key-left after_key s ls may = absurd (false≢true may)

pub number-is : (text s rest : List ℕ) (n : ℕ) → lex between text ≡ token (Token.number s) ∷ lex between rest → number_of s ≡ Some (unsigned n) → IsValue 0 text (number (unsigned n)) rest
number-is text s rest n is of =
    record {
      reads = λ depth place deep may.
          ap (λ ts. converted of_json (json.value depth ts)) (ap (punctuate place) is ∙ number-left place s (lex between rest) may)
          ∙ ap (converted of_json) (value_is depth _) ∙ rw of refl;
    }

pub string-is : (text s rest : List ℕ) → lex between text ≡ token (Token.string s) ∷ lex between rest → begins_colon (lex between rest) ≡ false → IsValue 0 text (string s) rest
string-is text s rest is none =
    record {
      reads = λ depth place deep may.
          ap (λ ts. converted of_json (json.value depth ts)) (ap (punctuate place) is ∙ string-left place s (lex between rest) may none)
          ∙ ap (converted of_json) (value_is depth _);
    }

-- a key, a colon and a value
pub member-is : (text key after rest : List ℕ) (value : Data) → lex between text ≡ token (Token.string key) ∷ colon ∷ lex between after → IsValue 2 after value rest → IsMember text key value rest
member-is text key after rest value is valued =
    record { after = after; named = λ place may. ap (punctuate place) is ∙ key-left place key (lex between after) may; valued = valued }

-- the same value after a space
pub spaced : {least : ℕ} {text after rest : List ℕ} {value : Data} → lex between after ≡ lex between text → IsValue least after value rest → IsValue least text value rest
spaced {least} {text} {after} {rest} {value} same is = record { reads = λ depth place deep may. rw (← same) (is.reads depth place deep may) }

-- ---- plain text

stays_inside : (o s : Bool) (x : ℕ) (r : List ℕ) (k : Mode → List Lexeme) → lex_byte in_string (cond o operator (cond s space other)) x r k ≡ k in_string
stays_inside true s x r k = refl
stays_inside false true x r k = refl
stays_inside false false x r k = refl

is_plain-tests : (x : ℕ) → is_plain x ≡ true → ((x == 34) ≡ false) × ((x == 92) ≡ false) × (nat_lt x 32 ≡ false)
is_plain-tests x is =
    let none = or_parts ((x == 34) || (x == 92)) (nat_lt x 32) (not-true (is_stop x) is) in
    let two = or_parts (x == 34) (x == 92) none.0 in
    (two.0, two.1, none.1)

content-plain : (s r : List ℕ) → list_all is_plain s ≡ true → content plain (s ++ 34 ∷ r) ≡ Some s
unfolding content
content-plain [] r all = refl
content-plain (x ∷ s) r all =
    let both = and_parts (is_plain x) (list_all is_plain s) all in
    let (quote, slash, low) = is_plain-tests x both.0 in
    rw (quote, slash, low) (ap (prepend (x ∷ [])) (content-plain s r both.1))

lex-plain : (s r : List ℕ) → list_all is_plain s ≡ true → lex in_string (s ++ 34 ∷ r) ≡ lex between r
unfolding lex
lex-plain [] r all = refl
lex-plain (x ∷ s) r all =
    let both = and_parts (is_plain x) (list_all is_plain s) all in
    let (quote, slash, low) = is_plain-tests x both.0 in
    rw (quote, slash) (stays_inside (is_operator x) (is_space x) x (s ++ 34 ∷ r) (λ m. lex m (s ++ 34 ∷ r))) ∙ lex-plain s r both.1

-- a text in quotes
pub lex-quoted : (s r : List ℕ) → list_all is_plain s ≡ true → lex between (34 ∷ (s ++ 34 ∷ r)) ≡ token (Token.string s) ∷ lex between r
unfolding lex
lex-quoted s r all = ap₂ (λ o l. token (string_token o) ∷ l) (content-plain s r all) (lex-plain s r all)

-- ---- numerals of one digit and two

abbrev each : (ℕ → Bool) → ℕ → Bool
each test zero = true
each test (suc n) = test n && each test n

each-sound : (test : ℕ → Bool) (n k : ℕ) → each test n ≡ true → k < n → test k ≡ true
each-sound test zero k all below = absurd (omega arith)
each-sound test (suc n) k all below =
    let both = and_parts (test n) (each test n) all in
    elim (eqb_tells k n) [
      | inl same ↦ ap test same.1 ∙ both.0
      | inr apart ↦ each-sound test n k both.1 (let ne = apart.1 in omega arith)
    ]

abbrev is_unsigned : Option Num → ℕ → Bool
is_unsigned None n = false
is_unsigned (Some (unsigned m)) n = m == n
is_unsigned (Some (negative z)) n = false
is_unsigned (Some (float x)) n = false

is_unsigned-is : (o : Option Num) (n : ℕ) → is_unsigned o n ≡ true → o ≡ Some (unsigned n)
is_unsigned-is None n is = absurd (false≢true is)
is_unsigned-is (Some (unsigned m)) n is = ap (λ k. Some (unsigned k)) (eqb-true m n is)
is_unsigned-is (Some (negative z)) n is = absurd (false≢true is)
is_unsigned-is (Some (float x)) n is = absurd (false≢true is)

abbrev is_ended : Option (List ℕ) → Bool
is_ended None = false
is_ended (Some []) = true
is_ended (Some (x ∷ rest)) = false

is_ended-is : (o : Option (List ℕ)) → is_ended o ≡ true → o ≡ Some []
is_ended-is None is = absurd (false≢true is)
is_ended-is (Some []) is = refl
is_ended-is (Some (x ∷ rest)) is = absurd (false≢true is)

-- the text is a number, and this one
abbrev is_numeral : List ℕ → ℕ → Bool
is_numeral s n = is_ended (after_number s) && is_unsigned (number_of s) n

one-numeral : each (λ k. is_numeral ((48 + k) ∷ []) k) 10 ≡ true
unfolding serde_json_on_literals
one-numeral = refl

two-numeral : each (λ t. each (λ k. is_numeral ((49 + t) ∷ (48 + k) ∷ []) ((t + 1) * 10 + k)) 10) 9 ≡ true
unfolding serde_json_on_literals
two-numeral = refl

numeral-is : (s rest : List ℕ) (n : ℕ) → is_numeral s n ≡ true → ends_word rest ≡ true → IsValue 0 (s ++ rest) (number (unsigned n)) rest
numeral-is s rest n is ends =
    let both = and_parts (is_ended (after_number s)) (is_unsigned (number_of s) n) is in
    number-is (s ++ rest) s rest n (lex-number s rest (is_ended-is _ both.0) ends) (is_unsigned-is _ n both.1)

pub one-digit : (text rest : List ℕ) (n : ℕ) → n < 10 → text ≡ (48 + n) ∷ rest → ends_word rest ≡ true → IsValue 0 text (number (unsigned n)) rest
one-digit text rest n below stands ends = rw stands (numeral-is ((48 + n) ∷ []) rest n (each-sound (λ k. is_numeral ((48 + k) ∷ []) k) 10 n one-numeral below) ends)

pub two-digits : (text mid rest : List ℕ) (t n : ℕ) → (t ≡ 0 → ⊥) → t < 10 → n < 10 → text ≡ (48 + t) ∷ mid → mid ≡ (48 + n) ∷ rest → ends_word rest ≡ true → IsValue 0 text (number (unsigned (t * 10 + n))) rest
two-digits text mid rest t n some high low stands then ends =
    let row = each-sound (λ h. each (λ k. is_numeral ((49 + h) ∷ (48 + k) ∷ []) ((h + 1) * 10 + k)) 10) 9 (t - 1) two-numeral (omega arith) in
    let is = each-sound (λ k. is_numeral ((49 + (t - 1)) ∷ (48 + k) ∷ []) ((t - 1 + 1) * 10 + k)) 10 n row low in
    let first : 49 + (t - 1) ≡ 48 + t = omega arith in
    let value : t - 1 + 1 ≡ t = omega arith in
    let read : is_numeral ((48 + t) ∷ (48 + n) ∷ []) (t * 10 + n) ≡ true = rw (first, value) at is in
    rw (stands, then) (numeral-is ((48 + t) ∷ (48 + n) ∷ []) rest (t * 10 + n) read ends)

-- ---- longer numerals

decimal-more : (n d : ℕ) → 0 < n → d < 10 → n * 10 + d < 2 ^ 64 → decimal (n * 10 + d) ≡ decimal n ++ (48 + d) ∷ []
decimal-more n d some below small =
    let front : (n * 10 + d) / 10 ≡ n = omega arith in
    let last : (n * 10 + d) % 10 ≡ d = omega arith in
    decimal_step (n * 10 + d) (omega arith) small ∙ rw (front, last) refl

-- a digit that follows is the number's last
pub one-more : (n d : ℕ) (rest behind : List ℕ) → 0 < n → n < 1000000000000000000 → d < 10 → rest ≡ (48 + d) ∷ behind → decimal n ++ rest ≡ decimal (n * 10 + d) ++ behind
one-more n d rest behind some small below is =
    rw (is, decimal-more n d some below (omega arith)) (sym (append_assoc (decimal n) ((48 + d) ∷ []) behind))

-- a number in decimal
decimal-is : (n : ℕ) (rest : List ℕ) → n < 2 ^ 64 → ends_word rest ≡ true → IsValue 0 (decimal n ++ rest) (number (unsigned n)) rest
decimal-is n rest small ends = number-is (decimal n ++ rest) (decimal n) rest n (lex-number (decimal n) rest (IsNumber-decimal n small) ends) (number_of-decimal n small)

-- two digits, and more behind them
pub more-digits : (text mid behind rest : List ℕ) (t d n : ℕ) → (t ≡ 0 → ⊥) → t < 10 → d < 10 → text ≡ (48 + t) ∷ mid → mid ≡ (48 + d) ∷ behind → n < 2 ^ 64
    → decimal (t * 10 + d) ++ behind ≡ decimal n ++ rest → ends_word rest ≡ true → IsValue 0 text (number (unsigned n)) rest
more-digits text mid behind rest t d n some high low stands then small is ends =
    let two : (48 + t) ∷ (48 + d) ∷ behind ≡ decimal (t * 10 + d) ++ behind = rw (decimal-more t d (omega arith) low (omega arith), decimal_digit t high) refl in
    let all : text ≡ decimal n ++ rest = stands ∙ ap (λ r. (48 + t) ∷ r) then ∙ two ∙ is in
    rw all (decimal-is n rest small ends)

-- ---- texts and keys

pub text-is : (text inside s behind rest : List ℕ) → text ≡ 34 ∷ inside → inside ≡ s ++ behind → behind ≡ 34 ∷ rest → list_all is_plain s ≡ true → begins_colon (lex between rest) ≡ false → IsValue 0 text (string s) rest
text-is text inside s behind rest opens is closes all none = string-is text s rest (ap (lex between) (opens ∙ ap (λ t. 34 ∷ t) (is ∙ ap (λ t. s ++ t) closes)) ∙ lex-quoted s rest all) none

pub key-is : (key text after rest : List ℕ) (value : Data) → list_all is_plain key ≡ true → text ≡ 34 ∷ (key ++ 34 ∷ 58 ∷ after) → IsValue 2 after value rest → IsMember text key value rest
unfolding lex
key-is key text after rest value all stands valued = member-is text key after rest value (ap (lex between) stands ∙ lex-quoted key (58 ∷ after) all) valued

pub ends-member : (text : List ℕ) (x : ℕ) → Some x ≡ slice_get text 0 → (x ≡ 44) ⊎ (x ≡ 125) → begins_colon (lex between text) ≡ false
unfolding lex
ends-member [] x is one = absurd (cc)
ends-member (y ∷ text) x is (inl comma-is) = let same : y ≡ 44 = cc in rw same refl
ends-member (y ∷ text) x is (inr brace-is) = let same : y ≡ 125 = cc in rw same refl

-- ---- brackets and commas

open-left : (place : Place) (ls : List Lexeme) → may_begin place ≡ true → punctuate place (token Token.begin_array ∷ ls) ≡ Token.begin_array ∷ punctuate fresh ls
unfolding punctuate
open-left fresh ls may = refl
open-left after_value ls may = absurd (false≢true may)
open-left after_comma ls may = refl
open-left after_key ls may = absurd (false≢true may)

close-left : (place : Place) (ls : List Lexeme) → may_close place ≡ true → punctuate place (token Token.end_array ∷ ls) ≡ Token.end_array ∷ punctuate after_value ls
unfolding punctuate
close-left fresh ls may = refl
close-left after_value ls may = refl
close-left after_comma ls may = absurd (false≢true may)
close-left after_key ls may = absurd (false≢true may)

pub opens-is : (text rest next : List ℕ) → text ≡ 91 ∷ rest → lex between next ≡ lex between rest → Opens text next
unfolding lex
opens-is text rest next stands same =
    record { reads = λ place may. ap (left place) stands ∙ open-left place (lex between rest) may ∙ ap (λ ls. Token.begin_array ∷ punctuate fresh ls) (sym same) }

pub closes-is : (text rest : List ℕ) → text ≡ 93 ∷ rest → Closes text rest
unfolding lex
closes-is text rest stands = record { reads = λ place may. ap (left place) stands ∙ close-left place (lex between rest) may }

pub goes-on : (text rest next : List ℕ) → text ≡ 44 ∷ rest → lex between next ≡ lex between rest → GoesOn text next
unfolding lex punctuate
goes-on text rest next stands same = record { reads = ap (left after_value) stands ∙ ap (punctuate after_comma) (sym same) }

pub object-ends : (text rest : List ℕ) → text ≡ 125 ∷ rest → left after_value text ≡ Token.end_object ∷ left after_value rest
unfolding lex punctuate
object-ends text rest stands = ap (left after_value) stands

pub space-passed : (text rest : List ℕ) → text ≡ 32 ∷ rest → lex between rest ≡ lex between text
unfolding lex
space-passed text rest stands = sym (ap (lex between) stands)

-- ---- answers
-- what follows from what some answer has
pub if-some : {A : Type 0} (o : Option A) (P Q : A → Type 0) → IfSome o P → ((x : A) → P x → Q x) → IfSome o Q
if-some None P Q is then = tt
if-some (Some x) P Q is then = then x is

pub empty-left : (text : List ℕ) → true ≡ (length text == 0) → text ≡ []
empty-left [] is = refl
empty-left (x ∷ text) is = absurd (let none : length (x ∷ text) ≡ 0 = eqb-true _ 0 (sym is) in omega (arith, none))
