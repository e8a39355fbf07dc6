-- What stands in the added lines.
use Rattle.std.proofs.Common.{◌≡◌, ◌∙◌, ℕ, zero, suc, ◌+◌, ◌==◌, ◌-◌, ◌/◌, ◌%◌, ◌<◌, ◌≤◌, Bool, true, false, List, [], ◌∷◌, ◌++◌, refl, sym, ap, arith, true≢false, ne_eqb, codes, decimal, ℤ, pos, negsuc, Ok}
use Rattle.std.proofs.lemmas.Bool.Decides.{nat_tests}
use Rattle.std.specs.Fmt.{digits, digits_onto, digit_glyph}
use Rattle.std.specs.List.{flat_map}
use Rattle.std.specs.Prelude.{if◌then◌else◌, nat_lt}
use Rattle.dd_cards.specs.declared.seat.Seat.{Seat}
use Rattle.dd_cards.specs.declared.seat.Seat.TheVariants.{North, East, South, West}
use Rattle.dd_cards.specs.declared.side.Side.TheVariants.{NorthSouth, EastWest}
use Rattle.dd_cards.specs.declared.strain.Strain.{Strain}
use Rattle.dd_cards.specs.declared.strain.Strain.TheVariants.{Trump, Notrump}
use Rattle.dd_cards.specs.declared.suit.Suit.TheVariants.{Spades, Hearts, Diamonds, Clubs}
use Rattle.dd_score.specs.declared.par_contract.Declarers.{Declarers}
use Rattle.dd_score.specs.declared.par_contract.Declarers.TheVariants.{One, Both}
use Rattle.dd_score.specs.declared.par_contract.ParContract.{ParContract}
use Rattle.dd_file.specs.declared.fill_state.FillState.{FillState}
use Rattle.dd_file.specs.declared.mode.Mode.{Mode}
use Rattle.dd_file.specs.declared.mode.Mode.TheVariants.{Start, Plain, Quoted, Backslash}
use Rattle.dd_file.specs.Lines.{contract_text, contracts_text, declarers_text, denomination, digit_of, digits_of, outcome_text, right_of, row_line, score_text, seat_letter, two_columns}
use Rattle.dd_file.specs.Modes.{next_mode}
use Rattle.dd_file.specs.Tags.{after_string, string_at}
use Rattle.dd_file.proofs.AgainMiss.{string-step}
use Rattle.dd_file.proofs.AgainOver.{Walk, are_data, data-append, data-first, data-other, data-rest, goes-row, is_data, is_quiet, last_of, modes}
use Rattle.dd_file.proofs.AgainTagLines.{IsBody, IsContent}

-- ---- bytes of a string
abbrev pub is_inside : ℕ → Bool
is_inside b = (if b == 34 then false else if b == 92 then false else if b == 10 then false else true)

abbrev pub are_inside : List ℕ → Bool
are_inside [] = true
are_inside (b ∷ p) = (if is_inside b then are_inside p else false)

inside-first : (b : ℕ) (p : List ℕ) → are_inside (b ∷ p) ≡ true → is_inside b ≡ true
inside-first b p good = go (is_inside b) good
  where
    go : (t : Bool) → (if t then are_inside p else false) ≡ true → t ≡ true
    go true e = refl
    go false e = e

inside-rest : (b : ℕ) (p : List ℕ) → are_inside (b ∷ p) ≡ true → are_inside p ≡ true
inside-rest b p good = go (is_inside b) good
  where
    go : (t : Bool) → (if t then are_inside p else false) ≡ true → are_inside p ≡ true
    go true e = e
    go false e = absurd (true≢false (sym e))

pub inside-append : (p q : List ℕ) → are_inside p ≡ true → are_inside q ≡ true → are_inside (p ++ q) ≡ true
inside-append [] q first second = second
inside-append (b ∷ p) q first second =
    ap (λ (t : Bool). if t then are_inside (p ++ q) else false) (inside-first b p first) ∙ inside-append p q (inside-rest b p first) second

inside-next : (b : ℕ) → is_inside b ≡ true → next_mode Quoted b ≡ Quoted
inside-next b good = go (b == 34) (b == 92) (b == 10) good
  where
    go : (x y z : Bool) → (if x then false else if y then false else if z then false else true) ≡ true → (if x then Plain else if y then Backslash else if z then Start else Quoted) ≡ Quoted
    go true y z e = absurd (true≢false (sym e))
    go false true z e = absurd (true≢false (sym e))
    go false false true e = absurd (true≢false (sym e))
    go false false false e = refl

inside-feed : (b : ℕ) → is_inside b ≡ true → (b == 10) ≡ false
inside-feed b good = go (b == 34) (b == 92) (b == 10) good
  where
    go : (x y z : Bool) → (if x then false else if y then false else if z then false else true) ≡ true → z ≡ false
    go true y z e = absurd (true≢false (sym e))
    go false true z e = absurd (true≢false (sym e))
    go false false true e = absurd (true≢false (sym e))
    go false false false e = refl

inside-read : (p t : List ℕ) → are_inside p ≡ true → after_string Quoted (p ++ 34 ∷ t) ≡ Ok t
inside-read [] t good = string-step Quoted 34 t
inside-read (b ∷ p) t good =
    string-step Quoted b (p ++ 34 ∷ t) ∙ ap (λ (m : Mode). string_at m (p ++ 34 ∷ t) (after_string m (p ++ 34 ∷ t))) (inside-next b (inside-first b p good)) ∙ inside-read p t (inside-rest b p good)

inside-modes : (p : List ℕ) → are_inside p ≡ true → modes Quoted p ≡ Quoted
inside-modes [] good = refl
inside-modes (b ∷ p) good = ap (λ (m : Mode). modes m p) (inside-next b (inside-first b p good)) ∙ inside-modes p (inside-rest b p good)

inside-quiet : (p : List ℕ) → are_inside p ≡ true → is_quiet p ≡ true
inside-quiet [] good = refl
inside-quiet (b ∷ p) good = ap (λ (t : Bool). if t then false else is_quiet p) (inside-feed b (inside-first b p good)) ∙ inside-quiet p (inside-rest b p good)

-- ---- digits
inside-byte : (b : ℕ) → (b ≡ 34 → ⊥) → (b ≡ 92 → ⊥) → (b ≡ 10 → ⊥) → is_inside b ≡ true
inside-byte b x y z = rw (ne_eqb b 34 x, ne_eqb b 92 y, ne_eqb b 10 z) refl

digit-inside : (n : ℕ) → is_inside (digit_of n) ≡ true
digit-inside n = go (nat_lt n 10) refl
  where
    small : (n : ℕ) → nat_lt n 10 ≡ true → n < 10
    small n e = grind (arith, nat_tests)

    large : (n : ℕ) → nat_lt n 10 ≡ false → 10 ≤ n
    large n e = grind (arith, nat_tests)

    go : (t : Bool) → nat_lt n 10 ≡ t → is_inside (if t then 48 + n else 87 + n) ≡ true
    go true e = let few : n < 10 = small n e in inside-byte (48 + n) (λ s. omega arith) (λ s. omega arith) (λ s. omega arith)
    go false e = let many : 10 ≤ n = large n e in inside-byte (87 + n) (λ s. omega arith) (λ s. omega arith) (λ s. omega arith)

onto-inside : (k n : ℕ) (acc : List ℕ) → are_inside acc ≡ true → are_inside (digits_onto k 10 false n acc) ≡ true
onto-inside zero n acc good = good
onto-inside (suc k) n acc good = go (n / 10 == 0) (onto-inside k (n / 10) (digit_glyph false (n % 10) ∷ acc) more)
  where
    more : are_inside (digit_glyph false (n % 10) ∷ acc) ≡ true
    more = ap (λ (t : Bool). if t then are_inside acc else false) (digit-inside (n % 10)) ∙ good

    go : (t : Bool) → are_inside (digits_onto k 10 false (n / 10) (digit_glyph false (n % 10) ∷ acc)) ≡ true
        → are_inside (if t then digit_glyph false (n % 10) ∷ acc else digits_onto k 10 false (n / 10) (digit_glyph false (n % 10) ∷ acc)) ≡ true
    go true next = more
    go false next = next

decimal-inside : (n : ℕ) → are_inside (decimal n) ≡ true
unfolding digits
decimal-inside n = onto-inside 64 n [] refl

pub digits-inside : (table : List (List ℕ)) (declarer : Seat) → are_inside (digits_of table declarer) ≡ true
unfolding digits_of
digits-inside table declarer = rw (digit-inside _, digit-inside _, digit-inside _, digit-inside _, digit-inside _) refl

-- ---- par
pub score-inside : (score : ℤ) → are_inside (score_text score) ≡ true
unfolding score_text
score-inside (pos score) = decimal-inside score
score-inside (negsuc score) = decimal-inside (suc score)

denomination-inside : (strain : Strain) → are_inside (denomination strain) ≡ true
denomination-inside (Trump Spades) = refl
denomination-inside (Trump Hearts) = refl
denomination-inside (Trump Diamonds) = refl
denomination-inside (Trump Clubs) = refl
denomination-inside Notrump = refl

declarers-inside : (declarers : Declarers) → are_inside (declarers_text declarers) ≡ true
declarers-inside (One North) = refl
declarers-inside (One East) = refl
declarers-inside (One South) = refl
declarers-inside (One West) = refl
declarers-inside (Both NorthSouth) = refl
declarers-inside (Both EastWest) = refl

outcome-inside : (level tricks : ℕ) → are_inside (outcome_text level tricks) ≡ true
outcome-inside level tricks = go (tricks == level + 6) (nat_lt (level + 6) tricks)
  where
    go : (a b : Bool) → are_inside (if a then codes "=" else if b then codes "+" ++ decimal (tricks - (level + 6)) else codes "X-" ++ decimal ((level + 6) - tricks)) ≡ true
    go true b = refl
    go false true = decimal-inside (tricks - (level + 6))
    go false false = decimal-inside ((level + 6) - tricks)

contract-inside : (contract : ParContract) → are_inside (contract_text contract) ≡ true
unfolding contract_text
contract-inside contract =
    inside-append (declarers_text contract.declarers ++ codes " " ++ decimal contract.level ++ denomination contract.strain) (outcome_text contract.level contract.tricks)
    (inside-append (declarers_text contract.declarers ++ codes " " ++ decimal contract.level) (denomination contract.strain)
    (inside-append (declarers_text contract.declarers ++ codes " ") (decimal contract.level)
    (inside-append (declarers_text contract.declarers) (codes " ") (declarers-inside contract.declarers) refl) (decimal-inside contract.level))
    (denomination-inside contract.strain))
    (outcome-inside contract.level contract.tricks)

more-inside : (contracts : List ParContract) → are_inside (flat_map (λ c. 59 ∷ 32 ∷ contract_text c) contracts) ≡ true
more-inside [] = refl
more-inside (first ∷ rest) = inside-append (59 ∷ 32 ∷ contract_text first) (flat_map (λ c. 59 ∷ 32 ∷ contract_text c) rest) (contract-inside first) (more-inside rest)

pub contracts-inside : (contracts : List ParContract) → are_inside (contracts_text contracts) ≡ true
contracts-inside [] = refl
contracts-inside (first ∷ rest) = inside-append (contract_text first) (flat_map (λ c. 59 ∷ 32 ∷ contract_text c) rest) (contract-inside first) (more-inside rest)

-- ---- rows
digit-data : (n : ℕ) → n ≤ 13 → are_data (two_columns n) ≡ true
digit-data n most = go (nat_lt n 10) refl
  where
    low : (n : ℕ) → nat_lt n 10 ≡ true → is_data (48 + n) ≡ true
    low n e = grind (arith, nat_tests)

    high : (n : ℕ) → n ≤ 13 → nat_lt n 10 ≡ false → is_data (38 + n) ≡ true
    high n most e = grind (arith, nat_tests)

    go : (t : Bool) → nat_lt n 10 ≡ t → are_data (if t then 32 ∷ (48 + n) ∷ [] else 49 ∷ (38 + n) ∷ []) ≡ true
    go true e = ap (λ (t : Bool). if t then true else false) (low n e)
    go false e = ap (λ (t : Bool). if t then true else false) (high n most e)

strain-data : (strain : Strain) → are_data (right_of (denomination strain)) ≡ true
strain-data (Trump Spades) = refl
strain-data (Trump Hearts) = refl
strain-data (Trump Diamonds) = refl
strain-data (Trump Clubs) = refl
strain-data Notrump = refl

data-last : (b : ℕ) (p : List ℕ) → is_data b ≡ true → are_data p ≡ true → is_data (last_of b p) ≡ true
data-last b [] first good = first
data-last b (c ∷ p) first good = data-last c p (data-first c p good) (data-rest c p good)

letter-data : (seat : Seat) → is_data (seat_letter seat) ≡ true
letter-data North = refl
letter-data East = refl
letter-data South = refl
letter-data West = refl

letter-space : (seat : Seat) → (seat_letter seat == 32) ≡ false
letter-space North = refl
letter-space East = refl
letter-space South = refl
letter-space West = refl

module _ {X : Type 0} (walk : Walk X) (state : FillState) where
  pub inside-content : (p : List ℕ) → are_inside p ≡ true → IsContent walk state p
  inside-content p good = record { read = λ t. inside-read p t good; quoted = inside-modes p good; quiet = inside-quiet p good }

  pub row-body : (declarer : Seat) (strain : Strain) (tricks : ℕ) → tricks ≤ 13 → IsBody walk state (row_line declarer strain tricks) (λ names. names)
  unfolding row_line
  row-body declarer strain tricks most =
      let rest : List ℕ = 32 ∷ (right_of (denomination strain) ++ 32 ∷ two_columns tricks) in
      let good : are_data (32 ∷ (right_of (denomination strain) ++ 32 ∷ two_columns tricks)) ≡ true = data-append (right_of (denomination strain)) (32 ∷ two_columns tricks) (strain-data strain) (digit-data tricks most) in
      λ names last has. (
        last_of (seat_letter declarer) rest,
        data-other (last_of (seat_letter declarer) rest) 13 (data-last (seat_letter declarer) rest (letter-data declarer) good) refl,
        goes-row walk state (seat_letter declarer) rest names last has (letter-data declarer) (letter-space declarer) good,
      )
