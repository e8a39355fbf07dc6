-- Answers by which a filled file asks nothing: each game that asks has its results, and the lines of par are short enough to be read as tags.
use Rattle.std.proofs.Common.{◌≡◌, ℕ, zero, suc, ◌+◌, ◌*◌, ◌-◌, ◌/◌, ◌%◌, ◌==◌, ◌≤◌, Bool, true, false, List, [], ◌∷◌, ◌++◌, length, refl, sym, subst, arith, length-append, codes, decimal, ℤ, pos, negsuc, Option, None, Some}
use Rattle.std.specs.Fmt.{digits, digits_onto, digit_glyph}
use Rattle.std.specs.List.{flat_map}
use Rattle.std.specs.Prelude.{if◌then◌else◌, nat_lt}
use Rattle.dd_cards.specs.declared.seat.Seat.{Seat}
use Rattle.dd_cards.specs.declared.seat.Seat.TheVariants.{North, East, South, West}
use Rattle.dd_cards.specs.declared.side.Side.TheVariants.{NorthSouth, EastWest}
use Rattle.dd_cards.specs.declared.strain.Strain.{Strain}
use Rattle.dd_cards.specs.declared.strain.Strain.TheVariants.{Trump, Notrump}
use Rattle.dd_cards.specs.declared.suit.Suit.TheVariants.{Spades, Hearts, Diamonds, Clubs}
use Rattle.dd_score.specs.declared.order.Order.{Order}
use Rattle.dd_score.specs.declared.order.Order.TheVariants.{Dealer}
use Rattle.dd_score.specs.declared.par_contract.Declarers.{Declarers}
use Rattle.dd_score.specs.declared.par_contract.Declarers.TheVariants.{One, Both}
use Rattle.dd_score.specs.declared.par_contract.ParContract.{ParContract}
use Rattle.dd_score.specs.declared.vulnerable.Vulnerable.{Vulnerable}
use Rattle.dd_score.specs.ParContracts.{contracts_below, least_of, par_contracts, strain_coded, with_contract}
use Rattle.dd_score.specs.Tables.{tricks_of}
use Rattle.dd_file.specs.declared.fill_state.Conditions.{Conditions}
use Rattle.dd_file.specs.declared.mark.TheConstants.{NEAR}
use Rattle.dd_file.specs.Again.{AreResults, MayBeResults}
use Rattle.dd_file.specs.Filled.{Ask, Found, ParFound, AreAnswers, IsAnswer, IsParFound}
use Rattle.dd_file.specs.Lines.{contract_line, contract_text, declarers_text, denomination, outcome_text, score_line, score_text}

abbrev pub HasPar : Option Conditions → Option ParFound → Type 0
HasPar None par = par ≡ None
HasPar (Some conditions) None = ⊥
HasPar (Some conditions) (Some par) = (length (score_line par.score) ≤ NEAR) × (length (contract_line par.contracts) ≤ NEAR)

abbrev pub HasAnswer : Option Ask → Option Found → Type 0
HasAnswer None answer = answer ≡ None
HasAnswer (Some ask) None = ⊥
HasAnswer (Some ask) (Some found) = ((strain : Strain) (declarer : Seat) → tricks_of found.table strain declarer ≤ 13) × HasPar ask.conditions found.par

-- one for each
abbrev pub AllAnswered : List (Option Ask) → List (Option Found) → Type 0
AllAnswered [] answers = answers ≡ []
AllAnswered (ask ∷ asks) [] = ⊥
AllAnswered (ask ∷ asks) (answer ∷ answers) = HasAnswer ask answer × AllAnswered asks answers

-- the same where results may have been given up
abbrev pub MayAnswer : Option Ask → Option Found → Type 0
MayAnswer None answer = answer ≡ None
MayAnswer (Some ask) None = Unit {0}
MayAnswer (Some ask) (Some found) = ((strain : Strain) (declarer : Seat) → tricks_of found.table strain declarer ≤ 13) × HasPar ask.conditions found.par

abbrev pub AllMay : List (Option Ask) → List (Option Found) → Type 0
AllMay [] answers = answers ≡ []
AllMay (ask ∷ asks) [] = ⊥
AllMay (ask ∷ asks) (answer ∷ answers) = MayAnswer ask answer × AllMay asks answers

-- ---- how long the lines of par are
onto-length : (k n : ℕ) (acc : List ℕ) → length (digits_onto k 10 false n acc) ≤ k + length acc
onto-length zero n acc = omega arith
onto-length (suc k) n acc = go (n / 10 == 0) (onto-length k (n / 10) (digit_glyph false (n % 10) ∷ acc))
  where
    go : (t : Bool) → length (digits_onto k 10 false (n / 10) (digit_glyph false (n % 10) ∷ acc)) ≤ k + length (digit_glyph false (n % 10) ∷ acc)
        → length (if t then digit_glyph false (n % 10) ∷ acc else digits_onto k 10 false (n / 10) (digit_glyph false (n % 10) ∷ acc)) ≤ suc k + length acc
    go true few = omega arith
    go false few = omega arith

decimal-length : (n : ℕ) → length (decimal n) ≤ 64
unfolding digits
decimal-length n = let few : length (digits_onto 64 10 false n []) ≤ 64 + length (let l : List ℕ = [] in l) = onto-length 64 n [] in omega arith

score-length : (score : ℤ) → length (score_line score) ≤ NEAR
unfolding score_text
score-length (pos score) =
    let few : length (decimal score) ≤ 64 = decimal-length score in
    let e : length (decimal score ++ codes "\"]") ≡ length (decimal score) + 2 = length-append (decimal score) (codes "\"]") in
    omega arith
score-length (negsuc score) =
    let few : length (decimal (suc score)) ≤ 64 = decimal-length (suc score) in
    let e : length (decimal (suc score) ++ codes "\"]") ≡ length (decimal (suc score)) + 2 = length-append (decimal (suc score)) (codes "\"]") in
    omega arith

declarers-length : (declarers : Declarers) → length (declarers_text declarers) ≤ 2
declarers-length (One North) = omega arith
declarers-length (One East) = omega arith
declarers-length (One South) = omega arith
declarers-length (One West) = omega arith
declarers-length (Both NorthSouth) = omega arith
declarers-length (Both EastWest) = omega arith

strain-length : (strain : Strain) → length (denomination strain) ≤ 2
strain-length (Trump Spades) = omega arith
strain-length (Trump Hearts) = omega arith
strain-length (Trump Diamonds) = omega arith
strain-length (Trump Clubs) = omega arith
strain-length Notrump = omega arith

outcome-length : (level tricks : ℕ) → length (outcome_text level tricks) ≤ 66
outcome-length level tricks = go (tricks == level + 6) (nat_lt (level + 6) tricks)
  where
    over : length (decimal (tricks - (level + 6))) ≤ 64
    over = decimal-length (tricks - (level + 6))

    under : length (decimal ((level + 6) - tricks)) ≤ 64
    under = decimal-length ((level + 6) - tricks)

    go : (a b : Bool) → length (if a then codes "=" else if b then codes "+" ++ decimal (tricks - (level + 6)) else codes "X-" ++ decimal ((level + 6) - tricks)) ≤ 66
    go true b = omega arith
    go false true = let few = over in omega (arith, length-append {A = ℕ})
    go false false = let few = under in omega (arith, length-append {A = ℕ})

contract-length : (contract : ParContract) → length (contract_text contract) ≤ 135
unfolding contract_text
contract-length contract =
    let a = declarers-length contract.declarers in
    let b = decimal-length contract.level in
    let c = strain-length contract.strain in
    let d = outcome-length contract.level contract.tricks in
    omega (arith, length-append {A = ℕ})

-- the contracts behind the first
abbrev more_text : List ParContract → List ℕ
more_text contracts = flat_map (λ c. 59 ∷ 32 ∷ contract_text c) contracts

two-more : (text rest : List ℕ) → length (59 ∷ 32 ∷ (text ++ rest)) ≡ 2 + (length text + length rest)
two-more text rest = let e : length (text ++ rest) ≡ length text + length rest = length-append text rest in omega arith

more-length : (contracts : List ParContract) → length (more_text contracts) ≤ 137 * length contracts
more-length [] = omega arith
more-length (first ∷ rest) =
    let a : length (contract_text first) ≤ 135 = contract-length first in
    let b : length (more_text rest) ≤ 137 * length rest = more-length rest in
    let e : length (more_text (first ∷ rest)) ≡ 2 + (length (contract_text first) + length (more_text rest)) = two-more (contract_text first) (more_text rest) in
    let all : 2 + (length (contract_text first) + length (more_text rest)) ≤ 137 * length (first ∷ rest) = omega arith in
    subst (λ (n : ℕ). n ≤ 137 * length (first ∷ rest)) (sym e) all

line-length : (text : List ℕ) (most : ℕ) → length text ≤ most → length (codes "[ParContract \"" ++ text ++ codes "\"]") ≤ 16 + most
line-length text most few = let e : length (text ++ codes "\"]") ≡ length text + 2 = length-append text (codes "\"]") in omega arith

contracts-length : (contracts : List ParContract) → length contracts ≤ 10 → length (contract_line contracts) ≤ NEAR
contracts-length [] few = omega arith
contracts-length (first ∷ rest) few =
    let a : length (contract_text first) ≤ 135 = contract-length first in
    let b : length (more_text rest) ≤ 137 * length rest = more-length rest in
    let e : length (contract_text first ++ more_text rest) ≡ length (contract_text first) + length (more_text rest) = length-append (contract_text first) (more_text rest) in
    let all : length (contract_text first ++ more_text rest) ≤ 2000 = omega arith in
    let line : length (contract_line (first ∷ rest)) ≤ 16 + 2000 = line-length (contract_text first ++ more_text rest) 2000 all in
    weaker (length (contract_line (first ∷ rest))) line
  where
    weaker : (n : ℕ) → n ≤ 16 + 2000 → n ≤ NEAR
    weaker n few = omega arith

with-length : (contracts : List ParContract) (more : Option ParContract) → length (with_contract contracts more) ≤ length contracts + 1
with-length contracts None = omega arith
with-length contracts (Some c) = omega (arith, length-append {A = ParContract})

below-length : (table : List (List ℕ)) (vulnerable : Vulnerable) (order : Order) (v : ℤ) (n : ℕ) → length (contracts_below table vulnerable order v n) ≤ 2 * n
unfolding contracts_below
below-length table vulnerable order v zero = omega arith
below-length table vulnerable order v (suc n) =
    let a = below-length table vulnerable order v n in
    let b = with-length (contracts_below table vulnerable order v n) (least_of table vulnerable order v (strain_coded n) NorthSouth) in
    let c = with-length (with_contract (contracts_below table vulnerable order v n) (least_of table vulnerable order v (strain_coded n) NorthSouth)) (least_of table vulnerable order v (strain_coded n) EastWest) in
    omega arith

-- ---- answers
par-has : (table : List (List ℕ)) (conditions : Option Conditions) (par : Option ParFound) → IsParFound table conditions par → HasPar conditions par
par-has table None None is = refl
par-has table None (Some par) is = absurd is
par-has table (Some conditions) None is = absurd is
par-has table (Some conditions) (Some par) is = (
  score-length par.score,
  subst (λ (l : List ParContract). length (contract_line l) ≤ NEAR) (sym is.1)
      (contracts-length (par_contracts table conditions.vulnerable (Dealer conditions.dealer) par.score) (below-length table conditions.vulnerable (Dealer conditions.dealer) par.score 5)),
)

answer-has : (ask : Option Ask) (answer : Option Found) → IsAnswer AreResults ask answer → HasAnswer ask answer
answer-has None None is = refl
answer-has None (Some found) is = absurd is
answer-has (Some ask) None is = absurd is
answer-has (Some ask) (Some found) is = (is.0, par-has found.table ask.conditions found.par is.1)

answer-may : (ask : Option Ask) (answer : Option Found) → IsAnswer MayBeResults ask answer → MayAnswer ask answer
answer-may None None is = refl
answer-may None (Some found) is = absurd is
answer-may (Some ask) None is = tt
answer-may (Some ask) (Some found) is = (is.0, par-has found.table ask.conditions found.par is.1)

pub all-may : (asks : List (Option Ask)) (answers : List (Option Found)) → AreAnswers MayBeResults asks answers → AllMay asks answers
all-may [] [] are = refl
all-may [] (answer ∷ answers) are = absurd are
all-may (ask ∷ asks) [] are = absurd are
all-may (ask ∷ asks) (answer ∷ answers) are = (answer-may ask answer are.0, all-may asks answers are.1)

-- those that were answered may be
pub has-may : (ask : Option Ask) (answer : Option Found) → HasAnswer ask answer → MayAnswer ask answer
has-may None answer has = has
has-may (Some ask) None has = absurd has
has-may (Some ask) (Some found) has = has

pub answered-may : (asks : List (Option Ask)) (answers : List (Option Found)) → AllAnswered asks answers → AllMay asks answers
answered-may [] answers all = all
answered-may (ask ∷ asks) [] all = absurd all
answered-may (ask ∷ asks) (answer ∷ answers) all = (has-may ask answer all.0, answered-may asks answers all.1)

-- and an answer that is none
pub unasked : (ask : Option Ask) → HasAnswer ask None → ask ≡ None
unasked None has = refl
unasked (Some ask) has = absurd has

pub all-answered : (asks : List (Option Ask)) (answers : List (Option Found)) → AreAnswers AreResults asks answers → AllAnswered asks answers
all-answered [] [] are = refl
all-answered [] (answer ∷ answers) are = absurd are
all-answered (ask ∷ asks) [] are = absurd are
all-answered (ask ∷ asks) (answer ∷ answers) are = (answer-has ask answer are.0, all-answered asks answers are.1)
