-- What fields of a request for par ask: something, and one thing.
use Rattle.std.proofs.Common.{◌≡◌, ℕ, Bool, true, false, cond, refl, sym, ap, ◌∙◌, List, length}
use Rattle.std.specs.Prelude.{Option, None, Some, Result, Ok, Err, MatchResult, ◌==◌, nat_le}
use Rattle.std.specs.List.{list_all}
use Rattle.dd_cards.specs.Hands.{FourHands}
use Rattle.dd_score.specs.declared.order.Order.{Order}
use Rattle.dd_score.specs.declared.vulnerable.Vulnerable.{Vulnerable}
use Rattle.dd_wire.specs.declared.fault.Fault.{Fault}
use Rattle.dd_wire.specs.declared.fault.Fault.TheVariants.{WrongOrder, WrongVulnerable, WrongResult, NotThirteen, OutOfMemory}
use Rattle.dd_wire.specs.declared.line_asked.LineAsked.TheVariants.{Par, ParOfDeal}
use Rattle.dd_wire.specs.declared.par_reader.FirstCode.{FirstCode}
use Rattle.dd_wire.specs.declared.par_request.Conditions.{Conditions}
use Rattle.dd_wire.specs.declared.par_request.ParOfResults.{ParOfResults}
use Rattle.dd_wire.specs.Lines.{MeansGiven}
use Rattle.dd_wire.specs.ParLines.{DealPar, Given, results, deal, ParFields, order_coded, vulnerable_coded, conditions_of, par_of_results, table_par_of, of_thirteen, MeansDealt, MeansParOfDeal}
use Rattle.dd_wire.specs.Requests.{MeansTable, asked_as}
use Rattle.dd_wire.proofs.Meanings.{SomeMeaning, some-deal, some-table, some-way, deal-memory, table-memory, way-memory}
use Rattle.dd_wire.proofs.OneMeaning.{AtMostOne, both, one-deal, one-table, one-way}

-- what hands mean whose conditions were read, or their fault
abbrev Dealt : FourHands → Result Conditions Fault → Result DealPar Fault → Type 0
Dealt hands conditions meaning =
    MatchResult conditions
    (λ c. (asked : Result FourHands Fault) × MeansTable hands asked × (meaning ≡ of_thirteen c asked))
    (λ fault. meaning ≡ Err fault)

-- ---- every one has a meaning
some-dealt : (hands : FourHands) (conditions : Result Conditions Fault) → SomeMeaning (Dealt hands conditions)
some-dealt hands (Ok c) = let asked = some-table hands in (of_thirteen c asked.0, (asked.0, asked.1, refl))
some-dealt hands (Err fault) = (Err fault, refl)

pub some-given : (given : Given) (fields : ParFields) → SomeMeaning (MeansGiven given fields)
some-given (results rows) fields = (asked_as Par (par_of_results fields.first fields.vulnerable rows), refl)
some-given (deal text) fields =
    some-way ParOfDeal (MeansParOfDeal fields.first fields.vulnerable text)
    (some-deal text (MeansDealt fields.first fields.vulnerable) (λ hands _. some-dealt hands (conditions_of fields.first fields.vulnerable)))

-- ---- and one
one-dealt : (hands : FourHands) (conditions : Result Conditions Fault) → AtMostOne (Dealt hands conditions)
one-dealt hands (Ok c) a b (x, is_x, e) (y, is_y, f) = e ∙ ap (of_thirteen c) (one-table hands x y is_x is_y) ∙ sym f
one-dealt hands (Err fault) a b e f = both _ a b e f

pub one-given : (given : Given) (fields : ParFields) → AtMostOne (MeansGiven given fields)
one-given (results rows) fields = both _
one-given (deal text) fields =
    one-way ParOfDeal (MeansParOfDeal fields.first fields.vulnerable text)
    (one-deal text (MeansDealt fields.first fields.vulnerable) (λ hands _. one-dealt hands (conditions_of fields.first fields.vulnerable)))

-- ---- no meaning is that memory ran out
conditions-memory : (first : FirstCode) (vulnerable : ℕ) → conditions_of first vulnerable ≡ Err OutOfMemory → ⊥
conditions-memory first vulnerable = go (order_coded first) (vulnerable_coded vulnerable)
  where
    go : (order : Option Order) (sides : Option Vulnerable)
        → (elim order as (λ _. Result Conditions Fault) [
          | None ↦ Err WrongOrder
          | Some o ↦ elim sides as (λ _. Result Conditions Fault) [
            | None ↦ Err WrongVulnerable
            | Some v ↦ Ok (record { vulnerable = v; order = o })
          ]
        ]) ≡ Err OutOfMemory → ⊥
    go None sides is = cc
    go (Some o) None is = cc
    go (Some o) (Some v) is = cc

-- a fault that is another's is not that memory ran out
thirteen-memory : (c : Conditions) (asked : Result FourHands Fault) → (asked ≡ Err OutOfMemory → ⊥) → of_thirteen c asked ≡ Err OutOfMemory → ⊥
thirteen-memory c (Err fault) none is = none (let same : fault ≡ OutOfMemory = cc in ap Err same)
thirteen-memory c (Ok hands) none is = go (length hands.north == 13) (record { hands = hands; conditions = c }) is
  where
    go : (b : Bool) (x : DealPar) → cond b (Ok x) (Err NotThirteen) ≡ Err OutOfMemory → ⊥
    go true x e = cc
    go false x e = cc

dealt-memory : (hands : FourHands) (conditions : Result Conditions Fault) → (conditions ≡ Err OutOfMemory → ⊥) → Dealt hands conditions (Err OutOfMemory) → ⊥
dealt-memory hands (Ok c) none (asked, means, is) = thirteen-memory c asked (λ out. table-memory hands (let told : MeansTable hands (Err OutOfMemory) = rw out at means in told)) (sym is)
dealt-memory hands (Err fault) none is = none (let same : fault ≡ OutOfMemory = cc in ap Err same)

-- what is asked in a way has the fault of what is asked
pub way-fault : {A B : Type 0} (way : A → B) (asked : Result A Fault) (fault : Fault) → Err fault ≡ asked_as way asked → asked ≡ Err fault
way-fault way (Ok x) fault is = absurd (cc)
way-fault way (Err f) fault is = let same : f ≡ fault = cc in ap Err same

results-memory : (conditions : Result Conditions Fault) (b : Bool) (rows : List (List ℕ)) → (conditions ≡ Err OutOfMemory → ⊥)
    → (elim conditions as (λ _. Result ParOfResults Fault) [
      | Err fault ↦ Err fault
      | Ok c ↦ cond b (Ok (record { results = rows; conditions = c })) (Err WrongResult)
    ]) ≡ Err OutOfMemory → ⊥
results-memory (Err fault) b rows none is = none (let same : fault ≡ OutOfMemory = cc in ap Err same)
results-memory (Ok c) true rows none is = cc
results-memory (Ok c) false rows none is = cc

par_of_results-memory : (rows : List (List ℕ)) (first : FirstCode) (vulnerable : ℕ) → par_of_results first vulnerable rows ≡ Err OutOfMemory → ⊥
par_of_results-memory rows first vulnerable =
    results-memory (conditions_of first vulnerable) (list_all (list_all (λ tricks. nat_le tricks 13)) rows) rows (conditions-memory first vulnerable)

pub table_par-memory : (given : Given) (fields : ParFields) → table_par_of given fields ≡ Err OutOfMemory → ⊥
table_par-memory (results rows) fields is = par_of_results-memory rows fields.first fields.vulnerable is
table_par-memory (deal text) fields is = cc

pub given-memory : (given : Given) (fields : ParFields) → MeansGiven given fields (Err OutOfMemory) → ⊥
given-memory (results rows) fields is =
    par_of_results-memory rows fields.first fields.vulnerable (way-fault Par (par_of_results fields.first fields.vulnerable rows) OutOfMemory is)
given-memory (deal text) fields means =
    way-memory ParOfDeal (MeansParOfDeal fields.first fields.vulnerable text)
    (deal-memory text (MeansDealt fields.first fields.vulnerable)
    (λ hands. dealt-memory hands (conditions_of fields.first fields.vulnerable) (conditions-memory fields.first fields.vulnerable)))
    means.0 means.1 means.2
