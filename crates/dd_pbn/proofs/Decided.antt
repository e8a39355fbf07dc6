-- a text spells one deal, or it has one fault
use Rattle.std.proofs.Common.{◌≡◌, ◌↔◌, ℕ, true, false, refl, sym, ap, ◌∙◌, subst, arith, List, Option, Some, None, Result, Ok, Err, ◌⊎◌, inl, inr}
use Rattle.std.specs.Prelude.{IfOk}
use Rattle.std.proofs.lemmas.Bool.{cases_Bool}
use Rattle.dd_cards.specs.PlayingCard.{PlayingCard}
use Rattle.dd_cards.specs.Hands.{FourHands, AreHands}
use Rattle.dd_pbn.specs.declared.fault.PbnFault.{PbnFault}
use Rattle.dd_pbn.specs.declared.fault.PbnFault.TheVariants.{Grammar, Absent, Twice}
use Rattle.dd_pbn.specs.declared.hands_so_far.HandsSoFar.{HandsSoFar}
use Rattle.dd_pbn.specs.Values.{Value, IsValue, IsTag}
use Rattle.dd_pbn.specs.Deals.{Spells, Fails, DealText, DealFault, TagText, TagFault}
use Rattle.dd_pbn.specs.Reading.{outcome, value_of, tag_of}
use Rattle.dd_pbn.proofs.ValueTexts.{seen_of, Reads, Reads-value, Reads-tag}
use Rattle.dd_pbn.proofs.Meanings.{Tells, tells, same-deal, Spells-holds}

-- some value of the form spells this deal
abbrev pub Spelled : (Value → Type 0) → FourHands → Type 0
Spelled Form deal = (value : Value) × Form value × Spells value deal

-- a result has one value
ok-is : (result : Result FourHands PbnFault) (a b : FourHands) → result ≡ Ok a → result ≡ Ok b → a ≡ b
ok-is result a b was is = cc

-- and one fault
err-is : (result : Result FourHands PbnFault) (a b : PbnFault) → result ≡ Err a → result ≡ Err b → a ≡ b
err-is result a b was is = cc

-- a hand that is left out is the outcome
outcome-absent : (read : Option HandsSoFar) (seen : HandsSoFar) → read ≡ Some seen → seen.absent ≡ true → outcome read ≡ Err Absent
outcome-absent read seen is absent = rw (is, absent) refl

-- else a card seen twice is
outcome-twice : (read : Option HandsSoFar) (seen : HandsSoFar) → read ≡ Some seen → seen.absent ≡ false → seen.twice ≡ true → outcome read ≡ Err Twice
outcome-twice read seen is present twice = rw (is, present, twice) refl

-- else the deal is
outcome-ok : (read : Option HandsSoFar) (seen : HandsSoFar) → read ≡ Some seen → seen.absent ≡ false → seen.twice ≡ false → outcome read ≡ Ok seen.hands
outcome-ok read seen is present once = rw (is, present, once) refl

-- ---- of a form that is read
module _ (Form : Value → Type 0) (read : Option HandsSoFar) (reads : Reads Form read) where
  -- a deal that a value of the form spells is the outcome
  pub spelled-read : (deal : FourHands) → AreHands deal → Spelled Form deal → outcome read ≡ Ok deal
  spelled-read deal are (value, form, spells) =
      let seen = seen_of value in
      let told = tells value in
      let is : read ≡ Some seen = reads.complete value form in
      let once : seen.twice ≡ false = elim (cases_Bool seen.twice) [
        | inr once ↦ once
        | inl twice ↦ absurd (let some = told.double twice in let more = some.1 in let less = spells.once some.0 in omega arith)
      ] in
      outcome-ok read seen is (told.absent ∙ spells.whole) once ∙ ap Ok (same-deal value seen.hands deal told.are are (told.holds once) (Spells-holds value deal spells))

  -- and so is a fault
  pub failed-read : (fault : PbnFault) → Fails Form fault → outcome read ≡ Err fault
  failed-read Grammar none = go read refl
    where
      go : (r : Option HandsSoFar) → read ≡ r → outcome r ≡ Err Grammar
      go None e = refl
      go (Some seen) e = absurd (let v = reads.sound seen e in none v.0 v.1)
  failed-read Absent (value, form, out) = outcome-absent read (seen_of value) (reads.complete value form) ((tells value).absent ∙ out)
  failed-read Twice (value, form, whole, card, more) =
      let seen = seen_of value in
      let told = tells value in
      let twice : seen.twice ≡ true = elim (cases_Bool seen.twice) [
        | inl twice ↦ twice
        | inr once ↦ absurd (let less = told.single once card in omega arith)
      ] in
      outcome-twice read seen (reads.complete value form) (told.absent ∙ whole) twice

  -- a deal or a fault there is
  pub decided : ((deal : FourHands) × AreHands deal × Spelled Form deal) ⊎ ((fault : PbnFault) × Fails Form fault)
  decided = go read refl
    where
      of_seen : (seen : HandsSoFar) (value : Value) → Form value → seen ≡ seen_of value → ((deal : FourHands) × AreHands deal × Spelled Form deal) ⊎ ((fault : PbnFault) × Fails Form fault)
      of_seen seen value form is =
          let told : Tells value seen = subst (λ (s : HandsSoFar). Tells value s) (sym is) (tells value) in
          elim (cases_Bool seen.absent) [
            | inl absent ↦ inr (Absent, (value, form, sym told.absent ∙ absent))
            | inr present ↦ elim (cases_Bool seen.twice) [
              | inl twice ↦ inr (Twice, (let some = told.double twice in (value, form, sym told.absent ∙ present, some.0, some.1)))
              | inr once ↦ inl (let holds = told.holds once in
                  (seen.hands, told.are, (value, form, record { whole = sym told.absent ∙ present; once = told.single once; holds1 = holds.holds1; holds2 = holds.holds2; holds3 = holds.holds3; holds4 = holds.holds4 })))
            ]
          ]

      go : (r : Option HandsSoFar) → read ≡ r → ((deal : FourHands) × AreHands deal × Spelled Form deal) ⊎ ((fault : PbnFault) × Fails Form fault)
      go None none = inr (Grammar, λ value form. (let some = reads.complete value form in cc))
      go (Some seen) some = let v = reads.sound seen some in of_seen seen v.0 v.1 v.2

  -- ---- the clauses of a reader, of a result that is the outcome
  -- a deal that is answered is spelled
  pub result-read : (result : Result FourHands PbnFault) → result ≡ outcome read → IfOk result (λ deal. AreHands deal × Spelled Form deal)
  result-read (Err fault) is = tt
  result-read (Ok deal) is =
      elim decided [
        | inl found ↦ (let same : found.0 ≡ deal = ok-is (outcome read) found.0 deal (spelled-read found.0 found.1 found.2) (sym is) in
            subst (λ (d : FourHands). AreHands d × Spelled Form d) same (found.1, found.2))
        | inr failed ↦ absurd (let e = failed-read failed.0 failed.1 in cc)
      ]

  -- a fault is answered just where it holds
  pub result-fault : (result : Result FourHands PbnFault) → result ≡ outcome read → (fault : PbnFault) → (result ≡ Err fault) ↔ Fails Form fault
  result-fault result is fault = (
    λ err. elim decided [
      | inl found ↦ absurd (let e = spelled-read found.0 found.1 found.2 in cc)
      | inr failed ↦ (let same : failed.0 ≡ fault = err-is (outcome read) failed.0 fault (failed-read failed.0 failed.1) (sym is ∙ err) in subst (λ (f : PbnFault). Fails Form f) same failed.1)
    ],
    λ fails. is ∙ failed-read fault fails,
  )

-- ---- values
-- a text spells some deal, or it has a fault
pub deal-decided : (text : List ℕ) → ((deal : FourHands) × AreHands deal × DealText text deal) ⊎ ((fault : PbnFault) × DealFault text fault)
deal-decided text = decided (IsValue text) (value_of text) (Reads-value text)

-- a text spells no two deals
pub one-deal : (text : List ℕ) (a b : FourHands) → AreHands a → AreHands b → DealText text a → DealText text b → a ≡ b
one-deal text a b x y in_x in_y =
    let reads = Reads-value text in
    ok-is (outcome (value_of text)) a b (spelled-read (IsValue text) (value_of text) reads a x in_x) (spelled-read (IsValue text) (value_of text) reads b y in_y)

-- a tag spells no two deals
pub one-tag-deal : (text : List ℕ) (a b : FourHands) → AreHands a → AreHands b → TagText text a → TagText text b → a ≡ b
one-tag-deal text a b x y in_x in_y =
    let reads = Reads-tag text in
    ok-is (outcome (tag_of text)) a b (spelled-read (IsTag text) (tag_of text) reads a x in_x) (spelled-read (IsTag text) (tag_of text) reads b y in_y)
