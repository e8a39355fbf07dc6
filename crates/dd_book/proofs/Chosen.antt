-- The job that is claimed next: of the owner that is due the first with a free part.
use Rattle.std.proofs.Common.{◌≡◌, ℕ, ◌+◌, ◌<◌, Bool, true, false, refl, sym, ap, ◌∙◌, subst, arith, List, [], ◌∷◌, length, Some, None, inl, inr, eq-eqb, nat_eq, nat_le}
use Rattle.std.specs.Prelude.{Option, filter, ◌&&◌, option_and_then, option_map, unwrap_or, slice_get}
use Rattle.std.specs.BTreeSet.{BTreeSet}
use Rattle.std.specs.List.{position, list_all}
use Rattle.std.proofs.lemmas.Bool.{cases_eq, eqb-true, and_parts, cases_lt}
use Rattle.std.proofs.lemmas.Iterator.Adapters.{position_from-zero}
use Rattle.std.proofs.lemmas.List.Quantifiers.{position-Some}
use Rattle.std.proofs.lemmas.Option.{same_Some, slice_get-get_or, slice_get_within}
use Rattle.dd_book.specs.Indexes.{waits_by}
use Rattle.dd_book.specs.Jobs.{JobOf, chosen, chosen_from, has_free, has_waiting, is_due, is_free_by, last_turn_of}
use Rattle.dd_book.specs.Waiting.{IsFirstFrom, IsNextPlace, has_place}
use Rattle.dd_book.proofs.Elements.{position_from-first, position_from-none}
use Rattle.dd_book.proofs.Seats.{waits_by-here, waits_by-job, waits_by-within}

-- the job that is found, and that it passes
found-at : (test : JobOf → Bool) (jobs : List JobOf) (place : ℕ) → position test jobs ≡ Some place → (job : JobOf) × (slice_get jobs place ≡ Some job) × (test job ≡ true)
found-at test [] place is = absurd (cc)
found-at test (x ∷ jobs) place is =
    let found = position-Some test (x ∷ jobs) place x is in
    (_, slice_get-get_or (x ∷ jobs) place x found.0, found.1)

-- ---- which job it is

-- a job of the owner that is due waits: it is due too
due-like : (jobs : List JobOf) (job other : JobOf) → is_due jobs job ≡ true → other.owner ≡ job.owner → has_waiting other ≡ true → is_due jobs other ≡ true
due-like jobs job other due own waits =
    rw waits (subst (λ (o : ℕ). list_all (λ (y : JobOf). nat_le (last_turn_of o jobs) (last_turn_of y.owner jobs)) (filter has_waiting jobs) ≡ true) (sym own) (and_parts (has_waiting job) _ due).1)

-- the job that is claimed next is due
pub chosen-at : (jobs : List JobOf) (place : ℕ) → chosen jobs ≡ Some place → (job : JobOf) × (slice_get jobs place ≡ Some job) × (is_due jobs job ≡ true)
chosen-at jobs place h = first (position (is_due jobs) jobs) refl h
  where
    of_owner : (due : ℕ) (job : JobOf) (o : Option ℕ) → slice_get jobs due ≡ Some job → is_due jobs job ≡ true → position (is_free_by job.owner) jobs ≡ o → Some (unwrap_or o due) ≡ Some place
        → (job : JobOf) × (slice_get jobs place ≡ Some job) × (is_due jobs job ≡ true)
    of_owner due job None here passes is e = (job, ap (slice_get jobs) (sym (same_Some due place e)) ∙ here, passes)
    of_owner due job (Some p) here passes is e =
        let free = found-at (is_free_by job.owner) jobs p is in
        let tells = and_parts (nat_eq free.0.owner job.owner) (has_free free.0) free.2 in
        (free.0, ap (slice_get jobs) (sym (same_Some p place e)) ∙ free.1, due-like jobs job free.0 passes (eqb-true free.0.owner job.owner tells.0) (and_parts (has_waiting free.0) _ tells.1).0)

    first : (o : Option ℕ) → position (is_due jobs) jobs ≡ o → option_map (chosen_from jobs) o ≡ Some place → (job : JobOf) × (slice_get jobs place ≡ Some job) × (is_due jobs job ≡ true)
    first None is e = absurd (cc)
    first (Some due) is e =
        let found = found-at (is_due jobs) jobs due is in
        of_owner due found.0 (position (is_free_by found.0.owner) jobs) found.1 found.2 refl
        (sym (ap (λ (o : Option JobOf). Some (unwrap_or (option_and_then (λ (j : JobOf). position (is_free_by j.owner) jobs) o) due)) found.1) ∙ e)

-- the first job that is due is this owner's
abbrev pub DueBy : List JobOf → ℕ → Type 0
DueBy jobs owner = (due : ℕ) × (position (is_due jobs) jobs ≡ Some due) × ((first : JobOf) × (slice_get jobs due ≡ Some first) × (first.owner ≡ owner))

-- so it is of the owner of the job that is claimed next
pub chosen-owner : (jobs : List JobOf) (place : ℕ) (job : JobOf) → chosen jobs ≡ Some place → slice_get jobs place ≡ Some job → DueBy jobs job.owner
chosen-owner jobs place job h here = first (position (is_due jobs) jobs) refl h
  where
    of_owner : (due : ℕ) (y : JobOf) (o : Option ℕ) → position (is_due jobs) jobs ≡ Some due → slice_get jobs due ≡ Some y → position (is_free_by y.owner) jobs ≡ o → Some (unwrap_or o due) ≡ Some place → DueBy jobs job.owner
    of_owner due y None is at free e = (due, is, (y, at, ap (λ (j : JobOf). j.owner) (same_Some y job (sym at ∙ ap (slice_get jobs) (same_Some due place e) ∙ here))))
    of_owner due y (Some p) is at free e =
        let found = found-at (is_free_by y.owner) jobs p free in
        let own = eqb-true found.0.owner y.owner (and_parts (nat_eq found.0.owner y.owner) (has_free found.0) found.2).0 in
        (due, is, (y, at, sym own ∙ ap (λ (j : JobOf). j.owner) (same_Some found.0 job (sym found.1 ∙ ap (slice_get jobs) (same_Some p place e) ∙ here))))

    first : (o : Option ℕ) → position (is_due jobs) jobs ≡ o → option_map (chosen_from jobs) o ≡ Some place → DueBy jobs job.owner
    first None is e = absurd (cc)
    first (Some due) is e =
        let found = found-at (is_due jobs) jobs due is in
        of_owner due found.0 (position (is_free_by found.0.owner) jobs) is found.1 refl
        (sym (ap (λ (o : Option JobOf). Some (unwrap_or (option_and_then (λ (j : JobOf). position (is_free_by j.owner) jobs) o) due)) found.1) ∙ e)

-- it stands in the list
pub chosen-within : (jobs : List JobOf) (place : ℕ) → Some place ≡ chosen jobs → place < length jobs
chosen-within jobs place h = let at = chosen-at jobs place (sym h) in slice_get_within jobs place at.0 at.1

-- and waits
pub chosen-waits : (jobs : List JobOf) (place : ℕ) (job : JobOf) → Some place ≡ chosen jobs → slice_get jobs place ≡ Some job → has_waiting job ≡ true
chosen-waits jobs place job h here =
    let at = chosen-at jobs place (sym h) in
    ap has_waiting (same_Some job at.0 (sym here ∙ at.1)) ∙ (and_parts (has_waiting at.0) _ at.2).0

-- ---- an owner's jobs that wait, one by one

-- none of the owner's jobs below this place has a free part
abbrev pub NoneBelow : List JobOf → ℕ → ℕ → Type 0
NoneBelow jobs owner from = (j : ℕ) (y : JobOf) → j < from → slice_get jobs j ≡ Some y → is_free_by owner y ≡ false

-- one that doesn't wait has none
not-free : (jobs : List JobOf) (owner j : ℕ) (y : JobOf) → slice_get jobs j ≡ Some y → waits_by jobs owner j ≡ false → is_free_by owner y ≡ false
not-free jobs owner j y here rests = go (is_free_by owner y) refl
  where
    go : (b : Bool) → is_free_by owner y ≡ b → is_free_by owner y ≡ false
    go false is = is
    go true is =
        let tells = and_parts (nat_eq y.owner owner) (has_free y) is in
        let waits = waits_by-here jobs j y here (and_parts (has_waiting y) _ tells.1).0 in
        absurd (let e : true ≡ false = sym waits ∙ ap (λ o. waits_by jobs o j) (eqb-true y.owner owner tells.0) ∙ rests in cc)

module _ (jobs : List JobOf) (waiting : BTreeSet (ℕ × ℕ)) (places : (o p : ℕ) → has_place waiting o p ≡ waits_by jobs o p) (owner from : ℕ) (below : NoneBelow jobs owner from) where
  -- the next job that waits stands in the list
  pub next-within : (place : ℕ) → IsFirstFrom (has_place waiting) owner from place → place < length jobs
  next-within place next = waits_by-within jobs owner place (sym (places owner place) ∙ next.1)

  before : (place : ℕ) → IsFirstFrom (has_place waiting) owner from place → NoneBelow jobs owner place
  before place next j y less here = elim (cases_lt j from) [
    | inl low ↦ below j y low here
    | inr high ↦ not-free jobs owner j y here (sym (places owner j) ∙ next.2 j high less)
  ]

  -- it has a free part
  pub next-free : (place : ℕ) (job : JobOf) → IsFirstFrom (has_place waiting) owner from place → slice_get jobs place ≡ Some job → has_free job ≡ true → position (is_free_by owner) jobs ≡ Some place
  next-free place job next here free =
      let waits = waits_by-job jobs owner place (sym (places owner place) ∙ next.1) in
      let own : job.owner ≡ owner = ap (λ (j : JobOf). j.owner) (same_Some job waits.0 (sym here ∙ waits.1)) ∙ waits.2 in
      position_from-zero (is_free_by owner) jobs ∙ position_from-first (is_free_by owner) 0 place jobs job here (rw (eq-eqb job.owner owner own, free) refl) (before place next) ∙ ap Some (omega arith)

  -- it has none
  pub next-passed : (place : ℕ) (job : JobOf) → IsFirstFrom (has_place waiting) owner from place → slice_get jobs place ≡ Some job → has_free job ≡ false → NoneBelow jobs owner (place + 1)
  next-passed place job next here taken j y less there = elim (cases_eq j place) [
    | inl same ↦
        let which : y ≡ job = same_Some y job (sym there ∙ ap (slice_get jobs) same ∙ here) in
        rw (ap has_free which ∙ taken) (none (nat_eq y.owner owner))
    | inr differ ↦ before place next j y (omega arith) there
  ]
    where
      none : (b : Bool) → (b && false) ≡ false
      none true = refl
      none false = refl

  -- no more job waits
  pub next-none : IsNextPlace waiting owner from None → position (is_free_by owner) jobs ≡ None
  next-none none = position_from-zero (is_free_by owner) jobs ∙ position_from-none (is_free_by owner) 0 jobs (λ j y here. elim (cases_lt j from) [
    | inl low ↦ below j y low here
    | inr high ↦ not-free jobs owner j y here (sym (places owner j) ∙ none j high)
  ])
