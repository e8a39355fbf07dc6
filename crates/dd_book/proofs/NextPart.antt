-- The part of a job that is claimed next is one that waits.
use Rattle.std.proofs.Common.{◌≡◌, ℕ, zero, suc, ◌+◌, ◌-◌, ◌<◌, arith, Bool, true, false, cond, refl, sym, ap, ◌∙◌, subst, List, [], ◌∷◌, length, Some, None}
use Rattle.std.specs.Prelude.{Option, not, slice_get}
use Rattle.std.specs.List.{find, list_any, position, range_with_len}
use Rattle.std.proofs.lemmas.List.Quantifiers.{position-Some}
use Rattle.std.proofs.lemmas.Option.{same_Some, slice_get-get_or, slice_get_within}
use Rattle.dd_request.specs.declared.asked.Asked.{Asked}
use Rattle.dd_request.specs.declared.asked.Asked.TheVariants.{Solve, Table, Target, Play}
use Rattle.dd_book.specs.declared.parts.Part.{Part}
use Rattle.dd_book.specs.declared.parts.Part.TheVariants.{Waiting}
use Rattle.dd_book.specs.declared.job.Stage.{Stage}
use Rattle.dd_book.specs.declared.job.Stage.TheVariants.{Open, Done, TableDone, TargetDone, PlayDone, Cancelled, Spent}
use Rattle.dd_book.specs.Jobs.{parts_of}
use Rattle.dd_book.specs.Next.{from_last, is_free, next_part, of_strain, or_place, waits_at}
use Rattle.dd_book.specs.Parts.{is_waiting, is_running}
use Rattle.dd_cards.proofs.CallerLemmas.{and-left}

-- what is found passes
find-passes : (test : ℕ → Bool) (places : List ℕ) (place : ℕ) → find test places ≡ Some place → test place ≡ true
find-passes test [] place h = absurd (cc)
find-passes test (p ∷ places) place h = go (test p) refl h (find-passes test places place)
  where
    go : (b : Bool) → test p ≡ b → cond b (Some p) (find test places) ≡ Some place → (find test places ≡ Some place → test place ≡ true) → test place ≡ true
    go true is e rest = subst (λ q. test q ≡ true) (same_Some p place e) is
    go false is e rest = rest e

-- a part that is found waits
first-waits : (parts : List Part) (place : ℕ) → position is_waiting parts ≡ Some place → waits_at parts place ≡ true
first-waits parts place h =
    let found = position-Some is_waiting parts place Waiting h in
    rw (slice_get-get_or parts place Waiting found.0, waits_at) found.1

table-waits : (parts : List Part) (place : ℕ) (free : Option ℕ) → find (is_free parts) (range_with_len 0 (length parts)) ≡ free
    → or_place free (position is_waiting parts) ≡ Some place → waits_at parts place ≡ true
table-waits parts place None is h = first-waits parts place h
table-waits parts place (Some p) is h =
    let passes = find-passes (is_free parts) (range_with_len 0 (length parts)) place (is ∙ h) in
    and-left (waits_at parts place) (not (list_any is_running (of_strain parts place))) passes

-- the part that is claimed next waits
pub next-waits : (asked : Asked) (parts : List Part) (place : ℕ) → next_part asked parts ≡ Some place → waits_at parts place ≡ true
next-waits (Solve question) parts place h = first-waits parts place h
next-waits (Target question) parts place h = first-waits parts place h
next-waits (Table hands) parts place h = table-waits parts place (find (is_free parts) (range_with_len 0 (length parts))) refl h
next-waits (Play play) parts place h = find-passes (waits_at parts) (from_last (length parts)) place h

-- a part that waits is there
waits-within : (parts : List Part) (place : ℕ) → waits_at parts place ≡ true → place < length parts
waits-within parts place h = go (slice_get parts place) refl h
  where
    go : (o : Option Part) → slice_get parts place ≡ o → elim o [ None ↦ false | Some part ↦ is_waiting part ] ≡ true → place < length parts
    go None is e = absurd (cc)
    go (Some part) is e = slice_get_within parts place part is

-- so is the one that is claimed next
pub next-within : (asked : Asked) (parts : List Part) (place : ℕ) → next_part asked parts ≡ Some place → place < length parts
next-within asked parts place h = waits-within parts place (next-waits asked parts place h)

-- ---- searches from a place on, and from the last place down

-- the first place passes
pub first-found : (test : ℕ → Bool) (place count : ℕ) (r : Option ℕ) → 0 < count → test place ≡ true → find test (range_with_len place count) ≡ r → Some place ≡ r
first-found test place zero r h passes is = absurd (omega arith)
first-found test place (suc count) r h passes is = sym (ap (λ b. cond b (Some place) (find test (range_with_len (place + 1) count))) passes) ∙ is

-- the first place fails
pub first-passed : (test : ℕ → Bool) (place count less : ℕ) (r : Option ℕ) → 0 < count → less ≡ count - 1 → test place ≡ false → find test (range_with_len place count) ≡ r
    → find test (range_with_len (place + 1) less) ≡ r
first-passed test place zero less r h one fails is = absurd (omega arith)
first-passed test place (suc count) less r h one fails is =
    let same : less ≡ count = omega arith in
    ap (λ n. find test (range_with_len (place + 1) n)) same ∙ sym (ap (λ b. cond b (Some place) (find test (range_with_len (place + 1) count))) fails) ∙ is

-- the last place passes
pub last-found : (test : ℕ → Bool) (count last : ℕ) (r : Option ℕ) → 0 < count → last ≡ count - 1 → test last ≡ true → find test (from_last count) ≡ r → Some last ≡ r
unfolding from_last
last-found test zero last r h one passes is = absurd (omega arith)
last-found test (suc count) last r h one passes is =
    let same : last ≡ count = omega arith in
    ap Some same ∙ sym (ap (λ b. cond b (Some count) (find test (from_last count))) (ap test (sym same) ∙ passes)) ∙ is

-- the last place fails
pub last-passed : (test : ℕ → Bool) (count last : ℕ) (r : Option ℕ) → 0 < count → last ≡ count - 1 → test last ≡ false → find test (from_last count) ≡ r
    → find test (from_last last) ≡ r
unfolding from_last
last-passed test zero last r h one fails is = absurd (omega arith)
last-passed test (suc count) last r h one fails is =
    let same : last ≡ count = omega arith in
    ap (λ n. find test (from_last n)) same ∙ sym (ap (λ b. cond b (Some count) (find test (from_last count))) (ap test (sym same) ∙ fails)) ∙ is

-- ---- where there are no parts

pub next-none : (asked : Asked) → next_part asked [] ≡ None
unfolding from_last
next-none (Solve question) = refl
next-none (Target question) = refl
next-none (Table hands) = refl
next-none (Play play) = refl

-- a job that is not open has none
pub parts-none : (stage : Stage) → ((parts : List Part) → stage ≡ Open parts → ⊥) → parts_of stage ≡ []
parts-none (Open parts) h = absurd (h parts refl)
parts-none (Done solved) h = refl
parts-none (TableDone table) h = refl
parts-none (TargetDone solved) h = refl
parts-none (PlayDone tricks) h = refl
parts-none Cancelled h = refl
parts-none Spent h = refl
