-- A claim gets a part exactly where some part waits.
use Rattle.std.proofs.Common.{◌≡◌, ℕ, zero, suc, ◌+◌, ◌<◌, ◌≤◌, Bool, true, false, cond, refl, sym, ap, ◌∙◌, arith, List, [], ◌∷◌, ◌++◌, length, Some, None, ◌⊎◌, inl, inr, nat_eq, nat_le}
use Rattle.std.specs.Prelude.{Option, ◌||◌, option_and_then, option_map, slice_get}
use Rattle.std.specs.List.{count_by, find, list_any, position, position_from, range_with_len}
use Rattle.std.proofs.lemmas.Bool.{cases_eq, and_parts}
use Rattle.std.proofs.lemmas.Bool.Decides.{eqb_tells, nat_tests}
use Rattle.std.proofs.lemmas.Iterator.Adapters.{position_from-zero}
use Rattle.std.proofs.lemmas.List.Sums.{sum_by-cons}
use Rattle.std.proofs.lemmas.Option.{same_Some, slice_get_within}
use Rattle.dd_request.specs.declared.asked.Asked.{Asked}
use Rattle.dd_request.specs.declared.asked.Asked.TheVariants.{Solve, Table, Target, Play}
use Rattle.dd_book.specs.declared.call.Reply.TheVariants.{NothingWaits}
use Rattle.dd_book.specs.declared.parts.Part.{Part}
use Rattle.dd_book.specs.Calls.{BookOf, IsIdle, claim_told, claimed}
use Rattle.dd_book.specs.Counts.{waiting_in}
use Rattle.dd_book.specs.Jobs.{JobOf, Turn, chosen, chosen_from, has_waiting, is_due, is_no_later, last_turn_of, next_turn, parts_of, turn, turn_at, turn_of}
use Rattle.dd_book.specs.Next.{from_last, is_free, next_part, or_place, waits_at}
use Rattle.dd_book.specs.Parts.{is_waiting}
use Rattle.dd_book.proofs.Chosen.{chosen-at}
use Rattle.dd_book.proofs.Counting.{of_job, one}
use Rattle.dd_book.proofs.CountsAfter.{turn-counts}
use Rattle.dd_book.proofs.Elements.{slice_get-push_other}
use Rattle.dd_book.proofs.Seats.{all-waiting, le-test}
use Rattle.dd_book.proofs.Turns.{due-at}

-- ---- where nothing passes a test

-- each element fails it
abbrev AllFail : {X : Type 0} → (X → Bool) → List X → Type 0
AllFail {X = X} test xs = (j : ℕ) (y : X) → slice_get xs j ≡ Some y → test y ≡ false

any-fails : {X : Type 0} (test : X → Bool) (xs : List X) → AllFail test xs → list_any test xs ≡ false
any-fails test [] each = refl
any-fails test (x ∷ xs) each = rw (each 0 x refl) (any-fails test xs (λ j y h. each (suc j) y h))

all-fail : {X : Type 0} (test : X → Bool) (xs : List X) → list_any test xs ≡ false → AllFail test xs
all-fail test [] none j y h = absurd (cc)
all-fail test (x ∷ xs) none j y h = go (test x) refl none j h (λ e. all-fail test xs e)
  where
    go : (b : Bool) → test x ≡ b → (b || list_any test xs) ≡ false → (j : ℕ) → slice_get (x ∷ xs) j ≡ Some y → (list_any test xs ≡ false → AllFail test xs) → test y ≡ false
    go true is e j h rest = absurd (cc)
    go false is e zero h rest = ap test (sym (same_Some x y h)) ∙ is
    go false is e (suc j) h rest = rest e j y h

-- no place is found
not-found : {X : Type 0} (test : X → Bool) (i : ℕ) (xs : List X) → position_from test i xs ≡ None → AllFail test xs
not-found test i [] none j y h = absurd (cc)
not-found test i (x ∷ xs) none j y h = go (test x) refl none j h (λ e. not-found test (i + 1) xs e)
  where
    go : (b : Bool) → test x ≡ b → cond b (Some i) (position_from test (i + 1) xs) ≡ None → (j : ℕ) → slice_get (x ∷ xs) j ≡ Some y → (position_from test (i + 1) xs ≡ None → AllFail test xs) → test y ≡ false
    go true is e j h rest = absurd (cc)
    go false is e zero h rest = ap test (sym (same_Some x y h)) ∙ is
    go false is e (suc j) h rest = rest e j y h

no-place : {X : Type 0} (test : X → Bool) (xs : List X) → position test xs ≡ None → AllFail test xs
no-place test xs none = not-found test 0 xs (sym (position_from-zero test xs) ∙ none)

-- nor one from the last down
no-last : (test : ℕ → Bool) (n : ℕ) → find test (from_last n) ≡ None → (j : ℕ) → j < n → test j ≡ false
unfolding from_last
no-last test zero none j less = absurd (omega arith)
no-last test (suc n) none j less = go (test n) refl none (λ e below. no-last test n e j below)
  where
    go : (b : Bool) → test n ≡ b → cond b (Some n) (find test (from_last n)) ≡ None → (find test (from_last n) ≡ None → j < n → test j ≡ false) → test j ≡ false
    go true is e rest = absurd (cc)
    go false is e rest = elim (cases_eq j n) [
      | inl same ↦ ap test same ∙ is
      | inr differ ↦ rest e (omega (arith, less, differ))
    ]

-- ---- a job that waits has a next part

no-either : (this other : Option ℕ) → or_place this other ≡ None → other ≡ None
no-either None other h = h
no-either (Some place) other h = absurd (cc)

-- no part of a play waits where none is found from the last one down
no-number : (parts : List Part) → find (waits_at parts) (from_last (length parts)) ≡ None → AllFail is_waiting parts
no-number parts none j y h =
    let rests = no-last (waits_at parts) (length parts) none j (slice_get_within parts j y h) in
    sym (ap (λ (o : Option Part). elim o [ None ↦ false | Some part ↦ is_waiting part ]) h) ∙ rests

no-next : (asked : Asked) (parts : List Part) → next_part asked parts ≡ None → list_any is_waiting parts ≡ false
no-next (Solve question) parts none = any-fails is_waiting parts (no-place is_waiting parts none)
no-next (Target question) parts none = any-fails is_waiting parts (no-place is_waiting parts none)
no-next (Table hands) parts none = any-fails is_waiting parts (no-place is_waiting parts (no-either (find (is_free parts) (range_with_len 0 (length parts))) (position is_waiting parts) none))
no-next (Play play) parts none = any-fails is_waiting parts (no-number parts none)

-- ---- where some job waits one is due

-- of the jobs that wait one with the least number
record Least (key : JobOf → ℕ) (jobs : List JobOf) : Type 0 where
  pub place : ℕ
  pub job : JobOf
  pub here : slice_get jobs place ≡ Some job
  pub waits : has_waiting job ≡ true
  pub least : (j : ℕ) (y : JobOf) → slice_get jobs j ≡ Some y → has_waiting y ≡ true → key job ≤ key y

module _ (key : JobOf → ℕ) (x : JobOf) (jobs : List JobOf) where
  -- the first job doesn't wait
  least-past : has_waiting x ≡ false → Least key jobs → Least key (x ∷ jobs)
  least-past rests m = record {
    place = suc m.place;
    job = m.job;
    here = m.here;
    waits = m.waits;
    least = past;
  }
    where
      past : (j : ℕ) (y : JobOf) → slice_get (x ∷ jobs) j ≡ Some y → has_waiting y ≡ true → key m.job ≤ key y
      past zero y h w = absurd (let e : true ≡ false = sym w ∙ ap has_waiting (sym (same_Some x y h)) ∙ rests in cc)
      past (suc j) y h w = m.least j y h w

  -- the first one alone waits
  least-only : has_waiting x ≡ true → list_any has_waiting jobs ≡ false → Least key (x ∷ jobs)
  least-only waits none = record {
    place = 0;
    job = x;
    here = refl;
    waits = waits;
    least = only;
  }
    where
      only : (j : ℕ) (y : JobOf) → slice_get (x ∷ jobs) j ≡ Some y → has_waiting y ≡ true → key x ≤ key y
      only zero y h w = omega (arith, ap key (same_Some x y h))
      only (suc j) y h w = absurd (let e : true ≡ false = sym w ∙ all-fail has_waiting jobs none j y h in cc)

  -- it waits, and others do
  least-both : has_waiting x ≡ true → (m : Least key jobs) → (b : Bool) → nat_le (key x) (key m.job) ≡ b → Least key (x ∷ jobs)
  least-both waits m true below = record {
    place = 0;
    job = x;
    here = refl;
    waits = waits;
    least = first;
  }
    where
      le : key x ≤ key m.job
      le = grind (arith, nat_tests)

      first : (j : ℕ) (y : JobOf) → slice_get (x ∷ jobs) j ≡ Some y → has_waiting y ≡ true → key x ≤ key y
      first zero y h w = omega (arith, ap key (same_Some x y h))
      first (suc j) y h w = omega (arith, le, m.least j y h w)
  least-both waits m false above = record {
    place = suc m.place;
    job = m.job;
    here = m.here;
    waits = m.waits;
    least = later;
  }
    where
      less : key m.job ≤ key x
      less = grind (arith, nat_tests)

      later : (j : ℕ) (y : JobOf) → slice_get (x ∷ jobs) j ≡ Some y → has_waiting y ≡ true → key m.job ≤ key y
      later zero y h w = omega (arith, less, ap key (same_Some x y h))
      later (suc j) y h w = m.least j y h w

least-of : (key : JobOf → ℕ) (jobs : List JobOf) → list_any has_waiting jobs ≡ true → Least key jobs
least-of key [] some = absurd (cc)
least-of key (x ∷ jobs) some = go (has_waiting x) refl (list_any has_waiting jobs) refl some (λ e. least-of key jobs e)
  where
    go : (a : Bool) → has_waiting x ≡ a → (b : Bool) → list_any has_waiting jobs ≡ b → (a || b) ≡ true → (list_any has_waiting jobs ≡ true → Least key jobs) → Least key (x ∷ jobs)
    go false is b rest e again = least-past key x jobs is (again (rest ∙ e))
    go true is false rest e again = least-only key x jobs is rest
    go true is true rest e again = let m = again rest in least-both key x jobs is m (nat_le (key x) (key m.job)) refl

some-chosen : (jobs : List JobOf) → list_any has_waiting jobs ≡ true → chosen jobs ≡ None → ⊥
some-chosen jobs some none = go (position (is_due jobs) jobs) refl none
  where
    m : Least (λ (job : JobOf). last_turn_of job.owner jobs) jobs
    m = least-of (λ (job : JobOf). last_turn_of job.owner jobs) jobs some

    due : is_due jobs m.job ≡ true
    due = rw (m.waits, all-waiting (is_no_later jobs m.job) jobs (λ j y there waits. le-test _ _ (m.least j y there waits))) refl

    go : (o : Option ℕ) → position (is_due jobs) jobs ≡ o → option_map (chosen_from jobs) o ≡ None → ⊥
    go None is e = let no : true ≡ false = sym due ∙ no-place (is_due jobs) jobs is m.place m.job m.here in absurd (cc)
    go (Some place) is e = absurd (cc)

-- ---- where no turn is next no part waits

some-turn : (jobs : List JobOf) → list_any has_waiting jobs ≡ true → next_turn jobs ≡ None → ⊥
some-turn jobs some none = go (chosen jobs) refl none
  where
    of_part : (place : ℕ) (job : JobOf) → has_waiting job ≡ true → (o : Option ℕ) → next_part job.asked (parts_of job.stage) ≡ o → option_map (turn place job) o ≡ None → ⊥
    of_part place job waits None is e = let no : true ≡ false = sym waits ∙ no-next job.asked (parts_of job.stage) is in absurd (cc)
    of_part place job waits (Some part) is e = absurd (cc)

    go : (o : Option ℕ) → chosen jobs ≡ o → option_and_then (turn_at jobs) o ≡ None → ⊥
    go None is e = some-chosen jobs some is
    go (Some place) is e =
        let at = chosen-at jobs place is in
        of_part place at.0 (and_parts (has_waiting at.0) _ at.2).0 (next_part at.0.asked (parts_of at.0.stage)) refl (sym (ap (option_and_then (turn_of place)) at.1) ∙ e)

-- no part of any job waits
none-count : (parts : List Part) → list_any is_waiting parts ≡ false → count_by is_waiting parts ≡ 0
none-count [] none = refl
none-count (p ∷ parts) none = go (is_waiting p) refl none (λ e. none-count parts e)
  where
    go : (b : Bool) → is_waiting p ≡ b → (b || list_any is_waiting parts) ≡ false → (list_any is_waiting parts ≡ false → count_by is_waiting parts ≡ 0) → count_by is_waiting (p ∷ parts) ≡ 0
    go true is e rest = absurd (cc)
    go false is e rest =
        let here : one is_waiting p ≡ 0 = rw is refl in
        sum_by-cons (one is_waiting) p parts ∙ (omega (arith, here, rest e))

none-wait : (jobs : List JobOf) → list_any has_waiting jobs ≡ false → waiting_in jobs ≡ 0
none-wait [] none = refl
none-wait (job ∷ jobs) none = go (has_waiting job) refl none (λ e. none-wait jobs e)
  where
    go : (b : Bool) → has_waiting job ≡ b → (b || list_any has_waiting jobs) ≡ false → (list_any has_waiting jobs ≡ false → waiting_in jobs ≡ 0) → waiting_in (job ∷ jobs) ≡ 0
    go true is e rest = absurd (cc)
    go false is e rest =
        let here = none-count (parts_of job.stage) is in
        sum_by-cons (of_job is_waiting) job jobs ∙ (omega (arith, here, rest e))

pub idle-waits_not : (jobs : List JobOf) → next_turn jobs ≡ None → waiting_in jobs ≡ 0
idle-waits_not jobs none = go (list_any has_waiting jobs) refl
  where
    go : (b : Bool) → list_any has_waiting jobs ≡ b → waiting_in jobs ≡ 0
    go true is = absurd (some-turn jobs is none)
    go false is = none-wait jobs is

-- a part waits: a turn is next
pub turn-waits : (book : BookOf) → 1 ≤ waiting_in book.jobs → (t : Turn) × (next_turn book.jobs ≡ Some t)
turn-waits book some = go (next_turn book.jobs) refl
  where
    go : (o : Option Turn) → next_turn book.jobs ≡ o → (t : Turn) × (next_turn book.jobs ≡ Some t)
    go None is = absurd (omega (arith, some, idle-waits_not book.jobs is))
    go (Some t) is = (t, is)

-- none waits: none is next
pub none-next : (book : BookOf) → waiting_in book.jobs ≡ 0 → next_turn book.jobs ≡ None
none-next book none = go (next_turn book.jobs) refl
  where
    go : (o : Option Turn) → next_turn book.jobs ≡ o → next_turn book.jobs ≡ None
    go None is = is
    go (Some t) is = let counts = turn-counts book 0 t is in absurd (omega (arith, none, counts.0))

-- ---- who is told that nothing waits

claimed-not : (number part claim : ℕ) (asked : Asked) → claimed number part claim asked ≡ NothingWaits → ⊥
claimed-not number part claim (Solve question) h = absurd (cc)
claimed-not number part claim (Target question) h = absurd (cc)
claimed-not number part claim (Table hands) h = absurd (cc)
claimed-not number part claim (Play play) h = absurd (cc)

-- a claim is, where none waits and nobody shut
pub idle-is : (book : BookOf) → waiting_in book.jobs ≡ 0 → book.shut ≡ false → IsIdle book
idle-is book none open_yet = ap (claim_told book.shut book.claims) (none-next book none) ∙ rw open_yet refl

-- where some part waits it gets one
pub idle-not_waits : (book : BookOf) → 1 ≤ waiting_in book.jobs → IsIdle book → ⊥
idle-not_waits book some idle =
    let t = turn-waits book some in
    claimed-not t.0.number t.0.part (book.claims + 1) t.0.job.asked (sym (ap (claim_told book.shut book.claims) t.1) ∙ idle)

-- and where somebody shut it is told so
pub idle-not_shut : (book : BookOf) → book.shut ≡ true → IsIdle book → ⊥
idle-not_shut book closed idle = go (next_turn book.jobs) (ap (λ (b : Bool). claim_told b book.claims (next_turn book.jobs)) (sym closed) ∙ idle)
  where
    go : (o : Option Turn) → claim_told true book.claims o ≡ NothingWaits → ⊥
    go None e = absurd (cc)
    go (Some t) e = claimed-not t.number t.part (book.claims + 1) t.job.asked e

-- ---- a job that comes where none waits

-- the turn that is next then is one of this job
pub new-turn : (jobs : List JobOf) (job : JobOf) (t : Turn) → next_turn jobs ≡ None → next_turn (jobs ++ job ∷ []) ≡ Some t → t.number ≡ length jobs + 1
new-turn jobs job t none is =
    let found = due-at (jobs ++ job ∷ []) t is in
    at found.0 found.1 (and_parts (has_waiting t.job) _ found.2).0 found.3 (eqb_tells found.0 (length jobs))
  where
    before : (place : ℕ) (b : Bool) → list_any has_waiting jobs ≡ b → has_waiting t.job ≡ true → slice_get jobs place ≡ Some t.job → ⊥
    before place true some waits here = some-turn jobs some none
    before place false some waits here = let no : true ≡ false = sym waits ∙ all-fail has_waiting jobs some place t.job here in absurd (cc)

    at : (place : ℕ) → t.number ≡ place + 1 → has_waiting t.job ≡ true → slice_get (jobs ++ job ∷ []) place ≡ Some t.job
        → ((nat_eq place (length jobs) ≡ true) × (place ≡ length jobs)) ⊎ ((nat_eq place (length jobs) ≡ false) × (place ≡ length jobs → ⊥)) → t.number ≡ length jobs + 1
    at place number waits here (inl last) = number ∙ ap (λ (n : ℕ). n + 1) last.1
    at place number waits here (inr other) = absurd (before place (list_any has_waiting jobs) refl waits (sym (slice_get-push_other jobs place job other.1) ∙ here))
