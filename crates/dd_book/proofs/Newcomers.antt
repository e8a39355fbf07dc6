-- Newcomers come last.
use Rattle.std.proofs.Common.{eq-eqb, ◌≡◌, ℕ, zero, suc, ◌-◌, ◌<◌, ◌≤◌, Bool, true, false, refl, sym, ap, ◌∙◌, arith, List, [], ◌∷◌, ◌++◌, length, map, max, Some, None, inl, inr, nat_eq}
use Rattle.std.specs.Prelude.{Option, filter, option_map, unwrap_or, slice_get, ◌||◌}
use Rattle.std.specs.List.{list_all}
use Rattle.std.proofs.lemmas.Bool.{cases_eq, eqb-true, and_parts}
use Rattle.std.proofs.lemmas.Bool.Decides.{eqb_tells}
use Rattle.std.proofs.lemmas.List.Quantifiers.{position-Some}
use Rattle.std.proofs.lemmas.Option.{get_or_from_slice_get, same_Some, slice_get-map, slice_get_within}
use Rattle.dd_book.specs.declared.call.Call.{Call}
use Rattle.dd_book.specs.Jobs.{JobOf, Turn, has_job, has_waiting, is_due, is_no_later, job_at, next_turn, owner_at}
use Rattle.dd_book.specs.Calls.{BookOf, after, empty_book, run}
use Rattle.dd_book.specs.Fairness.{IsHeldBack, NewcomersComeLast, job_waits, next_owner}
use Rattle.dd_book.proofs.AsksKept.{there}
use Rattle.dd_book.proofs.Chosen.{chosen-owner}
use Rattle.dd_book.proofs.Elements.{slice_get-push_here, slice_get-push_other}
use Rattle.dd_book.proofs.LastTurns.{Joins, Rests, Takes, by-change, last, owners, within-run}
use Rattle.dd_book.proofs.Seats.{all-waiting, any-there, le-test, le-tested, one-waiting}
use Rattle.dd_book.proofs.Turns.{turn-chosen}

-- ---- owners by their places

-- the owner of the job at a place
owner-there : (book : BookOf) (place : ℕ) (job : JobOf) → slice_get book.jobs place ≡ Some job → slice_get (owners book) place ≡ Some job.owner
owner-there book place job here = slice_get-map (λ (j : JobOf). j.owner) book.jobs place ∙ ap (option_map (λ (j : JobOf). j.owner)) here

-- who stands at a place has a job
owner-has : (jobs : List JobOf) (place o : ℕ) → slice_get (map (λ (j : JobOf). j.owner) jobs) place ≡ Some o → has_job o jobs ≡ true
owner-has [] place o h = absurd (cc)
owner-has (x ∷ jobs) zero o h = let e : x.owner ≡ o = same_Some x.owner o h in rw (eq-eqb x.owner o e) refl
owner-has (x ∷ jobs) (suc place) o h = go (nat_eq x.owner o) (owner-has jobs place o h)
  where
    go : (b : Bool) → has_job o jobs ≡ true → (b || has_job o jobs) ≡ true
    go true e = refl
    go false e = e

-- who has a job stands at a place
has-place : (book : BookOf) (o : ℕ) → has_job o book.jobs ≡ true → (place : ℕ) × (slice_get (owners book) place ≡ Some o)
has-place book o h =
    let found = any-there (λ (job : JobOf). nat_eq job.owner o) book.jobs h in
    (found.0, owner-there book found.0 found.1.0 found.1.1 ∙ ap Some (eqb-true found.1.0.owner o found.1.2))

-- ---- where the one who waits and a newcomer stand

-- one owner's job stands at a place, and it has had no turn for a while; all jobs of the other's stand behind it, and its last turn is none before
record Stand (place one since late : ℕ) (book : BookOf) : Type 0 where
  here : slice_get (owners book) place ≡ Some one
  early : last one book ≤ since
  given : since ≤ book.claims
  behind : (q : ℕ) → slice_get (owners book) q ≡ Some late → (place < q) × (since ≤ last late book)

module _ (place one since late : ℕ) (book : BookOf) (s : Stand place one since late book) where
  stand-rests : (now : BookOf) → Rests book now → Stand place one since late now
  stand-rests now r = record {
    here = ap (λ os. slice_get os place) r.owned ∙ s.here;
    early = omega (arith, r.lasts one, s.early);
    given = omega (arith, r.number, s.given);
    behind = λ q is. let b = s.behind q (sym (ap (λ os. slice_get os q) r.owned) ∙ is) in (b.0, omega (arith, r.lasts late, b.1));
  }

  stand-joins : (caller : ℕ) (now : BookOf) → Joins book now caller → Stand place one since late now
  stand-joins caller now j =
      let within : place < length (owners book) = slice_get_within (owners book) place one s.here in
      record {
        here = ap (λ os. slice_get os place) j.owned ∙ slice_get-push_other (owners book) place caller (λ e. omega (arith, e, within)) ∙ s.here;
        early = omega (arith, unmoved, s.early);
        given = omega (arith, j.number, s.given);
        behind = λ q is. elim (cases_eq q (length (owners book))) [
          | inl e ↦
              let who : caller ≡ late = same_Some caller late (sym (slice_get-push_here (owners book) caller) ∙ ap (slice_get (owners book ++ caller ∷ [])) (sym e) ∙ sym (ap (λ os. slice_get os q) j.owned) ∙ is) in
              (omega (arith, e, within), comes who)
          | inr differ ↦
              let b = s.behind q (sym (slice_get-push_other (owners book) q caller differ) ∙ sym (ap (λ os. slice_get os q) j.owned) ∙ is) in
              (b.0, omega (arith, j.lasts late, b.1))
        ];
      }
    where
      -- the one has a job already
      unmoved : last one now ≡ max (last one book) 0
      unmoved = elim (eqb_tells caller one) [
        | inl mine ↦ j.lasts one ∙ rw (mine.0, ap (λ o. has_job o book.jobs) mine.1 ∙ owner-has book.jobs place one s.here) refl
        | inr differ ↦ j.lasts one ∙ rw differ.0 refl
      ]

      -- the newcomer asks for the first time now, or did when the one waited already
      comes : caller ≡ late → since ≤ last late now
      comes who = go (has_job late book.jobs) refl
        where
          go : (b : Bool) → has_job late book.jobs ≡ b → since ≤ last late now
          go true is = let p = has-place book late is in omega (arith, j.lasts late, (s.behind p.0 p.1).1)
          go false is =
              let turn : last late now ≡ max (last late book) book.claims = j.lasts late ∙ rw (eq-eqb caller late who, ap (λ o. has_job o book.jobs) who ∙ is) refl in
              omega (arith, turn, s.given)

  stand-takes : (owner : ℕ) (now : BookOf) → (one ≡ owner → ⊥) → Takes book now owner → Stand place one since late now
  stand-takes owner now differ t = record {
    here = ap (λ os. slice_get os place) t.owned ∙ s.here;
    early = omega (arith, t.others one differ, s.early);
    given = omega (arith, t.number, s.given);
    behind = λ q is.
        let b = s.behind q (sym (ap (λ os. slice_get os q) t.owned) ∙ is) in (
          b.0,
          elim (cases_eq late owner) [
            | inl same ↦ omega (arith, ap (λ o. last o now) same, ap (λ o. last o book) same, t.its, b.1)
            | inr other ↦ omega (arith, t.others late other, b.1)
          ],
        );
  }

-- ---- the job that waits

waits-there : (number : ℕ) (book : BookOf) → job_waits number book ≡ true → (job : JobOf) × (job_at book.jobs number ≡ Some job) × (has_waiting job ≡ true)
waits-there number book h = go (job_at book.jobs number) refl h
  where
    go : (o : Option JobOf) → job_at book.jobs number ≡ o → unwrap_or (option_map has_waiting o) false ≡ true → (job : JobOf) × (job_at book.jobs number ≡ Some job) × (has_waiting job ≡ true)
    go None is e = absurd (cc)
    go (Some job) is e = (job, is, e)

-- it is due before the newcomer's
not-late : (number one since late : ℕ) (book : BookOf) → Stand (number - 1) one since late book → job_waits number book ≡ true → next_owner book ≡ Some late → ⊥
not-late number one since late book s waits is = go (next_turn book.jobs) refl
  where
    go : (o : Option Turn) → next_turn book.jobs ≡ o → ⊥
    go None none = absurd (let e : None ≡ Some late = sym (ap (option_map (λ (u : Turn). u.job.owner)) none) ∙ is in cc)
    go (Some t) some =
        let own : t.job.owner ≡ late = same_Some t.job.owner late (sym (ap (option_map (λ (u : Turn). u.job.owner)) some) ∙ is) in
        let at = turn-chosen book.jobs t some in
        let due = chosen-owner book.jobs at.0 t.job at.1 at.2 in
        let first = due.2 in
        let whose : first.0.owner ≡ late = first.2 ∙ own in
        let b = s.behind due.0 (owner-there book due.0 first.0 first.1 ∙ ap Some whose) in
        let y = waits-there number book waits in
        let here : slice_get book.jobs (number - 1) ≡ Some y.0 = there book.jobs number y.0 y.1 in
        let mine : y.0.owner ≡ one = same_Some y.0.owner one (sym (owner-there book (number - 1) y.0 here) ∙ s.here) in
        let found = position-Some (is_due book.jobs) book.jobs due.0 first.0 due.1 in
        let passes : is_due book.jobs first.0 ≡ true = sym (ap (is_due book.jobs) (get_or_from_slice_get book.jobs due.0 first.0 first.0 first.1)) ∙ found.1 in
        let all : list_all (is_no_later book.jobs y.0) (filter has_waiting book.jobs) ≡ true = all-waiting (is_no_later book.jobs y.0) book.jobs (λ j z is_there z_waits.
        let le = le-tested _ _ (one-waiting (is_no_later book.jobs first.0) book.jobs j z (and_parts (has_waiting first.0) _ passes).1 is_there z_waits) in
        le-test _ _ (omega (arith, le, b.1, s.early, ap (λ o. last o book) mine, ap (λ o. last o book) whose))) in
        let is_due_too : is_due book.jobs y.0 ≡ true = rw (y.2, all) refl in
        let got = position-Some (is_due book.jobs) book.jobs due.0 y.0 due.1 in
        let not : is_due book.jobs y.0 ≡ false = sym (ap (is_due book.jobs) (get_or_from_slice_get book.jobs (number - 1) y.0 y.0 here)) ∙ got.2 (number - 1) b.0 in
        absurd (let e : true ≡ false = sym is_due_too ∙ not in cc)

held : (cs : List Call) (number one since late : ℕ) (book : BookOf) → Stand (number - 1) one since late book → IsHeldBack number book cs → next_owner (run book cs) ≡ Some late → ⊥
unfolding run IsHeldBack
held [] number one since late book s waits is = not-late number one since late book s waits is
held (c ∷ cs) number one since late book s h is =
    let y = waits-there number book h.0 in
    let mine : y.0.owner ≡ one = same_Some y.0.owner one (sym (owner-there book (number - 1) y.0 (there book.jobs number y.0 y.1)) ∙ s.here) in
    let owns : owner_at book.jobs number ≡ Some one = ap (option_map (λ (j : JobOf). j.owner)) y.1 ∙ ap Some mine in
    let next = by-change (Stand (number - 1) one since late) book c s
    (stand-rests (number - 1) one since late book s) (stand-joins (number - 1) one since late book s)
    (λ owner now claims turn t. stand-takes (number - 1) one since late book s owner now (λ e. h.1 claims (turn ∙ ap Some (sym e) ∙ sym owns)) t) in
    held cs number one since late (after book c) next h.2 is

held-waits : (cs : List Call) (number : ℕ) (book : BookOf) → IsHeldBack number book cs → job_waits number book ≡ true
unfolding IsHeldBack
held-waits [] number book h = h
held-waits (c ∷ cs) number book h = h.0

pub newcomers-come_last : NewcomersComeLast
newcomers-come_last limits first more number late none h is =
    let book = run (empty_book limits) first in
    let y = waits-there number book (held-waits more number book h) in
    let within = within-run first (empty_book limits) (λ o. omega arith) in
    held more number y.0.owner book.claims late book (record {
      here = owner-there book (number - 1) y.0 (there book.jobs number y.0 y.1);
      early = within y.0.owner;
      given = omega arith;
      behind = λ q at. absurd (let e : true ≡ false = sym (owner-has book.jobs q late at) ∙ none in cc);
    }) h is
