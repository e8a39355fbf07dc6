-- Whose turn it is, when jobs change.
use Rattle.std.proofs.Common.{eq-eqb, ◌≡◌, ℕ, zero, suc, ◌+◌, ◌<◌, ◌≤◌, Bool, true, false, cond, refl, sym, ap, ◌∙◌, subst, arith, List, [], ◌∷◌, ◌++◌, length, length-set, length-append, inl, inr, Some, None, max, nat_eq, nat_le, nat_lt}
use Rattle.std.specs.Prelude.{Option, option_map, unwrap_or, filter, slice_get, slice_set, MatchOption, ◌&&◌, ◌||◌}
use Rattle.std.specs.List.{position, list_all, list_any}
use Rattle.std.specs.BTreeMap.{BTreeMap}
use Rattle.std.specs.BTreeSet.{BTreeSet}
use Rattle.std.proofs.lemmas.Bool.{cases_eq, eqb-true, or_left, or_right, and_parts}
use Rattle.std.proofs.lemmas.Bool.Decides.{nat_tests, eqb_tells}
use Rattle.std.proofs.lemmas.Iterator.Adapters.{position_from-zero}
use Rattle.std.proofs.lemmas.Option.{same_Some, slice_get_within}
use Rattle.dd_book.specs.Jobs.{JobOf, first_turn, has_job, has_waiting, is_due, is_no_later, last_turn_of}
use Rattle.dd_book.specs.Indexes.{AreOwners, ChangesOnly, IsKnown, count_of, waits_by}
use Rattle.dd_book.specs.Tournaments.{IsFirstKey, key_at, with_key}
use Rattle.dd_book.specs.Waiting.{IsFirstOf, IsFirstPlace, SetsOnly, has_place}
use Rattle.dd_book.proofs.Elements.{position_from-first, position_from-none, slice_get-end, slice_get-push_here, slice_get-push_other, slice_get-set_here, slice_get-set_other}
use Rattle.dd_book.proofs.Winning.{key_at-set_here, key_at-set_other, key_at-within}

never-both : {b : Bool} → b ≡ true → b ≡ false → ⊥
never-both t f = absurd (let e : true ≡ false = sym t ∙ f in cc)

-- ---- keys at the first places of their owners

module _ (W : ℕ → ℕ → Bool) where
  -- the first place of an owner, if it has one
  abbrev FirstBy : ℕ → Option ℕ → Type 0
  FirstBy o None = (p : ℕ) → W o p ≡ false
  FirstBy o (Some p) = IsFirstOf W o p

  -- a place has one owner
  abbrev OneOwner : Type 0
  OneOwner = (a b p : ℕ) → W a p ≡ true → W b p ≡ true → a ≡ b

  abbrev Seated : (ℕ → ℕ) → List (Option ℕ) → Type 0
  Seated L keys =
      ((o p : ℕ) → IsFirstOf W o p → key_at keys p ≡ Some (L o)) × ((p k : ℕ) → key_at keys p ≡ Some k → (o : ℕ) × IsFirstOf W o p)

  -- the same, of all owners but one, which has no key
  abbrev SeatedBut : ℕ → (ℕ → ℕ) → List (Option ℕ) → Type 0
  SeatedBut owner L keys =
      ((o p : ℕ) → (o ≡ owner → ⊥) → IsFirstOf W o p → key_at keys p ≡ Some (L o))
      × ((p k : ℕ) → key_at keys p ≡ Some k → (o : ℕ) × (o ≡ owner → ⊥) × IsFirstOf W o p)

  first-same : (o p q : ℕ) → IsFirstOf W o p → IsFirstOf W o q → p ≡ q
  first-same o p q a b = go (nat_lt p q) (nat_lt q p) refl refl
    where
      go : (l m : Bool) → nat_lt p q ≡ l → nat_lt q p ≡ m → p ≡ q
      go true m h k = absurd (never-both a.0 (b.1 p (grind (arith, nat_tests))))
      go false true h k = absurd (never-both b.0 (a.1 q (grind (arith, nat_tests))))
      go false false h k = grind (arith, nat_tests)

  module _ (one : OneOwner) (L : ℕ → ℕ) (owner : ℕ) where
    -- the key of an owner is taken away
    pub key-lifted : (keys : List (Option ℕ)) (before : Option ℕ) → FirstBy owner before → Seated L keys → SeatedBut owner L (with_key keys before None)
    key-lifted keys None none s = (
      λ o p other first. s.0 o p first,
      λ p k here.
          let whose = s.1 p k here in (whose.0, λ e. never-both (subst (λ o. W o p ≡ true) e whose.1.0) (none p), whose.1),
    )
    key-lifted keys (Some f) first s =
        let within : f < length keys = key_at-within keys f (L owner) (s.0 owner f first) in (
          λ o p other there. key_at-set_other keys f p None (λ e. other (one o owner f (subst (λ q. W o q ≡ true) e there.0) first.0)) ∙ s.0 o p there,
          λ p k here. elim (cases_eq p f) [
            | inl same ↦ absurd (let none : key_at (slice_set keys f None) p ≡ None = ap (key_at (slice_set keys f None)) same ∙ key_at-set_here keys f None within in let e : None ≡ Some k = sym none ∙ here in cc)
            | inr differ ↦
                let whose = s.1 p k (sym (key_at-set_other keys f p None differ) ∙ here) in
                (whose.0, λ e. differ (first-same owner p f (subst (λ o. IsFirstOf W o p) e whose.1) first), whose.1)
          ],
        )

    -- it is put where its first place is
    pub key-put : (keys : List (Option ℕ)) (now : Option ℕ) → FirstBy owner now → ((p : ℕ) → W owner p ≡ true → p < length keys) → SeatedBut owner L keys
        → Seated L (with_key keys now (Some (L owner)))
    key-put keys None none within s = (
      λ o p first. elim (cases_eq o owner) [
        | inl same ↦ absurd (never-both (subst (λ x. W x p ≡ true) same first.0) (none p))
        | inr other ↦ s.0 o p other first
      ],
      λ p k here. let whose = s.1 p k here in (whose.0, whose.2),
    )
    key-put keys (Some f) first within s = (
      λ o p there. elim (cases_eq p f) [
        | inl same ↦
            let own : o ≡ owner = one o owner f (subst (λ q. W o q ≡ true) same there.0) first.0 in
            ap (key_at (slice_set keys f (Some (L owner)))) same ∙ key_at-set_here keys f (Some (L owner)) (within f first.0) ∙ ap (λ x. Some (L x)) (sym own)
        | inr differ ↦ key_at-set_other keys f p (Some (L owner)) differ ∙ s.0 o p (λ e. differ (first-same owner p f (subst (λ x. IsFirstOf W x p) e there) first)) there
      ],
      λ p k here. elim (cases_eq p f) [
        | inl same ↦ (owner, subst (IsFirstOf W owner) (sym same) first)
        | inr differ ↦ let whose = s.1 p k (sym (key_at-set_other keys f p (Some (L owner)) differ) ∙ here) in (whose.0, whose.2)
      ],
    )

-- places that are the same
first-carried : (V W : ℕ → ℕ → Bool) (o p : ℕ) → ((q : ℕ) → V o q ≡ W o q) → IsFirstOf V o p → IsFirstOf W o p
first-carried V W o p same first = (sym (same p) ∙ first.0, λ q less. sym (same q) ∙ first.1 q less)

-- of the other owners nothing changes
seated-carried : (V W : ℕ → ℕ → Bool) (K L : ℕ → ℕ) (owner : ℕ) (keys : List (Option ℕ)) → ((o : ℕ) → (o ≡ owner → ⊥) → (p : ℕ) → W o p ≡ V o p)
    → ((o : ℕ) → (o ≡ owner → ⊥) → L o ≡ K o) → SeatedBut V owner K keys → SeatedBut W owner L keys
seated-carried V W K L owner keys same lasts s = (
  λ o p other first. s.0 o p other (first-carried W V o p (same o other) first) ∙ ap Some (sym (lasts o other)),
  λ p k here. let whose = s.1 p k here in (whose.0, whose.1, first-carried V W whose.0 p (λ q. sym (same whose.0 whose.1 q)) whose.2),
)

first-by : (W : ℕ → ℕ → Bool) (waiting : BTreeSet (ℕ × ℕ)) (o : ℕ) (found : Option ℕ) → ((p : ℕ) → has_place waiting o p ≡ W o p) → IsFirstPlace waiting o found → FirstBy W o found
first-by W waiting o None same none = λ p. sym (same p) ∙ none p
first-by W waiting o (Some p) same first = first-carried (has_place waiting) W o p same first

-- ---- who waits where

abbrev waits_of : ℕ → JobOf → Bool
waits_of owner job = nat_eq job.owner owner && has_waiting job

abbrev waits_in : ℕ → Option JobOf → Bool
waits_in owner found = unwrap_or (option_map (waits_of owner) found) false

pub waits_by-job : (jobs : List JobOf) (o p : ℕ) → waits_by jobs o p ≡ true → (job : JobOf) × (slice_get jobs p ≡ Some job) × (job.owner ≡ o) × (has_waiting job ≡ true)
waits_by-job [] o p h = absurd (cc)
waits_by-job (job ∷ jobs) o zero h = let t = and_parts (nat_eq job.owner o) (has_waiting job) h in (job, refl, eqb-true job.owner o t.0, t.1)
waits_by-job (job ∷ jobs) o (suc p) h = waits_by-job jobs o p h

waits_by-one : (jobs : List JobOf) → OneOwner (waits_by jobs)
waits_by-one jobs a b p h k =
    let x = waits_by-job jobs a p h in
    let y = waits_by-job jobs b p k in
    sym x.2 ∙ ap (λ (j : JobOf). j.owner) (same_Some x.0 y.0 (sym x.1 ∙ y.1)) ∙ y.2

pub waits_by-within : (jobs : List JobOf) (o p : ℕ) → waits_by jobs o p ≡ true → p < length jobs
waits_by-within jobs o p h = let x = waits_by-job jobs o p h in slice_get_within jobs p x.0 x.1

-- a job that waits, at its place
pub waits_by-here : (jobs : List JobOf) (p : ℕ) (job : JobOf) → slice_get jobs p ≡ Some job → has_waiting job ≡ true → waits_by jobs job.owner p ≡ true
waits_by-here jobs p job here waits = ap (waits_in job.owner) here ∙ rw (eq-eqb job.owner job.owner refl, waits) refl

-- the owner's keys after a change of its own jobs
pub reseated : (jobs jobs' : List JobOf) (waiting waiting' : BTreeSet (ℕ × ℕ)) (newest newest' : BTreeMap ℕ ℕ) (keys keys' : List (Option ℕ)) (owner : ℕ) (before now : Option ℕ)
    → AreOwners jobs waiting newest keys
    → ((o p : ℕ) → has_place waiting' o p ≡ waits_by jobs' o p)
    → ((o : ℕ) → count_of newest' o ≡ last_turn_of o jobs')
    → ((p : ℕ) (job : JobOf) → slice_get jobs' p ≡ Some job → IsKnown newest' job.owner)
    → ((o : ℕ) → IsKnown newest' o → has_job o jobs' ≡ true)
    → length jobs' ≤ length keys
    → ((o : ℕ) → (o ≡ owner → ⊥) → (p : ℕ) → waits_by jobs' o p ≡ waits_by jobs o p)
    → ((o : ℕ) → (o ≡ owner → ⊥) → last_turn_of o jobs' ≡ last_turn_of o jobs)
    → IsFirstPlace waiting owner before → IsFirstPlace waiting' owner now
    → keys' ≡ with_key (with_key keys before None) now (Some (count_of newest' owner))
    → AreOwners jobs' waiting' newest' keys'
reseated jobs jobs' waiting waiting' newest newest' keys keys' owner before now x places claims known alone room others lasts was is changed =
    let last = λ (o : ℕ). last_turn_of o jobs in
    let last' = λ (o : ℕ). last_turn_of o jobs' in
    let lifted = key-lifted (waits_by jobs) (waits_by-one jobs) last owner keys before (first-by (waits_by jobs) waiting owner before (x.places owner) was) (x.seated, x.only) in
    let many = with_key-length keys before None in
    let seated = key-put (waits_by jobs') (waits_by-one jobs') last' owner (with_key keys before None) now (first-by (waits_by jobs') waiting' owner now (places owner) is)
    (λ p h. omega (arith, waits_by-within jobs' owner p h, many, room)) (seated-carried (waits_by jobs) (waits_by jobs') last last' owner (with_key keys before None) others lasts lifted) in
    let same : keys' ≡ with_key (with_key keys before None) now (Some (last' owner)) = changed ∙ ap (λ k. with_key (with_key keys before None) now (Some k)) (claims owner) in
    record {
      places = places;
      lasts = claims;
      known = known;
      alone = alone;
      room = omega (arith, room, many, with_key-length (with_key keys before None) now (Some (last' owner)), ap (λ (ks : List (Option ℕ)). length ks) same);
      seated = λ o p first. ap (λ (ks : List (Option ℕ)). key_at ks p) same ∙ seated.0 o p first;
      only = λ p k here. seated.1 p k (sym (ap (λ (ks : List (Option ℕ)). key_at ks p) same) ∙ here);
    }
  where
    with_key-length : (keys : List (Option ℕ)) (place key : Option ℕ) → length (with_key keys place key) ≡ length keys
    with_key-length keys None key = refl
    with_key-length keys (Some place) key = length-set keys place key

-- ---- the newest claim of an owner

-- another owner's job changes
pub last-set_other : (jobs : List JobOf) (place : ℕ) (was job : JobOf) (o : ℕ) → slice_get jobs place ≡ Some was → (was.owner ≡ o → ⊥) → (job.owner ≡ o → ⊥)
    → last_turn_of o (slice_set jobs place job) ≡ last_turn_of o jobs
last-set_other [] place was job o here a b = refl
last-set_other (x ∷ jobs) zero was job o here a b =
    let same : x ≡ was = same_Some x was here in
    rw (eqb-other job.owner o b, eqb-other x.owner o (λ e. a (ap (λ (j : JobOf). j.owner) (sym same) ∙ e))) refl
  where
    eqb-other : (a b : ℕ) → (a ≡ b → ⊥) → nat_eq a b ≡ false
    eqb-other a b h = elim (eqb_tells a b) [ inl same ↦ absurd (h same.1) | inr differ ↦ differ.0 ]
last-set_other (x ∷ jobs) (suc place) was job o here a b = ap (max (cond (nat_eq x.owner o) x.last_turn 0)) (last-set_other jobs place was job o here a b)

-- a job of the owner is claimed
pub last-raised : (jobs : List JobOf) (place claim : ℕ) (was job : JobOf) (o : ℕ) → slice_get jobs place ≡ Some was → was.owner ≡ o → job.owner ≡ o → job.last_turn ≡ max was.last_turn claim
    → last_turn_of o (slice_set jobs place job) ≡ max (last_turn_of o jobs) claim
last-raised [] place claim was job o here a b l = absurd (cc)
last-raised (x ∷ jobs) zero claim was job o here a b l =
    let same : x ≡ was = same_Some x was here in
    let last : x.last_turn ≡ was.last_turn = ap (λ (j : JobOf). j.last_turn) same in
    rw (eq-eqb job.owner o b, eq-eqb x.owner o (ap (λ (j : JobOf). j.owner) same ∙ a), l) (omega (arith, last))
last-raised (x ∷ jobs) (suc place) claim was job o here a b l =
    let rest = last-raised jobs place claim was job o here a b l in
    omega (arith, rest)

-- a job changes, and its newest claim stays
pub last-kept : (jobs : List JobOf) (place : ℕ) (was job : JobOf) (o : ℕ) → slice_get jobs place ≡ Some was → job.owner ≡ was.owner → job.last_turn ≡ was.last_turn
    → last_turn_of o (slice_set jobs place job) ≡ last_turn_of o jobs
last-kept [] place was job o here own l = refl
last-kept (x ∷ jobs) zero was job o here own l =
    let same : x ≡ was = same_Some x was here in
    rw (own ∙ ap (λ (j : JobOf). j.owner) (sym same), l ∙ ap (λ (j : JobOf). j.last_turn) (sym same)) refl
last-kept (x ∷ jobs) (suc place) was job o here own l = ap (max (cond (nat_eq x.owner o) x.last_turn 0)) (last-kept jobs place was job o here own l)

-- a new job
pub last-pushed : (jobs : List JobOf) (job : JobOf) (o : ℕ) → last_turn_of o (jobs ++ job ∷ []) ≡ max (last_turn_of o jobs) (cond (nat_eq job.owner o) job.last_turn 0)
last-pushed [] job o = go (cond (nat_eq job.owner o) job.last_turn 0)
  where
    go : (n : ℕ) → max n 0 ≡ max 0 n
    go n = omega arith
last-pushed (x ∷ jobs) job o = let rest = last-pushed jobs job o in omega (arith, rest)

-- who has no job has had no turn
last-none : (jobs : List JobOf) (o : ℕ) → has_job o jobs ≡ false → last_turn_of o jobs ≡ 0
last-none [] o none = refl
last-none (x ∷ jobs) o none = go (nat_eq x.owner o) none (last-none jobs o)
  where
    go : (b : Bool) → (b || has_job o jobs) ≡ false → (has_job o jobs ≡ false → last_turn_of o jobs ≡ 0) → max (cond b x.last_turn 0) (last_turn_of o jobs) ≡ 0
    go true e rest = absurd (cc)
    go false e rest = let r = rest e in omega (arith, r)

-- ---- who has a job

pub any-there : (test : JobOf → Bool) (jobs : List JobOf) → list_any test jobs ≡ true → (place : ℕ) × ((job : JobOf) × (slice_get jobs place ≡ Some job) × (test job ≡ true))
any-there test [] h = absurd (cc)
any-there test (x ∷ jobs) h = go (test x) refl h (λ k. any-there test jobs k)
  where
    go : (b : Bool) → test x ≡ b → (b || list_any test jobs) ≡ true → (list_any test jobs ≡ true → (place : ℕ) × ((job : JobOf) × (slice_get jobs place ≡ Some job) × (test job ≡ true)))
        → (place : ℕ) × ((job : JobOf) × (slice_get (x ∷ jobs) place ≡ Some job) × (test job ≡ true))
    go true is h rest = (0, (x, refl, is))
    go false is h rest = let r = rest h in (suc r.0, r.1)

-- a job changes, and its owner stays
pub has_job-set : (jobs : List JobOf) (place : ℕ) (was job : JobOf) (o : ℕ) → slice_get jobs place ≡ Some was → job.owner ≡ was.owner → has_job o (slice_set jobs place job) ≡ has_job o jobs
has_job-set [] place was job o here own = refl
has_job-set (x ∷ jobs) zero was job o here own =
    let same : x ≡ was = same_Some x was here in
    ap (λ (k : ℕ). nat_eq k o || has_job o jobs) (own ∙ ap (λ (j : JobOf). j.owner) (sym same))
has_job-set (x ∷ jobs) (suc place) was job o here own = ap (λ b. nat_eq x.owner o || b) (has_job-set jobs place was job o here own)

-- a new job
pub has_job-push : (jobs : List JobOf) (job : JobOf) (o : ℕ) → has_job o (jobs ++ job ∷ []) ≡ (has_job o jobs || nat_eq job.owner o)
has_job-push [] job o = go (nat_eq job.owner o)
  where
    go : (b : Bool) → (b || false) ≡ b
    go true = refl
    go false = refl
has_job-push (x ∷ jobs) job o = ap (λ b. nat_eq x.owner o || b) (has_job-push jobs job o) ∙ go (nat_eq x.owner o)
  where
    go : (b : Bool) → (b || (has_job o jobs || nat_eq job.owner o)) ≡ ((b || has_job o jobs) || nat_eq job.owner o)
    go true = refl
    go false = refl

-- who has a job is known
has_job-known : (jobs : List JobOf) (newest : BTreeMap ℕ ℕ) (o : ℕ) → ((p : ℕ) (job : JobOf) → slice_get jobs p ≡ Some job → IsKnown newest job.owner) → has_job o jobs ≡ true → IsKnown newest o
has_job-known jobs newest o known has =
    let found = any-there (λ (job : JobOf). nat_eq job.owner o) jobs has in
    subst (IsKnown newest) (eqb-true found.1.0.owner o found.1.2) (known found.0 found.1.0 found.1.1)

pub first_turn-new : (jobs : List JobOf) (waiting : BTreeSet (ℕ × ℕ)) (newest : BTreeMap ℕ ℕ) (keys : List (Option ℕ)) (o claims : ℕ) → AreOwners jobs waiting newest keys → (IsKnown newest o → ⊥) → first_turn o jobs claims ≡ claims
first_turn-new jobs waiting newest keys o claims x none = go (has_job o jobs) refl
  where
    go : (b : Bool) → has_job o jobs ≡ b → first_turn o jobs claims ≡ claims
    go true is = absurd (none (has_job-known jobs newest o x.known is))
    go false is = rw is refl

-- ---- room for keys

-- a place of the set has a key
pub place-roomy : (jobs : List JobOf) (waiting : BTreeSet (ℕ × ℕ)) (newest : BTreeMap ℕ ℕ) (keys : List (Option ℕ)) (o p : ℕ) → AreOwners jobs waiting newest keys → has_place waiting o p ≡ true → p < length keys
place-roomy jobs waiting newest keys o p x h = omega (arith, waits_by-within jobs o p (sym (x.places o p) ∙ h), x.room)

-- so has one after a place was put into it
pub put-roomy : (jobs : List JobOf) (waiting put : BTreeSet (ℕ × ℕ)) (newest : BTreeMap ℕ ℕ) (keys : List (Option ℕ)) (owner place p : ℕ) → AreOwners jobs waiting newest keys → place < length keys
    → SetsOnly waiting put owner place true → has_place put owner p ≡ true → p < length keys
put-roomy jobs waiting put newest keys owner place p x within sets there = elim (eqb_tells p place) [
  | inl same ↦ omega (arith, same.1, within)
  | inr differ ↦ place-roomy jobs waiting newest keys owner p x (sym (sets owner p ∙ rw (eq-eqb owner owner refl, differ.0) refl) ∙ there)
]

-- a place of the set after a change at one that was in it
pub was-there : (old new : BTreeSet (ℕ × ℕ)) (owner place p : ℕ) (b : Bool) → SetsOnly old new owner place b → has_place old owner place ≡ true → has_place new owner p ≡ true → has_place old owner p ≡ true
was-there old new owner place p b sets here there = elim (eqb_tells p place) [
  | inl same ↦ ap (has_place old owner) same.1 ∙ here
  | inr differ ↦ sym (sets owner p ∙ rw (eq-eqb owner owner refl, differ.0) refl) ∙ there
]

-- ---- a job changes

module _ (jobs : List JobOf) (place owner : ℕ) (was job : JobOf) (here : slice_get jobs place ≡ Some was) (own : was.owner ≡ owner) (same : job.owner ≡ owner) where
  set-here : (o : ℕ) → waits_by (slice_set jobs place job) o place ≡ waits_of o job
  set-here o = ap (waits_in o) (slice_get-set_here jobs place job (slice_get_within jobs place was here))

  set-other : (o p : ℕ) → (p ≡ place → ⊥) → waits_by (slice_set jobs place job) o p ≡ waits_by jobs o p
  set-other o p differ = ap (waits_in o) (slice_get-set_other jobs place p job differ)

  not-own : (o : ℕ) (j : JobOf) → j.owner ≡ owner → (o ≡ owner → ⊥) → waits_of o j ≡ false
  not-own o j is other = elim (eqb_tells j.owner o) [
    | inl e ↦ absurd (other (sym e.1 ∙ is))
    | inr differ ↦ rw differ.0 refl
  ]

  set-others : (o : ℕ) → (o ≡ owner → ⊥) → (p : ℕ) → waits_by (slice_set jobs place job) o p ≡ waits_by jobs o p
  set-others o other p = elim (cases_eq p place) [
    | inl e ↦ ap (waits_by (slice_set jobs place job) o) e ∙ set-here o ∙ not-own o job same other ∙ sym (not-own o was own other) ∙ sym (ap (waits_in o) here) ∙ ap (waits_by jobs o) (sym e)
    | inr differ ↦ set-other o p differ
  ]

  set-places : (waiting waiting' : BTreeSet (ℕ × ℕ)) (b : Bool) → has_waiting job ≡ b → SetsOnly waiting waiting' owner place b → ((o p : ℕ) → has_place waiting o p ≡ waits_by jobs o p)
      → (o p : ℕ) → has_place waiting' o p ≡ waits_by (slice_set jobs place job) o p
  set-places waiting waiting' b waits sets before o p = elim (eqb_tells o owner) [
    | inl mine ↦ elim (eqb_tells p place) [
      | inl there ↦ sets o p ∙ rw (mine.0, there.0) (sym (ap (waits_by (slice_set jobs place job) o) there.1 ∙ set-here o ∙ rw (eq-eqb job.owner o (same ∙ sym mine.1), waits) refl))
      | inr differ ↦ sets o p ∙ rw (mine.0, differ.0) (before o p ∙ sym (set-other o p differ.1))
    ]
    | inr other ↦ sets o p ∙ rw other.0 (before o p ∙ sym (set-others o other.1 p))
  ]

  set-known : (newest newest' : BTreeMap ℕ ℕ) → ((o : ℕ) → IsKnown newest o → IsKnown newest' o) → ((p : ℕ) (j : JobOf) → slice_get jobs p ≡ Some j → IsKnown newest j.owner)
      → (p : ℕ) (j : JobOf) → slice_get (slice_set jobs place job) p ≡ Some j → IsKnown newest' j.owner
  set-known newest newest' more known p j is = elim (cases_eq p place) [
    | inl e ↦
        let which : job ≡ j = same_Some job j (sym (slice_get-set_here jobs place job (slice_get_within jobs place was here)) ∙ ap (slice_get (slice_set jobs place job)) (sym e) ∙ is) in
        subst (IsKnown newest') (own ∙ sym same ∙ ap (λ (x : JobOf). x.owner) which) (more was.owner (known place was here))
    | inr differ ↦ more j.owner (known p j (sym (slice_get-set_other jobs place p job differ) ∙ is))
  ]

  set-alone : (newest newest' : BTreeMap ℕ ℕ) → ((o : ℕ) → IsKnown newest' o → IsKnown newest o) → ((o : ℕ) → IsKnown newest o → has_job o jobs ≡ true)
      → (o : ℕ) → IsKnown newest' o → has_job o (slice_set jobs place job) ≡ true
  set-alone newest newest' less alone o known = has_job-set jobs place was job o here (same ∙ sym own) ∙ alone o (less o known)

  -- a job of the owner changes, and its place goes into the set or out of it
  pub job-changed : (waiting waiting' : BTreeSet (ℕ × ℕ)) (newest newest' : BTreeMap ℕ ℕ) (keys keys' : List (Option ℕ)) (b : Bool) (before now : Option ℕ) → has_waiting job ≡ b
      → SetsOnly waiting waiting' owner place b → ((o : ℕ) → count_of newest' o ≡ last_turn_of o (slice_set jobs place job)) → ((o : ℕ) → IsKnown newest o → IsKnown newest' o) → ((o : ℕ) → IsKnown newest' o → IsKnown newest o)
      → IsFirstPlace waiting owner before → IsFirstPlace waiting' owner now → keys' ≡ with_key (with_key keys before None) now (Some (count_of newest' owner))
      → AreOwners jobs waiting newest keys → AreOwners (slice_set jobs place job) waiting' newest' keys'
  job-changed waiting waiting' newest newest' keys keys' b before now waits sets claims more less first first' changed x =
      reseated jobs (slice_set jobs place job) waiting waiting' newest newest' keys keys' owner before now x
      (set-places waiting waiting' b waits sets x.places) claims (set-known newest newest' more x.known) (set-alone newest newest' less x.alone) (omega (arith, length-set jobs place job, x.room)) set-others
      (λ o other. last-set_other jobs place was job o here (λ e. other (sym e ∙ own)) (λ e. other (sym e ∙ same))) first first' changed

  -- and its newest claim stays
  pub job-stopped : (waiting waiting' : BTreeSet (ℕ × ℕ)) (newest : BTreeMap ℕ ℕ) (keys keys' : List (Option ℕ)) (b : Bool) (before now : Option ℕ) → has_waiting job ≡ b → job.last_turn ≡ was.last_turn
      → SetsOnly waiting waiting' owner place b → IsFirstPlace waiting owner before → IsFirstPlace waiting' owner now → keys' ≡ with_key (with_key keys before None) now (Some (count_of newest owner))
      → AreOwners jobs waiting newest keys → AreOwners (slice_set jobs place job) waiting' newest keys'
  job-stopped waiting waiting' newest keys keys' b before now waits last sets first first' changed x =
      job-changed waiting waiting' newest newest keys keys' b before now waits sets (λ o. x.lasts o ∙ sym (last-kept jobs place was job o here (same ∙ sym own) last)) (λ o k. k) (λ o k. k) first first' changed x

  -- a part of it is claimed
  pub job-claimed : (waiting waiting' : BTreeSet (ℕ × ℕ)) (newest newest' : BTreeMap ℕ ℕ) (keys keys' : List (Option ℕ)) (claim : ℕ) (b : Bool) (before now : Option ℕ) → has_waiting job ≡ b
      → job.last_turn ≡ max was.last_turn claim → SetsOnly waiting waiting' owner place b → ChangesOnly newest newest' owner (max (count_of newest owner) claim) → ((o : ℕ) → IsKnown newest o → IsKnown newest' o) → ((o : ℕ) → IsKnown newest' o → IsKnown newest o)
      → IsFirstPlace waiting owner before → IsFirstPlace waiting' owner now → keys' ≡ with_key (with_key keys before None) now (Some (count_of newest' owner))
      → AreOwners jobs waiting newest keys → AreOwners (slice_set jobs place job) waiting' newest' keys'
  job-claimed waiting waiting' newest newest' keys keys' claim b before now waits last sets raised more less first first' changed x =
      job-changed waiting waiting' newest newest' keys keys' b before now waits sets (λ o. elim (eqb_tells owner o) [
        | inl mine ↦ raised o ∙ rw mine.0 (ap (λ n. max n claim) (ap (count_of newest) mine.1 ∙ x.lasts o) ∙ sym (last-raised jobs place claim was job o here (own ∙ mine.1) (same ∙ mine.1) last))
        | inr other ↦ raised o ∙ rw other.0 (x.lasts o ∙ sym (last-set_other jobs place was job o here (λ e. other.1 (sym own ∙ e)) (λ e. other.1 (sym same ∙ e))))
      ]) more less first first' changed x

  -- it changes, and waits or not as before
  pub job-kept : (waiting : BTreeSet (ℕ × ℕ)) (newest : BTreeMap ℕ ℕ) (keys : List (Option ℕ)) → has_waiting job ≡ has_waiting was → job.last_turn ≡ was.last_turn
      → AreOwners jobs waiting newest keys → AreOwners (slice_set jobs place job) waiting newest keys
  job-kept waiting newest keys waits last x =
      let all : (o p : ℕ) → waits_by (slice_set jobs place job) o p ≡ waits_by jobs o p = λ o p. elim (cases_eq p place) [
        | inl e ↦ ap (waits_by (slice_set jobs place job) o) e ∙ set-here o ∙ rw (same ∙ sym own, waits) refl ∙ sym (ap (waits_in o) here) ∙ ap (waits_by jobs o) (sym e)
        | inr differ ↦ set-other o p differ
      ] in
      record {
        places = λ o p. x.places o p ∙ sym (all o p);
        lasts = λ o. x.lasts o ∙ sym (last-kept jobs place was job o here (same ∙ sym own) last);
        known = set-known newest newest (λ o k. k) x.known;
        alone = set-alone newest newest (λ o k. k) x.alone;
        room = omega (arith, length-set jobs place job, x.room);
        seated = λ o p first. x.seated o p (first-carried (waits_by (slice_set jobs place job)) (waits_by jobs) o p (all o) first) ∙ ap Some (sym (last-kept jobs place was job o here (same ∙ sym own) last));
        only = λ p k is. let whose = x.only p k is in (whose.0, first-carried (waits_by jobs) (waits_by (slice_set jobs place job)) whose.0 p (λ q. sym (all whose.0 q)) whose.1);
      }

-- ---- a new job

module _ (jobs : List JobOf) (owner : ℕ) (job : JobOf) (same : job.owner ≡ owner) where
  push-here : (o : ℕ) → waits_by (jobs ++ job ∷ []) o (length jobs) ≡ waits_of o job
  push-here o = ap (waits_in o) (slice_get-push_here jobs job)

  push-other : (o p : ℕ) → (p ≡ length jobs → ⊥) → waits_by (jobs ++ job ∷ []) o p ≡ waits_by jobs o p
  push-other o p differ = ap (waits_in o) (slice_get-push_other jobs p job differ)

  push-others : (o : ℕ) → (o ≡ owner → ⊥) → (p : ℕ) → waits_by (jobs ++ job ∷ []) o p ≡ waits_by jobs o p
  push-others o other p = elim (cases_eq p (length jobs)) [
    | inl e ↦ ap (waits_by (jobs ++ job ∷ []) o) e ∙ push-here o ∙ elim (eqb_tells job.owner o) [ inl is ↦ absurd (other (sym is.1 ∙ same)) | inr differ ↦ rw differ.0 refl ]
        ∙ sym (ap (waits_in o) (slice_get-end jobs)) ∙ ap (waits_by jobs o) (sym e)
    | inr differ ↦ push-other o p differ
  ]

  -- the last turns after it: an owner that had a job keeps its own, one that had none has that of the new job
  push-lasts : (waiting : BTreeSet (ℕ × ℕ)) (newest newest' : BTreeMap ℕ ℕ) (keys : List (Option ℕ)) (claims : ℕ) → job.last_turn ≡ first_turn owner jobs claims
      → (IsKnown newest owner → newest' ≡ newest) → ((IsKnown newest owner → ⊥) → ChangesOnly newest newest' owner claims)
      → AreOwners jobs waiting newest keys → (o : ℕ) → count_of newest' o ≡ last_turn_of o (jobs ++ job ∷ [])
  push-lasts waiting newest newest' keys claims turn had begun x o = go (has_job owner jobs) refl ∙ sym (last-pushed jobs job o)
    where
      go : (b : Bool) → has_job owner jobs ≡ b → count_of newest' o ≡ max (last_turn_of o jobs) (cond (nat_eq job.owner o) job.last_turn 0)
      go true is =
          let none : job.last_turn ≡ 0 = turn ∙ rw is refl in
          let kept : count_of newest' o ≡ last_turn_of o jobs = ap (λ m. count_of m o) (had (has_job-known jobs newest owner x.known is)) ∙ x.lasts o in
          rw none (zeros (nat_eq job.owner o) kept)
        where
          zeros : (b : Bool) → count_of newest' o ≡ last_turn_of o jobs → count_of newest' o ≡ max (last_turn_of o jobs) (cond b 0 0)
          zeros true e = omega (arith, e)
          zeros false e = omega (arith, e)
      go false is =
          let all : job.last_turn ≡ claims = turn ∙ rw is refl in
          let changed = begun (λ known. never-both (x.alone owner known) is) in
          elim (eqb_tells owner o) [
            | inl mine ↦
                let none : last_turn_of o jobs ≡ 0 = last-none jobs o (ap (λ k. has_job k jobs) (sym mine.1) ∙ is) in
                changed o ∙ rw (mine.0, eq-eqb job.owner o (same ∙ mine.1), all) (omega (arith, none))
            | inr other ↦
                let off : nat_eq job.owner o ≡ false = ap (λ k. nat_eq k o) same ∙ other.0 in
                changed o ∙ rw (other.0, off) (x.lasts o ∙ omega arith)
          ]

  pub job-pushed : (waiting waiting' : BTreeSet (ℕ × ℕ)) (newest newest' : BTreeMap ℕ ℕ) (keys keys' : List (Option ℕ)) (claims : ℕ) (before now : Option ℕ) → has_waiting job ≡ true → job.last_turn ≡ first_turn owner jobs claims
      → length jobs < length keys → IsKnown newest' owner → ((o : ℕ) → IsKnown newest o → IsKnown newest' o) → ((o : ℕ) → IsKnown newest' o → (o ≡ owner → ⊥) → IsKnown newest o)
      → (IsKnown newest owner → newest' ≡ newest) → ((IsKnown newest owner → ⊥) → ChangesOnly newest newest' owner claims)
      → SetsOnly waiting waiting' owner (length jobs) true → IsFirstPlace waiting owner before → IsFirstPlace waiting' owner now → keys' ≡ with_key (with_key keys before None) now (Some (count_of newest' owner))
      → AreOwners jobs waiting newest keys → AreOwners (jobs ++ job ∷ []) waiting' newest' keys'
  job-pushed waiting waiting' newest newest' keys keys' claims before now waits turn room known more less had begun sets first first' changed x =
      let lasts = push-lasts waiting newest newest' keys claims turn had begun x in
      reseated jobs (jobs ++ job ∷ []) waiting waiting' newest newest' keys keys' owner before now x
      (λ o p. elim (eqb_tells o owner) [
        | inl mine ↦ elim (eqb_tells p (length jobs)) [
          | inl there ↦ sets o p ∙ rw (mine.0, there.0) (sym (ap (waits_by (jobs ++ job ∷ []) o) there.1 ∙ push-here o ∙ rw (eq-eqb job.owner o (same ∙ sym mine.1), waits) refl))
          | inr differ ↦ sets o p ∙ rw (mine.0, differ.0) (x.places o p ∙ sym (push-other o p differ.1))
        ]
        | inr other ↦ sets o p ∙ rw other.0 (x.places o p ∙ sym (push-others o other.1 p))
      ])
      lasts
      (λ p j is. elim (cases_eq p (length jobs)) [
        | inl e ↦
            let which : job ≡ j = same_Some job j (sym (slice_get-push_here jobs job) ∙ ap (slice_get (jobs ++ job ∷ [])) (sym e) ∙ is) in
            subst (IsKnown newest') (sym same ∙ ap (λ (y : JobOf). y.owner) which) known
        | inr differ ↦ more j.owner (x.known p j (sym (slice_get-push_other jobs p job differ) ∙ is))
      ])
      (λ o is. has_job-push jobs job o ∙ elim (cases_eq o owner) [
        | inl mine ↦ or_right (has_job o jobs) _ (eq-eqb job.owner o (same ∙ sym mine))
        | inr other ↦ or_left (has_job o jobs) _ (x.alone o (less o is other))
      ])
      (omega (arith, length-append jobs (job ∷ []), room)) push-others
      (λ o other. last-pushed jobs job o ∙ elim (eqb_tells job.owner o) [ inl e ↦ absurd (other (sym e.1 ∙ same)) | inr differ ↦ rw differ.0 (omega arith) ])
      first first' changed

-- its place is taken out of the set again, and nobody is known anew
pub job-dropped : (jobs : List JobOf) (waiting put left : BTreeSet (ℕ × ℕ)) (newest newest' : BTreeMap ℕ ℕ) (keys : List (Option ℕ)) (owner : ℕ)
    → SetsOnly waiting put owner (length jobs) true → SetsOnly put left owner (length jobs) false
    → ((o : ℕ) → IsKnown newest o → IsKnown newest' o) → ((o : ℕ) → (count_of newest' o ≡ count_of newest o) × (IsKnown newest' o → IsKnown newest o))
    → AreOwners jobs waiting newest keys → AreOwners jobs left newest' keys
job-dropped jobs waiting put left newest newest' keys owner puts takes more same x = record {
  places = λ o p. elim (eqb_tells o owner) [
    | inl mine ↦ elim (eqb_tells p (length jobs)) [
      | inl there ↦ takes o p ∙ rw (mine.0, there.0) (sym (ap (waits_by jobs o) there.1 ∙ ap (waits_in o) (slice_get-end jobs)))
      | inr differ ↦ takes o p ∙ rw (mine.0, differ.0) (puts o p ∙ rw (mine.0, differ.0) (x.places o p))
    ]
    | inr other ↦ takes o p ∙ rw other.0 (puts o p ∙ rw other.0 (x.places o p))
  ];
  lasts = λ o. (same o).0 ∙ x.lasts o;
  known = λ p job is. more job.owner (x.known p job is);
  alone = λ o is. x.alone o ((same o).1 is);
  room = x.room;
  seated = x.seated;
  only = x.only;
}

-- ---- the job that is due

-- the first of what passes, where something does
first-passes : (test : ℕ → Bool) (n k j : ℕ) → k + n ≡ j → test j ≡ true → ((p : ℕ) → p < k → test p ≡ false) → (q : ℕ) × (test q ≡ true) × ((p : ℕ) → p < q → test p ≡ false) × (q ≤ j)
first-passes test zero k j sum here below = (j, here, λ p less. below p (omega arith), omega arith)
first-passes test (suc n) k j sum here below = go (test k) refl (λ fails. first-passes test n (suc k) j (omega arith) here (λ p less. elim (cases_eq p k) [
  | inl e ↦ ap test e ∙ fails
  | inr differ ↦ below p (omega arith)
]))
  where
    go : (b : Bool) → test k ≡ b → (test k ≡ false → (q : ℕ) × (test q ≡ true) × ((p : ℕ) → p < q → test p ≡ false) × (q ≤ j))
        → (q : ℕ) × (test q ≡ true) × ((p : ℕ) → p < q → test p ≡ false) × (q ≤ j)
    go true is later = (k, is, below, omega arith)
    go false is later = later is

-- a job that waits has one of its owner's before it that is first
first-exists : (jobs : List JobOf) (j : ℕ) (y : JobOf) → slice_get jobs j ≡ Some y → has_waiting y ≡ true → (q : ℕ) × IsFirstOf (waits_by jobs) y.owner q × (q ≤ j)
first-exists jobs j y there waits =
    let f = first-passes (waits_by jobs y.owner) j 0 j (omega arith) (waits_by-here jobs j y there waits) (λ p less. absurd (omega arith)) in
    (f.0, (f.1, f.2), f.3)

-- what holds of each job that waits
pub all-waiting : (test : JobOf → Bool) (jobs : List JobOf) → ((j : ℕ) (y : JobOf) → slice_get jobs j ≡ Some y → has_waiting y ≡ true → test y ≡ true) → list_all test (filter has_waiting jobs) ≡ true
all-waiting test [] each = refl
all-waiting test (x ∷ jobs) each = go (has_waiting x) refl (all-waiting test jobs (λ j y e. each (suc j) y e))
  where
    go : (b : Bool) → has_waiting x ≡ b → list_all test (filter has_waiting jobs) ≡ true → list_all test (filter has_waiting (x ∷ jobs)) ≡ true
    go true is rest = rw (is, each 0 x refl is) rest
    go false is rest = rw is rest

pub one-waiting : (test : JobOf → Bool) (jobs : List JobOf) (j : ℕ) (y : JobOf) → list_all test (filter has_waiting jobs) ≡ true → slice_get jobs j ≡ Some y → has_waiting y ≡ true → test y ≡ true
one-waiting test [] j y all there waits = absurd (cc)
one-waiting test (x ∷ jobs) zero y all there waits =
    let same : x ≡ y = same_Some x y there in
    let here : has_waiting x ≡ true = ap has_waiting same ∙ waits in
    let first : (test x && list_all test (filter has_waiting jobs)) ≡ true = subst (λ b. list_all test (cond b (x ∷ filter has_waiting jobs) (filter has_waiting jobs)) ≡ true) here all in
    ap test (sym same) ∙ (and_parts (test x) _ first).0
one-waiting test (x ∷ jobs) (suc j) y all there waits = one-waiting test jobs j y (go (has_waiting x) all) there waits
  where
    go : (b : Bool) → list_all test (cond b (x ∷ filter has_waiting jobs) (filter has_waiting jobs)) ≡ true → list_all test (filter has_waiting jobs) ≡ true
    go true h = (and_parts (test x) _ h).1
    go false h = h

pub le-test : (a b : ℕ) → a ≤ b → nat_le a b ≡ true
le-test a b h = grind (arith, nat_tests)

pub le-tested : (a b : ℕ) → nat_le a b ≡ true → a ≤ b
le-tested a b h = grind (arith, nat_tests)

-- the first key is that of the job that is due
pub due-is : (jobs : List JobOf) (waiting : BTreeSet (ℕ × ℕ)) (newest : BTreeMap ℕ ℕ) (keys : List (Option ℕ)) (first : Option (ℕ × ℕ)) → AreOwners jobs waiting newest keys
    → MatchOption first ((place : ℕ) → key_at keys place ≡ None) (λ e. IsFirstKey keys e.0 e.1)
    → option_map (λ (e : ℕ × ℕ). e.1) first ≡ position (is_due jobs) jobs
due-is jobs waiting newest keys None x none = sym (position_from-zero (is_due jobs) jobs ∙ position_from-none (is_due jobs) 0 jobs (λ j y there. go j y there (has_waiting y) refl))
  where
    go : (j : ℕ) (y : JobOf) → slice_get jobs j ≡ Some y → (b : Bool) → has_waiting y ≡ b → is_due jobs y ≡ false
    go j y there true is =
        let f = first-exists jobs j y there is in
        absurd (let e : None ≡ Some (last_turn_of y.owner jobs) = sym (none f.0) ∙ x.seated y.owner f.0 f.1 in cc)
    go j y there false is = rw is refl
due-is jobs waiting newest keys (Some e) x least =
    let whose = x.only e.1 e.0 least.there in
    let job = waits_by-job jobs whose.0 e.1 whose.1.0 in
    let key : e.0 ≡ last_turn_of job.0.owner jobs = same_Some e.0 _ (sym least.there ∙ x.seated whose.0 e.1 whose.1) ∙ ap (λ o. last_turn_of o jobs) (sym job.2) in
    let later : (j : ℕ) (y : JobOf) → slice_get jobs j ≡ Some y → has_waiting y ≡ true → is_no_later jobs job.0 y ≡ true = λ j y there waits.
    let f = first-exists jobs j y there waits in
    le-test _ _ (omega (arith, key, (least.least f.0 (last_turn_of y.owner jobs) (x.seated y.owner f.0 f.1)).0)) in
    let due : is_due jobs job.0 ≡ true = rw (job.3, all-waiting (is_no_later jobs job.0) jobs later) refl in
    sym (position_from-zero (is_due jobs) jobs ∙ position_from-first (is_due jobs) 0 e.1 jobs job.0 job.1 due (λ j y less there. go job.0 job.1 job.3 key j y less there (has_waiting y) refl) ∙ ap Some (omega arith))
  where
    go : (job : JobOf) → slice_get jobs e.1 ≡ Some job → has_waiting job ≡ true → e.0 ≡ last_turn_of job.owner jobs
        → (j : ℕ) (y : JobOf) → j < e.1 → slice_get jobs j ≡ Some y → (b : Bool) → has_waiting y ≡ b → is_due jobs y ≡ false
    go job here waits key j y less there false is = rw is refl
    go job here waits key j y less there true is =
        let f = first-exists jobs j y there is in
        let le = least.least f.0 (last_turn_of y.owner jobs) (x.seated y.owner f.0 f.1) in
        let all = list_all (is_no_later jobs y) (filter has_waiting jobs) in
        rw is (not_all all refl (λ h.
        let back = le-tested _ _ (one-waiting (is_no_later jobs y) jobs e.1 job h here waits) in
        let equal : e.0 ≡ last_turn_of y.owner jobs = omega (arith, le.0, back, key) in
        omega (arith, le.1 equal, f.2, less)))
      where
        not_all : (b : Bool) → list_all (is_no_later jobs y) (filter has_waiting jobs) ≡ b → (list_all (is_no_later jobs y) (filter has_waiting jobs) ≡ true → ⊥) → list_all (is_no_later jobs y) (filter has_waiting jobs) ≡ false
        not_all true h never = absurd (never h)
        not_all false h never = h
