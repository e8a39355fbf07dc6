-- The pairs of a slot, newest first, over its places.
use Rattle.std.proofs.Common.{◌≡◌, ℕ, suc, ◌<◌, ◌≤◌, refl, sym, ap, ◌∙◌, subst, arith, List, [], ◌∷◌, ◌++◌, append_assoc, length, take, drop, reverse, max, min, Contains, Option, Some, None, inl, inr, get_or}
use Rattle.std.specs.Prelude.{◌↔◌, ◌-◌, remove, MatchOption}
use Rattle.std.specs.Option.{option_copied}
use Rattle.std.proofs.Common.{Bor}
use Rattle.std.proofs.lemmas.List.Edits.{remove-append_right}
use Rattle.std.proofs.lemmas.List.{reverse-append, reverse-reverse, length-reverse, take_all}
use Rattle.std.proofs.Math.Seq.{take-append_seam, drop-length}
use Rattle.std.proofs.lemmas.List.Sorted.{Contains-permutation, IsPermutation-reverse}
use Rattle.std.proofs.lemmas.List.Elements.{Contains-append_cases, Contains-append_left, Contains-append_right}
use Rattle.lru.proofs.Splits.{Contains-head, Contains-tail, Contains-cons, Contains-nil}
use Rattle.dd_play.specs.Intervals.{Holds}
use Rattle.dd_play.specs.declared.interval.Interval.{Interval}
use Rattle.dd_rank.specs.Strings.{ShapeOf}
use Rattle.dd_rank.specs.Cover.{CoverOf, IsSameCover}
use Rattle.dd_shard.specs.Entries.{most_pairs, Pair, cover_of, PutsFirst}
use Rattle.dd_shard.specs.Slots.{pair_of, known_pairs, AllKnown, HaveShape}
use Rattle.dd_shard.specs.declared.slot.Bounded.{Bounded}
use Rattle.dd_shard.proofs.Places.{cut-at, known-append}

-- what stands in a list stands in it the other way round
pub Contains-reverse : {X : Type 0} (xs : List X) (x : X) → Contains xs x → Contains (reverse xs) x
Contains-reverse xs x c = Contains-permutation xs (reverse xs) x (IsPermutation-reverse xs) c

-- .. and back
pub Contains-reversed : {X : Type 0} (xs : List X) (x : X) → Contains (reverse xs) x → Contains xs x
Contains-reversed xs x c = subst (λ l. Contains l x) (reverse-reverse xs) (Contains-reverse (reverse xs) x c)

-- the first element goes to the end
reverse-cons : {X : Type 0} (x : X) (xs : List X) → reverse (x ∷ xs) ≡ reverse xs ++ x ∷ []
reverse-cons x xs = reverse-append (x ∷ []) xs

-- a list that is cut at an element, the other way round
pub reverse-cut : {X : Type 0} (xs : List X) (x : X) (ys : List X) → reverse (xs ++ x ∷ ys) ≡ reverse ys ++ x ∷ reverse xs
reverse-cut xs x ys =
    reverse-append xs (x ∷ ys) ∙ ap (λ l. l ++ reverse xs) (reverse-cons x ys) ∙ append_assoc (reverse ys) (x ∷ []) (reverse xs)

-- the pairs of places that are cut at one with a pair, newest first
pub newest-cut : (front : List (Option Bounded)) (x : Bounded) (back : List (Option Bounded))
    → reverse (known_pairs (front ++ Some x ∷ back)) ≡ reverse (known_pairs back) ++ pair_of x.cover x.bounds ∷ reverse (known_pairs front)
newest-cut front x back =
    ap reverse (known-append front (Some x ∷ back)) ∙ reverse-cut (known_pairs front) (pair_of x.cover x.bounds) (known_pairs back)

-- a pair at the end is the newest
pub newest-pushed : (places : List (Option Bounded)) (x : Bounded) → reverse (known_pairs (places ++ Some x ∷ [])) ≡ pair_of x.cover x.bounds ∷ reverse (known_pairs places)
newest-pushed places x = newest-cut places x []

-- no blank place: as many pairs as places
known-length : (places : List (Option Bounded)) → AllKnown places → length (known_pairs places) ≡ length places
known-length [] all = refl
known-length (None ∷ places) all = absurd (all None (Contains-head None places) refl)
known-length (Some x ∷ places) all = ap suc (known-length places (λ y c. all y (Contains-tail (Some x) places y c)))

-- at most as many pairs as places
known-most : (places : List (Option Bounded)) → length (known_pairs places) ≤ length places
known-most [] = omega arith
known-most (None ∷ places) = let on = known-most places in omega arith
known-most (Some x ∷ places) = let on = known-most places in omega arith

-- among the places of two parts none is blank
pub all-both : (front back : List (Option Bounded)) → AllKnown front → AllKnown back → AllKnown (front ++ back)
all-both front back f b place c = elim (Contains-append_cases front back place c) [
  | inl d ↦ f place d
  | inr d ↦ b place d
]

-- a place with a pair is not blank
pub all-one : (x : Bounded) → AllKnown (Some x ∷ [])
all-one x place c blank = elim (Contains-cons (Some x) [] place c) [
  | inl same ↦ cc
  | inr none ↦ Contains-nil place none
]

-- the rest of such places, without one of them
pub all-without : (front : List (Option Bounded)) (x : Option Bounded) (back : List (Option Bounded)) → AllKnown (front ++ x ∷ back) → AllKnown (front ++ back)
all-without front x back all place c = elim (Contains-append_cases front back place c) [
  | inl d ↦ all place (Contains-append_left front (x ∷ back) place d)
  | inr d ↦ all place (Contains-append_right front (x ∷ back) place (Contains-tail x back place d))
]

-- what holds of each of the pairs holds of them in the other order
pub all-reversed : (Q : Pair → Type 0) (pairs : List Pair) → ((x : Pair) → Contains pairs x → Q x) → (x : Pair) → Contains (reverse pairs) x → Q x
all-reversed Q pairs all x c = all x (Contains-reversed pairs x c)

-- the pairs at the places have the shape of those that are seen
pub shown-shape : (shape : ShapeOf) (places : List (Option Bounded)) (pairs : List Pair) → reverse (known_pairs places) ≡ pairs → HaveShape shape pairs → HaveShape shape (known_pairs places)
shown-shape shape places pairs is all x c = all x (subst (λ l. Contains l x) is (Contains-reverse (known_pairs places) x c))

-- the pair with the same cover is taken out
pub taken-out : (cover : CoverOf) (bounds both : Interval) (old rest front : List (Option Bounded)) (x : Bounded) (back : List (Option Bounded))
    → old ≡ front ++ Some x ∷ back → rest ≡ front ++ back → ((y : Pair) → Contains (known_pairs back) y → ¬ IsSameCover (cover_of y) cover) → IsSameCover x.cover cover
    → both.lo ≡ max bounds.lo x.bounds.lo → both.hi ≡ min bounds.hi x.bounds.hi
    → PutsFirst (pair_of cover bounds) (reverse (known_pairs old)) (pair_of cover both ∷ reverse (known_pairs rest))
taken-out cover bounds both old rest front x back cut left none same lo hi =
    inl (
      reverse (known_pairs back),
      pair_of x.cover x.bounds,
      reverse (known_pairs front),
      ap (λ l. reverse (known_pairs l)) cut ∙ newest-cut front x back,
      all-reversed (λ y. ¬ IsSameCover (cover_of y) cover) (known_pairs back) none,
      same,
      rw (left, known-append front back, reverse-append (known_pairs front) (known_pairs back), lo, hi) refl,
    )

-- where there is room none goes
pub with-room : (cover : CoverOf) (bounds : Interval) (old : List (Option Bounded)) → length old < most_pairs → ((y : Pair) → Contains (known_pairs old) y → ¬ IsSameCover (cover_of y) cover)
    → PutsFirst (pair_of cover bounds) (reverse (known_pairs old)) (pair_of cover bounds ∷ reverse (known_pairs old))
with-room cover bounds old room none =
    let most = known-most old in
    let same : length (reverse (known_pairs old)) ≡ length (known_pairs old) = length-reverse (known_pairs old) in
    let fits : length (pair_of cover bounds ∷ reverse (known_pairs old)) ≤ most_pairs = omega arith in
    inr (all-reversed (λ y. ¬ IsSameCover (cover_of y) cover) (known_pairs old) none, sym (take_all most_pairs (pair_of cover bounds ∷ reverse (known_pairs old)) fits))

-- of eight and one more the last is dropped
take-full : {X : Type 0} (n : ℕ) (xs : List X) (x : X) → length xs ≡ n → take n (xs ++ x ∷ []) ≡ xs
take-full n xs x e = subst (λ m. take m (xs ++ x ∷ []) ≡ xs) e (take-append_seam xs (x ∷ []))

-- where there is none the oldest goes
pub without-room : (cover : CoverOf) (bounds : Interval) (place : Option Bounded) (rest : List (Option Bounded)) → AllKnown (place ∷ rest) → length (place ∷ rest) ≡ most_pairs
    → ((y : Pair) → Contains (known_pairs (place ∷ rest)) y → ¬ IsSameCover (cover_of y) cover)
    → PutsFirst (pair_of cover bounds) (reverse (known_pairs (place ∷ rest))) (pair_of cover bounds ∷ reverse (known_pairs rest))
without-room cover bounds None rest all full none = absurd (all None (Contains-head None rest) refl)
without-room cover bounds (Some x) rest all full none =
    let count : length (known_pairs rest) ≡ length rest = known-length rest (λ y c. all y (Contains-tail (Some x) rest y c)) in
    let same : length (reverse (known_pairs rest)) ≡ length (known_pairs rest) = length-reverse (known_pairs rest) in
    let size : length (pair_of cover bounds ∷ reverse (known_pairs rest)) ≡ most_pairs = omega arith in
    inr (
      all-reversed (λ y. ¬ IsSameCover (cover_of y) cover) (known_pairs (Some x ∷ rest)) none,
      rw (reverse-cons (pair_of x.cover x.bounds) (known_pairs rest)) (sym (take-full most_pairs (pair_of cover bounds ∷ reverse (known_pairs rest)) (pair_of x.cover x.bounds) size)),
    )

-- the numbers that two intervals hold lie between the greater lower and the lesser upper bound, where they share one
pub meet-narrows : (a b both : Interval) (n : ℕ) → Holds a n → Holds b n → ((m : ℕ) → Holds both m ↔ (Holds a m × Holds b m))
    → (both.lo ≡ max b.lo a.lo) × (both.hi ≡ min b.hi a.hi)
meet-narrows a b both n x y f =
    let z : Holds both n = (f n).1 (x, y) in
    let low = (f both.lo).0 (omega arith, omega arith) in
    let high = (f both.hi).0 (omega arith, omega arith) in
    let l : Holds both (max b.lo a.lo) = (f (max b.lo a.lo)).1 ((omega arith, omega arith), (omega arith, omega arith)) in
    let h : Holds both (min b.hi a.hi) = (f (min b.hi a.hi)).1 ((omega arith, omega arith), (omega arith, omega arith)) in
    (omega arith, omega arith)

-- what stands behind so many elements
pub at-cut : {X : Type 0} (front : List X) (x d : X) (back : List X) → get_or (front ++ x ∷ back) (length front) d ≡ x
at-cut [] x d back = refl
at-cut (y ∷ front) x d back = at-cut front x d back

-- .. is what goes when that place is removed
pub remove-cut : {X : Type 0} (front : List X) (x : X) (back : List X) → remove (front ++ x ∷ back) (length front) ≡ front ++ back
remove-cut front x back =
    let none : length front - length front ≡ 0 = omega arith in
    remove-append_right front (x ∷ back) (length front) (length front) refl (omega arith) ∙ rw none refl

-- what is found at the place of a cut is what the list is cut at
pub found-there : {X : Type 0} (list front : List X) (x y : X) (back : List X) (place : ℕ) → list ≡ front ++ x ∷ back → length front ≡ place → y ≡ get_or list place y → y ≡ x
found-there list front x y back place cut long there =
    there ∙ ap (λ l. get_or l place y) cut ∙ ap (λ n. get_or (front ++ x ∷ back) n y) (sym long) ∙ at-cut front x y back

-- a pair at a cut is one of the pairs that are seen
pub seen-pair : (places : List (Option Bounded)) (pairs : List Pair) (front : List (Option Bounded)) (x : Bounded) (back : List (Option Bounded))
    → places ≡ front ++ Some x ∷ back → reverse (known_pairs places) ≡ pairs → Contains pairs (pair_of x.cover x.bounds)
seen-pair places pairs front x back cut seen =
    subst (λ l. Contains l (pair_of x.cover x.bounds)) (sym (newest-cut front x back) ∙ ap (λ l. reverse (known_pairs l)) (sym cut) ∙ seen)
    (Contains-append_right (reverse (known_pairs back)) (pair_of x.cover x.bounds ∷ reverse (known_pairs front)) (pair_of x.cover x.bounds) (Contains-head _ _))

-- what is at the end once the pair is put there with these bounds: the rest has no blank place, and the pair goes first
pub record IsRoom (cover : CoverOf) (bounds put : Interval) (old rest : List (Option Bounded)) : Type 0 where
  pub all : AllKnown rest
  pub puts : PutsFirst (pair_of cover bounds) (reverse (known_pairs old)) (pair_of cover put ∷ reverse (known_pairs rest))

-- .. where the pair with the same cover was removed
pub room-taken : (cover : CoverOf) (bounds both : Interval) (value place : ℕ) (old rest front : List (Option Bounded)) (x y : Bounded) (back : List (Option Bounded))
    → AllKnown old → old ≡ front ++ Some x ∷ back → length front ≡ place → ((z : Pair) → Contains (known_pairs back) z → ¬ IsSameCover (cover_of z) cover) → IsSameCover x.cover cover
    → Some y ≡ get_or old place (Some y) → rest ≡ remove old place
    → (x.bounds.lo ≤ value) × (value ≤ x.bounds.hi) → Holds bounds value → ((m : ℕ) → Holds both m ↔ (Holds y.bounds m × Holds bounds m))
    → IsRoom cover bounds both old rest
room-taken cover bounds both value place old rest front x y back all cut long none same there left theirs ours meets =
    let is : Some y ≡ Some x = found-there old front (Some x) (Some y) back place cut long there in
    let one : y ≡ x = cc in
    let gone : rest ≡ front ++ back = left ∙ ap (λ l. remove l place) cut ∙ ap (remove (front ++ Some x ∷ back)) (sym long) ∙ remove-cut front (Some x) back in
    let ends = meet-narrows x.bounds bounds both value theirs ours (subst (λ (z : Bounded). (m : ℕ) → Holds both m ↔ (Holds z.bounds m × Holds bounds m)) one meets) in
    record {
      all = subst AllKnown (sym gone) (all-without front (Some x) back (subst AllKnown cut all));
      puts = taken-out cover bounds both old rest front x back cut gone none same ends.0 ends.1;
    }

-- .. where the oldest was removed
pub room-full : (cover : CoverOf) (bounds : Interval) (old rest : List (Option Bounded)) → AllKnown old → length old ≡ most_pairs → rest ≡ remove old 0
    → ((y : Pair) → Contains (known_pairs old) y → ¬ IsSameCover (cover_of y) cover) → IsRoom cover bounds bounds old rest
room-full cover bounds [] rest all full left none = absurd (omega arith)
room-full cover bounds (place ∷ places) rest all full left none =
    let gone : rest ≡ places = left in
    record {
      all = subst AllKnown (sym gone) (λ y c. all y (Contains-tail place places y c));
      puts = rw gone (without-room cover bounds place places all full none);
    }

-- .. where there was room
pub room-left : (cover : CoverOf) (bounds : Interval) (old rest : List (Option Bounded)) → AllKnown old → length old < most_pairs → rest ≡ old
    → ((y : Pair) → Contains (known_pairs old) y → ¬ IsSameCover (cover_of y) cover) → IsRoom cover bounds bounds old rest
room-left cover bounds old rest all room same none = record {
  all = subst AllKnown (sym same) all;
  puts = rw same (with-room cover bounds old room none);
}

-- the last place has the newest pair
pub newest-seen : (r : Option (Bor Bounded)) (places : List (Option Bounded)) (last : Option Bounded) → AllKnown places → 0 < length places → last ≡ get_or places (length places - 1) last
    → option_copied r ≡ last → MatchOption r (reverse (known_pairs places) ≡ []) (λ x. (rest : List Pair) × (reverse (known_pairs places) ≡ pair_of x.now.cover x.now.bounds ∷ rest))
newest-seen None places last all some there is =
    let cut = cut-at places (length places) last some (omega arith) there in
    absurd (all last (subst (λ l. Contains l last) (sym cut) (Contains-append_right (take (length places - 1) places) (last ∷ drop (length places) places) last (Contains-head last _))) (sym is))
newest-seen (Some x) places last all some there is =
    let cut : places ≡ take (length places - 1) places ++ last ∷ [] =
    cut-at places (length places) last some (omega arith) there ∙ ap (λ l. take (length places - 1) places ++ last ∷ l) (drop-length places) in
    (reverse (known_pairs (take (length places - 1) places)), ap (λ l. reverse (known_pairs l)) (cut ∙ ap (λ y. take (length places - 1) places ++ y ∷ []) (sym is)) ∙ newest-pushed (take (length places - 1) places) x.now)
