-- the classes of one suit's ranks, found from the highest rank down
use Rattle.std.proofs.Common.{◌≡◌, ℕ, suc, ◌+◌, ◌<◌, ◌≤◌, Bool, true, false, cond, refl, sym, ap, ◌∙◌, arith, List, [], ◌∷◌, length, Option, None, Some, inl, inr, ◌⊎◌, eq-eqb, nat_lt}
use Rattle.std.proofs.lemmas.List.{append_assoc}
use Rattle.dd_cards.specs.declared.suit.Suit.{Suit}
use Rattle.dd_cards.specs.Masks.{mask_of}
use Rattle.dd_cards.specs.Cards.{card_of}
use Rattle.dd_equal.specs.EqualCards.{EqualCards}
use Rattle.std.specs.Prelude.{MatchOption, ◌++◌, filter, map, find, slice_get, ◌==◌, ◌&&◌, ◌||◌}
use Rattle.std.specs.List.{list_any, list_all}
use mathlib.Core.Bool.{not}
use Rattle.std.proofs.lemmas.Bool.{cases_lt, eqb-true, lt-ltb, le-ltb, or_right}
use Rattle.std.proofs.lemmas.Bool.Decides.{eqb_tells}
use Rattle.std.proofs.lemmas.Map.Views.{any-filter_same}
use Rattle.dd_cards.specs.Ranks.{all_ranks, lowest_ranks, has_rank}
use Rattle.dd_cards.proofs.CallerLemmas.{and-false, and-left, and-right, filter-filter, length-filter-le, has-filter, filter-members}
use Rattle.dd_equal.specs.SuitClasses.{is_separated, is_top_rank, equal_ranks, class_of_rank, descends, AreApart}
use Rattle.std.proofs.lemmas.List.Elements.{filter_agree}

-- a filter keeps what holds of all
all-filter : (t p : ℕ → Bool) (xs : List ℕ) → list_all t xs ≡ true → list_all t (filter p xs) ≡ true
all-filter t p [] all = refl
all-filter t p (x ∷ xs) all =
    let rest : list_all t (filter p xs) ≡ true = all-filter t p xs (and-right (t x) _ all) in
    elim (p x) as (λ b. list_all t (cond b (x ∷ filter p xs) (filter p xs)) ≡ true) [
      | true ↦ rw (and-left (t x) (list_all t xs) all) rest
      | false ↦ rest
    ]

-- a part of a falling list falls
pub descends-filter : (p : ℕ → Bool) (xs : List ℕ) → descends xs ≡ true → descends (filter p xs) ≡ true
descends-filter p [] h = refl
descends-filter p (x ∷ xs) h =
    let lower : list_all (λ q. nat_lt q x) (filter p xs) ≡ true = all-filter (λ q. nat_lt q x) p xs (and-left (list_all (λ q. nat_lt q x) xs) _ h) in
    let rest : descends (filter p xs) ≡ true = descends-filter p xs (and-right (list_all (λ q. nat_lt q x) xs) _ h) in
    elim (p x) as (λ b. descends (cond b (x ∷ filter p xs) (filter p xs)) ≡ true) [
      | true ↦ rw lower rest
      | false ↦ rest
    ]

-- the thirteen ranks fall
pub descends-all : descends all_ranks ≡ true
unfolding all_ranks lowest_ranks
descends-all = refl

-- a member passes what all pass
all-member : (t : ℕ → Bool) (xs : List ℕ) (q : ℕ) → list_all t xs ≡ true → has_rank xs q ≡ true → t q ≡ true
all-member t [] q all has = absurd (cc)
all-member t (x ∷ xs) q all has = elim (eqb_tells x q) [
  | inl same ↦ ap t (sym same.1) ∙ and-left (t x) (list_all t xs) all
  | inr other ↦ all-member t xs q (and-right (t x) _ all) (rw other.0 at has)
]

-- a member that passes is found
pub any-member : (f : ℕ → Bool) (xs : List ℕ) (q : ℕ) → has_rank xs q ≡ true → f q ≡ true → list_any f xs ≡ true
any-member f [] q has h = absurd (cc)
any-member f (x ∷ xs) q has h = elim (eqb_tells x q) [
  | inl same ↦ rw (ap f same.1 ∙ h) refl
  | inr other ↦ or_right (f x) _ (any-member f xs q (rw other.0 at has) h)
]

-- the first element is a member, and so are those after it
has-first : (x : ℕ) (xs : List ℕ) → has_rank (x ∷ xs) x ≡ true
has-first x xs = rw (eq-eqb x x refl) refl

has-later : (x : ℕ) (xs : List ℕ) (q : ℕ) → has_rank xs q ≡ true → has_rank (x ∷ xs) q ≡ true
has-later x xs q h = or_right (x == q) _ h

-- where no member passes, none is found
pub any-none : (f : ℕ → Bool) (xs : List ℕ) → ((q : ℕ) → has_rank xs q ≡ true → f q ≡ false) → list_any f xs ≡ false
any-none f [] none = refl
any-none f (x ∷ xs) none = rw (none x (has-first x xs)) (any-none f xs (λ q h. none q (has-later x xs q h)))

-- ---- what separates two ranks
-- a rank between two separates them
apart-at : (others : List ℕ) (low x high : ℕ) → has_rank others x ≡ true → low < x → x < high → (is_separated others low high ≡ true) × (is_separated others high low ≡ true)
apart-at others low x high has h k = (
  any-member (λ x. (nat_lt low x && nat_lt x high) || (nat_lt high x && nat_lt x low)) others x has (rw (lt-ltb low x h, lt-ltb x high k) refl),
  any-member (λ x. (nat_lt high x && nat_lt x low) || (nat_lt low x && nat_lt x high)) others x has (rw (lt-ltb low x h, lt-ltb x high k, le-ltb high x (omega arith)) refl),
)

-- and no other does
together : (others : List ℕ) (low high : ℕ) → low ≤ high → ((x : ℕ) → has_rank others x ≡ true → low < x → x < high → ⊥) → (is_separated others low high ≡ false) × (is_separated others high low ≡ false)
together others low high le none = (
  any-none _ others (λ x has. elim (cases_lt low x) [
    | inl above ↦ elim (cases_lt x high) [ inl below ↦ absurd (none x has above below) | inr over ↦ rw (lt-ltb low x above, le-ltb x high over, le-ltb x low (omega arith)) (sym (and-false (nat_lt high x))) ]
    | inr under ↦ rw (le-ltb low x under, le-ltb high x (omega arith)) refl
  ]),
  any-none _ others (λ x has. elim (cases_lt low x) [
    | inl above ↦ elim (cases_lt x high) [ inl below ↦ absurd (none x has above below) | inr over ↦ rw (lt-ltb low x above, le-ltb x high over, le-ltb x low (omega arith)) (go (nat_lt high x)) ]
    | inr under ↦ rw (le-ltb low x under, le-ltb high x (omega arith)) refl
  ]),
)
  where
    go : (b : Bool) → ((b && false) || (true && false)) ≡ false
    go true = refl
    go false = refl

-- ---- the highest other rank below a rank, 0 where there is none
pub record IsFloor (others : List ℕ) (top n : ℕ) : Type 0 where
  pub below : n < top
  pub highest : (x : ℕ) → has_rank others x ≡ true → x < top → x ≤ n
  pub there : (n ≡ 0) ⊎ (has_rank others n ≡ true)

-- what is found is the highest
found-highest : (top f : ℕ) (xs : List ℕ) → descends xs ≡ true → find (λ q. nat_lt q top) xs ≡ Some f
    → (f < top) × (has_rank xs f ≡ true) × ((x : ℕ) → has_rank xs x ≡ true → x < top → x ≤ f)
found-highest top f [] falls e = absurd (cc)
found-highest top f (r ∷ xs) falls e = elim (cases_lt r top) [
  | inl low ↦ (
      let is : Some r ≡ Some f = rw (lt-ltb r top low) at e in
      let same : r ≡ f = ap (λ (o : Option ℕ). elim o [ None ↦ r | Some y ↦ y ]) is in (
        omega (arith, same, low),
        rw (eq-eqb r f same) refl,
        λ x has h. elim (eqb_tells r x) [
          | inl here ↦ omega (arith, here.1, same)
          | inr other ↦ (let less : nat_lt x r ≡ true = all-member (λ q. nat_lt q r) xs x (and-left _ (descends xs) falls) (rw other.0 at has) in
              elim (cases_lt x r) [ inl k ↦ omega (arith, same, k) | inr k ↦ absurd (let no : false ≡ true = sym (le-ltb x r k) ∙ less in cc) ])
        ],
      ))
  | inr high ↦ (
      let rest = found-highest top f xs (and-right (list_all (λ q. nat_lt q r) xs) _ falls) (rw (le-ltb r top high) at e) in (
        rest.0,
        has-later r xs f rest.1,
        λ x has h. elim (eqb_tells r x) [
          | inl here ↦ absurd (omega (arith, here.1, high, h))
          | inr other ↦ rest.2 x (rw other.0 at has) h
        ],
      ))
]

pub floor-some : (others : List ℕ) (top f : ℕ) → descends others ≡ true → find (λ q. nat_lt q top) others ≡ Some f → IsFloor others top f
floor-some others top f falls e =
    let t = found-highest top f others falls e in
    record { below = t.0; highest = t.2; there = inr t.1 }

-- where none is found, none is below
found-none : (top : ℕ) (xs : List ℕ) → find (λ q. nat_lt q top) xs ≡ None → (x : ℕ) → has_rank xs x ≡ true → x < top → ⊥
found-none top [] e x has h = absurd (cc)
found-none top (r ∷ xs) e x has h = elim (cases_lt r top) [
  | inl low ↦ (let no : Some r ≡ None = rw (lt-ltb r top low) at e in absurd (cc))
  | inr high ↦ elim (eqb_tells r x) [
    | inl here ↦ omega (arith, here.1, high, h)
    | inr other ↦ found-none top xs (rw (le-ltb r top high) at e) x (rw other.0 at has) h
  ]
]

pub floor-none : (others : List ℕ) (top : ℕ) → 0 < top → find (λ q. nat_lt q top) others ≡ None → IsFloor others top 0
floor-none others top pos e = record { below = pos; highest = λ x has h. absurd (found-none top others e x has h); there = inl refl }

-- ---- the walk
-- The ranks that are left: those of own below a bound that separates them from the others.
pub record IsRest (own others rest : List ℕ) : Type 0 where
  pub bound : ℕ
  pub part : rest ≡ filter (λ q. nat_lt q bound) own
  pub apart : (q r : ℕ) → has_rank own q ≡ true → bound ≤ q → r < bound → is_separated others r q ≡ true

-- at the start all are left
pub rest-all : (own others : List ℕ) → AreApart own others → IsRest own others own
rest-all own others apart =
    record {
      bound = 15;
      part = sym (filter-members (λ q. nat_lt q 15) (λ _. true) own (λ q h. lt-ltb q 15 ((apart.small q h).1)) ∙ keep own);
      apart = λ q r has le lt. absurd (let s = apart.small q has in omega (arith, s.1, le));
    }
  where
    keep : (xs : List ℕ) → filter (λ _. true) xs ≡ xs
    keep [] = refl
    keep (x ∷ xs) = ap (λ ys. x ∷ ys) (keep xs)

-- a member of a part below a bound
below-member : (own : List ℕ) (b q : ℕ) → has_rank (filter (λ x. nat_lt x b) own) q ≡ true → (has_rank own q ≡ true) × (q < b)
below-member own b q has =
    let both : (nat_lt q b && has_rank own q) ≡ true = sym (has-filter (λ x. nat_lt x b) own q) ∙ has in
    (and-right (nat_lt q b) _ both, elim (cases_lt q b) [ inl low ↦ low | inr high ↦ absurd (let no : false ≡ true = sym (le-ltb q b high) ∙ and-left (nat_lt q b) (has_rank own q) both in cc) ])

-- a floor separates what is above it from what is below it
floor-apart : (own others : List ℕ) (top n q r : ℕ) → AreApart own others → IsFloor others top n → has_rank own q ≡ true → n ≤ q → r < n → is_separated others r q ≡ true
floor-apart own others top n q r apart floor has le lt = elim floor.there [
  | inl none ↦ absurd (omega (arith, none, lt))
  | inr there ↦ elim (cases_lt n q) [
    | inl above ↦ (apart-at others r n q there lt above).0
    | inr under ↦ (let same : q ≡ n = omega arith in absurd (apart.differ q has (ap (has_rank others) same ∙ there)))
  ]
]

-- what lies above the floor is equal to the top
floor-together : (others : List ℕ) (top n q : ℕ) → IsFloor others top n → n ≤ q → q < top → (is_separated others q top ≡ false) × (is_separated others top q ≡ false)
floor-together others top n q floor le lt = together others q top (omega arith) (λ x has h k. let m = floor.highest x has k in omega (arith, m, le, h))

-- the first of what is left is the highest of its class
top-first : (own others rest tail : List ℕ) (top : ℕ) → AreApart own others → IsRest own others rest → rest ≡ top ∷ tail → is_top_rank own others top ≡ true
top-first own others rest tail top apart left e =
    ap not (any-none (λ q. not (is_separated others top q) && nat_lt top q) own (λ q has. elim (cases_lt top q) [
      | inl above ↦ rw (left.apart q top has (elim (cases_lt q left.bound) [
        | inl low ↦ absurd (
            let in_rest : has_rank (top ∷ tail) q ≡ true = ap (λ xs. has_rank xs q) (sym e ∙ left.part) ∙ has-filter (λ x. nat_lt x left.bound) own q ∙ rw (lt-ltb q left.bound low, has) refl in
            let falls : descends (top ∷ tail) ≡ true = ap descends (sym e ∙ left.part) ∙ descends-filter (λ x. nat_lt x left.bound) own apart.own_falls in
            elim (eqb_tells top q) [
              | inl same ↦ omega (arith, same.1, above)
              | inr other ↦ (let less : nat_lt q top ≡ true = all-member (λ x. nat_lt x top) tail q (and-left _ (descends tail) falls) (rw other.0 at in_rest) in
                  let no : false ≡ true = sym (le-ltb q top (omega arith)) ∙ less in absurd (cc))
            ])
        | inr high ↦ high
      ]) bound) refl
      | inr under ↦ rw (le-ltb top q under) (sym (and-false (not (is_separated others top q))))
    ]))
  where
    bound : top < left.bound
    bound = (below-member own left.bound top (ap (λ xs. has_rank xs top) (sym left.part ∙ e) ∙ has-first top tail)).1

-- what follows the first is what is below it
tail-below : (own others rest tail : List ℕ) (top : ℕ) → AreApart own others → IsRest own others rest → rest ≡ top ∷ tail → (filter (λ q. nat_lt q top) rest ≡ tail) × ((q : ℕ) → has_rank tail q ≡ true → q < top)
tail-below own others rest tail top apart left e =
    (ap (filter (λ q. nat_lt q top)) e ∙ rw (le-ltb top top (omega arith)) (filter-members (λ q. nat_lt q top) (λ _. true) tail (λ q h. each q h) ∙ keep tail), λ q h. less q h)
  where
    falls : descends (top ∷ tail) ≡ true
    falls = ap descends (sym e ∙ left.part) ∙ descends-filter (λ x. nat_lt x left.bound) own apart.own_falls

    each : (q : ℕ) → has_rank tail q ≡ true → nat_lt q top ≡ true
    each q h = all-member (λ x. nat_lt x top) tail q (and-left _ (descends tail) falls) h

    less : (q : ℕ) → has_rank tail q ≡ true → q < top
    less q h = elim (cases_lt q top) [ inl low ↦ low | inr high ↦ absurd (let no : false ≡ true = sym (le-ltb q top high) ∙ each q h in cc) ]

    keep : (xs : List ℕ) → filter (λ _. true) xs ≡ xs
    keep [] = refl
    keep (x ∷ xs) = ap (λ ys. x ∷ ys) (keep xs)

-- One class is taken: the first of what is left is its highest, its other ranks are those above the floor, and what is left then lies below it.
pub record IsStep (own others rest equals next : List ℕ) (top : ℕ) : Type 0 where
  pub tops : filter (is_top_rank own others) rest ≡ top ∷ filter (is_top_rank own others) next
  pub equal : equals ≡ equal_ranks own others top
  pub left : IsRest own others next
  pub shorter : length next + 1 ≤ length rest

pub step : (own others rest tail equals next : List ℕ) (top n : ℕ) → AreApart own others → IsRest own others rest → rest ≡ top ∷ tail → IsFloor others top n
    → equals ≡ filter (λ q. nat_lt n q) (filter (λ q. nat_lt q top) rest) → next ≡ filter (λ q. nat_lt q n) (filter (λ q. nat_lt q top) rest) → IsStep own others rest equals next top
step own others rest tail equals next top n apart left e floor is_equals is_next =
    record {
      tops = ap (filter tops?) e ∙ rw (top-first own others rest tail top apart left e) (ap (λ xs. top ∷ xs) (sym (ap (filter tops?) next-tail ∙ filter-filter tops? (λ q. nat_lt q n) tail ∙ filter-members (λ q. nat_lt q n && tops? q) tops? tail after)));
      equal = is_equals ∙ ap (λ xs. filter (λ q. nat_lt n q) (filter (λ q. nat_lt q top) xs)) left.part
          ∙ filter-filter (λ q. nat_lt n q) (λ q. nat_lt q top) (filter (λ q. nat_lt q left.bound) own)
          ∙ filter-filter (λ q. nat_lt q top && nat_lt n q) (λ q. nat_lt q left.bound) own
          ∙ filter-members (λ q. nat_lt q left.bound && (nat_lt q top && nat_lt n q)) (λ q. not (is_separated others top q) && nat_lt q top) own same;
      left = record {
        bound = n;
        part = is_next ∙ ap (λ xs. filter (λ q. nat_lt q n) (filter (λ q. nat_lt q top) xs)) left.part
            ∙ filter-filter (λ q. nat_lt q n) (λ q. nat_lt q top) (filter (λ q. nat_lt q left.bound) own)
            ∙ filter-filter (λ q. nat_lt q top && nat_lt q n) (λ q. nat_lt q left.bound) own
            ∙ filter_agree (λ q. nat_lt q left.bound && (nat_lt q top && nat_lt q n)) (λ q. nat_lt q n) under own;
        apart = λ q r has le lt. floor-apart own others top n q r apart floor has le lt;
      };
      shorter = (let le = length-filter-le (λ q. nat_lt q n) tail in let a : length next ≡ length (filter (λ q. nat_lt q n) tail) = ap length next-tail in let b : length rest ≡ suc (length tail) = ap length e in omega (arith, le, a, b));
    }
  where
    tops? : ℕ → Bool
    tops? = is_top_rank own others

    tail-is : (filter (λ q. nat_lt q top) rest ≡ tail) × ((q : ℕ) → has_rank tail q ≡ true → q < top)
    tail-is = tail-below own others rest tail top apart left e

    next-tail : next ≡ filter (λ q. nat_lt q n) tail
    next-tail = is_next ∙ ap (filter (λ q. nat_lt q n)) tail-is.0

    top-own : (has_rank own top ≡ true) × (top < left.bound)
    top-own = below-member own left.bound top (ap (λ xs. has_rank xs top) (sym left.part ∙ e) ∙ has-first top tail)

    after : (q : ℕ) → has_rank tail q ≡ true → (nat_lt q n && is_top_rank own others q) ≡ is_top_rank own others q
    after q has = elim (cases_lt q n) [
      | inl low ↦ rw (lt-ltb q n low) refl
      | inr high ↦ rw (le-ltb q n high) (sym (ap not (any-member (λ r. not (is_separated others q r) && nat_lt q r) own top top-own.0 (rw ((floor-together others top n q floor high (tail-is.1 q has)).0, lt-ltb q top (tail-is.1 q has)) refl))))
    ]

    same : (q : ℕ) → has_rank own q ≡ true → (nat_lt q left.bound && (nat_lt q top && nat_lt n q)) ≡ (not (is_separated others top q) && nat_lt q top)
    same q has = elim (cases_lt q top) [
      | inr high ↦ rw (le-ltb q top high) (sym (none (nat_lt q left.bound)) ∙ none (not (is_separated others top q)))
      | inl low ↦ elim (cases_lt n q) [
        | inl above ↦ rw (lt-ltb q top low, lt-ltb n q above, lt-ltb q left.bound (let b = top-own.1 in omega (arith, b, low)), (floor-together others top n q floor (omega arith) low).1) refl
        | inr under ↦ rw (lt-ltb q top low, le-ltb n q under, lt-ltb q left.bound (let b = top-own.1 in omega (arith, b, low)), apart-top q has under low) refl
      ]
    ]
      where
        none : (b : Bool) → false ≡ (b && false)
        none true = refl
        none false = refl

        apart-top : (q : ℕ) → has_rank own q ≡ true → q ≤ n → q < top → is_separated others top q ≡ true
        apart-top q has under low = elim floor.there [
          | inl zero_is ↦ absurd (let s = (apart.small q has).0 in omega (arith, zero_is, under, s))
          | inr there ↦ elim (cases_lt q n) [
            | inl less ↦ (apart-at others q n top there less floor.below).1
            | inr more ↦ absurd (let is : q ≡ n = omega arith in apart.differ q has (ap (has_rank others) is ∙ there))
          ]
        ]

    under : (q : ℕ) → (nat_lt q left.bound && (nat_lt q top && nat_lt q n)) ≡ nat_lt q n
    under q = elim (cases_lt q n) [
      | inl low ↦ (let b = top-own.1 in let f = floor.below in rw (lt-ltb q n low, lt-ltb q top (omega (arith, f, low)), lt-ltb q left.bound (omega (arith, f, b, low))) refl)
      | inr high ↦ rw (le-ltb q n high) (drop (nat_lt q left.bound) (nat_lt q top))
    ]
      where
        drop : (a b : Bool) → (a && (b && false)) ≡ false
        drop true true = refl
        drop true false = refl
        drop false b = refl

-- what the walk takes at one highest rank
pub taken : (own others rest lower equals next : List ℕ) (top : ℕ) (floor : Option ℕ) → AreApart own others → IsRest own others rest → slice_get rest 0 ≡ Some top
    → lower ≡ filter (λ q. nat_lt q top) rest → floor ≡ find (λ q. nat_lt q top) others
    → MatchOption floor ((equals ≡ lower) × (next ≡ [])) (λ f. (equals ≡ filter (λ q. nat_lt f q) lower) × (next ≡ filter (λ q. nat_lt q f) lower)) → IsStep own others rest equals next top
taken own others [] lower equals next top floor apart left e is_lower is_floor parts = absurd (cc)
taken own others (r ∷ tail) lower equals next top (Some f) apart left e is_lower is_floor parts =
    let same : r ≡ top = ap (λ (o : Option ℕ). elim o [ None ↦ r | Some y ↦ y ]) e in
    step own others (r ∷ tail) tail equals next top f apart left (ap (λ x. x ∷ tail) same) (floor-some others top f apart.others_fall (sym is_floor))
    (parts.0 ∙ ap (filter (λ q. nat_lt f q)) is_lower) (parts.1 ∙ ap (filter (λ q. nat_lt q f)) is_lower)
taken own others (r ∷ tail) lower equals next top None apart left e is_lower is_floor parts =
    step own others (r ∷ tail) tail equals next top 0 apart left (ap (λ x. x ∷ tail) same) (floor-none others top (apart.small top own-top).0 (sym is_floor))
    (parts.0 ∙ is_lower ∙ sym (filter-members (λ q. nat_lt 0 q) (λ _. true) low positive ∙ keep low)) (parts.1 ∙ sym (filter_agree (λ q. nat_lt q 0) (λ _. false) (λ q. le-ltb q 0 (omega arith)) low ∙ drop low))
  where
    same : r ≡ top
    same = ap (λ (o : Option ℕ). elim o [ None ↦ r | Some y ↦ y ]) e

    low : List ℕ
    low = filter (λ q. nat_lt q top) (r ∷ tail)

    own-member : (q : ℕ) → has_rank (r ∷ tail) q ≡ true → has_rank own q ≡ true
    own-member q h = (below-member own left.bound q (ap (λ xs. has_rank xs q) (sym left.part) ∙ h)).0

    own-top : has_rank own top ≡ true
    own-top = own-member top (ap (λ x. has_rank (x ∷ tail) top) same ∙ has-first top tail)

    positive : (q : ℕ) → has_rank (filter (λ q. nat_lt q top) (r ∷ tail)) q ≡ true → nat_lt 0 q ≡ true
    positive q h = lt-ltb 0 q (apart.small q (own-member q (below-member (r ∷ tail) top q h).0)).0

    keep : (xs : List ℕ) → filter (λ _. true) xs ≡ xs
    keep [] = refl
    keep (x ∷ xs) = ap (λ ys. x ∷ ys) (keep xs)

    drop : (xs : List ℕ) → filter (λ _. false) xs ≡ []
    drop [] = refl
    drop (x ∷ xs) = drop xs

-- the class is put last
pub pushed : (s : Suit) (own others rest equals next : List ℕ) (top m : ℕ) (old new whole : List EqualCards) → IsStep own others rest equals next top → m ≡ mask_of equals
    → new ≡ old ++ record { top = card_of s top; equals = m } ∷ [] → old ++ map (class_of_rank s own others) (filter (is_top_rank own others) rest) ≡ whole
    → new ++ map (class_of_rank s own others) (filter (is_top_rank own others) next) ≡ whole
pushed s own others rest equals next top m old new whole taken mask is_new made =
    ap (λ xs. xs ++ map (class_of_rank s own others) (filter (is_top_rank own others) next)) (is_new ∙ ap (λ n. old ++ seen n ∷ []) (mask ∙ ap mask_of taken.equal))
    ∙ append_assoc old (seen (mask_of (equal_ranks own others top)) ∷ []) (map (class_of_rank s own others) (filter (is_top_rank own others) next))
    ∙ ap (λ ranks. old ++ map (class_of_rank s own others) ranks) (sym taken.tops) ∙ made
  where
    seen : ℕ → EqualCards
    seen n = record { top = card_of s top; equals = n }

-- where there is no first rank, none is left
pub none-left : (ranks : List ℕ) → slice_get ranks 0 ≡ None → ranks ≡ []
none-left [] e = refl
none-left (r ∷ ranks) e = absurd (cc)
