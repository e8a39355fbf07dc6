-- What the mark of the last receipt tells of all receipts.
use Rattle.std.proofs.Common.{◌≡◌, ℕ, zero, suc, ◌+◌, ◌<◌, ◌≤◌, List, [], ◌∷◌, ◌++◌, length, map, take, Option, Some, None, refl, sym, ap, ◌∙◌, subst, arith, true≢false}
use Rattle.std.specs.Prelude.{IsSome, slice_get}
use Rattle.std.specs.Option.{option_map}
use Rattle.std.proofs.lemmas.Option.{none-some, same_Some, slice_get-map, slice_get_within}
use Rattle.std.proofs.lemmas.List.{length-map, take-append-le, map_push, length_push}
use borrow.Author.Count.{below_more}
use Rattle.dd_desk.specs.declared.entry.Entry.{Entry}
use Rattle.dd_desk.specs.Entries.{AreBeginnings, LastHas, event_in, journal_in, seen_by}
use Rattle.dd_desk.specs.Events.{EventOf}
use Rattle.dd_desk.specs.Looks.{GoesOn}
use Rattle.dd_desk.specs.Receipts.{HasReceipts, ReceiptOf, pass_of, told_by}
use Rattle.dd_desk.proofs.Marks.{both_more}
use Rattle.dd_desk.proofs.Showing.{at_map}
use Rattle.dd_desk.proofs.Untold.{get-push_before}
use Rattle.dd_book.proofs.CallerLemmas.{slice_get-push_here, cons-parts}

-- ---- lists

-- as many elements as there are
take-whole : {A : Type 0} (n : ℕ) (xs : List A) → n ≡ length xs → take n xs ≡ xs
take-whole zero [] e = refl
take-whole zero (x ∷ xs) e = absurd (omega (arith, e))
take-whole (suc n) [] e = refl
take-whole (suc n) (x ∷ xs) e = ap (λ ys. x ∷ ys) (take-whole n xs (omega (arith, e)))

-- an element of a beginning
get-take : {A : Type 0} (n : ℕ) (xs : List A) (i : ℕ) (x : A) → slice_get (take n xs) i ≡ Some x → slice_get xs i ≡ Some x
get-take zero xs i x is = absurd (none-some x is)
get-take (suc n) [] i x is = is
get-take (suc n) (y ∷ xs) zero x is = is
get-take (suc n) (y ∷ xs) (suc i) x is = get-take n xs i x is

-- how long a beginning is
length-take : {A : Type 0} (n : ℕ) (xs : List A) → n ≤ length xs → length (take n xs) ≡ n
length-take zero xs most = refl
length-take (suc n) [] most = absurd (omega (arith, most))
length-take (suc n) (x ∷ xs) most = ap suc (length-take n xs (omega (arith, most)))

-- an element of a list
some-at : {A : Type 0} (xs : List A) (i : ℕ) → i < length xs → (x : A) × (slice_get xs i ≡ Some x)
some-at [] i within = absurd (omega (arith, within))
some-at (x ∷ xs) zero within = (x, refl)
some-at (x ∷ xs) (suc i) within = some-at xs i (omega (arith, within))

-- what two maps that are one make of the elements at one place
pub maps-at : {A B C : Type 0} (f : A → C) (g : B → C) (xs : List A) (ys : List B) (i : ℕ) (x : A) (y : B) → map f xs ≡ map g ys → slice_get xs i ≡ Some x → slice_get ys i ≡ Some y → f x ≡ g y
maps-at f g xs ys i x y same here there = same_Some _ _ (sym (at_map f xs i x here) ∙ ap (λ l. slice_get l i) same ∙ at_map g ys i y there)

-- ---- receipts that stand in a journal

-- they stand in each journal that has its events
has-also : (js es : List EventOf) (number : ℕ) (rs : List ReceiptOf) → ((place : ℕ) (e : EventOf) → slice_get js place ≡ Some e → slice_get es place ≡ Some e)
    → HasReceipts js (pass_of number rs) → HasReceipts es (pass_of number rs)
has-also js es number [] keeps has = refl
has-also js es number (r ∷ rs) keeps has =
    let p = cons-parts _ _ _ _ has in
    λ i. keeps r.place (told_by number r) p.0 i ∷ has-also js es number rs keeps p.1 i

-- with the receipt of the next event
pub has-more : (js es : List EventOf) (number : ℕ) (rs rs' : List ReceiptOf) (r : ReceiptOf) → es ≡ js ++ told_by number r ∷ [] → rs' ≡ rs ++ r ∷ [] → r.place ≡ length js
    → HasReceipts js (pass_of number rs) → HasReceipts es (pass_of number rs')
has-more js es number rs rs' r now also next has =
    let before = has-also js es number rs (λ place e is. ap (λ l. slice_get l place) now ∙ get-push_before js place (told_by number r) (slice_get_within js place e is) ∙ is) has in
    let here : slice_get es r.place ≡ Some (told_by number r) = (λ i. slice_get (now i) (next i)) ∙ slice_get-push_here js (told_by number r) in
    both_more (λ (s : ReceiptOf). slice_get es s.place) (λ (s : ReceiptOf). Some (told_by number s)) rs rs' r rs rs' r before also also here

-- ---- one mark more

pub last-more : {N : Type 0} (f : N → Option (List EventOf)) (marks marks' : List N) (note : N) (number : ℕ) (rs rs' : List ReceiptOf) (r : ReceiptOf) (es : List EventOf)
    → length marks ≡ length rs → marks' ≡ marks ++ note ∷ [] → rs' ≡ rs ++ r ∷ [] → f note ≡ Some es → HasReceipts es (pass_of number rs')
    → LastHas (map f marks') (pass_of number rs')
last-more f marks marks' note number rs rs' r es same now also knows has = λ at journal end is.
    let here : at ≡ length (map f marks) = omega (arith, end, ap length also, length_push rs r, length-map marks f, same) in
    let there : slice_get (map f marks') at ≡ Some (f note) = (λ i. slice_get ((ap (map f) now ∙ map_push f marks note) i) (here i)) ∙ slice_get-push_here (map f marks) (f note) in
    subst (λ (j : List EventOf). HasReceipts j (pass_of number rs')) (same_Some es journal (sym knows ∙ same_Some (f note) (Some journal) (sym there ∙ is))) has

pub beginnings-more : {N : Type 0} (f : N → Option (List EventOf)) (kept kept' : List N) (note : N) (js es : List EventOf) (e : EventOf)
    → length kept ≡ length js → kept' ≡ kept ++ note ∷ [] → es ≡ js ++ e ∷ [] → f note ≡ Some es → AreBeginnings (map f kept) js → AreBeginnings (map f kept') es
beginnings-more f kept kept' note js es e same now longer knows before = λ place within.
    let many : length (map f kept) ≡ length js = length-map kept f ∙ same in
    let all : map f kept' ≡ map f kept ++ f note ∷ [] = ap (map f) now ∙ map_push f kept note in
    let long : length es ≡ length js + 1 = ap length longer ∙ length_push js e in
    below_more (λ k. slice_get (map f kept') k ≡ Some (Some (take (k + 1) es))) (length js)
    (λ k less.
    ap (λ l. slice_get l k) all ∙ get-push_before (map f kept) k (f note) (omega (arith, less, many)) ∙ before k less
    ∙ ap (λ (l : List EventOf). Some (Some l)) (sym (ap (take (k + 1)) longer ∙ take-append-le (k + 1) js (e ∷ []) (omega (arith, less)))))
    ((λ i. slice_get (all i) (sym many i)) ∙ slice_get-push_here (map f kept) (f note) ∙ ap Some knows
    ∙ ap (λ (l : List EventOf). Some (Some l)) (sym (take-whole (length js + 1) es (sym long))))
    place (omega (arith, within, long))

-- the same marks
pub beginnings-same : {N : Type 0} (f : N → Option (List EventOf)) (kept kept' : List N) (js : List EventOf) → kept' ≡ kept → AreBeginnings (map f kept) js → AreBeginnings (map f kept') js
beginnings-same f kept kept' js same begin = λ place within. ap (λ ns. slice_get (map f ns) place) same ∙ begin place within

pub last-same : {N : Type 0} (f : N → Option (List EventOf)) (marks marks' : List N) (number : ℕ) (rs rs' : List ReceiptOf) → marks' ≡ marks → rs' ≡ rs → LastHas (map f marks) (pass_of number rs) → LastHas (map f marks') (pass_of number rs')
last-same f marks marks' number rs rs' same also last = λ at journal end is.
    subst (λ (l : List ReceiptOf). HasReceipts journal (pass_of number l)) (sym also)
    (last at journal (end ∙ ap length also) (sym (ap (λ ns. slice_get (map f ns) at) same) ∙ is))

-- ---- marks of one cell

module _ {N : Type 0} (known : N → Option Entry) where
  -- a mark that knows the event knows an entry with it
  entry-of : (o : Option N) (e : EventOf) → option_map (λ (n : N). event_in (known n)) o ≡ Some (Some e) → (x : Entry) × (option_map known o ≡ Some (Some x)) × (x.event ≡ e)
  entry-of None e is = absurd (none-some (Some e) is)
  entry-of (Some n) e is = go (known n) refl
    where
      go : (k : Option Entry) → known n ≡ k → (x : Entry) × (option_map known (Some n) ≡ Some (Some x)) × (x.event ≡ e)
      go None lacks = absurd (none-some e (sym (ap event_in lacks) ∙ same_Some (event_in (known n)) (Some e) is))
      go (Some x) has = (x, ap Some has, same_Some x.event e (sym (ap event_in has) ∙ same_Some (event_in (known n)) (Some e) is))

  entry-at : (ns : List N) (i : ℕ) (e : EventOf) → slice_get (map (λ (n : N). event_in (known n)) ns) i ≡ Some (Some e) → (x : Entry) × (slice_get (map known ns) i ≡ Some (Some x)) × (x.event ≡ e)
  entry-at ns i e is =
      let found = entry-of (slice_get ns i) e (sym (slice_get-map (λ (n : N). event_in (known n)) ns i) ∙ is) in
      (found.0, slice_get-map known ns i ∙ found.1, found.2)

  -- and the journal of that entry
  journal-of : (o : Option N) (x : Entry) → option_map known o ≡ Some (Some x) → option_map (λ (n : N). journal_in (known n)) o ≡ Some (Some x.upto.events)
  journal-of None x is = absurd (none-some (Some x) is)
  journal-of (Some n) x is = ap (λ k. Some (journal_in k)) (same_Some (known n) (Some x) is)

  journal-at : (ns : List N) (i : ℕ) (x : Entry) → slice_get (map known ns) i ≡ Some (Some x) → slice_get (map (λ (n : N). journal_in (known n)) ns) i ≡ Some (Some x.upto.events)
  journal-at ns i x is =
      slice_get-map (λ (n : N). journal_in (known n)) ns i ∙ journal-of (slice_get ns i) x (sym (slice_get-map known ns i) ∙ is)

  -- two marks that know one entry know one event
  pub same-event : (kept marks : List N) (place at : ℕ) → ((x y : Entry) → slice_get (map known kept) place ≡ Some (Some x) → slice_get (map known marks) at ≡ Some (Some y) → x ≡ y)
      → (a b : EventOf) → slice_get (map (λ (n : N). event_in (known n)) kept) place ≡ Some (Some a) → slice_get (map (λ (n : N). event_in (known n)) marks) at ≡ Some (Some b) → a ≡ b
  same-event kept marks place at same a b here there =
      let x = entry-at kept place a here in
      let y = entry-at marks at b there in
      sym x.2 ∙ ap (λ (e : Entry). e.event) (same x.0 y.0 x.1 y.1) ∙ y.2

  -- the mark of the last receipt knows an entry, with a journal in which all receipts stand
  last-entry : (marks : List N) (number : ℕ) (rs : List ReceiptOf) (at : ℕ) → map (λ (n : N). event_in (known n)) marks ≡ map (λ (s : ReceiptOf). Some (told_by number s)) rs
      → LastHas (map (λ (n : N). journal_in (known n)) marks) (pass_of number rs) → at + 1 ≡ length rs
      → (y : Entry) × (slice_get (map known marks) at ≡ Some (Some y)) × HasReceipts y.upto.events (pass_of number rs)
  last-entry marks number rs at told last end =
      let some = some-at rs at (omega (arith, end)) in
      let y = entry-at marks at (told_by number some.0) (ap (λ l. slice_get l at) told ∙ at_map (λ (s : ReceiptOf). Some (told_by number s)) rs at some.0 some.1) in
      (y.0, y.1, last at y.0.upto.events end (journal-at marks at y.0 y.1))

  -- the journal's mark of a place knows an entry, with the journal up to there
  entry-there : (kept : List N) (js : List EventOf) (place : ℕ) → map (λ (n : N). event_in (known n)) kept ≡ map Some js → AreBeginnings (map (λ (n : N). journal_in (known n)) kept) js
      → place < length js → (x : Entry) × (slice_get (map known kept) place ≡ Some (Some x)) × (x.upto.events ≡ take (place + 1) js)
  entry-there kept js place knows begin within =
      let some = some-at js place within in
      let x = entry-at kept place some.0 (ap (λ l. slice_get l place) knows ∙ at_map Some js place some.0 some.1) in
      (x.0, x.1, same_Some _ _ (same_Some _ _ (sym (journal-at kept place x.0 x.1) ∙ begin place within)))

  -- the journal's mark of the last receipt's place and the receipt's own know one entry: so all receipts stand in the journal
  pub recalled : (kept marks : List N) (js : List EventOf) (number : ℕ) (rs : List ReceiptOf) (at place : ℕ)
      → map (λ (n : N). event_in (known n)) kept ≡ map Some js → AreBeginnings (map (λ (n : N). journal_in (known n)) kept) js
      → map (λ (n : N). event_in (known n)) marks ≡ map (λ (s : ReceiptOf). Some (told_by number s)) rs → LastHas (map (λ (n : N). journal_in (known n)) marks) (pass_of number rs)
      → at + 1 ≡ length rs → place < length js
      → ((x y : Entry) → slice_get (map known kept) place ≡ Some (Some x) → slice_get (map known marks) at ≡ Some (Some y) → x ≡ y)
      → HasReceipts js (pass_of number rs)
  recalled kept marks js number rs at place knows begin told last end within same =
      let x = entry-there kept js place knows begin within in
      let y = last-entry marks number rs at told last end in
      let both : y.0.upto.events ≡ take (place + 1) js = ap (λ (k : Entry). k.upto.events) (sym (same x.0 y.0 x.1 y.1)) ∙ x.2 in
      has-also (take (place + 1) js) js number rs (λ k v there. get-take (place + 1) js k v there) (subst (λ (j : List EventOf). HasReceipts j (pass_of number rs)) both y.2)

  -- ---- what was seen

  -- it is what the last receipt's mark knows
  pub seen-has : (marks : List N) (number : ℕ) (rs : List ReceiptOf) (at : ℕ) (mark : N) → map (λ (n : N). event_in (known n)) marks ≡ map (λ (s : ReceiptOf). Some (told_by number s)) rs
      → LastHas (map (λ (n : N). journal_in (known n)) marks) (pass_of number rs) → at + 1 ≡ length rs → slice_get marks at ≡ Some mark
      → IsSome (known mark) × HasReceipts (seen_by number (known mark)).journal (pass_of number rs)
  seen-has marks number rs at mark told last end is =
      let y = last-entry marks number rs at told last end in
      let knows : known mark ≡ Some y.0 = same_Some _ _ (sym (slice_get-map known marks at ∙ ap (option_map known) is) ∙ y.1) in
      subst (λ (k : Option Entry). IsSome k × HasReceipts (seen_by number k).journal (pass_of number rs)) (sym knows) (refl, y.2)

  -- the journal goes on from it, where the journal's mark of its place agrees
  pub goes-on : (kept : List N) (js : List EventOf) (number place : ℕ) (other : Option Entry) → map (λ (n : N). event_in (known n)) kept ≡ map Some js
      → AreBeginnings (map (λ (n : N). journal_in (known n)) kept) js → place < length js → IsSome other
      → ((x y : Entry) → slice_get (map known kept) place ≡ Some (Some x) → other ≡ Some y → x ≡ y) → GoesOn (seen_by number other).journal js
  goes-on kept js number place None knows begin within is same = absurd (true≢false (sym is))
  goes-on kept js number place (Some y) knows begin within is same =
      let x = entry-there kept js place knows begin within in
      let journal : y.upto.events ≡ take (place + 1) js = ap (λ (k : Entry). k.upto.events) (sym (same x.0 y x.1 refl)) ∙ x.2 in
      let long : length y.upto.events ≡ place + 1 = ap length journal ∙ length-take (place + 1) js (omega (arith, within)) in
      ap (λ n. take n js) long ∙ sym journal
