-- the list of par contracts is empty exactly where par is 0
use Rattle.std.proofs.Common.{◌≡◌, ℕ, zero, suc, ◌+◌, ◌-◌, ◌%◌, ◌<◌, ◌≤◌, nat_lt, nat_eq, Bool, true, false, List, [], ◌∷◌, ◌++◌, length, length-append, refl, sym, ap, ◌∙◌, ◌⊎◌, inl, inr, ℤ, pos, Option, None, Some, is_some, arith}
use Rattle.std.specs.Prelude.{◌||◌, ◌&&◌, ◌↔◌}
use Rattle.std.specs.Ordering.{int_eq}
use mathlib.Core.Bool.{not}
use Rattle.std.proofs.lemmas.Bool.{eqb-true, ltb-true, or_cases, false_from_ne_true}
use Rattle.std.proofs.lemmas.Bool.Decides.{eqb_tells}
use Rattle.std.proofs.lemmas.Int.{ints}
use Rattle.dd_cards.proofs.CallerLemmas.{and-left, and-right, is-same}
use Rattle.dd_cards.specs.declared.seat.Seat.{Seat}
use Rattle.dd_cards.specs.declared.seat.Seat.TheVariants.{North, East, South, West}
use Rattle.dd_cards.specs.declared.side.Side.{Side}
use Rattle.dd_cards.specs.declared.side.Side.TheVariants.{NorthSouth, EastWest}
use Rattle.dd_cards.specs.declared.suit.Suit.TheVariants.{Spades, Hearts, Diamonds, Clubs}
use Rattle.dd_cards.specs.declared.strain.Strain.{Strain}
use Rattle.dd_cards.specs.declared.strain.Strain.TheVariants.{Trump, Notrump}
use Rattle.dd_cards.specs.Sides.{side_of, other_side, is_side}
use Rattle.dd_cards.specs.Strains.{strain_code}
use Rattle.dd_score.specs.declared.order.Order.{Order}
use Rattle.dd_score.specs.declared.par_contract.ParContract.{ParContract}
use Rattle.dd_score.specs.declared.vulnerable.Vulnerable.{Vulnerable}
use Rattle.dd_score.specs.Bids.{level_of, strain_of, strain_at, strain_place, bid_of}
use Rattle.dd_score.specs.Values.{is_as_good}
use Rattle.dd_score.specs.Worths.{worth}
use Rattle.dd_score.specs.Stands.{stands}
use Rattle.dd_score.specs.ParContracts.{place_in, is_over_bid, betters, is_bettered_at, is_bettered, is_par_contract, one_of, partner_of, listed_by, all_at, first_of, least_from, least_of, with_contract, strain_coded, contracts_below, par_contracts}
use Rattle.dd_score.proofs.Namers.{other-other}
use Rattle.dd_score.proofs.Nonzero.{worth-nonzero}
use Rattle.dd_score.proofs.SomeContract.{IsNoBetter, IsStable, some_stable}
use Rattle.dd_score.proofs.HeightLemmas.{eq-self}

-- ---- numbers of bids
-- a place among the strains and back
place-at : (r : ℕ) → r < 5 → strain_place (strain_at r) ≡ r
place-at zero h = refl
place-at (suc zero) h = refl
place-at (suc (suc zero)) h = refl
place-at (suc (suc (suc zero))) h = refl
place-at (suc (suc (suc (suc zero)))) h = refl
place-at (suc (suc (suc (suc (suc r))))) h = absurd (omega arith)

-- a bid is that of its level and strain
bid-again : (k : ℕ) → 0 < k → bid_of (level_of k) (strain_of k) ≡ k
unfolding level_of strain_of
bid-again k h =
    let p : strain_place (strain_at ((k - 1) % 5)) ≡ (k - 1) % 5 = place-at ((k - 1) % 5) (omega arith) in
    omega (arith, p)

-- its level is 1 to 7
level-bounds : (k : ℕ) → k ≤ 35 → (1 ≤ level_of k) × (level_of k < 8)
unfolding level_of
level-bounds k h = (omega arith, omega arith)

-- a strain and its code
coded-again : (strain : Strain) → strain_coded (strain_code strain) ≡ strain
coded-again (Trump Spades) = refl
coded-again (Trump Hearts) = refl
coded-again (Trump Diamonds) = refl
coded-again (Trump Clubs) = refl
coded-again Notrump = refl

code-bound : (strain : Strain) → strain_code strain < 5
code-bound (Trump Spades) = omega arith
code-bound (Trump Hearts) = omega arith
code-bound (Trump Diamonds) = omega arith
code-bound (Trump Clubs) = omega arith
code-bound Notrump = omega arith

-- and no other
eq-other : (w v : ℤ) → (w ≡ v → ⊥) → int_eq w v ≡ false
eq-other w v n = false_from_ne_true (int_eq w v) (λ h. n (same w v h))
  where
    same : (x y : ℤ) → int_eq x y ≡ true → x ≡ y
    same x y h = grind (arith, ints)

module _ (table : List (List ℕ)) (vulnerable : Vulnerable) (order : Order) (v : ℤ) where
  -- ---- a stable bid is a par contract
  never-betters : (k : ℕ) (s : Seat) → IsStable table vulnerable order v k s → (j : ℕ) (t : Seat) → j ≤ 35
      → betters table vulnerable order v k s j t ≡ false
  unfolding betters
  never-betters k s st j t most = go (is_side (other_side (side_of s)) t) refl (is_over_bid order k s j t) refl
    where
      mine : is_side (other_side (side_of s)) t ≡ true → other_side (side_of t) ≡ side_of s
      mine h = ap other_side (is-same (side_of t) (other_side (side_of s)) h) ∙ other-other (side_of s)

      fine : is_over_bid order k s j t ≡ true → IsNoBetter table vulnerable v j t
      fine h = elim (or_cases (nat_lt k j) (nat_eq k j && nat_lt (place_in order t) (place_in order s)) h) [
        | inl more ↦ st.higher j t (ltb-true k j more) most
        | inr same ↦
            (let e : k ≡ j = eqb-true k j (and-left (nat_eq k j) _ same) in
            ap (λ i. is_as_good (other_side (side_of t)) v (worth table vulnerable i t)) (sym e)
            ∙ st.earlier t (ltb-true (place_in order t) (place_in order s) (and-right (nat_eq k j) _ same)))
      ]

      go : (x : Bool) → is_side (other_side (side_of s)) t ≡ x → (y : Bool) → is_over_bid order k s j t ≡ y
          → ((x && y) && not (is_as_good (side_of s) v (worth table vulnerable j t))) ≡ false
      go true p true q = rw (sym (ap (λ x. is_as_good x v (worth table vulnerable j t)) (mine p)) ∙ fine q) refl
      go true p false q = refl
      go false p y q = refl

  never-bettered : (k : ℕ) (s : Seat) → IsStable table vulnerable order v k s → (n : ℕ) → n ≤ 35 → is_bettered table vulnerable order v k s n ≡ false
  unfolding is_bettered is_bettered_at
  never-bettered k s st zero most = refl
  never-bettered k s st (suc n) most =
      rw (
        never-bettered k s st n (omega arith),
        never-betters k s st (suc n) North most,
        never-betters k s st (suc n) East most,
        never-betters k s st (suc n) South most,
        never-betters k s st (suc n) West most,
      ) refl

  stable-par : (k : ℕ) (s : Seat) → IsStable table vulnerable order v k s → is_par_contract table vulnerable order v k s ≡ true
  unfolding is_par_contract
  stable-par k s st = rw (st.worth_par, eq-self v, never-bettered k s st 35 (omega arith)) refl

  -- ---- a par contract is listed
  listed-some : (side : Side) (level : ℕ) (strain : Strain) (x y : Bool) → (x || y) ≡ true → is_some (listed_by table side level strain x y) ≡ true
  listed-some side level strain true true h = refl
  listed-some side level strain true false h = refl
  listed-some side level strain false true h = refl
  listed-some side level strain false false h = absurd (cc)

  par-at : (s : Seat) (level : ℕ) (strain : Strain) → is_par_contract table vulnerable order v (bid_of level strain) s ≡ true
      → is_some (all_at table vulnerable order v (side_of s) strain level) ≡ true
  unfolding all_at
  par-at s level strain h = listed-some (side_of s) level strain _ _ (either s h)
    where
      second : (x y : Bool) → y ≡ true → (x || y) ≡ true
      second true y e = refl
      second false y e = e

      either : (t : Seat) → is_par_contract table vulnerable order v (bid_of level strain) t ≡ true
          → (is_par_contract table vulnerable order v (bid_of level strain) (one_of (side_of t)) || is_par_contract table vulnerable order v (bid_of level strain) (partner_of (side_of t))) ≡ true
      either North e = rw e refl
      either East e = rw e refl
      either South e = second _ _ e
      either West e = second _ _ e

  least-some : (side : Side) (strain : Strain) (i more level : ℕ) → level ≤ i → i < level + more
      → is_some (all_at table vulnerable order v side strain i) ≡ true → is_some (least_from table vulnerable order v side strain more level) ≡ true
  unfolding least_from
  least-some side strain i zero level low high h = absurd (omega arith)
  least-some side strain i (suc more) level low high h = elim (eqb_tells i level) [
    | inl same ↦ here (all_at table vulnerable order v side strain level) _ (sym (ap (λ j. is_some (all_at table vulnerable order v side strain j)) same.1) ∙ h)
    | inr other ↦ later (all_at table vulnerable order v side strain level) _ (least-some side strain i more (level + 1) (omega (arith, other.1)) (omega arith) h)
  ]
    where
      here : (o rest : Option ParContract) → is_some o ≡ true → is_some (first_of o rest) ≡ true
      here (Some c) rest e = refl
      here None rest e = absurd (cc)

      later : (o rest : Option ParContract) → is_some rest ≡ true → is_some (first_of o rest) ≡ true
      later (Some c) rest e = refl
      later None rest e = e

  -- a list with one or none more
  longer : (l : List ParContract) (o : Option ParContract) → length l ≤ length (with_contract l o)
  longer l None = omega arith
  longer l (Some c) = let e = length-append l (c ∷ []) in omega (arith, e)

  longer-some : (l : List ParContract) (o : Option ParContract) → is_some o ≡ true → 0 < length (with_contract l o)
  longer-some l None h = absurd (cc)
  longer-some l (Some c) h = let e : length (l ++ c ∷ []) ≡ length l + 1 = length-append l (c ∷ []) in omega (arith, e)

  below-some : (code : ℕ) (side : Side) → is_some (least_of table vulnerable order v (strain_coded code) side) ≡ true → (n : ℕ) → code < n
      → 0 < length (contracts_below table vulnerable order v n)
  unfolding contracts_below
  below-some code side h zero low = absurd (omega arith)
  below-some code side h (suc n) low = elim (eqb_tells code n) [
    | inl same ↦ last side (sym (ap (λ j. is_some (least_of table vulnerable order v (strain_coded j) side)) same.1) ∙ h)
    | inr other ↦ (let ih : 0 < length (contracts_below table vulnerable order v n) = below-some code side h n (omega (arith, other.1)) in
        let p = longer (contracts_below table vulnerable order v n) (least_of table vulnerable order v (strain_coded n) NorthSouth) in
        let q = longer (with_contract (contracts_below table vulnerable order v n) (least_of table vulnerable order v (strain_coded n) NorthSouth)) (least_of table vulnerable order v (strain_coded n) EastWest) in
        omega (arith, ih, p, q))
  ]
    where
      last : (x : Side) → is_some (least_of table vulnerable order v (strain_coded n) x) ≡ true
          → 0 < length (with_contract (with_contract (contracts_below table vulnerable order v n) (least_of table vulnerable order v (strain_coded n) NorthSouth)) (least_of table vulnerable order v (strain_coded n) EastWest))
      last NorthSouth e =
          let p = longer-some (contracts_below table vulnerable order v n) (least_of table vulnerable order v (strain_coded n) NorthSouth) e in
          let q = longer (with_contract (contracts_below table vulnerable order v n) (least_of table vulnerable order v (strain_coded n) NorthSouth)) (least_of table vulnerable order v (strain_coded n) EastWest) in
          omega (arith, p, q)
      last EastWest e = longer-some _ _ e

  stable-listed : (k : ℕ) (s : Seat) → IsStable table vulnerable order v k s → 0 < length (par_contracts table vulnerable order v)
  stable-listed k s st =
      let b : (1 ≤ level_of k) × (level_of k < 8) = level-bounds k st.most in
      below-some (strain_code (strain_of k)) (side_of s)
      (ap (λ x. is_some (least_of table vulnerable order v x (side_of s))) (coded-again (strain_of k))
      ∙ least-some (side_of s) (strain_of k) (level_of k) 7 1 b.0 (let h = b.1 in omega arith)
      (par-at s (level_of k) (strain_of k) (ap (λ j. is_par_contract table vulnerable order v j s) (bid-again k st.some) ∙ stable-par k s st)))
      5 (code-bound (strain_of k))

  -- ---- where par is 0 nothing is listed
  none-par : v ≡ pos 0 → (k : ℕ) (s : Seat) → is_par_contract table vulnerable order v k s ≡ false
  unfolding is_par_contract
  none-par z k s = rw (eq-other (worth table vulnerable k s) v (λ e. worth-nonzero table vulnerable k s (e ∙ z))) refl

  none-at : v ≡ pos 0 → (side : Side) (strain : Strain) (level : ℕ) → all_at table vulnerable order v side strain level ≡ None
  unfolding all_at
  none-at z side strain level = rw (none-par z (bid_of level strain) (one_of side), none-par z (bid_of level strain) (partner_of side)) refl

  none-from : v ≡ pos 0 → (side : Side) (strain : Strain) (more level : ℕ) → least_from table vulnerable order v side strain more level ≡ None
  unfolding least_from
  none-from z side strain zero level = refl
  none-from z side strain (suc more) level = rw (none-at z side strain level) (none-from z side strain more (level + 1))

  none-below : v ≡ pos 0 → (n : ℕ) → contracts_below table vulnerable order v n ≡ []
  unfolding contracts_below
  none-below z zero = refl
  none-below z (suc n) = rw (none-from z NorthSouth (strain_coded n) 7 1, none-from z EastWest (strain_coded n) 7 1) (none-below z n)

  -- so it is empty exactly where par is 0
  pub empty-list : stands table vulnerable order 35 ≡ v → (par_contracts table vulnerable order v ≡ []) ↔ (v ≡ pos 0)
  empty-list e = (λ h. decide h (some_stable table vulnerable order v e), λ z. none-below z 5)
    where
      decide : par_contracts table vulnerable order v ≡ [] → ((v ≡ pos 0) ⊎ ((k : ℕ) × (s : Seat) × IsStable table vulnerable order v k s)) → v ≡ pos 0
      decide h (inl z) = z
      decide h (inr found) = absurd (let p = stable-listed found.0 found.1 found.2 in let q : length (par_contracts table vulnerable order v) ≡ 0 = ap length h in omega (arith, p, q))

  -- and so is any list that is that one
  pub empty-of : (items : List ParContract) → items ≡ par_contracts table vulnerable order v → v ≡ stands table vulnerable order 35
      → (items ≡ []) ↔ (v ≡ pos 0)
  empty-of items e so = ((λ h. (empty-list (sym so)).0 (sym e ∙ h)), (λ z. e ∙ (empty-list (sym so)).1 z))
