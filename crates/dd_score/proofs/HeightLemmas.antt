-- a contract is bettered exactly where it stands lower than the highest bid that betters its side's
use Rattle.std.proofs.Common.{◌≡◌, ℕ, zero, suc, ◌+◌, ◌-◌, ◌*◌, ◌<◌, ◌≤◌, nat_lt, nat_eq, Bool, true, false, cond, List, refl, sym, ap, ◌∙◌, ◌⊎◌, inl, inr, ℤ, arith}
use Rattle.std.specs.Prelude.{◌||◌, ◌&&◌}
use Rattle.std.specs.Ordering.{int_eq}
use Rattle.std.proofs.lemmas.Int.{ints}
use Rattle.std.proofs.lemmas.Bool.{eqb-true, ltb-true, ltb-false, lt-ltb, le-ltb, or_cases, or_left, or_right, and_from}
use mathlib.Core.Path.{ap₂}
use Rattle.std.proofs.lemmas.Bool.Decides.{eqb_tells}
use mathlib.Core.Bool.{not}
use Rattle.dd_cards.specs.declared.seat.Seat.{Seat}
use Rattle.dd_cards.specs.declared.seat.Seat.TheVariants.{North, East, South, West}
use Rattle.dd_cards.specs.declared.side.Side.{Side}
use Rattle.dd_cards.specs.declared.side.Side.TheVariants.{NorthSouth, EastWest}
use Rattle.dd_cards.specs.Sides.{side_of, other_side, is_side}
use Rattle.dd_cards.proofs.CallerLemmas.{and-left, and-right, both-ways}
use Rattle.dd_score.specs.declared.order.Order.{Order}
use Rattle.dd_score.specs.declared.order.Order.TheVariants.{Dealer, First}
use Rattle.dd_score.specs.declared.vulnerable.Vulnerable.{Vulnerable}
use Rattle.dd_score.specs.Heights.{height, bettering_height, higher, bettering_at, or_below, highest_bettering, bettering_in_level}
use Rattle.dd_score.specs.ParContracts.{place_in, is_over_bid, betters, is_bettered_at, is_bettered, is_par_contract, one_of, partner_of}
use Rattle.dd_score.specs.Values.{is_as_good}
use Rattle.dd_score.specs.Worths.{worth}
use Rattle.std.proofs.Math.Bool.{or-false}

-- ---- the first that isn't 0
pub first-some : (a b : ℕ) → 0 < a → or_below a b ≡ a
first-some a b h = elim (eqb_tells a 0) [
  | inl none ↦ absurd (omega (arith, none.1))
  | inr some ↦ ap (λ t. cond t b a) some.0
]

-- of three
first-of_three : (a b c : ℕ) → or_below (or_below a b) c ≡ or_below a (or_below b c)
first-of_three zero b c = refl
first-of_three (suc a) b c =
    ap (λ x. or_below x c) (first-some (suc a) b (omega arith)) ∙ first-some (suc a) c (omega arith) ∙ sym (first-some (suc a) (or_below b c) (omega arith))

-- and of six
first-of_five : (a b c d e f : ℕ) → or_below (or_below a (or_below b (or_below c (or_below d e)))) f ≡ or_below a (or_below b (or_below c (or_below d (or_below e f))))
first-of_five a b c d e f =
    first-of_three a (or_below b (or_below c (or_below d e))) f
    ∙ ap (or_below a) (first-of_three b (or_below c (or_below d e)) f
    ∙ ap (or_below b) (first-of_three c (or_below d e) f ∙ ap (or_below c) (first-of_three d e f)))

-- a number is itself
pub eq-self : (x : ℤ) → int_eq x x ≡ true
eq-self x = grind (arith, ints)

-- ---- places
place-few : (order : Order) (s : Seat) → place_in order s ≤ 3
place-few (Dealer dealer) s = omega arith
place-few (First side) s = few (is_side side s)
  where
    few : (b : Bool) → cond b 0 1 ≤ 3
    few true = omega arith
    few false = omega arith

-- a number is less than another or not
ltb_cases : (a b : ℕ) → ((nat_lt a b ≡ true) × (a < b)) ⊎ ((nat_lt a b ≡ false) × (b ≤ a))
ltb_cases a b = by_test (nat_lt a b) refl
  where
    by_test : (t : Bool) → nat_lt a b ≡ t → ((nat_lt a b ≡ true) × (a < b)) ⊎ ((nat_lt a b ≡ false) × (b ≤ a))
    by_test true e = inl (e, ltb-true a b e)
    by_test false e = inr (e, ltb-false a b e)

-- a bid that is made over another stands higher
over-height : (order : Order) (k : ℕ) (s : Seat) (j : ℕ) (t : Seat) → is_over_bid order k s j t ≡ nat_lt (height order k s) (height order j t)
over-height order k s j t = by_places (place_in order s) (place_in order t) (place-few order s) (place-few order t)
  where
    by_places : (a b : ℕ) → a ≤ 3 → b ≤ 3 → (nat_lt k j || (nat_eq k j && nat_lt b a)) ≡ nat_lt (4 * k + (3 - a)) (4 * j + (3 - b))
    by_places a b p q =
        both-ways _ _
        (λ h. lt-ltb (4 * k + (3 - a)) (4 * j + (3 - b)) (elim (or_cases (nat_lt k j) (nat_eq k j && nat_lt b a) h) [
          | inl more ↦ (let m : k < j = ltb-true k j more in omega (arith, m))
          | inr same ↦ (let e : k ≡ j = eqb-true k j (and-left (nat_eq k j) (nat_lt b a) same) in
              let l : b < a = ltb-true b a (and-right (nat_eq k j) (nat_lt b a) same) in omega (arith, e, l))
        ]))
        (λ h. let l : 4 * k + (3 - a) < 4 * j + (3 - b) = ltb-true (4 * k + (3 - a)) (4 * j + (3 - b)) h in
        elim (eqb_tells k j) [
          | inl same ↦ (let e : k ≡ j = same.1 in or_right (nat_lt k j) _ (and_from (nat_eq k j) (nat_lt b a) same.0 (lt-ltb b a (omega (arith, e, l)))))
          | inr other ↦ (let m : k < j = omega (arith, other.1, l) in or_left (nat_lt k j) _ (lt-ltb k j m))
        ])

-- nothing stands lower than 0
none-below : (h : ℕ) → nat_lt h 0 ≡ false
none-below h = le-ltb h 0 (omega arith)

-- lower than the higher of two: than the one or than the other
below-higher : (h a b : ℕ) → nat_lt h (higher a b) ≡ (nat_lt h a || nat_lt h b)
below-higher h a b = elim (ltb_cases a b) [
  | inl less ↦ ap (λ c. nat_lt h (cond c b a)) less.0
      ∙ both-ways (nat_lt h b) (nat_lt h a || nat_lt h b) (λ w. or_right (nat_lt h a) (nat_lt h b) w)
      (λ w. elim (or_cases (nat_lt h a) (nat_lt h b) w) [
        | inl x ↦ (let l : h < a = ltb-true h a x in let m : a < b = less.1 in lt-ltb h b (omega (arith, l, m)))
        | inr x ↦ x
      ])
  | inr more ↦ ap (λ c. nat_lt h (cond c b a)) more.0
      ∙ both-ways (nat_lt h a) (nat_lt h a || nat_lt h b) (λ w. or_left (nat_lt h a) (nat_lt h b) w)
      (λ w. elim (or_cases (nat_lt h a) (nat_lt h b) w) [
        | inl x ↦ x
        | inr x ↦ (let l : h < b = ltb-true h b x in let m : b ≤ a = more.1 in lt-ltb h a (omega (arith, l, m)))
      ])
]

-- lower than an opponent's bid that is better
below-one : (h j : ℕ) (good : Bool) → nat_lt h (cond good 0 j) ≡ (nat_lt h j && not good)
below-one h j true = none-below h ∙ sym (neither (nat_lt h j))
  where
    neither : (b : Bool) → (b && false) ≡ false
    neither true = refl
    neither false = refl
below-one h j false = whole (nat_lt h j)
  where
    whole : (b : Bool) → b ≡ (b && true)
    whole true = refl
    whole false = refl

-- lower than the first of two that isn't 0, where it stands higher than the other
below-first : (h a b : ℕ) → ((a ≡ 0) ⊎ (b ≤ a)) → nat_lt h (or_below a b) ≡ (nat_lt h b || nat_lt h a)
below-first h zero b w = sym (ap (λ x. nat_lt h b || x) (none-below h) ∙ or-false (nat_lt h b))
below-first h (suc a) b (inl none) = absurd (omega (arith, none))
below-first h (suc a) b (inr more) =
    ap (nat_lt h) (first-some (suc a) b (omega arith))
    ∙ both-ways (nat_lt h (suc a)) (nat_lt h b || nat_lt h (suc a)) (λ w. or_right (nat_lt h b) (nat_lt h (suc a)) w)
    (λ w. elim (or_cases (nat_lt h b) (nat_lt h (suc a)) w) [
      | inl x ↦ (let l : h < b = ltb-true h b x in lt-ltb h (suc a) (omega (arith, l, more)))
      | inr x ↦ x
    ])

module _ (table : List (List ℕ)) (vulnerable : Vulnerable) (order : Order) (v : ℤ) where
  -- ---- one bid
  -- by an opponent
  by-opponent : (k : ℕ) (s : Seat) (j : ℕ) (t : Seat) → is_side (other_side (side_of s)) t ≡ true
      → betters table vulnerable order v k s j t ≡ nat_lt (height order k s) (bettering_height table vulnerable order v (side_of s) j t)
  unfolding betters
  by-opponent k s j t is =
      ap (λ b. (b && is_over_bid order k s j t) && not (is_as_good (side_of s) v (worth table vulnerable j t))) is
      ∙ ap (λ b. b && not (is_as_good (side_of s) v (worth table vulnerable j t))) (over-height order k s j t)
      ∙ sym (below-one (height order k s) (height order j t) (is_as_good (side_of s) v (worth table vulnerable j t)))

  -- by one of the own side
  by-partner : (k : ℕ) (s : Seat) (j : ℕ) (t : Seat) → is_side (other_side (side_of s)) t ≡ false → betters table vulnerable order v k s j t ≡ false
  unfolding betters
  by-partner k s j t is = ap (λ b. (b && is_over_bid order k s j t) && not (is_as_good (side_of s) v (worth table vulnerable j t))) is

  -- by any seat
  by-any : (k : ℕ) (s : Seat) (j : ℕ) → is_bettered_at table vulnerable order v k s j ≡ nat_lt (height order k s) (bettering_at table vulnerable order v (side_of s) j)
  unfolding is_bettered_at bettering_at
  by-any k s j = by_seat s
    where
      of_east_west : (a b c d x y : Bool) → a ≡ false → b ≡ x → c ≡ false → d ≡ y → (((a || b) || c) || d) ≡ (x || y)
      of_east_west a b c d x y p q r t = rw (p, q, r, t) (ap (λ z. z || y) (or-false x))

      of_north_south : (a b c d x y : Bool) → a ≡ x → b ≡ false → c ≡ y → d ≡ false → (((a || b) || c) || d) ≡ (x || y)
      of_north_south a b c d x y p q r t = rw (p, q, r, t) (or-false _ ∙ ap (λ z. z || y) (or-false x))

      by_seat : (s : Seat) → (((betters table vulnerable order v k s j North || betters table vulnerable order v k s j East) || betters table vulnerable order v k s j South) || betters table vulnerable order v k s j West)
          ≡ nat_lt (height order k s) (higher (bettering_height table vulnerable order v (side_of s) j (one_of (other_side (side_of s)))) (bettering_height table vulnerable order v (side_of s) j (partner_of (other_side (side_of s)))))
      by_seat North =
          of_east_west _ _ _ _ _ _ (by-partner k North j North refl) (by-opponent k North j East refl) (by-partner k North j South refl) (by-opponent k North j West refl)
          ∙ sym (below-higher (height order k North) (bettering_height table vulnerable order v NorthSouth j East) (bettering_height table vulnerable order v NorthSouth j West))
      by_seat South =
          of_east_west _ _ _ _ _ _ (by-partner k South j North refl) (by-opponent k South j East refl) (by-partner k South j South refl) (by-opponent k South j West refl)
          ∙ sym (below-higher (height order k South) (bettering_height table vulnerable order v NorthSouth j East) (bettering_height table vulnerable order v NorthSouth j West))
      by_seat East =
          of_north_south _ _ _ _ _ _ (by-opponent k East j North refl) (by-partner k East j East refl) (by-opponent k East j South refl) (by-partner k East j West refl)
          ∙ sym (below-higher (height order k East) (bettering_height table vulnerable order v EastWest j North) (bettering_height table vulnerable order v EastWest j South))
      by_seat West =
          of_north_south _ _ _ _ _ _ (by-opponent k West j North refl) (by-partner k West j East refl) (by-opponent k West j South refl) (by-partner k West j West refl)
          ∙ sym (below-higher (height order k West) (bettering_height table vulnerable order v EastWest j North) (bettering_height table vulnerable order v EastWest j South))

  -- ---- all bids up to one
  -- what betters at a number stands no lower than that number's bids, and no higher
  at-number : (side : Side) (j : ℕ) → (bettering_at table vulnerable order v side j ≡ 0) ⊎ ((4 * j ≤ bettering_at table vulnerable order v side j) × (bettering_at table vulnerable order v side j ≤ 4 * j + 3))
  unfolding bettering_at
  at-number side j =
      higher_at _ _ (one_at (one_of (other_side side))) (one_at (partner_of (other_side side)))
    where
      one_at : (t : Seat) → (bettering_height table vulnerable order v side j t ≡ 0) ⊎ ((4 * j ≤ bettering_height table vulnerable order v side j t) × (bettering_height table vulnerable order v side j t ≤ 4 * j + 3))
      one_at t = by_test (is_as_good side v (worth table vulnerable j t))
        where
          by_test : (b : Bool) → (cond b 0 (height order j t) ≡ 0) ⊎ ((4 * j ≤ cond b 0 (height order j t)) × (cond b 0 (height order j t) ≤ 4 * j + 3))
          by_test true = inl refl
          by_test false = inr (omega arith, omega arith)

      higher_at : (a b : ℕ) → ((a ≡ 0) ⊎ ((4 * j ≤ a) × (a ≤ 4 * j + 3))) → ((b ≡ 0) ⊎ ((4 * j ≤ b) × (b ≤ 4 * j + 3)))
          → ((higher a b ≡ 0) ⊎ ((4 * j ≤ higher a b) × (higher a b ≤ 4 * j + 3)))
      higher_at a b p q = by_test (nat_lt a b)
        where
          by_test : (t : Bool) → ((cond t b a ≡ 0) ⊎ ((4 * j ≤ cond t b a) × (cond t b a ≤ 4 * j + 3)))
          by_test true = q
          by_test false = p

  -- of the bids up to one the highest stands no higher than that one
  few-high : (side : Side) (n : ℕ) → highest_bettering table vulnerable order v side n ≤ 4 * n + 3
  unfolding highest_bettering
  few-high side zero = omega arith
  few-high side (suc n) = or_at (bettering_at table vulnerable order v side (suc n)) (highest_bettering table vulnerable order v side n) (at-number side (suc n)) (few-high side n)
    where
      or_at : (a b : ℕ) → ((a ≡ 0) ⊎ ((4 * suc n ≤ a) × (a ≤ 4 * suc n + 3))) → b ≤ 4 * n + 3 → or_below a b ≤ 4 * suc n + 3
      or_at zero b p q = omega arith
      or_at (suc a) b (inl p) q = absurd (omega (arith, p))
      or_at (suc a) b (inr p) q = let e : or_below (suc a) b ≡ suc a = first-some (suc a) b (omega arith) in let l = p.1 in omega (arith, e, l)

  -- a contract is bettered where it stands lower than the highest
  pub bettered-below : (k : ℕ) (s : Seat) (n : ℕ) → is_bettered table vulnerable order v k s n ≡ nat_lt (height order k s) (highest_bettering table vulnerable order v (side_of s) n)
  unfolding is_bettered highest_bettering
  bettered-below k s zero = sym (none-below (height order k s))
  bettered-below k s (suc n) =
      ap₂ (λ x y. x || y) (bettered-below k s n) (by-any k s (suc n))
      ∙ sym (below-first (height order k s) (bettering_at table vulnerable order v (side_of s) (suc n)) (highest_bettering table vulnerable order v (side_of s) n)
      (over (at-number (side_of s) (suc n))))
    where
      over : ((bettering_at table vulnerable order v (side_of s) (suc n) ≡ 0) ⊎ ((4 * suc n ≤ bettering_at table vulnerable order v (side_of s) (suc n)) × (bettering_at table vulnerable order v (side_of s) (suc n) ≤ 4 * suc n + 3)))
          → ((bettering_at table vulnerable order v (side_of s) (suc n) ≡ 0) ⊎ (highest_bettering table vulnerable order v (side_of s) n ≤ bettering_at table vulnerable order v (side_of s) (suc n)))
      over (inl none) = inl none
      over (inr some) = inr (let f : highest_bettering table vulnerable order v (side_of s) n ≤ 4 * n + 3 = few-high (side_of s) n in let l = some.0 in omega (arith, f, l))

  -- and one that is worth v is a par contract where it doesn't
  pub par-above : (k : ℕ) (s : Seat) (w : ℤ) (stands highest : ℕ) → w ≡ worth table vulnerable k s → w ≡ v → stands ≡ height order k s
      → highest ≡ highest_bettering table vulnerable order v (side_of s) 35
      → not (nat_lt stands highest) ≡ is_par_contract table vulnerable order v k s
  unfolding is_par_contract
  par-above k s w stands highest is so at over =
      rw (at, over, sym (bettered-below k s 35), sym is ∙ so, eq-self v) refl

  -- ---- level by level
  -- the highest of a level's bids, else of those below
  level-first : (side : Side) (level : ℕ) → 1 ≤ level → highest_bettering table vulnerable order v side (5 * level)
      ≡ or_below (bettering_in_level table vulnerable order v side level) (highest_bettering table vulnerable order v side (5 * (level - 1)))
  unfolding highest_bettering bettering_in_level
  level-first side zero some = absurd (omega arith)
  level-first side (suc n) some =
      let all : 5 * suc n ≡ suc (suc (suc (suc (suc (5 * n))))) = omega arith in
      let before : 5 * (suc n - 1) ≡ 5 * n = omega arith in
      let clubs : 5 * (suc n - 1) + 0 + 1 ≡ suc (5 * n) = omega arith in
      let diamonds : 5 * (suc n - 1) + 1 + 1 ≡ suc (suc (5 * n)) = omega arith in
      let hearts : 5 * (suc n - 1) + 2 + 1 ≡ suc (suc (suc (5 * n))) = omega arith in
      let spades : 5 * (suc n - 1) + 3 + 1 ≡ suc (suc (suc (suc (5 * n)))) = omega arith in
      let notrump : 5 * (suc n - 1) + 4 + 1 ≡ suc (suc (suc (suc (suc (5 * n))))) = omega arith in
      ap (highest_bettering table vulnerable order v side) all ∙ five _ _ _ _ _ _ clubs diamonds hearts spades notrump before
    where
      five : (a b c d f g : ℕ) → a ≡ suc (5 * n) → b ≡ suc (suc (5 * n)) → c ≡ suc (suc (suc (5 * n))) → d ≡ suc (suc (suc (suc (5 * n)))) → f ≡ suc (suc (suc (suc (suc (5 * n)))))
          → g ≡ 5 * n
          → highest_bettering table vulnerable order v side (suc (suc (suc (suc (suc (5 * n))))))
          ≡ or_below (or_below (bettering_at table vulnerable order v side f) (or_below (bettering_at table vulnerable order v side d) (or_below (bettering_at table vulnerable order v side c) (or_below (bettering_at table vulnerable order v side b) (bettering_at table vulnerable order v side a)))))
          (highest_bettering table vulnerable order v side g)
      five a b c d f g p q r t u w =
          rw (p, q, r, t, u, w)
          (sym (first-of_five (bettering_at table vulnerable order v side (suc (suc (suc (suc (suc (5 * n))))))) (bettering_at table vulnerable order v side (suc (suc (suc (suc (5 * n))))))
          (bettering_at table vulnerable order v side (suc (suc (suc (5 * n))))) (bettering_at table vulnerable order v side (suc (suc (5 * n)))) (bettering_at table vulnerable order v side (suc (5 * n)))
          (highest_bettering table vulnerable order v side (5 * n))))

  -- one is found
  pub level-found : (side : Side) (found level n : ℕ) → found ≡ bettering_in_level table vulnerable order v side level → 0 < found → 1 ≤ level
      → highest_bettering table vulnerable order v side n ≡ highest_bettering table vulnerable order v side (5 * level)
      → found ≡ highest_bettering table vulnerable order v side n
  level-found side found level n here is some so =
      sym (so ∙ level-first side level some
      ∙ ap (λ a. or_below a (highest_bettering table vulnerable order v side (5 * (level - 1)))) (sym here)
      ∙ first-some found (highest_bettering table vulnerable order v side (5 * (level - 1))) is)

  -- none is
  pub level-on : (side : Side) (found level n next : ℕ) → found ≡ bettering_in_level table vulnerable order v side level → found ≡ 0 → 1 ≤ level → next ≡ level - 1
      → highest_bettering table vulnerable order v side n ≡ highest_bettering table vulnerable order v side (5 * level)
      → highest_bettering table vulnerable order v side n ≡ highest_bettering table vulnerable order v side (5 * next)
  level-on side found level n next here none some is so =
      so ∙ level-first side level some
      ∙ ap (λ a. or_below a (highest_bettering table vulnerable order v side (5 * (level - 1)))) (sym here ∙ none)
      ∙ ap (λ m. highest_bettering table vulnerable order v side (5 * m)) (sym is)

  -- at no level
  pub level-none : (side : Side) (level n : ℕ) → level ≡ 0
      → highest_bettering table vulnerable order v side n ≡ highest_bettering table vulnerable order v side (5 * level)
      → 0 ≡ highest_bettering table vulnerable order v side n
  unfolding highest_bettering
  level-none side level n none so = sym (so ∙ ap (λ m. highest_bettering table vulnerable order v side (5 * m)) none)
