-- par other than 0 has a par contract: the bid at which what stands last became par
use Rattle.std.proofs.Common.{◌≡◌, ℕ, zero, suc, ◌<◌, ◌≤◌, Bool, true, false, cond, List, [], ◌∷◌, refl, sym, ap, subst, ◌∙◌, ◌⊎◌, inl, inr, ℤ, pos, arith}
use Rattle.std.specs.Prelude.{int_le, int_lt}
use Rattle.std.proofs.lemmas.Bool.Decides.{eqb_tells}
use Rattle.std.proofs.lemmas.Int.{ints}
use Rattle.dd_cards.specs.declared.seat.Seat.{Seat}
use Rattle.dd_cards.specs.declared.seat.Seat.TheVariants.{North, East, South, West}
use Rattle.dd_cards.specs.declared.side.Side.{Side}
use Rattle.dd_cards.specs.declared.side.Side.TheVariants.{NorthSouth, EastWest}
use Rattle.dd_cards.specs.Sides.{side_of, other_side}
use Rattle.dd_score.specs.declared.order.Order.{Order}
use Rattle.dd_score.specs.declared.order.Order.TheVariants.{Dealer, First}
use Rattle.dd_score.specs.declared.vulnerable.Vulnerable.{Vulnerable}
use Rattle.dd_score.specs.Orders.{asked}
use Rattle.dd_score.specs.Values.{is_as_good, better}
use Rattle.dd_score.specs.Worths.{worth}
use Rattle.dd_score.specs.Stands.{offered, stands}
use Rattle.dd_score.specs.ParContracts.{place_in}

-- the side of a seat is as well off with v as with this worth
abbrev pub IsNoBetter : List (List ℕ) → Vulnerable → ℤ → ℕ → Seat → Type 0
IsNoBetter table vulnerable v j t = is_as_good (other_side (side_of t)) v (worth table vulnerable j t) ≡ true

-- a step that leaves v leaves the seat nothing better
stays : (side : Side) (w v : ℤ) → better side w v ≡ v → is_as_good (other_side side) v w ≡ true
stays NorthSouth w v e = grind (arith, ints)
stays EastWest w v e = grind (arith, ints)

-- a step that comes to v from elsewhere is worth v
comes : (side : Side) (w x v : ℤ) → better side w x ≡ v → (x ≡ v → ⊥) → w ≡ v
comes NorthSouth w x v e n = pick (int_lt x w) e
  where
    pick : (b : Bool) → cond b w x ≡ v → w ≡ v
    pick true h = h
    pick false h = absurd (n h)
comes EastWest w x v e n = pick (int_lt x w) e
  where
    pick : (b : Bool) → cond b x w ≡ v → w ≡ v
    pick true h = absurd (n h)
    pick false h = h

-- two numbers are one or not
either : (x v : ℤ) → (x ≡ v) ⊎ (x ≡ v → ⊥)
either x v = go (int_le x v) refl (int_le v x) refl
  where
    go : (b : Bool) → int_le x v ≡ b → (d : Bool) → int_le v x ≡ d → (x ≡ v) ⊎ (x ≡ v → ⊥)
    go true p true q = inl (grind (arith, ints))
    go true p false q = inr (λ e. grind (arith, ints))
    go false p d q = inr (λ e. grind (arith, ints))

-- a bid worth v that nothing of the other side betters
pub record IsStable (table : List (List ℕ)) (vulnerable : Vulnerable) (order : Order) (v : ℤ) (k : ℕ) (s : Seat) : Type 0 where
  pub some : 0 < k
  pub most : k ≤ 35
  pub worth_par : worth table vulnerable k s ≡ v
  pub higher : (j : ℕ) (t : Seat) → k < j → j ≤ 35 → IsNoBetter table vulnerable v j t
  pub earlier : (t : Seat) → place_in order t < place_in order s → IsNoBetter table vulnerable v k t

-- who stands later in the order of asking has no smaller a place, and each seat stands in it
pub record IsOrder (order : Order) (a b c d : Seat) : Type 0 where
  pub all : asked order ≡ a ∷ b ∷ c ∷ d ∷ []
  pub every : (t : Seat) → (t ≡ a) ⊎ ((t ≡ b) ⊎ ((t ≡ c) ⊎ (t ≡ d)))
  pub first : place_in order a ≤ place_in order b
  pub second : place_in order b ≤ place_in order c
  pub third : place_in order c ≤ place_in order d

module _ (table : List (List ℕ)) (vulnerable : Vulnerable) (order : Order) (v : ℤ) (a b c d : Seat) (is : IsOrder order a b c d) where
  Some_stable : Type 0
  Some_stable = (k : ℕ) × (s : Seat) × IsStable table vulnerable order v k s

  -- a seat of smaller place is one of those before
  before_a : (t : Seat) → place_in order t < place_in order a → ⊥
  before_a t h =
      let f = is.first in let g = is.second in let i = is.third in
      elim (is.every t) [
        | inl x ↦ (let e : place_in order t ≡ place_in order a = ap (place_in order) x in omega arith)
        | inr y ↦ elim y [
          | inl x ↦ (let e : place_in order t ≡ place_in order b = ap (place_in order) x in omega arith)
          | inr z ↦ elim z [
            | inl x ↦ (let e : place_in order t ≡ place_in order c = ap (place_in order) x in omega arith)
            | inr x ↦ (let e : place_in order t ≡ place_in order d = ap (place_in order) x in omega arith)
          ]
        ]
      ]

  before_b : (P : Seat → Type 0) → P a → (t : Seat) → place_in order t < place_in order b → P t
  before_b P pa t h =
      let g = is.second in let i = is.third in
      elim (is.every t) [
        | inl x ↦ subst P (sym x) pa
        | inr y ↦ absurd (elim y [
          | inl x ↦ (let e : place_in order t ≡ place_in order b = ap (place_in order) x in omega arith)
          | inr z ↦ elim z [
            | inl x ↦ (let e : place_in order t ≡ place_in order c = ap (place_in order) x in omega arith)
            | inr x ↦ (let e : place_in order t ≡ place_in order d = ap (place_in order) x in omega arith)
          ]
        ])
      ]

  before_c : (P : Seat → Type 0) → P a → P b → (t : Seat) → place_in order t < place_in order c → P t
  before_c P pa pb t h =
      let i = is.third in
      elim (is.every t) [
        | inl x ↦ subst P (sym x) pa
        | inr y ↦ elim y [
          | inl x ↦ subst P (sym x) pb
          | inr z ↦ absurd (elim z [
            | inl x ↦ (let e : place_in order t ≡ place_in order c = ap (place_in order) x in omega arith)
            | inr x ↦ (let e : place_in order t ≡ place_in order d = ap (place_in order) x in omega arith)
          ])
        ]
      ]

  before_d : (P : Seat → Type 0) → P a → P b → P c → (t : Seat) → place_in order t < place_in order d → P t
  before_d P pa pb pc t h =
      elim (is.every t) [
        | inl x ↦ subst P (sym x) pa
        | inr y ↦ elim y [
          | inl x ↦ subst P (sym x) pb
          | inr z ↦ elim z [
            | inl x ↦ subst P (sym x) pc
            | inr x ↦ absurd (let e : place_in order t ≡ place_in order d = ap (place_in order) x in omega arith)
          ]
        ]
      ]

  -- a step of the offering that ends at v: it is stable, or v stood before and the seat has nothing better
  step : (k : ℕ) → 0 < k → k ≤ 35 → ((j : ℕ) (t : Seat) → k < j → j ≤ 35 → IsNoBetter table vulnerable v j t) → (s : Seat) (x : ℤ)
      → better (side_of s) (worth table vulnerable k s) x ≡ v → ((t : Seat) → place_in order t < place_in order s → IsNoBetter table vulnerable v k t)
      → ((x ≡ v) × IsNoBetter table vulnerable v k s) ⊎ Some_stable
  unfolding Some_stable
  step k some most above s x e earlier = elim (either x v) [
    | inl same ↦ inl (same, stays (side_of s) (worth table vulnerable k s) v (sym (ap (better (side_of s) (worth table vulnerable k s)) same) ∙ e))
    | inr other ↦ inr (k, s, record { some = some; most = most; worth_par = comes (side_of s) (worth table vulnerable k s) x v e other; higher = above; earlier = earlier })
  ]

  -- go on where nothing was found
  on : {A : Type 0} → (A ⊎ Some_stable) → (A → (v ≡ pos 0) ⊎ Some_stable) → (v ≡ pos 0) ⊎ Some_stable
  on (inl x) f = f x
  on (inr found) f = inr found

  -- one bid less that can be better
  fine-more : (n : ℕ) → IsNoBetter table vulnerable v (suc n) a → IsNoBetter table vulnerable v (suc n) b → IsNoBetter table vulnerable v (suc n) c
      → IsNoBetter table vulnerable v (suc n) d → ((j : ℕ) (t : Seat) → suc n < j → j ≤ 35 → IsNoBetter table vulnerable v j t)
      → (j : ℕ) (t : Seat) → n < j → j ≤ 35 → IsNoBetter table vulnerable v j t
  fine-more n fa fb fc fd above j t low high = elim (eqb_tells j (suc n)) [
    | inl same ↦ ap (λ i. is_as_good (other_side (side_of t)) v (worth table vulnerable i t)) same.1 ∙ one_of_four t (is.every t)
    | inr other ↦ above j t (omega (arith, other.1)) high
  ]
    where
      one_of_four : (u : Seat) → (u ≡ a) ⊎ ((u ≡ b) ⊎ ((u ≡ c) ⊎ (u ≡ d))) → IsNoBetter table vulnerable v (suc n) u
      one_of_four u (inl x) = subst (λ s. IsNoBetter table vulnerable v (suc n) s) (sym x) fa
      one_of_four u (inr (inl x)) = subst (λ s. IsNoBetter table vulnerable v (suc n) s) (sym x) fb
      one_of_four u (inr (inr (inl x))) = subst (λ s. IsNoBetter table vulnerable v (suc n) s) (sym x) fc
      one_of_four u (inr (inr (inr x))) = subst (λ s. IsNoBetter table vulnerable v (suc n) s) (sym x) fd

  -- what stands after the four seats, the first of them last
  four-stand : (n : ℕ) → stands table vulnerable order (suc n)
      ≡ better (side_of a) (worth table vulnerable (suc n) a) (better (side_of b) (worth table vulnerable (suc n) b)
      (better (side_of c) (worth table vulnerable (suc n) c) (better (side_of d) (worth table vulnerable (suc n) d) (stands table vulnerable order n))))
  unfolding stands
  four-stand n = ap (λ l. offered table vulnerable (suc n) l (stands table vulnerable order n)) is.all

  none-stand : stands table vulnerable order 0 ≡ pos 0
  unfolding stands
  none-stand = refl

  -- from the highest bid down: some bid is stable, or v is 0
  find_stable : (n : ℕ) → n ≤ 35 → stands table vulnerable order n ≡ v → ((j : ℕ) (t : Seat) → n < j → j ≤ 35 → IsNoBetter table vulnerable v j t)
      → (v ≡ pos 0) ⊎ Some_stable
  find_stable zero most e above = inl (sym e ∙ none-stand)
  find_stable (suc n) most e above =
      on (step (suc n) (omega arith) most above a _ (sym (four-stand n) ∙ e) (λ t h. absurd (before_a t h))) (λ ra.
      on (step (suc n) (omega arith) most above b _ ra.0 (before_b (IsNoBetter table vulnerable v (suc n)) ra.1)) (λ rb.
      on (step (suc n) (omega arith) most above c _ rb.0 (before_c (IsNoBetter table vulnerable v (suc n)) ra.1 rb.1)) (λ rc.
      on (step (suc n) (omega arith) most above d _ rc.0 (before_d (IsNoBetter table vulnerable v (suc n)) ra.1 rb.1 rc.1)) (λ rd.
      find_stable n (omega arith) rd.0 (fine-more n ra.1 rb.1 rc.1 rd.1 above)))))

-- the seats in each order
every_nesw : (t : Seat) → (t ≡ North) ⊎ ((t ≡ East) ⊎ ((t ≡ South) ⊎ (t ≡ West)))
every_nesw North = inl refl
every_nesw East = inr (inl refl)
every_nesw South = inr (inr (inl refl))
every_nesw West = inr (inr (inr refl))

every_eswn : (t : Seat) → (t ≡ East) ⊎ ((t ≡ South) ⊎ ((t ≡ West) ⊎ (t ≡ North)))
every_eswn North = inr (inr (inr refl))
every_eswn East = inl refl
every_eswn South = inr (inl refl)
every_eswn West = inr (inr (inl refl))

every_swne : (t : Seat) → (t ≡ South) ⊎ ((t ≡ West) ⊎ ((t ≡ North) ⊎ (t ≡ East)))
every_swne North = inr (inr (inl refl))
every_swne East = inr (inr (inr refl))
every_swne South = inl refl
every_swne West = inr (inl refl)

every_wnes : (t : Seat) → (t ≡ West) ⊎ ((t ≡ North) ⊎ ((t ≡ East) ⊎ (t ≡ South)))
every_wnes North = inr (inl refl)
every_wnes East = inr (inr (inl refl))
every_wnes South = inr (inr (inr refl))
every_wnes West = inl refl

every_nsew : (t : Seat) → (t ≡ North) ⊎ ((t ≡ South) ⊎ ((t ≡ East) ⊎ (t ≡ West)))
every_nsew North = inl refl
every_nsew East = inr (inr (inl refl))
every_nsew South = inr (inl refl)
every_nsew West = inr (inr (inr refl))

every_ewsn : (t : Seat) → (t ≡ East) ⊎ ((t ≡ West) ⊎ ((t ≡ South) ⊎ (t ≡ North)))
every_ewsn North = inr (inr (inr refl))
every_ewsn East = inl refl
every_ewsn South = inr (inr (inl refl))
every_ewsn West = inr (inl refl)

-- each order is one
pub order-is : (order : Order) → (a : Seat) × (b : Seat) × (c : Seat) × (d : Seat) × IsOrder order a b c d
order-is (Dealer North) = (North, East, South, West, record { all = refl; every = every_nesw; first = omega arith; second = omega arith; third = omega arith })
order-is (Dealer East) = (East, South, West, North, record { all = refl; every = every_eswn; first = omega arith; second = omega arith; third = omega arith })
order-is (Dealer South) = (South, West, North, East, record { all = refl; every = every_swne; first = omega arith; second = omega arith; third = omega arith })
order-is (Dealer West) = (West, North, East, South, record { all = refl; every = every_wnes; first = omega arith; second = omega arith; third = omega arith })
order-is (First NorthSouth) = (North, South, East, West, record { all = refl; every = every_nsew; first = omega arith; second = omega arith; third = omega arith })
order-is (First EastWest) = (East, West, South, North, record { all = refl; every = every_ewsn; first = omega arith; second = omega arith; third = omega arith })

-- par other than 0 has a stable bid
pub some_stable : (table : List (List ℕ)) (vulnerable : Vulnerable) (order : Order) (v : ℤ) → stands table vulnerable order 35 ≡ v
    → (v ≡ pos 0) ⊎ ((k : ℕ) × (s : Seat) × IsStable table vulnerable order v k s)
unfolding Some_stable
some_stable table vulnerable order v e =
    let o : (a : Seat) × (b : Seat) × (c : Seat) × (d : Seat) × IsOrder order a b c d = order-is order in
    find_stable table vulnerable order v o.0 o.1 o.2 o.3 o.4 35 (omega arith) e (λ j t low high. absurd (omega arith))
