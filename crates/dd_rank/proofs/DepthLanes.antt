-- depths as the bits of so many of each suit's highest cards
use Rattle.std.proofs.Common.{◌≡◌, ℕ, zero, suc, ◌+◌, ◌*◌, ◌%◌, ◌^◌, ◌<◌, ◌≤◌, Bool, true, false, refl, sym, ap, ◌∙◌, subst, arith, nat_eq, eqb-true, inl, inr}
use Rattle.std.specs.Prelude.{◌&&◌, count_ones}
use Rattle.std.proofs.lemmas.Bool.{cases_lt}
use Rattle.dd_cards.specs.declared.suit.Suit.{Suit}
use Rattle.dd_cards.specs.declared.suit.Suit.TheVariants.{Spades, Hearts, Diamonds, Clubs}
use Rattle.dd_rank.specs.Depths.{FourDepths, depth_in}
use Rattle.dd_rank.specs.DepthMasks.{AreTops, depths_in, tops_of}
use Rattle.dd_rank.specs.FirstOwners.{top_places}
use Rattle.dd_rank.specs.Lanes.{lane}
use Rattle.dd_rank.proofs.FourLanes.{lane-of, lanes-small}
use Rattle.dd_rank.proofs.TopPlaces.{tops-small}

unfoldable pub all_below : (ℕ → Bool) → ℕ → Bool
all_below p zero = true
all_below p (suc n) = p n && all_below p n

pub all_below-at : (p : ℕ → Bool) (n i : ℕ) → all_below p n ≡ true → i < n → p i ≡ true
unfolding all_below
all_below-at p zero i all h = absurd (omega (arith, h))
all_below-at p (suc n) i all h = elim (cases_lt i n) [
  | inl less ↦ all_below-at p n i (right (p n) (all_below p n) all) less
  | inr more ↦ (let e : i ≡ n = omega (arith, more, h) in ap p e ∙ left (p n) (all_below p n) all)
]
  where
    left : (a b : Bool) → (a && b) ≡ true → a ≡ true
    left true b h = refl
    left false b h = h

    right : (a b : Bool) → (a && b) ≡ true → b ≡ true
    right true b h = h
    right false b h = absurd (cc)

each-counted : all_below (λ d. nat_eq (count_ones (top_places d)) d) 14 ≡ true
unfolding all_below lib.Count.ones
each-counted = refl

-- so many bits are set
pub ones-tops : (d : ℕ) → d ≤ 13 → count_ones (top_places d) ≡ d
ones-tops d few = eqb-true _ _ (all_below-at (λ d. nat_eq (count_ones (top_places d)) d) 14 d each-counted (omega (arith, few)))

-- the bits of each suit
pub lane-tops : (d : FourDepths) (u : Suit) → lane (tops_of d) u ≡ top_places (depth_in d u)
lane-tops d u = lane-of (λ v. top_places (depth_in d v)) (λ v. (let t = tops-small (depth_in d v) in omega (arith, t))) u

-- they are 64 bits
pub tops-fit : (d : FourDepths) → tops_of d < 2 ^ 64
tops-fit d = lanes-small (λ v. top_places (depth_in d v)) (λ v. (let t = tops-small (depth_in d v) in omega (arith, t)))

-- four equal depths
same-four : (a b c d a' b' c' d' : ℕ) → a ≡ a' → b ≡ b' → c ≡ c' → d ≡ d'
    → ◌≡◌ {A = FourDepths} (record { spades = a; hearts = b; diamonds = c; clubs = d }) (record { spades = a'; hearts = b'; diamonds = c'; clubs = d' })
same-four a b c d a' b' c' d' ea eb ec ed =
    let four : ℕ → ℕ → ℕ → ℕ → FourDepths = λ s h i j. record { spades = s; hearts = h; diamonds = i; clubs = j } in
    ap (λ n. four n b c d) ea ∙ ap (λ n. four a' n c d) eb ∙ ap (λ n. four a' b' n d) ec ∙ ap (λ n. four a' b' c' n) ed

-- and are read back
pub depths-back : (d : FourDepths) → ((u : Suit) → depth_in d u ≤ 13) → depths_in (tops_of d) ≡ d
depths-back d few = same-four _ _ _ _ d.spades d.hearts d.diamonds d.clubs (each Spades) (each Hearts) (each Diamonds) (each Clubs)
  where
    each : (u : Suit) → count_ones (lane (tops_of d) u) ≡ depth_in d u
    each u = ap count_ones (lane-tops d u) ∙ ones-tops (depth_in d u) (few u)

pub are-tops : (d : FourDepths) → ((u : Suit) → depth_in d u ≤ 13) → AreTops (tops_of d)
are-tops d few = record {
  few = λ u. subst (λ (e : FourDepths). depth_in e u ≤ 13) (sym (depths-back d few)) (few u);
  highest = ap tops_of (depths-back d few);
}

-- what code makes of the bits of four suits
pub moved-tops : (s h d c : ℕ) → s < 2 ^ 15 → h < 2 ^ 15 → d < 2 ^ 15 → c < 2 ^ 15
    → s * 2 ^ 48 % 2 ^ 64 + h * 2 ^ 32 % 2 ^ 64 + d * 2 ^ 16 % 2 ^ 64 + c ≡ c + 65536 * d + 4294967296 * h + 281474976710656 * s
moved-tops s h d c ls lh ld lc = omega (arith, ls, lh, ld, lc)
