-- The cards of a mask, as a list, give the mask back.
use Rattle.std.proofs.Common.{◌≡◌, ℕ, zero, suc, ◌%◌, ◌^◌, ◌<◌, ◌≤◌, Bool, true, false, cond, refl, sym, ap, ◌∙◌, arith, List, [], ◌∷◌, inl, inr, max}
use Rattle.std.specs.Prelude.{filter, ◌==◌, ◌&&◌, ◌||◌, nat_le}
use Rattle.std.specs.List.{list_any}
use mathlib.Core.Bool.{not}
use Rattle.std.specs.Int.{bit_at}
use Rattle.std.proofs.lemmas.Nat.Bits.{bit_at-lt, bit_at-zero, bit_at_or, bit_at-pow_same, bit_at-pow_other, same_from_bits}
use Rattle.std.proofs.lemmas.Bool.Decides.{eqb_tells}
use Rattle.std.proofs.lemmas.Bool.{eqb-true, le-leb}
use Rattle.dd_cards.specs.PlayingCard.{PlayingCard}
use Rattle.dd_cards.specs.Cards.{deck, place_of}
use Rattle.dd_cards.specs.HandMasks.{IsHandMask, in_hand, cards_of, hand_mask_of}
use Rattle.dd_cards.specs.declared.hand.Hand.TheInside.{Inside}

-- is the bit i that of one of the cards?
abbrev has_place : ℕ → List PlayingCard → Bool
has_place i cards = list_any (λ c. place_of c == i) cards

bit-kept : (m i : ℕ) (cards : List PlayingCard) → bit_at (hand_mask_of (filter (in_hand m) cards)) i ≡ cond (has_place i cards) (bit_at m i) 0
bit-kept m i [] = bit_at-zero i
bit-kept m i (c ∷ cards) = go (in_hand m c) refl (bit-kept m i cards)
  where
    rest : ℕ
    rest = hand_mask_of (filter (in_hand m) cards)

    either : (b : Bool) (x : ℕ) → x ≡ 0 → cond b x 0 ≡ x
    either true x e = refl
    either false x e = sym e

    here : (b : Bool) → b ≡ in_hand m c → place_of c ≡ i → bit_at m i ≡ cond b 1 0
    here true e p = sym (ap (bit_at m) p) ∙ eqb-true _ _ (sym e)
    here false e p = elim (eqb_tells (bit_at m (place_of c)) 1) [
      | inl same ↦ absurd (let no : false ≡ true = e ∙ same.0 in cc)
      | inr other ↦ (let l = bit_at-lt m (place_of c) in let q : bit_at m (place_of c) ≡ bit_at m i = ap (bit_at m) p in omega (arith, other.1))
    ]

    go : (b : Bool) → in_hand m c ≡ b → bit_at rest i ≡ cond (has_place i cards) (bit_at m i) 0
        → bit_at (hand_mask_of (cond b (c ∷ filter (in_hand m) cards) (filter (in_hand m) cards))) i ≡ cond (has_place i (c ∷ cards)) (bit_at m i) 0
    go true e ih = elim (eqb_tells (place_of c) i) [
      | inl same ↦ rw (same.0, bit_at_or (2 ^ place_of c) rest i) (
          let one : bit_at m i ≡ 1 = here true (sym e) same.1 in
          let set : bit_at (2 ^ place_of c) i ≡ 1 = ap (bit_at (2 ^ place_of c)) (sym same.1) ∙ bit_at-pow_same (place_of c) in
          let l = bit_at-lt rest i in
          omega (arith, one, set, l))
      | inr other ↦ rw (other.0, bit_at_or (2 ^ place_of c) rest i) (
          let none : bit_at (2 ^ place_of c) i ≡ 0 = bit_at-pow_other (place_of c) i (λ f. other.1 (sym f)) in
          ap (λ x. max x (bit_at rest i)) none ∙ (let z : max 0 (bit_at rest i) ≡ bit_at rest i = omega arith in z) ∙ ih)
    ]
    go false e ih = elim (eqb_tells (place_of c) i) [
      | inl same ↦ rw same.0 (
          let zero_here : bit_at m i ≡ 0 = here false (sym e) same.1 in
          ih ∙ either (has_place i cards) (bit_at m i) zero_here)
      | inr other ↦ rw other.0 ih
    ]

all_below : (ℕ → Bool) → ℕ → Bool
all_below p zero = true
all_below p (suc n) = p n && all_below p n

all_below-at : (p : ℕ → Bool) (n i : ℕ) → all_below p n ≡ true → i < n → p i ≡ true
unfolding all_below
all_below-at p zero i all h = absurd (omega arith)
all_below-at p (suc n) i all h = elim (eqb_tells i n) [
  | inl same ↦ ap p same.1 ∙ left (p n) (all_below p n) all
  | inr other ↦ all_below-at p n i (right (p n) (all_below p n) all) (omega (arith, other.1))
]
  where
    left : (a b : Bool) → (a && b) ≡ true → a ≡ true
    left true b h = refl
    left false b h = h

    right : (a b : Bool) → (a && b) ≡ true → b ≡ true
    right true b h = h
    right false b h = absurd (cc)

is_place : ℕ → Bool
is_place i = nat_le 2 (i % 16) && nat_le (i % 16) 14

every-place : all_below (λ i. not (is_place i) || has_place i deck) 64 ≡ true
unfolding all_below is_place deck Rattle.dd_cards.specs.Cards.suit_cards Rattle.dd_cards.specs.Ranks.all_ranks Rattle.dd_cards.specs.Ranks.lowest_ranks
every-place = refl

has-place : (i : ℕ) → i < 64 → 2 ≤ i % 16 → i % 16 ≤ 14 → has_place i deck ≡ true
unfolding is_place
has-place i h low high = go (is_place i) refl (all_below-at (λ i. not (is_place i) || has_place i deck) 64 i every-place h)
  where
    yes : is_place i ≡ true
    yes = rw (le-leb 2 (i % 16) low, le-leb (i % 16) 14 high) refl

    go : (b : Bool) → is_place i ≡ b → (not b || has_place i deck) ≡ true → has_place i deck ≡ true
    go true e h = h
    go false e h = absurd (let no : true ≡ false = sym yes ∙ e in cc)

pub hand_mask_of-cards : (m : ℕ) → IsHandMask m → hand_mask_of (cards_of m) ≡ m
unfolding cards_of
hand_mask_of-cards m valid = same_from_bits (hand_mask_of (filter (in_hand m) deck)) m (λ i. bit-kept m i deck ∙ go i (has_place i deck) refl)
  where
    go : (i : ℕ) (b : Bool) → has_place i deck ≡ b → cond b (bit_at m i) 0 ≡ bit_at m i
    go i true e = refl
    go i false e = elim (eqb_tells (bit_at m i) 1) [
      | inl set ↦ absurd (let v = valid i set.1 in let no : false ≡ true = sym e ∙ has-place i v.0 v.1 v.2 in cc)
      | inr clear ↦ (let l = bit_at-lt m i in omega (arith, clear.1))
    ]

pub hand_mask_of-cards_of : (h : Inside) → IsHandMask h.mask → record { mask = hand_mask_of (cards_of h.mask) } ≡ h
hand_mask_of-cards_of h valid =
    let P : ℕ → Inside = λ m. record { mask = m } in
    ap P (hand_mask_of-cards h.mask valid)
