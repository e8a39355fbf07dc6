-- cards by their places
use Rattle.std.proofs.Common.{◌≡◌, ◌≢◌, ℕ, zero, suc, ◌+◌, ◌-◌, ◌*◌, ◌/◌, ◌%◌, ◌^◌, ◌<◌, ◌≤◌, true, false, refl, sym, ap, ◌∙◌, subst, arith, List, [], ◌∷◌, inl, inr, bit_and, w64, lit<, nat_eq, eq-eqb}
use Rattle.std.specs.Prelude.{filter, ◌==◌, ◌&&◌, nat_lt}
use Rattle.std.specs.Int.{bit_at, bit_not, leading_zeros, trailing_zeros}
use mathlib.Core.Bool.{not}
use mathlib.Core.Path.{ap₂}
use Rattle.std.proofs.lemmas.Bool.{eqb-true, cases_lt}
use Rattle.std.proofs.lemmas.Bool.Decides.{eqb_tells, nat_tests}
use Rattle.std.proofs.lemmas.Nat.{one_shl}
use Rattle.std.proofs.Math.Nat.{pow-le-pow_right}
use Rattle.std.proofs.lemmas.Nat.Bits.{bit_at-trailing_zeros, bit_at_mask_inside, bit_at_mask_below, bit_at_mask_above}
use Rattle.dd_cards.specs.declared.suit.Suit.{Suit}
use Rattle.dd_cards.specs.declared.seat.Seat.{Seat}
use Rattle.dd_cards.specs.declared.seat.Seat.TheVariants.{North, East, South, West}
use Rattle.dd_cards.specs.Suits.{suit_code, suit_shift}
use Rattle.dd_cards.specs.Ranks.{IsRank}
use Rattle.dd_cards.specs.PlayingCard.{PlayingCard}
use Rattle.dd_cards.specs.Cards.{is_of, card_of, deck, has_card, place_of}
use Rattle.dd_cards.specs.HandMasks.{in_hand, cards_of, mask_at, hands_of, IsHandMask, AreHandMasks}
use Rattle.dd_cards.specs.Hands.{dealt, hand_of, AreHands}
use Rattle.dd_cards.specs.Places.{IsPlace, suit_of_lane, at_place}
use Rattle.dd_cards.specs.PlaceLaws.{suit_of_lane-shift, place_of-at_place}
use Rattle.dd_cards.proofs.CardLists.{suit_code-lt, suit_code-injective, compared}
use Rattle.dd_cards.proofs.HandLists.{filter-deck, has_card-cards_of, hand_of-masks, bit_of-and, place_of-lt, place_of-mod}
use Rattle.dd_cards.proofs.Firsts.{cards_of-highest, highest-leading}
use Rattle.dd_cards.proofs.Unions.{cards-real}

-- the card of a place is real
pub at_place-real : (n : ℕ) → IsPlace n → IsRank (at_place n).rank
unfolding at_place
at_place-real n valid = (valid.1, valid.2)

-- a real card's place is a place
pub place_of-valid : (c : PlayingCard) → IsRank c.rank → IsPlace (place_of c)
place_of-valid c real = (place_of-lt c real, rw (place_of-mod c real) real.0, rw (place_of-mod c real) real.1)

-- .. and gives the card back
pub at_place-place_of : (c : PlayingCard) → IsRank c.rank → at_place (place_of c) ≡ c
at_place-place_of c real =
    let n : ℕ = place_of c in
    elim (compared (at_place n) c (at_place-real n (place_of-valid c real)) real) [
      | inl same ↦ same.1
      | inr other ↦ absurd (other.1 (place_of-at_place n (place_of-lt c real)))
    ]

-- the suit whose bits are a place's lane is its suit
pub at_place-suit : (n : ℕ) (s : Suit) → IsPlace n → suit_shift s ≡ 16 * (n / 16) → s ≡ (at_place n).suit
unfolding at_place
at_place-suit n s valid e =
    let h = valid.0 in
    let f = suit_of_lane-shift (n / 16) (omega (arith, h)) in
    let k = suit_code-lt s in
    let j = suit_code-lt (suit_of_lane (n / 16)) in
    suit_code-injective _ _ (omega (arith, e, f, k, j))

-- where a place's lane begins
pub at_place-shift : (n : ℕ) → IsPlace n → n - n % 16 ≡ suit_shift (at_place n).suit
unfolding at_place
at_place-shift n valid =
    let e = suit_of_lane-shift (n / 16) (let h = valid.0 in omega (arith, h)) in
    omega (arith, e)

-- the code of a lane's suit
suit_of_lane-code : (lane : ℕ) → lane < 4 → suit_code (suit_of_lane lane) ≡ 3 - lane
suit_of_lane-code zero h = refl
suit_of_lane-code (suc zero) h = refl
suit_of_lane-code (suc (suc zero)) h = refl
suit_of_lane-code (suc (suc (suc zero))) h = refl
suit_of_lane-code (suc (suc (suc (suc lane)))) h = absurd (omega (arith, h))

-- two places in one lane are of one suit
pub one-lane : (m n : ℕ) → IsPlace m → IsPlace n → nat_eq (m / 16) (n / 16) ≡ is_of (at_place n).suit (at_place m)
unfolding at_place
one-lane m n valid valid' =
    let h = valid.0 in
    let h' = valid'.0 in
    rw (suit_of_lane-code (m / 16) (omega (arith, h)), suit_of_lane-code (n / 16) (omega (arith, h'))) (turned (m / 16) (n / 16) (omega (arith, h)) (omega (arith, h')))
  where
    turned : (a b : ℕ) → a < 4 → b < 4 → nat_eq a b ≡ nat_eq (3 - a) (3 - b)
    turned a b h k = grind (arith, nat_tests)

-- ---- the cards of a suit from the ace down to one of them
-- the bits from the card's own on
abbrev from_place : PlayingCard → ℕ
from_place c = 2 ^ (suit_shift c.suit + 15) - 2 ^ place_of c

-- as they are written
written : (c : PlayingCard) → IsRank c.rank → 1 * 2 ^ (suit_shift c.suit + 15) % 2 ^ 64 - 1 * 2 ^ place_of c % 2 ^ 64 ≡ from_place c
written c real =
    let k = suit_code-lt c.suit in
    rw (one_shl (suit_shift c.suit + 15) 64 (omega (arith, k)), one_shl (place_of c) 64 (place_of-lt c real)) refl

pub from-falls : (c : PlayingCard) → IsRank c.rank → 1 * 2 ^ place_of c % 2 ^ 64 ≤ 1 * 2 ^ (suit_shift c.suit + 15) % 2 ^ 64
from-falls c real =
    let k = suit_code-lt c.suit in
    let high = real.1 in
    let le : 2 ^ place_of c ≤ 2 ^ (suit_shift c.suit + 15) = pow-le-pow_right (lit< tt) {i = place_of c} {j = suit_shift c.suit + 15} (omega (arith, high)) in
    rw (one_shl (suit_shift c.suit + 15) 64 (omega (arith, k)), one_shl (place_of c) 64 (place_of-lt c real)) le

-- they are the bits of cards
pub from-valid : (c : PlayingCard) → IsRank c.rank → IsHandMask (1 * 2 ^ (suit_shift c.suit + 15) % 2 ^ 64 - 1 * 2 ^ place_of c % 2 ^ 64)
from-valid c real i h =
    let set : bit_at (from_place c) i ≡ 1 = ap (λ x. bit_at x i) (sym (written c real)) ∙ h in
    elim (cases_lt i (place_of c)) [
      | inl low ↦ absurd (let none = bit_at_mask_below (place_of c) (suit_shift c.suit + 15) i low in omega (arith, none, set))
      | inr from ↦ elim (cases_lt i (suit_shift c.suit + 15)) [
        | inl to ↦ within from to
        | inr high ↦ absurd (let none = bit_at_mask_above (place_of c) (suit_shift c.suit + 15) i high in omega (arith, none, set))
      ]
    ]
  where
    within : place_of c ≤ i → i < suit_shift c.suit + 15 → IsPlace i
    within from to =
        let k = suit_code-lt c.suit in
        let low = real.0 in
        (omega (arith, k, from, to), omega (arith, k, low, from, to), omega (arith, k, low, from, to))

-- they are the suit's cards that are no lower
from-set : (c d : PlayingCard) → IsRank c.rank → IsRank d.rank → (bit_at (from_place c) (place_of d) == 1) ≡ (is_of c.suit d && not (nat_lt d.rank c.rank))
from-set c d real real' =
    let k = suit_code-lt c.suit in
    let j = suit_code-lt d.suit in
    let low = real.0 in
    let high = real'.1 in
    let low' = real'.0 in
    elim (eqb_tells (suit_code d.suit) (suit_code c.suit)) [
      | inl same ↦ rw same.0 (
          let e = same.1 in
          elim (cases_lt d.rank c.rank) [
            | inl l ↦ ap (λ x. x == 1) (bit_at_mask_below (place_of c) (suit_shift c.suit + 15) (place_of d) (omega (arith, e, l, k, j))) ∙ sym (lower d.rank c.rank l)
            | inr l ↦ ap (λ x. x == 1) (bit_at_mask_inside (place_of c) (suit_shift c.suit + 15) (place_of d) (omega (arith, e, l, k, j)) (omega (arith, e, high, k, j))) ∙ sym (no-lower d.rank c.rank l)
          ])
      | inr other ↦ rw other.0 (
          let o = other.1 in
          elim (cases_lt (place_of d) (place_of c)) [
            | inl l ↦ ap (λ x. x == 1) (bit_at_mask_below (place_of c) (suit_shift c.suit + 15) (place_of d) l)
            | inr l ↦ ap (λ x. x == 1) (bit_at_mask_above (place_of c) (suit_shift c.suit + 15) (place_of d) (omega (arith, o, l, low, low', high, k, j)))
          ])
    ]
  where
    lower : (a b : ℕ) → a < b → not (nat_lt a b) ≡ false
    lower a b h = grind (arith, nat_tests)

    no-lower : (a b : ℕ) → b ≤ a → not (nat_lt a b) ≡ true
    no-lower a b h = grind (arith, nat_tests)

pub cards_of-down_to : (c : PlayingCard) → IsRank c.rank
    → cards_of (1 * 2 ^ (suit_shift c.suit + 15) % 2 ^ 64 - 1 * 2 ^ place_of c % 2 ^ 64) ≡ filter (λ d. is_of c.suit d && not (nat_lt d.rank c.rank)) deck
unfolding cards_of
cards_of-down_to c real =
    ap (λ x. filter (in_hand x) deck) (written c real)
    ∙ filter-deck (in_hand (from_place c)) (λ d. is_of c.suit d && not (nat_lt d.rank c.rank)) (λ d real'. from-set c d real real')

-- ---- a card of a hand by its bit
-- a bit that is set is that of a card
pub at_place-held : (m n : ℕ) → IsHandMask m → bit_at m n ≡ 1 → has_card (cards_of m) (at_place n) ≡ true
at_place-held m n valid set =
    let place : IsPlace n = valid n set in
    has_card-cards_of m (at_place n) (at_place-real n place) ∙ ap (λ i. bit_at m i == 1) (place_of-at_place n place.0) ∙ eq-eqb _ _ set

-- the highest bit
pub highest-set : (m : ℕ) → m ≢ 0 → m < 2 ^ 64 → bit_at m (63 - leading_zeros w64 m) ≡ 1
highest-set m some small = (highest-leading m (omega (arith, some)) small).member

-- the lowest bit
pub lowest-set : (m : ℕ) → m ≢ 0 → m < 2 ^ 64 → bit_at m (trailing_zeros w64 m) ≡ 1
lowest-set m some small = (bit_at-trailing_zeros w64 m (omega (arith, some)) small).1

-- without its highest bit a hand has all cards but the first
pub at_place-first : (m : ℕ) → IsHandMask m → m ≢ 0 → m < 2 ^ 64
    → cards_of m ≡ at_place (63 - leading_zeros w64 m) ∷ cards_of (bit_and m (bit_not w64 (1 * 2 ^ (63 - leading_zeros w64 m) % 2 ^ 64)))
at_place-first m valid some small =
    let n : ℕ = 63 - leading_zeros w64 m in
    let top = highest-leading m (omega (arith, some)) small in
    let place : IsPlace n = valid n top.member in
    let e : place_of (at_place n) ≡ n = place_of-at_place n place.0 in
    cards_of-highest m (at_place n) (at_place-real n place) (rw e top)
    ∙ ap (λ i. at_place n ∷ cards_of (bit_and m (bit_not w64 (1 * 2 ^ i % 2 ^ 64)))) e

-- fewer bits are fewer cards
pub cards_of-fewer : (m n : ℕ) (c : PlayingCard) → has_card (cards_of (bit_and m n)) c ≡ true → has_card (cards_of m) c ≡ true
cards_of-fewer m n c h =
    let real : IsRank c.rank = cards-real (bit_and m n) c h in
    let set : bit_at (bit_and m n) (place_of c) ≡ 1 = eqb-true _ _ (sym (has_card-cards_of (bit_and m n) c real) ∙ h) in
    has_card-cards_of m c real ∙ eq-eqb _ _ (bit_of-and m n (place_of c) set)

-- ---- four hands
-- where no card is in two hands, no bit is in two masks
shared : (masks : List ℕ) → ((s : Seat) → IsHandMask (mask_at masks s)) → AreHands (hands_of masks) → AreHandMasks masks
shared masks valid hands = record {
  cards_only = valid;
  one_holder = λ i s t h k. hands.disjoint (at_place i) s t (held i s h) (held i t k);
}
  where
    held : (i : ℕ) (s : Seat) → bit_at (mask_at masks s) i ≡ 1 → has_card (hand_of (hands_of masks) s) (at_place i) ≡ true
    held i s h = ap (λ cards. has_card cards (at_place i)) (hand_of-masks masks s) ∙ at_place-held (mask_at masks s) i (valid s) h

pub AreHandMasks-four : (a b c d : ℕ) (north east south west : List PlayingCard) → IsHandMask a → IsHandMask b → IsHandMask c → IsHandMask d
    → cards_of a ≡ north → cards_of b ≡ east → cards_of c ≡ south → cards_of d ≡ west
    → AreHands (dealt north east south west) → AreHandMasks (a ∷ b ∷ c ∷ d ∷ [])
AreHandMasks-four a b c d north east south west va vb vc vd ea eb ec ed hands =
    shared (a ∷ b ∷ c ∷ d ∷ []) each (subst AreHands (let same : dealt north east south west ≡ dealt (cards_of a) (cards_of b) (cards_of c) (cards_of d) = rw (ea, eb, ec, ed) refl in same) hands)
  where
    each : (s : Seat) → IsHandMask (mask_at (a ∷ b ∷ c ∷ d ∷ []) s)
    each North = va
    each East = vb
    each South = vc
    each West = vd

-- the place of the card some ranks higher
pub at_place-higher : (n k : ℕ) → IsPlace n → (at_place n).rank + k ≤ 14 → IsPlace (n + k) × (at_place (n + k) ≡ card_of (at_place n).suit ((at_place n).rank + k))
unfolding at_place
at_place-higher n k valid high =
    let small = valid.0 in
    let low = valid.1 in
    let lane : (n + k) / 16 ≡ n / 16 = omega (arith, high) in
    let rank : (n + k) % 16 ≡ n % 16 + k = omega (arith, high) in
    ((omega (arith, small, high), omega (arith, low, rank), omega (arith, high, rank)), ap₂ (λ l r. card_of (suit_of_lane l) r) lane rank)
