-- four hands by the bits of their cards
use Rattle.std.proofs.Common.{◌≡◌, ℕ, zero, suc, ◌+◌, ◌-◌, ◌*◌, ◌/◌, ◌%◌, ◌^◌, ◌<◌, ◌≤◌, Bool, true, false, cond, refl, sym, ap, ◌∙◌, subst, arith, List, [], ◌∷◌, Option, inl, inr}
use Rattle.std.specs.Prelude.{map, filter, ◌==◌, ◌||◌, ◌&&◌, count_ones}
use Rattle.std.specs.Int.{bit_at, w64}
use Rattle.std.proofs.lemmas.Nat.{shr-shr}
use Rattle.std.proofs.lemmas.Nat.Bits.{bit_at-lt, bit_at_above, bit_at_not}
use Rattle.std.proofs.lemmas.Bool.{cases_lt}
use mathlib.Core.Path.{ap₂}
use Rattle.dd_cards.specs.declared.seat.Seat.{Seat}
use Rattle.dd_cards.specs.declared.seat.Seat.TheVariants.{North, East, South, West}
use Rattle.dd_cards.specs.declared.suit.Suit.{Suit}
use Rattle.dd_cards.specs.declared.suit.Suit.TheVariants.{Spades, Hearts, Diamonds, Clubs}
use Rattle.dd_cards.specs.PlayingCard.{PlayingCard}
use Rattle.dd_cards.specs.Suits.{suit_shift}
use Rattle.dd_cards.specs.Ranks.{IsRank, all_ranks}
use Rattle.dd_cards.specs.Masks.{IsMask}
use Rattle.dd_cards.specs.Seats.{seat_code}
use Rattle.dd_cards.specs.Cards.{has_card, card_of, deck, suit_cards}
use Rattle.dd_cards.specs.HandMasks.{IsHandMask, cards_of}
use Rattle.dd_cards.specs.Hands.{AreHands, FourHands, IsSet, dealt, hand_of}
use Rattle.dd_cards.proofs.CallerLemmas.{and-true, card-bit, has_card-deck, has_card-filter, length-suit, suit-ones, real_ranks}
use Rattle.dd_play.specs.Covers.{count_of}
use Rattle.dd_rank.specs.Owners.{holder, owners_in}
use Rattle.dd_rank.specs.Strings.{number_of}
use Rattle.dd_rank.specs.Lanes.{is_clear, lane, places_of}
use Rattle.dd_rank.proofs.FourLanes.{lane-bit}
use Rattle.dd_rank.proofs.Holders.{by-ranks}
use Rattle.dd_rank.proofs.Suited.{IsTold, told-list, by-flags}

-- ---- lengths
-- the four lengths of a hand
pub record AreLengths (n : ℕ) (cards : List PlayingCard) : Type 0 where
  pub is : n ≡ number_of 65536 (count_of Clubs cards ∷ count_of Diamonds cards ∷ count_of Hearts cards ∷ count_of Spades cards ∷ [])
  pub small : (u : Suit) → count_of u cards ≤ 13

-- by the bits of its mask
pub lengths-of : (m n : ℕ) (cards : List PlayingCard) → cards_of m ≡ cards → IsHandMask m → IsSet cards
    → n ≡ number_of 65536 (count_ones (lane m Clubs) ∷ count_ones (lane m Diamonds) ∷ count_ones (lane m Hearts) ∷ count_ones (lane m Spades) ∷ []) → AreLengths n cards
lengths-of m n cards same valid set is = record {
  is = is ∙ four _ _ _ _ _ _ _ _ (each Clubs) (each Diamonds) (each Hearts) (each Spades);
  small = λ u. length-suit u cards set;
}
  where
    each : (u : Suit) → count_ones (lane m u) ≡ count_of u cards
    each u = sym (suit-ones m u valid) ∙ ap (count_of u) same

    four : (a b c d e f g h : ℕ) → a ≡ e → b ≡ f → c ≡ g → d ≡ h → number_of 65536 (a ∷ b ∷ c ∷ d ∷ []) ≡ number_of 65536 (e ∷ f ∷ g ∷ h ∷ [])
    four a b c d e f g h ea eb ec ed = omega arith

-- the lengths of four hands, together by hand and together by suit
pub record AreTogether (l s t f : List PlayingCard) (i j k n : ℕ) : Type 0 where
  pub last_fits : n * 4096 < 2 ^ 64
  pub fits : i + j * 16 + k * 256 + n * 4096 < 2 ^ 64
  pub by_suit : i + j * 16 + k * 256 + n * 4096
      ≡ number_of 16 (count_of Clubs l ∷ count_of Clubs s ∷ count_of Clubs t ∷ count_of Clubs f ∷ []) + number_of 16 (count_of Diamonds l ∷ count_of Diamonds s ∷ count_of Diamonds t ∷ count_of Diamonds f ∷ []) * 65536
      + number_of 16 (count_of Hearts l ∷ count_of Hearts s ∷ count_of Hearts t ∷ count_of Hearts f ∷ []) * 4294967296 + number_of 16 (count_of Spades l ∷ count_of Spades s ∷ count_of Spades t ∷ count_of Spades f ∷ []) * 281474976710656

pub all-together : (l s t f : List PlayingCard) (i j k n : ℕ) → AreLengths i l → AreLengths j s → AreLengths k t → AreLengths n f → AreTogether l s t f i j k n
all-together l s t f i j k n li ls lt lf = record {
  last_fits = small n _ _ _ _ lf.is (lf.small Clubs) (lf.small Diamonds) (lf.small Hearts) (lf.small Spades);
  fits =
      let a = quarter i _ _ _ _ li.is (li.small Clubs) (li.small Diamonds) (li.small Hearts) (li.small Spades) in
      let b = quarter j _ _ _ _ ls.is (ls.small Clubs) (ls.small Diamonds) (ls.small Hearts) (ls.small Spades) in
      let c = quarter k _ _ _ _ lt.is (lt.small Clubs) (lt.small Diamonds) (lt.small Hearts) (lt.small Spades) in
      let d = quarter n _ _ _ _ lf.is (lf.small Clubs) (lf.small Diamonds) (lf.small Hearts) (lf.small Spades) in
      omega (arith, a, b, c, d);
  by_suit = turned i j k n _ _ _ _ _ _ _ _ _ _ _ _ _ _ _ _ li.is ls.is lt.is lf.is;
}
  where
    quarter : (n a b c d : ℕ) → n ≡ number_of 65536 (a ∷ b ∷ c ∷ d ∷ []) → a ≤ 13 → b ≤ 13 → c ≤ 13 → d ≤ 13 → n ≤ 3659230532665357
    quarter n a b c d e la lb lc ld = omega arith

    small : (n a b c d : ℕ) → n ≡ number_of 65536 (a ∷ b ∷ c ∷ d ∷ []) → a ≤ 13 → b ≤ 13 → c ≤ 13 → d ≤ 13 → n * 4096 < 2 ^ 64
    small n a b c d e la lb lc ld = (let q = quarter n a b c d e la lb lc ld in omega (arith, q))

    turned : (i j k n a b c d e f g h o p q r s t u v : ℕ) → i ≡ number_of 65536 (a ∷ b ∷ c ∷ d ∷ []) → j ≡ number_of 65536 (e ∷ f ∷ g ∷ h ∷ []) → k ≡ number_of 65536 (o ∷ p ∷ q ∷ r ∷ []) → n ≡ number_of 65536 (s ∷ t ∷ u ∷ v ∷ [])
        → i + j * 16 + k * 256 + n * 4096 ≡ number_of 16 (a ∷ e ∷ o ∷ s ∷ []) + number_of 16 (b ∷ f ∷ p ∷ t ∷ []) * 65536 + number_of 16 (c ∷ g ∷ q ∷ u ∷ []) * 4294967296 + number_of 16 (d ∷ h ∷ r ∷ v ∷ []) * 281474976710656
    turned i j k n a b c d e f g h o p q r s t u v ei ej ek en = omega arith

-- ---- owners
-- a test as a bit
abbrev pub bit_of : Bool → ℕ
bit_of b = cond b 1 0

-- a card's bit, where the hand has it
pub card-is : (m : ℕ) (u : Suit) (r : ℕ) → IsRank r → bit_at (lane m u) r ≡ bit_of (has_card (cards_of m) (card_of u r))
card-is m u r real =
    lane-bit m u r (let h = real.1 in omega (arith, h)) ∙ one (bit_at (m / 2 ^ suit_shift u) r) (bit_at-lt (m / 2 ^ suit_shift u) r) ∙ ap bit_of (sym (card-bit m u r real))
  where
    one : (b : ℕ) → b < 2 → b ≡ bit_of (b == 1)
    one zero h = refl
    one (suc zero) h = refl
    one (suc (suc b)) h = absurd (omega (arith, h))

-- a bit of all that are not in a mask
gone-is : (m : ℕ) (u : Suit) (r : ℕ) → m < 2 ^ 64 → r < 16 → bit_at (lane (18446744073709551615 - m) u) r ≡ 1 - bit_at (lane m u) r
gone-is m u r fits low =
    lane-bit (18446744073709551615 - m) u r low ∙ ap (λ n. n % 2) (shr-shr (18446744073709551615 - m) (suit_shift u) r)
    ∙ bit_at_not w64 m (suit_shift u + r) fits (let s = shift u in omega (arith, s, low))
    ∙ ap (λ n. 1 - n % 2) (sym (shr-shr m (suit_shift u) r)) ∙ ap (λ n. 1 - n) (sym (lane-bit m u r low))
  where
    shift : (u : Suit) → suit_shift u ≤ 48
    shift u = omega arith

-- a card is in a union where it is in one of the two
pub union-has : (x y : List PlayingCard) (u : Suit) (r : ℕ) → IsRank r → has_card (filter (λ c. has_card x c || has_card y c) deck) (card_of u r) ≡ (has_card x (card_of u r) || has_card y (card_of u r))
union-has x y u r real =
    has_card-filter (λ c. has_card x c || has_card y c) deck (card_of u r) ∙ ap (λ b. (has_card x (card_of u r) || has_card y (card_of u r)) && b) (has_card-deck (card_of u r) real)
    ∙ sym (and-true (has_card x (card_of u r) || has_card y (card_of u r)))

-- masks of the cards of the second and fourth hand, of the third and fourth, and of all
pub record AreMasks (l s t f : List PlayingCard) (odd far left : ℕ) : Type 0 where
  pub fits : left < 2 ^ 64
  pub odd_masks : (u : Suit) → IsMask (lane odd u)
  pub far_masks : (u : Suit) → IsMask (lane far u)
  pub odd_is : cards_of odd ≡ filter (λ c. has_card s c || has_card f c) deck
  pub far_is : cards_of far ≡ filter (λ c. has_card t c || has_card f c) deck
  pub left_is : cards_of left ≡ filter (λ c. has_card (filter (λ d. has_card l d || has_card t d) deck) c || has_card (cards_of odd) c) deck

-- who has a card is told by them
odd-has : (l s t f : List PlayingCard) (odd far left : ℕ) → AreMasks l s t f odd far left → (u : Suit) (r : ℕ) → IsRank r → bit_at (lane odd u) r ≡ bit_of (has_card s (card_of u r) || has_card f (card_of u r))
odd-has l s t f odd far left a u r real = card-is odd u r real ∙ ap bit_of (ap (λ cards. has_card cards (card_of u r)) a.odd_is ∙ union-has s f u r real)

far-has : (l s t f : List PlayingCard) (odd far left : ℕ) → AreMasks l s t f odd far left → (u : Suit) (r : ℕ) → IsRank r → bit_at (lane far u) r ≡ bit_of (has_card t (card_of u r) || has_card f (card_of u r))
far-has l s t f odd far left a u r real = card-is far u r real ∙ ap bit_of (ap (λ cards. has_card cards (card_of u r)) a.far_is ∙ union-has t f u r real)

left-has : (l s t f : List PlayingCard) (odd far left : ℕ) → AreMasks l s t f odd far left → (u : Suit) (r : ℕ) → IsRank r
    → bit_at (lane left u) r ≡ bit_of ((has_card l (card_of u r) || has_card t (card_of u r)) || (has_card s (card_of u r) || has_card f (card_of u r)))
left-has l s t f odd far left a u r real =
    card-is left u r real ∙ ap bit_of
    (ap (λ cards. has_card cards (card_of u r)) a.left_is ∙ union-has (filter (λ d. has_card l d || has_card t d) deck) (cards_of odd) u r real
    ∙ ap₂ (λ x y. x || y) (union-has l t u r real) (ap (λ cards. has_card cards (card_of u r)) a.odd_is ∙ union-has s f u r real))

-- a mask has no bit below the ranks
lowest : (n r : ℕ) → IsMask n → r < 2 → bit_at n r ≡ 0
lowest n zero mask h = (let m = mask.1 in let e : n / 1 % 2 ≡ 0 = omega (arith, m) in e)
lowest n (suc zero) mask h = (let m = mask.1 in let e : n / 2 % 2 ≡ 0 = omega (arith, m) in e)
lowest n (suc (suc r)) mask h = absurd (omega (arith, h))

-- a card that is gone is in no hand
pub gone-apart : (l s t f : List PlayingCard) (odd far left : ℕ) → AreMasks l s t f odd far left → (u : Suit) (r : ℕ) → r < 16 → bit_at (lane (18446744073709551615 - left) u) r ≡ 1
    → (bit_at (lane odd u) r ≡ 0) × (bit_at (lane far u) r ≡ 0)
gone-apart l s t f odd far left a u r low gone = (
  outside (lane odd u) (a.odd_masks u) (λ real. odd-has l s t f odd far left a u r real ∙ (none (has_card l (card_of u r)) (has_card t (card_of u r)) (has_card s (card_of u r)) (has_card f (card_of u r)) (clear real)).0),
  outside (lane far u) (a.far_masks u) (λ real. far-has l s t f odd far left a u r real ∙ (none (has_card l (card_of u r)) (has_card t (card_of u r)) (has_card s (card_of u r)) (has_card f (card_of u r)) (clear real)).1),
)
  where
    clear : IsRank r → 1 - bit_of ((has_card l (card_of u r) || has_card t (card_of u r)) || (has_card s (card_of u r) || has_card f (card_of u r))) ≡ 1
    clear real = ap (λ (n : ℕ). 1 - n) (sym (left-has l s t f odd far left a u r real)) ∙ sym (gone-is left u r a.fits low) ∙ gone

    none : (x z y w : Bool) → 1 - bit_of ((x || z) || (y || w)) ≡ 1 → (bit_of (y || w) ≡ 0) × (bit_of (z || w) ≡ 0)
    none true z y w h = absurd (omega (arith, h))
    none false true y w h = absurd (omega (arith, h))
    none false false true w h = absurd (omega (arith, h))
    none false false false true h = absurd (omega (arith, h))
    none false false false false h = (refl, refl)

    outside : (n : ℕ) → IsMask n → (IsRank r → bit_at n r ≡ 0) → bit_at n r ≡ 0
    outside n mask inside = elim (cases_lt r 2) [
      | inl less ↦ lowest n r mask less
      | inr more ↦ elim (cases_lt r 15) [
        | inl less ↦ inside (more, omega (arith, less))
        | inr above ↦ bit_at_above n 15 r mask.0 above
      ]
    ]

-- the holder of a card, by who has it
pub held : (l s t f : List PlayingCard) → AreHands (dealt l s t f) → (c : PlayingCard) → IsTold (holder (dealt l s t f) c) ((has_card l c || has_card t c) || (has_card s c || has_card f c))
    (bit_of (has_card s c || has_card f c) + 2 * bit_of (has_card t c || has_card f c))
unfolding holder
held l s t f hands c =
    by-flags (has_card l c) (has_card s c) (has_card t c) (has_card f c)
    (apart North East (λ e. (cc))) (apart North South (λ e. (cc))) (apart North West (λ e. (cc))) (apart East South (λ e. (cc))) (apart East West (λ e. (cc))) (apart South West (λ e. (cc)))
  where
    apart : (x y : Seat) → (x ≡ y → ⊥) → has_card (hand_of (dealt l s t f) x) c ≡ true → has_card (hand_of (dealt l s t f) y) c ≡ true → ⊥
    apart x y n h k = n (hands.disjoint c x y h k)

-- The places that the bits of the cards left tell are the owners.
pub masks-told : (l s t f : List PlayingCard) (odd far left : ℕ) → AreHands (dealt l s t f) → AreMasks l s t f odd far left → (u : Suit)
    → places_of (lane odd u) (lane far u) (filter (is_clear (lane (18446744073709551615 - left) u)) all_ranks) ≡ number_of 4 (map seat_code (owners_in (dealt l s t f) u))
unfolding suit_cards
masks-told l s t f odd far left hands a u =
    ap (number_of 4) (
    told-list (λ r. holder hs (card_of u r)) (is_clear (lane (18446744073709551615 - left) u)) (λ r. bit_at (lane odd u) r + 2 * bit_at (lane far u) r) all_ranks each real_ranks
    ∙ ap (map seat_code) (sym (by-ranks (holder hs) u all_ranks)))
  where
    hs : FourHands
    hs = dealt l s t f

    clear : (b : Bool) (n m : ℕ) → n ≡ 1 - m → m ≡ bit_of b → b ≡ (n == 0)
    clear true n m e f = (let z : n ≡ 0 = omega (arith, e, f) in ap (λ k. k == 0) (sym z))
    clear false n m e f = (let z : n ≡ 1 = omega (arith, e, f) in ap (λ k. k == 0) (sym z))

    moved : (o : Option Seat) (x y : Bool) (m n : ℕ) → x ≡ y → m ≡ n → IsTold o x m → IsTold o y n
    moved o x y m n e g told = subst (λ k. IsTold o y k) g (subst (λ b. IsTold o b m) e told)

    each : (r : ℕ) → IsRank r → IsTold (holder hs (card_of u r)) (is_clear (lane (18446744073709551615 - left) u) r) (bit_at (lane odd u) r + 2 * bit_at (lane far u) r)
    each r real =
        moved (holder hs (card_of u r)) _ _ _ _
        (clear ((has_card l (card_of u r) || has_card t (card_of u r)) || (has_card s (card_of u r) || has_card f (card_of u r))) _ _ (gone-is left u r a.fits (let h = real.1 in omega (arith, h))) (left-has l s t f odd far left a u r real))
        (ap₂ (λ m n. m + 2 * n) (sym (odd-has l s t f odd far left a u r real)) (sym (far-has l s t f odd far left a u r real)))
        (held l s t f hands (card_of u r))
