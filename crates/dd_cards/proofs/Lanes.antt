-- one suit of a hand
use Rattle.std.proofs.Common.{◌≡◌, ◌≢◌, ℕ, ◌-◌, ◌/◌, ◌%◌, ◌^◌, ◌<◌, Bool, true, false, refl, sym, ap, ◌∙◌, arith, List, [], ◌∷◌, ◌++◌, inl, inr, bit_and, min, eq-eqb, append-nil}
use Rattle.std.specs.Prelude.{filter, map, ◌==◌, ◌&&◌}
use Rattle.std.specs.List.{list_all}
use Rattle.std.specs.Int.{bit_at}
use Rattle.std.proofs.lemmas.Nat.{and_le_r, and_mod, shr-shr}
use Rattle.std.proofs.lemmas.Nat.Bits.{bit_at-lt, bit_at_and, bit_at_mask_inside}
use Rattle.std.proofs.lemmas.List.Elements.{filter-append, filter_agree}
use Rattle.std.proofs.lemmas.Bool.Decides.{eqb_tells}
use Rattle.dd_cards.specs.declared.suit.Suit.{Suit}
use Rattle.dd_cards.specs.declared.suit.Suit.TheVariants.{Spades, Hearts, Diamonds, Clubs}
use Rattle.dd_cards.specs.Suits.{suit_code, suit_shift}
use Rattle.dd_cards.specs.Ranks.{all_ranks, lowest_ranks}
use Rattle.dd_cards.specs.Masks.{IsMask, in_mask, ranks_of}
use Rattle.dd_cards.specs.PlayingCard.{PlayingCard}
use Rattle.dd_cards.specs.Cards.{is_of, card_of, suit_cards, deck, place_of}
use Rattle.dd_cards.specs.HandMasks.{in_hand, cards_of}
use Rattle.std.specs.Int.Bits.{and_zero_r}
use Rattle.dd_cards.proofs.CardLists.{IsRank-from}
use Rattle.dd_cards.specs.Ranks.{IsRank, is_rank}
use Rattle.dd_cards.proofs.General.{and-false, and-true, filter-filter, filter-map, filter-where}

-- a lane without its unused bits is the mask of a holding
pub lane-mask : (x : ℕ) → IsMask (bit_and x 32764)
lane-mask x = (let h = and_le_r x 32764 in omega arith, and_mod x 32764 2 ∙ and_zero_r (x % 4))

-- bit r of the lane is the bit of the card
pub lane-bit : (m : ℕ) (s : Suit) (r : ℕ) → IsRank r → bit_at (bit_and (m / 2 ^ suit_shift s) 32764) r ≡ bit_at m (place_of (card_of s r))
lane-bit m s r real =
    let b : bit_at (m / 2 ^ suit_shift s) r < 2 = bit_at-lt (m / 2 ^ suit_shift s) r in
    let inside : bit_at (2 ^ 15 - 2 ^ 2) r ≡ 1 = bit_at_mask_inside 2 15 r real.0 (omega arith) in
    bit_at_and (m / 2 ^ suit_shift s) 32764 r ∙ ap (min (bit_at (m / 2 ^ suit_shift s) r)) inside ∙ (let e : min (bit_at (m / 2 ^ suit_shift s) r) 1 ≡ bit_at (m / 2 ^ suit_shift s) r = omega arith in e)
    ∙ ap (λ x. x % 2) (shr-shr m (suit_shift s) r)

-- a test that none passes keeps nothing
filter-no : (p : ℕ → Bool) (ranks : List ℕ) → ((r : ℕ) → p r ≡ false) → filter p ranks ≡ []
filter-no p [] none = refl
filter-no p (r ∷ ranks) none = rw (none r) (filter-no p ranks none)

-- a suit's part of the hand
block : (m : ℕ) (s t : Suit) → suit_code t ≡ suit_code s → filter (λ c. in_hand m c && is_of s c) (suit_cards t) ≡ map (card_of t) (filter (λ r. in_hand m (card_of t r)) all_ranks)
unfolding suit_cards
block m s t same =
    let yes : (suit_code t == suit_code s) ≡ true = eq-eqb (suit_code t) (suit_code s) same in
    filter-map (λ c. in_hand m c && is_of s c) (card_of t) all_ranks
    ∙ ap (map (card_of t)) (filter_agree (λ r. in_hand m (card_of t r) && is_of s (card_of t r)) (λ r. in_hand m (card_of t r)) (λ r. rw yes (sym (and-true (in_hand m (card_of t r))))) all_ranks)

-- .. and of another suit
other-block : (m : ℕ) (s t : Suit) → suit_code t ≢ suit_code s → filter (λ c. in_hand m c && is_of s c) (suit_cards t) ≡ []
unfolding suit_cards
other-block m s t other =
    let no : (suit_code t == suit_code s) ≡ false = elim (eqb_tells (suit_code t) (suit_code s)) [ inl same ↦ absurd (other same.1) | inr differ ↦ differ.0 ] in
    filter-map (λ c. in_hand m c && is_of s c) (card_of t) all_ranks
    ∙ ap (map (card_of t)) (filter-no (λ r. in_hand m (card_of t r) && is_of s (card_of t r)) all_ranks (λ r. rw no (sym (and-false (in_hand m (card_of t r))))))

-- each of the thirteen is a rank
pub real_ranks : list_all is_rank all_ranks ≡ true
unfolding all_ranks lowest_ranks
real_ranks = refl

-- a lane's ranks are those whose cards the hand has
lane-ranks : (m : ℕ) (s : Suit) → ranks_of (bit_and (m / 2 ^ suit_shift s) 32764) ≡ filter (λ r. in_hand m (card_of s r)) all_ranks
unfolding ranks_of
lane-ranks m s =
    filter-where is_rank (in_mask (bit_and (m / 2 ^ suit_shift s) 32764)) (λ r. in_hand m (card_of s r)) (λ r h. ap (λ b. b == 1) (lane-bit m s r (IsRank-from r h))) all_ranks real_ranks

-- the four parts of the deck
pub parts : (q : PlayingCard → Bool) → filter q deck ≡ filter q (suit_cards Spades) ++ filter q (suit_cards Hearts) ++ filter q (suit_cards Diamonds) ++ filter q (suit_cards Clubs)
unfolding deck
parts q =
    filter-append q (suit_cards Spades ++ suit_cards Hearts ++ suit_cards Diamonds) (suit_cards Clubs)
    ∙ ap (λ cards. cards ++ filter q (suit_cards Clubs)) (filter-append q (suit_cards Spades ++ suit_cards Hearts) (suit_cards Diamonds)
    ∙ ap (λ cards. cards ++ filter q (suit_cards Diamonds)) (filter-append q (suit_cards Spades) (suit_cards Hearts)))

-- four parts that are equal one by one make equal wholes
pub four-parts : (a a' b b' c c' d d' : List PlayingCard) → a ≡ a' → b ≡ b' → c ≡ c' → d ≡ d' → (a ++ b ++ c ++ d) ≡ (a' ++ b' ++ c' ++ d')
four-parts a a' b b' c c' d d' e f g h = rw (e, f, g, h) refl

-- a hand's cards of a suit, by their ranks
suit-part : (m : ℕ) (s : Suit) → filter (λ c. in_hand m c && is_of s c) deck ≡ map (card_of s) (filter (λ r. in_hand m (card_of s r)) all_ranks)
suit-part m Spades =
    let q = λ (c : PlayingCard). in_hand m c && is_of Spades c in
    parts q ∙ four-parts _ _ _ _ _ _ _ _ (block m Spades Spades refl) (other-block m Spades Hearts (omega arith)) (other-block m Spades Diamonds (omega arith)) (other-block m Spades Clubs (omega arith))
    ∙ simp append-nil refl
suit-part m Hearts =
    let q = λ (c : PlayingCard). in_hand m c && is_of Hearts c in
    parts q ∙ four-parts _ _ _ _ _ _ _ _ (other-block m Hearts Spades (omega arith)) (block m Hearts Hearts refl) (other-block m Hearts Diamonds (omega arith)) (other-block m Hearts Clubs (omega arith))
    ∙ simp append-nil refl
suit-part m Diamonds =
    let q = λ (c : PlayingCard). in_hand m c && is_of Diamonds c in
    parts q ∙ four-parts _ _ _ _ _ _ _ _ (other-block m Diamonds Spades (omega arith)) (other-block m Diamonds Hearts (omega arith)) (block m Diamonds Diamonds refl) (other-block m Diamonds Clubs (omega arith))
    ∙ simp append-nil refl
suit-part m Clubs =
    let q = λ (c : PlayingCard). in_hand m c && is_of Clubs c in
    parts q ∙ four-parts _ _ _ _ _ _ _ _ (other-block m Clubs Spades (omega arith)) (other-block m Clubs Hearts (omega arith)) (other-block m Clubs Diamonds (omega arith)) (block m Clubs Clubs refl)

-- a lane's ranks are the hand's cards of the suit
pub lane-cards : (m : ℕ) (s : Suit) → map (card_of s) (ranks_of (bit_and (m / 2 ^ suit_shift s) 32764)) ≡ filter (is_of s) (cards_of m)
unfolding cards_of
lane-cards m s = ap (map (card_of s)) (lane-ranks m s) ∙ sym (suit-part m s) ∙ sym (filter-filter (is_of s) (in_hand m) deck)
