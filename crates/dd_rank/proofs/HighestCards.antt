-- depths of cards of which each higher one of the suit is there too: their own bits
use Rattle.std.proofs.Common.{◌≡◌, ℕ, zero, suc, ◌+◌, ◌-◌, ◌*◌, ◌/◌, ◌%◌, ◌^◌, ◌<◌, ◌≤◌, Bool, true, false, refl, sym, ap, ◌∙◌, subst, arith, nat_eq, eqb-true, inl, inr, List, length}
use mathlib.Core.Bool.{not}
use Rattle.std.specs.Prelude.{filter, ◌==◌, ◌&&◌, nat_lt}
use Rattle.std.specs.Int.{bit_at}
use Rattle.std.proofs.lemmas.Bool.{cases_lt, and_from, not_from_false, false_from_ne_true, true_from_ne_false}
use Rattle.std.proofs.lemmas.Bool.Decides.{eqb_tells}
use Rattle.std.proofs.lemmas.Nat.{shr-shr}
use Rattle.std.proofs.lemmas.Nat.Bits.{bit_at-lt, bit_at_above, same_from_bits_below}
use Rattle.dd_cards.specs.declared.suit.Suit.{Suit}
use Rattle.dd_cards.specs.declared.suit.Suit.TheVariants.{Spades, Hearts, Diamonds, Clubs}
use Rattle.dd_cards.specs.PlayingCard.{PlayingCard}
use Rattle.dd_cards.specs.Suits.{suit_shift}
use Rattle.dd_cards.specs.Ranks.{IsRank}
use Rattle.dd_cards.specs.Cards.{card_of, deck, has_card, is_of}
use Rattle.dd_cards.specs.Hands.{IsSet}
use Rattle.dd_cards.specs.HandMasks.{IsHandMask, cards_of, in_hand}
use Rattle.dd_cards.proofs.CallerLemmas.{IsSet-deck, IsSet-filter, and-left, and-right, both-ways, card-bit, filter-filter, has_card-deck, has_card-filter, real-set, times-set, cards-real}
use Rattle.dd_play.specs.Board.{Board, IsBoard}
use Rattle.dd_play.specs.Covers.{count_of}
use Rattle.dd_play.specs.Reach.{reach}
use Rattle.dd_play.proofs.CallerLemmas.{filter-has, filter-passes, reach-of, reach-some, suit-of}
use Rattle.dd_rank.specs.Depths.{FourDepths, all_cards, depth_in, depths_of}
use Rattle.dd_rank.specs.DepthMasks.{AreTops, depths_in, tops_of}
use Rattle.dd_rank.specs.FirstOwners.{top_places}
use Rattle.dd_rank.specs.Lanes.{lane}
use Rattle.dd_rank.proofs.DepthLanes.{all_below, all_below-at, are-tops, depths-back, lane-tops, tops-fit}
use Rattle.dd_rank.proofs.FourLanes.{lane-bit, lanes-of, lanes-same}
use Rattle.dd_rank.proofs.Looked.{all-once}
use Rattle.dd_rank.proofs.Lowest.{more-pass, same-count}
use Rattle.dd_rank.proofs.TopPlaces.{low-bit, top-bit, tops-small}
use Rattle.dd_rank.proofs.TopRanks.{tops-cards}
use Rattle.std.proofs.lemmas.List.Elements.{filter_agree}

-- with a card each higher one of its suit
abbrev pub AreHighest : List PlayingCard → Type 0
AreHighest cards = (c d : PlayingCard) → has_card cards c ≡ true → d.suit ≡ c.suit → c.rank ≤ d.rank → d.rank ≤ 14 → has_card cards d ≡ true

-- ---- one suit
-- bits of ranks, with each one all higher ones, are those of so many of the highest
module _ (x : ℕ) (fits : x < 2 ^ 16) (ranks : (r : ℕ) → bit_at x r ≡ 1 → IsRank r) (upward : (r q : ℕ) → bit_at x r ≡ 1 → r ≤ q → q ≤ 14 → bit_at x q ≡ 1) where
  -- where so many are there and no other
  are : (n : ℕ) → n ≤ 13 → ((r : ℕ) → 15 ≤ r + n → r ≤ 14 → bit_at x r ≡ 1) → ((r : ℕ) → r + n < 15 → bit_at x r ≡ 0) → x ≡ top_places n
  are n few ones none = same_from_bits_below 16 x (top_places n) fits (let t = tops-small n in omega (arith, t)) (λ r h. elim (cases_lt (r + n) 15) [
    | inl low ↦ none r low ∙ sym (low-bit n r (omega (arith, few)) low)
    | inr high ↦ elim (cases_lt r 15) [
      | inl less ↦ ones r high (omega (arith, less)) ∙ sym (top-bit n r (omega (arith, few)) less high)
      | inr above ↦ clear r (λ one. let t = (ranks r one).1 in omega (arith, t, above)) ∙ sym (bit_at_above (top_places n) 15 r (tops-small n) above)
    ]
  ])
    where
      clear : (r : ℕ) → (bit_at x r ≡ 1 → ⊥) → bit_at x r ≡ 0
      clear r never = elim (eqb_tells (bit_at x r) 1) [
        | inl same ↦ absurd (never same.1)
        | inr other ↦ (let l = bit_at-lt x r in let o = other.1 in omega (arith, l, o))
      ]

  -- how many there are, from the ace down
  find : (m n : ℕ) → m + n ≡ 13 → ((r : ℕ) → 15 ≤ r + n → r ≤ 14 → bit_at x r ≡ 1) → (d : ℕ) × (d ≤ 13) × (x ≡ top_places d)
  find zero n e ones = (
    n,
    omega (arith, e),
    are n (omega (arith, e)) ones (λ r low. elim (eqb_tells (bit_at x r) 1) [
      | inl same ↦ absurd (let t = (ranks r same.1).0 in omega (arith, t, low, e))
      | inr other ↦ (let l = bit_at-lt x r in let o = other.1 in omega (arith, l, o))
    ]),
  )
  find (suc m) n e ones = elim (eqb_tells (bit_at x (14 - n)) 1) [
    | inl same ↦ find m (suc n) (omega (arith, e)) (λ r high low. upward (14 - n) r same.1 (omega (arith, high)) low)
    | inr other ↦ (
      n,
      omega (arith, e),
      are n (omega (arith, e)) ones (λ r low. elim (eqb_tells (bit_at x r) 1) [
        | inl there ↦ absurd (let o = other.1 in let k = upward r (14 - n) there.1 (omega (arith, low)) (omega arith) in o k)
        | inr none ↦ (let l = bit_at-lt x r in let o = none.1 in omega (arith, l, o))
      ]),
    )
  ]

  pub highest-places : (d : ℕ) × (d ≤ 13) × (x ≡ top_places d)
  highest-places = find 13 0 refl (λ r high low. absurd (omega (arith, high, low)))

-- ---- four suits
-- a bit of a suit is a card
lane-card : (m : ℕ) (u : Suit) (r : ℕ) → IsRank r → (bit_at (lane m u) r == 1) ≡ has_card (cards_of m) (card_of u r)
lane-card m u r real = ap (λ n. n == 1) (lane-bit m u r (let h = real.1 in omega (arith, h))) ∙ sym (card-bit m u r real)

-- so many of the highest ranks of a suit are so many cards
counts : (u : Suit) (d : ℕ) → Bool
counts u d = nat_eq (length (filter (λ c. is_of u c && nat_lt 14 (c.rank + d)) deck)) d

each-counts : (u : Suit) → all_below (counts u) 14 ≡ true
unfolding counts all_below deck Rattle.dd_cards.specs.Cards.suit_cards Rattle.dd_cards.specs.Ranks.all_ranks Rattle.dd_cards.specs.Ranks.lowest_ranks
each-counts Spades = refl
each-counts Hearts = refl
each-counts Diamonds = refl
each-counts Clubs = refl

counted : (u : Suit) (d : ℕ) → d ≤ 13 → length (filter (λ c. is_of u c && nat_lt 14 (c.rank + d)) deck) ≡ d
unfolding counts
counted u d few = eqb-true _ _ (all_below-at (counts u) 14 d (each-counts u) (omega (arith, few)))

module _ (m : ℕ) (valid : IsHandMask m) (fits : m < 2 ^ 64) (closed : AreHighest (cards_of m)) where
  lane-rank : (u : Suit) (r : ℕ) → bit_at (lane m u) r ≡ 1 → IsRank r
  lane-rank u r one = elim (cases_lt r 16) [
    | inr above ↦ absurd (let none = bit_at_above (lane m u) 16 r (let l : lane m u < 65536 = omega arith in l) above in omega (arith, none, one))
    | inl low ↦ (
        let there : bit_at m (suit_shift u + r) ≡ 1 = ap (λ n. n % 2) (sym (shr-shr m (suit_shift u) r)) ∙ sym (lane-bit m u r low) ∙ one in
        let v = valid (suit_shift u + r) there in
        let e = within u low in
        (let a = v.1 in omega (arith, a, e), let b = v.2 in omega (arith, b, e)))
  ]
    where
      within : (u : Suit) → r < 16 → (suit_shift u + r) % 16 ≡ r
      within Spades low = omega (arith, low)
      within Hearts low = omega (arith, low)
      within Diamonds low = omega (arith, low)
      within Clubs low = omega (arith, low)

  lane-closed : (u : Suit) (r q : ℕ) → bit_at (lane m u) r ≡ 1 → r ≤ q → q ≤ 14 → bit_at (lane m u) q ≡ 1
  lane-closed u r q one low high =
      let real = lane-rank u r one in
      let real_q : IsRank q = (let a = real.0 in (omega (arith, a, low), high)) in
      let has : has_card (cards_of m) (card_of u r) ≡ true = sym (lane-card m u r real) ∙ ap (λ n. n == 1) one in
      eqb-true (bit_at (lane m u) q) 1 (lane-card m u q real_q ∙ closed (card_of u r) (card_of u q) has refl low high)

  suit-places : (u : Suit) → (d : ℕ) × (d ≤ 13) × (lane m u ≡ top_places d)
  suit-places u = highest-places (lane m u) (let l : lane m u < 65536 = omega arith in l) (lane-rank u) (lane-closed u)

  -- how many there are of each suit
  pub four : FourDepths
  four = record {
    spades = (suit-places Spades).0;
    hearts = (suit-places Hearts).0;
    diamonds = (suit-places Diamonds).0;
    clubs = (suit-places Clubs).0;
  }

  pub few : (u : Suit) → depth_in four u ≤ 13
  unfolding four
  few Spades = (suit-places Spades).1
  few Hearts = (suit-places Hearts).1
  few Diamonds = (suit-places Diamonds).1
  few Clubs = (suit-places Clubs).1

  places : (u : Suit) → lane m u ≡ top_places (depth_in four u)
  unfolding four
  places Spades = (suit-places Spades).2
  places Hearts = (suit-places Hearts).2
  places Diamonds = (suit-places Diamonds).2
  places Clubs = (suit-places Clubs).2

  is-tops : m ≡ tops_of four
  is-tops = sym (lanes-of m fits) ∙ lanes-same (lane m) (λ u. top_places (depth_in four u)) places

  pub highest-are-tops : AreTops m
  highest-are-tops = subst AreTops (sym is-tops) (are-tops four few)

  -- ---- they are so many cards
  is_high : PlayingCard → Bool
  is_high c = nat_lt 14 (c.rank + depth_in four c.suit)

  members : (c : PlayingCard) → has_card (cards_of m) c ≡ has_card (filter is_high deck) c
  unfolding is_high
  members c = both-ways _ _
      (λ h. let real = cards-real m c h in filter-has is_high deck c (has_card-deck c real) (sym (tops-cards four m few places c real) ∙ h))
      (λ h.
      let real = real-set (filter is_high deck) c (IsSet-filter is_high deck IsSet-deck) h in
      tops-cards four m few places c real ∙ filter-passes is_high deck c h)

  count-is : (u : Suit) → count_of u (cards_of m) ≡ depth_in four u
  unfolding cards_of is_high
  count-is u =
      same-count (is_of u) (filter (in_hand m) deck) (filter is_high deck) (λ c. times-set _ c (IsSet-filter (in_hand m) deck IsSet-deck)) (λ c. times-set _ c (IsSet-filter is_high deck IsSet-deck)) members
      ∙ ap length (filter-filter (is_of u) is_high deck ∙ filter_agree (λ c. is_high c && is_of u c) (λ c. is_of u c && nat_lt 14 (c.rank + depth_in four u)) same deck)
      ∙ counted u (depth_in four u) (few u)
    where
      same : (c : PlayingCard) → (is_high c && is_of u c) ≡ (is_of u c && nat_lt 14 (c.rank + depth_in four u))
      same c = both-ways _ _
          (λ h.
          let of = and-right (nat_lt 14 (c.rank + depth_in four c.suit)) (is_of u c) h in
          let high = and-left (nat_lt 14 (c.rank + depth_in four c.suit)) (is_of u c) h in
          and_from (is_of u c) (nat_lt 14 (c.rank + depth_in four u)) of (ap (λ (s : Suit). nat_lt 14 (c.rank + depth_in four s)) (sym (suit-of u c of)) ∙ high))
          (λ h.
          let of = and-left (is_of u c) (nat_lt 14 (c.rank + depth_in four u)) h in
          let high = and-right (is_of u c) (nat_lt 14 (c.rank + depth_in four u)) h in
          and_from (nat_lt 14 (c.rank + depth_in four c.suit)) (is_of u c) (ap (λ (s : Suit). nat_lt 14 (c.rank + depth_in four s)) (suit-of u c of) ∙ high) of)

  pub counts-of : (u : Suit) → depth_in (depths_in m) u ≡ count_of u (cards_of m)
  counts-of u = ap (λ (d : FourDepths). depth_in d u) (ap depths_in is-tops ∙ depths-back four few) ∙ sym (count-is u)

-- ---- highest cards among those left
-- `both` are the cards left that are among `cards`, by the others that are not
module _ (p : Board) (all cards others both : List PlayingCard) (valid : IsBoard p) (set : IsSet all) (same : (c : PlayingCard) → has_card all c ≡ has_card (all_cards p) c)
    (eo : others ≡ filter (λ c. not (has_card cards c)) all) (eb : both ≡ filter (λ c. not (has_card others c)) all) (closed : AreHighest cards) where
  both-all : (c : PlayingCard) → has_card both c ≡ true → has_card all c ≡ true
  both-all c h = and-right (not (has_card others c)) (has_card all c) (sym (has_card-filter (λ x. not (has_card others x)) all c) ∙ ap (λ l. has_card l c) (sym eb) ∙ h)

  both-cards : (c : PlayingCard) → has_card both c ≡ true → has_card cards c ≡ true
  both-cards c h = true_from_ne_false (has_card cards c) (λ none.
      let other : has_card others c ≡ true = ap (λ l. has_card l c) eo ∙ filter-has (λ x. not (has_card cards x)) all c (both-all c h) (not_from_false _ none) in
      let not_other = filter-passes (λ x. not (has_card others x)) all c (ap (λ l. has_card l c) (sym eb) ∙ h) in
      let wrong : false ≡ true = sym (ap not other) ∙ not_other in cc)

  both-in : (c : PlayingCard) → has_card all c ≡ true → has_card cards c ≡ true → has_card both c ≡ true
  both-in c there has = ap (λ l. has_card l c) eb ∙ filter-has (λ x. not (has_card others x)) all c there (not_from_false _ (false_from_ne_true (has_card others c) (λ other.
      let out = filter-passes (λ x. not (has_card cards x)) all c (ap (λ l. has_card l c) (sym eo) ∙ other) in
      let wrong : false ≡ true = sym (ap not has) ∙ out in cc)))

  pub both-highest : AreHighest (all_cards p) → AreHighest both
  both-highest left c d h suit low high =
      both-in d (same d ∙ left c d (sym (same c) ∙ both-all c h) suit low high) (closed c d (both-cards c h) suit low high)

  reached : (c : PlayingCard) → has_card both c ≡ has_card (filter (reach cards) all) c
  reached c = both-ways _ _
      (λ h. filter-has (reach cards) all c (both-all c h) (reach-of cards c c (both-cards c h) refl (omega arith)))
      (λ h.
      let there = and-right (reach cards c) (has_card all c) (sym (has_card-filter (reach cards) all c) ∙ h) in
      let d = reach-some cards c (filter-passes (reach cards) all c h) in
      both-in c there (closed d.0 c d.1 (sym d.2) d.3 (real-set all c set there).1))

  pub both-counts : (u : Suit) → count_of u both ≡ depths_of (reach cards) p u
  both-counts u =
      same-count (is_of u) both (filter (reach cards) all) (λ c. times-set both c (subst IsSet (sym eb) (IsSet-filter (λ x. not (has_card others x)) all set))) (λ c. times-set _ c (IsSet-filter (reach cards) all set)) reached
      ∙ ap length (filter-filter (is_of u) (reach cards) all ∙ filter_agree (λ c. reach cards c && is_of u c) (λ c. is_of u c && reach cards c) swapped all)
      ∙ same-count (λ x. is_of u x && reach cards x) all (all_cards p) (λ c. times-set all c set) (all-once p valid) same
    where
      swapped : (c : PlayingCard) → (reach cards c && is_of u c) ≡ (is_of u c && reach cards c)
      swapped c = both-ways _ _
          (λ h. and_from (is_of u c) (reach cards c) (and-right (reach cards c) (is_of u c) h) (and-left (reach cards c) (is_of u c) h))
          (λ h. and_from (reach cards c) (is_of u c) (and-right (is_of u c) (reach cards c) h) (and-left (is_of u c) (reach cards c) h))

  pub within-left : (u : Suit) → depths_of (reach cards) p u ≤ count_of u (all_cards p)
  within-left u = more-pass (λ x. is_of u x && reach cards x) (is_of u) (all_cards p) (λ x h. and-left (is_of u x) (reach cards x) h)
