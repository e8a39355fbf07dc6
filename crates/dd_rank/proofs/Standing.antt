-- the owner at a place of a suit
use Rattle.std.proofs.Common.{◌≡◌, ℕ, zero, suc, ◌<◌, ◌≤◌, Bool, true, refl, sym, ap, ◌∙◌, arith, List, [], ◌∷◌, Option, None, Some, inl, inr, length, get_or}
use Rattle.std.specs.Prelude.{map, filter, is_some, nat_lt}
use Rattle.std.proofs.lemmas.Bool.{lt-ltb, le-ltb}
use Rattle.std.proofs.lemmas.List.{get_or-map}
use Rattle.dd_cards.specs.declared.seat.Seat.{Seat}
use Rattle.dd_cards.specs.declared.suit.Suit.{Suit}
use Rattle.dd_cards.specs.PlayingCard.{PlayingCard}
use Rattle.dd_cards.specs.Ranks.{lowest_ranks, all_ranks}
use Rattle.dd_cards.specs.Cards.{is_of, has_card, card_of, deck}
use Rattle.dd_cards.proofs.CallerLemmas.{IsSet-deck, IsSet-filter, both-ways, has_card-deck, length-filter-le, suit-ranks, times-set}
use Rattle.dd_play.specs.Board.{Board, IsBoard, cards_at}
use Rattle.dd_play.specs.Covers.{count_of}
use Rattle.dd_play.proofs.CallerLemmas.{card-real, filter-has, filter-passes}
use Rattle.dd_rank.specs.Depths.{all_cards, place}
use Rattle.dd_rank.specs.Owners.{owners}
use Rattle.dd_rank.specs.Strings.{places_after, owner_places}
use Rattle.dd_rank.proofs.Covered.{all-in}
use Rattle.dd_rank.proofs.Digits.{length-map}
use Rattle.dd_rank.proofs.Holders.{holder-has}
use Rattle.dd_rank.proofs.Looked.{all-once}
use Rattle.dd_rank.proofs.Lowest.{AreOf, same-count, suit-count, length-of}
use Rattle.dd_rank.proofs.Owners.{holder_at, ranks_left, left-falls, left-owners, has-left, left-has, has-holder}
use Rattle.dd_rank.proofs.Falling.{Has, Falls}
use Rattle.dd_rank.proofs.Places.{in-all}
use Rattle.dd_rank.proofs.Turned.{places-lt}
use Rattle.std.proofs.lemmas.List.Elements.{filter_agree}
use Rattle.dd_cards.specs.Sequences.{is_above}

-- ---- places in a falling list
-- how many numbers of the list are greater
abbrev above : ℕ → List ℕ → ℕ
above r xs = length (filter (λ q. nat_lt r q) xs)

-- none is greater than one that is greater than all
none-above : (r : ℕ) (xs : List ℕ) → ((q : ℕ) → Has q xs → q < r) → above r xs ≡ 0
none-above r [] less = refl
none-above r (a ∷ xs) less = (let l = less a (inl refl) in rw (le-ltb r a (omega (arith, l))) (none-above r xs (λ q h. less q (inr h))))

-- a number of the list stands behind those that are greater
above-place : (r : ℕ) (xs : List ℕ) → Falls xs → Has r xs → (get_or xs (above r xs) 0 ≡ r) × (above r xs < length xs)
above-place r [] falls has = absurd has
above-place r (a ∷ xs) falls has = elim has [
  | inl same ↦ (
      let here : above r (a ∷ xs) ≡ 0 = ap (λ q. above q (a ∷ xs)) (sym same) ∙ none a in
      (ap (λ i. get_or (a ∷ xs) i 0) here ∙ same, omega (arith, here)))
  | inr later ↦ (
      let ih = above-place r xs falls.1 later in
      let next : above r (a ∷ xs) ≡ suc (above r xs) = one (falls.0 r later) in
      (ap (λ i. get_or (a ∷ xs) i 0) next ∙ ih.0, (let l = ih.1 in omega (arith, next, l))))
]
  where
    none : (b : ℕ) → above a (a ∷ xs) ≡ 0
    none b = rw (le-ltb a a (omega arith)) (none-above a xs falls.0)

    one : r < a → above r (a ∷ xs) ≡ suc (above r xs)
    one less = rw (lt-ltb r a less) refl

-- the number at a place stands behind so many that are greater
place-above : (i : ℕ) (xs : List ℕ) → Falls xs → i < length xs → Has (get_or xs i 0) xs × (above (get_or xs i 0) xs ≡ i)
place-above i [] falls h = absurd (omega (arith, h))
place-above zero (a ∷ xs) falls h = (inl refl, rw (le-ltb a a (omega arith)) (none-above a xs falls.0))
place-above (suc i) (a ∷ xs) falls h =
    let ih = place-above i xs falls.1 (omega (arith, h)) in
    (inr ih.0, rw (lt-ltb (get_or xs i 0) a (falls.0 (get_or xs i 0) ih.0)) (ap suc ih.1))

-- ---- the ranks left are those of all cards
-- all cards that are left, as a set
whole : Board → List PlayingCard
whole p = filter (has_card (all_cards p)) deck

-- .. with the same members
whole-members : (p : Board) → IsBoard p → (c : PlayingCard) → has_card (whole p) c ≡ has_card (all_cards p) c
unfolding whole
whole-members p valid c = both-ways _ _
    (λ h. filter-passes (has_card (all_cards p)) deck c h)
    (λ h. filter-has (has_card (all_cards p)) deck c (let x = all-in p c h in has_card-deck c (card-real p x.0 c valid x.1)) h)

-- .. so that they count alike
whole-count : (p : Board) → IsBoard p → (test : PlayingCard → Bool) → length (filter test (whole p)) ≡ length (filter test (all_cards p))
unfolding whole
whole-count p valid test = same-count test (whole p) (all_cards p) (λ c. times-set (whole p) c (IsSet-filter (has_card (all_cards p)) deck IsSet-deck)) (all-once p valid) (whole-members p valid)

-- the ranks left are those of the suit's cards
left-of : (p : Board) → IsBoard p → (u : Suit) → AreOf u (ranks_left p u) (whole p)
unfolding whole ranks_left
left-of p valid u =
    ap (map (card_of u)) (filter_agree (λ r. is_some (holder_at p u r)) (λ r. has_card (whole p) (card_of u r)) held all_ranks)
    ∙ sym (suit-ranks u (whole p) (IsSet-filter (has_card (all_cards p)) deck IsSet-deck))
  where
    held : (r : ℕ) → is_some (holder_at p u r) ≡ has_card (whole p) (card_of u r)
    held r = both-ways _ _
        (λ h. whole-members p valid (card_of u r) ∙ some (holder_at p u r) refl h)
        (λ h. let x = all-in p (card_of u r) (sym (whole-members p valid (card_of u r)) ∙ h) in ap is_some (has-holder p valid x.0 (card_of u r) x.1))
      where
        some : (o : Option Seat) → holder_at p u r ≡ o → is_some o ≡ true → has_card (all_cards p) (card_of u r) ≡ true
        some None e s = absurd (cc)
        some (Some x) e s = in-all p x (card_of u r) (holder-has p.hands (card_of u r) x e)

-- a card's place is that of its rank
place-rank : (p : Board) → IsBoard p → (c : PlayingCard) → place p c ≡ above c.rank (ranks_left p c.suit)
place-rank p valid c = sym (whole-count p valid (is_above c)) ∙ suit-count c.suit (ranks_left p c.suit) (whole p) (λ e. nat_lt c.rank e.rank) (left-of p valid c.suit)

-- ---- the owner at a place
-- a holder's place after the leader
place_or : Seat → Option Seat → ℕ
place_or f None = 0
place_or f (Some x) = places_after f x

-- the owners' places, by the ranks left
places-by-ranks : (p : Board) (u : Suit) → owner_places p u ≡ map (λ r. place_or p.first (holder_at p u r)) (ranks_left p u)
unfolding place_or
places-by-ranks p u = sym (some-places (owners p u)) ∙ ap (map (place_or p.first)) (sym (left-owners p u)) ∙ twice (ranks_left p u)
  where
    some-places : (xs : List Seat) → map (place_or p.first) (map Some xs) ≡ map (places_after p.first) xs
    some-places [] = refl
    some-places (x ∷ xs) = ap (λ l. places_after p.first x ∷ l) (some-places xs)

    twice : (xs : List ℕ) → map (place_or p.first) (map (holder_at p u) xs) ≡ map (λ r. place_or p.first (holder_at p u r)) xs
    twice [] = refl
    twice (x ∷ xs) = ap (λ l. place_or p.first (holder_at p u x) ∷ l) (twice xs)

-- as many owners as ranks
places-ranks : (p : Board) (u : Suit) → length (owner_places p u) ≡ length (ranks_left p u)
places-ranks p u = ap length (places-by-ranks p u) ∙ length-map (λ r. place_or p.first (holder_at p u r)) (ranks_left p u)

-- .. and as cards of the suit
pub places-count : (p : Board) → IsBoard p → (u : Suit) → count_of u (all_cards p) ≡ length (owner_places p u)
places-count p valid u = sym (whole-count p valid (is_of u)) ∙ length-of u (ranks_left p u) (whole p) (left-of p valid u) ∙ sym (places-ranks p u)

-- a suit has at most thirteen cards
pub count-small : (p : Board) → IsBoard p → (u : Suit) → count_of u (all_cards p) ≤ 13
unfolding ranks_left all_ranks lowest_ranks
count-small p valid u =
    let few : length (filter (λ r. is_some (holder_at p u r)) all_ranks) ≤ 13 = length-filter-le (λ r. is_some (holder_at p u r)) all_ranks in
    let a = places-count p valid u in
    let b : length (owner_places p u) ≡ length (filter (λ r. is_some (holder_at p u r)) all_ranks) = places-ranks p u in
    omega (arith, few, a, b)

-- the owner at a card's place is the seat that has it
pub stands-at : (p : Board) → IsBoard p → (x : Seat) (c : PlayingCard) → has_card (cards_at p x) c ≡ true
    → (get_or (owner_places p c.suit) (place p c) 0 ≡ places_after p.first x) × (place p c < length (owner_places p c.suit))
unfolding place_or
stands-at p valid x c h =
    let at = above-place c.rank (ranks_left p c.suit) (left-falls p c.suit) (has-left p valid x c h) in
    let is : place p c ≡ above c.rank (ranks_left p c.suit) = place-rank p valid c in
    let many = places-ranks p c.suit in
    let less = at.1 in
    let low : place p c < length (ranks_left p c.suit) = omega (arith, is, less) in (
      ap (λ l. get_or l (place p c) 0) (places-by-ranks p c.suit)
          ∙ get_or-map (λ r. place_or p.first (holder_at p c.suit r)) (ranks_left p c.suit) (place p c) 0 0 low
          ∙ ap (λ r. place_or p.first (holder_at p c.suit r)) (ap (λ i. get_or (ranks_left p c.suit) i 0) is ∙ at.0)
          ∙ ap (place_or p.first) (has-holder p valid x c h),
      omega (arith, low, many),
    )

-- at each place below the number of owners stands a card that a seat has
pub someone-at : (p : Board) → IsBoard p → (u : Suit) (i : ℕ) → i < length (owner_places p u)
    → (x : Seat) × (c : PlayingCard) × (has_card (cards_at p x) c ≡ true) × (c.suit ≡ u) × (place p c ≡ i)
someone-at p valid u i h =
    let many = places-ranks p u in
    let at = place-above i (ranks_left p u) (left-falls p u) (omega (arith, h, many)) in
    let own = left-has p u (get_or (ranks_left p u) i 0) at.0 in
    (own.0, card_of u (get_or (ranks_left p u) i 0), own.1, refl, place-rank p valid (card_of u (get_or (ranks_left p u) i 0)) ∙ at.1)

-- the owners' places are digits to the base 4
pub places-digits : (p : Board) (u : Suit) (i : ℕ) → get_or (owner_places p u) i 0 < 4
places-digits p u i = each (owners p u) i
  where
    each : (xs : List Seat) (i : ℕ) → get_or (map (places_after p.first) xs) i 0 < 4
    each [] i = omega arith
    each (x ∷ xs) zero = places-lt p.first x
    each (x ∷ xs) (suc i) = each xs i
