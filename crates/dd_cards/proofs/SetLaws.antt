-- what holds of every set of cards, and of every four hands
use Rattle.std.proofs.Common.{◌≡◌, ℕ, ◌+◌, ◌≤◌, Bool, true, false, cond, refl, sym, ap, ◌∙◌, arith, List, [], ◌∷◌, ◌++◌, length, eq-eqb}
use Rattle.std.specs.Prelude.{filter, map, ◌&&◌, ◌||◌, ◌==◌}
use mathlib.Core.Bool.{not}
use Rattle.std.proofs.lemmas.Map.Views.{any-filter_same}
use Rattle.std.proofs.lemmas.List.Filters.{length-filter_both}
use Rattle.dd_cards.specs.declared.suit.Suit.{Suit}
use Rattle.dd_cards.specs.declared.suit.Suit.TheVariants.{Spades, Hearts, Diamonds, Clubs}
use Rattle.dd_cards.specs.Suits.{suit_code}
use Rattle.dd_cards.specs.PlayingCard.{PlayingCard}
use Rattle.dd_cards.specs.Ranks.{IsRank, is_rank, has_rank, all_ranks, lowest_ranks}
use Rattle.dd_cards.specs.Masks.{in_mask, ranks_of}
use Rattle.dd_cards.specs.Cards.{is_of, same_card, card_of, suit_cards, deck, has_card, with_card, without}
use Rattle.dd_cards.specs.Hands.{times, IsSet}
use Rattle.dd_cards.proofs.CardLists.{same_card-eq, has_card-deck, real_deck, IsRank-from}
use Rattle.dd_cards.proofs.HandLists.{filter-deck, passes}
use Rattle.dd_cards.proofs.Lanes.{parts, four-parts}
use Rattle.dd_cards.proofs.Sets.{times-set}
use Rattle.dd_cards.proofs.General.{and-swap, and-true, filter-filter, filter-map, filter-swap, filter-true, length-filter-le}
use Rattle.std.proofs.lemmas.List.Elements.{filter_agree}

-- a test that is always false keeps nothing
pub filter-false : {X : Type 0} (xs : List X) → filter (λ _. false) xs ≡ []
filter-false [] = refl
filter-false (x ∷ xs) = filter-false xs

-- ---- which cards a list has
-- a card is the same as itself
pub same_card-self : (c : PlayingCard) → same_card c c ≡ true
same_card-self c = rw (eq-eqb (suit_code c.suit) (suit_code c.suit) refl, eq-eqb c.rank c.rank refl) refl

-- a part of a list has the cards of the list that pass the test
pub has_card-filter : (p : PlayingCard → Bool) (cards : List PlayingCard) (c : PlayingCard) → has_card (filter p cards) c ≡ (p c && has_card cards c)
has_card-filter p cards c = any-filter_same (λ d. same_card d c) p (p c) (λ d e. ap p (same_card-eq d c e)) cards

-- without a card, the other cards are left
pub has_card-without : (cards : List PlayingCard) (c d : PlayingCard) → has_card (without cards c) d ≡ (not (same_card d c) && has_card cards d)
has_card-without cards c d = has_card-filter (λ x. not (same_card x c)) cards d

-- with a card, that card and those before
pub has_card-with_card : (cards : List PlayingCard) (c d : PlayingCard) → IsRank d.rank → has_card (with_card cards c) d ≡ (same_card d c || has_card cards d)
has_card-with_card cards c d real =
    has_card-filter (λ x. same_card x c || has_card cards x) deck d
    ∙ ap (λ b. (same_card d c || has_card cards d) && b) (has_card-deck d real)
    ∙ sym (and-true (same_card d c || has_card cards d))

-- ---- sets
-- the deck is a set
pub IsSet-deck : IsSet deck
IsSet-deck = filter-deck (has_card deck) (λ _. true) (λ c real. has_card-deck c real) ∙ filter-true deck

-- any part of a set is a set
pub IsSet-filter : (p : PlayingCard → Bool) (cards : List PlayingCard) → IsSet cards → IsSet (filter p cards)
IsSet-filter p cards set =
    filter_agree (has_card (filter p cards)) (λ d. has_card cards d && p d) (λ d. has_card-filter p cards d ∙ and-swap (p d) (has_card cards d)) deck
    ∙ sym (filter-filter p (has_card cards) deck)
    ∙ ap (filter p) set

-- no cards are a set
pub IsSet-empty : IsSet []
IsSet-empty = filter-false deck

-- a set with a card taken out is a set
pub IsSet-without : (cards : List PlayingCard) (c : PlayingCard) → IsSet cards → IsSet (without cards c)
IsSet-without cards c set = IsSet-filter (λ d. not (same_card d c)) cards set

-- a list with a card put in its place is a set
pub IsSet-with_card : (cards : List PlayingCard) (c : PlayingCard) → IsSet (with_card cards c)
IsSet-with_card cards c = IsSet-filter (λ d. same_card d c || has_card cards d) deck IsSet-deck

-- every card in a set is real
pub real-set : (cards : List PlayingCard) (c : PlayingCard) → IsSet cards → has_card cards c ≡ true → IsRank c.rank
real-set cards c set has =
    let e : (has_card cards c && has_card deck c) ≡ true = sym (has_card-filter (has_card cards) deck c) ∙ ap (λ xs. has_card xs c) set ∙ has in
    IsRank-from c.rank (passes (λ d. is_rank d.rank) c deck real_deck (rw has at e))

-- two sets with the same cards are the same list
pub same-members : (xs ys : List PlayingCard) → IsSet xs → IsSet ys → ((c : PlayingCard) → IsRank c.rank → has_card xs c ≡ has_card ys c) → xs ≡ ys
same-members xs ys x y same = sym x ∙ filter-deck (has_card xs) (has_card ys) same ∙ y

-- what stands in a list once at most is counted by whether it is there
times-once : (cards : List PlayingCard) (c : PlayingCard) → times cards c ≤ 1 → times cards c ≡ cond (has_card cards c) 1 0
times-once [] c h = refl
times-once (d ∷ cards) c h =
    elim (same_card d c) as (λ b. length (cond b (d ∷ filter (λ x. same_card x c) cards) (filter (λ x. same_card x c) cards)) ≤ 1 → length (cond b (d ∷ filter (λ x. same_card x c) cards) (filter (λ x. same_card x c) cards)) ≡ cond (b || has_card cards c) 1 0) [
      | true ↦ λ k. omega arith
      | false ↦ λ k. times-once cards c k
    ] h

-- a card that a set has stands in it once, and one that it has not, never
pub times-has_card : (cards : List PlayingCard) (c : PlayingCard) → IsSet cards → times cards c ≡ cond (has_card cards c) 1 0
times-has_card cards c set = times-once cards c (times-set cards c set)

-- ---- the suits of a set
-- the deck's cards of a suit are the thirteen
suit-deck : (s : Suit) → filter (is_of s) deck ≡ suit_cards s
unfolding deck suit_cards all_ranks lowest_ranks
suit-deck Spades = refl
suit-deck Hearts = refl
suit-deck Diamonds = refl
suit-deck Clubs = refl

-- the cards of a suit are those of its thirteen that the set has
suit-part : (s : Suit) (cards : List PlayingCard) → IsSet cards → filter (is_of s) cards ≡ filter (has_card cards) (suit_cards s)
suit-part s cards set = ap (filter (is_of s)) (sym set) ∙ filter-swap (is_of s) (has_card cards) deck ∙ ap (filter (has_card cards)) (suit-deck s)

-- a set is its spades, its hearts, its diamonds and its clubs
pub set-by-suits : (cards : List PlayingCard) → IsSet cards → cards ≡ filter (is_of Spades) cards ++ filter (is_of Hearts) cards ++ filter (is_of Diamonds) cards ++ filter (is_of Clubs) cards
set-by-suits cards set =
    sym set ∙ parts (has_card cards)
    ∙ four-parts _ _ _ _ _ _ _ _ (sym (suit-part Spades cards set)) (sym (suit-part Hearts cards set)) (sym (suit-part Diamonds cards set)) (sym (suit-part Clubs cards set))

-- the cards of a suit, by the ranks of those that the set has, highest first
pub suit-ranks : (s : Suit) (cards : List PlayingCard) → IsSet cards → filter (is_of s) cards ≡ map (card_of s) (filter (λ r. has_card cards (card_of s r)) all_ranks)
unfolding suit_cards
suit-ranks s cards set = suit-part s cards set ∙ filter-map (has_card cards) (card_of s) all_ranks

-- the ranks of a suit's cards are told by the cards
pub ranks-from_cards : (s : Suit) (xs ys : List ℕ) → map (card_of s) xs ≡ map (card_of s) ys → xs ≡ ys
ranks-from_cards s xs ys e = sym (ranks xs) ∙ ap (map (λ c. c.rank)) e ∙ ranks ys
  where
    ranks : (zs : List ℕ) → map (λ c. c.rank) (map (card_of s) zs) ≡ zs
    ranks [] = refl
    ranks (z ∷ zs) = ap (λ rs. z ∷ rs) (ranks zs)

-- a holding of a suit has the ranks of the hand's cards of that suit
pub has_rank-holding : (s : Suit) (ranks : List ℕ) (cards : List PlayingCard) (r : ℕ) → map (card_of s) ranks ≡ filter (is_of s) cards → has_rank ranks r ≡ has_card cards (card_of s r)
has_rank-holding s ranks cards r e =
    sym (go ranks) ∙ ap (λ xs. has_card xs (card_of s r)) e ∙ has_card-filter (is_of s) cards (card_of s r) ∙ rw suit_same refl
  where
    suit_same : (suit_code s == suit_code s) ≡ true
    suit_same = eq-eqb _ _ refl

    go : (qs : List ℕ) → has_card (map (card_of s) qs) (card_of s r) ≡ has_rank qs r
    go [] = refl
    go (q ∷ qs) = rw suit_same (ap (λ b. (q == r) || b) (go qs))

-- ---- counts
-- taking a card out of a set leaves one card fewer
pub length-without : (cards : List PlayingCard) (c : PlayingCard) → IsSet cards → has_card cards c ≡ true → length (without cards c) + 1 ≡ length cards
length-without cards c set has =
    let both = length-filter_both (λ d. same_card d c) (λ d. not (same_card d c)) (λ d. refl) cards in
    let once : times cards c ≡ cond (has_card cards c) 1 0 = times-has_card cards c set in
    let one : times cards c ≡ 1 = once ∙ rw has refl in
    omega arith

-- a suit has thirteen cards
length-suit_cards : (s : Suit) → length (suit_cards s) ≡ 13
unfolding suit_cards all_ranks lowest_ranks
length-suit_cards s = refl

-- a suit has at most thirteen cards in a set
pub length-suit : (s : Suit) (cards : List PlayingCard) → IsSet cards → length (filter (is_of s) cards) ≤ 13
length-suit s cards set =
    let le = length-filter-le (has_card cards) (suit_cards s) in
    let k = length-suit_cards s in
    rw (suit-part s cards set) (omega arith)

-- ---- a card put in and a card taken out
-- a card that is not there is taken out in vain
pub without-absent : (cards : List PlayingCard) (c : PlayingCard) → has_card cards c ≡ false → without cards c ≡ cards
without-absent [] c absent = refl
without-absent (d ∷ cards) c absent =
    elim (same_card d c) as (λ b. (b || has_card cards c) ≡ false → cond (not b) (d ∷ without cards c) (without cards c) ≡ d ∷ cards) [
      | true ↦ λ h. absurd (cc)
      | false ↦ λ h. ap (λ xs. d ∷ xs) (without-absent cards c h)
    ] absent

-- a set has at most thirteen ranks
pub at-most-13 : (m : ℕ) → length (ranks_of m) ≤ 13
unfolding ranks_of all_ranks lowest_ranks
at-most-13 m = length-filter-le (in_mask m) all_ranks
