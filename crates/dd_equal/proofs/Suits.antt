-- one suit of a position: its legal ranks, the others' ranks, and the classes that these make
use Rattle.std.proofs.Common.{◌≡◌, ℕ, ◌+◌, ◌<◌, ◌≤◌, Bool, true, false, cond, refl, sym, ap, ◌∙◌, arith, List, [], ◌∷◌, ◌++◌, length, take, get_or, inl, inr, eq-eqb, nat_lt, length-append}
use Rattle.std.proofs.lemmas.List.{take_more, map-append}
use Rattle.std.proofs.lemmas.List.Elements.{filter-append, filter_agree}
use Rattle.dd_cards.specs.declared.suit.Suit.TheVariants.{Spades, Hearts, Diamonds, Clubs}
use Rattle.dd_cards.specs.Ranks.{with_rank}
use Rattle.dd_cards.proofs.CallerLemmas.{and-left, and-right, both-ways, filter-filter, filter-map, has_rank-holding, has_rank-lowest_ranks, ranks-from_cards, real-set, same_card-eq, set-by-suits, suit-ranks, times-has, any-card, has-all, has-filter, filter-members}
use Rattle.std.specs.Prelude.{filter, map, ◌==◌, ◌&&◌, ◌||◌}
use Rattle.std.specs.List.{list_any}
use mathlib.Core.Bool.{not}
use Rattle.std.proofs.lemmas.Bool.Decides.{eqb_tells}
use Rattle.dd_cards.specs.declared.suit.Suit.{Suit}
use Rattle.dd_cards.specs.declared.seat.Seat.{Seat}
use Rattle.dd_cards.specs.declared.seat.Seat.TheVariants.{North, East, South, West}
use Rattle.dd_cards.specs.Suits.{suit_code}
use Rattle.dd_cards.specs.Seats.{seat_after}
use Rattle.dd_cards.specs.PlayingCard.{PlayingCard}
use Rattle.dd_cards.specs.Ranks.{IsRank, all_ranks, has_rank}
use Rattle.dd_cards.specs.Masks.{mask_of}
use Rattle.dd_cards.specs.Cards.{is_of, card_of, same_card, has_card}
use Rattle.dd_cards.specs.Hands.{hand_of, times}
use Rattle.dd_play.specs.Board.{Board, IsBoard, cards_at, mover}
use Rattle.dd_play.specs.Play.{legal}
use Rattle.dd_play.proofs.CallerLemmas.{in-following}
use Rattle.dd_equal.specs.EqualCards.{EqualCards, other_cards, is_between, are_equal, is_top, class_of, classes_of}
use Rattle.dd_equal.specs.SuitClasses.{is_separated, is_top_rank, equal_ranks, class_of_rank, descends, AreApart}
use Rattle.dd_equal.proofs.EqualCards.{set-legal, ranks-of-suit}
use Rattle.dd_equal.proofs.Walks.{descends-filter, descends-all, any-member}
use Rattle.std.proofs.lemmas.Bool.{or_right}

-- a card of the list that passes
pub record Found (f : PlayingCard → Bool) (cards : List PlayingCard) : Type 0 where
  pub card : PlayingCard
  pub has : has_card cards card ≡ true
  pub passes : f card ≡ true

-- where some card passes, there is such a card
any-found : (f : PlayingCard → Bool) (cards : List PlayingCard) → list_any f cards ≡ true → Found f cards
any-found f [] h = absurd (cc)
any-found f (c ∷ cards) h = go (f c) refl (λ k. any-found f cards k) h
  where
    self : same_card c c ≡ true
    self = rw (eq-eqb (suit_code c.suit) (suit_code c.suit) refl, eq-eqb c.rank c.rank refl) refl

    go : (b : Bool) → f c ≡ b → (list_any f cards ≡ true → Found f cards) → (b || list_any f cards) ≡ true → Found f (c ∷ cards)
    go true e ih h = record { card = c; has = rw self refl; passes = e }
    go false e ih h = (let rest = ih h in record { card = rest.card; has = or_right (same_card c rest.card) _ rest.has; passes = rest.passes })

-- where some rank passes, there is such a rank
pub record FoundRank (f : ℕ → Bool) (ranks : List ℕ) : Type 0 where
  pub rank : ℕ
  pub has : has_rank ranks rank ≡ true
  pub passes : f rank ≡ true

rank-found : (f : ℕ → Bool) (ranks : List ℕ) → list_any f ranks ≡ true → FoundRank f ranks
rank-found f [] h = absurd (cc)
rank-found f (r ∷ ranks) h = go (f r) refl (λ k. rank-found f ranks k) h
  where
    go : (b : Bool) → f r ≡ b → (list_any f ranks ≡ true → FoundRank f ranks) → (b || list_any f ranks) ≡ true → FoundRank f (r ∷ ranks)
    go true e ih h = record { rank = r; has = rw (eq-eqb r r refl) refl; passes = e }
    go false e ih h = (let rest = ih h in record { rank = rest.rank; has = or_right (r == rest.rank) _ rest.has; passes = rest.passes })

-- the ranks of a suit among some cards
abbrev pub suit_ranks : Suit → List PlayingCard → List ℕ
suit_ranks s cards = filter (λ r. has_card cards (card_of s r)) all_ranks

-- a test of a suit's cards is one of their ranks
any-suit : (s : Suit) (f : ℕ → Bool) (cards : List PlayingCard) → ((c : PlayingCard) → has_card cards c ≡ true → IsRank c.rank)
    → list_any (λ e. is_of s e && f e.rank) cards ≡ list_any f (suit_ranks s cards)
any-suit s f cards real = both-ways _ _ to from
  where
    to : list_any (λ e. is_of s e && f e.rank) cards ≡ true → list_any f (suit_ranks s cards) ≡ true
    to h =
        let found : Found (λ e. is_of s e && f e.rank) cards = any-found (λ e. is_of s e && f e.rank) cards h in
        let same : same_card found.card (card_of s found.card.rank) ≡ true = rw (and-left (is_of s found.card) _ found.passes, eq-eqb found.card.rank found.card.rank refl) refl in
        let is : found.card ≡ card_of s found.card.rank = same_card-eq found.card (card_of s found.card.rank) same in
        let there : has_card cards (card_of s found.card.rank) ≡ true = ap (has_card cards) (sym is) ∙ found.has in
        any-member f (suit_ranks s cards) found.card.rank (has-filter (λ r. has_card cards (card_of s r)) all_ranks found.card.rank ∙ rw (there, has-all found.card.rank (real found.card found.has)) refl) (and-right (is_of s found.card) _ found.passes)

    from : list_any f (suit_ranks s cards) ≡ true → list_any (λ e. is_of s e && f e.rank) cards ≡ true
    from h =
        let found : FoundRank f (suit_ranks s cards) = rank-found f (suit_ranks s cards) h in
        let there : has_card cards (card_of s found.rank) ≡ true = and-left _ (has_rank all_ranks found.rank) (sym (has-filter (λ r. has_card cards (card_of s r)) all_ranks found.rank) ∙ found.has) in
        any-card (λ e. is_of s e && f e.rank) cards (card_of s found.rank) there (rw (eq-eqb (suit_code s) (suit_code s) refl) found.passes)

-- ---- the other cards
any-append : (f : PlayingCard → Bool) (xs ys : List PlayingCard) → list_any f (xs ++ ys) ≡ (list_any f xs || list_any f ys)
any-append f [] ys = refl
any-append f (x ∷ xs) ys = ap (λ b. f x || b) (any-append f xs ys) ∙ assoc (f x) (list_any f xs) (list_any f ys)
  where
    assoc : (a b c : Bool) → (a || (b || c)) ≡ ((a || b) || c)
    assoc true b c = refl
    assoc false b c = refl

-- a card among the other cards is in one of the three hands or on the trick
pub others-split : (p : Board) (c : PlayingCard) → has_card (other_cards p) c ≡ (((has_card (cards_at p (seat_after (mover p) 1)) c || has_card (cards_at p (seat_after (mover p) 2)) c) || has_card (cards_at p (seat_after (mover p) 3)) c) || has_card p.trick c)
others-split p c =
    any-append same (a ++ b ++ d) p.trick
    ∙ ap (λ x. x || has_card p.trick c) (any-append same (a ++ b) d ∙ ap (λ x. x || has_card d c) (any-append same a b))
  where
    same : PlayingCard → Bool
    same x = same_card x c

    a : List PlayingCard
    a = cards_at p (seat_after (mover p) 1)

    b : List PlayingCard
    b = cards_at p (seat_after (mover p) 2)

    d : List PlayingCard
    d = cards_at p (seat_after (mover p) 3)

-- the other cards are real
others-real : (p : Board) → IsBoard p → (c : PlayingCard) → has_card (other_cards p) c ≡ true → IsRank c.rank
others-real p valid c has = go (has_card (cards_at p (seat_after (mover p) 1)) c) (has_card (cards_at p (seat_after (mover p) 2)) c) (has_card (cards_at p (seat_after (mover p) 3)) c) refl refl refl (sym (others-split p c) ∙ has)
  where
    in_hand : (k : ℕ) → has_card (cards_at p (seat_after (mover p) k)) c ≡ true → IsRank c.rank
    in_hand k h = real-set (cards_at p (seat_after (mover p) k)) c (valid.sets (seat_after (mover p) k)) h

    go : (x y z : Bool) → has_card (cards_at p (seat_after (mover p) 1)) c ≡ x → has_card (cards_at p (seat_after (mover p) 2)) c ≡ y → has_card (cards_at p (seat_after (mover p) 3)) c ≡ z → (((x || y) || z) || has_card p.trick c) ≡ true → IsRank c.rank
    go true y z e f g h = in_hand 1 e
    go false true z e f g h = in_hand 2 f
    go false false true e f g h = in_hand 3 g
    go false false false e f g h = valid.real c h

-- no other card is one of the mover's
pub others-differ : (p : Board) (c : PlayingCard) → IsBoard p → has_card (cards_at p (mover p)) c ≡ true → has_card (other_cards p) c ≡ true → ⊥
others-differ p c valid own has =
    let sum = valid.once c in
    let mine = times-has (cards_at p (mover p)) c own in
    let total = four-hands (mover p) in
    let theirs = go (has_card (cards_at p (seat_after (mover p) 1)) c) (has_card (cards_at p (seat_after (mover p) 2)) c) (has_card (cards_at p (seat_after (mover p) 3)) c) refl refl refl (sym (others-split p c) ∙ has) in
    omega (arith, sum, mine, total, theirs)
  where
    t : Seat → ℕ
    t s = times (cards_at p s) c

    four-hands : (s : Seat) → times (hand_of p.hands North) c + times (hand_of p.hands East) c + times (hand_of p.hands South) c + times (hand_of p.hands West) c
        ≡ times (cards_at p s) c + times (cards_at p (seat_after s 1)) c + times (cards_at p (seat_after s 2)) c + times (cards_at p (seat_after s 3)) c
    four-hands North = refl
    four-hands East = omega arith
    four-hands South = omega arith
    four-hands West = omega arith

    go : (x y z : Bool) → has_card (cards_at p (seat_after (mover p) 1)) c ≡ x → has_card (cards_at p (seat_after (mover p) 2)) c ≡ y → has_card (cards_at p (seat_after (mover p) 3)) c ≡ z → (((x || y) || z) || has_card p.trick c) ≡ true
        → 1 ≤ times (cards_at p (seat_after (mover p) 1)) c + times (cards_at p (seat_after (mover p) 2)) c + times (cards_at p (seat_after (mover p) 3)) c + times p.trick c
    go true y z e f g h = (let k = times-has (cards_at p (seat_after (mover p) 1)) c e in omega (arith, k))
    go false true z e f g h = (let k = times-has (cards_at p (seat_after (mover p) 2)) c f in omega (arith, k))
    go false false true e f g h = (let k = times-has (cards_at p (seat_after (mover p) 3)) c g in omega (arith, k))
    go false false false e f g h = (let k = times-has p.trick c h in omega (arith, k))

-- ---- the classes of a suit
-- the mover's legal ranks of a suit, and the others' ranks of it
pub record AreRanks (p : Board) (s : Suit) (own others : List ℕ) : Type 0 where
  pub of_mover : map (card_of s) own ≡ filter (is_of s) (legal p)
  pub of_others : others ≡ suit_ranks s (other_cards p)

-- what lies between two cards lies between their ranks
pub between-ranks : (p : Board) (s : Suit) (own others : List ℕ) (r q : ℕ) → IsBoard p → AreRanks p s own others → list_any (is_between (card_of s r) (card_of s q)) (other_cards p) ≡ is_separated others r q
between-ranks p s own others r q valid are =
    any-suit s (λ x. (nat_lt r x && nat_lt x q) || (nat_lt q x && nat_lt x r)) (other_cards p) (others-real p valid)
    ∙ ap (list_any (λ x. (nat_lt r x && nat_lt x q) || (nat_lt q x && nat_lt x r))) (sym are.of_others)

-- a test of the suit's cards, by their ranks
any-ranks : (s : Suit) (g : PlayingCard → Bool) (f : ℕ → Bool) (own : List ℕ) (cards : List PlayingCard) → map (card_of s) own ≡ filter (is_of s) cards → ((q : ℕ) → g (card_of s q) ≡ f q)
    → list_any (λ d. is_of s d && g d) cards ≡ list_any f own
any-ranks s g f own cards e same = parts cards ∙ ap (list_any g) (sym e) ∙ ranks own
  where
    parts : (xs : List PlayingCard) → list_any (λ d. is_of s d && g d) xs ≡ list_any g (filter (is_of s) xs)
    parts [] = refl
    parts (x ∷ xs) =
        let ih = parts xs in
        elim (is_of s x) as (λ b. ((b && g x) || list_any (λ d. is_of s d && g d) xs) ≡ list_any g (cond b (x ∷ filter (is_of s) xs) (filter (is_of s) xs))) [
          | true ↦ ap (λ b. g x || b) ih
          | false ↦ ih
        ]

    ranks : (qs : List ℕ) → list_any g (map (card_of s) qs) ≡ list_any f qs
    ranks [] = refl
    ranks (q ∷ qs) = rw (same q, ranks qs) refl

and-assoc : (a b c : Bool) → ((a && b) && c) ≡ (a && (b && c))
and-assoc true b c = refl
and-assoc false b c = refl

any-same : (f g : PlayingCard → Bool) (cards : List PlayingCard) → ((c : PlayingCard) → f c ≡ g c) → list_any f cards ≡ list_any g cards
any-same f g [] e = refl
any-same f g (c ∷ cards) e = rw (e c, any-same f g cards e) refl

-- the highest cards of classes, by their ranks
top-ranks : (p : Board) (s : Suit) (own others : List ℕ) (r : ℕ) → IsBoard p → AreRanks p s own others → is_top p (card_of s r) ≡ is_top_rank own others r
top-ranks p s own others r valid are =
    ap not (any-same (λ d. are_equal p (card_of s r) d && nat_lt r d.rank) (λ d. is_of s d && g d) (legal p) (λ d. and-assoc (is_of s d) _ (nat_lt r d.rank))
    ∙ any-ranks s g (λ q. not (is_separated others r q) && nat_lt r q) own (legal p) are.of_mover (λ q. ap (λ b. not b && nat_lt r q) (between-ranks p s own others r q valid are)))
  where
    g : PlayingCard → Bool
    g d = not (list_any (is_between (card_of s r) d) (other_cards p)) && nat_lt r d.rank

-- the class of a card, by its rank
pub class-ranks : (p : Board) (s : Suit) (own others : List ℕ) (r : ℕ) → IsBoard p → AreRanks p s own others → class_of p (card_of s r) ≡ class_of_rank s own others r
class-ranks p s own others r valid are = ap seen (ap mask_of (ap (map (λ c. c.rank)) cards ∙ ranks-of-suit s (equal_ranks own others r)))
  where
    seen : ℕ → EqualCards
    seen n = record { top = card_of s r; equals = n }

    g : PlayingCard → Bool
    g d = not (list_any (is_between (card_of s r) d) (other_cards p)) && nat_lt d.rank r

    cards : filter (λ d. are_equal p (card_of s r) d && nat_lt d.rank r) (legal p) ≡ map (card_of s) (equal_ranks own others r)
    cards =
        filter_agree (λ d. are_equal p (card_of s r) d && nat_lt d.rank r) (λ d. is_of s d && g d) (λ d. and-assoc (is_of s d) _ (nat_lt d.rank r)) (legal p)
        ∙ sym (filter-filter g (is_of s) (legal p)) ∙ ap (filter g) (sym are.of_mover) ∙ filter-map g (card_of s) own
        ∙ ap (map (card_of s)) (filter_agree (λ q. g (card_of s q)) (λ q. not (is_separated others r q) && nat_lt q r) (λ q. ap (λ b. not b && nat_lt q r) (between-ranks p s own others r q valid are)) own)

-- the classes of a suit, by their ranks
pub suit-classes : (p : Board) (s : Suit) (own others : List ℕ) → IsBoard p → AreRanks p s own others
    → map (class_of_rank s own others) (filter (is_top_rank own others) own) ≡ map (class_of p) (filter (is_top p) (filter (is_of s) (legal p)))
suit-classes p s own others valid are =
    sym (ap (λ cards. map (class_of p) (filter (is_top p) cards)) (sym are.of_mover)
    ∙ ap (map (class_of p)) (filter-map (is_top p) (card_of s) own ∙ ap (map (card_of s)) (filter_agree (λ r. is_top p (card_of s r)) (is_top_rank own others) (λ r. top-ranks p s own others r valid are) own))
    ∙ each (filter (is_top_rank own others) own))
  where
    each : (rs : List ℕ) → map (class_of p) (map (card_of s) rs) ≡ map (class_of_rank s own others) rs
    each [] = refl
    each (r ∷ rs) = ap (λ x. x ∷ map (class_of p) (map (card_of s) rs)) (class-ranks p s own others r valid are) ∙ ap (λ xs. class_of_rank s own others r ∷ xs) (each rs)

-- the mover's ranks and the others' are two sets that share none
pub ranks-apart : (p : Board) (s : Suit) (own others : List ℕ) → IsBoard p → AreRanks p s own others → AreApart own others
ranks-apart p s own others valid are =
    record {
      own_falls = ap descends list ∙ descends-filter (λ r. has_card (legal p) (card_of s r)) all_ranks descends-all;
      others_fall = ap descends are.of_others ∙ descends-filter (λ r. has_card (other_cards p) (card_of s r)) all_ranks descends-all;
      small = λ q h. (let real = real-set (legal p) (card_of s q) (set-legal p valid) (mine q h) in (omega (arith, real.0), omega (arith, real.1)));
      differ = λ q h k. others-differ p (card_of s q) valid (in-following p.trick (cards_at p (mover p)) (card_of s q) (mine q h))
          (and-left _ (has_rank all_ranks q) (sym (has-filter (λ r. has_card (other_cards p) (card_of s r)) all_ranks q) ∙ ap (λ xs. has_rank xs q) (sym are.of_others) ∙ k));
    }
  where
    list : own ≡ suit_ranks s (legal p)
    list = ranks-from_cards s own (suit_ranks s (legal p)) (are.of_mover ∙ suit-ranks s (legal p) (set-legal p valid))

    mine : (q : ℕ) → has_rank own q ≡ true → has_card (legal p) (card_of s q) ≡ true
    mine q h = sym (has_rank-holding s own (legal p) q are.of_mover) ∙ h

-- ---- all four suits
-- the classes are those of the four suits
pub classes-by-suit : (p : Board) → IsBoard p → (n a b c d : List EqualCards) → n ≡ [] → a ≡ n ++ map (class_of p) (filter (is_top p) (filter (is_of Spades) (legal p)))
    → b ≡ a ++ map (class_of p) (filter (is_top p) (filter (is_of Hearts) (legal p))) → c ≡ b ++ map (class_of p) (filter (is_top p) (filter (is_of Diamonds) (legal p)))
    → d ≡ c ++ map (class_of p) (filter (is_top p) (filter (is_of Clubs) (legal p))) → d ≡ classes_of p
classes-by-suit p valid n a b c d en ea eb ec ed =
    ed ∙ ap (λ xs. xs ++ k Clubs) (ec ∙ ap (λ xs. xs ++ k Diamonds) (eb ∙ ap (λ xs. xs ++ k Hearts) (ea ∙ ap (λ xs. xs ++ k Spades) en)))
    ∙ sym (ap (λ xs. map (class_of p) (filter (is_top p) xs)) (set-by-suits (legal p) (set-legal p valid))
    ∙ parts (part Spades ++ part Hearts ++ part Diamonds) (part Clubs) ∙ ap (λ xs. xs ++ k Clubs) (parts (part Spades ++ part Hearts) (part Diamonds) ∙ ap (λ xs. xs ++ k Diamonds) (parts (part Spades) (part Hearts))))
  where
    part : Suit → List PlayingCard
    part s = filter (is_of s) (legal p)

    k : Suit → List EqualCards
    k s = map (class_of p) (filter (is_top p) (filter (is_of s) (legal p)))

    parts : (xs ys : List PlayingCard) → map (class_of p) (filter (is_top p) (xs ++ ys)) ≡ map (class_of p) (filter (is_top p) xs) ++ map (class_of p) (filter (is_top p) ys)
    parts xs ys = ap (map (class_of p)) (filter-append (is_top p) xs ys) ∙ map-append (class_of p) (filter (is_top p) xs) (filter (is_top p) ys)

-- the four suits have as many cards as there are
pub length-suits : (p : Board) → IsBoard p → length (filter (is_of Spades) (legal p)) + length (filter (is_of Hearts) (legal p)) + length (filter (is_of Diamonds) (legal p)) + length (filter (is_of Clubs) (legal p)) ≡ length (legal p)
length-suits p valid =
    let whole = ap length (set-by-suits (legal p) (set-legal p valid)) in
    let a = length-append (filter (is_of Spades) (legal p) ++ filter (is_of Hearts) (legal p) ++ filter (is_of Diamonds) (legal p)) (filter (is_of Clubs) (legal p)) in
    let b = length-append (filter (is_of Spades) (legal p) ++ filter (is_of Hearts) (legal p)) (filter (is_of Diamonds) (legal p)) in
    let c = length-append (filter (is_of Spades) (legal p)) (filter (is_of Hearts) (legal p)) in
    omega (arith, whole, a, b, c)

-- ---- the ranks of the other cards
-- a set of ranks, by its members
pub ranks-start : (ranks : List ℕ) (t : ℕ → Bool) (s : Suit) → ranks ≡ filter t all_ranks → ranks ≡ filter (λ r. has_rank ranks r || has_card [] (card_of s r)) all_ranks
ranks-start ranks t s e = e ∙ filter-members t (λ r. has_rank ranks r || false) all_ranks (λ r h. sym (ap (λ xs. has_rank xs r || false) e ∙ ap (λ b. b || false) (has-filter t all_ranks r) ∙ rw h (plain (t r))))
  where
    plain : (b : Bool) → ((b && true) || false) ≡ b
    plain true = refl
    plain false = refl

-- one card more of the trick
pub ranks-more : (s : Suit) (x : PlayingCard) (start ranks new : List ℕ) (items : List PlayingCard) (i : ℕ) → i < length items → x ≡ get_or items i x
    → ranks ≡ filter (λ r. has_rank start r || has_card (take i items) (card_of s r)) all_ranks → new ≡ cond (is_of s x) (with_rank ranks x.rank) ranks
    → new ≡ filter (λ r. has_rank start r || has_card (take (i + 1) items) (card_of s r)) all_ranks
ranks-more s x start ranks new items i within here e is_new = is_new ∙ go (is_of s x) refl
  where
    before : ℕ → Bool
    before r = has_rank start r || has_card (take i items) (card_of s r)

    after : (r : ℕ) → has_card (take (i + 1) items) (card_of s r) ≡ (has_card (take i items) (card_of s r) || (is_of s x && (x.rank == r)))
    after r =
        ap (λ xs. has_card xs (card_of s r)) (take_more items i x within ∙ ap (λ y. take i items ++ y ∷ []) (sym here))
        ∙ any-append (λ y. same_card y (card_of s r)) (take i items) (x ∷ []) ∙ ap (λ b. has_card (take i items) (card_of s r) || b) (plain (same_card x (card_of s r)))
      where
        plain : (b : Bool) → (b || false) ≡ b
        plain true = refl
        plain false = refl

    go : (b : Bool) → is_of s x ≡ b → cond b (with_rank ranks x.rank) ranks ≡ filter (λ r. has_rank start r || has_card (take (i + 1) items) (card_of s r)) all_ranks
    go false h = e ∙ filter_agree before (λ r. has_rank start r || has_card (take (i + 1) items) (card_of s r)) (λ r. ap (λ b. has_rank start r || b) (sym (after r ∙ rw h (plain (has_card (take i items) (card_of s r)))))) all_ranks
      where
        plain : (b : Bool) → (b || false) ≡ b
        plain true = refl
        plain false = refl
    go true h = filter-members (λ q. (q == x.rank) || has_rank ranks q) (λ r. has_rank start r || has_card (take (i + 1) items) (card_of s r)) all_ranks
        (λ r k. ap (λ b. (r == x.rank) || b) (ap (λ xs. has_rank xs r) e ∙ has-filter before all_ranks r) ∙ rw k (swap (r == x.rank) (x.rank == r) (has_rank start r) (has_card (take i items) (card_of s r)) (turn r))
        ∙ sym (ap (λ b. has_rank start r || b) (after r ∙ ap (λ b. has_card (take i items) (card_of s r) || (b && (x.rank == r))) h)))
      where
        turn : (r : ℕ) → (r == x.rank) ≡ (x.rank == r)
        turn r = elim (eqb_tells r x.rank) [ inl same ↦ same.0 ∙ sym (eq-eqb x.rank r (sym same.1)) | inr other ↦ elim (eqb_tells x.rank r) [ inl same ↦ absurd (other.1 (sym same.1)) | inr apart ↦ other.0 ∙ sym apart.0 ] ]

        swap : (a a' b c : Bool) → a ≡ a' → (a || ((b || c) && true)) ≡ (b || (c || (true && a')))
        swap a true true c e = rw e refl
        swap a true false true e = rw e refl
        swap a true false false e = rw e refl
        swap a false true c e = rw e refl
        swap a false false true e = rw e refl
        swap a false false false e = rw e refl

-- all the other cards
pub others-ranks : (p : Board) (s : Suit) (one two three both all ranks : List ℕ) (items : List PlayingCard) (n : ℕ)
    → map (card_of s) one ≡ filter (is_of s) (cards_at p (seat_after (mover p) 1)) → map (card_of s) two ≡ filter (is_of s) (cards_at p (seat_after (mover p) 2)) → map (card_of s) three ≡ filter (is_of s) (cards_at p (seat_after (mover p) 3))
    → both ≡ filter (λ q. has_rank one q || has_rank two q) all_ranks → all ≡ filter (λ q. has_rank both q || has_rank three q) all_ranks
    → ranks ≡ filter (λ r. has_rank all r || has_card (take n items) (card_of s r)) all_ranks → take n items ≡ p.trick → ranks ≡ suit_ranks s (other_cards p)
others-ranks p s one two three both all ranks items n e1 e2 e3 is_both is_all is_ranks trick =
    is_ranks ∙ filter-members _ (λ r. has_card (other_cards p) (card_of s r)) all_ranks (λ r h.
    ap (λ xs. has_rank all r || has_card xs (card_of s r)) trick
    ∙ ap (λ b. b || has_card p.trick (card_of s r)) (ap (λ xs. has_rank xs r) is_all ∙ has-filter (λ q. has_rank both q || has_rank three q) all_ranks r ∙ rw h (plain (has_rank both r || has_rank three r))
    ∙ ap (λ b. b || has_rank three r) (ap (λ xs. has_rank xs r) is_both ∙ has-filter (λ q. has_rank one q || has_rank two q) all_ranks r ∙ rw h (plain (has_rank one r || has_rank two r)))
    ∙ tests _ _ _ _ _ _ (has_rank-holding s one (cards_at p (seat_after (mover p) 1)) r e1) (has_rank-holding s two (cards_at p (seat_after (mover p) 2)) r e2) (has_rank-holding s three (cards_at p (seat_after (mover p) 3)) r e3))
    ∙ sym (others-split p (card_of s r)))
  where
    tests : (a a' b b' d d' : Bool) → a ≡ a' → b ≡ b' → d ≡ d' → ((a || b) || d) ≡ ((a' || b') || d')
    tests a a' b b' d d' e f g = rw (e, f, g) refl

    plain : (b : Bool) → (b && true) ≡ b
    plain true = refl
    plain false = refl
