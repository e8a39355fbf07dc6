-- the winner by the Laws is the place of the greatest strength
use Rattle.std.proofs.Common.{◌≡◌, ℕ, ◌+◌, ◌≤◌, Bool, true, false, refl, sym, ap, ◌∙◌, subst, arith, List, [], ◌∷◌, length, get_or, eq-eqb}
use Rattle.std.specs.Prelude.{filter, map, nat_le, ◌&&◌, if◌then◌else◌}
use Rattle.std.specs.List.{list_all, position_or_len}
use Rattle.std.proofs.lemmas.Bool.{le-leb}
use Rattle.std.proofs.lemmas.Bool.Decides.{nat_tests}
use Rattle.std.proofs.lemmas.List.Folds.{list_all-map}
use Rattle.dd_cards.specs.declared.suit.Suit.{Suit}
use Rattle.dd_cards.specs.declared.strain.Strain.{Strain}
use Rattle.dd_cards.specs.PlayingCard.{PlayingCard}
use Rattle.dd_cards.specs.Ranks.{IsRank}
use Rattle.dd_cards.specs.Suits.{suit_code}
use Rattle.dd_cards.specs.Cards.{is_of, same_card, has_card}
use Rattle.dd_cards.proofs.CallerLemmas.{and-false, and-left, and-right, has_card-filter, same_card-eq}
use Rattle.dd_cards.specs.declared.seat.Seat.{Seat}
use Rattle.dd_cards.specs.Seats.{seat_after}
use Rattle.dd_play.specs.Tricks.{is_trump, or_else, deciding, is_highest_of, winning_place, winner_of}
use Rattle.dd_play.specs.Strength.{strength, place_of_greatest, strongest_place}
use Rattle.dd_play.proofs.Boards.{has-first, in-rest}

-- ---- lists
-- a test of the cards kept, by one of all cards that those not kept pass
all-filter : (q f g : PlayingCard → Bool) (cards : List PlayingCard) → ((d : PlayingCard) → has_card cards d ≡ true → q d ≡ true → f d ≡ g d)
    → ((d : PlayingCard) → has_card cards d ≡ true → q d ≡ false → g d ≡ true) → list_all f (filter q cards) ≡ list_all g cards
all-filter q f g [] kept other = refl
all-filter q f g (d ∷ cards) kept other =
    go (q d) refl (all-filter q f g cards (λ e has. kept e (in-rest d e cards has)) (λ e has. other e (in-rest d e cards has)))
  where
    go : (b : Bool) → q d ≡ b → list_all f (filter q cards) ≡ list_all g cards → list_all f (filter q (d ∷ cards)) ≡ list_all g (d ∷ cards)
    go true e rest = rw (e, kept d (has-first d cards) e, rest) refl
    go false e rest = rw (e, other d (has-first d cards) e) rest

-- a card that fails a test
all-fails : (g : PlayingCard → Bool) (cards : List PlayingCard) (w : PlayingCard) → has_card cards w ≡ true → g w ≡ false → list_all g cards ≡ false
all-fails g [] w has fails = absurd (cc)
all-fails g (d ∷ cards) w has fails = go (same_card d w) refl (all-fails g cards w)
  where
    go : (b : Bool) → same_card d w ≡ b → (has_card cards w ≡ true → g w ≡ false → list_all g cards ≡ false) → list_all g (d ∷ cards) ≡ false
    go true e rest = (let k : g d ≡ false = ap g (same_card-eq d w e) ∙ fails in rw k refl)
    go false e rest = (let k : list_all g cards ≡ false = rest (rw e at has) fails in rw k (sym (and-false (g d))))

-- the first place, by tests that agree on the cards
pub position-where : (p q : PlayingCard → Bool) (cards : List PlayingCard) → ((c : PlayingCard) → has_card cards c ≡ true → p c ≡ q c) → position_or_len p cards ≡ position_or_len q cards
position-where p q [] same = refl
position-where p q (c ∷ cards) same =
    rw (same c (has-first c cards), position-where p q cards (λ d has. same d (in-rest c d cards has))) refl

-- a place among the numbers of the cards
position-map : (p : ℕ → Bool) (f : PlayingCard → ℕ) (cards : List PlayingCard) → position_or_len p (map f cards) ≡ position_or_len (λ c. p (f c)) cards
position-map p f [] = refl
position-map p f (c ∷ cards) = rw (position-map p f cards) refl

-- ---- the deciding cards are those of the greatest numbers
-- q picks the cards that decide, one of which is w, and `power` puts them above the others and in order of rank
record Decides (q : PlayingCard → Bool) (power : PlayingCard → ℕ) (cards : List PlayingCard) (w : PlayingCard) : Type 0 where
  some : has_card cards w ≡ true
  first : q w ≡ true
  order : (c d : PlayingCard) → has_card cards c ≡ true → has_card cards d ≡ true → q c ≡ true → q d ≡ true → nat_le d.rank c.rank ≡ nat_le (power d) (power c)
  over : (c d : PlayingCard) → has_card cards c ≡ true → has_card cards d ≡ true → q c ≡ true → q d ≡ false → nat_le (power d) (power c) ≡ true
  under : (c d : PlayingCard) → has_card cards c ≡ true → has_card cards d ≡ true → q c ≡ false → q d ≡ true → nat_le (power d) (power c) ≡ false

-- of the deciding cards, the highest is the one of the greatest number on the whole trick
highest-power : (q : PlayingCard → Bool) (power : PlayingCard → ℕ) (cards : List PlayingCard) (w : PlayingCard) → Decides q power cards w → (c : PlayingCard) → has_card cards c ≡ true
    → is_highest_of (filter q cards) c ≡ list_all (λ d. nat_le (power d) (power c)) cards
highest-power q power cards w decides c has = go (q c) refl
  where
    go : (b : Bool) → q c ≡ b → is_highest_of (filter q cards) c ≡ list_all (λ d. nat_le (power d) (power c)) cards
    go true e =
        rw (has_card-filter q cards c, e, has)
        (all-filter q (λ d. nat_le d.rank c.rank) (λ d. nat_le (power d) (power c)) cards (λ d own k. decides.order c d has own e k) (λ d own k. decides.over c d has own e k))
    go false e =
        rw (has_card-filter q cards c, e)
        (sym (all-fails (λ d. nat_le (power d) (power c)) cards w decides.some (decides.under c w has decides.some e decides.first)))

-- ---- the numbers
-- twenty more on both sides
same-up : (m n : ℕ) → nat_le m n ≡ nat_le (20 + m) (20 + n)
same-up m n = grind (arith, nat_tests)

-- a trump is stronger than any other card
over-trump : (led : Bool) (m n : ℕ) → m ≤ 14 → nat_le (if led then m else 0) (20 + n) ≡ true
over-trump true m n h = le-leb m (20 + n) (omega arith)
over-trump false m n h = le-leb 0 (20 + n) (omega arith)

-- and no other card is as strong
under-trump : (led : Bool) (m n : ℕ) → m ≤ 14 → nat_le (20 + n) (if led then m else 0) ≡ false
under-trump true m n h = grind (arith, nat_tests)
under-trump false m n h = grind (arith, nat_tests)

-- a card of the suit led is stronger than one of a third suit
above-none : (n : ℕ) → 2 ≤ n → nat_le n 0 ≡ false
above-none n h = grind (arith, nat_tests)

-- ---- a trick
-- what each card of a trick is: a trump, or not
trumps-decide : (strain : Strain) (led : PlayingCard) (cards : List PlayingCard) (w : PlayingCard) → ((c : PlayingCard) → has_card cards c ≡ true → IsRank c.rank)
    → has_card cards w ≡ true → is_trump strain w ≡ true → Decides (is_trump strain) (strength strain led.suit) cards w
trumps-decide strain led cards w real some first =
    record {
      some = some;
      first = first;
      order = λ c d hc hd tc td. rw (tc, td) (same-up d.rank c.rank);
      over = λ c d hc hd tc td. rw (tc, td) (over-trump (is_of led.suit d) d.rank c.rank (real d hd).1);
      under = λ c d hc hd tc td. rw (tc, td) (under-trump (is_of led.suit c) c.rank d.rank (real c hc).1);
    }

-- without a trump, the cards of the suit led decide
led-decide : (strain : Strain) (led : PlayingCard) (cards : List PlayingCard) → ((c : PlayingCard) → has_card cards c ≡ true → IsRank c.rank)
    → ((c : PlayingCard) → has_card cards c ≡ true → is_trump strain c ≡ false) → has_card cards led ≡ true → Decides (is_of led.suit) (strength strain led.suit) cards led
led-decide strain led cards real none some =
    record {
      some = some;
      first = own;
      order = λ c d hc hd sc sd. rw (none c hc, none d hd, sc, sd) refl;
      over = λ c d hc hd sc sd. rw (none c hc, none d hd, sc, sd) (le-leb 0 c.rank (omega arith));
      under = λ c d hc hd sc sd. rw (none c hc, none d hd, sc, sd) (above-none d.rank (real d hd).0);
    }
  where
    own : is_of led.suit led ≡ true
    own = eq-eqb (suit_code led.suit) (suit_code led.suit) refl

-- For each card of a trick with real ranks: it is the highest of those that decide exactly where no card is stronger.
pub highest-strongest : (strain : Strain) (led : PlayingCard) (rest : List PlayingCard) → ((c : PlayingCard) → has_card (led ∷ rest) c ≡ true → IsRank c.rank)
    → (c : PlayingCard) → has_card (led ∷ rest) c ≡ true
    → is_highest_of (deciding strain (led ∷ rest)) c ≡ list_all (λ d. nat_le (strength strain led.suit d) (strength strain led.suit c)) (led ∷ rest)
highest-strongest strain led rest real c has = go (filter (is_trump strain) (led ∷ rest)) refl
  where
    Goal : List PlayingCard → Type 0
    Goal trumps = is_highest_of (or_else trumps (filter (is_of led.suit) (led ∷ rest))) c ≡ list_all (λ d. nat_le (strength strain led.suit d) (strength strain led.suit c)) (led ∷ rest)

    go : (trumps : List PlayingCard) → filter (is_trump strain) (led ∷ rest) ≡ trumps
        → is_highest_of (or_else (filter (is_trump strain) (led ∷ rest)) (filter (is_of led.suit) (led ∷ rest))) c ≡ list_all (λ d. nat_le (strength strain led.suit d) (strength strain led.suit c)) (led ∷ rest)
    go [] e =
        ap (λ trumps. is_highest_of (or_else trumps (filter (is_of led.suit) (led ∷ rest))) c) e
        ∙ highest-power (is_of led.suit) (strength strain led.suit) (led ∷ rest) led (led-decide strain led (led ∷ rest) real none (has-first led rest)) c has
      where
        none : (d : PlayingCard) → has_card (led ∷ rest) d ≡ true → is_trump strain d ≡ false
        none d own = pick (is_trump strain d) refl
          where
            pick : (b : Bool) → is_trump strain d ≡ b → is_trump strain d ≡ false
            pick false k = k
            pick true k =
                let kept : has_card (filter (is_trump strain) (led ∷ rest)) d ≡ true = has_card-filter (is_trump strain) (led ∷ rest) d ∙ rw (k, own) refl in
                absurd (let no : false ≡ true = ap (λ cards. has_card cards d) (sym e) ∙ kept in cc)
    go (w ∷ trumps) e =
        ap (λ trumps. is_highest_of (or_else trumps (filter (is_of led.suit) (led ∷ rest))) c) e
        ∙ ap (λ trumps. is_highest_of trumps c) (sym e)
        ∙ highest-power (is_trump strain) (strength strain led.suit) (led ∷ rest) w (trumps-decide strain led (led ∷ rest) w real (and-right (is_trump strain w) (has_card (led ∷ rest) w) both) (and-left (is_trump strain w) (has_card (led ∷ rest) w) both)) c has
      where
        both : (is_trump strain w && has_card (led ∷ rest) w) ≡ true
        both = sym (has_card-filter (is_trump strain) (led ∷ rest) w) ∙ ap (λ cards. has_card cards w) e ∙ has-first w trumps

-- The winner by the Laws stands at the place of the greatest strength.
pub winning-strongest : (strain : Strain) (trick : List PlayingCard) → ((c : PlayingCard) → has_card trick c ≡ true → IsRank c.rank) → winning_place strain trick ≡ strongest_place strain trick
winning-strongest strain [] real = refl
winning-strongest strain (led ∷ rest) real =
    position-where (is_highest_of (deciding strain (led ∷ rest))) (λ c. list_all (λ y. nat_le y (strength strain led.suit c)) (map (strength strain led.suit) (led ∷ rest))) (led ∷ rest)
    (λ c has. highest-strongest strain led rest real c has ∙ sym (list_all-map (λ y. nat_le y (strength strain led.suit c)) (strength strain led.suit) (led ∷ rest)))
    ∙ sym (position-map (λ x. list_all (λ y. nat_le y x) (map (strength strain led.suit) (led ∷ rest))) (strength strain led.suit) (led ∷ rest))

-- ---- what the code computes
four-cards : (trick : List PlayingCard) (w x y z : PlayingCard) → length trick ≡ 4 → get_or trick 0 w ∷ get_or trick 1 x ∷ get_or trick 2 y ∷ get_or trick 3 z ∷ [] ≡ trick
four-cards (a ∷ b ∷ c ∷ d ∷ []) w x y z four = refl
four-cards trick w x y z four = absurd (omega (arith, four))

-- four real cards are a list of real cards
pub real-four : (a b c d : PlayingCard) → IsRank a.rank → IsRank b.rank → IsRank c.rank → IsRank d.rank → (x : PlayingCard) → has_card (a ∷ b ∷ c ∷ d ∷ []) x ≡ true → IsRank x.rank
real-four a b c d ra rb rc rd x has = go (same_card a x) (same_card b x) (same_card c x) (same_card d x) refl refl refl refl
  where
    same : (y : PlayingCard) → IsRank y.rank → same_card y x ≡ true → IsRank x.rank
    same y r e = subst (λ (z : PlayingCard). IsRank z.rank) (same_card-eq y x e) r

    go : (p q r s : Bool) → same_card a x ≡ p → same_card b x ≡ q → same_card c x ≡ r → same_card d x ≡ s → IsRank x.rank
    go true q r s e f g h = same a ra e
    go false true r s e f g h = same b rb f
    go false false true s e f g h = same c rc g
    go false false false true e f g h = same d rd h
    go false false false false e f g h = absurd (let no : false ≡ true = rw (e, f, g, h) at has in cc)

-- the greatest of four strengths stands where the winner does
pub winner-strongest : (strain : Strain) (first : Seat) (trick : List PlayingCard) (w x y z : PlayingCard) (led : Suit) (place : ℕ) → length trick ≡ 4 → led ≡ (get_or trick 0 w).suit
    → IsRank (get_or trick 0 w).rank → IsRank (get_or trick 1 x).rank → IsRank (get_or trick 2 y).rank → IsRank (get_or trick 3 z).rank
    → place ≡ place_of_greatest (strength strain led (get_or trick 0 w) ∷ strength strain led (get_or trick 1 x) ∷ strength strain led (get_or trick 2 y) ∷ strength strain led (get_or trick 3 z) ∷ [])
    → seat_after first place ≡ winner_of trick first strain
winner-strongest strain first trick w x y z led place four suit ra rb rc rd is =
    let cards : List PlayingCard = get_or trick 0 w ∷ get_or trick 1 x ∷ get_or trick 2 y ∷ get_or trick 3 z ∷ [] in
    let own : cards ≡ trick = four-cards trick w x y z four in
    let by_led : place ≡ strongest_place strain cards = is ∙ ap (λ u. place_of_greatest (map (strength strain u) cards)) suit in
    let by_laws : place ≡ winning_place strain cards = by_led ∙ sym (winning-strongest strain cards (real-four (get_or trick 0 w) (get_or trick 1 x) (get_or trick 2 y) (get_or trick 3 z) ra rb rc rd)) in
    ap (seat_after first) (by_laws ∙ ap (winning_place strain) own)
