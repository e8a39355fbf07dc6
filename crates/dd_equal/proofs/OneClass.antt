-- each legal card is in one class
use Rattle.std.proofs.Common.{◌≡◌, ◌≢◌, ℕ, zero, suc, ◌+◌, ◌<◌, ◌≤◌, Bool, true, false, refl, sym, ap, ◌∙◌, subst, arith, List, [], ◌∷◌, length, eq-eqb, inl, inr, ◌⊎◌}
use Rattle.std.specs.Prelude.{filter, nat_lt, ◌&&◌, ◌||◌}
use Rattle.std.specs.List.{list_any}
use Rattle.std.proofs.lemmas.Bool.{lt-ltb, ltb-true, and_from, or_right, or_cases, not-true, not_from_false, false_from_ne_true}
use Rattle.std.proofs.lemmas.Bool.Decides.{nat_tests}
use Rattle.std.proofs.lemmas.List.{length-map}
use mathlib.Core.Bool.{not}
use mathlib.Core.Path.{ap₂}
use Rattle.dd_cards.specs.declared.suit.Suit.{Suit}
use Rattle.dd_cards.specs.Suits.{suit_code}
use Rattle.dd_cards.specs.PlayingCard.{PlayingCard}
use Rattle.dd_cards.specs.Ranks.{IsRank, all_ranks, has_rank}
use Rattle.dd_cards.specs.Masks.{in_mask}
use Rattle.dd_cards.specs.Cards.{is_of, card_of, same_card, has_card}
use Rattle.dd_cards.proofs.CallerLemmas.{IsSet-filter, and-left, and-right, and-true, any-filter, both-ways, filter-filter, filter-map, has_rank-holding, in_mask-mask_of, real-set, same_card-eq, same_card-self, suit-ranks, times-has_card, any-some, none-at, any-card, has-filter, filter-members}
use Rattle.dd_play.specs.Board.{Board, IsBoard, mover}
use Rattle.dd_play.specs.Play.{legal}
use Rattle.dd_play.specs.Simulations.{IsLegal}
use Rattle.dd_play.proofs.CallerLemmas.{card-real, count-some, filter-has, filter-passes, of-suit', own-card, suit-of}
use Rattle.dd_equal.specs.EqualCards.{EqualCards, other_cards, is_between, are_equal, is_top, tops, equals_of, class_of, classes_of, class_has}
use Rattle.dd_equal.specs.SuitClasses.{is_separated, equal_ranks}
use Rattle.dd_equal.proofs.EqualCards.{set-legal}
use Rattle.dd_equal.proofs.Suits.{AreRanks, between-ranks, class-ranks, others-differ, suit_ranks}

-- ---- equal cards, by ranks

-- two cards are of one suit, and no other card is between them
record NoneBetween (p : Board) (c d : PlayingCard) : Type 0 where
  suit : d.suit ≡ c.suit
  up : (e : PlayingCard) → has_card (other_cards p) e ≡ true → e.suit ≡ c.suit → c.rank < e.rank → e.rank < d.rank → ⊥
  down : (e : PlayingCard) → has_card (other_cards p) e ≡ true → e.suit ≡ c.suit → d.rank < e.rank → e.rank < c.rank → ⊥

-- so are equal cards
tells : (p : Board) (c d : PlayingCard) → are_equal p c d ≡ true → NoneBetween p c d
tells p c d h = record {
  suit = suit-of c.suit d (and-left (is_of c.suit d) (not (list_any (is_between c d) (other_cards p))) h);
  up = λ e has same low high. hit e has same (or-left' (nat_lt c.rank e.rank && nat_lt e.rank d.rank) _ (and_from (nat_lt c.rank e.rank) (nat_lt e.rank d.rank) (lt-ltb c.rank e.rank low) (lt-ltb e.rank d.rank high)));
  down = λ e has same low high. hit e has same (or_right (nat_lt c.rank e.rank && nat_lt e.rank d.rank) (nat_lt d.rank e.rank && nat_lt e.rank c.rank) (and_from (nat_lt d.rank e.rank) (nat_lt e.rank c.rank) (lt-ltb d.rank e.rank low) (lt-ltb e.rank c.rank high)));
}
  where
    or-left' : (a b : Bool) → a ≡ true → (a || b) ≡ true
    or-left' a b e = rw e refl

    none : list_any (is_between c d) (other_cards p) ≡ false
    none = not-true _ (and-right (is_of c.suit d) (not (list_any (is_between c d) (other_cards p))) h)

    hit : (e : PlayingCard) → has_card (other_cards p) e ≡ true → e.suit ≡ c.suit → ((nat_lt c.rank e.rank && nat_lt e.rank d.rank) || (nat_lt d.rank e.rank && nat_lt e.rank c.rank)) ≡ true → ⊥
    hit e has same within =
        let yes : is_between c d e ≡ true = and_from (is_of c.suit e) _ (of-suit' c.suit e same) within in
        (let no : true ≡ false = sym yes ∙ none-at (is_between c d) (other_cards p) e none has in cc)

-- and such cards are equal
says : (p : Board) (c d : PlayingCard) → NoneBetween p c d → are_equal p c d ≡ true
says p c d n = and_from (is_of c.suit d) _ (of-suit' c.suit d n.suit) (not_from_false _ (false_from_ne_true _ (λ h.
    let e = any-some (is_between c d) (other_cards p) h in
    let above : Bool = nat_lt c.rank e.0.rank && nat_lt e.0.rank d.rank in
    let below : Bool = nat_lt d.rank e.0.rank && nat_lt e.0.rank c.rank in
    let same : e.0.suit ≡ c.suit = suit-of c.suit e.0 (and-left (is_of c.suit e.0) (above || below) e.2) in
    elim (or_cases above below (and-right (is_of c.suit e.0) (above || below) e.2)) [
      | inl u ↦ n.up e.0 e.1 same (ltb-true c.rank e.0.rank (and-left (nat_lt c.rank e.0.rank) (nat_lt e.0.rank d.rank) u)) (ltb-true e.0.rank d.rank (and-right (nat_lt c.rank e.0.rank) (nat_lt e.0.rank d.rank) u))
      | inr u ↦ n.down e.0 e.1 same (ltb-true d.rank e.0.rank (and-left (nat_lt d.rank e.0.rank) (nat_lt e.0.rank c.rank) u)) (ltb-true e.0.rank c.rank (and-right (nat_lt d.rank e.0.rank) (nat_lt e.0.rank c.rank) u))
    ])))

-- either way round
turned : (p : Board) (c d : PlayingCard) → NoneBetween p c d → NoneBetween p d c
turned p c d n = record {
  suit = sym n.suit;
  up = λ e has same low high. n.down e has (same ∙ n.suit) low high;
  down = λ e has same low high. n.up e has (same ∙ n.suit) low high;
}

-- a card of the hand has not the rank of another hand's card of its suit
differ : (p : Board) (d e : PlayingCard) → IsBoard p → IsLegal p d → has_card (other_cards p) e ≡ true → e.suit ≡ d.suit → e.rank ≢ d.rank
differ p d e valid own has suits ranks =
    let same : e ≡ d = ap₂ card_of suits ranks in
    others-differ p d valid (own-card p d own) (subst (λ (x : PlayingCard). has_card (other_cards p) x ≡ true) same has)

-- where none is between a card and a lower one, and none between that and a still lower one, none is between the first and the last
chained : (p : Board) (t d c : PlayingCard) → IsBoard p → IsLegal p d → NoneBetween p t d → NoneBetween p d c → c.rank < d.rank → d.rank < t.rank → NoneBetween p t c
chained p t d c valid own high low under over = record {
  suit = low.suit ∙ high.suit;
  up = λ e has same a b. absurd (omega (arith, a, b, under, over));
  down = λ e has same a b. go e has same a b (nat_lt e.rank d.rank) refl;
}
  where
    go : (e : PlayingCard) → has_card (other_cards p) e ≡ true → e.suit ≡ t.suit → c.rank < e.rank → e.rank < t.rank → (b : Bool) → nat_lt e.rank d.rank ≡ b → ⊥
    go e has same a b true k = low.down e has (same ∙ sym high.suit) a (ltb-true e.rank d.rank k)
    go e has same a b false k =
        let apart : e.rank ≢ d.rank = differ p d e valid own has (same ∙ sym high.suit) in
        let least : d.rank ≤ e.rank = not-under e.rank d.rank k in
        high.down e has same (omega (arith, apart, least)) b
      where
        not-under : (m n : ℕ) → nat_lt m n ≡ false → n ≤ m
        not-under m n h = grind (arith, nat_tests)

-- ---- which cards a class has

-- the lower cards of a class, by the mask
lower-rank : (p : Board) (s : Suit) (r q : ℕ) → IsBoard p → in_mask (equals_of p (card_of s r)) q ≡ (has_card (legal p) (card_of s q) && (are_equal p (card_of s r) (card_of s q) && nat_lt q r))
lower-rank p s r q valid =
    ap (λ m. in_mask m q) (ap (λ (k : EqualCards). k.equals) (class-ranks p s own others r valid are))
    ∙ in_mask-mask_of lower set real q
    ∙ has-filter test own q
    ∙ ap₂ (λ a b. (not a && nat_lt q r) && b) (sym (between-ranks p s own others r q valid are)) (has_rank-holding s own (legal p) q are.of_mover)
    ∙ rw (eq-eqb (suit_code s) (suit_code s) refl) (swap (not (list_any (is_between (card_of s r) (card_of s q)) (other_cards p)) && nat_lt q r) (has_card (legal p) (card_of s q)))
  where
    own : List ℕ
    own = suit_ranks s (legal p)

    others : List ℕ
    others = suit_ranks s (other_cards p)

    are : AreRanks p s own others
    are = record { of_mover = sym (suit-ranks s (legal p) (set-legal p valid)); of_others = refl }

    test : ℕ → Bool
    test x = not (is_separated others r x) && nat_lt x r

    lower : List ℕ
    lower = equal_ranks own others r

    mine : (x : ℕ) → has_rank lower x ≡ true → IsRank x
    mine x h = real-set (legal p) (card_of s x) (set-legal p valid)
        (sym (has_rank-holding s own (legal p) x are.of_mover) ∙ and-right (test x) (has_rank own x) (sym (has-filter test own x) ∙ h))

    real : (x : ℕ) → has_rank lower x ≡ true → IsRank x
    real = mine

    held : ℕ → Bool
    held x = has_card (legal p) (card_of s x) && test x

    whole : lower ≡ filter held all_ranks
    whole = filter-filter test (λ x. has_card (legal p) (card_of s x)) all_ranks

    set : filter (has_rank lower) all_ranks ≡ lower
    set = filter-members (has_rank lower) held all_ranks (λ x h. ap (λ ranks. has_rank ranks x) whole ∙ has-filter held all_ranks x ∙ rw h (sym (and-true (held x)))) ∙ sym whole

    swap : (a b : Bool) → (a && b) ≡ (b && a)
    swap true true = refl
    swap true false = refl
    swap false true = refl
    swap false false = refl

-- a class has its highest card, and each equal legal card that is lower
lower-card : (p : Board) (t c : PlayingCard) → IsBoard p → (is_of t.suit c && in_mask (equals_of p t) c.rank) ≡ (has_card (legal p) c && (are_equal p t c && nat_lt c.rank t.rank))
lower-card p t c valid = go (is_of t.suit c) refl
  where
    last-false : (a : Bool) → false ≡ (a && false)
    last-false true = refl
    last-false false = refl

    go : (b : Bool) → is_of t.suit c ≡ b → (is_of t.suit c && in_mask (equals_of p t) c.rank) ≡ (has_card (legal p) c && (are_equal p t c && nat_lt c.rank t.rank))
    go false e = rw e (last-false (has_card (legal p) c))
    go true e =
        let same : c ≡ card_of t.suit c.rank = ap (λ s. card_of s c.rank) (suit-of t.suit c e) in
        ap (λ b. b && in_mask (equals_of p t) c.rank) e ∙ lower-rank p t.suit t.rank c.rank valid
        ∙ ap (λ x. has_card (legal p) x && (are_equal p t x && nat_lt x.rank t.rank)) (sym same)

-- where a class stands to a card that it has
record Stands (p : Board) (t c : PlayingCard) : Type 0 where
  suit : c.suit ≡ t.suit
  least : c.rank ≤ t.rank
  equal : c.rank < t.rank → NoneBetween p t c

-- the card is the highest one, or a lower equal one
has-card : (p : Board) (t c : PlayingCard) → IsBoard p → class_has (class_of p t) c ≡ true → (t ≡ c) ⊎ (IsLegal p c × NoneBetween p t c × (c.rank < t.rank))
has-card p t c valid h = elim (or_cases (same_card t c) (is_of t.suit c && in_mask (equals_of p t) c.rank) h) [
  | inl same ↦ inl (same_card-eq t c same)
  | inr there ↦ (
      let k : (has_card (legal p) c && (are_equal p t c && nat_lt c.rank t.rank)) ≡ true = sym (lower-card p t c valid) ∙ there in
      let m : (are_equal p t c && nat_lt c.rank t.rank) ≡ true = and-right (has_card (legal p) c) (are_equal p t c && nat_lt c.rank t.rank) k in
      inr (and-left (has_card (legal p) c) (are_equal p t c && nat_lt c.rank t.rank) k, tells p t c (and-left (are_equal p t c) (nat_lt c.rank t.rank) m), ltb-true c.rank t.rank (and-right (are_equal p t c) (nat_lt c.rank t.rank) m)))
]

-- and then the class has it
in-class : (p : Board) (t c : PlayingCard) → IsBoard p → IsLegal p c → (t ≡ c) ⊎ (NoneBetween p t c × (c.rank < t.rank)) → class_has (class_of p t) c ≡ true
in-class p t c valid own (inl e) = rw (ap (λ x. same_card x c) e ∙ same_card-self c) refl
in-class p t c valid own (inr k) =
    or_right (same_card t c) (is_of t.suit c && in_mask (equals_of p t) c.rank)
    (lower-card p t c valid ∙ and_from (has_card (legal p) c) (are_equal p t c && nat_lt c.rank t.rank) own (and_from (are_equal p t c) (nat_lt c.rank t.rank) (says p t c k.0) (lt-ltb c.rank t.rank k.1)))

-- how it stands
standing : (p : Board) (t c : PlayingCard) → IsBoard p → class_has (class_of p t) c ≡ true → Stands p t c
standing p t c valid h = elim (has-card p t c valid h) [
  | inl e ↦ (let ranks : t.rank ≡ c.rank = ap (λ (x : PlayingCard). x.rank) e in record { suit = sym (ap (λ (x : PlayingCard). x.suit) e); least = omega (arith, ranks); equal = λ less. absurd (omega (arith, ranks, less)) })
  | inr k ↦ (let less = k.2 in record { suit = k.1.suit; least = omega (arith, less); equal = λ _. k.1 })
]

-- ---- one class

-- some class has the card
abbrev SomeClass : Board → PlayingCard → Type 0
SomeClass p c = (t : PlayingCard) × (has_card (tops p) t ≡ true) × ((t ≡ c) ⊎ (NoneBetween p t c × (c.rank < t.rank)))

-- From a card that is not the highest of its class there is a higher equal one, and ranks end at the ace.
climb : (n : ℕ) (p : Board) (c : PlayingCard) → IsBoard p → IsLegal p c → 15 ≤ c.rank + n → SomeClass p c
climb zero p c valid has h = absurd (let r = card-real p (mover p) c valid (own-card p c has) in omega (arith, h, r.1))
climb (suc n) p c valid has h = go (list_any (λ d. are_equal p c d && nat_lt c.rank d.rank) (legal p)) refl (climb n p)
  where
    go : (b : Bool) → list_any (λ d. are_equal p c d && nat_lt c.rank d.rank) (legal p) ≡ b
        → ((d : PlayingCard) → IsBoard p → IsLegal p d → 15 ≤ d.rank + n → SomeClass p d) → SomeClass p c
    go false e rest = (c, filter-has (is_top p) (legal p) c has (ap not e), inl refl)
    go true e rest =
        let d = any-some (λ d. are_equal p c d && nat_lt c.rank d.rank) (legal p) e in
        let near : NoneBetween p d.0 c = turned p c d.0 (tells p c d.0 (and-left (are_equal p c d.0) (nat_lt c.rank d.0.rank) d.2)) in
        let higher : c.rank < d.0.rank = ltb-true c.rank d.0.rank (and-right (are_equal p c d.0) (nat_lt c.rank d.0.rank) d.2) in
        let t = rest d.0 valid d.1 (omega (arith, h, higher)) in
        elim t.2 [
          | inl same ↦ (t.0, t.1, inr (subst (λ (x : PlayingCard). NoneBetween p x c × (c.rank < x.rank)) (sym same) (near, higher)))
          | inr k ↦ (let over = k.1 in (t.0, t.1, inr (chained p t.0 d.0 c valid d.1 k.0 near higher over, omega (arith, higher, over))))
        ]

-- of two classes that have a card, neither has the higher top
no-higher : (p : Board) (t u c : PlayingCard) → has_card (tops p) t ≡ true → has_card (tops p) u ≡ true → Stands p t c → Stands p u c → t.rank < u.rank → ⊥
no-higher p t u c top other low high less =
    let least = low.least in
    let near : NoneBetween p u c = high.equal (omega (arith, least, less)) in
    let equal : are_equal p t u ≡ true = says p t u (record {
      suit = sym high.suit ∙ low.suit;
      up = λ e has same a b. near.down e has (same ∙ sym low.suit ∙ high.suit) (omega (arith, least, a)) b;
      down = λ e has same a b. absurd (omega (arith, a, b, less));
    }) in
    let legal_u : has_card (legal p) u ≡ true = any-filter (λ d. same_card d u) (is_top p) (legal p) other in
    let found : list_any (λ d. are_equal p t d && nat_lt t.rank d.rank) (legal p) ≡ true =
    any-card (λ d. are_equal p t d && nat_lt t.rank d.rank) (legal p) u legal_u (and_from (are_equal p t u) (nat_lt t.rank u.rank) equal (lt-ltb t.rank u.rank less)) in
    (let no : true ≡ false = sym found ∙ not-true _ (filter-passes (is_top p) (legal p) t top) in cc)

-- so they are one
one-top : (p : Board) (t u c : PlayingCard) → has_card (tops p) t ≡ true → has_card (tops p) u ≡ true → Stands p t c → Stands p u c → t ≡ u
one-top p t u c top other low high =
    let not_over : t.rank < u.rank → ⊥ = no-higher p t u c top other low high in
    let not_under : u.rank < t.rank → ⊥ = no-higher p u t c other top high low in
    ap₂ card_of (sym low.suit ∙ high.suit) (same t.rank u.rank not_over not_under)
  where
    same : (a b : ℕ) → (a < b → ⊥) → (b < a → ⊥) → a ≡ b
    same a b f g = go (nat_lt a b) refl (nat_lt b a) refl
      where
        neither : nat_lt a b ≡ false → nat_lt b a ≡ false → a ≡ b
        neither x y = grind (arith, nat_tests)

        go : (x : Bool) → nat_lt a b ≡ x → (y : Bool) → nat_lt b a ≡ y → a ≡ b
        go true e y k = absurd (f (ltb-true a b e))
        go false e true k = absurd (g (ltb-true b a k))
        go false e false k = neither e k

-- tests that agree on a list's cards keep the same part
same-part : (f g : PlayingCard → Bool) (cards : List PlayingCard) → ((c : PlayingCard) → has_card cards c ≡ true → f c ≡ g c) → filter f cards ≡ filter g cards
same-part f g [] e = refl
same-part f g (d ∷ cards) e = rw (e d (rw (same_card-self d) refl), same-part f g cards (λ c has. e c (or_right (same_card d c) (has_card cards c) has))) refl

-- the classes that have a card, by their highest cards
classes-by-top : (p : Board) (c : PlayingCard) → length (filter (λ class. class_has class c) (classes_of p)) ≡ length (filter (λ t. class_has (class_of p t) c) (tops p))
classes-by-top p c = ap length (filter-map (λ class. class_has class c) (class_of p) (tops p)) ∙ length-map (filter (λ t. class_has (class_of p t) c) (tops p)) (class_of p)

-- Each legal card is in one class.
pub exactly-one : (p : Board) (c : PlayingCard) → IsBoard p → IsLegal p c → length (filter (λ class. class_has class c) (classes_of p)) ≡ 1
exactly-one p c valid own =
    let t = climb 15 p c valid own (omega arith) in
    let has : class_has (class_of p t.0) c ≡ true = in-class p t.0 c valid own t.2 in
    let here : Stands p t.0 c = standing p t.0 c valid has in
    let set = IsSet-filter (is_top p) (legal p) (set-legal p valid) in
    classes-by-top p c
    ∙ ap length (same-part (λ u. class_has (class_of p u) c) (λ u. same_card u t.0) (tops p) (λ u top. both-ways _ _
    (λ h. ap (λ x. same_card x t.0) (one-top p u t.0 c top t.1 (standing p u c valid h) here) ∙ same_card-self t.0)
    (λ h. ap (λ x. class_has (class_of p x) c) (same_card-eq u t.0 h) ∙ has)))
    ∙ times-has_card (tops p) t.0 set ∙ rw t.1 refl

-- And a class has legal cards only.
pub only-legal : (p : Board) (c : PlayingCard) → IsBoard p → 1 ≤ length (filter (λ class. class_has class c) (classes_of p)) → IsLegal p c
only-legal p c valid some =
    let by = classes-by-top p c in
    let t = count-some (λ t. class_has (class_of p t) c) (tops p) (omega (arith, some, by)) in
    let own : has_card (legal p) t.0 ≡ true = any-filter (λ d. same_card d t.0) (is_top p) (legal p) t.1 in
    elim (has-card p t.0 c valid t.2) [ inl e ↦ subst (λ (x : PlayingCard). has_card (legal p) x ≡ true) e own | inr k ↦ k.0 ]

-- The mask of a class is without its highest card.
pub mask-lower : (p : Board) (t : PlayingCard) → IsBoard p → in_mask (equals_of p t) t.rank ≡ false
mask-lower p t valid = false_from_ne_true _ (λ h.
    let k = sym (lower-rank p t.suit t.rank t.rank valid) ∙ h in
    let m = and-right (has_card (legal p) t) (are_equal p t t && nat_lt t.rank t.rank) k in
    let less : t.rank < t.rank = ltb-true t.rank t.rank (and-right (are_equal p t t) (nat_lt t.rank t.rank) m) in
    omega (arith, less))
