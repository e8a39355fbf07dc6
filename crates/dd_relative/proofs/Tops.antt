-- the highest card of each class: where no rank above it is the mover's
use Rattle.std.proofs.Common.{◌≡◌, ℕ, zero, suc, ◌+◌, ◌<◌, ◌≤◌, ◌⊎◌, Bool, true, false, refl, sym, ap, ◌∙◌, arith, inl, inr, List, [], ◌∷◌, ◌++◌, eq-eqb, length}
use Rattle.std.specs.Prelude.{filter, take, nat_lt, ◌||◌, ◌&&◌}
use Rattle.std.specs.List.{list_any}
use mathlib.Core.Bool.{not}
use Rattle.std.proofs.lemmas.Bool.{cases_lt, lt-ltb, ltb-true, and_from, or_left, or_right, or_cases, not-true, not_from_false, false_from_ne_true}
use Rattle.std.proofs.lemmas.List.Folds.{list_any-append}
use Rattle.dd_cards.specs.declared.seat.Seat.{Seat}
use Rattle.dd_cards.specs.declared.seat.Seat.TheVariants.{North, East, South, West}
use Rattle.dd_cards.specs.PlayingCard.{PlayingCard}
use Rattle.dd_cards.specs.Suits.{suit_code}
use Rattle.dd_cards.specs.Cards.{has_card, is_of, same_card, without}
use Rattle.dd_cards.specs.Hands.{FourHands, hand_of, IsSet}
use Rattle.dd_cards.specs.Seats.{seat_after}
use Rattle.dd_cards.proofs.CallerLemmas.{IsSet-filter, and-false, and-left, and-right, both-ways, has_card-filter, has_card-without, real-set, same-members, same_card-eq, same_card-self, any-some, any-card}
use Rattle.dd_play.specs.Board.{Board, IsBoard, cards_at, mover}
use Rattle.dd_play.specs.Tricks.{or_else}
use Rattle.dd_play.specs.Play.{following, legal}
use Rattle.dd_play.proofs.CallerLemmas.{Obeys, in-following, legal-in, legal-out, of-suit', suit-of}
use Rattle.dd_equal.specs.EqualCards.{other_cards, is_between, are_equal, is_top, tops}
use Rattle.dd_relative.specs.Relative.{IsRelative}
use Rattle.dd_relative.specs.Runs.{next_above, heads_of}
use Rattle.dd_relative.specs.UnderWay.{under_way, IsUnderWay}
use Rattle.dd_rank.proofs.CallerLemmas.{in-all, all-in}

-- ---- one of a list
-- ---- the cards that stand before the trick
-- of four hands and a trick: a card is in the hand of this seat, or in another hand or on the trick
others-or : (hands : FourHands) (trick : List PlayingCard) (m x : Seat) (k : PlayingCard) → has_card (hand_of hands x) k ≡ true
    → (has_card (hand_of hands m) k ≡ true) ⊎ (has_card (hand_of hands (seat_after m 1) ++ hand_of hands (seat_after m 2) ++ hand_of hands (seat_after m 3) ++ trick) k ≡ true)
others-or hands trick m x k = go m x
  where
    test : PlayingCard → Bool
    test d = same_card d k

    first : (a b c : List PlayingCard) → list_any test a ≡ true → list_any test (a ++ b ++ c ++ trick) ≡ true
    first a b c h = list_any-append test ((a ++ b) ++ c) trick ∙ or_left _ _ (list_any-append test (a ++ b) c ∙ or_left _ _ (list_any-append test a b ∙ or_left _ _ h))

    second : (a b c : List PlayingCard) → list_any test b ≡ true → list_any test (a ++ b ++ c ++ trick) ≡ true
    second a b c h = list_any-append test ((a ++ b) ++ c) trick ∙ or_left _ _ (list_any-append test (a ++ b) c ∙ or_left _ _ (list_any-append test a b ∙ or_right _ _ h))

    third : (a b c : List PlayingCard) → list_any test c ≡ true → list_any test (a ++ b ++ c ++ trick) ≡ true
    third a b c h = list_any-append test ((a ++ b) ++ c) trick ∙ or_left _ _ (list_any-append test (a ++ b) c ∙ or_right _ _ h)

    go : (m x : Seat) → has_card (hand_of hands x) k ≡ true
        → (has_card (hand_of hands m) k ≡ true) ⊎ (has_card (hand_of hands (seat_after m 1) ++ hand_of hands (seat_after m 2) ++ hand_of hands (seat_after m 3) ++ trick) k ≡ true)
    go North North h = inl h
    go North East h = inr (first hands.east hands.south hands.west h)
    go North South h = inr (second hands.east hands.south hands.west h)
    go North West h = inr (third hands.east hands.south hands.west h)
    go East North h = inr (third hands.south hands.west hands.north h)
    go East East h = inl h
    go East South h = inr (first hands.south hands.west hands.north h)
    go East West h = inr (second hands.south hands.west hands.north h)
    go South North h = inr (second hands.west hands.north hands.east h)
    go South East h = inr (third hands.west hands.north hands.east h)
    go South South h = inl h
    go South West h = inr (first hands.west hands.north hands.east h)
    go West North h = inr (first hands.north hands.east hands.south h)
    go West East h = inr (second hands.north hands.east hands.south h)
    go West South h = inr (third hands.north hands.east hands.south h)
    go West West h = inl h

-- .. or on the trick at once
others-trick : (hands : FourHands) (trick : List PlayingCard) (m : Seat) (k : PlayingCard) → has_card trick k ≡ true
    → has_card (hand_of hands (seat_after m 1) ++ hand_of hands (seat_after m 2) ++ hand_of hands (seat_after m 3) ++ trick) k ≡ true
others-trick hands trick m k h =
    list_any-append (λ d. same_card d k) (hand_of hands (seat_after m 1) ++ hand_of hands (seat_after m 2) ++ hand_of hands (seat_after m 3)) trick ∙ or_right _ _ h

-- a card of a hand before it played another is that one or still there
still : (cards : List PlayingCard) (a k : PlayingCard) → has_card cards k ≡ true → (has_card (without cards a) k ≡ true) ⊎ (same_card a k ≡ true)
still cards a k h = go (same_card k a) refl
  where
    go : (b : Bool) → same_card k a ≡ b → (has_card (without cards a) k ≡ true) ⊎ (same_card a k ≡ true)
    go true e = inr (ap (λ x. same_card a x) (same_card-eq k a e) ∙ same_card-self a)
    go false e = inl (has_card-without cards a k ∙ and_from _ _ (not_from_false _ e) h)

-- each card of before the trick is in a hand or on the trick
stays : (s : Board) (cards : List PlayingCard) (n : ℕ) (x : Seat) (k : PlayingCard) → length cards ≡ 3 → n ≤ 3 → has_card (cards_at s x) k ≡ true
    → (has_card (cards_at (under_way s (take n cards)) x) k ≡ true) ⊎ (has_card (take n cards) k ≡ true)
stays s (a ∷ b ∷ c ∷ []) zero x k three most h = inl h
stays s (a ∷ b ∷ c ∷ []) (suc zero) North k three most h = elim (still s.hands.north a k h) [ inl there ↦ inl there | inr e ↦ inr (or_left _ _ e) ]
stays s (a ∷ b ∷ c ∷ []) (suc zero) East k three most h = inl h
stays s (a ∷ b ∷ c ∷ []) (suc zero) South k three most h = inl h
stays s (a ∷ b ∷ c ∷ []) (suc zero) West k three most h = inl h
stays s (a ∷ b ∷ c ∷ []) (suc (suc zero)) North k three most h = elim (still s.hands.north a k h) [ inl there ↦ inl there | inr e ↦ inr (or_left _ _ e) ]
stays s (a ∷ b ∷ c ∷ []) (suc (suc zero)) East k three most h = elim (still s.hands.east b k h) [ inl there ↦ inl there | inr e ↦ inr (or_right _ _ (or_left _ _ e)) ]
stays s (a ∷ b ∷ c ∷ []) (suc (suc zero)) South k three most h = inl h
stays s (a ∷ b ∷ c ∷ []) (suc (suc zero)) West k three most h = inl h
stays s (a ∷ b ∷ c ∷ []) (suc (suc (suc zero))) North k three most h = elim (still s.hands.north a k h) [ inl there ↦ inl there | inr e ↦ inr (or_left _ _ e) ]
stays s (a ∷ b ∷ c ∷ []) (suc (suc (suc zero))) East k three most h = elim (still s.hands.east b k h) [ inl there ↦ inl there | inr e ↦ inr (or_right _ _ (or_left _ _ e)) ]
stays s (a ∷ b ∷ c ∷ []) (suc (suc (suc zero))) South k three most h = elim (still s.hands.south c k h) [ inl there ↦ inl there | inr e ↦ inr (or_right _ _ (or_right _ _ (or_left _ _ e))) ]
stays s (a ∷ b ∷ c ∷ []) (suc (suc (suc zero))) West k three most h = inl h
stays s (a ∷ b ∷ c ∷ []) (suc (suc (suc (suc n)))) x k three most h = absurd (omega (arith, most))
stays s [] n x k three most h = absurd (omega (arith, three))
stays s (a ∷ []) n x k three most h = absurd (omega (arith, three))
stays s (a ∷ b ∷ []) n x k three most h = absurd (omega (arith, three))
stays s (a ∷ b ∷ c ∷ d ∷ rest) n x k three most h = absurd (omega (arith, three))

-- ---- sets
or-set : (xs ys : List PlayingCard) → IsSet xs → IsSet ys → IsSet (or_else xs ys)
or-set [] ys hx hy = hy
or-set (x ∷ xs) ys hx hy = hx

following-set : (trick hand : List PlayingCard) → IsSet hand → IsSet (following trick hand)
following-set [] hand set = set
following-set (led ∷ rest) hand set = or-set (filter (is_of led.suit) hand) hand (IsSet-filter (is_of led.suit) hand set) set

-- the rule is one of the suit alone
pub obeys-suit : (trick hand : List PlayingCard) (c d : PlayingCard) → d.suit ≡ c.suit → Obeys trick hand c → Obeys trick hand d
obeys-suit [] hand c d e obeys = tt
obeys-suit (led ∷ rest) hand c d e obeys = λ x own suit. e ∙ obeys x own suit

-- ---- classes
module _ (p : Board) (valid : IsBoard p) (there : (c k : PlayingCard) → has_card (cards_at p (mover p)) c ≡ true → k.suit ≡ c.suit → c.rank ≤ k.rank → k.rank ≤ 14
    → (has_card (cards_at p (mover p)) k ≡ true) ⊎ (has_card (other_cards p) k ≡ true)) where
  -- what makes a card less than the highest of its class
  under : PlayingCard → PlayingCard → Bool
  under c d = are_equal p c d && nat_lt c.rank d.rank

  -- nothing lies between neighbours
  neighbours : (c : PlayingCard) (cards : List PlayingCard) → list_any (is_between c (next_above c)) cards ≡ false
  neighbours c cards = false_from_ne_true _ (λ h.
      let e = any-some (is_between c (next_above c)) cards h in
      apart c.rank e.0.rank (and-right (is_of c.suit e.0) _ e.2))
    where
      apart : (r q : ℕ) → ((nat_lt r q && nat_lt q (r + 1)) || (nat_lt (r + 1) q && nat_lt q r)) ≡ true → ⊥
      apart r q h = elim (or_cases (nat_lt r q && nat_lt q (r + 1)) (nat_lt (r + 1) q && nat_lt q r) h) [
        | inl up ↦ (
            let a : r < q = ltb-true r q (and-left (nat_lt r q) (nat_lt q (r + 1)) up) in
            let b : q < r + 1 = ltb-true q (r + 1) (and-right (nat_lt r q) (nat_lt q (r + 1)) up) in
            omega (arith, a, b))
        | inr down ↦ (
            let a : r + 1 < q = ltb-true (r + 1) q (and-left (nat_lt (r + 1) q) (nat_lt q r) down) in
            let b : q < r = ltb-true q r (and-right (nat_lt (r + 1) q) (nat_lt q r) down) in
            omega (arith, a, b))
      ]

  above-is-under : (c : PlayingCard) → under c (next_above c) ≡ true
  unfolding under
  above-is-under c = and_from (are_equal p c (next_above c)) (nat_lt c.rank (c.rank + 1)) (and_from (is_of c.suit (next_above c)) _ (of-suit' c.suit (next_above c) refl) (not_from_false (list_any (is_between c (next_above c)) (other_cards p)) (neighbours c (other_cards p)))) (lt-ltb c.rank (c.rank + 1) (omega arith))

  under-above : (c d : PlayingCard) → has_card (legal p) c ≡ true → has_card (legal p) d ≡ true → under c d ≡ true → has_card (legal p) (next_above c) ≡ true
  unfolding under
  under-above c d hc hd h =
      let equal : are_equal p c d ≡ true = and-left (are_equal p c d) (nat_lt c.rank d.rank) h in
      let less : c.rank < d.rank = ltb-true c.rank d.rank (and-right (are_equal p c d) (nat_lt c.rank d.rank) h) in
      let suit : d.suit ≡ c.suit = suit-of c.suit d (and-left (is_of c.suit d) (not (list_any (is_between c d) (other_cards p))) equal) in
      let clear : list_any (is_between c d) (other_cards p) ≡ false = not-true (list_any (is_between c d) (other_cards p)) (and-right (is_of c.suit d) (not (list_any (is_between c d) (other_cards p))) equal) in
      let own_c = in-following p.trick (cards_at p (mover p)) c hc in
      let own_d = in-following p.trick (cards_at p (mover p)) d hd in
      let top = (real-set (cards_at p (mover p)) d (valid.sets (mover p)) own_d).1 in
      elim (there c (next_above c) own_c refl (omega arith) (omega (arith, less, top))) [
        | inl own ↦ legal-in p.trick (cards_at p (mover p)) (next_above c) own (obeys-suit p.trick (cards_at p (mover p)) c (next_above c) refl (legal-out p.trick (cards_at p (mover p)) c hc))
        | inr other ↦ elim (cases_lt (c.rank + 1) d.rank) [
          | inl more ↦ absurd (
              let between : is_between c d (next_above c) ≡ true = and_from (is_of c.suit (next_above c)) _ (of-suit' c.suit (next_above c) refl) (or_left (nat_lt c.rank (c.rank + 1) && nat_lt (c.rank + 1) d.rank) _ (and_from (nat_lt c.rank (c.rank + 1)) (nat_lt (c.rank + 1) d.rank) (lt-ltb c.rank (c.rank + 1) (omega arith)) (lt-ltb (c.rank + 1) d.rank more))) in
              let no : true ≡ false = sym (any-card (is_between c d) (other_cards p) (next_above c) other between) ∙ clear in cc)
          | inr at_most ↦ (
              let ranks : d.rank ≡ c.rank + 1 = omega (arith, less, at_most) in
              let same : d ≡ next_above c = same_card-eq d (next_above c) (and_from _ _ (eq-eqb _ _ (ap suit_code suit)) (eq-eqb _ _ ranks)) in
              ap (has_card (legal p)) (sym same) ∙ hd)
        ]
      ]

  top-test : (c : PlayingCard) → has_card (legal p) c ≡ true → is_top p c ≡ not (has_card (legal p) (next_above c))
  unfolding under
  top-test c hc = ap not (both-ways _ _
      (λ h. let d = any-some (under c) (legal p) h in under-above c d.0 hc d.1 d.2)
      (λ h. any-card (under c) (legal p) (next_above c) h (above-is-under c)))

  pub heads-tops : heads_of (legal p) ≡ tops p
  heads-tops =
      let set = following-set p.trick (cards_at p (mover p)) (valid.sets (mover p)) in
      same-members (heads_of (legal p)) (tops p) (IsSet-filter (λ c. not (has_card (legal p) (next_above c))) (legal p) set) (IsSet-filter (is_top p) (legal p) set)
      (λ c real. has_card-filter (λ x. not (has_card (legal p) (next_above x))) (legal p) c ∙ go c (has_card (legal p) c) refl ∙ sym (has_card-filter (is_top p) (legal p) c))
    where
      go : (c : PlayingCard) (b : Bool) → has_card (legal p) c ≡ b → (not (has_card (legal p) (next_above c)) && has_card (legal p) c) ≡ (is_top p c && has_card (legal p) c)
      go c true e = ap (λ b. b && has_card (legal p) c) (sym (top-test c e))
      go c false e = rw e (sym (and-false (not (has_card (legal p) (next_above c)))) ∙ and-false (is_top p c))

-- ---- a trick under way
-- a card of a hand without another was in the hand
was : (cards : List PlayingCard) (a k : PlayingCard) → has_card (without cards a) k ≡ true → has_card cards k ≡ true
was cards a k h = and-right _ _ (sym (has_card-without cards a k) ∙ h)

-- each card of a hand was there before the trick
left-was : (s : Board) (cards : List PlayingCard) (n : ℕ) (x : Seat) (k : PlayingCard) → length cards ≡ 3 → n ≤ 3 → has_card (cards_at (under_way s (take n cards)) x) k ≡ true → has_card (cards_at s x) k ≡ true
left-was s (a ∷ b ∷ c ∷ []) zero x k three most h = h
left-was s (a ∷ b ∷ c ∷ []) (suc zero) North k three most h = was s.hands.north a k h
left-was s (a ∷ b ∷ c ∷ []) (suc zero) East k three most h = h
left-was s (a ∷ b ∷ c ∷ []) (suc zero) South k three most h = h
left-was s (a ∷ b ∷ c ∷ []) (suc zero) West k three most h = h
left-was s (a ∷ b ∷ c ∷ []) (suc (suc zero)) North k three most h = was s.hands.north a k h
left-was s (a ∷ b ∷ c ∷ []) (suc (suc zero)) East k three most h = was s.hands.east b k h
left-was s (a ∷ b ∷ c ∷ []) (suc (suc zero)) South k three most h = h
left-was s (a ∷ b ∷ c ∷ []) (suc (suc zero)) West k three most h = h
left-was s (a ∷ b ∷ c ∷ []) (suc (suc (suc zero))) North k three most h = was s.hands.north a k h
left-was s (a ∷ b ∷ c ∷ []) (suc (suc (suc zero))) East k three most h = was s.hands.east b k h
left-was s (a ∷ b ∷ c ∷ []) (suc (suc (suc zero))) South k three most h = was s.hands.south c k h
left-was s (a ∷ b ∷ c ∷ []) (suc (suc (suc zero))) West k three most h = h
left-was s (a ∷ b ∷ c ∷ []) (suc (suc (suc (suc n)))) x k three most h = absurd (omega (arith, most))
left-was s [] n x k three most h = absurd (omega (arith, three))
left-was s (a ∷ []) n x k three most h = absurd (omega (arith, three))
left-was s (a ∷ b ∷ []) n x k three most h = absurd (omega (arith, three))
left-was s (a ∷ b ∷ c ∷ d ∷ rest) n x k three most h = absurd (omega (arith, three))

-- the cards played lie on it
on-trick : (s : Board) (cards : List PlayingCard) (n : ℕ) → IsRelative s → length cards ≡ 3 → n ≤ 3 → (under_way s (take n cards)).trick ≡ take n cards
on-trick s (a ∷ b ∷ c ∷ []) zero r three most = r.start
on-trick s (a ∷ b ∷ c ∷ []) (suc zero) r three most = refl
on-trick s (a ∷ b ∷ c ∷ []) (suc (suc zero)) r three most = refl
on-trick s (a ∷ b ∷ c ∷ []) (suc (suc (suc zero))) r three most = refl
on-trick s (a ∷ b ∷ c ∷ []) (suc (suc (suc (suc n)))) r three most = absurd (omega (arith, most))
on-trick s [] n r three most = absurd (omega (arith, three))
on-trick s (a ∷ []) n r three most = absurd (omega (arith, three))
on-trick s (a ∷ b ∷ []) n r three most = absurd (omega (arith, three))
on-trick s (a ∷ b ∷ c ∷ d ∷ rest) n r three most = absurd (omega (arith, three))

-- where the cards were closed up before the trick, a rank above a card of the mover's is the mover's or another's
pub own-or-other : (s : Board) (cards : List PlayingCard) (n : ℕ) (c k : PlayingCard) → IsRelative s → length cards ≡ 3 → n ≤ 3
    → has_card (cards_at (under_way s (take n cards)) (mover (under_way s (take n cards)))) c ≡ true → k.suit ≡ c.suit → c.rank ≤ k.rank → k.rank ≤ 14
    → (has_card (cards_at (under_way s (take n cards)) (mover (under_way s (take n cards)))) k ≡ true) ⊎ (has_card (other_cards (under_way s (take n cards))) k ≡ true)
own-or-other s cards n c k relative three most own suit less top =
    let m : Seat = mover (under_way s (take n cards)) in
    let all = relative.closed c k (in-all s m c (left-was s cards n m c three most own)) suit less top in
    let x = all-in s k all in
    elim (stays s cards n x.0 k three most x.1) [
      | inl hand ↦ others-or (under_way s (take n cards)).hands (under_way s (take n cards)).trick m x.0 k hand
      | inr trick ↦ inr (others-trick (under_way s (take n cards)).hands (under_way s (take n cards)).trick m k (ap (λ l. has_card l k) (on-trick s cards n relative three most) ∙ trick))
    ]

-- so the highest card of each run is that of a class
pub trick-tops : (s : Board) (cards : List PlayingCard) (n : ℕ) → IsRelative s → length cards ≡ 3 → n ≤ 3 → IsUnderWay s (take n cards) → heads_of (legal (under_way s (take n cards))) ≡ tops (under_way s (take n cards))
trick-tops s cards n relative three most u = heads-tops (under_way s (take n cards)) u.board (λ c k own suit less top. own-or-other s cards n c k relative three most own suit less top)
