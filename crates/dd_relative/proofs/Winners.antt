-- the card that wins a trick is the highest of those that decide it
use Rattle.std.proofs.Common.{◌≡◌, ℕ, zero, suc, ◌≤◌, get_or, ◌⊎◌, Bool, true, false, refl, sym, ap, ◌∙◌, subst, arith, inl, inr, List, [], ◌∷◌, eq-eqb}
use Rattle.std.specs.Prelude.{filter, nat_le, ◌==◌, ◌||◌, ◌&&◌}
use Rattle.std.specs.List.{list_all, position_or_len}
use mathlib.Core.Path.{ap₂}
use Rattle.std.proofs.lemmas.Bool.{eqb-true, le-leb, leb-true, and_from, or_cases}
use Rattle.dd_cards.specs.declared.seat.Seat.{Seat}
use Rattle.dd_cards.specs.declared.seat.Seat.TheVariants.{North}
use Rattle.dd_cards.specs.declared.strain.Strain.{Strain}
use Rattle.dd_cards.specs.declared.strain.Strain.TheVariants.{Trump, Notrump}
use Rattle.dd_cards.specs.declared.suit.Suit.{Suit}
use Rattle.dd_cards.specs.PlayingCard.{PlayingCard}
use Rattle.dd_cards.specs.Suits.{suit_code}
use Rattle.dd_cards.specs.Ranks.{IsRank}
use Rattle.dd_cards.specs.Cards.{has_card, is_of, place_of, same_card, with_card}
use Rattle.dd_cards.specs.Hands.{IsSet}
use Rattle.dd_cards.specs.Seats.{seat_after, seat_code}
use Rattle.dd_cards.proofs.CallerLemmas.{IsSet-filter, IsSet-with_card, and-left, and-right, both-ways, has_card-filter, has_card-with_card, passes, real-set, same_card-eq, same_card-self, set-first, suit_code-lt}
use Rattle.dd_play.specs.Tricks.{deciding, is_highest_of, is_trump, or_else, winner_of, winning_place}
use Rattle.dd_play.proofs.CallerLemmas.{filter-has, filter-passes, has-first, in-rest, suit-of, position-where}

-- ---- places tell cards
pub same-place : (c d : PlayingCard) → IsRank c.rank → IsRank d.rank → (place_of c == place_of d) ≡ same_card c d
same-place c d real_c real_d =
    both-ways _ _
    (λ h.
    let e = eqb-true (place_of c) (place_of d) h in
    let k = suit_code-lt c.suit in let l = suit_code-lt d.suit in
    let a = real_c.0 in let b = real_c.1 in let x = real_d.0 in let y = real_d.1 in
    let codes : suit_code c.suit ≡ suit_code d.suit = omega (arith, e, k, l, a, b, x, y) in
    let ranks : c.rank ≡ d.rank = omega (arith, e, codes) in
    and_from (suit_code c.suit == suit_code d.suit) (c.rank == d.rank) (eq-eqb _ _ codes) (eq-eqb _ _ ranks))
    (λ h. eq-eqb (place_of c) (place_of d) (ap place_of (same_card-eq c d h)))

-- ---- lists with the same cards
-- these or those, by lists with the same cards
or-same : (a b c d : List PlayingCard) → ((x : PlayingCard) → has_card a x ≡ has_card b x) → ((x : PlayingCard) → has_card c x ≡ has_card d x) → (x : PlayingCard) → has_card (or_else a c) x ≡ has_card (or_else b d) x
or-same [] [] c d ab cd x = cd x
or-same [] (y ∷ b) c d ab cd x = absurd (let no : false ≡ true = ab y ∙ has-first y b in cc)
or-same (y ∷ a) [] c d ab cd x = absurd (let no : true ≡ false = sym (has-first y a) ∙ ab y in cc)
or-same (y ∷ a) (z ∷ b) c d ab cd x = ab x

part-same : (t : PlayingCard → Bool) (a b : List PlayingCard) → ((x : PlayingCard) → has_card a x ≡ has_card b x) → (x : PlayingCard) → has_card (filter t a) x ≡ has_card (filter t b) x
part-same t a b same x = has_card-filter t a x ∙ ap (λ h. t x && h) (same x) ∙ sym (has_card-filter t b x)

-- a test that each card passes, all pass
all-pass : (t : PlayingCard → Bool) (cards : List PlayingCard) → ((c : PlayingCard) → has_card cards c ≡ true → t c ≡ true) → list_all t cards ≡ true
all-pass t [] each = refl
all-pass t (c ∷ cards) each = and_from (t c) (list_all t cards) (each c (has-first c cards)) (all-pass t cards (λ d h. each d (in-rest c d cards h)))

-- ---- the deciding cards
-- all are of one suit
one-suit : (strain : Strain) (s : Suit) (cards : List PlayingCard) → (u : Suit) × ((c : PlayingCard) → has_card (or_else (filter (is_trump strain) cards) (filter (is_of s) cards)) c ≡ true → c.suit ≡ u)
one-suit strain s cards = go strain (filter (is_trump strain) cards) refl
  where
    go : (strain : Strain) (trumps : List PlayingCard) → filter (is_trump strain) cards ≡ trumps → (u : Suit) × ((c : PlayingCard) → has_card (or_else trumps (filter (is_of s) cards)) c ≡ true → c.suit ≡ u)
    go strain [] e = (s, λ c h. suit-of s c (filter-passes (is_of s) cards c h))
    go (Trump t) (x ∷ trumps) e = (t, λ c h. suit-of t c (filter-passes (is_of t) cards c (ap (λ l. has_card l c) e ∙ h)))
    go Notrump (x ∷ trumps) e = absurd (let h = filter-passes (is_trump Notrump) cards x (ap (λ l. has_card l x) e ∙ has-first x trumps) in let no : false ≡ true = h in cc)

or-set : (xs ys : List PlayingCard) → IsSet xs → IsSet ys → IsSet (or_else xs ys)
or-set [] ys hx hy = hy
or-set (x ∷ xs) ys hx hy = hx

or-one : (xs ys : List PlayingCard) (c : PlayingCard) → has_card (or_else xs ys) c ≡ true → (has_card xs c ≡ true) ⊎ (has_card ys c ≡ true)
or-one [] ys c h = inr h
or-one (x ∷ xs) ys c h = inl h

-- there is one where one of the second is there
or-some : (xs ys : List PlayingCard) (c : PlayingCard) → has_card ys c ≡ true → or_else xs ys ≡ [] → ⊥
or-some [] ys c h e = (let no : true ≡ false = sym h ∙ ap (λ l. has_card l c) e in cc)
or-some (x ∷ xs) ys c h e = (let no : true ≡ false = sym (has-first x xs) ∙ ap (λ l. has_card l x) e in cc)

-- there are none without a trump suit
pub no-trumps : (cards : List PlayingCard) → filter (is_trump Notrump) cards ≡ []
no-trumps [] = refl
no-trumps (c ∷ cards) = no-trumps cards

module _ (strain : Strain) (x y z d : PlayingCard) (cards : List PlayingCard) (real : (c : PlayingCard) → has_card (x ∷ y ∷ z ∷ d ∷ []) c ≡ true → IsRank c.rank)
    (are : cards ≡ with_card (with_card (with_card (with_card [] x) y) z) d) where
  -- as they lie on the trick
  abbrev trick : List PlayingCard
  trick = x ∷ y ∷ z ∷ d ∷ []

  -- .. and as a set
  abbrev best : List PlayingCard
  best = or_else (filter (is_trump strain) cards) (filter (is_of x.suit) cards)

  cards-set : IsSet cards
  cards-set = subst IsSet (sym are) (IsSet-with_card (with_card (with_card (with_card [] x) y) z) d)

  -- the four tests in the other order
  turned : (a b c e : Bool) → (e || (c || (b || (a || false)))) ≡ (a || (b || (c || (e || false))))
  turned true true true true = refl
  turned true true true false = refl
  turned true true false true = refl
  turned true true false false = refl
  turned true false true true = refl
  turned true false true false = refl
  turned true false false true = refl
  turned true false false false = refl
  turned false true true true = refl
  turned false true true false = refl
  turned false true false true = refl
  turned false true false false = refl
  turned false false true true = refl
  turned false false true false = refl
  turned false false false true = refl
  turned false false false false = refl

  has-real : (c : PlayingCard) → IsRank c.rank → has_card cards c ≡ has_card trick c
  has-real c there =
      ap (λ l. has_card l c) are
      ∙ has_card-with_card (with_card (with_card (with_card [] x) y) z) d c there
      ∙ ap (λ b. same_card c d || b) (has_card-with_card (with_card (with_card [] x) y) z c there
      ∙ ap (λ b. same_card c z || b) (has_card-with_card (with_card [] x) y c there
      ∙ ap (λ b. same_card c y || b) (has_card-with_card [] x c there)))
      ∙ turned (same_card c x) (same_card c y) (same_card c z) (same_card c d)
      ∙ ap₂ (λ p q. p || q) (swapped c x) (ap₂ (λ p q. p || q) (swapped c y) (ap₂ (λ p q. p || q) (swapped c z) (ap (λ p. p || false) (swapped c d))))
    where
      swapped : (c e : PlayingCard) → same_card c e ≡ same_card e c
      swapped c e = both-ways _ _ (λ h. ap (same_card e) (same_card-eq c e h) ∙ same_card-self e) (λ h. ap (same_card c) (same_card-eq e c h) ∙ same_card-self c)

  has-same : (c : PlayingCard) → has_card cards c ≡ has_card trick c
  has-same c = both-ways _ _ (λ h. sym (has-real c (real-set cards c cards-set h)) ∙ h) (λ h. has-real c (real c h) ∙ h)

  best-same : (c : PlayingCard) → has_card best c ≡ has_card (deciding strain trick) c
  best-same c = or-same (filter (is_trump strain) cards) (filter (is_trump strain) trick) (filter (is_of x.suit) cards) (filter (is_of x.suit) trick) (part-same (is_trump strain) cards trick has-same) (part-same (is_of x.suit) cards trick has-same) c

  best-set : IsSet best
  best-set = or-set (filter (is_trump strain) cards) (filter (is_of x.suit) cards) (IsSet-filter (is_trump strain) cards cards-set) (IsSet-filter (is_of x.suit) cards cards-set)

  best-trick : (c : PlayingCard) → has_card best c ≡ true → has_card trick c ≡ true
  best-trick c h = sym (has-same c) ∙ elim (or-one (filter (is_trump strain) cards) (filter (is_of x.suit) cards) c h) [
    | inl t ↦ and-right (is_trump strain c) (has_card cards c) (sym (has_card-filter (is_trump strain) cards c) ∙ t)
    | inr s ↦ and-right (is_of x.suit c) (has_card cards c) (sym (has_card-filter (is_of x.suit) cards c) ∙ s)
  ]

  -- the card led is of the suit led
  pub best-some : best ≡ [] → ⊥
  best-some = or-some (filter (is_trump strain) cards) (filter (is_of x.suit) cards) x (filter-has (is_of x.suit) cards x (has-same x ∙ has-first x (y ∷ z ∷ d ∷ [])) (eq-eqb _ _ refl))

  module _ (won : PlayingCard) (rest : List PlayingCard) (first : best ≡ won ∷ rest) where
    won-best : has_card best won ≡ true
    won-best = ap (λ l. has_card l won) first ∙ has-first won rest

    -- it is the highest
    won-highest : (c : PlayingCard) → has_card best c ≡ true → (c.suit ≡ won.suit) × (c.rank ≤ won.rank)
    won-highest c h =
        let suit = one-suit strain x.suit cards in
        let same : c.suit ≡ won.suit = suit.1 c h ∙ sym (suit.1 won won-best) in
        let codes = ap suit_code same in (
          same,
          elim (or_cases (same_card won c) (has_card rest c) (sym (ap (λ l. has_card l c) first) ∙ h)) [
            | inl e ↦ (let r = ap (λ (w : PlayingCard). w.rank) (same_card-eq won c e) in omega (arith, r))
            | inr later ↦ (let less = set-first won rest (subst IsSet first best-set) c later in omega (arith, less, codes))
          ],
        )

    tells : (c : PlayingCard) → has_card trick c ≡ true → is_highest_of (deciding strain trick) c ≡ same_card won c
    tells c there =
        both-ways _ _
        (λ h.
        let in_best : has_card best c ≡ true = best-same c ∙ and-left (has_card (deciding strain trick) c) (list_all (λ e. nat_le e.rank c.rank) (deciding strain trick)) h in
        let all = and-right (has_card (deciding strain trick) c) (list_all (λ e. nat_le e.rank c.rank) (deciding strain trick)) h in
        let high = leb-true won.rank c.rank (passes (λ e. nat_le e.rank c.rank) won (deciding strain trick) all (sym (best-same won) ∙ won-best)) in
        let w = won-highest c in_best in
        let low = w.1 in
        and_from (suit_code won.suit == suit_code c.suit) (won.rank == c.rank) (eq-eqb _ _ (ap suit_code (sym w.0))) (eq-eqb _ _ (omega (arith, high, low))))
        (λ h.
        let same : won ≡ c = same_card-eq won c h in
        and_from (has_card (deciding strain trick) c) _ (sym (best-same c) ∙ ap (has_card best) (sym same) ∙ won-best)
        (all-pass (λ e. nat_le e.rank c.rank) (deciding strain trick) (λ e k.
        let w = won-highest e (best-same e ∙ k) in
        le-leb e.rank c.rank (let low = w.1 in let r = ap (λ (v : PlayingCard). v.rank) same in omega (arith, low, r)))))

    -- where it is none of the first three, it is the fourth
    among : position_or_len (same_card won) (x ∷ y ∷ z ∷ d ∷ []) ≡ position_or_len (same_card won) (x ∷ y ∷ z ∷ [])
    among = go (same_card won x) (same_card won y) (same_card won z) (same_card won d) refl refl refl refl
      where
        go : (a b c e : Bool) → same_card won x ≡ a → same_card won y ≡ b → same_card won z ≡ c → same_card won d ≡ e
            → position_or_len (same_card won) (x ∷ y ∷ z ∷ d ∷ []) ≡ position_or_len (same_card won) (x ∷ y ∷ z ∷ [])
        go true b c e ea eb ec ee = rw ea refl
        go false true c e ea eb ec ee = rw (ea, eb) refl
        go false false true e ea eb ec ee = rw (ea, eb, ec) refl
        go false false false true ea eb ec ee = rw (ea, eb, ec, ee) refl
        go false false false false ea eb ec ee = absurd (
            let none : (same_card won x || (same_card won y || (same_card won z || (same_card won d || false)))) ≡ false = rw (ea, eb, ec, ee) refl in
            let some : (same_card x won || (same_card y won || (same_card z won || (same_card d won || false)))) ≡ true = best-trick won won-best in
            elim (or_cases (same_card x won) _ some) [
              | inl e ↦ no x ea e
              | inr some ↦ elim (or_cases (same_card y won) _ some) [
                | inl e ↦ no y eb e
                | inr some ↦ elim (or_cases (same_card z won) _ some) [
                  | inl e ↦ no z ec e
                  | inr some ↦ elim (or_cases (same_card d won) _ some) [ inl e ↦ no d ee e | inr never ↦ absurd (cc) ]
                ]
              ]
            ])
          where
            no : (c : PlayingCard) → same_card won c ≡ false → same_card c won ≡ true → ⊥
            no c f e = (let g : true ≡ false = sym (same_card-self won) ∙ ap (same_card won) (sym (same_card-eq c won e)) ∙ f in cc)

    pub place-is : winning_place strain trick ≡ position_or_len (same_card won) (x ∷ y ∷ z ∷ [])
    place-is = position-where (is_highest_of (deciding strain trick)) (same_card won) trick tells ∙ among

    pub wins : (place : ℕ) → place ≡ position_or_len (same_card won) (x ∷ y ∷ z ∷ []) → seat_after North place ≡ winner_of trick North strain
    wins place e = ap (seat_after North) (e ∙ sym place-is)

    -- it stands there
    at-place : get_or trick (position_or_len (same_card won) (x ∷ y ∷ z ∷ [])) d ≡ won
    at-place = go (same_card won x) (same_card won y) (same_card won z) refl refl refl
      where
        go : (a b c : Bool) → same_card won x ≡ a → same_card won y ≡ b → same_card won z ≡ c → get_or trick (position_or_len (same_card won) (x ∷ y ∷ z ∷ [])) d ≡ won
        go true b c ea eb ec = rw ea (sym (same_card-eq won x ea))
        go false true c ea eb ec = rw (ea, eb) (sym (same_card-eq won y eb))
        go false false true ea eb ec = rw (ea, eb, ec) (sym (same_card-eq won z ec))
        go false false false ea eb ec = rw (ea, eb, ec) (elim (or_cases (same_card x won) _ (best-trick won won-best)) [
          | inl e ↦ absurd (no x ea e)
          | inr some ↦ elim (or_cases (same_card y won) _ some) [
            | inl e ↦ absurd (no y eb e)
            | inr some ↦ elim (or_cases (same_card z won) _ some) [
              | inl e ↦ absurd (no z ec e)
              | inr some ↦ elim (or_cases (same_card d won) _ some) [ inl e ↦ same_card-eq d won e | inr never ↦ absurd (cc) ]
            ]
          ]
        ])
          where
            no : (c : PlayingCard) → same_card won c ≡ false → same_card c won ≡ true → ⊥
            no c f e = (let g : true ≡ false = sym (same_card-self won) ∙ ap (same_card won) (sym (same_card-eq c won e)) ∙ f in cc)

    pub card-is : (seat : Seat) (place : ℕ) → place ≡ position_or_len (same_card won) (x ∷ y ∷ z ∷ []) → place ≤ 3 → seat ≡ seat_after North place → won ≡ get_or trick (seat_code seat) d
    card-is seat place e few is = sym (ap (λ n. get_or trick n d) (ap seat_code is ∙ code place few ∙ e) ∙ at-place)
      where
        code : (n : ℕ) → n ≤ 3 → seat_code (seat_after North n) ≡ n
        code zero h = refl
        code (suc zero) h = refl
        code (suc (suc zero)) h = refl
        code (suc (suc (suc zero))) h = refl
        code (suc (suc (suc (suc n)))) h = absurd (omega (arith, h))
