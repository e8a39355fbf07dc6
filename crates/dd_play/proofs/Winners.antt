-- the strongest card of a trick and of one that answers it place by place
use Rattle.std.proofs.Common.{◌≡◌, ◌≢◌, ℕ, zero, suc, ◌+◌, ◌<◌, ◌≤◌, Bool, true, false, refl, sym, ap, ◌∙◌, subst, arith, List, [], ◌∷◌, ◌++◌, length, get_or, inl, inr}
use Rattle.std.specs.Prelude.{map, nat_le, if◌then◌else◌}
use Rattle.std.specs.List.{list_all}
use Rattle.std.proofs.lemmas.Bool.{leb-true, le-leb}
use Rattle.std.proofs.lemmas.Bool.Decides.{nat_tests, eqb_tells}
use Rattle.std.proofs.lemmas.List.{length-map, get_or-map}
use Rattle.std.proofs.lemmas.List.Sums.{position_or_len_is, fails_before_first, passes_at_first}
use Rattle.std.proofs.lemmas.List.Folds.{list_all_at}
use Rattle.dd_cards.specs.declared.suit.Suit.{Suit}
use Rattle.dd_cards.specs.declared.strain.Strain.{Strain}
use Rattle.dd_cards.specs.declared.strain.Strain.TheVariants.{Trump, Notrump}
use Rattle.dd_cards.specs.PlayingCard.{PlayingCard}
use Rattle.dd_cards.specs.Cards.{is_of, has_card}
use Rattle.dd_cards.specs.Ranks.{IsRank}
use Rattle.dd_play.specs.Tricks.{is_trump, winning_place}
use Rattle.dd_play.specs.Strength.{strength, place_of_greatest, strongest_place}
use Rattle.dd_play.proofs.Strengths.{winning-strongest}
use Rattle.dd_play.specs.Covers.{Answers, AllAnswer, Keeps, IsOver}
use mathlib.Core.Path.{ap₂}
use Rattle.dd_cards.specs.Suits.{suit_code}
use Rattle.dd_cards.proofs.CallerLemmas.{suit_code-injective}
use Rattle.dd_play.proofs.Plays.{suit-of}
use Rattle.dd_play.proofs.Boards.{has-first, in-rest}

-- ---- the place of the greatest

-- a test that all pass, at one place
all-at : (test : ℕ → Bool) (xs : List ℕ) → list_all test xs ≡ true → (i : ℕ) → i < length xs → test (get_or xs i 0) ≡ true
all-at test [] all i h = absurd (omega (arith, h))
all-at test (x ∷ xs) all zero h = go (test x) refl
  where
    go : (b : Bool) → test x ≡ b → test x ≡ true
    go true e = e
    go false e = absurd (let k : false ≡ true = rw e at all in cc)
all-at test (x ∷ xs) all (suc i) h = go (test x) refl (λ k. all-at test xs k i (omega (arith, h)))
  where
    go : (b : Bool) → test x ≡ b → (list_all test xs ≡ true → test (get_or xs i 0) ≡ true) → test (get_or xs i 0) ≡ true
    go true e ih = ih (rw e at all)
    go false e ih = absurd (let k : false ≡ true = rw e at all in cc)

-- a test that is passed at each place
all-from : (test : ℕ → Bool) (xs : List ℕ) → ((i : ℕ) → i < length xs → test (get_or xs i 0) ≡ true) → list_all test xs ≡ true
all-from test [] each = refl
all-from test (x ∷ xs) each =
    let here : test x ≡ true = each 0 (omega arith) in
    let rest : list_all test xs ≡ true = all-from test xs (λ i h. each (suc i) (omega (arith, h))) in
    rw (here, rest) refl

-- some number of a list is its greatest
greatest-some : (x : ℕ) (xs : List ℕ) → (i : ℕ) × (i < length (x ∷ xs)) × ((j : ℕ) → j < length (x ∷ xs) → get_or (x ∷ xs) j 0 ≤ get_or (x ∷ xs) i 0)
greatest-some x [] = (0, omega arith, λ j h. elim j as (λ j. j < 1 → get_or (x ∷ []) j 0 ≤ x) [ zero ↦ λ h. omega arith | suc k ↦ λ h. absurd (omega (arith, h)) ] h)
greatest-some x (y ∷ xs) = go (greatest-some y xs)
  where
    go : (i : ℕ) × (i < length (y ∷ xs)) × ((j : ℕ) → j < length (y ∷ xs) → get_or (y ∷ xs) j 0 ≤ get_or (y ∷ xs) i 0)
        → (i : ℕ) × (i < length (x ∷ y ∷ xs)) × ((j : ℕ) → j < length (x ∷ y ∷ xs) → get_or (x ∷ y ∷ xs) j 0 ≤ get_or (x ∷ y ∷ xs) i 0)
    go r = pick (nat_le x (get_or (y ∷ xs) r.0 0)) refl
      where
        over : (j : ℕ) → j < length (x ∷ y ∷ xs) → (m : ℕ) → x ≤ m → get_or (y ∷ xs) r.0 0 ≤ m → get_or (x ∷ y ∷ xs) j 0 ≤ m
        over zero h m a b = a
        over (suc j) h m a b = (let k = r.2 j (omega (arith, h)) in omega (arith, k, b))

        pick : (b : Bool) → nat_le x (get_or (y ∷ xs) r.0 0) ≡ b → (i : ℕ) × (i < length (x ∷ y ∷ xs)) × ((j : ℕ) → j < length (x ∷ y ∷ xs) → get_or (x ∷ y ∷ xs) j 0 ≤ get_or (x ∷ y ∷ xs) i 0)
        pick true e = (suc r.0, (let l = r.1 in omega (arith, l)), λ j h. over j h (get_or (y ∷ xs) r.0 0) (leb-true x _ e) (omega arith))
        pick false e = (0, omega arith, λ j h. over j h x (omega arith) (lower x (get_or (y ∷ xs) r.0 0) e))
          where
            lower : (a b : ℕ) → nat_le a b ≡ false → b ≤ a
            lower a b h = grind (arith, nat_tests)

-- the place of the greatest is one of the list
pub place-within : (x : ℕ) (xs : List ℕ) → place_of_greatest (x ∷ xs) < length (x ∷ xs)
place-within x xs = go (nat_le (length (x ∷ xs)) (place_of_greatest (x ∷ xs))) refl (greatest-some x xs)
  where
    go : (b : Bool) → nat_le (length (x ∷ xs)) (place_of_greatest (x ∷ xs)) ≡ b
        → (i : ℕ) × (i < length (x ∷ xs)) × ((j : ℕ) → j < length (x ∷ xs) → get_or (x ∷ xs) j 0 ≤ get_or (x ∷ xs) i 0) → place_of_greatest (x ∷ xs) < length (x ∷ xs)
    go false e r = higher (length (x ∷ xs)) (place_of_greatest (x ∷ xs)) e
      where
        higher : (a b : ℕ) → nat_le a b ≡ false → b < a
        higher a b h = grind (arith, nat_tests)
    go true e r =
        let far : length (x ∷ xs) ≤ place_of_greatest (x ∷ xs) = leb-true _ _ e in
        let l = r.1 in
        let fails : list_all (λ y. nat_le y (get_or (x ∷ xs) r.0 0)) (x ∷ xs) ≡ false = fails_before_first (λ z. list_all (λ y. nat_le y z) (x ∷ xs)) (x ∷ xs) r.0 0 (omega (arith, far, l)) in
        let passes : list_all (λ y. nat_le y (get_or (x ∷ xs) r.0 0)) (x ∷ xs) ≡ true = all-from (λ y. nat_le y (get_or (x ∷ xs) r.0 0)) (x ∷ xs) (λ j h. le-leb _ _ (r.2 j h)) in
        absurd (let k : false ≡ true = sym fails ∙ passes in cc)

-- two lists that compare alike with what is at the first one's place of the greatest
pub place-same : (x : ℕ) (xs : List ℕ) (ys : List ℕ) → length ys ≡ length (x ∷ xs)
    → ((i : ℕ) → i < length (x ∷ xs) → nat_le (get_or ys i 0) (get_or ys (place_of_greatest (x ∷ xs)) 0) ≡ nat_le (get_or (x ∷ xs) i 0) (get_or (x ∷ xs) (place_of_greatest (x ∷ xs)) 0))
    → ((i : ℕ) → i < length (x ∷ xs) → nat_le (get_or ys (place_of_greatest (x ∷ xs)) 0) (get_or ys i 0) ≡ nat_le (get_or (x ∷ xs) (place_of_greatest (x ∷ xs)) 0) (get_or (x ∷ xs) i 0))
    → place_of_greatest ys ≡ place_of_greatest (x ∷ xs)
place-same x xs ys same below above =
    let w : ℕ = place_of_greatest (x ∷ xs) in
    let within : w < length (x ∷ xs) = place-within x xs in
    let top : list_all (λ y. nat_le y (get_or (x ∷ xs) w 0)) (x ∷ xs) ≡ true = passes_at_first (λ z. list_all (λ y. nat_le y z) (x ∷ xs)) (x ∷ xs) 0 within in
    let each = λ (i : ℕ) (h : i < length (x ∷ xs)). all-at (λ y. nat_le y (get_or (x ∷ xs) w 0)) (x ∷ xs) top i h in
    position_or_len_is (λ z. list_all (λ y. nat_le y z) ys) ys w 0 (omega (arith, within, same))
    (λ k h.
    let fails : list_all (λ y. nat_le y (get_or (x ∷ xs) k 0)) (x ∷ xs) ≡ false = fails_before_first (λ z. list_all (λ y. nat_le y z) (x ∷ xs)) (x ∷ xs) k 0 h in
    let not_over : nat_le (get_or (x ∷ xs) w 0) (get_or (x ∷ xs) k 0) ≡ false = strict (x ∷ xs) (get_or (x ∷ xs) w 0) (get_or (x ∷ xs) k 0) each fails in
    list_all_at (λ y. nat_le y (get_or ys k 0)) ys w 0 (omega (arith, within, same)) (above k (omega (arith, h, within)) ∙ not_over))
    (λ h. all-from (λ y. nat_le y (get_or ys w 0)) ys (λ i l. below i (omega (arith, l, same)) ∙ each i (omega (arith, l, same))))
  where
    strict : (zs : List ℕ) (m n : ℕ) → ((i : ℕ) → i < length zs → nat_le (get_or zs i 0) m ≡ true) → list_all (λ y. nat_le y n) zs ≡ false → nat_le m n ≡ false
    strict zs m n each fails = go (nat_le m n) refl
      where
        trans : (a b c : ℕ) → nat_le a b ≡ true → nat_le b c ≡ true → nat_le a c ≡ true
        trans a b c h k = grind (arith, nat_tests)

        go : (b : Bool) → nat_le m n ≡ b → nat_le m n ≡ false
        go false e = e
        go true e = absurd (let k : true ≡ false = sym (all-from (λ y. nat_le y n) zs (λ i l. trans (get_or zs i 0) m n (each i l) e)) ∙ fails in cc)

-- ---- strengths

-- a card's strength, by whether it is a trump, whether it is of the suit led, and its rank
abbrev pub strength_by : Bool → Bool → ℕ → ℕ
strength_by trump led rank = (if trump then 20 + rank else (if led then rank else 0))

-- whether a card is a trump depends on its suit alone
pub trump-suit : (strain : Strain) (c d : PlayingCard) → c.suit ≡ d.suit → is_trump strain c ≡ is_trump strain d
trump-suit (Trump u) c d e = ap (λ s. is_of u (let card : PlayingCard = record { suit = s; rank = 0 } in card)) e
trump-suit Notrump c d e = refl

-- and so does whether it is of a suit
led-suit : (u : Suit) (c d : PlayingCard) → c.suit ≡ d.suit → is_of u c ≡ is_of u d
led-suit u c d e = ap (λ s. is_of u (let card : PlayingCard = record { suit = s; rank = 0 } in card)) e

-- two trumps are of one suit
both-trump : (strain : Strain) (c d : PlayingCard) → is_trump strain c ≡ true → is_trump strain d ≡ true → c.suit ≡ d.suit
both-trump (Trump u) c d e f = suit-of u c e ∙ sym (suit-of u d f)
both-trump Notrump c d e f = absurd (cc)

-- two cards of one suit compare as their ranks
same-compare : (t l : Bool) (a b c d : ℕ) → nat_le c d ≡ nat_le a b → nat_le (strength_by t l c) (strength_by t l d) ≡ nat_le (strength_by t l a) (strength_by t l b)
same-compare true l a b c d h = grind (arith, nat_tests)
same-compare false true a b c d h = h
same-compare false false a b c d h = refl

-- two cards of different suits compare by their suits alone
apart-compare : (t l t' l' : Bool) → (t ≡ true → t' ≡ true → ⊥) → (l ≡ true → l' ≡ true → ⊥) → (a b c d : ℕ)
    → 2 ≤ a → a ≤ 14 → 2 ≤ b → b ≤ 14 → 2 ≤ c → c ≤ 14 → 2 ≤ d → d ≤ 14
    → nat_le (strength_by t l c) (strength_by t' l' d) ≡ nat_le (strength_by t l a) (strength_by t' l' b)
apart-compare true l true l' tt' ll' a b c d a2 a14 b2 b14 c2 c14 d2 d14 = absurd (tt' refl refl)
apart-compare false true false true tt' ll' a b c d a2 a14 b2 b14 c2 c14 d2 d14 = absurd (ll' refl refl)
apart-compare true l false true tt' ll' a b c d a2 a14 b2 b14 c2 c14 d2 d14 = no (20 + c) d (omega arith) ∙ sym (no (20 + a) b (omega arith))
  where
    no : (m n : ℕ) → n < m → nat_le m n ≡ false
    no m n h = grind (arith, nat_tests)
apart-compare true l false false tt' ll' a b c d a2 a14 b2 b14 c2 c14 d2 d14 = no (20 + c) 0 (omega arith) ∙ sym (no (20 + a) 0 (omega arith))
  where
    no : (m n : ℕ) → n < m → nat_le m n ≡ false
    no m n h = grind (arith, nat_tests)
apart-compare false true true l' tt' ll' a b c d a2 a14 b2 b14 c2 c14 d2 d14 = le-leb c (20 + d) (omega arith) ∙ sym (le-leb a (20 + b) (omega arith))
apart-compare false true false false tt' ll' a b c d a2 a14 b2 b14 c2 c14 d2 d14 = no c 0 (omega arith) ∙ sym (no a 0 (omega arith))
  where
    no : (m n : ℕ) → n < m → nat_le m n ≡ false
    no m n h = grind (arith, nat_tests)
apart-compare false false true l' tt' ll' a b c d a2 a14 b2 b14 c2 c14 d2 d14 = le-leb 0 (20 + d) (omega arith) ∙ sym (le-leb 0 (20 + b) (omega arith))
apart-compare false false false true tt' ll' a b c d a2 a14 b2 b14 c2 c14 d2 d14 = le-leb 0 d (omega arith) ∙ sym (le-leb 0 b (omega arith))
apart-compare false false false false tt' ll' a b c d a2 a14 b2 b14 c2 c14 d2 d14 = refl

-- the strength of a card by the suit of another card of its suit and its own rank
as-by : (strain : Strain) (u v : Suit) (b a : PlayingCard) → b.suit ≡ a.suit → v ≡ u → strength strain v b ≡ strength_by (is_trump strain a) (is_of u a) b.rank
as-by strain u v b a e f =
    ap (λ t. strength_by t (is_of v b) b.rank) (trump-suit strain b a e)
    ∙ ap (λ l. strength_by (is_trump strain a) l b.rank) (led-suit v b a e ∙ ap (λ s. is_of s a) f)

-- two cards and the two that answer them compare alike, if they do so where they are of one suit
compare : (strain : Strain) (u v : Suit) (a m b n : PlayingCard) → v ≡ u → b.suit ≡ a.suit → n.suit ≡ m.suit → IsRank a.rank → IsRank m.rank → IsRank b.rank → IsRank n.rank
    → (a.suit ≡ m.suit → nat_le b.rank n.rank ≡ nat_le a.rank m.rank) → nat_le (strength strain v b) (strength strain v n) ≡ nat_le (strength strain u a) (strength strain u m)
compare strain u v a m b n led ba nm ra rm rb rn ranks =
    ap₂ nat_le (as-by strain u v b a ba led) (as-by strain u v n m nm led) ∙ go
  where
    apart : (a.suit ≡ m.suit → ⊥) → nat_le (strength_by (is_trump strain a) (is_of u a) b.rank) (strength_by (is_trump strain m) (is_of u m) n.rank) ≡ nat_le (strength strain u a) (strength strain u m)
    apart differ = apart-compare (is_trump strain a) (is_of u a) (is_trump strain m) (is_of u m) (λ x y. differ (both-trump strain a m x y)) (λ x y. differ (suit-of u a x ∙ sym (suit-of u m y)))
        a.rank m.rank b.rank n.rank ra.0 ra.1 rm.0 rm.1 rb.0 rb.1 rn.0 rn.1

    alike : a.suit ≡ m.suit → nat_le (strength_by (is_trump strain a) (is_of u a) b.rank) (strength_by (is_trump strain m) (is_of u m) n.rank) ≡ nat_le (strength strain u a) (strength strain u m)
    alike e = rw (← trump-suit strain a m e, ← led-suit u a m e) (same-compare (is_trump strain a) (is_of u a) a.rank m.rank b.rank n.rank (ranks e))

    go : nat_le (strength_by (is_trump strain a) (is_of u a) b.rank) (strength_by (is_trump strain m) (is_of u m) n.rank) ≡ nat_le (strength strain u a) (strength strain u m)
    go = elim (eqb_tells (suit_code a.suit) (suit_code m.suit)) [
      | inl e ↦ alike (suit_code-injective a.suit m.suit e.1)
      | inr e ↦ apart (λ f. e.1 (ap suit_code f))
    ]

-- ---- tricks place by place

-- two tricks that answer place by place are of one length
pub answer-length : (to from : PlayingCard → PlayingCard) (top : PlayingCard → Bool) (cs ds : List PlayingCard) → AllAnswer to from top cs ds → length ds ≡ length cs
answer-length to from top [] [] a = refl
answer-length to from top (c ∷ cs) (d ∷ ds) a = let k = answer-length to from top cs ds a.1 in omega (arith, k)
answer-length to from top [] (d ∷ ds) a = absurd a
answer-length to from top (c ∷ cs) [] a = absurd a

-- the cards at one place answer
pub answer-at : (to from : PlayingCard → PlayingCard) (top : PlayingCard → Bool) (cs ds : List PlayingCard) → AllAnswer to from top cs ds → (c d : PlayingCard) (i : ℕ) → i < length cs
    → Answers to from top (get_or cs i c) (get_or ds i d)
answer-at to from top [] [] a x y i h = absurd (omega (arith, h))
answer-at to from top (c ∷ cs) (d ∷ ds) a x y zero h = a.0
answer-at to from top (c ∷ cs) (d ∷ ds) a x y (suc i) h = answer-at to from top cs ds a.1 x y i (omega (arith, h))
answer-at to from top [] (d ∷ ds) a x y i h = absurd a
answer-at to from top (c ∷ cs) [] a x y i h = absurd a

-- a card and its answer are put last
pub answer-push : (to from : PlayingCard → PlayingCard) (top : PlayingCard → Bool) (cs ds : List PlayingCard) (c d : PlayingCard) → AllAnswer to from top cs ds → Answers to from top c d
    → AllAnswer to from top (cs ++ c ∷ []) (ds ++ d ∷ [])
answer-push to from top [] [] x y a b = (b, tt)
answer-push to from top (c ∷ cs) (d ∷ ds) x y a b = (a.0, answer-push to from top cs ds x y a.1 b)
answer-push to from top [] (d ∷ ds) x y a b = absurd a
answer-push to from top (c ∷ cs) [] x y a b = absurd a

-- a list has the card at each of its places
pub has-at : (cards : List PlayingCard) (i : ℕ) (c : PlayingCard) → i < length cards → has_card cards (get_or cards i c) ≡ true
has-at [] i c h = absurd (omega (arith, h))
has-at (x ∷ cards) zero c h = has-first x cards
has-at (x ∷ cards) (suc i) c h = in-rest x (get_or cards i c) cards (has-at cards i c (omega (arith, h)))

-- in tricks that answer place by place and compare alike, the strongest card stands at one place
strongest-same : (to from : PlayingCard → PlayingCard) (top : PlayingCard → Bool) (strain : Strain) (cs ds : List PlayingCard) (c : PlayingCard) → AllAnswer to from top cs ds → 0 < length cs
    → ((x : PlayingCard) → has_card cs x ≡ true → IsRank x.rank)
    → ((x : PlayingCard) → has_card ds x ≡ true → IsRank x.rank)
    → ((x y : PlayingCard) → has_card cs x ≡ true → has_card cs y ≡ true → Keeps to top x y)
    → ((x y : PlayingCard) → has_card cs x ≡ true → has_card cs y ≡ true → IsOver top x y)
    → ((x y : PlayingCard) → has_card ds x ≡ true → has_card ds y ≡ true → IsOver (λ d. top (from d)) x y)
    → ((i : ℕ) → i < length cs → i ≢ strongest_place strain cs → (get_or cs i c).suit ≡ (get_or cs (strongest_place strain cs) c).suit → top (get_or cs (strongest_place strain cs) c) ≡ true)
    → strongest_place strain ds ≡ strongest_place strain cs
strongest-same to from top strain [] ds c a some real_p real_q keeps over_p over_q settled = absurd (omega (arith, some))
strongest-same to from top strain (led ∷ rest) [] c a some real_p real_q keeps over_p over_q settled = absurd a
strongest-same to from top strain (led ∷ rest) (led' ∷ rest') c a some real_p real_q keeps over_p over_q settled =
    place-same (f led) (map f rest) (map g ds)
    (length-map ds g ∙ same ∙ sym (length-map cs f))
    (λ i h. let l : i < length cs = inside i h in ap₂ nat_le (get_or-map g ds i c 0 (omega (arith, l, same))) (get_or-map g ds w c 0 (omega (arith, within, same))) ∙ below i l
    ∙ sym (ap₂ nat_le (get_or-map f cs i c 0 l) (get_or-map f cs w c 0 within)))
    (λ i h. let l : i < length cs = inside i h in ap₂ nat_le (get_or-map g ds w c 0 (omega (arith, within, same))) (get_or-map g ds i c 0 (omega (arith, l, same))) ∙ above i l
    ∙ sym (ap₂ nat_le (get_or-map f cs w c 0 within) (get_or-map f cs i c 0 l)))
  where
    cs : List PlayingCard
    cs = led ∷ rest

    ds : List PlayingCard
    ds = led' ∷ rest'

    f : PlayingCard → ℕ
    f x = strength strain led.suit x

    g : PlayingCard → ℕ
    g x = strength strain led'.suit x

    w : ℕ
    w = strongest_place strain (led ∷ rest)

    same : length ds ≡ length cs
    same = answer-length to from top (led ∷ rest) (led' ∷ rest') a

    within : w < length cs
    within = (let k : w < length (map f cs) = place-within (f led) (map f rest) in let l = length-map cs f in omega (arith, k, l))

    inside : (i : ℕ) → i < length (map f cs) → i < length cs
    inside i h = (let l = length-map cs f in omega (arith, h, l))

    at : (i : ℕ) → i < length cs → Answers to from top (get_or cs i c) (get_or ds i c)
    at i l = answer-at to from top (led ∷ rest) (led' ∷ rest') a c c i l

    -- the ranks of two of a suit, one of them the winner
    ranks : (i : ℕ) → i < length cs → (get_or cs i c).suit ≡ (get_or cs w c).suit
        → (nat_le (get_or ds i c).rank (get_or ds w c).rank ≡ nat_le (get_or cs i c).rank (get_or cs w c).rank)
        × (nat_le (get_or ds w c).rank (get_or ds i c).rank ≡ nat_le (get_or cs w c).rank (get_or cs i c).rank)
    ranks i l e = elim (eqb_tells i w) [
      | inl h ↦ (
          let one : (n : ℕ) → nat_le n n ≡ true = λ n. le-leb n n (omega arith) in
          subst (λ j. (nat_le (get_or ds j c).rank (get_or ds w c).rank ≡ nat_le (get_or cs j c).rank (get_or cs w c).rank) × (nat_le (get_or ds w c).rank (get_or ds j c).rank ≡ nat_le (get_or cs w c).rank (get_or cs j c).rank)) (sym h.1)
          (one (get_or ds w c).rank ∙ sym (one (get_or cs w c).rank), one (get_or ds w c).rank ∙ sym (one (get_or cs w c).rank)))
      | inr h ↦ judge (settled i l h.1 e) (top (get_or cs i c)) refl
    ]
      where
        lower : (a b : ℕ) → a < b → (nat_le a b ≡ true) × (nat_le b a ≡ false)
        lower a b h = (le-leb a b (omega (arith, h)), strictly a b h)
          where
            strictly : (a b : ℕ) → a < b → nat_le b a ≡ false
            strictly a b h = grind (arith, nat_tests)

        has_i : has_card cs (get_or cs i c) ≡ true
        has_i = has-at cs i c l

        has_w : has_card cs (get_or cs w c) ≡ true
        has_w = has-at cs w c within

        had_i : has_card ds (get_or ds i c) ≡ true
        had_i = has-at ds i c (omega (arith, l, same))

        had_w : has_card ds (get_or ds w c) ≡ true
        had_w = has-at ds w c (omega (arith, within, same))

        judge : top (get_or cs w c) ≡ true → (b : Bool) → top (get_or cs i c) ≡ b
            → (nat_le (get_or ds i c).rank (get_or ds w c).rank ≡ nat_le (get_or cs i c).rank (get_or cs w c).rank)
            × (nat_le (get_or ds w c).rank (get_or ds i c).rank ≡ nat_le (get_or cs w c).rank (get_or cs i c).rank)
        judge tw true ti =
            let mi : get_or ds i c ≡ to (get_or cs i c) = ((at i l).same ti).0 in
            let mw : get_or ds w c ≡ to (get_or cs w c) = ((at w within).same tw).0 in (
              ap₂ (λ (x y : PlayingCard). nat_le x.rank y.rank) mi mw ∙ keeps (get_or cs i c) (get_or cs w c) has_i has_w ti tw e,
              ap₂ (λ (x y : PlayingCard). nat_le x.rank y.rank) mw mi ∙ keeps (get_or cs w c) (get_or cs i c) has_w has_i tw ti (sym e),
            )
        judge tw false ti =
            let under : (get_or cs i c).rank < (get_or cs w c).rank = over_p (get_or cs w c) (get_or cs i c) has_w has_i tw ti (sym e) in
            let over : (get_or ds i c).rank < (get_or ds w c).rank = over_q (get_or ds w c) (get_or ds i c) had_w had_i ((at w within).kind ∙ tw) ((at i l).kind ∙ ti) ((at w within).suit ∙ sym e ∙ sym (at i l).suit) in
            let x = lower (get_or cs i c).rank (get_or cs w c).rank under in
            let y = lower (get_or ds i c).rank (get_or ds w c).rank over in
            (y.0 ∙ sym x.0, y.1 ∙ sym x.1)

    below : (i : ℕ) → i < length cs → nat_le (g (get_or ds i c)) (g (get_or ds w c)) ≡ nat_le (f (get_or cs i c)) (f (get_or cs w c))
    below i l = compare strain led.suit led'.suit (get_or cs i c) (get_or cs w c) (get_or ds i c) (get_or ds w c) a.0.suit (at i l).suit (at w within).suit
        (real_p _ (has-at cs i c l)) (real_p _ (has-at cs w c within))
        (real_q _ (has-at ds i c (omega (arith, l, same)))) (real_q _ (has-at ds w c (omega (arith, within, same))))
        (λ e. (ranks i l e).0)

    above : (i : ℕ) → i < length cs → nat_le (g (get_or ds w c)) (g (get_or ds i c)) ≡ nat_le (f (get_or cs w c)) (f (get_or cs i c))
    above i l = compare strain led.suit led'.suit (get_or cs w c) (get_or cs i c) (get_or ds w c) (get_or ds i c) a.0.suit (at w within).suit (at i l).suit
        (real_p _ (has-at cs w c within)) (real_p _ (has-at cs i c l))
        (real_q _ (has-at ds w c (omega (arith, within, same)))) (real_q _ (has-at ds i c (omega (arith, l, same))))
        (λ e. (ranks i l (sym e)).1)

-- and so does the winning card
pub winner-same : (to from : PlayingCard → PlayingCard) (top : PlayingCard → Bool) (strain : Strain) (cs ds : List PlayingCard) (c : PlayingCard) → AllAnswer to from top cs ds → 0 < length cs
    → ((x : PlayingCard) → has_card cs x ≡ true → IsRank x.rank)
    → ((x : PlayingCard) → has_card ds x ≡ true → IsRank x.rank)
    → ((x y : PlayingCard) → has_card cs x ≡ true → has_card cs y ≡ true → Keeps to top x y)
    → ((x y : PlayingCard) → has_card cs x ≡ true → has_card cs y ≡ true → IsOver top x y)
    → ((x y : PlayingCard) → has_card ds x ≡ true → has_card ds y ≡ true → IsOver (λ d. top (from d)) x y)
    → ((i : ℕ) → i < length cs → i ≢ winning_place strain cs → (get_or cs i c).suit ≡ (get_or cs (winning_place strain cs) c).suit → top (get_or cs (winning_place strain cs) c) ≡ true)
    → winning_place strain ds ≡ winning_place strain cs
winner-same to from top strain cs ds c a some real_p real_q keeps over_p over_q settled =
    let is_p : winning_place strain cs ≡ strongest_place strain cs = winning-strongest strain cs real_p in
    winning-strongest strain ds real_q
    ∙ strongest-same to from top strain cs ds c a some real_p real_q keeps over_p over_q
    (subst (λ w. (i : ℕ) → i < length cs → i ≢ w → (get_or cs i c).suit ≡ (get_or cs w c).suit → top (get_or cs w c) ≡ true) is_p settled)
    ∙ sym is_p
