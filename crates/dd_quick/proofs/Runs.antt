-- a run, and the cards that no opponent beats, by the ranks that the hands hold
use Rattle.std.proofs.Common.{◌≡◌, ◌≢◌, ℕ, zero, suc, ◌+◌, ◌<◌, ◌≤◌, Bool, true, false, refl, sym, ap, ◌∙◌, subst, arith, List, [], ◌∷◌, Option, Some, None, inl, inr}
use Rattle.std.specs.Prelude.{MatchOption, filter, map, slice_get, nat_lt, ◌&&◌, ◌||◌, ◌==◌}
use Rattle.std.specs.List.{list_any}
use mathlib.Core.Bool.{not}
use mathlib.Core.Path.{ap₂}
use Rattle.std.proofs.lemmas.Bool.{eqb-true, ltb-true, or_left, or_right, or_cases, not-true, false_from_ne_true}
use Rattle.std.proofs.lemmas.Bool.Decides.{nat_tests}
use Rattle.std.proofs.lemmas.Map.Views.{any-filter_same}
use Rattle.dd_cards.specs.declared.seat.Seat.{Seat}
use Rattle.dd_cards.specs.declared.suit.Suit.{Suit}
use Rattle.dd_cards.specs.PlayingCard.{PlayingCard}
use Rattle.dd_cards.specs.Ranks.{IsRank, lowest_ranks, all_ranks, has_rank}
use Rattle.dd_cards.specs.Cards.{is_of, card_of, has_card}
use Rattle.dd_cards.specs.Seats.{seat_code, seat_after}
use Rattle.dd_cards.proofs.CallerLemmas.{and-left, and-right, filter-filter, filter-map, filter-true, has_rank-holding, has_rank-lowest_ranks, ranks-from_cards, suit-ranks, seat_code-lt, has-all, has-filter, filter-members}
use Rattle.dd_play.specs.Board.{Board, IsBoard, cards_at}
use Rattle.dd_play.proofs.CallerLemmas.{after-code, card-real, has-first, in-rest, suit-of}
use Rattle.dd_quick.specs.QuickTricks.{beats, is_ahead, is_winner, is_unbeaten}
use Rattle.dd_quick.proofs.Hands.{IsOpposed, lower, no-higher, none-over, one-hand, places-on}
use Rattle.dd_rank.proofs.CallerLemmas.{first-there}

-- ---- lists of ranks

-- each of the k lowest ranks is below the next
lowest-under : (k q : ℕ) → has_rank (lowest_ranks k) q ≡ true → q < k + 2
unfolding lowest_ranks
lowest-under zero q has = absurd (cc)
lowest-under (suc k) q has = go ((k + 2) == q) refl (lowest-under k q)
  where
    go : (b : Bool) → ((k + 2) == q) ≡ b → (has_rank (lowest_ranks k) q ≡ true → q < k + 2) → q < suc k + 2
    go true e ih = (let same : k + 2 ≡ q = eqb-true (k + 2) q e in omega (arith, same))
    go false e ih = (let l = ih (rw e at has) in omega (arith, l))

-- the first that passes is the highest that passes
pub first-highest : (test : ℕ → Bool) (k r q : ℕ) → Some r ≡ slice_get (filter test (lowest_ranks k)) 0 → has_rank (filter test (lowest_ranks k)) q ≡ true → q ≤ r
unfolding lowest_ranks
first-highest test zero r q first has = absurd (cc)
first-highest test (suc k) r q first has = go (test (k + 2)) refl (first-highest test k r q)
  where
    go : (b : Bool) → test (k + 2) ≡ b → (Some r ≡ slice_get (filter test (lowest_ranks k)) 0 → has_rank (filter test (lowest_ranks k)) q ≡ true → q ≤ r) → q ≤ r
    go true e ih =
        let head : Some r ≡ Some (k + 2) = rw e at first in
        let same : r ≡ k + 2 = cc in
        let part : (test q && has_rank (lowest_ranks (suc k)) q) ≡ true = sym (has-filter test (lowest_ranks (suc k)) q) ∙ has in
        let under = lowest-under (suc k) q (and-right (test q) (has_rank (lowest_ranks (suc k)) q) part) in
        omega (arith, same, under)
    go false e ih = ih (rw e at first) (rw e at has)

-- ---- the ranks above all others

-- `own` are the ranks of the suit that the seat holds; those above all of `others` pass the test, and no other
pub record AreOver (p : Board) (h : Seat) (suit : Suit) (own others : List ℕ) (test : PlayingCard → Bool) : Type 0 where
  pub mine : map (card_of suit) own ≡ filter (is_of suit) (cards_at p h)
  pub among : ℕ → Bool
  pub ranks : others ≡ filter among all_ranks
  pub over : (q : ℕ) → ((r : ℕ) → has_rank others r ≡ true → r ≤ q) → test (card_of suit q) ≡ true
  pub under : (q r : ℕ) → has_rank own q ≡ true → has_rank others r ≡ true → test (card_of suit q) ≡ true → r < q

module _ (p : Board) (h : Seat) (suit : Suit) (own others : List ℕ) (test : PlayingCard → Bool) (are : AreOver p h suit own others test) where
  -- a rank that the seat holds passes where it is above the highest of the others
  above-highest : (r q : ℕ) → Some r ≡ slice_get others 0 → has_rank own q ≡ true → test (card_of suit q) ≡ nat_lt r q
  unfolding all_ranks
  above-highest r q first mine = go (nat_lt r q) refl
    where
      most : (n : ℕ) → has_rank others n ≡ true → n ≤ r
      most n has = first-highest are.among 13 r n (first ∙ ap (λ ranks. slice_get ranks 0) are.ranks) (ap (λ ranks. has_rank ranks n) (sym are.ranks) ∙ has)

      low : (a b : ℕ) → nat_lt a b ≡ false → b ≤ a
      low a b h = grind (arith, nat_tests)

      go : (b : Bool) → nat_lt r q ≡ b → test (card_of suit q) ≡ nat_lt r q
      go true e = are.over q (λ n has. (let k = most n has in let l : r < q = ltb-true r q e in omega (arith, k, l))) ∙ sym e
      go false e = false_from_ne_true (test (card_of suit q)) (λ wins.
          let least : q ≤ r = low r q e in
          let over : r < q = are.under q r mine (first-there others r first) wins in
          omega (arith, least, over)) ∙ sym e

  -- the ranks above all others are those that pass
  are-those : (winners : List ℕ) (highest : Option ℕ) → highest ≡ slice_get others 0 → MatchOption highest (winners ≡ own) (λ r. winners ≡ filter (λ q. nat_lt r q) own) → winners ≡ filter (λ q. test (card_of suit q)) own
  are-those winners (Some r) first part = part ∙ sym (filter-members (λ q. test (card_of suit q)) (λ q. nat_lt r q) own (λ q has. above-highest r q first has))
  are-those winners None first part = part ∙ sym (filter-members (λ q. test (card_of suit q)) (λ q. true) own (λ q has. are.over q (λ n k. absurd (none others first n k))) ∙ filter-true own)
    where
      none : (ranks : List ℕ) → None ≡ slice_get ranks 0 → (q : ℕ) → has_rank ranks q ≡ true → ⊥
      none [] e q has = (let no : false ≡ true = has in cc)
      none (r ∷ ranks) e q has = (let no : None ≡ Some r = e in cc)

  -- as cards, they are the cards of the suit that pass
  pub those-cards : (winners : List ℕ) → MatchOption (slice_get others 0) (winners ≡ own) (λ r. winners ≡ filter (λ q. nat_lt r q) own) → map (card_of suit) winners ≡ filter (λ c. is_of suit c && test c) (cards_at p h)
  those-cards winners part = ap (map (card_of suit)) (are-those winners (slice_get others 0) refl part) ∙ sym (filter-map test (card_of suit) own) ∙ ap (filter test) are.mine ∙ filter-filter test (is_of suit) (cards_at p h)

-- a test that fails at each card fails at all
pub none-passes : (test : PlayingCard → Bool) (cards : List PlayingCard) → ((d : PlayingCard) → has_card cards d ≡ true → test d ≡ false) → list_any test cards ≡ false
none-passes test [] each = refl
none-passes test (c ∷ cards) each = rw (each c (has-first c cards)) (none-passes test cards (λ d h. each d (in-rest c d cards h)))

-- a hand with no higher card of the suit does not beat a card
no-beat : (p : Board) (x : Seat) (suit : Suit) (q : ℕ) → ((d : PlayingCard) → has_card (cards_at p x) d ≡ true → d.suit ≡ suit → d.rank ≤ q) → beats p x (card_of suit q) ≡ false
no-beat p x suit q each = none-passes (λ d. is_of suit d && nat_lt q d.rank) (cards_at p x) (λ d has. go d has (is_of suit d) refl)
  where
    not-over : (a b : ℕ) → b ≤ a → nat_lt a b ≡ false
    not-over a b h = grind (arith, nat_tests)

    go : (d : PlayingCard) → has_card (cards_at p x) d ≡ true → (b : Bool) → is_of suit d ≡ b → (is_of suit d && nat_lt q d.rank) ≡ false
    go d has true e = ap₂ (λ a b. a && b) e (not-over q d.rank (each d has (suit-of suit d e)))
    go d has false e = ap (λ a. a && nat_lt q d.rank) e

-- ---- the ranks of the other hands

-- is the card in one of the other three hands?
abbrev elsewhere : Board → Seat → PlayingCard → Bool
elsewhere p h c = has_card (cards_at p (seat_after h 1)) c || has_card (cards_at p (seat_after h 2)) c || has_card (cards_at p (seat_after h 3)) c

-- `own` are the ranks of the suit that the seat holds, `others` those that the other three hold
pub record AreHeld (p : Board) (h : Seat) (suit : Suit) (own others : List ℕ) : Type 0 where
  pub valid : IsBoard p
  pub mine : map (card_of suit) own ≡ filter (is_of suit) (cards_at p h)
  pub theirs : others ≡ filter (λ q. elsewhere p h (card_of suit q)) all_ranks

-- the union of the three holdings
pub held-of : (p : Board) (h : Seat) (suit : Suit) (own one two three both others : List ℕ) → IsBoard p → map (card_of suit) own ≡ filter (is_of suit) (cards_at p h)
    → map (card_of suit) one ≡ filter (is_of suit) (cards_at p (seat_after h 1))
    → map (card_of suit) two ≡ filter (is_of suit) (cards_at p (seat_after h 2))
    → map (card_of suit) three ≡ filter (is_of suit) (cards_at p (seat_after h 3))
    → both ≡ filter (λ q. has_rank one q || has_rank two q) all_ranks → others ≡ filter (λ q. has_rank both q || has_rank three q) all_ranks → AreHeld p h suit own others
held-of p h suit own one two three both others valid mine a b c join all = record {
  valid = valid;
  mine = mine;
  theirs = all ∙ filter-members (λ q. has_rank both q || has_rank three q)
      (λ q. elsewhere p h (card_of suit q))
      all_ranks each;
}
  where
    tests : (x y z t : Bool) → t ≡ true → (((x || y) && t) || z) ≡ (x || y || z)
    tests true y z true e = refl
    tests false true z true e = refl
    tests false false z true e = refl
    tests x y z false e = absurd (cc)

    each : (q : ℕ) → has_rank all_ranks q ≡ true
        → (has_rank both q || has_rank three q) ≡ elsewhere p h (card_of suit q)
    each q real =
        let e : has_rank both q ≡ ((has_rank one q || has_rank two q) && has_rank all_ranks q) = ap (λ ranks. has_rank ranks q) join ∙ has-filter (λ q. has_rank one q || has_rank two q) all_ranks q in
        ap (λ x. x || has_rank three q) e ∙ tests (has_rank one q) (has_rank two q) (has_rank three q) (has_rank all_ranks q) real
        ∙ ap₂ (λ x y. x || y || has_rank three q) (has_rank-holding suit one (cards_at p (seat_after h 1)) q a) (has_rank-holding suit two (cards_at p (seat_after h 2)) q b)
        ∙ ap (λ z. has_card (cards_at p (seat_after h 1)) (card_of suit q) || has_card (cards_at p (seat_after h 2)) (card_of suit q) || z) (has_rank-holding suit three (cards_at p (seat_after h 3)) q c)

-- the holdings of a suit, that of the seat and those of the other three together
module _ (p : Board) (h : Seat) (suit : Suit) (own others : List ℕ) (held : AreHeld p h suit own others) where
  -- the others have the ranks of the cards in the other hands
  others-have : (x : Seat) (d : PlayingCard) → seat_code x ≢ seat_code h → has_card (cards_at p x) d ≡ true → d.suit ≡ suit → has_rank others d.rank ≡ true
  others-have x d apart has e =
      let there : has_card (cards_at p x) (card_of suit d.rank) ≡ true = subst (λ u. has_card (cards_at p x) (card_of u d.rank) ≡ true) e has in
      let on = places-on h x apart in
      ap (λ ranks. has_rank ranks d.rank) held.theirs ∙ has-filter (λ q. elsewhere p h (card_of suit q)) all_ranks d.rank
      ∙ ap₂ (λ a b. a && b) (by on.0 on.1 on.2 (subst (λ y. has_card (cards_at p y) (card_of suit d.rank) ≡ true) on.3 there)) (has-all d.rank (card-real p x d held.valid has))
    where
      a : Bool
      a = has_card (cards_at p (seat_after h 1)) (card_of suit d.rank)

      b : Bool
      b = has_card (cards_at p (seat_after h 2)) (card_of suit d.rank)

      c : Bool
      c = has_card (cards_at p (seat_after h 3)) (card_of suit d.rank)

      by : (i : ℕ) → 1 ≤ i → i < 4 → has_card (cards_at p (seat_after h i)) (card_of suit d.rank) ≡ true → elsewhere p h (card_of suit d.rank) ≡ true
      by zero l m e = absurd (omega (arith, l))
      by (suc zero) l m e = or_left (a || b) c (or_left a b e)
      by (suc (suc zero)) l m e = or_left (a || b) c (or_right a b e)
      by (suc (suc (suc zero))) l m e = or_right (a || b) c e
      by (suc (suc (suc (suc i)))) l m e = absurd (omega (arith, m))

  -- and each of their ranks is in one of the other hands
  others-from : (q : ℕ) → has_rank others q ≡ true → (x : Seat) × (seat_code x ≢ seat_code h) × (has_card (cards_at p x) (card_of suit q) ≡ true)
  others-from q has = go (has_card (cards_at p (seat_after h 1)) (card_of suit q)) (has_card (cards_at p (seat_after h 2)) (card_of suit q)) (has_card (cards_at p (seat_after h 3)) (card_of suit q)) refl refl refl
      (and-left (elsewhere p h (card_of suit q)) (has_rank all_ranks q) (sym (has-filter (λ q. elsewhere p h (card_of suit q)) all_ranks q) ∙ ap (λ ranks. has_rank ranks q) (sym held.theirs) ∙ has))
    where
      apart : (i : ℕ) → 1 ≤ i → i < 4 → seat_code (seat_after h i) ≢ seat_code h
      apart i l m = (let a = after-code h i in let b = seat_code-lt h in omega (arith, a, b, l, m))

      go : (a b c : Bool) → has_card (cards_at p (seat_after h 1)) (card_of suit q) ≡ a → has_card (cards_at p (seat_after h 2)) (card_of suit q) ≡ b → has_card (cards_at p (seat_after h 3)) (card_of suit q) ≡ c → elsewhere p h (card_of suit q) ≡ true
          → (x : Seat) × (seat_code x ≢ seat_code h) × (has_card (cards_at p x) (card_of suit q) ≡ true)
      go true b c e f g t = (seat_after h 1, apart 1 (omega arith) (omega arith), e)
      go false true c e f g t = (seat_after h 2, apart 2 (omega arith) (omega arith), f)
      go false false true e f g t = (seat_after h 3, apart 3 (omega arith) (omega arith), g)
      go false false false e f g t = absurd (let no : false ≡ true = rw (e, f, g) at t in cc)

  -- the winners are the ranks above theirs
  over-others : AreOver p h suit own others (is_winner p h)
  over-others = record {
    mine = held.mine;
    among = λ q. elsewhere p h (card_of suit q);
    ranks = held.theirs;
    over = λ q most. (
        let free : (i : ℕ) → 1 ≤ i → i < 4 → beats p (seat_after h i) (card_of suit q) ≡ false = λ i l m. no-beat p (seat_after h i) suit q (λ d has e. most d.rank (others-have (seat_after h i) d (apart i l m) has e)) in
        rw (free 1 (omega arith) (omega arith), free 2 (omega arith) (omega arith), free 3 (omega arith) (omega arith)) refl);
    under = λ q r mine his wins. (
        let x = others-from r his in
        let own_q : has_card (cards_at p h) (card_of suit q) ≡ true = sym (has_rank-holding suit own (cards_at p h) q held.mine) ∙ mine in
        no-higher p held.valid h x.0 (card_of suit q) (card_of suit r) x.1 wins own_q x.2 refl);
  }
    where
      apart : (i : ℕ) → 1 ≤ i → i < 4 → seat_code (seat_after h i) ≢ seat_code h
      apart i l m = (let a = after-code h i in let b = seat_code-lt h in omega (arith, a, b, l, m))

  -- so what is above the highest of theirs is the run
  pub run-cards : (winners : List ℕ) → MatchOption (slice_get others 0) (winners ≡ own) (λ r. winners ≡ filter (λ q. nat_lt r q) own) → map (card_of suit) winners ≡ filter (λ c. is_of suit c && is_winner p h c) (cards_at p h)
  run-cards winners part = those-cards p h suit own others (is_winner p h) over-others winners part

  -- and what is below it the cards that are no winners
  pub low-cards : (low : List ℕ) → MatchOption (slice_get others 0) (low ≡ []) (λ r. low ≡ filter (λ q. nat_lt q r) own) → map (card_of suit) low ≡ filter (λ c. is_of suit c && not (is_winner p h c)) (cards_at p h)
  low-cards low part = ap (map (card_of suit)) (those (slice_get others 0) refl part) ∙ sym (filter-map (λ c. not (is_winner p h c)) (card_of suit) own) ∙ ap (filter (λ c. not (is_winner p h c))) held.mine ∙ filter-filter (λ c. not (is_winner p h c)) (is_of suit) (cards_at p h)
    where
      turned : (a b : ℕ) → a ≢ b → nat_lt a b ≡ not (nat_lt b a)
      turned a b e = grind (arith, nat_tests)

      -- no rank is held twice
      differs : (r q : ℕ) → has_rank others r ≡ true → has_rank own q ≡ true → q ≢ r
      differs r q his mine e =
          let x = others-from r his in
          one-hand p held.valid x.0 h (card_of suit r) x.1 x.2 (subst (λ n. has_card (cards_at p h) (card_of suit n) ≡ true) e (sym (has_rank-holding suit own (cards_at p h) q held.mine) ∙ mine))

      none : (xs : List ℕ) → filter (λ q. false) xs ≡ []
      none [] = refl
      none (x ∷ xs) = none xs

      those : (highest : Option ℕ) → highest ≡ slice_get others 0 → MatchOption highest (low ≡ []) (λ r. low ≡ filter (λ q. nat_lt q r) own) → low ≡ filter (λ q. not (is_winner p h (card_of suit q))) own
      those (Some r) first part = part ∙ filter-members (λ q. nat_lt q r) (λ q. not (is_winner p h (card_of suit q))) own (λ q mine.
          turned q r (differs r q (first-there others r first) mine) ∙ ap not (sym (above-highest p h suit own others (is_winner p h) over-others r q first mine)))
      those None first part = part ∙ sym (none own) ∙ filter-members (λ q. false) (λ q. not (is_winner p h (card_of suit q))) own (λ q mine. ap not (sym (all q first)))
        where
          nothing : (ranks : List ℕ) → None ≡ slice_get ranks 0 → (q : ℕ) → has_rank ranks q ≡ true → ⊥
          nothing [] e q has = (let no : false ≡ true = has in cc)
          nothing (r ∷ ranks) e q has = (let no : None ≡ Some r = e in cc)

          all : (q : ℕ) → None ≡ slice_get others 0 → is_winner p h (card_of suit q) ≡ true
          all q first = over-others.over q (λ n k. absurd (nothing others first n k))

-- ---- the ranks of the opponents

-- of two holdings of opponents, those above their highest are the cards that they don't beat
pub unbeaten-cards : (p : Board) (h : Seat) (suit : Suit) (own one three others winners : List ℕ) → IsBoard p → map (card_of suit) own ≡ filter (is_of suit) (cards_at p h)
    → map (card_of suit) one ≡ filter (is_of suit) (cards_at p (seat_after h 1)) → map (card_of suit) three ≡ filter (is_of suit) (cards_at p (seat_after h 3))
    → others ≡ filter (λ q. has_rank one q || has_rank three q) all_ranks
    → MatchOption (slice_get others 0) (winners ≡ own) (λ r. winners ≡ filter (λ q. nat_lt r q) own) → map (card_of suit) winners ≡ filter (λ c. is_of suit c && is_unbeaten p h c) (cards_at p h)
unbeaten-cards p h suit own one three others winners valid mine a c join part = those-cards p h suit own others (is_unbeaten p h) (record {
  mine = mine;
  among = λ q. has_rank one q || has_rank three q;
  ranks = join;
  over = λ q most. (
      let free : (i : ℕ) → IsOpposed i → beats p (seat_after h i) (card_of suit q) ≡ false = λ i k. no-beat p (seat_after h i) suit q (λ d has e. most d.rank (have i k d has e)) in
      rw (free 1 (inl refl), free 3 (inr refl)) refl);
  under = λ q r own_q his wins. (
      let x = from r his in
      none-over p valid h x.0 (card_of suit q) (card_of suit r) x.1 wins (sym (has_rank-holding suit own (cards_at p h) q mine) ∙ own_q) x.2 refl);
}) winners part
  where
    has-others : (q : ℕ) → has_rank others q ≡ ((has_rank one q || has_rank three q) && has_rank all_ranks q)
    has-others q = ap (λ ranks. has_rank ranks q) join ∙ has-filter (λ q. has_rank one q || has_rank three q) all_ranks q

    have : (i : ℕ) → IsOpposed i → (d : PlayingCard) → has_card (cards_at p (seat_after h i)) d ≡ true → d.suit ≡ suit → has_rank others d.rank ≡ true
    have i k d has e = has-others d.rank ∙ ap₂ (λ a b. a && b) (elim k [
      | inl z ↦ or_left (has_rank one d.rank) (has_rank three d.rank) (has_rank-holding suit one (cards_at p (seat_after h 1)) d.rank a ∙ there 1 z)
      | inr z ↦ or_right (has_rank one d.rank) (has_rank three d.rank) (has_rank-holding suit three (cards_at p (seat_after h 3)) d.rank c ∙ there 3 z)
    ]) (has-all d.rank (card-real p (seat_after h i) d valid has))
      where
        there : (j : ℕ) → i ≡ j → has_card (cards_at p (seat_after h j)) (card_of suit d.rank) ≡ true
        there j z = subst (λ j. has_card (cards_at p (seat_after h j)) (card_of suit d.rank) ≡ true) z (subst (λ u. has_card (cards_at p (seat_after h i)) (card_of u d.rank) ≡ true) e has)

    from : (r : ℕ) → has_rank others r ≡ true → (i : ℕ) × IsOpposed i × (has_card (cards_at p (seat_after h i)) (card_of suit r) ≡ true)
    from r his = elim (or_cases (has_rank one r) (has_rank three r) (and-left (has_rank one r || has_rank three r) (has_rank all_ranks r) (sym (has-others r) ∙ his))) [
      | inl k ↦ (1, inl refl, sym (has_rank-holding suit one (cards_at p (seat_after h 1)) r a) ∙ k)
      | inr k ↦ (3, inr refl, sym (has_rank-holding suit three (cards_at p (seat_after h 3)) r c) ∙ k)
    ]

-- ---- the ranks of the partner

-- of a holding those above the highest of the partner's are the cards that the partner can't beat
pub ahead-cards : (p : Board) (h : Seat) (suit : Suit) (own his winners : List ℕ) → IsBoard p → map (card_of suit) own ≡ filter (is_of suit) (cards_at p h) → map (card_of suit) his ≡ filter (is_of suit) (cards_at p (seat_after h 2))
    → MatchOption (slice_get his 0) (winners ≡ own) (λ r. winners ≡ filter (λ q. nat_lt r q) own) → map (card_of suit) winners ≡ filter (λ c. is_of suit c && is_ahead p h c) (cards_at p h)
ahead-cards p h suit own his winners valid mine theirs part = those-cards p h suit own his (is_ahead p h) (record {
  mine = mine;
  among = λ q. has_card (cards_at p (seat_after h 2)) (card_of suit q);
  ranks = ranks-from_cards suit his (filter (λ q. has_card (cards_at p (seat_after h 2)) (card_of suit q)) all_ranks) (theirs ∙ suit-ranks suit (cards_at p (seat_after h 2)) (valid.sets (seat_after h 2)));
  over = λ q most. ap not (no-beat p (seat_after h 2) suit q (λ d has e. most d.rank (has_rank-holding suit his (cards_at p (seat_after h 2)) d.rank theirs ∙ subst (λ u. has_card (cards_at p (seat_after h 2)) (card_of u d.rank) ≡ true) e has)));
  under = λ q r own_q his_r wins. lower p valid h (seat_after h 2) (card_of suit q) (card_of suit r) apart (not-true (beats p (seat_after h 2) (card_of suit q)) wins)
      (sym (has_rank-holding suit own (cards_at p h) q mine) ∙ own_q) (sym (has_rank-holding suit his (cards_at p (seat_after h 2)) r theirs) ∙ his_r) refl;
}) winners part
  where
    apart : seat_code (seat_after h 2) ≢ seat_code h
    apart = (let a = after-code h 2 in let b = seat_code-lt h in λ e. omega (arith, a, b, e))
