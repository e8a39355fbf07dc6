-- what a side's trumps take, from sequence to sequence: of one sequence the lowest takes most
use Rattle.std.proofs.Common.{◌≡◌, ℕ, suc, ◌+◌, ◌-◌, ◌<◌, ◌≤◌, Bool, true, false, refl, sym, ap, ◌∙◌, arith, List, [], ◌∷◌, Option, Some, None, length, inl, inr, min, max, zero-le}
use Rattle.std.specs.Prelude.{MatchOption, filter, map, nat_le, nat_lt, slice_get, ◌&&◌, ◌||◌, ◌==◌, ◌⊎◌}
use mathlib.Core.Path.{ap₂}
use Rattle.std.proofs.lemmas.Bool.{cases_lt, leb-true, le-leb, ltb-true, lt-ltb, and_from, or_right, or_cases, false_from_ne_true}
use Rattle.dd_cards.specs.declared.seat.Seat.{Seat}
use Rattle.dd_cards.specs.declared.suit.Suit.{Suit}
use Rattle.dd_cards.specs.Ranks.{all_ranks, has_rank}
use Rattle.dd_cards.specs.Cards.{is_of, card_of, has_card}
use Rattle.dd_cards.specs.Seats.{seat_after}
use Rattle.dd_cards.proofs.CallerLemmas.{and-left, and-right, filter-filter, filter-true, has_rank-holding, length-filter-le, seat_code-lt, has-filter, filter-members}
use Rattle.dd_play.specs.Board.{Board, IsBoard, cards_at}
use Rattle.dd_play.proofs.CallerLemmas.{after-code}
use Rattle.dd_quick.specs.QuickTricks.{greatest}
use Rattle.dd_quick.specs.Seen.{IsRanks}
use Rattle.dd_quick.proofs.Hands.{one-hand}
use Rattle.dd_quick.proofs.Runs.{first-highest}
use Rattle.dd_quick.proofs.Sound.{in-greatest}
use Rattle.dd_quick.proofs.TrumpRanks.{from_list, from-less, greatest-within, last-seat, next-rank}
use Rattle.dd_rank.proofs.CallerLemmas.{first-there}

-- ---- sets of ranks

-- a part of all ranks is a set of them
pub ranks-of : (test : ℕ → Bool) (ranks : List ℕ) → ranks ≡ filter test all_ranks → IsRanks ranks
ranks-of test ranks are = are ∙ filter-members test (has_rank ranks) all_ranks (λ q real. sym (ap (λ l. has_rank l q) are ∙ has-filter test all_ranks q ∙ ap (λ b. test q && b) real ∙ with-true (test q)))
  where
    with-true : (b : Bool) → (b && true) ≡ b
    with-true true = refl
    with-true false = refl

-- a part of a set of ranks is one
ranks-part : (test : ℕ → Bool) (ranks : List ℕ) → IsRanks ranks → IsRanks (filter test ranks)
ranks-part test ranks are = ranks-of (λ q. has_rank ranks q && test q) (filter test ranks) (ap (filter test) are ∙ filter-filter test (has_rank ranks) all_ranks)

-- the first is the highest
first-most : (ranks : List ℕ) (r q : ℕ) → IsRanks ranks → Some r ≡ slice_get ranks 0 → has_rank ranks q ≡ true → q ≤ r
unfolding all_ranks
first-most ranks r q are first has = first-highest (has_rank ranks) 13 r q (first ∙ ap (λ l. slice_get l 0) are) (ap (λ l. has_rank l q) (sym are) ∙ has)

-- where the first does not pass, fewer do
fewer-pass : (test : ℕ → Bool) (ranks : List ℕ) (r : ℕ) → Some r ≡ slice_get ranks 0 → test r ≡ false → length (filter test ranks) < length ranks
fewer-pass test [] r first fails = absurd (cc)
fewer-pass test (x ∷ ranks) r first fails =
    let same : r ≡ x = cc in
    let here : test x ≡ false = ap test (sym same) ∙ fails in
    let part : length (filter test (x ∷ ranks)) ≡ length (filter test ranks) = rw (here) refl in
    let few = length-filter-le test ranks in
    omega (arith, part, few)

-- what passes one test passes the other, so no more do
pass-where : (f g : ℕ → Bool) (ranks : List ℕ) → ((q : ℕ) → has_rank ranks q ≡ true → f q ≡ true → g q ≡ true) → length (filter f ranks) ≤ length (filter g ranks)
pass-where f g [] each = zero-le
pass-where f g (x ∷ ranks) each = go (f x) (g x) refl refl (pass-where f g ranks (λ q h. each q (or_right (x == q) (has_rank ranks q) h)))
  where
    go : (a b : Bool) → f x ≡ a → g x ≡ b → length (filter f ranks) ≤ length (filter g ranks) → length (filter f (x ∷ ranks)) ≤ length (filter g (x ∷ ranks))
    go true true e h ih = rw (e, h) (omega (arith, ih))
    go true false e h ih = absurd (let k = each x (first-there (x ∷ ranks) x refl) e in cc)
    go false true e h ih = rw (e, h) (omega (arith, ih))
    go false false e h ih = rw (e, h) ih

-- a list without a first rank has none
nothing-first : (ranks : List ℕ) (q : ℕ) → slice_get ranks 0 ≡ None → has_rank ranks q ≡ true → ⊥
nothing-first [] q e has = absurd (cc)
nothing-first (x ∷ ranks) q e has = absurd (cc)

-- no ranks are a set of ranks
nothing : (ranks : List ℕ) → [] ≡ filter (has_rank []) ranks
nothing [] = refl
nothing (x ∷ ranks) = nothing ranks

-- and no number of theirs is greater than none
pub none-greatest : (number : ℕ → ℕ) (ranks : List ℕ) → slice_get ranks 0 ≡ None → greatest number ranks ≡ 0
none-greatest number [] e = refl
none-greatest number (x ∷ ranks) e = absurd (cc)

-- ---- the trumps of a side, those of its opponents, and how many its longer hand has

module _ (ours theirs : List ℕ) (longer : ℕ) (others : IsRanks theirs) (apart : (q : ℕ) → has_rank ours q ≡ true → has_rank theirs q ≡ false) where
  abbrev number : ℕ → ℕ
  number r = min (from_list r ours) longer - from_list r theirs

  -- what those of any rank or higher take is no more than the greatest
  at-most : (r : ℕ) → number r ≤ greatest number ours
  at-most r = elim (next-rank r ours) [
    | inl none ↦ omega (arith, none)
    | inr q ↦ (let a = in-greatest number ours q.0 q.1 in let k = q.3 in let m = from-less q.0 r theirs q.2 in omega (arith, a, k, m))
  ]

  -- where the opponents' higher trumps leave no more than so many, no lower ones take more
  pub enough : (rest : List ℕ) (rank over most : ℕ) → IsRanks rest → Some rank ≡ slice_get rest 0 → over ≡ from_list rank theirs → longer ≤ most + over → greatest number rest ≤ most
  enough rest rank over most ranks first above few = greatest-within number rest most (λ q has. (
      let under = first-most rest rank q ranks first has in
      let k = from-less rank q theirs under in
      omega (arith, above, few, k)))

  -- One round: from the highest of what is left down to their next trump.
  pub record IsRound (rest next : List ℕ) (value : ℕ) : Type 0 where
    pub least : value ≤ greatest number ours
    pub most : greatest number rest ≤ max value (greatest number next)
    pub fewer : greatest number next ≤ greatest number rest
    pub ranks : IsRanks next
    pub part : (q : ℕ) → has_rank next q ≡ true → has_rank ours q ≡ true
    pub shorter : length next < length rest

  -- where they have such a trump
  round-some : (rest : List ℕ) (rank over r : ℕ) → IsRanks rest → ((q : ℕ) → has_rank rest q ≡ true → has_rank ours q ≡ true) → Some rank ≡ slice_get rest 0 → over ≡ from_list rank theirs → slice_get (filter (λ q. nat_lt q rank) theirs) 0 ≡ Some r
      → IsRound rest (filter (λ q. nat_lt q r) rest) (min (length (filter (λ q. nat_lt r q) ours)) longer - over)
  round-some rest rank over r ranks part first above e = record {
    least = (
        let held = pass-where (λ q. nat_lt r q) (nat_le (suc r)) ours (λ q h pass. (let l = ltb-true r q pass in le-leb (suc r) q (omega (arith, l)))) in
        let few = pass-where (nat_le (suc r)) (nat_le rank) theirs (λ q h pass. (let l = leb-true (suc r) q pass in elim (cases_lt q rank) [ inl k ↦ absurd (let m = below q h k in omega (arith, l, m)) | inr k ↦ le-leb rank q k ])) in
        let all = at-most (suc r) in
        omega (arith, held, few, above, all));
    most = greatest-within number rest (max (min (length (filter (λ q. nat_lt r q) ours)) longer - over) (greatest number (filter (λ q. nat_lt q r) rest))) each;
    fewer = greatest-within number (filter (λ q. nat_lt q r) rest) (greatest number rest) (λ q has. in-greatest number rest q (in-rest q has));
    ranks = ranks-part (λ q. nat_lt q r) rest ranks;
    part = λ q has. part q (in-rest q has);
    shorter = fewer-pass (λ q. nat_lt q r) rest rank first (false_from_ne_true (nat_lt rank r) (λ l. let k = ltb-true rank r l in omega (arith, k, under)));
  }
    where
      lower : List ℕ
      lower = filter (λ q. nat_lt q rank) theirs

      is_lower : (nat_lt r rank && has_rank theirs r) ≡ true
      is_lower = sym (has-filter (λ q. nat_lt q rank) theirs r) ∙ first-there lower r (sym e)

      under : r < rank
      under = ltb-true r rank (and-left (nat_lt r rank) (has_rank theirs r) is_lower)

      below : (q : ℕ) → has_rank theirs q ≡ true → q < rank → q ≤ r
      below q h l = first-most lower r q (ranks-part (λ q. nat_lt q rank) theirs others) (sym e) (has-filter (λ q. nat_lt q rank) theirs q ∙ and_from (nat_lt q rank) (has_rank theirs q) (lt-ltb q rank l) h)

      in-rest : (q : ℕ) → has_rank (filter (λ q. nat_lt q r) rest) q ≡ true → has_rank rest q ≡ true
      in-rest q has = and-right (nat_lt q r) (has_rank rest q) (sym (has-filter (λ q. nat_lt q r) rest q) ∙ has)

      each : (q : ℕ) → has_rank rest q ≡ true → number q ≤ max (min (length (filter (λ q. nat_lt r q) ours)) longer - over) (greatest number (filter (λ q. nat_lt q r) rest))
      each q has = elim (cases_lt q r) [
        | inl l ↦ (let k = in-greatest number (filter (λ q. nat_lt q r) rest) q (has-filter (λ q. nat_lt q r) rest q ∙ and_from (nat_lt q r) (has_rank rest q) (lt-ltb q r l) has) in omega (arith, k))
        | inr l ↦ elim (cases_lt r q) [
          | inl m ↦ (
              let held = pass-where (nat_le q) (λ x. nat_lt r x) ours (λ x h pass. (let k = leb-true q x pass in lt-ltb r x (omega (arith, k, m)))) in
              let more = from-less rank q theirs (first-most rest rank q ranks first has) in
              omega (arith, held, more, above))
          | inr m ↦ absurd (
              let same : q ≡ r = omega (arith, l, m) in
              let theirs_has = ap (has_rank theirs) same ∙ and-right (nat_lt r rank) (has_rank theirs r) is_lower in
              let lacks = apart q (part q has) in
              cc)
        ]
      ]

  -- where they have none
  round-none : (rest : List ℕ) (rank over : ℕ) → IsRanks rest → Some rank ≡ slice_get rest 0 → over ≡ from_list rank theirs → slice_get (filter (λ q. nat_lt q rank) theirs) 0 ≡ None → IsRound rest [] (min (length ours) longer - over)
  round-none rest rank over ranks first above e = record {
    least = (
        let held = pass-where (λ q. true) (nat_le 0) ours (λ q h pass. le-leb 0 q zero-le) in
        let whole = ap length (filter-true ours) in
        let few = pass-where (nat_le 0) (nat_le rank) theirs (λ q h pass. (elim (cases_lt q rank) [ inl k ↦ absurd (nothing-first (filter (λ q. nat_lt q rank) theirs) q e (has-filter (λ q. nat_lt q rank) theirs q ∙ and_from (nat_lt q rank) (has_rank theirs q) (lt-ltb q rank k) h)) | inr k ↦ le-leb rank q k ])) in
        let all = at-most 0 in
        omega (arith, held, whole, few, above, all));
    most = greatest-within number rest (max (min (length ours) longer - over) 0) (λ q has. (
        let held = length-filter-le (nat_le q) ours in
        let more = from-less rank q theirs (first-most rest rank q ranks first has) in
        omega (arith, held, more, above)));
    fewer = zero-le;
    ranks = nothing all_ranks;
    part = λ q has. absurd (cc);
    shorter = (let k = fewer-pass (λ q. false) rest rank first refl in omega (arith, k));
  }

  -- either way
  pub round : (rest held next : List ℕ) (rank over : ℕ) → IsRanks rest → ((q : ℕ) → has_rank rest q ≡ true → has_rank ours q ≡ true) → Some rank ≡ slice_get rest 0 → over ≡ from_list rank theirs
      → MatchOption (slice_get (filter (λ q. nat_lt q rank) theirs) 0) (held ≡ ours) (λ r. held ≡ filter (λ q. nat_lt r q) ours)
      → MatchOption (slice_get (filter (λ q. nat_lt q rank) theirs) 0) (next ≡ []) (λ r. next ≡ filter (λ q. nat_lt q r) rest)
      → IsRound rest next (min (length held) longer - over)
  round rest held next rank over ranks part first above = go (slice_get (filter (λ q. nat_lt q rank) theirs) 0) refl
    where
      go : (o : Option ℕ) → slice_get (filter (λ q. nat_lt q rank) theirs) 0 ≡ o → MatchOption o (held ≡ ours) (λ r. held ≡ filter (λ q. nat_lt r q) ours) → MatchOption o (next ≡ []) (λ r. next ≡ filter (λ q. nat_lt q r) rest)
          → IsRound rest next (min (length held) longer - over)
      go None e a b = rw (a, b) (round-none rest rank over ranks first above e)
      go (Some r) e a b = rw (a, b) (round-some rest rank over r ranks part first above e)

  -- so what is found and what is left to be asked are the greatest together, as they were
  pub still : (rest next : List ℕ) (most value : ℕ) → max most (greatest number rest) ≡ greatest number ours → IsRound rest next value → max (max most value) (greatest number next) ≡ greatest number ours
  still rest next most value were now = (let a = now.least in let b = now.most in let d = now.fewer in omega (arith, were, a, b, d))

-- ---- two sides

-- the ranks of a suit that two hands have together are those of their cards
pub held-by : (p : Board) (x y : Seat) (suit : Suit) (own his both : List ℕ) → map (card_of suit) own ≡ filter (is_of suit) (cards_at p x) → map (card_of suit) his ≡ filter (is_of suit) (cards_at p y)
    → both ≡ filter (λ q. has_rank own q || has_rank his q) all_ranks → (q : ℕ) → has_rank both q ≡ true → (has_card (cards_at p x) (card_of suit q) || has_card (cards_at p y) (card_of suit q)) ≡ true
held-by p x y suit own his both mine others union q has =
    sym (ap₂ (λ a b. a || b) (has_rank-holding suit own (cards_at p x) q mine) (has_rank-holding suit his (cards_at p y) q others))
    ∙ and-left (has_rank own q || has_rank his q) (has_rank all_ranks q) (sym (has-filter (λ q. has_rank own q || has_rank his q) all_ranks q) ∙ ap (λ l. has_rank l q) (sym union) ∙ has)

-- two sides have no rank of a suit in common
pub sides-apart : (p : Board) (seat left : Seat) (suit : Suit) (ours theirs : List ℕ) → IsBoard p → left ≡ seat_after seat 1
    → ((q : ℕ) → has_rank ours q ≡ true → (has_card (cards_at p seat) (card_of suit q) || has_card (cards_at p (seat_after seat 2)) (card_of suit q)) ≡ true)
    → ((q : ℕ) → has_rank theirs q ≡ true → (has_card (cards_at p left) (card_of suit q) || has_card (cards_at p (seat_after left 2)) (card_of suit q)) ≡ true)
    → (q : ℕ) → has_rank ours q ≡ true → has_rank theirs q ≡ false
sides-apart p seat left suit ours theirs valid next mine others q has = false_from_ne_true (has_rank theirs q) (λ e. by (or_cases (at seat) (at (seat_after seat 2)) (mine q has)) (or_cases (at (seat_after seat 1)) (at (seat_after seat 3)) (ap₂ (λ x y. at x || at y) (sym next) (sym (ap (λ x. seat_after x 2) next ∙ last-seat seat)) ∙ others q e)))
  where
    at : Seat → Bool
    at x = has_card (cards_at p x) (card_of suit q)

    by : ((at seat ≡ true) ⊎ (at (seat_after seat 2) ≡ true)) → ((at (seat_after seat 1) ≡ true) ⊎ (at (seat_after seat 3) ≡ true)) → ⊥
    by (inl x) (inl y) = one-hand p valid (seat_after seat 1) seat (card_of suit q) (let a = after-code seat 1 in let b = seat_code-lt seat in omega (arith, a, b)) y x
    by (inl x) (inr y) = one-hand p valid (seat_after seat 3) seat (card_of suit q) (let a = after-code seat 3 in let b = seat_code-lt seat in omega (arith, a, b)) y x
    by (inr x) (inl y) = one-hand p valid (seat_after seat 1) (seat_after seat 2) (card_of suit q) (let a = after-code seat 1 in let d = after-code seat 2 in let b = seat_code-lt seat in omega (arith, a, b, d)) y x
    by (inr x) (inr y) = one-hand p valid (seat_after seat 3) (seat_after seat 2) (card_of suit q) (let a = after-code seat 3 in let d = after-code seat 2 in let b = seat_code-lt seat in omega (arith, a, b, d)) y x
