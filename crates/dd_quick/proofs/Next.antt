-- the cards that the leader's partner holds next below the leader's run, by their ranks
use Rattle.std.proofs.Common.{◌≡◌, ℕ, ◌<◌, ◌≤◌, Bool, true, false, refl, sym, ap, ◌∙◌, subst, arith, List, [], ◌∷◌, Option, Some, None, inl, inr}
use Rattle.std.specs.Prelude.{MatchOption, filter, map, slice_get, nat_lt, ◌&&◌}
use mathlib.Core.Bool.{not}
use mathlib.Core.Path.{ap₂}
use Rattle.std.proofs.lemmas.Bool.{cases_lt, ltb-true, lt-ltb, not-true, false_from_ne_true}
use Rattle.std.proofs.lemmas.Bool.Decides.{nat_tests}
use Rattle.dd_cards.specs.declared.suit.Suit.{Suit}
use Rattle.dd_cards.specs.PlayingCard.{PlayingCard}
use Rattle.dd_cards.specs.Ranks.{all_ranks, has_rank}
use Rattle.dd_cards.specs.Cards.{is_of, card_of, has_card}
use Rattle.dd_cards.specs.Seats.{seat_after}
use Rattle.dd_cards.proofs.CallerLemmas.{and-left, and-right, filter-filter, filter-map, filter-true, seat_code-lt, none-at, has-all, has-filter, filter-members}
use Rattle.dd_play.specs.Board.{Board, IsBoard, cards_at}
use Rattle.dd_play.proofs.CallerLemmas.{after-code, card-real, of-suit', suit-of}
use Rattle.dd_quick.specs.QuickTricks.{is_next, is_under_low, is_unbeaten, is_winner}
use Rattle.dd_quick.proofs.Hands.{one-hand}
use Rattle.dd_quick.proofs.Reached.{ranks-part}
use Rattle.dd_quick.proofs.Runs.{first-highest, none-passes}
use Rattle.dd_rank.proofs.CallerLemmas.{first-there}

-- two tests that agree pass the same cards
filter-same : (f g : PlayingCard → Bool) (cards : List PlayingCard) → ((c : PlayingCard) → f c ≡ g c) → filter f cards ≡ filter g cards
filter-same f g [] each = refl
filter-same f g (c ∷ cards) each = rw (each c, filter-same f g cards each) refl

-- `free` are the ranks of the partner's cards of the suit that no opponent beats, `low` those of the leader's that are no winners
module _ (p : Board) (suit : Suit) (free low : List ℕ) (valid : IsBoard p)
    (his : map (card_of suit) free ≡ filter (λ c. is_of suit c && is_unbeaten p (seat_after p.first 2) c) (cards_at p (seat_after p.first 2)))
    (own : map (card_of suit) low ≡ filter (λ c. is_of suit c && not (is_winner p p.first c)) (cards_at p p.first)) where
  -- by the hands
  low-ranks : low ≡ filter (λ q. has_card (cards_at p p.first) (card_of suit q) && not (is_winner p p.first (card_of suit q))) all_ranks
  low-ranks = ranks-part p p.first suit (λ c. not (is_winner p p.first c)) low valid own

  free-ranks : free ≡ filter (λ q. has_card (cards_at p (seat_after p.first 2)) (card_of suit q) && is_unbeaten p (seat_after p.first 2) (card_of suit q)) all_ranks
  free-ranks = ranks-part p (seat_after p.first 2) suit (is_unbeaten p (seat_after p.first 2)) free valid his

  -- a low card of the leader's is one of them
  low-has : (d : PlayingCard) → has_card (cards_at p p.first) d ≡ true → d.suit ≡ suit → is_winner p p.first d ≡ false → has_rank low d.rank ≡ true
  low-has d has suits loses =
      let same : card_of suit d.rank ≡ d = ap (λ u. card_of u d.rank) (sym suits) in
      ap (λ ranks. has_rank ranks d.rank) low-ranks ∙ has-filter _ all_ranks d.rank
      ∙ ap₂ (λ a b. a && b) (ap₂ (λ a b. a && not b) (ap (has_card (cards_at p p.first)) same ∙ has) (ap (is_winner p p.first) same ∙ loses)) (has-all d.rank (card-real p p.first d valid has))

  -- and each of them is such a card
  low-is : (r : ℕ) → has_rank low r ≡ true → (has_card (cards_at p p.first) (card_of suit r) && not (is_winner p p.first (card_of suit r))) ≡ true
  low-is r has = and-left (has_card (cards_at p p.first) (card_of suit r) && not (is_winner p p.first (card_of suit r))) (has_rank all_ranks r) (sym (has-filter _ all_ranks r) ∙ ap (λ ranks. has_rank ranks r) (sym low-ranks) ∙ has)

  -- the partner has the cards of the other ranks
  free-is : (q : ℕ) → has_rank free q ≡ true → has_card (cards_at p (seat_after p.first 2)) (card_of suit q) ≡ true
  free-is q has = and-left (has_card (cards_at p (seat_after p.first 2)) (card_of suit q)) (is_unbeaten p (seat_after p.first 2) (card_of suit q))
      (and-left (has_card (cards_at p (seat_after p.first 2)) (card_of suit q) && is_unbeaten p (seat_after p.first 2) (card_of suit q)) (has_rank all_ranks q) (sym (has-filter _ all_ranks q) ∙ ap (λ ranks. has_rank ranks q) (sym free-ranks) ∙ has))

  -- above the leader's low cards is no low card
  none-low : (q : ℕ) → ((r : ℕ) → has_rank low r ≡ true → r ≤ q) → is_under_low p (card_of suit q) ≡ false
  none-low q most = none-passes (λ d. (is_of suit d && nat_lt q d.rank) && not (is_winner p p.first d)) (cards_at p p.first) (λ d has. false_from_ne_true ((is_of suit d && nat_lt q d.rank) && not (is_winner p p.first d)) (λ pass.
      let above = and-left (is_of suit d && nat_lt q d.rank) (not (is_winner p p.first d)) pass in
      let over = ltb-true q d.rank (and-right (is_of suit d) (nat_lt q d.rank) above) in
      let under = most d.rank (low-has d has (suit-of suit d (and-left (is_of suit d) (nat_lt q d.rank) above)) (not-true (is_winner p p.first d) (and-right (is_of suit d && nat_lt q d.rank) (not (is_winner p p.first d)) pass))) in
      omega (arith, over, under)))

  -- so a rank is next below the leader's run where it is above the highest low one
  above-low : (r q : ℕ) → Some r ≡ slice_get low 0 → has_rank free q ≡ true → not (is_under_low p (card_of suit q)) ≡ nat_lt r q
  unfolding all_ranks
  above-low r q first mine = go (nat_lt r q) refl (is_under_low p (card_of suit q)) refl
    where
      most : (n : ℕ) → has_rank low n ≡ true → n ≤ r
      most n has = first-highest (λ q. has_card (cards_at p p.first) (card_of suit q) && not (is_winner p p.first (card_of suit q))) 13 r n (first ∙ ap (λ ranks. slice_get ranks 0) low-ranks) (ap (λ ranks. has_rank ranks n) (sym low-ranks) ∙ has)

      not-under : (a b : ℕ) → nat_lt a b ≡ false → b ≤ a
      not-under a b h = grind (arith, nat_tests)

      go : (a : Bool) → nat_lt r q ≡ a → (b : Bool) → is_under_low p (card_of suit q) ≡ b → not (is_under_low p (card_of suit q)) ≡ nat_lt r q
      go true e b f = ap not (none-low q (λ n has. (let k = most n has in let l : r < q = ltb-true r q e in omega (arith, k, l)))) ∙ sym e
      go false e true f = ap not f ∙ sym e
      go false e false f = absurd (
          let card = low-is r (first-there low r first) in
          let has = and-left (has_card (cards_at p p.first) (card_of suit r)) (not (is_winner p p.first (card_of suit r))) card in
          let loses = and-right (has_card (cards_at p p.first) (card_of suit r)) (not (is_winner p p.first (card_of suit r))) card in
          let fails = none-at (λ d. (is_of suit d && nat_lt q d.rank) && not (is_winner p p.first d)) (cards_at p p.first) (card_of suit r) f has in
          let under : q ≤ r = not-under r q e in
          elim (cases_lt q r) [
            | inl l ↦ (let pass : ((is_of suit (card_of suit r) && nat_lt q r) && not (is_winner p p.first (card_of suit r))) ≡ true = ap₂ (λ a b. a && b) (ap₂ (λ a b. a && b) (of-suit' suit (card_of suit r) refl) (lt-ltb q r l)) loses in let no : true ≡ false = sym pass ∙ fails in cc)
            | inr l ↦ (
                let same : q ≡ r = omega (arith, l, under) in
                one-hand p valid (seat_after p.first 2) p.first (card_of suit r) (let a = after-code p.first 2 in let b = seat_code-lt p.first in omega (arith, a, b)) (subst (λ n. has_card (cards_at p (seat_after p.first 2)) (card_of suit n) ≡ true) same (free-is q mine)) has)
          ])

  -- by what the code takes
  are-next : (next : List ℕ) (highest : Option ℕ) → highest ≡ slice_get low 0 → MatchOption highest (next ≡ free) (λ r. next ≡ filter (λ q. nat_lt r q) free) → next ≡ filter (λ q. not (is_under_low p (card_of suit q))) free
  are-next next (Some r) first part = part ∙ sym (filter-members (λ q. not (is_under_low p (card_of suit q))) (λ q. nat_lt r q) free (λ q has. above-low r q first has))
  are-next next None first part = part ∙ sym (filter-members (λ q. not (is_under_low p (card_of suit q))) (λ q. true) free (λ q has. ap not (none-low q (λ n k. absurd (nothing low first n k)))) ∙ filter-true free)
    where
      nothing : (ranks : List ℕ) → None ≡ slice_get ranks 0 → (q : ℕ) → has_rank ranks q ≡ true → ⊥
      nothing [] e q has = (let no : false ≡ true = has in cc)
      nothing (r ∷ ranks) e q has = (let no : None ≡ Some r = e in cc)

  -- as cards
  pub next-cards : (next : List ℕ) → MatchOption (slice_get low 0) (next ≡ free) (λ r. next ≡ filter (λ q. nat_lt r q) free) → map (card_of suit) next ≡ filter (λ c. is_of suit c && is_next p c) (cards_at p (seat_after p.first 2))
  next-cards next part =
      ap (map (card_of suit)) (are-next next (slice_get low 0) refl part) ∙ sym (filter-map (λ c. not (is_under_low p c)) (card_of suit) free) ∙ ap (filter (λ c. not (is_under_low p c))) his
      ∙ filter-filter (λ c. not (is_under_low p c)) (λ c. is_of suit c && is_unbeaten p (seat_after p.first 2) c) (cards_at p (seat_after p.first 2))
      ∙ filter-same (λ c. (is_of suit c && is_unbeaten p (seat_after p.first 2) c) && not (is_under_low p c)) (λ c. is_of suit c && is_next p c) (cards_at p (seat_after p.first 2)) (λ c. assoc (is_of suit c) (is_unbeaten p (seat_after p.first 2) c) (not (is_under_low p c)))
    where
      assoc : (a b c : Bool) → ((a && b) && c) ≡ (a && (b && c))
      assoc true b c = refl
      assoc false b c = refl
