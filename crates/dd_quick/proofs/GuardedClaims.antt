-- from the cards that the code finds to the claim that a guarded trump takes a trick
use Rattle.std.proofs.Common.{◌≡◌, ◌≢◌, ℕ, zero, suc, ◌<◌, ◌≤◌, Bool, true, false, refl, sym, ap, ◌∙◌, subst, arith, List, [], length, inl, inr}
use Rattle.std.specs.Prelude.{filter, map, nat_le, nat_lt, ◌&&◌, ◌⊎◌}
use mathlib.Core.Bool.{not}
use mathlib.Core.Path.{ap₂}
use Rattle.std.proofs.lemmas.Bool.{cases_lt, lt-ltb, ltb-true, true_from_ne_false}
use Rattle.std.proofs.lemmas.Bool.Decides.{eqb_tells, nat_tests}
use Rattle.std.proofs.lemmas.List.{length-map}
use Rattle.dd_cards.specs.declared.seat.Seat.{Seat}
use Rattle.dd_cards.specs.declared.suit.Suit.{Suit}
use Rattle.dd_cards.specs.declared.strain.Strain.TheVariants.{Trump}
use Rattle.dd_cards.specs.PlayingCard.{PlayingCard}
use Rattle.dd_cards.specs.Cards.{is_of, card_of, same_card, has_card}
use Rattle.dd_cards.specs.Seats.{seat_code, seat_after}
use Rattle.dd_cards.specs.Sides.{side_of, other_side, is_side}
use Rattle.dd_cards.proofs.CallerLemmas.{and-left, and-right, filter-filter, filter-map, is-other, same-other, same_card-eq, same_card-self, seat_code-lt}
use Rattle.dd_play.specs.Board.{Board, cards_at}
use Rattle.dd_play.specs.Reach.{TakesBy, reach}
use Rattle.dd_play.specs.Won.{won}
use Rattle.dd_play.proofs.CallerLemmas.{after-code, count, count-has, count-some, of-suit', reach-of, reach-upward, suit-of, turn-turn}
use Rattle.dd_quick.specs.QuickTricks.{length_at}
use Rattle.dd_quick.specs.SecondHand.{Opposes}
use Rattle.dd_quick.proofs.Chosen.{count-split}
use Rattle.dd_quick.proofs.Covered.{seat-same}
use Rattle.dd_quick.proofs.GuardedTrump.{CanGuard, guarded-takes}
use Rattle.dd_quick.proofs.Hands.{IsOpposed, one-hand}
use Rattle.dd_quick.proofs.JointTrumps.{place-of}
use Rattle.dd_quick.proofs.KeptClaims.{opponents-are}
use Rattle.dd_rank.proofs.CallerLemmas.{no-trick}

-- how many cards of the suit above this rank the seat holds
abbrev pub above_rank : Board → Seat → Suit → ℕ → ℕ
above_rank p x u rank = length (filter (λ c. is_of u c && nat_lt rank c.rank) (cards_at p x))

-- The seat has this trump and another, the hand before it has one trump that is higher, and the other two hands have none.
pub record IsGuarded (p : Board) (seat : Seat) (u : Suit) (rank : ℕ) : Type 0 where
  pub mine : has_card (cards_at p seat) (card_of u rank) ≡ true
  pub two : 2 ≤ length_at p seat u
  pub before : above_rank p (seat_after seat 3) u rank ≡ 1
  pub next : above_rank p (seat_after seat 1) u rank ≡ 0
  pub partner : above_rank p (seat_after seat 2) u rank ≡ 0

-- where one card passes, two that pass are the same
one-card : (test : PlayingCard → Bool) (cards : List PlayingCard) (c d : PlayingCard) → count test cards ≡ 1 → has_card cards c ≡ true → test c ≡ true → has_card cards d ≡ true → test d ≡ true → d ≡ c
one-card test cards c d one hc tc hd td = go (same_card d c) refl
  where
    go : (b : Bool) → same_card d c ≡ b → d ≡ c
    go true e = same_card-eq d c e
    go false e = absurd (
        let split = count-split test (λ x. same_card x c) cards in
        let first = count-has (λ x. test x && same_card x c) cards c hc (ap₂ (λ a b. a && b) tc (same_card-self c)) in
        let other = count-has (λ x. test x && not (same_card x c)) cards d hd (ap₂ (λ a b. a && not b) td e) in
        omega (arith, split, first, other, one))

-- a claim by the cards that have the trump
pub guard-claim : (p : Board) (i : ℕ) (u : Suit) (rank : ℕ) (cards : List PlayingCard) → IsOpposed i → p.trick ≡ [] → p.strain ≡ Trump u → IsGuarded p (seat_after p.first i) u rank → has_card cards (card_of u rank) ≡ true → TakesBy (reach cards) (other_side (side_of p.first)) p 1
guard-claim p i u rank cards opposed start strain is there k to from t q r strict =
    subst (λ z. 1 ≤ won z q) (is-other (side_of q.first) t (ap (is_side t) r.first ∙ r.sides p.first ∙ same-other (side_of p.first))) (subst (λ z. 1 ≤ won z q) (opponents-are q i opposed) taken)
  where
    -- the highest trump, in the hand before
    hi : (c : PlayingCard) × (has_card (cards_at p (seat_after (seat_after p.first i) 3)) c ≡ true) × ((is_of u c && nat_lt rank c.rank) ≡ true)
    hi = count-some (λ c. is_of u c && nat_lt rank c.rank) (cards_at p (seat_after (seat_after p.first i) 3)) (let one = is.before in omega (arith, one))

    -- from the trump on all are top cards
    high : (c : PlayingCard) → c.suit ≡ u → rank ≤ c.rank → reach cards c ≡ true
    high c suit over = true_from_ne_false (reach cards c) (λ low. let under = reach-upward cards (card_of u rank) c (reach-of cards (card_of u rank) (card_of u rank) there refl (omega arith)) low (sym suit) in omega (arith, over, under))

    lo_top : reach cards (card_of u rank) ≡ true
    lo_top = high (card_of u rank) refl (omega arith)

    hi_over : rank < hi.0.rank
    hi_over = ltb-true rank hi.0.rank (and-right (is_of u hi.0) (nat_lt rank hi.0.rank) hi.2)

    hi_suit : hi.0.suit ≡ u
    hi_suit = suit-of u hi.0 (and-left (is_of u hi.0) (nat_lt rank hi.0.rank) hi.2)

    hi_top : reach cards hi.0 ≡ true
    hi_top = high hi.0 hi_suit (let l = hi_over in omega (arith, l))

    turned : seat_after q.first i ≡ seat_after (seat_after p.first i) k
    turned = seat-same (reach cards) k to from (other_side (side_of p.first)) p t q r i

    lo_image : (has_card (cards_at q (seat_after (seat_after p.first i) k)) (to (card_of u rank)) ≡ true) × (from (to (card_of u rank)) ≡ card_of u rank)
    lo_image = r.forth (seat_after p.first i) (card_of u rank) is.mine lo_top

    hi_image : (has_card (cards_at q (seat_after (seat_after (seat_after p.first i) 3) k)) (to hi.0) ≡ true) × (from (to hi.0) ≡ hi.0)
    hi_image = r.forth (seat_after (seat_after p.first i) 3) hi.0 hi.1 hi_top

    -- a trump of another hand is the highest, or lower
    lower : (z : Seat) (c : PlayingCard) → seat_code z ≢ seat_code (seat_after q.first i) → has_card (cards_at q z) c ≡ true → c.suit ≡ u → (c ≡ to hi.0) ⊎ (c.rank < (to (card_of u rank)).rank)
    lower z c apart has suit = at (place-of q.first z)
      where
        at : (j : ℕ) × (j < 4) × (z ≡ seat_after q.first j) → (c ≡ to hi.0) ⊎ (c.rank < (to (card_of u rank)).rank)
        at (j, l, e) = go (reach cards (from c)) refl
          where
            z_is : z ≡ seat_after (seat_after p.first j) k
            z_is = e ∙ seat-same (reach cards) k to from (other_side (side_of p.first)) p t q r j

            here : has_card (cards_at q (seat_after (seat_after p.first j) k)) c ≡ true
            here = subst (λ w. has_card (cards_at q w) c ≡ true) z_is has

            other : seat_code (seat_after (seat_after p.first i) k) ≢ seat_code (seat_after (seat_after p.first j) k)
            other = λ f. apart (ap seat_code z_is ∙ sym f ∙ ap seat_code (sym turned))

            differs : seat_code (seat_after p.first i) ≢ seat_code (seat_after p.first j)
            differs = λ f. other (let a = after-code (seat_after p.first i) k in let b = after-code (seat_after p.first j) k in omega (arith, a, b, f))

            go : (b : Bool) → reach cards (from c) ≡ b → (c ≡ to hi.0) ⊎ (c.rank < (to (card_of u rank)).rank)
            go false tc = inr (r.over_q.hands (seat_after (seat_after p.first i) k) (seat_after (seat_after p.first j) k) (to (card_of u rank)) c (λ f. other (ap seat_code f)) lo_image.0 here (ap (reach cards) lo_image.1 ∙ lo_top) tc (r.to_suit (card_of u rank) ∙ sym suit))
            go true tc = elim (cases_lt rank (from c).rank) [ inl over ↦ inl (highest over) | inr under ↦ inr (below under) ]
              where
                b : (has_card (cards_at p (seat_after p.first j)) (from c) ≡ true) × (to (from c) ≡ c)
                b = r.back (seat_after p.first j) c here tc

                of_u : (from c).suit ≡ u
                of_u = r.from_suit c ∙ suit

                highest : rank < (from c).rank → c ≡ to hi.0
                highest over = by (place-of (seat_after p.first i) (seat_after p.first j))
                  where
                    passes : (is_of u (from c) && nat_lt rank (from c).rank) ≡ true
                    passes = rw (of-suit' u (from c) of_u, lt-ltb rank (from c).rank over) refl

                    nowhere : (n : ℕ) → seat_after p.first j ≡ seat_after (seat_after p.first i) n → above_rank p (seat_after (seat_after p.first i) n) u rank ≡ 0 → ⊥
                    nowhere n at none = (let one = count-has (λ d. is_of u d && nat_lt rank d.rank) (cards_at p (seat_after (seat_after p.first i) n)) (from c) (subst (λ w. has_card (cards_at p w) (from c) ≡ true) at b.0) passes in omega (arith, one, none))

                    by : (n : ℕ) × (n < 4) × (seat_after p.first j ≡ seat_after (seat_after p.first i) n) → c ≡ to hi.0
                    by (zero, m, at) = absurd (differs (ap seat_code (sym at)))
                    by (suc zero, m, at) = absurd (nowhere 1 at is.next)
                    by (suc (suc zero), m, at) = absurd (nowhere 2 at is.partner)
                    by (suc (suc (suc zero)), m, at) = sym b.1 ∙ ap to (one-card (λ d. is_of u d && nat_lt rank d.rank) (cards_at p (seat_after (seat_after p.first i) 3)) hi.0 (from c) is.before hi.1 hi.2 (subst (λ w. has_card (cards_at p w) (from c) ≡ true) at b.0) passes)
                    by (suc (suc (suc (suc n))), m, at) = absurd (omega (arith, m))

                below : (from c).rank ≤ rank → c.rank < (to (card_of u rank)).rank
                below under =
                    let keep : nat_le (to (card_of u rank)).rank (to (from c)).rank ≡ nat_le rank (from c).rank = r.keeps.hands (seat_after p.first i) (seat_after p.first j) (card_of u rank) (from c) (λ f. differs (ap seat_code f)) is.mine b.0 lo_top tc (sym of_u) in
                    let less : (from c).rank < rank = strict_under in
                    not-le (to (card_of u rank)).rank c.rank (ap (λ (d : PlayingCard). nat_le (to (card_of u rank)).rank d.rank) (sym b.1) ∙ keep ∙ over-le rank (from c).rank less)
                  where
                    not-le : (m n : ℕ) → nat_le m n ≡ false → n < m
                    not-le m n h = grind (arith, nat_tests)

                    over-le : (m n : ℕ) → n < m → nat_le m n ≡ false
                    over-le m n h = grind (arith, nat_tests)

                    same-cards : (d : PlayingCard) → d.suit ≡ u → d.rank ≡ rank → d ≡ card_of u rank
                    same-cards d e f = ap₂ card_of e f

                    -- the two are not the same card, in two hands
                    strict_under : (from c).rank < rank
                    strict_under = elim (eqb_tells (from c).rank rank) [
                      | inl f ↦ absurd (one-hand p r.valid_p (seat_after p.first i) (seat_after p.first j) (card_of u rank) differs is.mine (subst (λ d. has_card (cards_at p (seat_after p.first j)) d ≡ true) (same-cards (from c) of_u f.1) b.0))
                      | inr f ↦ (let d = f.1 in omega (arith, under, d))
                    ]

    guard : CanGuard q (seat_after q.first i) u (to hi.0) (to (card_of u rank))
    guard = record {
      valid = r.valid_q;
      lo_suit = r.to_suit (card_of u rank);
      lower = lower;
      lo_own = ap (λ w. has_card (cards_at q w) (to (card_of u rank))) turned ∙ lo_image.0;
    }

    taken : 1 ≤ won (side_of (seat_after q.first i)) q
    taken = guarded-takes q (seat_after q.first i) u (to hi.0) (to (card_of u rank)) guard (r.strain ∙ strain) (no-trick to from (reach cards) p.trick q.trick start r.trick)
        (ap (λ w. has_card (cards_at q w) (to hi.0)) (ap (λ w. seat_after w 3) turned ∙ turn-turn (seat_after p.first i) k 3) ∙ hi_image.0)
        (let two = is.two in let same : length_at q (seat_after q.first i) u ≡ length_at q (seat_after (seat_after p.first i) k) u = ap (λ w. length_at q w u) turned in let long = r.lengths (seat_after p.first i) u in omega (arith, two, same, long))
        (λ e. let a = after-code q.first i in let b = seat_code-lt q.first in let f : seat_code q.first ≡ seat_code (seat_after q.first i) = ap seat_code e in elim opposed [ inl g ↦ omega (arith, a, b, f, g) | inr g ↦ omega (arith, a, b, f, g) ])

-- So it is of an opponent's seat.
pub guard-at : (p : Board) (seat : Seat) (u : Suit) (rank : ℕ) (cards : List PlayingCard) → Opposes p seat → p.trick ≡ [] → p.strain ≡ Trump u → IsGuarded p seat u rank → has_card cards (card_of u rank) ≡ true → TakesBy (reach cards) (other_side (side_of p.first)) p 1
guard-at p seat u rank cards opposes start strain = elim opposes [
  | inl e ↦ subst (λ x. IsGuarded p x u rank → has_card cards (card_of u rank) ≡ true → TakesBy (reach cards) (other_side (side_of p.first)) p 1) (sym e) (guard-claim p 1 u rank cards (inl refl) start strain)
  | inr e ↦ subst (λ x. IsGuarded p x u rank → has_card cards (card_of u rank) ≡ true → TakesBy (reach cards) (other_side (side_of p.first)) p 1) (sym e) (guard-claim p 3 u rank cards (inr refl) start strain)
]

-- the ranks above one are the cards that are higher
pub ranks-above : (p : Board) (x : Seat) (u : Suit) (rank : ℕ) (ranks : List ℕ) → map (card_of u) ranks ≡ filter (is_of u) (cards_at p x) → length (filter (λ q. nat_lt rank q) ranks) ≡ above_rank p x u rank
ranks-above p x u rank ranks same =
    sym (length-map (filter (λ q. nat_lt rank q) ranks) (card_of u)) ∙ ap length (sym (filter-map (λ c. nat_lt rank c.rank) (card_of u) ranks)) ∙ ap (λ l. length (filter (λ (c : PlayingCard). nat_lt rank c.rank) l)) same ∙ ap length (filter-filter (λ c. nat_lt rank c.rank) (is_of u) (cards_at p x))
