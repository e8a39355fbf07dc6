-- a trick under way, card by card
use Rattle.std.proofs.Common.{◌≡◌, ◌≢◌, ℕ, zero, suc, ◌+◌, ◌<◌, ◌≤◌, Bool, true, false, refl, sym, ap, ◌∙◌, subst, arith, inl, inr, List, [], ◌∷◌, length}
use Rattle.std.specs.Prelude.{filter, take, slice_set, slice_index_or, ◌||◌, ◌&&◌}
use mathlib.Core.Bool.{not}
use mathlib.Core.Path.{ap₂}
use Rattle.std.proofs.lemmas.List.{length-set}
use Rattle.dd_cards.specs.declared.seat.Seat.{Seat}
use Rattle.dd_cards.specs.declared.seat.Seat.TheVariants.{North, East, South, West}
use Rattle.dd_cards.specs.declared.strain.Strain.{Strain}
use Rattle.dd_cards.specs.PlayingCard.{PlayingCard}
use Rattle.dd_cards.specs.Ranks.{IsRank}
use Rattle.dd_cards.specs.Cards.{has_card, is_of, same_card, with_card, without}
use Rattle.dd_cards.specs.Hands.{FourHands, dealt, times, IsSet}
use Rattle.dd_cards.specs.Seats.{seat_after}
use Rattle.dd_cards.proofs.CallerLemmas.{IsSet-with_card, and-left, and-right, has_card-with_card, has_card-without, real-set, both-ways, same_card-eq, same_card-self, times-cons, times-set, times-has}
use Rattle.dd_play.specs.Board.{Board, board_of, cards_at, mover}
use Rattle.dd_play.specs.Tricks.{winner_of, or_else}
use Rattle.dd_play.specs.Play.{legal, after}
use Rattle.dd_play.specs.Simulations.{IsLegal}
use Rattle.dd_play.proofs.CallerLemmas.{flag_of, legal-leads, own-card, board-hands}
use Rattle.dd_rank.specs.Depths.{all_cards}
use Rattle.dd_relative.specs.Relative.{IsRelative, led_by_north}
use Rattle.dd_relative.specs.Turned.{from_seat, from_leader}
use Rattle.dd_relative.proofs.Turned.{turned-gapped}
use Rattle.dd_relative.specs.Gapped.{stands, IsGapped}
use Rattle.dd_relative.specs.UnderWay.{under_way, IsUnderWay}
use Rattle.dd_relative.proofs.Gapped.{gapped-as}
use Rattle.std.proofs.lemmas.Bool.{and_from, or_left, or_right, or_cases, not-true, not_from_false, false_from_ne_true}
use Rattle.dd_rank.proofs.CallerLemmas.{in-all, all-in}

-- a start of a trick that North leads to, by its parts
start-is : (s : Board) → IsRelative s → board_of s.hands s.strain North [] ≡ s
start-is s r = ap₂ (λ f t. board_of s.hands s.strain f t) (sym r.leader) (sym r.start)

-- so many cards are on the trick
pub lie-number : (s : Board) (cards : List PlayingCard) (n k : ℕ) → IsRelative s → length cards ≡ 3 → n ≤ 3 → length (under_way s (take n cards)).trick ≡ k → n ≡ k
lie-number s (x ∷ y ∷ z ∷ []) zero k r three most e = sym (ap length r.start) ∙ e
lie-number s (x ∷ y ∷ z ∷ []) (suc zero) k r three most e = e
lie-number s (x ∷ y ∷ z ∷ []) (suc (suc zero)) k r three most e = e
lie-number s (x ∷ y ∷ z ∷ []) (suc (suc (suc zero))) k r three most e = e
lie-number s (x ∷ y ∷ z ∷ []) (suc (suc (suc (suc n)))) k r three most e = absurd (omega (arith, most))
lie-number s [] n k r three most e = absurd (omega (arith, three))
lie-number s (x ∷ []) n k r three most e = absurd (omega (arith, three))
lie-number s (x ∷ y ∷ []) n k r three most e = absurd (omega (arith, three))
lie-number s (x ∷ y ∷ z ∷ w ∷ rest) n k r three most e = absurd (omega (arith, three))

-- .. as many as were played
pub lies : (s : Board) (cards : List PlayingCard) (n : ℕ) → IsRelative s → length cards ≡ 3 → n ≤ 3 → length (under_way s (take n cards)).trick ≡ n
lies s cards n r three most = sym (lie-number s cards n (length (under_way s (take n cards)).trick) r three most refl)

-- ---- the hand to play
-- .. is as it was before the trick
pub hand-now : (s : Board) (cards : List PlayingCard) (n : ℕ) → IsRelative s → length cards ≡ 3 → n ≤ 3
    → cards_at s (seat_after North n) ≡ cards_at (under_way s (take n cards)) (mover (under_way s (take n cards)))
hand-now s (x ∷ y ∷ z ∷ []) zero r three most = ap (λ p. cards_at s (mover p)) (start-is s r)
hand-now s (x ∷ y ∷ z ∷ []) (suc zero) r three most = refl
hand-now s (x ∷ y ∷ z ∷ []) (suc (suc zero)) r three most = refl
hand-now s (x ∷ y ∷ z ∷ []) (suc (suc (suc zero))) r three most = refl
hand-now s (x ∷ y ∷ z ∷ []) (suc (suc (suc (suc n)))) r three most = absurd (omega (arith, most))
hand-now s [] n r three most = absurd (omega (arith, three))
hand-now s (x ∷ []) n r three most = absurd (omega (arith, three))
hand-now s (x ∷ y ∷ []) n r three most = absurd (omega (arith, three))
hand-now s (x ∷ y ∷ z ∷ w ∷ rest) n r three most = absurd (omega (arith, three))

-- the others follow suit if they can
pub legal-follow : (s : Board) (cards : List PlayingCard) (n : ℕ) (hand : List PlayingCard) (led : PlayingCard) → length cards ≡ 3 → 1 ≤ n → n ≤ 3 → led ≡ slice_index_or cards 0 led
    → hand ≡ cards_at (under_way s (take n cards)) (mover (under_way s (take n cards))) → or_else (filter (is_of led.suit) hand) hand ≡ legal (under_way s (take n cards))
legal-follow s (x ∷ y ∷ z ∷ []) zero hand led three least most el eh = absurd (omega (arith, least))
legal-follow s (x ∷ y ∷ z ∷ []) (suc zero) hand led three least most el eh = ap₂ (λ (a : PlayingCard) h. or_else (filter (is_of a.suit) h) h) el eh
legal-follow s (x ∷ y ∷ z ∷ []) (suc (suc zero)) hand led three least most el eh = ap₂ (λ (a : PlayingCard) h. or_else (filter (is_of a.suit) h) h) el eh
legal-follow s (x ∷ y ∷ z ∷ []) (suc (suc (suc zero))) hand led three least most el eh = ap₂ (λ (a : PlayingCard) h. or_else (filter (is_of a.suit) h) h) el eh
legal-follow s (x ∷ y ∷ z ∷ []) (suc (suc (suc (suc n)))) hand led three least most el eh = absurd (omega (arith, most))
legal-follow s [] n hand led three least most el eh = absurd (omega (arith, three))
legal-follow s (x ∷ []) n hand led three least most el eh = absurd (omega (arith, three))
legal-follow s (x ∷ y ∷ []) n hand led three least most el eh = absurd (omega (arith, three))
legal-follow s (x ∷ y ∷ z ∷ w ∷ rest) n hand led three least most el eh = absurd (omega (arith, three))

-- ---- one card more
-- what a card that is played leads to
pub record IsNext (s : Board) (cards : List PlayingCard) (n : ℕ) (c : PlayingCard) : Type 0 where
  pub board_is : under_way s (take (n + 1) (slice_set cards n c)) ≡ after (under_way s (take n cards)) c
  pub under : IsUnderWay s (take (n + 1) (slice_set cards n c))

next-from : (h : FourHands) (strain : Strain) (cards : List PlayingCard) (n : ℕ) (c : PlayingCard) → length cards ≡ 3 → n < 3 → IsUnderWay (board_of h strain North []) (take n cards)
    → IsLegal (under_way (board_of h strain North []) (take n cards)) c → IsNext (board_of h strain North []) cards n c
next-from h strain (x ∷ y ∷ z ∷ []) zero c three few u has = record {
  board_is = refl;
  under = record { board = (legal-leads (board_of h strain North []) c u.board has).valid; own = own-card (board_of h strain North []) c has };
}
next-from h strain (x ∷ y ∷ z ∷ []) (suc zero) c three few u has = record {
  board_is = refl;
  under = record {
    board = (legal-leads (under_way (board_of h strain North []) (x ∷ [])) c u.board has).valid;
    own = (u.own, own-card (under_way (board_of h strain North []) (x ∷ [])) c has);
  };
}
next-from h strain (x ∷ y ∷ z ∷ []) (suc (suc zero)) c three few u has = record {
  board_is = refl;
  under = record {
    board = (legal-leads (under_way (board_of h strain North []) (x ∷ y ∷ [])) c u.board has).valid;
    own = (u.own.0, u.own.1, own-card (under_way (board_of h strain North []) (x ∷ y ∷ [])) c has);
  };
}
next-from h strain (x ∷ y ∷ z ∷ []) (suc (suc (suc n))) c three few u has = absurd (omega (arith, few))
next-from h strain [] n c three few u has = absurd (omega (arith, three))
next-from h strain (x ∷ []) n c three few u has = absurd (omega (arith, three))
next-from h strain (x ∷ y ∷ []) n c three few u has = absurd (omega (arith, three))
next-from h strain (x ∷ y ∷ z ∷ w ∷ rest) n c three few u has = absurd (omega (arith, three))

pub next-card : (s : Board) (cards : List PlayingCard) (n : ℕ) (c : PlayingCard) → IsRelative s → length cards ≡ 3 → n < 3 → IsUnderWay s (take n cards) → IsLegal (under_way s (take n cards)) c → IsNext s cards n c
next-card s cards n c r three few =
    subst (λ (p : Board). IsUnderWay p (take n cards) → IsLegal (under_way p (take n cards)) c → IsNext p cards n c) (start-is s r) (next-from s.hands s.strain cards n c three few)

-- ---- the card that completes the trick
module _ (s : Board) (x y z d : PlayingCard) (relative : IsRelative s) (under : IsUnderWay s (x ∷ y ∷ z ∷ [])) (has : IsLegal (under_way s (x ∷ y ∷ z ∷ [])) d) where
  -- the card that each seat played
  pub played : Seat → PlayingCard
  played North = x
  played East = y
  played South = z
  played West = d

  -- .. was its own
  played-own : (a : Seat) → has_card (cards_at s a) (played a) ≡ true
  unfolding played
  played-own North = under.own.0
  played-own East = under.own.1
  played-own South = under.own.2
  played-own West = own-card (under_way s (x ∷ y ∷ z ∷ [])) d has

  -- .. and has left the hand
  pub left-at : (a : Seat) → cards_at (after (under_way s (x ∷ y ∷ z ∷ [])) d) a ≡ without (cards_at s a) (played a)
  unfolding played
  left-at North = refl
  left-at East = refl
  left-at South = refl
  left-at West = refl

  gaps-set : IsSet (with_card (with_card (with_card (with_card [] x) y) z) d)
  gaps-set = IsSet-with_card (with_card (with_card (with_card [] x) y) z) d

  gaps-have : (c : PlayingCard) → IsRank c.rank → has_card (with_card (with_card (with_card (with_card [] x) y) z) d) c ≡ (same_card c d || (same_card c z || (same_card c y || (same_card c x || false))))
  gaps-have c real =
      has_card-with_card (with_card (with_card (with_card [] x) y) z) d c real
      ∙ ap (λ b. same_card c d || b) (has_card-with_card (with_card (with_card [] x) y) z c real
      ∙ ap (λ b. same_card c z || b) (has_card-with_card (with_card [] x) y c real
      ∙ ap (λ b. same_card c y || b) (has_card-with_card [] x c real)))

  gap-of : (c : PlayingCard) → has_card (with_card (with_card (with_card (with_card [] x) y) z) d) c ≡ true → (a : Seat) × (c ≡ played a)
  unfolding played
  gap-of c h =
      let real = real-set (with_card (with_card (with_card (with_card [] x) y) z) d) c gaps-set h in
      elim (or_cases _ _ (sym (gaps-have c real) ∙ h)) [
        | inl e ↦ (West, same_card-eq c d e)
        | inr rest ↦ elim (or_cases _ _ rest) [
          | inl e ↦ (South, same_card-eq c z e)
          | inr rest' ↦ elim (or_cases _ _ rest') [
            | inl e ↦ (East, same_card-eq c y e)
            | inr rest'' ↦ elim (or_cases _ _ rest'') [ inl e ↦ (North, same_card-eq c x e) | inr none ↦ absurd (cc) ]
          ]
        ]
      ]

  of-gap : (c : PlayingCard) (a : Seat) → IsRank c.rank → same_card c (played a) ≡ true → has_card (with_card (with_card (with_card (with_card [] x) y) z) d) c ≡ true
  unfolding played
  of-gap c West real e = gaps-have c real ∙ or_left (same_card c d) _ e
  of-gap c South real e = gaps-have c real ∙ or_right (same_card c d) _ (or_left (same_card c z) _ e)
  of-gap c East real e = gaps-have c real ∙ or_right (same_card c d) _ (or_right (same_card c z) _ (or_left (same_card c y) _ e))
  of-gap c North real e = gaps-have c real ∙ or_right (same_card c d) _ (or_right (same_card c z) _ (or_right (same_card c y) _ (or_left (same_card c x) false e)))

  -- a card that is left was there
  was : (a : Seat) (c : PlayingCard) → has_card (cards_at (after (under_way s (x ∷ y ∷ z ∷ [])) d) a) c ≡ true → (has_card (cards_at s a) c ≡ true) × (same_card c (played a) ≡ false)
  was a c h =
      let k : (not (same_card c (played a)) && has_card (cards_at s a) c) ≡ true = sym (has_card-without (cards_at s a) (played a) c) ∙ ap (λ cards. has_card cards c) (sym (left-at a)) ∙ h in
      (and-right _ _ k, not-true _ (and-left _ _ k))

  -- and each but the one that was played is left
  is-left : (a : Seat) (c : PlayingCard) → has_card (cards_at s a) c ≡ true → same_card c (played a) ≡ false → has_card (cards_at (after (under_way s (x ∷ y ∷ z ∷ [])) d) a) c ≡ true
  is-left a c h other =
      ap (λ cards. has_card cards c) (left-at a) ∙ has_card-without (cards_at s a) (played a) c ∙ and_from _ _ (not_from_false _ other) h

  -- what stands was there before the trick
  stood : (c : PlayingCard) → stands (after (under_way s (x ∷ y ∷ z ∷ [])) d) (with_card (with_card (with_card (with_card [] x) y) z) d) c ≡ true → has_card (all_cards s) c ≡ true
  stood c h = elim (or_cases _ _ h) [
    | inl card ↦ (let a = all-in (after (under_way s (x ∷ y ∷ z ∷ [])) d) c card in in-all s a.0 c (was a.0 c a.1).0)
    | inr gap ↦ (let a = gap-of c gap in in-all s a.0 c (ap (has_card (cards_at s a.0)) a.1 ∙ played-own a.0))
  ]

  stands-now : (c : PlayingCard) (a : Seat) (b : Bool) → same_card c (played a) ≡ b → has_card (cards_at s a) c ≡ true
      → stands (after (under_way s (x ∷ y ∷ z ∷ [])) d) (with_card (with_card (with_card (with_card [] x) y) z) d) c ≡ true
  stands-now c a true e h = or_right _ _ (of-gap c a (real-set (cards_at s a) c (relative.board.sets a) h) e)
  stands-now c a false e h = or_left _ _ (in-all (after (under_way s (x ∷ y ∷ z ∷ [])) d) a c (is-left a c h e))

  -- the cards of the trick are gaps
  pub trick-gapped : IsGapped (after (under_way s (x ∷ y ∷ z ∷ [])) d) (with_card (with_card (with_card (with_card [] x) y) z) d)
  trick-gapped = record {
    board = (legal-leads (under_way s (x ∷ y ∷ z ∷ [])) d under.board has).valid;
    start = refl;
    once = λ c. times-set (with_card (with_card (with_card (with_card [] x) y) z) d) c gaps-set;
    real = λ c h. real-set (with_card (with_card (with_card (with_card [] x) y) z) d) c gaps-set h;
    apart = λ c h. false_from_ne_true _ (λ k.
        let a = gap-of c h in
        let b = all-in (after (under_way s (x ∷ y ∷ z ∷ [])) d) c k in
        let w = was b.0 c b.1 in
        let same : a.0 ≡ b.0 = (board-hands s relative.board).disjoint c a.0 b.0 (ap (has_card (cards_at s a.0)) a.1 ∙ played-own a.0) w.0 in
        let here : c ≡ played b.0 = a.1 ∙ ap played same in
        let yes : same_card c (played b.0) ≡ true = ap (same_card c) (sym here) ∙ same_card-self c in
        let no : true ≡ false = sym yes ∙ w.1 in cc);
    closed = λ c e h suits less most. (
        let all = relative.closed c e (stood c h) suits less most in
        let a = all-in s e all in
        stands-now e a.0 (same_card e (played a.0)) refl a.1);
  }

  -- .. one by one
  gap-there : (a : Seat) → has_card (with_card (with_card (with_card (with_card [] x) y) z) d) (played a) ≡ true
  gap-there a = of-gap (played a) a (real-set (cards_at s a) (played a) (relative.board.sets a) (played-own a)) (same_card-self (played a))

  list-there : (a : Seat) → has_card (x ∷ y ∷ z ∷ d ∷ []) (played a) ≡ true
  unfolding played
  list-there North = or_left (same_card x x) (same_card y x || (same_card z x || (same_card d x || false))) (same_card-self x)
  list-there East = or_right (same_card x y) _ (or_left (same_card y y) (same_card z y || (same_card d y || false)) (same_card-self y))
  list-there South = or_right (same_card x z) _ (or_right (same_card y z) _ (or_left (same_card z z) (same_card d z || false) (same_card-self z)))
  list-there West = or_right (same_card x d) _ (or_right (same_card y d) _ (or_right (same_card z d) _ (or_left (same_card d d) false (same_card-self d))))

  list-of : (c : PlayingCard) → has_card (x ∷ y ∷ z ∷ d ∷ []) c ≡ true → (a : Seat) × (c ≡ played a)
  unfolding played
  list-of c h = elim (or_cases (same_card x c) _ h) [
    | inl e ↦ (North, sym (same_card-eq x c e))
    | inr h ↦ elim (or_cases (same_card y c) _ h) [
      | inl e ↦ (East, sym (same_card-eq y c e))
      | inr h ↦ elim (or_cases (same_card z c) _ h) [
        | inl e ↦ (South, sym (same_card-eq z c e))
        | inr h ↦ elim (or_cases (same_card d c) _ h) [ inl e ↦ (West, sym (same_card-eq d c e)) | inr none ↦ absurd (cc) ]
      ]
    ]
  ]

  pub list-same : (c : PlayingCard) → has_card (x ∷ y ∷ z ∷ d ∷ []) c ≡ has_card (with_card (with_card (with_card (with_card [] x) y) z) d) c
  list-same c =
      both-ways _ _
      (λ h. let a = list-of c h in ap (has_card (with_card (with_card (with_card (with_card [] x) y) z) d)) a.1 ∙ gap-there a.0)
      (λ h. let a = gap-of c h in ap (has_card (x ∷ y ∷ z ∷ d ∷ [])) a.1 ∙ list-there a.0)

  -- each was in a hand, and in one alone
  own-times : (a : Seat) (c : PlayingCard) → flag_of (same_card (played a) c) ≤ times (cards_at s a) c
  own-times a c = go (same_card (played a) c) refl
    where
      go : (b : Bool) → same_card (played a) c ≡ b → flag_of b ≤ times (cards_at s a) c
      go true e = times-has (cards_at s a) c (ap (has_card (cards_at s a)) (sym (same_card-eq (played a) c e)) ∙ played-own a)
      go false e = omega arith

  pub list-once : (c : PlayingCard) → times (x ∷ y ∷ z ∷ d ∷ []) c ≤ 1
  unfolding played
  list-once c =
      let n : flag_of (same_card x c) ≤ times (cards_at s North) c = own-times North c in
      let e : flag_of (same_card y c) ≤ times (cards_at s East) c = own-times East c in
      let t : flag_of (same_card z c) ≤ times (cards_at s South) c = own-times South c in
      let w : flag_of (same_card d c) ≤ times (cards_at s West) c = own-times West c in
      let once : (times (cards_at s North) c + times (cards_at s East) c + times (cards_at s South) c + times (cards_at s West) c) + times s.trick c ≤ 1 = relative.board.once c in
      let f1 : times (x ∷ y ∷ z ∷ d ∷ []) c ≡ flag_of (same_card x c) + times (y ∷ z ∷ d ∷ []) c = times-cons x (y ∷ z ∷ d ∷ []) c in
      let f2 : times (y ∷ z ∷ d ∷ []) c ≡ flag_of (same_card y c) + times (z ∷ d ∷ []) c = times-cons y (z ∷ d ∷ []) c in
      let f3 : times (z ∷ d ∷ []) c ≡ flag_of (same_card z c) + times (d ∷ []) c = times-cons z (d ∷ []) c in
      let f4 : times (d ∷ []) c ≡ flag_of (same_card d c) + times [] c = times-cons d [] c in
      let f5 : times [] c ≡ 0 = refl in
      omega (arith, n, e, t, w, once, f1, f2, f3, f4, f5)

  pub trick-open : IsGapped (after (under_way s (x ∷ y ∷ z ∷ [])) d) (x ∷ y ∷ z ∷ d ∷ [])
  trick-open = gapped-as (after (under_way s (x ∷ y ∷ z ∷ [])) d) _ (x ∷ y ∷ z ∷ d ∷ []) list-same list-once trick-gapped

-- three cards, as they are read one by one
pub three-are : (cards : List PlayingCard) (n : ℕ) (a b c : PlayingCard) → length cards ≡ 3 → n ≡ 3 → take n cards ≡ slice_index_or cards 0 a ∷ slice_index_or cards 1 b ∷ slice_index_or cards 2 c ∷ []
three-are cards n a b c three full = ap (λ k. take k cards) full ∙ go cards three
  where
    go : (cards : List PlayingCard) → length cards ≡ 3 → take 3 cards ≡ slice_index_or cards 0 a ∷ slice_index_or cards 1 b ∷ slice_index_or cards 2 c ∷ []
    go (x ∷ y ∷ z ∷ []) e = refl
    go [] e = absurd (omega (arith, e))
    go (x ∷ []) e = absurd (omega (arith, e))
    go (x ∷ y ∷ []) e = absurd (omega (arith, e))
    go (x ∷ y ∷ z ∷ w ∷ rest) e = absurd (omega (arith, e))

-- the hands, the winner and the gaps when a card completes the trick
pub record IsFinish (p : Board) (d : PlayingCard) (l s t f gaps : List PlayingCard) (strain : Strain) (seat : Seat) : Type 0 where
  pub gapped : IsGapped (led_by_north l s t f strain) gaps
  pub same : led_by_north l s t f strain ≡ from_leader (after p d)
  pub start : (after p d).trick ≡ []
  pub winner : seat ≡ (after p d).first

pub finish-from : (b : Board) (x y z d : PlayingCard) (l s t f gaps : List PlayingCard) (strain : Strain) (seat : Seat) → IsRelative b → IsUnderWay b (x ∷ y ∷ z ∷ []) → IsLegal (under_way b (x ∷ y ∷ z ∷ [])) d
    → dealt l s t f ≡ from_seat (dealt (without b.hands.north x) (without b.hands.east y) (without b.hands.south z) (without b.hands.west d)) seat → strain ≡ b.strain → seat ≡ winner_of (x ∷ y ∷ z ∷ d ∷ []) North strain
    → gaps ≡ x ∷ y ∷ z ∷ d ∷ [] → IsFinish (under_way b (x ∷ y ∷ z ∷ [])) d l s t f gaps strain seat
finish-from b x y z d l s t f gaps strain seat relative under has hands same_strain won are =
    let first : seat ≡ winner_of (x ∷ y ∷ z ∷ d ∷ []) North b.strain = won ∙ ap (winner_of (x ∷ y ∷ z ∷ d ∷ []) North) same_strain in
    let same : led_by_north l s t f strain ≡ from_leader (after (under_way b (x ∷ y ∷ z ∷ [])) d) =
    ap₂ (λ h n. board_of h n North [])
    (hands ∙ ap (from_seat (dealt (without b.hands.north x) (without b.hands.east y) (without b.hands.south z) (without b.hands.west d))) first) same_strain in
    record {
      gapped = subst (λ (g : List PlayingCard). IsGapped (led_by_north l s t f strain) g) (sym are)
          (subst (λ (q : Board). IsGapped q (x ∷ y ∷ z ∷ d ∷ [])) (sym same) (turned-gapped (after (under_way b (x ∷ y ∷ z ∷ [])) d) _ (trick-open b x y z d relative under has)));
      same = same;
      start = refl;
      winner = first;
    }

pub finish : (b p : Board) (cards : List PlayingCard) (n : ℕ) (x y z d : PlayingCard) (l s t f gaps : List PlayingCard) (strain : Strain) (seat : Seat) → IsRelative b → length cards ≡ 3 → n ≤ 3 → IsUnderWay b (take n cards)
    → under_way b (take n cards) ≡ p → length p.trick ≡ 3 → IsLegal p d
    → dealt l s t f ≡ from_seat (dealt (without b.hands.north (slice_index_or cards 0 x)) (without b.hands.east (slice_index_or cards 1 y)) (without b.hands.south (slice_index_or cards 2 z)) (without b.hands.west d)) seat → strain ≡ b.strain
    → seat ≡ winner_of (slice_index_or cards 0 x ∷ slice_index_or cards 1 y ∷ slice_index_or cards 2 z ∷ d ∷ []) North strain
    → gaps ≡ slice_index_or cards 0 x ∷ slice_index_or cards 1 y ∷ slice_index_or cards 2 z ∷ d ∷ [] → IsFinish p d l s t f gaps strain seat
finish b p cards n x y z d l s t f gaps strain seat relative three most under view full has hands same_strain won are =
    let number : n ≡ 3 = lie-number b cards n 3 relative three most (ap (λ (q : Board). length q.trick) view ∙ full) in
    let list : take n cards ≡ slice_index_or cards 0 x ∷ slice_index_or cards 1 y ∷ slice_index_or cards 2 z ∷ [] = three-are cards n x y z three number in
    let here : under_way b (slice_index_or cards 0 x ∷ slice_index_or cards 1 y ∷ slice_index_or cards 2 z ∷ []) ≡ p = ap (under_way b) (sym list) ∙ view in
    subst (λ (q : Board). IsFinish q d l s t f gaps strain seat) here
    (finish-from b (slice_index_or cards 0 x) (slice_index_or cards 1 y) (slice_index_or cards 2 z) d l s t f gaps strain seat relative (subst (IsUnderWay b) list under)
    (subst (λ (q : Board). IsLegal q d) (sym here) has) hands same_strain won are)

-- the hand to play, as code takes it
pub hand-at : (s p : Board) (cards hand : List PlayingCard) (n k : ℕ) → IsRelative s → length cards ≡ 3 → n ≤ 3 → under_way s (take n cards) ≡ p → length p.trick ≡ k → hand ≡ cards_at s (seat_after North k) → hand ≡ cards_at p (mover p)
hand-at s p cards hand n k relative three most view number is =
    is ∙ ap (λ i. cards_at s (seat_after North i)) (sym (lie-number s cards n k relative three most (ap (λ (q : Board). length q.trick) view ∙ number)))
    ∙ hand-now s cards n relative three most ∙ ap (λ q. cards_at q (mover q)) view

-- what of it may be played to a trick that was led to
pub follow-at : (s p : Board) (cards hand : List PlayingCard) (n k : ℕ) (x : PlayingCard) → IsRelative s → length cards ≡ 3 → n ≤ 3 → under_way s (take n cards) ≡ p → length p.trick ≡ k → k ≢ 0 → hand ≡ cards_at p (mover p)
    → or_else (filter (is_of (slice_index_or cards 0 x).suit) hand) hand ≡ legal p
follow-at s p cards hand n k x relative three most view number some is =
    let same : n ≡ k = lie-number s cards n k relative three most (ap (λ (q : Board). length q.trick) view ∙ number) in
    subst (λ (q : Board). hand ≡ cards_at q (mover q) → or_else (filter (is_of (slice_index_or cards 0 x).suit) hand) hand ≡ legal q) view
    (λ e. legal-follow s cards n hand (slice_index_or cards 0 x) three (omega (arith, same, some)) most (first cards three) e) is
  where
    first : (cards : List PlayingCard) → length cards ≡ 3 → slice_index_or cards 0 x ≡ slice_index_or cards 0 (slice_index_or cards 0 x)
    first (a ∷ cards) e = refl
    first [] e = absurd (omega (arith, e))

-- .. where it is the last one
pub hand-last : (s p : Board) (cards hand : List PlayingCard) (n k : ℕ) → IsRelative s → length cards ≡ 3 → n ≤ 3 → under_way s (take n cards) ≡ p → length p.trick ≡ k → k ≢ 0 → k ≢ 1 → k ≢ 2
    → hand ≡ cards_at s West → hand ≡ cards_at p (mover p)
hand-last s p cards hand n k relative three most view number a b c is =
    let same : n ≡ k = lie-number s cards n k relative three most (ap (λ (q : Board). length q.trick) view ∙ number) in
    let last : k ≡ 3 = omega (arith, same, most, a, b, c) in
    hand-at s p cards hand n k relative three most view number (is ∙ ap (λ i. cards_at s (seat_after North i)) (sym last))

-- what a card put on the trick makes of it, as code does it
pub record IsPlayed (t : Board) (made : List PlayingCard) (k : ℕ) (p : Board) (c : PlayingCard) : Type 0 where
  pub most : k + 1 ≤ 3
  pub three : length made ≡ 3
  pub under : IsUnderWay t (take (k + 1) made)
  pub next : under_way t (take (k + 1) made) ≡ after p c
  pub longer : length (under_way t (take (k + 1) made)).trick ≡ k + 1

pub played-on : (s t p : Board) (cards made : List PlayingCard) (n k : ℕ) (c : PlayingCard) → IsRelative s → t ≡ s → length cards ≡ 3 → n ≤ 3 → IsUnderWay s (take n cards) → under_way s (take n cards) ≡ p → length p.trick ≡ k → k < 3
    → IsLegal p c → made ≡ slice_set cards k c → IsPlayed t made k p c
played-on s t p cards made n k c relative same three most under view number few has set =
    let at : n ≡ k = lie-number s cards n k relative three most (ap (λ (q : Board). length q.trick) view ∙ number) in
    let under_k : IsUnderWay s (take k cards) = subst (λ i. IsUnderWay s (take i cards)) at under in
    let view_k : under_way s (take k cards) ≡ p = ap (λ i. under_way s (take i cards)) (sym at) ∙ view in
    let next = next-card s cards k c relative three few under_k (subst (λ (q : Board). IsLegal q c) (sym view_k) has) in
    let long : length (slice_set cards k c) ≡ 3 = length-set cards k c ∙ three in
    let base : IsPlayed s (slice_set cards k c) k p c = record {
      most = omega (arith, few);
      three = long;
      under = next.under;
      next = next.board_is ∙ ap (λ q. after q c) view_k;
      longer = lies s (slice_set cards k c) (k + 1) relative long (omega (arith, few));
    } in
    subst (λ (m : List PlayingCard). IsPlayed t m k p c) (sym set) (subst (λ (b : Board). IsPlayed b (slice_set cards k c) k p c) (sym same) base)

-- ---- hands after a trick

-- a hand without the card that was played from it
pub hand-left : (cards taken left : List PlayingCard) (c : PlayingCard) → left ≡ without taken c → taken ≡ cards → left ≡ without cards c
hand-left cards taken left c e f = e ∙ ap (λ l. without l c) f

-- four hands that are these
pub same-dealt : (a b c d l s t f : List PlayingCard) → a ≡ l → b ≡ s → c ≡ t → d ≡ f → dealt a b c d ≡ dealt l s t f
same-dealt a b c d l s t f ea eb ec ed = rw (ea, eb, ec, ed) refl
