-- from what the code counts to the claim that an opponent keeps its winners
use Rattle.std.proofs.Common.{◌≡◌, ◌≢◌, ℕ, ◌+◌, ◌-◌, ◌<◌, ◌≤◌, Bool, true, false, refl, sym, ap, ◌∙◌, subst, arith, List, [], length, inl, inr, max, min, zero-le}
use Rattle.std.specs.Prelude.{filter, map, nat_le, nat_lt, ◌&&◌, ◌⊎◌, if◌then◌else◌}
use mathlib.Core.Path.{ap₂}
use Rattle.std.proofs.lemmas.Bool.{cases_lt, leb-true, lt-ltb, ltb-true}
use Rattle.std.proofs.lemmas.Bool.Decides.{nat_tests}
use Rattle.dd_cards.specs.declared.seat.Seat.{Seat}
use Rattle.dd_cards.specs.declared.seat.Seat.TheVariants.{North, East, South, West}
use Rattle.dd_cards.specs.declared.suit.Suit.{Suit}
use Rattle.dd_cards.specs.declared.suit.Suit.TheVariants.{Spades, Hearts, Diamonds, Clubs}
use Rattle.dd_cards.specs.PlayingCard.{PlayingCard}
use Rattle.dd_cards.specs.Cards.{is_of, card_of, has_card}
use Rattle.dd_cards.specs.Seats.{seat_code, seat_after}
use Rattle.dd_cards.specs.Sides.{side_of, other_side, is_side}
use Rattle.dd_cards.proofs.CallerLemmas.{and-left, and-right, is-other, same-other, seat_code-lt}
use Rattle.dd_play.specs.Board.{Board, IsBoard, cards_at, tricks_left}
use Rattle.dd_play.specs.Covers.{count_of}
use Rattle.dd_play.specs.Reach.{TakesBy, reach}
use Rattle.dd_play.specs.Won.{won}
use Rattle.dd_play.proofs.CallerLemmas.{after-code, count, count-has, count-some, once-in, reach-within, suit-of}
use Rattle.dd_quick.specs.QuickTricks.{RestsOnRun, first_kept, free_rounds, is_winner, kept_winners, length_at, longer, no_trumps, of_all, run}
use Rattle.dd_quick.specs.SecondHand.{Opposes}
use Rattle.dd_quick.proofs.Across.{plain-covered}
use Rattle.dd_quick.proofs.AcrossClaims.{no-trumps-at}
use Rattle.dd_quick.proofs.Cashing.{by-suits, total}
use Rattle.dd_quick.proofs.Chosen.{Chosen, choose}
use Rattle.dd_quick.proofs.Covered.{left-same, length-same, run-covered, seat-same}
use Rattle.dd_quick.proofs.Crossings.{NoTrumps, chosen-many}
use Rattle.dd_quick.proofs.Hands.{IsOpposed, no-higher}
use Rattle.dd_quick.proofs.KeptWinners.{CanKeep, kept-taken, rounds_of}
use Rattle.dd_quick.proofs.Reached.{length-of, reached-of}
use Rattle.dd_quick.proofs.TakenTrick.{one-three}
use Rattle.dd_rank.proofs.CallerLemmas.{count-le, no-trick}

-- the side of an opponent is the other one
pub opponents-are : (q : Board) (i : ℕ) → IsOpposed i → side_of (seat_after q.first i) ≡ other_side (side_of q.first)
opponents-are q i opposed = elim opposed [ inl e ↦ ap (λ j. side_of (seat_after q.first j)) e ∙ one q.first | inr e ↦ ap (λ j. side_of (seat_after q.first j)) e ∙ three q.first ]
  where
    one : (f : Seat) → side_of (seat_after f 1) ≡ other_side (side_of f)
    one North = refl
    one East = refl
    one South = refl
    one West = refl

    three : (f : Seat) → side_of (seat_after f 3) ≡ other_side (side_of f)
    three North = refl
    three East = refl
    three South = refl
    three West = refl

-- ---- any numbers of winners

-- an opponent of the leader, i places after it, keeps k of its winners in each suit
module _ (q : Board) (i : ℕ) (k : Suit → ℕ) (valid : IsBoard q) (start : q.trick ≡ []) (none : NoTrumps q) (opposed : IsOpposed i) (has : (u : Suit) → k u ≤ run q (seat_after q.first i) u) where
  abbrev h : Seat
  h = seat_after q.first i

  chosen : (u : Suit) → Chosen (λ c. is_of u c && is_winner q h c) (cards_at q h) (k u)
  chosen u = choose (λ c. is_of u c && is_winner q h c) (cards_at q h) (k u) (once-in q valid h) (has u)

  -- those that are kept, and the suits in which some are
  abbrev guard : PlayingCard → Bool
  guard c = (chosen c.suit).kept c

  abbrev headed : Suit → Bool
  headed u = nat_lt 0 (k u)

  -- there are as many
  many : count guard (cards_at q h) ≡ total k
  many =
      let all = by-suits guard (cards_at q h) in
      let s = chosen-many (cards_at q h) (λ u. is_winner q h) k chosen Spades in
      let e = chosen-many (cards_at q h) (λ u. is_winner q h) k chosen Hearts in
      let d = chosen-many (cards_at q h) (λ u. is_winner q h) k chosen Diamonds in
      let c = chosen-many (cards_at q h) (λ u. is_winner q h) k chosen Clubs in
      omega (arith, all, s, e, d, c)

  holds : CanKeep q h guard headed
  holds = record {
    valid = valid;
    plain = none;
    own = λ c g. ((chosen c.suit).within c g).0;
    masters = λ y c d g away own suit. no-higher q valid h y c d away (and-right (is_of c.suit c) (is_winner q h c) ((chosen c.suit).within c g).1) ((chosen c.suit).within c g).0 own suit;
    holder = λ u e. (
        let c = count-some (chosen u).kept (cards_at q h) (let n = (chosen u).many in let l = ltb-true 0 (k u) e in omega (arith, n, l)) in
        let suit : u ≡ c.0.suit = sym (suit-of u c.0 (and-left (is_of u c.0) (is_winner q h c.0) ((chosen u).within c.0 c.2).1)) in
        (c.0, subst (λ v. (chosen v).kept c.0 ≡ true) suit c.2, suit));
    suits = λ c g. (
        let one = count-has (chosen c.suit).kept (cards_at q h) c ((chosen c.suit).within c g).0 g in
        let n = (chosen c.suit).many in
        lt-ltb 0 (k c.suit) (omega (arith, one, n)));
  }

  -- the rounds of a suit in which it keeps none
  rounds-are : (u : Suit) → rounds_of (seat_after h 1) headed q u ≡ (if nat_lt 0 (k u) then 0 else max (length_at q q.first u) (length_at q (seat_after q.first 2) u))
  rounds-are u = ap (λ n. if nat_lt 0 (k u) then 0 else n) (by opposed)
    where
      two-on : (f : Seat) → seat_after (seat_after f 1) 1 ≡ seat_after f 2
      two-on North = refl
      two-on East = refl
      two-on South = refl
      two-on West = refl

      back-two : (f : Seat) → seat_after (seat_after (seat_after f 1) 1) 2 ≡ f
      back-two North = refl
      back-two East = refl
      back-two South = refl
      back-two West = refl

      three-two : (f : Seat) → seat_after (seat_after (seat_after f 3) 1) 2 ≡ seat_after f 2
      three-two f = ap (λ x. seat_after x 2) (one-three f)

      by : IsOpposed i → max (count_of u (cards_at q (seat_after h 1))) (count_of u (cards_at q (seat_after (seat_after h 1) 2))) ≡ max (length_at q q.first u) (length_at q (seat_after q.first 2) u)
      by (inl e) =
          let a : count_of u (cards_at q (seat_after h 1)) ≡ length_at q (seat_after q.first 2) u = ap (λ x. length_at q x u) (ap (λ j. seat_after (seat_after q.first j) 1) e ∙ two-on q.first) in
          let b : count_of u (cards_at q (seat_after (seat_after h 1) 2)) ≡ length_at q q.first u = ap (λ x. length_at q x u) (ap (λ j. seat_after (seat_after (seat_after q.first j) 1) 2) e ∙ back-two q.first) in
          omega (arith, a, b)
      by (inr e) =
          let a : count_of u (cards_at q (seat_after h 1)) ≡ length_at q q.first u = ap (λ x. length_at q x u) (ap (λ j. seat_after (seat_after q.first j) 1) e ∙ one-three q.first) in
          let b : count_of u (cards_at q (seat_after (seat_after h 1) 2)) ≡ length_at q (seat_after q.first 2) u = ap (λ x. length_at q x u) (ap (λ j. seat_after (seat_after (seat_after q.first j) 1) 2) e ∙ three-two q.first) in
          omega (arith, a, b)

  -- so its side takes as many tricks
  numbers-taken : total (rounds_of (seat_after h 1) headed q) + total k ≤ tricks_left q → total k ≤ won (other_side (side_of q.first)) q
  numbers-taken room =
      let m = many in
      let away : seat_code q.first ≢ seat_code h = (let a = after-code q.first i in let b = seat_code-lt q.first in elim opposed [ inl e ↦ (λ z. omega (arith, a, b, e, z)) | inr e ↦ (λ z. omega (arith, a, b, e, z)) ]) in
      let taken : count guard (cards_at q h) ≤ won (other_side (side_of q.first)) q = subst (λ s. count guard (cards_at q h) ≤ won s q) (opponents-are q i opposed) (kept-taken q h guard headed holds start away (omega (arith, room, m))) in
      omega (arith, taken, m)

-- ---- what is counted

-- the parts of what is counted
record IsKept (p : Board) (seat : Seat) (need : ℕ) : Type 0 where
  plain : no_trumps p ≡ true
  first : of_all (first_kept p seat) + of_all (free_rounds p seat) ≤ tricks_left p
  winners : need ≤ of_all (run p seat)
  room : need + of_all (free_rounds p seat) ≤ tricks_left p

parts : (p : Board) (seat : Seat) (need : ℕ) → 1 ≤ need → need ≤ kept_winners p seat → IsKept p seat need
unfolding kept_winners
parts p seat need some few = go (no_trumps p) (nat_le (of_all (first_kept p seat) + of_all (free_rounds p seat)) (tricks_left p)) refl refl few
  where
    go : (a b : Bool) → no_trumps p ≡ a → nat_le (of_all (first_kept p seat) + of_all (free_rounds p seat)) (tricks_left p) ≡ b → need ≤ (if a && b then min (of_all (run p seat)) (tricks_left p - of_all (free_rounds p seat)) else 0) → IsKept p seat need
    go true true e f most = (let first = leb-true (of_all (first_kept p seat) + of_all (free_rounds p seat)) (tricks_left p) f in record { plain = e; first = first; winners = omega (arith, most); room = omega (arith, most, some) })
    go true false e f most = absurd (omega (arith, most, some))
    go false b e f most = absurd (omega (arith, most, some))

-- kept winners are no more than the tricks left
pub kept-left : (p : Board) (seat : Seat) → kept_winners p seat ≤ tricks_left p
kept-left p seat = elim (cases_lt 0 (kept_winners p seat)) [
  | inl l ↦ (let k = (parts p seat (kept_winners p seat) (omega (arith, l)) (omega arith)).room in omega (arith, k))
  | inr l ↦ omega (arith, l)
]

-- nor than its winners
pub kept-winners : (p : Board) (seat : Seat) → kept_winners p seat ≤ of_all (run p seat)
kept-winners p seat = elim (cases_lt 0 (kept_winners p seat)) [
  | inl l ↦ (let k = (parts p seat (kept_winners p seat) (omega (arith, l)) (omega arith)).winners in omega (arith, k))
  | inr l ↦ omega (arith, l)
]

-- and none where a hand has a trump
pub kept-none : (p : Board) (seat : Seat) → no_trumps p ≡ false → kept_winners p seat ≡ 0
kept-none p seat e = elim (cases_lt 0 (kept_winners p seat)) [
  | inl l ↦ absurd (let k : true ≡ false = sym (parts p seat (kept_winners p seat) (omega (arith, l)) (omega arith)).plain ∙ e in cc)
  | inr l ↦ omega (arith, l)
]

-- what the code counts
pub kept-is : (p : Board) (seat : Seat) (all first rounds : Suit → ℕ) (n : ℕ) → no_trumps p ≡ true → ((u : Suit) → all u ≡ run p seat u) → ((u : Suit) → first u ≡ first_kept p seat u) → ((u : Suit) → rounds u ≡ free_rounds p seat u)
    → ((of_all first + of_all rounds ≤ tricks_left p) × (n ≡ min (of_all all) (tricks_left p - of_all rounds))) ⊎ ((tricks_left p < of_all first + of_all rounds) × (n ≡ 0)) → n ≡ kept_winners p seat
unfolding kept_winners
kept-is p seat all first rounds n plain a f r counted =
    let sa = a Spades in let ha = a Hearts in let da = a Diamonds in let ca = a Clubs in
    let sf = f Spades in let hf = f Hearts in let df = f Diamonds in let cf = f Clubs in
    let sr = r Spades in let hr = r Hearts in let dr = r Diamonds in let cr = r Clubs in
    let all_is : of_all all ≡ of_all (run p seat) = omega (arith, sa, ha, da, ca) in
    let first_is : of_all first ≡ of_all (first_kept p seat) = omega (arith, sf, hf, df, cf) in
    let rounds_is : of_all rounds ≡ of_all (free_rounds p seat) = omega (arith, sr, hr, dr, cr) in
    elim counted [
      | inl yes_it ↦ yes_it.1 ∙ rw (plain, le (of_all (first_kept p seat) + of_all (free_rounds p seat)) (tricks_left p) (let k = yes_it.0 in omega (arith, k, first_is, rounds_is))) (ap₂ (λ x y. min x (tricks_left p - y)) all_is rounds_is)
      | inr no_it ↦ no_it.1 ∙ rw (plain, not-le (of_all (first_kept p seat) + of_all (free_rounds p seat)) (tricks_left p) (let k = no_it.0 in omega (arith, k, first_is, rounds_is))) refl
    ]
  where
    le : (x y : ℕ) → x ≤ y → nat_le x y ≡ true
    le x y h = grind (arith, nat_tests)

    not-le : (x y : ℕ) → y < x → nat_le x y ≡ false
    not-le x y h = grind (arith, nat_tests)

-- ---- the claim

-- the winners that are put in are reached
pub run-reached : (p : Board) (seat : Seat) (suit : Suit) (ranks : List ℕ) (cards : List PlayingCard) (n : ℕ) → map (card_of suit) ranks ≡ filter (λ c. is_of suit c && is_winner p seat c) (cards_at p seat)
    → min n (length ranks) ≤ length (filter (λ q. has_card cards (card_of suit q)) ranks) → RestsOnRun p seat suit cards n
run-reached p seat suit ranks cards n same most =
    let a = reached-of suit (λ c. is_of suit c && is_winner p seat c) ranks (cards_at p seat) cards same in
    let b = length-of suit (λ c. is_of suit c && is_winner p seat c) ranks (cards_at p seat) same in
    omega (arith, a, b, most)

-- with more cards too
pub run-more : (p : Board) (seat : Seat) (suit : Suit) (few many : List PlayingCard) (n : ℕ) → ((c : PlayingCard) → has_card few c ≡ true → has_card many c ≡ true) → RestsOnRun p seat suit few n → RestsOnRun p seat suit many n
run-more p seat suit few many n within rests =
    let m = count-le (λ c. (is_of suit c && is_winner p seat c) && reach few c) (λ c. (is_of suit c && is_winner p seat c) && reach many c) (cards_at p seat) (λ c has pass.
    ap₂ (λ a b. a && b) (and-left (is_of suit c && is_winner p seat c) (reach few c) pass) (reach-within few many within c (and-right (is_of suit c && is_winner p seat c) (reach few c) pass))) in
    omega (arith, rests, m)

-- the rounds of a suit in which none is kept are free: there is no winner, or the suit can't be led
free-rounds : (run_u longer_u more_u : ℕ) → (if nat_lt 0 (min 1 (min run_u longer_u) + more_u) then 0 else longer_u) ≤ (if nat_lt 0 run_u then 0 else longer_u)
free-rounds run_u longer_u more_u = elim (cases_lt 0 (min 1 (min run_u longer_u) + more_u)) [
  | inl some ↦ (let k : (if nat_lt 0 (min 1 (min run_u longer_u) + more_u) then 0 else longer_u) ≡ 0 = ap (λ b. if b then 0 else longer_u) (lt-ltb 0 (min 1 (min run_u longer_u) + more_u) some) in omega (arith, k))
  | inr none ↦ elim (cases_lt 0 run_u) [
    | inl l ↦ (let k : longer_u ≡ 0 = omega (arith, none, l) in let m = most (nat_lt 0 (min 1 (min run_u longer_u) + more_u)) in omega (arith, k, m))
    | inr l ↦ (let k : (if nat_lt 0 run_u then 0 else longer_u) ≡ longer_u = ap (λ b. if b then 0 else longer_u) (not-lt 0 run_u l) in let m = most (nat_lt 0 (min 1 (min run_u longer_u) + more_u)) in omega (arith, k, m))
  ]
]
  where
    most : (b : Bool) → (if b then 0 else longer_u) ≤ longer_u
    most true = zero-le
    most false = omega arith

    not-lt : (x y : ℕ) → y ≤ x → nat_lt x y ≡ false
    not-lt x y h = grind (arith, nat_tests)

-- how many are kept of each suit
abbrev kept_of : Board → Seat → (Suit → ℕ) → Suit → ℕ
kept_of p seat more u = first_kept p seat u + more u

-- One winner of each suit that the seat heads and others, as many as are needed, are a claim by the cards on which they rest.
pub kept-claim : (p : Board) (i : ℕ) (cards : List PlayingCard) (more : Suit → ℕ) (need : ℕ) → IsOpposed i → p.trick ≡ [] → need ≤ kept_winners p (seat_after p.first i)
    → ((u : Suit) → more u + first_kept p (seat_after p.first i) u ≤ run p (seat_after p.first i) u)
    → of_all more ≡ min (max need (of_all (first_kept p (seat_after p.first i))) - of_all (first_kept p (seat_after p.first i))) (of_all (run p (seat_after p.first i)) - of_all (first_kept p (seat_after p.first i)))
    → ((u : Suit) → RestsOnRun p (seat_after p.first i) u cards (first_kept p (seat_after p.first i) u + more u)) → TakesBy (reach cards) (other_side (side_of p.first)) p need
kept-claim p i cards more need opposed start few within sum rests k to from t q r strict = elim (cases_lt 0 need) [ inl some ↦ claim (parts p (seat_after p.first i) need some few) | inr none ↦ omega (arith, none) ]
  where
    empty : q.trick ≡ []
    empty = no-trick to from (reach cards) p.trick q.trick start r.trick

    claim : IsKept p (seat_after p.first i) need → need ≤ won t q
    claim kept =
        let plain = plain-covered (reach cards) k to from (other_side (side_of p.first)) p t q r (no-trumps-at p kept.plain) in
        let lefts = left-same p q start empty (λ u. length-same (reach cards) k to from (other_side (side_of p.first)) p t q r 0 u) in
        let s = rounds-of Spades in
        let e = rounds-of Hearts in
        let d = rounds-of Diamonds in
        let c = rounds-of Clubs in
        let first = kept.first in
        let winners = kept.winners in
        let room = kept.room in
        let taken = numbers-taken q i (kept_of p (seat_after p.first i) more) r.valid_q empty plain opposed at (omega (arith, lefts, s, e, d, c, first, room, sum)) in
        let side = is-other (side_of q.first) t (ap (is_side t) r.first ∙ r.sides p.first ∙ same-other (side_of p.first)) in
        let here : total (kept_of p (seat_after p.first i) more) ≤ won t q = subst (λ z. total (kept_of p (seat_after p.first i) more) ≤ won z q) side taken in
        omega (arith, here, sum, winners)
      where
        at : (u : Suit) → kept_of p (seat_after p.first i) more u ≤ run q (seat_after q.first i) u
        at u =
            let some = rests u in
            let most = within u in
            let run_q = run-covered (reach cards) k to from (other_side (side_of p.first)) p t q r (seat_after p.first i) u in
            let same = ap (λ x. run q x u) (seat-same (reach cards) k to from (other_side (side_of p.first)) p t q r i) in
            omega (arith, some, most, run_q, same)

        rounds-of : (u : Suit) → rounds_of (seat_after (seat_after q.first i) 1) (λ v. nat_lt 0 (kept_of p (seat_after p.first i) more v)) q u ≤ free_rounds p (seat_after p.first i) u
        rounds-of u =
            let is = rounds-are q i (kept_of p (seat_after p.first i) more) r.valid_q empty plain_q opposed at u in
            let own = length-same (reach cards) k to from (other_side (side_of p.first)) p t q r 0 u in
            let his = length-same (reach cards) k to from (other_side (side_of p.first)) p t q r 2 u in
            let fewer = free-rounds (run p (seat_after p.first i) u) (longer p u) (more u) in
            let same : (if nat_lt 0 (first_kept p (seat_after p.first i) u + more u) then 0 else max (length_at q q.first u) (length_at q (seat_after q.first 2) u)) ≡ (if nat_lt 0 (first_kept p (seat_after p.first i) u + more u) then 0 else longer p u) = ap₂ (λ a b. if nat_lt 0 (first_kept p (seat_after p.first i) u + more u) then 0 else max a b) own his in
            omega (arith, is, same, fewer)
          where
            plain_q : NoTrumps q
            plain_q = plain-covered (reach cards) k to from (other_side (side_of p.first)) p t q r (no-trumps-at p kept.plain)

-- So it is of an opponent's seat.
abbrev ClaimAt : Board → Seat → List PlayingCard → (Suit → ℕ) → ℕ → Type 0
ClaimAt p seat cards more need = need ≤ kept_winners p seat → ((u : Suit) → more u + first_kept p seat u ≤ run p seat u)
    → of_all more ≡ min (max need (of_all (first_kept p seat)) - of_all (first_kept p seat)) (of_all (run p seat) - of_all (first_kept p seat))
    → ((u : Suit) → RestsOnRun p seat u cards (first_kept p seat u + more u)) → TakesBy (reach cards) (other_side (side_of p.first)) p need

pub claim-at : (p : Board) (seat : Seat) (cards : List PlayingCard) (more : Suit → ℕ) (need : ℕ) → Opposes p seat → p.trick ≡ [] → ClaimAt p seat cards more need
claim-at p seat cards more need opposes start = elim opposes [
  | inl e ↦ subst (λ x. ClaimAt p x cards more need) (sym e) (kept-claim p 1 cards more need (inl refl) start)
  | inr e ↦ subst (λ x. ClaimAt p x cards more need) (sym e) (kept-claim p 3 cards more need (inr refl) start)
]
