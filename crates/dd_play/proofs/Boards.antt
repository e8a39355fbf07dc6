-- playing a legal card leads from one legal state of play to another
use Rattle.std.proofs.Common.{◌≡◌, ◌≢◌, ℕ, zero, suc, ◌+◌, ◌-◌, ◌%◌, ◌<◌, ◌≤◌, Bool, true, false, cond, refl, sym, ap, ◌∙◌, subst, arith, List, [], ◌∷◌, ◌++◌, length, length-append, inl, inr, eq-eqb, zero-le, max, min}
use Rattle.std.specs.Prelude.{nat_lt, filter, map, fold, ◌||◌, ◌&&◌, if◌then◌else◌}
use mathlib.Core.Bool.{not}
use Rattle.dd_cards.proofs.CallerLemmas.{IsSet-without, hand_of-with_hand, real-set, same_card-eq, seat_code-injective, times-cons, seat_code-lt, times-has}
use Rattle.std.proofs.lemmas.Bool.Decides.{eqb_tells, nat_tests}
use Rattle.std.proofs.lemmas.Bool.{lt-ltb, le-ltb, eqb-true, or_right}
use Rattle.dd_cards.specs.declared.seat.Seat.{Seat}
use Rattle.dd_cards.specs.declared.seat.Seat.TheVariants.{North, East, South, West}
use Rattle.dd_cards.specs.PlayingCard.{PlayingCard}
use Rattle.dd_cards.specs.Cards.{has_card, same_card, without}
use Rattle.dd_cards.specs.Seats.{seat_code, next_seat, seat_after, is_north_south}
use Rattle.dd_cards.specs.Hands.{FourHands, hand_of, with_hand, times, IsSet}
use Rattle.dd_cards.specs.Ranks.{IsRank}
use Rattle.dd_play.specs.Board.{Board, IsBoard, cards_at, cards_left, mover, tricks_left, times_in}
use Rattle.dd_play.specs.Tricks.{winner_of}
use Rattle.dd_play.specs.Play.{legal, completes, trick_with, hands_after, after}
use Rattle.dd_cards.specs.Suits.{suit_code}
use Rattle.dd_cards.specs.Sides.{side_of}
use Rattle.dd_cards.specs.declared.side.Side.{Side}
use Rattle.dd_cards.specs.declared.side.Side.TheVariants.{NorthSouth, EastWest}
use Rattle.dd_play.specs.Value.{better, best, gain, ns_within, ns}
use Rattle.dd_play.proofs.Values.{in-following, length-without}
use Rattle.std.proofs.lemmas.List.Folds.{list_any-append}

-- the next seat clockwise has the next code
pub next-code : (s : Seat) → seat_code (next_seat s) ≡ (seat_code s + 1) % 4
next-code North = refl
next-code East = refl
next-code South = refl
next-code West = refl

-- k seats on, the code is k more, round the table
pub after-code : (s : Seat) (k : ℕ) → seat_code (seat_after s k) ≡ (seat_code s + k) % 4
after-code s zero = let b = seat_code-lt s in omega arith
after-code s (suc k) = next-code (seat_after s k) ∙ (let ih = after-code s k in omega arith)

-- the hand that is written
pub hand-same : (hands : FourHands) (s : Seat) (cards : List PlayingCard) → hand_of (with_hand hands s cards) s ≡ cards
hand-same hands s cards = elim (hand_of-with_hand hands s cards s) [ inl here ↦ here.1 | inr other ↦ absurd (other.0 refl) ]

-- and each other hand is as it was
pub hand-other : (hands : FourHands) (s t : Seat) (cards : List PlayingCard) → seat_code t ≢ seat_code s → hand_of (with_hand hands s cards) t ≡ hand_of hands t
hand-other hands s t cards apart = elim (hand_of-with_hand hands s cards t) [ inl same ↦ absurd (apart (ap seat_code same.0)) | inr other ↦ other.1 ]

-- the card goes on the trick
abbrev open_after : Board → PlayingCard → Board
open_after p c = record { hands = hands_after p c; strain = p.strain; first = p.first; trick = trick_with p c }

-- the next hand has as many cards as the mover had
open-left : (p : Board) (c : PlayingCard) → IsBoard p → length p.trick < 3 → tricks_left (open_after p c) ≡ tricks_left p
open-left p c valid short =
    let n : ℕ = length p.trick in
    let longer : length (p.trick ++ c ∷ []) ≡ n + 1 = length-append p.trick (c ∷ []) in
    let mine = after-code p.first n in
    let next = after-code p.first (n + 1) in
    let other : seat_code (seat_after p.first (n + 1)) ≢ seat_code (mover p) = omega (arith, mine, next) in
    let even : length (cards_at p (seat_after p.first (n + 1))) + (if nat_lt (n + 1) n then 1 else 0) ≡ tricks_left p = valid.even (n + 1) (omega arith) in
    let flag : nat_lt (n + 1) n ≡ false = le-ltb (n + 1) n (omega arith) in
    ap (λ k. length (hand_of (hands_after p c) (seat_after p.first k))) longer
    ∙ ap length (hand-other p.hands (mover p) (seat_after p.first (n + 1)) (without (cards_at p (mover p)) c) other)
    ∙ (let e : length (cards_at p (seat_after p.first (n + 1))) + 0 ≡ tricks_left p = rw flag at even in omega (arith, e))

abbrev pub flag_of : Bool → ℕ
flag_of b = (if b then 1 else 0)

-- a test that holds counts one
flag-true : (b : Bool) → b ≡ true → flag_of b ≡ 1
flag-true b e = rw e refl

-- one card more on the trick changes nothing for the hands other than the one that played it
pub same-flag : (k n m : ℕ) → m ≡ n + 1 → k ≢ n → nat_lt k m ≡ nat_lt k n
same-flag k n m e ne = grind (arith, nat_tests)

-- the mover now counts among the hands that have played
open-even : (p : Board) (c : PlayingCard) → IsBoard p → length p.trick < 3 → length (without (cards_at p (mover p)) c) + 1 ≡ tricks_left p → (k : ℕ) → k < 4
    → length (cards_at (open_after p c) (seat_after p.first k)) + (if nat_lt k (length (trick_with p c)) then 1 else 0) ≡ tricks_left (open_after p c)
open-even p c valid short fewer k within =
    let n : ℕ = length p.trick in
    let longer : length (p.trick ++ c ∷ []) ≡ n + 1 = length-append p.trick (c ∷ []) in
    let same_left : tricks_left (open_after p c) ≡ tricks_left p = open-left p c valid short in
    elim (eqb_tells k n) [
      | inl same ↦ (
          let hand : length (cards_at (open_after p c) (seat_after p.first k)) ≡ length (without (cards_at p (mover p)) c) =
          ap (λ j. length (hand_of (hands_after p c) (seat_after p.first j))) same.1 ∙ ap length (hand-same p.hands (mover p) (without (cards_at p (mover p)) c)) in
          let flag : flag_of (nat_lt k (length (trick_with p c))) ≡ 1 = flag-true _ (lt-ltb k (length (trick_with p c)) (omega (arith, longer, same.1))) in
          omega (arith, hand, flag, same_left, fewer)
          )
      | inr other ↦ (
          let mine = after-code p.first n in
          let own = after-code p.first k in
          let apart : seat_code (seat_after p.first k) ≢ seat_code (mover p) = omega (arith, mine, own, other.1) in
          let hand : length (cards_at (open_after p c) (seat_after p.first k)) ≡ length (cards_at p (seat_after p.first k)) = ap length (hand-other p.hands (mover p) (seat_after p.first k) (without (cards_at p (mover p)) c) apart) in
          let flag : flag_of (nat_lt k (length (trick_with p c))) ≡ flag_of (nat_lt k n) = ap flag_of (same-flag k n (length (trick_with p c)) longer other.1) in
          let even : length (cards_at p (seat_after p.first k)) + (if nat_lt k n then 1 else 0) ≡ tricks_left p = valid.even k within in
          omega (arith, hand, flag, same_left, even)
          )
    ]

-- the trick is complete
abbrev closed_after : Board → PlayingCard → Board
closed_after p c = record { hands = hands_after p c; strain = p.strain; first = winner_of (trick_with p c) p.first p.strain; trick = [] }

-- each hand has one card fewer than the mover had
closed-length : (p : Board) (c : PlayingCard) → IsBoard p → length p.trick ≡ 3 → length (without (cards_at p (mover p)) c) + 1 ≡ tricks_left p → (s : Seat) → length (hand_of (hands_after p c) s) + 1 ≡ tricks_left p
closed-length p c valid full fewer s =
    let a = seat_code-lt p.first in
    let b = seat_code-lt s in
    let k : ℕ = (4 + seat_code s - seat_code p.first) % 4 in
    let within : k < 4 = omega arith in
    let own = after-code p.first k in
    let code : seat_code (seat_after p.first k) ≡ seat_code s = omega (arith, own) in
    let here : seat_after p.first k ≡ s = seat_code-injective (seat_after p.first k) s code in
    let mine = after-code p.first (length p.trick) in
    elim (eqb_tells (seat_code s) (seat_code (mover p))) [
      | inl same ↦ (
          let hand : length (hand_of (hands_after p c) s) ≡ length (without (cards_at p (mover p)) c) =
          ap (λ t. length (hand_of (hands_after p c) t)) (seat_code-injective s (mover p) same.1) ∙ ap length (hand-same p.hands (mover p) (without (cards_at p (mover p)) c)) in
          omega (arith, hand, fewer)
          )
      | inr other ↦ (
          let hand : length (hand_of (hands_after p c) s) ≡ length (cards_at p s) = ap length (hand-other p.hands (mover p) s (without (cards_at p (mover p)) c) other.1) in
          let early : k < length p.trick = omega (arith, mine, code, other.1, full) in
          let flag : flag_of (nat_lt k (length p.trick)) ≡ 1 = flag-true _ (lt-ltb k (length p.trick) early) in
          let even : length (cards_at p (seat_after p.first k)) + (if nat_lt k (length p.trick) then 1 else 0) ≡ tricks_left p = valid.even k within in
          let seat : length (cards_at p (seat_after p.first k)) ≡ length (cards_at p s) = ap (λ t. length (cards_at p t)) here in
          omega (arith, hand, flag, even, seat)
          )
    ]

-- with no card on the trick each hand has the same length
closed-even : (p : Board) (c : PlayingCard) → IsBoard p → length p.trick ≡ 3 → length (without (cards_at p (mover p)) c) + 1 ≡ tricks_left p → (k : ℕ) → k < 4
    → length (cards_at (closed_after p c) (seat_after (closed_after p c).first k)) + (if nat_lt k 0 then 1 else 0) ≡ tricks_left (closed_after p c)
closed-even p c valid full fewer k within =
    let one = closed-length p c valid full fewer (seat_after (closed_after p c).first k) in
    let two = closed-length p c valid full fewer (closed_after p c).first in
    let flag : flag_of (nat_lt k 0) ≡ 0 = ap flag_of (le-ltb k 0 (omega arith)) in
    omega (arith, one, two, flag)

-- ---- no card twice
pub times-filter : (q : PlayingCard → Bool) (d : PlayingCard) (cards : List PlayingCard) → times (filter q cards) d ≤ times cards d
times-filter q d [] = omega arith
times-filter q d (x ∷ cards) =
    let ih : times (filter q cards) d ≤ times cards d = times-filter q d cards in
    let one = times-cons x cards d in
    elim (q x) as (λ b. times (cond b (x ∷ filter q cards) (filter q cards)) d ≤ times (x ∷ cards) d) [
      | true ↦ (let two = times-cons x (filter q cards) d in omega (arith, one, two, ih))
      | false ↦ omega (arith, one, ih)
    ]

-- a card that is taken out stands no more
pub times-without : (c : PlayingCard) (cards : List PlayingCard) → times (without cards c) c ≡ 0
times-without c [] = refl
times-without c (x ∷ cards) = go (same_card x c) refl (times-without c cards)
  where
    go : (b : Bool) → same_card x c ≡ b → times (without cards c) c ≡ 0 → times (without (x ∷ cards) c) c ≡ 0
    go true e ih = rw e ih
    go false e ih = rw e (times-cons x (without cards c) c ∙ (let k : flag_of (same_card x c) ≡ 0 = ap flag_of e in omega (arith, k, ih)))

-- a card put last stands once more
pub times-push : (cards : List PlayingCard) (c d : PlayingCard) → times (cards ++ c ∷ []) d ≡ times cards d + flag_of (same_card c d)
times-push [] c d = times-cons c [] d ∙ omega arith
times-push (x ∷ cards) c d =
    let one = times-cons x cards d in
    let two = times-cons x (cards ++ c ∷ []) d in
    let ih = times-push cards c d in
    omega (arith, one, two, ih)

-- how often a card stands when one hand is written anew
pub times_in-with_hand : (hands : FourHands) (s : Seat) (cards : List PlayingCard) (d : PlayingCard)
    → times_in (with_hand hands s cards) d + times (hand_of hands s) d ≡ times_in hands d + times cards d
times_in-with_hand hands North cards d = omega arith
times_in-with_hand hands East cards d = omega arith
times_in-with_hand hands South cards d = omega arith
times_in-with_hand hands West cards d = omega arith

-- a card that moves from a hand to the trick still stands once
pub after-once : (p : Board) (c : PlayingCard) → IsBoard p → has_card (cards_at p (mover p)) c ≡ true → (d : PlayingCard) → times_in (hands_after p c) d + times (trick_with p c) d ≤ 1
after-once p c valid own d = go (same_card c d) refl
  where
    go : (b : Bool) → same_card c d ≡ b → times_in (hands_after p c) d + times (trick_with p c) d ≤ 1
    go false e =
        let moved = times_in-with_hand p.hands (mover p) (without (cards_at p (mover p)) c) d in
        let push = times-push p.trick c d in
        let k : flag_of (same_card c d) ≡ 0 = ap flag_of e in
        let less = times-filter (λ x. not (same_card x c)) d (cards_at p (mover p)) in
        let once = valid.once d in
        omega (arith, moved, push, k, less, once)
    go true e =
        let same : c ≡ d = same_card-eq c d e in
        let moved = times_in-with_hand p.hands (mover p) (without (cards_at p (mover p)) c) d in
        let push = times-push p.trick c d in
        let k : flag_of (same_card c d) ≡ 1 = ap flag_of e in
        let gone : times (without (cards_at p (mover p)) c) d ≡ 0 = ap (times (without (cards_at p (mover p)) c)) (sym same) ∙ times-without c (cards_at p (mover p)) in
        let had : 1 ≤ times (cards_at p (mover p)) d = subst (λ (x : PlayingCard). 1 ≤ times (cards_at p (mover p)) x) same (times-has (cards_at p (mover p)) c own) in
        let once = valid.once d in
        omega (arith, moved, push, k, gone, had, once)

-- the mover has one card fewer
pub fewer-cards : (p : Board) (c : PlayingCard) → IsBoard p → has_card (cards_at p (mover p)) c ≡ true → length (without (cards_at p (mover p)) c) + 1 ≡ tricks_left p
fewer-cards p c valid own = length-without (cards_at p (mover p)) c (in_hands (mover p) refl) own
  where
    in_hands : (s : Seat) → s ≡ mover p → times (cards_at p (mover p)) c ≤ 1
    in_hands North e = let h = valid.once c in let k = ap (λ t. times (cards_at p t) c) e in omega (arith, h, k)
    in_hands East e = let h = valid.once c in let k = ap (λ t. times (cards_at p t) c) e in omega (arith, h, k)
    in_hands South e = let h = valid.once c in let k = ap (λ t. times (cards_at p t) c) e in omega (arith, h, k)
    in_hands West e = let h = valid.once c in let k = ap (λ t. times (cards_at p t) c) e in omega (arith, h, k)

-- ---- the hands stay sets, and the trick real
pub after-sets : (p : Board) (c : PlayingCard) → IsBoard p → (s : Seat) → IsSet (hand_of (hands_after p c) s)
after-sets p c valid s =
    let gone : List PlayingCard = without (cards_at p (mover p)) c in
    elim (eqb_tells (seat_code s) (seat_code (mover p))) [
      | inl same ↦ (
          let hand : hand_of (hands_after p c) s ≡ gone = ap (hand_of (hands_after p c)) (seat_code-injective s (mover p) same.1) ∙ hand-same p.hands (mover p) gone in
          subst (λ (cards : List PlayingCard). IsSet cards) (sym hand) (IsSet-without (cards_at p (mover p)) c (valid.sets (mover p)))
          )
      | inr other ↦ subst (λ (cards : List PlayingCard). IsSet cards) (sym (hand-other p.hands (mover p) s gone other.1)) (valid.sets s)
    ]

-- a real card put last leaves a list of real cards
pub push-real : (trick : List PlayingCard) (c : PlayingCard) → ((d : PlayingCard) → has_card trick d ≡ true → IsRank d.rank) → IsRank c.rank
    → (d : PlayingCard) → has_card (trick ++ c ∷ []) d ≡ true → IsRank d.rank
push-real trick c real own d has = go (has_card trick d) (same_card c d) refl refl (sym (list_any-append (λ x. same_card x d) trick (c ∷ [])) ∙ has)
  where
    go : (a b : Bool) → has_card trick d ≡ a → same_card c d ≡ b → (has_card trick d || (same_card c d || false)) ≡ true → IsRank d.rank
    go true b e f h = real d e
    go false true e f h = subst (λ (x : PlayingCard). IsRank x.rank) (same_card-eq c d f) own
    go false false e f h = absurd (let no : (false || (false || false)) ≡ true = rw (e, f) at h in cc)

-- a trick that is complete counts one trick less, and any other card leaves the number of tricks as it is
pub record Follows (p q : Board) : Type 0 where
  pub valid : IsBoard q
  pub tricks : tricks_left q + (if completes p then 1 else 0) ≡ tricks_left p

-- a legal card leads to a legal state of play
pub legal-leads : (p : Board) (c : PlayingCard) → IsBoard p → has_card (legal p) c ≡ true → Follows p (after p c)
legal-leads p c valid has = go (completes p) refl
  where
    own : has_card (cards_at p (mover p)) c ≡ true
    own = in-following p.trick (cards_at p (mover p)) c has

    go : (b : Bool) → completes p ≡ b → Follows p (after p c)
    go true e =
        let full : length p.trick ≡ 3 = eqb-true (length p.trick) 3 e in
        let fewer : length (without (cards_at p (mover p)) c) + 1 ≡ tricks_left p = fewer-cards p c valid own in
        let one = closed-length p c valid full fewer (closed_after p c).first in
        let k : flag_of (completes p) ≡ 1 = ap flag_of e in
        let f : after p c ≡ closed_after p c = ap (λ b. cond b (closed_after p c) (open_after p c)) e in
        let done : Follows p (closed_after p c) = record {
          valid = record {
            sets = after-sets p c valid;
            short = omega arith;
            real = λ d h. absurd (cc);
            once = λ d. (let h = after-once p c valid own d in omega (arith, h));
            even = closed-even p c valid full fewer;
          };
          tricks = omega (arith, one, k);
        } in
        subst (λ q. Follows p q) (sym f) done
    go false e =
        let not_full : (length p.trick ≡ 3) → ⊥ = (λ h. (let yes : completes p ≡ true = eq-eqb (length p.trick) 3 h in cc)) in
        let short' : length p.trick ≤ 3 = valid.short in
        let short : length p.trick < 3 = omega (arith, not_full, short') in
        let fewer : length (without (cards_at p (mover p)) c) + 1 ≡ tricks_left p = fewer-cards p c valid own in
        let same : tricks_left (open_after p c) ≡ tricks_left p = open-left p c valid short in
        let k : flag_of (completes p) ≡ 0 = ap flag_of e in
        let longer : length (p.trick ++ c ∷ []) ≡ length p.trick + 1 = length-append p.trick (c ∷ []) in
        let f : after p c ≡ open_after p c = ap (λ b. cond b (closed_after p c) (open_after p c)) e in
        let done : Follows p (open_after p c) = record {
          valid = record {
            sets = after-sets p c valid;
            short = omega (arith, longer, short);
            real = push-real p.trick c valid.real (real-set (cards_at p (mover p)) c (valid.sets (mover p)) own);
            once = after-once p c valid own;
            even = open-even p c valid short fewer;
          };
          tricks = omega (arith, same, k);
        } in
        subst (λ q. Follows p q) (sym f) done

-- and so does any board that is known to be the one after it
pub after-board : (p q : Board) (c : PlayingCard) → IsBoard p → has_card (legal p) c ≡ true → q ≡ after p c → IsBoard q
after-board p q c valid has is = subst (λ (r : Board). IsBoard r) (sym is) (legal-leads p c valid has).valid

-- the cards in the hands are real
pub card-real : (p : Board) (s : Seat) (c : PlayingCard) → IsBoard p → has_card (cards_at p s) c ≡ true → IsRank c.rank
card-real p s c valid has = real-set (cards_at p s) c (valid.sets s) has

-- a list has its first card
pub has-first : (c : PlayingCard) (cards : List PlayingCard) → has_card (c ∷ cards) c ≡ true
has-first c cards = rw (eq-eqb (suit_code c.suit) (suit_code c.suit) refl, eq-eqb c.rank c.rank refl) refl

-- and the cards of the rest
pub in-rest : (c d : PlayingCard) (cards : List PlayingCard) → has_card cards d ≡ true → has_card (c ∷ cards) d ≡ true
in-rest c d cards h = or_right (same_card c d) (has_card cards d) h

-- ---- North and South take no more tricks than are left

-- the best of numbers up to m, from one of them on, is at most m
pub fold-le : (side : Side) (m x : ℕ) (cards : List PlayingCard) (f : PlayingCard → ℕ) → x ≤ m → ((c : PlayingCard) → has_card cards c ≡ true → f c ≤ m) → fold (better side) x (map f cards) ≤ m
fold-le side m x [] f h each = h
fold-le NorthSouth m x (c ∷ cards) f h each = fold-le NorthSouth m (max x (f c)) cards f (let k = each c (has-first c cards) in omega arith) (λ d has. each d (in-rest c d cards has))
fold-le EastWest m x (c ∷ cards) f h each = fold-le EastWest m (min x (f c)) cards f (let k = each c (has-first c cards) in omega arith) (λ d has. each d (in-rest c d cards has))

-- the best of numbers up to m is at most m
pub best-le : (side : Side) (m : ℕ) (cards : List PlayingCard) (f : PlayingCard → ℕ) → ((c : PlayingCard) → has_card cards c ≡ true → f c ≤ m) → best side (map f cards) ≤ m
best-le side m [] f each = zero-le
best-le side m (c ∷ cards) f each = fold-le side m (f c) cards f (each c (has-first c cards)) (λ d has. each d (in-rest c d cards has))

-- a card that does not complete a trick gains none
pub gain-le : (a b : Bool) → flag_of (a && b) ≤ flag_of a
gain-le true true = omega arith
gain-le true false = omega arith
gain-le false b = omega arith

-- nor do they when fewer cards are looked ahead
pub ns_within-le : (n : ℕ) (p : Board) → IsBoard p → ns_within n p ≤ tricks_left p
unfolding ns_within
ns_within-le zero p valid = zero-le
ns_within-le (suc n) p valid =
    best-le (side_of (mover p)) (tricks_left p) (legal p) (λ c. gain p c + ns_within n (after p c)) (λ c has.
    let q : Follows p (after p c) = legal-leads p c valid has in
    let ih : ns_within n (after p c) ≤ tricks_left (after p c) = ns_within-le n (after p c) q.valid in
    let g : gain p c ≤ flag_of (completes p) = gain-le (completes p) (is_north_south (winner_of (trick_with p c) p.first p.strain)) in
    let tricks : tricks_left (after p c) + flag_of (completes p) ≡ tricks_left p = q.tricks in
    omega (arith, ih, g, tricks))

-- North and South take at most the tricks that are left
pub ns-le : (p : Board) → IsBoard p → ns p ≤ tricks_left p
ns-le p valid = ns_within-le (cards_left p) p valid
