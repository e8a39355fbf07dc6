-- Second hand wins. A card of a suit is led whose highest card an opponent h of the leader holds, who has not played yet. What
-- h could take with the lead in the position before, with that card as the first of its tricks, its side takes now.
use Rattle.std.proofs.Common.{◌≡◌, ℕ, ◌+◌, ◌*◌, ◌<◌, ◌≤◌, Bool, true, false, refl, sym, ap, ◌∙◌, subst, arith, List, [], ◌∷◌, inl, inr}
use Rattle.std.specs.Prelude.{filter, ◌&&◌}
use Rattle.dd_cards.specs.declared.seat.Seat.{Seat}
use Rattle.dd_cards.specs.declared.suit.Suit.{Suit}
use Rattle.dd_cards.specs.PlayingCard.{PlayingCard}
use Rattle.dd_cards.specs.Cards.{is_of, has_card, without}
use Rattle.dd_cards.specs.Hands.{times}
use Rattle.dd_cards.specs.Seats.{seat_after}
use Rattle.dd_cards.specs.Sides.{side_of, is_side}
use Rattle.dd_cards.proofs.CallerLemmas.{and-left, and-right, is-same, times-has}
use Rattle.dd_play.specs.Board.{Board, IsBoard, cards_at}
use Rattle.dd_play.specs.Tricks.{is_trump, or_else}
use Rattle.dd_play.specs.Play.{following}
use Rattle.dd_play.specs.Covers.{count_of}
use Rattle.dd_play.specs.Reach.{TakesBy, reach}
use Rattle.dd_play.specs.Won.{won}
use Rattle.dd_play.proofs.CallerLemmas.{count, count-has, count-some, count-without, flag_of, legal-out, Obeys, of-suit', once-in, suit-of, turn-turn, trump-suit as same-trump}
use Rattle.dd_quick.specs.SecondHand.{IsBeforeLead, unled}
use Rattle.dd_quick.proofs.Claims.{IsSure}
use Rattle.dd_quick.proofs.Cashing.{AllLetCash, Aims, FollowsSuit, HasCards, IsLater, LetsCash, Only, cashed-all, hand_on, less, lets-lead, no_cards, one_card, played-on, spare-card, sure_of, total, total-less}
use Rattle.dd_quick.proofs.Hands.{IsOpposed}
use Rattle.dd_quick.proofs.LeadBack.{answered, board-back, cover-back, led-back}
use Rattle.dd_quick.proofs.Plans.{IsPlan}
use Rattle.dd_quick.proofs.TakenTrick.{Allows, IsLed, IsMidway, nobody, one-three, three-one, trick-taken}
use Rattle.dd_quick.proofs.Sound.{CanTake, leaders_aims, own-side, take-plan}
use Rattle.dd_quick.proofs.Covered.{IsJoint, RestsOnTops, can-covered}

-- ---- what h could cash before the lead

-- a hand without a card that it had
pub count-lost : (test : PlayingCard → Bool) (p : Board) (x : Seat) (m : PlayingCard) → IsBoard p → has_card (cards_at p x) m ≡ true → count test (without (cards_at p x) m) + flag_of (test m) ≡ count test (cards_at p x)
count-lost test p x m valid own =
    let most = once-in p valid x m in
    let some = times-has (cards_at p x) m own in
    let one : times (cards_at p x) m ≡ 1 = omega (arith, most, some) in
    let taken : count test (without (cards_at p x) m) + times (cards_at p x) m * flag_of (test m) ≡ count test (cards_at p x) = count-without test (cards_at p x) m in
    let taken1 : count test (without (cards_at p x) m) + 1 * flag_of (test m) ≡ count test (cards_at p x) = subst (λ (k : ℕ). count test (without (cards_at p x) m) + k * flag_of (test m) ≡ count test (cards_at p x)) one taken in
    omega (arith, taken1)

-- the leader's place after an opponent
leaders-place : (f h : Seat) (i : ℕ) → IsOpposed i → h ≡ seat_after f i → (j : ℕ) × (1 ≤ j) × (j < 4) × (f ≡ seat_after h j)
leaders-place f h i opposed at = elim opposed [
  | inl e ↦ (3, omega arith, omega arith, sym (three-one f) ∙ ap (λ x. seat_after x 3) (sym (at ∙ ap (seat_after f) e)))
  | inr e ↦ (1, omega arith, omega arith, sym (one-three f) ∙ ap (λ x. seat_after x 1) (sym (at ∙ ap (seat_after f) e)))
]

-- a legal card follows the suit led
pub follows-led : (m : PlayingCard) (his trick : List PlayingCard) (d : PlayingCard) → IsLed m trick → has_card (following trick his) d ≡ true → FollowsSuit m his d
follows-led m his trick d first has some =
    let card = count-some (is_of m.suit) his some in
    let obeys : Obeys (first.0 ∷ first.1) his d = legal-out (first.0 ∷ first.1) his d (ap (λ t. has_card (following t his) d) (sym first.2) ∙ has) in
    obeys card.0 card.1 (suit-of m.suit card.0 card.2 ∙ sym first.3) ∙ first.3

-- the cards that are led first at a hand that waits to play to the trick
abbrev pub waiting : Bool → PlayingCard → Suit → ℕ
waiting true m = one_card m
waiting false m = no_cards

-- The leader's card c is of a suit among those that h plans to cash, with the lead, in the position before: h wins the trick with
-- its highest card of the suit, and its side takes what is planned.
module _ (p : Board) (c : PlayingCard) (h : Seat) (i : ℕ) (aims : Aims) (n : Suit → ℕ) (b : ℕ) (valid : IsBoard p) (led : p.trick ≡ c ∷ []) (opposed : IsOpposed i) (at : h ≡ seat_after p.first i)
    (plan : IsPlan p.strain (unled p c h) (side_of h) aims n b) (some : 1 ≤ n c.suit) where
  abbrev o : Board
  o = unled p c h

  place : (j : ℕ) × (1 ≤ j) × (j < 4) × (p.first ≡ seat_after h j)
  place = leaders-place p.first h i opposed at

  -- h has a sure card of the suit led
  top : (d : PlayingCard) × (has_card (cards_at o h) d ≡ true) × ((is_of c.suit d && aims.sure d) ≡ true)
  top =
      let his : has_card (cards_at o (seat_after h place.0)) c ≡ true = ap (λ x. has_card (cards_at o x) c) (sym place.3) ∙ led-back p c valid led h in
      let long : 1 ≤ count_of c.suit (hand_on o place.0) = count-has (is_of c.suit) (hand_on o place.0) c his (of-suit' c.suit c refl) in
      let yields = (plan.lets place.0 place.1 place.2).yields c.suit in
      count-some (λ d. is_of c.suit d && aims.sure d) (cards_at o h) (omega (arith, yields, long, some))

  -- the trick
  module _ (m : PlayingCard) (own : has_card (cards_at (unled p c h) h) m ≡ true) (suit : c.suit ≡ m.suit) (sure_m : aims.sure m ≡ true) where
    abbrev kept : List PlayingCard
    kept = without (cards_at o h) m

    some_m : 1 ≤ n m.suit
    some_m = subst (λ u. 1 ≤ n u) suit some

    plain_m : is_trump p.strain m ≡ false
    plain_m = plan.cards.plain m.suit m some_m refl

    lost : (test : PlayingCard → Bool) → count test kept + flag_of (test m) ≡ count test (cards_at o h)
    lost test = count-lost test o h m (board-back p c valid led h) own

    -- what is known of another hand: it lets cards be cashed, and the partner has lost none of those that it keeps
    abbrev lets : Bool → ℕ → List PlayingCard → Type 0
    lets waits j his = LetsCash p.strain aims (less n m) (waiting waits m) j kept his × (j ≡ 2 → (test : PlayingCard → Bool) → Only aims.kept test → count test his ≡ count test (hand_on o 2))

    allows : Allows p.strain m lets
    allows = record {
      opponents = λ j his rest d other now mine follows taken. (
        (played-on p.strain aims (less n m) j kept his rest m d now.0 taken follows (λ two. absurd (other two)), λ two. absurd (other two)),
        λ trump. elim (now.0.follows other) [
          | inl none ↦ absurd (let one = count-has (is_trump p.strain) his d mine trump in omega (arith, none, one))
          | inr each ↦ (
              let one : one_card m m.suit ≡ 1 = ap flag_of (of-suit' m.suit m refl) in
              let all = each m.suit in
              sym (same-trump p.strain d m (follows (omega (arith, one, all)))) ∙ trump)
        ],
      );
      partner = λ his trick first now. (
          let d = spare-card p.strain aims (less n m) m kept first.1 his now.0 in
          let has : has_card (following trick his) d.0 ≡ true = ap (λ t. has_card (following t his) d.0) first.2 ∙ ap (λ u. has_card (or_else (filter (is_of u) his) his) d.0) first.3 ∙ d.1 in (
            d.0,
            has,
            λ trump. absurd (let keep = plan.begins.trumps d.0 trump in let free = d.2.0 in cc),
            λ rest taken. (
              played-on p.strain aims (less n m) 2 kept his rest m d.0 now.0 taken (follows-led m his trick d.0 first has) (λ two. d.2),
              λ two test only. (let t = taken test in let z : flag_of (test d.0) ≡ 0 = ap flag_of (only d.0 d.2.0) in let e = now.1 refl test only in omega (arith, t, z, e)),
            ),
          ));
    }

    start : (j : ℕ) → 1 ≤ j → j < 4 → lets true j (hand_on o j)
    start j l k = (
      lets-lead p.strain aims n j (cards_at o h) kept (hand_on o j) m (plan.lets j l k) some_m (λ u. lost (λ d. is_of u d && aims.sure d)) (inl sure_m),
      λ two test only. ap (λ x. count test (hand_on o x)) two,
    )

    next : (q : Board) → IsMidway p.strain o lets kept nobody q → q.trick ≡ [] → q.first ≡ h → total (less n m) + b ≤ won (side_of h) q
    next q now empty first = cashed-all (total (less n m)) b p.strain o aims (less n m) (side_of h) q plan.beyond plan.masters refl empty later cards lets-then
      where
        hand : cards_at q q.first ≡ kept
        hand = ap (cards_at q) first ∙ now.mine

        later : IsLater p.strain aims o (side_of h) q
        later = record {
          valid = now.valid;
          same = now.same;
          ours = ap (is_side (side_of h)) first ∙ own-side h;
          first = first;
          part = now.part;
          mine = λ test only. (let t = lost test in let z : flag_of (test m) ≡ 0 = ap flag_of (only m plain_m) in let e : count test (cards_at q q.first) ≡ count test kept = ap (count test) hand in omega (arith, t, z, e));
          partners = λ test only. ap (λ x. count test (cards_at q (seat_after x 2))) first ∙ (now.lets_be 2 (omega arith) (omega arith)).1 refl test only;
          trumps = plan.begins.trumps;
        }

        -- of a suit there are some to cash, where it is that of the card that wins
        one-of : (u : Suit) (x : Bool) → is_of u m ≡ x → flag_of (is_of u m) ≤ n u
        one-of u true e = (let one : flag_of (is_of u m) ≡ 1 = ap flag_of e in let k : 1 ≤ n u = subst (λ v. 1 ≤ n v) (suit-of u m e) some_m in omega (arith, one, k))
        one-of u false e = (let none : flag_of (is_of u m) ≡ 0 = ap flag_of e in omega (arith, none))

        cards : HasCards p.strain aims (less n m) q
        cards = record {
          tops = λ u. (
              let t = lost (λ d. is_of u d && aims.sure d) in
              let e : sure_of aims.sure u (cards_at q q.first) ≡ sure_of aims.sure u kept = ap (sure_of aims.sure u) hand in
              let one : flag_of (is_of u m && aims.sure m) ≡ flag_of (is_of u m) = ap flag_of (and-yes (is_of u m) (aims.sure m) sure_m) in
              let all = plan.cards.tops u in
              let few = one-of u (is_of u m) refl in
              omega (arith, t, e, one, all, few));
          held = λ u. (
              let t = lost (is_of u) in
              let e : count_of u (cards_at q q.first) ≡ count_of u kept = ap (count_of u) hand in
              let all = plan.cards.held u in
              let few = one-of u (is_of u m) refl in
              omega (arith, t, e, all, few));
          plain = λ u d k e. plan.cards.plain u d (omega (arith, k)) e;
          most = λ u. (
              let t = lost (is_of u) in
              let e : count_of u (cards_at q q.first) ≡ count_of u kept = ap (count_of u) hand in
              let all = plan.cards.most u in
              let few = one-of u (is_of u m) refl in
              omega (arith, t, e, all, few));
        }
          where
            and-yes : (x y : Bool) → y ≡ true → (x && y) ≡ x
            and-yes true y e = e
            and-yes false y e = refl

        lets-then : AllLetCash p.strain aims (less n m) q
        lets-then j l k = subst (λ x. LetsCash p.strain aims (less n m) no_cards j (cards_at q x) (cards_at q (seat_after x j))) (sym first)
            (subst (λ mine. LetsCash p.strain aims (less n m) no_cards j mine (cards_at q (seat_after h j))) (sym now.mine) (now.lets_be j l k).0)

    takes-planned : total n + b ≤ won (side_of h) p
    takes-planned =
        let all = trick-taken p c h lets m (total (less n m) + b) valid led own suit (plan.masters m own sure_m) allows start next i opposed at in
        let fewer = total-less n m some_m in
        omega (arith, all, fewer)

  pub second-planned : total n + b ≤ won (side_of h) p
  second-planned = takes-planned top.0 top.1 (sym (suit-of c.suit top.0 (and-left (is_of c.suit top.0) (aims.sure top.0) top.2))) (and-right (is_of c.suit top.0) (aims.sure top.0) top.2)

-- What an opponent of the leader can take with the lead in the position before, in a side suit that was led among others, it
-- takes after the lead.
second-takes : (p : Board) (c : PlayingCard) (h : Seat) (i : ℕ) (n : Suit → ℕ) (k : ℕ) → IsBoard p → p.trick ≡ c ∷ [] → IsOpposed i → h ≡ seat_after p.first i → CanTake (unled p c h) n k → 1 ≤ n c.suit
    → total n + k ≤ won (side_of h) p
second-takes p c h i n k valid led opposed at can some = second-planned p c h i (leaders_aims (unled p c h)) n k valid led opposed at (take-plan (unled p c h) n k (board-back p c valid led h) refl can) some

-- so it is a claim by the cards on which that rests
pub second-by : (top : PlayingCard → Bool) (p : Board) (c : PlayingCard) (h : Seat) (i : ℕ) (n : Suit → ℕ) (m : ℕ) → p.trick ≡ c ∷ [] → IsOpposed i → h ≡ seat_after p.first i → (IsBoard (unled p c h) → CanTake (unled p c h) n m) → 1 ≤ n c.suit
    → RestsOnTops top (unled p c h) n → IsJoint p.strain top (unled p c h) 0 m → TakesBy top (side_of h) p (total n + m)
second-by top p c h i n m led opposed at may some winners joint k to from t q r strict =
    let answer = answered to from top p.trick q.trick c led r.trick in
    let cover = cover-back top k to from (side_of h) p t q c answer.0 h led answer.1 answer.2 r in
    let can = can-covered top k to from (side_of h) (unled p c h) t (unled q answer.0 (seat_after h k)) cover n m refl refl (may cover.valid_p) winners joint in
    let seat : seat_after h k ≡ seat_after q.first i = ap (λ x. seat_after x k) at ∙ turn-turn p.first i k ∙ ap (λ x. seat_after x i) (sym r.first) in
    let taken = second-takes q answer.0 (seat_after h k) i n m r.valid_q answer.1 opposed seat can (subst (λ u. 1 ≤ n u) (sym answer.2.suit) some) in
    let side = is-same (side_of (seat_after h k)) t (r.sides h ∙ own-side h) in
    subst (λ z. total n + m ≤ won z q) side taken

-- so is what is counted in the position before the lead
pub second-claim : (p : Board) (c : PlayingCard) (before : Board) (cards : List PlayingCard) (n : Suit → ℕ) (m : ℕ) → IsBeforeLead p c before → IsSure before cards n m → 1 ≤ n c.suit → TakesBy (reach cards) (side_of before.first) p (total n + m)
second-claim p c before cards n m ready sure some = elim ready.seat [ inl at ↦ go 1 (inl refl) at | inr at ↦ go 3 (inr refl) at ]
  where
    go : (i : ℕ) → IsOpposed i → before.first ≡ seat_after p.first i → TakesBy (reach cards) (side_of before.first) p (total n + m)
    go i opposed at =
        second-by (reach cards) p c before.first i n m ready.led opposed at (λ valid. subst (λ o. CanTake o n m) ready.was (sure.can (subst IsBoard (sym ready.was) valid))) some
        (subst (λ o. RestsOnTops (reach cards) o n) ready.was sure.tops) (subst (λ (o : Board). IsJoint o.strain (reach cards) o 0 m) ready.was sure.joint)
