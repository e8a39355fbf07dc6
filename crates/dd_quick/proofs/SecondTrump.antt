-- Second hand wins a trump that is led. It takes a trick for each of its trumps that no other hand can beat, and what it could
-- cash in side suits before the lead, where its partner has a card more to throw.
use Rattle.std.proofs.Common.{◌≡◌, ◌≢◌, ℕ, ◌+◌, ◌-◌, ◌<◌, ◌≤◌, Bool, true, false, refl, sym, ap, ◌∙◌, subst, arith, List, [], ◌∷◌, inl, inr}
use Rattle.std.specs.Prelude.{nat_lt, min, ◌&&◌, ◌||◌, ◌⊎◌}
use mathlib.Core.Bool.{not}
use mathlib.Core.Path.{ap₂}
use Rattle.std.proofs.lemmas.Bool.{ltb-true, cases_lt, false_from_ne_true}
use Rattle.dd_cards.specs.declared.seat.Seat.{Seat}
use Rattle.dd_cards.specs.declared.suit.Suit.{Suit}
use Rattle.dd_cards.specs.declared.strain.Strain.{Strain}
use Rattle.dd_cards.specs.declared.strain.Strain.TheVariants.{Trump, Notrump}
use Rattle.dd_cards.specs.PlayingCard.{PlayingCard}
use Rattle.dd_cards.specs.Cards.{card_of, is_of, has_card, without}
use Rattle.dd_cards.specs.Seats.{seat_code, seat_after}
use Rattle.dd_cards.specs.Sides.{side_of, is_side}
use Rattle.dd_cards.proofs.CallerLemmas.{and-left, and-right, is-same, any-some, seat_code-lt}
use Rattle.dd_play.specs.Board.{Board, IsBoard, cards_at, tricks_left}
use Rattle.dd_play.specs.Tricks.{is_trump}
use Rattle.dd_play.specs.Play.{following}
use Rattle.dd_play.specs.Covers.{count_of}
use Rattle.dd_play.specs.Reach.{TakesBy, reach}
use Rattle.dd_play.specs.Won.{won}
use Rattle.dd_play.proofs.CallerLemmas.{after-code, count, count-has, count-some, flag_of, legal-in, of-suit', suit-of, turn-turn, trump-suit as same-trump}
use Rattle.dd_quick.specs.QuickTricks.{beats, is_unbeaten, is_winner, joint_trumps, run, trumps_at}
use Rattle.dd_quick.specs.SecondHand.{IsBeforeLead, unled}
use Rattle.dd_quick.proofs.Claims.{IsSure}
use Rattle.dd_quick.proofs.Cashing.{AllLetCash, Aims, FollowsSuit, HasCards, IsLater, IsMaster, LetsCash, cashed-all, follows-on, hand_on, is_plain, no_cards, one_card, one-total, sure_of, total, yields-on}
use Rattle.dd_quick.proofs.Hands.{IsOpposed, no-higher}
use Rattle.dd_quick.proofs.LeadBack.{answered, board-back, cover-back}
use Rattle.dd_quick.proofs.SecondHand.{count-lost, follows-led, waiting}
use Rattle.dd_quick.proofs.TakenTrick.{Allows, IsLed, IsMidway, IsTaken, nobody, trick-taken}
use Rattle.dd_quick.proofs.Sound.{CanTake, can-let, joint-later, keeping_trumps, leaders_aims, length-left, own-side, partners-side, plain-left, side-spared, unbeaten, unbeaten-joint}
use Rattle.dd_quick.proofs.Covered.{IsJoint, RestsOnTops, can-covered, left-same, length-same, run-covered, trumps-same}
use Rattle.dd_rank.proofs.CallerLemmas.{count-le}

-- The hand that is i places after h lets n cards of each suit be cashed, and e more that are led first, where its partner
-- keeps its trumps: as `LetsCash`, but a trump that is led asks for no card that the partner may spare of its suit.
record LetsWin (strain : Strain) (sure : PlayingCard → Bool) (n e : Suit → ℕ) (i : ℕ) (own his : List PlayingCard) : Type 0 where
  yields : (u : Suit) → min (e u + n u) (count_of u his) ≤ e u + sure_of sure u own
  follows : i ≢ 2 → (count (is_trump strain) his ≡ 0) ⊎ ((u : Suit) → e u + n u ≤ count_of u his)
  throws : i ≡ 2 → total e + total n ≤ count (is_plain strain) his

-- where none is led first such a hand lets cards be cashed
lets-cash : (strain : Strain) (sure : PlayingCard → Bool) (all : List PlayingCard) (most : ℕ) (n : Suit → ℕ) (i : ℕ) (own his : List PlayingCard) → ((u : Suit) → 1 ≤ n u → is_trump strain (card_of u 0) ≡ false) → ((u : Suit) → count_of u his ≤ most)
    → LetsWin strain sure n no_cards i own his → LetsCash strain (keeping_trumps strain sure all most) n no_cards i own his
lets-cash strain sure all most n i own his plain few lets = record { yields = lets.yields; follows = λ other. elim (lets.follows other) [ inl none ↦ inl none | inr each ↦ inr (λ u. let k = each u in omega (arith, k)) ]; spares = λ two. side-spared strain n his plain; throws = lets.throws; leaves = λ other u. (let k = few u in omega (arith, k)) }

-- a hand that plays a card c to such a lead lets the others be cashed
played-too : (strain : Strain) (sure : PlayingCard → Bool) (n : Suit → ℕ) (i : ℕ) (own his rest : List PlayingCard) (m c : PlayingCard) → LetsWin strain sure n (one_card m) i own his → IsTaken c his rest → FollowsSuit m his c
    → LetsWin strain sure n no_cards i own rest
played-too strain sure n i own his rest m c lets taken suits = record {
  yields = yields-on strain sure n i own his rest m c taken suits lets.yields;
  follows = follows-on strain sure n i own his rest m c taken suits lets.follows;
  throws = λ two. (
      let before = lets.throws two in
      let one = one-total m in
      let most : flag_of (is_plain strain c) ≤ 1 = flag-one (is_plain strain c) in
      let t = taken (is_plain strain) in
      omega (arith, before, one, most, t));
}
  where
    flag-one : (b : Bool) → flag_of b ≤ 1
    flag-one true = omega arith
    flag-one false = omega arith

-- a hand with a card that is no trump has a card to play to the lead of m's suit
pub any-card : (strain : Strain) (m : PlayingCard) (trick hand : List PlayingCard) → IsLed m trick → 1 ≤ count (is_plain strain) hand → (d : PlayingCard) × (has_card (following trick hand) d ≡ true)
any-card strain m trick hand first some = elim (cases_lt 0 (count_of m.suit hand)) [
  | inl l ↦ (
      let d = count-some (is_of m.suit) hand l in
      (d.0, ap (λ t. has_card (following t hand) d.0) first.2 ∙ legal-in (first.0 ∷ first.1) hand d.0 d.1 (λ e own suits. suit-of m.suit d.0 d.2 ∙ sym first.3)))
  | inr l ↦ (
      let d = count-some (is_plain strain) hand some in
      (d.0, ap (λ t. has_card (following t hand) d.0) first.2 ∙ legal-in (first.0 ∷ first.1) hand d.0 d.1 (λ e own suits. absurd (let k = count-has (is_of m.suit) hand e own (of-suit' m.suit e (suits ∙ first.3)) in omega (arith, k, l)))))
]

-- What h can cash in side suits, where its partner has a card more to throw, it takes after a trump is led whose highest card
-- it holds, and with it a trick for each of its trumps that no other hand can beat.
module _ (p : Board) (c : PlayingCard) (h : Seat) (i : ℕ) (n : Suit → ℕ) (k : ℕ) (valid : IsBoard p) (led : p.trick ≡ c ∷ []) (opposed : IsOpposed i) (at : h ≡ seat_after p.first i)
    (can : CanTake (unled p c h) n 0) (trump : is_trump p.strain c ≡ true) (some : 1 ≤ k) (few : k ≤ run (unled p c h) h c.suit)
    (spare : total n + 1 + trumps_at p.strain (unled p c h) (seat_after h 2) ≤ tricks_left (unled p c h)) where
  abbrev before : Board
  before = unled p c h

  valid_before : IsBoard before
  valid_before = board-back p c valid led h

  abbrev sure_trump : PlayingCard → Bool
  sure_trump d = is_winner (unled p c h) h d

  -- its highest trump
  top : (m : PlayingCard) × (has_card (cards_at before h) m ≡ true) × ((is_of c.suit m && is_winner before h m) ≡ true)
  top = count-some (λ d. is_of c.suit d && is_winner before h d) (cards_at before h) (omega (arith, some, few))

  module _ (m : PlayingCard) (own : has_card (cards_at (unled p c h) h) m ≡ true) (suit : c.suit ≡ m.suit) (winner : is_winner (unled p c h) h m ≡ true) where
    masters : (d : PlayingCard) → has_card (cards_at before h) d ≡ true → is_winner before h d ≡ true → IsMaster before d
    masters d mine wins x e away his suits = no-higher before valid_before h x d e away wins mine his suits

    lost : (test : PlayingCard → Bool) → count test (without (cards_at before h) m) + flag_of (test m) ≡ count test (cards_at before h)
    lost test = count-lost test before h m valid_before own

    is-trump-m : is_trump p.strain m ≡ true
    is-trump-m = sym (same-trump p.strain c m suit) ∙ trump

    -- none of its trumps are among those that are cashed
    none-cashed : (u : Suit) → is_of u m ≡ true → n u ≡ 0
    none-cashed u e = elim (cases_lt 0 (n u)) [
      | inl l ↦ absurd (let plain = can.plain u l in let k : false ≡ true = sym plain ∙ same-trump p.strain (card_of u 0) m (sym (suit-of u m e)) ∙ is-trump-m in cc)
      | inr l ↦ omega (arith, l)
    ]

    -- the trumps of a hand are its cards of m's suit
    trumps-suit : (cards : List PlayingCard) → count (is_trump p.strain) cards ≡ count_of m.suit cards
    trumps-suit cards = go p.strain is-trump-m
      where
        go : (s : Strain) → is_trump s m ≡ true → count (is_trump s) cards ≡ count_of m.suit cards
        go (Trump t) e = ap (λ u. count_of u cards) (sym (suit-of t m e))
        go Notrump e = absurd (cc)

    start : (j : ℕ) → 1 ≤ j → j < 4 → LetsWin p.strain sure_trump n (one_card m) j (without (cards_at before h) m) (hand_on before j)
    start j l b = record {
      yields = λ u. yields u (is_of u m) refl;
      follows = λ other. elim (lets.follows other) [
        | inl none ↦ inl none
        | inr each ↦ elim (cases_lt 0 (count (is_trump p.strain) (hand_on before j))) [ inl some ↦ inr (λ u. follows (λ v. let k = each v in omega (arith, k)) some u (is_of u m) refl) | inr none ↦ inl (omega (arith, none)) ]
      ];
      throws = λ two. subst (λ y. total (one_card m) + total n ≤ count (is_plain p.strain) (hand_on before y)) (sym two)
          (let one = one-total m in let all = plain-left before (total n + 1) valid_before refl spare in omega (arith, one, all));
    }
      where
        lets : LetsCash p.strain (leaders_aims before) n no_cards j (cards_at before h) (hand_on before j)
        lets = can-let before n 0 valid_before refl can j l b

        yields : (u : Suit) (x : Bool) → is_of u m ≡ x → min (one_card m u + n u) (count_of u (hand_on before j)) ≤ one_card m u + sure_of sure_trump u (without (cards_at before h) m)
        yields u true e = (let one : one_card m u ≡ 1 = ap flag_of e in let z = none-cashed u e in omega (arith, one, z))
        yields u false e =
            let one : one_card m u ≡ 0 = ap flag_of e in
            let t = lost (λ d. is_of u d && sure_trump d) in
            let z : flag_of (is_of u m && sure_trump m) ≡ 0 = ap (λ x. flag_of (x && sure_trump m)) e in
            let y = lets.yields u in
            omega (arith, one, t, z, y)

        follows : ((u : Suit) → no_cards u + n u ≤ count_of u (hand_on before j)) → 1 ≤ count (is_trump p.strain) (hand_on before j) → (u : Suit) (x : Bool) → is_of u m ≡ x → one_card m u + n u ≤ count_of u (hand_on before j)
        follows each some u true e =
            let one : one_card m u ≡ 1 = ap flag_of e in
            let z = none-cashed u e in
            let t = trumps-suit (hand_on before j) in
            let same : count_of m.suit (hand_on before j) ≡ count_of u (hand_on before j) = ap (λ v. count_of v (hand_on before j)) (suit-of u m e) in
            omega (arith, one, z, t, same, some)
        follows each some u false e = (let one : one_card m u ≡ 0 = ap flag_of e in let y = each u in omega (arith, one, y))

    -- what is known of another hand
    abbrev lets-trump : Bool → ℕ → List PlayingCard → Type 0
    lets-trump waits j his = LetsWin p.strain sure_trump n (waiting waits m) j (without (cards_at before h) m) his

    allows-trump : Allows p.strain m lets-trump
    allows-trump = record {
      opponents = λ j his rest d other now mine follows taken. (played-too p.strain sure_trump n j (without (cards_at before h) m) his rest m d now taken follows, λ t. is-trump-m);
      partner = λ his trick first now. (
          let many = now.throws refl in
          let one = one-total m in
          let d = any-card p.strain m trick his first (omega (arith, many, one)) in
          (d.0, d.1, λ t. is-trump-m, λ rest taken. played-too p.strain sure_trump n 2 (without (cards_at before h) m) his rest m d.0 now taken (follows-led m his trick d.0 first d.1)));
    }

    next : (q : Board) → IsMidway p.strain before lets-trump (without (cards_at before h) m) nobody q → q.trick ≡ [] → q.first ≡ h → total n + (k - 1) ≤ won (side_of h) q
    next q now empty first = cashed-all (total n) (k - 1) p.strain q aims n (side_of h) q (λ r x over still left_over lets none. rest r over still) tops refl empty later cards lets
      where
        hand : cards_at q q.first ≡ without (cards_at before h) m
        hand = ap (cards_at q) first ∙ now.mine

        aims : Aims
        aims = keeping_trumps p.strain sure_trump (cards_at q q.first) (tricks_left q)

        later : IsLater p.strain aims q (side_of h) q
        later = record { trumps = λ d e. e; valid = now.valid; same = now.same; ours = ap (is_side (side_of h)) first ∙ own-side h; first = refl; part = λ x d has. has; mine = λ test only. refl; partners = λ test only. refl }

        tops : (d : PlayingCard) → has_card (cards_at q q.first) d ≡ true → sure_trump d ≡ true → IsMaster q d
        tops d mine wins x e away his suits =
            masters d (now.part h d (ap (λ y. has_card (cards_at q y) d) (sym first) ∙ mine)) wins x e (λ z. away (z ∙ sym (ap seat_code first))) (now.part x e his) suits

        cards : HasCards p.strain aims n q
        cards = record { tops = λ u. omega arith; held = λ u. (let x = held u (is_of u m) refl in omega (arith, x)); plain = λ u d some e. same-trump p.strain d (card_of u 0) e ∙ can.plain u some; most = λ u. (let k = length-left q 0 u now.valid empty (omega arith) in omega (arith, k)) }
          where
            held : (u : Suit) (x : Bool) → is_of u m ≡ x → n u ≤ count_of u (cards_at q q.first)
            held u true e = (let z = none-cashed u e in omega (arith, z))
            held u false e = (let t = lost (is_of u) in let z : flag_of (is_of u m) ≡ 0 = ap flag_of e in let y : count_of u (cards_at q q.first) ≡ count_of u (without (cards_at before h) m) = ap (count_of u) hand in let b = can.held u in omega (arith, t, z, y, b))

        lets : AllLetCash p.strain aims n q
        lets j l b = subst (λ x. LetsCash p.strain aims n no_cards j (cards_at q x) (cards_at q (seat_after x j))) (sym first)
            (lets-cash p.strain sure_trump (cards_at q q.first) (tricks_left q) n j (cards_at q h) (cards_at q (seat_after h j)) can.plain (λ u. subst (λ x. count_of u (cards_at q (seat_after x j)) ≤ tricks_left q) first (length-left q j u now.valid empty b))
            (subst (λ mine. LetsWin p.strain sure_trump n no_cards j mine (cards_at q (seat_after h j))) (sym now.mine) (now.lets_be j l b)))

        -- its other winners among the trumps are beaten by no opponent later
        unbeaten-on : k - 1 ≤ unbeaten q h c.suit
        unbeaten-on =
            let all = lost (λ d. is_of c.suit d && is_winner before h d) in
            let one : flag_of (is_of c.suit m && is_winner before h m) ≡ 1 = ap₂ (λ x y. flag_of (x && y)) (of-suit' c.suit m (sym suit)) winner in
            let more = count-le (λ d. is_of c.suit d && is_winner before h d) (λ d. is_of c.suit d && is_unbeaten q h d) (cards_at q h) (λ d has pass. ap₂ (λ x y. x && y) (and-left (is_of c.suit d) (is_winner before h d) pass) (free d has (and-right (is_of c.suit d) (is_winner before h d) pass))) in
            let same : count (λ d. is_of c.suit d && is_winner before h d) (cards_at q h) ≡ count (λ d. is_of c.suit d && is_winner before h d) (without (cards_at before h) m) = ap (count (λ d. is_of c.suit d && is_winner before h d)) now.mine in
            omega (arith, all, one, more, same, few)
          where
            none : (d : PlayingCard) (x : Seat) → seat_code x ≢ seat_code h → has_card (cards_at q h) d ≡ true → is_winner before h d ≡ true → beats q x d ≡ false
            none d x away has wins = false_from_ne_true (beats q x d) (λ b.
                let e = any-some (λ y. is_of d.suit y && nat_lt d.rank y.rank) (cards_at q x) b in
                let under = masters d (now.part h d has) wins x e.0 away (now.part x e.0 e.1) (suit-of d.suit e.0 (and-left (is_of d.suit e.0) (nat_lt d.rank e.0.rank) e.2)) in
                let over = ltb-true d.rank e.0.rank (and-right (is_of d.suit e.0) (nat_lt d.rank e.0.rank) e.2) in
                omega (arith, under, over))

            both : {a b : Bool} → a ≡ false → b ≡ false → not (a || b) ≡ true
            both e f = rw (e, f) refl

            free : (d : PlayingCard) → has_card (cards_at q h) d ≡ true → is_winner before h d ≡ true → is_unbeaten q h d ≡ true
            free d has wins = both (none d (seat_after h 1) (let a = after-code h 1 in let b = seat_code-lt h in λ e. omega (arith, a, b, e)) has wins) (none d (seat_after h 3) (let a = after-code h 3 in let b = seat_code-lt h in λ e. omega (arith, a, b, e)) has wins)

        joint : (s : Strain) → is_trump s c ≡ true → k - 1 ≤ joint_trumps s q h
        joint (Trump t) e =
            let free = subst (λ u. k - 1 ≤ unbeaten q h u) (suit-of t c e) unbeaten-on in
            let long = count-le (λ d. is_of t d && is_unbeaten q h d) (is_of t) (cards_at q h) (λ d has pass. and-left (is_of t d) (is_unbeaten q h d) pass) in
            let most = unbeaten-joint t q h now.valid in
            omega (arith, free, long, most)
        joint Notrump e = absurd (cc)

        rest : (r : Board) → r.trick ≡ [] → IsLater p.strain aims q (side_of h) r → k - 1 ≤ won (side_of h) r
        rest r over still =
            joint-later p.strain q r h (side_of h) (k - 1) now.valid still.valid still.same over (own-side h) (partners-side h) (joint p.strain trump) still.part
            (λ test only. ap (λ x. count test (cards_at r x)) (sym (still.first ∙ first)) ∙ still.mine test only ∙ ap (λ x. count test (cards_at q x)) first)
            (λ test only. ap (λ x. count test (cards_at r (seat_after x 2))) (sym (still.first ∙ first)) ∙ still.partners test only ∙ ap (λ x. count test (cards_at q (seat_after x 2))) first)

    takes-after : total n + k ≤ won (side_of h) p
    takes-after =
        let all = trick-taken p c h lets-trump m (total n + (k - 1)) valid led own suit (masters m own winner) allows-trump start next i opposed at in
        omega (arith, all, some)

  pub second-trumps : total n + k ≤ won (side_of h) p
  second-trumps = takes-after top.0 top.1 (sym (suit-of c.suit top.0 (and-left (is_of c.suit top.0) (is_winner before h top.0) top.2))) (and-right (is_of c.suit top.0) (is_winner before h top.0) top.2)

-- so it is a claim by the cards on which that rests
pub trumps-by : (top : PlayingCard → Bool) (p : Board) (c : PlayingCard) (h : Seat) (i : ℕ) (n : Suit → ℕ) (m : ℕ) → p.trick ≡ c ∷ [] → IsOpposed i → h ≡ seat_after p.first i → (IsBoard (unled p c h) → CanTake (unled p c h) n 0) → is_trump p.strain c ≡ true → 1 ≤ m
    → RestsOnTops top (unled p c h) n → m ≤ count (λ d. (is_of c.suit d && is_winner (unled p c h) h d) && top d) (cards_at (unled p c h) h) → total n + 1 + trumps_at p.strain (unled p c h) (seat_after h 2) ≤ tricks_left (unled p c h)
    → TakesBy top (side_of h) p (total n + m)
trumps-by top p c h i n m led opposed at may trump some winners tops spare k to from t q r strict =
    let answer = answered to from top p.trick q.trick c led r.trick in
    let cover = cover-back top k to from (side_of h) p t q c answer.0 h led answer.1 answer.2 r in
    let can = can-covered top k to from (side_of h) (unled p c h) t (unled q answer.0 (seat_after h k)) cover n 0 refl refl (may cover.valid_p) winners (none p.strain) in
    let seat : seat_after h k ≡ seat_after q.first i = ap (λ x. seat_after x k) at ∙ turn-turn p.first i k ∙ ap (λ x. seat_after x i) (sym r.first) in
    let high = run-covered top k to from (side_of h) (unled p c h) t (unled q answer.0 (seat_after h k)) cover h c.suit in
    let long = ap (run (unled q answer.0 (seat_after h k)) (seat_after h k)) answer.2.suit in
    let lefts = left-same (unled p c h) (unled q answer.0 (seat_after h k)) refl refl (λ u. length-same top k to from (side_of h) (unled p c h) t (unled q answer.0 (seat_after h k)) cover 0 u) in
    let his = trumps-same top k to from (side_of h) (unled p c h) t (unled q answer.0 (seat_after h k)) cover p.strain 2 in
    let kind : is_trump q.strain answer.0 ≡ true = ap (λ s. is_trump s answer.0) r.strain ∙ same-trump p.strain answer.0 c answer.2.suit ∙ trump in
    let strains : trumps_at q.strain (unled q answer.0 (seat_after h k)) (seat_after (seat_after h k) 2) ≡ trumps_at p.strain (unled q answer.0 (seat_after h k)) (seat_after (seat_after h k) 2) = ap (λ s. trumps_at s (unled q answer.0 (seat_after h k)) (seat_after (seat_after h k) 2)) r.strain in
    let taken = second-trumps q answer.0 (seat_after h k) i n m r.valid_q answer.1 opposed seat can kind some (omega (arith, tops, high, long)) (omega (arith, spare, lefts, his, strains)) in
    let side = is-same (side_of (seat_after h k)) t (r.sides h ∙ own-side h) in
    subst (λ z. total n + m ≤ won z q) side taken
  where
    none : (s : Strain) → IsJoint s top (unled p c h) 0 0
    none Notrump = tt
    none (Trump u) = inl (inl refl)

-- and what is counted there where a trump was led
pub trump-claim : (p : Board) (c : PlayingCard) (before : Board) (cards : List PlayingCard) (n : Suit → ℕ) (m : ℕ) → IsBeforeLead p c before → IsSure before cards n 0 → is_trump p.strain c ≡ true → 1 ≤ m
    → m ≤ count (λ d. (is_of c.suit d && is_winner before before.first d) && reach cards d) (cards_at before before.first) → total n + 1 + trumps_at before.strain before (seat_after before.first 2) ≤ tricks_left before
    → TakesBy (reach cards) (side_of before.first) p (total n + m)
trump-claim p c before cards n m ready sure trump some tops spare = elim ready.seat [ inl at ↦ go 1 (inl refl) at | inr at ↦ go 3 (inr refl) at ]
  where
    go : (i : ℕ) → IsOpposed i → before.first ≡ seat_after p.first i → TakesBy (reach cards) (side_of before.first) p (total n + m)
    go i opposed at =
        trumps-by (reach cards) p c before.first i n m ready.led opposed at (λ valid. subst (λ o. CanTake o n 0) ready.was (sure.can (subst IsBoard (sym ready.was) valid))) trump some
        (subst (λ o. RestsOnTops (reach cards) o n) ready.was sure.tops)
        (subst (λ (o : Board). m ≤ count (λ d. (is_of c.suit d && is_winner o before.first d) && reach cards d) (cards_at o before.first)) ready.was tops)
        (subst (λ (o : Board). total n + 1 + trumps_at o.strain o (seat_after before.first 2) ≤ tricks_left o) ready.was spare)
