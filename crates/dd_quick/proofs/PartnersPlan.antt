-- What the leader and its partner take by crossing. First the leader cashes its own cards, and its partner keeps its trumps and
-- winners of its own: of a suit that the leader cashes it has other cards to follow with, and in all it has enough others to
-- throw. Then the leader crosses, and the partner cashes the rest, while the leader keeps its trumps. An opponent with trumps
-- has to follow suit to all this; then joint trumps take their tricks.
use Rattle.std.proofs.Common.{◌≡◌, ◌≢◌, ℕ, zero, suc, ◌+◌, ◌-◌, ◌<◌, ◌≤◌, Bool, true, false, refl, sym, ap, ◌∙◌, subst, arith, List, [], length, inl, inr, min}
use Rattle.std.specs.Prelude.{nat_lt, ◌&&◌, ◌||◌, ◌⊎◌}
use mathlib.Core.Bool.{not}
use mathlib.Core.Path.{ap₂}
use Rattle.std.proofs.lemmas.Bool.{cases_lt, or_right, not-true, and_right}
use Rattle.std.proofs.lemmas.Bool.Decides.{nat_tests}
use Rattle.dd_cards.specs.declared.seat.Seat.{Seat}
use Rattle.dd_cards.specs.declared.seat.Seat.TheVariants.{North, East, South, West}
use Rattle.dd_cards.specs.declared.suit.Suit.{Suit}
use Rattle.dd_cards.specs.declared.suit.Suit.TheVariants.{Spades, Hearts, Diamonds, Clubs}
use Rattle.dd_cards.specs.declared.strain.Strain.{Strain}
use Rattle.dd_cards.specs.PlayingCard.{PlayingCard}
use Rattle.dd_cards.specs.Cards.{is_of, card_of, has_card}
use Rattle.dd_cards.specs.Seats.{seat_code, seat_after}
use Rattle.dd_cards.specs.Sides.{is_side}
use Rattle.dd_cards.specs.declared.side.Side.{Side}
use Rattle.dd_cards.proofs.CallerLemmas.{and-left, and-right, filter-true}
use Rattle.dd_play.specs.Board.{Board, IsBoard, cards_at, tricks_left}
use Rattle.dd_play.specs.Tricks.{is_trump}
use Rattle.dd_play.specs.Covers.{count_of}
use Rattle.dd_play.specs.Won.{won}
use Rattle.dd_play.proofs.CallerLemmas.{count, count-has, count-some, flag_of, of-suit', once-in, suit-of, trump-suit as same-trump}
use Rattle.dd_quick.proofs.Cashing.{Aims, AllLetCash, HasCards, IsLater, IsMaster, by-suits, cashed-all, hand_on, less, no_cards, partner-too, spare_of, sure_of, total, total-less, OnlyTrumps, is_plain}
use Rattle.dd_quick.specs.QuickTricks.{joint_trumps, trumps_at}
use Rattle.dd_quick.proofs.Hands.{IsOpposed}
use Rattle.dd_quick.proofs.Crossings.{HasCrossed, HasFollowed, IsOver, answered-fewer, chosen-many, crosses}
use Rattle.dd_quick.proofs.JointPlans.{trumps-plain}
use Rattle.dd_quick.proofs.Plans.{IsPlan, planned}
use Rattle.dd_quick.proofs.Sound.{joint-later, length-left, opponent, round, side-spared, trumps-count}
use Rattle.dd_quick.proofs.Chosen.{Chosen, choose, count-never, count-same, count-split}
use Rattle.dd_rank.proofs.CallerLemmas.{count-le}

-- ---- cards that are no trumps

-- with what is true a test is itself
and-true : (a b : Bool) → b ≡ true → (a && b) ≡ a
and-true true b e = e
and-true false b e = refl

-- of no cards in all there are none of any suit
none-in : (k : Suit → ℕ) → total k ≡ 0 → (u : Suit) → k u ≡ 0
none-in k e Spades = omega (arith, e)
none-in k e Hearts = omega (arith, e)
none-in k e Diamonds = omega (arith, e)
none-in k e Clubs = omega (arith, e)

-- a suit with no fewer cards than another in each suit has no fewer in all
total-le : (a b : Suit → ℕ) → ((u : Suit) → a u ≤ b u) → total a ≤ total b
total-le a b each = (let s = each Spades in let h = each Hearts in let d = each Diamonds in let c = each Clubs in omega (arith, s, h, d, c))

-- of a suit that is not trumps no card is a trump
no-trump-of : (strain : Strain) (u : Suit) (cards : List PlayingCard) → is_trump strain (card_of u 0) ≡ false → sure_of (is_trump strain) u cards ≡ 0
no-trump-of strain u cards plain = count-never (λ c. is_of u c && is_trump strain c) cards (λ c has. go c (is_of u c) refl)
  where
    go : (c : PlayingCard) (b : Bool) → is_of u c ≡ b → (is_of u c && is_trump strain c) ≡ false
    go c true f = ap (λ b. b && is_trump strain c) f ∙ same-trump strain c (card_of u 0) (suit-of u c f) ∙ plain
    go c false f = ap (λ b. b && is_trump strain c) f

-- so all its cards are counted among those that are no trumps
plain-of : (strain : Strain) (u : Suit) (cards : List PlayingCard) → is_trump strain (card_of u 0) ≡ false → sure_of (is_plain strain) u cards ≡ count_of u cards
plain-of strain u cards plain = (let split = count-split (is_of u) (is_trump strain) cards in let none = no-trump-of strain u cards plain in omega (arith, split, none))

-- before a trick each hand has as many cards as tricks are left
full : (z : Board) (i : ℕ) → IsBoard z → z.trick ≡ [] → i < 4 → length (hand_on z i) ≡ tricks_left z
full z i valid start l =
    let even = valid.even i l in
    let flag : flag_of (nat_lt i (length z.trick)) ≡ 0 = ap flag_of (not-under i (length z.trick) (ap length start)) in
    omega (arith, even, flag)
  where
    not-under : (a b : ℕ) → b ≡ 0 → nat_lt a b ≡ false
    not-under a b h = grind (arith, nat_tests)

-- ---- the two hands

-- What the leader and its partner have: n cards of each side suit that the leader can cash; y cards of each side suit of the
-- partner's beside a card for each of those n; z of these, that only sure ones of the leader's are higher than, all of them or
-- as many as leave no other hand one of the suit, where the leader cashes all its sure ones; a suit to cross in. An opponent
-- with trumps has to follow suit to all; each of the two hands has as many cards beside its trumps; k joint trumps.
pub record CanCross (q : Board) (sure next : PlayingCard → Bool) (n z y : Suit → ℕ) (e : Suit) (k : ℕ) : Type 0 where
  pub plain : (u : Suit) → 1 ≤ n u + y u → is_trump q.strain (card_of u 0) ≡ false
  pub follows : (i : ℕ) → IsOpposed i → (trumps_at q.strain q (seat_after q.first i) ≡ 0) ⊎ ((u : Suit) → n u + y u ≤ count_of u (hand_on q i))
  pub masters : (c : PlayingCard) → has_card (cards_at q q.first) c ≡ true → sure c ≡ true → IsMaster q c
  pub behind : (c d : PlayingCard) (x : Seat) → has_card (hand_on q 2) c ≡ true → next c ≡ true → seat_code x ≢ seat_code (seat_after q.first 2) → has_card (cards_at q x) d ≡ true → d.suit ≡ c.suit
      → (d.rank < c.rank) ⊎ ((x ≡ q.first) × (sure d ≡ true))
  pub held : (u : Suit) → n u ≤ count_of u (cards_at q q.first)
  pub low : n e + 1 ≤ count_of e (cards_at q q.first)
  pub tops : (u : Suit) → 1 ≤ z u → sure_of sure u (cards_at q q.first) ≤ n u
  pub yields : (u : Suit) (i : ℕ) → 1 ≤ i → i < 4 → min (n u) (count_of u (hand_on q i)) ≤ sure_of sure u (cards_at q q.first)
  pub has : (u : Suit) → z u ≤ sure_of next u (hand_on q 2)
  pub of_all : (u : Suit) → z u ≤ y u
  pub room : (u : Suit) → (y u ≡ 0) ⊎ (n u + y u ≤ count_of u (hand_on q 2))
  pub alone : (u : Suit) → (y u ≡ z u) ⊎ ((i : ℕ) → i < 4 → i ≢ 2 → count_of u (hand_on q i) ≤ n u + z u)
  pub entry : 1 ≤ z e
  pub mine : total n + total y + trumps_at q.strain q q.first ≤ tricks_left q
  pub his : total n + total y + trumps_at q.strain q (seat_after q.first 2) ≤ tricks_left q
  pub joint : k ≤ joint_trumps q.strain q q.first

-- an opponent is one of the partner's
opposed-partner : (f : Seat) (i : ℕ) → IsOpposed i → (j : ℕ) × (IsOpposed j) × (seat_after (seat_after f 2) i ≡ seat_after f j)
opposed-partner f i (inl e) = (3, inr refl, ap (seat_after (seat_after f 2)) e ∙ at f)
  where
    at : (f : Seat) → seat_after (seat_after f 2) 1 ≡ seat_after f 3
    at North = refl
    at East = refl
    at South = refl
    at West = refl
opposed-partner f i (inr e) = (1, inl refl, ap (seat_after (seat_after f 2)) e ∙ at f)
  where
    at : (f : Seat) → seat_after (seat_after f 2) 3 ≡ seat_after f 1
    at North = refl
    at East = refl
    at South = refl
    at West = refl

-- three hands by their places after the partner
around-partner : (f : Seat) (i : ℕ) → 1 ≤ i → i < 4 → (j : ℕ) × (j < 4) × (j ≢ 2) × (seat_after (seat_after f 2) i ≡ seat_after f j)
around-partner f zero l k = absurd (omega (arith, l))
around-partner f (suc zero) l k = (3, omega arith, λ e. omega (arith, e), at f)
  where
    at : (f : Seat) → seat_after (seat_after f 2) 1 ≡ seat_after f 3
    at North = refl
    at East = refl
    at South = refl
    at West = refl
around-partner f (suc (suc zero)) l k = (0, omega arith, λ e. omega (arith, e), at f)
  where
    at : (f : Seat) → seat_after (seat_after f 2) 2 ≡ seat_after f 0
    at North = refl
    at East = refl
    at South = refl
    at West = refl
around-partner f (suc (suc (suc zero))) l k = (1, omega arith, λ e. omega (arith, e), at f)
  where
    at : (f : Seat) → seat_after (seat_after f 2) 3 ≡ seat_after f 1
    at North = refl
    at East = refl
    at South = refl
    at West = refl
around-partner f (suc (suc (suc (suc i)))) l k = absurd (omega (arith, k))

module _ (s : Side) (q : Board) (sure next : PlayingCard → Bool) (n z y : Suit → ℕ) (e : Suit) (k : ℕ) (valid : IsBoard q) (start : q.trick ≡ []) (ours : is_side s q.first ≡ true) (can : CanCross q sure next n z y e k) where
  -- the partner's winners that it keeps in a suit
  chosen : (u : Suit) → Chosen (λ c. is_of u c && next c) (hand_on q 2) (z u)
  chosen u = choose (λ c. is_of u c && next c) (hand_on q 2) (z u) (once-in q valid (seat_after q.first 2)) (can.has u)

  -- in all
  abbrev wins : PlayingCard → Bool
  wins c = (chosen c.suit).kept c

  wins-many : (u : Suit) → sure_of wins u (hand_on q 2) ≡ z u
  wins-many = chosen-many (hand_on q 2) (λ u. next) z chosen

  -- its other cards that it keeps in a suit
  lower : (u : Suit) → Chosen (λ c. is_of u c && not (wins c)) (hand_on q 2) (y u - z u)
  lower u = choose (λ c. is_of u c && not (wins c)) (hand_on q 2) (y u - z u) (once-in q valid (seat_after q.first 2))
      (let split = count-split (is_of u) wins (hand_on q 2) in
      let many = wins-many u in
      elim (can.room u) [ inl none ↦ omega (arith, none) | inr room ↦ omega (arith, split, many, room) ])

  abbrev lows : PlayingCard → Bool
  lows c = (lower c.suit).kept c

  lows-many : (u : Suit) → sure_of lows u (hand_on q 2) ≡ y u - z u
  lows-many = chosen-many (hand_on q 2) (λ u c. not (wins c)) (λ u. y u - z u) lower

  -- all that it keeps
  abbrev kept : PlayingCard → Bool
  kept c = is_trump q.strain c || (wins c || lows c)

  -- a suit of which some are counted is not trumps
  none-trump : (u : Suit) → 1 ≤ n u + y u → sure_of (is_trump q.strain) u (hand_on q 2) ≡ 0
  none-trump u some = no-trump-of q.strain u (hand_on q 2) (can.plain u some)

  -- so many of each suit, and its trumps
  kept-many : (u : Suit) → sure_of kept u (hand_on q 2) ≡ y u + sure_of (is_trump q.strain) u (hand_on q 2)
  kept-many u = go (is_trump q.strain (card_of u 0)) refl
    where
      -- a card of the suit is a trump where the suit is trumps
      of-trump : (c : PlayingCard) → is_of u c ≡ true → is_trump q.strain c ≡ is_trump q.strain (card_of u 0)
      of-trump c f = same-trump q.strain c (card_of u 0) (suit-of u c f)

      go : (b : Bool) → is_trump q.strain (card_of u 0) ≡ b → sure_of kept u (hand_on q 2) ≡ y u + sure_of (is_trump q.strain) u (hand_on q 2)
      go true f =
          let same = count-same (λ c. is_of u c && kept c) (λ c. is_of u c && is_trump q.strain c) (hand_on q 2) (λ c has. all (is_of u c) (is_trump q.strain c) (wins c || lows c) (λ of_u. of-trump c of_u ∙ f)) in
          elim (cases_lt 0 (y u)) [ inl some ↦ absurd (let no : true ≡ false = sym f ∙ can.plain u (omega (arith, some)) in cc) | inr none ↦ omega (arith, same, none) ]
        where
          all : (a t x : Bool) → (a ≡ true → t ≡ true) → (a && (t || x)) ≡ (a && t)
          all false t x h = refl
          all true true x h = refl
          all true false x h = absurd (let k : false ≡ true = h refl in cc)
      go false f =
          let none = no-trump-of q.strain u (hand_on q 2) f in
          let split = count-split (λ c. is_of u c && kept c) wins (hand_on q 2) in
          let a = count-same (λ c. (is_of u c && kept c) && wins c) (λ c. is_of u c && wins c) (hand_on q 2) (λ c has. both (is_of u c) (is_trump q.strain c) (wins c) (lows c)) in
          let b = count-same (λ c. (is_of u c && kept c) && not (wins c)) (λ c. is_of u c && lows c) (hand_on q 2)
          (λ c has. one (is_of u c) (is_trump q.strain c) (wins c) (lows c) (λ of_u. of-trump c of_u ∙ f) (λ k. not-true (wins c) (and-right (is_of c.suit c) (not (wins c)) ((lower c.suit).within c k).1))) in
          let w = wins-many u in
          let l = lows-many u in
          let all = can.of_all u in
          omega (arith, none, split, a, b, w, l, all)
        where
          both : (a t w l : Bool) → ((a && (t || (w || l))) && w) ≡ (a && w)
          both false t w l = refl
          both true true true l = refl
          both true true false l = refl
          both true false true l = refl
          both true false false true = refl
          both true false false false = refl

          one : (a t w l : Bool) → (a ≡ true → t ≡ false) → (l ≡ true → w ≡ false) → ((a && (t || (w || l))) && not w) ≡ (a && l)
          one false t w l f g = refl
          one true true w l f g = absurd (let k : true ≡ false = f refl in cc)
          one true false true true f g = absurd (let k : true ≡ false = g refl in cc)
          one true false true false f g = refl
          one true false false true f g = refl
          one true false false false f g = refl

  -- in all, with its trumps
  kept-all : count kept (hand_on q 2) ≡ total y + trumps_at q.strain q (seat_after q.first 2)
  kept-all =
      let suits = by-suits kept (hand_on q 2) in
      let trumps = by-suits (is_trump q.strain) (hand_on q 2) in
      let counted = trumps-count q.strain q (seat_after q.first 2) in
      let a = kept-many Spades in
      let b = kept-many Hearts in
      let c = kept-many Diamonds in
      let d = kept-many Clubs in
      omega (arith, suits, trumps, counted, a, b, c, d)

  -- how many cards of a suit the other hands have at most when the leader has cashed, where that matters
  abbrev most : (u : Suit) → (y u ≡ z u) ⊎ ((i : ℕ) → i < 4 → i ≢ 2 → count_of u (hand_on q i) ≤ n u + z u) → ℕ
  most u (inl e) = tricks_left q
  most u (inr e) = z u

  most-holds : (u : Suit) (x : (y u ≡ z u) ⊎ ((i : ℕ) → i < 4 → i ≢ 2 → count_of u (hand_on q i) ≤ n u + z u)) (i : ℕ) → i < 4 → i ≢ 2 → count_of u (hand_on q i) ≤ n u + most u x
  most-holds u (inl e) i l other = (let k = length-left q i u valid start l in omega (arith, k))
  most-holds u (inr e) i l other = e i l other

  -- the leader's cards of a suit that are no trumps and that it does not cash
  abbrev low : Suit → ℕ
  low u = sure_of (is_plain q.strain) u (cards_at q q.first) - n u

  -- what it cashes are no trumps
  cashes-plain : (u : Suit) → n u ≤ sure_of (is_plain q.strain) u (cards_at q q.first)
  cashes-plain u = elim (cases_lt 0 (n u)) [
    | inl some ↦ (let same = plain-of q.strain u (cards_at q q.first) (can.plain u (omega (arith, some))) in let h = can.held u in omega (arith, same, h))
    | inr none ↦ omega (arith, none)
  ]

  -- by what the leader cashes: it keeps its other cards
  abbrev aims : Aims
  aims = record { sure = sure; kept = kept; low = low; over = λ u. sure_of sure u (cards_at q q.first) - n u; rest = λ u. most u (can.alone u); least = y }

  starts : IsLater q.strain aims q s q
  starts = record {
    valid = valid;
    same = refl;
    ours = ours;
    first = refl;
    part = λ x c h. h;
    mine = λ test only. refl;
    partners = λ test only. refl;
    trumps = λ c t. ap (λ b. b || (wins c || lows c)) t;
  }

  cards : HasCards q.strain aims n q
  cards = record {
    held = λ u. (
        let h = can.held u in
        let part = count-le (λ c. is_of u c && is_plain q.strain c) (is_of u) (cards_at q q.first) (λ c has pass. and-left (is_of u c) (is_plain q.strain c) pass) in
        omega (arith, h, part));
    tops = λ u. omega arith;
    plain = λ u c some suit. same-trump q.strain c (card_of u 0) suit ∙ can.plain u (omega (arith, some));
    most = λ u. most-holds u (can.alone u) 0 (omega arith) (λ e. omega (arith, e));
  }

  lets : AllLetCash q.strain aims n q
  lets i l k = record {
    yields = λ u. (let h = can.yields u i l k in omega (arith, h));
    follows = λ other. elim (can.follows i (opponent i l k other)) [ inl none ↦ inl (trumps-count q.strain q (seat_after q.first i) ∙ none) | inr each ↦ inr (λ u. (let h = each u in omega (arith, h))) ];
    spares = λ two u. subst (λ j. min (no_cards u + n u) (count_of u (hand_on q j)) ≤ spare_of kept u (hand_on q j)) (sym two) (spares u);
    throws = λ two. subst (λ j. total no_cards + total n ≤ count (λ c. not (kept c)) (hand_on q j)) (sym two) throws;
    leaves = λ other u. (let h = most-holds u (can.alone u) i k other in omega (arith, h));
  }
    where
      spares : (u : Suit) → min (no_cards u + n u) (count_of u (hand_on q 2)) ≤ spare_of kept u (hand_on q 2)
      spares u = elim (cases_lt 0 (n u)) [
        | inl some ↦ (
            let split = count-split (is_of u) kept (hand_on q 2) in
            let many = kept-many u in
            let none_u = none-trump u (omega (arith, some)) in
            elim (can.room u) [ inl none ↦ omega (arith, split, many, none_u, none) | inr room ↦ omega (arith, split, many, none_u, room) ])
        | inr none ↦ omega (arith, none)
      ]

      throws : total no_cards + total n ≤ count (λ c. not (kept c)) (hand_on q 2)
      throws =
          let size = full q 2 valid start (omega arith) in
          let split = count-split (λ c. true) kept (hand_on q 2) in
          let all = ap length (filter-true (hand_on q 2)) in
          let keeps = kept-all in
          let few = can.his in
          omega (arith, size, split, all, keeps, few)

  -- once the leader has cashed its cards
  module _ (r : Board) (g : Suit → ℕ) (empty : r.trick ≡ []) (later : IsLater q.strain aims q s r) (left_over : HasCards q.strain aims g r) (lets_be : AllLetCash q.strain aims g r) (nothing : total g ≡ 0) where
    -- the partner has kept its cards
    kept-later : (u : Suit) → sure_of kept u (hand_on r 2) ≡ y u + sure_of (is_trump q.strain) u (hand_on q 2)
    kept-later u = later.partners (λ c. is_of u c && kept c) (λ c f. and_right (is_of u c) (kept c) f) ∙ kept-many u

    -- and its winners among them
    wins-later : (u : Suit) → sure_of wins u (hand_on r 2) ≡ z u
    wins-later u = later.partners (λ c. is_of u c && wins c) (λ c f. none (is_of u c) (is_trump q.strain c) (wins c) (lows c) f) ∙ wins-many u
      where
        none : (a t w l : Bool) → (t || (w || l)) ≡ false → (a && w) ≡ false
        none false t w l f = refl
        none true true w l f = absurd (cc)
        none true false true l f = absurd (cc)
        none true false false l f = refl

    -- the leader has as many cards that are no trumps as the partner takes tricks
    plain-later : total y ≤ count (is_plain q.strain) (cards_at r r.first)
    plain-later =
        let all = trumps-plain q.strain (cards_at q q.first) in
        let trumps = trumps-count q.strain q q.first in
        let size = full q 0 valid start (omega arith) in
        let few = can.mine in
        let was = by-suits (is_plain q.strain) (cards_at q q.first) in
        let is = by-suits (is_plain q.strain) (cards_at r r.first) in
        let s_n = cashes-plain Spades in
        let h_n = cashes-plain Hearts in
        let d_n = cashes-plain Diamonds in
        let c_n = cashes-plain Clubs in
        let kept_low = total-le low (λ u. sure_of (is_plain q.strain) u (cards_at r r.first)) lows-later in
        omega (arith, all, trumps, size, few, was, is, s_n, h_n, d_n, c_n, kept_low)
      where
        lows-later : (u : Suit) → low u ≤ sure_of (is_plain q.strain) u (cards_at r r.first)
        lows-later u = go (is_trump q.strain (card_of u 0)) refl
          where
            fails : (a t : Bool) → (a ≡ true → t ≡ true) → (a && not t) ≡ false
            fails false t h = refl
            fails true true h = refl
            fails true false h = absurd (let k : false ≡ true = h refl in cc)

            go : (b : Bool) → is_trump q.strain (card_of u 0) ≡ b → low u ≤ sure_of (is_plain q.strain) u (cards_at r r.first)
            go false f = (let same = plain-of q.strain u (cards_at r r.first) f in let held = left_over.held u in omega (arith, same, held))
            go true f =
                let none = count-never (λ c. is_of u c && is_plain q.strain c) (cards_at q q.first) (λ c has. fails (is_of u c) (is_trump q.strain c) (λ of_u. same-trump q.strain c (card_of u 0) (suit-of u c of_u) ∙ f)) in
                omega (arith, none)

    -- an opponent with trumps has a card for each lead of the partner's
    follows-later : (i : ℕ) → IsOpposed i → (count (is_trump q.strain) (hand_on r i) ≡ 0) ⊎ ((u : Suit) → y u ≤ count_of u (hand_on r i))
    follows-later i opposed = elim ((lets_be i (elim opposed [ inl a ↦ omega (arith, a) | inr a ↦ omega (arith, a) ]) (elim opposed [ inl a ↦ omega (arith, a) | inr a ↦ omega (arith, a) ])).follows (λ two. elim opposed [ inl a ↦ omega (arith, a, two) | inr a ↦ omega (arith, a, two) ])) [
      | inl none ↦ inl none
      | inr each ↦ inr (λ u. (let h = each u in omega (arith, h)))
    ]

    -- of a suit in which the partner keeps a winner there is one to take
    some-kept : (c : PlayingCard) → wins c ≡ true → 1 ≤ z c.suit
    some-kept c keep =
        let one = count-has (chosen c.suit).kept (hand_on q 2) c ((chosen c.suit).within c keep).0 keep in
        let many = (chosen c.suit).many in
        omega (arith, one, many)

    -- no other hand can beat it now
    over-later : (c : PlayingCard) → has_card (hand_on r 2) c ≡ true → wins c ≡ true → IsOver r c
    over-later c has keep x d apart hd suits =
        let was : has_card (hand_on q 2) c ≡ true = subst (λ z. has_card (cards_at q (seat_after z 2)) c ≡ true) later.first (later.part (seat_after r.first 2) c has) in
        let is_next : next c ≡ true = and-right (is_of c.suit c) (next c) ((chosen c.suit).within c keep).1 in
        elim (can.behind c d x was is_next (λ f. apart (f ∙ ap (λ z. seat_code (seat_after z 2)) (sym later.first))) (later.part x d hd) suits) [
          | inl low ↦ low
          | inr top ↦ absurd (
              let own : has_card (cards_at r r.first) d ≡ true = subst (λ z. has_card (cards_at r z) d ≡ true) (top.0 ∙ sym later.first) hd in
              let some : 1 ≤ sure_of sure d.suit (cards_at r r.first) = count-has (λ c. is_of d.suit c && sure c) (cards_at r r.first) d own (ap₂ (λ a b. a && b) (of-suit' d.suit d refl) top.1) in
              let most = left_over.tops d.suit in
              let all = can.tops d.suit (subst (λ u. 1 ≤ z u) (sym suits) (some-kept c keep)) in
              let no = none-in g nothing d.suit in
              omega (arith, some, most, all, no))
        ]

    -- the other hands have no more of a suit than they may have
    few-later : (u : Suit) (i : ℕ) → i < 4 → i ≢ 2 → count_of u (hand_on r i) ≤ most u (can.alone u)
    few-later u zero l other = (let h = left_over.most u in let no = none-in g nothing u in omega (arith, h, no))
    few-later u (suc i) l other = (let h = (lets_be (suc i) (omega arith) l).leaves other u in let no = none-in g nothing u in omega (arith, h, no))

    -- the leader has kept a card to cross with
    entry-later : 1 ≤ count_of e (cards_at r r.first)
    entry-later =
        let some = can.entry in
        let all = can.of_all e in
        let plain = plain-of q.strain e (cards_at q q.first) (can.plain e (omega (arith, some, all))) in
        let card = can.low in
        let held = left_over.held e in
        omega (arith, plain, card, held)

    -- the partner has crossed with w, and cashes the others
    module _ (w : PlayingCard) (t : Board) (wins_w : wins w ≡ true) (suit_w : w.suit ≡ e) (crossed : HasCrossed r w t) where
      same : t.strain ≡ q.strain
      same = crossed.same ∙ later.same

      -- in w's suit it takes some, so w is no trump
      some-w : 1 ≤ y w.suit
      some-w = (let some = some-kept w wins_w in let all = can.of_all w.suit in omega (arith, some, all))

      plain-w : is_trump q.strain w ≡ false
      plain-w = same-trump q.strain w (card_of w.suit 0) refl ∙ can.plain w.suit (let some = some-w in omega (arith, some))

      -- what it has kept
      left-of : (u : Suit) → sure_of kept u (cards_at t t.first) + flag_of (is_of u w) ≡ y u + sure_of (is_trump q.strain) u (hand_on q 2)
      left-of u =
          let taken = crossed.taken (λ c. is_of u c && kept c) in
          let was = kept-later u in
          let one : flag_of (is_of u w && kept w) ≡ flag_of (is_of u w) = ap flag_of (and-true (is_of u w) (kept w) (or_right (is_trump q.strain w) (wins w || lows w) (ap (λ b. b || lows w) wins_w))) in
          omega (arith, taken, was, one)

      -- and of its winners
      winners-left : (u : Suit) → sure_of wins u (cards_at t t.first) + flag_of (is_of u w) ≡ z u
      winners-left u =
          let taken = crossed.taken (λ c. is_of u c && wins c) in
          let was = wins-later u in
          let one : flag_of (is_of u w && wins w) ≡ flag_of (is_of u w) = ap flag_of (and-true (is_of u w) (wins w) wins_w) in
          omega (arith, taken, was, one)

      -- by what it cashes
      abbrev his_aims : Aims
      his_aims = record { sure = wins; kept = is_trump q.strain; low = no_cards; over = λ u. sure_of wins u (cards_at t t.first); rest = λ u. tricks_left t; least = no_cards }

      starts-his : IsLater q.strain his_aims t s t
      starts-his = record {
        valid = crossed.valid;
        same = same;
        ours = ap (is_side s) crossed.first ∙ partner-too s r.first later.ours;
        first = refl;
        part = λ x c h. h;
        mine = λ test only. refl;
        partners = λ test only. refl;
        trumps = λ c e. e;
      }

      -- of each suit it has the cards that it has kept
      of-hand : (u : Suit) → less y w u ≤ count_of u (cards_at t t.first)
      of-hand u = (let k = left-of u in let m = count-le (λ c. is_of u c && kept c) (is_of u) (cards_at t t.first) (λ c has pass. and-left (is_of u c) (kept c) pass) in omega (arith, k, m))

      -- which is not trumps
      plain-left-of : (u : Suit) → 1 ≤ less y w u → is_trump q.strain (card_of u 0) ≡ false
      plain-left-of u some = can.plain u (omega (arith, some))

      cards-his : HasCards q.strain his_aims (less y w) t
      cards-his = record {
        held = λ u. (let k = of-hand u in omega (arith, k));
        tops = λ u. omega arith;
        plain = λ u c some suit. same-trump q.strain c (card_of u 0) suit ∙ plain-left-of u some;
        most = λ u. (let k = length-left t 0 u crossed.valid crossed.start (omega arith) in omega (arith, k));
      }

      -- the other hands follow to its winners alone, where it has other cards
      yields-his : (u : Suit) (i : ℕ) → 1 ≤ i → i < 4 → (x : (y u ≡ z u) ⊎ ((i : ℕ) → i < 4 → i ≢ 2 → count_of u (hand_on q i) ≤ n u + z u)) → ((j : ℕ) → j < 4 → j ≢ 2 → count_of u (hand_on r j) ≤ most u x)
          → min (less y w u) (count_of u (hand_on t i)) ≤ sure_of wins u (cards_at t t.first)
      yields-his u i l h (inl e) few = (let m = winners-left u in omega (arith, m, e))
      yields-his u i l h (inr e) few =
          let place = around-partner r.first i l h in
          let at : count_of u (hand_on t i) ≡ count_of u (cards_at t (seat_after r.first place.0)) = ap (λ x. count_of u (cards_at t (seat_after x i))) crossed.first ∙ ap (λ x. count_of u (cards_at t x)) place.3 in
          let m = winners-left u in
          let was : count_of u (hand_on r place.0) ≤ z u = few place.0 place.1 place.2 in
          go (is_of u w) refl place.0 place.1 place.2 at m was
        where
          go : (b : Bool) → is_of u w ≡ b → (j : ℕ) → j < 4 → j ≢ 2 → count_of u (hand_on t i) ≡ count_of u (cards_at t (seat_after r.first j)) → sure_of wins u (cards_at t t.first) + flag_of (is_of u w) ≡ z u → count_of u (hand_on r j) ≤ z u
              → min (less y w u) (count_of u (hand_on t i)) ≤ sure_of wins u (cards_at t t.first)
          go false f j a b at m was = (let none : flag_of (is_of u w) ≡ 0 = ap flag_of f in let fewer = crossed.fewer (seat_after r.first j) (is_of u) in omega (arith, none, fewer, at, m, was))
          go true f j a b at m was =
              let one : flag_of (is_of u w) ≡ 1 = ap flag_of f in
              elim (subst (λ v. HasFollowed v r t (seat_after r.first j)) (suit-of u w f) (answered-fewer w (hand_on r j) (cards_at t (seat_after r.first j)) (crossed.followed j a b))) [
                | inl nothing_left ↦ omega (arith, nothing_left, at)
                | inr fewer ↦ omega (arith, fewer, at, m, was, one)
              ]

      -- an opponent with trumps has a card for each
      follows-his : (i : ℕ) → IsOpposed i → (count (is_trump q.strain) (hand_on t i) ≡ 0) ⊎ ((u : Suit) → less y w u ≤ count_of u (hand_on t i))
      follows-his i opposed = go (opposed-partner r.first i opposed)
        where
          go : (j : ℕ) × (IsOpposed j) × (seat_after (seat_after r.first 2) i ≡ seat_after r.first j) → (count (is_trump q.strain) (hand_on t i) ≡ 0) ⊎ ((u : Suit) → less y w u ≤ count_of u (hand_on t i))
          go place =
              let at : hand_on t i ≡ cards_at t (seat_after r.first place.0) = ap (λ x. cards_at t (seat_after x i)) crossed.first ∙ ap (cards_at t) place.2 in
              let less_4 : place.0 < 4 = elim place.1 [ inl a ↦ omega (arith, a) | inr a ↦ omega (arith, a) ] in
              let other : place.0 ≢ 2 = λ two. elim place.1 [ inl a ↦ omega (arith, a, two) | inr a ↦ omega (arith, a, two) ] in
              elim (follows-later place.0 place.1) [
                | inl none ↦ inl (let same_hand = ap (count (is_trump q.strain)) at in let fewer = crossed.fewer (seat_after r.first place.0) (is_trump q.strain) in omega (arith, same_hand, fewer, none))
                | inr each ↦ inr (λ u. (
                    let same_hand = ap (count_of u) at in
                    let given = crossed.followed place.0 less_4 other in
                    let suit : given.0.suit ≡ w.suit = given.2 (let some = some-w in let his = each w.suit in omega (arith, some, his)) in
                    let one : flag_of (is_of u given.0) ≡ flag_of (is_of u w) = ap (λ v. flag_of (is_of u (card_of v 0))) suit in
                    let taken = given.1 (is_of u) in
                    let his = each u in
                    omega (arith, same_hand, one, taken, his)))
              ]

      -- the leader, now the partner of the hand on lead, has cards to throw that are no trumps
      throws-his : total (less y w) ≤ count (is_plain q.strain) (hand_on t 2)
      throws-his =
          let at : hand_on t 2 ≡ cards_at t r.first = ap (λ x. cards_at t (seat_after x 2)) crossed.first ∙ ap (cards_at t) (round r.first) in
          let same_hand = ap (count (is_plain q.strain)) at in
          let given = crossed.followed 0 (omega arith) (λ e. omega (arith, e)) in
          let taken = given.1 (is_plain q.strain) in
          let was = plain-later in
          let fewer = total-less y w some-w in
          let one = flag-most (is_plain q.strain given.0) in
          omega (arith, same_hand, taken, was, fewer, one)
        where
          flag-most : (b : Bool) → flag_of b ≤ 1
          flag-most true = omega arith
          flag-most false = omega arith

      lets-his : AllLetCash q.strain his_aims (less y w) t
      lets-his i l h = record {
        yields = λ u. (let m = yields-his u i l h (can.alone u) (few-later u) in omega (arith, m));
        follows = λ other. elim (follows-his i (opponent i l h other)) [ inl none ↦ inl none | inr each ↦ inr (λ u. (let k = each u in omega (arith, k))) ];
        spares = λ two. side-spared q.strain (less y w) (hand_on t i) plain-left-of;
        throws = λ two. subst (λ j. total no_cards + total (less y w) ≤ count (λ c. not (is_trump q.strain c)) (hand_on t j)) (sym two) (let all = throws-his in omega (arith, all));
        leaves = λ other u. (let k = length-left t i u crossed.valid crossed.start h in omega (arith, k));
      }

      -- once it has cashed too, both hands have their trumps
      then-joint : (f : Board) → f.trick ≡ [] → IsLater q.strain his_aims t s f → k ≤ won s f
      then-joint f ended last = joint-later q.strain q f q.first s k valid last.valid last.same ended ours (partner-too s q.first ours) can.joint
          (λ x c has. later.part x c (crossed.part x c (last.part x c has))) leaders partners
        where
          leads : f.first ≡ seat_after r.first 2
          leads = last.first ∙ crossed.first

          leaders : (test : PlayingCard → Bool) → OnlyTrumps q.strain test → count test (cards_at f q.first) ≡ count test (cards_at q q.first)
          leaders test only =
              let seat : seat_after f.first 2 ≡ q.first = ap (λ x. seat_after x 2) leads ∙ round r.first ∙ later.first in
              let seat_t : seat_after t.first 2 ≡ r.first = ap (λ x. seat_after x 2) crossed.first ∙ round r.first in
              let a : count test (cards_at f q.first) ≡ count test (hand_on f 2) = ap (λ x. count test (cards_at f x)) (sym seat) in
              let b = last.partners test only in
              let c : count test (hand_on t 2) ≡ count test (cards_at t r.first) = ap (λ x. count test (cards_at t x)) seat_t in
              let given = crossed.followed 0 (omega arith) (λ e. omega (arith, e)) in
              let some : 1 ≤ count_of w.suit (cards_at r r.first) = subst (λ u. 1 ≤ count_of u (cards_at r r.first)) (sym suit_w) entry-later in
              let none : flag_of (test given.0) ≡ 0 = ap flag_of (only given.0 (same-trump q.strain given.0 w (given.2 some) ∙ plain-w)) in
              let taken = given.1 test in
              let d = later.mine test only in
              omega (arith, a, b, c, none, taken, d)

          partners : (test : PlayingCard → Bool) → OnlyTrumps q.strain test → count test (cards_at f (seat_after q.first 2)) ≡ count test (cards_at q (seat_after q.first 2))
          partners test only =
              let seat : f.first ≡ seat_after q.first 2 = leads ∙ ap (λ x. seat_after x 2) later.first in
              let a : count test (cards_at f (seat_after q.first 2)) ≡ count test (cards_at f f.first) = ap (λ x. count test (cards_at f x)) (sym seat) in
              let b = last.mine test only in
              let taken = crossed.taken test in
              let none : flag_of (test w) ≡ 0 = ap flag_of (only w plain-w) in
              let d = later.partners test (λ c f. only c (first-fails (is_trump q.strain c) (wins c || lows c) f)) in
              omega (arith, a, b, taken, none, d)
            where
              first-fails : (a b : Bool) → (a || b) ≡ false → a ≡ false
              first-fails false b f = refl
              first-fails true b f = absurd (cc)

      -- it takes a trick with each, and then their joint trumps do
      cashes : total (less y w) + k ≤ won s t
      cashes = cashed-all (total (less y w)) k q.strain t his_aims (less y w) s t (λ f g ended last c l none. then-joint f ended last)
          (λ c has keep x d apart hd suits. over-later c (subst (λ z. has_card (cards_at r z) c ≡ true) crossed.first (crossed.part t.first c has)) keep x d (λ f. apart (f ∙ ap seat_code (sym crossed.first))) (crossed.part x d hd) suits)
          refl crossed.start starts-his cards-his lets-his

    -- the leader crosses, and the partner cashes
    then-partner : total y + k ≤ won s r
    then-partner =
        let held = entry-later in
        let m = count-some (is_of e) (cards_at r r.first) held in
        let many = wins-later e in
        let some = can.entry in
        let all_e = can.of_all e in
        let w = count-some (λ c. is_of e c && wins c) (hand_on r 2) (omega (arith, many, some)) in
        let keep : wins w.0 ≡ true = and-right (is_of e w.0) (wins w.0) w.2 in
        let suit : (w.0).suit ≡ e = suit-of e w.0 (and-left (is_of e w.0) (wins w.0) w.2) in
        let some_e : 1 ≤ y (w.0).suit = subst (λ v. 1 ≤ y v) (sym suit) (omega (arith, some, all_e)) in
        let fewer = total-less y w.0 some_e in
        let plain : is_trump r.strain w.0 ≡ false = ap (λ z. is_trump z w.0) later.same ∙ same-trump q.strain w.0 (card_of (w.0).suit 0) refl ∙ can.plain (w.0).suit (omega (arith, some_e)) in
        let all = crosses s r m.0 w.0 later.valid empty later.ours plain (λ i opposed. subst (λ z. (count (is_trump z) (hand_on r i) ≡ 0) ⊎ (1 ≤ count_of (w.0).suit (hand_on r i))) (sym later.same) (quiet i opposed (w.0).suit some_e)) m.1 w.1
        (suit-of e m.0 m.2 ∙ sym suit) (over-later w.0 w.1 keep) (total (less y w.0) + k) (λ t crossed. cashes w.0 t keep suit crossed) in
        omega (arith, fewer, all)
      where
        quiet : (i : ℕ) → IsOpposed i → (u : Suit) → 1 ≤ y u → (count (is_trump q.strain) (hand_on r i) ≡ 0) ⊎ (1 ≤ count_of u (hand_on r i))
        quiet i opposed u some = elim (follows-later i opposed) [ inl none ↦ inl none | inr each ↦ inr (let h = each u in omega (arith, h, some)) ]

  -- so it is a plan to cash, to cross and to cash there
  pub cross-plan : (aims : Aims) × IsPlan q.strain q s aims n (total y + k)
  cross-plan = (aims, record { masters = can.masters; begins = starts; cards = cards; lets = lets; beyond = λ r g empty later left_over lets_be nothing. then-partner r g empty later left_over lets_be nothing })

  -- and the side takes all of them
  pub crossed-all : total n + (total y + k) ≤ won s q
  crossed-all = planned q.strain q s cross-plan.0 n (total y + k) start cross-plan.1
