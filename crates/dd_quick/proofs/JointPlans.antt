-- How the two hands of a side spend their trumps on one trick. Once the suit that is led is known, each hand has a card to
-- play, so the two agree: the long hand keeps its trumps where it can, and where it has to play one, one of the highest
-- trumps wins the trick, and only one, unless neither hand has another card to play.
use Rattle.std.proofs.Common.{◌≡◌, ◌≢◌, ℕ, ◌+◌, ◌<◌, ◌≤◌, Bool, true, false, refl, sym, ap, ◌∙◌, arith, List, [], ◌∷◌, ◌++◌, length, length-append, inl, inr}
use Rattle.std.specs.Prelude.{nat_le, ◌&&◌, ◌⊎◌}
use mathlib.Core.Bool.{not}
use mathlib.Core.Path.{ap₂}
use Rattle.std.proofs.lemmas.Bool.{cases_lt, not-true}
use Rattle.dd_cards.specs.declared.suit.Suit.{Suit}
use Rattle.dd_cards.specs.declared.strain.Strain.{Strain}
use Rattle.dd_cards.specs.declared.strain.Strain.TheVariants.{Trump, Notrump}
use Rattle.dd_cards.specs.PlayingCard.{PlayingCard}
use Rattle.dd_cards.specs.Cards.{is_of, card_of, has_card}
use Rattle.dd_cards.proofs.CallerLemmas.{and-left, and-right}
use Rattle.dd_play.specs.Tricks.{is_trump}
use Rattle.dd_play.specs.Covers.{count_of}
use Rattle.dd_play.proofs.CallerLemmas.{count, count-cons, count-has, count-some, flag_of, of-suit', suit-of, trump-suit as same-trump}
use Rattle.dd_quick.proofs.Plays.{count-push}
use Rattle.dd_quick.proofs.Cashing.{is_plain}

-- is it a trump of this rank or a higher one?
abbrev pub is_top : Strain → ℕ → PlayingCard → Bool
is_top strain floor c = is_trump strain c && nat_le floor c.rank

-- is it a trump below this rank?
abbrev pub is_low : Strain → ℕ → PlayingCard → Bool
is_low strain floor c = is_trump strain c && not (nat_le floor c.rank)

-- the highest trumps of a hand and its low ones are all its trumps
tops-lows : (strain : Strain) (floor : ℕ) (cards : List PlayingCard) → count (is_top strain floor) cards + count (is_low strain floor) cards ≡ count (is_trump strain) cards
tops-lows strain floor [] = refl
tops-lows strain floor (c ∷ cards) =
    let a = count-cons (is_top strain floor) c cards in
    let b = count-cons (is_low strain floor) c cards in
    let d = count-cons (is_trump strain) c cards in
    let ih = tops-lows strain floor cards in
    let here = flags (is_trump strain c) (nat_le floor c.rank) in
    omega (arith, a, b, d, ih, here)
  where
    flags : (a b : Bool) → flag_of (a && b) + flag_of (a && not b) ≡ flag_of a
    flags true true = refl
    flags true false = refl
    flags false b = refl

-- a hand's trumps and its other cards are all its cards
pub trumps-plain : (strain : Strain) (cards : List PlayingCard) → count (is_trump strain) cards + count (is_plain strain) cards ≡ length cards
trumps-plain strain [] = refl
trumps-plain strain (c ∷ cards) =
    let a = count-cons (is_trump strain) c cards in
    let b = count-cons (is_plain strain) c cards in
    let ih = trumps-plain strain cards in
    let here = flags (is_trump strain c) in
    omega (arith, a, b, ih, here)
  where
    flags : (a : Bool) → flag_of a + flag_of (not a) ≡ 1
    flags true = refl
    flags false = refl

-- the card follows the suit u if the hand can
abbrev pub Follows : Suit → List PlayingCard → PlayingCard → Type 0
Follows u hand c = (d : PlayingCard) → has_card hand d ≡ true → d.suit ≡ u → c.suit ≡ u

-- the hand has a card to play to the suit u that passes the test
abbrev CanPlay : Suit → List PlayingCard → (PlayingCard → Bool) → Type 0
CanPlay u hand test = (c : PlayingCard) × (has_card hand c ≡ true) × Follows u hand c × (test c ≡ true)

-- all that the hand may play is its trumps
record OnlyTrumpsLeft (strain : Strain) (u : Suit) (hand : List PlayingCard) : Type 0 where
  any : (c : PlayingCard) → is_trump strain c ≡ true → Follows u hand c
  some : 1 ≤ count (is_trump strain) hand
  whole : (is_trump strain (card_of u 0) ≡ true) ⊎ (count (is_trump strain) hand ≡ length hand)

-- where a suit is not trumps, its cards are none
suit-plain : (strain : Strain) (u : Suit) (c : PlayingCard) → c.suit ≡ u → is_trump strain c ≡ is_trump strain (card_of u 0)
suit-plain strain u c e = same-trump strain c (card_of u 0) e

-- trumps are of one suit
trump-suit : (strain : Strain) (u : Suit) (c : PlayingCard) → is_trump strain (card_of u 0) ≡ true → is_trump strain c ≡ true → c.suit ≡ u
trump-suit (Trump t) u c a b = suit-of t c b ∙ sym (suit-of t (card_of u 0) a)
trump-suit Notrump u c a b = absurd (cc)

-- a hand without the suit may play anything
void-follows : (u : Suit) (hand : List PlayingCard) → count_of u hand ≤ 0 → (c : PlayingCard) → Follows u hand c
void-follows u hand none c d has e = absurd (let k = count-has (is_of u) hand d has (of-suit' u d e) in omega (arith, none, k))

-- a hand has a card to play that is no trump, or all that it may play is its trumps
kinds : (strain : Strain) (u : Suit) (hand : List PlayingCard) → 1 ≤ length hand → CanPlay u hand (is_plain strain) ⊎ OnlyTrumpsLeft strain u hand
kinds strain u hand size = elim (cases_lt 0 (count_of u hand)) [ inl l ↦ with-suit (is_trump strain (card_of u 0)) refl (count-some (is_of u) hand l) | inr l ↦ void l (cases_lt 0 (count (is_plain strain) hand)) ]
  where
    Card : Type 0
    Card = (c : PlayingCard) × (has_card hand c ≡ true) × (is_of u c ≡ true)

    with-suit : (b : Bool) → is_trump strain (card_of u 0) ≡ b → Card → CanPlay u hand (is_plain strain) ⊎ OnlyTrumpsLeft strain u hand
    with-suit true e c = inr (record {
      any = λ d t x has suit. trump-suit strain u d e t;
      some = count-has (is_trump strain) hand c.0 c.1 (suit-plain strain u c.0 (suit-of u c.0 c.2) ∙ e);
      whole = inl e;
    })
    with-suit false e c = inl (c.0, c.1, λ d has suit. suit-of u c.0 c.2, ap not (suit-plain strain u c.0 (suit-of u c.0 c.2) ∙ e))

    void : count_of u hand ≤ 0 → (0 < count (is_plain strain) hand) ⊎ (count (is_plain strain) hand ≤ 0) → CanPlay u hand (is_plain strain) ⊎ OnlyTrumpsLeft strain u hand
    void none (inl l) = (let c = count-some (is_plain strain) hand l in inl (c.0, c.1, void-follows u hand none c.0, c.2))
    void none (inr l) =
        let all = trumps-plain strain hand in
        inr (record { any = λ d t. void-follows u hand none d; some = omega (arith, all, l, size); whole = inr (omega (arith, all, l)) })

-- a hand may play each of its trumps, or it has to follow a suit that is not trumps
record HasToFollow (strain : Strain) (u : Suit) (hand : List PlayingCard) : Type 0 where
  card : CanPlay u hand (is_plain strain)
  side : is_trump strain (card_of u 0) ≡ false
  fewer : count (is_trump strain) hand + 1 ≤ length hand

free-or-not : (strain : Strain) (u : Suit) (hand : List PlayingCard) → ((c : PlayingCard) → is_trump strain c ≡ true → Follows u hand c) ⊎ HasToFollow strain u hand
free-or-not strain u hand = elim (cases_lt 0 (count_of u hand)) [ inl l ↦ with-suit (is_trump strain (card_of u 0)) refl (count-some (is_of u) hand l) | inr l ↦ inl (λ c t. void-follows u hand l c) ]
  where
    Card : Type 0
    Card = (c : PlayingCard) × (has_card hand c ≡ true) × (is_of u c ≡ true)

    with-suit : (b : Bool) → is_trump strain (card_of u 0) ≡ b → Card → ((c : PlayingCard) → is_trump strain c ≡ true → Follows u hand c) ⊎ HasToFollow strain u hand
    with-suit true e c = inl (λ d t x has suit. trump-suit strain u d e t)
    with-suit false e c =
        let plain : is_plain strain c.0 ≡ true = ap not (suit-plain strain u c.0 (suit-of u c.0 c.2) ∙ e) in
        let one = count-has (is_plain strain) hand c.0 c.1 plain in
        let all = trumps-plain strain hand in
        inr (record { card = (c.0, c.1, λ d has suit. suit-of u c.0 c.2, plain); side = e; fewer = omega (arith, one, all) })

-- ---- the plan

-- The hand at place i of the trick has played, or it has this card to play: t says whether it is one of the highest trumps,
-- r whether it is a trump.
abbrev pub IsPlanned : Strain → ℕ → Suit → ℕ → List PlayingCard → List PlayingCard → ℕ → ℕ → Type 0
IsPlanned strain floor u i trick hand t r = ((i < length trick) × (t ≡ 0) × (r ≡ 0))
    ⊎ ((length trick ≤ i) × ((c : PlayingCard) × (has_card hand c ≡ true) × Follows u hand c × (flag_of (is_top strain floor c) ≡ t) × (flag_of (is_trump strain c) ≡ r)))

-- the trick, where it has begun, was led in the suit u
abbrev pub IsLed : Suit → List PlayingCard → Type 0
IsLed u [] = Unit {0}
IsLed u (c ∷ rest) = c.suit ≡ u

-- The plan of the hands at the places i (the long one) and j for a trick in the suit u: with w, which is 1 only where one of
-- the highest trumps is on the trick or planned, and what is left after the trick, the side has m tricks.
pub record Plan (strain : Strain) (floor m : ℕ) (u : Suit) (i j : ℕ) (trick long short : List PlayingCard) : Type 0 where
  pub w : ℕ
  pub t : ℕ
  pub r : ℕ
  pub t2 : ℕ
  pub r2 : ℕ
  pub led : IsLed u trick
  pub mine : IsPlanned strain floor u i trick long t r
  pub his : IsPlanned strain floor u j trick short t2 r2
  pub enough : m + t + t2 ≤ w + count (is_top strain floor) long + count (is_top strain floor) short
  pub room : m + r ≤ w + count (is_trump strain) long
  pub one : w ≤ 1
  pub top : w ≤ t + t2 + count (is_top strain floor) trick

-- ---- making it

-- the card that a hand plays is planned
planned : (strain : Strain) (floor : ℕ) (u : Suit) (i : ℕ) (trick hand : List PlayingCard) (c : PlayingCard) → length trick ≤ i → has_card hand c ≡ true → Follows u hand c
    → IsPlanned strain floor u i trick hand (flag_of (is_top strain floor c)) (flag_of (is_trump strain c))
planned strain floor u i trick hand c l has follows = inr (l, (c, has, follows, refl, refl))

-- two hands of as many cards have a plan for a trick to which neither has played
module _ (strain : Strain) (floor m : ℕ) (u : Suit) (i j : ℕ) (trick long short : List PlayingCard) (led : IsLed u trick) (wait_i : length trick ≤ i) (wait_j : length trick ≤ j)
    (size : 1 ≤ length long) (even : length short ≡ length long) (enough : m ≤ count (is_top strain floor) long + count (is_top strain floor) short) (room : m ≤ count (is_trump strain) long) where
  -- of a card of each hand
  by-cards : (w : ℕ) (c d : PlayingCard) → has_card long c ≡ true → Follows u long c → has_card short d ≡ true → Follows u short d
      → m + flag_of (is_top strain floor c) + flag_of (is_top strain floor d) ≤ w + count (is_top strain floor) long + count (is_top strain floor) short
      → m + flag_of (is_trump strain c) ≤ w + count (is_trump strain) long → w ≤ 1 → w ≤ flag_of (is_top strain floor c) + flag_of (is_top strain floor d) → Plan strain floor m u i j trick long short
  by-cards w c d hc fc hd fd tricks trumps most top = record {
    w = w;
    t = flag_of (is_top strain floor c);
    r = flag_of (is_trump strain c);
    t2 = flag_of (is_top strain floor d);
    r2 = flag_of (is_trump strain d);
    led = led;
    mine = planned strain floor u i trick long c wait_i hc fc;
    his = planned strain floor u j trick short d wait_j hd fd;
    enough = tricks;
    room = trumps;
    one = most;
    top = omega (arith, top);
  }

  -- a plan for the trick
  abbrev pub Here : Type 0
  Here = Plan strain floor m u i j trick long short

  -- a flag is at most one
  flag-le : (b : Bool) → flag_of b ≤ 1
  flag-le true = omega arith
  flag-le false = omega arith

  -- a top is a trump
  top-trump : (c : PlayingCard) → is_top strain floor c ≡ true → is_trump strain c ≡ true
  top-trump c e = and-left (is_trump strain c) (nat_le floor c.rank) e

  -- what is no trump is no top
  plain-top : (c : PlayingCard) → is_plain strain c ≡ true → flag_of (is_top strain floor c) ≡ 0
  plain-top c e = ap (λ b. flag_of (b && nat_le floor c.rank)) (not-true (is_trump strain c) e)

  -- a low trump is no top
  low-top : (c : PlayingCard) → is_low strain floor c ≡ true → flag_of (is_top strain floor c) ≡ 0
  low-top c e = ap₂ (λ a b. flag_of (a && b)) (and-left (is_trump strain c) (not (nat_le floor c.rank)) e) (not-true (nat_le floor c.rank) (and-right (is_trump strain c) (not (nat_le floor c.rank)) e))

  -- some card of the short hand may be played
  some-card : (d : PlayingCard) × (has_card short d ≡ true) × Follows u short d
  some-card = elim (kinds strain u short (omega (arith, size, even))) [
    | inl d ↦ (d.0, d.1, d.2)
    | inr only ↦ (let d = count-some (is_trump strain) short only.some in (d.0, d.1, only.any d.0 d.2))
  ]

  -- the short hand may play a card that is no top, or it has to play a top
  spares : ((d : PlayingCard) × (has_card short d ≡ true) × Follows u short d × (flag_of (is_top strain floor d) ≡ 0))
      ⊎ ((d : PlayingCard) × (has_card short d ≡ true) × Follows u short d × (is_top strain floor d ≡ true))
  spares = elim (kinds strain u short (omega (arith, size, even))) [
    | inl d ↦ inl (d.0, d.1, d.2, plain-top d.0 d.3)
    | inr only ↦ elim (cases_lt 0 (count (is_low strain floor) short)) [
      | inl l ↦ (let d = count-some (is_low strain floor) short l in inl (d.0, d.1, only.any d.0 (and-left (is_trump strain d.0) (not (nat_le floor d.0.rank)) d.2), low-top d.0 d.2))
      | inr l ↦ (
          let all = tops-lows strain floor short in
          let some = only.some in
          let d = count-some (is_top strain floor) short (omega (arith, all, l, some)) in
          inr (d.0, d.1, only.any d.0 (top-trump d.0 d.2), d.2))
    ]
  ]

  -- the long hand plays no trump
  plan-plain : CanPlay u long (is_plain strain) → Here
  plan-plain c =
      let d = some-card in
      let a = plain-top c.0 c.3 in
      let b : flag_of (is_trump strain c.0) ≡ 0 = ap flag_of (not-true (is_trump strain c.0) c.3) in
      let most = flag-le (is_top strain floor d.0) in
      by-cards (flag_of (is_top strain floor d.0)) c.0 d.0 c.1 c.2 d.1 d.2 (omega (arith, a, enough)) (omega (arith, b, room)) most (omega (arith, a))

  -- the long hand has only trumps to play, and one of them is a top
  plan-top : OnlyTrumpsLeft strain u long → 1 ≤ count (is_top strain floor) long → Here
  plan-top only l =
      let c = count-some (is_top strain floor) long l in
      let a : flag_of (is_top strain floor c.0) ≡ 1 = ap flag_of c.2 in
      let b : flag_of (is_trump strain c.0) ≡ 1 = ap flag_of (top-trump c.0 c.2) in
      elim spares [
        | inl d ↦ (let z = d.3 in by-cards 1 c.0 d.0 c.1 (only.any c.0 (top-trump c.0 c.2)) d.1 d.2 (omega (arith, a, z, enough)) (omega (arith, b, room)) (omega arith) (omega (arith, a)))
        | inr d ↦ (let z : flag_of (is_top strain floor d.0) ≡ 1 = ap flag_of d.3 in elim (cases_lt 0 (count (is_low strain floor) long)) [
          | inl low ↦ (
              let e = count-some (is_low strain floor) long low in
              let trump = and-left (is_trump strain e.0) (not (nat_le floor e.0.rank)) e.2 in
              let x = low-top e.0 e.2 in
              let y : flag_of (is_trump strain e.0) ≡ 1 = ap flag_of trump in
              by-cards 1 e.0 d.0 e.1 (only.any e.0 trump) d.1 d.2 (omega (arith, x, z, enough)) (omega (arith, y, room)) (omega arith) (omega (arith, z)))
          | inr low ↦ (
              let all = tops-lows strain floor long in
              let one = count-has (is_top strain floor) short d.0 d.1 d.3 in
              by-cards 1 c.0 d.0 c.1 (only.any c.0 (top-trump c.0 c.2)) d.1 d.2 (omega (arith, a, z, all, low, one, room)) (omega (arith, b, room)) (omega arith) (omega (arith, a)))
        ])
      ]

  -- the long hand has only trumps to play, and none of them is a top
  plan-low : OnlyTrumpsLeft strain u long → count (is_top strain floor) long ≤ 0 → Here
  plan-low only none =
      let all = tops-lows strain floor long in
      let some = only.some in
      let c = count-some (is_low strain floor) long (omega (arith, all, none, some)) in
      let trump = and-left (is_trump strain c.0) (not (nat_le floor c.0.rank)) c.2 in
      let a = low-top c.0 c.2 in
      let b : flag_of (is_trump strain c.0) ≡ 1 = ap flag_of trump in
      elim (cases_lt 0 (count (is_top strain floor) short)) [
        | inl l ↦ elim (free-or-not strain u short) [
          | inl free ↦ (
              let d = count-some (is_top strain floor) short l in
              let z : flag_of (is_top strain floor d.0) ≡ 1 = ap flag_of d.2 in
              by-cards 1 c.0 d.0 c.1 (only.any c.0 trump) d.1 (free d.0 (top-trump d.0 d.2)) (omega (arith, a, z, enough)) (omega (arith, b, room)) (omega arith) (omega (arith, z)))
          | inr follow ↦ (
              let d = follow.card in
              let z = plain-top d.0 d.3 in
              let whole : count (is_trump strain) long ≡ length long = elim only.whole [ inl e ↦ absurd (let k : true ≡ false = sym e ∙ follow.side in cc) | inr e ↦ e ] in
              let fewer = follow.fewer in
              let his = tops-lows strain floor short in
              by-cards 0 c.0 d.0 c.1 (only.any c.0 trump) d.1 d.2 (omega (arith, a, z, enough)) (omega (arith, b, enough, none, whole, fewer, his, even)) (omega arith) (omega arith))
        ]
        | inr l ↦ (
            let d = some-card in
            let most = flag-le (is_top strain floor d.0) in
            by-cards (flag_of (is_top strain floor d.0)) c.0 d.0 c.1 (only.any c.0 trump) d.1 d.2 (omega (arith, a, enough)) (omega (arith, b, enough, none, l, some)) most (omega (arith, a)))
      ]

  -- in each case
  pub plan-for : Here
  plan-for = elim (kinds strain u long size) [
    | inl c ↦ plan-plain c
    | inr only ↦ elim (cases_lt 0 (count (is_top strain floor) long)) [ inl l ↦ plan-top only l | inr l ↦ plan-low only l ]
  ]

-- ---- carrying it out

-- how many there are after one card more
longer : (trick : List PlayingCard) (c : PlayingCard) → length (trick ++ c ∷ []) ≡ length trick + 1
longer trick c = length-append trick (c ∷ [])

-- a hand at another place is as it was
planned-on : (strain : Strain) (floor : ℕ) (u : Suit) (i : ℕ) (trick hand : List PlayingCard) (t r : ℕ) (c : PlayingCard) → i ≢ length trick
    → IsPlanned strain floor u i trick hand t r → IsPlanned strain floor u i (trick ++ c ∷ []) hand t r
planned-on strain floor u i trick hand t r c apart (inl l) = (let k = longer trick c in let h = l.0 in inl (omega (arith, k, h), l.1, l.2))
planned-on strain floor u i trick hand t r c apart (inr l) = (let k = longer trick c in let h = l.0 in inr (omega (arith, k, h, apart), l.1))

-- a card c is put on the trick
module _ (strain : Strain) (floor m : ℕ) (u : Suit) (i j : ℕ) (trick long short : List PlayingCard) (c : PlayingCard) (plan : Plan strain floor m u i j trick long short) (led : IsLed u (trick ++ c ∷ [])) where
  -- the long hand plays the card that is planned
  pub long-plays : (rest : List PlayingCard) → i ≡ length trick → j ≢ length trick → flag_of (is_top strain floor c) ≡ plan.t → flag_of (is_trump strain c) ≡ plan.r
      → ((test : PlayingCard → Bool) → count test rest + flag_of (test c) ≡ count test long) → Plan strain floor m u i j (trick ++ c ∷ []) rest short
  long-plays rest here apart top trump taken =
      let k = longer trick c in
      let tops = taken (is_top strain floor) in
      let trumps = taken (is_trump strain) in
      let pushed = count-push (is_top strain floor) trick c in
      let enough = plan.enough in
      let room = plan.room in
      let most = plan.top in
      record {
        w = plan.w;
        t = 0;
        r = 0;
        t2 = plan.t2;
        r2 = plan.r2;
        led = led;
        mine = inl (omega (arith, k, here), refl, refl);
        his = planned-on strain floor u j trick short plan.t2 plan.r2 c apart plan.his;
        enough = omega (arith, enough, tops, top);
        room = omega (arith, room, trumps, trump);
        one = plan.one;
        top = omega (arith, most, pushed, top);
      }

  -- the short hand plays the card that is planned
  pub short-plays : (rest : List PlayingCard) → j ≡ length trick → i ≢ length trick → flag_of (is_top strain floor c) ≡ plan.t2
      → ((test : PlayingCard → Bool) → count test rest + flag_of (test c) ≡ count test short) → Plan strain floor m u i j (trick ++ c ∷ []) long rest
  short-plays rest here apart top taken =
      let k = longer trick c in
      let tops = taken (is_top strain floor) in
      let pushed = count-push (is_top strain floor) trick c in
      let enough = plan.enough in
      let most = plan.top in
      record {
        w = plan.w;
        t = plan.t;
        r = plan.r;
        t2 = 0;
        r2 = 0;
        led = led;
        mine = planned-on strain floor u i trick long plan.t plan.r c apart plan.mine;
        his = inl (omega (arith, k, here), refl, refl);
        enough = omega (arith, enough, tops, top);
        room = plan.room;
        one = plan.one;
        top = omega (arith, most, pushed, top);
      }

  -- an opponent plays a card
  pub other-plays : i ≢ length trick → j ≢ length trick → Plan strain floor m u i j (trick ++ c ∷ []) long short
  other-plays apart_i apart_j =
      let pushed = count-push (is_top strain floor) trick c in
      let most = plan.top in
      record {
        w = plan.w;
        t = plan.t;
        r = plan.r;
        t2 = plan.t2;
        r2 = plan.r2;
        led = led;
        mine = planned-on strain floor u i trick long plan.t plan.r c apart_i plan.mine;
        his = planned-on strain floor u j trick short plan.t2 plan.r2 c apart_j plan.his;
        enough = plan.enough;
        room = plan.room;
        one = plan.one;
        top = omega (arith, most, pushed);
      }

-- a full trick: it has one of the highest trumps where w is 1, and the rest is left
pub record IsDone (strain : Strain) (floor m w : ℕ) (trick long short : List PlayingCard) : Type 0 where
  pub enough : m ≤ w + count (is_top strain floor) long + count (is_top strain floor) short
  pub room : m ≤ w + count (is_trump strain) long
  pub one : w ≤ 1
  pub top : w ≤ count (is_top strain floor) trick

-- the plan of a full trick is carried out
pub plan-done : (strain : Strain) (floor m : ℕ) (u : Suit) (i j : ℕ) (trick long short : List PlayingCard) → i < length trick → j < length trick → (plan : Plan strain floor m u i j trick long short) → IsDone strain floor m plan.w trick long short
plan-done strain floor m u i j trick long short li lj plan = record {
  enough = (let a = plan.enough in omega (arith, a));
  room = (let b = (none long plan.t plan.r i li plan.mine).1 in let a = plan.room in omega (arith, a, b));
  one = plan.one;
  top = (let a = plan.top in let b = (none long plan.t plan.r i li plan.mine).0 in let c = (none short plan.t2 plan.r2 j lj plan.his).0 in omega (arith, a, b, c));
}
  where
    none : (hand : List PlayingCard) (t r x : ℕ) → x < length trick → IsPlanned strain floor u x trick hand t r → (t ≡ 0) × (r ≡ 0)
    none hand t r x l (inl k) = (k.1, k.2)
    none hand t r x l (inr k) = absurd (let h = k.0 in omega (arith, l, h))
