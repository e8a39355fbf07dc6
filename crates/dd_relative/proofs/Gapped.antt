-- one gap closed: the same game, with the cards below the gap a rank higher
use Rattle.std.proofs.Common.{◌≡◌, ◌≢◌, ℕ, ◌+◌, ◌<◌, ◌≤◌, Bool, true, false, refl, sym, ap, ◌∙◌, subst, arith, inl, inr, List, [], ◌∷◌, length}
use Rattle.std.specs.Prelude.{map, ◌||◌}
use mathlib.Core.Path.{ap₂}
use Rattle.std.proofs.lemmas.Bool.{cases_lt, or_left, or_right, or_cases, false_from_ne_true}
use Rattle.dd_cards.specs.declared.seat.Seat.{Seat}
use Rattle.dd_cards.specs.declared.seat.Seat.TheVariants.{North, East, South, West}
use Rattle.dd_cards.specs.declared.strain.Strain.{Strain}
use Rattle.dd_cards.specs.PlayingCard.{PlayingCard}
use Rattle.dd_cards.specs.Ranks.{IsRank}
use Rattle.dd_cards.specs.Cards.{has_card, same_card}
use Rattle.dd_cards.specs.Hands.{FourHands, dealt, hand_of, times, AreHands, IsSet}
use Rattle.dd_cards.specs.Seats.{seat_after}
use Rattle.dd_cards.proofs.CallerLemmas.{both-ways, same_card-eq, same_card-self, real-set, times-cons, times-set, times-has}
use Rattle.dd_play.proofs.CallerLemmas.{flag_of, board-hands}
use Rattle.dd_play.specs.Board.{Board, board_of, IsBoard}
use Rattle.dd_rank.specs.Alike.{IsAlikeBy}
use Rattle.dd_rank.specs.Depths.{all_cards}
use Rattle.dd_relative.specs.Gaps.{raised, lowered, moved_hands, moved_up}
use Rattle.dd_relative.specs.Relative.{IsRelative, led_by_north}
use Rattle.dd_relative.specs.Gapped.{stands, IsGapped, IsClosing}
use Rattle.dd_relative.proofs.Boards.{board-even, held, start-board}
use Rattle.dd_relative.proofs.Cards.{is-apart, lowered-apart, lowered-most, lowered-order, lowered-suit, moved-back, moved-fewer, moved-forth, moved-has, moved-length, moved-set, lowered-raised, raised-lowered, raised-order, raised-real, raised-suit}
use Rattle.dd_rank.proofs.CallerLemmas.{in-all}

-- likeness goes on
pub alike-then : (k : ℕ) (to from to' from' : PlayingCard → PlayingCard) (p q r : Board) → IsAlikeBy k to from p q → IsAlikeBy 0 to' from' q r → IsAlikeBy k (λ c. to' (to c)) (λ d. from (from' d)) p r
alike-then k to from to' from' p q r a b = record {
  start_p = a.start_p;
  start_q = b.start_q;
  strain = b.strain ∙ a.strain;
  first = b.first ∙ a.first;
  to_suit = λ c. b.to_suit (to c) ∙ a.to_suit c;
  from_suit = λ d. a.from_suit (from' d) ∙ b.from_suit d;
  forth = λ x c h. (
      let f = a.forth x c h in
      let g = b.forth (seat_after x k) (to c) f.0 in
      (g.0, ap from g.1 ∙ f.1));
  back = λ x d h. (
      let g = b.back (seat_after x k) d h in
      let f = a.back x (from' d) g.0 in
      (f.0, ap to' f.1 ∙ g.1));
  order = λ x y c d hx hy e.
      b.order (seat_after x k) (seat_after y k) (to c) (to d) (a.forth x c hx).0 (a.forth y d hy).0 (a.to_suit c ∙ e ∙ sym (a.to_suit d))
      ∙ a.order x y c d hx hy e;
}

-- ---- the other gaps
-- where they stand when those below this one move up
pub record AreMoved (g : PlayingCard) (gaps next : List PlayingCard) : Type 0 where
  pub has : (d : PlayingCard) → IsRank d.rank → has_card next d ≡ has_card gaps (lowered g d)
  pub real : (d : PlayingCard) → has_card next d ≡ true → IsRank d.rank
  pub once : (d : PlayingCard) → times next d ≤ 1

-- .. as a set
pub moved-gaps : (g : PlayingCard) (gaps : List PlayingCard) → AreMoved g gaps (moved_up g gaps)
moved-gaps g gaps = record {
  has = moved-has g gaps;
  real = λ d h. real-set (moved_up g gaps) d (moved-set g gaps) h;
  once = λ d. times-set (moved_up g gaps) d (moved-set g gaps);
}

-- .. one by one
same-raised : (g b d : PlayingCard) → (b.suit ≡ g.suit → b.rank ≢ g.rank) → 1 ≤ d.rank → same_card (raised g b) d ≡ same_card b (lowered g d)
same-raised g b d apart some =
    both-ways _ _
    (λ h. let e : lowered g d ≡ b = ap (lowered g) (sym (same_card-eq (raised g b) d h)) ∙ lowered-raised g b apart in ap (same_card b) e ∙ same_card-self b)
    (λ h. let e : raised g b ≡ d = ap (raised g) (same_card-eq b (lowered g d) h) ∙ raised-lowered g d some in ap (λ x. same_card x d) e ∙ same_card-self d)

raised-has : (g : PlayingCard) (gaps : List PlayingCard) (d : PlayingCard) → ((b : PlayingCard) → has_card gaps b ≡ true → b.suit ≡ g.suit → b.rank ≢ g.rank) → 1 ≤ d.rank
    → has_card (map (raised g) gaps) d ≡ has_card gaps (lowered g d)
raised-has g [] d apart some = refl
raised-has g (b ∷ gaps) d apart some =
    ap₂ (λ x y. x || y) (same-raised g b d (apart b (or_left _ _ (same_card-self b))) some) (raised-has g gaps d (λ e h. apart e (or_right _ _ h)) some)

raised-times : (g : PlayingCard) (gaps : List PlayingCard) (d : PlayingCard) → ((b : PlayingCard) → has_card gaps b ≡ true → b.suit ≡ g.suit → b.rank ≢ g.rank) → 1 ≤ d.rank
    → times (map (raised g) gaps) d ≡ times gaps (lowered g d)
raised-times g [] d apart some = refl
raised-times g (b ∷ gaps) d apart some =
    times-cons (raised g b) (map (raised g) gaps) d
    ∙ ap₂ (λ x y. flag_of x + y) (same-raised g b d (apart b (or_left _ _ (same_card-self b))) some) (raised-times g gaps d (λ e h. apart e (or_right _ _ h)) some)
    ∙ sym (times-cons b gaps (lowered g d))

raised-back : (g : PlayingCard) (gaps : List PlayingCard) (d : PlayingCard) → IsRank g.rank → ((b : PlayingCard) → has_card gaps b ≡ true → IsRank b.rank) → has_card (map (raised g) gaps) d ≡ true → IsRank d.rank
raised-back g [] d top real h = absurd (cc)
raised-back g (b ∷ gaps) d top real h = elim (or_cases (same_card (raised g b) d) (has_card (map (raised g) gaps) d) h) [
  | inl here ↦ subst (λ (x : PlayingCard). IsRank x.rank) (same_card-eq (raised g b) d here) (raised-real g b top (real b (or_left _ _ (same_card-self b))))
  | inr later ↦ raised-back g gaps d top (λ e k. real e (or_right _ _ k)) later
]

-- a card that a list lacks never stands in it
times-none : (cards : List PlayingCard) (d : PlayingCard) → (has_card cards d ≡ true → ⊥) → times cards d ≤ 1
times-none [] d none = omega arith
times-none (c ∷ cards) d none = go (times-none cards d (λ h. none (or_right _ _ h))) (same_card c d) refl
  where
    go : times cards d ≤ 1 → (b : Bool) → same_card c d ≡ b → times (c ∷ cards) d ≤ 1
    go rest true e = absurd (none (or_left _ _ e))
    go rest false e =
        let a : times (c ∷ cards) d ≡ flag_of (same_card c d) + times cards d = times-cons c cards d in
        let f : flag_of (same_card c d) ≡ 0 = ap flag_of e in
        omega (arith, a, f, rest)

pub raised-gaps : (g : PlayingCard) (gaps : List PlayingCard) → IsRank g.rank → has_card gaps g ≡ false → ((b : PlayingCard) → has_card gaps b ≡ true → IsRank b.rank) → ((b : PlayingCard) → times gaps b ≤ 1)
    → AreMoved g gaps (map (raised g) gaps)
raised-gaps g gaps top none real once = record {
  has = λ d there. raised-has g gaps d apart (let low = there.0 in omega (arith, low));
  real = λ d h. raised-back g gaps d top real h;
  once = λ d. elim (cases_lt d.rank 1) [
    | inr some ↦ (let e = raised-times g gaps d apart some in let o = once (lowered g d) in omega (arith, e, o))
    | inl zero_rank ↦ times-none (map (raised g) gaps) d (λ h. let r = (raised-back g gaps d top real h).0 in omega (arith, r, zero_rank))
  ];
}
  where
    apart : (b : PlayingCard) → has_card gaps b ≡ true → b.suit ≡ g.suit → b.rank ≢ g.rank
    apart b h = is-apart g gaps b none h

-- ---- one gap
module _ (l s t f gaps : List PlayingCard) (strain : Strain) (g : PlayingCard) (gapped : IsGapped (led_by_north l s t f strain) (g ∷ gaps)) where
  first-gap : has_card (g ∷ gaps) g ≡ true
  first-gap = or_left _ _ (same_card-self g)

  gap-real : IsRank g.rank
  gap-real = gapped.real g first-gap

  pub gap-none : (x : Seat) → has_card (hand_of (dealt l s t f) x) g ≡ false
  gap-none x = false_from_ne_true _ (λ h. let k : true ≡ false = sym (in-all (led_by_north l s t f strain) x g h) ∙ gapped.apart g first-gap in cc)

  pub gaps-none : has_card gaps g ≡ false
  gaps-none = false_from_ne_true _ (λ h.
      let a : 1 ≤ times gaps g = times-has gaps g h in
      let b : times (g ∷ gaps) g ≡ flag_of (same_card g g) + times gaps g = times-cons g gaps g in
      let c : flag_of (same_card g g) ≡ 1 = ap flag_of (same_card-self g) in
      let d : times (g ∷ gaps) g ≤ 1 = gapped.once g in
      omega (arith, a, b, c, d))

  hand-set : (x : Seat) → IsSet (hand_of (dealt l s t f) x)
  hand-set x = gapped.board.sets x

  at : (x : Seat) → hand_of (dealt (moved_up g l) (moved_up g s) (moved_up g t) (moved_up g f)) x ≡ moved_up g (hand_of (dealt l s t f) x)
  at North = refl
  at East = refl
  at South = refl
  at West = refl

  -- a card of a hand afterwards
  back-at : (x : Seat) (d : PlayingCard) → has_card (hand_of (dealt (moved_up g l) (moved_up g s) (moved_up g t) (moved_up g f)) x) d ≡ true
      → IsRank d.rank × (has_card (hand_of (dealt l s t f) x) (lowered g d) ≡ true) × (raised g (lowered g d) ≡ d)
  back-at x d h = moved-back g (hand_of (dealt l s t f) x) d (ap (λ cards. has_card cards d) (sym (at x)) ∙ h)

  -- .. and where one of before is afterwards
  forth-at : (x : Seat) (c : PlayingCard) → has_card (hand_of (dealt l s t f) x) c ≡ true
      → (has_card (hand_of (dealt (moved_up g l) (moved_up g s) (moved_up g t) (moved_up g f)) x) (raised g c) ≡ true) × (lowered g (raised g c) ≡ c)
  forth-at x c h = (let m = moved-forth g (hand_of (dealt l s t f) x) c (hand-set x) gap-real (gap-none x) h in (ap (λ cards. has_card cards (raised g c)) (at x) ∙ m.0, m.1))

  next-hands : AreHands (dealt (moved_up g l) (moved_up g s) (moved_up g t) (moved_up g f))
  next-hands = record {
    sets = λ x. subst IsSet (sym (at x)) (moved-set g (hand_of (dealt l s t f) x));
    disjoint = λ c x y hx hy. (board-hands (led_by_north l s t f strain) gapped.board).disjoint (lowered g c) x y (back-at x c hx).1 (back-at y c hy).1;
  }

  next-board : IsBoard (led_by_north (moved_up g l) (moved_up g s) (moved_up g t) (moved_up g f) strain)
  next-board =
      let even = board-even l s t f strain gapped.board in
      let long = λ (x : Seat). moved-length g (hand_of (dealt l s t f) x) (hand-set x) gap-real (gap-none x) in
      start-board (moved_up g l) (moved_up g s) (moved_up g t) (moved_up g f) strain next-hands
      (long East ∙ even.0 ∙ sym (long North)) (long South ∙ even.1 ∙ sym (long North)) (long West ∙ even.2 ∙ sym (long North))

  -- a card or a gap afterwards was one
  stood : (next : List PlayingCard) → AreMoved g gaps next → (d : PlayingCard) → IsRank d.rank
      → stands (led_by_north (moved_up g l) (moved_up g s) (moved_up g t) (moved_up g f) strain) next d ≡ stands (led_by_north l s t f strain) (g ∷ gaps) (lowered g d)
  stood next moved d real =
      let low = real.0 in
      let all : has_card (all_cards (led_by_north (moved_up g l) (moved_up g s) (moved_up g t) (moved_up g f) strain)) d ≡ has_card (all_cards (led_by_north l s t f strain)) (lowered g d) =
      held (moved_up g l) (moved_up g s) (moved_up g t) (moved_up g f) strain d
      ∙ ap₂ (λ a b. a || b) (ap₂ (λ a b. a || b) (ap₂ (λ a b. a || b) (moved-has g l d real) (moved-has g s d real)) (moved-has g t d real)) (moved-has g f d real)
      ∙ sym (held l s t f strain (lowered g d)) in
      let rest : has_card next d ≡ has_card (g ∷ gaps) (lowered g d) = moved.has d real ∙ ap (λ b. b || has_card gaps (lowered g d)) (sym (lowered-apart g d (omega (arith, low)))) in
      ap₂ (λ a b. a || b) all rest

  -- what stands is real
  stands-real : (l s t f gaps : List PlayingCard) (c : PlayingCard) → AreHands (dealt l s t f) → ((c : PlayingCard) → has_card gaps c ≡ true → IsRank c.rank)
      → stands (led_by_north l s t f strain) gaps c ≡ true → IsRank c.rank
  stands-real l s t f gaps c hands real h = elim (or_cases _ _ h) [
    | inl card ↦ elim (or_cases _ _ (sym (held l s t f strain c) ∙ card)) [
      | inl three ↦ elim (or_cases _ _ three) [
        | inl two ↦ elim (or_cases _ _ two) [ inl n ↦ real-set l c (hands.sets North) n | inr e ↦ real-set s c (hands.sets East) e ]
        | inr south ↦ real-set t c (hands.sets South) south
      ]
      | inr w ↦ real-set f c (hands.sets West) w
    ]
    | inr gap ↦ real c gap
  ]

  pub closes : (next : List PlayingCard) → AreMoved g gaps next → IsGapped (led_by_north (moved_up g l) (moved_up g s) (moved_up g t) (moved_up g f) strain) next
  closes next moved = record {
    board = next-board;
    start = refl;
    once = moved.once;
    real = moved.real;
    apart = λ c h. (
        let real_c = moved.real c h in
        let gap : has_card gaps (lowered g c) ≡ true = sym (moved.has c real_c) ∙ h in
        false_from_ne_true _ (λ k.
        let all : has_card (all_cards (led_by_north l s t f strain)) (lowered g c) ≡ true =
        held l s t f strain (lowered g c)
        ∙ ap₂ (λ a b. a || b) (ap₂ (λ a b. a || b) (ap₂ (λ a b. a || b) (sym (moved-has g l c real_c)) (sym (moved-has g s c real_c))) (sym (moved-has g t c real_c))) (sym (moved-has g f c real_c))
        ∙ sym (held (moved_up g l) (moved_up g s) (moved_up g t) (moved_up g f) strain c) ∙ k in
        let none : has_card (all_cards (led_by_north l s t f strain)) (lowered g c) ≡ false = gapped.apart (lowered g c) (or_right _ _ gap) in
        let no : true ≡ false = sym all ∙ none in cc));
    closed = λ c d h suits less most. (
        let real_c = stands-real (moved_up g l) (moved_up g s) (moved_up g t) (moved_up g f) next c next-hands moved.real h in
        let low = real_c.0 in
        let real_d : IsRank d.rank = (omega (arith, low, less), most) in
        let top = lowered-most g d in
        stood next moved d real_d ∙ gapped.closed (lowered g c) (lowered g d) (sym (stood next moved c real_c) ∙ h) (lowered-suit g d ∙ suits ∙ sym (lowered-suit g c)) (lowered-order g c d (sym suits) less) (omega (arith, top, most)));
  }

  pub closed-alike : IsAlikeBy 0 (raised g) (lowered g) (led_by_north l s t f strain) (led_by_north (moved_up g l) (moved_up g s) (moved_up g t) (moved_up g f) strain)
  closed-alike = record {
    start_p = refl;
    start_q = refl;
    strain = refl;
    first = refl;
    to_suit = raised-suit g;
    from_suit = lowered-suit g;
    forth = forth-at;
    back = λ x d h. (let b = back-at x d h in (b.1, b.2));
    order = λ x y c d hx hy e. raised-order g c d (is-apart g (hand_of (dealt l s t f) x) c (gap-none x) hx) (is-apart g (hand_of (dealt l s t f) y) d (gap-none y) hy) e;
  }

-- the same gaps as another list
pub gapped-as : (p : Board) (gaps list : List PlayingCard) → ((c : PlayingCard) → has_card list c ≡ has_card gaps c) → ((c : PlayingCard) → times list c ≤ 1) → IsGapped p gaps → IsGapped p list
gapped-as p gaps list same once gapped = record {
  board = gapped.board;
  start = gapped.start;
  once = once;
  real = λ c h. gapped.real c (sym (same c) ∙ h);
  apart = λ c h. gapped.apart c (sym (same c) ∙ h);
  closed = λ c d h suits less most. stood d ∙ gapped.closed c d (sym (stood c) ∙ h) suits less most;
}
  where
    stood : (c : PlayingCard) → stands p list c ≡ stands p gaps c
    stood c = ap (λ b. has_card (all_cards p) c || b) (same c)

-- with no gap left
pub closed-up : (l s t f gaps : List PlayingCard) (strain : Strain) → gaps ≡ [] → IsGapped (led_by_north l s t f strain) gaps → IsRelative (led_by_north l s t f strain)
closed-up l s t f gaps strain none gapped = record {
  board = gapped.board;
  start = refl;
  leader = refl;
  closed = λ c d h suits less most. elim (or_cases _ _ (gapped.closed c d (or_left _ _ h) suits less most)) [
    | inl card ↦ card
    | inr gap ↦ absurd (let no : false ≡ true = sym (ap (λ cards. has_card cards d) none) ∙ gap in cc)
  ];
}

-- a board is like itself
pub alike-same : (p : Board) → p.trick ≡ [] → IsAlikeBy 0 (λ c. c) (λ d. d) p p
alike-same p start = record {
  start_p = start;
  start_q = start;
  strain = refl;
  first = refl;
  to_suit = λ c. refl;
  from_suit = λ d. refl;
  forth = λ x c h. (h, refl);
  back = λ x d h. (h, refl);
  order = λ x y c d hx hy e. refl;
}

-- one gap more is closed
pub closing-step : (entry : Board) (l s t f gaps next : List PlayingCard) (strain : Strain) (g : PlayingCard) → AreMoved g gaps next → IsClosing entry (led_by_north l s t f strain) (g ∷ gaps)
    → IsClosing entry (led_by_north (moved_up g l) (moved_up g s) (moved_up g t) (moved_up g f) strain) next
closing-step entry l s t f gaps next strain g moved c =
    let a = c.alike in
    record {
      gapped = closes l s t f gaps strain g c.gapped next moved;
      alike = (λ x. raised g (a.0 x), λ y. a.1 (lowered g y), alike-then 0 a.0 a.1 (raised g) (lowered g) entry (led_by_north l s t f strain) (led_by_north (moved_up g l) (moved_up g s) (moved_up g t) (moved_up g f) strain) a.2 (closed-alike l s t f gaps strain g c.gapped));
    }

-- .. by hands that code makes
pub closed-step : (entry : Board) (l s t f a b c d gaps rest left : List PlayingCard) (strain : Strain) (g : PlayingCard) → IsClosing entry (led_by_north l s t f strain) gaps → gaps ≡ g ∷ rest
    → a ≡ moved_up g l → b ≡ moved_up g s → c ≡ moved_up g t → d ≡ moved_up g f → left ≡ moved_up g rest → IsClosing entry (led_by_north a b c d strain) left
closed-step entry l s t f a b c d gaps rest left strain g closing popped ea eb ec ed el =
    rw (ea, eb, ec, ed, el) (closing-step entry l s t f rest (moved_up g rest) strain g (moved-gaps g rest) (subst (λ (x : List PlayingCard). IsClosing entry (led_by_north l s t f strain) x) popped closing))

-- .. of gaps that are given one by one
pub closed-one : (entry : Board) (hands made : FourHands) (gaps next : List PlayingCard) (strain : Strain) (g : PlayingCard) → IsClosing entry (board_of hands strain North []) (g ∷ gaps) → made ≡ moved_hands g hands
    → next ≡ map (raised g) gaps → IsClosing entry (board_of made strain North []) next
closed-one entry hands made gaps next strain g closing em en =
    let c = closing.gapped in
    let none = gaps-none hands.north hands.east hands.south hands.west gaps strain g c in
    let moved = raised-gaps g gaps (c.real g (or_left _ _ (same_card-self g))) none (λ b h. c.real b (or_right _ _ h)) rest_once in
    rw (em, en) (closing-step entry hands.north hands.east hands.south hands.west gaps (map (raised g) gaps) strain g moved closing)
  where
    rest_once : (b : PlayingCard) → times gaps b ≤ 1
    rest_once b = (let o = closing.gapped.once b in let a : times (g ∷ gaps) b ≡ flag_of (same_card g b) + times gaps b = times-cons g gaps b in omega (arith, o, a))

-- no hand has a card there
pub closing-none : (entry : Board) (hands : FourHands) (gaps : List PlayingCard) (strain : Strain) (g : PlayingCard) → IsClosing entry (board_of hands strain North []) (g ∷ gaps) → (x : Seat) → has_card (hand_of hands x) g ≡ false
closing-none entry hands gaps strain g closing = gap-none hands.north hands.east hands.south hands.west gaps strain g closing.gapped

-- at the start none has been
pub closing-start : (entry : Board) (gaps : List PlayingCard) → IsGapped entry gaps → IsClosing entry entry gaps
closing-start entry gaps gapped = record { gapped = gapped; alike = (λ c. c, λ d. d, alike-same entry gapped.start) }

-- .. four of them
pub one-over : (hands made : FourHands) (strain : Strain) (a b c d b' c' d' : PlayingCard) → IsGapped (board_of hands strain North []) (a ∷ b ∷ c ∷ d ∷ []) → made ≡ moved_hands a hands
    → b' ≡ raised a b → c' ≡ raised a c → d' ≡ raised a d → IsClosing (board_of hands strain North []) (board_of made strain North []) (b' ∷ c' ∷ d' ∷ [])
one-over hands made strain a b c d b' c' d' gapped em eb ec ed =
    closed-one (board_of hands strain North []) hands made (b ∷ c ∷ d ∷ []) (b' ∷ c' ∷ d' ∷ []) strain a (closing-start (board_of hands strain North []) (a ∷ b ∷ c ∷ d ∷ []) gapped) em (rw (eb, ec, ed) refl)

pub two-over : (entry : Board) (hands made : FourHands) (strain : Strain) (b c d c' d' : PlayingCard) → IsClosing entry (board_of hands strain North []) (b ∷ c ∷ d ∷ []) → made ≡ moved_hands b hands
    → c' ≡ raised b c → d' ≡ raised b d → IsClosing entry (board_of made strain North []) (c' ∷ d' ∷ [])
two-over entry hands made strain b c d c' d' closing em ec ed = closed-one entry hands made (c ∷ d ∷ []) (c' ∷ d' ∷ []) strain b closing em (rw (ec, ed) refl)

pub three-over : (entry : Board) (hands made : FourHands) (strain : Strain) (c d d' : PlayingCard) → IsClosing entry (board_of hands strain North []) (c ∷ d ∷ []) → made ≡ moved_hands c hands → d' ≡ raised c d
    → IsClosing entry (board_of made strain North []) (d' ∷ [])
three-over entry hands made strain c d d' closing em ed = closed-one entry hands made (d ∷ []) (d' ∷ []) strain c closing em (rw ed refl)

pub four-over : (entry : Board) (hands made : FourHands) (strain : Strain) (d : PlayingCard) → IsClosing entry (board_of hands strain North []) (d ∷ []) → made ≡ moved_hands d hands → IsClosing entry (board_of made strain North []) []
four-over entry hands made strain d closing em = closed-one entry hands made [] [] strain d closing em refl

-- a gap stands once among them
pub popped-none : (entry : Board) (l s t f gaps rest : List PlayingCard) (strain : Strain) (g : PlayingCard) → IsClosing entry (led_by_north l s t f strain) gaps → gaps ≡ g ∷ rest → has_card rest g ≡ false
popped-none entry l s t f gaps rest strain g closing popped = gaps-none l s t f rest strain g (subst (λ (x : List PlayingCard). IsGapped (led_by_north l s t f strain) x) popped closing.gapped)

-- there are fewer gaps
pub fewer-gaps : (gaps rest left : List PlayingCard) (g : PlayingCard) → gaps ≡ g ∷ rest → left ≡ moved_up g rest → length left < length gaps
fewer-gaps gaps rest left g popped el = (let a = ap length popped in let b = ap length el in let c = moved-fewer g rest in omega (arith, a, b, c))
