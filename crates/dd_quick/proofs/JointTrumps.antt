-- Joint trumps: of the trumps of some rank or higher, the two hands of a side take a trick for each of theirs, as long as one of
-- the two hands has a trump for each, but for as many tricks as the others have such trumps. Before each trick the two agree
-- what to play (`JointPlans`): whoever leads, either nothing is lost, or one of these trumps wins the trick, and no more than
-- one of the side's and one trump of its long hand are gone; and where it is another's that wins, that one is gone too.
use Rattle.std.proofs.Common.{◌≡◌, ◌≢◌, ℕ, zero, suc, ◌+◌, ◌-◌, ◌%◌, ◌<◌, ◌≤◌, Bool, true, false, refl, sym, ap, ◌∙◌, subst, arith, List, [], ◌∷◌, ◌++◌, length, length-append, get_or, inl, inr}
use Rattle.std.specs.Prelude.{map, nat_le, nat_lt, ◌&&◌, ◌==◌, ◌⊎◌}
use Rattle.std.specs.List.{list_all}
use mathlib.Core.Path.{ap₂}
use Rattle.std.proofs.lemmas.Bool.{leb-true, le-leb, eqb-true, cases_lt}
use Rattle.std.proofs.lemmas.Bool.Decides.{eqb_tells, nat_tests}
use Rattle.std.proofs.lemmas.List.{length-map, get_or-map}
use Rattle.std.proofs.lemmas.List.Sums.{passes_at_first}
use Rattle.std.proofs.lemmas.List.Folds.{list_all-map}
use Rattle.dd_cards.specs.declared.seat.Seat.{Seat}
use Rattle.dd_cards.specs.declared.seat.Seat.TheVariants.{North, East, South, West}
use Rattle.dd_cards.specs.declared.suit.Suit.{Suit}
use Rattle.dd_cards.specs.declared.strain.Strain.{Strain}
use Rattle.dd_cards.specs.PlayingCard.{PlayingCard}
use Rattle.dd_cards.specs.Ranks.{IsRank}
use Rattle.dd_cards.specs.Cards.{is_of, has_card}
use Rattle.dd_cards.specs.Seats.{seat_code, seat_after}
use Rattle.dd_cards.proofs.CallerLemmas.{and-left, and-right, length-filter-le, passes, seat_code-injective, seat_code-lt}
use Rattle.dd_cards.specs.Sides.{is_side}
use Rattle.dd_cards.specs.declared.side.Side.{Side}
use Rattle.dd_play.specs.Board.{Board, IsBoard, cards_at, cards_left, mover, tricks_left}
use Rattle.dd_play.specs.Tricks.{is_trump, winning_place, winner_of}
use Rattle.dd_play.specs.Strength.{strength, strongest_place}
use Rattle.dd_play.specs.Play.{completes, trick_with, after, following}
use Rattle.dd_play.specs.Simulations.{IsLegal}
use Rattle.dd_play.specs.Won.{won, trick_for}
use Rattle.dd_play.proofs.CallerLemmas.{after-code, can, cards-tricks, cards_left-after, count, count-has, count-some, flag_of, hand-others, has-at, has-first, legal-in, legal-leads, own-card, place-within, real-trick, strain-after, strength_by, trick-after, trick-closed, was-in, winning-strongest, won_with}
use Rattle.dd_quick.proofs.Plays.{whoever, count-own, count-push, place-push}
use Rattle.dd_quick.proofs.JointPlans.{is_top, Follows, IsLed, Plan, IsPlanned, plan-for, long-plays, short-plays, other-plays, plan-done}

-- each trump of this rank or a higher one that is still in play is of one of the two seats, or was played by it to this trick,
-- or it is one of theirs
pub record OwnTops (strain : Strain) (floor : ℕ) (theirs : PlayingCard → Bool) (a b : Seat) (p : Board) : Type 0 where
  pub valid : IsBoard p
  pub same : p.strain ≡ strain
  pub held : (x : Seat) (c : PlayingCard) → has_card (cards_at p x) c ≡ true → is_top strain floor c ≡ true → ((x ≡ a) ⊎ (x ≡ b)) ⊎ (theirs c ≡ true)
  pub played : (i : ℕ) (d : PlayingCard) → i < length p.trick → is_top strain floor (get_or p.trick i d) ≡ true → ((seat_after p.first i ≡ a) ⊎ (seat_after p.first i ≡ b)) ⊎ (theirs (get_or p.trick i d) ≡ true)

-- ---- cards that are in play

-- how many cards of the four hands pass
abbrev pub in_hands : (PlayingCard → Bool) → Board → ℕ
in_hands test p = count test (cards_at p North) + count test (cards_at p East) + count test (cards_at p South) + count test (cards_at p West)

-- and with those on the trick
abbrev pub in_play : (PlayingCard → Bool) → Board → ℕ
in_play test p = in_hands test p + count test p.trick

-- the hands, from any seat on
pub around : (test : PlayingCard → Bool) (p : Board) (a : Seat) → in_hands test p ≡ count test (cards_at p a) + count test (cards_at p (seat_after a 1)) + count test (cards_at p (seat_after a 2)) + count test (cards_at p (seat_after a 3))
around test p North = omega arith
around test p East = omega arith
around test p South = omega arith
around test p West = omega arith

-- a play takes a card out of the hands
hands-after : (test : PlayingCard → Bool) (p : Board) (c : PlayingCard) → IsBoard p → IsLegal p c → in_hands test (after p c) + flag_of (test c) ≡ in_hands test p
hands-after test p c valid has = go (mover p) refl
  where
    mine : (x : Seat) → mover p ≡ x → count test (cards_at (after p c) x) + flag_of (test c) ≡ count test (cards_at p x)
    mine x is = subst (λ y. count test (cards_at (after p c) y) + flag_of (test c) ≡ count test (cards_at p y)) is (count-own test p c valid has)

    other : (x y : Seat) → mover p ≡ x → seat_code y ≢ seat_code x → count test (cards_at (after p c) y) ≡ count test (cards_at p y)
    other x y is apart = ap (count test) (hand-others p c y (λ e. apart (e ∙ ap seat_code is)))

    go : (x : Seat) → mover p ≡ x → in_hands test (after p c) + flag_of (test c) ≡ in_hands test p
    go North is = (let m = mine North is in let x = other North East is (λ e. absurd (cc)) in let y = other North South is (λ e. absurd (cc)) in let z = other North West is (λ e. absurd (cc)) in omega (arith, m, x, y, z))
    go East is = (let m = mine East is in let x = other East North is (λ e. absurd (cc)) in let y = other East South is (λ e. absurd (cc)) in let z = other East West is (λ e. absurd (cc)) in omega (arith, m, x, y, z))
    go South is = (let m = mine South is in let x = other South North is (λ e. absurd (cc)) in let y = other South East is (λ e. absurd (cc)) in let z = other South West is (λ e. absurd (cc)) in omega (arith, m, x, y, z))
    go West is = (let m = mine West is in let x = other West North is (λ e. absurd (cc)) in let y = other West East is (λ e. absurd (cc)) in let z = other West South is (λ e. absurd (cc)) in omega (arith, m, x, y, z))

-- to the trick, and after its last card those of the trick are gone
play-after : (test : PlayingCard → Bool) (p : Board) (c : PlayingCard) → IsBoard p → IsLegal p c → completes p ≡ false → in_play test (after p c) ≡ in_play test p
play-after test p c valid has e =
    let hands = hands-after test p c valid has in
    let on : count test (after p c).trick ≡ count test (p.trick ++ c ∷ []) = ap (count test) (trick-after p c e).0 in
    let pushed = count-push test p.trick c in
    omega (arith, hands, on, pushed)

trick-gone : (test : PlayingCard → Bool) (p : Board) (c : PlayingCard) → IsBoard p → IsLegal p c → completes p ≡ true → in_play test (after p c) + count test (trick_with p c) ≡ in_play test p
trick-gone test p c valid has e =
    let hands = hands-after test p c valid has in
    let on : count test (after p c).trick ≡ 0 = ap (count test) (trick-closed p c e).0 in
    let pushed = count-push test p.trick c in
    omega (arith, hands, on, pushed)

-- ---- who wins a trick with one of them on it

-- a card that is as strong as one of them is one of them
strong-top : (strain : Strain) (led : Suit) (floor : ℕ) (c w : PlayingCard) → IsRank w.rank → is_top strain floor c ≡ true → strength strain led c ≤ strength strain led w → is_top strain floor w ≡ true
strong-top strain led floor c w real top over = go (is_trump strain w) (is_of led w) refl refl
  where
    mine : strength strain led c ≡ 20 + c.rank
    mine = ap (λ t. strength_by t (is_of led c) c.rank) (and-left (is_trump strain c) (nat_le floor c.rank) top)

    high : floor ≤ c.rank
    high = leb-true floor c.rank (and-right (is_trump strain c) (nat_le floor c.rank) top)

    go : (t l : Bool) → is_trump strain w ≡ t → is_of led w ≡ l → is_top strain floor w ≡ true
    go true l e f =
        let his : strength strain led w ≡ 20 + w.rank = ap (λ t. strength_by t (is_of led w) w.rank) e in
        ap₂ (λ a b. a && b) e (le-leb floor w.rank (omega (arith, mine, high, over, his)))
    go false true e f =
        let his : strength strain led w ≡ w.rank = ap₂ (λ t l. strength_by t l w.rank) e f in
        absurd (let most = real.1 in omega (arith, mine, over, his, most))
    go false false e f =
        let his : strength strain led w ≡ 0 = ap₂ (λ t l. strength_by t l w.rank) e f in
        absurd (omega (arith, mine, over, his))

-- the winning card of a trick with one of them is one of them
pub top-wins : (strain : Strain) (floor : ℕ) (trick : List PlayingCard) (c d : PlayingCard) → ((x : PlayingCard) → has_card trick x ≡ true → IsRank x.rank) → has_card trick c ≡ true → is_top strain floor c ≡ true
    → (winning_place strain trick < length trick) × (is_top strain floor (get_or trick (winning_place strain trick) d) ≡ true)
top-wins strain floor [] c d real has top = absurd (cc)
top-wins strain floor (led ∷ rest) c d real has top =
    subst (λ w. (w < length trick) × (is_top strain floor (get_or trick w d) ≡ true)) (sym (winning-strongest strain trick real)) (within, best)
  where
    trick : List PlayingCard
    trick = led ∷ rest

    f : PlayingCard → ℕ
    f x = strength strain led.suit x

    w : ℕ
    w = strongest_place strain (led ∷ rest)

    inside : w < length (map f trick)
    inside = place-within (f led) (map f rest)

    within : w < length trick
    within = (let l = length-map trick f in omega (arith, inside, l))

    none-over : list_all (λ y. nat_le y (get_or (map f trick) w 0)) (map f trick) ≡ true
    none-over = passes_at_first (λ z. list_all (λ y. nat_le y z) (map f trick)) (map f trick) 0 inside

    over : strength strain led.suit c ≤ strength strain led.suit (get_or trick w d)
    over =
        let each : list_all (λ x. nat_le (f x) (get_or (map f trick) w 0)) trick ≡ true = sym (list_all-map (λ y. nat_le y (get_or (map f trick) w 0)) f trick) ∙ none-over in
        let mine : nat_le (f c) (get_or (map f trick) w 0) ≡ true = passes (λ x. nat_le (f x) (get_or (map f trick) w 0)) c trick each has in
        leb-true (f c) (f (get_or trick w d)) (ap (nat_le (f c)) (sym (get_or-map f trick w d 0 within)) ∙ mine)

    best : is_top strain floor (get_or trick w d) ≡ true
    best = strong-top strain led.suit floor c (get_or trick w d) (real (get_or trick w d) (has-at trick w d within)) top over

-- ---- one play

-- any hand plays a card c
module _ (strain : Strain) (floor : ℕ) (theirs : PlayingCard → Bool) (a b : Seat) (s : Side) (p : Board) (c : PlayingCard) (ours_a : is_side s a ≡ true) (ours_b : is_side s b ≡ true) (own : OwnTops strain floor theirs a b p) (has : IsLegal p c) where
  -- is the card of theirs, or was it played from one of the two hands at this place?
  abbrev IsOf : ℕ → PlayingCard → Type 0
  IsOf i d = ((seat_after p.first i ≡ a) ⊎ (seat_after p.first i ≡ b)) ⊎ (theirs d ≡ true)

  -- the trick with the card on it has none of them but those of the two and theirs
  played-with : (i : ℕ) (d : PlayingCard) → i < length (trick_with p c) → is_top strain floor (get_or (trick_with p c) i d) ≡ true → IsOf i (get_or (trick_with p c) i d)
  played-with i d l t = elim (place-push p.trick c d i l) [
    | inl r ↦ subst (IsOf i) (sym r.1) (own.played i d r.0 (ap (is_top strain floor) (sym r.1) ∙ t))
    | inr r ↦ subst (λ k. IsOf k (get_or (trick_with p c) i d)) (sym r.0) (subst (IsOf (length p.trick)) (sym r.1) (own.held (mover p) c (own-card p c has) (ap (is_top strain floor) (sym r.1) ∙ t)))
  ]

  -- a complete trick with one of them is the side's, or one of theirs is gone
  wins : completes p ≡ true → 1 ≤ count (is_top strain floor) (trick_with p c) → in_play theirs (after p c) + 1 ≤ in_play theirs p + trick_for s p c
  wins e many =
      let some = count-some (is_top strain floor) (trick_with p c) many in
      let best = top-wins strain floor (trick_with p c) some.0 c (real-trick p c own.valid has) some.1 some.2 in
      let gone = trick-gone theirs p c own.valid has e in
      let w : ℕ = winning_place strain (trick_with p c) in
      elim (played-with w c best.0 best.1) [
        | inl ours ↦ (
            let side : is_side s (seat_after p.first w) ≡ true = elim ours [ inl k ↦ ap (is_side s) k ∙ ours_a | inr k ↦ ap (is_side s) k ∙ ours_b ] in
            let one : trick_for s p c ≡ 1 = ap₂ (λ a b. flag_of (a && b)) e (ap (λ x. is_side s (winner_of (trick_with p c) p.first x)) own.same ∙ side) in
            omega (arith, gone, one))
        | inr his ↦ (let one = count-has theirs (trick_with p c) (get_or (trick_with p c) w c) (has-at (trick_with p c) w c best.0) his in omega (arith, gone, one))
      ]

  -- no more of theirs are in play
  fewer : in_play theirs (after p c) ≤ in_play theirs p
  fewer = go (completes p) refl
    where
      go : (x : Bool) → completes p ≡ x → in_play theirs (after p c) ≤ in_play theirs p
      go true e = (let k = trick-gone theirs p c own.valid has e in omega (arith, k))
      go false e = (let k = play-after theirs p c own.valid has e in omega (arith, k))

  -- after the play they are of the two or theirs as before
  own-after : OwnTops strain floor theirs a b (after p c)
  own-after = record {
    valid = (legal-leads p c own.valid has).valid;
    same = strain-after p c ∙ own.same;
    held = λ x d hd t. own.held x d (was-in p c own.valid x d hd) t;
    played = go (completes p) refl;
  }
    where
      go : (x : Bool) → completes p ≡ x → (i : ℕ) (d : PlayingCard) → i < length (after p c).trick → is_top strain floor (get_or (after p c).trick i d) ≡ true → ((seat_after (after p c).first i ≡ a) ⊎ (seat_after (after p c).first i ≡ b)) ⊎ (theirs (get_or (after p c).trick i d) ≡ true)
      go true e i d l t = absurd (let none : length (after p c).trick ≡ 0 = ap length (trick-closed p c e).0 in omega (arith, none, l))
      go false e i d l t =
          let on : (after p c).trick ≡ trick_with p c = (trick-after p c e).0 in
          let long : length (after p c).trick ≡ length (trick_with p c) = ap length on in
          let here : IsOf i (get_or (after p c).trick i d) = subst (λ trick. IsOf i (get_or trick i d)) (sym on) (played-with i d (omega (arith, long, l)) (ap (λ cards. is_top strain floor (get_or cards i d)) (sym on) ∙ t)) in
          subst (λ f. ((seat_after f i ≡ a) ⊎ (seat_after f i ≡ b)) ⊎ (theirs (get_or (after p c).trick i d) ≡ true)) (sym (trick-after p c e).1) here

-- a hand has no more cards than all four
pub hand-in : (p : Board) (h : Seat) → length (cards_at p h) ≤ cards_left p
hand-in p North = omega arith
hand-in p East = omega arith
hand-in p South = omega arith
hand-in p West = omega arith

-- ---- a trick by the plan

-- a card that follows the suit led is legal
follows-legal : (u : Suit) (trick hand : List PlayingCard) (c : PlayingCard) → IsLed u trick → has_card hand c ≡ true → Follows u hand c → has_card (following trick hand) c ≡ true
follows-legal u [] hand c led has follows = has
follows-legal u (e ∷ rest) hand c led has follows = legal-in (e ∷ rest) hand c has (λ d own suit. follows d own (suit ∙ led) ∙ sym led)

-- a trick that was led stays so, and one that was not is led by its first card
led-push : (u : Suit) (trick : List PlayingCard) (c : PlayingCard) → IsLed u trick → (length trick ≡ 0 → c.suit ≡ u) → IsLed u (trick ++ c ∷ [])
led-push u [] c led lead = lead refl
led-push u (e ∷ rest) c led lead = led

-- a hand with cards has a card
some-card : (hand : List PlayingCard) → 1 ≤ length hand → (c : PlayingCard) × (has_card hand c ≡ true)
some-card [] h = absurd (omega (arith, h))
some-card (c ∷ hand) h = (c, has-first c hand)

-- each seat is at some place of the trick
pub place-of : (h x : Seat) → (i : ℕ) × (i < 4) × (x ≡ seat_after h i)
place-of h x =
    let a = seat_code-lt h in
    let b = seat_code-lt x in
    let i : ℕ = (4 + seat_code x - seat_code h) % 4 in
    let on = after-code h i in
    (i, omega arith, sym (seat_code-injective (seat_after h i) x (omega (arith, a, b, on))))

-- The two seats are at these places of the trick, and have a plan for it. Where it has not begun, one of them leads, and has
-- a card of the suit.
record InPlan (strain : Strain) (floor m : ℕ) (theirs : PlayingCard → Bool) (a b : Seat) (p : Board) : Type 0 where
  own : OwnTops strain floor theirs a b p
  u : Suit
  i : ℕ
  j : ℕ
  less_i : i < 4
  less_j : j < 4
  at_i : a ≡ seat_after p.first i
  at_j : b ≡ seat_after p.first j
  lead : length p.trick ≡ 0 → ((i ≡ 0) ⊎ (j ≡ 0)) × ((d : PlayingCard) × (has_card (cards_at p (mover p)) d ≡ true) × (d.suit ≡ u))
  plan : Plan strain floor m u i j p.trick (cards_at p a) (cards_at p b)

-- two seats of a side
module _ (strain : Strain) (floor : ℕ) (theirs : PlayingCard → Bool) (a b : Seat) (s : Side) (ours_a : is_side s a ≡ true) (ours_b : is_side s b ≡ true) (apart : seat_code a ≢ seat_code b) where
  -- the tricks of the side, and the trumps that are theirs
  abbrev sum : Board → ℕ
  sum p = won s p + in_play theirs p

  -- with n cards in the hands, the side takes before a trick what the theorem says
  abbrev StartAt : ℕ → Type 0
  StartAt n = (m : ℕ) (p : Board) → cards_left p ≡ n → p.trick ≡ [] → OwnTops strain floor theirs a b p → m ≤ count (is_top strain floor) (cards_at p a) + count (is_top strain floor) (cards_at p b) → m ≤ count (is_trump strain) (cards_at p a) → m ≤ sum p

  -- and what is planned
  abbrev MidAt : ℕ → Type 0
  MidAt n = (m : ℕ) (p : Board) → cards_left p ≡ n → InPlan strain floor m theirs a b p → m ≤ sum p

  -- a card that keeps the plan
  leaves : (n m : ℕ) (p : Board) (c : PlayingCard) → MidAt n → StartAt n → cards_left p ≡ suc n → (now : InPlan strain floor m theirs a b p) → IsLegal p c
      → Plan strain floor m now.u now.i now.j (p.trick ++ c ∷ []) (cards_at (after p c) a) (cards_at (after p c) b) → m ≤ won_with s p c + in_play theirs p
  leaves n m p c mid start size now has plan = go (completes p) refl
    where
      long : length (p.trick ++ c ∷ []) ≡ length p.trick + 1
      long = length-append p.trick (c ∷ [])

      few : cards_left (after p c) + 1 ≡ cards_left p
      few = cards_left-after p c now.own.valid has

      go : (x : Bool) → completes p ≡ x → m ≤ won_with s p c + in_play theirs p
      go false e =
          let on = trick-after p c e in
          let size' : length (after p c).trick ≡ length (p.trick ++ c ∷ []) = ap length on.0 in
          let held = play-after theirs p c now.own.valid has e in
          let later : m ≤ sum (after p c) = mid m (after p c) (let f = few in omega (arith, f, size)) (record {
            own = own-after strain floor theirs a b s p c ours_a ours_b now.own has;
            u = now.u;
            i = now.i;
            j = now.j;
            less_i = now.less_i;
            less_j = now.less_j;
            at_i = now.at_i ∙ ap (λ f. seat_after f now.i) (sym on.1);
            at_j = now.at_j ∙ ap (λ f. seat_after f now.j) (sym on.1);
            lead = λ none. absurd (let l = long in omega (arith, none, size', l));
            plan = subst (λ trick. Plan strain floor m now.u now.i now.j trick (cards_at (after p c) a) (cards_at (after p c) b)) (sym on.0) plan;
          }) in
          omega (arith, later, held)
      go true e =
          let three : length p.trick ≡ 3 = eqb-true (length p.trick) 3 e in
          let l = long in
          let li = now.less_i in
          let lj = now.less_j in
          let done = plan-done strain floor m now.u now.i now.j (p.trick ++ c ∷ []) (cards_at (after p c) a) (cards_at (after p c) b) (omega (arith, l, three, li)) (omega (arith, l, three, lj)) plan in
          let enough = done.enough in
          let room = done.room in
          let one = done.one in
          let top = done.top in
          let f = few in
          let held = fewer strain floor theirs a b s p c ours_a ours_b now.own has in
          let later : m - plan.w ≤ sum (after p c) = start (m - plan.w) (after p c) (omega (arith, f, size)) (trick-closed p c e).0 (own-after strain floor theirs a b s p c ours_a ours_b now.own has) (omega (arith, enough)) (omega (arith, room)) in
          elim (cases_lt 0 plan.w) [
            | inl k ↦ (let won_it = wins strain floor theirs a b s p c ours_a ours_b now.own has e (omega (arith, k, top)) in omega (arith, won_it, later, one))
            | inr k ↦ omega (arith, k, later, held)
          ]

  -- by the plan one card is played
  mid-step : (n : ℕ) → MidAt n → StartAt n → MidAt (suc n)
  mid-step n mid start m p size now = elim (eqb_tells now.i (length p.trick)) [
    | inl here ↦ long-turn here.1
    | inr other ↦ elim (eqb_tells now.j (length p.trick)) [ inl here ↦ short-turn other.1 here.1 | inr another ↦ others-turn other.1 another.1 ]
  ]
    where
      -- the seats are at two places
      two : now.i ≢ now.j
      two = λ e. apart (ap seat_code (now.at_i ∙ ap (seat_after p.first) e ∙ sym now.at_j))

      -- a seat at another place than the mover's is not the mover
      not-mover : (x : Seat) (k : ℕ) → x ≡ seat_after p.first k → k < 4 → k ≢ length p.trick → seat_code x ≢ seat_code (mover p)
      not-mover x k at less differs =
          let e : seat_code x ≡ seat_code (seat_after p.first k) = ap seat_code at in
          let f = after-code p.first k in
          let g = after-code p.first (length p.trick) in
          let short = now.own.valid.short in
          omega (arith, e, f, g, short, less, differs)

      -- the card of the hand that leads is of the suit
      led-by : (x : Seat) (c : PlayingCard) → mover p ≡ x → Follows now.u (cards_at p x) c → IsLed now.u (p.trick ++ c ∷ [])
      led-by x c is follows = led-push now.u p.trick c now.plan.led (λ none. (let d = (now.lead none).1 in follows d.0 (ap (λ y. has_card (cards_at p y) d.0) (sym is) ∙ d.1) d.2))

      -- a planned card is legal
      legal-by : (x : Seat) (c : PlayingCard) → mover p ≡ x → has_card (cards_at p x) c ≡ true → Follows now.u (cards_at p x) c → IsLegal p c
      legal-by x c is has follows = ap (λ y. has_card (following p.trick (cards_at p y)) c) is ∙ follows-legal now.u p.trick (cards_at p x) c now.plan.led has follows

      -- the mover's hand without the card
      taken-by : (x : Seat) (c : PlayingCard) → mover p ≡ x → IsLegal p c → (test : PlayingCard → Bool) → count test (cards_at (after p c) x) + flag_of (test c) ≡ count test (cards_at p x)
      taken-by x c is has test = subst (λ y. count test (cards_at (after p c) y) + flag_of (test c) ≡ count test (cards_at p y)) is (count-own test p c now.own.valid has)

      long-turn : now.i ≡ length p.trick → m ≤ sum p
      long-turn here = go now.plan.mine
        where
          is : mover p ≡ a
          is = ap (seat_after p.first) (sym here) ∙ sym now.at_i

          go : IsPlanned strain floor now.u now.i p.trick (cards_at p a) now.plan.t now.plan.r → m ≤ sum p
          go (inl l) = absurd (let k = l.0 in omega (arith, k, here))
          go (inr l) =
              let c = l.1.0 in
              let has = legal-by a c is l.1.1 l.1.2 in
              let other : now.j ≢ length p.trick = λ e. two (here ∙ sym e) in
              let plan = long-plays strain floor m now.u now.i now.j p.trick (cards_at p a) (cards_at p b) c now.plan (led-by a c is l.1.2) (cards_at (after p c) a) here other l.1.3 l.1.4 (taken-by a c is has) in
              let his : cards_at (after p c) b ≡ cards_at p b = hand-others p c b (not-mover b now.j now.at_j now.less_j other) in
              let enough = leaves n m p c mid start size now has (subst (λ hand. Plan strain floor m now.u now.i now.j (p.trick ++ c ∷ []) (cards_at (after p c) a) hand) (sym his) plan) in
              let reach : won_with s p c ≤ won s p = can s p c now.own.valid (ap (is_side s) is ∙ ours_a) has in
              omega (arith, enough, reach)

      short-turn : now.i ≢ length p.trick → now.j ≡ length p.trick → m ≤ sum p
      short-turn other here = go now.plan.his
        where
          is : mover p ≡ b
          is = ap (seat_after p.first) (sym here) ∙ sym now.at_j

          go : IsPlanned strain floor now.u now.j p.trick (cards_at p b) now.plan.t2 now.plan.r2 → m ≤ sum p
          go (inl l) = absurd (let k = l.0 in omega (arith, k, here))
          go (inr l) =
              let c = l.1.0 in
              let has = legal-by b c is l.1.1 l.1.2 in
              let plan = short-plays strain floor m now.u now.i now.j p.trick (cards_at p a) (cards_at p b) c now.plan (led-by b c is l.1.2) (cards_at (after p c) b) here other l.1.3 (taken-by b c is has) in
              let mine : cards_at (after p c) a ≡ cards_at p a = hand-others p c a (not-mover a now.i now.at_i now.less_i other) in
              let enough = leaves n m p c mid start size now has (subst (λ hand. Plan strain floor m now.u now.i now.j (p.trick ++ c ∷ []) hand (cards_at (after p c) b)) (sym mine) plan) in
              let reach : won_with s p c ≤ won s p = can s p c now.own.valid (ap (is_side s) is ∙ ours_b) has in
              omega (arith, enough, reach)

      others-turn : now.i ≢ length p.trick → now.j ≢ length p.trick → m ≤ sum p
      others-turn other another = omega (arith, each)
        where
          each : m - in_play theirs p ≤ won s p
          each = whoever s p (m - in_play theirs p) now.own.valid some (λ c has. (let k = by c has in omega (arith, k)))
            where
              some : 1 ≤ tricks_left p
              some = (let four = cards-tricks p now.own.valid in omega (arith, four, size))

              by : (c : PlayingCard) → IsLegal p c → m ≤ won_with s p c + in_play theirs p
              by c has =
                  let plan = other-plays strain floor m now.u now.i now.j p.trick (cards_at p a) (cards_at p b) c now.plan
                  (led-push now.u p.trick c now.plan.led (λ none. absurd (elim (now.lead none).0 [ inl e ↦ other (e ∙ sym none) | inr e ↦ another (e ∙ sym none) ]))) other another in
                  let mine : cards_at (after p c) a ≡ cards_at p a = hand-others p c a (not-mover a now.i now.at_i now.less_i other) in
                  let his : cards_at (after p c) b ≡ cards_at p b = hand-others p c b (not-mover b now.j now.at_j now.less_j another) in
                  leaves n m p c mid start size now has (subst (λ hand. Plan strain floor m now.u now.i now.j (p.trick ++ c ∷ []) hand (cards_at (after p c) b)) (sym mine)
                  (subst (λ hand. Plan strain floor m now.u now.i now.j (p.trick ++ c ∷ []) (cards_at p a) hand) (sym his) plan))

  -- before a trick the two make their plan, at once where one of them leads, else when the suit is led
  start-step : (n : ℕ) → MidAt n → MidAt (suc n) → StartAt (suc n)
  start-step n mid here m p size start own enough room = go
    where
      at_a : (i : ℕ) × (i < 4) × (a ≡ seat_after p.first i)
      at_a = place-of p.first a

      at_b : (i : ℕ) × (i < 4) × (b ≡ seat_after p.first i)
      at_b = place-of p.first b

      none : length p.trick ≡ 0
      none = ap length start

      some : 1 ≤ tricks_left p
      some = (let four = cards-tricks p own.valid in let k = none in omega (arith, four, size, k))

      not-under : (a b : ℕ) → b ≡ 0 → nat_lt a b ≡ false
      not-under a b h = grind (arith, nat_tests)

      -- each hand has as many cards
      full : (x : Seat) (i : ℕ) → i < 4 → x ≡ seat_after p.first i → length (cards_at p x) ≡ tricks_left p
      full x i l at =
          let e = own.valid.even i l in
          let flag : flag_of (nat_lt i (length p.trick)) ≡ 0 = ap flag_of (not-under i (length p.trick) none) in
          let same : length (cards_at p x) ≡ length (cards_at p (seat_after p.first i)) = ap (λ y. length (cards_at p y)) at in
          omega (arith, e, flag, same)

      full_a : length (cards_at p a) ≡ tricks_left p
      full_a = full a at_a.0 at_a.1 at_a.2

      full_b : length (cards_at p b) ≡ tricks_left p
      full_b = full b at_b.0 at_b.1 at_b.2

      -- one of the two leads
      ours : (x : Seat) → mover p ≡ x → length (cards_at p x) ≡ tricks_left p → (at_a.0 ≡ 0) ⊎ (at_b.0 ≡ 0) → m ≤ sum p
      ours x is many first =
          let k = some in
          let d = some-card (cards_at p x) (omega (arith, many, k)) in
          let fa = full_a in
          let fb = full_b in
          let z = none in
          here m p size (record {
            own = own;
            u = d.0.suit;
            i = at_a.0;
            j = at_b.0;
            less_i = at_a.1;
            less_j = at_b.1;
            at_i = at_a.2;
            at_j = at_b.2;
            lead = λ e. (first, (d.0, ap (λ y. has_card (cards_at p y) d.0) is ∙ d.1, refl));
            plan = plan-for strain floor m d.0.suit at_a.0 at_b.0 p.trick (cards_at p a) (cards_at p b) (subst (IsLed d.0.suit) (sym start) tt) (omega (arith, z)) (omega (arith, z)) (omega (arith, fa, k)) (omega (arith, fa, fb)) enough room;
          })

      opens : completes p ≡ false
      opens = ap (λ trick. length trick == 3) start

      -- the first place is the mover's
      leader : mover p ≡ p.first
      leader = ap (λ k. seat_after p.first k) none

      -- an opponent leads
      others : at_a.0 ≢ 0 → at_b.0 ≢ 0 → m ≤ sum p
      others away_a away_b = (let k : m - in_play theirs p ≤ won s p = whoever s p (m - in_play theirs p) own.valid some (λ c has.
          let on = trick-after p c opens in
          let led : (after p c).trick ≡ c ∷ [] = on.0 ∙ ap (λ trick. trick ++ c ∷ []) start in
          let one : length (after p c).trick ≡ 1 = ap length led in
          let mine : cards_at (after p c) a ≡ cards_at p a = hand-others p c a (not-first a at_a.0 at_a.1 at_a.2 away_a) in
          let his : cards_at (after p c) b ≡ cards_at p b = hand-others p c b (not-first b at_b.0 at_b.1 at_b.2 away_b) in
          let many_a : length (cards_at (after p c) a) ≡ tricks_left p = ap length mine ∙ full_a in
          let many_b : length (cards_at (after p c) b) ≡ tricks_left p = ap length his ∙ full_b in
          let tops_a : count (is_top strain floor) (cards_at (after p c) a) ≡ count (is_top strain floor) (cards_at p a) = ap (count (is_top strain floor)) mine in
          let tops_b : count (is_top strain floor) (cards_at (after p c) b) ≡ count (is_top strain floor) (cards_at p b) = ap (count (is_top strain floor)) his in
          let trumps : count (is_trump strain) (cards_at (after p c) a) ≡ count (is_trump strain) (cards_at p a) = ap (count (is_trump strain)) mine in
          let k = some in
          let few : cards_left (after p c) + 1 ≡ cards_left p = cards_left-after p c own.valid has in
          let held = fewer strain floor theirs a b s p c ours_a ours_b own has in
          let later : m ≤ sum (after p c) = mid m (after p c) (omega (arith, few, size)) (record {
            own = own-after strain floor theirs a b s p c ours_a ours_b own has;
            u = c.suit;
            i = at_a.0;
            j = at_b.0;
            less_i = at_a.1;
            less_j = at_b.1;
            at_i = at_a.2 ∙ ap (λ f. seat_after f at_a.0) (sym on.1);
            at_j = at_b.2 ∙ ap (λ f. seat_after f at_b.0) (sym on.1);
            lead = λ e. absurd (omega (arith, e, one));
            plan = plan-for strain floor m c.suit at_a.0 at_b.0 (after p c).trick (cards_at (after p c) a) (cards_at (after p c) b) (subst (IsLed c.suit) (sym led) refl) (omega (arith, one, away_a)) (omega (arith, one, away_b))
                (omega (arith, many_a, k)) (omega (arith, many_a, many_b)) (omega (arith, tops_a, tops_b, enough)) (omega (arith, trumps, room));
          }) in
          omega (arith, later, held)) in omega (arith, k))
        where
          not-first : (x : Seat) (i : ℕ) → i < 4 → x ≡ seat_after p.first i → i ≢ 0 → seat_code x ≢ seat_code (mover p)
          not-first x i l at away =
              let e : seat_code x ≡ seat_code (seat_after p.first i) = ap seat_code at in
              let f = after-code p.first i in
              let g = seat_code-lt p.first in
              let h : seat_code (mover p) ≡ seat_code p.first = ap seat_code leader in
              omega (arith, e, f, g, h, l, away)

      go : m ≤ sum p
      go = elim (eqb_tells at_a.0 0) [
        | inl e ↦ ours a (leader ∙ sym (at_a.2 ∙ ap (seat_after p.first) e.1)) full_a (inl e.1)
        | inr away_a ↦ elim (eqb_tells at_b.0 0) [
          | inl e ↦ ours b (leader ∙ sym (at_b.2 ∙ ap (seat_after p.first) e.1)) full_b (inr e.1)
          | inr away_b ↦ others away_a.1 away_b.1
        ]
      ]

  -- with no cards left nothing is claimed, and nothing planned
  start-none : StartAt 0
  start-none m p size start own enough room =
      let hand : length (cards_at p a) ≤ cards_left p = hand-in p a in
      let trumps = length-filter-le (is_trump strain) (cards_at p a) in
      let nothing : m ≡ 0 = omega (arith, hand, trumps, room, size) in
      omega (arith, nothing)

  mid-none : MidAt 0
  mid-none m p size now = go now.plan.mine
    where
      go : IsPlanned strain floor now.u now.i p.trick (cards_at p a) now.plan.t now.plan.r → m ≤ sum p
      go (inl l) = absurd (let four = cards-tricks p now.own.valid in let short = now.own.valid.short in let k = l.0 in omega (arith, four, short, size, k))
      go (inr l) = absurd (
          let one = count-has (λ c. true) (cards_at p a) l.1.0 l.1.1 refl in
          let few = length-filter-le (λ c. true) (cards_at p a) in
          let hand : length (cards_at p a) ≤ cards_left p = hand-in p a in
          omega (arith, one, few, hand, size))

  -- however many cards are left
  both-at : (n : ℕ) → StartAt n × MidAt n
  both-at zero = (start-none, mid-none)
  both-at (suc n) = (let before = both-at n in let now = mid-step n before.1 before.0 in (start-step n before.1 now, now))

-- before a trick, the side takes a trick for each of m of the highest trumps that its two hands have, where one of the hands
-- has so many trumps, but for as many as there are of theirs
pub joint-taken : (strain : Strain) (floor m : ℕ) (theirs : PlayingCard → Bool) (a b : Seat) (s : Side) (p : Board) → is_side s a ≡ true → is_side s b ≡ true → seat_code a ≢ seat_code b → OwnTops strain floor theirs a b p → p.trick ≡ []
    → m ≤ count (is_top strain floor) (cards_at p a) + count (is_top strain floor) (cards_at p b) → m ≤ count (is_trump strain) (cards_at p a) → m ≤ won s p + in_play theirs p
joint-taken strain floor m theirs a b s p ours_a ours_b apart own start enough room = (both-at strain floor theirs a b s ours_a ours_b apart (cards_left p)).0 m p refl start own enough room
