-- A trick that second or fourth hand wins. A card of a suit is led whose highest card an opponent h of the leader holds: h wins
-- the trick with that card whatever comes, and has the lead; the other hands have followed as they would have to its lead.
use Rattle.std.proofs.Common.{◌≡◌, ◌≢◌, ℕ, zero, suc, ◌+◌, ◌<◌, ◌≤◌, Bool, true, false, refl, sym, ap, ◌∙◌, subst, arith, List, [], ◌∷◌, ◌++◌, length, inl, inr}
use Rattle.std.specs.Prelude.{filter, nat_le, nat_lt, ◌&&◌, ◌==◌, ◌⊎◌}
use Rattle.std.specs.List.{list_all, position_or_len}
use mathlib.Core.Bool.{not}
use mathlib.Core.Path.{ap₂}
use Rattle.std.proofs.lemmas.Bool.{leb-true, lt-ltb, false_from_ne_true}
use Rattle.std.proofs.lemmas.Bool.Decides.{eqb_tells}
use Rattle.dd_cards.specs.declared.seat.Seat.{Seat}
use Rattle.dd_cards.specs.declared.seat.Seat.TheVariants.{North, East, South, West}
use Rattle.dd_cards.specs.declared.strain.Strain.{Strain}
use Rattle.dd_cards.specs.declared.strain.Strain.TheVariants.{Trump, Notrump}
use Rattle.dd_cards.specs.PlayingCard.{PlayingCard}
use Rattle.dd_cards.specs.Cards.{is_of, same_card, has_card, without}
use Rattle.dd_cards.specs.Seats.{seat_code, seat_after}
use Rattle.dd_cards.specs.Sides.{side_of, is_side}
use Rattle.dd_cards.proofs.CallerLemmas.{and-left, and-right, passes, same_card-eq, seat_code-lt}
use Rattle.dd_play.specs.Board.{Board, IsBoard, cards_at, tricks_left, mover}
use Rattle.dd_play.specs.Tricks.{deciding, is_highest_of, is_trump, or_else, winner_of, winning_place}
use Rattle.dd_play.specs.Play.{after, completes, following, trick_with}
use Rattle.dd_play.specs.Simulations.{IsLegal}
use Rattle.dd_play.specs.Won.{trick_for, won}
use Rattle.dd_play.proofs.CallerLemmas.{Obeys, after-code, can, count, count-some, filter-has, filter-passes, flag_of, hand-others, hand-own, has-first, in-push, in-rest, legal-in, legal-leads, legal-out, of-suit', own-card, strain-after, suit-of, trick-after, trick-closed, was-in, won_with, trump-suit as same-trump}
use Rattle.dd_quick.specs.SecondHand.{unled}
use Rattle.dd_quick.proofs.FirstCard.{no-trump, none-higher}
use Rattle.dd_quick.proofs.Cashing.{FollowsSuit, IsMaster, hand_on}
use Rattle.dd_quick.proofs.Hands.{IsOpposed}
use Rattle.dd_quick.proofs.LeadBack.{count-back, is-back, leaders-back, led-back, others-back}
use Rattle.dd_quick.proofs.Plays.{count-own, whoever}
use Rattle.dd_quick.proofs.Sound.{own-side, partners-side}

-- ---- the card that wins the trick

-- a card does not beat m: it is no trump unless m is one, and of m's suit it is lower
abbrev pub IsBeaten : Strain → PlayingCard → PlayingCard → Type 0
IsBeaten strain m e = (is_trump strain e ≡ true → is_trump strain m ≡ true) × (e.suit ≡ m.suit → e.rank < m.rank)

-- the first card that passes
first-at : (test : PlayingCard → Bool) (before behind : List PlayingCard) (m : PlayingCard) → ((e : PlayingCard) → has_card before e ≡ true → test e ≡ false) → test m ≡ true → position_or_len test (before ++ m ∷ behind) ≡ length before
first-at test [] behind m none here = rw here refl
first-at test (e ∷ before) behind m none here = rw (none e (has-first e before)) (let ih = first-at test before behind m (λ d h. none d (in-rest e d before h)) here in omega (arith, ih))

-- these cards or the same ones
or-same : (cards : List PlayingCard) → or_else cards cards ≡ cards
or-same [] = refl
or-same (c ∷ cards) = refl

-- the cards that decide the trick are those of m's suit, where a card of that suit was led
deciding-led : (strain : Strain) (m c : PlayingCard) (rest : List PlayingCard) → c.suit ≡ m.suit → ((e : PlayingCard) → has_card (c ∷ rest) e ≡ true → is_trump strain e ≡ true → is_trump strain m ≡ true) → deciding strain (c ∷ rest) ≡ filter (is_of m.suit) (c ∷ rest)
deciding-led strain m c rest suit each = go (is_trump strain m) refl
  where
    led : filter (is_of c.suit) (c ∷ rest) ≡ filter (is_of m.suit) (c ∷ rest)
    led = ap (λ u. filter (is_of u) (c ∷ rest)) suit

    trumps : (s : Strain) → is_trump s m ≡ true → filter (is_trump s) (c ∷ rest) ≡ filter (is_of m.suit) (c ∷ rest)
    trumps (Trump t) e = ap (λ u. filter (is_of u) (c ∷ rest)) (sym (suit-of t m e))
    trumps Notrump e = absurd (cc)

    go : (b : Bool) → is_trump strain m ≡ b → deciding strain (c ∷ rest) ≡ filter (is_of m.suit) (c ∷ rest)
    go true e = ap₂ or_else (trumps strain e) led ∙ or-same (filter (is_of m.suit) (c ∷ rest))
    go false e = ap₂ or_else (no-trump strain (c ∷ rest) (λ d h. false_from_ne_true (is_trump strain d) (λ t. let k : false ≡ true = sym e ∙ each d h t in cc))) led

-- a card of a list is before m, m, or behind it
around : (before behind : List PlayingCard) (m e : PlayingCard) → has_card (before ++ m ∷ behind) e ≡ true → (m ≡ e) ⊎ ((has_card before e ≡ true) ⊎ (has_card behind e ≡ true))
around [] behind m e h = go (same_card m e) refl
  where
    go : (b : Bool) → same_card m e ≡ b → (m ≡ e) ⊎ ((has_card [] e ≡ true) ⊎ (has_card behind e ≡ true))
    go true f = inl (same_card-eq m e f)
    go false f = inr (inr (rw f at h))
around (x ∷ before) behind m e h = go (same_card x e) refl (around before behind m e)
  where
    go : (b : Bool) → same_card x e ≡ b → (has_card (before ++ m ∷ behind) e ≡ true → (m ≡ e) ⊎ ((has_card before e ≡ true) ⊎ (has_card behind e ≡ true))) → (m ≡ e) ⊎ ((has_card (x ∷ before) e ≡ true) ⊎ (has_card behind e ≡ true))
    go true f ih = inr (inl (rw f refl))
    go false f ih = elim (ih (rw f at h)) [ inl k ↦ inl k | inr k ↦ elim k [ inl l ↦ inr (inl (rw (f, l) refl)) | inr l ↦ inr (inr l) ] ]

-- m is where it stands
here-is : (before behind : List PlayingCard) (m : PlayingCard) → has_card (before ++ m ∷ behind) m ≡ true
here-is [] behind m = has-first m behind
here-is (x ∷ before) behind m = in-rest x m (before ++ m ∷ behind) (here-is before behind m)

-- where a card of m's suit was led and no other card beats m, m wins
wins-at : (strain : Strain) (m c : PlayingCard) (before behind : List PlayingCard) → c.suit ≡ m.suit → ((e : PlayingCard) → has_card (c ∷ before) e ≡ true → IsBeaten strain m e) → ((e : PlayingCard) → has_card behind e ≡ true → IsBeaten strain m e)
    → winning_place strain (c ∷ before ++ m ∷ behind) ≡ suc (length before)
wins-at strain m c before behind suit low later = first-at (is_highest_of (deciding strain all)) (c ∷ before) behind m lower highest
  where
    all : List PlayingCard
    all = c ∷ before ++ m ∷ behind

    each : (e : PlayingCard) → has_card all e ≡ true → (m ≡ e) ⊎ IsBeaten strain m e
    each e h = elim (around (c ∷ before) behind m e h) [ inl k ↦ inl k | inr k ↦ elim k [ inl l ↦ inr (low e l) | inr l ↦ inr (later e l) ] ]

    decide : deciding strain all ≡ filter (is_of m.suit) all
    decide = deciding-led strain m c (before ++ m ∷ behind) suit (λ e h t. elim (each e h) [ inl k ↦ ap (is_trump strain) k ∙ t | inr k ↦ k.0 t ])

    there : has_card (filter (is_of m.suit) all) m ≡ true
    there = filter-has (is_of m.suit) all m (here-is (c ∷ before) behind m) (of-suit' m.suit m refl)

    highest : is_highest_of (deciding strain all) m ≡ true
    highest = ap (λ cards. is_highest_of cards m) decide
        ∙ ap₂ (λ a b. a && b) there (none-higher m all (λ e h s. elim (each e h) [ inl k ↦ (let r : m.rank ≡ e.rank = ap (λ (y : PlayingCard). y.rank) k in omega (arith, r)) | inr k ↦ (let r = k.1 s in omega (arith, r)) ]))

    lower : (e : PlayingCard) → has_card (c ∷ before) e ≡ true → is_highest_of (deciding strain all) e ≡ false
    lower e h = ap (λ cards. is_highest_of cards e) decide ∙ false_from_ne_true (is_highest_of (filter (is_of m.suit) all) e) (λ k.
        let mine = and-left (has_card (filter (is_of m.suit) all) e) (list_all (λ d. nat_le d.rank e.rank) (filter (is_of m.suit) all)) k in
        let most = and-right (has_card (filter (is_of m.suit) all) e) (list_all (λ d. nat_le d.rank e.rank) (filter (is_of m.suit) all)) k in
        let over = leb-true m.rank e.rank (passes (λ d. nat_le d.rank e.rank) m (filter (is_of m.suit) all) most there) in
        let under = (low e h).1 (suit-of m.suit e (filter-passes (is_of m.suit) all e mine)) in
        omega (arith, over, under))

-- ---- the trick

-- of m's suit the first card is
abbrev pub IsLed : PlayingCard → List PlayingCard → Type 0
IsLed m trick = (c : PlayingCard) × (tail : List PlayingCard) × (trick ≡ c ∷ tail) × (c.suit ≡ m.suit)

-- one hand has lost the card d of another
abbrev pub IsTaken : PlayingCard → List PlayingCard → List PlayingCard → Type 0
IsTaken d his rest = (test : PlayingCard → Bool) → count test rest + flag_of (test d) ≡ count test his

-- it does not ruff, unless m is a trump
abbrev pub IsQuiet : Strain → PlayingCard → PlayingCard → Type 0
IsQuiet strain m d = is_trump strain d ≡ true → is_trump strain m ≡ true

-- What is known of the hand that is i places after h, where it waits to play to the trick that m is to win, and where it has
-- played: of an opponent whatever it plays, of the partner by a card that it has.
pub record Allows (strain : Strain) (m : PlayingCard) (lets : Bool → ℕ → List PlayingCard → Type 0) : Type 0 where
  pub opponents : (i : ℕ) (his rest : List PlayingCard) (d : PlayingCard) → i ≢ 2 → lets true i his → has_card his d ≡ true → FollowsSuit m his d → IsTaken d his rest → lets false i rest × IsQuiet strain m d
  pub partner : (his trick : List PlayingCard) → IsLed m trick → lets true 2 his → (d : PlayingCard) × (has_card (following trick his) d ≡ true) × IsQuiet strain m d × ((rest : List PlayingCard) → IsTaken d his rest → lets false 2 rest)

-- In the middle of the trick, by the position o before the lead, in which h was given the lead: `own` is what h has now, and
-- of each other hand it is known what it allows.
pub record IsMidway (strain : Strain) (o : Board) (lets : Bool → ℕ → List PlayingCard → Type 0) (own : List PlayingCard) (waits : ℕ → Bool) (p : Board) : Type 0 where
  pub valid : IsBoard p
  pub same : p.strain ≡ strain
  pub part : (x : Seat) (d : PlayingCard) → has_card (cards_at p x) d ≡ true → has_card (cards_at o x) d ≡ true
  pub mine : cards_at p o.first ≡ own
  pub lets_be : (i : ℕ) → 1 ≤ i → i < 4 → lets (waits i) i (cards_at p (seat_after o.first i))

-- all but one of those that waited
abbrev pub but : ℕ → (ℕ → Bool) → ℕ → Bool
but i waits j = waits j && not (j == i)

-- another hand than h's, i places after it, plays d to the trick
module _ (strain : Strain) (o : Board) (lets : Bool → ℕ → List PlayingCard → Type 0) (m : PlayingCard) (own : List PlayingCard) (waits : ℕ → Bool) (p : Board) (i : ℕ) (d : PlayingCard)
    (now : IsMidway strain o lets own waits p) (low : 1 ≤ i) (high : i < 4) (turn : mover p ≡ seat_after o.first i) (wait : waits i ≡ true) (led : IsLed m p.trick) (has : IsLegal p d) where
  abbrev hand : List PlayingCard
  hand = cards_at p (seat_after o.first i)

  abbrev rest : List PlayingCard
  rest = cards_at (after p d) (seat_after o.first i)

  -- what is known of it
  lets-now : lets true i hand
  lets-now = subst (λ b. lets b i hand) wait (now.lets_be i low high)

  -- the card is one of its own
  own-played : has_card hand d ≡ true
  own-played = ap (λ x. has_card (cards_at p x) d) (sym turn) ∙ own-card p d has

  -- it follows suit if it can
  suited : FollowsSuit m hand d
  suited some =
      let card = count-some (is_of m.suit) hand some in
      let obeys : Obeys (led.0 ∷ led.1) (cards_at p (mover p)) d = subst (λ trick. Obeys trick (cards_at p (mover p)) d) led.2 (legal-out p.trick (cards_at p (mover p)) d has) in
      obeys card.0 (ap (λ x. has_card (cards_at p x) card.0) turn ∙ card.1) (suit-of m.suit card.0 card.2 ∙ sym led.3) ∙ led.3

  -- it is another seat than h
  apart : seat_code (seat_after o.first i) ≢ seat_code o.first
  apart = (let a = after-code o.first i in let b = seat_code-lt o.first in λ e. omega (arith, a, b, e, low, high))

  -- where it does not ruff it does not beat m
  beaten : IsMaster o m → IsQuiet strain m d → IsBeaten strain m d
  beaten master plain = (plain, λ e. master (seat_after o.first i) d apart (now.part (seat_after o.first i) d own-played) e)

  -- each other hand is as it was
  stays : (x : Seat) → seat_code x ≢ seat_code (seat_after o.first i) → cards_at (after p d) x ≡ cards_at p x
  stays x differs = hand-others p d x (λ e. differs (e ∙ ap seat_code turn))

  -- and its own has lost the card
  taken : IsTaken d hand rest
  taken test = subst (λ x. count test (cards_at (after p d) x) + flag_of (test d) ≡ count test (cards_at p x)) turn (count-own test p d now.valid has)

  -- an opponent plays as it has to
  played : Allows strain m lets → i ≢ 2 → lets false i rest × IsQuiet strain m d
  played allows other = allows.opponents i hand rest d other lets-now own-played suited taken

  -- two places after h are two seats
  two-places : (j : ℕ) → j < 4 → j ≢ i → seat_code (seat_after o.first j) ≢ seat_code (seat_after o.first i)
  two-places j l differs = (let a = after-code o.first i in let b = after-code o.first j in let c = seat_code-lt o.first in λ e. omega (arith, a, b, c, e, l, high, differs))

  lets-after : lets false i rest → (j : ℕ) → 1 ≤ j → j < 4 → lets (but i waits j) j (cards_at (after p d) (seat_after o.first j))
  lets-after done j l k = elim (eqb_tells j i) [
    | inl r ↦ subst (λ b. lets b j (cards_at (after p d) (seat_after o.first j))) (sym (ap₂ (λ a b. a && not b) (ap waits r.1 ∙ wait) r.0)) (subst (λ y. lets false y (cards_at (after p d) (seat_after o.first y))) (sym r.1) done)
    | inr r ↦ subst (λ b. lets b j (cards_at (after p d) (seat_after o.first j))) (sym (ap (λ b. waits j && not b) r.0 ∙ and-yes (waits j)))
        (subst (λ cards. lets (waits j) j cards) (sym (stays (seat_after o.first j) (two-places j k r.1))) (now.lets_be j l k))
  ]
    where
      and-yes : (b : Bool) → (b && true) ≡ b
      and-yes true = refl
      and-yes false = refl

  -- so the trick goes on
  goes-on : lets false i rest → IsMidway strain o lets own (but i waits) (after p d)
  goes-on done = record {
    valid = (legal-leads p d now.valid has).valid;
    same = strain-after p d ∙ now.same;
    part = λ x e h. now.part x e (was-in p d now.valid x e h);
    mine = stays o.first (λ e. apart (sym e)) ∙ now.mine;
    lets_be = lets-after done;
  }

-- h plays m
takes-over : (strain : Strain) (o : Board) (lets : Bool → ℕ → List PlayingCard → Type 0) (m : PlayingCard) (own : List PlayingCard) (waits : ℕ → Bool) (p : Board) → IsMidway strain o lets own waits p → mover p ≡ o.first → IsLegal p m → IsMidway strain o lets (without own m) waits (after p m)
takes-over strain o lets m own waits p now turn has = record {
  valid = (legal-leads p m now.valid has).valid;
  same = strain-after p m ∙ now.same;
  part = λ x e h. now.part x e (was-in p m now.valid x e h);
  mine = ap (cards_at (after p m)) (sym turn) ∙ hand-own p m now.valid ∙ ap (λ cards. without cards m) (ap (cards_at p) turn ∙ now.mine);
  lets_be = λ j l k. subst (λ cards. lets (waits j) j cards) (sym (stays j l k)) (now.lets_be j l k);
}
  where
    stays : (j : ℕ) → 1 ≤ j → j < 4 → cards_at (after p m) (seat_after o.first j) ≡ cards_at p (seat_after o.first j)
    stays j l k = hand-others p m (seat_after o.first j) (let a = after-code o.first j in let b = seat_code-lt o.first in let t : seat_code (mover p) ≡ seat_code o.first = ap seat_code turn in λ e. omega (arith, a, b, t, e, l, k))

-- where a card lies on the trick, one more is to come
pub some-left : (p : Board) → IsBoard p → 1 ≤ length p.trick → 1 ≤ tricks_left p
some-left p valid begun =
    let full = valid.even 0 (omega arith) in
    let one : flag_of (nat_lt 0 (length p.trick)) ≡ 1 = ap flag_of (lt-ltb 0 (length p.trick) begun) in
    omega (arith, full, one)

-- every hand waits, or none
abbrev pub everybody : ℕ → Bool
everybody i = true

abbrev pub nobody : ℕ → Bool
nobody i = false

-- where none of the three waits, the trick is over
all-played : (strain : Strain) (o : Board) (lets : Bool → ℕ → List PlayingCard → Type 0) (own : List PlayingCard) (waits : ℕ → Bool) (q : Board) → ((i : ℕ) → 1 ≤ i → i < 4 → waits i ≡ false) → IsMidway strain o lets own waits q → IsMidway strain o lets own nobody q
all-played strain o lets own waits q none now = record {
  valid = now.valid;
  same = now.same;
  part = now.part;
  mine = now.mine;
  lets_be = λ i l k. subst (λ b. lets b i (cards_at q (seat_after o.first i))) (none i l k) (now.lets_be i l k);
}

-- a card that follows suit is legal
may-follow : (p : Board) (m : PlayingCard) (h : Seat) (hand : List PlayingCard) → IsLed m p.trick → mover p ≡ h → cards_at p h ≡ hand → has_card hand m ≡ true → IsLegal p m
may-follow p m h hand led turn mine own =
    ap₂ (λ trick cards. has_card (following trick cards) m) led.2 (ap (cards_at p) turn ∙ mine) ∙ legal-in (led.0 ∷ led.1) hand m own (λ e o s. sym led.3)

-- round the table
pub three-one : (f : Seat) → seat_after (seat_after f 1) 3 ≡ f
three-one North = refl
three-one East = refl
three-one South = refl
three-one West = refl

pub one-three : (f : Seat) → seat_after (seat_after f 3) 1 ≡ f
one-three North = refl
one-three East = refl
one-three South = refl
one-three West = refl

pub two-three : (f : Seat) → seat_after (seat_after f 3) 2 ≡ seat_after f 1
two-three North = refl
two-three East = refl
two-three South = refl
two-three West = refl

pub three-three : (f : Seat) → seat_after (seat_after f 3) 3 ≡ seat_after f 2
three-three North = refl
three-three East = refl
three-three South = refl
three-three West = refl

-- The card c was led, and h, the next hand or the last, has m, the highest card of the suit, to win the trick with; b is what
-- its side takes then.
module _ (p : Board) (c : PlayingCard) (h : Seat) (lets : Bool → ℕ → List PlayingCard → Type 0) (m : PlayingCard) (b : ℕ) (valid : IsBoard p) (led : p.trick ≡ c ∷ [])
    (own : has_card (cards_at (unled p c h) h) m ≡ true) (suit : c.suit ≡ m.suit) (master : IsMaster (unled p c h) m) (allows : Allows p.strain m lets)
    (start : (i : ℕ) → 1 ≤ i → i < 4 → lets true i (hand_on (unled p c h) i))
    (next : (q : Board) → IsMidway p.strain (unled p c h) lets (without (cards_at (unled p c h) h) m) nobody q → q.trick ≡ [] → q.first ≡ h → b ≤ won (side_of h) q) where
  abbrev o : Board
  o = unled p c h

  abbrev kept : List PlayingCard
  kept = without (cards_at (unled p c h) h) m

  -- the card led does not beat m
  beaten-led : seat_code p.first ≢ seat_code h → IsBeaten p.strain m c
  beaten-led apart = (λ t. sym (same-trump p.strain c m suit) ∙ t, λ e. master p.first c apart (led-back p c valid led h) e)

  -- the leader alone has played
  begins : (j : ℕ) → 1 ≤ j → j < 4 → j ≢ 2 → p.first ≡ seat_after h j → IsMidway p.strain o lets (cards_at o h) (but j everybody) p
  begins j low high other at = record {
    valid = valid;
    same = refl;
    part = is-back p c valid led h;
    mine = sym (others-back p c valid led h h (λ e. away 0 (omega arith) (λ z. omega (arith, z, low)) e));
    lets_be = lets-then;
  }
    where
      away : (i : ℕ) → i < 4 → i ≢ j → seat_code (seat_after h i) ≢ seat_code p.first
      away i l differs = (let a = after-code h i in let d = after-code h j in let k = seat_code-lt h in let e : seat_code p.first ≡ seat_code (seat_after h j) = ap seat_code at in λ z. omega (arith, a, d, k, e, z, l, high, differs))

      taken-led : IsTaken c (hand_on o j) (cards_at p (seat_after h j))
      taken-led test = subst (λ x. count test (cards_at p x) + flag_of (test c) ≡ count test (cards_at o x)) at (sym (ap (count test) (leaders-back p c valid led h) ∙ count-back p c valid led test))

      own-led : has_card (hand_on o j) c ≡ true
      own-led = ap (λ x. has_card (cards_at o x) c) (sym at) ∙ led-back p c valid led h

      lets-then : (i : ℕ) → 1 ≤ i → i < 4 → lets (but j everybody i) i (cards_at p (seat_after h i))
      lets-then i l k = elim (eqb_tells i j) [
        | inl r ↦ subst (λ x. lets x i (cards_at p (seat_after h i))) (sym (ap not r.0))
            (subst (λ y. lets false y (cards_at p (seat_after h y))) (sym r.1) (allows.opponents j (hand_on o j) (cards_at p (seat_after h j)) c other (start j low high) own-led (λ some. suit) taken-led).0)
        | inr r ↦ subst (λ x. lets x i (cards_at p (seat_after h i))) (sym (ap not r.0)) (subst (λ cards. lets true i cards) (others-back p c valid led h (seat_after h i) (away i k r.1)) (start i l k))
      ]

  -- where the last card is played and h wins, its side has one trick more
  closes : (p2 : Board) (d : PlayingCard) → completes p2 ≡ true → winner_of (trick_with p2 d) p2.first p2.strain ≡ h → b ≤ won (side_of h) (after p2 d) → b + 1 ≤ won_with (side_of h) p2 d
  closes p2 d full wins later =
      let one : trick_for (side_of h) p2 d ≡ 1 = ap₂ (λ x y. flag_of (x && y)) full (ap (is_side (side_of h)) wins ∙ own-side h) in
      omega (arith, one, later)

  -- a card of the partner's
  abbrev Partners : List PlayingCard → List PlayingCard → Type 0
  Partners his trick = (d : PlayingCard) × (has_card (following trick his) d ≡ true) × IsQuiet p.strain m d × ((rest : List PlayingCard) → IsTaken d his rest → lets false 2 rest)

  -- h is second hand
  second-hand : h ≡ seat_after p.first 1 → b + 1 ≤ won (side_of h) p
  second-hand at =
      let reach : won_with (side_of h) p m ≤ won (side_of h) p = can (side_of h) p m valid (ap (is_side (side_of h)) turn ∙ own-side h) has in
      let later : b + 1 ≤ won (side_of h) (after p m) = whoever (side_of h) (after p m) (b + 1) now1.valid (some-left (after p m) now1.valid (let k : length (after p m).trick ≡ 2 = ap length trick1 in omega (arith, k))) third in
      omega (arith, reach, later)
    where
      turn : mover p ≡ h
      turn = ap (λ trick. seat_after p.first (length trick)) led ∙ sym at

      leader : p.first ≡ seat_after h 3
      leader = sym (three-one p.first) ∙ ap (λ x. seat_after x 3) (sym at)

      now0 : IsMidway p.strain o lets (cards_at o h) (but 3 everybody) p
      now0 = begins 3 (omega arith) (omega arith) (λ e. omega (arith, e)) leader

      has : IsLegal p m
      has = may-follow p m h (cards_at o h) (c, [], led, suit) turn now0.mine own

      goes_on : completes p ≡ false
      goes_on = ap (λ trick. length trick == 3) led

      now1 : IsMidway p.strain o lets kept (but 3 everybody) (after p m)
      now1 = takes-over p.strain o lets m (cards_at o h) (but 3 everybody) p now0 turn has

      trick1 : (after p m).trick ≡ c ∷ m ∷ []
      trick1 = (trick-after p m goes_on).0 ∙ ap (λ trick. trick ++ m ∷ []) led

      first1 : (after p m).first ≡ p.first
      first1 = (trick-after p m goes_on).1

      apart : seat_code p.first ≢ seat_code h
      apart = (let a = after-code p.first 1 in let k = seat_code-lt p.first in let e : seat_code h ≡ seat_code (seat_after p.first 1) = ap seat_code at in λ z. omega (arith, a, k, e, z))

      third : (d : PlayingCard) → IsLegal (after p m) d → b + 1 ≤ won_with (side_of h) (after p m) d
      third d legal =
          let low : b + 1 ≤ won (side_of h) p2 = fourth in
          omega (arith, low)
        where
          p2 : Board
          p2 = after (after p m) d

          turn1 : mover (after p m) ≡ seat_after h 1
          turn1 = ap₂ (λ f trick. seat_after f (length trick)) first1 trick1 ∙ ap (λ x. seat_after x 1) (sym at)

          led1 : IsLed m (after p m).trick
          led1 = (c, m ∷ [], trick1, suit)

          plays : lets false 1 (cards_at p2 (seat_after h 1)) × IsQuiet p.strain m d
          plays = played p.strain o lets m kept (but 3 everybody) (after p m) 1 d now1 (omega arith) (omega arith) turn1 refl led1 legal allows (λ e. omega (arith, e))

          now2 : IsMidway p.strain o lets kept (but 1 (but 3 everybody)) p2
          now2 = goes-on p.strain o lets m kept (but 3 everybody) (after p m) 1 d now1 (omega arith) (omega arith) turn1 refl led1 legal plays.0

          low_d : IsBeaten p.strain m d
          low_d = beaten p.strain o lets m kept (but 3 everybody) (after p m) 1 d now1 (omega arith) (omega arith) turn1 refl led1 legal master plays.1

          goes_on1 : completes (after p m) ≡ false
          goes_on1 = ap (λ trick. length trick == 3) trick1

          trick2 : p2.trick ≡ c ∷ m ∷ d ∷ []
          trick2 = (trick-after (after p m) d goes_on1).0 ∙ ap (λ trick. trick ++ d ∷ []) trick1

          first2 : p2.first ≡ p.first
          first2 = (trick-after (after p m) d goes_on1).1 ∙ first1

          turn2 : mover p2 ≡ seat_after h 2
          turn2 = ap₂ (λ f trick. seat_after f (length trick)) first2 trick2 ∙ ap (λ x. seat_after x 2) (sym at)

          led2 : IsLed m p2.trick
          led2 = (c, m ∷ d ∷ [], trick2, suit)

          card : Partners (cards_at p2 (seat_after h 2)) p2.trick
          card = allows.partner (cards_at p2 (seat_after h 2)) p2.trick led2 (now2.lets_be 2 (omega arith) (omega arith))

          legal2 : IsLegal p2 card.0
          legal2 = ap (λ x. has_card (following p2.trick (cards_at p2 x)) card.0) turn2 ∙ card.1

          low_e : IsBeaten p.strain m card.0
          low_e = beaten p.strain o lets m kept (but 1 (but 3 everybody)) p2 2 card.0 now2 (omega arith) (omega arith) turn2 refl led2 legal2 master card.2

          full : completes p2 ≡ true
          full = ap (λ trick. length trick == 3) trick2

          behind : (e : PlayingCard) → has_card (d ∷ card.0 ∷ []) e ≡ true → IsBeaten p.strain m e
          behind e there = elim (in-push (d ∷ []) card.0 e there) [ inl k ↦ elim (in-push [] d e k) [ inl z ↦ absurd (cc) | inr z ↦ subst (IsBeaten p.strain m) z low_d ] | inr z ↦ subst (IsBeaten p.strain m) z low_e ]

          before : (e : PlayingCard) → has_card (c ∷ []) e ≡ true → IsBeaten p.strain m e
          before e there = elim (in-push [] c e there) [ inl z ↦ absurd (cc) | inr z ↦ subst (IsBeaten p.strain m) z (beaten-led apart) ]

          wins : winner_of (trick_with p2 card.0) p2.first p2.strain ≡ h
          wins = ap₂ seat_after first2 (ap₂ winning_place now2.same (ap (λ trick. trick ++ card.0 ∷ []) trick2) ∙ wins-at p.strain m c [] (d ∷ card.0 ∷ []) suit before behind) ∙ sym at

          now3 : IsMidway p.strain o lets kept nobody (after p2 card.0)
          now3 = all-played p.strain o lets kept (but 2 (but 1 (but 3 everybody))) (after p2 card.0) over (goes-on p.strain o lets m kept (but 1 (but 3 everybody)) p2 2 card.0 now2 (omega arith) (omega arith) turn2 refl led2 legal2 (card.3 (cards_at (after p2 card.0) (seat_after h 2)) (taken p.strain o lets m kept (but 1 (but 3 everybody)) p2 2 card.0 now2 (omega arith) (omega arith) turn2 refl led2 legal2)))
            where
              over : (i : ℕ) → 1 ≤ i → i < 4 → but 2 (but 1 (but 3 everybody)) i ≡ false
              over zero l k = absurd (omega (arith, l))
              over (suc zero) l k = refl
              over (suc (suc zero)) l k = refl
              over (suc (suc (suc zero))) l k = refl
              over (suc (suc (suc (suc i)))) l k = absurd (omega (arith, k))

          fourth : b + 1 ≤ won (side_of h) p2
          fourth =
              let reach : won_with (side_of h) p2 card.0 ≤ won (side_of h) p2 = can (side_of h) p2 card.0 now2.valid (ap (is_side (side_of h)) turn2 ∙ partners-side h) legal2 in
              let closed = trick-closed p2 card.0 full in
              let more = closes p2 card.0 full wins (next (after p2 card.0) now3 closed.0 (closed.1 ∙ wins)) in
              omega (arith, reach, more)

  -- h is fourth hand
  fourth-hand : h ≡ seat_after p.first 3 → b + 1 ≤ won (side_of h) p
  fourth-hand at =
      let reach : won_with (side_of h) p card.0 ≤ won (side_of h) p = can (side_of h) p card.0 valid (ap (is_side (side_of h)) turn ∙ partners-side h) legal in
      let later : b + 1 ≤ won (side_of h) p1 = whoever (side_of h) p1 (b + 1) now1.valid (some-left p1 now1.valid (let k : length p1.trick ≡ 2 = ap length trick1 in omega (arith, k))) third in
      omega (arith, reach, later)
    where
      turn : mover p ≡ seat_after h 2
      turn = ap (λ trick. seat_after p.first (length trick)) led ∙ sym (two-three p.first) ∙ ap (λ x. seat_after x 2) (sym at)

      leader : p.first ≡ seat_after h 1
      leader = sym (one-three p.first) ∙ ap (λ x. seat_after x 1) (sym at)

      now0 : IsMidway p.strain o lets (cards_at o h) (but 1 everybody) p
      now0 = begins 1 (omega arith) (omega arith) (λ e. omega (arith, e)) leader

      led0 : IsLed m p.trick
      led0 = (c, [], led, suit)

      card : Partners (cards_at p (seat_after h 2)) p.trick
      card = allows.partner (cards_at p (seat_after h 2)) p.trick led0 (now0.lets_be 2 (omega arith) (omega arith))

      legal : IsLegal p card.0
      legal = ap (λ x. has_card (following p.trick (cards_at p x)) card.0) turn ∙ card.1

      p1 : Board
      p1 = after p card.0

      goes_on : completes p ≡ false
      goes_on = ap (λ trick. length trick == 3) led

      now1 : IsMidway p.strain o lets (cards_at o h) (but 2 (but 1 everybody)) p1
      now1 = goes-on p.strain o lets m (cards_at o h) (but 1 everybody) p 2 card.0 now0 (omega arith) (omega arith) turn refl led0 legal (card.3 (cards_at p1 (seat_after h 2)) (taken p.strain o lets m (cards_at o h) (but 1 everybody) p 2 card.0 now0 (omega arith) (omega arith) turn refl led0 legal))

      low_card : IsBeaten p.strain m card.0
      low_card = beaten p.strain o lets m (cards_at o h) (but 1 everybody) p 2 card.0 now0 (omega arith) (omega arith) turn refl led0 legal master card.2

      trick1 : p1.trick ≡ c ∷ card.0 ∷ []
      trick1 = (trick-after p card.0 goes_on).0 ∙ ap (λ trick. trick ++ card.0 ∷ []) led

      first1 : p1.first ≡ p.first
      first1 = (trick-after p card.0 goes_on).1

      apart : seat_code p.first ≢ seat_code h
      apart = (let a = after-code p.first 3 in let k = seat_code-lt p.first in let e : seat_code h ≡ seat_code (seat_after p.first 3) = ap seat_code at in λ z. omega (arith, a, k, e, z))

      third : (d : PlayingCard) → IsLegal p1 d → b + 1 ≤ won_with (side_of h) p1 d
      third d may =
          let low : b + 1 ≤ won (side_of h) p2 = fourth in
          omega (arith, low)
        where
          p2 : Board
          p2 = after p1 d

          turn1 : mover p1 ≡ seat_after h 3
          turn1 = ap₂ (λ f trick. seat_after f (length trick)) first1 trick1 ∙ sym (three-three p.first) ∙ ap (λ x. seat_after x 3) (sym at)

          led1 : IsLed m p1.trick
          led1 = (c, card.0 ∷ [], trick1, suit)

          plays : lets false 3 (cards_at p2 (seat_after h 3)) × IsQuiet p.strain m d
          plays = played p.strain o lets m (cards_at o h) (but 2 (but 1 everybody)) p1 3 d now1 (omega arith) (omega arith) turn1 refl led1 may allows (λ e. omega (arith, e))

          now2 : IsMidway p.strain o lets (cards_at o h) (but 3 (but 2 (but 1 everybody))) p2
          now2 = goes-on p.strain o lets m (cards_at o h) (but 2 (but 1 everybody)) p1 3 d now1 (omega arith) (omega arith) turn1 refl led1 may plays.0

          low_d : IsBeaten p.strain m d
          low_d = beaten p.strain o lets m (cards_at o h) (but 2 (but 1 everybody)) p1 3 d now1 (omega arith) (omega arith) turn1 refl led1 may master plays.1

          goes_on1 : completes p1 ≡ false
          goes_on1 = ap (λ trick. length trick == 3) trick1

          trick2 : p2.trick ≡ c ∷ card.0 ∷ d ∷ []
          trick2 = (trick-after p1 d goes_on1).0 ∙ ap (λ trick. trick ++ d ∷ []) trick1

          first2 : p2.first ≡ p.first
          first2 = (trick-after p1 d goes_on1).1 ∙ first1

          turn2 : mover p2 ≡ h
          turn2 = ap₂ (λ f trick. seat_after f (length trick)) first2 trick2 ∙ sym at

          has : IsLegal p2 m
          has = may-follow p2 m h (cards_at o h) (c, card.0 ∷ d ∷ [], trick2, suit) turn2 now2.mine own

          full : completes p2 ≡ true
          full = ap (λ trick. length trick == 3) trick2

          before : (e : PlayingCard) → has_card (c ∷ card.0 ∷ d ∷ []) e ≡ true → IsBeaten p.strain m e
          before e there = elim (in-push (c ∷ card.0 ∷ []) d e there) [
            | inl k ↦ elim (in-push (c ∷ []) card.0 e k) [ inl y ↦ elim (in-push [] c e y) [ inl z ↦ absurd (cc) | inr z ↦ subst (IsBeaten p.strain m) z (beaten-led apart) ] | inr z ↦ subst (IsBeaten p.strain m) z low_card ]
            | inr z ↦ subst (IsBeaten p.strain m) z low_d
          ]

          wins : winner_of (trick_with p2 m) p2.first p2.strain ≡ h
          wins = ap₂ seat_after first2 (ap₂ winning_place now2.same (ap (λ trick. trick ++ m ∷ []) trick2) ∙ wins-at p.strain m c (card.0 ∷ d ∷ []) [] suit before (λ e there. absurd (cc))) ∙ sym at

          now3 : IsMidway p.strain o lets kept nobody (after p2 m)
          now3 = all-played p.strain o lets kept (but 3 (but 2 (but 1 everybody))) (after p2 m) over (takes-over p.strain o lets m (cards_at o h) (but 3 (but 2 (but 1 everybody))) p2 now2 turn2 has)
            where
              over : (i : ℕ) → 1 ≤ i → i < 4 → but 3 (but 2 (but 1 everybody)) i ≡ false
              over zero l k = absurd (omega (arith, l))
              over (suc zero) l k = refl
              over (suc (suc zero)) l k = refl
              over (suc (suc (suc zero))) l k = refl
              over (suc (suc (suc (suc i)))) l k = absurd (omega (arith, k))

          fourth : b + 1 ≤ won (side_of h) p2
          fourth =
              let reach : won_with (side_of h) p2 m ≤ won (side_of h) p2 = can (side_of h) p2 m now2.valid (ap (is_side (side_of h)) turn2 ∙ own-side h) has in
              let closed = trick-closed p2 m full in
              let more = closes p2 m full wins (next (after p2 m) now3 closed.0 (closed.1 ∙ wins)) in
              omega (arith, reach, more)

  -- either way its side takes the trick and what comes then
  pub trick-taken : (i : ℕ) → IsOpposed i → h ≡ seat_after p.first i → b + 1 ≤ won (side_of h) p
  trick-taken i opposed at = elim opposed [ inl e ↦ second-hand (at ∙ ap (seat_after p.first) e) | inr e ↦ fourth-hand (at ∙ ap (seat_after p.first) e) ]
