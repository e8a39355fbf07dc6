-- The leader cashes side suits. A card that no other hand can beat takes a trick, as long as nobody ruffs it: each opponent
-- that has trumps has to follow suit, and the partner, which plays as the side likes, keeps its trumps, and other cards too
-- if there are enough that it may spare: of each suit one for each lead that it has to follow. In a long suit, of which the
-- leader has as many winners as any other hand has cards, these winners leave the others without the suit, since each follows
-- suit as long as it can: then the leader's low cards are winners too.
use Rattle.std.proofs.Common.{◌≡◌, ◌≢◌, ℕ, zero, suc, ◌+◌, ◌-◌, ◌<◌, ◌≤◌, Bool, true, false, refl, sym, ap, ◌∙◌, subst, arith, List, [], ◌∷◌, ◌++◌, length, length-append, inl, inr}
use Rattle.std.specs.Prelude.{nat_lt, min, ◌&&◌, ◌==◌, ◌⊎◌}
use mathlib.Core.Path.{ap₂}
use Rattle.std.proofs.lemmas.Bool.{lt-ltb, eqb-true, cases_lt, not-true, false_from_ne_true}
use Rattle.std.proofs.lemmas.Bool.Decides.{eqb_tells}
use Rattle.dd_cards.specs.declared.seat.Seat.{Seat}
use Rattle.dd_cards.specs.declared.seat.Seat.TheVariants.{North, East, South, West}
use Rattle.dd_cards.specs.declared.suit.Suit.{Suit}
use Rattle.dd_cards.specs.declared.suit.Suit.TheVariants.{Spades, Hearts, Diamonds, Clubs}
use Rattle.dd_cards.specs.declared.strain.Strain.{Strain}
use Rattle.dd_cards.specs.PlayingCard.{PlayingCard}
use Rattle.dd_cards.specs.Suits.{suit_code}
use Rattle.dd_cards.specs.Cards.{is_of, has_card}
use Rattle.dd_cards.specs.Seats.{seat_code, seat_after}
use mathlib.Core.Bool.{not}
use Rattle.dd_cards.proofs.CallerLemmas.{and-left, and-right, seat_code-lt}
use Rattle.dd_cards.specs.Sides.{is_side}
use Rattle.dd_cards.specs.declared.side.Side.{Side}
use Rattle.dd_play.specs.Board.{Board, IsBoard, cards_at, mover, tricks_left}
use Rattle.dd_play.specs.Tricks.{is_trump, winning_place, winner_of}
use Rattle.dd_play.specs.Play.{completes, trick_with, after, following}
use Rattle.dd_play.specs.Simulations.{IsLegal}
use Rattle.dd_play.specs.Covers.{count_of}
use Rattle.dd_play.specs.Won.{won, trick_for}
use Rattle.dd_play.proofs.CallerLemmas.{Obeys, after-code, can, count, count-cons, count-has, count-some, flag_of, hand-others, in-push, legal-in, legal-leads, legal-out, of-suit', own-card, strain-after, suit-of, trick-after, trick-closed, was-in, won_with, trump-suit as same-trump}
use Rattle.dd_quick.proofs.Plays.{whoever, count-own}
use Rattle.dd_quick.proofs.FirstCard.{IsWeaker, first-wins}
use Rattle.dd_quick.proofs.Hands.{places-on}

-- ---- what there is to cash

-- each card of its suit in the hands that do not lead is lower
abbrev pub IsMaster : Board → PlayingCard → Type 0
IsMaster p c = (x : Seat) (e : PlayingCard) → seat_code x ≢ seat_code p.first → has_card (cards_at p x) e ≡ true → e.suit ≡ c.suit → e.rank < c.rank

-- how many cards of the four suits
abbrev pub total : (Suit → ℕ) → ℕ
total n = n Spades + n Hearts + n Diamonds + n Clubs

-- none of any suit
abbrev pub no_cards : Suit → ℕ
no_cards u = 0

-- one of the card's suit
abbrev pub one_card : PlayingCard → Suit → ℕ
one_card m u = flag_of (is_of u m)

-- the cards of the hand that is i places after the leader
abbrev pub hand_on : Board → ℕ → List PlayingCard
hand_on p i = cards_at p (seat_after p.first i)

-- is it no trump?
abbrev pub is_plain : Strain → PlayingCard → Bool
is_plain strain c = not (is_trump strain c)

-- the test passes no card that does not pass the first one
abbrev pub Only : (PlayingCard → Bool) → (PlayingCard → Bool) → Type 0
Only kept test = (c : PlayingCard) → kept c ≡ false → test c ≡ false

-- the test passes trumps alone
abbrev pub OnlyTrumps : Strain → (PlayingCard → Bool) → Type 0
OnlyTrumps strain test = Only (is_trump strain) test

-- By what is cashed: which cards are sure, and which ones the partner keeps; of each suit how many cards the leader keeps, how
-- many sure ones it may leave, how many cards the hands but the partner's have at most when all is cashed, and how many an
-- opponent with trumps has at least.
pub record Aims : Type 0 where
  pub sure : PlayingCard → Bool
  pub kept : PlayingCard → Bool
  pub low : Suit → ℕ
  pub over : Suit → ℕ
  pub rest : Suit → ℕ
  pub least : Suit → ℕ

-- How it came from a first position: the leader is the same, the hands only lost cards, the leader lost no trumps, and its
-- partner none of the cards that it keeps.
pub record IsLater (strain : Strain) (aims : Aims) (o : Board) (s : Side) (p : Board) : Type 0 where
  pub valid : IsBoard p
  pub same : p.strain ≡ strain
  pub ours : is_side s p.first ≡ true
  pub first : p.first ≡ o.first
  pub part : (x : Seat) (c : PlayingCard) → has_card (cards_at p x) c ≡ true → has_card (cards_at o x) c ≡ true
  pub mine : (test : PlayingCard → Bool) → OnlyTrumps strain test → count test (cards_at p p.first) ≡ count test (cards_at o o.first)
  pub partners : (test : PlayingCard → Bool) → Only aims.kept test → count test (hand_on p 2) ≡ count test (hand_on o 2)
  pub trumps : (c : PlayingCard) → is_trump strain c ≡ true → aims.kept c ≡ true

-- how many cards of the suit are sure
abbrev pub sure_of : (PlayingCard → Bool) → Suit → List PlayingCard → ℕ
sure_of sure u cards = count (λ c. is_of u c && sure c) cards

-- how many cards of the suit the partner may spare
abbrev pub spare_of : (PlayingCard → Bool) → Suit → List PlayingCard → ℕ
spare_of kept u cards = count (λ c. is_of u c && not (kept c)) cards

-- the leader has n cards of each suit to cash beside those that it keeps, all the sure ones but those that it may leave, and
-- these are no trumps
pub record HasCards (strain : Strain) (aims : Aims) (n : Suit → ℕ) (p : Board) : Type 0 where
  pub held : (u : Suit) → n u + aims.low u ≤ count_of u (cards_at p p.first)
  pub tops : (u : Suit) → sure_of aims.sure u (cards_at p p.first) ≤ n u + aims.over u
  pub plain : (u : Suit) (c : PlayingCard) → 1 ≤ n u → c.suit ≡ u → is_trump strain c ≡ false
  pub most : (u : Suit) → count_of u (cards_at p p.first) ≤ n u + aims.rest u

-- The hand that is i places after the leader lets n cards of each suit be cashed, and e more that are led first: it has no
-- more cards of a suit than the leader has sure ones, where these are too few; an opponent without trumps can't ruff, and
-- one with trumps has to follow suit to all, and to as many as it is to have left; the partner has a card to spare for each, and of each suit as many as it has to
-- follow suit; another hand than the partner's has no more left than it may have then.
pub record LetsCash (strain : Strain) (aims : Aims) (n e : Suit → ℕ) (i : ℕ) (own his : List PlayingCard) : Type 0 where
  pub yields : (u : Suit) → min (e u + n u) (count_of u his) ≤ e u + sure_of aims.sure u own
  pub follows : i ≢ 2 → (count (is_trump strain) his ≡ 0) ⊎ ((u : Suit) → e u + (n u + aims.least u) ≤ count_of u his)
  pub spares : i ≡ 2 → (u : Suit) → min (e u + n u) (count_of u his) ≤ spare_of aims.kept u his
  pub throws : i ≡ 2 → total e + total n ≤ count (λ c. not (aims.kept c)) his
  pub leaves : i ≢ 2 → (u : Suit) → count_of u his ≤ e u + n u + aims.rest u

-- so does each hand that does not lead
abbrev pub AllLetCash : Strain → Aims → (Suit → ℕ) → Board → Type 0
AllLetCash strain aims n p = (i : ℕ) → 1 ≤ i → i < 4 → LetsCash strain aims n no_cards i (cards_at p p.first) (hand_on p i)

-- The card m, which was to be cashed, leads the trick: the hands that have not played yet let it be cashed too.
record Cashing (strain : Strain) (aims : Aims) (n : Suit → ℕ) (p : Board) (m : PlayingCard) (rest : List PlayingCard) : Type 0 where
  cards : HasCards strain aims n p
  trick : p.trick ≡ m ∷ rest
  plain_m : is_trump strain m ≡ false
  beats_m : IsMaster p m
  weaker : (e : PlayingCard) → has_card rest e ≡ true → IsWeaker strain m e
  waits : (i : ℕ) → length p.trick ≤ i → i < 4 → LetsCash strain aims n (one_card m) i (cards_at p p.first) (hand_on p i)
  done : (i : ℕ) → 1 ≤ i → i < length p.trick → LetsCash strain aims n no_cards i (cards_at p p.first) (hand_on p i)

-- ---- one card that follows

-- a card is one of its own suit in all
pub one-total : (m : PlayingCard) → total (one_card m) ≡ 1
one-total m = go m.suit
  where
    go : (u : Suit) → flag_of (suit_code u == 0) + flag_of (suit_code u == 1) + flag_of (suit_code u == 2) + flag_of (suit_code u == 3) ≡ 1
    go Spades = refl
    go Hearts = refl
    go Diamonds = refl
    go Clubs = refl

-- a hand that has the card m's suit follows suit to it
abbrev pub FollowsSuit : PlayingCard → List PlayingCard → PlayingCard → Type 0
FollowsSuit m hand c = 1 ≤ count_of m.suit hand → c.suit ≡ m.suit

-- the partner spares the card: it follows suit, or has more of the suit to spare than are to be cashed
abbrev pub Throws : Aims → (Suit → ℕ) → PlayingCard → List PlayingCard → PlayingCard → Type 0
Throws aims n m his c = (aims.kept c ≡ false) × ((c.suit ≡ m.suit) ⊎ (n c.suit + 1 ≤ spare_of aims.kept c.suit his))

-- a hand plays a card c to the lead of m
module _ (strain : Strain) (sure : PlayingCard → Bool) (n : Suit → ℕ) (i : ℕ) (own his rest : List PlayingCard) (m c : PlayingCard)
    (taken : (test : PlayingCard → Bool) → count test rest + flag_of (test c) ≡ count test his) (suits : FollowsSuit m his c) where
  -- of the suit led it has one fewer, if it had any
  one-fewer : 1 ≤ count_of m.suit his → count_of m.suit rest + 1 ≡ count_of m.suit his
  one-fewer some = (let t = taken (is_of m.suit) in let one : flag_of (is_of m.suit c) ≡ 1 = ap flag_of (of-suit' m.suit c (suits some)) in omega (arith, t, one))

  -- it still has no more of a suit than the leader has sure cards, where these are too few
  pub yields-on : ((u : Suit) → min (one_card m u + n u) (count_of u his) ≤ one_card m u + sure_of sure u own) → (u : Suit) → min (no_cards u + n u) (count_of u rest) ≤ no_cards u + sure_of sure u own
  yields-on yields u = go (is_of u m) refl
    where
      go : (b : Bool) → is_of u m ≡ b → min (no_cards u + n u) (count_of u rest) ≤ no_cards u + sure_of sure u own
      go true e =
          let one : one_card m u ≡ 1 = ap flag_of e in
          let before = yields u in
          elim (cases_lt 0 (count_of u his)) [
            | inl l ↦ (
                let same = suit-of u m e in
                let fewer : count_of u rest + 1 ≡ count_of u his = subst (λ v. count_of v rest + 1 ≡ count_of v his) same (one-fewer (subst (λ v. 1 ≤ count_of v his) (sym same) l)) in
                omega (arith, one, before, fewer))
            | inr l ↦ (let t = taken (is_of u) in omega (arith, t, l))
          ]
      go false e = (let none : one_card m u ≡ 0 = ap flag_of e in let before = yields u in let t = taken (is_of u) in omega (arith, none, before, t))

  -- an opponent still can't ruff
  pub follows-on : (i ≢ 2 → (count (is_trump strain) his ≡ 0) ⊎ ((u : Suit) → one_card m u + n u ≤ count_of u his)) → i ≢ 2 → (count (is_trump strain) rest ≡ 0) ⊎ ((u : Suit) → no_cards u + n u ≤ count_of u rest)
  follows-on follows apart = elim (follows apart) [
    | inl none ↦ inl (let t = taken (is_trump strain) in omega (arith, t, none))
    | inr each ↦ inr (λ u. go each u (is_of u m) refl)
  ]
    where
      go : ((u : Suit) → one_card m u + n u ≤ count_of u his) → (u : Suit) (b : Bool) → is_of u m ≡ b → no_cards u + n u ≤ count_of u rest
      go each u true e =
          let one : one_card m u ≡ 1 = ap flag_of e in
          let before = each u in
          let same = suit-of u m e in
          let fewer : count_of u rest + 1 ≡ count_of u his = subst (λ v. count_of v rest + 1 ≡ count_of v his) same (one-fewer (subst (λ v. 1 ≤ count_of v his) (sym same) (omega (arith, one, before)))) in
          omega (arith, one, before, fewer)
      go each u false e =
          let own_suit : one_card m m.suit ≡ 1 = ap flag_of (of-suit' m.suit m refl) in
          let some = each m.suit in
          let follow : c.suit ≡ m.suit = suits (omega (arith, own_suit, some)) in
          let other : flag_of (is_of u c) ≡ 0 = ap (λ v. flag_of (suit_code v == suit_code u)) follow ∙ ap flag_of e in
          let before = each u in
          let t = taken (is_of u) in
          omega (arith, before, t, other)

  -- it has no more of a suit than were to be left to it
  leaves-on : (most : Suit → ℕ) → ((u : Suit) → count_of u his ≤ one_card m u + n u + most u) → (u : Suit) → count_of u rest ≤ no_cards u + n u + most u
  leaves-on most leaves u = go (is_of u m) refl
    where
      go : (b : Bool) → is_of u m ≡ b → count_of u rest ≤ no_cards u + n u + most u
      go true e =
          let one : one_card m u ≡ 1 = ap flag_of e in
          let before = leaves u in
          elim (cases_lt 0 (count_of u his)) [
            | inl l ↦ (
                let same = suit-of u m e in
                let fewer : count_of u rest + 1 ≡ count_of u his = subst (λ v. count_of v rest + 1 ≡ count_of v his) same (one-fewer (subst (λ v. 1 ≤ count_of v his) (sym same) l)) in
                omega (arith, one, before, fewer))
            | inr l ↦ (let t = taken (is_of u) in omega (arith, t, l))
          ]
      go false e = (let none : one_card m u ≡ 0 = ap flag_of e in let before = leaves u in let t = taken (is_of u) in omega (arith, none, before, t))

-- such a hand lets the others be cashed
module _ (strain : Strain) (aims : Aims) (n : Suit → ℕ) (i : ℕ) (own his rest : List PlayingCard) (m c : PlayingCard)
    (lets : LetsCash strain aims n (one_card m) i own his) (taken : (test : PlayingCard → Bool) → count test rest + flag_of (test c) ≡ count test his)
    (suits : FollowsSuit m his c) (throw : i ≡ 2 → Throws aims n m his c) where
  -- the partner still has cards to spare of each suit that it has to follow
  spares-on : i ≡ 2 → (u : Suit) → min (no_cards u + n u) (count_of u rest) ≤ spare_of aims.kept u rest
  spares-on two u = go (is_of u m) (is_of u c) refl refl
    where
      free : aims.kept c ≡ false
      free = (throw two).0

      before : min (one_card m u + n u) (count_of u his) ≤ spare_of aims.kept u his
      before = lets.spares two u

      go : (a b : Bool) → is_of u m ≡ a → is_of u c ≡ b → min (no_cards u + n u) (count_of u rest) ≤ spare_of aims.kept u rest
      go a false e f =
          let all = taken (is_of u) in
          let spare = taken (λ c. is_of u c && not (aims.kept c)) in
          let none : flag_of (is_of u c) ≡ 0 = ap flag_of f in
          let nothing : flag_of (is_of u c && not (aims.kept c)) ≡ 0 = ap (λ b. flag_of (b && not (aims.kept c))) f in
          let k = before in
          omega (arith, all, spare, none, nothing, k)
      go true true e f =
          let one : one_card m u ≡ 1 = ap flag_of e in
          let all = taken (is_of u) in
          let spare = taken (λ c. is_of u c && not (aims.kept c)) in
          let some : flag_of (is_of u c) ≡ 1 = ap flag_of f in
          let spared : flag_of (is_of u c && not (aims.kept c)) ≡ 1 = ap₂ (λ a b. flag_of (a && not b)) f free in
          let k = before in
          omega (arith, one, all, spare, some, spared, k)
      go false true e f =
          let all = taken (is_of u) in
          let spare = taken (λ c. is_of u c && not (aims.kept c)) in
          let spared : flag_of (is_of u c && not (aims.kept c)) ≡ 1 = ap₂ (λ a b. flag_of (a && not b)) f free in
          elim (throw two).1 [
            | inl suit ↦ absurd (let same : is_of u m ≡ true = of-suit' u m (sym suit ∙ suit-of u c f) in let k : false ≡ true = sym e ∙ same in cc)
            | inr many ↦ (let more : n u + 1 ≤ spare_of aims.kept u his = subst (λ v. n v + 1 ≤ spare_of aims.kept v his) (suit-of u c f) many in omega (arith, spare, spared, more))
          ]

  -- and as many in all
  throws-on : i ≡ 2 → total no_cards + total n ≤ count (λ c. not (aims.kept c)) rest
  throws-on two =
      let before = lets.throws two in
      let one = one-total m in
      let plain : flag_of (not (aims.kept c)) ≡ 1 = ap (λ b. flag_of (not b)) (throw two).0 in
      let t = taken (λ c. not (aims.kept c)) in
      omega (arith, before, one, plain, t)

  -- in one
  pub played-on : LetsCash strain aims n no_cards i own rest
  played-on = record {
    yields = yields-on strain aims.sure n i own his rest m c taken suits lets.yields;
    follows = follows-on strain aims.sure (λ u. n u + aims.least u) i own his rest m c taken suits lets.follows;
    spares = spares-on;
    throws = throws-on;
    leaves = λ other. leaves-on strain aims.sure n i own his rest m c taken suits aims.rest (lets.leaves other);
  }

-- a card c is played to such a trick, the partner's one that it spares
module _ (strain : Strain) (o : Board) (aims : Aims) (n : Suit → ℕ) (s : Side) (p : Board) (m : PlayingCard) (rest : List PlayingCard) (c : PlayingCard)
    (from : IsLater strain aims o s p) (now : Cashing strain aims n p m rest) (has : IsLegal p c) (free : length p.trick ≡ 2 → Throws aims n m (cards_at p (mover p)) c) where
  -- the leader has played
  begun : 1 ≤ length p.trick
  begun = (let k : length p.trick ≡ suc (length rest) = ap length now.trick in omega (arith, k))

  -- the leader is not to play
  apart : seat_code p.first ≢ seat_code (mover p)
  apart = (let a = after-code p.first (length p.trick) in let b = seat_code-lt p.first in let k = begun in let h = from.valid.short in λ e. omega (arith, a, b, e, k, h))

  -- the card follows suit if the hand can
  suited : FollowsSuit m (cards_at p (mover p)) c
  suited some =
      let card = count-some (is_of m.suit) (cards_at p (mover p)) some in
      let obeys : Obeys (m ∷ rest) (cards_at p (mover p)) c = subst (λ trick. Obeys trick (cards_at p (mover p)) c) now.trick (legal-out p.trick (cards_at p (mover p)) c has) in
      obeys card.0 card.1 (suit-of m.suit card.0 card.2)

  -- what the mover's hand lets be cashed
  mover-lets : LetsCash strain aims n (one_card m) (length p.trick) (cards_at p p.first) (cards_at p (mover p))
  mover-lets = (let short = from.valid.short in now.waits (length p.trick) (omega arith) (omega (arith, short)))

  -- it is no trump
  plain : is_trump strain c ≡ false
  plain = elim (eqb_tells (length p.trick) 2) [
    | inl two ↦ false_from_ne_true (is_trump strain c) (λ t. absurd (let k : true ≡ false = sym (from.trumps c t) ∙ (free two.1).0 in cc))
    | inr other ↦ elim (mover-lets.follows other.1) [
      | inl none ↦ false_from_ne_true (is_trump strain c) (λ t. let some = count-has (is_trump strain) (cards_at p (mover p)) c (own-card p c has) t in omega (arith, none, some))
      | inr each ↦ (
          let one : one_card m m.suit ≡ 1 = ap flag_of (of-suit' m.suit m refl) in
          let some = each m.suit in
          same-trump strain c m (suited (omega (arith, one, some))) ∙ now.plain_m)
    ]
  ]

  -- so it is weaker than the card led
  weaker-c : IsWeaker strain m c
  weaker-c = (plain, λ e. now.beats_m (mover p) c (λ k. apart (sym k)) (own-card p c has) e)

  -- and so are all that lie on the trick then
  weaker-all : (e : PlayingCard) → has_card (rest ++ c ∷ []) e ≡ true → IsWeaker strain m e
  weaker-all e h = elim (in-push rest c e h) [ inl k ↦ now.weaker e k | inr k ↦ subst (IsWeaker strain m) k weaker-c ]

  -- the trick then begins with the card led
  pushed : trick_with p c ≡ m ∷ (rest ++ c ∷ [])
  pushed = ap (λ trick. trick ++ c ∷ []) now.trick

  -- the card led is the winning card
  led-wins : winner_of (trick_with p c) p.first p.strain ≡ p.first
  led-wins = ap (seat_after p.first) (ap₂ winning_place from.same pushed ∙ first-wins strain m (rest ++ c ∷ []) now.plain_m weaker-all)

  -- whether or not the trick is complete, the leader is the same afterwards
  first-after : (after p c).first ≡ p.first
  first-after = go (completes p) refl
    where
      go : (b : Bool) → completes p ≡ b → (after p c).first ≡ p.first
      go true e = (trick-closed p c e).1 ∙ led-wins
      go false e = (trick-after p c e).1

  -- and has the same cards
  leaders-hand : cards_at (after p c) (after p c).first ≡ cards_at p p.first
  leaders-hand = ap (cards_at (after p c)) first-after ∙ hand-others p c p.first apart

  -- another hand keeps its cards
  other-hand : (i : ℕ) → i < 4 → i ≢ length p.trick → hand_on (after p c) i ≡ hand_on p i
  other-hand i l differs =
      let a = after-code p.first i in
      let b = after-code p.first (length p.trick) in
      let short = from.valid.short in
      let other : seat_code (seat_after p.first i) ≢ seat_code (mover p) = omega (arith, a, b, l, short, differs) in
      ap (λ x. cards_at (after p c) (seat_after x i)) first-after ∙ hand-others p c (seat_after p.first i) other

  -- the mover's hand is that of the mover's place
  movers-hand : hand_on (after p c) (length p.trick) ≡ cards_at (after p c) (mover p)
  movers-hand = ap (λ x. cards_at (after p c) (seat_after x (length p.trick))) first-after

  -- the partner keeps the cards that it is to keep
  partners-after : (test : PlayingCard → Bool) → Only aims.kept test → count test (hand_on (after p c) 2) ≡ count test (hand_on p 2)
  partners-after test only = elim (eqb_tells 2 (length p.trick)) [
    | inl r ↦ (
        let taken = count-own test p c from.valid has in
        let none : flag_of (test c) ≡ 0 = ap flag_of (only c (free (sym r.1)).0) in
        let now_is : count test (hand_on (after p c) 2) ≡ count test (cards_at (after p c) (mover p)) = ap (λ j. count test (hand_on (after p c) j)) r.1 ∙ ap (count test) movers-hand in
        let was : count test (hand_on p 2) ≡ count test (cards_at p (mover p)) = ap (λ j. count test (hand_on p j)) r.1 in
        omega (arith, taken, none, now_is, was))
    | inr r ↦ ap (count test) (other-hand 2 (omega arith) r.1)
  ]

  -- the first position is as before
  later-after : IsLater strain aims o s (after p c)
  later-after = record {
    valid = (legal-leads p c from.valid has).valid;
    same = strain-after p c ∙ from.same;
    ours = ap (is_side s) first-after ∙ from.ours;
    first = first-after ∙ from.first;
    part = λ x d h. from.part x d (was-in p c from.valid x d h);
    mine = λ test only. ap (count test) leaders-hand ∙ from.mine test only;
    partners = λ test only. partners-after test only ∙ from.partners test only;
    trumps = from.trumps;
  }

  -- what the leader has to cash stays so
  cards-after : HasCards strain aims n (after p c)
  cards-after = record {
    held = λ u. subst (λ cards. n u + aims.low u ≤ count_of u cards) (sym leaders-hand) (now.cards.held u);
    tops = λ u. subst (λ cards. sure_of aims.sure u cards ≤ n u + aims.over u) (sym leaders-hand) (now.cards.tops u);
    plain = now.cards.plain;
    most = λ u. subst (λ cards. count_of u cards ≤ n u + aims.rest u) (sym leaders-hand) (now.cards.most u);
  }

  -- the card led is a master as before
  master-after : IsMaster (after p c) m
  master-after = λ x e away he suits. now.beats_m x e (λ k. away (k ∙ sym (ap seat_code first-after))) (was-in p c from.valid x e he) suits

  -- the hands that have not played let it be cashed as before
  waits-after : (i : ℕ) → length p.trick + 1 ≤ i → i < 4 → LetsCash strain aims n (one_card m) i (cards_at (after p c) (after p c).first) (hand_on (after p c) i)
  waits-after i l k = subst (λ cards. LetsCash strain aims n (one_card m) i cards (hand_on (after p c) i)) (sym leaders-hand)
      (subst (λ cards. LetsCash strain aims n (one_card m) i (cards_at p p.first) cards) (sym (other-hand i k (omega (arith, l)))) (now.waits i (omega (arith, l)) k))

  -- and those that have, the cards that are left
  done-after : (i : ℕ) → 1 ≤ i → i < length p.trick + 1 → LetsCash strain aims n no_cards i (cards_at (after p c) (after p c).first) (hand_on (after p c) i)
  done-after i l k = subst (λ cards. LetsCash strain aims n no_cards i cards (hand_on (after p c) i)) (sym leaders-hand) (elim (eqb_tells i (length p.trick)) [
    | inl r ↦ subst (λ j. LetsCash strain aims n no_cards j (cards_at p p.first) (hand_on (after p c) j)) (sym r.1)
        (subst (λ cards. LetsCash strain aims n no_cards (length p.trick) (cards_at p p.first) cards) (sym movers-hand)
        (played-on strain aims n (length p.trick) (cards_at p p.first) (cards_at p (mover p)) (cards_at (after p c) (mover p)) m c mover-lets (λ test. count-own test p c from.valid has) suited free))
    | inr r ↦ (let short = from.valid.short in subst (λ cards. LetsCash strain aims n no_cards i (cards_at p p.first) cards) (sym (other-hand i (omega (arith, k, short)) r.1)) (now.done i l (omega (arith, k, r.1))))
  ])

  -- where the trick goes on
  on-after : completes p ≡ false → Cashing strain aims n (after p c) m (rest ++ c ∷ [])
  on-after e =
      let long : length (p.trick ++ c ∷ []) ≡ length p.trick + 1 = length-append p.trick (c ∷ []) in
      let size : length (after p c).trick ≡ length (p.trick ++ c ∷ []) = ap length (trick-after p c e).0 in
      record {
        cards = cards-after;
        trick = (trick-after p c e).0 ∙ pushed;
        plain_m = now.plain_m;
        beats_m = master-after;
        weaker = weaker-all;
        waits = λ i l k. waits-after i (omega (arith, l, long, size)) k;
        done = λ i l k. done-after i l (omega (arith, k, long, size));
      }

  -- where it is complete, the side has won it
  won-it : completes p ≡ true → trick_for s p c ≡ 1
  won-it e = ap₂ (λ a b. flag_of (a && b)) e (ap (is_side s) led-wins ∙ from.ours)

-- ---- one trick

-- the partner is of the same side
pub partner-too : (s : Side) (h : Seat) → is_side s h ≡ true → is_side s (seat_after h 2) ≡ true
partner-too s North e = e
partner-too s East e = e
partner-too s South e = e
partner-too s West e = e

-- of a hand's cards that pass a test, each is of one suit
pub by-suits : (test : PlayingCard → Bool) (cards : List PlayingCard) → total (λ u. count (λ c. is_of u c && test c) cards) ≡ count test cards
by-suits test [] = refl
by-suits test (c ∷ cards) =
    let ih = by-suits test cards in
    let s = count-cons (λ c. is_of Spades c && test c) c cards in
    let h = count-cons (λ c. is_of Hearts c && test c) c cards in
    let d = count-cons (λ c. is_of Diamonds c && test c) c cards in
    let l = count-cons (λ c. is_of Clubs c && test c) c cards in
    let all = count-cons test c cards in
    let one = go c.suit (test c) in
    omega (arith, ih, s, h, d, l, all, one)
  where
    go : (u : Suit) (b : Bool) → flag_of ((suit_code u == 0) && b) + flag_of ((suit_code u == 1) && b) + flag_of ((suit_code u == 2) && b) + flag_of ((suit_code u == 3) && b) ≡ flag_of b
    go Spades true = refl
    go Hearts true = refl
    go Diamonds true = refl
    go Clubs true = refl
    go Spades false = refl
    go Hearts false = refl
    go Diamonds false = refl
    go Clubs false = refl

-- where there are more of one kind than of another, there are more of it in one suit
pub more-somewhere : (a b : Suit → ℕ) → total a + 1 ≤ total b → (u : Suit) × (a u + 1 ≤ b u)
more-somewhere a b h = elim (cases_lt (a Spades) (b Spades)) [
  | inl l ↦ (Spades, omega (arith, l))
  | inr x ↦ elim (cases_lt (a Hearts) (b Hearts)) [
    | inl l ↦ (Hearts, omega (arith, l))
    | inr y ↦ elim (cases_lt (a Diamonds) (b Diamonds)) [ inl l ↦ (Diamonds, omega (arith, l)) | inr z ↦ (Clubs, omega (arith, h, x, y, z)) ]
  ]
]

-- the partner has a card to spare
pub spare-card : (strain : Strain) (aims : Aims) (n : Suit → ℕ) (m : PlayingCard) (own rest hand : List PlayingCard) → LetsCash strain aims n (one_card m) 2 own hand
    → (c : PlayingCard) × (has_card (following (m ∷ rest) hand) c ≡ true) × Throws aims n m hand c
spare-card strain aims n m own rest hand lets = elim (cases_lt 0 (count_of m.suit hand)) [
  | inl l ↦ (
      let one : one_card m m.suit ≡ 1 = ap flag_of (of-suit' m.suit m refl) in
      let many = lets.spares refl m.suit in
      let d = count-some (λ c. is_of m.suit c && not (aims.kept c)) hand (omega (arith, l, one, many)) in
      let suit = suit-of m.suit d.0 (and-left (is_of m.suit d.0) (not (aims.kept d.0)) d.2) in
      (d.0, legal-in (m ∷ rest) hand d.0 d.1 (λ e own suits. suit), (not-true (aims.kept d.0) (and-right (is_of m.suit d.0) (not (aims.kept d.0)) d.2), inl suit)))
  | inr l ↦ (
      let one = one-total m in
      let many = lets.throws refl in
      let all = by-suits (λ c. not (aims.kept c)) hand in
      let u = more-somewhere n (λ u. spare_of aims.kept u hand) (omega (arith, one, many, all)) in
      let more = u.1 in
      let d = count-some (λ c. is_of u.0 c && not (aims.kept c)) hand (omega (arith, more)) in
      let suit = suit-of u.0 d.0 (and-left (is_of u.0 d.0) (not (aims.kept d.0)) d.2) in (
        d.0,
        legal-in (m ∷ rest) hand d.0 d.1 (λ e own suits. absurd (let k = count-has (is_of m.suit) hand e own (of-suit' m.suit e suits) in omega (arith, k, l))),
        (not-true (aims.kept d.0) (and-right (is_of u.0 d.0) (not (aims.kept d.0)) d.2), inr (subst (λ v. n v + 1 ≤ spare_of aims.kept v hand) (sym suit) u.1)),
      ))
]

-- after the card led, each hand plays in turn, and the side takes the trick and what the next one brings
mid : (strain : Strain) (o : Board) (aims : Aims) (n : Suit → ℕ) (s : Side) (b : ℕ)
    → ((q : Board) → q.trick ≡ [] → IsLater strain aims o s q → HasCards strain aims n q → AllLetCash strain aims n q → b ≤ won s q)
    → (j : ℕ) (p : Board) (m : PlayingCard) (rest : List PlayingCard) → length p.trick + j ≡ 4 → IsLater strain aims o s p → Cashing strain aims n p m rest → b + 1 ≤ won s p
mid strain o aims n s b next zero p m rest size from now = absurd (let h = from.valid.short in omega (arith, h, size))
mid strain o aims n s b next (suc j) p m rest size from now = go (λ q r l f k. mid strain o aims n s b next j q m r l f k)
  where
    some : 1 ≤ tricks_left p
    some =
        let full = from.valid.even 0 (omega arith) in
        let k : length p.trick ≡ suc (length rest) = ap length now.trick in
        let one : flag_of (nat_lt 0 (length p.trick)) ≡ 1 = ap flag_of (lt-ltb 0 (length p.trick) (omega (arith, k))) in
        omega (arith, full, one)

    Goes : Type 0
    Goes = (q : Board) (r : List PlayingCard) → length q.trick + j ≡ 4 → IsLater strain aims o s q → Cashing strain aims n q m r → b + 1 ≤ won s q

    leaves : (c : PlayingCard) → IsLegal p c → (length p.trick ≡ 2 → Throws aims n m (cards_at p (mover p)) c) → (x : Bool) → completes p ≡ x → Goes → b + 1 ≤ won_with s p c
    leaves c has plain true e ih =
        let three : length p.trick ≡ 3 = eqb-true (length p.trick) 3 e in
        let trick_for = won-it strain o aims n s p m rest c from now has plain e in
        let later : b ≤ won s (after p c) = next (after p c) (trick-closed p c e).0 (later-after strain o aims n s p m rest c from now has plain) (cards-after strain o aims n s p m rest c from now has plain)
        (λ i l k. done-after strain o aims n s p m rest c from now has plain i l (omega (arith, k, three))) in
        omega (arith, trick_for, later)
    leaves c has plain false e ih =
        let long : length (p.trick ++ c ∷ []) ≡ length p.trick + 1 = length-append p.trick (c ∷ []) in
        let on : length (after p c).trick ≡ length (p.trick ++ c ∷ []) = ap length (trick-after p c e).0 in
        let later : b + 1 ≤ won s (after p c) = ih (after p c) (rest ++ c ∷ []) (omega (arith, long, on, size)) (later-after strain o aims n s p m rest c from now has plain) (on-after strain o aims n s p m rest c from now has plain e) in
        omega (arith, later)

    -- the partner plays a card that it spares
    partner : length p.trick ≡ 2 → Goes → b + 1 ≤ won s p
    partner two ih =
        let at : cards_at p (mover p) ≡ hand_on p 2 = ap (hand_on p) two in
        let lets = now.waits 2 (omega (arith, two)) (omega arith) in
        let c = spare-card strain aims n m (cards_at p p.first) rest (hand_on p 2) lets in
        let has : IsLegal p c.0 = ap₂ (λ trick cards. has_card (following trick cards) c.0) now.trick at ∙ c.1 in
        let turn : is_side s (mover p) ≡ true = ap (λ j. is_side s (seat_after p.first j)) two ∙ partner-too s p.first from.ours in
        let enough = leaves c.0 has (λ e. subst (λ cards. Throws aims n m cards c.0) (sym at) c.2) (completes p) refl ih in
        let reach : won_with s p c.0 ≤ won s p = can s p c.0 from.valid turn has in
        omega (arith, enough, reach)

    go : Goes → b + 1 ≤ won s p
    go ih = elim (eqb_tells (length p.trick) 2) [
      | inl two ↦ partner two.1 ih
      | inr other ↦ whoever s p (b + 1) from.valid some (λ c has. leaves c has (λ two. absurd (other.1 two)) (completes p) refl ih)
    ]

-- ---- the card that is led

-- without one of these cards
abbrev pub less : (Suit → ℕ) → PlayingCard → Suit → ℕ
less n c u = n u - flag_of (is_of u c)

-- one fewer in all
pub total-less : (n : Suit → ℕ) (c : PlayingCard) → 1 ≤ n c.suit → total (less n c) + 1 ≡ total n
total-less n c h = go c.suit h
  where
    go : (u : Suit) → 1 ≤ n u → (n Spades - flag_of (suit_code u == 0)) + (n Hearts - flag_of (suit_code u == 1)) + (n Diamonds - flag_of (suit_code u == 2)) + (n Clubs - flag_of (suit_code u == 3)) + 1 ≡ n Spades + n Hearts + n Diamonds + n Clubs
    go Spades h = omega (arith, h)
    go Hearts h = omega (arith, h)
    go Diamonds h = omega (arith, h)
    go Clubs h = omega (arith, h)

-- where there are some, there are some of one suit
some-suit : (n : Suit → ℕ) → 1 ≤ total n → (u : Suit) × (1 ≤ n u)
some-suit n h = elim (cases_lt 0 (n Spades)) [
  | inl l ↦ (Spades, l)
  | inr a ↦ elim (cases_lt 0 (n Hearts)) [
    | inl l ↦ (Hearts, l)
    | inr b ↦ elim (cases_lt 0 (n Diamonds)) [ inl l ↦ (Diamonds, l) | inr d ↦ (Clubs, omega (arith, h, a, b, d)) ]
  ]
]

-- a hand lets the card m be led, where m is sure or the hand has none of its suit
pub lets-lead : (strain : Strain) (aims : Aims) (n : Suit → ℕ) (i : ℕ) (own rest his : List PlayingCard) (m : PlayingCard) → LetsCash strain aims n no_cards i own his → 1 ≤ n m.suit
    → ((u : Suit) → sure_of aims.sure u rest + flag_of (is_of u m && aims.sure m) ≡ sure_of aims.sure u own) → (aims.sure m ≡ true) ⊎ (count_of m.suit his ≡ 0) → LetsCash strain aims (less n m) (one_card m) i rest his
lets-lead strain aims n i own rest his m lets some_m taken good = record {
  yields = λ u. yields u (is_of u m) refl;
  follows = λ other. elim (lets.follows other) [ inl none ↦ inl none | inr each ↦ inr (λ u. let k = each u in let e = splits u in omega (arith, k, e)) ];
  spares = λ two u. (let k = lets.spares two u in let e = splits u in omega (arith, k, e));
  throws = λ two. (let k = lets.throws two in let one = one-total m in let fewer = total-less n m some_m in omega (arith, k, one, fewer));
  leaves = λ other u. (let k = lets.leaves other u in let e = splits u in omega (arith, k, e));
}
  where
    splits : (u : Suit) → one_card m u + less n m u ≡ n u
    splits u = go (is_of u m) refl
      where
        go : (b : Bool) → is_of u m ≡ b → one_card m u + less n m u ≡ n u
        go true e = (let one : one_card m u ≡ 1 = ap flag_of e in let some : 1 ≤ n u = subst (λ v. 1 ≤ n v) (suit-of u m e) some_m in omega (arith, one, some))
        go false e = (let none : one_card m u ≡ 0 = ap flag_of e in omega (arith, none))

    yields : (u : Suit) (b : Bool) → is_of u m ≡ b → min (one_card m u + less n m u) (count_of u his) ≤ one_card m u + sure_of aims.sure u rest
    yields u false e =
        let none : one_card m u ≡ 0 = ap flag_of e in
        let same : flag_of (is_of u m && aims.sure m) ≡ 0 = ap (λ b. flag_of (b && aims.sure m)) e in
        let t = taken u in
        let k = lets.yields u in
        omega (arith, none, same, t, k)
    yields u true e =
        let one : one_card m u ≡ 1 = ap flag_of e in
        let whole = splits u in
        elim good [
          | inl sure_m ↦ (
              let same : flag_of (is_of u m && aims.sure m) ≡ 1 = ap₂ (λ a b. flag_of (a && b)) e sure_m in
              let t = taken u in
              let k = lets.yields u in
              omega (arith, one, same, t, k, whole))
          | inr void ↦ (let none : count_of u his ≡ 0 = ap (λ v. count_of v his) (sym (suit-of u m e)) ∙ void in omega (arith, none))
        ]

-- the card is sure, or of a suit of which there are no sure ones and that no other hand has any more
abbrev IsGood : Aims → Board → PlayingCard → Type 0
IsGood aims p m = (aims.sure m ≡ true) ⊎ ((sure_of aims.sure m.suit (cards_at p p.first) ≡ 0) × ((i : ℕ) → 1 ≤ i → i < 4 → count_of m.suit (hand_on p i) ≡ 0))

-- the leader leads such a card m, of a suit that has cards to cash
module _ (strain : Strain) (o : Board) (aims : Aims) (n : Suit → ℕ) (s : Side) (p : Board) (m : PlayingCard)
    (start : p.trick ≡ []) (from : IsLater strain aims o s p) (now : HasCards strain aims n p) (lets : AllLetCash strain aims n p)
    (own : has_card (cards_at p p.first) m ≡ true) (some_m : 1 ≤ n m.suit) (master : IsMaster p m)
    (good : IsGood aims p m) where
  -- the leader is to play
  leads : mover p ≡ p.first
  leads = ap (λ trick. seat_after p.first (length trick)) start

  -- and may play the card
  may-lead : IsLegal p m
  may-lead = ap (λ trick. has_card (following trick (cards_at p (mover p))) m) start ∙ ap (λ x. has_card (cards_at p x) m) leads ∙ own

  -- the card opens the trick
  opens : completes p ≡ false
  opens = ap (λ trick. length trick == 3) start

  -- the leader of the trick is the same
  leader-stays : (after p m).first ≡ p.first
  leader-stays = (trick-after p m opens).1

  -- and the card is the only one on it
  led : (after p m).trick ≡ m ∷ []
  led = (trick-after p m opens).0 ∙ ap (λ trick. trick ++ m ∷ []) start

  -- the leader's hand has one card fewer of those that pass, if the card led passes
  count-led : (test : PlayingCard → Bool) → count test (cards_at (after p m) (after p m).first) + flag_of (test m) ≡ count test (cards_at p p.first)
  count-led test = subst (λ x. count test (cards_at (after p m) x) + flag_of (test m) ≡ count test (cards_at p p.first)) (leads ∙ sym leader-stays)
      (subst (λ x. count test (cards_at (after p m) (mover p)) + flag_of (test m) ≡ count test (cards_at p x)) leads (count-own test p m from.valid may-lead))

  -- another hand has the same cards
  others-led : (i : ℕ) → 1 ≤ i → i < 4 → hand_on (after p m) i ≡ hand_on p i
  others-led i l k =
      let a = after-code p.first i in
      let b = seat_code-lt p.first in
      let here : seat_code (mover p) ≡ seat_code p.first = ap seat_code leads in
      let other : seat_code (seat_after p.first i) ≢ seat_code (mover p) = omega (arith, a, b, here, l, k) in
      ap (λ x. cards_at (after p m) (seat_after x i)) leader-stays ∙ hand-others p m (seat_after p.first i) other

  -- the card led is no trump
  plain-led : is_trump strain m ≡ false
  plain-led = now.plain m.suit m some_m refl

  -- the first position is as before
  later-led : IsLater strain aims o s (after p m)
  later-led = record {
    valid = (legal-leads p m from.valid may-lead).valid;
    same = strain-after p m ∙ from.same;
    ours = ap (is_side s) leader-stays ∙ from.ours;
    first = leader-stays ∙ from.first;
    part = λ x d h. from.part x d (was-in p m from.valid x d h);
    mine = λ test only. (let k = count-led test in let none : flag_of (test m) ≡ 0 = ap flag_of (only m plain-led) in let e = from.mine test only in omega (arith, k, none, e));
    partners = λ test only. ap (count test) (others-led 2 (omega arith) (omega arith)) ∙ from.partners test only;
    trumps = from.trumps;
  }

  -- of the suit led there are some to cash
  one-of : (u : Suit) → flag_of (is_of u m) ≤ n u
  one-of u = go (is_of u m) refl
    where
      go : (b : Bool) → is_of u m ≡ b → flag_of (is_of u m) ≤ n u
      go true e = (let one : flag_of (is_of u m) ≡ 1 = ap flag_of e in let some : 1 ≤ n u = subst (λ v. 1 ≤ n v) (suit-of u m e) some_m in omega (arith, one, some))
      go false e = (let none : flag_of (is_of u m) ≡ 0 = ap flag_of e in omega (arith, none))

  -- a sure card is led where there is one
  tops-led : (u : Suit) → sure_of aims.sure u (cards_at (after p m) (after p m).first) ≤ less n m u + aims.over u
  tops-led u = go (is_of u m) refl
    where
      taken : sure_of aims.sure u (cards_at (after p m) (after p m).first) + flag_of (is_of u m && aims.sure m) ≡ sure_of aims.sure u (cards_at p p.first)
      taken = count-led (λ c. is_of u c && aims.sure c)

      go : (b : Bool) → is_of u m ≡ b → sure_of aims.sure u (cards_at (after p m) (after p m).first) ≤ less n m u + aims.over u
      go false e = (let t = taken in let none : flag_of (is_of u m) ≡ 0 = ap flag_of e in let before = now.tops u in omega (arith, t, none, before))
      go true e = (let t = taken in let one : flag_of (is_of u m) ≡ 1 = ap flag_of e in let before = now.tops u in elim good [
        | inl sure_m ↦ (let here : flag_of (is_of u m && aims.sure m) ≡ 1 = ap₂ (λ a b. flag_of (a && b)) e sure_m in let some = one-of u in omega (arith, t, one, before, here, some))
        | inr none ↦ (let void : sure_of aims.sure u (cards_at p p.first) ≡ 0 = subst (λ v. sure_of aims.sure v (cards_at p p.first) ≡ 0) (suit-of u m e) none.0 in omega (arith, t, void))
      ])

  -- what the leader has to cash without the card led
  cards-led : HasCards strain aims (less n m) (after p m)
  cards-led = record {
    held = λ u. (let before = now.held u in let taken = count-led (is_of u) in let some : flag_of (is_of u m) ≤ n u = one-of u in omega (arith, before, taken, some));
    tops = tops-led;
    plain = λ u c h e. now.plain u c (omega (arith, h)) e;
    most = λ u. (let before = now.most u in let taken = count-led (is_of u) in let some : flag_of (is_of u m) ≤ n u = one-of u in omega (arith, before, taken, some));
  }

  -- the card led is on the trick
  cashing-led : Cashing strain aims (less n m) (after p m) m []
  cashing-led =
      let one : length (after p m).trick ≡ 1 = ap length led in
      record {
        cards = cards-led;
        trick = led;
        plain_m = plain-led;
        beats_m = λ x e away he suits. master x e (λ k. away (k ∙ sym (ap seat_code leader-stays))) (was-in p m from.valid x e he) suits;
        weaker = λ e h. absurd (cc);
        waits = λ i l k. subst (λ cards. LetsCash strain aims (less n m) (one_card m) i (cards_at (after p m) (after p m).first) cards) (sym (others-led i (omega (arith, l, one)) k))
            (lets-lead strain aims n i (cards_at p p.first) (cards_at (after p m) (after p m).first) (hand_on p i) m (lets i (omega (arith, l, one)) k) some_m (λ u. count-led (λ c. is_of u c && aims.sure c))
            (elim good [ inl sure_m ↦ inl sure_m | inr void ↦ inr (void.1 i (omega (arith, l, one)) k) ]));
        done = λ i l k. absurd (omega (arith, l, k, one));
      }

  -- so the card led takes a trick, beside what the next one brings
  one-cashed : (b : ℕ) → ((q : Board) → q.trick ≡ [] → IsLater strain aims o s q → HasCards strain aims (less n m) q → AllLetCash strain aims (less n m) q → b ≤ won s q) → b + 1 ≤ won s p
  one-cashed b next =
      let one : length (after p m).trick ≡ 1 = ap length led in
      let later : b + 1 ≤ won s (after p m) = mid strain o aims (less n m) s b next 3 (after p m) m [] (omega (arith, one)) later-led cashing-led in
      let reach : won_with s p m ≤ won s p = can s p m from.valid (ap (is_side s) leads ∙ from.ours) may-lead in
      omega (arith, later, reach)

-- ---- all of them

-- the card to lead: a sure one, or any of a suit that no other hand has any more
record Leads (aims : Aims) (n : Suit → ℕ) (p : Board) (m : PlayingCard) : Type 0 where
  own : has_card (cards_at p p.first) m ≡ true
  some : 1 ≤ n m.suit
  master : IsMaster p m
  good : IsGood aims p m

-- where there are cards to cash, there is such a card
to-lead : (strain : Strain) (o : Board) (aims : Aims) (n : Suit → ℕ) (s : Side) (p : Board) (u : Suit) → 1 ≤ n u
    → ((c : PlayingCard) → has_card (cards_at o o.first) c ≡ true → aims.sure c ≡ true → IsMaster o c) → IsLater strain aims o s p → HasCards strain aims n p → AllLetCash strain aims n p → (m : PlayingCard) × Leads aims n p m
to-lead strain o aims n s p u some masters from now lets = elim (cases_lt 0 (sure_of aims.sure u (cards_at p p.first))) [
  | inl l ↦ (
      let c = count-some (λ c. is_of u c && aims.sure c) (cards_at p p.first) l in
      let good : aims.sure c.0 ≡ true = and-right (is_of u c.0) (aims.sure c.0) c.2 in
      let was : has_card (cards_at o o.first) c.0 ≡ true = subst (λ x. has_card (cards_at o x) c.0 ≡ true) from.first (from.part p.first c.0 c.1) in (
        c.0,
        record {
          own = c.1;
          some = subst (λ v. 1 ≤ n v) (sym (suit-of u c.0 (and-left (is_of u c.0) (aims.sure c.0) c.2))) some;
          master = λ x e away he suits. masters c.0 was good x e (λ k. away (k ∙ sym (ap seat_code from.first))) (from.part x e he) suits;
          good = inl good;
        },
      ))
  | inr none ↦ (
      let held = now.held u in
      let c = count-some (is_of u) (cards_at p p.first) (omega (arith, held, some)) in
      let same = suit-of u c.0 c.2 in
      let void : (i : ℕ) → 1 ≤ i → i < 4 → count_of c.0.suit (hand_on p i) ≡ 0 = λ i a b. (let k = (lets i a b).yields u in subst (λ v. count_of v (hand_on p i) ≡ 0) (sym same) (omega (arith, k, none, some))) in (
        c.0,
        record {
          own = c.1;
          some = subst (λ v. 1 ≤ n v) (sym same) some;
          master = λ x e away he suits. absurd (
              let on = places-on p.first x away in
              let none = void on.0 on.1 on.2 in
              let one = count-has (is_of c.0.suit) (hand_on p on.0) e (subst (λ y. has_card (cards_at p y) e ≡ true) on.3 he) (of-suit' c.0.suit e suits) in
              omega (arith, none, one));
          good = inr (subst (λ v. sure_of aims.sure v (cards_at p p.first) ≡ 0) (sym same) (omega (arith, none)), void);
        },
      ))
]

-- the leader's side takes a trick for each card to cash, and then what is left to it
pub cashed-all : (k b : ℕ) (strain : Strain) (o : Board) (aims : Aims) (n : Suit → ℕ) (s : Side) (p : Board) → ((q : Board) (r : Suit → ℕ) → q.trick ≡ [] → IsLater strain aims o s q → HasCards strain aims r q → AllLetCash strain aims r q → total r ≡ 0 → b ≤ won s q)
    → ((c : PlayingCard) → has_card (cards_at o o.first) c ≡ true → aims.sure c ≡ true → IsMaster o c) → total n ≡ k → p.trick ≡ [] → IsLater strain aims o s p → HasCards strain aims n p → AllLetCash strain aims n p → k + b ≤ won s p
cashed-all zero b strain o aims n s p rest masters size start from now lets = (let k = rest p n start from now lets size in omega (arith, k))
cashed-all (suc k) b strain o aims n s p rest masters size start from now lets =
    let suit = some-suit n (omega (arith, size)) in
    let m = to-lead strain o aims n s p suit.0 suit.1 masters from now lets in
    let fewer = total-less n m.0 m.1.some in
    let all : k + b + 1 ≤ won s p = one-cashed strain o aims n s p m.0 start from now lets m.1.own m.1.some m.1.master m.1.good (k + b)
    (λ q t f c l. cashed-all k b strain o aims (less n m.0) s q rest masters (omega (arith, fewer, size)) t f c l) in
    omega (arith, all)
