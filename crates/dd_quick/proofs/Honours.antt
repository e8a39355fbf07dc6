-- The honour with which an opponent guards a suit: it is the opponents' highest card there, what the leader's side has above it
-- are the cards that no opponent beats, and at a position that is covered with the honour all that is so of its image.
use Rattle.std.proofs.Common.{◌≡◌, ◌≢◌, ℕ, ◌-◌, ◌<◌, ◌≤◌, Bool, true, false, refl, sym, ap, ◌∙◌, arith, List, [], ◌∷◌, inl, inr}
use Rattle.std.specs.Prelude.{filter, nat_le, nat_lt, ◌&&◌, ◌||◌, ◌==◌, ◌⊎◌}
use mathlib.Core.Bool.{not}
use mathlib.Core.Path.{ap₂}
use Rattle.std.proofs.lemmas.Bool.{eqb-true, lt-ltb, ltb-true, or_cases, not-true, false_from_ne_true}
use Rattle.std.proofs.lemmas.Bool.Decides.{nat_tests}
use Rattle.dd_cards.specs.declared.seat.Seat.{Seat}
use Rattle.dd_cards.specs.declared.suit.Suit.{Suit}
use Rattle.dd_cards.specs.declared.side.Side.{Side}
use Rattle.dd_cards.specs.PlayingCard.{PlayingCard}
use Rattle.dd_cards.specs.Cards.{is_of, same_card, has_card}
use Rattle.dd_cards.specs.Seats.{seat_code, seat_after}
use Rattle.dd_cards.proofs.CallerLemmas.{and-left, and-right, any-filter, seat_code-lt}
use Rattle.dd_play.specs.Board.{Board, IsBoard, cards_at}
use Rattle.dd_play.specs.Covers.{IsCover}
use Rattle.dd_play.specs.Reach.{IsStrict, reach}
use Rattle.dd_play.proofs.CallerLemmas.{after-code, card-real, count, count-has, count-some, filter-has, filter-passes, inject, of-suit', once-in, reach-upward, suit-of, turn-apart}
use Rattle.dd_quick.specs.QuickTricks.{RestsOnGuard, ahead, beats, guards, is_ahead, is_unbeaten, length_at, longer, tops, unbeaten}
use Rattle.dd_quick.proofs.Covered.{count-image}
use Rattle.dd_quick.proofs.Hands.{IsOpposed, lower, none-over}
use Rattle.dd_quick.proofs.Runs.{none-passes}
use Rattle.dd_quick.proofs.Sound.{lowest}
use Rattle.dd_quick.proofs.TakenTrick.{one-three, three-one, three-three}
use Rattle.dd_rank.proofs.CallerLemmas.{count-le}

-- ---- what it is to guard a suit

-- the parts of the test
pub record IsGuard (p : Board) (i : ℕ) (u : Suit) : Type 0 where
  pub best : 1 ≤ ahead p (seat_after p.first i) u
  pub short : tops p u < longer p u
  pub long : tops p u < length_at p (seat_after p.first i) u
  pub bare : (unbeaten p (seat_after (seat_after p.first i) 1) u ≡ 0) ⊎ (unbeaten p (seat_after (seat_after p.first i) 1) u ≡ length_at p (seat_after (seat_after p.first i) 1) u)

pub guard-parts : (p : Board) (i : ℕ) (u : Suit) → guards p i u ≡ true → IsGuard p i u
guard-parts p i u e =
    let x = seat_after p.first i in
    let y = seat_after (seat_after p.first i) 1 in
    let three = and-left ((nat_lt 0 (ahead p x u) && nat_lt (tops p u) (longer p u)) && nat_lt (tops p u) (length_at p x u)) _ e in
    let two = and-left (nat_lt 0 (ahead p x u) && nat_lt (tops p u) (longer p u)) _ three in
    record {
      best = ltb-true 0 (ahead p x u) (and-left (nat_lt 0 (ahead p x u)) _ two);
      short = ltb-true (tops p u) (longer p u) (and-right (nat_lt 0 (ahead p x u)) _ two);
      long = ltb-true (tops p u) (length_at p x u) (and-right (nat_lt 0 (ahead p x u) && nat_lt (tops p u) (longer p u)) _ three);
      bare = elim (or_cases (unbeaten p y u == 0) (unbeaten p y u == length_at p y u) (and-right ((nat_lt 0 (ahead p x u) && nat_lt (tops p u) (longer p u)) && nat_lt (tops p u) (length_at p x u)) _ e)) [
        | inl k ↦ inl (eqb-true (unbeaten p y u) 0 k)
        | inr k ↦ inr (eqb-true (unbeaten p y u) (length_at p y u) k)
      ];
    }

-- is the card of the suit and higher than this one?
abbrev pub above : Suit → PlayingCard → PlayingCard → Bool
above u g c = is_of u c && nat_lt g.rank c.rank

-- The highest card of the suit of the seat x and its partner; x has it, and it is a top card.
pub record IsHonour (top : PlayingCard → Bool) (p : Board) (x : Seat) (u : Suit) (g : PlayingCard) : Type 0 where
  pub own : has_card (cards_at p x) g ≡ true
  pub suit : g.suit ≡ u
  pub is_top : top g ≡ true
  pub highest : (e : PlayingCard) → has_card (cards_at p x) e ≡ true → e.suit ≡ u → e.rank ≤ g.rank
  pub ahead_of : (e : PlayingCard) → has_card (cards_at p (seat_after x 2)) e ≡ true → e.suit ≡ u → e.rank < g.rank

-- where a card of the seat is reached that its partner can't beat, it has such a card
pub some-honour : (p : Board) (cards : List PlayingCard) (i : ℕ) (u : Suit) → IsBoard p → guards p i u ≡ true → RestsOnGuard p i u cards → (g : PlayingCard) × IsHonour (reach cards) p (seat_after p.first i) u g
some-honour p cards i u valid it_guards rests = by (filter (is_of u) (cards_at p x)) refl
  where
    x : Seat
    x = seat_after p.first i

    d : (c : PlayingCard) × (has_card (cards_at p x) c ≡ true) × (((is_of u c && is_ahead p x c) && reach cards c) ≡ true)
    d = count-some (λ c. (is_of u c && is_ahead p x c) && reach cards c) (cards_at p x) (rests it_guards)

    suit_d : d.0.suit ≡ u
    suit_d = suit-of u d.0 (and-left (is_of u d.0) (is_ahead p x d.0) (and-left (is_of u d.0 && is_ahead p x d.0) (reach cards d.0) d.2))

    free_d : beats p (seat_after x 2) d.0 ≡ false
    free_d = not-true (beats p (seat_after x 2) d.0) (and-right (is_of u d.0) (is_ahead p x d.0) (and-left (is_of u d.0 && is_ahead p x d.0) (reach cards d.0) d.2))

    there : has_card (filter (is_of u) (cards_at p x)) d.0 ≡ true
    there = filter-has (is_of u) (cards_at p x) d.0 d.1 (of-suit' u d.0 suit_d)

    apart : seat_code (seat_after x 2) ≢ seat_code x
    apart = (let a = after-code x 2 in let b = seat_code-lt x in λ e. omega (arith, a, b, e))

    by : (all : List PlayingCard) → filter (is_of u) (cards_at p x) ≡ all → (g : PlayingCard) × IsHonour (reach cards) p x u g
    by [] e = absurd (let k : true ≡ false = sym there ∙ ap (λ l. has_card l d.0) e in cc)
    by (c ∷ rest) e = (low.0, record { own = mine; suit = suit; is_top = is_top; highest = highest; ahead_of = λ f his of_u. (let k = highest d.0 d.1 suit_d in let l = lower p valid x (seat_after x 2) d.0 f apart free_d d.1 his (of_u ∙ sym suit_d) in omega (arith, k, l)) })
      where
        low : (g : PlayingCard) × (has_card (c ∷ rest) g ≡ true) × ((f : PlayingCard) → has_card (c ∷ rest) f ≡ true → 15 - g.rank ≤ 15 - f.rank)
        low = lowest (λ (y : PlayingCard). 15 - y.rank) c rest

        in-filter : has_card (filter (is_of u) (cards_at p x)) low.0 ≡ true
        in-filter = ap (λ l. has_card l low.0) e ∙ low.1

        mine : has_card (cards_at p x) low.0 ≡ true
        mine = any-filter (λ y. same_card y low.0) (is_of u) (cards_at p x) in-filter

        suit : low.0.suit ≡ u
        suit = suit-of u low.0 (filter-passes (is_of u) (cards_at p x) low.0 in-filter)

        highest : (f : PlayingCard) → has_card (cards_at p x) f ≡ true → f.suit ≡ u → f.rank ≤ low.0.rank
        highest f his of_u =
            let k = low.2 f (ap (λ l. has_card l f) (sym e) ∙ filter-has (is_of u) (cards_at p x) f his (of-suit' u f of_u)) in
            let a = (card-real p x f valid his).1 in
            omega (arith, k, a)

        is_top : reach cards low.0 ≡ true
        is_top = go (reach cards low.0) refl
          where
            go : (b : Bool) → reach cards low.0 ≡ b → reach cards low.0 ≡ true
            go true f = f
            go false f = absurd (
                let over = reach-upward cards d.0 low.0 (and-right (is_of u d.0 && is_ahead p x d.0) (reach cards d.0) d.2) f (suit_d ∙ sym suit) in
                let k = highest d.0 d.1 suit_d in
                omega (arith, over, k))

-- ---- what the leader's side has above it

-- they are the cards that no opponent beats
module _ (top : PlayingCard → Bool) (p : Board) (x : Seat) (u : Suit) (g : PlayingCard) (valid : IsBoard p) (is : IsHonour top p x u g) where
  -- a card that both opponents of a seat, x and its partner, don't beat is above it, and back
  over-both : (z : Seat) (i : ℕ) → IsOpposed i → seat_after z i ≡ x → (((c : PlayingCard) → above u g c ≡ true → is_unbeaten p z c ≡ true)) → unbeaten p z u ≡ count (above u g) (cards_at p z)
  over-both z i opposed at free =
      let a = count-le (λ c. is_of u c && is_unbeaten p z c) (above u g) (cards_at p z) (λ c has pass.
      let of_u = and-left (is_of u c) (is_unbeaten p z c) pass in
      let over = none-over p valid z i c g opposed (and-right (is_of u c) (is_unbeaten p z c) pass) has (ap (λ y. has_card (cards_at p y) g) at ∙ is.own) (is.suit ∙ sym (suit-of u c of_u)) in
      ap₂ (λ s t. s && t) of_u (lt-ltb g.rank c.rank over)) in
      let b = count-le (above u g) (λ c. is_of u c && is_unbeaten p z c) (cards_at p z) (λ c has pass. ap₂ (λ s t. s && t) (and-left (is_of u c) (nat_lt g.rank c.rank) pass) (free c pass)) in
      omega (arith, a, b)

  -- x and its partner don't beat a card above it
  never : (y : Seat) → ((e : PlayingCard) → has_card (cards_at p y) e ≡ true → e.suit ≡ u → e.rank ≤ g.rank) → (c : PlayingCard) → above u g c ≡ true → beats p y c ≡ false
  never y low c pass = none-passes (λ d. is_of c.suit d && nat_lt c.rank d.rank) (cards_at p y) (λ d has. false_from_ne_true (is_of c.suit d && nat_lt c.rank d.rank) (λ k. absurd (
      let of_u = suit-of u c (and-left (is_of u c) (nat_lt g.rank c.rank) pass) in
      let over = ltb-true g.rank c.rank (and-right (is_of u c) (nat_lt g.rank c.rank) pass) in
      let under = low d has (suit-of c.suit d (and-left (is_of c.suit d) (nat_lt c.rank d.rank) k) ∙ of_u) in
      let more = ltb-true c.rank d.rank (and-right (is_of c.suit d) (nat_lt c.rank d.rank) k) in
      omega (arith, over, under, more))))

  never-x : (y : Seat) → y ≡ x → (c : PlayingCard) → above u g c ≡ true → beats p y c ≡ false
  never-x y e c pass = ap (λ z. beats p z c) e ∙ never x is.highest c pass

  never-partner : (y : Seat) → y ≡ seat_after x 2 → (c : PlayingCard) → above u g c ≡ true → beats p y c ≡ false
  never-partner y e c pass = ap (λ z. beats p z c) e ∙ never (seat_after x 2) (λ f has of_u. (let k = is.ahead_of f has of_u in omega (arith, k))) c pass

  both-free : {a b : Bool} → a ≡ false → b ≡ false → not (a || b) ≡ true
  both-free e f = rw (e, f) refl

  pub tops-next : (z : Seat) → z ≡ seat_after x 1 → unbeaten p z u ≡ count (above u g) (cards_at p z)
  tops-next z e = over-both z 3 (inr refl) (ap (λ y. seat_after y 3) e ∙ three-one x) (λ c pass. both-free (never-partner (seat_after z 1) (ap (λ y. seat_after y 1) e) c pass) (never-x (seat_after z 3) (ap (λ y. seat_after y 3) e ∙ three-one x) c pass))

  pub tops-last : (z : Seat) → z ≡ seat_after x 3 → unbeaten p z u ≡ count (above u g) (cards_at p z)
  tops-last z e = over-both z 1 (inl refl) (ap (λ y. seat_after y 1) e ∙ one-three x) (λ c pass. both-free (never-x (seat_after z 1) (ap (λ y. seat_after y 1) e ∙ one-three x) c pass) (never-partner (seat_after z 3) (ap (λ y. seat_after y 3) e ∙ three-three x) c pass))

-- ---- at a position that is covered

module _ (top : PlayingCard → Bool) (k : ℕ) (to from : PlayingCard → PlayingCard) (s : Side) (p : Board) (t : Side) (q : Board) (r : IsCover top k to from s p t q) (strict : IsStrict top to from p q)
    (upward : (c d : PlayingCard) → top c ≡ true → c.suit ≡ d.suit → c.rank ≤ d.rank → top d ≡ true) (x : Seat) (u : Suit) (g : PlayingCard) (is : IsHonour top p x u g) where
  -- its image is in the hand that is turned
  pub image : (has_card (cards_at q (seat_after x k)) (to g) ≡ true) × (from (to g) ≡ g)
  image = r.forth x g is.own is.is_top

  pub image-suit : (to g).suit ≡ u
  image-suit = r.to_suit g ∙ is.suit

  less : (a b : ℕ) → nat_le a b ≡ false → b < a
  less a b h = grind (arith, nat_tests)

  not-le : (a b : ℕ) → b < a → nat_le a b ≡ false
  not-le a b h = grind (arith, nat_tests)

  le : (a b : ℕ) → nat_le a b ≡ true → a ≤ b
  le a b h = grind (arith, nat_tests)

  is-le : (a b : ℕ) → a ≤ b → nat_le a b ≡ true
  is-le a b h = grind (arith, nat_tests)

  -- of another hand as many cards are above the image as were above the card
  pub above-same : (z : Seat) → seat_code z ≢ seat_code x → count (above u (to g)) (cards_at q (seat_after z k)) ≡ count (above u g) (cards_at p z)
  above-same z apart =
      let a = count-le (above u g) (λ c. above u g c && top c) (cards_at p z) (λ c has pass. ap₂ (λ m n. m && n) pass (tops-of c pass)) in
      let b = count-image top k to from s p t q r (above u g) (above u (to g)) z forth in
      let d = inject from to (above u (to g)) (above u g) (cards_at q (seat_after z k)) (cards_at p z) (once-in q r.valid_q (seat_after z k)) (λ e has pass. back e has pass (top (from e)) refl) in
      omega (arith, a, b, d)
    where
      tops-of : (c : PlayingCard) → above u g c ≡ true → top c ≡ true
      tops-of c pass = upward g c is.is_top (is.suit ∙ sym (suit-of u c (and-left (is_of u c) (nat_lt g.rank c.rank) pass))) (let l = ltb-true g.rank c.rank (and-right (is_of u c) (nat_lt g.rank c.rank) pass) in omega (arith, l))

      forth : (c : PlayingCard) → has_card (cards_at p z) c ≡ true → above u g c ≡ true → top c ≡ true → above u (to g) (to c) ≡ true
      forth c has pass tc =
          let of_u = suit-of u c (and-left (is_of u c) (nat_lt g.rank c.rank) pass) in
          let over = ltb-true g.rank c.rank (and-right (is_of u c) (nat_lt g.rank c.rank) pass) in
          let keep : nat_le (to c).rank (to g).rank ≡ nat_le c.rank g.rank = r.keeps.hands z x c g (λ e. apart (ap seat_code e)) has is.own tc is.is_top (of_u ∙ sym is.suit) in
          let higher = less (to c).rank (to g).rank (keep ∙ not-le c.rank g.rank over) in
          ap₂ (λ m n. m && n) (of-suit' u (to c) (r.to_suit c ∙ of_u)) (lt-ltb (to g).rank (to c).rank higher)

      back : (e : PlayingCard) → has_card (cards_at q (seat_after z k)) e ≡ true → above u (to g) e ≡ true → (b : Bool) → top (from e) ≡ b → (has_card (cards_at p z) (from e) ≡ true) × (above u g (from e) ≡ true) × (to (from e) ≡ e)
      back e has pass false te = absurd (
          let of_u = suit-of u e (and-left (is_of u e) (nat_lt (to g).rank e.rank) pass) in
          let over = ltb-true (to g).rank e.rank (and-right (is_of u e) (nat_lt (to g).rank e.rank) pass) in
          let under = r.over_q.hands (seat_after x k) (seat_after z k) (to g) e (λ y. turn-apart z x k apart (ap seat_code (sym y))) image.0 has (ap top image.1 ∙ is.is_top) te (image-suit ∙ sym of_u) in
          omega (arith, over, under))
      back e has pass true te =
          let of_u = suit-of u e (and-left (is_of u e) (nat_lt (to g).rank e.rank) pass) in
          let over = ltb-true (to g).rank e.rank (and-right (is_of u e) (nat_lt (to g).rank e.rank) pass) in
          let b = r.back z e has te in
          let suit : (from e).suit ≡ u = r.from_suit e ∙ of_u in
          let keep : nat_le (to (from e)).rank (to g).rank ≡ nat_le (from e).rank g.rank = r.keeps.hands z x (from e) g (λ y. apart (ap seat_code y)) b.0 is.own te is.is_top (suit ∙ sym is.suit) in
          let here : nat_le (to (from e)).rank (to g).rank ≡ false = ap (λ (d : PlayingCard). nat_le d.rank (to g).rank) b.1 ∙ not-le e.rank (to g).rank over in
          let higher = less (from e).rank g.rank (sym keep ∙ here) in
          (b.0, ap₂ (λ m n. m && n) (of-suit' u (from e) suit) (lt-ltb g.rank (from e).rank higher), b.1)

  -- its hand has none
  own-low : (e : PlayingCard) → has_card (cards_at q (seat_after x k)) e ≡ true → e.suit ≡ u → (b : Bool) → top (from e) ≡ b → e.rank ≤ (to g).rank
  own-low e has of_u false te = (let under = strict.over (seat_after x k) (to g) e image.0 has (ap top image.1 ∙ is.is_top) te (image-suit ∙ sym of_u) in omega (arith, under))
  own-low e has of_u true te =
      let b = r.back x e has te in
      let suit : (from e).suit ≡ u = r.from_suit e ∙ of_u in
      let keep : nat_le (to (from e)).rank (to g).rank ≡ nat_le (from e).rank g.rank = strict.keeps x (from e) g b.0 is.own te is.is_top (suit ∙ sym is.suit) in
      let low = is.highest (from e) b.0 suit in
      le e.rank (to g).rank (ap (λ (d : PlayingCard). nat_le d.rank (to g).rank) (sym b.1) ∙ keep ∙ is-le (from e).rank g.rank low)

  pub own-none : (e : PlayingCard) → has_card (cards_at q (seat_after x k)) e ≡ true → above u (to g) e ≡ false
  own-none e has = false_from_ne_true (above u (to g) e) (λ pass. absurd (
      let low = own-low e has (suit-of u e (and-left (is_of u e) (nat_lt (to g).rank e.rank) pass)) (top (from e)) refl in
      let over = ltb-true (to g).rank e.rank (and-right (is_of u e) (nat_lt (to g).rank e.rank) pass) in
      omega (arith, low, over)))

  -- nor has its partner's
  pub partner-none : (e : PlayingCard) → has_card (cards_at q (seat_after (seat_after x 2) k)) e ≡ true → above u (to g) e ≡ false
  partner-none e has = false_from_ne_true (above u (to g) e) (λ pass. absurd (
      let same = above-same (seat_after x 2) apart in
      let one = count-has (above u (to g)) (cards_at q (seat_after (seat_after x 2) k)) e has pass in
      let some = count-some (above u g) (cards_at p (seat_after x 2)) (omega (arith, same, one)) in
      let of_u = suit-of u some.0 (and-left (is_of u some.0) (nat_lt g.rank some.0.rank) some.2) in
      let over = ltb-true g.rank some.0.rank (and-right (is_of u some.0) (nat_lt g.rank some.0.rank) some.2) in
      let under = is.ahead_of some.0 some.1 of_u in
      omega (arith, over, under)))
    where
      apart : seat_code (seat_after x 2) ≢ seat_code x
      apart = (let a = after-code x 2 in let b = seat_code-lt x in λ e. omega (arith, a, b, e))
