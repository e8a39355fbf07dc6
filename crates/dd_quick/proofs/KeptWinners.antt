-- Kept winners. No hand has a trump, and an opponent h of the leader keeps some of its winners until it comes in: it heads the
-- suits in which it keeps any. Each trick that the other side wins makes the longer of its two holdings of a suit that h does
-- not head shorter; so as long as those are, with the winners kept, no more than the tricks left, h has another card to throw.
-- Where a suit that it heads is led, h wins and cashes the others. Its partner, on lead, leads to it, or a suit that the other
-- side has, or has only cards that the other side can't beat.
use Rattle.std.proofs.Common.{◌≡◌, ◌≢◌, ℕ, zero, suc, ◌+◌, ◌-◌, ◌<◌, ◌≤◌, Bool, true, false, refl, sym, ap, ◌∙◌, subst, arith, List, [], ◌∷◌, length, inl, inr, max, zero-le}
use Rattle.std.specs.Prelude.{nat_lt, ◌&&◌, ◌⊎◌, if◌then◌else◌}
use mathlib.Core.Bool.{not}
use mathlib.Core.Path.{ap₂}
use Rattle.std.proofs.lemmas.Bool.{cases_lt, lt-ltb, ltb-true, not-true, false_from_ne_true}
use Rattle.dd_cards.specs.declared.seat.Seat.{Seat}
use Rattle.dd_cards.specs.declared.suit.Suit.{Suit}
use Rattle.dd_cards.specs.declared.suit.Suit.TheVariants.{Spades, Hearts, Diamonds, Clubs}
use Rattle.dd_cards.specs.declared.side.Side.{Side}
use Rattle.dd_cards.specs.PlayingCard.{PlayingCard}
use Rattle.dd_cards.specs.Cards.{is_of, card_of, same_card, has_card}
use Rattle.dd_cards.specs.Seats.{seat_code, seat_after}
use Rattle.dd_cards.specs.Sides.{side_of, is_side}
use Rattle.dd_cards.proofs.CallerLemmas.{and-left, and-right, filter-true, length-filter-le, same_card-eq, same_card-self, any-some, seat_code-lt}
use Rattle.dd_play.specs.Board.{Board, IsBoard, cards_at, tricks_left, mover}
use Rattle.dd_play.specs.Tricks.{is_trump}
use Rattle.dd_play.specs.Play.{after, following, legal}
use Rattle.dd_play.specs.Simulations.{IsLegal}
use Rattle.dd_play.specs.Covers.{count_of}
use Rattle.dd_play.specs.Won.{won}
use Rattle.dd_play.proofs.CallerLemmas.{after-code, can, count, count-has, count-some, inject, legal-in, of-suit', once-in, own-card, same-or, suit-of, won_with, some-legal, trump-suit as same-trump}
use Rattle.dd_quick.specs.QuickTricks.{beats, is_winner, trumps_at}
use Rattle.dd_quick.proofs.Cashing.{by-suits, total}
use Rattle.dd_quick.proofs.Chosen.{count-never, count-split}
use Rattle.dd_quick.proofs.Crossings.{NoTrumps}
use Rattle.dd_quick.proofs.JointTrumps.{place-of}
use Rattle.dd_quick.proofs.PlainTrick.{IsDone, IsUnder, hand-left, lead-on, trick-on}
use Rattle.dd_quick.proofs.Plays.{whoever}
use Rattle.dd_quick.proofs.Sound.{CanTake, can-take, own-side, partners-side, trumps-count}
use Rattle.dd_quick.proofs.TakenTrick.{some-left}
use Rattle.dd_quick.proofs.TrumpRanks.{last-seat}
use Rattle.dd_rank.proofs.CallerLemmas.{count-le}

-- No hand has a trump; `guard` passes cards of h's which no card of their suits in another hand beats; h heads their suits.
pub record CanKeep (o : Board) (h : Seat) (guard : PlayingCard → Bool) (headed : Suit → Bool) : Type 0 where
  pub valid : IsBoard o
  pub plain : NoTrumps o
  pub own : (c : PlayingCard) → guard c ≡ true → has_card (cards_at o h) c ≡ true
  pub masters : (y : Seat) (c d : PlayingCard) → guard c ≡ true → seat_code y ≢ seat_code h → has_card (cards_at o y) d ≡ true → d.suit ≡ c.suit → d.rank < c.rank
  pub holder : (u : Suit) → headed u ≡ true → (c : PlayingCard) × (guard c ≡ true) × (u ≡ c.suit)
  pub suits : (c : PlayingCard) → guard c ≡ true → headed c.suit ≡ true

-- the longer holding of the seat and its partner in a suit that is not headed
abbrev pub rounds_of : Seat → (Suit → Bool) → Board → Suit → ℕ
rounds_of f headed p u = (if headed u then 0 else max (count_of u (cards_at p f)) (count_of u (cards_at p (seat_after f 2))))

module _ (o : Board) (h : Seat) (guard : PlayingCard → Bool) (headed : Suit → Bool) (hold : CanKeep o h guard headed) where
  abbrev t : Side
  t = side_of h

  -- how many are kept
  abbrev kept : ℕ
  kept = count guard (cards_at o h)

  -- the longer holding of the other side in a suit that h does not head
  abbrev rounds : Board → Suit → ℕ
  rounds p = rounds_of (seat_after h 1) headed p

  -- a start of a trick with some of the cards
  record IsPart (p : Board) : Type 0 where
    valid : IsBoard p
    same : p.strain ≡ o.strain
    start : p.trick ≡ []
    part : (x : Seat) (c : PlayingCard) → has_card (cards_at p x) c ≡ true → has_card (cards_at o x) c ≡ true

  -- no hand has a trump there
  plain-part : (p : Board) → IsPart p → NoTrumps p
  plain-part p was x c own = ap (λ s. is_trump s c) was.same ∙ hold.plain x c (was.part x c own)

  -- after a trick it is one again
  part-on : (keep spend : PlayingCard → Bool) (p : Board) (m : PlayingCard) (none : NoTrumps p) (q : Board) (c : PlayingCard) → IsPart p → IsDone t h keep spend p m none q c → IsPart (after q c)
  part-on keep spend p m none q c was done = record { valid = done.valid; same = done.same ∙ was.same; start = done.start; part = λ x d k. was.part x d (done.part x d k) }

  -- ---- h on lead

  -- h cashes what it has kept
  cash : (q : Board) → IsPart q → q.first ≡ h → count guard (cards_at q h) ≤ won t q
  cash q was leads = subst (λ x. count guard (cards_at q x) ≤ won (side_of x) q) leads (let all = can-take q n 0 was.valid was.start can in let sum = by-suits guard (cards_at q q.first) in omega (arith, all, sum))
    where
      n : Suit → ℕ
      n u = count (λ c. is_of u c && guard c) (cards_at q q.first)

      none : (x : Seat) → trumps_at q.strain q x ≡ 0
      none x = sym (trumps-count q.strain q x) ∙ count-never (is_trump q.strain) (cards_at q x) (λ c has. plain-part q was x c has)

      apart : (i : ℕ) → 1 ≤ i → i < 4 → seat_code (seat_after q.first i) ≢ seat_code h
      apart i l m = (let a = after-code q.first i in let b = seat_code-lt q.first in let e : seat_code q.first ≡ seat_code h = ap seat_code leads in λ z. omega (arith, a, b, e, z, l, m))

      free : (c : PlayingCard) → guard c ≡ true → (i : ℕ) → 1 ≤ i → i < 4 → beats q (seat_after q.first i) c ≡ false
      free c g i l m = false_from_ne_true (beats q (seat_after q.first i) c) (λ b.
          let e = any-some (λ d. is_of c.suit d && nat_lt c.rank d.rank) (cards_at q (seat_after q.first i)) b in
          let under = hold.masters (seat_after q.first i) c e.0 g (apart i l m) (was.part (seat_after q.first i) e.0 e.1) (suit-of c.suit e.0 (and-left (is_of c.suit e.0) (nat_lt c.rank e.0.rank) e.2)) in
          let over = ltb-true c.rank e.0.rank (and-right (is_of c.suit e.0) (nat_lt c.rank e.0.rank) e.2) in
          omega (arith, under, over))

      winner : (c : PlayingCard) → guard c ≡ true → is_winner q q.first c ≡ true
      winner c g = rw (free c g 1 (omega arith) (omega arith), free c g 2 (omega arith) (omega arith), free c g 3 (omega arith) (omega arith)) refl

      can : CanTake q n 0
      can = record {
        held = λ u. count-le (λ c. is_of u c && guard c) (is_of u) (cards_at q q.first) (λ c has pass. and-left (is_of u c) (guard c) pass);
        yields = λ u i l m. (let k = count-le (λ c. is_of u c && guard c) (λ c. is_of u c && is_winner q q.first c) (cards_at q q.first) (λ c has pass. ap₂ (λ a b. a && b) (and-left (is_of u c) (guard c) pass) (winner c (and-right (is_of u c) (guard c) pass))) in omega (arith, k));
        plain = λ u some. (
            let c = count-some (λ c. is_of u c && guard c) (cards_at q q.first) some in
            same-trump q.strain (card_of u 0) c.0 (sym (suit-of u c.0 (and-left (is_of u c.0) (guard c.0) c.2))) ∙ plain-part q was q.first c.0 c.1);
        follows = λ i opposed. inl (none (seat_after q.first i));
        throws = (
            let sum = by-suits guard (cards_at q q.first) in
            let most = length-filter-le guard (cards_at q q.first) in
            let many = hand-left q was.valid was.start q.first in
            let z = none (seat_after q.first 2) in
            omega (arith, sum, most, many, z));
        joint = zero-le;
      }

  -- ---- its partner on lead, with cards that the other side can't beat

  -- the other side's seats
  abbrev IsOther : Seat → Type 0
  IsOther x = (x ≡ seat_after h 1) ⊎ (x ≡ seat_after h 3)

  record IsAlone (p : Board) : Type 0 where
    now : IsPart p
    first : p.first ≡ seat_after h 2
    void : (c : PlayingCard) → has_card (cards_at p p.first) c ≡ true → (x : Seat) → IsOther x → count_of c.suit (cards_at p x) ≡ 0

  -- what leads at a start of a trick is its leader's, and any of its cards may be led
  leaders : (p : Board) → IsPart p → mover p ≡ p.first
  leaders p was = ap (λ trick. seat_after p.first (length trick)) was.start

  led-own : (p : Board) → IsPart p → (m : PlayingCard) → IsLegal p m → has_card (cards_at p p.first) m ≡ true
  led-own p was m has = ap (λ x. has_card (cards_at p x) m) (sym (leaders p was)) ∙ own-card p m has

  may-lead : (p : Board) → IsPart p → (m : PlayingCard) → has_card (cards_at p p.first) m ≡ true → IsLegal p m
  may-lead p was m own = ap₂ (λ trick x. has_card (following trick (cards_at p x)) m) was.start (leaders p was) ∙ own

  -- two places after h are two seats
  places : (i j : ℕ) → i < 4 → j < 4 → i ≢ j → seat_code (seat_after h i) ≢ seat_code (seat_after h j)
  places i j l m e = (let x = after-code h i in let y = after-code h j in let z = seat_code-lt h in λ k. omega (arith, x, y, z, k, l, m, e))

  alone : (k n : ℕ) (p : Board) → tricks_left p ≡ k → IsAlone p → n ≤ count guard (cards_at p h) → n ≤ tricks_left p → n ≤ won t p
  alone zero n p size was few most = omega (arith, size, most)
  alone (suc k) n p size was few most = whoever t p n was.now.valid (omega (arith, size)) (λ m has. (let later = lead m has (λ z a b c d. alone k (n - 1) z a b c d) in omega (arith, later)))
    where
      Later : Type 0
      Later = (z : Board) → tricks_left z ≡ k → IsAlone z → n - 1 ≤ count guard (cards_at z h) → n - 1 ≤ tricks_left z → n - 1 ≤ won t z

      nothing : PlayingCard → Bool
      nothing c = false

      anything : PlayingCard → Bool
      anything c = true

      lead : (m : PlayingCard) → IsLegal p m → Later → n ≤ won t (after p m)
      lead m has ih =
          let begun = lead-on t h nothing anything p m none was.now.valid was.now.start away has (λ c e. absurd (cc)) in
          let one = begun.1 in
          trick-on t h nothing anything p m none n (λ q now turn. (let c = some-legal q (some-left q now.valid (let l : length q.trick ≡ length (m ∷ now.led.0) = ap length now.led.1 in omega (arith, l))) in (c.0, c.1, refl, refl))) (own-side h) ends 3 (after p m) (omega (arith, one)) begun.0
        where
          none : NoTrumps p
          none = plain-part p was.now

          away : seat_code p.first ≢ seat_code h
          away = λ e. places 2 0 (omega arith) (omega arith) (λ z. omega (arith, z)) (ap seat_code (sym was.first) ∙ e)

          ends : (q : Board) (c : PlayingCard) → IsDone t h nothing anything p m none q c → n ≤ won_with t q c
          ends q c done = by (place-of h (after q c).first)
            where
              z : Board
              z = after q c

              now : IsPart z
              now = part-on nothing anything p m none q c was.now done

              -- h has lost one card
              still : count guard (cards_at p h) ≤ count guard (cards_at z h) + 1
              still =
                  let a = count-split anything guard (cards_at p h) in
                  let b = count-split anything guard (cards_at z h) in
                  let all_p = ap length (filter-true (cards_at p h)) in
                  let all_z = ap length (filter-true (cards_at z h)) in
                  let x = hand-left p was.now.valid was.now.start h in
                  let y = hand-left z now.valid now.start h in
                  let less = done.fewer h (λ d. not (guard d)) in
                  let size = done.size in
                  omega (arith, a, b, all_p, all_z, x, y, less, size)

              gone : k ≡ tricks_left z
              gone = (let l = done.size in omega (arith, l, size))

              -- nobody of the other side has won it
              absent : (x : Seat) → IsOther x → z.first ≡ x → ⊥
              absent x other at =
                  let void = was.void m (led-own p was.now m has) x other in
                  let one = count-has (is_of m.suit) (cards_at p x) done.best (ap (λ y. has_card (cards_at p y) done.best) (sym at) ∙ done.best_own) (of-suit' m.suit done.best done.best_suit) in
                  omega (arith, void, one)

              by : (i : ℕ) × (i < 4) × (z.first ≡ seat_after h i) → n ≤ won_with t q c
              by (zero, l, at) =
                  let one = done.points (ap (is_side t) at ∙ own-side h) in
                  let more = cash z now at in
                  let s = still in
                  omega (arith, one, more, s, few)
              by (suc zero, l, at) = absurd (absent (seat_after h 1) (inl refl) at)
              by (suc (suc zero), l, at) =
                  let one = done.points (ap (is_side t) at ∙ partners-side h) in
                  let s = still in
                  let g = gone in
                  let more = ih z (sym g) (record {
                    now = now;
                    first = at;
                    void = λ d own x other. (
                        let mine : has_card (cards_at p p.first) d ≡ true = ap (λ y. has_card (cards_at p y) d) (was.first ∙ sym at) ∙ done.part z.first d own in
                        let before = was.void d mine x other in
                        let less = done.fewer x (is_of d.suit) in
                        omega (arith, before, less));
                  }) (omega (arith, s, few)) (omega (arith, g, most, size)) in
                  omega (arith, one, more)
              by (suc (suc (suc zero)), l, at) = absurd (absent (seat_after h 3) (inr refl) at)
              by (suc (suc (suc (suc j))), l, at) = absurd (omega (arith, l))

  -- ---- before h comes in

  -- h has all that it keeps, and the rounds of the other suits with it are no more than the tricks left
  record IsWaiting (p : Board) : Type 0 where
    now : IsPart p
    away : seat_code p.first ≢ seat_code h
    keeps : (c : PlayingCard) → guard c ≡ true → has_card (cards_at p h) c ≡ true
    room : total (rounds p) + kept ≤ tricks_left p

  -- a hand that has those cards has as many
  all-kept : (test : PlayingCard → Bool) (cards : List PlayingCard) → ((c : PlayingCard) → test c ≡ true → guard c ≡ true) → ((c : PlayingCard) → test c ≡ true → has_card cards c ≡ true) → count test (cards_at o h) ≤ count guard cards
  all-kept test cards only each = inject (λ c. c) (λ c. c) test guard (cards_at o h) cards (once-in o hold.valid h) (λ c has e. (each c e, only c e, refl))

  -- a suit's rounds are among all
  in-total : (p : Board) (u : Suit) → rounds p u ≤ total (rounds p)
  in-total p Spades = omega arith
  in-total p Hearts = omega arith
  in-total p Diamonds = omega arith
  in-total p Clubs = omega arith

  -- the rounds of a suit that h does not head
  open-rounds : (p : Board) (u : Suit) → headed u ≡ false → rounds p u ≡ max (count_of u (cards_at p (seat_after h 1))) (count_of u (cards_at p (seat_after (seat_after h 1) 2)))
  open-rounds p u e = ap (λ b. if b then 0 else max (count_of u (cards_at p (seat_after h 1))) (count_of u (cards_at p (seat_after (seat_after h 1) 2)))) e

  -- a trick in a suit that the other side has, and that h does not head
  module _ (n k : ℕ) (p : Board) (m : PlayingCard) (was : IsWaiting p) (has : IsLegal p m) (plain_suit : headed m.suit ≡ false) (some : 1 ≤ rounds p m.suit) (few : n ≤ kept) (size : tricks_left p ≡ suc k)
      (ih : (i : ℕ) (z : Board) → tricks_left z ≡ k → IsWaiting z → i ≤ kept → i ≤ won t z) where
    abbrev anything : PlayingCard → Bool
    anything c = true

    none : NoTrumps p
    none = plain-part p was.now

    -- h has a card that it need not keep
    pick : (q : Board) → IsUnder t h guard anything p m none q → mover q ≡ h → (c : PlayingCard) × IsLegal q c × (guard c ≡ false) × (anything c ≡ true)
    pick q now turn = elim (cases_lt 0 (count_of m.suit (cards_at q (mover q)))) [
      | inl l ↦ (
          let d = count-some (is_of m.suit) (cards_at q (mover q)) l in
          let suit = suit-of m.suit d.0 d.2 in (
            d.0,
            legal_by d.0 (legal-in (m ∷ now.led.0) (cards_at q (mover q)) d.0 d.1 (λ e own suits. suit)),
            false_from_ne_true (guard d.0) (λ g. let y : false ≡ true = sym plain_suit ∙ ap headed (sym suit) ∙ hold.suits d.0 g in cc),
            refl,
          ))
      | inr l ↦ (
          let split = count-split anything guard (cards_at q (mover q)) in
          let all = ap length (filter-true (cards_at q (mover q))) in
          let most = inject (λ c. c) (λ c. c) guard guard (cards_at q (mover q)) (cards_at o h) (once-in q now.valid (mover q)) (λ c own g. (hold.own c g, g, refl)) in
          let in_all = in-total p m.suit in
          let room = was.room in
          let same : cards_at q (mover q) ≡ cards_at p (mover q) = subst (λ x. cards_at q x ≡ cards_at p x) (sym at) (now.still (length q.trick) (omega arith) (let b = now.valid.short in omega (arith, b))) in
          let many = hand-left p was.now.valid was.now.start (mover q) in
          let long : length (cards_at q (mover q)) ≡ length (cards_at p (mover q)) = ap length same in
          let d = count-some (λ c. not (guard c)) (cards_at q (mover q)) (omega (arith, split, all, most, in_all, room, many, long, some)) in (
            d.0,
            legal_by d.0 (legal-in (m ∷ now.led.0) (cards_at q (mover q)) d.0 d.1 (λ e own suits. absurd (let y = count-has (is_of m.suit) (cards_at q (mover q)) e own (of-suit' m.suit e suits) in omega (arith, y, l)))),
            not-true (guard d.0) d.2,
            refl,
          ))
    ]
      where
        at : mover q ≡ seat_after p.first (length q.trick)
        at = ap (λ f. seat_after f (length q.trick)) now.first

        legal_by : (d : PlayingCard) → has_card (following (m ∷ now.led.0) (cards_at q (mover q))) d ≡ true → IsLegal q d
        legal_by d e = ap (λ trick. has_card (following trick (cards_at q (mover q))) d) now.led.1 ∙ e

    ends : (q : Board) (c : PlayingCard) → IsDone t h guard anything p m none q c → n ≤ won_with t q c
    ends q c done = by (place-of h (after q c).first)
      where
        z : Board
        z = after q c

        now : IsPart z
        now = part-on guard anything p m none q c was.now done

        at-most : (u : Suit) → rounds z u ≤ rounds p u
        at-most u = go (headed u)
          where
            go : (b : Bool) → (if b then 0 else max (count_of u (cards_at z (seat_after h 1))) (count_of u (cards_at z (seat_after (seat_after h 1) 2)))) ≤ (if b then 0 else max (count_of u (cards_at p (seat_after h 1))) (count_of u (cards_at p (seat_after (seat_after h 1) 2))))
            go true = omega arith
            go false = (let a = done.fewer (seat_after h 1) (is_of u) in let b = done.fewer (seat_after (seat_after h 1) 2) (is_of u) in omega (arith, a, b))

        one-less : rounds z m.suit + 1 ≤ rounds p m.suit
        one-less =
            let now_is = open-rounds z m.suit plain_suit in
            let was_is = open-rounds p m.suit plain_suit in
            elim (done.followed (seat_after h 1)) [
              | inl a ↦ elim (done.followed (seat_after (seat_after h 1) 2)) [ inl b ↦ omega (arith, now_is, was_is, some, a, b) | inr b ↦ omega (arith, now_is, was_is, some, a, b) ]
              | inr a ↦ elim (done.followed (seat_after (seat_after h 1) 2)) [ inl b ↦ omega (arith, now_is, was_is, some, a, b) | inr b ↦ omega (arith, now_is, was_is, some, a, b) ]
            ]

        less : total (rounds z) + 1 ≤ total (rounds p)
        less = (let s = at-most Spades in let h = at-most Hearts in let d = at-most Diamonds in let c = at-most Clubs in go m.suit one-less s h d c)
          where
            go : (u : Suit) → rounds z u + 1 ≤ rounds p u → rounds z Spades ≤ rounds p Spades → rounds z Hearts ≤ rounds p Hearts → rounds z Diamonds ≤ rounds p Diamonds → rounds z Clubs ≤ rounds p Clubs → total (rounds z) + 1 ≤ total (rounds p)
            go Spades one s h d c = omega (arith, one, s, h, d, c)
            go Hearts one s h d c = omega (arith, one, s, h, d, c)
            go Diamonds one s h d c = omega (arith, one, s, h, d, c)
            go Clubs one s h d c = omega (arith, one, s, h, d, c)

        gone : tricks_left z ≡ k
        gone = (let l = done.size in omega (arith, l, size))

        -- where h has not won it, it waits on
        waits-on : seat_code z.first ≢ seat_code h → IsWaiting z
        waits-on away = record { now = now; away = away; keeps = done.keeps; room = (let a = was.room in let b = less in let c = done.size in omega (arith, a, b, c)) }

        apart : (i : ℕ) → 1 ≤ i → i < 4 → z.first ≡ seat_after h i → seat_code z.first ≢ seat_code h
        apart i l m at = (let a = after-code h i in let b = seat_code-lt h in let e : seat_code z.first ≡ seat_code (seat_after h i) = ap seat_code at in λ y. omega (arith, a, b, e, y, l, m))

        by : (i : ℕ) × (i < 4) × (z.first ≡ seat_after h i) → n ≤ won_with t q c
        by (zero, l, at) =
            let more = cash z now at in
            let all = all-kept guard (cards_at z h) (λ c e. e) done.keeps in
            omega (arith, more, all, few)
        by (suc zero, l, at) = (let more = ih n z gone (waits-on (apart 1 (omega arith) (omega arith) at)) few in omega (arith, more))
        by (suc (suc zero), l, at) =
            let one = done.points (ap (is_side t) at ∙ partners-side h) in
            let more = ih (n - 1) z gone (waits-on (apart 2 (omega arith) (omega arith) at)) (omega (arith, few)) in
            omega (arith, one, more)
        by (suc (suc (suc zero)), l, at) = (let more = ih n z gone (waits-on (apart 3 (omega arith) (omega arith) at)) few in omega (arith, more))
        by (suc (suc (suc (suc j))), l, at) = absurd (omega (arith, l))

    other-suit : n ≤ won t (after p m)
    other-suit =
        let begun = lead-on t h guard anything p m none was.now.valid was.now.start was.away has was.keeps in
        let one = begun.1 in
        trick-on t h guard anything p m none n pick (own-side h) ends 3 (after p m) (omega (arith, one)) begun.0

  -- a trick in a suit that h heads
  module _ (n : ℕ) (p : Board) (m : PlayingCard) (was : IsWaiting p) (has : IsLegal p m) (heads_it : headed m.suit ≡ true) (few : n ≤ kept) where
    abbrev g : PlayingCard
    g = (hold.holder m.suit heads_it).0

    kept_g : guard g ≡ true
    kept_g = (hold.holder m.suit heads_it).1

    suit_g : m.suit ≡ g.suit
    suit_g = (hold.holder m.suit heads_it).2

    -- h keeps the others, and plays it
    abbrev rest : PlayingCard → Bool
    rest c = guard c && not (same_card c g)

    abbrev this : PlayingCard → Bool
    this c = same_card c g

    none_in : NoTrumps p
    none_in = plain-part p was.now

    play : (q : Board) → IsUnder t h rest this p m none_in q → mover q ≡ h → (c : PlayingCard) × IsLegal q c × (rest c ≡ false) × (this c ≡ true)
    play q now turn = (
      g,
      ap (λ trick. has_card (following trick (cards_at q (mover q))) g) now.led.1 ∙ legal-in (m ∷ now.led.0) (cards_at q (mover q)) g (ap (λ cards. has_card cards g) same ∙ ap (λ x. has_card (cards_at p x) g) turn ∙ was.keeps g kept_g) (λ e own suits. sym suit_g),
      ap (λ b. guard g && not b) (same_card-self g) ∙ and-no (guard g),
      same_card-self g,
    )
      where
        same : cards_at q (mover q) ≡ cards_at p (mover q)
        same = subst (λ x. cards_at q x ≡ cards_at p x) (sym (ap (λ f. seat_after f (length q.trick)) now.first)) (now.still (length q.trick) (omega arith) (let b = now.valid.short in omega (arith, b)))

        and-no : (b : Bool) → (b && false) ≡ false
        and-no true = refl
        and-no false = refl

    wins : (q : Board) (c : PlayingCard) → IsDone t h rest this p m none_in q c → n ≤ won_with t q c
    wins q c done =
        let leads = leader (same-or z.first h) in
        let one = done.points (ap (is_side t) leads ∙ own-side h) in
        let more = cash z (part-on rest this p m none_in q c was.now done) leads in
        let all = all-kept rest (cards_at z h) (λ d e. and-left (guard d) (not (same_card d g)) e) done.keeps in
        let split = count-split guard (λ d. same_card d g) (cards_at o h) in
        let least = count-le (λ d. guard d && same_card d g) (λ d. same_card d g) (cards_at o h) (λ d own e. and-right (guard d) (same_card d g) e) in
        let once : count (λ d. same_card d g) (cards_at o h) ≤ 1 = once-in o hold.valid h g in
        omega (arith, one, more, all, split, least, once, few)
      where
        z : Board
        z = after q c

        leader : (z.first ≡ h) ⊎ (seat_code z.first ≢ seat_code h) → z.first ≡ h
        leader (inl e) = e
        leader (inr apart) = absurd (
            let x = done.spends in
            let is : x.0 ≡ g = same_card-eq x.0 g x.1 in
            let over = x.2 (ap (λ (y : PlayingCard). y.suit) is ∙ sym suit_g) in
            let rank : x.0.rank ≡ g.rank = ap (λ (y : PlayingCard). y.rank) is in
            let under = hold.masters z.first g done.best kept_g apart (was.now.part z.first done.best done.best_own) (done.best_suit ∙ suit_g) in
            omega (arith, over, rank, under))

    headed-suit : n ≤ won t (after p m)
    headed-suit =
        let begun = lead-on t h rest this p m none_in was.now.valid was.now.start was.away has (λ c e. was.keeps c (and-left (guard c) (not (same_card c g)) e)) in
        let one = begun.1 in
        trick-on t h rest this p m none_in n play (own-side h) wins 3 (after p m) (omega (arith, one)) begun.0

  -- so h's side takes as many tricks as it keeps winners
  waits : (k n : ℕ) (p : Board) → tricks_left p ≡ k → IsWaiting p → n ≤ kept → n ≤ won t p
  waits zero n p size was few = (let room = was.room in omega (arith, size, room, few))
  waits (suc k) n p size was few = by (place-of h p.first) (λ i z a b c. waits k i z a b c)
    where
      Later : Type 0
      Later = (i : ℕ) (z : Board) → tricks_left z ≡ k → IsWaiting z → i ≤ kept → i ≤ won t z

      some : 1 ≤ tricks_left p
      some = omega (arith, size)

      -- the other side leads
      others-lead : (x : Seat) → (x ≡ seat_after h 1) ⊎ (x ≡ seat_after (seat_after h 1) 2) → p.first ≡ x → Later → n ≤ won t p
      others-lead x other at ih = whoever t p n was.now.valid some (λ m has. (let later = lead m has (headed m.suit) refl in omega (arith, later)))
        where
          lead : (m : PlayingCard) → IsLegal p m → (b : Bool) → headed m.suit ≡ b → n ≤ won t (after p m)
          lead m has true e = headed-suit n p m was has e few
          lead m has false e = other-suit n k p m was has e one few size ih
            where
              mine : 1 ≤ count_of m.suit (cards_at p x)
              mine = count-has (is_of m.suit) (cards_at p x) m (ap (λ y. has_card (cards_at p y) m) (sym at) ∙ led-own p was.now m has) (of-suit' m.suit m refl)

              one : 1 ≤ rounds p m.suit
              one =
                  let is = open-rounds p m.suit e in
                  elim other [
                    | inl f ↦ (let k : 1 ≤ count_of m.suit (cards_at p (seat_after h 1)) = subst (λ y. 1 ≤ count_of m.suit (cards_at p y)) f mine in omega (arith, is, k))
                    | inr f ↦ (let k : 1 ≤ count_of m.suit (cards_at p (seat_after (seat_after h 1) 2)) = subst (λ y. 1 ≤ count_of m.suit (cards_at p y)) f mine in omega (arith, is, k))
                  ]

      -- its partner leads: in a suit that h heads, or one that the other side has, or what nobody else can win
      partner-leads : p.first ≡ seat_after h 2 → Later → n ≤ won t p
      partner-leads at ih = elim (cases_lt 0 (count (λ c. headed c.suit) (cards_at p p.first))) [
        | inl l ↦ (
            let m = count-some (λ c. headed c.suit) (cards_at p p.first) l in
            let has = may-lead p was.now m.0 m.1 in
            let later = headed-suit n p m.0 was has m.2 few in
            let reach = can t p m.0 was.now.valid (ap (is_side t) (leaders p was.now ∙ at) ∙ partners-side h) has in
            omega (arith, later, reach))
        | inr none ↦ elim (cases_lt 0 (count (λ c. nat_lt 0 (rounds p c.suit)) (cards_at p p.first))) [
          | inl l ↦ (
              let m = count-some (λ c. nat_lt 0 (rounds p c.suit)) (cards_at p p.first) l in
              let has = may-lead p was.now m.0 m.1 in
              let one = ltb-true 0 (rounds p m.0.suit) m.2 in
              let later = other-suit n k p m.0 was has (unheaded none m.0 m.1) (omega (arith, one)) few size ih in
              let reach = can t p m.0 was.now.valid (ap (is_side t) (leaders p was.now ∙ at) ∙ partners-side h) has in
              omega (arith, later, reach))
          | inr nowhere ↦ (
              let all = all-kept guard (cards_at p h) (λ c e. e) was.keeps in
              let room = was.room in
              alone (tricks_left p) n p refl (record { now = was.now; first = at; void = λ c own x other. void none nowhere c own x other }) (omega (arith, few, all)) (omega (arith, few, room)))
        ]
      ]
        where
          unheaded : count (λ c. headed c.suit) (cards_at p p.first) ≤ 0 → (c : PlayingCard) → has_card (cards_at p p.first) c ≡ true → headed c.suit ≡ false
          unheaded none c own = false_from_ne_true (headed c.suit) (λ e. let one = count-has (λ c. headed c.suit) (cards_at p p.first) c own e in omega (arith, one, none))

          void : count (λ c. headed c.suit) (cards_at p p.first) ≤ 0 → count (λ c. nat_lt 0 (rounds p c.suit)) (cards_at p p.first) ≤ 0 → (c : PlayingCard) → has_card (cards_at p p.first) c ≡ true → (x : Seat) → IsOther x → count_of c.suit (cards_at p x) ≡ 0
          void none nowhere c own x other =
              let is = open-rounds p c.suit (unheaded none c own) in
              let zero_rounds : rounds p c.suit ≡ 0 = elim (cases_lt 0 (rounds p c.suit)) [
                | inl l ↦ absurd (let one = count-has (λ c. nat_lt 0 (rounds p c.suit)) (cards_at p p.first) c own (lt-ltb 0 (rounds p c.suit) l) in omega (arith, one, nowhere))
                | inr l ↦ omega (arith, l)
              ] in
              elim other [
                | inl e ↦ (let k : count_of c.suit (cards_at p x) ≡ count_of c.suit (cards_at p (seat_after h 1)) = ap (λ y. count_of c.suit (cards_at p y)) e in omega (arith, is, zero_rounds, k))
                | inr e ↦ (let k : count_of c.suit (cards_at p x) ≡ count_of c.suit (cards_at p (seat_after (seat_after h 1) 2)) = ap (λ y. count_of c.suit (cards_at p y)) (e ∙ sym (last-seat h)) in omega (arith, is, zero_rounds, k))
              ]

      by : (i : ℕ) × (i < 4) × (p.first ≡ seat_after h i) → Later → n ≤ won t p
      by (zero, l, at) ih = absurd (was.away (ap seat_code at))
      by (suc zero, l, at) ih = others-lead (seat_after h 1) (inl refl) at ih
      by (suc (suc zero), l, at) ih = partner-leads at ih
      by (suc (suc (suc zero)), l, at) ih = others-lead (seat_after h 3) (inr (sym (last-seat h))) at ih
      by (suc (suc (suc (suc j))), l, at) ih = absurd (omega (arith, l))

  -- where that holds at first
  pub kept-taken : o.trick ≡ [] → seat_code o.first ≢ seat_code h → total (rounds o) + kept ≤ tricks_left o → kept ≤ won (side_of h) o
  kept-taken start away room = waits (tricks_left o) kept o refl (record { now = record { valid = hold.valid; same = refl; start = start; part = λ x c k. k }; away = away; keeps = hold.own; room = room }) (omega arith)
