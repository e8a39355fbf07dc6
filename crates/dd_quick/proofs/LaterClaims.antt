-- from what the code counts to the claim that the other side takes one later trick
use Rattle.std.proofs.Common.{◌≡◌, ◌≢◌, ℕ, ◌+◌, ◌<◌, ◌≤◌, Bool, true, false, refl, sym, ap, ◌∙◌, subst, arith, List, [], inl, inr, max, zero-le}
use Rattle.std.specs.Prelude.{nat_le, nat_lt, ◌&&◌, ◌||◌, ◌==◌, ◌⊎◌, if◌then◌else◌}
use mathlib.Core.Bool.{not}
use mathlib.Core.Path.{ap₂}
use Rattle.std.proofs.lemmas.Bool.{eqb-true, leb-true, ltb-true}
use Rattle.dd_cards.specs.declared.seat.Seat.{Seat}
use Rattle.dd_cards.specs.declared.suit.Suit.{Suit}
use Rattle.dd_cards.specs.declared.suit.Suit.TheVariants.{Spades, Hearts, Diamonds, Clubs}
use Rattle.dd_cards.specs.declared.side.Side.{Side}
use Rattle.dd_cards.specs.PlayingCard.{PlayingCard}
use Rattle.dd_cards.specs.Cards.{is_of, card_of, has_card}
use Rattle.dd_cards.specs.Seats.{seat_code, seat_after}
use Rattle.dd_cards.specs.Sides.{side_of, other_side, is_side}
use Rattle.dd_cards.proofs.CallerLemmas.{and-left, and-right, is-other, same-other, seat_code-lt}
use Rattle.dd_play.specs.Board.{Board, cards_at, tricks_left}
use Rattle.dd_play.specs.Covers.{IsCover, count_of}
use Rattle.dd_play.specs.Reach.{IsStrict, TakesBy, reach}
use Rattle.dd_play.specs.Won.{won}
use Rattle.dd_play.proofs.CallerLemmas.{after-code, count, count-has, flag_of, of-suit', reach-upward, turn-turn}
use Rattle.dd_quick.specs.QuickTricks.{RestsOnGuard, all_rounds, guarded, guards, has_later_trick, length_at, longer, no_trumps, rounds, tops, unbeaten}
use Rattle.dd_quick.proofs.Across.{plain-covered}
use Rattle.dd_quick.proofs.AcrossClaims.{no-trumps-at}
use Rattle.dd_quick.proofs.Cashing.{total}
use Rattle.dd_quick.proofs.Chosen.{count-split}
use Rattle.dd_quick.proofs.Covered.{left-same, length-same, seat-same}
use Rattle.dd_quick.proofs.Crossings.{NoTrumps}
use Rattle.dd_quick.proofs.Hands.{IsOpposed}
use Rattle.dd_quick.proofs.GuardedSuits.{CanHold, guards_of, over, rounds_of}
use Rattle.dd_quick.proofs.HonourLed.{leaders-side, opposite}
use Rattle.dd_quick.proofs.Honours.{IsHonour, above, above-same, guard-parts, image, image-suit, own-none, partner-none, some-honour, tops-last, tops-next}
use Rattle.dd_quick.proofs.LaterTrick.{one-later}
use Rattle.dd_quick.proofs.Sound.{opponents-side}
use Rattle.dd_quick.proofs.TakenTrick.{one-three, three-three, two-three, three-one}
use Rattle.dd_rank.proofs.CallerLemmas.{no-trick}

-- the parts of what is counted
record IsLaterTrick (p : Board) : Type 0 where
  plain : no_trumps p ≡ true
  few : all_rounds p < tricks_left p
  room_left : all_rounds p + guarded p 1 ≤ tricks_left p
  room_right : all_rounds p + guarded p 3 ≤ tricks_left p

parts : (p : Board) → has_later_trick p ≡ true → IsLaterTrick p
unfolding has_later_trick
parts p e =
    let rest = and-right (no_trumps p) _ e in
    let rooms = and-right (nat_lt (all_rounds p) (tricks_left p)) _ rest in
    record {
      plain = and-left (no_trumps p) _ e;
      few = ltb-true (all_rounds p) (tricks_left p) (and-left (nat_lt (all_rounds p) (tricks_left p)) _ rest);
      room_left = leb-true (all_rounds p + guarded p 1) (tricks_left p) (and-left (nat_le (all_rounds p + guarded p 1) (tricks_left p)) _ rooms);
      room_right = leb-true (all_rounds p + guarded p 3) (tricks_left p) (and-right (nat_le (all_rounds p + guarded p 1) (tricks_left p)) _ rooms);
    }

-- a later trick is one of those left
pub later-most : (p : Board) → (if has_later_trick p then 1 else 0) ≤ tricks_left p
later-most p = go (has_later_trick p) refl
  where
    go : (b : Bool) → has_later_trick p ≡ b → (if b then 1 else 0) ≤ tricks_left p
    go true e = (let k = (parts p e).few in omega (arith, k))
    go false e = omega arith

-- where as many cards of a list pass two tests as pass the first, each that passes the first passes both
all-pass : (test other : PlayingCard → Bool) (cards : List PlayingCard) (c : PlayingCard) → count (λ d. test d && other d) cards ≡ count test cards → has_card cards c ≡ true → test c ≡ true → (test c && other c) ≡ true
all-pass test other cards c same has pass = go (other c) refl
  where
    go : (b : Bool) → other c ≡ b → (test c && other c) ≡ true
    go true e = ap₂ (λ x y. x && y) pass e
    go false e = absurd (
        let split = count-split test other cards in
        let one = count-has (λ d. test d && not (other d)) cards c has (ap₂ (λ x y. x && not y) pass e) in
        omega (arith, same, split, one))

-- at a position that is covered by cards with which opponents guard suits
module _ (p : Board) (cards : List PlayingCard) (by_left : (u : Suit) → RestsOnGuard p 1 u cards) (by_right : (u : Suit) → RestsOnGuard p 3 u cards) (k : ℕ) (to from : PlayingCard → PlayingCard) (t : Side) (q : Board)
    (r : IsCover (reach cards) k to from (other_side (side_of p.first)) p t q) (strict : IsStrict (reach cards) to from p q) where
  abbrev s : Side
  s = other_side (side_of p.first)

  -- is the suit guarded?
  abbrev held : Suit → Bool
  held u = guards p 1 u || guards p 3 u

  -- with a reached card each higher one of its suit is reached
  upward : (c d : PlayingCard) → reach cards c ≡ true → c.suit ≡ d.suit → c.rank ≤ d.rank → reach cards d ≡ true
  upward c d top suit most = go (reach cards d) refl
    where
      go : (b : Bool) → reach cards d ≡ b → reach cards d ≡ true
      go true e = e
      go false e = absurd (let l = reach-upward cards c d top e suit in omega (arith, l, most))

  -- What is known of a seat of q and a card with which it guards a suit.
  record IsKept (u : Suit) (x : Seat) (g : PlayingCard) : Type 0 where
    place : (i : ℕ) × IsOpposed i × (x ≡ seat_after q.first i) × (guards p i u ≡ true)
    own : has_card (cards_at q x) g ≡ true
    suit : g.suit ≡ u
    low : (j : ℕ) → IsOpposed j → (c : PlayingCard) → has_card (cards_at q (seat_after q.first j)) c ≡ true → above u g c ≡ false
    leader : count (above u g) (cards_at q q.first) ≡ unbeaten p p.first u
    partner : count (above u g) (cards_at q (seat_after q.first 2)) ≡ unbeaten p (seat_after p.first 2) u
    behind : (count (above u g) (cards_at q (seat_after x 1)) ≡ 0) ⊎ ((c : PlayingCard) → has_card (cards_at q (seat_after x 1)) c ≡ true → c.suit ≡ u → above u g c ≡ true)

  -- the seat and its card, where the suit is guarded
  record Kept (u : Suit) : Type 0 where
    seat : Seat
    card : PlayingCard
    known : held u ≡ true → IsKept u seat card

  -- of an opponent that guards a suit
  module _ (u : Suit) (i : ℕ) (opposed : IsOpposed i) (e : guards p i u ≡ true) (rests : RestsOnGuard p i u cards) where
    abbrev x : Seat
    x = seat_after p.first i

    honour : (g : PlayingCard) × IsHonour (reach cards) p x u g
    honour = some-honour p cards i u r.valid_p e rests

    abbrev g : PlayingCard
    g = honour.0

    turned : seat_after q.first i ≡ seat_after x k
    turned = seat-same (reach cards) k to from s p t q r i

    -- the hands of the leader's side
    last : (seat_after x 3 ≡ p.first) ⊎ (seat_after x 1 ≡ p.first)
    last = elim opposed [ inl z ↦ inl (ap (λ n. seat_after (seat_after p.first n) 3) z ∙ three-one p.first) | inr z ↦ inr (ap (λ n. seat_after (seat_after p.first n) 1) z ∙ one-three p.first) ]

    next : (seat_after x 1 ≡ seat_after p.first 2) ⊎ (seat_after x 3 ≡ seat_after p.first 2)
    next = elim opposed [ inl z ↦ inl (ap (λ n. seat_after (seat_after p.first n) 1) z) | inr z ↦ inr (ap (λ n. seat_after (seat_after p.first n) 3) z ∙ three-three p.first) ]

    -- another hand than x has as many cards above the image as it had above the honour
    same-above : (z : Seat) → seat_code z ≢ seat_code x → count (above u (to g)) (cards_at q (seat_after z k)) ≡ count (above u g) (cards_at p z)
    same-above z away = above-same (reach cards) k to from s p t q r strict upward x u g honour.1 z away

    away-from : (z : Seat) (j : ℕ) → z ≡ seat_after x j → 1 ≤ j → j < 4 → seat_code z ≢ seat_code x
    away-from z j f l m = (let a = after-code x j in let b = seat_code-lt x in let d : seat_code z ≡ seat_code (seat_after x j) = ap seat_code f in λ y. omega (arith, a, b, d, l, m, y))

    ours-next : (z : Seat) → z ≡ seat_after x 1 → count (above u (to g)) (cards_at q (seat_after z k)) ≡ unbeaten p z u
    ours-next z f = same-above z (away-from z 1 f (omega arith) (omega arith)) ∙ sym (tops-next (reach cards) p x u g r.valid_p honour.1 z f)

    ours-last : (z : Seat) → z ≡ seat_after x 3 → count (above u (to g)) (cards_at q (seat_after z k)) ≡ unbeaten p z u
    ours-last z f = same-above z (away-from z 3 f (omega arith) (omega arith)) ∙ sym (tops-last (reach cards) p x u g r.valid_p honour.1 z f)

    at-place : (j : ℕ) → seat_after q.first j ≡ seat_after (seat_after p.first j) k
    at-place j = seat-same (reach cards) k to from s p t q r j

    -- x or its partner
    side-of-x : (j : ℕ) → IsOpposed j → (seat_after p.first j ≡ x) ⊎ (seat_after p.first j ≡ seat_after x 2)
    side-of-x j other = elim opposed [
      | inl z ↦ elim other [ inl y ↦ inl (ap (seat_after p.first) (y ∙ sym z)) | inr y ↦ inr (ap (seat_after p.first) y ∙ sym (ap (λ n. seat_after (seat_after p.first n) 2) z)) ]
      | inr z ↦ elim other [ inl y ↦ inr (ap (seat_after p.first) y ∙ sym (ap (λ n. seat_after (seat_after p.first n) 2) z ∙ two-three p.first)) | inr y ↦ inl (ap (seat_after p.first) (y ∙ sym z)) ]
    ]

    kept-here : IsKept u (seat_after q.first i) (to g)
    kept-here = record {
      place = (i, opposed, refl, e);
      own = ap (λ y. has_card (cards_at q y) (to g)) turned ∙ (image (reach cards) k to from s p t q r strict upward x u g honour.1).0;
      suit = image-suit (reach cards) k to from s p t q r strict upward x u g honour.1;
      low = λ j other c has. elim (side-of-x j other) [
        | inl f ↦ own-none (reach cards) k to from s p t q r strict upward x u g honour.1 c (subst (λ y. has_card (cards_at q y) c ≡ true) (at-place j ∙ ap (λ y. seat_after y k) f) has)
        | inr f ↦ partner-none (reach cards) k to from s p t q r strict upward x u g honour.1 c (subst (λ y. has_card (cards_at q y) c ≡ true) (at-place j ∙ ap (λ y. seat_after y k) f) has)
      ];
      leader = ap (λ y. count (above u (to g)) (cards_at q y)) r.first ∙ elim last [ inl f ↦ ours-last p.first (sym f) | inr f ↦ ours-next p.first (sym f) ];
      partner = ap (λ y. count (above u (to g)) (cards_at q y)) (at-place 2) ∙ elim next [ inl f ↦ ours-next (seat_after p.first 2) (sym f) | inr f ↦ ours-last (seat_after p.first 2) (sym f) ];
      behind = elim (guard-parts p i u e).bare [
        | inl none ↦ inl (counted ∙ none)
        | inr all ↦ inr (λ c has suit. every c has suit all)
      ];
    }
      where
        behind_turned : seat_after (seat_after q.first i) 1 ≡ seat_after (seat_after x 1) k
        behind_turned = ap (λ y. seat_after y 1) turned ∙ turn-turn x k 1

        counted : count (above u (to g)) (cards_at q (seat_after (seat_after q.first i) 1)) ≡ unbeaten p (seat_after x 1) u
        counted = ap (λ y. count (above u (to g)) (cards_at q y)) behind_turned ∙ ours-next (seat_after x 1) refl

        long_is : length_at q (seat_after (seat_after q.first i) 1) u ≡ length_at p (seat_after x 1) u
        long_is = ap (λ y. length_at q y u) behind_turned ∙ r.lengths (seat_after x 1) u

        every : (c : PlayingCard) → has_card (cards_at q (seat_after (seat_after q.first i) 1)) c ≡ true → c.suit ≡ u → unbeaten p (seat_after x 1) u ≡ length_at p (seat_after x 1) u → above u (to g) c ≡ true
        every c has suit all = all-pass (is_of u) (λ d. nat_lt (to g).rank d.rank) (cards_at q (seat_after (seat_after q.first i) 1)) c (counted ∙ all ∙ sym long_is) has (of-suit' u c suit)

  kept : (u : Suit) → Kept u
  kept u = go (guards p 1 u) (guards p 3 u) refl refl
    where
      go : (a b : Bool) → guards p 1 u ≡ a → guards p 3 u ≡ b → Kept u
      go true b e f = record { seat = seat_after q.first 1; card = to (honour u 1 (inl refl) e (by_left u)).0; known = λ h. kept-here u 1 (inl refl) e (by_left u) }
      go false true e f = record { seat = seat_after q.first 3; card = to (honour u 3 (inr refl) f (by_right u)).0; known = λ h. kept-here u 3 (inr refl) f (by_right u) }
      go false false e f = record { seat = q.first; card = card_of u 0; known = λ h. absurd (let z : true ≡ false = sym h ∙ ap₂ (λ a b. a || b) e f in cc) }

  abbrev keeper : Suit → Seat
  keeper u = (kept u).seat

  abbrev honours : Suit → PlayingCard
  honours u = (kept u).card

  -- a seat of the other side is one of the opponents
  theirs-at : (y : Seat) → is_side (other_side (side_of q.first)) y ≡ true → (j : ℕ) × IsOpposed j × (y ≡ seat_after q.first j)
  theirs-at y on = opposite (other_side (side_of q.first)) q.first y (leaders-side q.first) on

  opponent-side : (j : ℕ) → IsOpposed j → is_side (other_side (side_of q.first)) (seat_after q.first j) ≡ true
  opponent-side j opposed = elim opposed [ inl z ↦ ap (λ n. is_side (other_side (side_of q.first)) (seat_after q.first n)) z ∙ (opponents-side q.first).0 | inr z ↦ ap (λ n. is_side (other_side (side_of q.first)) (seat_after q.first n)) z ∙ (opponents-side q.first).1 ]

  holds : NoTrumps q → CanHold q held keeper honours
  holds plain = record {
    plain = plain;
    theirs = λ u e. (let w = (kept u).known e in ap (is_side (other_side (side_of q.first))) w.place.2 ∙ opponent-side w.place.0 w.place.1);
    own = λ u e. ((kept u).known e).own;
    suit = λ u e. ((kept u).known e).suit;
    low = λ u e y c on has. (let j = theirs-at y on in ((kept u).known e).low j.0 j.1 c (subst (λ z. has_card (cards_at q z) c ≡ true) j.2 has));
    behind = λ u e. ((kept u).known e).behind;
  }

  -- there are as many rounds
  same-rounds : (u : Suit) → rounds_of q.first held honours q u ≡ rounds p u
  same-rounds u = go (held u) refl
    where
      own : length_at q q.first u ≡ length_at p p.first u
      own = length-same (reach cards) k to from s p t q r 0 u

      his : length_at q (seat_after q.first 2) u ≡ length_at p (seat_after p.first 2) u
      his = length-same (reach cards) k to from s p t q r 2 u

      go : (b : Bool) → held u ≡ b → (if b then count (over honours u) (cards_at q q.first) + count (over honours u) (cards_at q (seat_after q.first 2)) else max (count_of u (cards_at q q.first)) (count_of u (cards_at q (seat_after q.first 2)))) ≡ (if b then tops p u else longer p u)
      go true e = ap₂ (λ a b. a + b) ((kept u).known e).leader ((kept u).known e).partner
      go false e = ap₂ max own his

  -- the keeper has a card for each round beside the honour
  long-enough : (u : Suit) → held u ≡ true → rounds_of q.first held honours q u + 1 ≤ count_of u (cards_at q (keeper u))
  long-enough u e =
      let w = (kept u).known e in
      let long = (guard-parts p w.place.0 u w.place.3).long in
      let same = same-rounds u in
      let open_is : rounds p u ≡ tops p u = ap (λ b. if b then tops p u else longer p u) e in
      let lengths = length-same (reach cards) k to from s p t q r w.place.0 u in
      let at : count_of u (cards_at q (keeper u)) ≡ length_at q (seat_after q.first w.place.0) u = ap (λ y. length_at q y u) w.place.2 in
      omega (arith, long, same, open_is, lengths, at)

  -- a seat guards no more suits than at p
  guarded-most : (i : ℕ) → IsOpposed i → total (λ u. flag_of (guards_of held keeper (seat_after q.first i) u)) ≤ guarded p i
  guarded-most i opposed = (let a = each Spades in let b = each Hearts in let c = each Diamonds in let d = each Clubs in omega (arith, a, b, c, d))
    where
      flags : (a b : Bool) → (a ≡ true → b ≡ true) → flag_of a ≤ flag_of b
      flags true b h = (let z : flag_of b ≡ 1 = ap flag_of (h refl) in omega (arith, z))
      flags false b h = zero-le

      same-place : (j : ℕ) → IsOpposed j → seat_code (seat_after q.first j) ≡ seat_code (seat_after q.first i) → j ≡ i
      same-place j other e = (let a = after-code q.first i in let b = after-code q.first j in let c = seat_code-lt q.first in
          elim opposed [ inl z ↦ elim other [ inl y ↦ y ∙ sym z | inr y ↦ omega (arith, a, b, c, e, z, y) ] | inr z ↦ elim other [ inl y ↦ omega (arith, a, b, c, e, z, y) | inr y ↦ y ∙ sym z ] ])

      each : (u : Suit) → flag_of (guards_of held keeper (seat_after q.first i) u) ≤ (if guards p i u then 1 else 0)
      each u = flags (guards_of held keeper (seat_after q.first i) u) (guards p i u) (λ h.
          let e = and-left (held u) (seat_code (keeper u) == seat_code (seat_after q.first i)) h in
          let codes = eqb-true (seat_code (keeper u)) (seat_code (seat_after q.first i)) (and-right (held u) (seat_code (keeper u) == seat_code (seat_after q.first i)) h) in
          let w = (kept u).known e in
          subst (λ j. guards p j u ≡ true) (same-place w.place.0 w.place.1 (ap seat_code (sym w.place.2) ∙ codes)) w.place.3)

  -- so the other side takes a trick there
  taken-there : p.trick ≡ [] → has_later_trick p ≡ true → 1 ≤ won t q
  taken-there start later =
      let empty = no-trick to from (reach cards) p.trick q.trick start r.trick in
      let parts_p = parts p later in
      let plain = plain-covered (reach cards) k to from s p t q r (no-trumps-at p parts_p.plain) in
      let lefts = left-same p q start empty (λ u. length-same (reach cards) k to from s p t q r 0 u) in
      let few = parts_p.few in
      let room_left = parts_p.room_left in
      let room_right = parts_p.room_right in
      let a = same-rounds Spades in
      let b = same-rounds Hearts in
      let c = same-rounds Diamonds in
      let d = same-rounds Clubs in
      let taken = one-later q held keeper honours (holds plain) r.valid_q empty long-enough (omega (arith, lefts, few, a, b, c, d)) (λ y on.
      let j = theirs-at y on in
      subst (λ z. total (rounds_of q.first held honours q) + total (λ u. flag_of (guards_of held keeper z u)) ≤ tricks_left q) (sym j.2) (
      let most = guarded-most j.0 j.1 in
      elim j.1 [
        | inl z ↦ (let e : guarded p j.0 ≡ guarded p 1 = ap (guarded p) z in omega (arith, lefts, room_left, a, b, c, d, most, e))
        | inr z ↦ (let e : guarded p j.0 ≡ guarded p 3 = ap (guarded p) z in omega (arith, lefts, room_right, a, b, c, d, most, e))
      ])) in
      subst (λ z. 1 ≤ won z q) (is-other (side_of q.first) t (ap (is_side t) r.first ∙ r.sides p.first ∙ same-other (side_of p.first))) taken

-- it is a claim by the cards on which it rests
pub later-claim : (p : Board) (cards : List PlayingCard) → p.trick ≡ [] → has_later_trick p ≡ true → ((u : Suit) → RestsOnGuard p 1 u cards) → ((u : Suit) → RestsOnGuard p 3 u cards) → TakesBy (reach cards) (other_side (side_of p.first)) p 1
later-claim p cards start later by_left by_right k to from t q r strict = taken-there p cards by_left by_right k to from t q r strict start later
