-- Suits that opponents guard: what stands for it at a position, and how often the leader's side can lead each suit.
use Rattle.std.proofs.Common.{◌≡◌, ◌≢◌, ℕ, zero, suc, ◌+◌, ◌<◌, ◌≤◌, Bool, true, false, refl, sym, ap, ◌∙◌, subst, arith, List, inl, inr, max}
use Rattle.std.specs.Prelude.{nat_lt, ◌&&◌, ◌==◌, ◌⊎◌, if◌then◌else◌}
use mathlib.Core.Bool.{not}
use mathlib.Core.Path.{ap₂}
use Rattle.std.proofs.lemmas.Bool.{not-true}
use Rattle.std.proofs.lemmas.Bool.Decides.{nat_tests}
use Rattle.dd_cards.specs.declared.seat.Seat.{Seat}
use Rattle.dd_cards.specs.declared.suit.Suit.{Suit}
use Rattle.dd_cards.specs.declared.suit.Suit.TheVariants.{Spades, Hearts, Diamonds, Clubs}
use Rattle.dd_cards.specs.declared.side.Side.{Side}
use Rattle.dd_cards.specs.PlayingCard.{PlayingCard}
use Rattle.dd_cards.specs.Cards.{is_of, same_card, card_of, has_card}
use Rattle.dd_cards.specs.Hands.{times}
use Rattle.dd_cards.specs.Seats.{seat_code, seat_after}
use Rattle.dd_cards.specs.Sides.{side_of, other_side, is_side}
use Rattle.dd_cards.proofs.CallerLemmas.{and-left, and-right, same_card-self, seat_code-lt}
use Rattle.dd_play.specs.Board.{Board, IsBoard, cards_at, mover}
use Rattle.dd_play.specs.Play.{after}
use Rattle.dd_play.specs.Simulations.{IsLegal}
use Rattle.dd_play.specs.Covers.{count_of}
use Rattle.dd_play.proofs.CallerLemmas.{after-code, count, count-some, flag_of, hand-others, of-suit', own-card, suit-of}
use Rattle.dd_quick.proofs.Cashing.{total}
use Rattle.dd_quick.proofs.Chosen.{count-split}
use Rattle.dd_quick.proofs.Crossings.{NoTrumps}
use Rattle.dd_quick.proofs.Hands.{IsOpposed, and-fails}
use Rattle.dd_quick.proofs.JointTrumps.{place-of}
use Rattle.dd_quick.proofs.Plays.{count-own}
use Rattle.dd_quick.proofs.Sound.{opponents-side}
use Rattle.dd_rank.proofs.CallerLemmas.{count-le}

-- ---- lists of cards

-- is the card of the suit and higher than the honour?
abbrev pub over : (Suit → PlayingCard) → Suit → PlayingCard → Bool
over honour u c = is_of u c && nat_lt (honour u).rank c.rank

-- a card of the suit that is not over it is no higher
pub not-over : (honour : Suit → PlayingCard) (u : Suit) (d : PlayingCard) → d.suit ≡ u → over honour u d ≡ false → d.rank ≤ (honour u).rank
not-over honour u d suit low = least (honour u).rank d.rank (and-fails (is_of u d) (nat_lt (honour u).rank d.rank) (of-suit' u d suit) low)
  where
    least : (a b : ℕ) → nat_lt a b ≡ false → b ≤ a
    least a b h = grind (arith, nat_tests)

-- and lower where it is another
pub under : (honour : Suit → PlayingCard) (u : Suit) (d : PlayingCard) → (honour u).suit ≡ u → d.suit ≡ u → over honour u d ≡ false → d ≢ honour u → d.rank < (honour u).rank
under honour u d at suit low other =
    let least = not-over honour u d suit low in
    let differs : d.rank ≢ (honour u).rank = λ e. other (ap₂ card_of (suit ∙ sym at) e) in
    omega (arith, least, differs)

-- of two cards that pass one is another than this one
pub other-card : (test : PlayingCard → Bool) (cards : List PlayingCard) (g : PlayingCard) → times cards g ≤ 1 → 2 ≤ count test cards → (d : PlayingCard) × (has_card cards d ≡ true) × (test d ≡ true) × (d ≢ g)
other-card test cards g once many =
    let split = count-split test (λ c. same_card c g) cards in
    let few = count-le (λ c. test c && same_card c g) (λ c. same_card c g) cards (λ c has pass. and-right (test c) (same_card c g) pass) in
    let d = count-some (λ c. test c && not (same_card c g)) cards (omega (arith, split, few, once, many)) in (
      d.0,
      d.1,
      and-left (test d.0) (not (same_card d.0 g)) d.2,
      λ e. (let k : same_card d.0 g ≡ false = not-true (same_card d.0 g) (and-right (test d.0) (not (same_card d.0 g)) d.2) in let z : true ≡ false = sym (same_card-self g) ∙ ap (λ c. same_card c g) (sym e) ∙ k in cc),
    )

-- where no suit has more, and one has less, the sum is less
pub total-more : (a b : Suit → ℕ) (v : Suit) → ((u : Suit) → a u ≤ b u) → a v + 1 ≤ b v → total a + 1 ≤ total b
total-more a b v most one = by v one (most Spades) (most Hearts) (most Diamonds) (most Clubs)
  where
    by : (u : Suit) → a u + 1 ≤ b u → a Spades ≤ b Spades → a Hearts ≤ b Hearts → a Diamonds ≤ b Diamonds → a Clubs ≤ b Clubs → total a + 1 ≤ total b
    by Spades one s h d k = omega (arith, one, s, h, d, k)
    by Hearts one s h d k = omega (arith, one, s, h, d, k)
    by Diamonds one s h d k = omega (arith, one, s, h, d, k)
    by Clubs one s h d k = omega (arith, one, s, h, d, k)

-- two suits are one, or not
pub same-suit : (u v : Suit) → (u ≡ v) ⊎ (u ≢ v)
same-suit u v = go (is_of u (card_of v 0)) refl
  where
    go : (b : Bool) → is_of u (card_of v 0) ≡ b → (u ≡ v) ⊎ (u ≢ v)
    go true e = inl (sym (suit-of u (card_of v 0) e))
    go false e = inr (λ z. let k : true ≡ false = sym (of-suit' u (card_of v 0) (sym z)) ∙ e in cc)

-- ---- suits that are guarded

-- No hand has a trump. Of each suit that is `guarded` its `keeper`, of the other side than the leader's, has the honour. Its
-- side has no higher card, and the hand behind it has none, or no others.
pub record CanHold (o : Board) (guarded : Suit → Bool) (keeper : Suit → Seat) (honour : Suit → PlayingCard) : Type 0 where
  pub plain : NoTrumps o
  pub theirs : (u : Suit) → guarded u ≡ true → is_side (other_side (side_of o.first)) (keeper u) ≡ true
  pub own : (u : Suit) → guarded u ≡ true → has_card (cards_at o (keeper u)) (honour u) ≡ true
  pub suit : (u : Suit) → guarded u ≡ true → (honour u).suit ≡ u
  pub low : (u : Suit) → guarded u ≡ true → (x : Seat) (c : PlayingCard) → is_side (other_side (side_of o.first)) x ≡ true → has_card (cards_at o x) c ≡ true → over honour u c ≡ false
  pub behind : (u : Suit) → guarded u ≡ true → (count (over honour u) (cards_at o (seat_after (keeper u) 1)) ≡ 0) ⊎ ((c : PlayingCard) → has_card (cards_at o (seat_after (keeper u) 1)) c ≡ true → c.suit ≡ u → over honour u c ≡ true)

-- How often the leader's side can lead the suit: as it has cards over the honour where it is guarded, else as the longer of its
-- holdings is long.
abbrev pub rounds_of : Seat → (Suit → Bool) → (Suit → PlayingCard) → Board → Suit → ℕ
rounds_of f guarded honour p u = (if guarded u then count (over honour u) (cards_at p f) + count (over honour u) (cards_at p (seat_after f 2)) else max (count_of u (cards_at p f)) (count_of u (cards_at p (seat_after f 2))))

-- does the seat guard the suit?
abbrev pub guards_of : (Suit → Bool) → (Suit → Seat) → Seat → Suit → Bool
guards_of guarded keeper x u = guarded u && seat_code (keeper u) == seat_code x

module _ (o : Board) (guarded : Suit → Bool) (keeper : Suit → Seat) (honour : Suit → PlayingCard) (hold : CanHold o guarded keeper honour) where
  abbrev t : Side
  t = other_side (side_of o.first)

  abbrev rounds : Board → Suit → ℕ
  rounds p u = rounds_of o.first guarded honour p u

  -- a card over the honour that is played is a round less
  pub rest-after : (q : Board) (c : PlayingCard) (u : Suit) → IsBoard q → IsLegal q c → guarded u ≡ true → ((x : Seat) (d : PlayingCard) → has_card (cards_at q x) d ≡ true → has_card (cards_at o x) d ≡ true)
      → rounds (after q c) u + flag_of (over honour u c) ≡ rounds q u
  rest-after q c u valid has g part = by (place-of o.first (mover q))
    where
      test : PlayingCard → Bool
      test = over honour u

      two : Seat
      two = seat_after o.first 2

      now_is : rounds (after q c) u ≡ count test (cards_at (after q c) o.first) + count test (cards_at (after q c) two)
      now_is = ap (λ b. if b then count test (cards_at (after q c) o.first) + count test (cards_at (after q c) two) else max (count_of u (cards_at (after q c) o.first)) (count_of u (cards_at (after q c) two))) g

      was_is : rounds q u ≡ count test (cards_at q o.first) + count test (cards_at q two)
      was_is = ap (λ b. if b then count test (cards_at q o.first) + count test (cards_at q two) else max (count_of u (cards_at q o.first)) (count_of u (cards_at q two))) g

      moved : (x : Seat) → x ≡ mover q → count test (cards_at (after q c) x) + flag_of (test c) ≡ count test (cards_at q x)
      moved x e = subst (λ y. count test (cards_at (after q c) y) + flag_of (test c) ≡ count test (cards_at q y)) (sym e) (count-own test q c valid has)

      stays : (x : Seat) → seat_code x ≢ seat_code (mover q) → count test (cards_at (after q c) x) ≡ count test (cards_at q x)
      stays x apart = ap (count test) (hand-others q c x apart)

      theirs : (i : ℕ) → IsOpposed i → mover q ≡ seat_after o.first i → flag_of (test c) ≡ 0
      theirs i opposed e = ap flag_of (hold.low u g (mover q) c (ap (is_side t) e ∙ side i opposed) (part (mover q) c (own-card q c has)))
        where
          side : (i : ℕ) → IsOpposed i → is_side t (seat_after o.first i) ≡ true
          side i opposed = elim opposed [ inl k ↦ ap (λ n. is_side t (seat_after o.first n)) k ∙ (opponents-side o.first).0 | inr k ↦ ap (λ n. is_side t (seat_after o.first n)) k ∙ (opponents-side o.first).1 ]

      apart : (i j : ℕ) → i < 4 → j < 4 → i ≢ j → mover q ≡ seat_after o.first j → seat_code (seat_after o.first i) ≢ seat_code (mover q)
      apart i j l m differs e = (let a = after-code o.first i in let b = after-code o.first j in let d = seat_code-lt o.first in let s : seat_code (mover q) ≡ seat_code (seat_after o.first j) = ap seat_code e in λ z. omega (arith, a, b, d, l, m, differs, s, z))

      by : (i : ℕ) × (i < 4) × (mover q ≡ seat_after o.first i) → rounds (after q c) u + flag_of (test c) ≡ rounds q u
      by (zero, l, e) = (let a = moved o.first (sym e) in let b = stays two (apart 2 0 (omega arith) (omega arith) (λ z. omega (arith, z)) e) in omega (arith, now_is, was_is, a, b))
      by (suc zero, l, e) = (let a = stays o.first (apart 0 1 (omega arith) (omega arith) (λ z. omega (arith, z)) e) in let b = stays two (apart 2 1 (omega arith) (omega arith) (λ z. omega (arith, z)) e) in let z = theirs 1 (inl refl) e in omega (arith, now_is, was_is, a, b, z))
      by (suc (suc zero), l, e) = (let a = stays o.first (apart 0 2 (omega arith) (omega arith) (λ z. omega (arith, z)) e) in let b = moved two (sym e) in omega (arith, now_is, was_is, a, b))
      by (suc (suc (suc zero)), l, e) = (let a = stays o.first (apart 0 3 (omega arith) (omega arith) (λ z. omega (arith, z)) e) in let b = stays two (apart 2 3 (omega arith) (omega arith) (λ z. omega (arith, z)) e) in let z = theirs 3 (inr refl) e in omega (arith, now_is, was_is, a, b, z))
      by (suc (suc (suc (suc j))), l, e) = absurd (omega (arith, l))
