-- the quick tricks of a position are those of each position that it covers with its winners
use Rattle.std.proofs.Common.{◌≡◌, ◌≢◌, ℕ, ◌+◌, ◌-◌, ◌<◌, ◌≤◌, Bool, true, false, refl, sym, ap, ◌∙◌, subst, arith, List, [], ◌∷◌, ◌++◌, length, length-append, inl, inr, min, zero-le}
use Rattle.std.specs.Prelude.{filter, nat_le, nat_lt, ◌&&◌, ◌||◌, ◌==◌, ◌⊎◌}
use mathlib.Core.Bool.{not}
use Rattle.std.proofs.lemmas.Bool.{cases_lt, le-leb, leb-true, ltb-true, false_from_ne_true}
use Rattle.std.proofs.lemmas.Bool.Decides.{nat_tests}
use Rattle.dd_cards.specs.declared.seat.Seat.{Seat}
use Rattle.dd_cards.specs.declared.suit.Suit.{Suit}
use Rattle.dd_cards.specs.declared.suit.Suit.TheVariants.{Spades, Hearts, Diamonds, Clubs}
use Rattle.dd_cards.specs.declared.strain.Strain.{Strain}
use Rattle.dd_cards.specs.declared.strain.Strain.TheVariants.{Trump, Notrump}
use Rattle.dd_cards.specs.declared.side.Side.{Side}
use Rattle.dd_cards.specs.PlayingCard.{PlayingCard}
use Rattle.dd_cards.specs.Ranks.{IsRank}
use Rattle.dd_cards.specs.Cards.{is_of, card_of, has_card, same_card}
use Rattle.dd_cards.specs.Suits.{suit_code}
use Rattle.dd_cards.specs.Seats.{seat_code, seat_after}
use Rattle.dd_cards.specs.Sides.{side_of, other_side, is_side}
use Rattle.dd_cards.proofs.CallerLemmas.{and-left, and-right, any-filter, is-other, is-same, same-other, same-self, any-some, seat_code-lt}
use Rattle.dd_play.specs.Board.{Board, IsBoard, cards_at, tricks_left}
use Rattle.dd_play.specs.Tricks.{is_trump}
use Rattle.dd_play.specs.Value.{leaders_tricks}
use Rattle.dd_play.specs.Won.{won}
use Rattle.dd_play.specs.Covers.{IsCover, count_of}
use Rattle.dd_play.specs.Reach.{TakesBy, reach}
use Rattle.dd_play.proofs.CallerLemmas.{after-code, both, by-fewer, by-here, by-more, count, count-cons, filter-has, filter-passes, flag_of, inject, of-suit', once-in, reach-upward, reach-within, suit-of, turn-apart, turn-turn}
use Rattle.dd_rank.specs.Depths.{Covers, depths_of}
use Rattle.dd_rank.proofs.CallerLemmas.{noted, count-le, no-trick}
use Rattle.dd_quick.specs.QuickTricks.{beats, from_rank, is_winner, is_unbeaten, joint_trumps, length_at, run, taken_from, trumps_at}
use Rattle.dd_quick.proofs.Hands.{IsOpposed, no-higher, none-over}
use Rattle.dd_quick.proofs.Cashing.{total}
use Rattle.dd_quick.proofs.Sound.{CanTake, can-take, in-either, in-left, in-right, joint-longer, joint-sure, lowest, opponents-side, rank-joint}

-- ---- winners and their images

-- a position that is covered
module _ (top : PlayingCard → Bool) (k : ℕ) (to from : PlayingCard → PlayingCard) (s : Side) (p : Board) (t : Side) (q : Board) (r : IsCover top k to from s p t q) where
  -- a seat that is i places on is another
  apart : (x : Seat) (i : ℕ) → 1 ≤ i → i < 4 → seat_code (seat_after x i) ≢ seat_code x
  apart x i l m = λ e. (let a = after-code x i in let b = seat_code-lt x in omega (arith, a, b, e, l, m))

  -- a hand that has no card above a top card has none above its image
  free-image : (x : Seat) (c : PlayingCard) (i : ℕ) → 1 ≤ i → i < 4 → has_card (cards_at p x) c ≡ true → top c ≡ true
      → ((e : PlayingCard) → has_card (cards_at p (seat_after x i)) e ≡ true → e.suit ≡ c.suit → e.rank < c.rank) → beats q (seat_after (seat_after x k) i) (to c) ≡ false
  free-image x c i l m has tc below = false_from_ne_true _ (λ h.
      let e = any-some (λ d. is_of (to c).suit d && nat_lt (to c).rank d.rank) (cards_at q (seat_after (seat_after x k) i)) h in
      let suits = suit-of (to c).suit e.0 (and-left (is_of (to c).suit e.0) (nat_lt (to c).rank e.0.rank) e.2) in
      let higher = ltb-true (to c).rank e.0.rank (and-right (is_of (to c).suit e.0) (nat_lt (to c).rank e.0.rank) e.2) in
      let under = go e.0 (ap (λ y. has_card (cards_at q y) e.0) (turn-turn x i k) ∙ e.1) suits (top (from e.0)) refl in
      omega (arith, higher, under))
    where
      image : (has_card (cards_at q (seat_after x k)) (to c) ≡ true) × (from (to c) ≡ c)
      image = r.forth x c has tc

      other : seat_code (seat_after x i) ≢ seat_code x
      other = apart x i l m

      not-le : (a b : ℕ) → b < a → nat_le a b ≡ false
      not-le a b h = grind (arith, nat_tests)

      less : (a b : ℕ) → nat_le a b ≡ false → b < a
      less a b h = grind (arith, nat_tests)

      go : (e : PlayingCard) → has_card (cards_at q (seat_after (seat_after x i) k)) e ≡ true → e.suit ≡ (to c).suit → (b : Bool) → top (from e) ≡ b → e.rank < (to c).rank
      go e he suits false te = r.over_q.hands (seat_after x k) (seat_after (seat_after x i) k) (to c) e (λ z. turn-apart (seat_after x i) x k other (ap seat_code (sym z))) image.0 he (ap top image.1 ∙ tc) te (sym suits)
      go e he suits true te =
          let b = r.back (seat_after x i) e he te in
          let same : (from e).suit ≡ c.suit = r.from_suit e ∙ suits ∙ r.to_suit c in
          let low : (from e).rank < c.rank = below (from e) b.0 same in
          let keep : nat_le (to c).rank (to (from e)).rank ≡ nat_le c.rank (from e).rank = r.keeps.hands x (seat_after x i) c (from e) (λ z. other (ap seat_code (sym z))) has b.0 tc te (sym same) in
          less (to c).rank e.rank (ap (λ (d : PlayingCard). nat_le (to c).rank d.rank) (sym b.1) ∙ keep ∙ not-le c.rank (from e).rank low)

  -- the image of a winner is a winner
  pub winner-image : (x : Seat) (c : PlayingCard) → has_card (cards_at p x) c ≡ true → is_winner p x c ≡ true → top c ≡ true → is_winner q (seat_after x k) (to c) ≡ true
  winner-image x c has wins tc = three (free 1 (omega arith) (omega arith)) (free 2 (omega arith) (omega arith)) (free 3 (omega arith) (omega arith))
    where
      three : {a b d : Bool} → a ≡ false → b ≡ false → d ≡ false → not (a || b || d) ≡ true
      three e f g = rw (e, f, g) refl

      free : (i : ℕ) → 1 ≤ i → i < 4 → beats q (seat_after (seat_after x k) i) (to c) ≡ false
      free i l m = free-image x c i l m has tc (λ e he suits. no-higher p r.valid_p x (seat_after x i) c e (apart x i l m) wins has he suits)

  -- the image of a card that no opponent beats is one too
  pub unbeaten-image : (x : Seat) (c : PlayingCard) → has_card (cards_at p x) c ≡ true → is_unbeaten p x c ≡ true → top c ≡ true → is_unbeaten q (seat_after x k) (to c) ≡ true
  unbeaten-image x c has wins tc = two (free 1 (inl refl) (omega arith) (omega arith)) (free 3 (inr refl) (omega arith) (omega arith))
    where
      two : {a b : Bool} → a ≡ false → b ≡ false → not (a || b) ≡ true
      two e f = rw (e, f) refl

      free : (i : ℕ) → IsOpposed i → 1 ≤ i → i < 4 → beats q (seat_after (seat_after x k) i) (to c) ≡ false
      free i opposed l m = free-image x c i l m has tc (λ e he suits. none-over p r.valid_p x i c e opposed wins has he suits)

  -- a test that goes over from a hand's top cards to their images passes as many there
  pub count-image : (test tested : PlayingCard → Bool) (x : Seat) → ((c : PlayingCard) → has_card (cards_at p x) c ≡ true → test c ≡ true → top c ≡ true → tested (to c) ≡ true)
      → count (λ c. test c && top c) (cards_at p x) ≤ count tested (cards_at q (seat_after x k))
  count-image test tested x each = inject to from (λ c. test c && top c) tested (cards_at p x) (cards_at q (seat_after x k)) (once-in p r.valid_p x) (λ c h pass.
      let a = and-left (test c) (top c) pass in
      let tc = and-right (test c) (top c) pass in
      let f = r.forth x c h tc in
      (f.0, each c h a tc, f.1))

  -- of two tests that both pass
  both-pass : {a b : Bool} → a ≡ true → b ≡ true → (a && b) ≡ true
  both-pass h g = rw (h, g) refl

  -- so a run is no shorter than its part of top cards
  pub run-covered : (x : Seat) (u : Suit) → count (λ c. (is_of u c && is_winner p x c) && top c) (cards_at p x) ≤ run q (seat_after x k) u
  run-covered x u = count-image (λ c. is_of u c && is_winner p x c) (λ c. is_of u c && is_winner q (seat_after x k) c) x (λ c h pass tc.
      let of_u = and-left (is_of u c) (is_winner p x c) pass in
      both-pass (of-suit' u (to c) (r.to_suit c ∙ suit-of u c of_u)) (winner-image x c h (and-right (is_of u c) (is_winner p x c) pass) tc))

  -- the seats after the leader are those after the leader
  pub seat-same : (i : ℕ) → seat_after q.first i ≡ seat_after (seat_after p.first i) k
  seat-same i = ap (λ z. seat_after z i) r.first ∙ turn-turn p.first k i

  -- their suits are as long
  pub length-same : (i : ℕ) (u : Suit) → length_at q (seat_after q.first i) u ≡ length_at p (seat_after p.first i) u
  length-same i u = ap (λ y. length_at q y u) (seat-same i) ∙ r.lengths (seat_after p.first i) u

  -- and their trumps as many
  pub trumps-same : (strain : Strain) (i : ℕ) → trumps_at strain q (seat_after q.first i) ≡ trumps_at strain p (seat_after p.first i)
  trumps-same Notrump i = refl
  trumps-same (Trump u) i = length-same i u

-- a hand's cards by their suits
pub by-suits : (cards : List PlayingCard) → total (λ u. count_of u cards) ≡ length cards
by-suits [] = refl
by-suits (c ∷ cards) =
    let ih = by-suits cards in
    let s = count-cons (is_of Spades) c cards in
    let h = count-cons (is_of Hearts) c cards in
    let d = count-cons (is_of Diamonds) c cards in
    let l = count-cons (is_of Clubs) c cards in
    let one = go c.suit in
    omega (arith, ih, s, h, d, l, one)
  where
    go : (u : Suit) → flag_of (suit_code u == 0) + flag_of (suit_code u == 1) + flag_of (suit_code u == 2) + flag_of (suit_code u == 3) ≡ 1
    go Spades = refl
    go Hearts = refl
    go Diamonds = refl
    go Clubs = refl

-- as many tricks are left before a trick, where the leaders' suits are as long
pub left-same : (p q : Board) → p.trick ≡ [] → q.trick ≡ [] → ((u : Suit) → length_at q q.first u ≡ length_at p p.first u) → tricks_left q ≡ tricks_left p
left-same p q start empty each =
    let a = by-suits (cards_at p p.first) in
    let b = by-suits (cards_at q q.first) in
    let s = each Spades in
    let h = each Hearts in
    let d = each Diamonds in
    let l = each Clubs in
    let mine : tricks_left p ≡ length (cards_at p p.first) = ap (λ trick. length (cards_at p (seat_after p.first (length trick)))) start in
    let his : tricks_left q ≡ length (cards_at q q.first) = ap (λ trick. length (cards_at q (seat_after q.first (length trick)))) empty in
    omega (arith, a, b, s, h, d, l, mine, his)

-- ---- claims

-- So many tricks are taken by trumps of some rank or higher, all top cards, of the seat i places after the leader and its
-- partner, or no opponent has trumps.
abbrev pub IsJoint : Strain → (PlayingCard → Bool) → Board → ℕ → ℕ → Type 0
IsJoint Notrump top p i k = Unit {0}
IsJoint (Trump u) top p i k = ((k ≡ 0) ⊎ ((rank : ℕ) × (k ≤ taken_from p (seat_after p.first i) u rank) × ((c : PlayingCard) → c.suit ≡ u → rank ≤ c.rank → top c ≡ true)))
    ⊎ ((length_at p (seat_after (seat_after p.first i) 1) u ≡ 0) × (length_at p (seat_after (seat_after p.first i) 3) u ≡ 0))

-- from the lowest rank on a hand has all its cards of the suit
all-from : (p : Board) (x : Seat) (u : Suit) → length_at p x u ≤ from_rank p x u 0
all-from p x u = count-le (is_of u) (λ c. is_of u c && nat_le 0 c.rank) (cards_at p x) (λ c has of_u. rw (of_u, le-leb 0 c.rank zero-le) refl)

-- and never more than all
from-all : (p : Board) (x : Seat) (u : Suit) (r : ℕ) → from_rank p x u r ≤ length_at p x u
from-all p x u r = count-le (λ c. is_of u c && nat_le r c.rank) (is_of u) (cards_at p x) (λ c has pass. and-left (is_of u c) (nat_le r c.rank) pass)

-- where trumps of a rank or higher are top cards, there is a rank from which on they and no others stand at a position that is covered
module _ (top : PlayingCard → Bool) (k : ℕ) (to from : PlayingCard → PlayingCard) (s : Side) (p : Board) (t : Side) (q : Board) (r : IsCover top k to from s p t q) (u : Suit) (a : Seat) (rank : ℕ)
    (tops : (c : PlayingCard) → c.suit ≡ u → rank ≤ c.rank → top c ≡ true) where
  -- the trumps
  abbrev high : PlayingCard → Bool
  high c = is_of u c && nat_le rank c.rank

  high-top : (c : PlayingCard) → high c ≡ true → top c ≡ true
  high-top c e = tops c (suit-of u c (and-left (is_of u c) (nat_le rank c.rank) e)) (leb-true rank c.rank (and-right (is_of u c) (nat_le rank c.rank) e))

  -- those of the two hands
  abbrev ours : List PlayingCard
  ours = filter high (cards_at p a) ++ filter high (cards_at p (seat_after a 2))

  -- a rank from which on the images of all of them stand, and one of them that is its holder's
  record IsFrom (least : ℕ) : Type 0 where
    each : (x : Seat) → (x ≡ a) ⊎ (x ≡ seat_after a 2) → (c : PlayingCard) → has_card (cards_at p x) c ≡ true → high c ≡ true → least ≤ (to c).rank
    holder : (x : Seat) × (c : PlayingCard) × ((x ≡ a) ⊎ (x ≡ seat_after a 2)) × (has_card (cards_at p x) c ≡ true) × (high c ≡ true) × ((to c).rank ≡ least)

  -- of the two hands no fewer stand from there on
  own-from : (least : ℕ) → IsFrom least → (x : Seat) → (x ≡ a) ⊎ (x ≡ seat_after a 2) → from_rank p x u rank ≤ from_rank q (seat_after x k) u least
  own-from least low x mine =
      let n = count-le high (λ c. high c && top c) (cards_at p x) (λ c has e. both-pass e (high-top c e)) in
      let m = count-image top k to from s p t q r high (λ c. is_of u c && nat_le least c.rank) x (λ c has e tc. both-pass (of-suit' u (to c) (r.to_suit c ∙ suit-of u c (and-left (is_of u c) (nat_le rank c.rank) e))) (le-leb least (to c).rank (low.each x mine c has e))) in
      omega (arith, n, m)
    where
      both-pass : {b d : Bool} → b ≡ true → d ≡ true → (b && d) ≡ true
      both-pass e f = rw (e, f) refl

  -- and of another hand no more
  others-from : (least : ℕ) → IsFrom least → (x : Seat) → seat_code x ≢ seat_code a → seat_code x ≢ seat_code (seat_after a 2) → from_rank q (seat_after x k) u least ≤ from_rank p x u rank
  others-from least low x one two = inject from to (λ c. is_of u c && nat_le least c.rank) high (cards_at q (seat_after x k)) (cards_at p x) (once-in q r.valid_q (seat_after x k)) (λ e has pass. go e has pass (top (from e)) refl)
    where
      h : Seat
      h = low.holder.0

      c : PlayingCard
      c = low.holder.1

      mine : has_card (cards_at p h) c ≡ true
      mine = low.holder.3

      passes : high c ≡ true
      passes = low.holder.4

      apart : seat_code x ≢ seat_code h
      apart = elim low.holder.2 [ inl e ↦ (λ z. one (z ∙ ap seat_code e)) | inr e ↦ (λ z. two (z ∙ ap seat_code e)) ]

      is_top : top c ≡ true
      is_top = high-top c passes

      image : (has_card (cards_at q (seat_after h k)) (to c) ≡ true) × (from (to c) ≡ c)
      image = r.forth h c mine is_top

      go : (e : PlayingCard) → has_card (cards_at q (seat_after x k)) e ≡ true → (is_of u e && nat_le least e.rank) ≡ true → (b : Bool) → top (from e) ≡ b → (has_card (cards_at p x) (from e) ≡ true) × (high (from e) ≡ true) × (to (from e) ≡ e)
      go e has pass false te = absurd (
          let suits : (to c).suit ≡ e.suit = r.to_suit c ∙ suit-of u c (and-left (is_of u c) (nat_le rank c.rank) passes) ∙ sym (suit-of u e (and-left (is_of u e) (nat_le least e.rank) pass)) in
          let under = r.over_q.hands (seat_after h k) (seat_after x k) (to c) e (λ z. turn-apart x h k apart (ap seat_code (sym z))) image.0 has (ap top image.1 ∙ is_top) te suits in
          let over = leb-true least e.rank (and-right (is_of u e) (nat_le least e.rank) pass) in
          let same = low.holder.5 in
          omega (arith, under, over, same))
      go e has pass true te =
          let b = r.back x e has te in
          let suit : (from e).suit ≡ u = r.from_suit e ∙ suit-of u e (and-left (is_of u e) (nat_le least e.rank) pass) in
          let keep : nat_le (to c).rank (to (from e)).rank ≡ nat_le c.rank (from e).rank = r.keeps.hands h x c (from e) (λ z. apart (ap seat_code (sym z))) mine b.0 is_top te (suit-of u c (and-left (is_of u c) (nat_le rank c.rank) passes) ∙ sym suit) in
          let over = leb-true least e.rank (and-right (is_of u e) (nat_le least e.rank) pass) in
          let same = low.holder.5 in
          let here : nat_le (to c).rank (to (from e)).rank ≡ true = ap (λ (d : PlayingCard). nat_le (to c).rank d.rank) b.1 ∙ le-leb (to c).rank e.rank (omega (arith, over, same)) in
          let high_c = leb-true rank c.rank (and-right (is_of u c) (nat_le rank c.rank) passes) in
          let above = leb-true c.rank (from e).rank (sym keep ∙ here) in
          (b.0, rw (of-suit' u (from e) suit, le-leb rank (from e).rank (omega (arith, high_c, above))) refl, b.1)

  -- there is such a rank, where there are such trumps
  some-from : (cards : List PlayingCard) → ours ≡ cards → 1 ≤ length cards → (least : ℕ) × IsFrom least
  some-from [] e some = absurd (omega (arith, some))
  some-from (c ∷ cards) e some = ((to low.0).rank, record { each = each; holder = holder })
    where
      low : (d : PlayingCard) × (has_card (c ∷ cards) d ≡ true) × ((e : PlayingCard) → has_card (c ∷ cards) e ≡ true → (to d).rank ≤ (to e).rank)
      low = lowest (λ (y : PlayingCard). (to y).rank) c cards

      in-ours : (x : Seat) → (x ≡ a) ⊎ (x ≡ seat_after a 2) → (d : PlayingCard) → has_card (filter high (cards_at p x)) d ≡ true → has_card ours d ≡ true
      in-ours x (inl f) d has = in-left (filter high (cards_at p a)) (filter high (cards_at p (seat_after a 2))) d (subst (λ y. has_card (filter high (cards_at p y)) d ≡ true) f has)
      in-ours x (inr f) d has = in-right (filter high (cards_at p a)) (filter high (cards_at p (seat_after a 2))) d (subst (λ y. has_card (filter high (cards_at p y)) d ≡ true) f has)

      each : (x : Seat) → (x ≡ a) ⊎ (x ≡ seat_after a 2) → (d : PlayingCard) → has_card (cards_at p x) d ≡ true → high d ≡ true → (to low.0).rank ≤ (to d).rank
      each x mine d has pass = low.2 d (ap (λ l. has_card l d) (sym e) ∙ in-ours x mine d (filter-has high (cards_at p x) d has pass))

      of-seat : (x : Seat) → (x ≡ a) ⊎ (x ≡ seat_after a 2) → has_card (filter high (cards_at p x)) low.0 ≡ true
          → (y : Seat) × (d : PlayingCard) × ((y ≡ a) ⊎ (y ≡ seat_after a 2)) × (has_card (cards_at p y) d ≡ true) × (high d ≡ true) × ((to d).rank ≡ (to low.0).rank)
      of-seat x mine has = (x, low.0, mine, any-filter (λ y. same_card y low.0) high (cards_at p x) has, filter-passes high (cards_at p x) low.0 has, refl)

      holder : (y : Seat) × (d : PlayingCard) × ((y ≡ a) ⊎ (y ≡ seat_after a 2)) × (has_card (cards_at p y) d ≡ true) × (high d ≡ true) × ((to d).rank ≡ (to low.0).rank)
      holder = elim (in-either (filter high (cards_at p a)) (filter high (cards_at p (seat_after a 2))) low.0 (ap (λ l. has_card l low.0) e ∙ low.1)) [ inl has ↦ of-seat a (inl refl) has | inr has ↦ of-seat (seat_after a 2) (inr refl) has ]

  -- so they take as many tricks there
  pub from-covered : (m : ℕ) → m ≤ taken_from p a u rank → m ≤ joint_trumps (Trump u) q (seat_after a k)
  from-covered m few = elim (cases_lt 0 m) [
    | inl some ↦ (
        let long = length-append (filter high (cards_at p a)) (filter high (cards_at p (seat_after a 2))) in
        let low = some-from ours refl (omega (arith, few, some, long)) in
        let x = own-from low.0 low.1 a (inl refl) in
        let y = own-from low.0 low.1 (seat_after a 2) (inr refl) in
        let v = others-from low.0 low.1 (seat_after a 1) (two 1 0 (omega arith) (omega arith) (λ e. omega (arith, e))) (two 1 2 (omega arith) (omega arith) (λ e. omega (arith, e))) in
        let w = others-from low.0 low.1 (seat_after a 3) (two 3 0 (omega arith) (omega arith) (λ e. omega (arith, e))) (two 3 2 (omega arith) (omega arith) (λ e. omega (arith, e))) in
        let la = r.lengths a u in
        let lb = r.lengths (seat_after a 2) u in
        let on_1 : from_rank q (seat_after (seat_after a k) 1) u low.0 ≡ from_rank q (seat_after (seat_after a 1) k) u low.0 = ap (λ y. from_rank q y u low.0) (turn-turn a k 1) in
        let on_2 : from_rank q (seat_after (seat_after a k) 2) u low.0 ≡ from_rank q (seat_after (seat_after a 2) k) u low.0 = ap (λ y. from_rank q y u low.0) (turn-turn a k 2) in
        let on_3 : from_rank q (seat_after (seat_after a k) 3) u low.0 ≡ from_rank q (seat_after (seat_after a 3) k) u low.0 = ap (λ y. from_rank q y u low.0) (turn-turn a k 3) in
        let long_2 : length_at q (seat_after (seat_after a k) 2) u ≡ length_at q (seat_after (seat_after a 2) k) u = ap (λ y. length_at q y u) (turn-turn a k 2) in
        rank-joint u q (seat_after a k) low.0 m r.valid_q (omega (arith, few, x, y, v, w, la, lb, on_1, on_2, on_3, long_2)))
    | inr none ↦ omega (arith, none)
  ]
    where
      two : (i j : ℕ) → i < 4 → j < 4 → i ≢ j → seat_code (seat_after a i) ≢ seat_code (seat_after a j)
      two i j l m e = (let x = after-code a i in let y = after-code a j in let z = seat_code-lt a in λ k. omega (arith, x, y, z, k, l, m, e))

-- a position that is covered has as many joint trumps, of those that are top cards
pub joint-covered : (top : PlayingCard → Bool) (k : ℕ) (to from : PlayingCard → PlayingCard) (s : Side) (p : Board) (t : Side) (q : Board) → IsCover top k to from s p t q
    → (strain : Strain) (i m : ℕ) → IsJoint strain top p i m → m ≤ joint_trumps strain p (seat_after p.first i) → m ≤ joint_trumps strain q (seat_after q.first i)
joint-covered top k to from s p t q r Notrump i m rests few = few
joint-covered top k to from s p t q r (Trump u) i m rests few = subst (λ y. m ≤ joint_trumps (Trump u) q y) (sym (seat-same top k to from s p t q r i)) here
  where
    a : Seat
    a = seat_after p.first i

    -- seats after the seat turned are those after the seat
    on : (j : ℕ) → length_at q (seat_after (seat_after a k) j) u ≡ length_at p (seat_after a j) u
    on j = ap (λ y. length_at q y u) (turn-turn a k j) ∙ r.lengths (seat_after a j) u

    here : m ≤ joint_trumps (Trump u) q (seat_after a k)
    here = elim rests [
      | inl tops ↦ elim tops [ inl none ↦ omega (arith, none) | inr high ↦ from-covered top k to from s p t q r u a high.0 high.2 m high.1 ]
      | inr none ↦ (
          let most = joint-longer u p a in
          let la = r.lengths a u in
          let lb = on 2 in
          let x = all-from q (seat_after a k) u in
          let y = all-from q (seat_after (seat_after a k) 2) u in
          let one = on 1 ∙ none.0 in
          let three = on 3 ∙ none.1 in
          let v = from-all q (seat_after (seat_after a k) 1) u 0 in
          let w = from-all q (seat_after (seat_after a k) 3) u 0 in
          rank-joint u q (seat_after a k) 0 m r.valid_q (omega (arith, few, most, la, lb, x, y, one, three, v, w)))
    ]

-- the claims for cards to cash rest on top cards: of each suit so many winners as any other hand has cards, or as are cashed
abbrev pub RestsOnTops : (PlayingCard → Bool) → Board → (Suit → ℕ) → Type 0
RestsOnTops top p n = (u : Suit) (i : ℕ) → 1 ≤ i → i < 4 → min (n u) (length_at p (seat_after p.first i) u) ≤ count (λ c. (is_of u c && is_winner p p.first c) && top c) (cards_at p p.first)

-- what the leader's side can take it can take at each position that is covered with these cards
pub can-covered : (top : PlayingCard → Bool) (k : ℕ) (to from : PlayingCard → PlayingCard) (s : Side) (p : Board) (t : Side) (q : Board) → IsCover top k to from s p t q
    → (n : Suit → ℕ) (m : ℕ) → p.trick ≡ [] → q.trick ≡ [] → CanTake p n m → RestsOnTops top p n → IsJoint p.strain top p 0 m → CanTake q n m
can-covered top k to from s p t q r n m start empty can winners joint =
    let same = λ (i : ℕ) (u : Suit). length-same top k to from s p t q r i u in
    let trumps : (i : ℕ) → trumps_at q.strain q (seat_after q.first i) ≡ trumps_at p.strain p (seat_after p.first i) = λ i. ap (λ z. trumps_at z q (seat_after q.first i)) r.strain ∙ trumps-same top k to from s p t q r p.strain i in
    let lefts = left-same p q start empty (λ u. same 0 u) in
    record {
      held = λ u. (let h = can.held u in let e = same 0 u in omega (arith, h, e));
      yields = λ u i l h. (
          let e = same i u in
          let w = winners u i l h in
          let c = run-covered top k to from s p t q r p.first u in
          let f : run q q.first u ≡ run q (seat_after p.first k) u = ap (λ y. run q y u) r.first in
          omega (arith, e, w, c, f));
      plain = λ u some. ap (λ z. is_trump z (card_of u 0)) r.strain ∙ can.plain u some;
      follows = λ i opposed. elim (can.follows i opposed) [ inl none ↦ inl (trumps i ∙ none) | inr each ↦ inr (λ u. let h = each u in let e = same i u in omega (arith, h, e)) ];
      throws = (let h = can.throws in let e = trumps 2 in omega (arith, h, e, lefts));
      joint = subst (λ z. m ≤ joint_trumps z q q.first) (sym r.strain) (joint-covered top k to from s p t q r p.strain 0 m joint can.joint);
    }

-- what the leader's side can take is a claim by these cards
pub leader-by : (top : PlayingCard → Bool) (p : Board) (n : Suit → ℕ) (m : ℕ) → p.trick ≡ [] → (IsBoard p → CanTake p n m) → RestsOnTops top p n → IsJoint p.strain top p 0 m → TakesBy top (side_of p.first) p (total n + m)
leader-by top p n m start may winners joint k to from t q r strict =
    let empty = no-trick to from top p.trick q.trick start r.trick in
    let taken = can-take q n m r.valid_q empty (can-covered top k to from (side_of p.first) p t q r n m start empty (may r.valid_p) winners joint) in
    let side = is-same (side_of q.first) t (ap (is_side t) r.first ∙ r.sides p.first ∙ same-self (side_of p.first)) in
    subst (λ z. total n + m ≤ won z q) side taken

-- the other side's joint trumps are a claim by these cards
pub others-by : (top : PlayingCard → Bool) (p : Board) (m : ℕ) → p.trick ≡ [] → m ≤ joint_trumps p.strain p (seat_after p.first 1) → IsJoint p.strain top p 1 m → TakesBy top (other_side (side_of p.first)) p m
others-by top p m start few joint k to from t q r strict =
    let empty = no-trick to from top p.trick q.trick start r.trick in
    let here = joint-covered top k to from (other_side (side_of p.first)) p t q r p.strain 1 m joint few in
    let ours = opponents-side q.first in
    let taken : m ≤ won (other_side (side_of q.first)) q = joint-sure q (seat_after q.first 1) (other_side (side_of q.first)) m r.valid_q empty ours.0 ours.1 (subst (λ z. m ≤ joint_trumps z q (seat_after q.first 1)) (sym r.strain) here) in
    let side = is-other (side_of q.first) t (ap (is_side t) r.first ∙ r.sides p.first ∙ same-other (side_of p.first)) in
    subst (λ z. m ≤ won z q) side taken

-- ---- both sides

-- what both sides are sure of is no more than what is left
pub sure-within : (p : Board) (a b : List PlayingCard) (ours theirs : ℕ) → IsBoard p → TakesBy (reach a) (side_of p.first) p ours → TakesBy (reach b) (other_side (side_of p.first)) p theirs → ours + theirs ≤ tricks_left p
sure-within p a b ours theirs valid x y =
    both (side_of p.first) p ours theirs valid (by-here (reach a) (side_of p.first) p ours valid (reach-upward a) x)
    (by-here (reach b) (other_side (side_of p.first)) p theirs valid (reach-upward b) y)

-- and it bounds the value of each position that is covered at the depths of the cards of both
pub sure-bounds : (p : Board) (a b cards : List PlayingCard) (ours theirs : ℕ) (depths : Suit → ℕ) (lo hi : ℕ) → ((c : PlayingCard) → has_card cards c ≡ true → IsRank c.rank) → IsBoard p
    → ((c : PlayingCard) → has_card a c ≡ true → has_card cards c ≡ true) → ((c : PlayingCard) → has_card b c ≡ true → has_card cards c ≡ true) → ((u : Suit) → depths u ≡ depths_of (reach cards) p u)
    → lo ≡ ours → hi ≡ tricks_left p - theirs → TakesBy (reach a) (side_of p.first) p ours → TakesBy (reach b) (other_side (side_of p.first)) p theirs
    → (q : Board) → IsBoard q → Covers p depths q → (lo ≤ leaders_tricks q) × (leaders_tricks q ≤ hi)
sure-bounds p a b cards ours theirs depths lo hi real valid mine others deep low high x y =
    noted cards depths p lo hi real valid (λ u. let e = deep u in omega (arith, e))
    (by-fewer (reach cards) (side_of p.first) p ours lo (by-more (reach a) (reach cards) (side_of p.first) p ours (reach-within a cards mine) (reach-upward a) x) (omega (arith, low)))
    (by-fewer (reach cards) (other_side (side_of p.first)) p theirs (tricks_left p - hi) (by-more (reach b) (reach cards) (other_side (side_of p.first)) p theirs (reach-within b cards others) (reach-upward b) y) (omega (arith, high)))
