-- crossing to the partner is carried to each position that is covered with the cards on which it rests
use Rattle.std.proofs.Common.{◌≡◌, ◌≢◌, ℕ, zero, suc, ◌+◌, ◌<◌, ◌≤◌, Bool, true, false, refl, sym, ap, ◌∙◌, subst, arith, [], inl, inr}
use Rattle.std.specs.Prelude.{nat_le, nat_lt, ◌&&◌, ◌⊎◌}
use mathlib.Core.Bool.{not}
use mathlib.Core.Path.{ap₂}
use Rattle.std.proofs.lemmas.Bool.{cases_lt, lt-ltb, le-leb, leb-true, not-true, false_from_ne_true}
use Rattle.dd_cards.specs.declared.seat.Seat.{Seat}
use Rattle.dd_cards.specs.declared.suit.Suit.{Suit}
use Rattle.dd_cards.specs.declared.side.Side.{Side}
use Rattle.dd_cards.specs.PlayingCard.{PlayingCard}
use Rattle.dd_cards.specs.Cards.{is_of, card_of, has_card}
use Rattle.dd_cards.specs.Seats.{seat_code, seat_after}
use Rattle.dd_cards.specs.Sides.{side_of, is_side}
use Rattle.dd_cards.proofs.CallerLemmas.{and-left, and-right, is-same, same-self, seat_code-lt, none-at}
use Rattle.dd_play.specs.Board.{Board, cards_at, tricks_left}
use Rattle.dd_play.specs.Tricks.{is_trump}
use Rattle.dd_play.specs.Won.{won}
use Rattle.dd_play.specs.Covers.{IsCover}
use Rattle.dd_play.specs.Reach.{TakesBy}
use Rattle.dd_play.proofs.CallerLemmas.{after-code, count, count-has, inject, of-suit', once-in, suit-of}
use Rattle.dd_quick.specs.QuickTricks.{is_next, is_under_low, is_unbeaten, is_winner, joint_trumps, length_at, run, trumps_at}
use Rattle.dd_quick.proofs.Hands.{IsOpposed, and-fails, no-higher, none-over, one-hand}
use Rattle.dd_quick.proofs.Cashing.{IsMaster, hand_on, sure_of, total}
use Rattle.dd_quick.proofs.JointTrumps.{place-of}
use Rattle.dd_quick.proofs.Sound.{own-side, round, trumps-count}
use Rattle.dd_quick.proofs.Covered.{IsJoint, RestsOnTops, joint-covered, count-image, left-same, length-same, seat-same, trumps-same, unbeaten-image, winner-image}
use Rattle.dd_quick.proofs.Crossings.{NoTrumps}
use Rattle.dd_quick.proofs.PartnersPlan.{CanCross, crossed-all}
use Rattle.dd_rank.proofs.CallerLemmas.{no-trick}

-- What crossing rests on: the leader has n cards of each side suit to cash, on top cards; its partner has y cards beside one for
-- each lead, z of them winners next below the leader's whole run, top cards too, which are all or as many as leave no other hand
-- one; a suit to cross in. An opponent with trumps follows suit to all, and the two hands have as many cards beside their
-- trumps; k joint trumps are top cards, or no opponent has trumps.
pub record RestsAcross (top : PlayingCard → Bool) (p : Board) (n z y : Suit → ℕ) (e : Suit) (k : ℕ) : Type 0 where
  pub plain : (u : Suit) → 1 ≤ n u + y u → is_trump p.strain (card_of u 0) ≡ false
  pub follows : (i : ℕ) → IsOpposed i → (trumps_at p.strain p (seat_after p.first i) ≡ 0) ⊎ ((u : Suit) → n u + y u ≤ length_at p (seat_after p.first i) u)
  pub held : (u : Suit) → n u ≤ length_at p p.first u
  pub low : n e + 1 ≤ length_at p p.first e
  pub tops : (u : Suit) → 1 ≤ z u → run p p.first u ≤ n u
  pub winners : RestsOnTops top p n
  pub has : (u : Suit) → z u ≤ count (λ c. (is_of u c && is_next p c) && top c) (hand_on p 2)
  pub of_all : (u : Suit) → z u ≤ y u
  pub room : (u : Suit) → (y u ≡ 0) ⊎ (n u + y u ≤ length_at p (seat_after p.first 2) u)
  pub alone : (u : Suit) → (y u ≡ z u) ⊎ ((i : ℕ) → i < 4 → i ≢ 2 → length_at p (seat_after p.first i) u ≤ n u + z u)
  pub entry : 1 ≤ z e
  pub mine : total n + total y + trumps_at p.strain p p.first ≤ tricks_left p
  pub his : total n + total y + trumps_at p.strain p (seat_after p.first 2) ≤ tricks_left p
  pub joint : k ≤ joint_trumps p.strain p p.first
  pub trumps : IsJoint p.strain top p 0 k

-- a position that is covered has no trumps where the one that covers it has none
pub plain-covered : (top : PlayingCard → Bool) (k : ℕ) (to from : PlayingCard → PlayingCard) (s : Side) (p : Board) (t : Side) (q : Board) → IsCover top k to from s p t q → ((i : ℕ) → i < 4 → trumps_at p.strain p (seat_after p.first i) ≡ 0) → NoTrumps q
plain-covered top k to from s p t q r plain x c has = false_from_ne_true (is_trump q.strain c) (λ h.
    let at = place-of q.first x in
    let none = plain at.0 at.1 in
    let same = trumps-same top k to from s p t q r p.strain at.0 in
    let strain = ap (λ z. trumps_at z q (seat_after q.first at.0)) r.strain in
    let counted = trumps-count q.strain q (seat_after q.first at.0) in
    let one = count-has (is_trump q.strain) (cards_at q (seat_after q.first at.0)) c (subst (λ z. has_card (cards_at q z) c ≡ true) at.2 has) h in
    omega (arith, none, same, strain, counted, one))

-- a position that is covered
module _ (top : PlayingCard → Bool) (k : ℕ) (to from : PlayingCard → PlayingCard) (s : Side) (p : Board) (t : Side) (q : Board) (r : IsCover top k to from s p t q) (n z y : Suit → ℕ) (e : Suit) (j : ℕ)
    (start : p.trick ≡ []) (rests : RestsAcross top p n z y e j) where
  -- the images of the leader's winners that are top cards
  abbrev sure : PlayingCard → Bool
  sure d = is_winner p p.first (from d) && top (from d)

  -- and of the partner's cards next below
  abbrev next : PlayingCard → Bool
  next d = is_next p (from d) && top (from d)

  -- of two tests that both pass
  both-pass : {a b : Bool} → a ≡ true → b ≡ true → (a && b) ≡ true
  both-pass h g = rw (h, g) refl

  -- a card of a hand of q that is the image of a top card
  came-from : (i : ℕ) (d : PlayingCard) → has_card (hand_on q i) d ≡ true → top (from d) ≡ true → (has_card (hand_on p i) (from d) ≡ true) × (to (from d) ≡ d)
  came-from i d has tc = r.back (seat_after p.first i) d (ap (λ z. has_card (cards_at q z) d) (sym (seat-same top k to from s p t q r i)) ∙ has) tc

  -- the leader's sure cards are masters
  masters : (c : PlayingCard) → has_card (cards_at q q.first) c ≡ true → sure c ≡ true → IsMaster q c
  masters c has sure_c x d away hd suits =
      let wins = and-left (is_winner p p.first (from c)) (top (from c)) sure_c in
      let tc = and-right (is_winner p p.first (from c)) (top (from c)) sure_c in
      let b = came-from 0 c has tc in
      let image = winner-image top k to from s p t q r p.first (from c) b.0 wins tc in
      let winner : is_winner q q.first c ≡ true = ap₂ (λ z w. is_winner q z w) r.first (sym b.1) ∙ image in
      no-higher q r.valid_q q.first x c d away winner has hd suits

  -- a card of the leader's is lower than a partner's that is next below its run, or sure
  leaders : (c d : PlayingCard) → has_card (hand_on q 2) c ≡ true → next c ≡ true → has_card (cards_at q q.first) d ≡ true → d.suit ≡ c.suit → (d.rank < c.rank) ⊎ (sure d ≡ true)
  leaders c d has next_c hd suits = elim (cases_lt d.rank c.rank) [ inl l ↦ inl l | inr over ↦ go over (top (from d)) refl ]
    where
      tc : top (from c) ≡ true
      tc = and-right (is_next p (from c)) (top (from c)) next_c

      other : seat_code (seat_after q.first 2) ≢ seat_code q.first
      other = (let a = after-code q.first 2 in let b = seat_code-lt q.first in omega (arith, a, b))

      go : c.rank ≤ d.rank → (b : Bool) → top (from d) ≡ b → (d.rank < c.rank) ⊎ (sure d ≡ true)
      go over false low = inl (r.over_q.hands (seat_after q.first 2) q.first c d (λ z. other (ap seat_code z)) has hd tc low (sym suits))
      go over true td =
          let a = came-from 2 c has tc in
          let b = came-from 0 d hd td in
          let same : (from d).suit ≡ (from c).suit = r.from_suit d ∙ suits ∙ sym (r.from_suit c) in
          let apart : seat_code (seat_after p.first 2) ≢ seat_code p.first = (let x = after-code p.first 2 in let z = seat_code-lt p.first in omega (arith, x, z)) in
          elim (cases_lt (from c).rank (from d).rank) [
            | inl higher ↦ (
                let free : is_under_low p (from c) ≡ false = not-true (is_under_low p (from c)) (and-right (is_unbeaten p (seat_after p.first 2) (from c)) (not (is_under_low p (from c))) (and-left (is_next p (from c)) (top (from c)) next_c)) in
                let fails = none-at (λ d. (is_of (from c).suit d && nat_lt (from c).rank d.rank) && not (is_winner p p.first d)) (cards_at p p.first) (from d) free b.0 in
                let above : (is_of (from c).suit (from d) && nat_lt (from c).rank (from d).rank) ≡ true = both-pass (of-suit' (from c).suit (from d) same) (lt-ltb (from c).rank (from d).rank higher) in
                let wins = else-true (is_winner p p.first (from d)) (and-fails (is_of (from c).suit (from d) && nat_lt (from c).rank (from d).rank) (not (is_winner p p.first (from d))) above fails) in
                inr (both-pass wins td))
            | inr under ↦ absurd (
                let keep : nat_le (to (from d)).rank (to (from c)).rank ≡ nat_le (from d).rank (from c).rank = r.keeps.hands p.first (seat_after p.first 2) (from d) (from c) (λ z. apart (ap seat_code (sym z))) b.0 a.0 td tc same in
                let low : d.rank ≤ c.rank = leb-true d.rank c.rank (ap₂ (λ (x z : PlayingCard). nat_le x.rank z.rank) (sym b.1) (sym a.1) ∙ keep ∙ le-leb (from d).rank (from c).rank under) in
                let ranks : d.rank ≡ c.rank = omega (arith, low, over) in
                let one : d ≡ c = ap₂ card_of suits ranks in
                one-hand q r.valid_q (seat_after q.first 2) q.first c other has (subst (λ z. has_card (cards_at q q.first) z ≡ true) one hd))
          ]
        where
          else-true : (b : Bool) → not b ≡ false → b ≡ true
          else-true true h = refl
          else-true false h = absurd (cc)

  -- no card is higher than a partner's that is next below the leader's run, but sure ones
  behind : (c d : PlayingCard) (x : Seat) → has_card (hand_on q 2) c ≡ true → next c ≡ true → seat_code x ≢ seat_code (seat_after q.first 2) → has_card (cards_at q x) d ≡ true → d.suit ≡ c.suit
      → (d.rank < c.rank) ⊎ ((x ≡ q.first) × (sure d ≡ true))
  behind c d x has next_c apart hd suits = by (place-of q.first x)
    where
      tc : top (from c) ≡ true
      tc = and-right (is_next p (from c)) (top (from c)) next_c

      free : is_unbeaten q (seat_after q.first 2) c ≡ true
      free =
          let b = came-from 2 c has tc in
          let image = unbeaten-image top k to from s p t q r (seat_after p.first 2) (from c) b.0 (and-left (is_unbeaten p (seat_after p.first 2) (from c)) (not (is_under_low p (from c))) (and-left (is_next p (from c)) (top (from c)) next_c)) tc in
          ap₂ (λ z w. is_unbeaten q z w) (seat-same top k to from s p t q r 2) (sym b.1) ∙ image

      -- an opponent
      opposed : (i : ℕ) → IsOpposed i → x ≡ seat_after (seat_after q.first 2) i → d.rank < c.rank
      opposed i o at = none-over q r.valid_q (seat_after q.first 2) i c d o free has (subst (λ z. has_card (cards_at q z) d ≡ true) at hd) suits

      by : (i : ℕ) × (i < 4) × (x ≡ seat_after q.first i) → (d.rank < c.rank) ⊎ ((x ≡ q.first) × (sure d ≡ true))
      by (zero, l, at) = elim (leaders c d has next_c (subst (λ z. has_card (cards_at q z) d ≡ true) at hd) suits) [ inl low ↦ inl low | inr top_d ↦ inr (at, top_d) ]
      by (suc zero, l, at) = inl (opposed 3 (inr refl) (at ∙ ap (λ z. seat_after z 1) (sym (round q.first))))
      by (suc (suc zero), l, at) = absurd (apart (ap seat_code at))
      by (suc (suc (suc zero)), l, at) = inl (opposed 1 (inl refl) at)
      by (suc (suc (suc (suc j))), l, at) = absurd (omega (arith, l))

  -- the leader has no more sure cards than it has to cash, where the partner has winners below them
  tops : (u : Suit) → 1 ≤ z u → sure_of sure u (cards_at q q.first) ≤ n u
  tops u some =
      let most : sure_of sure u (cards_at q q.first) ≤ run p p.first u = inject from to (λ c. is_of u c && sure c) (λ c. is_of u c && is_winner p p.first c) (cards_at q q.first) (cards_at p p.first) (once-in q r.valid_q q.first) (λ d h pass.
      let sure_d = and-right (is_of u d) (sure d) pass in
      let b = came-from 0 d h (and-right (is_winner p p.first (from d)) (top (from d)) sure_d) in
      (b.0, both-pass (of-suit' u (from d) (r.from_suit d ∙ suit-of u d (and-left (is_of u d) (sure d) pass))) (and-left (is_winner p p.first (from d)) (top (from d)) sure_d), b.1)) in
      let all = rests.tops u some in
      omega (arith, most, all)

  -- and as many as rest on top cards
  sure-image : (u : Suit) → count (λ c. (is_of u c && is_winner p p.first c) && top c) (cards_at p p.first) ≤ sure_of sure u (cards_at q q.first)
  sure-image u = subst (λ z. count (λ c. (is_of u c && is_winner p p.first c) && top c) (cards_at p p.first) ≤ sure_of sure u (cards_at q z)) (sym r.first)
      (count-image top k to from s p t q r (λ c. is_of u c && is_winner p p.first c) (λ c. is_of u c && sure c) p.first (λ c h pass tc.
      let back = (r.forth p.first c h tc).1 in
      both-pass (of-suit' u (to c) (r.to_suit c ∙ suit-of u c (and-left (is_of u c) (is_winner p p.first c) pass)))
      (ap (λ z. is_winner p p.first z && top z) back ∙ both-pass (and-right (is_of u c) (is_winner p p.first c) pass) tc)))

  -- so has the partner
  next-image : (u : Suit) → count (λ c. (is_of u c && is_next p c) && top c) (hand_on p 2) ≤ sure_of next u (hand_on q 2)
  next-image u = subst (λ z. count (λ c. (is_of u c && is_next p c) && top c) (hand_on p 2) ≤ sure_of next u (cards_at q z)) (sym (seat-same top k to from s p t q r 2))
      (count-image top k to from s p t q r (λ c. is_of u c && is_next p c) (λ c. is_of u c && next c) (seat_after p.first 2) (λ c h pass tc.
      let back = (r.forth (seat_after p.first 2) c h tc).1 in
      both-pass (of-suit' u (to c) (r.to_suit c ∙ suit-of u c (and-left (is_of u c) (is_next p c) pass)))
      (ap (λ z. is_next p z && top z) back ∙ both-pass (and-right (is_of u c) (is_next p c) pass) tc)))

  -- so the leader's side can cross there
  pub crosses-there : q.trick ≡ [] → CanCross q sure next n z y e j
  crosses-there empty =
      let same = λ (i : ℕ) (u : Suit). length-same top k to from s p t q r i u in
      let lefts = left-same p q start empty (λ u. same 0 u) in
      let trumps : (i : ℕ) → trumps_at q.strain q (seat_after q.first i) ≡ trumps_at p.strain p (seat_after p.first i) = λ i. ap (λ z. trumps_at z q (seat_after q.first i)) r.strain ∙ trumps-same top k to from s p t q r p.strain i in
      record {
        plain = λ u some. ap (λ z. is_trump z (card_of u 0)) r.strain ∙ rests.plain u some;
        follows = λ i opposed. elim (rests.follows i opposed) [ inl none ↦ inl (trumps i ∙ none) | inr each ↦ inr (λ u. (let h = each u in let m = same i u in omega (arith, h, m))) ];
        masters = masters;
        behind = behind;
        held = λ u. (let h = rests.held u in let l = same 0 u in omega (arith, h, l));
        low = (let h = rests.low in let l = same 0 e in omega (arith, h, l));
        tops = tops;
        yields = λ u i l h. (let w = rests.winners u i l h in let g = sure-image u in let m = same i u in omega (arith, w, g, m));
        has = λ u. (let h = rests.has u in let g = next-image u in omega (arith, h, g));
        of_all = rests.of_all;
        alone = λ u. elim (rests.alone u) [ inl all ↦ inl all | inr h ↦ inr (λ i l other. (let w = h i l other in let m = same i u in omega (arith, w, m))) ];
        room = λ u. elim (rests.room u) [ inl none ↦ inl none | inr h ↦ inr (let m = same 2 u in omega (arith, h, m)) ];
        entry = rests.entry;
        mine = (let h = rests.mine in let m = trumps 0 in omega (arith, h, m, lefts));
        his = (let h = rests.his in let m = trumps 2 in omega (arith, h, m, lefts));
        joint = subst (λ z. j ≤ joint_trumps z q q.first) (sym r.strain) (joint-covered top k to from s p t q r p.strain 0 j rests.trumps rests.joint);
      }

-- crossing is a claim by the cards on which it rests
pub across-by : (top : PlayingCard → Bool) (p : Board) (n z y : Suit → ℕ) (e : Suit) (j : ℕ) → p.trick ≡ [] → RestsAcross top p n z y e j → TakesBy top (side_of p.first) p (total n + (total y + j))
across-by top p n z y e j start rests k to from t q r strict =
    let empty = no-trick to from top p.trick q.trick start r.trick in
    let can = crosses-there top k to from (side_of p.first) p t q r n z y e j start rests empty in
    let taken = crossed-all (side_of q.first) q _ _ n z y e j r.valid_q empty (own-side q.first) can in
    let side = is-same (side_of q.first) t (ap (is_side t) r.first ∙ r.sides p.first ∙ same-self (side_of p.first)) in
    subst (λ z. total n + (total y + j) ≤ won z q) side taken
