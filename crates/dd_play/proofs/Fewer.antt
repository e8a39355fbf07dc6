-- fewer top cards cover more positions, and play keeps the order within a hand
use Rattle.std.proofs.Common.{◌≡◌, ℕ, ◌*◌, ◌<◌, ◌≤◌, Bool, true, false, refl, sym, ap, ◌∙◌, arith, List, [], ◌∷◌, length}
use Rattle.std.specs.Prelude.{nat_le}
use mathlib.Core.Path.{ap₂}
use Rattle.std.proofs.lemmas.Bool.Decides.{nat_tests}
use Rattle.dd_cards.specs.declared.seat.Seat.{Seat}
use Rattle.dd_cards.specs.PlayingCard.{PlayingCard}
use Rattle.dd_cards.specs.Cards.{has_card, same_card}
use Rattle.dd_cards.specs.Seats.{seat_after}
use Rattle.dd_cards.proofs.CallerLemmas.{same_card-eq, seat_code-injective, seat_code-lt}
use Rattle.dd_cards.specs.declared.side.Side.{Side}
use Rattle.dd_play.specs.Board.{Board, IsBoard, cards_at}
use Rattle.dd_play.specs.Play.{after}
use Rattle.dd_play.specs.Covers.{ForMet, Keeps, IsOver, Answers, AllAnswer, IsCover}
use Rattle.dd_play.specs.Reach.{IsStrict}
use Rattle.dd_play.proofs.Boards.{after-code, has-first, in-rest}
use Rattle.dd_play.proofs.Plays.{turn-turn, was-in}
use Rattle.dd_play.proofs.Winners.{answer-length}

-- ---- pairs that can meet
pub met-map : (p : Board) (P Q : PlayingCard → PlayingCard → Type 0) → ((c d : PlayingCard) → P c d → Q c d) → ForMet p P → ForMet p Q
met-map p P Q f m = record {
  hands = λ x y c d n hc hd. f c d (m.hands x y c d n hc hd);
  trick = λ c d hc hd. f c d (m.trick c d hc hd);
  coming = λ k c d low high hc hd. (f c d (m.coming k c d low high hc hd).0, f d c (m.coming k c d low high hc hd).1);
}

pub met-both : (p : Board) (P Q : PlayingCard → PlayingCard → Type 0) → ForMet p P → ForMet p Q → ForMet p (λ c d. P c d × Q c d)
met-both p P Q m n = record {
  hands = λ x y c d e hc hd. (m.hands x y c d e hc hd, n.hands x y c d e hc hd);
  trick = λ c d hc hd. (m.trick c d hc hd, n.trick c d hc hd);
  coming = λ k c d low high hc hd. (
      let a = m.coming k c d low high hc hd in
      let b = n.coming k c d low high hc hd in
      ((a.0, b.0), (a.1, b.1)));
}

-- each seat is another one turned
pub unturn : (x : Seat) (k : ℕ) → seat_after (seat_after x (3 * k)) k ≡ x
unturn x k =
    let a = after-code x (3 * k) in
    let b = after-code (seat_after x (3 * k)) k in
    let c = seat_code-lt x in
    seat_code-injective (seat_after (seat_after x (3 * k)) k) x (omega (arith, a, b, c))

-- a top card on q's trick is the image of one on p's
pub trick-back : (to from : PlayingCard → PlayingCard) (top : PlayingCard → Bool) (cs ds : List PlayingCard) → AllAnswer to from top cs ds → (d : PlayingCard) → has_card ds d ≡ true → top (from d) ≡ true
    → (has_card cs (from d) ≡ true) × (to (from d) ≡ d)
trick-back to from top [] [] a d h t = absurd (cc)
trick-back to from top [] (y ∷ ds) a d h t = absurd a
trick-back to from top (x ∷ cs) [] a d h t = absurd a
trick-back to from top (x ∷ cs) (y ∷ ds) a d h t = go (same_card y d) refl (λ k. trick-back to from top cs ds a.1 d k t)
  where
    go : (b : Bool) → same_card y d ≡ b → (has_card ds d ≡ true → (has_card cs (from d) ≡ true) × (to (from d) ≡ d)) → (has_card (x ∷ cs) (from d) ≡ true) × (to (from d) ≡ d)
    go true e ih =
        let eq : y ≡ d = same_card-eq y d e in
        let tx : top x ≡ true = sym a.0.kind ∙ ap (λ z. top (from z)) eq ∙ t in
        let m = a.0.same tx in
        let f : from d ≡ x = ap from (sym eq) ∙ m.1 in
        (ap (has_card (x ∷ cs)) f ∙ has-first x cs, ap to f ∙ sym m.0 ∙ eq)
    go false e ih =
        let r = ih (rw e at h) in
        (in-rest x (from d) cs r.0, r.1)

abbrev pub Pulled : (PlayingCard → Bool) → (PlayingCard → PlayingCard) → (PlayingCard → PlayingCard) → (PlayingCard → PlayingCard → Type 0) → PlayingCard → PlayingCard → Type 0
Pulled top to from P c d = top (from c) ≡ true → top (from d) ≡ true → P (from c) (from d) × (to (from c) ≡ c) × (to (from d) ≡ d)

-- two top cards of q that can meet come from two of p that can
pub met-back : (top : PlayingCard → Bool) (k : ℕ) (to from : PlayingCard → PlayingCard) (s : Side) (p : Board) (t : Side) (q : Board) (P : PlayingCard → PlayingCard → Type 0) → IsCover top k to from s p t q
    → ForMet p P → ForMet q (Pulled top to from P)
met-back top k to from s p t q P r m = record {
  hands = λ x y c d n hc hd tc td. (
      let a = r.back (seat_after x (3 * k)) c (ap (λ z. has_card (cards_at q z) c) (unturn x k) ∙ hc) tc in
      let b = r.back (seat_after y (3 * k)) d (ap (λ z. has_card (cards_at q z) d) (unturn y k) ∙ hd) td in
      (m.hands (seat_after x (3 * k)) (seat_after y (3 * k)) (from c) (from d) (λ e. n (sym (unturn x k) ∙ ap (λ z. seat_after z k) e ∙ unturn y k)) a.0 b.0, a.1, b.1));
  trick = λ c d hc hd tc td. (
      let a = trick-back to from top p.trick q.trick r.trick c hc tc in
      let b = trick-back to from top p.trick q.trick r.trick d hd td in
      (m.trick (from c) (from d) a.0 b.0, a.1, b.1));
  coming = λ j c d low high hc hd. (
    (λ tc td. (let f = both j c d low high hc hd tc td in (f.0, f.2, f.3))),
    (λ td tc. (let f = both j c d low high hc hd tc td in (f.1, f.3, f.2))),
  );
}
  where
    both : (j : ℕ) (c d : PlayingCard) → length q.trick ≤ j → j < 4 → has_card q.trick c ≡ true → has_card (cards_at q (seat_after q.first j)) d ≡ true → top (from c) ≡ true → top (from d) ≡ true
        → P (from c) (from d) × P (from d) (from c) × (to (from c) ≡ c) × (to (from d) ≡ d)
    both j c d low high hc hd tc td =
        let seat : seat_after q.first j ≡ seat_after (seat_after p.first j) k = ap (λ z. seat_after z j) r.first ∙ turn-turn p.first k j in
        let a = trick-back to from top p.trick q.trick r.trick c hc tc in
        let b = r.back (seat_after p.first j) d (ap (λ z. has_card (cards_at q z) d) (sym seat) ∙ hd) td in
        let longs : length q.trick ≡ length p.trick = answer-length to from top p.trick q.trick r.trick in
        let g = m.coming j (from c) (from d) (omega (arith, low, longs)) high a.0 b.0 in
        (g.0, g.1, a.1, b.1)

-- ---- fewer top cards cover more
pub answers-fewer : (to from : PlayingCard → PlayingCard) (few many : PlayingCard → Bool) → ((c : PlayingCard) → few c ≡ true → many c ≡ true) → (c d : PlayingCard) → Answers to from many c d → Answers to from few c d
answers-fewer to from few many within c d a = record { suit = a.suit; kind = kind (many c) refl; same = λ h. a.same (within c h) }
  where
    none : (e : PlayingCard) → many e ≡ false → (b : Bool) → few e ≡ b → few e ≡ false
    none e h false f = f
    none e h true f = absurd (let k : true ≡ false = sym (within e f) ∙ h in cc)

    kind : (b : Bool) → many c ≡ b → few (from d) ≡ few c
    kind true h = ap few (a.same h).1
    kind false h = none (from d) (a.kind ∙ h) (few (from d)) refl ∙ sym (none c h (few c) refl)

all-fewer : (to from : PlayingCard → PlayingCard) (few many : PlayingCard → Bool) → ((c : PlayingCard) → few c ≡ true → many c ≡ true) → (cs ds : List PlayingCard) → AllAnswer to from many cs ds → AllAnswer to from few cs ds
all-fewer to from few many within [] [] a = tt
all-fewer to from few many within [] (y ∷ ds) a = absurd a
all-fewer to from few many within (x ∷ cs) [] a = absurd a
all-fewer to from few many within (x ∷ cs) (y ∷ ds) a = (answers-fewer to from few many within x y a.0, all-fewer to from few many within cs ds a.1)

pub cover-fewer : (few many : PlayingCard → Bool) (k : ℕ) (to from : PlayingCard → PlayingCard) (s : Side) (p : Board) (t : Side) (q : Board)
    → ((c : PlayingCard) → few c ≡ true → many c ≡ true) → ForMet p (IsOver few) → IsCover many k to from s p t q → IsCover few k to from s p t q
cover-fewer few many k to from s p t q within over r = record {
  valid_p = r.valid_p;
  valid_q = r.valid_q;
  sides = r.sides;
  strain = r.strain;
  first = r.first;
  to_suit = r.to_suit;
  from_suit = r.from_suit;
  forth = λ x c h f. r.forth x c h (within c f);
  back = λ x d h f. r.back x d h (within (from d) f);
  lengths = r.lengths;
  trick = all-fewer to from few many within p.trick q.trick r.trick;
  keeps = met-map p (Keeps to many) (Keeps to few) (λ c d m f g e. m (within c f) (within d g) e) r.keeps;
  over_p = over;
  over_q = met-map q (λ c d. IsOver (λ y. many (from y)) c d × Pulled many to from (λ a b. IsOver few a b × Keeps to many a b) c d) (IsOver (λ y. few (from y))) ordered
      (met-both q (IsOver (λ y. many (from y))) (Pulled many to from (λ a b. IsOver few a b × Keeps to many a b)) r.over_q
      (met-back many k to from s p t q (λ a b. IsOver few a b × Keeps to many a b) r (met-both p (IsOver few) (Keeps to many) over r.keeps)));
}
  where
    lower : (a b : ℕ) → nat_le a b ≡ false → b < a
    lower a b h = grind (arith, nat_tests)

    not-le : (a b : ℕ) → b < a → nat_le a b ≡ false
    not-le a b h = grind (arith, nat_tests)

    ordered : (c d : PlayingCard) → IsOver (λ y. many (from y)) c d × Pulled many to from (λ a b. IsOver few a b × Keeps to many a b) c d → IsOver (λ y. few (from y)) c d
    ordered c d m fc fd e = go (many (from d)) refl
      where
        go : (b : Bool) → many (from d) ≡ b → d.rank < c.rank
        go false h = m.0 (within (from c) fc) h e
        go true h =
            let g = m.1 (within (from c) fc) h in
            let suits : (from c).suit ≡ (from d).suit = r.from_suit c ∙ e ∙ sym (r.from_suit d) in
            let under : (from d).rank < (from c).rank = g.0.0 fc fd suits in
            let k : nat_le (to (from c)).rank (to (from d)).rank ≡ nat_le (from c).rank (from d).rank = g.0.1 (within (from c) fc) h suits in
            lower c.rank d.rank (sym (ap₂ (λ (x y : PlayingCard). nat_le x.rank y.rank) g.1 g.2) ∙ k ∙ not-le (from c).rank (from d).rank under)

pub strict-fewer : (few many : PlayingCard → Bool) (k : ℕ) (to from : PlayingCard → PlayingCard) (s : Side) (p : Board) (t : Side) (q : Board)
    → ((c : PlayingCard) → few c ≡ true → many c ≡ true) → ((c d : PlayingCard) → IsOver few c d) → IsCover many k to from s p t q → IsStrict many to from p q → IsStrict few to from p q
strict-fewer few many k to from s p t q within over r strict = record {
  keeps = λ x c d hc hd tc td e. strict.keeps x c d hc hd (within c tc) (within d td) e;
  over = λ x c d hc hd fc fd e. go x c d hc hd fc fd e (many (from d)) refl;
}
  where
    lower : (a b : ℕ) → nat_le a b ≡ false → b < a
    lower a b h = grind (arith, nat_tests)

    not-le : (a b : ℕ) → b < a → nat_le a b ≡ false
    not-le a b h = grind (arith, nat_tests)

    go : (x : Seat) (c d : PlayingCard) → has_card (cards_at q x) c ≡ true → has_card (cards_at q x) d ≡ true → few (from c) ≡ true → few (from d) ≡ false → c.suit ≡ d.suit → (b : Bool) → many (from d) ≡ b → d.rank < c.rank
    go x c d hc hd fc fd e false h = strict.over x c d hc hd (within (from c) fc) h e
    go x c d hc hd fc fd e true h =
        let x' : Seat = seat_after x (3 * k) in
        let a = r.back x' c (ap (λ z. has_card (cards_at q z) c) (unturn x k) ∙ hc) (within (from c) fc) in
        let b = r.back x' d (ap (λ z. has_card (cards_at q z) d) (unturn x k) ∙ hd) h in
        let suits : (from c).suit ≡ (from d).suit = r.from_suit c ∙ e ∙ sym (r.from_suit d) in
        let under : (from d).rank < (from c).rank = over (from c) (from d) fc fd suits in
        let keep : nat_le (to (from c)).rank (to (from d)).rank ≡ nat_le (from c).rank (from d).rank = strict.keeps x' (from c) (from d) a.0 b.0 (within (from c) fc) h suits in
        lower c.rank d.rank (sym (ap₂ (λ (x y : PlayingCard). nat_le x.rank y.rank) a.1 b.1) ∙ keep ∙ not-le (from c).rank (from d).rank under)

pub strict-after : (top : PlayingCard → Bool) (to from : PlayingCard → PlayingCard) (p q : Board) (c d : PlayingCard) → IsBoard p → IsBoard q → IsStrict top to from p q → IsStrict top to from (after p c) (after q d)
strict-after top to from p q c d valid_p valid_q strict = record {
  keeps = λ x a b ha hb. strict.keeps x a b (was-in p c valid_p x a ha) (was-in p c valid_p x b hb);
  over = λ x a b ha hb. strict.over x a b (was-in q d valid_q x a ha) (was-in q d valid_q x b hb);
}
