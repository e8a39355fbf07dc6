-- one step of play keeps the relation
use Rattle.std.proofs.Common.{◌≡◌, ◌≢◌, ℕ, ◌+◌, ◌*◌, ◌<◌, ◌≤◌, Bool, true, false, refl, sym, ap, ◌∙◌, subst, arith, List, [], ◌∷◌, ◌++◌, length, length-append, inl, inr}
use Rattle.std.specs.Prelude.{◌&&◌, ◌==◌}
use mathlib.Core.Bool.{not}
use mathlib.Core.Path.{ap₂}
use Rattle.std.proofs.lemmas.Bool.{le-leb, and_from, not-true, not_from_false, false_from_ne_true}
use Rattle.dd_cards.specs.declared.seat.Seat.{Seat}
use Rattle.dd_cards.specs.declared.suit.Suit.{Suit}
use Rattle.dd_cards.specs.PlayingCard.{PlayingCard}
use Rattle.dd_cards.specs.Cards.{is_of, same_card, has_card, without}
use Rattle.dd_cards.specs.Seats.{seat_code, seat_after}
use Rattle.dd_cards.specs.Hands.{times}
use Rattle.dd_cards.proofs.CallerLemmas.{and-left, and-right, same_card-eq, times-has}
use Rattle.dd_cards.specs.Sides.{is_side}
use Rattle.dd_cards.specs.declared.side.Side.{Side}
use Rattle.dd_play.specs.Board.{Board, IsBoard, cards_at, mover}
use Rattle.dd_play.specs.Tricks.{winner_of, winning_place}
use Rattle.dd_play.specs.Play.{completes, trick_with, after}
use Rattle.dd_play.proofs.Boards.{flag_of, legal-leads}
use Rattle.dd_play.specs.Won.{trick_for}
use Rattle.dd_play.specs.Simulations.{IsLegal}
use Rattle.dd_play.specs.Covers.{Keeps, IsOver, Answers, AllAnswer, count_of, IsCover, IsSettled}
use Rattle.dd_play.proofs.Counts.{count, count-cons, count-some, count-has, count-without, inject}
use Rattle.dd_play.proofs.Plays.{turn-turn, turn-apart, same-or, own-card, hand-own, hand-others, was-in, is-in, once-in, gone, trick-after, trick-closed, strain-after, met-trick, met-after, real-trick, Obeys, legal-in, legal-out, suit-of, of-suit'}
use Rattle.dd_play.proofs.Winners.{answer-length, answer-push, winner-same}

-- those that pass a test are those that pass a second one too and those that don't
count-split : (test other : PlayingCard → Bool) (cards : List PlayingCard) → count test cards ≡ count (λ c. test c && other c) cards + count (λ c. test c && not (other c)) cards
count-split test other [] = refl
count-split test other (c ∷ cards) =
    let ih = count-split test other cards in
    let a = count-cons test c cards in
    let b = count-cons (λ c. test c && other c) c cards in
    let d = count-cons (λ c. test c && not (other c)) c cards in
    let e : flag_of (test c) ≡ flag_of (test c && other c) + flag_of (test c && not (other c)) = flags (test c) (other c) in
    omega (arith, ih, a, b, d, e)
  where
    flags : (a b : Bool) → flag_of a ≡ flag_of (a && b) + flag_of (a && not b)
    flags true true = omega arith
    flags true false = omega arith
    flags false b = omega arith

-- ---- what follows suit

-- an answer to a card that follows suit follows suit
obeys-to : (to from : PlayingCard → PlayingCard) (top : PlayingCard → Bool) (cs ds mine his : List PlayingCard) (c d : PlayingCard) → AllAnswer to from top cs ds → Answers to from top c d
    → ((e : PlayingCard) → has_card his e ≡ true → (b : PlayingCard) × (has_card mine b ≡ true) × Answers to from top b e)
    → Obeys cs mine c → Obeys ds his d
obeys-to to from top [] [] mine his c d a m each o = tt
obeys-to to from top [] (y ∷ ds) mine his c d a m each o = absurd a
obeys-to to from top (x ∷ cs) [] mine his c d a m each o = absurd a
obeys-to to from top (x ∷ cs) (y ∷ ds) mine his c d a m each o = λ e has suit.
    let b = each e has in
    m.suit ∙ o b.0 b.1 (sym b.2.suit ∙ suit ∙ a.0.suit) ∙ sym a.0.suit

-- a card that is answered by one that follows suit follows suit
obeys-from : (to from : PlayingCard → PlayingCard) (top : PlayingCard → Bool) (cs ds mine his : List PlayingCard) (c d : PlayingCard) → AllAnswer to from top cs ds → Answers to from top c d
    → ((b : PlayingCard) → has_card mine b ≡ true → (e : PlayingCard) × (has_card his e ≡ true) × Answers to from top b e)
    → Obeys ds his d → Obeys cs mine c
obeys-from to from top [] [] mine his c d a m each o = tt
obeys-from to from top [] (y ∷ ds) mine his c d a m each o = absurd a
obeys-from to from top (x ∷ cs) [] mine his c d a m each o = absurd a
obeys-from to from top (x ∷ cs) (y ∷ ds) mine his c d a m each o = λ b has suit.
    let e = each b has in
    sym m.suit ∙ o e.0 e.1 (e.2.suit ∙ suit ∙ sym a.0.suit) ∙ a.0.suit

-- ---- where p covers q, a card of p has an answer in q, in the same hand

module _ (top : PlayingCard → Bool) (k : ℕ) (to from : PlayingCard → PlayingCard) (s : Side) (p : Board) (t : Side) (q : Board) (r : IsCover top k to from s p t q) where
  -- the mover of the one is the mover of the other, turned
  pub mover-turned : mover q ≡ seat_after (mover p) k
  mover-turned =
      ap₂ seat_after r.first (answer-length to from top p.trick q.trick r.trick) ∙ turn-turn p.first k (length p.trick)

  -- each card of a hand of p has an answer in that hand, turned, of q
  pub reply : (x : Seat) (c : PlayingCard) → has_card (cards_at p x) c ≡ true → (d : PlayingCard) × (has_card (cards_at q (seat_after x k)) d ≡ true) × Answers to from top c d
  reply x c has = go (top c) refl
    where
      go : (b : Bool) → top c ≡ b → (d : PlayingCard) × (has_card (cards_at q (seat_after x k)) d ≡ true) × Answers to from top c d
      go true e =
          let f = r.forth x c has e in
          (to c, f.0, record { suit = r.to_suit c; kind = ap top f.1; same = λ h. (refl, f.1) })
      go false e =
          let mine : List PlayingCard = cards_at p x in
          let his : List PlayingCard = cards_at q (seat_after x k) in
          let low_here : 1 ≤ count (λ y. is_of c.suit y && not (top y)) mine = count-has (λ y. is_of c.suit y && not (top y)) mine c has (and_from _ _ (of-suit' c.suit c refl) (not_from_false (top c) e)) in
          let a : count (is_of c.suit) mine ≡ count (λ y. is_of c.suit y && top y) mine + count (λ y. is_of c.suit y && not (top y)) mine = count-split (is_of c.suit) top mine in
          let b : count (is_of c.suit) his ≡ count (λ y. is_of c.suit y && top (from y)) his + count (λ y. is_of c.suit y && not (top (from y))) his = count-split (is_of c.suit) (λ y. top (from y)) his in
          let same : count (is_of c.suit) his ≡ count (is_of c.suit) mine = r.lengths x c.suit in
          let tops : count (λ y. is_of c.suit y && top (from y)) his ≤ count (λ y. is_of c.suit y && top y) mine =
          inject from to (λ y. is_of c.suit y && top (from y)) (λ y. is_of c.suit y && top y) his mine (once-in q r.valid_q (seat_after x k)) (λ y hy ty.
          let g = r.back x y hy (and-right (is_of c.suit y) (top (from y)) ty) in
          (g.0, and_from _ _ (of-suit' c.suit (from y) (r.from_suit y ∙ suit-of c.suit y (and-left (is_of c.suit y) (top (from y)) ty))) (and-right (is_of c.suit y) (top (from y)) ty), g.1)) in
          let low_there : 1 ≤ count (λ y. is_of c.suit y && not (top (from y))) his = omega (arith, low_here, a, b, same, tops) in
          let d = count-some (λ y. is_of c.suit y && not (top (from y))) his low_there in (
            d.0,
            d.1,
            record {
              suit = suit-of c.suit d.0 (and-left (is_of c.suit d.0) (not (top (from d.0))) d.2);
              kind = not-true (top (from d.0)) (and-right (is_of c.suit d.0) (not (top (from d.0))) d.2) ∙ sym e;
              same = λ h. absurd (let no : false ≡ true = sym e ∙ h in cc);
            },
          )

  -- each card of a hand of q answers one of that hand of p
  pub reply' : (x : Seat) (d : PlayingCard) → has_card (cards_at q (seat_after x k)) d ≡ true → (c : PlayingCard) × (has_card (cards_at p x) c ≡ true) × Answers to from top c d
  reply' x d has = go (top (from d)) refl
    where
      go : (b : Bool) → top (from d) ≡ b → (c : PlayingCard) × (has_card (cards_at p x) c ≡ true) × Answers to from top c d
      go true e =
          let f = r.back x d has e in
          (from d, f.0, record { suit = sym (r.from_suit d); kind = refl; same = λ h. (sym f.1, refl) })
      go false e =
          let mine : List PlayingCard = cards_at p x in
          let his : List PlayingCard = cards_at q (seat_after x k) in
          let low_there : 1 ≤ count (λ y. is_of d.suit y && not (top (from y))) his = count-has (λ y. is_of d.suit y && not (top (from y))) his d has (and_from _ _ (of-suit' d.suit d refl) (not_from_false (top (from d)) e)) in
          let a : count (is_of d.suit) mine ≡ count (λ y. is_of d.suit y && top y) mine + count (λ y. is_of d.suit y && not (top y)) mine = count-split (is_of d.suit) top mine in
          let b : count (is_of d.suit) his ≡ count (λ y. is_of d.suit y && top (from y)) his + count (λ y. is_of d.suit y && not (top (from y))) his = count-split (is_of d.suit) (λ y. top (from y)) his in
          let same : count (is_of d.suit) his ≡ count (is_of d.suit) mine = r.lengths x d.suit in
          let tops : count (λ y. is_of d.suit y && top y) mine ≤ count (λ y. is_of d.suit y && top (from y)) his =
          inject to from (λ y. is_of d.suit y && top y) (λ y. is_of d.suit y && top (from y)) mine his (once-in p r.valid_p x) (λ y hy ty.
          let g = r.forth x y hy (and-right (is_of d.suit y) (top y) ty) in
          (g.0, and_from _ _ (of-suit' d.suit (to y) (r.to_suit y ∙ suit-of d.suit y (and-left (is_of d.suit y) (top y) ty))) (ap top g.1 ∙ and-right (is_of d.suit y) (top y) ty), g.1)) in
          let low_here : 1 ≤ count (λ y. is_of d.suit y && not (top y)) mine = omega (arith, low_there, a, b, same, tops) in
          let c = count-some (λ y. is_of d.suit y && not (top y)) mine low_here in (
            c.0,
            c.1,
            record {
              suit = sym (suit-of d.suit c.0 (and-left (is_of d.suit c.0) (not (top c.0)) c.2));
              kind = e ∙ sym (not-true (top c.0) (and-right (is_of d.suit c.0) (not (top c.0)) c.2));
              same = λ h. absurd (let no : false ≡ true = sym (not-true (top c.0) (and-right (is_of d.suit c.0) (not (top c.0)) c.2)) ∙ h in cc);
            },
          )

  -- an answer to a legal card is legal
  pub legal-to : (c d : PlayingCard) → IsLegal p c → has_card (cards_at q (mover q)) d ≡ true → Answers to from top c d → IsLegal q d
  legal-to c d has there m =
      legal-in q.trick (cards_at q (mover q)) d there (obeys-to to from top p.trick q.trick (cards_at p (mover p)) (cards_at q (mover q)) c d r.trick m
      (λ e h. reply' (mover p) e (ap (λ y. has_card (cards_at q y) e) (sym (mover-turned)) ∙ h))
      (legal-out p.trick (cards_at p (mover p)) c has))

  -- each legal card of p has a legal answer in q
  pub answer : (c : PlayingCard) → IsLegal p c → (d : PlayingCard) × IsLegal q d × Answers to from top c d
  answer c has =
      let d = reply (mover p) c (own-card p c has) in
      (d.0, legal-to c d.0 has (ap (λ y. has_card (cards_at q y) d.0) (mover-turned) ∙ d.1) d.2, d.2)

  -- each legal card of q answers a legal one of p
  pub answer' : (d : PlayingCard) → IsLegal q d → (c : PlayingCard) × IsLegal p c × Answers to from top c d
  answer' d has =
      let turn : (e : PlayingCard) → has_card (cards_at q (mover q)) e ≡ true → has_card (cards_at q (seat_after (mover p) k)) e ≡ true = λ e h. ap (λ y. has_card (cards_at q y) e) (sym (mover-turned)) ∙ h in
      let c = reply' (mover p) d (turn d (own-card q d has)) in (
        c.0,
        legal-in p.trick (cards_at p (mover p)) c.0 c.1 (obeys-from to from top p.trick q.trick (cards_at p (mover p)) (cards_at q (mover q)) c.0 d r.trick c.2
            (λ b h. let e = reply (mover p) b h in (e.0, ap (λ y. has_card (cards_at q y) e.0) (mover-turned) ∙ e.1, e.2))
            (legal-out q.trick (cards_at q (mover q)) d has)),
        c.2,
      )

-- a card keeps its order with itself
keeps-own : (to : PlayingCard → PlayingCard) (top : PlayingCard → Bool) (c : PlayingCard) → Keeps to top c c
keeps-own to top c t u e = le-leb (to c).rank (to c).rank (omega arith) ∙ sym (le-leb c.rank c.rank (omega arith))

-- a card is not and-both high and low
over-own : (top : PlayingCard → Bool) (c : PlayingCard) → IsOver top c c
over-own top c t u e = absurd (let k : true ≡ false = sym t ∙ u in cc)

-- ---- the step

-- after a card and its answer the relation holds as before, and the two are worth the same
pub record Step (top : PlayingCard → Bool) (k : ℕ) (to from : PlayingCard → PlayingCard) (s : Side) (p : Board) (t : Side) (q : Board) (c d : PlayingCard) : Type 0 where
  pub cover : IsCover top k to from s (after p c) t (after q d)
  pub worth : trick_for t q d ≡ trick_for s p c

-- a legal card and its legal answer keep the relation, where the winner of a trick that they complete is settled
pub stepped : (top : PlayingCard → Bool) (k : ℕ) (to from : PlayingCard → PlayingCard) (s : Side) (p : Board) (t : Side) (q : Board) → IsCover top k to from s p t q
    → (c d : PlayingCard) → IsLegal p c → IsLegal q d → Answers to from top c d → IsSettled top p c → Step top k to from s p t q c d
stepped top k to from s p t q r c d has has' m settled =
    record {
      cover = record {
        valid_p = (legal-leads p c r.valid_p has).valid;
        valid_q = (legal-leads q d r.valid_q has').valid;
        sides = r.sides;
        strain = strain-after q d ∙ r.strain ∙ sym (strain-after p c);
        first = first;
        to_suit = r.to_suit;
        from_suit = r.from_suit;
        forth = forth;
        back = back;
        lengths = lengths;
        trick = trick;
        keeps = met-after p c (Keeps to top) (keeps-own to top) r.valid_p has r.keeps;
        over_p = met-after p c (IsOver top) (over-own top) r.valid_p has r.over_p;
        over_q = met-after q d (IsOver (λ d. top (from d))) (over-own (λ d. top (from d))) r.valid_q has' r.over_q;
      };
      worth = worth;
    }
  where
    longs : length q.trick ≡ length p.trick
    longs = answer-length to from top p.trick q.trick r.trick

    completed : completes q ≡ completes p
    completed = ap (λ n. n == 3) longs

    turned : mover q ≡ seat_after (mover p) k
    turned = mover-turned top k to from s p t q r

    tricks : AllAnswer to from top (trick_with p c) (trick_with q d)
    tricks = answer-push to from top p.trick q.trick c d r.trick m

    short_p : length p.trick < 4
    short_p = (let h = r.valid_p.short in omega (arith, h))

    short_q : length q.trick < 4
    short_q = (let h = r.valid_q.short in omega (arith, h))

    some : 0 < length (trick_with p c)
    some = (let h : length (p.trick ++ c ∷ []) ≡ length p.trick + 1 = length-append p.trick (c ∷ []) in omega (arith, h))

    place : completes p ≡ true → winning_place q.strain (trick_with q d) ≡ winning_place p.strain (trick_with p c)
    place e = ap (λ n. winning_place n (trick_with q d)) r.strain ∙ winner-same to from top p.strain (trick_with p c) (trick_with q d) c tricks some
        (λ x hx. real-trick p c r.valid_p has x hx)
        (λ x hx. real-trick q d r.valid_q has' x hx)
        (λ x y hx hy. met-trick p c (Keeps to top) (keeps-own to top) r.valid_p has r.keeps x y hx hy short_p)
        (λ x y hx hy. met-trick p c (IsOver top) (over-own top) r.valid_p has r.over_p x y hx hy short_p)
        (λ x y hx hy. met-trick q d (IsOver (λ d. top (from d))) (over-own (λ d. top (from d))) r.valid_q has' r.over_q x y hx hy short_q)
        (settled e)

    winner : completes p ≡ true → winner_of (trick_with q d) q.first q.strain ≡ seat_after (winner_of (trick_with p c) p.first p.strain) k
    winner e = ap₂ seat_after r.first (place e) ∙ turn-turn p.first k (winning_place p.strain (trick_with p c))

    first : (after q d).first ≡ seat_after (after p c).first k
    first = go (completes p) refl
      where
        go : (b : Bool) → completes p ≡ b → (after q d).first ≡ seat_after (after p c).first k
        go true e = (trick-closed q d (completed ∙ e)).1 ∙ winner e ∙ ap (λ x. seat_after x k) (sym (trick-closed p c e).1)
        go false e = (trick-after q d (completed ∙ e)).1 ∙ r.first ∙ ap (λ x. seat_after x k) (sym (trick-after p c e).1)

    trick : AllAnswer to from top (after p c).trick (after q d).trick
    trick = go (completes p) refl
      where
        go : (b : Bool) → completes p ≡ b → AllAnswer to from top (after p c).trick (after q d).trick
        go true e = subst (λ cs. AllAnswer to from top cs (after q d).trick) (sym (trick-closed p c e).0) (subst (λ ds. AllAnswer to from top [] ds) (sym (trick-closed q d (completed ∙ e)).0) tt)
        go false e = subst (λ cs. AllAnswer to from top cs (after q d).trick) (sym (trick-after p c e).0) (subst (λ ds. AllAnswer to from top (trick_with p c) ds) (sym (trick-after q d (completed ∙ e)).0) tricks)

    forth : (x : Seat) (e : PlayingCard) → has_card (cards_at (after p c) x) e ≡ true → top e ≡ true → (has_card (cards_at (after q d) (seat_after x k)) (to e) ≡ true) × (from (to e) ≡ e)
    forth x e he te =
        let f = r.forth x e (was-in p c r.valid_p x e he) te in
        let apart : same_card (to e) d ≡ false = false_from_ne_true _ (λ same.
        let eq : to e ≡ d = same_card-eq (to e) d same in
        let tc : top c ≡ true = sym m.kind ∙ ap (λ y. top (from y)) (sym eq) ∙ ap top f.1 ∙ te in
        let is_c : e ≡ c = sym f.1 ∙ ap from eq ∙ (m.same tc).1 in
        gone p c r.valid_p has x (ap (has_card (cards_at (after p c) x)) (sym is_c) ∙ he)) in
        (is-in q d r.valid_q (seat_after x k) (to e) f.0 apart, f.1)

    back : (x : Seat) (e : PlayingCard) → has_card (cards_at (after q d) (seat_after x k)) e ≡ true → top (from e) ≡ true → (has_card (cards_at (after p c) x) (from e) ≡ true) × (to (from e) ≡ e)
    back x e he te =
        let f = r.back x e (was-in q d r.valid_q (seat_after x k) e he) te in
        let apart : same_card (from e) c ≡ false = false_from_ne_true _ (λ same.
        let eq : from e ≡ c = same_card-eq (from e) c same in
        let tc : top c ≡ true = ap top (sym eq) ∙ te in
        let is_d : e ≡ d = sym f.1 ∙ ap to eq ∙ sym (m.same tc).0 in
        gone q d r.valid_q has' (seat_after x k) (ap (has_card (cards_at (after q d) (seat_after x k))) (sym is_d) ∙ he)) in
        (is-in p c r.valid_p x (from e) f.0 apart, f.1)

    one : (z : Board) (e : PlayingCard) → IsBoard z → IsLegal z e → (u : Suit) → count_of u (cards_at (after z e) (mover z)) + flag_of (is_of u e) ≡ count_of u (cards_at z (mover z))
    one z e valid lawful u =
        let a : count (is_of u) (without (cards_at z (mover z)) e) + times (cards_at z (mover z)) e * flag_of (is_of u e) ≡ count (is_of u) (cards_at z (mover z)) = count-without (is_of u) (cards_at z (mover z)) e in
        let b : times (cards_at z (mover z)) e ≤ 1 = once-in z valid (mover z) e in
        let f : 1 ≤ times (cards_at z (mover z)) e = times-has (cards_at z (mover z)) e (own-card z e lawful) in
        let n : times (cards_at z (mover z)) e ≡ 1 = omega (arith, b, f) in
        let a1 : count (is_of u) (without (cards_at z (mover z)) e) + 1 * flag_of (is_of u e) ≡ count (is_of u) (cards_at z (mover z)) = subst (λ (m : ℕ). count (is_of u) (without (cards_at z (mover z)) e) + m * flag_of (is_of u e) ≡ count (is_of u) (cards_at z (mover z))) n a in
        let g : count_of u (cards_at (after z e) (mover z)) ≡ count (is_of u) (without (cards_at z (mover z)) e) = ap (count_of u) (hand-own z e valid) in
        omega (arith, a1, g)

    lengths : (x : Seat) (u : Suit) → count_of u (cards_at (after q d) (seat_after x k)) ≡ count_of u (cards_at (after p c) x)
    lengths x u = elim (same-or x (mover p)) [
      | inl e ↦ (
          let a = one p c r.valid_p has u in
          let b = one q d r.valid_q has' u in
          let h : count_of u (cards_at q (mover q)) ≡ count_of u (cards_at p (mover p)) = ap (λ y. count_of u (cards_at q y)) turned ∙ r.lengths (mover p) u in
          let f : flag_of (is_of u d) ≡ flag_of (is_of u c) = ap (λ y. flag_of (is_of u (let card : PlayingCard = record { suit = y; rank = 0 } in card))) m.suit in
          let x1 : count_of u (cards_at (after q d) (seat_after x k)) ≡ count_of u (cards_at (after q d) (mover q)) = ap (λ y. count_of u (cards_at (after q d) y)) (ap (λ y. seat_after y k) e ∙ sym turned) in
          let x2 : count_of u (cards_at (after p c) x) ≡ count_of u (cards_at (after p c) (mover p)) = ap (λ y. count_of u (cards_at (after p c) y)) e in
          omega (arith, a, b, h, f, x1, x2))
      | inr e ↦ (
          let apart : seat_code (seat_after x k) ≢ seat_code (mover q) = subst (λ y. seat_code (seat_after x k) ≢ seat_code y) (sym turned) (turn-apart x (mover p) k e) in
          ap (count_of u) (hand-others q d (seat_after x k) apart) ∙ r.lengths x u ∙ sym (ap (count_of u) (hand-others p c x e)))
    ]

    worth : trick_for t q d ≡ trick_for s p c
    worth = go (completes p) refl
      where
        go : (b : Bool) → completes p ≡ b → trick_for t q d ≡ trick_for s p c
        go true e =
            let w : is_side t (winner_of (trick_with q d) q.first q.strain) ≡ is_side s (winner_of (trick_with p c) p.first p.strain) = ap (is_side t) (winner e) ∙ r.sides (winner_of (trick_with p c) p.first p.strain) in
            ap₂ (λ a b. flag_of (a && b)) completed w
        go false e = ap (λ a. flag_of (a && is_side t (winner_of (trick_with q d) q.first q.strain))) (completed ∙ e) ∙ sym (ap (λ a. flag_of (a && is_side s (winner_of (trick_with p c) p.first p.strain))) e)
