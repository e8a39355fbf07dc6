-- alike positions have one value, also with the seats turned
use Rattle.std.proofs.Common.{◌≡◌, ◌≢◌, ℕ, zero, suc, ◌≤◌, true, false, refl, sym, ap, ◌∙◌, subst, arith, List, []}
use Rattle.dd_cards.specs.declared.seat.Seat.{Seat}
use Rattle.dd_cards.specs.declared.suit.Suit.{Suit}
use Rattle.dd_cards.specs.PlayingCard.{PlayingCard}
use Rattle.dd_cards.specs.Cards.{is_of, has_card}
use Rattle.dd_cards.specs.Seats.{seat_after}
use Rattle.dd_cards.specs.Sides.{side_of, is_side}
use Rattle.dd_play.specs.Board.{Board, IsBoard, cards_at}
use Rattle.dd_play.specs.Value.{leaders_tricks}
use Rattle.dd_play.specs.Covers.{ForMet, Keeps, IsOver, AllAnswer, count_of, IsCover, any_card}
use Rattle.dd_play.proofs.CallerLemmas.{inject, leaders_tricks-won, of-suit', once-in, suit-of, twins-won}
use Rattle.dd_rank.specs.Alike.{IsAlikeBy, AreAlike, IsAlike}
use Rattle.dd_cards.proofs.CallerLemmas.{next-side, same-others}

-- two seats of one side, one of them turned with the side, stay of one side
pub turned-sides : (k : ℕ) (x y : Seat) → is_side (side_of (seat_after y k)) (seat_after x k) ≡ is_side (side_of y) x
turned-sides zero x y = refl
turned-sides (suc k) x y = rw (next-side (seat_after x k), next-side (seat_after y k)) (same-others _ _ ∙ turned-sides k x y)

-- an empty trick has no card
no-card : (trick : List PlayingCard) (c : PlayingCard) → trick ≡ [] → has_card trick c ≡ true → ⊥
no-card trick c e h = (let k : false ≡ true = ap (λ cards. has_card cards c) (sym e) ∙ h in cc)

-- at an empty trick only the hands count
pub met-start : (p : Board) (P : PlayingCard → PlayingCard → Type 0) → p.trick ≡ [] → ((x y : Seat) (c d : PlayingCard) → x ≢ y → has_card (cards_at p x) c ≡ true → has_card (cards_at p y) d ≡ true → P c d) → ForMet p P
met-start p P e each = record {
  hands = each;
  trick = λ c d h k. absurd (no-card p.trick c e h);
  coming = λ k c d low high h g. absurd (no-card p.trick c e h);
}

-- alike positions are related with all cards as top cards
pub alike-cover : (k : ℕ) (to from : PlayingCard → PlayingCard) (p q : Board) → IsBoard p → IsBoard q → IsAlikeBy k to from p q → IsCover any_card k to from (side_of p.first) p (side_of q.first) q
alike-cover k to from p q valid_p valid_q a =
    record {
      valid_p = valid_p;
      valid_q = valid_q;
      sides = λ x. ap (λ y. is_side (side_of y) (seat_after x k)) a.first ∙ turned-sides k x p.first;
      strain = a.strain;
      first = a.first;
      to_suit = a.to_suit;
      from_suit = a.from_suit;
      forth = λ x c h t. a.forth x c h;
      back = λ x d h t. a.back x d h;
      lengths = lengths;
      trick = subst (λ cs. AllAnswer to from any_card cs q.trick) (sym a.start_p) (subst (λ ds. AllAnswer to from any_card [] ds) (sym a.start_q) tt);
      keeps = met-start p (Keeps to any_card) a.start_p (λ x y c d n h g t u e. a.order x y c d h g e);
      over_p = met-start p (IsOver any_card) a.start_p (λ x y c d n h g t u e. absurd (cc));
      over_q = met-start q (IsOver any_card) a.start_q (λ x y c d n h g t u e. absurd (cc));
    }
  where
    lengths : (x : Seat) (u : Suit) → count_of u (cards_at q (seat_after x k)) ≡ count_of u (cards_at p x)
    lengths x u =
        let forth : count_of u (cards_at p x) ≤ count_of u (cards_at q (seat_after x k)) =
        inject to from (is_of u) (is_of u) (cards_at p x) (cards_at q (seat_after x k)) (once-in p valid_p x) (λ c h i.
        let f = a.forth x c h in (f.0, of-suit' u (to c) (a.to_suit c ∙ suit-of u c i), f.1)) in
        let back : count_of u (cards_at q (seat_after x k)) ≤ count_of u (cards_at p x) =
        inject from to (is_of u) (is_of u) (cards_at q (seat_after x k)) (cards_at p x) (once-in q valid_q (seat_after x k)) (λ d h i.
        let f = a.back x d h in (f.0, of-suit' u (from d) (a.from_suit d ∙ suit-of u d i), f.1)) in
        omega (arith, forth, back)

-- Alike positions have one value.
pub alike-lead : (p q : Board) → IsBoard p → IsBoard q → AreAlike p q → leaders_tricks q ≡ leaders_tricks p
alike-lead p q valid_p valid_q a =
    leaders_tricks-won q
    ∙ twins-won (side_of p.first) p (side_of q.first) q (a.0, a.1, a.2, alike-cover a.0 a.1 a.2 p q valid_p valid_q a.3)
    ∙ sym (leaders_tricks-won p)

-- And so have those that are alike without a turn.
pub is-alike-lead : (p q : Board) → IsBoard p → IsBoard q → IsAlike p q → leaders_tricks q ≡ leaders_tricks p
is-alike-lead p q valid_p valid_q a = alike-lead p q valid_p valid_q (0, a.0, a.1, a.2)
