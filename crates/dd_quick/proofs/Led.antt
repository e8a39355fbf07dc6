-- After a lead the position before it, with an opponent to lead, is the one that was led from, turned over to that opponent.
use Rattle.std.proofs.Common.{◌≡◌, ℕ, Option, None, Some, Bool, true, false, refl, sym, ap, ◌∙◌, subst, List, [], ◌∷◌, ◌++◌, length, inl, inr}
use Rattle.std.specs.Prelude.{IfSome, ◌&&◌, ◌||◌, ◌==◌}
use mathlib.Core.Bool.{not}
use mathlib.Core.Path.{ap₂}
use Rattle.dd_cards.specs.declared.seat.Seat.{Seat}
use Rattle.dd_cards.specs.declared.seat.Seat.TheVariants.{North, East, South, West}
use Rattle.dd_cards.specs.declared.suit.Suit.{Suit}
use Rattle.dd_cards.specs.PlayingCard.{PlayingCard}
use Rattle.dd_cards.specs.Cards.{has_card, same_card, with_card, without}
use Rattle.dd_cards.specs.Hands.{FourHands, IsSet, hand_of, with_hand}
use Rattle.dd_cards.specs.Seats.{seat_after}
use Rattle.dd_cards.specs.Sides.{side_of, other_side}
use Rattle.dd_cards.proofs.CallerLemmas.{IsSet-with_card, has_card-with_card, has_card-without, same-members, same_card-eq}
use Rattle.dd_play.specs.Board.{Board, IsBoard, board_of, cards_at, mover}
use Rattle.dd_play.specs.Play.{after, completes, hands_after, legal, trick_with}
use Rattle.dd_play.specs.Reach.{TakesBy, reach}
use Rattle.dd_play.specs.Simulations.{IsLegal}
use Rattle.dd_play.proofs.CallerLemmas.{own-card}
use Rattle.dd_quick.specs.SecondHand.{IsBeforeLead, Opposes, TakesAfterLead}

-- a card that is put back where it was
card-back : (cards : List PlayingCard) (c : PlayingCard) → IsSet cards → has_card cards c ≡ true → with_card (without cards c) c ≡ cards
card-back cards c set has = same-members (with_card (without cards c) c) cards (IsSet-with_card (without cards c) c) set (λ d real.
    has_card-with_card (without cards c) c d real ∙ ap (λ b. same_card d c || b) (has_card-without cards c d) ∙ go d (same_card d c) refl)
  where
    go : (d : PlayingCard) (b : Bool) → same_card d c ≡ b → (b || (not b && has_card cards d)) ≡ has_card cards d
    go d true e = sym (ap (has_card cards) (same_card-eq d c e) ∙ has)
    go d false e = refl

-- a hand that is written twice, the second time as it was
hand-back : (hands : FourHands) (x : Seat) (cards : List PlayingCard) (back : List PlayingCard → List PlayingCard) → back cards ≡ hand_of hands x
    → with_hand (with_hand hands x cards) x (back (hand_of (with_hand hands x cards) x)) ≡ hands
hand-back hands North cards back same = ap (λ n. record hands { north = n }) same
hand-back hands East cards back same = ap (λ n. record hands { east = n }) same
hand-back hands South cards back same = ap (λ n. record hands { south = n }) same
hand-back hands West cards back same = ap (λ n. record hands { west = n }) same

-- at an empty trick the leader is to play, and its card completes none
leads : (p : Board) → p.trick ≡ [] → mover p ≡ p.first
leads p start = ap (λ t. seat_after p.first (length t)) start ∙ none p.first
  where
    none : (x : Seat) → seat_after x 0 ≡ x
    none North = refl
    none East = refl
    none South = refl
    none West = refl

pub led-before : (p : Board) (c : PlayingCard) (seat : Seat) (before : Board) → IsBoard p → p.trick ≡ [] → Opposes p seat → before ≡ board_of p.hands p.strain seat [] → IsLegal p c → IsBeforeLead (after p c) c before
led-before p c seat before valid start opposes is has = subst (λ (q : Board). IsBeforeLead q c before) (sym next) (record {
  led = refl;
  seat = elim opposes [ inl e ↦ inl (first ∙ e) | inr e ↦ inr (first ∙ e) ];
  was = is ∙ ap₂ (λ hands x. board_of hands p.strain x []) (sym (hand-back p.hands p.first (without (cards_at p p.first) c) (λ cards. with_card cards c) back)) (sym first);
})
  where
    first : before.first ≡ seat
    first = ap (λ (b : Board). b.first) is

    mine : has_card (cards_at p p.first) c ≡ true
    mine = subst (λ x. has_card (cards_at p x) c ≡ true) (leads p start) (own-card p c has)

    back : with_card (without (cards_at p p.first) c) c ≡ cards_at p p.first
    back = card-back (cards_at p p.first) c (valid.sets p.first) mine

    open_trick : completes p ≡ false
    open_trick = ap (λ t. length t == 3) start

    next : after p c ≡ board_of (with_hand p.hands p.first (without (cards_at p p.first) c)) p.strain p.first (c ∷ [])
    next = placed ∙ ap₂ (λ x t. board_of (with_hand p.hands x (without (cards_at p x) c)) p.strain p.first t) (leads p start) (ap (λ t. t ++ c ∷ []) start)
      where
        placed : after p c ≡ board_of (hands_after p c) p.strain p.first (trick_with p c)
        placed = rw open_trick refl

-- an opponent's side is the other one
pub opponents-other : (p : Board) (seat : Seat) → Opposes p seat → side_of seat ≡ other_side (side_of p.first)
opponents-other p seat opposes = elim opposes [ inl e ↦ ap side_of e ∙ left p.first | inr e ↦ ap side_of e ∙ right p.first ]
  where
    left : (x : Seat) → side_of (seat_after x 1) ≡ other_side (side_of x)
    left North = refl
    left East = refl
    left South = refl
    left West = refl

    right : (x : Seat) → side_of (seat_after x 3) ≡ other_side (side_of x)
    right North = refl
    right East = refl
    right South = refl
    right West = refl

-- what an opponent takes after each lead that this is the position before, its side takes after each card of the suit
pub after-leads : (p : Board) (seat : Seat) (before : Board) (suit : Suit) (need : ℕ) → IsBoard p → p.trick ≡ [] → Opposes p seat → before ≡ board_of p.hands p.strain seat [] → (o : Option (List PlayingCard)) → IfSome o (λ cards. TakesAfterLead cards before suit need)
    → IfSome o (λ cards. (card : PlayingCard) → has_card (legal p) card ≡ true → card.suit ≡ suit → TakesBy (reach cards) (other_side (side_of p.first)) (after p card) need)
after-leads p seat before suit need valid start opposes is None h = tt
after-leads p seat before suit need valid start opposes is (Some cards) h = λ card has same.
    subst (λ s. TakesBy (reach cards) s (after p card) need) (ap (λ (b : Board). side_of b.first) is ∙ opponents-other p seat opposes) (h (after p card) card (led-before p card seat before valid start opposes is has) same)
