-- taking a card out of all hands when one hand alone has it
use Rattle.std.proofs.Common.{◌≡◌, ◌+◌, ◌≤◌, Bool, true, false, refl, sym, ap, ◌∙◌, arith, List, [], ◌∷◌}
use Rattle.std.specs.Prelude.{if◌then◌else◌}
use Rattle.dd_cards.specs.declared.seat.Seat.{Seat}
use Rattle.dd_cards.specs.declared.seat.Seat.TheVariants.{North, East, South, West}
use Rattle.dd_cards.specs.PlayingCard.{PlayingCard}
use Rattle.dd_cards.specs.Cards.{same_card, without}
use Rattle.dd_cards.specs.Hands.{FourHands, hand_of, with_hand, hands_without, times}
use Rattle.dd_play.specs.Board.{Board, IsBoard, cards_at, mover, times_in}
use Rattle.dd_play.specs.Play.{hands_after}
use Rattle.dd_play.specs.Simulations.{IsLegal}
use Rattle.dd_play.proofs.Plays.{own-card}
use Rattle.dd_cards.proofs.CallerLemmas.{times-cons, times-has}

-- cards without a card that is not among them
without-absent : (cards : List PlayingCard) (c : PlayingCard) → times cards c ≡ 0 → without cards c ≡ cards
without-absent [] c none = refl
without-absent (d ∷ cards) c none =
    let all : (if same_card d c then 1 else 0) + times cards c ≡ 0 = sym (times-cons d cards c) ∙ none in
    go (same_card d c) refl all (without-absent cards c (omega (arith, all)))
  where
    go : (b : Bool) → same_card d c ≡ b → (if same_card d c then 1 else 0) + times cards c ≡ 0 → without cards c ≡ cards → without (d ∷ cards) c ≡ d ∷ cards
    go true e all rest = absurd (let some = rw e at all in omega (arith, some))
    go false e all rest = rw e (ap (λ ds. d ∷ ds) rest)

-- a card of one hand alone leaves all hands when it leaves that one
out-of-all : (hands : FourHands) (seat : Seat) (c : PlayingCard) → 1 ≤ times (hand_of hands seat) c → times_in hands c ≤ 1
    → hands_without hands c ≡ with_hand hands seat (without (hand_of hands seat) c)
out-of-all hands North c has once = rw (without-absent hands.east c (omega (arith, has, once)), without-absent hands.south c (omega (arith, has, once)), without-absent hands.west c (omega (arith, has, once))) refl
out-of-all hands East c has once = rw (without-absent hands.north c (omega (arith, has, once)), without-absent hands.south c (omega (arith, has, once)), without-absent hands.west c (omega (arith, has, once))) refl
out-of-all hands South c has once = rw (without-absent hands.north c (omega (arith, has, once)), without-absent hands.east c (omega (arith, has, once)), without-absent hands.west c (omega (arith, has, once))) refl
out-of-all hands West c has once = rw (without-absent hands.north c (omega (arith, has, once)), without-absent hands.east c (omega (arith, has, once)), without-absent hands.south c (omega (arith, has, once))) refl

-- the hands after a legal card, by taking it out of each hand
pub taken-out : (p : Board) (c : PlayingCard) → IsBoard p → IsLegal p c → hands_without p.hands c ≡ hands_after p c
taken-out p c board legal =
    let once = board.once c in
    out-of-all p.hands (mover p) c (times-has (cards_at p (mover p)) c (own-card p c legal)) (omega (arith, once))
