-- regular plays and the fault of the first card that is not legal
use Rattle.std.proofs.Common.{◌≡◌, ◌↔◌, ◌≤◌, true, refl, arith, List, [], ◌∷◌, length, ◌⊎◌, inl, inr}
use Rattle.std.proofs.lemmas.Bool.{cases_Bool}
use Rattle.std.proofs.lemmas.Bool.Decides.{eqb_tells}
use Rattle.dd_cards.specs.PlayingCard.{PlayingCard}
use Rattle.dd_cards.specs.Cards.{has_card}
use Rattle.dd_play.specs.Board.{Board, IsBoard, cards_at, cards_left, mover, tricks_left}
use Rattle.dd_play.specs.Play.{legal, after}
use Rattle.dd_play.specs.Simulations.{IsLegal}
use Rattle.dd_play.proofs.CallerLemmas.{cards-tricks, cards_left-after, left-13, legal-leads, own-card}
use Rattle.dd_request.specs.declared.card_fault.CardFault.{CardFault}
use Rattle.dd_request.specs.declared.card_fault.CardFault.TheVariants.{AfterLast, NotInHand, Revoke}
use Rattle.dd_request.specs.CardFaults.{IsFaultOf, IsFirstFault}
use Rattle.dd_request.specs.Plays.{IsRegular}

-- a hand without cards has none
none-held : (cards : List PlayingCard) (c : PlayingCard) → length cards ≡ 0 → has_card cards c ≡ true → ⊥
none-held [] c none has = cc
none-held (d ∷ cards) c none has = omega (arith, none)

-- a card that has a fault is not legal
fault-illegal : (fault : CardFault) (p : Board) (c : PlayingCard) → IsFaultOf fault p c → IsLegal p c → ⊥
fault-illegal AfterLast p c fault has = none-held (cards_at p (mover p)) c fault (own-card p c has)
fault-illegal NotInHand p c fault has = let held = own-card p c has in let not_held = fault.1 in cc
fault-illegal Revoke p c fault has = let no = fault.1 in cc

-- and has one fault
one-fault : (f g : CardFault) (p : Board) (c : PlayingCard) → IsFaultOf f p c → IsFaultOf g p c → f ≡ g
one-fault AfterLast AfterLast p c a b = refl
one-fault NotInHand NotInHand p c a b = refl
one-fault Revoke Revoke p c a b = refl
one-fault AfterLast NotInHand p c a b = absurd (let some = b.0 in omega (arith, a, some))
one-fault NotInHand AfterLast p c a b = absurd (let some = a.0 in omega (arith, b, some))
one-fault AfterLast Revoke p c a b = absurd (none-held (cards_at p (mover p)) c a b.0)
one-fault Revoke AfterLast p c a b = absurd (none-held (cards_at p (mover p)) c b a.0)
one-fault NotInHand Revoke p c a b = absurd (let no = a.1 in let yes = b.0 in cc)
one-fault Revoke NotInHand p c a b = absurd (let no = b.1 in let yes = a.0 in cc)

-- the play is regular where the rest of it is from here on, and then alone; and what is the first fault of the rest is the play's
pub record IsChecked (p : Board) (cards : List PlayingCard) (q : Board) (rest : List PlayingCard) : Type 0 where
  pub regular : IsRegular p cards ↔ IsRegular q rest
  pub faults : (fault : CardFault) → IsFirstFault fault p cards ↔ IsFirstFault fault q rest

-- one legal card more
pub checked-more : (p : Board) (cards : List PlayingCard) (q : Board) (c : PlayingCard) (rest : List PlayingCard) → IsChecked p cards q (c ∷ rest) → IsLegal q c → IsChecked p cards (after q c) rest
checked-more p cards q c rest k legal = record {
  regular = (λ h. (k.regular.0 h).1, λ h. k.regular.1 (legal, h));
  faults = λ fault. (λ h. later fault (k.faults fault).0 h, λ h. (k.faults fault).1 (inr (legal, h)));
}
  where
    rest-of : (fault : CardFault) → IsFirstFault fault q (c ∷ rest) → IsFirstFault fault (after q c) rest
    rest-of fault (inl here) = absurd (fault-illegal fault q c here legal)
    rest-of fault (inr there) = there.1

    later : (fault : CardFault) → (IsFirstFault fault p cards → IsFirstFault fault q (c ∷ rest)) → IsFirstFault fault p cards → IsFirstFault fault (after q c) rest
    later fault to h = rest-of fault (to h)

-- with no card left the play is regular, and has no fault
pub all-checked : (p : Board) (cards : List PlayingCard) (q : Board) → IsChecked p cards q [] → IsRegular p cards × ((fault : CardFault) → IsFirstFault fault p cards → ⊥)
all-checked p cards q k = (k.regular.1 tt, λ fault h. (k.faults fault).0 h)

-- a card with a fault: the play is not regular, and has this fault and no other
pub fault-checked : (p : Board) (cards : List PlayingCard) (q : Board) (c : PlayingCard) (rest : List PlayingCard) (fault : CardFault) → IsChecked p cards q (c ∷ rest) → IsFaultOf fault q c
    → (IsRegular p cards → ⊥) × IsFirstFault fault p cards × ((other : CardFault) → IsFirstFault other p cards → fault ≡ other)
fault-checked p cards q c rest fault k here = (
  λ h. fault-illegal fault q c here (k.regular.0 h).0,
  (k.faults fault).1 (inl here),
  λ other h. same other ((k.faults other).0 h),
)
  where
    same : (other : CardFault) → IsFirstFault other q (c ∷ rest) → fault ≡ other
    same other (inl there) = one-fault fault other q c here there
    same other (inr later) = absurd (fault-illegal fault q c here later.0)

-- ---- for any play

-- a card is legal or has a fault
fault-decided : (p : Board) (c : PlayingCard) → IsLegal p c ⊎ ((fault : CardFault) × IsFaultOf fault p c)
fault-decided p c =
    elim (cases_Bool (has_card (legal p) c)) [
      | inl allowed ↦ inl allowed
      | inr illegal ↦ elim (eqb_tells (tricks_left p) 0) [
        | inl none ↦ inr (AfterLast, none.1)
        | inr some ↦ elim (cases_Bool (has_card (cards_at p (mover p)) c)) [
          | inl held ↦ inr (Revoke, (held, illegal))
          | inr absent ↦ inr (NotInHand, (let ne = some.1 in omega arith, absent))
        ]
      ]
    ]

-- a play is regular or has a first fault
pub regular-decided : (p : Board) (cards : List PlayingCard) → IsRegular p cards ⊎ ((fault : CardFault) × IsFirstFault fault p cards)
regular-decided p [] = inl tt
regular-decided p (c ∷ cards) =
    elim (fault-decided p c) [
      | inr fault ↦ inr (fault.0, inl fault.1)
      | inl legal ↦ elim (regular-decided (after p c) cards) [
        | inl rest ↦ inl (legal, rest)
        | inr fault ↦ inr (fault.0, inr (legal, fault.1))
      ]
    ]

-- a regular play has none
pub regular-faultless : (fault : CardFault) (p : Board) (cards : List PlayingCard) → IsRegular p cards → IsFirstFault fault p cards → ⊥
regular-faultless fault p [] regular h = h
regular-faultless fault p (c ∷ cards) regular (inl here) = fault-illegal fault p c here regular.0
regular-faultless fault p (c ∷ cards) regular (inr later) = regular-faultless fault (after p c) cards regular.1 later.1

-- and no play has two
pub one-first-fault : (f g : CardFault) (p : Board) (cards : List PlayingCard) → IsFirstFault f p cards → IsFirstFault g p cards → f ≡ g
one-first-fault f g p [] a b = absurd a
one-first-fault f g p (c ∷ cards) (inl a) (inl b) = one-fault f g p c a b
one-first-fault f g p (c ∷ cards) (inl a) (inr b) = absurd (fault-illegal f p c a b.0)
one-first-fault f g p (c ∷ cards) (inr a) (inl b) = absurd (fault-illegal g p c b a.0)
one-first-fault f g p (c ∷ cards) (inr a) (inr b) = one-first-fault f g (after p c) cards a.1 b.1

-- each card of a regular play leaves one card fewer in the hands
regular-fits : (p : Board) (cards : List PlayingCard) → IsBoard p → IsRegular p cards → length cards ≤ cards_left p
regular-fits p [] valid h = omega arith
regular-fits p (c ∷ cards) valid h =
    let rest = regular-fits (after p c) cards (legal-leads p c valid h.0).valid h.1 in
    let fewer = cards_left-after p c valid h.0 in
    omega (arith, rest, fewer)

-- so it has at most 52 cards
pub regular-52 : (p : Board) (cards : List PlayingCard) → IsBoard p → IsRegular p cards → length cards ≤ 52
regular-52 p cards valid h =
    let fits = regular-fits p cards valid h in
    let tricks = cards-tricks p valid in
    let few = left-13 p valid in
    omega (arith, fits, tricks, few)
