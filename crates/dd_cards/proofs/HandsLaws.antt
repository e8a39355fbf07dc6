-- what keeps four hands four hands
use Rattle.std.proofs.Common.{◌≡◌, ◌≢◌, true, false, Bool, refl, sym, ap, ◌∙◌, List, [], inl, inr, ◌⊎◌}
use Rattle.std.specs.Prelude.{◌||◌}
use Rattle.std.proofs.lemmas.Bool.Decides.{eqb_tells}
use Rattle.dd_cards.specs.declared.seat.Seat.{Seat}
use Rattle.dd_cards.specs.declared.seat.Seat.TheVariants.{North, East, South, West}
use Rattle.dd_cards.specs.Seats.{seat_code}
use Rattle.dd_cards.specs.PlayingCard.{PlayingCard}
use Rattle.dd_cards.specs.Cards.{same_card, deck, has_card, with_card}
use Rattle.dd_cards.specs.Hands.{FourHands, dealt, hand_of, with_hand, IsSet, AreHands}
use Rattle.dd_cards.proofs.CardLists.{same_card-eq}
use Rattle.dd_cards.proofs.HandLists.{seat_code-injective}
use Rattle.dd_cards.proofs.SetLaws.{IsSet-empty, IsSet-with_card, has_card-filter}
use Rattle.dd_cards.proofs.General.{and-left}

-- the hand that is written, and the others
pub hand_of-with_hand : (hands : FourHands) (seat : Seat) (cards : List PlayingCard) (s : Seat)
    → ((s ≡ seat) × (hand_of (with_hand hands seat cards) s ≡ cards)) ⊎ ((s ≢ seat) × (hand_of (with_hand hands seat cards) s ≡ hand_of hands s))
hand_of-with_hand hands seat cards s =
    elim (eqb_tells (seat_code s) (seat_code seat)) [
      | inl same ↦ inl (seat_code-injective s seat same.1, ap (λ t. hand_of (with_hand hands seat cards) t) (seat_code-injective s seat same.1) ∙ here seat)
      | inr other ↦ inr (λ e. other.1 (ap seat_code e), there s seat other.1)
    ]
  where
    here : (t : Seat) → hand_of (with_hand hands t cards) t ≡ cards
    here North = refl
    here East = refl
    here South = refl
    here West = refl

    there : (t u : Seat) → seat_code t ≢ seat_code u → hand_of (with_hand hands u cards) t ≡ hand_of hands t
    there North North differs = absurd (differs refl)
    there North East differs = refl
    there North South differs = refl
    there North West differs = refl
    there East North differs = refl
    there East East differs = absurd (differs refl)
    there East South differs = refl
    there East West differs = refl
    there South North differs = refl
    there South East differs = refl
    there South South differs = absurd (differs refl)
    there South West differs = refl
    there West North differs = refl
    there West East differs = refl
    there West South differs = refl
    there West West differs = absurd (differs refl)

-- four empty hands
pub AreHands-new : AreHands (dealt [] [] [] [])
AreHands-new =
    record {
      sets = λ s. rw (none s) IsSet-empty;
      disjoint = λ c s t h k. absurd (let no : has_card [] c ≡ true = rw (none s) at h in cc);
    }
  where
    none : (s : Seat) → hand_of (dealt [] [] [] []) s ≡ []
    none North = refl
    none East = refl
    none South = refl
    none West = refl

-- another set in place of one hand, of cards that no other hand has
pub AreHands-with_hand : (hands : FourHands) (seat : Seat) (cards : List PlayingCard) → AreHands hands → IsSet cards
    → ((c : PlayingCard) (s : Seat) → has_card cards c ≡ true → has_card (hand_of hands s) c ≡ true → s ≡ seat)
    → AreHands (with_hand hands seat cards)
AreHands-with_hand hands seat cards valid set own =
    record {
      sets = λ s. elim (hand_of-with_hand hands seat cards s) [
        | inl same ↦ rw same.1 set
        | inr other ↦ rw other.1 (valid.sets s)
      ];
      disjoint = λ c s t h k. elim (hand_of-with_hand hands seat cards s) [
        | inl same ↦ elim (hand_of-with_hand hands seat cards t) [
          | inl same' ↦ same.0 ∙ sym same'.0
          | inr other ↦ absurd (other.0 (own c t (rw same.1 at h) (rw other.1 at k)))
        ]
        | inr other ↦ elim (hand_of-with_hand hands seat cards t) [
          | inl same ↦ absurd (other.0 (own c s (rw same.1 at k) (rw other.1 at h)))
          | inr other' ↦ valid.disjoint c s t (rw other.1 at h) (rw other'.1 at k)
        ]
      ];
    }

-- a card put into a hand, that no hand has
pub AreHands-with_card : (hands : FourHands) (seat : Seat) (c : PlayingCard) → AreHands hands → ((s : Seat) → has_card (hand_of hands s) c ≡ false)
    → AreHands (with_hand hands seat (with_card (hand_of hands seat) c))
AreHands-with_card hands seat c valid absent =
    AreHands-with_hand hands seat (with_card (hand_of hands seat) c) valid (IsSet-with_card (hand_of hands seat) c)
    (λ d s h k. go d s k (same_card d c) refl (and-left (same_card d c || has_card (hand_of hands seat) d) (has_card deck d) (sym (has_card-filter (λ x. same_card x c || has_card (hand_of hands seat) x) deck d) ∙ h)))
  where
    go : (d : PlayingCard) (s : Seat) → has_card (hand_of hands s) d ≡ true → (b : Bool) → same_card d c ≡ b → (b || has_card (hand_of hands seat) d) ≡ true → s ≡ seat
    go d s k true e h = absurd (let no : has_card (hand_of hands s) d ≡ false = ap (has_card (hand_of hands s)) (same_card-eq d c e) ∙ absent s in cc)
    go d s k false e h = valid.disjoint d s seat k h
