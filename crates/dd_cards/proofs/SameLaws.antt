-- what is the same by the tests is the same
use Rattle.std.proofs.Common.{◌≡◌, ℕ, Bool, true, false, refl, sym, ap, ◌∙◌, subst, List, [], ◌∷◌, nat_eq, eq-eqb}
use Rattle.std.specs.Prelude.{◌&&◌}
use Rattle.std.proofs.lemmas.Bool.{eqb-true}
use Rattle.dd_cards.specs.PlayingCard.{PlayingCard}
use Rattle.dd_cards.specs.Cards.{same_card}
use Rattle.dd_cards.specs.Hands.{FourHands, dealt}
use Rattle.dd_cards.specs.HandMasks.{IsHandMask, cards_of, hand_mask_of}
use Rattle.dd_cards.specs.HandMaskLaws.{hand_mask_of-cards}
use Rattle.dd_cards.specs.Same.{same_cards, same_hands, same-cards, same-hands}
use Rattle.dd_cards.proofs.General.{and-left, and-right, both-ways}
use Rattle.dd_cards.proofs.CardLists.{same_card-eq}

-- the same cards in the same order are one list
pub same_cards-is : (cs ds : List PlayingCard) → same_cards cs ds ≡ true → cs ≡ ds
same_cards-is [] [] h = refl
same_cards-is [] (d ∷ ds) h = absurd (cc)
same_cards-is (c ∷ cs) [] h = absurd (cc)
same_cards-is (c ∷ cs) (d ∷ ds) h =
    let first = same_card-eq c d (and-left (same_card c d) (same_cards cs ds) h) in
    let rest = same_cards-is cs ds (and-right (same_card c d) (same_cards cs ds) h) in
    cc

-- the parts of four tests
pub four-of : (a b c d : Bool) → (a && b && c && d) ≡ true → (a ≡ true) × (b ≡ true) × (c ≡ true) × (d ≡ true)
four-of true true true true h = (refl, refl, refl, refl)
four-of true true true false h = absurd (cc)
four-of true true false d h = absurd (cc)
four-of true false c d h = absurd (cc)
four-of false b c d h = absurd (cc)

hands-eq : (n e s w n' e' s' w' : List PlayingCard) → n ≡ n' → e ≡ e' → s ≡ s' → w ≡ w' → dealt n e s w ≡ dealt n' e' s' w'
hands-eq n e s w n' e' s' w' p q r t = rw (p, q, r, t) refl

-- the same cards in each hand are the same hands
pub same_hands-is : (a b : FourHands) → same_hands a b ≡ true → a ≡ b
same_hands-is a b h =
    let parts = four-of (same_cards a.north b.north) (same_cards a.east b.east) (same_cards a.south b.south) (same_cards a.west b.west) h in
    let north = same_cards-is a.north b.north parts.0 in
    let east = same_cards-is a.east b.east parts.1 in
    let south = same_cards-is a.south b.south parts.2 in
    let west = same_cards-is a.west b.west parts.3 in
    hands-eq _ _ _ _ _ _ _ _ north east south west

-- so what tells the test tells whether they are
pub same_hands-told : (told : Bool) (a b : FourHands) → told ≡ same_hands a b → (told ≡ true → a ≡ b) × (a ≡ b → told ≡ true)
same_hands-told told a b is = (
  (λ h. same_hands-is a b (sym is ∙ h)),
  (λ e. is ∙ ap (same_hands a) (sym e) ∙ same-hands.refl a),
)

-- two masks are one exactly where their cards are the same
pub masks-told : (m n : ℕ) (cs ds : List PlayingCard) → IsHandMask m → IsHandMask n → cards_of m ≡ cs → cards_of n ≡ ds → nat_eq m n ≡ same_cards cs ds
masks-told m n cs ds valid valid' of_m of_n = both-ways (nat_eq m n) (same_cards cs ds)
    (λ h. let one : cs ≡ ds = sym of_m ∙ ap cards_of (eqb-true m n h) ∙ of_n in subst (λ xs. same_cards cs xs ≡ true) one (same-cards.refl cs))
    (λ h. let one : cards_of m ≡ cards_of n = of_m ∙ same_cards-is cs ds h ∙ sym of_n in
    eq-eqb m n (sym (hand_mask_of-cards m valid) ∙ ap hand_mask_of one ∙ hand_mask_of-cards n valid'))
