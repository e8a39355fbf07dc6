-- the cards in the hands and on the trick stay the same while the trick lasts
use Rattle.std.proofs.Common.{◌≡◌, Bool, true, false, refl, sym, ap, ◌∙◌, List, [], ◌∷◌, ◌++◌, inl, inr}
use Rattle.std.specs.Prelude.{filter, ◌&&◌, ◌||◌}
use mathlib.Core.Path.{ap₂}
use mathlib.Core.Bool.{not}
use Rattle.dd_cards.specs.declared.seat.Seat.{Seat}
use Rattle.dd_cards.specs.declared.seat.Seat.TheVariants.{North, East, South, West}
use Rattle.dd_cards.specs.PlayingCard.{PlayingCard}
use Rattle.dd_cards.specs.Ranks.{IsRank}
use Rattle.dd_cards.specs.Cards.{same_card, has_card, deck, without}
use Rattle.dd_cards.specs.Hands.{FourHands, hand_of, hands_without, IsSet}
use Rattle.dd_cards.proofs.CallerLemmas.{has_card-deck, has_card-filter, has_card-without, real-set, same_card-eq, IsSet-deck, IsSet-filter, same_card-swap}
use Rattle.dd_play.specs.Board.{Board, IsBoard, cards_at, mover}
use Rattle.dd_play.specs.Play.{after, completes, hands_after, trick_with}
use Rattle.dd_play.specs.InPlay.{is_in_hands, is_in_play}
use Rattle.dd_play.specs.Simulations.{IsLegal}
use Rattle.dd_play.proofs.HandsAfter.{taken-out}
use Rattle.dd_play.proofs.Plays.{own-card}
use Rattle.std.proofs.lemmas.Bool.{or_left, or_right, or_cases}

-- a set by the test of its cards
kept : (p : PlayingCard → Bool) (c : PlayingCard) → (p c ≡ true → IsRank c.rank) → has_card (filter p deck) c ≡ p c
kept p c real = has_card-filter p deck c ∙ go (p c) refl
  where
    go : (b : Bool) → p c ≡ b → (b && has_card deck c) ≡ b
    go true e = has_card-deck c (real e)
    go false e = refl

-- two sets in one
abbrev pub AreBoth : List PlayingCard → List PlayingCard → List PlayingCard → Type 0
AreBoth u a b = u ≡ filter (λ c. has_card a c || has_card b c) deck

pub both-set : (u a b : List PlayingCard) → AreBoth u a b → IsSet u
both-set u a b is = rw is (IsSet-filter _ deck IsSet-deck)

pub both-has : (u a b : List PlayingCard) → AreBoth u a b → IsSet a → IsSet b → (c : PlayingCard) → has_card u c ≡ (has_card a c || has_card b c)
both-has u a b is one two c = ap (λ xs. has_card xs c) is ∙ kept (λ d. has_card a d || has_card b d) c (λ h. elim (or_cases (has_card a c) (has_card b c) h) [
  | inl here ↦ real-set a c one here
  | inr there ↦ real-set b c two there
])

-- a card of a hand is in the hands
of-hand : (hands : FourHands) (s : Seat) (c : PlayingCard) → has_card (hand_of hands s) c ≡ true → is_in_hands hands c ≡ true
of-hand hands North c h = or_left _ _ (or_left _ _ h)
of-hand hands East c h = or_left _ _ (or_right _ _ h)
of-hand hands South c h = or_right _ _ (or_left _ _ h)
of-hand hands West c h = or_right _ _ (or_right _ _ h)

-- a card that is put last is among the cards, and each other one as it was
last-has : (cards : List PlayingCard) (x d : PlayingCard) → has_card (cards ++ x ∷ []) d ≡ (has_card cards d || same_card x d)
last-has [] x d = go (same_card x d)
  where
    go : (b : Bool) → (b || false) ≡ b
    go true = refl
    go false = refl
last-has (y ∷ cards) x d = ap (λ b. same_card y d || b) (last-has cards x d) ∙ go (same_card y d)
  where
    go : (b : Bool) → (b || (has_card cards d || same_card x d)) ≡ ((b || has_card cards d) || same_card x d)
    go true = refl
    go false = refl

-- the hands without a card, and the trick with it, have the cards that they had
moved : (hands : FourHands) (trick : List PlayingCard) (c d : PlayingCard) → is_in_hands hands c ≡ true
    → (is_in_hands (hands_without hands c) d || has_card (trick ++ c ∷ []) d) ≡ (is_in_hands hands d || has_card trick d)
moved hands trick c d held = go (same_card d c) refl
  where
    out : (cards : List PlayingCard) (b : Bool) → same_card d c ≡ b → has_card (without cards c) d ≡ (not b && has_card cards d)
    out cards b e = has_card-without cards c d ∙ ap (λ x. not x && has_card cards d) e

    rest : (b : Bool) → (b || false) ≡ b
    rest true = refl
    rest false = refl

    go : (b : Bool) → same_card d c ≡ b → (is_in_hands (hands_without hands c) d || has_card (trick ++ c ∷ []) d) ≡ (is_in_hands hands d || has_card trick d)
    go true e =
        or_right (is_in_hands (hands_without hands c) d) _ (last-has trick c d ∙ or_right (has_card trick d) _ (same_card-swap c d ∙ e))
        ∙ sym (or_left (is_in_hands hands d) _ (ap (is_in_hands hands) (same_card-eq d c e) ∙ held))
    go false e =
        ap₂ (λ x y. x || y)
        (ap₂ (λ x y. x || y) (ap₂ (λ x y. x || y) (out hands.north false e) (out hands.east false e)) (ap₂ (λ x y. x || y) (out hands.south false e) (out hands.west false e)))
        (last-has trick c d ∙ ap (λ b. has_card trick d || b) (same_card-swap c d ∙ e) ∙ rest (has_card trick d))

-- a legal card that doesn't complete the trick leaves the same cards in play
pub stays-in-play : (p : Board) (c d : PlayingCard) → IsBoard p → IsLegal p c → completes p ≡ false → is_in_play (after p c) d ≡ is_in_play p d
stays-in-play p c d valid legal more =
    rw more (rw (← taken-out p c valid legal) (moved p.hands p.trick c d (of-hand p.hands (mover p) c (own-card p c legal))))

-- with no card on the trick the cards in play are those in the hands
pub none-lies : (hands : FourHands) (c : PlayingCard) → is_in_hands hands c ≡ (is_in_hands hands c || has_card [] c)
none-lies hands c = go (is_in_hands hands c)
  where
    go : (b : Bool) → b ≡ (b || false)
    go true = refl
    go false = refl

-- a card of the hands is real
hands-real : (hands : FourHands) (c : PlayingCard) → ((s : Seat) → IsSet (hand_of hands s)) → is_in_hands hands c ≡ true → IsRank c.rank
hands-real hands c sets h = elim (or_cases (has_card hands.north c || has_card hands.east c) _ h) [
  | inl a ↦ elim (or_cases (has_card hands.north c) _ a) [ inl n ↦ real-set hands.north c (sets North) n | inr e ↦ real-set hands.east c (sets East) e ]
  | inr b ↦ elim (or_cases (has_card hands.south c) _ b) [ inl s ↦ real-set hands.south c (sets South) s | inr w ↦ real-set hands.west c (sets West) w ]
]

-- the cards of the hands and of the trick are those in play
pub all-in-play : (hands : FourHands) (trick cards here there u : List PlayingCard) → ((s : Seat) → IsSet (hand_of hands s)) → ((c : PlayingCard) → has_card trick c ≡ true → IsRank c.rank)
    → ((c : PlayingCard) → has_card here c ≡ is_in_hands hands c) → ((c : PlayingCard) → has_card there c ≡ has_card cards c) → cards ≡ trick → AreBoth u here there
    → (c : PlayingCard) → has_card u c ≡ (is_in_hands hands c || has_card cards c)
all-in-play hands trick cards here there u sets real is lie same both c =
    ap (λ xs. has_card xs c) both
    ∙ kept (λ d. has_card here d || has_card there d) c (λ h. elim (or_cases (has_card here c) (has_card there c) h) [
      | inl a ↦ hands-real hands c sets (sym (is c) ∙ a)
      | inr b ↦ real c (ap (λ xs. has_card xs c) (sym same) ∙ sym (lie c) ∙ b)
    ])
    ∙ ap₂ (λ x y. x || y) (is c) (lie c)
