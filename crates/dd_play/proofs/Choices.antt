-- the legal cards, by the suit of the card that lies first in the places of the trick
use Rattle.std.proofs.Common.{◌≡◌, ℕ, zero, suc, Bool, true, false, refl, sym, ap, ◌∙◌, arith, List, [], ◌∷◌, length, take, get_or}
use Rattle.std.specs.Prelude.{filter, ◌==◌, IsTrue}
use denote.Enum.Bare.{sameb}
use Rattle.dd_cards.specs.contracts.suit.Suit.{the_type}
use Rattle.dd_cards.specs.declared.suit.Suit.{Suit}
use Rattle.dd_cards.specs.declared.suit.Suit.TheVariants.{Spades, Hearts, Diamonds, Clubs}
use Rattle.dd_cards.specs.Suits.{suit_code}
use Rattle.dd_cards.specs.PlayingCard.{PlayingCard}
use Rattle.dd_cards.specs.Cards.{is_of, has_card}
use Rattle.dd_cards.proofs.CallerLemmas.{has_card-filter}
use Rattle.dd_play.specs.Board.{Board, cards_at, mover}
use Rattle.dd_play.specs.Tricks.{or_else}
use Rattle.dd_play.specs.Play.{legal, following}
use Rattle.dd_play.proofs.Values.{in-following}

-- two suits are the same where their codes are
pub same-suit : (s t : Suit) → sameb the_type s t ≡ (suit_code t == suit_code s)
same-suit Spades Spades = refl
same-suit Spades Hearts = refl
same-suit Spades Diamonds = refl
same-suit Spades Clubs = refl
same-suit Hearts Spades = refl
same-suit Hearts Hearts = refl
same-suit Hearts Diamonds = refl
same-suit Hearts Clubs = refl
same-suit Diamonds Spades = refl
same-suit Diamonds Hearts = refl
same-suit Diamonds Diamonds = refl
same-suit Diamonds Clubs = refl
same-suit Clubs Spades = refl
same-suit Clubs Hearts = refl
same-suit Clubs Diamonds = refl
same-suit Clubs Clubs = refl

-- a card that is not in the hand is not legal
pub not-legal : (p : Board) (c : PlayingCard) → has_card (cards_at p (mover p)) c ≡ false → has_card (legal p) c ≡ false
not-legal p c absent = go (has_card (legal p) c) refl
  where
    go : (b : Bool) → has_card (legal p) c ≡ b → has_card (legal p) c ≡ false
    go false e = e
    go true e = absurd (let no : false ≡ true = sym absent ∙ in-following p.trick (cards_at p (mover p)) c e in cc)

-- where the trick is the first places, the first card was led
first-place : (n : ℕ) (places hand : List PlayingCard) (d : PlayingCard) → (n ≡ 0 → ⊥) → length places ≡ 3 → following (take n places) hand ≡ or_else (filter (is_of (get_or places 0 d).suit) hand) hand
first-place zero places hand d some three = absurd (some refl)
first-place (suc n) [] hand d some three = absurd (omega (arith, three))
first-place (suc n) (c ∷ places) hand d some three = refl

-- where a card was led, the cards of its suit if there are any
pub legal-led : (p : Board) (n : ℕ) (places : List PlayingCard) (d : PlayingCard) (suit : Suit) → take n places ≡ p.trick → (n ≡ 0 → ⊥) → length places ≡ 3 → suit ≡ (get_or places 0 d).suit
    → legal p ≡ or_else (filter (is_of suit) (cards_at p (mover p))) (cards_at p (mover p))
legal-led p n places d suit trick some three led =
    ap (λ cards. following cards (cards_at p (mover p))) (sym trick)
    ∙ first-place n places (cards_at p (mover p)) d some three
    ∙ ap (λ s. or_else (filter (is_of s) (cards_at p (mover p))) (cards_at p (mover p))) (sym led)

-- a card of the suit led may be played
pub follows-suit : (suit : Suit) (hand : List PlayingCard) (c : PlayingCard) → has_card hand c ≡ true → is_of suit c ≡ true → has_card (or_else (filter (is_of suit) hand) hand) c ≡ true
follows-suit suit hand c own same = go (filter (is_of suit) hand) (has_card-filter (is_of suit) hand c ∙ rw (same, own) refl)
  where
    go : (part : List PlayingCard) → has_card part c ≡ true → has_card (or_else part hand) c ≡ true
    go [] h = own
    go (d ∷ part) h = h

-- and a card of another suit where there is none of it
pub discards : (suit : Suit) (hand : List PlayingCard) (c : PlayingCard) (none : Bool) → has_card hand c ≡ true → is_of suit c ≡ false
    → (IsTrue none → filter (is_of suit) hand ≡ []) × (filter (is_of suit) hand ≡ [] → IsTrue none) → none ≡ has_card (or_else (filter (is_of suit) hand) hand) c
discards suit hand c none own other test = go (filter (is_of suit) hand) none (has_card-filter (is_of suit) hand c ∙ rw other refl) test
  where
    go : (part : List PlayingCard) (b : Bool) → has_card part c ≡ false → (IsTrue b → part ≡ []) × (part ≡ [] → IsTrue b) → b ≡ has_card (or_else part hand) c
    go [] b h t = t.1 refl ∙ sym own
    go (d ∷ part) true h t = absurd (let no : d ∷ part ≡ [] = t.0 refl in cc)
    go (d ∷ part) false h t = sym h
