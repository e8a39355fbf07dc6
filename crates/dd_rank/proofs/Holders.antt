-- the holder of a card, and the lists of holders
use Rattle.std.proofs.Common.{◌≡◌, ℕ, ◌+◌, ◌≤◌, Bool, true, false, cond, refl, sym, ap, ◌∙◌, arith, List, [], ◌∷◌, Option, None, Some}
use Rattle.std.specs.Prelude.{map, filter, is_some}
use Rattle.std.specs.List.{filter_map, cons_option}
use mathlib.Core.Path.{ap₂}
use Rattle.dd_cards.specs.declared.seat.Seat.{Seat}
use Rattle.dd_cards.specs.declared.seat.Seat.TheVariants.{North, East, South, West}
use Rattle.dd_cards.specs.declared.suit.Suit.{Suit}
use Rattle.dd_cards.specs.PlayingCard.{PlayingCard}
use Rattle.dd_cards.specs.Cards.{has_card, card_of}
use Rattle.dd_cards.specs.Hands.{FourHands, hand_of, times, AreDisjoint}
use Rattle.dd_play.specs.Board.{Board, IsBoard}
use Rattle.dd_rank.specs.Owners.{holder}
use Rattle.dd_cards.proofs.CallerLemmas.{times-has}

-- ---- the holder of a card
-- the card is in the hand of its holder
pub holder-has : (hands : FourHands) (c : PlayingCard) (s : Seat) → holder hands c ≡ Some s → has_card (hand_of hands s) c ≡ true
unfolding holder
holder-has hands c s e = go (has North) (has East) (has South) (has West) refl refl refl refl e
  where
    has : Seat → Bool
    has x = has_card (hand_of hands x) c

    own : (o d : Seat) → Some o ≡ Some s → o ≡ s
    own o d e = ap (λ (x : Option Seat). or_else x) e
      where
        or_else : Option Seat → Seat
        or_else None = d
        or_else (Some x) = x

    go : (n e s' w : Bool) → has North ≡ n → has East ≡ e → has South ≡ s' → has West ≡ w
        → cond n (Some North) (cond e (Some East) (cond s' (Some South) (cond w (Some West) None))) ≡ Some s → has s ≡ true
    go true e s' w hn he hs hw k = ap has (sym (own North North k)) ∙ hn
    go false true s' w hn he hs hw k = ap has (sym (own East North k)) ∙ he
    go false false true w hn he hs hw k = ap has (sym (own South North k)) ∙ hs
    go false false false true hn he hs hw k = ap has (sym (own West North k)) ∙ hw
    go false false false false hn he hs hw k = absurd (cc)

-- the only hand that has the card is its holder's
pub only-holder : (hands : FourHands) (c : PlayingCard) (s : Seat) → has_card (hand_of hands s) c ≡ true
    → ((t : Seat) → has_card (hand_of hands t) c ≡ true → t ≡ s) → holder hands c ≡ Some s
unfolding holder
only-holder hands c s h only = go (has North) (has East) (has South) (has West) refl refl refl refl
  where
    has : Seat → Bool
    has x = has_card (hand_of hands x) c

    none : (x : Seat) → has x ≡ false → s ≡ x → ⊥
    none x e same = (let k : false ≡ true = sym e ∙ ap has (sym same) ∙ h in cc)

    go : (n e s' w : Bool) → has North ≡ n → has East ≡ e → has South ≡ s' → has West ≡ w
        → cond n (Some North) (cond e (Some East) (cond s' (Some South) (cond w (Some West) None))) ≡ Some s
    go true e s' w hn he hs hw = ap Some (only North hn)
    go false true s' w hn he hs hw = ap Some (only East he)
    go false false true w hn he hs hw = ap Some (only South hs)
    go false false false true hn he hs hw = ap Some (only West hw)
    go false false false false hn he hs hw = absurd (nowhere s (none North hn) (none East he) (none South hs) (none West hw))
      where
        nowhere : (x : Seat) → (x ≡ North → ⊥) → (x ≡ East → ⊥) → (x ≡ South → ⊥) → (x ≡ West → ⊥) → ⊥
        nowhere North n e s w = n refl
        nowhere East n e s w = e refl
        nowhere South n e s w = s refl
        nowhere West n e s w = w refl

-- a card in no hand has no holder
pub no-holder : (hands : FourHands) (c : PlayingCard) → ((s : Seat) → has_card (hand_of hands s) c ≡ false) → holder hands c ≡ None
unfolding holder
no-holder hands c none = rw (none North, none East, none South, none West) refl

-- no card of a legal state of play is in two hands
pub board-disjoint : (p : Board) → IsBoard p → AreDisjoint p.hands
board-disjoint p valid c = two
  where
    has : Seat → Type 0
    has x = has_card (hand_of p.hands x) c ≡ true

    n : ℕ
    n = times (hand_of p.hands North) c

    e : ℕ
    e = times (hand_of p.hands East) c

    s : ℕ
    s = times (hand_of p.hands South) c

    w : ℕ
    w = times (hand_of p.hands West) c

    once : n + e + s + w + times p.trick c ≤ 1
    once = valid.once c

    one : (x : Seat) → has x → 1 ≤ times (hand_of p.hands x) c
    one x h = times-has (hand_of p.hands x) c h

    two : (x y : Seat) → has x → has y → x ≡ y
    two North North h k = refl
    two North East h k = absurd (let o = once in let a = one North h in let b = one East k in omega (arith, o, a, b))
    two North South h k = absurd (let o = once in let a = one North h in let b = one South k in omega (arith, o, a, b))
    two North West h k = absurd (let o = once in let a = one North h in let b = one West k in omega (arith, o, a, b))
    two East North h k = absurd (let o = once in let a = one East h in let b = one North k in omega (arith, o, a, b))
    two East East h k = refl
    two East South h k = absurd (let o = once in let a = one East h in let b = one South k in omega (arith, o, a, b))
    two East West h k = absurd (let o = once in let a = one East h in let b = one West k in omega (arith, o, a, b))
    two South North h k = absurd (let o = once in let a = one South h in let b = one North k in omega (arith, o, a, b))
    two South East h k = absurd (let o = once in let a = one South h in let b = one East k in omega (arith, o, a, b))
    two South South h k = refl
    two South West h k = absurd (let o = once in let a = one South h in let b = one West k in omega (arith, o, a, b))
    two West North h k = absurd (let o = once in let a = one West h in let b = one North k in omega (arith, o, a, b))
    two West East h k = absurd (let o = once in let a = one West h in let b = one East k in omega (arith, o, a, b))
    two West South h k = absurd (let o = once in let a = one West h in let b = one South k in omega (arith, o, a, b))
    two West West h k = refl

-- ---- lists of holders
-- what is there for the numbers for which there is something
pub kept-map : {X : Type 0} (f : ℕ → Option X) (xs : List ℕ) → map f (filter (λ r. is_some (f r)) xs) ≡ map Some (filter_map f xs)
kept-map f [] = refl
kept-map {X = X} f (r ∷ xs) = go (f r) refl (kept-map f xs)
  where
    kept : List ℕ
    kept = filter (λ r. is_some (f r)) xs

    go : (o : Option X) → f r ≡ o → map f kept ≡ map Some (filter_map f xs) → map f (cond (is_some o) (r ∷ kept) kept) ≡ map Some (cons_option o (filter_map f xs))
    go None e ih = ih
    go (Some x) e ih = ap₂ (λ z zs. z ∷ zs) e ih

-- holders of the cards of these ranks
pub by-ranks : (f : PlayingCard → Option Seat) (u : Suit) (ranks : List ℕ) → filter_map f (map (card_of u) ranks) ≡ filter_map (λ r. f (card_of u r)) ranks
by-ranks f u [] = refl
by-ranks f u (r ∷ ranks) = ap (cons_option (f (card_of u r))) (by-ranks f u ranks)
