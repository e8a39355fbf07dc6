-- the lower cards of the classes that are reached in part, and one card more in a set
use Rattle.std.proofs.Common.{◌≡◌, ◌<◌, ◌≤◌, Bool, true, false, refl, sym, ap, ◌∙◌, arith, List, inl, inr, ◌⊎◌, eq-eqb}
use Rattle.std.specs.Prelude.{filter, nat_lt, ◌&&◌, ◌||◌}
use Rattle.std.specs.List.{list_any}
use mathlib.Core.Bool.{not}
use mathlib.Core.Path.{ap₂}
use Rattle.std.proofs.lemmas.Bool.{cases_lt, lt-ltb, and_from, not-true, not_from_false, false_from_ne_true}
use Rattle.std.proofs.lemmas.Bool.Decides.{eqb_tells}
use Rattle.dd_cards.specs.PlayingCard.{PlayingCard}
use Rattle.dd_cards.specs.Suits.{suit_code}
use Rattle.dd_cards.specs.Ranks.{IsRank}
use Rattle.dd_cards.specs.Cards.{card_of, is_of, same_card, has_card, with_card, deck}
use Rattle.dd_cards.specs.Sequences.{is_headed, is_above}
use Rattle.dd_cards.proofs.CallerLemmas.{and-left, and-right, any-filter, has_card-deck, same_card-eq, any-some, any-of, any-card}
use Rattle.dd_play.specs.Board.{Board, IsBoard}
use Rattle.dd_play.specs.Play.{legal}
use Rattle.dd_play.specs.Simulations.{IsLegal}
use Rattle.dd_play.specs.Reach.{reach}
use Rattle.dd_play.proofs.CallerLemmas.{filter-has, filter-passes, of-suit', own-card, reach-of, reach-some, suit-of, above-is, above-suit, above-rank}
use Rattle.dd_equal.specs.EqualCards.{other_cards, is_between, are_equal, is_top, IsWhole}
use Rattle.dd_equal.proofs.Suits.{others-differ}

-- ---- one card more

pub with-old : (cards : List PlayingCard) (x c : PlayingCard) → IsRank c.rank → has_card cards c ≡ true → has_card (with_card cards x) c ≡ true
with-old cards x c real h = filter-has (λ d. same_card d x || has_card cards d) deck c (has_card-deck c real) (or-yes (same_card c x) (has_card cards c) h)
  where
    or-yes : (a b : Bool) → b ≡ true → (a || b) ≡ true
    or-yes true b h = refl
    or-yes false b h = h

pub with-new : (cards : List PlayingCard) (x : PlayingCard) → IsRank x.rank → has_card (with_card cards x) x ≡ true
with-new cards x real = filter-has (λ d. same_card d x || has_card cards d) deck x (has_card-deck x real) (rw (eq-eqb (suit_code x.suit) (suit_code x.suit) refl, eq-eqb x.rank x.rank refl) refl)

pub with-which : (cards : List PlayingCard) (x c : PlayingCard) → has_card (with_card cards x) c ≡ true → (c ≡ x) ⊎ (has_card cards c ≡ true)
with-which cards x c h = go (same_card c x) refl (filter-passes (λ d. same_card d x || has_card cards d) deck c h)
  where
    go : (b : Bool) → same_card c x ≡ b → (b || has_card cards c) ≡ true → (c ≡ x) ⊎ (has_card cards c ≡ true)
    go true e k = inl (same_card-eq c x e)
    go false e k = inr k

-- ---- the classes that are reached in part

-- what the code has: the other cards, the reached ones without them, the legal cards that one of these heads, and all that is
-- reached then
pub record AreLower (p : Board) (others reached less lower result : List PlayingCard) : Type 0 where
  pub valid : IsBoard p
  pub theirs : (c : PlayingCard) → has_card others c ≡ has_card (other_cards p) c
  pub without : less ≡ filter (λ c. not (has_card others c)) reached
  pub headed : lower ≡ filter (is_headed less others) (legal p)
  pub either : (c : PlayingCard) → has_card result c ≡ true → (has_card reached c ≡ true) ⊎ (has_card lower c ≡ true)
  pub more : (c : PlayingCard) → has_card lower c ≡ true → has_card result c ≡ true

-- of one class, what is above the one card and no higher than the other is no other card
between-own : (p : Board) (others reached less lower result : List PlayingCard) → AreLower p others reached less lower result → (t c : PlayingCard) → IsLegal p t → are_equal p t c ≡ true
    → (x : PlayingCard) → x.suit ≡ t.suit → c.rank < x.rank → x.rank ≤ t.rank → has_card others x ≡ false
between-own p others reached less lower result are t c legal_t eq x suit low high = false_from_ne_true _ (λ h.
    let other : has_card (other_cards p) x ≡ true = sym (are.theirs x) ∙ h in
    elim (eqb_tells x.rank t.rank) [
      | inl same ↦ others-differ p x are.valid (ap (has_card _) (ap₂ (λ u r. card_of u r) suit same.1) ∙ own-card p t legal_t) other
      | inr differ ↦ (
          let below : x.rank < t.rank = (let n = differ.1 in omega (arith, n, high)) in
          let hit : list_any (is_between t c) (other_cards p) ≡ true = any-card (is_between t c) (other_cards p) x other
          (and_from (is_of t.suit x) _ (of-suit' t.suit x suit) (or-right' (nat_lt t.rank x.rank && nat_lt x.rank c.rank) _ (and_from (nat_lt c.rank x.rank) (nat_lt x.rank t.rank) (lt-ltb c.rank x.rank low) (lt-ltb x.rank t.rank below)))) in
          let none : list_any (is_between t c) (other_cards p) ≡ false = not-true _ (and-right (is_of t.suit c) _ eq) in
          (let no : true ≡ false = sym hit ∙ none in cc))
    ])
  where
    or-right' : (a b : Bool) → b ≡ true → (a || b) ≡ true
    or-right' true b h = refl
    or-right' false b h = h

-- so a class that is reached is reached as a whole
pub whole-lower : (p : Board) (others reached less lower result : List PlayingCard) → AreLower p others reached less lower result → IsWhole (reach result) p
whole-lower p others reached less lower result are t c top legal_c eq h =
    let d = reach-some result t h in
    elim (cases_lt c.rank d.0.rank) [
      | inr low ↦ reach-of result d.0 c d.1 (d.2 ∙ sym suit) low
      | inl above ↦ (
          let head = heading d.0 d.1 d.2 d.3 above in
          reach-of result c c (are.more c (ap (λ xs. has_card xs c) are.headed ∙ filter-has (is_headed less others) (legal p) c legal_c head)) refl (omega arith))
    ]
  where
    suit : c.suit ≡ t.suit
    suit = suit-of t.suit c (and-left (is_of t.suit c) _ eq)

    legal_t : IsLegal p t
    legal_t = any-filter (λ y. same_card y t) (is_top p) (legal p) top

    none : (x : PlayingCard) → x.suit ≡ t.suit → c.rank < x.rank → x.rank ≤ t.rank → has_card others x ≡ false
    none = between-own p others reached less lower result are t c legal_t eq

    between : PlayingCard → PlayingCard → PlayingCard → Bool
    between a b e = is_above a e && is_above e b

    -- a card of these above c, with none of the others between, heads it
    heads-it : (x : PlayingCard) → has_card less x ≡ true → x.suit ≡ t.suit → c.rank < x.rank → ((e : PlayingCard) → has_card others e ≡ true → e.suit ≡ t.suit → c.rank < e.rank → e.rank < x.rank → ⊥) → is_headed less others c ≡ true
    heads-it x has same up clear = any-of (λ y. is_above c y && not (list_any (between c y) others)) x less has
        (and_from (is_above c x) _ (above-is c x (same ∙ sym suit) up) (not_from_false _ (false_from_ne_true _ (λ some.
        let e = any-some (between c x) others some in
        let from = and-left (is_above c e.0) (is_above e.0 x) e.2 in
        let to = and-right (is_above c e.0) (is_above e.0 x) e.2 in
        clear e.0 e.1 (above-suit c e.0 from ∙ suit) (above-rank c e.0 from) (above-rank e.0 x to)))))

    contrary : (x : PlayingCard) → has_card others x ≡ true → has_card others x ≡ false → ⊥
    contrary x there none = (let k : true ≡ false = sym there ∙ none in cc)

    heading : (d : PlayingCard) → has_card result d ≡ true → d.suit ≡ t.suit → d.rank ≤ t.rank → c.rank < d.rank → is_headed less others c ≡ true
    heading d has same high above = elim (are.either d has) [
      | inl there ↦ heads-it d (ap (λ xs. has_card xs d) are.without ∙ filter-has (λ y. not (has_card others y)) reached d there (ap not (none d same above high))) same above
          (λ e other of up down. contrary e other (none e of up (omega (arith, down, high))))
      | inr under ↦ (
          let headed = filter-passes (is_headed less others) (legal p) d (ap (λ xs. has_card xs d) (sym are.headed) ∙ under) in
          let x = any-some (λ y. is_above d y && not (list_any (between d y) others)) less headed in
          let up : is_above d x.0 ≡ true = and-left (is_above d x.0) _ x.2 in
          let clear : list_any (between d x.0) others ≡ false = not-true _ (and-right (is_above d x.0) _ x.2) in
          let higher = above-rank d x.0 up in
          let of : x.0.suit ≡ t.suit = above-suit d x.0 up ∙ same in
          heads-it x.0 x.1 of (omega (arith, above, higher)) (λ e other suits from to. elim (cases_lt d.rank e.rank) [
            | inr lower ↦ contrary e other (none e suits from (omega (arith, lower, high)))
            | inl beyond ↦ (
                let hit : list_any (between d x.0) others ≡ true = any-of (between d x.0) e others other
                (and_from (is_above d e) (is_above e x.0) (above-is d e (suits ∙ sym same) beyond) (above-is e x.0 (of ∙ sym suits) to)) in
                (let k : true ≡ false = sym hit ∙ clear in cc))
          ]))
    ]
