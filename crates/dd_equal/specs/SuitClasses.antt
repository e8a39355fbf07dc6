-- The classes of one suit: the mover's ranks, and those in the other hands and on the trick.
use Rattle.std.specs.Prelude.{◌≡◌, ℕ, ◌<◌, ◌&&◌, ◌||◌, Bool, true, List, [], ◌∷◌, filter, nat_lt}
use Rattle.std.specs.List.{list_any, list_all}
use mathlib.Core.Bool.{not}
use Rattle.dd_cards.specs.declared.suit.Suit.{Suit}
use Rattle.dd_cards.specs.Ranks.{has_rank}
use Rattle.dd_cards.specs.Masks.{mask_of}
use Rattle.dd_cards.specs.Cards.{card_of}
use Rattle.dd_equal.specs.EqualCards.{EqualCards}

-- does a rank of others lie between these two?
abbrev pub is_separated : List ℕ → ℕ → ℕ → Bool
is_separated others r q = list_any (λ x. (nat_lt r x && nat_lt x q) || (nat_lt q x && nat_lt x r)) others

-- is the rank the highest of its class?
abbrev pub is_top_rank : List ℕ → List ℕ → ℕ → Bool
is_top_rank own others r = not (list_any (λ q. not (is_separated others r q) && nat_lt r q) own)

-- the lower ranks of its class
abbrev pub equal_ranks : List ℕ → List ℕ → ℕ → List ℕ
equal_ranks own others r = filter (λ q. not (is_separated others r q) && nat_lt q r) own

-- the class of a rank
abbrev pub class_of_rank : Suit → List ℕ → List ℕ → ℕ → EqualCards
class_of_rank suit own others r = record { top = card_of suit r; equals = mask_of (equal_ranks own others r) }

-- each rank is higher than all after it
abbrev pub descends : List ℕ → Bool
descends [] = true
descends (r ∷ ranks) = list_all (λ q. nat_lt q r) ranks && descends ranks

-- two sets of ranks, each highest first, that share none
pub record AreApart (own others : List ℕ) : Type 0 where
  pub own_falls : descends own ≡ true
  pub others_fall : descends others ≡ true
  pub small : (q : ℕ) → has_rank own q ≡ true → (0 < q) × (q < 15)
  pub differ : (q : ℕ) → has_rank own q ≡ true → has_rank others q ≡ true → ⊥
