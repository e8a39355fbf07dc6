-- a choice is one of the cards
use Rattle.std.proofs.Common.{◌≡◌, ℕ, true, sym, ap, ◌∙◌, List, Option, None, Some}
use Rattle.std.specs.Prelude.{filter, map, IfSome, slice_get}
use Rattle.dd_cards.specs.declared.suit.Suit.{Suit}
use Rattle.dd_cards.specs.PlayingCard.{PlayingCard}
use Rattle.dd_cards.specs.Ranks.{has_rank}
use Rattle.dd_cards.specs.Cards.{has_card, card_of, is_of}
use Rattle.dd_cards.proofs.CallerLemmas.{any-filter, has_rank-holding}
use Rattle.dd_rank.proofs.CallerLemmas.{first-there}

-- what holds of what there is, in other words
pub if-some : {X : Type 0} (P Q : X → Type 0) → ((x : X) → P x → Q x) → (o : Option X) → IfSome o P → IfSome o Q
if-some P Q f None h = tt
if-some P Q f (Some x) h = f x h

-- a rank of the part is one of the ranks
pub rank-among : (ranks others part : List ℕ) (r : ℕ) → part ≡ filter (has_rank others) ranks → has_rank part r ≡ true → has_rank ranks r ≡ true
rank-among ranks others part r is has = any-filter _ (has_rank others) ranks (ap (λ xs. has_rank xs r) (sym is) ∙ has)

-- the first of the ranks is one of them
pub first-among : (ranks : List ℕ) (o : Option ℕ) → o ≡ slice_get ranks 0 → IfSome o (λ r. has_rank ranks r ≡ true)
first-among ranks None is = tt
first-among ranks (Some r) is = first-there ranks r is

-- a rank of the suit is that of a card
pub rank-card : (s : Suit) (ranks : List ℕ) (cards : List PlayingCard) (r : ℕ) → map (card_of s) ranks ≡ filter (is_of s) cards → has_rank ranks r ≡ true → has_card cards (card_of s r) ≡ true
rank-card s ranks cards r are has = sym (has_rank-holding s ranks cards r are) ∙ has
