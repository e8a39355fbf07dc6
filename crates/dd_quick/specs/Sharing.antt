-- Tricks that are shared out among the suits.
use Rattle.std.specs.Prelude.{◌≡◌, ◌≤◌, ◌⊎◌, ℕ, Bool, true}
use Rattle.dd_cards.specs.declared.suit.Suit.{Suit}
use Rattle.dd_cards.specs.declared.suit.Suit.TheVariants.{Spades, Hearts, Diamonds, Clubs}

-- of four numbers, one for each suit, that of the suit
abbrev pub shares : ℕ → ℕ → ℕ → ℕ → Suit → ℕ
shares s h d c Spades = s
shares s h d c Hearts = h
shares s h d c Diamonds = d
shares s h d c Clubs = c

-- one of the four suits is marked, and has some
abbrev pub SomeOf : Bool → Bool → Bool → Bool → ℕ → ℕ → ℕ → ℕ → Type 0
SomeOf p q r s a b c d = (((p ≡ true) × (1 ≤ a)) ⊎ ((q ≡ true) × (1 ≤ b))) ⊎ (((r ≡ true) × (1 ≤ c)) ⊎ ((s ≡ true) × (1 ≤ d)))
