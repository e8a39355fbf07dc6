use Rattle.std.proofs.Common.{◌≡◌, ℕ, ◌-◌, ◌*◌, ◌/◌, ◌%◌, ◌^◌, refl, ap, ◌∙◌, bit_and}
use Rattle.std.specs.Prelude.{count_ones}
use Rattle.std.proofs.lemmas.Nat.{and_mask}
use Rattle.dd_cards.specs.declared.suit.Suit.{Suit}
use Rattle.dd_cards.specs.declared.suit.Suit.TheVariants.{Spades, Hearts, Diamonds, Clubs}
use Rattle.dd_cards.specs.Suits.{suit_code}
use Rattle.dd_rank.specs.Depths.{FourDepths, depth_in}
use Rattle.dd_rank.specs.DepthMasks.{depths_in}
use Rattle.dd_rank.specs.Lanes.{lane}
use Rattle.dd_rank.proofs.depths.Depths.of.Goals as goal

-- the bits of a suit
shifted : (tops : ℕ) (u : Suit) → tops / 2 ^ (48 - 16 * suit_code u) % 2 ^ 16 ≡ lane tops u
shifted tops Spades = refl
shifted tops Hearts = refl
shifted tops Diamonds = refl
shifted tops Clubs = refl

-- how many they are
counted : (tops : ℕ) (u : Suit) → count_ones (lane tops u) ≡ depth_in (depths_in tops) u
counted tops Spades = refl
counted tops Hearts = refl
counted tops Diamonds = refl
counted tops Clubs = refl

pub returns : goal.returns
returns c =
    let tops = c.self.inside.tops in
    let u = c.args.suit in
    ap count_ones (and_mask (tops / 2 ^ (48 - 16 * c.code.result)) 16 ∙ ap (λ n. tops / 2 ^ (48 - 16 * n) % 2 ^ 16) c.code.ensures.value ∙ shifted tops u)
    ∙ counted tops u ∙ ap (λ (d : FourDepths). depth_in d u) c.self.view_is
