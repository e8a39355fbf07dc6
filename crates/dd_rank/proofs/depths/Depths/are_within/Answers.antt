use Rattle.std.proofs.Common.{◌≡◌, ◌≤◌, true}
use Rattle.std.specs.Prelude.{◌&&◌, ◌↔◌, IsTrue, nat_le}
use Rattle.std.proofs.lemmas.Bool.{le-leb, leb-true}
use Rattle.dd_cards.specs.declared.suit.Suit.{Suit}
use Rattle.dd_cards.specs.declared.suit.Suit.TheVariants.{Spades, Hearts, Diamonds, Clubs}
use Rattle.dd_cards.proofs.CallerLemmas.{all-four, four-all}
use Rattle.dd_rank.specs.Depths.{FourDepths, depth_in}
use Rattle.dd_rank.proofs.Packed.{is-true, true-is}
use Rattle.dd_rank.proofs.depths.Depths.are_within.Goals as goal

-- four tests, one for each suit
within : (d m : FourDepths) → IsTrue (nat_le d.spades m.spades && nat_le d.hearts m.hearts && nat_le d.diamonds m.diamonds && nat_le d.clubs m.clubs) ↔ ((u : Suit) → depth_in d u ≤ depth_in m u)
within d m = (
  λ t. each (is-true _ t),
  λ all. true-is _ (four-all (nat_le d.spades m.spades) (nat_le d.hearts m.hearts) (nat_le d.diamonds m.diamonds) (nat_le d.clubs m.clubs)
      (le-leb _ _ (all Spades)) (le-leb _ _ (all Hearts)) (le-leb _ _ (all Diamonds)) (le-leb _ _ (all Clubs))),
)
  where
    each : (nat_le d.spades m.spades && nat_le d.hearts m.hearts && nat_le d.diamonds m.diamonds && nat_le d.clubs m.clubs) ≡ true → (u : Suit) → depth_in d u ≤ depth_in m u
    each t = go
      where
        all : (nat_le d.spades m.spades ≡ true) × (nat_le d.hearts m.hearts ≡ true) × (nat_le d.diamonds m.diamonds ≡ true) × (nat_le d.clubs m.clubs ≡ true)
        all = all-four (nat_le d.spades m.spades) (nat_le d.hearts m.hearts) (nat_le d.diamonds m.diamonds) (nat_le d.clubs m.clubs) t

        go : (u : Suit) → depth_in d u ≤ depth_in m u
        go Spades = leb-true _ _ all.0
        go Hearts = leb-true _ _ all.1
        go Diamonds = leb-true _ _ all.2
        go Clubs = leb-true _ _ all.3

pub returns : goal.returns
returns c = rw (c.of.ensures, c.of-2.ensures, c.of-3.ensures, c.of-4.ensures, c.of-5.ensures, c.of-6.ensures, c.of-7.ensures, c.of-8.ensures) (within c.args.self c.args.most)
