-- no two suits, seats, strains or cards have one code
use Rattle.std.proofs.Common.{◌≡◌, ◌<◌, refl, ap, arith}
use Rattle.dd_cards.specs.declared.strain.Strain.{Strain}
use Rattle.dd_cards.specs.declared.strain.Strain.TheVariants.{Trump, Notrump}
use Rattle.dd_cards.specs.Suits.{suit_code}
use Rattle.dd_cards.specs.Strains.{strain_code}
use Rattle.dd_cards.proofs.CardLists.{suit_code-lt, suit_code-injective}

-- two strains with one code are one strain
pub strain_code-injective : (s t : Strain) → strain_code s ≡ strain_code t → s ≡ t
strain_code-injective (Trump s) (Trump t) e = ap Trump (suit_code-injective s t e)
strain_code-injective (Trump s) Notrump e = absurd (let k : suit_code s < 4 = suit_code-lt s in omega arith)
strain_code-injective Notrump (Trump t) e = absurd (let k : suit_code t < 4 = suit_code-lt t in omega arith)
strain_code-injective Notrump Notrump e = refl
