-- To be believed: the strains and their codes.
use Rattle.std.specs.Prelude.{ℕ}
use Rattle.dd_cards.specs.declared.strain.Strain.{Strain}
use Rattle.dd_cards.specs.declared.strain.Strain.TheVariants.{Trump, Notrump}
use Rattle.dd_cards.specs.Suits.{suit_code}

-- the trump suit's code, or 4 (DDS `trump`)
abbrev pub strain_code : Strain → ℕ
strain_code (Trump suit) = suit_code suit
strain_code Notrump = 4
