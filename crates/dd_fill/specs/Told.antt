-- To be believed: what is told as the results of a deal.
use Rattle.std.specs.Prelude.{◌≡◌, ℕ, List, map, Option, None, Some}
use Rattle.dd_cards.specs.declared.strain.Strain.{Strain}
use Rattle.dd_cards.specs.Hands.{FourHands}
use Rattle.dd_request.specs.Results.{all_strains, strain_results}

-- the twenty results of a deal: a list for each strain
abbrev pub table_of : FourHands → List (List ℕ)
table_of hands = map (strain_results hands) all_strains

-- The deal's results are told; or none are, where this holds: that a search was given up.
abbrev pub IsTold : Type 0 → FourHands → Option (List (List ℕ)) → Type 0
IsTold spent hands None = spent
IsTold spent hands (Some table) = table ≡ table_of hands

-- the same of its results in a strain
abbrev pub IsRowTold : Type 0 → FourHands → Strain → Option (List ℕ) → Type 0
IsRowTold spent hands strain None = spent
IsRowTold spent hands strain (Some row) = row ≡ strain_results hands strain
