-- To be believed: the text of par: JSON without spaces, keys in the order of their bytes.
use Rattle.std.specs.Prelude.{◌≡◌, ℕ, ℤ, List, [], ◌∷◌, ◌++◌, map, codes, decimal}
use Rattle.std.specs.Fmt.{signed_decimal}
use Rattle.std.specs.List.{join_with_byte, range_with_len}
use Rattle.dd_cards.specs.declared.side.Side.TheVariants.{NorthSouth, EastWest}
use Rattle.dd_cards.specs.Seats.{seat_code}
use Rattle.dd_cards.specs.Strains.{strain_code}
use Rattle.dd_score.specs.declared.par_contract.Declarers.{Declarers}
use Rattle.dd_score.specs.declared.par_contract.Declarers.TheVariants.{One, Both}
use Rattle.dd_score.specs.declared.par_contract.ParContract.{ParContract}
use Rattle.dd_score.specs.ParContracts.{par_contracts}
use Rattle.dd_score.specs.Values.{IsPar}
use Rattle.dd_wire.specs.declared.par_request.Conditions.{Conditions}
use Rattle.dd_wire.specs.Replies.{list_text, of_strain}

-- the seats that declare, rising
abbrev pub declarer_codes : Declarers → List ℕ
declarer_codes (One seat) = seat_code seat ∷ []
declarer_codes (Both NorthSouth) = 0 ∷ 2 ∷ []
declarer_codes (Both EastWest) = 1 ∷ 3 ∷ []

-- [s] or [s,t]
unfoldable pub declarers_text : Declarers → List ℕ
declarers_text declarers = list_text (declarer_codes declarers)

-- {"declarers":[s,..],"level":l,"tricks":t,"trump":x}
abbrev pub contract_text : ParContract → List ℕ
contract_text contract =
    codes "{\"declarers\":" ++ declarers_text contract.declarers ++ codes ",\"level\":" ++ decimal contract.level
    ++ codes ",\"tricks\":" ++ decimal contract.tricks ++ codes ",\"trump\":" ++ decimal (strain_code contract.strain) ++ codes "}"

-- {"contracts":[C,..],"score":n}
abbrev pub par_text : List ParContract → ℤ → List ℕ
par_text contracts score =
    codes "{\"contracts\":[" ++ join_with_byte 44 (map contract_text contracts) ++ codes "],\"score\":" ++ signed_decimal score ++ codes "}"

-- the text tells par of these results
abbrev pub TellsPar : List (List ℕ) → Conditions → List ℕ → Type 0
TellsPar rows conditions text =
    (score : ℤ) × IsPar rows conditions.vulnerable conditions.order score
    × (text ≡ par_text (par_contracts rows conditions.vulnerable conditions.order score) score)

-- twenty results as five lists of four, a list for each strain
abbrev pub rows_of : List ℕ → List (List ℕ)
rows_of results = map (of_strain results) (range_with_len 0 5)
