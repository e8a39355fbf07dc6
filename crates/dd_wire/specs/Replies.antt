-- To be believed: the text of a reply: JSON without spaces, keys in the order of their bytes.
use Rattle.std.specs.Prelude.{ℕ, ◌+◌, ◌*◌, Bool, nat_le, List, ◌++◌, map, codes, decimal}
use Rattle.std.specs.List.{join_with_byte, list_all, range_with_len, slice_range}
use Rattle.dd_cards.specs.Suits.{suit_code}
use Rattle.dd_wire.specs.declared.fault.Fault.{Fault}
use Rattle.dd_wire.specs.Faults.{fault_number}
use Rattle.dd_request.specs.ScoredClasses.{ScoredClass}

-- {"equals":e,"rank":r,"score":n,"suit":s}
abbrev pub class_text : ScoredClass → List ℕ
class_text class =
    codes "{\"equals\":" ++ decimal class.equals ++ codes ",\"rank\":" ++ decimal class.card.rank
    ++ codes ",\"score\":" ++ decimal class.score ++ codes ",\"suit\":" ++ decimal (suit_code class.card.suit) ++ codes "}"

-- "cards":[C,C,..]
abbrev pub cards_member : List ScoredClass → List ℕ
cards_member classes = codes "\"cards\":[" ++ join_with_byte 44 (map class_text classes) ++ codes "]"

-- {"cards":[C,C,..]}
abbrev pub answer_text : List ScoredClass → List ℕ
answer_text classes = codes "{" ++ cards_member classes ++ codes "}"

-- [a,b,..]
abbrev pub list_text : List ℕ → List ℕ
list_text numbers = codes "[" ++ join_with_byte 44 (map decimal numbers) ++ codes "]"

-- of twenty results those of a strain, by its code
abbrev pub of_strain : List ℕ → ℕ → List ℕ
of_strain results strain = slice_range results (4 * strain) (4 * strain + 4)

-- "table":[[a,b,c,d],..], a list for each strain
abbrev pub table_member : List ℕ → List ℕ
table_member results = codes "\"table\":[" ++ join_with_byte 44 (map (λ strain. list_text (of_strain results strain)) (range_with_len 0 5)) ++ codes "]"

-- {"table":[[a,b,c,d],..]}
abbrev pub table_text : List ℕ → List ℕ
table_text results = codes "{" ++ table_member results ++ codes "}"

-- "job":j
abbrev pub job_member : ℕ → List ℕ
job_member job = codes "\"job\":" ++ decimal job

-- {"fault":n}
abbrev pub numbered_fault_text : ℕ → List ℕ
numbered_fault_text number = codes "{\"fault\":" ++ decimal number ++ codes "}"

abbrev pub fault_text : Fault → List ℕ
fault_text fault = numbered_fault_text (fault_number fault)

-- the budget was spent before there was an answer
abbrev pub spent_text : List ℕ
spent_text = codes "{\"state\":\"spent\"}"

-- No byte of it is a control character, a line feed among them.
abbrev pub is_one_line : List ℕ → Bool
is_one_line text = list_all (nat_le 32) text
