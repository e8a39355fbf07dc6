-- To be believed: a file with the added lines, and the deals whose results these need.
use Rattle.std.specs.Prelude.{◌≡◌, ℕ, ◌&&◌, ◌||◌, Bool, true, false, List, [], ◌∷◌, ◌++◌, drop, Option, None, Some, is_some, Result, Ok, Err, ℤ, if◌then◌else◌}
use Rattle.dd_cards.specs.Hands.{FourHands}
use Rattle.dd_score.specs.declared.order.Order.TheVariants.{Dealer}
use Rattle.dd_score.specs.declared.par_contract.ParContract.{ParContract}
use Rattle.dd_score.specs.ParContracts.{par_contracts}
use Rattle.dd_score.specs.Values.{IsPar}
use Rattle.dd_file.specs.declared.fill_state.Conditions.{Conditions}
use Rattle.dd_file.specs.declared.fill_state.FillState.{FillState}
use Rattle.dd_file.specs.declared.line_text.LineEnds.{LineEnds}
use Rattle.dd_file.specs.declared.value.Unfit.{Unfit}
use Rattle.dd_file.specs.declared.wanted.Wanted.{Wanted}
use Rattle.dd_file.specs.Games.{after_end, conditions_of, ends, first_state, lacks, line_ends, next_state}
use Rattle.dd_file.specs.Kepts.{value_of}
use Rattle.dd_file.specs.Lines.{contract_line, line_with, score_line, table_text, tricks_line}
use Rattle.dd_file.specs.Marked.{Marked, end, byte, marked_file}
use Rattle.dd_file.specs.Values.{thirteen_in}
use Rattle.dd_file.specs.Marks.{Begins, nothing, empty_line, tag, cut}

-- ---- what is asked of a game, and what is answered

-- the deal, and who calls first and who is vulnerable where both are known
pub record Ask : Type 0 where
  pub deal : FourHands
  pub conditions : Option Conditions

-- par: its score, North and South's, and its contracts
pub record ParFound : Type 0 where
  pub score : ℤ
  pub contracts : List ParContract

-- the twenty results, and par where it was asked for
pub record Found : Type 0 where
  pub table : List (List ℕ)
  pub par : Option ParFound

-- par of these results
abbrev pub IsParFound : List (List ℕ) → Option Conditions → Option ParFound → Type 0
IsParFound table None None = Unit {0}
IsParFound table None (Some par) = ⊥
IsParFound table (Some conditions) None = ⊥
IsParFound table (Some conditions) (Some par) =
    IsPar table conditions.vulnerable (Dealer conditions.dealer) par.score
    × (par.contracts ≡ par_contracts table conditions.vulnerable (Dealer conditions.dealer) par.score)

-- what may be answered, by what may be told as the results of a deal; none are told where they were given up
abbrev pub IsAnswer : (FourHands → Option (List (List ℕ)) → Type 0) → Option Ask → Option Found → Type 0
IsAnswer gives None None = Unit {0}
IsAnswer gives None (Some found) = ⊥
IsAnswer gives (Some ask) None = gives ask.deal None
IsAnswer gives (Some ask) (Some found) = gives ask.deal (Some found.table) × IsParFound found.table ask.conditions found.par

-- one for each
abbrev pub AreAnswers : (FourHands → Option (List (List ℕ)) → Type 0) → List (Option Ask) → List (Option Found) → Type 0
AreAnswers gives [] [] = Unit {0}
AreAnswers gives [] (answer ∷ answers) = ⊥
AreAnswers gives (ask ∷ asks) [] = ⊥
AreAnswers gives (ask ∷ asks) (answer ∷ answers) = IsAnswer gives ask answer × AreAnswers gives asks answers

-- ---- the lines of a game

-- a text, where it is lacking
abbrev pub where_lacking : Bool → List ℕ → List ℕ
where_lacking true text = text
where_lacking false text = []

-- the two lines of par
abbrev pub par_text : LineEnds → Wanted → Option ParFound → List ℕ
par_text ends lacking None = []
par_text ends lacking (Some par) =
    where_lacking lacking.score (line_with ends (score_line par.score)) ++ where_lacking lacking.contract (line_with ends (contract_line par.contracts))

-- the lines that a game gets, of those that it lacks
unfoldable pub added_text : LineEnds → Wanted → Found → List ℕ
added_text ends lacking found =
    where_lacking lacking.tricks (line_with ends (tricks_line found.table)) ++ par_text ends lacking found.par
    ++ where_lacking lacking.table (table_text ends found.table)

-- does it lack a line that it can get?
abbrev pub needs : Wanted → Bool → Bool
needs lacking has_par = (lacking.tricks || lacking.table) || (has_par && (lacking.score || lacking.contract))

-- what is asked of a game with this deal
abbrev pub ask_with : Result FourHands Unfit → Option Conditions → Wanted → Option Ask
ask_with (Err unfit) conditions lacking = None
ask_with (Ok deal) conditions lacking = (if needs lacking (is_some conditions) then Some (record { deal = deal; conditions = conditions }) else None)

abbrev pub ask_of : Wanted → FillState → Option Ask
ask_of wanted state = ask_with (thirteen_in (value_of state.deal)) (conditions_of state) (lacks wanted state)

-- lines stand before an empty line, and before a tag that is the first thing on its line
abbrev pub has_place : Begins → Bool
has_place nothing = false
has_place empty_line = true
has_place (tag is_first length name quoted) = is_first
has_place (cut length) = false

-- what is asked of a game that ends so
abbrev pub ask_at : Bool → Wanted → FillState → Option Ask
ask_at place wanted state = (if place then ask_of wanted state else None)

-- the lines of a game by what was answered
abbrev pub text_of : Wanted → FillState → Option Found → List ℕ
text_of wanted state None = []
text_of wanted state (Some found) = added_text (line_ends state) (lacks wanted state) found

-- the answer of the first game that ends
abbrev pub first_of : List (Option Found) → Option Found
first_of [] = None
first_of (answer ∷ answers) = answer

-- ---- the file

-- is a game at hand ended by the end of the file?
abbrev pub ends_last : Bool → FillState → Bool
ends_last closed state = closed && state.begun

-- what is asked of a game that ends here, if one does
abbrev pub asked_here : Bool → Option Ask → List (Option Ask)
asked_here ends_here ask = (if ends_here then ask ∷ [] else [])

-- its lines by the first of the answers
abbrev pub text_here : Bool → Wanted → FillState → List (Option Found) → List ℕ
text_here ends_here wanted state answers = (if ends_here then text_of wanted state (first_of answers) else [])

-- the answers for the games after it
abbrev pub answers_after : Bool → List (Option Found) → List (Option Found)
answers_after ends_here answers = (if ends_here then drop 1 answers else answers)

-- and the game at hand
abbrev pub state_here : Bool → FillState → FillState
state_here ends_here state = (if ends_here then after_end state else state)

-- The bytes with the lines, by an answer for each game that ends: they stand before what the game ends before.
unfoldable pub filled_from : Wanted → List (Option Found) → FillState → Marked → List ℕ
filled_from wanted answers state (end closed) = text_here (ends_last closed state) wanted state answers
filled_from wanted answers state (byte mark b rest) =
    text_here (ends state mark) wanted state answers
    ++ b ∷ filled_from wanted (answers_after (ends state mark) answers) (next_state (state_here (ends state mark) state) mark b) rest

-- what is asked of each game that ends
unfoldable pub asks_from : Wanted → FillState → Marked → List (Option Ask)
asks_from wanted state (end closed) = asked_here (ends_last closed state) (ask_of wanted state)
asks_from wanted state (byte mark b rest) =
    asked_here (ends state mark) (ask_at (has_place mark) wanted state)
    ++ asks_from wanted (next_state (state_here (ends state mark) state) mark b) rest

-- a file with the lines that its games lack of those that are wanted, by an answer for each game
abbrev pub filled : Wanted → List (Option Found) → List ℕ → List ℕ
filled wanted answers file = filled_from wanted answers first_state (marked_file file)

-- what is asked of its games
abbrev pub asks : Wanted → List ℕ → List (Option Ask)
asks wanted file = asks_from wanted first_state (marked_file file)
