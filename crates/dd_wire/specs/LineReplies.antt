-- To be believed: the reply of the line tool to a line.
use Rattle.std.specs.Prelude.{◌≡◌, ℕ, ◌<◌, ◌≤◌, ◌⊎◌, List, length, Result, Ok, Err}
use Rattle.dd_lines.specs.Line.{longest_line}
use Rattle.dd_request.specs.declared.asked.Asked.{Asked}
use Rattle.dd_request.specs.declared.asked.Asked.TheVariants.{Solve, Table, Target, Play}
use Rattle.dd_request.specs.Plays.{trace}
use Rattle.dd_request.specs.Results.{results}
use Rattle.dd_request.specs.ScoredClasses.{answer}
use Rattle.dd_request.specs.Targets.{reaching}
use Rattle.dd_wire.specs.declared.fault.Fault.{Fault}
use Rattle.dd_wire.specs.declared.fault.Fault.TheVariants.{OutOfMemory}
use Rattle.dd_wire.specs.declared.line_asked.LineAsked.{LineAsked}
use Rattle.dd_wire.specs.declared.line_asked.LineAsked.TheVariants.{Cards, Par, ParOfDeal}
use Rattle.dd_wire.specs.Lines.{Means}
use Rattle.dd_wire.specs.ParReplies.{TellsPar, rows_of}
use Rattle.dd_wire.specs.PlayReplies.{trace_text}
use Rattle.dd_wire.specs.Replies.{answer_text, table_text, fault_text, spent_text}

-- the text of the answer to what is asked of a deal, a position or a play
abbrev pub asked_text : Asked → List ℕ
asked_text (Solve question) = answer_text (answer question.board question.solutions)
asked_text (Table hands) = table_text (results hands)
asked_text (Target question) = answer_text (reaching question.board question.target question.solutions)
asked_text (Play play) = trace_text (trace play)

-- the text answers what is asked
abbrev pub IsAnswer : LineAsked → List ℕ → Type 0
IsAnswer (Cards asked) text = text ≡ asked_text asked
IsAnswer (Par par) text = TellsPar par.results par.conditions text
IsAnswer (ParOfDeal par) text = TellsPar (rows_of (results par.hands)) par.conditions text

-- the text replies to a line of this meaning
abbrev pub IsReplyTo : Result LineAsked Fault → List ℕ → Type 0
IsReplyTo (Ok asked) text = IsAnswer asked text
IsReplyTo (Err fault) text = text ≡ fault_text fault

-- is the answer found by a search, which may be given up?
abbrev pub IsSearched : LineAsked → Type 0
IsSearched (Cards asked) = Unit {0}
IsSearched (Par par) = ⊥
IsSearched (ParOfDeal par) = Unit {0}

-- The text is the reply to the line: what its meaning is answered with; that memory ran out while it was read; or that a budget was
-- spent, which holds only where this was so of who gave up a search for the answer, for one of the twenty results of a table, or for one
-- number of a play's trace.
abbrev pub IsReply : Type 0 → List ℕ → List ℕ → Type 0
IsReply gave_up line text =
    ((meaning : Result LineAsked Fault) × Means line meaning × IsReplyTo meaning text)
    ⊎ ((0 < length line) × (length line ≤ longest_line) × (text ≡ fault_text OutOfMemory))
    ⊎ ((asked : LineAsked) × Means line (Ok asked) × IsSearched asked × gave_up × (text ≡ spent_text))

-- two texts are one, or one of them is this
abbrev pub AreOneBut : List ℕ → List ℕ → List ℕ → Type 0
AreOneBut text a b = (a ≡ b) ⊎ (a ≡ text) ⊎ (b ≡ text)
