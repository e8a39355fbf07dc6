-- To be believed: the text of the reply to a line that asks for a play.
use Rattle.std.specs.Prelude.{ℕ, List, ◌++◌, codes}
use Rattle.dd_wire.specs.Replies.{list_text}

-- "tricks":[a,b,..]
abbrev pub trace_member : List ℕ → List ℕ
trace_member tricks = codes "\"tricks\":" ++ list_text tricks

-- {"tricks":[a,b,..]}
abbrev pub trace_text : List ℕ → List ℕ
trace_text tricks = codes "{" ++ trace_member tricks ++ codes "}"
