-- To be believed: what a line means to a session, and the id and the fault that its reply tells, by the session's manner.
use Rattle.std.specs.Prelude.{◌≡◌, ℕ, ◌<◌, ◌≤◌, ◌⊎◌, IsTrue, List, length, Option, None, Result, Err, if◌then◌else◌}
use Rattle.std.specs.Bool.{MatchBool}
use Rattle.dd_lines.specs.Line.{longest_line}
use Rattle.dd_wire.specs.declared.fault.Fault.{Fault}
use Rattle.dd_wire.specs.declared.fault.Fault.TheVariants.{OutOfMemory}
use Rattle.dd_wire.specs.declared.par_request.ParOfResults.{ParOfResults}
use Rattle.dd_wire.specs.declared.session_asked.SessionAsked.{SessionAsked}
use Rattle.dd_wire.specs.ExplainedWants.{MeansExplained, fault_explained, id_of}
use Rattle.dd_wire.specs.FaultWords.{fault_told}
use Rattle.dd_wire.specs.Ids.{named}
use Rattle.dd_wire.specs.ParReplies.{TellsPar}
use Rattle.dd_wire.specs.Replies.{fault_text}
use Rattle.dd_wire.specs.Wants.{MeansWant}
use Rattle.dd_session.specs.declared.manner.Manner.{Manner}

-- what a line means: where nothing is explained as ever, and else without its id
abbrev pub MeansIn : Manner → List ℕ → Result SessionAsked Fault → Type 0
MeansIn manner line meaning = MatchBool manner.explain (MeansExplained manner.allow_stop line meaning) (MeansWant manner.allow_stop line meaning)

-- the id that the reply to a line tells: where nothing is explained none
abbrev pub id_told : Manner → List ℕ → Option (List ℕ)
id_told manner line = if manner.explain then id_of line else None

-- how a fault that a line means is told: by its number alone, or explained
abbrev pub fault_by : Manner → List ℕ → Fault → List ℕ
fault_by manner line fault = if manner.explain then fault_explained manner.allow_stop line fault else fault_text fault

-- how it is told that memory ran out while a line was read
abbrev pub memory_text : Manner → List ℕ
memory_text manner = if manner.explain then fault_told OutOfMemory None else fault_text OutOfMemory

-- The text tells the fault of a line: its first one; or that memory ran out while it was read, which only a line meets that
-- isn't empty and not too long.
abbrev pub TellsFault : Manner → List ℕ → List ℕ → Type 0
TellsFault manner line text =
    ((fault : Fault) × MeansIn manner line (Err fault) × (text ≡ fault_by manner line fault))
    ⊎ ((0 < length line) × (length line ≤ longest_line) × (text ≡ memory_text manner))

-- the text tells par, with the id of the line that asks for it
abbrev pub TellsParTo : Manner → List ℕ → ParOfResults → List ℕ → Type 0
TellsParTo manner line par text = (reply : List ℕ) × TellsPar par.results par.conditions reply × (text ≡ named (id_told manner line) reply)

-- the one manner has no more leave than the other, and explains as the other does
pub record IsWithin (inner outer : Manner) : Type 0 where
  pub leave : IsTrue inner.allow_stop → IsTrue outer.allow_stop
  pub explain : inner.explain ≡ outer.explain
