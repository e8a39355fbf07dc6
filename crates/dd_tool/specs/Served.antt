-- To be believed: what the line tool has served of the lines of a stream. The budget is that of each line.
use Rattle.std.specs.Prelude.{◌≡◌, ◌⊎◌, ℕ, List, [], ◌∷◌, ◌++◌, Contains, Bool, true, false, Option, None}
use Rattle.std.specs.Io.KnownBytes.{Consumes, Appends, IsAtEnd}
use Rattle.dd_lines.specs.CountedDevices.{bytes_of}
use Rattle.dd_lines.specs.declared.counted_device.CountedDevice.{CountedDevice}
use Rattle.dd_lines.specs.Lines.{line_feed, lines}
use Rattle.dd_wire.specs.declared.fault.Fault.TheVariants.{OutOfMemory}
use Rattle.dd_bounds.specs.Spent.{IsSpent}
use Rattle.dd_wire.specs.Explained.{IsExplained}
use Rattle.dd_wire.specs.FaultWords.{fault_told}
use Rattle.dd_wire.specs.LineReplies.{IsReply}
use Rattle.dd_wire.specs.Replies.{fault_text}

-- the reply to a line: as it always is, or with its id told again and its fault explained
abbrev pub IsReplyAs : Bool → Option ℕ → List ℕ → List ℕ → Type 0
IsReplyAs false budget = IsReply (IsSpent budget)
IsReplyAs true budget = IsExplained (IsSpent budget)

-- ---- replies of any kind

-- the bytes are replies of this kind to these lines, one for each, in order, each ended by a line feed
abbrev pub AreTold : (List ℕ → List ℕ → Type 0) → List (List ℕ) → List ℕ → Type 0
AreTold Reply [] bytes = bytes ≡ []
AreTold Reply (line ∷ rest) bytes = (text : List ℕ) × (more : List ℕ) × Reply line text × AreTold Reply rest more × (bytes ≡ text ++ line_feed ∷ more)

-- all that came was read, and what was written is one reply line for each of its lines
pub record ToldAll (Reply : List ℕ → List ℕ → Type 0) (read_old read_new write_old write_new : Option (List ℕ)) : Type 0 where
  pub input : List ℕ
  pub output : List ℕ
  pub consumed : Consumes read_old read_new input
  pub ended : IsAtEnd read_new
  pub answered : AreTold Reply (lines input) output
  pub written : Appends write_old write_new output

-- what was written is a beginning of the reply lines to what was read
pub record ToldBeginning (Reply : List ℕ → List ℕ → Type 0) (read_old read_new write_old write_new : Option (List ℕ)) : Type 0 where
  pub input : List ℕ
  pub output : List ℕ
  pub written : List ℕ
  pub unwritten : List ℕ
  pub consumed : Consumes read_old read_new input
  pub answered : AreTold Reply (lines input) output
  pub split : output ≡ written ++ unwritten
  pub appended : Appends write_old write_new written

-- all that came was read, and each of its lines was answered
abbrev pub TellsAll : {R W : Type 0} → (R → Option (List ℕ)) → (W → Option (List ℕ)) → (List ℕ → List ℕ → Type 0)
    → CountedDevice R → CountedDevice R → CountedDevice W → CountedDevice W → Type 0
TellsAll remaining contents Reply reader_old reader_new writer_old writer_new =
    ToldAll Reply (bytes_of remaining reader_old) (bytes_of remaining reader_new)
    (bytes_of contents writer_old) (bytes_of contents writer_new)

-- what was written is a beginning of the replies to what was read
abbrev pub TellsBeginning : {R W : Type 0} → (R → Option (List ℕ)) → (W → Option (List ℕ)) → (List ℕ → List ℕ → Type 0)
    → CountedDevice R → CountedDevice R → CountedDevice W → CountedDevice W → Type 0
TellsBeginning remaining contents Reply reader_old reader_new writer_old writer_new =
    ToldBeginning Reply (bytes_of remaining reader_old) (bytes_of remaining reader_new)
    (bytes_of contents writer_old) (bytes_of contents writer_new)

-- ---- replies as they always are

-- the bytes are the replies of the line tool to these lines, one for each, in order, each ended by a line feed
abbrev pub AreSolved : Option ℕ → List (List ℕ) → List ℕ → Type 0
AreSolved budget = AreTold (IsReply (IsSpent budget))

-- all that came was read, and what was written is one reply line for each of its lines
abbrev pub ServedAll : Option ℕ → Option (List ℕ) → Option (List ℕ) → Option (List ℕ) → Option (List ℕ) → Type 0
ServedAll budget = ToldAll (IsReply (IsSpent budget))

-- what was written is a beginning of the reply lines to what was read
abbrev pub ServedBeginning : Option ℕ → Option (List ℕ) → Option (List ℕ) → Option (List ℕ) → Option (List ℕ) → Type 0
ServedBeginning budget = ToldBeginning (IsReply (IsSpent budget))

-- all that came was read, and each of its lines was answered
abbrev pub ServesAll : {R W : Type 0} → (R → Option (List ℕ)) → (W → Option (List ℕ)) → Option ℕ
    → CountedDevice R → CountedDevice R → CountedDevice W → CountedDevice W → Type 0
ServesAll remaining contents budget = TellsAll remaining contents (IsReply (IsSpent budget))

-- what was written is a beginning of the replies to what was read
abbrev pub ServesBeginning : {R W : Type 0} → (R → Option (List ℕ)) → (W → Option (List ℕ)) → Option ℕ
    → CountedDevice R → CountedDevice R → CountedDevice W → CountedDevice W → Type 0
ServesBeginning remaining contents budget = TellsBeginning remaining contents (IsReply (IsSpent budget))

-- ---- the lines of an output, and two outputs for the same lines

-- each of these texts is the reply to the line at its place, and no line is without one
abbrev pub AreReplies : (List ℕ → List ℕ → Type 0) → List (List ℕ) → List (List ℕ) → Type 0
AreReplies Reply [] [] = Unit {0}
AreReplies Reply [] (text ∷ texts) = ⊥
AreReplies Reply (line ∷ rest) [] = ⊥
AreReplies Reply (line ∷ rest) (text ∷ texts) = Reply line text × AreReplies Reply rest texts

-- the reply that says that memory ran out
abbrev pub memory_text : Bool → List ℕ
memory_text false = fault_text OutOfMemory
memory_text true = fault_told OutOfMemory None

-- the bytes are the same, or a line of one of them says that memory ran out
abbrev pub AreSameBut : Bool → List ℕ → List ℕ → Type 0
AreSameBut explain a b = (a ≡ b) ⊎ Contains (lines a) (memory_text explain) ⊎ Contains (lines b) (memory_text explain)
