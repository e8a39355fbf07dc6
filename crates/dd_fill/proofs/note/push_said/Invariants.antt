use Rattle.std.proofs.Common.{◌≡◌, ◌+◌, ◌++◌, drop}
use Rattle.std.specs.Prelude.{map}
use Rattle.arrayvec.specs.ArrayVec.{array_vec_len}
use Rattle.dd_fill.specs.Notes.{said_byte}
use Rattle.dd_fill.proofs.note.push_said.Given as goal

-- what stands there and what is left come to the whole
abbrev pub invariant-loop-byte : goal.invariant-loop-byte
invariant-loop-byte l =
    record {
      items : l.note.items ++ map said_byte (drop l.byte-index l.bytes) ≡ l.fn.note.items ++ map said_byte l.bytes;
      len : array_vec_len l.note ≡ array_vec_len l.fn.note + l.byte-index;
    }
