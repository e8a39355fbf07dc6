use Rattle.std.proofs.Common.{◌≡◌, ◌++◌, false, drop}
use Rattle.dd_file.specs.Values.{unescaped}
use Rattle.dd_file.proofs.value.unescaped.Given as goal

-- what stands there and what is left come to the whole
abbrev pub invariant-loop-byte : goal.invariant-loop-byte
invariant-loop-byte l = l.text.items ++ unescaped l.is_behind_backslash (drop l.byte-index l.rest) ≡ unescaped false l.quoted
