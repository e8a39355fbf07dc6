use Rattle.std.proofs.Common.{length}
use Rattle.file_tests.proofs.byte_by_byte.tag_reader.after_name_bytes.Given as goal

abbrev pub decreases-loop-rest : goal.decreases-loop-rest
decreases-loop-rest l = length l.rest
