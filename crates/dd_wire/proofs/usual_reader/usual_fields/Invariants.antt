use Rattle.std.proofs.Common.{◌≡◌, [], Some}
use Rattle.json.specs.Lex.{after_value}
use Rattle.serde_json.specs.Data.{Members, object}
use Rattle.serde_json.specs.Read.{read}
use Rattle.dd_wire.specs.UsualLines.{AreMembers, members_of}
use Rattle.dd_wire.proofs.usual_reader.usual_fields.Given as goal

-- What the members that are left make of those so far, the line is.
abbrev pub invariant-members : goal.invariant-members
invariant-members l = (new : Members) → AreMembers after_value l.rest (members_of l.fields) new [] → read l.line ≡ Some (object new)
