use Rattle.std.proofs.Common.{rules}
use Rattle.std.specs.Str.{IsUtf8}
use Rattle.dd_wire.specs.UsualLines.{members_of}
use Rattle.dd_wire.proofs.UsualValues.{if-some}
use Rattle.dd_wire.proofs.UsualMeanings.{usual-wants}
use Rattle.dd_wire.proofs.usual_want.usual_want.Goals as goal

pub returns-clause-means : goal.returns-clause-means
returns-clause-means c =
    let utf8 : IsUtf8 c.args.line.now = search rules in
    if-some _ _ _ c.wanted_of.ensures (λ meaning wanted. usual-wants c.args.line.now (members_of c.in_ok-fields.fields) meaning utf8 c.in_ok-fields.ensures.read wanted)
