use Rattle.std.proofs.Common.{rules}
use Rattle.std.specs.Str.{IsUtf8}
use Rattle.dd_wire.specs.UsualLines.{members_of}
use Rattle.dd_wire.proofs.UsualValues.{if-some}
use Rattle.dd_wire.proofs.UsualMeanings.{usual-means}
use Rattle.dd_wire.proofs.usual_asked.usual_asked.Goals as goal

pub returns-clause-means : goal.returns-clause-means
returns-clause-means c =
    let utf8 : IsUtf8 c.args.line.now = search rules in
    if-some _ _ _ c.asked_of.ensures (λ meaning means. usual-means c.args.line.now (members_of c.in_ok-fields.fields) meaning utf8 c.in_ok-fields.ensures.read means.0 means.1)
