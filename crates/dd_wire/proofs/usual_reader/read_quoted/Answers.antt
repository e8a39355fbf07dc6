use Rattle.std.proofs.Common.{◌≡◌, rules}
use Rattle.dd_wire.proofs.UsualValues.{text-is}
use Rattle.dd_wire.proofs.usual_reader.read_quoted.Goals as goal

pub returns : goal.returns
returns c =
    let same : c.in_ok-ok.field-0.now ≡ c.split_at.result.0.now = search rules in
    let is = text-is c.args.text.now c.in_ok-inside.inside.now c.split_at.result.0.now c.split_at.result.1.now c.in_ok-rest.rest.now c.in_ok-inside.ensures c.split_at.ensures.by_index.0 c.in_ok-rest.ensures
    (rw c.split_at.ensures.front c.plain_len.ensures.plain) c.in_ok-ended.ensures.1 in
    rw (same, c.in_ok-ended.ensures.0) is
