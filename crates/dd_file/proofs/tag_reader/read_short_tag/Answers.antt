use Rattle.dd_file.proofs.ShortTags.{short-read}
use Rattle.dd_file.proofs.tag_reader.read_short_tag.Goals as goal

pub returns : goal.returns
returns c =
    short-read c.args.text.now c.in_ok-inner.inner.now c.after_name_bytes-after.result.now c.in_ok-opened.opened.now c.in_ok-string.string.now c.after_quoted-last.result.now c.in_ok-closed.closed.now
    c.in_ok-rest.rest.now _ _ c.in_ok-inner.ensures c.after_name_bytes-after.ensures c.in_ok-opened.ensures c.in_ok-string.ensures c.after_quoted-last.ensures c.in_ok-closed.ensures c.in_ok-rest.ensures
    c.if-after-inner.false c.front_of.ensures c.front_of-2.ensures
