use Rattle.std.proofs.Common.{◌∙◌, ap, sym}
use Rattle.std.specs.Prelude.{is_some}
use Rattle.dd_pbn.specs.Reading.{byte_at}
use Rattle.dd_pbn.proofs.Tags.{begins_tag-read, Gives-some}
use Rattle.dd_pbn.proofs.reading.begins_tag.Goals as goal

pub returns : goal.returns
returns c =
    c.is_some.ensures ∙ Gives-some _ c.after_byte.result _ c.after_byte.ensures
    ∙ ap (λ text. is_some (byte_at 91 text)) c.after_blanks.ensures ∙ sym (begins_tag-read c.args.text.now)
