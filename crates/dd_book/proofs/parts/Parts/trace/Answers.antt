use Rattle.std.proofs.Common.{◌∙◌, ap, sym}
use Rattle.dd_book.specs.Parts.{numbers_in}
use Rattle.dd_book.proofs.Lists.{numbers_in-all}
use Rattle.dd_book.proofs.parts.Parts.trace.Goals as goal

pub returns : goal.returns
returns c =
    let all = sym c.all_ended.ensures ∙ c.if-not-all_ended.false in
    (all, c.gather_numbers.ensures ∙ ap numbers_in c.self.view_is ∙ numbers_in-all c.args.request.now c.args.self.now all c.requires.0 c.requires.1)
