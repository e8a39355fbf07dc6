use Rattle.std.proofs.Common.{◌≡◌, ◌∙◌, ap, subst, sym, None}
use Rattle.dd_book.specs.Jobs.{JobOf, parts_of}
use Rattle.dd_book.specs.Next.{next_part}
use Rattle.dd_book.proofs.NextPart.{next-none, parts-none}
use Rattle.dd_book.proofs.job.Job.next_part.Goals as goal

pub returns-in_default : goal.returns-in_default
returns-in_default c =
    let none = parts-none c.self.inside.stage c.in_default.not-Open in
    subst (λ (job : JobOf). None ≡ next_part job.asked (parts_of job.stage)) c.self.view_is
    (sym (ap (next_part c.self.inside.asked) none ∙ next-none c.self.inside.asked))
