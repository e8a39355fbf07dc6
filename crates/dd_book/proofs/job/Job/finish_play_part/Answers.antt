use Rattle.std.proofs.Common.{◌≡◌, ◌<◌, ◌∙◌, ap, sym, subst, length, List}
use Rattle.dd_book.specs.declared.parts.Part.{Part}
use Rattle.dd_book.specs.Jobs.{JobOf, parts_of}
use Rattle.dd_book.proofs.Lists.{play-kept}
use Rattle.dd_book.proofs.job.Job.finish_play_part.Goals as goal

pub invariant_of-self-in_default-trace : goal.invariant_of-self-in_default-trace
invariant_of-self-in_default-trace c =
    let same : parts_of c.args.self.now.stage ≡ c.in-Open.parts = ap (λ (j : JobOf). parts_of j.stage) (sym c.self.view_is) ∙ ap parts_of c.in-Open.is in
    let within : c.args.part < length c.in-Open.parts = subst (λ (ps : List Part). c.args.part < length ps) same c.requires in
    play-kept c.self.inside.asked c.in-Play.request c.self.inside.stage c.in-Open.parts c.set.new.self c.args.part c.in-Some.tricks c.in-Play.is c.in-Open.is c.self.invariant within c.in-Some.ensures.1 c.set.ensures
