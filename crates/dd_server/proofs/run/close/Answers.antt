use Rattle.std.proofs.lemmas.List.Sorted.{All-permutation}
use Rattle.dd_server.specs.Callers.{IsCallers}
use Rattle.dd_server.proofs.run.close.Goals as goal

pub returns-in-Ok-clause-callers : goal.returns-in-Ok-clause-callers
returns-in-Ok-clause-callers g c =
    (c.requires.callers.0, All-permutation (IsCallers g.J.Naming.limits g.J.RunNaming.terms c.requires.callers.0) c.args.passes.items c.in-Ok.closed.passes.items c.in-Ok.ensures.passes c.requires.callers.1)
