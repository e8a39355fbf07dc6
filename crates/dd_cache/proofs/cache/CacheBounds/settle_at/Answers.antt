use Rattle.dd_cache.proofs.Sound.{told-holds, told-within}
use Rattle.dd_cache.proofs.cache.CacheBounds.settle_at.Goals as goal

pub returns-in-Some-clause-told : goal.returns-in-Some-clause-told
returns-in-Some-clause-told g c =
    let own = c.in-Some.ensures.told in
    told-holds c.covered_positions.ensures.owners c.args.start.now c.args.strings.now own.0 c.in-Some.told.1 c.in-Some.told.0 c.position.ensures.board c.position.ensures.start c.requires
    own.1 own.2 own.3 own.4

pub returns-in-Some-clause-within : goal.returns-in-Some-clause-within
returns-in-Some-clause-within g c =
    let own = c.in-Some.ensures.told in
    told-within c.args.start.now c.args.strings.now own.0 c.in-Some.told.1 c.position.ensures.board c.requires own.1 own.3
