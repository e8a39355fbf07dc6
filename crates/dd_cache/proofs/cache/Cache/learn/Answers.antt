use Rattle.std.proofs.Common.{arith}
use Rattle.dd_cache.proofs.Sound.{noted-sound}
use Rattle.dd_cache.proofs.cache.Cache.learn.Goals as goal

pub of-firsts-requires : goal.of-firsts-requires
of-firsts-requires g c = λ u. (let few = c.covered_positions.ensures.few c.args.start.now c.position.ensures.board u in let within = c.requires.within u in omega (arith, few, within))

pub keep-requires : goal.keep-requires
keep-requires g c =
    noted-sound c.covered_positions.ensures.owners c.covered_positions.ensures.counts c.args.start.now c.args.strings.now c.shape.result c.args.depths c.of-firsts.result c.args.interval
    c.position.ensures.board c.position.ensures.start c.requires.strings c.shape.ensures c.of-firsts.ensures.depths c.of-firsts.ensures.owners c.requires.within c.requires.holds
