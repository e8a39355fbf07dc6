use Rattle.std.proofs.Common.{◌≡◌, ℕ, sym, subst}
use Rattle.dd_play.specs.Intervals.{Holds}
use Rattle.dd_rank.specs.Depths.{depth_in}
use Rattle.dd_rank.proofs.CallerLemmas.{full-lead}
use Rattle.search_tests.proofs.shard.note_value.Goals as goal

pub note-requires-clause-holds : goal.note-requires-clause-holds
note-requires-clause-holds c = λ q board covers.
    subst (λ (n : ℕ). Holds c.args.bounds n) (sym (full-lead c.args.start.now q (depth_in c.full.result) c.position.ensures.board board c.full.ensures covers)) c.requires
