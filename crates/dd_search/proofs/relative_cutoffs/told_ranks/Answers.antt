use Rattle.std.proofs.Common.{◌≤◌, sym, subst}
use Rattle.dd_play.specs.Board.{Board, tricks_left}
use Rattle.dd_rank.specs.Depths.{depth_in}
use Rattle.dd_rank.proofs.CallerLemmas.{told}
use Rattle.dd_search.specs.ClaimsBy.{IsAnswerBy, AnswerBy}
use Rattle.dd_search.proofs.LedByNorth.{told-north}
use Rattle.dd_search.proofs.relative_cutoffs.told_ranks.Goals as goal

pub returns-in-Some-clause-answer : goal.returns-in-Some-clause-answer
returns-in-Some-clause-answer g c =
    let p = c.start-start.result.now in
    let same = c.start-start.ensures.same in
    let asked = c.as_trick_start.ensures.same in
    let relative = c.as_trick_start.ensures.relative in
    let i = c.in-Some.told.0 in
    let d = c.in-Some.told.1 in
    let cards = c.of_depths.result in
    let claims = told cards (depth_in d) p i.lo i.hi c.of_depths.ensures.real relative.start c.of_depths.ensures.depths
    (λ q good a. g.met.B.Bounds.holds c.args.table.now p d i q (subst (λ (r : Board). g.B.Bounds.tells c.args.table.now r d i) asked c.in-Some.ensures.told) good a) in
    let most = subst (λ (r : Board). c.args.need ≤ tricks_left r) (sym same) c.requires.high in
    subst (λ (r : Board). IsAnswerBy r c.args.need c.new.result.cards c.new.result.yes) same
    (subst (λ (a : AnswerBy). IsAnswerBy p c.args.need a.cards a.yes) (sym c.new.ensures) (told-north p i.lo i.hi c.args.need cards relative.leader c.requires.low most c.in-Some.ensures.settles claims))
