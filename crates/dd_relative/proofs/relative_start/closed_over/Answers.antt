use Rattle.std.proofs.Common.{sym, subst, [], ◌∷◌, refl}
use Rattle.dd_cards.specs.Hands.{dealt}
use Rattle.dd_play.specs.Board.{Board}
use Rattle.dd_rank.specs.Alike.{IsAlike}
use Rattle.dd_relative.specs.Gapped.{IsClosing}
use Rattle.dd_relative.specs.Relative.{IsRelative, led_by_north}
use Rattle.dd_relative.proofs.Gapped.{closed-up, closing-none, closing-start, four-over, one-over, three-over, two-over}
use Rattle.dd_relative.proofs.relative_start.closed_over.Goals as goal
use Rattle.dd_relative.proofs.relative_start.closed_over.Goals.{After-one_closed-l-4, After-raised-d_last, After-raised-d_next, After-raised-d_now}

-- with one gap closed
one : (c : After-raised-d_now) → IsClosing (led_by_north c.args.leader c.args.second c.args.third c.args.fourth c.args.strain)
    (led_by_north c.one_closed-l.result.0 c.one_closed-l.result.1 c.one_closed-l.result.2 c.one_closed-l.result.3 c.args.strain) (c.raised-b_now.result ∷ c.raised-c_now.result ∷ c.raised-d_now.result ∷ [])
one c =
    one-over (dealt c.args.leader c.args.second c.args.third c.args.fourth) (dealt c.one_closed-l.result.0 c.one_closed-l.result.1 c.one_closed-l.result.2 c.one_closed-l.result.3) c.args.strain c.args.a c.args.b c.args.c c.args.d
    c.raised-b_now.result c.raised-c_now.result c.raised-d_now.result c.requires c.one_closed-l.ensures c.raised-b_now.ensures c.raised-c_now.ensures c.raised-d_now.ensures

-- .. two
two : (entry : Board) (c : After-raised-d_next)
    → IsClosing entry (led_by_north c.one_closed-l.result.0 c.one_closed-l.result.1 c.one_closed-l.result.2 c.one_closed-l.result.3 c.args.strain) (c.raised-b_now.result ∷ c.raised-c_now.result ∷ c.raised-d_now.result ∷ [])
    → IsClosing entry (led_by_north c.one_closed-l-2.result.0 c.one_closed-l-2.result.1 c.one_closed-l-2.result.2 c.one_closed-l-2.result.3 c.args.strain) (c.raised-c_next.result ∷ c.raised-d_next.result ∷ [])
two entry c before =
    two-over entry (dealt c.one_closed-l.result.0 c.one_closed-l.result.1 c.one_closed-l.result.2 c.one_closed-l.result.3) (dealt c.one_closed-l-2.result.0 c.one_closed-l-2.result.1 c.one_closed-l-2.result.2 c.one_closed-l-2.result.3) c.args.strain
    c.raised-b_now.result c.raised-c_now.result c.raised-d_now.result c.raised-c_next.result c.raised-d_next.result before c.one_closed-l-2.ensures c.raised-c_next.ensures c.raised-d_next.ensures

-- .. three
three : (entry : Board) (c : After-raised-d_last)
    → IsClosing entry (led_by_north c.one_closed-l-2.result.0 c.one_closed-l-2.result.1 c.one_closed-l-2.result.2 c.one_closed-l-2.result.3 c.args.strain) (c.raised-c_next.result ∷ c.raised-d_next.result ∷ [])
    → IsClosing entry (led_by_north c.one_closed-l-3.result.0 c.one_closed-l-3.result.1 c.one_closed-l-3.result.2 c.one_closed-l-3.result.3 c.args.strain) (c.raised-d_last.result ∷ [])
three entry c before =
    three-over entry (dealt c.one_closed-l-2.result.0 c.one_closed-l-2.result.1 c.one_closed-l-2.result.2 c.one_closed-l-2.result.3) (dealt c.one_closed-l-3.result.0 c.one_closed-l-3.result.1 c.one_closed-l-3.result.2 c.one_closed-l-3.result.3)
    c.args.strain c.raised-c_next.result c.raised-d_next.result c.raised-d_last.result before c.one_closed-l-3.ensures c.raised-d_last.ensures

-- .. all
all : (entry : Board) (c : After-one_closed-l-4)
    → IsClosing entry (led_by_north c.one_closed-l-3.result.0 c.one_closed-l-3.result.1 c.one_closed-l-3.result.2 c.one_closed-l-3.result.3 c.args.strain) (c.raised-d_last.result ∷ [])
    → IsClosing entry (led_by_north c.one_closed-l-4.result.0 c.one_closed-l-4.result.1 c.one_closed-l-4.result.2 c.one_closed-l-4.result.3 c.args.strain) []
all entry c before =
    four-over entry (dealt c.one_closed-l-3.result.0 c.one_closed-l-3.result.1 c.one_closed-l-3.result.2 c.one_closed-l-3.result.3) (dealt c.one_closed-l-4.result.0 c.one_closed-l-4.result.1 c.one_closed-l-4.result.2 c.one_closed-l-4.result.3)
    c.args.strain c.raised-d_last.result before c.one_closed-l-4.ensures

pub one_closed-l-requires : goal.one_closed-l-requires
one_closed-l-requires c = closing-none _ (dealt c.args.leader c.args.second c.args.third c.args.fourth) (c.args.b ∷ c.args.c ∷ c.args.d ∷ []) c.args.strain c.args.a (closing-start _ _ c.requires)

pub one_closed-l-requires-2 : goal.one_closed-l-requires-2
one_closed-l-requires-2 c =
    let at = goal.at.one_closed-l-requires-2 c in
    closing-none _ (dealt c.one_closed-l.result.0 c.one_closed-l.result.1 c.one_closed-l.result.2 c.one_closed-l.result.3) (c.raised-c_now.result ∷ c.raised-d_now.result ∷ []) c.args.strain c.raised-b_now.result (one at.After-raised-d_now)

pub one_closed-l-requires-3 : goal.one_closed-l-requires-3
one_closed-l-requires-3 c =
    let at = goal.at.one_closed-l-requires-3 c in
    closing-none _ (dealt c.one_closed-l-2.result.0 c.one_closed-l-2.result.1 c.one_closed-l-2.result.2 c.one_closed-l-2.result.3) (c.raised-d_next.result ∷ []) c.args.strain c.raised-c_next.result
    (two _ at.After-raised-d_next (one at.After-raised-d_now))

pub one_closed-l-requires-4 : goal.one_closed-l-requires-4
one_closed-l-requires-4 c =
    let at = goal.at.one_closed-l-requires-4 c in
    closing-none _ (dealt c.one_closed-l-3.result.0 c.one_closed-l-3.result.1 c.one_closed-l-3.result.2 c.one_closed-l-3.result.3) [] c.args.strain c.raised-d_last.result
    (three _ at.After-raised-d_last (two _ at.After-raised-d_next (one at.After-raised-d_now)))

pub led_by_north-requires : goal.led_by_north-requires
led_by_north-requires c =
    let at = goal.at.led_by_north-requires c in
    (all _ at.After-one_closed-l-4 (three _ at.After-raised-d_last (two _ at.After-raised-d_next (one at.After-raised-d_now)))).gapped.board

pub invariant_of-result : goal.invariant_of-result
invariant_of-result c =
    let at = goal.at.invariant_of-result c in
    subst (λ (b : Board). IsRelative b) (sym c.led_by_north.ensures)
    (closed-up _ _ _ _ [] c.args.strain refl (all _ at.After-one_closed-l-4 (three _ at.After-raised-d_last (two _ at.After-raised-d_next (one at.After-raised-d_now)))).gapped)

pub returns : goal.returns
returns c =
    let at = goal.at.returns c in
    subst (λ (b : Board). IsAlike (led_by_north c.args.leader c.args.second c.args.third c.args.fourth c.args.strain) b) (sym c.led_by_north.ensures)
    (all _ at.After-one_closed-l-4 (three _ at.After-raised-d_last (two _ at.After-raised-d_next (one at.After-raised-d_now)))).alike
