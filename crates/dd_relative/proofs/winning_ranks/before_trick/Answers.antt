use Rattle.dd_relative.proofs.Opened.{opens-four}
use Rattle.dd_relative.proofs.winning_ranks.before_trick.Goals as goal

pub returns : goal.returns
returns c = λ l s t f strain.
    opens-four c.args.a c.args.b c.args.c c.args.d c.raised-b_now.result c.raised-c_now.result c.raised-d_now.result c.raised-c_next.result c.raised-d_next.result c.raised-d_last.result c.args.later.now c.joined.result c.joined-2.result
    c.joined-3.result c.joined-4.result c.raised-b_now.ensures c.raised-c_now.ensures c.raised-d_now.ensures c.raised-c_next.ensures c.raised-d_next.ensures c.raised-d_last.ensures c.joined.ensures.top c.joined-2.ensures.top c.joined-3.ensures.top
    c.joined-4.ensures.top c.joined.ensures.cards c.joined-2.ensures.cards c.joined-3.ensures.cards c.joined-4.ensures.cards l s t f strain
