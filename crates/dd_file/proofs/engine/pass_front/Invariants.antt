use Rattle.std.proofs.Common.{◌-◌, ◌≤◌, drop}
use Rattle.dd_file.specs.Windows.{PassesFront}
use Rattle.dd_file.proofs.engine.pass_front.Given as goal

-- what comes out for the bytes so far stands there
abbrev pub invariant-loop-at : goal.invariant-loop-at
invariant-loop-at g l =
    record {
      within : l.at ≤ l.count;
      front : PassesFront g.A.Analyst.gives g.A.Analyst.way l.is_all l.fn.filler l.filler (g.A.Analyst.state l.fn.analyst) (g.A.Analyst.state l.analyst) l.window (drop l.at l.window) l.fn.out.items l.out.items;
    }

abbrev pub decreases-loop-at : goal.decreases-loop-at
decreases-loop-at g l = l.count - l.at
