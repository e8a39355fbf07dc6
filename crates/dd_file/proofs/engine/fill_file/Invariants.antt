use Rattle.std.proofs.Common.{◌≡◌, ◌<◌, ◌≤◌, length}
use Rattle.dd_lines.specs.CountedDevices.{device_of, failures_of, calls_of, most_calls}
use Rattle.dd_file.specs.Served.{most_held}
use Rattle.dd_file.proofs.Written.{Filling}
use Rattle.dd_file.proofs.engine.fill_file.Given as goal

abbrev pub invariant-loop : goal.invariant-loop
invariant-loop g l =
    record {
      so_far : Filling g.A.Analyst.gives g.A.Analyst.way l.fn.wanted l.filler (g.A.Analyst.state l.fn.analyst) (g.A.Analyst.state l.analyst) l.window.items (g.R.Read.remaining (device_of l.fn.reader)) (g.R.Read.remaining (device_of l.reader)) (g.W.Write.contents (device_of l.fn.writer)) (g.W.Write.contents (device_of l.writer));
      reads : failures_of l.reader ≡ failures_of l.fn.reader;
      writes : failures_of l.writer ≡ failures_of l.fn.writer;
      turns : l.counter ≤ calls_of l.reader;
      few : 0 < l.counter → calls_of l.reader ≤ most_calls;
      few_held : length l.window.items ≤ most_held;
      room : 0 < length l.buffer;
    }
