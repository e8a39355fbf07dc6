-- How the filling of a file ends.
use Rattle.std.proofs.Common.{◌≡◌, ℕ, Bool, inr, sym, subst, List, Option}
use Rattle.std.specs.Prelude.{IfErr, OnOk, Result, Ok, Err}
use Rattle.dd_lines.specs.declared.counted_device.CountedDevice.{CountedDevice}
use Rattle.dd_file.specs.declared.engine.FileFault.{FileFault}
use Rattle.dd_file.specs.declared.engine.FileFault.TheVariants.{Read, Write, Memory}
use Rattle.dd_file.specs.declared.wanted.Wanted.{Wanted}
use Rattle.dd_fill.specs.Served.{FilledSaying, Fills}
use Rattle.dd_streams.specs.declared.ending.Ending.{Ending}
use Rattle.dd_streams.specs.Endings.{Device, EndsFilling, Writes, ending_of, line_of, sink_of, state_of, streams}

-- so a filling ends, by what the filler answers
pub ends-filling : {R W : Type 0} (spent : Type 0) (wanted : Wanted) (shows : Bool) (remaining : R → Option (List ℕ)) (contents : W → Option (List ℕ)) (reader reader2 : CountedDevice R)
    (writer writer2 : CountedDevice W) (errors between errors2 : Device) (result : Result (Unit {0}) FileFault) (ending : Ending) → ending ≡ ending_of result
    → Fills remaining contents spent wanted shows reader reader2 writer writer2 (sink_of errors) (sink_of between) result → OnOk result (errors2 ≡ between)
    → IfErr result (λ _. Writes (line_of ending) between errors2)
    → EndsFilling spent wanted shows (streams (state_of remaining reader) (state_of contents writer) errors) (streams (state_of remaining reader2) (state_of contents writer2) errors2) ending
ends-filling spent wanted shows remaining contents reader reader2 writer writer2 errors between errors2 (Ok done) ending is fills silent said =
    subst (EndsFilling spent wanted shows (streams (state_of remaining reader) (state_of contents writer) errors) (streams (state_of remaining reader2) (state_of contents writer2) errors2)) (sym is)
    (record {
      filled = subst (λ (d : Device). FilledSaying spent wanted shows (state_of remaining reader).bytes (state_of remaining reader2).bytes (state_of contents writer).bytes (state_of contents writer2).bytes
          (sink_of errors) (sink_of d)) (sym silent) fills.ok;
      reads = fills.first.0;
      writes = fills.first.1;
    })
ends-filling spent wanted shows remaining contents reader reader2 writer writer2 errors between errors2 (Err Read) ending is fills silent said =
    subst (EndsFilling spent wanted shows (streams (state_of remaining reader) (state_of contents writer) errors) (streams (state_of remaining reader2) (state_of contents writer2) errors2)) (sym is)
    (record { noted = between; filled = fills.err; reads = fills.first.0; writes = fills.first.1; said = subst (λ e. Writes (line_of e) between errors2) is said })
ends-filling spent wanted shows remaining contents reader reader2 writer writer2 errors between errors2 (Err Write) ending is fills silent said =
    subst (EndsFilling spent wanted shows (streams (state_of remaining reader) (state_of contents writer) errors) (streams (state_of remaining reader2) (state_of contents writer2) errors2)) (sym is)
    (record { noted = between; filled = fills.err; reads = fills.first.0; writes = fills.first.1; said = subst (λ e. Writes (line_of e) between errors2) is said })
ends-filling spent wanted shows remaining contents reader reader2 writer writer2 errors between errors2 (Err Memory) ending is fills silent said =
    subst (EndsFilling spent wanted shows (streams (state_of remaining reader) (state_of contents writer) errors) (streams (state_of remaining reader2) (state_of contents writer2) errors2)) (sym is)
    (inr (record { noted = between; filled = fills.err; reads = fills.first.0; writes = fills.first.1; said = subst (λ e. Writes (line_of e) between errors2) is said }))
