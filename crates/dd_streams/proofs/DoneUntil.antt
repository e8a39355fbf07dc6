-- What a run on the streams does by its arguments.
use Rattle.std.proofs.Common.{◌≡◌, ℕ, Bool, sym, subst, ap, List, Option, String, Global, inl, inr}
use Rattle.std.specs.Prelude.{string_bytes, Result, Ok, Err}
use Rattle.dd_command.specs.declared.command_line.Args.{Args}
use Rattle.dd_command.specs.declared.command_line.Args.TheVariants.{Fill}
use Rattle.dd_streams.specs.declared.ending.Ending.{Ending}
use Rattle.dd_streams.specs.declared.options.ServeOptions.{ServeOptions}
use Rattle.dd_streams.specs.Endings.{streams, Device, DoneUntil, EndsWithoutServer, FillsUntil, RunsOnStreams, RunsWithoutServer, Streams, Words, Writes, no_server_line}

-- so what arguments of `pbn` ask for is done
pub done-fill : (args : Args) (tags : String Global) (budget : Option ℕ) (entries workers : ℕ) (text : List ℕ) (is_terminal : Bool) (old new : Streams) (ending : Ending)
    → args ≡ Fill tags budget entries workers → text ≡ string_bytes tags → FillsUntil text budget is_terminal old new ending → DoneUntil is_terminal args old new ending
done-fill args tags budget entries workers text is_terminal old new ending is same fills =
    subst (λ a. DoneUntil is_terminal a old new ending) (sym is) (subst (λ t. FillsUntil t budget is_terminal old new ending) same fills)

-- what a run on the streams did, and how it ends without a server, is a run without one
pub runs-without : (arguments : Words) (is_terminal : Bool) (old : Streams) (input output errors last : Device) (run : Result Ending ServeOptions) (ending : Ending)
    → RunsOnStreams arguments is_terminal old (streams input output errors) run → EndsWithoutServer run errors last ending
    → RunsWithoutServer arguments is_terminal old (streams input output last) ending
runs-without arguments is_terminal old input output errors last (Ok ends) ending runs (same, silent) =
    inl (subst (λ e. RunsOnStreams arguments is_terminal old (streams input output e) (Ok ending)) (sym silent)
    (subst (λ e. RunsOnStreams arguments is_terminal old (streams input output errors) (Ok e)) (sym same) runs))
runs-without arguments is_terminal old input output errors last (Err options) ending (asks, in_range, still) (bad, said) =
    inr (record {
      options = options;
      asks = asks;
      ends = bad;
      input = ap (λ (s : Streams). s.input) still;
      output = ap (λ (s : Streams). s.output) still;
      said = subst (λ e. Writes no_server_line e last) (ap (λ (s : Streams). s.errors) still) said;
    })
