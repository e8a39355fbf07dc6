-- What a run does, by what it does on the streams.
use Rattle.std.proofs.Common.{refl, subst, inl, inr, Bool, List}
use Rattle.std.specs.Prelude.{Ok, Err}
use Rattle.dd_command.specs.declared.command_line.Args.{Args}
use Rattle.dd_command.specs.declared.command_line.Args.TheVariants.{Fill, Serve, Solve}
use Rattle.dd_desk.specs.Events.{EventOf}
use Rattle.dd_streams.specs.declared.ending.Ending.{Ending}
use Rattle.dd_streams.specs.declared.options.ServeOptions.{ServeOptions}
use Rattle.dd_streams.specs.Endings.{DoneUntil, RunsOnStreams, Streams, Words, serve_by}
use Rattle.dd_program.specs.Endings.{AnswersUntil, Runs, ServesUntil, terms_for}

-- what is done on the streams is done, and who watches is told of nothing
done-so : {S : Type 0} (way : S → List EventOf → S → Type 0) (watcher : S) (is_terminal : Bool) (args : Args) (old new : Streams) (ending : Ending)
    → DoneUntil is_terminal args old new ending → AnswersUntil way watcher watcher is_terminal args old new ending
done-so way watcher is_terminal (Solve budget entries workers explain) old new ending done = (refl, done)
done-so way watcher is_terminal (Serve listen workers shards entries budget events idle websocket allow_stop explain) old new ending done = absurd done
done-so way watcher is_terminal (Fill tags budget entries workers) old new ending done = (refl, done)

-- and so is a run
pub runs-so : {S : Type 0} (way : S → List EventOf → S → Type 0) (watcher : S) (arguments : Words) (is_terminal : Bool) (old new : Streams) (ending : Ending)
    → RunsOnStreams arguments is_terminal old new (Ok ending) → Runs way watcher watcher arguments is_terminal old new ending
runs-so way watcher arguments is_terminal old new ending (inl (args, asked, done)) = inl (args, asked, done-so way watcher is_terminal args old new ending done)
runs-so way watcher arguments is_terminal old new ending (inr (inl (error, nothing, has, shown))) = inr (inl (refl, (error, nothing, has, shown)))
runs-so way watcher arguments is_terminal old new ending (inr (inr (is, out))) = inr (inr (refl, is, out))

-- where a server was asked for with these options, and clients were served by them
pub serves-so : {S : Type 0} (way : S → List EventOf → S → Type 0) (watcher watcher2 : S) (arguments : Words) (is_terminal : Bool) (old between new : Streams) (options : ServeOptions) (ending : Ending)
    → RunsOnStreams arguments is_terminal old between (Err options)
    → ServesUntil way watcher watcher2 (terms_for options.budget options.allow_stop options.explain) options.events between new ending
    → Runs way watcher watcher2 arguments is_terminal old new ending
serves-so way watcher watcher2 arguments is_terminal old between new options ending (asked, in_range, same) serves =
    inl (serve_by options, asked, subst (λ o. ServesUntil way watcher watcher2 (terms_for options.budget options.allow_stop options.explain) options.events o new ending) same serves)
