use Rattle.std.proofs.Common.{◌<◌, ◌∙◌, List, ℕ, ap, length, refl, rules, arith}
use Rattle.std.proofs.lemmas.Result.{on_ok_weaker, err_from_is_err_and}
use Rattle.dd_file.proofs.Written.{Filling-begun, Filling-further, Filling-ended, Filling-last_failed, Filling-piece_failed, Filling-read_failed, at-write, filled-all, first-place, first-point, stops-written, write-failed, no-read-failed, other-fault}
use Rattle.dd_file.proofs.engine.fill_file.Goals as goal
use Rattle.dd_lines.proofs.CallerLemmas.{nothing_read}

pub loop-init : goal.loop-init
loop-init g c =
    record {
      so_far = Filling-begun g.A.Analyst.gives g.A.Analyst.way _ _ _ _ _ _ c.new-filler.ensures.wanted
          (first-place c.new-filler.result _ (first-point c.new-filler.result c.new-filler.ensures.state c.new-filler.ensures.left c.new-filler.ensures.mode) c.new-filler.ensures.notes) c.new-window.ensures.items;
      reads = refl;
      writes = refl;
      turns = omega arith;
      few = λ some. absurd (omega (arith, some));
      few_held = (let none = ap (λ (l : List ℕ). length l) c.new-window.ensures.items in omega (arith, none));
      room = c.requires;
    }

pub returns-in-Ok-eq0-clause-told : goal.returns-in-Ok-eq0-clause-told
returns-in-Ok-eq0-clause-told g c =
    let none = c.in-Ok-eq0.field-0-test in
    let read = c.in-Ok-eq0.ensures.bytes in
    let room : 0 < length c.read.new.buf = omega arith in
    on_ok_weaker c.write_last.result (λ last. Filling-ended g.A.Analyst.gives g.A.Analyst.way _ _ _ _ _ _ _ _ _ _ _ _ _ c.loop.invariant.so_far (nothing_read _ _ _ _ none read.0) (read.1 none room) c.as_slice.ensures.value last) c.write_last.ensures.ok

pub returns-in-Ok-eq0-clause-ok : goal.returns-in-Ok-eq0-clause-ok
returns-in-Ok-eq0-clause-ok g c =
    on_ok_weaker c.write_last.result (λ all. filled-all g.A.Analyst.gives g.A.Analyst.way _ _ _ _ _ _ _ all) (returns-in-Ok-eq0-clause-told g c)

pub returns-in-Ok-eq0-clause-err : goal.returns-in-Ok-eq0-clause-err
returns-in-Ok-eq0-clause-err g c =
    let none = c.in-Ok-eq0.field-0-test in
    let read = c.in-Ok-eq0.ensures.bytes in
    let room : 0 < length c.read.new.buf = omega arith in
    at-write c.loop.writer c.write_last.new.writer c.write_last.result c.write_last.ensures.fault c.write_last.ensures.err
    (λ fault other wrote. Filling-last_failed g.A.Analyst.gives g.A.Analyst.way _ _ _ _ _ _ _ _ _ _ _ _ _ fault c.loop.invariant.so_far (nothing_read _ _ _ _ none read.0) (read.1 none room) c.as_slice.ensures.value other wrote)

pub returns-in-Ok-eq0-clause-first : goal.returns-in-Ok-eq0-clause-first
returns-in-Ok-eq0-clause-first g c = stops-written c.args.reader.now c.read.new.self c.args.writer.now c.loop.writer c.write_last.new.writer c.write_last.result (c.in-Ok-eq0.ensures.counted.failures ∙ c.loop.invariant.reads) c.loop.invariant.writes c.write_last.ensures.fault

pub returns-in-Ok-eq0-clause-write : goal.returns-in-Ok-eq0-clause-write
returns-in-Ok-eq0-clause-write g c = write-failed c.args.reader.now c.read.new.self c.args.writer.now c.write_last.new.writer c.write_last.result
    (stops-written c.args.reader.now c.read.new.self c.args.writer.now c.loop.writer c.write_last.new.writer c.write_last.result (c.in-Ok-eq0.ensures.counted.failures ∙ c.loop.invariant.reads) c.loop.invariant.writes c.write_last.ensures.fault)

pub returns-in-Ok-eq0-clause-read : goal.returns-in-Ok-eq0-clause-read
returns-in-Ok-eq0-clause-read g c = λ is. absurd (no-read-failed c.loop.writer c.write_last.new.writer c.write_last.result c.write_last.ensures.fault is)

pub returns-in_err-take_piece-in-Ok-clause-err : goal.returns-in_err-take_piece-in-Ok-clause-err
returns-in_err-take_piece-in-Ok-clause-err g c =
    let p = err_from_is_err_and c.from_residual.result c.from_residual.ensures.1 in
    rw p.1 (Filling-piece_failed g.A.Analyst.gives g.A.Analyst.way _ _ _ _ _ _ _ _ _ _ _ _ _ p.0 c.loop.invariant.so_far c.in-Ok.ensures.bytes.0 (other-fault c.loop.writer c.take_piece.new.writer p.0 _ p.2 c.in_err-take_piece-in-Ok.ensures.fault) c.in_err-take_piece-in-Ok.ensures.err)

pub returns-in-Err-clause-err : goal.returns-in-Err-clause-err
returns-in-Err-clause-err g c = Filling-read_failed g.A.Analyst.gives g.A.Analyst.way _ _ _ _ _ _ _ _ _ _ c.loop.invariant.so_far c.in-Err.ensures.bytes c.loop.invariant.few_held

pub loop-preserved : goal.loop-preserved
loop-preserved g c =
    let counted = c.in-Ok.ensures.counted in
    record {
      so_far = Filling-further g.A.Analyst.gives g.A.Analyst.way _ _ _ _ _ _ _ _ _ _ _ _ _ _ _ c.loop.invariant.so_far c.in-Ok.ensures.bytes.0 c.in_ok-take_piece-in-Ok.ensures.ok;
      reads = counted.failures ∙ c.loop.invariant.reads;
      writes = c.in_ok-take_piece-in-Ok.ensures.fault ∙ c.loop.invariant.writes;
      turns = omega (arith, counted.calls, counted.let_through);
      few = λ _. omega (arith, counted.calls, counted.let_through);
      few_held = c.in_ok-take_piece-in-Ok.ensures.held;
      room = search rules;
    }
