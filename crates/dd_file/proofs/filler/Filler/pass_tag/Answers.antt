use Rattle.std.proofs.Common.{◌∙◌, false, ap, refl, rules, take}
use Rattle.dd_file.specs.declared.told_texts.TheConstants.{TOLD_BYTES}
use Rattle.dd_file.specs.Notes.{texts_of}
use Rattle.dd_file.proofs.Noted.{AsksAtEnd-tag, Notes-short, NotesFirst-tag}
use Rattle.dd_file.proofs.ShortTags.{PassesTag-more, PassesTag-none, PassesTag-told}
use Rattle.std.proofs.lemmas.Result.{err_from_is_err_and}
use Rattle.dd_file.proofs.Stopped.{Stops-none, Stops-tag}
use Rattle.dd_file.proofs.filler.Filler.pass_tag.Goals as goal

pub returns-in_default-clause-passes : goal.returns-in_default-clause-passes
returns-in_default-clause-passes g c = PassesTag-none g.A.Analyst.gives g.A.Analyst.way _ _ _ _

pub returns-in_default-read_short_tag-clause-passes : goal.returns-in_default-read_short_tag-clause-passes
returns-in_default-read_short_tag-clause-passes g c = PassesTag-none g.A.Analyst.gives g.A.Analyst.way _ _ _ _

pub returns-then-length-gt-NEAR-clause-passes : goal.returns-then-length-gt-NEAR-clause-passes
returns-then-length-gt-NEAR-clause-passes g c = PassesTag-none g.A.Analyst.gives g.A.Analyst.way _ _ _ _

pub returns-clause-passes : goal.returns-clause-passes
returns-clause-passes g c =
    let ended = c.in_ok-end_here.ensures in
    let whole = c.in_ok-take_whole.ensures in
    let short = c.in-Some-read_short_tag.ensures in
    let keeps = c.take_line_end-behind.ensures.counts in
    PassesTag-more g.A.Analyst.gives g.A.Analyst.way _ _ _ _ _ _ _ _ _ _ _ _ _ _ _ _ _
    (PassesTag-told g.A.Analyst.gives g.A.Analyst.way _ _ _ _ _ _ _ _ _ _ _ _ _ _ _ _ c.in-Some.ensures.left c.in-Some.ensures.mode short c.saturating_sub-length.ensures c.if-length-gt-NEAR.false
    c.known_number-number.ensures.value c.ends_at_tag-ends.ensures ended.ends whole.state whole.mode whole.left whole.wanted refl)
    short c.saturating_sub-length.ensures c.take_line_end-behind.ensures.takes c.saturating_sub-taken.ensures refl refl c.in_ok-extend_from_slice.ensures.items
    (Notes-short c.args.self.now _ _ _ _ _ _ _ _ c.in-Some.ensures.left c.in-Some.ensures.mode short c.saturating_sub-length.ensures c.if-length-gt-NEAR.false
    c.known_number-number.ensures.value c.ends_at_tag-ends.ensures _ (record {
      counted = keeps.number ∙ whole.number ∙ ended.number;
      ended = _;
      ended_is = ended.board;
      board = ap (λ b. take TOLD_BYTES b.items) keeps.board ∙ whole.board;
      state = _;
      state_is = ended.ends.state;
      texts = _;
      texts_is = ended.texts;
      unknown = ap (λ t. texts_of t) keeps.unknown ∙ whole.texts;
    }))
    (search rules)

pub returns-clause-notes : goal.returns-clause-notes
returns-clause-notes g c =
    let ended = c.in_ok-end_here.ensures in
    let whole = c.in_ok-take_whole.ensures in
    let keeps = c.take_line_end-behind.ensures.counts in
    NotesFirst-tag c.args.self.now _ _ _ _ _ _ _ _ c.in-Some.ensures.left c.in-Some.ensures.mode c.in-Some-read_short_tag.ensures c.saturating_sub-length.ensures c.if-length-gt-NEAR.false
    c.known_number-number.ensures.value c.ends_at_tag-ends.ensures _ _ (record {
      counted = keeps.number ∙ whole.number ∙ ended.number;
      ended = _;
      ended_is = ended.board;
      board = ap (λ b. take TOLD_BYTES b.items) keeps.board ∙ whole.board;
      state = _;
      state_is = ended.ends.state;
      texts = _;
      texts_is = ended.texts;
      unknown = ap (λ t. texts_of t) keeps.unknown ∙ whole.texts;
    })

pub returns-clause-asks : goal.returns-clause-asks
returns-clause-asks g c =
    AsksAtEnd-tag c.args.self.now _ _ _ _ _ _ _ _ c.in-Some.ensures.left c.in-Some.ensures.mode c.in-Some-read_short_tag.ensures c.saturating_sub-length.ensures c.if-length-gt-NEAR.false
    c.known_number-number.ensures.value c.ends_at_tag-ends.ensures _ _ c.in_ok-end_here.ensures.asks

pub returns-in_err-end_here-clause-stops : goal.returns-in_err-end_here-clause-stops
returns-in_err-end_here-clause-stops g c =
    let p = err_from_is_err_and c.from_residual.result c.from_residual.ensures.1 in
    rw p.1 (Stops-none g.A.Analyst.gives g.A.Analyst.way false c.args.self.now _ _ c.args.text.now c.in_err-end_here.ensures.stops)

pub returns-in_err-take_whole-clause-stops : goal.returns-in_err-take_whole-clause-stops
returns-in_err-take_whole-clause-stops g c =
    let p = err_from_is_err_and c.from_residual-in_err-take_whole.result c.from_residual-in_err-take_whole.ensures.1 in
    rw p.1 (Stops-tag g.A.Analyst.gives g.A.Analyst.way c.args.self.now _ _ _ _ _ _ _ _ _ _ _ _ _ c.in-Some.ensures.left c.in-Some.ensures.mode c.in-Some-read_short_tag.ensures c.saturating_sub-length.ensures
    c.if-length-gt-NEAR.false c.known_number-number.ensures.value c.ends_at_tag-ends.ensures c.in_ok-end_here.ensures.ends)

pub returns-in_err-extend_from_slice-clause-stops : goal.returns-in_err-extend_from_slice-clause-stops
returns-in_err-extend_from_slice-clause-stops g c =
    let p = err_from_is_err_and c.from_residual-in_err-extend_from_slice.result c.from_residual-in_err-extend_from_slice.ensures.1 in
    rw p.1 (Stops-tag g.A.Analyst.gives g.A.Analyst.way c.args.self.now _ _ _ _ _ _ _ _ _ _ _ _ _ c.in-Some.ensures.left c.in-Some.ensures.mode c.in-Some-read_short_tag.ensures c.saturating_sub-length.ensures
    c.if-length-gt-NEAR.false c.known_number-number.ensures.value c.ends_at_tag-ends.ensures c.in_ok-end_here.ensures.ends)
