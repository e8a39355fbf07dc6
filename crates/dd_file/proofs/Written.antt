-- What was written of what comes out, and how a run goes on and ends.
use Rattle.std.proofs.Common.{◌≡◌, ◌∙◌, ℕ, ◌+◌, ◌≤◌, Bool, true, false, List, [], ◌∷◌, ◌++◌, length, refl, sym, ap, subst, arith, append-nil, length-append, drop, Option, Result, Ok, Err}
use Rattle.std.specs.Io.KnownBytes.{Consumes, Appends, Keeps, IsAtEnd}
use Rattle.std.proofs.KnownBytes.{Appends-nil, Appends-trans, Consumes-nil, Consumes-trans, Consumes-kept}
use Rattle.dd_cards.specs.Hands.{FourHands}
use Rattle.std.specs.Prelude.{IfErr, OnErr, OnOk}
use Rattle.dd_lines.specs.CountedDevices.{FailedOnce, HasFailed, failures_of}
use Rattle.dd_lines.specs.declared.counted_device.CountedDevice.{CountedDevice}
use Rattle.dd_lines.specs.Served.{NoneFailed, WroteText}
use Rattle.dd_file.specs.declared.engine.FileFault.{FileFault}
use Rattle.dd_file.specs.declared.engine.FileFault.TheVariants.{Read, Write, Memory}
use Rattle.dd_file.specs.declared.fill_state.FillState.{FillState}
use Rattle.dd_file.specs.declared.filler.Filler.{Filler}
use Rattle.dd_file.specs.declared.mode.Mode.{Mode}
use Rattle.dd_file.specs.declared.mode.Mode.TheVariants.{Head}
use Rattle.dd_file.specs.Games.{ends, first_state, next_state}
use Rattle.dd_file.specs.declared.wanted.Wanted.{Wanted}
use Rattle.dd_file.specs.Filled.{Found, AreAnswers, answers_after, ask_of, asked_here, asks_from, ends_last, filled, filled_from, first_of, state_here, text_here}
use Rattle.dd_file.specs.Marked.{begins_within, is_closed, left_within, marked}
use Rattle.dd_file.specs.Modes.{next_mode}
use Rattle.dd_file.specs.Notes.{games_of, notes_of}
use Rattle.dd_file.specs.Notices.{Notice, Hears, games_in_all}
use Rattle.dd_file.specs.Passing.{AddsLast}
use Rattle.dd_file.specs.Served.{FilledAll, FilledBeginning, FilledTelling, MayFollow, FailedWriteBy, StopsAtFirstFailure, StopsAtWrite, most_held}
use Rattle.dd_file.specs.Told.{GameNotes, first_notes, told_from, told_last}
use Rattle.dd_file.specs.Windows.{Place, Point, point_of, place_of, first_place, first_point, marked_at, Follows, Passed, Ended, Begun, HearsSome, PassesFront, Stops, WritesFront, WritesLast, WritesBegun}
use Rattle.dd_file.proofs.Heard.{Hears-append, Hears-one}
use Rattle.dd_file.proofs.Going.{Passed-any, Passed-none, Passed-then, Passed-more, Ended-last, Ended-then}
use Rattle.dd_file.proofs.Stopped.{Begun-ended, Begun-none, Begun-part, Begun-then, front-then-stops}

-- where no game is answered, no line is added
no-lines : (here : Bool) (wanted : Wanted) (state : FillState) → text_here here wanted state [] ≡ []
no-lines true wanted state = refl
no-lines false wanted state = refl

no-more : (here : Bool) → answers_after here (let l : List (Option Found) = [] in l) ≡ []
no-more true = refl
no-more false = refl

unanswered : (wanted : Wanted) (bytes : List ℕ) (left : ℕ) (mode : Mode) (state : FillState) → filled_from wanted [] state (marked left mode bytes) ≡ bytes
unfolding filled_from marked
unanswered wanted [] left mode state = no-lines (ends_last (is_closed left mode) state) wanted state
unanswered wanted (b ∷ rest) left mode state =
    let mark = begins_within left mode (b ∷ rest) in
    let next = next_state (state_here (ends state mark) state) mark b in
    ap (λ (l : List ℕ). l ++ b ∷ filled_from wanted (answers_after (ends state mark) []) next (marked (left_within left mark) (next_mode mode b) rest)) (no-lines (ends state mark) wanted state)
    ∙ ap (λ (a : List (Option Found)). b ∷ filled_from wanted a next (marked (left_within left mark) (next_mode mode b) rest)) (no-more (ends state mark))
    ∙ ap (λ (l : List ℕ). b ∷ l) (unanswered wanted rest (left_within left mark) (next_mode mode b) next)

module _ {S : Type 0} (gives : FourHands → Option (List (List ℕ)) → Type 0) (way : S → Notice → S → Type 0) where
  -- ---- one stretch
  -- nothing was written
  pub WritesBegun-none : (is_all : Bool) (old : Filler) (s : S) (before : List ℕ) (w0 : Option (List ℕ)) → WritesBegun gives way is_all old s s before w0 w0
  WritesBegun-none is_all old s before w0 = record { written = []; appended = Appends-nil w0; begun = Begun-none gives way old.wanted is_all (place_of old s) s before refl }

  -- and what came out is lost
  pub WritesBegun-stopped : (is_all : Bool) (old : Filler) (s t : S) (slice window : List ℕ) (w0 : Option (List ℕ)) → slice ≡ window → Stops gives way is_all old s t slice
      → WritesBegun gives way is_all old s t window w0 w0
  WritesBegun-stopped is_all old s t slice window w0 is stops =
      record { written = []; appended = Appends-nil w0; begun = subst (λ (l : List ℕ). Stops gives way is_all old s t l) is stops }

  -- and nothing was to be
  pub WritesFront-none : (old : Filler) (s : S) (before : List ℕ) (w0 : Option (List ℕ)) → WritesFront gives way old old s s before before w0 w0
  WritesFront-none old s before w0 = record { wanted = refl; text = []; written = Appends-nil w0; passed = Passed-none gives way old.wanted false (place_of old s) before }

  -- the text was written
  pub WritesFront-wrote : (old new : Filler) (s t : S) (before after left text slice : List ℕ) (w0 w1 : Option (List ℕ)) → PassesFront gives way false old new s t before after [] text → slice ≡ text
      → left ≡ after → Appends w0 w1 slice → WritesFront gives way old new s t before left w0 w1
  WritesFront-wrote old new s t before after left text slice w0 w1 front is rest wrote =
      record {
        wanted = front.wanted;
        text = front.text;
        written = subst (Appends w0 w1) (is ∙ front.appended) wrote;
        passed = subst (λ (l : List ℕ). Passed gives way false old.wanted (place_of old s) (place_of new t) before l front.text) (sym rest) front.passed;
      }

  -- a beginning of it was
  pub WritesBegun-front : (old new : Filler) (s t : S) (before after text slice : List ℕ) (w0 w1 : Option (List ℕ)) → PassesFront gives way false old new s t before after [] text → slice ≡ text
      → WroteText w0 w1 slice → WritesBegun gives way false old s t before w0 w1
  WritesBegun-front old new s t before after text slice w0 w1 front is wrote =
      record {
        written = wrote.written;
        appended = wrote.appended;
        begun = Begun-part gives way old.wanted false (place_of old s) (place_of new t) before after front.text wrote.written wrote.unwritten front.passed (sym (is ∙ front.appended) ∙ wrote.split);
      }

  -- all of it was, and then memory ran out
  pub WritesBegun-whole : (old new : Filler) (s t : S) (before after text slice : List ℕ) (w0 w1 : Option (List ℕ)) → PassesFront gives way false old new s t before after [] text → slice ≡ text
      → Appends w0 w1 slice → WritesBegun gives way false old s t before w0 w1
  WritesBegun-whole old new s t before after text slice w0 w1 front is wrote =
      WritesBegun-front old new s t before after text slice w0 w1 front is (record { written = slice; unwritten = []; split = sym (append-nil slice); appended = wrote })

  -- by the slice that the window is
  pub front-of-window : (old new : Filler) (s t : S) (slice window : List ℕ) (count : ℕ) (text : List ℕ) → slice ≡ window → PassesFront gives way false old new s t slice (drop count slice) [] text
      → PassesFront gives way false old new s t window (drop count window) [] text
  front-of-window old new s t slice window count text is front = subst (λ (l : List ℕ). PassesFront gives way false old new s t l (drop count l) [] text) is front

  -- from a state of the analyst that is the same
  pub front-from : (is_all : Bool) (old new : Filler) (r s t : S) (before after o0 o1 : List ℕ) → r ≡ s → PassesFront gives way is_all old new r t before after o0 o1
      → PassesFront gives way is_all old new s t before after o0 o1
  front-from is_all old new r s t before after o0 o1 same front = subst (λ (x : S). PassesFront gives way is_all old new x t before after o0 o1) same front

  pub ended-from : (wanted : Wanted) (old : Filler) (r s t : S) (games : ℕ) (before text : List ℕ) → r ≡ s → Ended gives way wanted (place_of old r) t games before text
      → Ended gives way wanted (place_of old s) t games before text
  ended-from wanted old r s t games before text same ended = subst (λ (x : S). Ended gives way wanted (place_of old x) t games before text) same ended

  pub stops-from : (is_all : Bool) (old : Filler) (r s t : S) (before : List ℕ) → r ≡ s → Stops gives way is_all old r t before → Stops gives way is_all old s t before
  stops-from is_all old r s t before same stops = subst (λ (x : S). Stops gives way is_all old x t before) same stops

  -- ---- the last stretch
  -- the rest of the file, and the lines of a last game
  pub Ended-front : (old mid : Filler) (s t u : S) (window after o0 o1 o2 : List ℕ) → o0 ≡ [] → after ≡ [] → PassesFront gives way true old mid s t window after o0 o1
      → AddsLast gives way (is_closed mid.left mid.mode) mid t u o1 o2 → Ended gives way old.wanted (place_of old s) u (games_of mid) window o2
  Ended-front old mid s t u window after o0 o1 o2 none all front last =
      let closed = is_closed mid.left mid.mode in
      let right = subst (λ (w : Wanted). AreAnswers gives (asked_here (ends_last closed mid.state) (ask_of w mid.state)) last.answers) front.wanted last.right in
      let hears = subst (λ (w : Wanted). Hears way t (told_last closed w mid.state (notes_of mid) (first_of last.answers)) u) front.wanted last.hears in
      let passed = subst (λ (l : List ℕ). Passed gives way true old.wanted (place_of old s) (place_of mid t) window l front.text) all front.passed in
      let same : o2 ≡ front.text ++ text_here (ends_last closed mid.state) old.wanted mid.state last.answers =
      last.text ∙ ap (λ o. o ++ text_here (ends_last closed mid.state) mid.wanted mid.state last.answers) (front.appended ∙ ap (λ o. o ++ front.text) none)
      ∙ ap (λ w. front.text ++ text_here (ends_last closed mid.state) w mid.state last.answers) front.wanted in
      subst (λ (l : List ℕ). Ended gives way old.wanted (place_of old s) u (games_of mid) window l) (sym same)
      (Ended-last gives way old.wanted (place_of old s) (place_of mid t) u window front.text last.answers passed right hears)

  pub WritesLast-wrote : (old : Filler) (s t u : S) (games told : ℕ) (window text slice : List ℕ) (w0 w1 : Option (List ℕ)) → Ended gives way old.wanted (place_of old s) t games window text
      → told ≡ games → way t (games_in_all told) u → slice ≡ text → Appends w0 w1 slice → WritesLast gives way old s u window w0 w1
  WritesLast-wrote old s t u games told window text slice w0 w1 ended same counted is wrote =
      record {
        text = text;
        games = games;
        heard = t;
        written = subst (Appends w0 w1) is wrote;
        ended = ended;
        counted = subst (λ (n : ℕ). way t (games_in_all n) u) same counted;
      }

  pub WritesBegun-last : (old : Filler) (s t u : S) (games told : ℕ) (window text slice : List ℕ) (w0 w1 : Option (List ℕ)) → Ended gives way old.wanted (place_of old s) t games window text
      → told ≡ games → way t (games_in_all told) u → slice ≡ text → WroteText w0 w1 slice → WritesBegun gives way true old s u window w0 w1
  WritesBegun-last old s t u games told window text slice w0 w1 ended same counted is wrote =
      record {
        written = wrote.written;
        appended = wrote.appended;
        begun = Begun-ended gives way old.wanted (place_of old s) t u games window text wrote.written wrote.unwritten ended (subst (λ (n : ℕ). way t (games_in_all n) u) same counted)
            (sym is ∙ wrote.split);
      }

  -- ---- the run
  -- what was read has come out but for the window
  pub record Filling (wanted : Wanted) (filler : Filler) (s t : S) (window : List ℕ) (r0 r1 w0 w1 : Option (List ℕ)) : Type 0 where
    pub same : filler.wanted ≡ wanted
    pub input : List ℕ
    pub text : List ℕ
    pub consumed : Consumes r0 r1 input
    pub written : Appends w0 w1 text
    pub passed : Passed gives way false wanted (first_place s) (place_of filler t) input window text

  pub Filling-begun : (wanted : Wanted) (filler : Filler) (s : S) (window : List ℕ) (r0 w0 : Option (List ℕ)) → filler.wanted ≡ wanted → place_of filler s ≡ first_place s → window ≡ []
      → Filling wanted filler s s window r0 r0 w0 w0
  Filling-begun wanted filler s window r0 w0 same first none =
      record {
        same = same;
        input = [];
        text = [];
        consumed = Consumes-nil r0;
        written = Appends-nil w0;
        passed = subst (λ (l : List ℕ). Passed gives way false wanted (first_place s) (place_of filler s) [] l []) (sym none)
            (subst (λ (p : Place S). Passed gives way false wanted (first_place s) p [] [] []) (sym first) (Passed-none gives way wanted false (first_place s) []));
      }

  -- with the piece that was read
  further : (wanted : Wanted) (filler : Filler) (s t : S) (window piece : List ℕ) (r0 r1 w0 w1 : Option (List ℕ)) (before : Filling wanted filler s t window r0 r1 w0 w1)
      → Passed gives way false wanted (first_place s) (place_of filler t) (before.input ++ piece) (window ++ piece) before.text
  further wanted filler s t window piece r0 r1 w0 w1 before = Passed-more gives way wanted (first_place s) (place_of filler t) before.input window piece before.text before.passed

  pub Filling-further : (wanted : Wanted) (old new : Filler) (s t u : S) (window piece after : List ℕ) (r0 r1 r2 w0 w1 w2 : Option (List ℕ)) → Filling wanted old s t window r0 r1 w0 w1
      → Consumes r1 r2 piece → WritesFront gives way old new t u (window ++ piece) after w1 w2 → Filling wanted new s u after r0 r2 w0 w2
  Filling-further wanted old new s t u window piece after r0 r1 r2 w0 w1 w2 before read front =
      record {
        same = front.wanted ∙ before.same;
        input = before.input ++ piece;
        text = before.text ++ front.text;
        consumed = Consumes-trans r0 r1 r2 before.input piece before.consumed read;
        written = Appends-trans w0 w1 w2 before.text front.text before.written front.written;
        passed = Passed-then gives way wanted false (first_place s) (place_of old t) (place_of new u) (before.input ++ piece) (window ++ piece) after before.text front.text
            (further wanted old s t window piece r0 r1 w0 w1 before)
            (subst (λ (w : Wanted). Passed gives way false w (place_of old t) (place_of new u) (window ++ piece) after front.text) before.same front.passed);
      }

  pub Filling-ended : (wanted : Wanted) (filler : Filler) (s t u : S) (window slice : List ℕ) (r0 r1 r2 w0 w1 w2 : Option (List ℕ)) → Filling wanted filler s t window r0 r1 w0 w1 → Consumes r1 r2 []
      → IsAtEnd r2 → slice ≡ window → WritesLast gives way filler t u slice w1 w2 → FilledTelling gives way wanted s u r0 r2 w0 w2
  Filling-ended wanted filler s t u window slice r0 r1 r2 w0 w1 w2 before read end is last =
      let ended = Ended-then gives way wanted (first_place s) (place_of filler t) last.heard last.games before.input window before.text last.text before.passed
      (subst (λ (w : Wanted). Ended gives way w (place_of filler t) last.heard last.games window last.text) before.same
      (subst (λ (l : List ℕ). Ended gives way filler.wanted (place_of filler t) last.heard last.games l last.text) is last.ended)) in
      record {
        input = before.input;
        answers = ended.answers;
        consumed = subst (Consumes r0 r2) (append-nil before.input) (Consumes-trans r0 r1 r2 before.input [] before.consumed read);
        ended = end;
        answered = ended.right;
        written = subst (Appends w0 w2) (sym (ap (λ a. filled_from wanted a first_point.state (marked_at first_point before.input)) (sym (append-nil ended.answers)) ∙ ended.fills []))
            (Appends-trans w0 w1 w2 before.text last.text before.written last.written);
        told = subst (λ (l : List Notice). Hears way s l u)
            (sym (ap (λ a. told_from wanted a first_point.state first_notes (marked_at first_point before.input)) (sym (append-nil ended.answers)) ∙ ended.tells []))
            (Hears-append way s last.heard u ended.notices (games_in_all last.games ∷ []) ended.hears (Hears-one way last.heard u _ last.counted));
      }

  -- without what was told
  pub filled-all : (wanted : Wanted) (s t : S) (r0 r1 w0 w1 : Option (List ℕ)) → FilledTelling gives way wanted s t r0 r1 w0 w1 → FilledAll gives wanted r0 r1 w0 w1
  filled-all wanted s t r0 r1 w0 w1 all =
      record { input = all.input; answers = all.answers; consumed = all.consumed; ended = all.ended; answered = all.answered; written = all.written }

  -- a beginning of what comes out, and of what is told, for what was read, and whatever follows
  beginning : (is_all : Bool) (wanted : Wanted) (s t : S) (input written : List ℕ) (r0 r2 w0 w2 : Option (List ℕ)) (fault : FileFault) → ((rest : List ℕ) → MayFollow r2 rest → Follows is_all rest)
      → Consumes r0 r2 input → Appends w0 w2 written → (fault ≡ Read → ⊥) → Begun gives way is_all wanted (first_place s) t input written → FilledBeginning gives way wanted s t r0 r2 w0 w2 fault
  beginning is_all wanted s t input written r0 r2 w0 w2 fault follows read wrote other begun =
      record {
        input = input;
        answers = begun.answers;
        asked = begun.asked;
        written = written;
        notices = begun.notices;
        consumed = read;
        answered = begun.right;
        games = λ rest may. begun.asks rest (follows rest may);
        begun = λ more rest may. begun.fills more rest (follows rest may);
        told = λ more rest may. begun.tells more rest (follows rest may);
        over = begun.over;
        held = λ is. absurd (other is);
        appended = wrote;
        hears = begun.hears;
      }

  pub Filling-piece_failed : (wanted : Wanted) (filler : Filler) (s t u : S) (window piece : List ℕ) (r0 r1 r2 w0 w1 w2 : Option (List ℕ)) (fault : FileFault) → Filling wanted filler s t window r0 r1 w0 w1
      → Consumes r1 r2 piece → (fault ≡ Read → ⊥) → WritesBegun gives way false filler t u (window ++ piece) w1 w2 → FilledBeginning gives way wanted s u r0 r2 w0 w2 fault
  Filling-piece_failed wanted filler s t u window piece r0 r1 r2 w0 w1 w2 fault before read other wrote =
      beginning false wanted s u (before.input ++ piece) (before.text ++ wrote.written) r0 r2 w0 w2 fault (λ rest may. tt)
      (Consumes-trans r0 r1 r2 before.input piece before.consumed read) (Appends-trans w0 w1 w2 before.text wrote.written before.written wrote.appended) other
      (Begun-then gives way wanted false (first_place s) (place_of filler t) u (before.input ++ piece) (window ++ piece) before.text wrote.written
      (further wanted filler s t window piece r0 r1 w0 w1 before)
      (subst (λ (w : Wanted). Begun gives way false w (place_of filler t) u (window ++ piece) wrote.written) before.same wrote.begun))

  pub Filling-last_failed : (wanted : Wanted) (filler : Filler) (s t u : S) (window slice : List ℕ) (r0 r1 r2 w0 w1 w2 : Option (List ℕ)) (fault : FileFault) → Filling wanted filler s t window r0 r1 w0 w1
      → Consumes r1 r2 [] → IsAtEnd r2 → slice ≡ window → (fault ≡ Read → ⊥) → WritesBegun gives way true filler t u slice w1 w2 → FilledBeginning gives way wanted s u r0 r2 w0 w2 fault
  Filling-last_failed wanted filler s t u window slice r0 r1 r2 w0 w1 w2 fault before read end is other wrote =
      beginning true wanted s u before.input (before.text ++ wrote.written) r0 r2 w0 w2 fault (λ rest may. may end)
      (subst (Consumes r0 r2) (append-nil before.input) (Consumes-trans r0 r1 r2 before.input [] before.consumed read))
      (Appends-trans w0 w1 w2 before.text wrote.written before.written wrote.appended) other
      (Begun-then gives way wanted true (first_place s) (place_of filler t) u before.input window before.text wrote.written
      (Passed-any gives way wanted true (first_place s) (place_of filler t) before.input window before.text before.passed)
      (subst (λ (w : Wanted). Begun gives way true w (place_of filler t) u window wrote.written) before.same
      (subst (λ (l : List ℕ). Begun gives way true filler.wanted (place_of filler t) u l wrote.written) is wrote.begun)))

  -- what is held comes out as it is, where no more is answered
  held-length : (wanted : Wanted) (filler : Filler) (s t : S) (window : List ℕ) (r0 r1 w0 w1 : Option (List ℕ)) (before : Filling wanted filler s t window r0 r1 w0 w1) → length window ≤ most_held
      → length (filled wanted before.passed.answers before.input) ≤ length before.text + most_held
  held-length wanted filler s t window r0 r1 w0 w1 before few =
      let p = place_of filler t in
      let whole : filled wanted before.passed.answers before.input ≡ before.text ++ window =
      ap (λ (l : List ℕ). filled_from wanted before.passed.answers first_point.state (marked_at first_point l)) (sym (append-nil before.input))
      ∙ ap (λ (a : List (Option Found)). filled_from wanted a first_point.state (marked_at first_point (before.input ++ []))) (sym (append-nil before.passed.answers))
      ∙ before.passed.fills [] [] tt
      ∙ ap (λ (l : List ℕ). before.text ++ filled_from wanted [] p.point.state (marked_at p.point l)) (append-nil window)
      ∙ ap (λ (l : List ℕ). before.text ++ l) (unanswered wanted window p.point.left p.point.mode p.point.state) in
      let size : length (filled wanted before.passed.answers before.input) ≡ length (before.text ++ window) = ap (λ (l : List ℕ). length l) whole in
      omega (arith, size, few, length-append {A = ℕ})

  pub Filling-read_failed : (wanted : Wanted) (filler : Filler) (s t : S) (window : List ℕ) (r0 r1 r2 w0 w1 : Option (List ℕ)) → Filling wanted filler s t window r0 r1 w0 w1 → Keeps r1 r2
      → length window ≤ most_held → FilledBeginning gives way wanted s t r0 r2 w0 w1 Read
  Filling-read_failed wanted filler s t window r0 r1 r2 w0 w1 before kept few =
      let p = place_of filler t in
      record {
        input = before.input;
        answers = before.passed.answers;
        asked = before.passed.asked;
        written = before.text;
        notices = before.passed.notices;
        consumed = Consumes-kept r0 r1 r2 before.input before.consumed kept;
        answered = before.passed.right;
        games = λ rest may. record { rest = asks_from wanted p.point.state (marked_at p.point (window ++ rest)); split = before.passed.asks rest tt };
        begun = λ more rest may. record { rest = filled_from wanted more p.point.state (marked_at p.point (window ++ rest)); split = before.passed.fills more rest tt };
        told = λ more rest may. record { rest = told_from wanted more p.point.state p.notes (marked_at p.point (window ++ rest)); split = before.passed.tells more rest tt };
        over = before.passed.over;
        held = λ is. held-length wanted filler s t window r0 r1 w0 w1 before few;
        appended = before.written;
        hears = before.passed.hears;
      }

  -- behind what has come out in this stretch
  pub front-then-none : (old mid : Filler) (s t u : S) (window after o0 o1 : List ℕ) → u ≡ t → PassesFront gives way true old mid s t window after o0 o1 → Stops gives way true old s u window
  front-then-none old mid s t u window after o0 o1 same front =
      front-then-stops gives way true old mid s t u window after o0 o1 front (Begun-none gives way mid.wanted true (place_of mid t) u after same)

-- what was heard, whether all came out or memory ran out
pub front-any : {S : Type 0} (gives : FourHands → Option (List (List ℕ)) → Type 0) (way : S → Notice → S → Type 0) (is_all : Bool) (old new : Filler) (s t : S) (before after o0 o1 : List ℕ)
    {E : Type 0} (result : Result (Unit {0}) E) → OnOk result (PassesFront gives way is_all old new s t before after o0 o1) → OnErr result (Stops gives way is_all old s t before) → HearsSome way s t
front-any gives way is_all old new s t before after o0 o1 (Ok done) front stops = record { notices = front.passed.notices; hears = front.passed.hears }
front-any gives way is_all old new s t before after o0 o1 (Err fault) front stops = record { notices = stops.notices; hears = stops.hears }

pub ended-any : {S : Type 0} (gives : FourHands → Option (List (List ℕ)) → Type 0) (way : S → Notice → S → Type 0) (wanted : Wanted) (old : Filler) (s t : S) (games : ℕ) (before text : List ℕ)
    {E : Type 0} (result : Result (Unit {0}) E) → OnOk result (Ended gives way wanted (place_of old s) t games before text) → OnErr result (Stops gives way true old s t before) → HearsSome way s t
ended-any gives way wanted old s t games before text (Ok done) ended stops = record { notices = ended.notices; hears = ended.hears }
ended-any gives way wanted old s t games before text (Err fault) ended stops = record { notices = stops.notices; hears = stops.hears }

-- a new filler stands before the first byte
pub first-point : (filler : Filler) → filler.state ≡ first_state → filler.left ≡ 0 → filler.mode ≡ Head → point_of filler ≡ first_point
first-point filler state left mode =
    ap (λ (m : Mode). (let p : Point = record { state = filler.state; left = filler.left; mode = m } in p)) mode
    ∙ ap (λ (n : ℕ). (let p : Point = record { state = filler.state; left = n; mode = Head } in p)) left
    ∙ ap (λ (s : FillState). (let p : Point = record { state = s; left = 0; mode = Head } in p)) state

-- and nothing is noted yet
pub first-place : {S : Type 0} (filler : Filler) (s : S) → point_of filler ≡ first_point → notes_of filler ≡ first_notes → place_of filler s ≡ first_place s
first-place {S} filler s point notes =
    ap (λ (p : Point). (let q : Place S = record { point = p; notes = notes_of filler; heard = s } in q)) point
    ∙ ap (λ (n : GameNotes). (let q : Place S = record { point = first_point; notes = n; heard = s } in q)) notes

-- what holds in any case holds at an error
pub at-error : {A E P : Type 0} (result : Result A E) → P → OnErr result P
at-error (Ok done) holds = tt
at-error (Err fault) holds = holds

-- ---- the calls that failed
pub stops-written : {R W : Type 0} (r0 r1 : CountedDevice R) (w0 w1 w2 : CountedDevice W) (result : Result (Unit {0}) FileFault) → NoneFailed r0 r1 → NoneFailed w0 w1 → StopsAtWrite w1 w2 result
    → StopsAtFirstFailure r0 r1 w0 w2 result
stops-written r0 r1 w0 w1 w2 (Ok done) reads writes fault = (reads, fault ∙ writes)
stops-written r0 r1 w0 w1 w2 (Err Read) reads writes fault = absurd fault
stops-written r0 r1 w0 w1 w2 (Err Write) reads writes fault = (reads, subst (λ n. FailedOnce n (failures_of w2)) writes fault)
stops-written r0 r1 w0 w1 w2 (Err Memory) reads writes fault = (reads, fault ∙ writes)

-- a fault of the writer tells of a failed write
pub write-failed : {R W : Type 0} (r0 r1 : CountedDevice R) (w0 w2 : CountedDevice W) (result : Result (Unit {0}) FileFault) → StopsAtFirstFailure r0 r1 w0 w2 result → result ≡ Err Write → HasFailed w0 w2
write-failed r0 r1 w0 w2 (Ok done) stops is = absurd cc
write-failed r0 r1 w0 w2 (Err Read) stops is = absurd cc
write-failed r0 r1 w0 w2 (Err Write) stops is = stops.1.failed
write-failed r0 r1 w0 w2 (Err Memory) stops is = absurd cc

-- and a run that only a write or memory ended by none of the reader
pub no-read-failed : {W : Type 0} (w1 w2 : CountedDevice W) (result : Result (Unit {0}) FileFault) → StopsAtWrite w1 w2 result → result ≡ Err Read → ⊥
no-read-failed w1 w2 (Ok done) fault is = cc
no-read-failed w1 w2 (Err Read) fault is = fault
no-read-failed w1 w2 (Err Write) fault is = cc
no-read-failed w1 w2 (Err Memory) fault is = cc

-- what holds at each fault but that of a read holds at what a write ends
pub at-write : {W P : Type 0} {Q : FileFault → Type 0} (w1 w2 : CountedDevice W) (result : Result (Unit {0}) FileFault) → StopsAtWrite w1 w2 result → OnErr result P
    → ((fault : FileFault) → (fault ≡ Read → ⊥) → P → Q fault) → IfErr result Q
at-write w1 w2 (Ok done) fault holds then = tt
at-write w1 w2 (Err Read) fault holds then = absurd fault
at-write w1 w2 (Err Write) fault holds then = then Write (λ is. cc) holds
at-write w1 w2 (Err Memory) fault holds then = then Memory (λ is. cc) holds

-- and it is no fault of a read
pub other-fault : {W : Type 0} (w1 w2 : CountedDevice W) (e f : FileFault) → e ≡ f → FailedWriteBy w1 w2 f → e ≡ Read → ⊥
other-fault w1 w2 e f same fault is = subst (λ (x : FileFault). FailedWriteBy w1 w2 x) (sym same ∙ is) fault
