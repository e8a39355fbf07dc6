-- From place to place in a file.
use Rattle.std.proofs.Common.{◌≡◌, ◌∙◌, ℕ, zero, suc, ◌+◌, ◌-◌, ◌<◌, ◌≤◌, Bool, true, false, List, [], ◌∷◌, ◌++◌, length, get_or, take, drop, refl, sym, ap, subst, arith, append_assoc, append-nil, length-append, Option, Result, Ok, Err}
use Rattle.std.specs.Prelude.{◌&&◌, nat_le, OnOk, if◌then◌else◌}
use Rattle.std.proofs.lemmas.Bool.Decides.{nat_tests}
use Rattle.std.proofs.lemmas.List.{take-append-le}
use Rattle.dd_cards.specs.Hands.{FourHands}
use Rattle.dd_file.specs.declared.fill_state.FillState.{FillState}
use Rattle.dd_file.specs.declared.filler.Filler.{Filler}
use Rattle.dd_file.specs.declared.mark.TheConstants.{NEAR}
use Rattle.dd_file.specs.declared.mode.Mode.{Mode}
use Rattle.dd_file.specs.declared.wanted.Wanted.{Wanted}
use Rattle.dd_file.specs.Filled.{Ask, Found, AreAnswers, answers_after, ask_at, asked_here, asks_from, ends_last, ask_of, filled_from, first_of, has_place, state_here, text_here}
use Rattle.dd_file.specs.Games.{ends, next_state}
use Rattle.dd_file.specs.Marked.{byte, begins, begins_within, is_closed, left_within, marked}
use Rattle.dd_file.specs.Marks.{Begins, mark_at}
use Rattle.dd_file.specs.Modes.{next_mode}
use Rattle.dd_file.specs.Notes.{Notes, board_of, notes_of, unknown_of}
use Rattle.dd_file.specs.Notices.{Notice, Hears, games_ended, games_in_all, games_over}
use Rattle.dd_file.specs.Passing.{PassesByte, begins_now}
use Rattle.dd_file.specs.Told.{GameNotes, TextsOf, games_in, next_notes, one_more, told_from, told_here, told_last, told_of}
use Rattle.dd_file.specs.Windows.{Point, Place, place_of, point_of, marked_at, Follows, Passed, Ended, PassesFront}
use Rattle.dd_file.proofs.Heard.{Hears-append, games_over-append}
use Rattle.std.proofs.lemmas.Bool.{lt-leb}

-- ---- answers
-- one after another
pub AreAnswers-append : (gives : FourHands → Option (List (List ℕ)) → Type 0) (asks more_asks : List (Option Ask)) (answers more : List (Option Found)) → AreAnswers gives asks answers
    → AreAnswers gives more_asks more → AreAnswers gives (asks ++ more_asks) (answers ++ more)
AreAnswers-append gives [] more_asks [] more right rights = rights
AreAnswers-append gives [] more_asks (answer ∷ answers) more right rights = absurd right
AreAnswers-append gives (ask ∷ asks) more_asks [] more right rights = absurd right
AreAnswers-append gives (ask ∷ asks) more_asks (answer ∷ answers) more right rights = (right.0, AreAnswers-append gives asks more_asks answers more right.1 rights)

-- what is answered here is all that the lines here take of the answers
pub record Takes (here : Bool) (wanted : Wanted) (state : FillState) (answers more : List (Option Found)) : Type 0 where
  pub text : text_here here wanted state (answers ++ more) ≡ text_here here wanted state answers
  pub after : answers_after here (answers ++ more) ≡ more
  pub told : (place : Bool) (notes : GameNotes) → told_here here place wanted state notes (first_of (answers ++ more)) ≡ told_here here place wanted state notes (first_of answers)

pub takes : (gives : FourHands → Option (List (List ℕ)) → Type 0) (here : Bool) (ask : Option Ask) (wanted : Wanted) (state : FillState) (answers more : List (Option Found))
    → AreAnswers gives (asked_here here ask) answers → Takes here wanted state answers more
takes gives true ask wanted state [] more right = absurd right
takes gives true ask wanted state (answer ∷ []) more right = record { text = refl; after = refl; told = λ place notes. refl }
takes gives true ask wanted state (answer ∷ (other ∷ answers)) more right = absurd right.1
takes gives false ask wanted state [] more right = record { text = refl; after = refl; told = λ place notes. refl }
takes gives false ask wanted state (answer ∷ answers) more right = absurd right

-- of each game that was answered all was told
pub over-then : (a b : List (Option Found)) (n m : List Notice) → length a ≤ games_over n → length b ≤ games_over m → length (a ++ b) ≤ games_over (n ++ m)
over-then a b n m first second = (let all = games_over-append n m in omega (arith, all, length-append {A = Option Found}))

pub over-here : (gives : FourHands → Option (List (List ℕ)) → Type 0) (here place : Bool) (ask : Option Ask) (wanted : Wanted) (state : FillState) (notes : GameNotes) (answers : List (Option Found))
    → AreAnswers gives (asked_here here ask) answers → length answers ≤ games_over (told_here here place wanted state notes (first_of answers))
over-here gives true place ask wanted state notes [] right = absurd right
over-here gives true place ask wanted state notes (answer ∷ []) right =
    (let all = games_over-append (told_of place wanted state notes answer) (games_ended notes.number notes.bytes ∷ []) in omega (arith, all))
over-here gives true place ask wanted state notes (answer ∷ (other ∷ answers)) right = absurd right.1
over-here gives false place ask wanted state notes [] right = omega arith
over-here gives false place ask wanted state notes (answer ∷ answers) right = absurd right

over-last : (gives : FourHands → Option (List (List ℕ)) → Type 0) (here : Bool) (ask : Option Ask) (answers : List (Option Found)) → AreAnswers gives (asked_here here ask) answers → length answers ≤ 1
over-last gives true ask [] right = absurd right
over-last gives true ask (answer ∷ []) right = omega arith
over-last gives true ask (answer ∷ (other ∷ answers)) right = absurd right.1
over-last gives false ask [] right = omega arith
over-last gives false ask (answer ∷ answers) right = absurd right

-- what is told of a last game needs no other answers: of one without an end it is the same, whatever is answered
last-told : (gives : FourHands → Option (List (List ℕ)) → Type 0) (closed begun : Bool) (ask : Option Ask) (wanted : Wanted) (state : FillState) (notes : GameNotes) (answers more : List (Option Found))
    → AreAnswers gives (asked_here (closed && begun) ask) answers
    → (if begun then told_of closed wanted state notes (first_of (answers ++ more)) else []) ≡ (if begun then told_of closed wanted state notes (first_of answers) else [])
last-told gives true true ask wanted state notes [] more right = absurd right
last-told gives true true ask wanted state notes (answer ∷ answers) more right = refl
last-told gives false true ask wanted state notes [] more right = refl
last-told gives false true ask wanted state notes (answer ∷ answers) more right = absurd right
last-told gives true false ask wanted state notes answers more right = refl
last-told gives false false ask wanted state notes answers more right = refl

-- ---- what begins
-- what begins at a byte is seen by the bytes that are near
begins-near : (mode : Mode) (is_all : Bool) (window rest : List ℕ) → (is_all ≡ false → NEAR < length window) → Follows is_all rest
    → begins mode (window ++ rest) ≡ mark_at mode (is_all && nat_le (length window) NEAR) (take NEAR window)
begins-near mode true window rest room follows = ap (begins mode) (ap (λ r. window ++ r) follows ∙ append-nil window)
begins-near mode false window rest room follows =
    let long : NEAR < length window = room refl in
    let longer : NEAR < length (window ++ rest) = omega (arith, length-append {A = ℕ}) in
    let enough : NEAR ≤ length window = omega arith in
    ap (λ b. mark_at mode b (take NEAR (window ++ rest))) (lt-leb (length (window ++ rest)) NEAR longer) ∙ ap (mark_at mode false) (take-append-le NEAR window rest enough)

pub begins_within-near : (left : ℕ) (mode : Mode) (is_all : Bool) (window rest : List ℕ) → (is_all ≡ false → NEAR < length window) → Follows is_all rest
    → begins_within left mode (window ++ rest) ≡ begins_now left mode (is_all && nat_le (length window) NEAR) (take NEAR window)
begins_within-near zero mode is_all window rest room follows = begins-near mode is_all window rest room follows
begins_within-near (suc more) mode is_all window rest room follows = refl

-- ---- one byte
pub filled-byte : (wanted : Wanted) (answers : List (Option Found)) (state : FillState) (left : ℕ) (mode : Mode) (b : ℕ) (rest : List ℕ) (mark : Begins) → begins_within left mode (b ∷ rest) ≡ mark
    → filled_from wanted answers state (marked left mode (b ∷ rest))
    ≡ text_here (ends state mark) wanted state answers
    ++ b ∷ filled_from wanted (answers_after (ends state mark) answers) (next_state (state_here (ends state mark) state) mark b) (marked (left_within left mark) (next_mode mode b) rest)
unfolding filled_from marked
filled-byte wanted answers state left mode b rest mark is =
    ap (λ m. filled_from wanted answers state (byte m b (marked (left_within left m) (next_mode mode b) rest))) is

pub asks-byte : (wanted : Wanted) (state : FillState) (left : ℕ) (mode : Mode) (b : ℕ) (rest : List ℕ) (mark : Begins) → begins_within left mode (b ∷ rest) ≡ mark
    → asks_from wanted state (marked left mode (b ∷ rest))
    ≡ asked_here (ends state mark) (ask_at (has_place mark) wanted state)
    ++ asks_from wanted (next_state (state_here (ends state mark) state) mark b) (marked (left_within left mark) (next_mode mode b) rest)
unfolding asks_from marked
asks-byte wanted state left mode b rest mark is =
    ap (λ m. asks_from wanted state (byte m b (marked (left_within left m) (next_mode mode b) rest))) is

pub told-byte : (wanted : Wanted) (answers : List (Option Found)) (state : FillState) (notes : GameNotes) (left : ℕ) (mode : Mode) (b : ℕ) (rest : List ℕ) (mark : Begins)
    → begins_within left mode (b ∷ rest) ≡ mark
    → told_from wanted answers state notes (marked left mode (b ∷ rest))
    ≡ told_here (ends state mark) (has_place mark) wanted state notes (first_of answers)
    ++ told_from wanted (answers_after (ends state mark) answers) (next_state (state_here (ends state mark) state) mark b) (next_notes state mark notes)
    (marked (left_within left mark) (next_mode mode b) rest)
unfolding told_from marked
told-byte wanted answers state notes left mode b rest mark is =
    ap (λ m. told_from wanted answers state notes (byte m b (marked (left_within left m) (next_mode mode b) rest))) is

-- what is noted behind the next byte
pub next-noted : (old new : Filler) (mark : Begins) → Notes old new mark → new.passed ≡ one_more old.passed → notes_of new ≡ next_notes old.state mark (notes_of old)
next-noted old new mark notes passed =
    let next : GameNotes = next_notes old.state mark (notes_of old) in
    ap (λ (n : ℕ). (let g : GameNotes = record { number = n; board = board_of new; texts = unknown_of new; bytes = new.passed } in g)) notes.number
    ∙ ap (λ (l : List ℕ). (let g : GameNotes = record { number = next.number; board = l; texts = unknown_of new; bytes = new.passed } in g)) notes.board
    ∙ ap (λ (t : TextsOf). (let g : GameNotes = record { number = next.number; board = next.board; texts = t; bytes = new.passed } in g)) notes.texts
    ∙ ap (λ (n : ℕ). (let g : GameNotes = record { number = next.number; board = next.board; texts = next.texts; bytes = n } in g)) passed

-- where the next byte is at
next-point : (old new : Filler) (mark : Begins) (b : ℕ) → new.mode ≡ next_mode old.mode b → new.left ≡ left_within old.left mark
    → new.state ≡ next_state (state_here (ends old.state mark) old.state) mark b
    → point_of new ≡ record { state = next_state (state_here (ends old.state mark) old.state) mark b; left = left_within old.left mark; mode = next_mode old.mode b }
next-point old new mark b modes lefts states =
    ap (λ (m : Mode). (let p : Point = record { state = new.state; left = new.left; mode = m } in p)) modes
    ∙ ap (λ (n : ℕ). (let p : Point = record { state = new.state; left = n; mode = next_mode old.mode b } in p)) lefts
    ∙ ap (λ (s : FillState). (let p : Point = record { state = s; left = left_within old.left mark; mode = next_mode old.mode b } in p)) states

-- a byte was passed on
pub Passed-byte : {S : Type 0} (gives : FourHands → Option (List (List ℕ)) → Type 0) (way : S → Notice → S → Type 0) (is_all : Bool) (old new : Filler) (s t : S) (b : ℕ) (tail out_old out_new : List ℕ)
    → (is_all ≡ false → NEAR < length (b ∷ tail)) → notes_of new ≡ next_notes old.state (begins_now old.left old.mode (is_all && nat_le (length (b ∷ tail)) NEAR) (take NEAR (b ∷ tail))) (notes_of old)
    → PassesByte gives way old new s t (begins_now old.left old.mode (is_all && nat_le (length (b ∷ tail)) NEAR) (take NEAR (b ∷ tail))) b out_old out_new
    → PassesFront gives way is_all old new s t (b ∷ tail) tail out_old out_new
Passed-byte {S} gives way is_all old new s t b tail out_old out_new room noted passes =
    let mark = begins_now old.left old.mode (is_all && nat_le (length (b ∷ tail)) NEAR) (take NEAR (b ∷ tail)) in
    let here = ends old.state mark in
    let text = text_here here old.wanted old.state passes.answers in
    let says = told_here here (has_place mark) old.wanted old.state (notes_of old) (first_of passes.answers) in
    let q : Point = record { state = next_state (state_here here old.state) mark b; left = left_within old.left mark; mode = next_mode old.mode b } in
    let m : GameNotes = next_notes old.state mark (notes_of old) in
    let goes : Passed gives way is_all old.wanted (place_of old s) (record { point = q; notes = m; heard = t }) (b ∷ tail) tail (text ++ b ∷ []) = record {
      answers = passes.answers;
      asked = asked_here here (ask_at (has_place mark) old.wanted old.state);
      notices = says;
      right = passes.right;
      over = over-here gives here (has_place mark) (ask_at (has_place mark) old.wanted old.state) old.wanted old.state (notes_of old) passes.answers passes.right;
      hears = passes.hears;
      fills = λ more rest follows.
          (let some = takes gives here (ask_at (has_place mark) old.wanted old.state) old.wanted old.state passes.answers more passes.right in
          filled-byte old.wanted (passes.answers ++ more) old.state old.left old.mode b (tail ++ rest) mark (begins_within-near old.left old.mode is_all (b ∷ tail) rest room follows)
          ∙ ap (λ t. t ++ b ∷ filled_from old.wanted (answers_after here (passes.answers ++ more)) q.state (marked_at q (tail ++ rest))) some.text
          ∙ ap (λ a. text ++ b ∷ filled_from old.wanted a q.state (marked_at q (tail ++ rest))) some.after
          ∙ sym (append_assoc text (b ∷ []) (filled_from old.wanted more q.state (marked_at q (tail ++ rest)))));
      asks = λ rest follows. asks-byte old.wanted old.state old.left old.mode b (tail ++ rest) mark (begins_within-near old.left old.mode is_all (b ∷ tail) rest room follows);
      tells = λ more rest follows.
          (let some = takes gives here (ask_at (has_place mark) old.wanted old.state) old.wanted old.state passes.answers more passes.right in
          told-byte old.wanted (passes.answers ++ more) old.state (notes_of old) old.left old.mode b (tail ++ rest) mark (begins_within-near old.left old.mode is_all (b ∷ tail) rest room follows)
          ∙ ap (λ l. l ++ told_from old.wanted (answers_after here (passes.answers ++ more)) q.state m (marked_at q (tail ++ rest))) (some.told (has_place mark) (notes_of old))
          ∙ ap (λ a. says ++ told_from old.wanted a q.state m (marked_at q (tail ++ rest))) some.after);
    } in
    record {
      wanted = passes.wanted;
      text = text ++ b ∷ [];
      appended = passes.text ∙ append_assoc out_old text (b ∷ []);
      passed = subst (λ (n : GameNotes). Passed gives way is_all old.wanted (place_of old s) (record { point = point_of new; notes = n; heard = t }) (b ∷ tail) tail (text ++ b ∷ [])) (sym noted)
          (subst (λ (p : Point). Passed gives way is_all old.wanted (place_of old s) (record { point = p; notes = m; heard = t }) (b ∷ tail) tail (text ++ b ∷ []))
          (sym (next-point old new mark b passes.mode passes.left passes.state)) goes);
    }

-- the same by what is near
Passed-first : {S : Type 0} (gives : FourHands → Option (List (List ℕ)) → Type 0) (way : S → Notice → S → Type 0) (is_all : Bool) (old new : Filler) (s t : S) (rest near : List ℕ) (near_all : Bool) (out_old out_new : List ℕ)
    → 0 < length rest → (is_all ≡ false → NEAR < length rest) → near ≡ take NEAR rest → near_all ≡ (is_all && nat_le (length rest) NEAR)
    → Notes old new (begins_now old.left old.mode near_all near) → new.passed ≡ one_more old.passed
    → PassesByte gives way old new s t (begins_now old.left old.mode near_all near) (get_or near 0 0) out_old out_new → PassesFront gives way is_all old new s t rest (drop 1 rest) out_old out_new
Passed-first gives way is_all old new s t [] near near_all out_old out_new some room is all notes counted passes = absurd (omega arith)
Passed-first gives way is_all old new s t (b ∷ tail) near near_all out_old out_new some room is all notes counted passes =
    let at : PassesByte gives way old new s t (begins_now old.left old.mode near_all (take NEAR (b ∷ tail))) b out_old out_new =
    subst (λ (l : List ℕ). PassesByte gives way old new s t (begins_now old.left old.mode near_all l) (get_or l 0 0) out_old out_new) is passes in
    let noted : Notes old new (begins_now old.left old.mode (is_all && nat_le (length (b ∷ tail)) NEAR) (take NEAR (b ∷ tail))) =
    subst (λ (a : Bool). Notes old new (begins_now old.left old.mode a (take NEAR (b ∷ tail)))) all
    (subst (λ (l : List ℕ). Notes old new (begins_now old.left old.mode near_all l)) is notes) in
    Passed-byte gives way is_all old new s t b tail out_old out_new room (next-noted old new _ noted counted)
    (subst (λ (a : Bool). PassesByte gives way old new s t (begins_now old.left old.mode a (take NEAR (b ∷ tail))) b out_old out_new) all at)

pub Passed-first-ok : {S : Type 0} (gives : FourHands → Option (List (List ℕ)) → Type 0) (way : S → Notice → S → Type 0) (is_all : Bool) (old new : Filler) (s t : S) (rest near : List ℕ) (near_all : Bool) (out_old out_new : List ℕ)
    {E : Type 0} (result : Result (Unit {0}) E) → 0 < length rest → (is_all ≡ false → NEAR < length rest) → near ≡ take NEAR rest → near_all ≡ (is_all && nat_le (length rest) NEAR)
    → OnOk result (Notes old new (begins_now old.left old.mode near_all near)) → OnOk result (new.passed ≡ one_more old.passed)
    → OnOk result (PassesByte gives way old new s t (begins_now old.left old.mode near_all near) (get_or near 0 0) out_old out_new)
    → OnOk result (PassesFront gives way is_all old new s t rest (drop 1 rest) out_old out_new)
Passed-first-ok gives way is_all old new s t rest near near_all out_old out_new (Ok done) some room is all notes counted passes =
    Passed-first gives way is_all old new s t rest near near_all out_old out_new some room is all notes counted passes
Passed-first-ok gives way is_all old new s t rest near near_all out_old out_new (Err fault) some room is all notes counted passes = tt

-- ---- from place to place
module _ {S : Type 0} (gives : FourHands → Option (List (List ℕ)) → Type 0) (way : S → Notice → S → Type 0) (wanted : Wanted) where
  pub Passed-none : (is_all : Bool) (p : Place S) (before : List ℕ) → Passed gives way is_all wanted p p before before []
  Passed-none is_all p before =
      record {
        answers = [];
        asked = [];
        notices = [];
        right = tt;
        over = omega arith;
        hears = refl;
        fills = λ more rest follows. refl;
        asks = λ rest follows. refl;
        tells = λ more rest follows. refl;
      }

  pub Passed-then : (is_all : Bool) (p q r : Place S) (b0 b1 b2 t u : List ℕ) → Passed gives way is_all wanted p q b0 b1 t → Passed gives way is_all wanted q r b1 b2 u → Passed gives way is_all wanted p r b0 b2 (t ++ u)
  Passed-then is_all p q r b0 b1 b2 t u first second =
      record {
        answers = first.answers ++ second.answers;
        asked = first.asked ++ second.asked;
        notices = first.notices ++ second.notices;
        right = AreAnswers-append gives first.asked second.asked first.answers second.answers first.right second.right;
        over = over-then first.answers second.answers first.notices second.notices first.over second.over;
        hears = Hears-append way p.heard q.heard r.heard first.notices second.notices first.hears second.hears;
        fills = λ more rest follows.
            ap (λ a. filled_from wanted a p.point.state (marked_at p.point (b0 ++ rest))) (append_assoc first.answers second.answers more)
            ∙ first.fills (second.answers ++ more) rest follows ∙ ap (λ l. t ++ l) (second.fills more rest follows)
            ∙ sym (append_assoc t u (filled_from wanted more r.point.state (marked_at r.point (b2 ++ rest))));
        asks = λ rest follows.
            first.asks rest follows ∙ ap (λ l. first.asked ++ l) (second.asks rest follows)
            ∙ sym (append_assoc first.asked second.asked (asks_from wanted r.point.state (marked_at r.point (b2 ++ rest))));
        tells = λ more rest follows.
            ap (λ a. told_from wanted a p.point.state p.notes (marked_at p.point (b0 ++ rest))) (append_assoc first.answers second.answers more)
            ∙ first.tells (second.answers ++ more) rest follows ∙ ap (λ l. first.notices ++ l) (second.tells more rest follows)
            ∙ sym (append_assoc first.notices second.notices (told_from wanted more r.point.state r.notes (marked_at r.point (b2 ++ rest))));
      }

  -- with more bytes behind
  pub Passed-more : (p q : Place S) (before after piece text : List ℕ) → Passed gives way false wanted p q before after text → Passed gives way false wanted p q (before ++ piece) (after ++ piece) text
  Passed-more p q before after piece text passed =
      record {
        answers = passed.answers;
        asked = passed.asked;
        notices = passed.notices;
        right = passed.right;
        over = passed.over;
        hears = passed.hears;
        fills = λ more rest follows.
            ap (λ l. filled_from wanted (passed.answers ++ more) p.point.state (marked_at p.point l)) (append_assoc before piece rest) ∙ passed.fills more (piece ++ rest) tt
            ∙ ap (λ l. text ++ filled_from wanted more q.point.state (marked_at q.point l)) (sym (append_assoc after piece rest));
        asks = λ rest follows.
            ap (λ l. asks_from wanted p.point.state (marked_at p.point l)) (append_assoc before piece rest) ∙ passed.asks (piece ++ rest) tt
            ∙ ap (λ l. passed.asked ++ asks_from wanted q.point.state (marked_at q.point l)) (sym (append_assoc after piece rest));
        tells = λ more rest follows.
            ap (λ l. told_from wanted (passed.answers ++ more) p.point.state p.notes (marked_at p.point l)) (append_assoc before piece rest) ∙ passed.tells more (piece ++ rest) tt
            ∙ ap (λ l. passed.notices ++ told_from wanted more q.point.state q.notes (marked_at q.point l)) (sym (append_assoc after piece rest));
      }

  -- where nothing has to follow, something may
  pub Passed-any : (is_all : Bool) (p q : Place S) (before after text : List ℕ) → Passed gives way false wanted p q before after text → Passed gives way is_all wanted p q before after text
  Passed-any is_all p q before after text passed =
      record {
        answers = passed.answers;
        asked = passed.asked;
        notices = passed.notices;
        right = passed.right;
        over = passed.over;
        hears = passed.hears;
        fills = λ more rest follows. passed.fills more rest tt;
        asks = λ rest follows. passed.asks rest tt;
        tells = λ more rest follows. passed.tells more rest tt;
      }

  -- after what has come out
  pub Ended-then : (p q : Place S) (heard : S) (games : ℕ) (b0 b1 t u : List ℕ) → Passed gives way false wanted p q b0 b1 t → Ended gives way wanted q heard games b1 u
      → Ended gives way wanted p heard games b0 (t ++ u)
  Ended-then p q heard games b0 b1 t u passed ended =
      record {
        answers = passed.answers ++ ended.answers;
        notices = passed.notices ++ ended.notices;
        over = (let all = games_over-append passed.notices ended.notices in omega (arith, all, passed.over, ended.over, length-append {A = Option Found}));
        hears = Hears-append way p.heard q.heard heard passed.notices ended.notices passed.hears ended.hears;
        tells = λ more.
            ap (λ l. told_from wanted ((passed.answers ++ ended.answers) ++ more) p.point.state p.notes (marked_at p.point l)) (sym (append-nil b0))
            ∙ ap (λ a. told_from wanted a p.point.state p.notes (marked_at p.point (b0 ++ []))) (append_assoc passed.answers ended.answers more)
            ∙ passed.tells (ended.answers ++ more) [] tt
            ∙ ap (λ l. passed.notices ++ told_from wanted (ended.answers ++ more) q.point.state q.notes (marked_at q.point l)) (append-nil b1) ∙ ap (λ l. passed.notices ++ l) (ended.tells more)
            ∙ sym (append_assoc passed.notices ended.notices (games_in_all games ∷ []));
        right = subst (λ (l : List (Option Ask)). AreAnswers gives l (passed.answers ++ ended.answers))
            (sym (ap (λ l. asks_from wanted p.point.state (marked_at p.point l)) (sym (append-nil b0)) ∙ passed.asks [] tt
            ∙ ap (λ l. passed.asked ++ asks_from wanted q.point.state (marked_at q.point l)) (append-nil b1)))
            (AreAnswers-append gives passed.asked (asks_from wanted q.point.state (marked_at q.point b1)) passed.answers ended.answers passed.right ended.right);
        fills = λ more.
            ap (λ l. filled_from wanted ((passed.answers ++ ended.answers) ++ more) p.point.state (marked_at p.point l)) (sym (append-nil b0))
            ∙ ap (λ a. filled_from wanted a p.point.state (marked_at p.point (b0 ++ []))) (append_assoc passed.answers ended.answers more)
            ∙ passed.fills (ended.answers ++ more) [] tt
            ∙ ap (λ l. t ++ filled_from wanted (ended.answers ++ more) q.point.state (marked_at q.point l)) (append-nil b1) ∙ ap (λ l. t ++ l) (ended.fills more);
      }

  -- the end of the file, behind all its bytes
  pub Ended-last : (p q : Place S) (heard : S) (before text : List ℕ) (answers : List (Option Found)) → Passed gives way true wanted p q before [] text
      → AreAnswers gives (asked_here (ends_last (is_closed q.point.left q.point.mode) q.point.state) (ask_of wanted q.point.state)) answers
      → Hears way q.heard (told_last (is_closed q.point.left q.point.mode) wanted q.point.state q.notes (first_of answers)) heard
      → Ended gives way wanted p heard (games_in q.point.state q.notes) before (text ++ text_here (ends_last (is_closed q.point.left q.point.mode) q.point.state) wanted q.point.state answers)
  unfolding filled_from asks_from told_from marked
  Ended-last p q heard before text answers passed right hears =
      let closed = is_closed q.point.left q.point.mode in
      let here = ends_last closed q.point.state in
      let last = told_last closed wanted q.point.state q.notes (first_of answers) in
      let games = games_in_all (games_in q.point.state q.notes) ∷ [] in
      record {
        answers = passed.answers ++ answers;
        notices = passed.notices ++ last;
        right = subst (λ (l : List (Option Ask)). AreAnswers gives l (passed.answers ++ answers))
            (sym (ap (λ l. asks_from wanted p.point.state (marked_at p.point l)) (sym (append-nil before)) ∙ passed.asks [] refl))
            (AreAnswers-append gives passed.asked (asked_here here (ask_of wanted q.point.state)) passed.answers answers passed.right right);
        over =
            (let all = games_over-append passed.notices last in
            let one = over-last gives here (ask_of wanted q.point.state) answers right in
            omega (arith, all, one, passed.over, length-append {A = Option Found}));
        hears = Hears-append way p.heard q.heard heard passed.notices last passed.hears hears;
        fills = λ more.
            ap (λ l. filled_from wanted ((passed.answers ++ answers) ++ more) p.point.state (marked_at p.point l)) (sym (append-nil before))
            ∙ ap (λ a. filled_from wanted a p.point.state (marked_at p.point (before ++ []))) (append_assoc passed.answers answers more)
            ∙ passed.fills (answers ++ more) [] refl
            ∙ ap (λ l. text ++ l) (takes gives here (ask_of wanted q.point.state) wanted q.point.state answers more right).text;
        tells = λ more.
            ap (λ l. told_from wanted ((passed.answers ++ answers) ++ more) p.point.state p.notes (marked_at p.point l)) (sym (append-nil before))
            ∙ ap (λ a. told_from wanted a p.point.state p.notes (marked_at p.point (before ++ []))) (append_assoc passed.answers answers more)
            ∙ passed.tells (answers ++ more) [] refl
            ∙ ap (λ l. passed.notices ++ (l ++ games)) (last-told gives closed q.point.state.begun (ask_of wanted q.point.state) wanted q.point.state q.notes answers more right)
            ∙ sym (append_assoc passed.notices last games);
      }

-- one stretch after another
pub PassesFront-then : {S : Type 0} (gives : FourHands → Option (List (List ℕ)) → Type 0) (way : S → Notice → S → Type 0) (is_all : Bool) (old mid new : Filler) (s t u : S) (b0 b1 b2 o0 o1 o2 : List ℕ) → PassesFront gives way is_all old mid s t b0 b1 o0 o1
    → PassesFront gives way is_all mid new t u b1 b2 o1 o2 → PassesFront gives way is_all old new s u b0 b2 o0 o2
PassesFront-then gives way is_all old mid new s t u b0 b1 b2 o0 o1 o2 first second =
    record {
      wanted = second.wanted ∙ first.wanted;
      text = first.text ++ second.text;
      appended = second.appended ∙ ap (λ o. o ++ second.text) first.appended ∙ append_assoc o0 first.text second.text;
      passed = Passed-then gives way old.wanted is_all (place_of old s) (place_of mid t) (place_of new u) b0 b1 b2 first.text second.text first.passed
          (subst (λ (w : Wanted). Passed gives way is_all w (place_of mid t) (place_of new u) b1 b2 second.text) first.wanted second.passed);
    }

-- none at all
pub PassesFront-none : {S : Type 0} (gives : FourHands → Option (List (List ℕ)) → Type 0) (way : S → Notice → S → Type 0) (is_all : Bool) (old : Filler) (s : S) (before out : List ℕ) → PassesFront gives way is_all old old s s before before out out
PassesFront-none gives way is_all old s before out =
    record { wanted = refl; text = []; appended = sym (append-nil out); passed = Passed-none gives way old.wanted is_all (place_of old s) before }
