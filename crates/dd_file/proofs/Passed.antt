-- What was answered of a game that ends, and its lines.
use Rattle.std.proofs.Common.{◌≡◌, ◌∙◌, ℕ, Bool, true, false, List, [], ◌∷◌, ◌++◌, refl, sym, ap, subst, append-nil, Option, None, Some, Result, Ok, Err}
use Rattle.std.specs.Prelude.{◌&&◌, ◌||◌, is_some, if◌then◌else◌}
use Rattle.std.proofs.lemmas.Bool.{not-true}
use mathlib.Core.Bool.{not}
use Rattle.dd_cards.specs.Hands.{FourHands}
use Rattle.dd_file.specs.declared.fill_state.Conditions.{Conditions}
use Rattle.dd_file.specs.declared.fill_state.FillState.{FillState}
use Rattle.dd_file.specs.declared.filler.Filler.{Filler}
use Rattle.dd_file.specs.declared.line_text.LineEnds.{LineEnds}
use Rattle.dd_file.specs.declared.value.Unfit.{Unfit}
use Rattle.dd_file.specs.declared.wanted.Wanted.{Wanted}
use Rattle.dd_file.specs.Filled.{Ask, Found, AreAnswers, IsAnswer, IsParFound, added_text, ask_at, ask_of, ask_with, asked_here, first_of, has_place, needs, state_here, text_here, text_of}
use Rattle.dd_file.specs.Games.{after_end, conditions_of, ends, lacks, line_ends}
use Rattle.dd_file.specs.Kepts.{value_of}
use Rattle.dd_file.specs.Marks.{Begins}
use Rattle.dd_file.specs.declared.analyst.Reason.{Reason}
use Rattle.dd_file.specs.declared.analyst.Reason.TheVariants.{Spent}
use Rattle.dd_file.specs.Notices.{Notice, Hears, games_ended}
use Rattle.dd_file.specs.Notes.{notes_of, unknown_of}
use Rattle.dd_file.specs.Passing.{AddsAnswer, AddsFound, AddsLast, EndsBefore, EndsHere}
use Rattle.dd_file.specs.Told.{GameNotes, TextsOf, Why, because, left_of_game, reason_of, told_here, told_last, why, why_at, why_par, why_with}
use Rattle.dd_file.specs.Values.{thirteen_in}
use Rattle.dd_file.proofs.Heard.{Hears-append, Hears-one}

-- one answer, where a game ends
pub answers-ended : (gives : FourHands → Option (List (List ℕ)) → Type 0) (here : Bool) (ask : Option Ask) (answer : Option Found) → here ≡ true → IsAnswer gives ask answer
    → AreAnswers gives (asked_here here ask) (answer ∷ [])
answers-ended gives here ask answer is right =
    let P : Bool → Type 0 = λ b. AreAnswers gives (asked_here b ask) (answer ∷ []) in subst P (sym is) (right, tt)

pub text-ended : (here : Bool) (wanted : Wanted) (state : FillState) (answer : Option Found) → here ≡ true → text_here here wanted state (answer ∷ []) ≡ text_of wanted state answer
text-ended here wanted state answer is = ap (λ b. text_here b wanted state (answer ∷ [])) is

pub state-ended : (here : Bool) (state : FillState) → here ≡ true → state_here here state ≡ after_end state
state-ended here state is = ap (λ b. state_here b state) is

pub told-ended : {S : Type 0} (way : S → Notice → S → Type 0) (s t u : S) (here place : Bool) (wanted : Wanted) (state : FillState) (notes : GameNotes) (answer : Option Found) → here ≡ true
    → Hears way s (left_of_game notes (why place wanted state notes.texts answer)) t → way t (games_ended notes.number notes.bytes) u
    → Hears way s (told_here here place wanted state notes (first_of (answer ∷ []))) u
told-ended way s t u here place wanted state notes answer is hears step =
    subst (λ (b : Bool). Hears way s (told_here b place wanted state notes answer) u) (sym is)
    (Hears-append way s t u (left_of_game notes (why place wanted state notes.texts answer)) (games_ended notes.number notes.bytes ∷ []) hears (Hears-one way t u _ step))

-- of a game that the end of the file ends
pub last-begun : {S : Type 0} (way : S → Notice → S → Type 0) (s t : S) (closed : Bool) (wanted : Wanted) (state : FillState) (notes : GameNotes) (answer : Option Found) → state.begun ≡ true
    → Hears way s (left_of_game notes (why closed wanted state notes.texts answer)) t → Hears way s (told_last closed wanted state notes answer) t
last-begun way s t closed wanted state notes answer begun hears =
    subst (λ (b : Bool). Hears way s (if b then left_of_game notes (why closed wanted state notes.texts answer) else []) t) (sym begun) hears

pub closed-told : {S : Type 0} (way : S → Notice → S → Type 0) (s t : S) (closed : Bool) (wanted : Wanted) (state : FillState) (notes : GameNotes) (answer : Option Found) → closed ≡ true
    → Hears way s (left_of_game notes (why true wanted state notes.texts answer)) t → Hears way s (left_of_game notes (why closed wanted state notes.texts answer)) t
closed-told way s t closed wanted state notes answer is hears =
    subst (λ (b : Bool). Hears way s (left_of_game notes (why b wanted state notes.texts answer)) t) (sym is) hears

-- the lines for the results that were told are those for the answer
pub AddsFound-answer : {S : Type 0} (gives : FourHands → Option (List (List ℕ)) → Type 0) (way : S → Notice → S → Type 0) (wanted : Wanted) (state : FillState) (notes : GameNotes) (s t : S) (deal : FourHands) (ends : LineEnds)
    (lacking : Wanted) (table : List (List ℕ)) (conditions : Option Conditions) (out_old out_new : List ℕ) → ends ≡ line_ends state → lacking ≡ lacks wanted state → conditions ≡ conditions_of state
    → needs lacking (is_some conditions) ≡ true → gives deal (Some table) → Hears way s (left_of_game notes (why_par lacking state notes.texts)) t
    → AddsFound ends lacking table conditions out_old out_new
    → AddsAnswer gives way (ask_with (Ok deal) (conditions_of state) (lacks wanted state)) (why_with (Ok deal) (lacks wanted state) state notes.texts) wanted state notes s t out_old out_new
AddsFound-answer gives way wanted state notes s t deal ends lacking table conditions out_old out_new e1 e2 e3 need given hears adds =
    let found : Found = record { table = table; par = adds.par } in
    let needed : needs (lacks wanted state) (is_some (conditions_of state)) ≡ true =
    ap (λ k. needs k (is_some (conditions_of state))) (sym e2) ∙ ap (λ k. needs lacking (is_some k)) (sym e3) ∙ need in
    let P : Bool → Type 0 = λ b. IsAnswer gives (if b then Some (record { deal = deal; conditions = conditions_of state }) else None) (Some found) in
    let told : Hears way s (left_of_game notes (why_par (lacks wanted state) state notes.texts)) t =
    subst (λ (k : Wanted). Hears way s (left_of_game notes (why_par k state notes.texts)) t) e2 hears in
    record {
      answer = Some found;
      hears = subst (λ (b : Bool). Hears way s (left_of_game notes (if b then why_par (lacks wanted state) state notes.texts else why_par (lacks wanted state) state notes.texts)) t) (sym needed) told;
      right = subst P (sym needed) (given, subst (λ k. IsParFound table k adds.par) e3 adds.right);
      text = adds.text ∙ ap (λ l. out_old ++ added_text l lacking found) e1 ∙ ap (λ k. out_old ++ added_text (line_ends state) k found) e2;
    }

-- no results are asked for, or they were given up
AddsAnswer-left : {S : Type 0} (gives : FourHands → Option (List (List ℕ)) → Type 0) (way : S → Notice → S → Type 0) (wanted : Wanted) (state : FillState) (notes : GameNotes) (s t : S) (ask : Option Ask) (reason : Option Found → Option Why) (is : Option Why)
    (out : List ℕ) → IsAnswer gives ask None → reason None ≡ is → Hears way s (left_of_game notes is) t → AddsAnswer gives way ask reason wanted state notes s t out out
AddsAnswer-left gives way wanted state notes s t ask reason is out right same hears =
    record { answer = None; hears = subst (λ (w : Option Why). Hears way s (left_of_game notes w) t) (sym same) hears; right = right; text = sym (append-nil out) }

-- by whether a line can be had
unneeded-ask : (wanted : Wanted) (state : FillState) (deal : FourHands) → needs (lacks wanted state) (is_some (conditions_of state)) ≡ false
    → ask_with (Ok deal) (conditions_of state) (lacks wanted state) ≡ None
unneeded-ask wanted state deal none = ap (λ (b : Bool). if b then Some (record { deal = deal; conditions = conditions_of state }) else None) none

unneeded-why : (wanted : Wanted) (state : FillState) (texts : TextsOf) (deal : FourHands) → needs (lacks wanted state) (is_some (conditions_of state)) ≡ false
    → why_with (Ok deal) (lacks wanted state) state texts None ≡ why_par (lacks wanted state) state texts
unneeded-why wanted state texts deal none = ap (λ (b : Bool). if b then because Spent else why_par (lacks wanted state) state texts) none

spent-ask : (gives : FourHands → Option (List (List ℕ)) → Type 0) (wanted : Wanted) (state : FillState) (deal : FourHands) → needs (lacks wanted state) (is_some (conditions_of state)) ≡ true
    → gives deal None → IsAnswer gives (ask_with (Ok deal) (conditions_of state) (lacks wanted state)) None
spent-ask gives wanted state deal some given =
    subst (λ (b : Bool). IsAnswer gives (if b then Some (record { deal = deal; conditions = conditions_of state }) else None) None) (sym some) given

spent-why : (wanted : Wanted) (state : FillState) (texts : TextsOf) (deal : FourHands) → needs (lacks wanted state) (is_some (conditions_of state)) ≡ true
    → why_with (Ok deal) (lacks wanted state) state texts None ≡ because Spent
spent-why wanted state texts deal some = ap (λ (b : Bool). if b then because Spent else why_par (lacks wanted state) state texts) some

-- the same by what the code has found of it
found-needs : (wanted lacking : Wanted) (state : FillState) (conditions : Option Conditions) (b : Bool) → lacking ≡ lacks wanted state → conditions ≡ conditions_of state
    → needs lacking (is_some conditions) ≡ b → needs (lacks wanted state) (is_some (conditions_of state)) ≡ b
found-needs wanted lacking state conditions b e1 e2 is =
    ap (λ k. needs k (is_some (conditions_of state))) (sym e1) ∙ ap (λ k. needs lacking (is_some k)) (sym e2) ∙ is

pub AddsAnswer-unneeded : {S : Type 0} (gives : FourHands → Option (List (List ℕ)) → Type 0) (way : S → Notice → S → Type 0) (wanted : Wanted) (state : FillState) (notes : GameNotes) (s t : S) (deal : FourHands) (lacking : Wanted)
    (conditions : Option Conditions) (out : List ℕ) → lacking ≡ lacks wanted state → conditions ≡ conditions_of state → needs lacking (is_some conditions) ≡ false
    → Hears way s (left_of_game notes (why_par lacking state notes.texts)) t
    → AddsAnswer gives way (ask_with (Ok deal) (conditions_of state) (lacks wanted state)) (why_with (Ok deal) (lacks wanted state) state notes.texts) wanted state notes s t out out
AddsAnswer-unneeded gives way wanted state notes s t deal lacking conditions out e1 e2 none hears =
    let is = found-needs wanted lacking state conditions false e1 e2 none in
    AddsAnswer-left gives way wanted state notes s t (ask_with (Ok deal) (conditions_of state) (lacks wanted state)) (why_with (Ok deal) (lacks wanted state) state notes.texts)
    (why_par (lacks wanted state) state notes.texts) out (subst (λ (ask : Option Ask). IsAnswer gives ask None) (sym (unneeded-ask wanted state deal is)) tt)
    (unneeded-why wanted state notes.texts deal is) (subst (λ (k : Wanted). Hears way s (left_of_game notes (why_par k state notes.texts)) t) e1 hears)

pub AddsAnswer-spent : {S : Type 0} (gives : FourHands → Option (List (List ℕ)) → Type 0) (way : S → Notice → S → Type 0) (wanted : Wanted) (state : FillState) (notes : GameNotes) (s t : S) (deal : FourHands) (lacking : Wanted)
    (conditions : Option Conditions) (out : List ℕ) → lacking ≡ lacks wanted state → conditions ≡ conditions_of state → needs lacking (is_some conditions) ≡ true → gives deal None
    → Hears way s (left_of_game notes (because Spent)) t
    → AddsAnswer gives way (ask_with (Ok deal) (conditions_of state) (lacks wanted state)) (why_with (Ok deal) (lacks wanted state) state notes.texts) wanted state notes s t out out
AddsAnswer-spent gives way wanted state notes s t deal lacking conditions out e1 e2 some given hears =
    let is = found-needs wanted lacking state conditions true e1 e2 some in
    AddsAnswer-left gives way wanted state notes s t (ask_with (Ok deal) (conditions_of state) (lacks wanted state)) (why_with (Ok deal) (lacks wanted state) state notes.texts)
    (because Spent) out (spent-ask gives wanted state deal is given) (spent-why wanted state notes.texts deal is) hears

-- where it lacks a tag
pub why-lacking : (place : Bool) (wanted : Wanted) (state : FillState) (texts : TextsOf) (answer : Option Found) → needs (lacks wanted state) true ≡ true
    → why place wanted state texts answer ≡ why_at place (lacks wanted state) state texts answer
why-lacking place wanted state texts answer some = ap (λ (b : Bool). if b then why_at place (lacks wanted state) state texts answer else None) some

-- where it lacks none
pub why-none : (place : Bool) (wanted : Wanted) (state : FillState) (texts : TextsOf) (answer : Option Found) → needs (lacks wanted state) true ≡ false
    → why place wanted state texts answer ≡ None
why-none place wanted state texts answer none = ap (λ (b : Bool). if b then why_at place (lacks wanted state) state texts answer else None) none

-- the game has this deal
pub AddsAnswer-deal : {S : Type 0} (gives : FourHands → Option (List (List ℕ)) → Type 0) (way : S → Notice → S → Type 0) (wanted : Wanted) (state : FillState) (notes : GameNotes) (s t : S) (deal : FourHands) (out_old out_new : List ℕ)
    → needs (lacks wanted state) true ≡ true → thirteen_in (value_of state.deal) ≡ Ok deal
    → AddsAnswer gives way (ask_with (Ok deal) (conditions_of state) (lacks wanted state)) (why_with (Ok deal) (lacks wanted state) state notes.texts) wanted state notes s t out_old out_new
    → AddsAnswer gives way (ask_of wanted state) (why true wanted state notes.texts) wanted state notes s t out_old out_new
AddsAnswer-deal {S} gives way wanted state notes s t deal out_old out_new some is adds =
    let with_ask : AddsAnswer gives way (ask_of wanted state) (why_with (thirteen_in (value_of state.deal)) (lacks wanted state) state notes.texts) wanted state notes s t out_old out_new =
    subst (λ (d : Result FourHands Unfit). AddsAnswer gives way (ask_with d (conditions_of state) (lacks wanted state)) (why_with d (lacks wanted state) state notes.texts) wanted state notes s t out_old out_new) (sym is) adds in
    record {
      answer = with_ask.answer;
      hears = subst (λ (w : Option Why). Hears way s (left_of_game notes w) t) (sym (why-lacking true wanted state notes.texts with_ask.answer some)) with_ask.hears;
      right = with_ask.right;
      text = with_ask.text;
    }

-- it has none
pub AddsAnswer-unfit : {S : Type 0} (gives : FourHands → Option (List (List ℕ)) → Type 0) (way : S → Notice → S → Type 0) (wanted : Wanted) (state : FillState) (notes : GameNotes) (s t : S) (unfit : Unfit) (out : List ℕ)
    → needs (lacks wanted state) true ≡ true → thirteen_in (value_of state.deal) ≡ Err unfit → Hears way s (left_of_game notes (because (reason_of unfit))) t
    → AddsAnswer gives way (ask_of wanted state) (why true wanted state notes.texts) wanted state notes s t out out
AddsAnswer-unfit gives way wanted state notes s t unfit out some is hears =
    AddsAnswer-left gives way wanted state notes s t (ask_of wanted state) (why true wanted state notes.texts) (because (reason_of unfit)) out
    (subst (λ (d : Result FourHands Unfit). IsAnswer gives (ask_with d (conditions_of state) (lacks wanted state)) None) (sym is) tt)
    (why-lacking true wanted state notes.texts None some ∙ ap (λ (d : Result FourHands Unfit). why_with d (lacks wanted state) state notes.texts None) is) hears

pub unfit-told : {S : Type 0} (way : S → Notice → S → Type 0) (s t : S) (notes : GameNotes) (unfit : Unfit) (reason : Reason) → reason ≡ reason_of unfit
    → Hears way s (left_of_game notes (because reason)) t → Hears way s (left_of_game notes (because (reason_of unfit))) t
unfit-told way s t notes unfit reason is hears = subst (λ (r : Reason). Hears way s (left_of_game notes (because r)) t) is hears

-- it ends where no line can stand
pub AddsAnswer-open : {S : Type 0} (gives : FourHands → Option (List (List ℕ)) → Type 0) (way : S → Notice → S → Type 0) (place : Bool) (wanted : Wanted) (state : FillState) (notes : GameNotes) (s t : S) (out : List ℕ) → place ≡ false
    → ((answer : Option Found) → Hears way s (left_of_game notes (why false wanted state notes.texts answer)) t)
    → AddsAnswer gives way (ask_at place wanted state) (why place wanted state notes.texts) wanted state notes s t out out
AddsAnswer-open gives way place wanted state notes s t out no_place hears =
    AddsAnswer-left gives way wanted state notes s t (ask_at place wanted state) (why place wanted state notes.texts) (why false wanted state notes.texts None) out
    (subst (λ (b : Bool). IsAnswer gives (ask_at b wanted state) None) (sym no_place) tt) (ap (λ (b : Bool). why b wanted state notes.texts None) no_place) (hears None)

-- or the file does, and is not closed
pub AddsLast-open : {S : Type 0} (gives : FourHands → Option (List (List ℕ)) → Type 0) (way : S → Notice → S → Type 0) (closed : Bool) (filler : Filler) (s t : S) (out : List ℕ) → closed ≡ false → filler.state.begun ≡ true
    → ((answer : Option Found) → Hears way s (left_of_game (notes_of filler) (why false filler.wanted filler.state (unknown_of filler) answer)) t)
    → AddsLast gives way closed filler s t out out
AddsLast-open gives way closed filler s t out unclosed begun hears =
    record {
      answers = [];
      hears = last-begun way s t closed filler.wanted filler.state (notes_of filler) None begun
          (subst (λ (b : Bool). Hears way s (left_of_game (notes_of filler) (why b filler.wanted filler.state (unknown_of filler) None)) t) (sym unclosed) (hears None));
      right = subst (λ (b : Bool). AreAnswers gives (asked_here (b && filler.state.begun) (ask_of filler.wanted filler.state)) []) (sym unclosed) tt;
      text = subst (λ (b : Bool). out ≡ out ++ text_here (b && filler.state.begun) filler.wanted filler.state []) (sym unclosed) (sym (append-nil out));
    }

-- a game that ends before what begins here
pub EndsHere-before : {S : Type 0} (gives : FourHands → Option (List (List ℕ)) → Type 0) (way : S → Notice → S → Type 0) (old new : Filler) (s t : S) (mark : Begins) (here place : Bool) (out_old out_new : List ℕ) → here ≡ ends old.state mark
    → place ≡ has_place mark → EndsHere gives way old new s t here place out_old out_new → EndsBefore gives way old new s t mark out_old out_new
EndsHere-before gives way old new s t mark here place out_old out_new e1 e2 ended =
    let is : EndsHere gives way old new s t (ends old.state mark) (has_place mark) out_old out_new =
    subst (λ (p : Bool). EndsHere gives way old new s t (ends old.state mark) p out_old out_new) e2 (subst (λ (h : Bool). EndsHere gives way old new s t h place out_old out_new) e1 ended) in
    record { place = is.place; answers = is.answers; hears = is.hears; right = is.right; text = is.text; state = is.state }

-- a game lacks some of the tags that are wanted, where it isn't so that it lacks none
pub lacking-some : (wanted lacking : Wanted) (state : FillState) (none : Bool) → lacking ≡ lacks wanted state → none ≡ not (needs lacking true) → none ≡ false → needs (lacks wanted state) true ≡ true
lacking-some wanted lacking state none is tests fails = ap (λ k. needs k true) (sym is) ∙ not-false (needs lacking true) (sym tests ∙ fails)
  where
    not-false : (b : Bool) → not b ≡ false → b ≡ true
    not-false true e = refl
    not-false false e = sym e

or-first : (x y : Bool) → (x || (true && y)) ≡ false → (x || (false && y)) ≡ false
or-first true y e = e
or-first false y e = refl

-- nothing is asked of a game that lacks nothing
pub AddsAnswer-none : {S : Type 0} (gives : FourHands → Option (List (List ℕ)) → Type 0) (way : S → Notice → S → Type 0) (wanted : Wanted) (state : FillState) (notes : GameNotes) (s : S) (out : List ℕ) → not (needs (lacks wanted state) true) ≡ true
    → AddsAnswer gives way (ask_of wanted state) (why true wanted state notes.texts) wanted state notes s s out out
AddsAnswer-none gives way wanted state notes s out none =
    AddsAnswer-left gives way wanted state notes s s (ask_of wanted state) (why true wanted state notes.texts) None out
    (subst (λ (ask : Option Ask). IsAnswer gives ask None) (sym (unasked (thirteen_in (value_of state.deal)))) tt)
    (why-none true wanted state notes.texts None (not-true (needs lacking true) none)) refl
  where
    lacking : Wanted
    lacking = lacks wanted state

    needless : (has_par : Bool) → needs lacking has_par ≡ false
    needless true = not-true (needs lacking true) none
    needless false = or-first (lacking.tricks || lacking.table) (lacking.score || lacking.contract) (not-true (needs lacking true) none)

    unasked : (deal : Result FourHands Unfit) → ask_with deal (conditions_of state) lacking ≡ None
    unasked (Err unfit) = refl
    unasked (Ok deal) = ap (λ (b : Bool). if b then Some (record { deal = deal; conditions = conditions_of state }) else None) (needless (is_some (conditions_of state)))
