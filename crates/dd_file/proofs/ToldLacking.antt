-- It is told of the games that lack a tag in the filled file, and of no other.
use Rattle.std.proofs.Common.{◌≡◌, ◌∙◌, ℕ, zero, suc, ◌<◌, ◌≤◌, ◌==◌, Bool, true, false, List, [], ◌∷◌, ◌++◌, length, refl, sym, ap, subst, arith, ◌⊎◌, inl, inr, true≢false, append-nil, Option, None, Some, is_some, Result, Ok, Err}
use Rattle.std.specs.Prelude.{◌&&◌, ◌||◌, slice_index_or, if◌then◌else◌}
use Rattle.std.proofs.lemmas.List.{get_or-set_same}
use mathlib.Core.Bool.{not}
use Rattle.dd_cards.specs.Hands.{FourHands}
use Rattle.dd_cards.specs.declared.seat.Seat.{Seat}
use Rattle.dd_cards.specs.declared.strain.Strain.{Strain}
use Rattle.dd_score.specs.declared.vulnerable.Vulnerable.{Vulnerable}
use Rattle.dd_score.specs.Tables.{tricks_of}
use Rattle.dd_file.specs.declared.fill_state.FillState.{FillState}
use Rattle.dd_file.specs.declared.mode.Mode.{Mode}
use Rattle.dd_file.specs.declared.mode.Mode.TheVariants.{Start}
use Rattle.dd_file.specs.declared.value.Unfit.{Unfit}
use Rattle.dd_file.specs.declared.wanted.Wanted.{Wanted}
use Rattle.dd_file.specs.Filled.{Ask, Found, added_text, answers_after, ask_at, ask_of, ask_with, asked_here, asks_from, ends_last, filled_from, first_of, has_place, needs, state_here, text_here, text_of}
use Rattle.dd_file.specs.Games.{both_known, conditions_of, ends, lacks, next_state}
use Rattle.dd_file.specs.Kepts.{value_of}
use Rattle.dd_file.specs.Lacking.{games_told, is_lacking, lacking_from, lacking_here}
use Rattle.dd_file.specs.Marked.{begins_within, byte, is_closed, left_within, marked}
use Rattle.dd_file.specs.Marks.{Begins}
use Rattle.dd_file.specs.Modes.{next_mode}
use Rattle.dd_file.specs.Notices.{Notice, games_ended, games_in_all}
use Rattle.dd_file.specs.Told.{GameNotes, TextsOf, Why, games_in, left_of_game, next_notes, told_from, told_here, told_last, why, why_answered, why_at, why_par, why_unknown, why_with}
use Rattle.dd_file.specs.Values.{thirteen_in}
use Rattle.dd_file.proofs.AgainAnswers.{AllMay, HasPar, MayAnswer}
use Rattle.dd_file.proofs.AgainAsked.{begun-is, end-mode, ends-filled, over-filled, state-is}
use Rattle.dd_file.proofs.AgainBehind.{May, behind-filled, behind_at, filled-end, filled-step, may-step, state_after, text_at}
use Rattle.dd_file.proofs.AgainFilled.{Puts, PutsNothing, given-may, may-split, par-fits, puts-may}
use Rattle.dd_file.proofs.AgainLines.{added-passes, names_with, set_where}
use Rattle.dd_file.proofs.AgainMarks.{mark-same}
use Rattle.dd_file.proofs.AgainOver.{Walk, at_spot, spot}
use Rattle.dd_file.proofs.AgainStates.{Sound, set-other, set-size, set-there, sound-next}
use Rattle.dd_file.proofs.AgainTagLines.{IsOpen}
use Rattle.dd_file.proofs.Going.{told-byte}

-- ---- what is told of a game
-- does it lack a line of par?
abbrev lacks_par : Wanted → Bool
lacks_par lacking = lacking.score || lacking.contract

-- what a game lacks behind its lines, by what was answered of it
abbrev lacks_still : Wanted → Option Found → Bool
lacks_still lacking None = needs lacking true
lacks_still lacking (Some found) = lacks_par lacking && not (is_some found.par)

unknown-told : (dealer : Option Seat) (vulnerable : Option Vulnerable) (texts : TextsOf) → is_some (why_unknown dealer vulnerable texts) ≡ not (is_some (both_known dealer vulnerable))
unknown-told None vulnerable texts = refl
unknown-told (Some dealer) None texts = refl
unknown-told (Some dealer) (Some vulnerable) texts = refl

-- of a game that has a deal it is told exactly where it lacks a line of par that can't be had
par-told : (lacking : Wanted) (state : FillState) (texts : TextsOf) → is_some (why_par lacking state texts) ≡ (lacks_par lacking && not (is_some (conditions_of state)))
par-told lacking state texts = go (lacks_par lacking)
  where
    go : (p : Bool) → is_some (if p then why_unknown (value_of state.dealer) (value_of state.vulnerable) texts else None) ≡ (p && not (is_some (conditions_of state)))
    go true = unknown-told (value_of state.dealer) (value_of state.vulnerable) texts
    go false = refl

-- where it lacks a tag, but none that can be had, it lacks a line of par
only-par : (t p has : Bool) → (t || (true && p)) ≡ true → (t || (has && p)) ≡ false → (p && not has) ≡ true
only-par true p has some none = absurd (true≢false none)
only-par false true true some none = absurd (true≢false none)
only-par false true false some none = refl
only-par false false has some none = some

-- where it lacks no tag, it lacks no line of par
none-par : (t p h : Bool) → (t || (true && p)) ≡ false → (p && h) ≡ false
none-par true p h none = absurd (true≢false none)
none-par false true h none = absurd (true≢false none)
none-par false false h none = refl

some-if : {A : Type 0} (b : Bool) (x : A) → is_some (if b then Some x else None) ≡ b
some-if true x = refl
some-if false x = refl

-- a game with this deal, or none
with-told : (deal : Result FourHands Unfit) (wanted : Wanted) (state : FillState) (texts : TextsOf) (answer : Option Found)
    → MayAnswer (ask_with deal (conditions_of state) (lacks wanted state)) answer → is_lacking wanted state ≡ true
    → is_some (why_with deal (lacks wanted state) state texts answer) ≡ lacks_still (lacks wanted state) answer
with-told (Err unfit) wanted state texts answer has some = sym (ap (lacks_still (lacks wanted state)) has ∙ some)
with-told (Ok deal) wanted state texts answer has some = go (needs (lacks wanted state) (is_some (conditions_of state))) refl answer has
  where
    k : Wanted
    k = lacks wanted state

    go : (b : Bool) → needs k (is_some (conditions_of state)) ≡ b → (a : Option Found) → MayAnswer (if b then Some (record { deal = deal; conditions = conditions_of state }) else None) a
        → is_some (if b then why_answered a k state texts else why_par k state texts) ≡ lacks_still k a
    go true is None has = sym some
    go true is (Some found) has =
        par-told k state texts ∙ ap (λ (h : Bool). lacks_par k && not h) (sym (par-fits (conditions_of state) found.par has.1).1)
    go false is a has =
        par-told k state texts ∙ only-par (k.tricks || k.table) (lacks_par k) (is_some (conditions_of state)) some is ∙ sym some ∙ ap (lacks_still k) (sym has)

-- of a game it is told exactly where it lacks a tag behind its lines
why-told : (place : Bool) (wanted : Wanted) (state : FillState) (texts : TextsOf) (answer : Option Found) → MayAnswer (ask_at place wanted state) answer
    → is_some (why place wanted state texts answer) ≡ lacks_still (lacks wanted state) answer
why-told false wanted state texts answer has = some-if (is_lacking wanted state) _ ∙ ap (lacks_still (lacks wanted state)) (sym has)
why-told true wanted state texts answer has = go (is_lacking wanted state) refl
  where
    k : Wanted
    k = lacks wanted state

    none : (a : Option Found) → needs k true ≡ false → lacks_still k a ≡ false
    none None is = is
    none (Some found) is = none-par (k.tricks || k.table) (lacks_par k) (not (is_some found.par)) is

    go : (n : Bool) → is_lacking wanted state ≡ n
        → is_some (let w : Option Why = if n then why_at true k state texts answer else None in w) ≡ lacks_still k answer
    go true is = with-told (thirteen_in (value_of state.deal)) wanted state texts answer has is
    go false is = sym (none answer is)

-- ---- which games are told
told-flags : (here place : Bool) (wanted : Wanted) (state : FillState) (notes : GameNotes) (answer : Option Found) (more : List Notice)
    → games_told false (told_here here place wanted state notes answer ++ more) ≡ lacking_here here (is_some (why place wanted state notes.texts answer)) ++ games_told false more
told-flags false place wanted state notes answer more = refl
told-flags true place wanted state notes answer more = go (why place wanted state notes.texts answer)
  where
    go : (w : Option Why) → games_told false ((left_of_game notes w ++ games_ended notes.number notes.bytes ∷ []) ++ more) ≡ is_some w ∷ games_told false more
    go None = refl
    go (Some w) = refl

last-flags : (closed : Bool) (wanted : Wanted) (state : FillState) (notes : GameNotes) (answer : Option Found) (games : ℕ)
    → games_told false (told_last closed wanted state notes answer ++ games_in_all games ∷ []) ≡ (state.begun && is_some (why closed wanted state notes.texts answer)) ∷ []
last-flags closed wanted state notes answer games = go state.begun (why closed wanted state notes.texts answer)
  where
    go : (begun : Bool) (w : Option Why) → games_told false ((if begun then left_of_game notes w else []) ++ games_in_all games ∷ []) ≡ (begun && is_some w) ∷ []
    go true None = refl
    go true (Some w) = refl
    go false w = refl

same-here : (here a b : Bool) → (here ≡ true → a ≡ b) → lacking_here here a ≡ lacking_here here b
same-here true a b same = ap (λ (f : Bool). f ∷ []) (same refl)
same-here false a b same = refl

-- ---- behind its lines a game lacks what could not be had of par
set-part : (want there has : Bool) (n : ℕ) (names : List Bool) → slice_index_or names n false ≡ there → n < length names
    → (want && not (slice_index_or (set_where (has && (want && not there)) n names) n false)) ≡ ((want && not there) && not has)
set-part false there has n names e room = refl
set-part true true true n names e room = ap not e
set-part true true false n names e room = ap not e
set-part true false true n names e room = ap not (get_or-set_same names n true false room)
set-part true false false n names e room = ap not e

still-needs : (tricks score contract table a b has : Bool) → tricks ≡ false → table ≡ false → score ≡ (a && not has) → contract ≡ (b && not has)
    → ((tricks || table) || (true && (score || contract))) ≡ ((a || b) && not has)
still-needs true score contract table a b has e1 e2 e3 e4 = absurd (true≢false e1)
still-needs false score contract true a b has e1 e2 e3 e4 = absurd (true≢false e2)
still-needs false score contract false a b has e1 e2 e3 e4 = ap (λ (x : Bool). x || contract) e3 ∙ ap (λ (x : Bool). (a && not has) || x) e4 ∙ go a b has
  where
    go : (a b has : Bool) → ((a && not has) || (b && not has)) ≡ ((a || b) && not has)
    go true true true = refl
    go true true false = refl
    go true false true = refl
    go true false false = refl
    go false true true = refl
    go false true false = refl
    go false false true = refl
    go false false false = refl

still-lacking : (wanted : Wanted) (state : FillState) (has : Bool) (last : ℕ) (had : Bool) (mode : Mode) → length state.names ≡ 19
    → is_lacking wanted (at_spot state (spot (names_with (lacks wanted state) has state.names) last had 0 mode)) ≡ (lacks_par (lacks wanted state) && not has)
still-lacking wanted state has last had mode size =
    let k = lacks wanted state in
    let n15 = set_where k.tricks 15 state.names in
    let n16 = set_where (has && k.score) 16 n15 in
    let n17 = set_where (has && k.contract) 17 n16 in
    let s15 : length n15 ≡ 19 = set-size k.tricks 15 state.names ∙ size in
    let s16 : length n16 ≡ 19 = set-size (has && k.score) 16 n15 ∙ s15 in
    let s17 : length n17 ≡ 19 = set-size (has && k.contract) 17 n16 ∙ s16 in
    let there : ℕ → List Bool → Bool = λ i names. slice_index_or names i false in
    let at15 : there 15 (set_where k.table 18 n17) ≡ there 15 n15 =
    set-other k.table 18 15 n17 (λ e. omega arith) ∙ set-other (has && k.contract) 17 15 n16 (λ e. omega arith) ∙ set-other (has && k.score) 16 15 n15 (λ e. omega arith) in
    let at16 : there 16 (set_where k.table 18 n17) ≡ there 16 n16 = set-other k.table 18 16 n17 (λ e. omega arith) ∙ set-other (has && k.contract) 17 16 n16 (λ e. omega arith) in
    let at17 : there 17 (set_where k.table 18 n17) ≡ there 17 n17 = set-other k.table 18 17 n17 (λ e. omega arith) in
    let old16 : there 16 n15 ≡ there 16 state.names = set-other k.tricks 15 16 state.names (λ e. omega arith) in
    let old17 : there 17 n16 ≡ there 17 state.names = set-other (has && k.score) 16 17 n15 (λ e. omega arith) ∙ set-other k.tricks 15 17 state.names (λ e. omega arith) in
    let old18 : there 18 n17 ≡ there 18 state.names =
    set-other (has && k.contract) 17 18 n16 (λ e. omega arith) ∙ set-other (has && k.score) 16 18 n15 (λ e. omega arith) ∙ set-other k.tricks 15 18 state.names (λ e. omega arith) in
    still-needs _ _ _ _ k.score k.contract has
    (ap (λ b. wanted.tricks && not b) at15 ∙ set-there wanted.tricks (there 15 state.names) 15 state.names refl (omega arith))
    (set-there wanted.table (there 18 state.names) 18 n17 old18 (omega arith))
    (ap (λ b. wanted.score && not b) at16 ∙ set-part wanted.score (there 16 state.names) has 16 n15 old16 (omega arith))
    (ap (λ b. wanted.contract && not b) at17 ∙ set-part wanted.contract (there 17 state.names) has 17 n16 old17 (omega arith))

-- ---- the games that lack a tag
lacking-byte : (wanted : Wanted) (state : FillState) (left : ℕ) (mode : Mode) (b : ℕ) (rest : List ℕ) (mark : Begins) → begins_within left mode (b ∷ rest) ≡ mark
    → lacking_from wanted state (marked left mode (b ∷ rest))
    ≡ lacking_here (ends state mark) (is_lacking wanted state)
    ++ lacking_from wanted (next_state (state_here (ends state mark) state) mark b) (marked (left_within left mark) (next_mode mode b) rest)
unfolding lacking_from marked
lacking-byte wanted state left mode b rest mark is =
    ap (λ m. lacking_from wanted state (byte m b (marked (left_within left m) (next_mode mode b) rest))) is

lacking-end : (wanted : Wanted) (state : FillState) (left : ℕ) (mode : Mode) → lacking_from wanted state (marked left mode []) ≡ (state.begun && is_lacking wanted state) ∷ []
unfolding lacking_from marked
lacking-end wanted state left mode = refl

told-end : (wanted : Wanted) (answers : List (Option Found)) (state : FillState) (notes : GameNotes) (left : ℕ) (mode : Mode)
    → told_from wanted answers state notes (marked left mode []) ≡ told_last (is_closed left mode) wanted state notes (first_of answers) ++ games_in_all (games_in state notes) ∷ []
unfolding told_from marked
told-end wanted answers state notes left mode = refl

asks-end : (wanted : Wanted) (left : ℕ) (mode : Mode) (state : FillState) → asks_from wanted state (marked left mode []) ≡ asked_here (ends_last (is_closed left mode) state) (ask_of wanted state)
unfolding asks_from marked
asks-end wanted left mode state = refl

-- they are seen of the games
abbrev watching : Wanted → Walk (List Bool)
watching wanted =
    record {
      seen = lacking_from wanted;
      step = λ state left mode b rest mark is goes.
          lacking-byte wanted state left mode b rest mark is
          ∙ ap (λ (h : Bool). lacking_here h (is_lacking wanted state) ++ lacking_from wanted (next_state (state_here h state) mark b) (marked (left_within left mark) (next_mode mode b) rest)) goes;
    }

module _ (wanted : Wanted) where
  -- over the lines of a game that ends before a byte
  put-lacking : (x : ℕ) (rest : List ℕ) (state : FillState) (mark : Begins) (found : Found) → length state.names ≡ 19 → ends state mark ≡ true → state.begun ≡ true → state.last ≡ 10
      → begins_within 0 Start (x ∷ rest) ≡ mark → ((strain : Strain) (declarer : Seat) → tricks_of found.table strain declarer ≤ 13) → HasPar (conditions_of state) found.par
      → lacking_from wanted state (marked 0 Start (added_text (record { has_return = state.has_return; leads = false }) (lacks wanted state) found ++ x ∷ rest))
      ≡ lacks_still (lacks wanted state) (Some found) ∷ lacking_from wanted (next_state (state_here (ends state mark) state) mark x) (marked (left_within 0 mark) (next_mode Start x) rest)
  put-lacking x rest state mark found size here begun last is most par =
      let fits = par-fits (conditions_of state) found.par par in
      let has = is_some found.par in
      let f = names_with (lacks wanted state) has in
      let t : FillState = at_spot state (spot (f state.names) 10 state.has_return 0 Start) in
      let text : List ℕ = added_text (record { has_return = state.has_return; leads = false }) (lacks wanted state) found in
      let goes = added-passes (watching wanted) state false state.has_return (lacks wanted state) found most fits.0 state.names (x ∷ rest) in
      let first = ap (λ (s : FillState). lacking_from wanted s (marked 0 Start (text ++ x ∷ rest))) (state-is state Start begun last) in
      let ended : ends t mark ≡ true = ends-filled state mark (lacks wanted state) has here in
      first ∙ goes ∙ lacking-byte wanted t 0 Start x rest mark is
      ∙ ap (λ (h : Bool). lacking_here h (is_lacking wanted t) ++ lacking_from wanted (next_state (state_here h t) mark x) (marked (left_within 0 mark) (next_mode Start x) rest)) ended
      ∙ ap (λ (s : FillState). is_lacking wanted t ∷ lacking_from wanted (next_state s mark x) (marked (left_within 0 mark) (next_mode Start x) rest)) (over-filled state (f state.names) last)
      ∙ ap (λ (b : Bool). b ∷ lacking_from wanted (next_state (state_here true state) mark x) (marked (left_within 0 mark) (next_mode Start x) rest)) (still-lacking wanted state has 10 state.has_return Start size)
      ∙ ap (λ (h : Bool). lacks_still (lacks wanted state) (Some found) ∷ lacking_from wanted (next_state (state_here h state) mark x) (marked (left_within 0 mark) (next_mode Start x) rest)) (sym here)

  -- lines at the end, behind the end of a line
  last-behind : (state : FillState) (found : Found) → Sound Start state → state.begun ≡ true → ((strain : Strain) (declarer : Seat) → tricks_of found.table strain declarer ≤ 13) → HasPar (conditions_of state) found.par
      → lacking_from wanted state (marked 0 Start (added_text (record { has_return = state.has_return; leads = false }) (lacks wanted state) found)) ≡ lacks_still (lacks wanted state) (Some found) ∷ []
  last-behind state found sound begun most par =
      let fits = par-fits (conditions_of state) found.par par in
      let text : List ℕ = added_text (record { has_return = state.has_return; leads = false }) (lacks wanted state) found in
      let t : FillState = at_spot state (spot (names_with (lacks wanted state) (is_some found.par) state.names) 10 state.has_return 0 Start) in
      let goes = added-passes (watching wanted) state false state.has_return (lacks wanted state) found most fits.0 state.names [] in
      let first = ap (λ (s : FillState). lacking_from wanted s (marked 0 Start text)) (state-is state Start begun (sound.line tt begun)) in
      let nil = ap (λ (l : List ℕ). lacking_from wanted (at_spot state (spot state.names 10 state.has_return 0 Start)) (marked 0 Start l)) (sym (append-nil text)) in
      first ∙ nil ∙ goes ∙ lacking-end wanted t 0 Start ∙ ap (λ (b : Bool). b ∷ []) (still-lacking wanted state (is_some found.par) 10 state.has_return Start sound.size)

  -- lines at the end that begin by ending the last line
  last-before : (mode : Mode) (state : FillState) (found : Found) → IsOpen mode → Sound mode state → state.begun ≡ true → ((strain : Strain) (declarer : Seat) → tricks_of found.table strain declarer ≤ 13) → HasPar (conditions_of state) found.par
      → lacking_from wanted state (marked 0 mode (added_text (record { has_return = state.has_return; leads = true }) (lacks wanted state) found)) ≡ lacks_still (lacks wanted state) (Some found) ∷ []
  last-before mode state found free sound begun most par =
      let fits = par-fits (conditions_of state) found.par par in
      let text : List ℕ = added_text (record { has_return = state.has_return; leads = true }) (lacks wanted state) found in
      let over = added-passes (watching wanted) state true state.has_return (lacks wanted state) found most fits.0 state.names state.last state.has_return mode free in
      let t : FillState = at_spot state (spot (names_with (lacks wanted state) (is_some found.par) state.names) over.0 over.1 0 over.2) in
      let first = ap (λ (s : FillState). lacking_from wanted s (marked 0 mode text)) (begun-is state mode begun) in
      let nil = ap (λ (l : List ℕ). lacking_from wanted (at_spot state (spot state.names state.last state.has_return 0 mode)) (marked 0 mode l)) (sym (append-nil text)) in
      first ∙ nil ∙ over.4 [] ∙ lacking-end wanted t 0 over.2 ∙ ap (λ (b : Bool). b ∷ []) (still-lacking wanted state (is_some found.par) over.0 over.1 over.2 sound.size)

  end-lines : (mode : Mode) (state : FillState) (found : Found) → Sound mode state → state.begun ≡ true → (mode ≡ Start) ⊎ IsOpen mode → ((strain : Strain) (declarer : Seat) → tricks_of found.table strain declarer ≤ 13) → HasPar (conditions_of state) found.par
      → lacking_from wanted state (marked 0 mode (text_of wanted state (Some found))) ≡ lacks_still (lacks wanted state) (Some found) ∷ []
  end-lines mode state found sound begun (inl start) most par =
      let whole : Sound Start state = subst (λ (m : Mode). Sound m state) start sound in
      ap (λ (m : Mode). lacking_from wanted state (marked 0 m (text_of wanted state (Some found)))) start
      ∙ ap (λ (n : ℕ). lacking_from wanted state (marked 0 Start (added_text (record { has_return = state.has_return; leads = not (n == 10) }) (lacks wanted state) found))) (whole.line tt begun)
      ∙ last-behind state found whole begun most par
  end-lines mode state found sound begun (inr free) most par =
      ap (λ (b : Bool). lacking_from wanted state (marked 0 mode (added_text (record { has_return = state.has_return; leads = not b }) (lacks wanted state) found))) (sound.free free)
      ∙ last-before mode state found free sound begun most par

  -- at the end of the file
  open-end : (closed begun : Bool) (state : FillState) (texts : TextsOf) (answer : Option Found) → (closed && begun) ≡ false
      → (begun && is_some (why closed wanted state texts answer)) ≡ (begun && is_lacking wanted state)
  open-end true true state texts answer e = absurd (true≢false e)
  open-end false true state texts answer e = some-if (is_lacking wanted state) _
  open-end true false state texts answer e = refl
  open-end false false state texts answer e = refl

  closed-is : (closed begun : Bool) → (closed && begun) ≡ true → (closed ≡ true) × (begun ≡ true)
  closed-is true true e = (refl, refl)
  closed-is true false e = absurd (true≢false (sym e))
  closed-is false begun e = absurd (true≢false (sym e))

  end-told : (left : ℕ) (mode : Mode) (state : FillState) (texts : TextsOf) (answers : List (Option Found)) → Sound mode state
      → (ends_last (is_closed left mode) state ≡ true → MayAnswer (ask_of wanted state) (first_of answers))
      → (state.begun && is_some (why (is_closed left mode) wanted state texts (first_of answers))) ∷ []
      ≡ lacking_from wanted state (marked left mode (text_here (ends_last (is_closed left mode) state) wanted state answers))
  end-told left mode state texts answers sound has = go (ends_last (is_closed left mode) state) refl
    where
      closed : Bool
      closed = is_closed left mode

      -- by what was answered
      told : ends_last closed state ≡ true → (state.begun && is_some (why closed wanted state texts (first_of answers))) ≡ lacks_still (lacks wanted state) (first_of answers)
      told here =
          let is = closed-is closed state.begun here in
          ap (λ (b : Bool). b && is_some (why closed wanted state texts (first_of answers))) is.1
          ∙ ap (λ (b : Bool). is_some (why b wanted state texts (first_of answers))) is.0
          ∙ why-told true wanted state texts (first_of answers) (has here)

      lines : ends_last closed state ≡ true
          → (first_of answers ≡ None)
          ⊎ ((found : Found) × (first_of answers ≡ Some found) × ((strain : Strain) (declarer : Seat) → tricks_of found.table strain declarer ≤ 13) × HasPar (conditions_of state) found.par)
          → lacks_still (lacks wanted state) (first_of answers) ∷ [] ≡ lacking_from wanted state (marked left mode (text_of wanted state (first_of answers)))
      lines here (inl none) =
          let is = closed-is closed state.begun here in
          ap (λ (a : Option Found). lacks_still (lacks wanted state) a ∷ []) none
          ∙ ap (λ (b : Bool). (b && is_lacking wanted state) ∷ []) (sym is.1) ∙ sym (lacking-end wanted state left mode)
          ∙ ap (λ (a : Option Found). lacking_from wanted state (marked left mode (text_of wanted state a))) (sym none)
      lines here (inr some) =
          let at = end-mode wanted left mode state sound here in
          ap (λ (a : Option Found). lacks_still (lacks wanted state) a ∷ []) some.1
          ∙ sym (end-lines mode state some.0 sound at.1 at.2 some.2 some.3)
          ∙ ap (λ (n : ℕ). lacking_from wanted state (marked n mode (text_of wanted state (Some some.0)))) (sym at.0)
          ∙ ap (λ (a : Option Found). lacking_from wanted state (marked left mode (text_of wanted state a))) (sym some.1)

      go : (here : Bool) → ends_last closed state ≡ here
          → (state.begun && is_some (why closed wanted state texts (first_of answers))) ∷ [] ≡ lacking_from wanted state (marked left mode (text_here (ends_last closed state) wanted state answers))
      go false here =
          ap (λ (b : Bool). b ∷ []) (open-end closed state.begun state texts (first_of answers) here) ∙ sym (lacking-end wanted state left mode)
          ∙ ap (λ (b : Bool). lacking_from wanted state (marked left mode (text_here b wanted state answers))) (sym here)
      go true here =
          ap (λ (b : Bool). b ∷ []) (told here)
          ∙ lines here (given-may (thirteen_in (value_of state.deal)) (conditions_of state) (lacks wanted state) (first_of answers) (has here))
          ∙ ap (λ (b : Bool). lacking_from wanted state (marked left mode (text_here b wanted state answers))) (sym here)

  -- what begins at a byte begins at it in the filled file
  mark-filled : (left : ℕ) (mode : Mode) (x : ℕ) (xs : List ℕ) (state : FillState) (answers : List (Option Found)) → Sound mode state → May wanted left mode (x ∷ xs) state answers
      → begins_within left mode (x ∷ behind_at wanted left mode x xs state answers) ≡ begins_within left mode (x ∷ xs)
  mark-filled (suc left) mode x xs state answers sound all = refl
  mark-filled zero mode x xs state answers sound all = mark-same mode x xs (behind_at wanted 0 mode x xs state answers) (behind-filled wanted mode x xs state answers sound all)

  end-may : (here : Bool) (ask : Option Ask) (answers : List (Option Found)) → AllMay (asked_here here ask) answers → here ≡ true → MayAnswer ask (first_of answers)
  end-may false ask answers all e = absurd (true≢false (sym e))
  end-may true ask answers all e = (may-split true ask [] answers all).0 refl

  -- from any place on
  pub told-lacking : (bytes : List ℕ) (left : ℕ) (mode : Mode) (state : FillState) (notes : GameNotes) (answers : List (Option Found)) → Sound mode state → May wanted left mode bytes state answers
      → games_told false (told_from wanted answers state notes (marked left mode bytes)) ≡ lacking_from wanted state (marked left mode (filled_from wanted answers state (marked left mode bytes)))
  told-lacking [] left mode state notes answers sound all =
      ap (games_told false) (told-end wanted answers state notes left mode)
      ∙ last-flags (is_closed left mode) wanted state notes (first_of answers) (games_in state notes)
      ∙ end-told left mode state notes.texts answers sound
      (end-may (ends_last (is_closed left mode) state) (ask_of wanted state) answers (subst (λ (l : List (Option Ask)). AllMay l answers) (asks-end wanted left mode state) all))
      ∙ ap (λ (l : List ℕ). lacking_from wanted state (marked left mode l)) (sym (filled-end wanted left mode state answers))
  told-lacking (x ∷ xs) left mode state notes answers sound all =
      let mark = begins_within left mode (x ∷ xs) in
      let here = ends state mark in
      let step = may-step wanted left mode x xs state answers all in
      let behind = behind_at wanted left mode x xs state answers in
      let flag = is_some (why (has_place mark) wanted state notes.texts (first_of answers)) in
      let rest = told-lacking xs (left_within left mark) (next_mode mode x) (state_after wanted left mode x xs state) (next_notes state mark notes) (answers_after here answers)
      (sound-next left mode x xs state sound) step.1 in
      ap (games_told false) (told-byte wanted answers state notes left mode x xs mark refl)
      ∙ told-flags here (has_place mark) wanted state notes (first_of answers) (told_from wanted (answers_after here answers) (state_after wanted left mode x xs state) (next_notes state mark notes)
      (marked (left_within left mark) (next_mode mode x) xs))
      ∙ ap (λ (l : List Bool). lacking_here here flag ++ l) rest
      ∙ go (puts-may wanted state left mode x xs answers sound step.0) step.0
      ∙ ap (λ (l : List ℕ). lacking_from wanted state (marked left mode l)) (sym (filled-step wanted left mode x xs state answers))
    where
      go : Puts wanted state left mode (begins_within left mode (x ∷ xs)) answers ⊎ PutsNothing wanted state (begins_within left mode (x ∷ xs)) answers
          → (ends state (begins_within left mode (x ∷ xs)) ≡ true → MayAnswer (ask_at (has_place (begins_within left mode (x ∷ xs))) wanted state) (first_of answers))
          → lacking_here (ends state (begins_within left mode (x ∷ xs))) (is_some (why (has_place (begins_within left mode (x ∷ xs))) wanted state notes.texts (first_of answers)))
          ++ lacking_from wanted (state_after wanted left mode x xs state) (marked (left_within left (begins_within left mode (x ∷ xs))) (next_mode mode x) (behind_at wanted left mode x xs state answers))
          ≡ lacking_from wanted state (marked left mode (text_at wanted left mode x xs state answers ++ x ∷ behind_at wanted left mode x xs state answers))
      go (inr p) has =
          let mark = begins_within left mode (x ∷ xs) in
          let tail = behind_at wanted left mode x xs state answers in
          let after = lacking_from wanted (state_after wanted left mode x xs state) (marked (left_within left mark) (next_mode mode x) tail) in
          ap (λ (l : List Bool). l ++ after)
          (same-here (ends state mark) (is_some (why (has_place mark) wanted state notes.texts (first_of answers))) (is_lacking wanted state)
          (λ e. why-told (has_place mark) wanted state notes.texts (first_of answers) (has e) ∙ ap (lacks_still (lacks wanted state)) (p.none e)))
          ∙ sym (lacking-byte wanted state left mode x tail mark (mark-filled left mode x xs state answers sound all))
          ∙ ap (λ (l : List ℕ). lacking_from wanted state (marked left mode (l ++ x ∷ tail))) (sym p.text)
      go (inl p) has =
          let mark = begins_within left mode (x ∷ xs) in
          let tail = behind_at wanted left mode x xs state answers in
          let text : List ℕ = added_text (record { has_return = state.has_return; leads = false }) (lacks wanted state) p.found in
          let flag = is_some (why (has_place mark) wanted state notes.texts (first_of answers)) in
          let after : FillState = state_after wanted left mode x xs state in
          let is : begins_within 0 Start (x ∷ tail) ≡ mark =
          ap (λ (n : ℕ). begins_within n Start (x ∷ tail)) (sym p.none_left) ∙ ap (λ (m : Mode). begins_within left m (x ∷ tail)) (sym p.start) ∙ mark-filled left mode x xs state answers sound all in
          let still : flag ≡ lacks_still (lacks wanted state) (Some p.found) =
          why-told (has_place mark) wanted state notes.texts (first_of answers) (has p.here) ∙ ap (lacks_still (lacks wanted state)) p.is in
          ap (λ (h : Bool). lacking_here h flag ++ lacking_from wanted after (marked (left_within left mark) (next_mode mode x) tail)) p.here
          ∙ ap (λ (b : Bool). b ∷ lacking_from wanted after (marked (left_within left mark) (next_mode mode x) tail)) still
          ∙ ap (λ (n : ℕ). lacks_still (lacks wanted state) (Some p.found) ∷ lacking_from wanted after (marked (left_within n mark) (next_mode mode x) tail)) p.none_left
          ∙ ap (λ (m : Mode). lacks_still (lacks wanted state) (Some p.found) ∷ lacking_from wanted after (marked (left_within 0 mark) (next_mode m x) tail)) p.start
          ∙ sym (put-lacking x tail state mark p.found sound.size p.here p.begun p.last is p.most p.par)
          ∙ ap (λ (n : ℕ). lacking_from wanted state (marked n Start (text ++ x ∷ tail))) (sym p.none_left)
          ∙ ap (λ (m : Mode). lacking_from wanted state (marked left m (text ++ x ∷ tail))) (sym p.start)
          ∙ ap (λ (l : List ℕ). lacking_from wanted state (marked left mode (l ++ x ∷ tail))) (sym p.text)
