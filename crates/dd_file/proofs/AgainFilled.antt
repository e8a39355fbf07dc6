-- A filled file beside the file, from any place on.
use Rattle.std.proofs.Common.{◌≡◌, ◌∙◌, ℕ, zero, suc, ◌≤◌, ◌==◌, Bool, true, false, List, [], ◌∷◌, ◌++◌, take, refl, sym, ap, subst, ◌⊎◌, inl, inr, true≢false, Option, None, Some, is_some, Result, Ok, Err}
use Rattle.std.specs.Prelude.{◌&&◌, if◌then◌else◌}
use mathlib.Core.Bool.{not}
use Rattle.dd_cards.specs.Hands.{FourHands}
use Rattle.dd_cards.specs.declared.seat.Seat.{Seat}
use Rattle.dd_cards.specs.declared.strain.Strain.{Strain}
use Rattle.dd_score.specs.Tables.{tricks_of}
use Rattle.dd_file.specs.declared.fill_state.Conditions.{Conditions}
use Rattle.dd_file.specs.declared.fill_state.FillState.{FillState}
use Rattle.dd_file.specs.declared.line_text.LineEnds.{LineEnds}
use Rattle.dd_file.specs.declared.mode.Mode.{Mode}
use Rattle.dd_file.specs.declared.mode.Mode.TheVariants.{Head, Mark1, Mark2, Start, Plain, Escaped, Remark, Braced, Quoted, Backslash}
use Rattle.dd_file.specs.declared.tag_reader.Miss.{Miss}
use Rattle.dd_file.specs.declared.tag_reader.Miss.TheVariants.{NoTag, Ends}
use Rattle.dd_file.specs.declared.value.Unfit.{Unfit}
use Rattle.dd_file.specs.declared.wanted.Wanted.{Wanted}
use Rattle.dd_file.proofs.AgainAnswers.{AllAnswered, AllMay, HasAnswer, HasPar, MayAnswer, has-may, unasked}
use Rattle.dd_file.specs.Filled.{Ask, Found, ParFound, added_text, answers_after, ask_at, ask_with, asked_here, first_of, has_place, needs, text_here, text_of}
use Rattle.dd_file.specs.Games.{conditions_of, ends, has_name, is_required, lacks}
use Rattle.dd_file.specs.Kepts.{value_of}
use Rattle.dd_file.specs.Lines.{line_with}
use Rattle.dd_file.specs.Marked.{begins, begins_within}
use Rattle.dd_file.specs.Marks.{Begins, nothing, empty_line, tag, cut, mark_at, mark_read}
use Rattle.dd_file.specs.Tags.{TagParts, tag_at}
use Rattle.dd_file.specs.Values.{thirteen_in}
use Rattle.dd_file.proofs.AgainLines.{FitsPar}
use Rattle.dd_file.proofs.AgainMarks.{is_all, plain-begins}
use Rattle.dd_file.proofs.AgainMiss.{IsAtStart}
use Rattle.dd_file.proofs.AgainStates.{Sound}

-- ---- answers
-- what is answered here, and of the games after it
pub answered-split : (here : Bool) (ask : Option Ask) (asks : List (Option Ask)) (answers : List (Option Found)) → AllAnswered (asked_here here ask ++ asks) answers
    → (here ≡ true → HasAnswer ask (first_of answers)) × AllAnswered asks (answers_after here answers)
answered-split false ask asks answers all = (λ e. absurd (true≢false (sym e)), all)
answered-split true ask asks [] all = absurd all
answered-split true ask asks (answer ∷ answers) all = (λ e. all.0, all.1)

-- the same where results may have been given up
pub may-split : (here : Bool) (ask : Option Ask) (asks : List (Option Ask)) (answers : List (Option Found)) → AllMay (asked_here here ask ++ asks) answers
    → (here ≡ true → MayAnswer ask (first_of answers)) × AllMay asks (answers_after here answers)
may-split false ask asks answers all = (λ e. absurd (true≢false (sym e)), all)
may-split true ask asks [] all = absurd all
may-split true ask asks (answer ∷ answers) all = (λ e. all.0, all.1)

-- an answer is none, or it has the results of a deal, and par where that is asked for
pub given-may : (deal : Result FourHands Unfit) (conditions : Option Conditions) (lacking : Wanted) (answer : Option Found) → MayAnswer (ask_with deal conditions lacking) answer
    → (answer ≡ None) ⊎ ((found : Found) × (answer ≡ Some found) × ((strain : Strain) (declarer : Seat) → tricks_of found.table strain declarer ≤ 13) × HasPar conditions found.par)
given-may (Err unfit) conditions lacking answer has = inl has
given-may (Ok deal) conditions lacking answer has = go (needs lacking (is_some conditions)) answer has
  where
    go : (t : Bool) (answer : Option Found) → MayAnswer (if t then Some (record { deal = deal; conditions = conditions }) else None) answer
        → (answer ≡ None) ⊎ ((found : Found) × (answer ≡ Some found) × ((strain : Strain) (declarer : Seat) → tricks_of found.table strain declarer ≤ 13) × HasPar conditions found.par)
    go false answer has = inl has
    go true None has = inl refl
    go true (Some found) has = inr (found, refl, has.0, has.1)

-- an answer is none, or it is what the game needs
pub given : (deal : Result FourHands Unfit) (conditions : Option Conditions) (lacking : Wanted) (answer : Option Found) → HasAnswer (ask_with deal conditions lacking) answer
    → ((answer ≡ None) × (ask_with deal conditions lacking ≡ None))
    ⊎ ((found : Found) × (answer ≡ Some found) × ((strain : Strain) (declarer : Seat) → tricks_of found.table strain declarer ≤ 13) × HasPar conditions found.par)
given (Err unfit) conditions lacking answer has = inl (has, refl)
given (Ok deal) conditions lacking answer has = go (needs lacking (is_some conditions)) answer has
  where
    go : (t : Bool) (answer : Option Found) → HasAnswer (if t then Some (record { deal = deal; conditions = conditions }) else None) answer
        → ((answer ≡ None) × ((let o : Option Ask = if t then Some (record { deal = deal; conditions = conditions }) else None in o) ≡ None))
        ⊎ ((found : Found) × (answer ≡ Some found) × ((strain : Strain) (declarer : Seat) → tricks_of found.table strain declarer ≤ 13) × HasPar conditions found.par)
    go false answer has = inl (has, refl)
    go true None has = absurd has
    go true (Some found) has = inr (found, refl, has.0, has.1)

pub par-fits : (conditions : Option Conditions) (par : Option ParFound) → HasPar conditions par → FitsPar par × (is_some par ≡ is_some conditions)
par-fits None par has = (subst FitsPar (sym has) tt, ap (λ (p : Option ParFound). is_some p) has)
par-fits (Some conditions) None has = absurd has
par-fits (Some conditions) (Some par) has = (has, refl)

-- ---- where lines are put in
ends-begun : (state : FillState) (mark : Begins) → ends state mark ≡ true → state.begun ≡ true
ends-begun state nothing e = absurd (true≢false (sym e))
ends-begun state empty_line e = e
ends-begun state (tag is_first size name quoted) e = go state.begun e
  where
    go : (b : Bool) → (b && has_name (is_required name) state.names) ≡ true → b ≡ true
    go true e = refl
    go false e = e
ends-begun state (cut size) e = absurd (true≢false (sym e))

read-place : (all : Bool) (near : List ℕ) (read : Result TagParts Miss) → has_place (mark_read false all near read) ≡ true → ⊥
read-place all near (Ok parts) e = true≢false (sym e)
read-place all near (Err NoTag) e = true≢false (sym e)
read-place true near (Err Ends) e = true≢false (sym e)
read-place false near (Err Ends) e = true≢false (sym e)

plain-place : (mode : Mode) (x : ℕ) (xs : List ℕ) → mode ≡ Plain ⊎ (mode ≡ Mark1 ⊎ mode ≡ Mark2) → has_place (begins mode (x ∷ xs)) ≡ true → ⊥
plain-place mode x xs plain e = read-place (is_all x xs) (x ∷ take 65535 xs) (tag_at (x ∷ take 65535 xs)) (sym (ap has_place (plain-begins mode x xs plain)) ∙ e)

at-place : (left : ℕ) (mode : Mode) (x : ℕ) (xs : List ℕ) (state : FillState) → Sound mode state → state.begun ≡ true → has_place (begins_within left mode (x ∷ xs)) ≡ true → (left ≡ 0) × (mode ≡ Start)
unfolding mark_at
at-place (suc left) mode x xs state sound begun e = absurd (true≢false (sym e))
at-place zero Start x xs state sound begun e = (refl, refl)
at-place zero Head x xs state sound begun e = absurd (true≢false (sym begun ∙ sound.fresh tt))
at-place zero Mark1 x xs state sound begun e = absurd (plain-place Mark1 x xs (inr (inl refl)) e)
at-place zero Mark2 x xs state sound begun e = absurd (plain-place Mark2 x xs (inr (inr refl)) e)
at-place zero Plain x xs state sound begun e = absurd (plain-place Plain x xs (inl refl) e)
at-place zero Escaped x xs state sound begun e = absurd (true≢false (sym e))
at-place zero Remark x xs state sound begun e = absurd (true≢false (sym e))
at-place zero Braced x xs state sound begun e = absurd (true≢false (sym e))
at-place zero Quoted x xs state sound begun e = absurd (true≢false (sym e))
at-place zero Backslash x xs state sound begun e = absurd (true≢false (sym e))

-- the lines of a game before a byte
pub record Puts (wanted : Wanted) (state : FillState) (left : ℕ) (mode : Mode) (mark : Begins) (answers : List (Option Found)) : Type 0 where
  pub found : Found
  pub is : first_of answers ≡ Some found
  pub here : ends state mark ≡ true
  pub begun : state.begun ≡ true
  pub place : has_place mark ≡ true
  pub none_left : left ≡ 0
  pub start : mode ≡ Start
  pub last : state.last ≡ 10
  pub text : text_here (ends state mark) wanted state answers ≡ added_text (record { has_return = state.has_return; leads = false }) (lacks wanted state) found
  pub most : (strain : Strain) (declarer : Seat) → tricks_of found.table strain declarer ≤ 13
  pub par : HasPar (conditions_of state) found.par

-- or none, since there is no answer
pub record PutsNothing (wanted : Wanted) (state : FillState) (mark : Begins) (answers : List (Option Found)) : Type 0 where
  pub text : text_here (ends state mark) wanted state answers ≡ []
  pub none : ends state mark ≡ true → first_of answers ≡ None

-- or none, and then nothing is asked
pub record PutsNone (wanted : Wanted) (state : FillState) (mark : Begins) (answers : List (Option Found)) : Type 0 where
  pub text : text_here (ends state mark) wanted state answers ≡ []
  pub ask : ends state mark ≡ true → ask_at (has_place mark) wanted state ≡ None

pub puts-may : (wanted : Wanted) (state : FillState) (left : ℕ) (mode : Mode) (x : ℕ) (xs : List ℕ) (answers : List (Option Found)) → Sound mode state
    → (ends state (begins_within left mode (x ∷ xs)) ≡ true → MayAnswer (ask_at (has_place (begins_within left mode (x ∷ xs))) wanted state) (first_of answers))
    → Puts wanted state left mode (begins_within left mode (x ∷ xs)) answers ⊎ PutsNothing wanted state (begins_within left mode (x ∷ xs)) answers
puts-may wanted state left mode x xs answers sound has = go (begins_within left mode (x ∷ xs)) (ends state (begins_within left mode (x ∷ xs))) (has_place (begins_within left mode (x ∷ xs))) refl refl refl has
  where
    nothing_put : (mark : Begins) → ends state mark ≡ true → first_of answers ≡ None → PutsNothing wanted state mark answers
    nothing_put mark here none = record { text = ap (λ b. text_here b wanted state answers) here ∙ ap (text_of wanted state) none; none = λ e. none }

    lines : (mark : Begins) → begins_within left mode (x ∷ xs) ≡ mark → ends state mark ≡ true → has_place mark ≡ true
        → (first_of answers ≡ None)
        ⊎ ((found : Found) × (first_of answers ≡ Some found) × ((strain : Strain) (declarer : Seat) → tricks_of found.table strain declarer ≤ 13) × HasPar (conditions_of state) found.par)
        → Puts wanted state left mode mark answers ⊎ PutsNothing wanted state mark answers
    lines mark is here place (inl none) = inr (nothing_put mark here none)
    lines mark is here place (inr some) =
        let begun : state.begun ≡ true = ends-begun state mark here in
        let at : (left ≡ 0) × (mode ≡ Start) = at-place left mode x xs state sound begun (ap has_place is ∙ place) in
        let last : state.last ≡ 10 = sound.line (subst IsAtStart (sym at.1) tt) begun in
        inl (record {
          found = some.0;
          is = some.1;
          here = here;
          begun = begun;
          place = place;
          none_left = at.0;
          start = at.1;
          last = last;
          text = ap (λ b. text_here b wanted state answers) here ∙ ap (text_of wanted state) some.1
              ∙ ap (λ (n : ℕ). added_text (let e : LineEnds = record { has_return = state.has_return; leads = not (n == 10) } in e) (lacks wanted state) some.0) last;
          most = some.2;
          par = some.3;
        })

    go : (mark : Begins) (here place : Bool) → begins_within left mode (x ∷ xs) ≡ mark → ends state mark ≡ here → has_place mark ≡ place → (ends state mark ≡ true → MayAnswer (ask_at (has_place mark) wanted state) (first_of answers))
        → Puts wanted state left mode mark answers ⊎ PutsNothing wanted state mark answers
    go mark false place is here at has = inr (record { text = ap (λ b. text_here b wanted state answers) here; none = λ e. absurd (true≢false (sym e ∙ here)) })
    go mark true false is here at has = inr (nothing_put mark here (subst (λ (b : Bool). MayAnswer (ask_at b wanted state) (first_of answers)) at (has here)))
    go mark true true is here at has =
        lines mark is here at (given-may (thirteen_in (value_of state.deal)) (conditions_of state) (lacks wanted state) (first_of answers)
        (subst (λ (b : Bool). MayAnswer (ask_at b wanted state) (first_of answers)) at (has here)))

pub puts : (wanted : Wanted) (state : FillState) (left : ℕ) (mode : Mode) (x : ℕ) (xs : List ℕ) (answers : List (Option Found)) → Sound mode state
    → (ends state (begins_within left mode (x ∷ xs)) ≡ true → HasAnswer (ask_at (has_place (begins_within left mode (x ∷ xs))) wanted state) (first_of answers))
    → Puts wanted state left mode (begins_within left mode (x ∷ xs)) answers ⊎ PutsNone wanted state (begins_within left mode (x ∷ xs)) answers
puts wanted state left mode x xs answers sound has = go (puts-may wanted state left mode x xs answers sound (λ e. has-may ask (first_of answers) (has e)))
  where
    ask : Option Ask
    ask = ask_at (has_place (begins_within left mode (x ∷ xs))) wanted state

    go : Puts wanted state left mode (begins_within left mode (x ∷ xs)) answers ⊎ PutsNothing wanted state (begins_within left mode (x ∷ xs)) answers
        → Puts wanted state left mode (begins_within left mode (x ∷ xs)) answers ⊎ PutsNone wanted state (begins_within left mode (x ∷ xs)) answers
    go (inl p) = inl p
    go (inr p) = inr (record { text = p.text; ask = λ e. unasked ask (subst (λ (a : Option Found). HasAnswer ask a) (p.none e) (has e)) })

-- lines that have their ends behind them begin with a bracket
pub lines-begin : (h : Bool) (lacking : Wanted) (found : Found) → (added_text (record { has_return = h; leads = false }) lacking found ≡ []) ⊎ ((t : List ℕ) × (added_text (record { has_return = h; leads = false }) lacking found ≡ 91 ∷ t))
unfolding added_text line_with
lines-begin h lacking found = go lacking.tricks lacking.score lacking.contract lacking.table found.par
  where
    go : (a b c d : Bool) (par : Option ParFound) → (added_text (record { has_return = h; leads = false }) (record { tricks = a; score = b; contract = c; table = d }) (record { table = found.table; par = par }) ≡ [])
        ⊎ ((t : List ℕ) × (added_text (record { has_return = h; leads = false }) (record { tricks = a; score = b; contract = c; table = d }) (record { table = found.table; par = par }) ≡ 91 ∷ t))
    go true b c d None = inr (_, refl)
    go true b c d (Some par) = inr (_, refl)
    go false b c true None = inr (_, refl)
    go false b c false None = inl refl
    go false true c d (Some par) = inr (_, refl)
    go false false true d (Some par) = inr (_, refl)
    go false false false true (Some par) = inr (_, refl)
    go false false false false (Some par) = inl refl
