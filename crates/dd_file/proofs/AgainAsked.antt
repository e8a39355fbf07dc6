-- A filled file asks nothing, and filled again it is as it was.
use Rattle.std.proofs.Common.{◌≡◌, ◌∙◌, ℕ, zero, suc, ◌≤◌, ◌==◌, Bool, true, false, List, [], ◌∷◌, ◌++◌, length, refl, sym, ap, subst, arith, ◌⊎◌, inl, inr, true≢false, append-nil, Option, None, Some, is_some, All, IsNone}
use Rattle.std.specs.Prelude.{◌&&◌}
use mathlib.Core.Bool.{not}
use Rattle.dd_cards.specs.declared.seat.Seat.{Seat}
use Rattle.dd_cards.specs.declared.strain.Strain.{Strain}
use Rattle.dd_score.specs.Tables.{tricks_of}
use Rattle.dd_file.specs.declared.fill_state.FillState.{FillState}
use Rattle.dd_file.specs.declared.mode.Mode.{Mode}
use Rattle.dd_file.specs.declared.mode.Mode.TheVariants.{Head, Mark1, Mark2, Start, Plain, Escaped, Remark, Braced, Quoted, Backslash}
use Rattle.dd_file.specs.declared.wanted.Wanted.{Wanted}
use Rattle.dd_file.proofs.AgainAnswers.{AllAnswered, HasAnswer, HasPar, answered-may}
use Rattle.dd_file.specs.Filled.{Ask, Found, added_text, answers_after, ask_at, ask_of, asked_here, asks_from, ends_last, filled_from, first_of, has_place, state_here, text_here, text_of}
use Rattle.dd_file.specs.Games.{after_end, conditions_of, ends, first_state, has_name, is_required, lacks, next_state}
use Rattle.dd_file.specs.Kepts.{value_of}
use Rattle.dd_file.specs.Marked.{begins_within, is_closed, left_within, marked}
use Rattle.dd_file.specs.Marks.{Begins, nothing, empty_line, tag, cut}
use Rattle.dd_file.specs.Modes.{next_mode}
use Rattle.dd_file.specs.Values.{thirteen_in}
use Rattle.dd_file.proofs.AgainBehind.{Answered, answered-step, behind-filled, behind_at, filled-end, filled-step, state_after, text_at}
use Rattle.dd_file.proofs.AgainFilled.{Puts, PutsNone, answered-split, given, par-fits, puts}
use Rattle.dd_file.proofs.AgainLines.{added-passes, names_with}
use Rattle.dd_file.proofs.AgainMarks.{mark-same}
use Rattle.dd_file.proofs.AgainOver.{Walk, at_spot, spot}
use Rattle.dd_file.proofs.AgainStates.{Sound, ask-filled, name-kept, sound-next}
use Rattle.dd_file.proofs.AgainTagLines.{IsOpen}
use Rattle.dd_file.proofs.Going.{asks-byte}

-- none of them asks
abbrev pub NoneAsk : List (Option Ask) → Type 0
NoneAsk [] = Unit {0}
NoneAsk (ask ∷ asks) = (ask ≡ None) × NoneAsk asks

pub none-all : (asks : List (Option Ask)) → NoneAsk asks → All IsNone asks
none-all [] none k d within = absurd (omega arith)
none-all (ask ∷ asks) none zero d within = subst (λ (a : Option Ask). IsNone a) (sym none.0) refl
none-all (ask ∷ asks) none (suc k) d within = none-all asks none.1 k d (omega arith)

none-append : (here : Bool) (ask : Option Ask) (asks : List (Option Ask)) → (here ≡ true → ask ≡ None) → NoneAsk asks → NoneAsk (asked_here here ask ++ asks)
none-append false ask asks none rest = rest
none-append true ask asks none rest = (none refl, rest)

none-here : (here : Bool) (ask : Option Ask) → (here ≡ true → ask ≡ None) → NoneAsk (asked_here here ask)
none-here false ask none = tt
none-here true ask none = (none refl, tt)

none-split : (here : Bool) (ask : Option Ask) (asks : List (Option Ask)) → NoneAsk (asked_here here ask ++ asks) → (here ≡ true → ask ≡ None) × NoneAsk asks
none-split false ask asks none = (λ e. absurd (true≢false (sym e)), none)
none-split true ask asks none = (λ e. none.0, none.1)

-- the game at hand, where it has begun and a line has ended
pub state-is : (state : FillState) (mode : Mode) → state.begun ≡ true → state.last ≡ 10 → state ≡ at_spot state (spot state.names 10 state.has_return 0 mode)
state-is state mode begun last =
    ap (λ (b : Bool). (let s : FillState = record { begun = b; names = state.names; deal = state.deal; dealer = state.dealer; vulnerable = state.vulnerable; last = state.last; has_return = state.has_return } in s)) begun
    ∙ ap (λ (l : ℕ). (let s : FillState = record { begun = true; names = state.names; deal = state.deal; dealer = state.dealer; vulnerable = state.vulnerable; last = l; has_return = state.has_return } in s)) last

pub begun-is : (state : FillState) (mode : Mode) → state.begun ≡ true → state ≡ at_spot state (spot state.names state.last state.has_return 0 mode)
begun-is state mode begun =
    ap (λ (b : Bool). (let s : FillState = record { begun = b; names = state.names; deal = state.deal; dealer = state.dealer; vulnerable = state.vulnerable; last = state.last; has_return = state.has_return } in s)) begun

-- with its lines a game ends where it ended
pub ends-filled : (state : FillState) (mark : Begins) (lacking : Wanted) (has : Bool) → ends state mark ≡ true → ends (at_spot state (spot (names_with lacking has state.names) 10 state.has_return 0 Start)) mark ≡ true
ends-filled state nothing lacking has e = e
ends-filled state empty_line lacking has e = refl
ends-filled state (tag is_first size name quoted) lacking has e = name-kept lacking has state.names name ∙ go state.begun e
  where
    go : (b : Bool) → (b && has_name (is_required name) state.names) ≡ true → has_name (is_required name) state.names ≡ true
    go true e = e
    go false e = absurd (true≢false (sym e))
ends-filled state (cut size) lacking has e = e

-- and then nothing of them is left
pub over-filled : (state : FillState) (names : List Bool) → state.last ≡ 10 → after_end (at_spot state (spot names 10 state.has_return 0 Start)) ≡ after_end state
over-filled state names last =
    ap (λ (l : ℕ). (let s : FillState = record state { last = l } in after_end s)) (sym last)

-- what is asked is seen of the games
abbrev asking : Wanted → Walk (List (Option Ask))
asking wanted =
    record {
      seen = asks_from wanted;
      step = λ state left mode b rest mark is goes.
          asks-byte wanted state left mode b rest mark is
          ∙ ap (λ (h : Bool). asked_here h (ask_at (has_place mark) wanted state) ++ asks_from wanted (next_state (state_here h state) mark b) (marked (left_within left mark) (next_mode mode b) rest)) goes;
    }

module _ (wanted : Wanted) where
  -- over the lines of a game that ends before a byte
  put-asks : (x : ℕ) (rest : List ℕ) (state : FillState) (mark : Begins) (found : Found) → length state.names ≡ 19 → ends state mark ≡ true → state.begun ≡ true → has_place mark ≡ true → state.last ≡ 10
      → begins_within 0 Start (x ∷ rest) ≡ mark → ((strain : Strain) (declarer : Seat) → tricks_of found.table strain declarer ≤ 13) → HasPar (conditions_of state) found.par
      → NoneAsk (asks_from wanted (next_state (state_here (ends state mark) state) mark x) (marked (left_within 0 mark) (next_mode Start x) rest))
      → NoneAsk (asks_from wanted state (marked 0 Start (added_text (record { has_return = state.has_return; leads = false }) (lacks wanted state) found ++ x ∷ rest)))
  put-asks x rest state mark found size here begun place last is most par none =
      let fits = par-fits (conditions_of state) found.par par in
      let f = names_with (lacks wanted state) (is_some found.par) in
      let t : FillState = at_spot state (spot (f state.names) 10 state.has_return 0 Start) in
      let text : List ℕ = added_text (record { has_return = state.has_return; leads = false }) (lacks wanted state) found in
      let goes = added-passes (asking wanted) state false state.has_return (lacks wanted state) found most fits.0 state.names (x ∷ rest) in
      let first = ap (λ (s : FillState). asks_from wanted s (marked 0 Start (text ++ x ∷ rest))) (state-is state Start begun last) in
      let ended : ends t mark ≡ true = ends-filled state mark (lacks wanted state) (is_some found.par) here in
      let over : state_here (ends state mark) state ≡ state_here (ends t mark) t =
      ap (λ b. state_here b state) here ∙ sym (ap (λ b. state_here b t) ended ∙ over-filled state (f state.names) last) in
      subst NoneAsk (sym (first ∙ goes))
      (subst NoneAsk (sym (asks-byte wanted t 0 Start x rest mark is))
      (none-append (ends t mark) (ask_at (has_place mark) wanted t) (asks_from wanted (next_state (state_here (ends t mark) t) mark x) (marked (left_within 0 mark) (next_mode Start x) rest))
      (λ e. ap (λ b. ask_at b wanted t) place ∙ ask-filled wanted state (is_some found.par) 10 state.has_return Start size fits.1)
      (subst (λ (s : FillState). NoneAsk (asks_from wanted (next_state s mark x) (marked (left_within 0 mark) (next_mode Start x) rest))) over none)))

  asks-end : (left : ℕ) (mode : Mode) (state : FillState) → asks_from wanted state (marked left mode []) ≡ asked_here (ends_last (is_closed left mode) state) (ask_of wanted state)
  unfolding asks_from marked
  asks-end left mode state = refl

  none-end : (left : ℕ) (mode : Mode) (state : FillState) → ask_of wanted state ≡ None → NoneAsk (asks_from wanted state (marked left mode []))
  none-end left mode state none = subst NoneAsk (sym (asks-end left mode state)) (none-here (ends_last (is_closed left mode) state) (ask_of wanted state) (λ e. none))

  -- where a closed file ends a game
  pub end-mode : (left : ℕ) (mode : Mode) (state : FillState) → Sound mode state → ends_last (is_closed left mode) state ≡ true → (left ≡ 0) × (state.begun ≡ true) × ((mode ≡ Start) ⊎ IsOpen mode)
  end-mode (suc left) mode state sound e = absurd (true≢false (sym e))
  end-mode zero Head state sound e = absurd (true≢false (sym e ∙ sound.fresh tt))
  end-mode zero Mark1 state sound e = absurd (true≢false (sym e ∙ sound.fresh tt))
  end-mode zero Mark2 state sound e = absurd (true≢false (sym e ∙ sound.fresh tt))
  end-mode zero Braced state sound e = absurd (true≢false (sym e))
  end-mode zero Start state sound e = (refl, e, inl refl)
  end-mode zero Plain state sound e = (refl, e, inr tt)
  end-mode zero Escaped state sound e = (refl, e, inr tt)
  end-mode zero Remark state sound e = (refl, e, inr tt)
  end-mode zero Quoted state sound e = (refl, e, inr tt)
  end-mode zero Backslash state sound e = (refl, e, inr tt)

  -- lines at the end, behind the end of a line
  last-behind : (state : FillState) (found : Found) → Sound Start state → state.begun ≡ true → ((strain : Strain) (declarer : Seat) → tricks_of found.table strain declarer ≤ 13) → HasPar (conditions_of state) found.par
      → NoneAsk (asks_from wanted state (marked 0 Start (added_text (record { has_return = state.has_return; leads = false }) (lacks wanted state) found)))
  last-behind state found sound begun most par =
      let fits = par-fits (conditions_of state) found.par par in
      let text : List ℕ = added_text (record { has_return = state.has_return; leads = false }) (lacks wanted state) found in
      let t : FillState = at_spot state (spot (names_with (lacks wanted state) (is_some found.par) state.names) 10 state.has_return 0 Start) in
      let goes = added-passes (asking wanted) state false state.has_return (lacks wanted state) found most fits.0 state.names [] in
      let first = ap (λ (s : FillState). asks_from wanted s (marked 0 Start text)) (state-is state Start begun (sound.line tt begun)) in
      let nil = ap (λ (l : List ℕ). asks_from wanted (at_spot state (spot state.names 10 state.has_return 0 Start)) (marked 0 Start l)) (sym (append-nil text)) in
      subst NoneAsk (sym (first ∙ nil ∙ goes)) (none-end 0 Start t (ask-filled wanted state (is_some found.par) 10 state.has_return Start sound.size fits.1))

  -- lines at the end that begin by ending the last line
  last-before : (mode : Mode) (state : FillState) (found : Found) → IsOpen mode → Sound mode state → state.begun ≡ true → ((strain : Strain) (declarer : Seat) → tricks_of found.table strain declarer ≤ 13) → HasPar (conditions_of state) found.par
      → NoneAsk (asks_from wanted state (marked 0 mode (added_text (record { has_return = state.has_return; leads = true }) (lacks wanted state) found)))
  last-before mode state found free sound begun most par =
      let fits = par-fits (conditions_of state) found.par par in
      let text : List ℕ = added_text (record { has_return = state.has_return; leads = true }) (lacks wanted state) found in
      let over = added-passes (asking wanted) state true state.has_return (lacks wanted state) found most fits.0 state.names state.last state.has_return mode free in
      let t : FillState = at_spot state (spot (names_with (lacks wanted state) (is_some found.par) state.names) over.0 over.1 0 over.2) in
      let first = ap (λ (s : FillState). asks_from wanted s (marked 0 mode text)) (begun-is state mode begun) in
      let nil = ap (λ (l : List ℕ). asks_from wanted (at_spot state (spot state.names state.last state.has_return 0 mode)) (marked 0 mode l)) (sym (append-nil text)) in
      subst NoneAsk (sym (first ∙ nil ∙ over.4 [])) (none-end 0 over.2 t (ask-filled wanted state (is_some found.par) over.0 over.1 over.2 sound.size fits.1))

  end-lines : (mode : Mode) (state : FillState) (found : Found) → Sound mode state → state.begun ≡ true → (mode ≡ Start) ⊎ IsOpen mode → ((strain : Strain) (declarer : Seat) → tricks_of found.table strain declarer ≤ 13) → HasPar (conditions_of state) found.par
      → NoneAsk (asks_from wanted state (marked 0 mode (text_of wanted state (Some found))))
  end-lines mode state found sound begun (inl start) most par =
      let whole : Sound Start state = subst (λ (m : Mode). Sound m state) start sound in
      subst (λ (m : Mode). NoneAsk (asks_from wanted state (marked 0 m (text_of wanted state (Some found))))) (sym start)
      (subst (λ (n : ℕ). NoneAsk (asks_from wanted state (marked 0 Start (added_text (record { has_return = state.has_return; leads = not (n == 10) }) (lacks wanted state) found)))) (sym (whole.line tt begun))
      (last-behind state found whole begun most par))
  end-lines mode state found sound begun (inr free) most par =
      subst (λ (b : Bool). NoneAsk (asks_from wanted state (marked 0 mode (added_text (record { has_return = state.has_return; leads = not b }) (lacks wanted state) found)))) (sym (sound.free free))
      (last-before mode state found free sound begun most par)

  end-asks : (left : ℕ) (mode : Mode) (state : FillState) (answers : List (Option Found)) → Sound mode state → (ends_last (is_closed left mode) state ≡ true → HasAnswer (ask_of wanted state) (first_of answers))
      → NoneAsk (asks_from wanted state (marked left mode (text_here (ends_last (is_closed left mode) state) wanted state answers)))
  end-asks left mode state answers sound has = go (ends_last (is_closed left mode) state) refl
    where
      lines : ends_last (is_closed left mode) state ≡ true
          → ((first_of answers ≡ None) × (ask_of wanted state ≡ None))
          ⊎ ((found : Found) × (first_of answers ≡ Some found) × ((strain : Strain) (declarer : Seat) → tricks_of found.table strain declarer ≤ 13) × HasPar (conditions_of state) found.par)
          → NoneAsk (asks_from wanted state (marked left mode (text_of wanted state (first_of answers))))
      lines here (inl none) = subst (λ (a : Option Found). NoneAsk (asks_from wanted state (marked left mode (text_of wanted state a)))) (sym none.0) (none-end left mode state none.1)
      lines here (inr some) =
          let at = end-mode left mode state sound here in
          subst (λ (a : Option Found). NoneAsk (asks_from wanted state (marked left mode (text_of wanted state a)))) (sym some.1)
          (subst (λ (n : ℕ). NoneAsk (asks_from wanted state (marked n mode (text_of wanted state (Some some.0))))) (sym at.0) (end-lines mode state some.0 sound at.1 at.2 some.2 some.3))

      go : (here : Bool) → ends_last (is_closed left mode) state ≡ here → NoneAsk (asks_from wanted state (marked left mode (text_here (ends_last (is_closed left mode) state) wanted state answers)))
      go false here =
          subst (λ (b : Bool). NoneAsk (asks_from wanted state (marked left mode (text_here b wanted state answers)))) (sym here)
          (subst NoneAsk (sym (asks-end left mode state)) (none-here (ends_last (is_closed left mode) state) (ask_of wanted state) (λ e. absurd (true≢false (sym e ∙ here)))))
      go true here =
          subst (λ (b : Bool). NoneAsk (asks_from wanted state (marked left mode (text_here b wanted state answers)))) (sym here)
          (lines here (given (thirteen_in (value_of state.deal)) (conditions_of state) (lacks wanted state) (first_of answers) (has here)))

  -- what begins at a byte begins at it in the filled file
  mark-filled : (left : ℕ) (mode : Mode) (x : ℕ) (xs : List ℕ) (state : FillState) (answers : List (Option Found)) → Sound mode state → Answered wanted left mode (x ∷ xs) state answers
      → begins_within left mode (x ∷ behind_at wanted left mode x xs state answers) ≡ begins_within left mode (x ∷ xs)
  mark-filled (suc left) mode x xs state answers sound all = refl
  mark-filled zero mode x xs state answers sound all =
      mark-same mode x xs (behind_at wanted 0 mode x xs state answers)
      (behind-filled wanted mode x xs state answers sound (answered-may (asks_from wanted state (marked 0 mode (x ∷ xs))) answers all))

  -- from any place on
  pub asks-filled : (bytes : List ℕ) (left : ℕ) (mode : Mode) (state : FillState) (answers : List (Option Found)) → Sound mode state → Answered wanted left mode bytes state answers
      → NoneAsk (asks_from wanted state (marked left mode (filled_from wanted answers state (marked left mode bytes))))
  asks-filled [] left mode state answers sound all =
      subst (λ (l : List ℕ). NoneAsk (asks_from wanted state (marked left mode l))) (sym (filled-end wanted left mode state answers))
      (end-asks left mode state answers sound (end-has (ends_last (is_closed left mode) state) (ask_of wanted state) (subst (λ (l : List (Option Ask)). AllAnswered l answers) (asks-end left mode state) all)))
    where
      end-has : (here : Bool) (ask : Option Ask) → AllAnswered (asked_here here ask) answers → here ≡ true → HasAnswer ask (first_of answers)
      end-has false ask all e = absurd (true≢false (sym e))
      end-has true ask all e = (answered-split true ask [] answers all).0 refl
  asks-filled (x ∷ xs) left mode state answers sound all =
      let mark = begins_within left mode (x ∷ xs) in
      let step = answered-step wanted left mode x xs state answers all in
      subst (λ (l : List ℕ). NoneAsk (asks_from wanted state (marked left mode l))) (sym (filled-step wanted left mode x xs state answers))
      (go (puts wanted state left mode x xs answers sound step.0)
      (asks-filled xs (left_within left mark) (next_mode mode x) (state_after wanted left mode x xs state) (answers_after (ends state mark) answers) (sound-next left mode x xs state sound) step.1))
    where
      go : Puts wanted state left mode (begins_within left mode (x ∷ xs)) answers ⊎ PutsNone wanted state (begins_within left mode (x ∷ xs)) answers
          → NoneAsk (asks_from wanted (state_after wanted left mode x xs state) (marked (left_within left (begins_within left mode (x ∷ xs))) (next_mode mode x) (behind_at wanted left mode x xs state answers)))
          → NoneAsk (asks_from wanted state (marked left mode (text_at wanted left mode x xs state answers ++ x ∷ behind_at wanted left mode x xs state answers)))
      go (inr p) rest =
          subst (λ (l : List ℕ). NoneAsk (asks_from wanted state (marked left mode (l ++ x ∷ behind_at wanted left mode x xs state answers)))) (sym p.text)
          (subst NoneAsk (sym (asks-byte wanted state left mode x (behind_at wanted left mode x xs state answers) (begins_within left mode (x ∷ xs)) (mark-filled left mode x xs state answers sound all)))
          (none-append (ends state (begins_within left mode (x ∷ xs))) (ask_at (has_place (begins_within left mode (x ∷ xs))) wanted state) _ p.ask rest))
      go (inl p) rest =
          let tail = behind_at wanted left mode x xs state answers in
          let mark = begins_within left mode (x ∷ xs) in
          let is : begins_within 0 Start (x ∷ tail) ≡ mark =
          ap (λ (n : ℕ). begins_within n Start (x ∷ tail)) (sym p.none_left) ∙ ap (λ (m : Mode). begins_within left m (x ∷ tail)) (sym p.start) ∙ mark-filled left mode x xs state answers sound all in
          let after : FillState = next_state (state_here (ends state mark) state) mark x in
          let moved : NoneAsk (asks_from wanted after (marked (left_within 0 mark) (next_mode Start x) tail)) =
          subst (λ (m : Mode). NoneAsk (asks_from wanted after (marked (left_within 0 mark) (next_mode m x) tail))) p.start
          (subst (λ (n : ℕ). NoneAsk (asks_from wanted after (marked (left_within n mark) (next_mode mode x) tail))) p.none_left rest) in
          subst (λ (l : List ℕ). NoneAsk (asks_from wanted state (marked left mode (l ++ x ∷ tail)))) (sym p.text)
          (subst (λ (m : Mode). NoneAsk (asks_from wanted state (marked left m (added_text (record { has_return = state.has_return; leads = false }) (lacks wanted state) p.found ++ x ∷ tail)))) (sym p.start)
          (subst (λ (n : ℕ). NoneAsk (asks_from wanted state (marked n Start (added_text (record { has_return = state.has_return; leads = false }) (lacks wanted state) p.found ++ x ∷ tail)))) (sym p.none_left)
          (put-asks x tail state mark p.found sound.size p.here p.begun p.place p.last is p.most p.par moved)))

  -- ---- where nothing is asked nothing is added
  no-text : (here : Bool) (state : FillState) (ask : Option Ask) (answers : List (Option Found)) → (here ≡ true → ask ≡ None) → (here ≡ true → HasAnswer ask (first_of answers)) → text_here here wanted state answers ≡ []
  no-text false state ask answers none has = refl
  no-text true state ask answers none has =
      ap (text_of wanted state) (subst (λ (a : Option Ask). HasAnswer a (first_of answers)) (none refl) (has refl))

  pub filled-same : (bytes : List ℕ) (left : ℕ) (mode : Mode) (state : FillState) (again : List (Option Found)) → NoneAsk (asks_from wanted state (marked left mode bytes)) → Answered wanted left mode bytes state again
      → filled_from wanted again state (marked left mode bytes) ≡ bytes
  filled-same [] left mode state again none all =
      let here = ends_last (is_closed left mode) state in
      filled-end wanted left mode state again
      ∙ no-text here state (ask_of wanted state) again (end-none here (ask_of wanted state) (subst NoneAsk (asks-end left mode state) none))
      (end-has here (ask_of wanted state) (subst (λ (l : List (Option Ask)). AllAnswered l again) (asks-end left mode state) all))
    where
      end-none : (here : Bool) (ask : Option Ask) → NoneAsk (asked_here here ask) → here ≡ true → ask ≡ None
      end-none false ask none e = absurd (true≢false (sym e))
      end-none true ask none e = none.0

      end-has : (here : Bool) (ask : Option Ask) → AllAnswered (asked_here here ask) again → here ≡ true → HasAnswer ask (first_of again)
      end-has false ask all e = absurd (true≢false (sym e))
      end-has true ask all e = (answered-split true ask [] again all).0 refl
  filled-same (x ∷ xs) left mode state again none all =
      let mark = begins_within left mode (x ∷ xs) in
      let step = answered-step wanted left mode x xs state again all in
      let asked = none-split (ends state mark) (ask_at (has_place mark) wanted state) (asks_from wanted (state_after wanted left mode x xs state) (marked (left_within left mark) (next_mode mode x) xs))
      (subst NoneAsk (asks-byte wanted state left mode x xs mark refl) none) in
      filled-step wanted left mode x xs state again
      ∙ ap (λ (l : List ℕ). l ++ x ∷ behind_at wanted left mode x xs state again) (no-text (ends state mark) state (ask_at (has_place mark) wanted state) again asked.0 step.0)
      ∙ ap (λ (l : List ℕ). x ∷ l) (filled-same xs (left_within left mark) (next_mode mode x) (state_after wanted left mode x xs state) (answers_after (ends state mark) again) asked.1 step.1)

-- before the first byte
pub sound-first : Sound Head first_state
sound-first = record { size = refl; line = λ never. absurd never; free = λ never. absurd never; fresh = λ _. refl }
