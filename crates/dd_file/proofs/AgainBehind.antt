-- What a filled file has behind a byte of the file.
use Rattle.std.proofs.Common.{◌≡◌, ◌∙◌, ℕ, zero, suc, ◌<◌, ◌≤◌, Bool, true, false, List, [], ◌∷◌, ◌++◌, length, refl, sym, ap, subst, arith, ◌⊎◌, inl, inr, true≢false, length-append, Option}
use Rattle.dd_file.specs.declared.fill_state.FillState.{FillState}
use Rattle.dd_file.specs.declared.mode.Mode.{Mode}
use Rattle.dd_file.specs.declared.mode.Mode.TheVariants.{Head, Start, Plain}
use Rattle.dd_file.specs.declared.wanted.Wanted.{Wanted}
use Rattle.dd_file.proofs.AgainAnswers.{AllAnswered, AllMay, HasAnswer, MayAnswer}
use Rattle.dd_file.specs.Filled.{Ask, Found, added_text, answers_after, ask_at, asks_from, ends_last, filled_from, first_of, has_place, state_here, text_here}
use Rattle.dd_file.specs.Games.{ends, lacks, next_state}
use Rattle.dd_file.specs.Marked.{begins, begins_within, is_closed, left_of, left_within, marked}
use Rattle.dd_file.specs.Marks.{Begins, nothing, empty_line, after_blanks}
use Rattle.dd_file.specs.Modes.{is_blank, next_mode}
use Rattle.dd_file.proofs.AgainFilled.{Puts, PutsNothing, answered-split, lines-begin, may-split, puts-may}
use Rattle.dd_file.proofs.AgainMarks.{Behind, blank-other, blank-step, blank-stop, next-blank, outside-blank}
use Rattle.dd_file.proofs.AgainMiss.{Beside, IsAtStart}
use Rattle.dd_file.proofs.AgainOver.{plain-nothing}
use Rattle.dd_file.proofs.AgainStates.{Sound, sound-next}
use Rattle.dd_file.proofs.Going.{asks-byte, filled-byte}
use Rattle.dd_file.proofs.AgainTags.{same-head}

tail_of : List ℕ → List ℕ
tail_of [] = []
tail_of (x ∷ l) = l

some-rest : (x y : ℕ) (a b : List ℕ) → x ∷ a ≡ y ∷ b → a ≡ b
unfolding tail_of
some-rest x y a b e = ap tail_of e

no-first : (x : ℕ) (a : List ℕ) → x ∷ a ≡ [] → ⊥
no-first x a e = let sizes : length (x ∷ a) ≡ 0 = ap (λ (l : List ℕ). length l) e in omega arith

module _ (wanted : Wanted) where
  -- ---- one byte further
  abbrev pub state_after : ℕ → Mode → ℕ → List ℕ → FillState → FillState
  state_after left mode x xs state = next_state (state_here (ends state (begins_within left mode (x ∷ xs))) state) (begins_within left mode (x ∷ xs)) x

  abbrev pub text_at : ℕ → Mode → ℕ → List ℕ → FillState → List (Option Found) → List ℕ
  text_at left mode x xs state answers = text_here (ends state (begins_within left mode (x ∷ xs))) wanted state answers

  abbrev pub behind_at : ℕ → Mode → ℕ → List ℕ → FillState → List (Option Found) → List ℕ
  behind_at left mode x xs state answers =
      filled_from wanted (answers_after (ends state (begins_within left mode (x ∷ xs))) answers) (state_after left mode x xs state)
      (marked (left_within left (begins_within left mode (x ∷ xs))) (next_mode mode x) xs)

  pub filled-step : (left : ℕ) (mode : Mode) (x : ℕ) (xs : List ℕ) (state : FillState) (answers : List (Option Found))
      → filled_from wanted answers state (marked left mode (x ∷ xs)) ≡ text_at left mode x xs state answers ++ x ∷ behind_at left mode x xs state answers
  filled-step left mode x xs state answers = filled-byte wanted answers state left mode x xs (begins_within left mode (x ∷ xs)) refl

  pub filled-end : (left : ℕ) (mode : Mode) (state : FillState) (answers : List (Option Found))
      → filled_from wanted answers state (marked left mode []) ≡ text_here (ends_last (is_closed left mode) state) wanted state answers
  unfolding filled_from marked
  filled-end left mode state answers = refl

  -- each game from here on was answered
  abbrev pub Answered : ℕ → Mode → List ℕ → FillState → List (Option Found) → Type 0
  Answered left mode bytes state answers = AllAnswered (asks_from wanted state (marked left mode bytes)) answers

  pub answered-step : (left : ℕ) (mode : Mode) (x : ℕ) (xs : List ℕ) (state : FillState) (answers : List (Option Found)) → Answered left mode (x ∷ xs) state answers
      → (ends state (begins_within left mode (x ∷ xs)) ≡ true → HasAnswer (ask_at (has_place (begins_within left mode (x ∷ xs))) wanted state) (first_of answers))
      × Answered (left_within left (begins_within left mode (x ∷ xs))) (next_mode mode x) xs (state_after left mode x xs state) (answers_after (ends state (begins_within left mode (x ∷ xs))) answers)
  answered-step left mode x xs state answers all =
      answered-split (ends state (begins_within left mode (x ∷ xs))) (ask_at (has_place (begins_within left mode (x ∷ xs))) wanted state)
      (asks_from wanted (state_after left mode x xs state) (marked (left_within left (begins_within left mode (x ∷ xs))) (next_mode mode x) xs)) answers
      (subst (λ (l : List (Option Ask)). AllAnswered l answers) (asks-byte wanted state left mode x xs (begins_within left mode (x ∷ xs)) refl) all)

  -- or its results may have been given up
  abbrev pub May : ℕ → Mode → List ℕ → FillState → List (Option Found) → Type 0
  May left mode bytes state answers = AllMay (asks_from wanted state (marked left mode bytes)) answers

  pub may-step : (left : ℕ) (mode : Mode) (x : ℕ) (xs : List ℕ) (state : FillState) (answers : List (Option Found)) → May left mode (x ∷ xs) state answers
      → (ends state (begins_within left mode (x ∷ xs)) ≡ true → MayAnswer (ask_at (has_place (begins_within left mode (x ∷ xs))) wanted state) (first_of answers))
      × May (left_within left (begins_within left mode (x ∷ xs))) (next_mode mode x) xs (state_after left mode x xs state) (answers_after (ends state (begins_within left mode (x ∷ xs))) answers)
  may-step left mode x xs state answers all =
      may-split (ends state (begins_within left mode (x ∷ xs))) (ask_at (has_place (begins_within left mode (x ∷ xs))) wanted state)
      (asks_from wanted (state_after left mode x xs state) (marked (left_within left (begins_within left mode (x ∷ xs))) (next_mode mode x) xs)) answers
      (subst (λ (l : List (Option Ask)). AllMay l answers) (asks-byte wanted state left mode x xs (begins_within left mode (x ∷ xs)) refl) all)

  -- nothing is put in, or a `[` at a start of a line
  text-kind : (left : ℕ) (mode : Mode) (x : ℕ) (xs : List ℕ) (state : FillState) (answers : List (Option Found)) → Sound mode state → May left mode (x ∷ xs) state answers
      → (text_at left mode x xs state answers ≡ []) ⊎ (IsAtStart mode × ((t : List ℕ) × (text_at left mode x xs state answers ≡ 91 ∷ t)))
  text-kind left mode x xs state answers sound all = go (puts-may wanted state left mode x xs answers sound (may-step left mode x xs state answers all).0)
    where
      lines : (p : Puts wanted state left mode (begins_within left mode (x ∷ xs)) answers)
          → (added_text (record { has_return = state.has_return; leads = false }) (lacks wanted state) p.found ≡ [])
          ⊎ ((t : List ℕ) × (added_text (record { has_return = state.has_return; leads = false }) (lacks wanted state) p.found ≡ 91 ∷ t))
          → (text_at left mode x xs state answers ≡ []) ⊎ (IsAtStart mode × ((t : List ℕ) × (text_at left mode x xs state answers ≡ 91 ∷ t)))
      lines p (inl e) = inl (p.text ∙ e)
      lines p (inr e) = inr (subst IsAtStart (sym p.start) tt, (e.0, p.text ∙ e.1))

      go : Puts wanted state left mode (begins_within left mode (x ∷ xs)) answers ⊎ PutsNothing wanted state (begins_within left mode (x ∷ xs)) answers
          → (text_at left mode x xs state answers ≡ []) ⊎ (IsAtStart mode × ((t : List ℕ) × (text_at left mode x xs state answers ≡ 91 ∷ t)))
      go (inr p) = inl p.text
      go (inl p) = lines p (lines-begin state.has_return (lacks wanted state) p.found)

  -- ---- what the filled file has in common with the file
  beside-filled : (bytes : List ℕ) (left : ℕ) (mode : Mode) (state : FillState) (answers : List (Option Found)) → Sound mode state → May left mode bytes state answers
      → Beside false mode bytes (filled_from wanted answers state (marked left mode bytes))
  beside-filled [] left mode state answers sound all = λ e. absurd (true≢false (sym e))
  beside-filled (x ∷ xs) left mode state answers sound all =
      go (text-kind left mode x xs state answers sound all)
      (beside-filled xs (left_within left (begins_within left mode (x ∷ xs))) (next_mode mode x) (state_after left mode x xs state) (answers_after (ends state (begins_within left mode (x ∷ xs))) answers)
      (sound-next left mode x xs state sound) (may-step left mode x xs state answers all).1)
    where
      go : (text_at left mode x xs state answers ≡ []) ⊎ (IsAtStart mode × ((t : List ℕ) × (text_at left mode x xs state answers ≡ 91 ∷ t)))
          → Beside false (next_mode mode x) xs (behind_at left mode x xs state answers) → Beside false mode (x ∷ xs) (filled_from wanted answers state (marked left mode (x ∷ xs)))
      go (inl none) rest = inl (behind_at left mode x xs state answers, filled-step left mode x xs state answers ∙ ap (λ l. l ++ x ∷ behind_at left mode x xs state answers) none, rest)
      go (inr put) rest = inr (put.0, (put.1.0 ++ x ∷ behind_at left mode x xs state answers, filled-step left mode x xs state answers ∙ ap (λ l. l ++ x ∷ behind_at left mode x xs state answers) put.1.1))

  longer-filled : (bytes : List ℕ) (left : ℕ) (mode : Mode) (state : FillState) (answers : List (Option Found)) → length bytes ≤ length (filled_from wanted answers state (marked left mode bytes))
  longer-filled [] left mode state answers = omega arith
  longer-filled (x ∷ xs) left mode state answers =
      let rest : length xs ≤ length (behind_at left mode x xs state answers) =
      longer-filled xs (left_within left (begins_within left mode (x ∷ xs))) (next_mode mode x) (state_after left mode x xs state) (answers_after (ends state (begins_within left mode (x ∷ xs))) answers) in
      let whole : length (filled_from wanted answers state (marked left mode (x ∷ xs))) ≡ length (text_at left mode x xs state answers ++ x ∷ behind_at left mode x xs state answers) =
      ap (λ (l : List ℕ). length l) (filled-step left mode x xs state answers) in
      omega (arith, length-append {A = ℕ})

  -- within a tag
  within-filled : (p : List ℕ) (bytes r : List ℕ) (left : ℕ) (mode : Mode) (state : FillState) (answers : List (Option Found)) → bytes ≡ p ++ r → length p ≤ left
      → (other : List ℕ) × (filled_from wanted answers state (marked left mode bytes) ≡ p ++ other)
  within-filled [] bytes r left mode state answers is few = (filled_from wanted answers state (marked left mode bytes), refl)
  within-filled (y ∷ p) [] r left mode state answers is few = absurd (no-first y (p ++ r) (sym is))
  within-filled (y ∷ p) (x ∷ xs) r zero mode state answers is few = absurd (omega arith)
  within-filled (y ∷ p) (x ∷ xs) r (suc left) mode state answers is few =
      let less : length p ≤ left = omega arith in
      let rest = within-filled p xs r left (next_mode mode x) (state_after (suc left) mode x xs state) answers (some-rest x y xs (p ++ r) is) less in
      (rest.0, filled-step (suc left) mode x xs state answers ∙ ap (λ l. x ∷ l) rest.1 ∙ ap (λ z. z ∷ (p ++ rest.0)) (same-head x y xs (p ++ r) is))

  -- within a tag that the end cuts off
  cut-filled : (bytes : List ℕ) (left : ℕ) (mode : Mode) (state : FillState) (answers : List (Option Found)) → length bytes < left → filled_from wanted answers state (marked left mode bytes) ≡ bytes
  cut-filled bytes zero mode state answers more = absurd (omega arith)
  cut-filled [] (suc left) mode state answers more = filled-end (suc left) mode state answers
  cut-filled (x ∷ xs) (suc left) mode state answers more =
      let less : length xs < left = omega arith in
      filled-step (suc left) mode x xs state answers ∙ ap (λ l. x ∷ l) (cut-filled xs left (next_mode mode x) (state_after (suc left) mode x xs state) answers less)

  -- nothing but blanks, and no game
  blank-filled : (bytes : List ℕ) (state : FillState) (answers : List (Option Found)) → state.begun ≡ false → after_blanks bytes ≡ [] → filled_from wanted answers state (marked 0 Plain bytes) ≡ bytes
  blank-filled [] state answers begun blank = filled-end 0 Plain state answers ∙ ap (λ b. text_here b wanted state answers) begun
  blank-filled (x ∷ xs) state answers begun blank = go (is_blank x) refl (λ is rest. blank-filled xs (next_state state nothing x) answers begun rest)
    where
      go : (t : Bool) → is_blank x ≡ t → (is_blank x ≡ true → after_blanks xs ≡ [] → filled_from wanted answers (next_state state nothing x) (marked 0 Plain xs) ≡ xs)
          → filled_from wanted answers state (marked 0 Plain (x ∷ xs)) ≡ x ∷ xs
      go false other more = absurd (no-first x xs (sym (blank-stop x xs other) ∙ blank))
      go true is more =
          filled-byte wanted answers state 0 Plain x xs nothing (plain-nothing x xs (blank-other x 91 is refl))
          ∙ ap (λ (m : Mode). x ∷ filled_from wanted answers (next_state state nothing x) (marked 0 m xs)) (outside-blank x is) ∙ ap (λ l. x ∷ l) (more is (sym (blank-step x xs is) ∙ blank))

  -- ---- behind a byte outside of tags
  ended : (b : Bool) (state : FillState) → state.begun ≡ b → (state_here b state).begun ≡ false
  ended true state e = refl
  ended false state e = e

  blank-behind : (mode : Mode) (x : ℕ) (xs : List ℕ) (state : FillState) (answers : List (Option Found)) → mode ≡ Head ⊎ mode ≡ Start → is_blank x ≡ true → begins mode (x ∷ xs) ≡ empty_line → after_blanks xs ≡ []
      → behind_at 0 mode x xs state answers ≡ xs
  blank-behind mode x xs state answers line is mark blank =
      ap (λ (m : Begins). filled_from wanted (answers_after (ends state m) answers) (next_state (state_here (ends state m) state) m x) (marked (left_within 0 m) (next_mode mode x) xs)) mark
      ∙ ap (λ (m : Mode). filled_from wanted (answers_after state.begun answers) (next_state (state_here state.begun state) empty_line x) (marked 0 m xs)) (next-blank mode x line is)
      ∙ blank-filled xs (next_state (state_here state.begun state) empty_line x) (answers_after state.begun answers) (ended state.begun state refl) blank

  within-behind : (mode : Mode) (x : ℕ) (xs : List ℕ) (state : FillState) (answers : List (Option Found)) (p r : List ℕ) → x ∷ xs ≡ p ++ r → 1 ≤ length p → length p ≤ suc (left_of (begins mode (x ∷ xs)))
      → (other : List ℕ) × (x ∷ behind_at 0 mode x xs state answers ≡ p ++ other)
  within-behind mode x xs state answers [] r is some few = absurd (omega arith)
  within-behind mode x xs state answers (y ∷ p) r is some few =
      let less : length p ≤ left_of (begins mode (x ∷ xs)) = omega arith in
      let rest = within-filled p xs r (left_of (begins mode (x ∷ xs))) (next_mode mode x) (state_after 0 mode x xs state) (answers_after (ends state (begins mode (x ∷ xs))) answers) (some-rest x y xs (p ++ r) is) less in
      (rest.0, ap (λ l. x ∷ l) rest.1 ∙ ap (λ z. z ∷ (p ++ rest.0)) (same-head x y xs (p ++ r) is))

  pub behind-filled : (mode : Mode) (x : ℕ) (xs : List ℕ) (state : FillState) (answers : List (Option Found)) → Sound mode state → May 0 mode (x ∷ xs) state answers
      → Behind mode x xs (behind_at 0 mode x xs state answers)
  behind-filled mode x xs state answers sound all =
      record {
        longer = longer-filled xs (left_of (begins mode (x ∷ xs))) (next_mode mode x) (state_after 0 mode x xs state) (answers_after (ends state (begins mode (x ∷ xs))) answers);
        beside = beside-filled xs (left_of (begins mode (x ∷ xs))) (next_mode mode x) (state_after 0 mode x xs state) (answers_after (ends state (begins mode (x ∷ xs))) answers)
            (sound-next 0 mode x xs state sound) (may-step 0 mode x xs state answers all).1;
        within = λ p r is some few. within-behind mode x xs state answers p r is some few;
        to_end = λ more. cut-filled xs (left_of (begins mode (x ∷ xs))) (next_mode mode x) (state_after 0 mode x xs state) (answers_after (ends state (begins mode (x ∷ xs))) answers) more;
        blank = λ line is mark blank. blank-behind mode x xs state answers line is mark blank;
      }
