-- Tags that stand on one line are read at once, and what stands outside behind them.
use Rattle.std.proofs.Common.{◌≡◌, ◌∙◌, ℕ, suc, ◌==◌, ◌+◌, ◌-◌, ◌^◌, ◌≤◌, ◌<◌, min, Bool, true, false, List, [], ◌∷◌, ◌++◌, length, take, drop, refl, sym, ap, subst, arith, append_assoc, append-nil, length-append, take_all, take-append-drop, true≢false, eqb-true, inl, inr, Option, Result, Ok, Err}
use Rattle.std.specs.Prelude.{◌&&◌, if◌then◌else◌}
use Rattle.std.proofs.lemmas.Bool.{and_parts, not-true}
use Rattle.std.proofs.lemmas.List.{length-take-le}
use mathlib.Core.Bool.{not}
use Rattle.dd_cards.specs.Hands.{FourHands}
use Rattle.dd_file.specs.declared.fill_state.FillState.{FillState}
use Rattle.dd_file.specs.declared.filler.Filler.{Filler}
use Rattle.dd_file.specs.declared.mark.TheConstants.{NEAR}
use Rattle.dd_file.specs.declared.mode.Mode.{Mode}
use Rattle.dd_file.specs.declared.mode.Mode.TheVariants.{Head, Mark1, Mark2, Start, Plain, Escaped, Remark, Braced, Quoted, Backslash}
use Rattle.dd_file.specs.declared.tag_reader.Miss.{Miss}
use Rattle.dd_file.specs.declared.tag_reader.Miss.TheVariants.{NoTag}
use Rattle.dd_file.specs.declared.wanted.Wanted.{Wanted}
use Rattle.dd_file.specs.Filled.{Found, AreAnswers, answers_after, ask_at, asked_here, asks_from, filled_from, first_of, state_here, text_here}
use Rattle.dd_file.specs.Games.{ends, has_name, is_required, told, with_byte, with_mark, with_tag}
use Rattle.dd_file.specs.KnownTags.{known_number}
use Rattle.dd_file.specs.Marked.{begins, begins_within, marked}
use Rattle.dd_file.specs.Marks.{Begins, tag, line_mark, mark_read}
use Rattle.dd_file.specs.Modes.{next_mode}
use Rattle.dd_file.specs.Notes.{Notes, notes_of}
use Rattle.dd_file.specs.Notices.{Notice, Hears}
use Rattle.dd_file.specs.Passing.{EndsBefore, EndsHere}
use Rattle.dd_file.specs.Quiet.{BeginsShort, IsPlace, PassesSome, PassesTag, Stays, Takes, after_calm, are_calm, are_names, is_calm, later, required_number, short_tag, with_line_bytes}
use Rattle.dd_file.specs.Tags.{◌>>=◌, after_gap, after_name, after_string, byte_at, front_of, is_gap, is_name, tag_at}
use Rattle.dd_file.specs.Told.{GameNotes, next_notes, told_from, told_here}
use Rattle.dd_file.specs.Windows.{Passed, PassesFront, Place, Point, marked_at, place_of, point_of}
use Rattle.dd_file.proofs.AgainMarks.{blank-stop, is_all, line-begins, line-read, plain-begins, take-over}
use Rattle.dd_file.proofs.AgainMiss.{gap-step, gap-stop, name-step, name-stop, read-first, read_end, read_name, read_string, read_value, tag-steps, outside-name, name-none}
use Rattle.dd_file.proofs.AgainOver.{is_quiet, modes, modes-append, quiet-append, quiet-first, quiet-rest}
use Rattle.dd_file.proofs.AgainTags.{as_tag, byte-found, front-is}
use Rattle.dd_file.proofs.Calm.{calm-front, calm-unescaped, front-count, front-taken, quoted-stays, quoted-step, take-front}
use Rattle.dd_file.proofs.Going.{Passed-any, Passed-more, Passed-none, Passed-then, PassesFront-then, asks-byte, filled-byte, over-here, takes, told-byte}
use Rattle.dd_file.proofs.Passed.{EndsHere-before}
use Rattle.dd_file.proofs.Staying.{Stays-none, Stays-then, behind, byte-stays, later-bytes, later-then, same-notes, same-point, take-of-take}

-- ---- reading
pub name-run : (name : List ℕ) (t : List ℕ) → are_names name ≡ true → after_name (name ++ 32 ∷ t) ≡ 32 ∷ t
name-run [] t all = name-stop 32 t refl
name-run (b ∷ name) t all = go (is_name b) refl all (name-run name t)
  where
    go : (g : Bool) → is_name b ≡ g → (if g then are_names name else false) ≡ true → (are_names name ≡ true → after_name (name ++ 32 ∷ t) ≡ 32 ∷ t) → after_name (b ∷ (name ++ 32 ∷ t)) ≡ 32 ∷ t
    go true e all more = name-step b (name ++ 32 ∷ t) e ∙ more all
    go false e all more = absurd (true≢false (sym all))

pub rest-names : (c : ℕ) (name : List ℕ) → are_names (c ∷ name) ≡ true → are_names name ≡ true
rest-names c name all = go (is_name c) all
  where
    go : (g : Bool) → (if g then are_names name else false) ≡ true → are_names name ≡ true
    go true all = all
    go false all = absurd (true≢false (sym all))

pub value-read : (called string r : List ℕ) → after_string Quoted string ≡ Ok (93 ∷ r) → read_value called (32 ∷ 34 ∷ string) ≡ as_tag called (front_of string (93 ∷ r) 1) r
value-read called string r is =
    ap (λ l. byte_at 34 l >>= (λ k. read_string called k)) (gap-step Plain 32 (34 ∷ string) refl ∙ gap-stop Plain 34 string refl)
    ∙ ap (λ (t : Result (List ℕ) Miss). t >>= (λ k. read_string called k)) (byte-found 34 34 string refl)
    ∙ ap (λ (t : Result (List ℕ) Miss). t >>= (λ l. read_end called (front_of string l 1) l)) is
    ∙ ap (λ l. byte_at 93 l >>= (λ k. as_tag called (front_of string (93 ∷ r) 1) k)) (gap-stop Plain 93 r refl)
    ∙ ap (λ (t : Result (List ℕ) Miss). t >>= (λ k. as_tag called (front_of string (93 ∷ r) 1) k)) (byte-found 93 93 r refl)

pub name-read : (c : ℕ) (name string : List ℕ) → are_names (c ∷ name) ≡ true → is_name c ≡ true → read_name (c ∷ (name ++ 32 ∷ string)) ≡ read_value (c ∷ name) (32 ∷ string)
name-read c name string all first =
    read-first c (name ++ 32 ∷ string)
    ∙ ap (λ (g : Bool). (if g then Ok (after_name (name ++ 32 ∷ string)) else Err NoTag) >>= (λ k. read_value (front_of (c ∷ (name ++ 32 ∷ string)) k 0) k)) first
    ∙ ap (λ k. read_value (front_of (c ∷ (name ++ 32 ∷ string)) k 0) k) (name-run name string (rest-names c name all))
    ∙ ap (λ n. read_value n (32 ∷ string)) (front-is (c ∷ name) (32 ∷ string) 0 ∙ (let whole : length (c ∷ name) ≤ length (c ∷ name) - 0 = omega arith in take_all (length (c ∷ name) - 0) (c ∷ name) whole))

pub opened-read : (c : ℕ) (text : List ℕ) → is_gap Plain c ≡ false → tag_at (91 ∷ c ∷ text) ≡ read_name (c ∷ text)
opened-read c text gap =
    tag-steps (91 ∷ c ∷ text) ∙ ap (λ (t : Result (List ℕ) Miss). t >>= (λ bracket. read_name (after_gap Plain bracket))) (byte-found 91 91 (c ∷ text) refl) ∙ ap read_name (gap-stop Plain c text gap)

pub near-split : (n : ℕ) (p r : List ℕ) → length p ≤ n → 91 ∷ take n (p ++ r) ≡ 91 ∷ (p ++ take (n - length p) r)
near-split n p r few = ap (λ l. 91 ∷ l) (take-over n p r few)

pub split-size : (near p rest : List ℕ) → near ≡ 91 ∷ (p ++ rest) → length near - length rest ≡ suc (length p)
split-size near p rest e = let lengths : length near ≡ length (91 ∷ (p ++ rest)) = ap (λ (l : List ℕ). length l) e in omega (arith, length-append {A = ℕ})

-- ---- names
name-other : (b c : ℕ) → is_name b ≡ true → is_name c ≡ false → (b == c) ≡ false
name-other b c good bad = go (b == c) refl
  where
    go : (t : Bool) → (b == c) ≡ t → t ≡ false
    go false e = refl
    go true e = absurd (true≢false (sym good ∙ ap is_name (eqb-true b c e) ∙ bad))

name-gap : (b : ℕ) → is_name b ≡ true → is_gap Plain b ≡ false
name-gap b good =
    rw (name-other b 32 good refl, name-other b 9 good refl, name-other b 11 good refl, name-other b 12 good refl, name-other b 13 good refl, name-other b 10 good refl, name-other b 59 good refl, name-other b 123 good refl) refl

first-name : (b : ℕ) (name : List ℕ) → are_names (b ∷ name) ≡ true → is_name b ≡ true
first-name b name all = go (is_name b) all
  where
    go : (g : Bool) → (if g then are_names name else false) ≡ true → g ≡ true
    go true all = refl
    go false all = all

names-modes : (name : List ℕ) → are_names name ≡ true → modes Plain name ≡ Plain
names-modes [] all = refl
names-modes (b ∷ name) all = ap (λ (m : Mode). modes m name) (outside-name b (first-name b name all)) ∙ names-modes name (rest-names b name all)

names-quiet : (name : List ℕ) → are_names name ≡ true → is_quiet name ≡ true
names-quiet [] all = refl
names-quiet (b ∷ name) all = ap (λ (t : Bool). if t then false else is_quiet name) (name-other b 10 (first-name b name all) refl) ∙ names-quiet name (rest-names b name all)

record NameFront (text : List ℕ) : Type 0 where
  bytes : List ℕ
  split : text ≡ bytes ++ after_name text
  names : are_names bytes ≡ true

name-front : (text : List ℕ) → NameFront text
name-front [] = record { bytes = []; split = sym name-none; names = refl }
name-front (b ∷ text) = go (is_name b) refl (name-front text)
  where
    go : (t : Bool) → is_name b ≡ t → NameFront text → NameFront (b ∷ text)
    go true good more =
        record { bytes = b ∷ more.bytes; split = ap (λ l. b ∷ l) more.split ∙ ap (λ l. b ∷ (more.bytes ++ l)) (sym (name-step b text good)); names = ap (λ (t : Bool). if t then are_names more.bytes else false) good ∙ more.names }
    go false other more = record { bytes = []; split = sym (name-stop b text other); names = refl }

-- ---- strings
calm-modes : (quoted : List ℕ) → are_calm Quoted quoted ≡ true → modes Quoted quoted ≡ Quoted
calm-modes [] calm = refl
calm-modes (b ∷ quoted) calm =
    let parts = and_parts (is_calm Quoted b) (are_calm Quoted quoted) calm in
    ap (λ (m : Mode). modes m quoted) (quoted-stays b parts.0) ∙ calm-modes quoted parts.1

calm-quiet : (quoted : List ℕ) → are_calm Quoted quoted ≡ true → is_quiet quoted ≡ true
calm-quiet [] calm = refl
calm-quiet (b ∷ quoted) calm =
    let parts = and_parts (is_calm Quoted b) (are_calm Quoted quoted) calm in
    let tests = and_parts (not (b == 10) && not (b == 34)) (not (b == 92)) parts.0 in
    let first = and_parts (not (b == 10)) (not (b == 34)) tests.0 in
    ap (λ (t : Bool). if t then false else is_quiet quoted) (not-true (b == 10) first.0) ∙ calm-quiet quoted parts.1

string-end : (t : List ℕ) → after_string Quoted (34 ∷ t) ≡ Ok t
unfolding after_string
string-end t = refl

string-run : (quoted t : List ℕ) → are_calm Quoted quoted ≡ true → after_string Quoted (quoted ++ 34 ∷ t) ≡ Ok t
string-run [] t calm = string-end t
string-run (b ∷ quoted) t calm =
    let parts = and_parts (is_calm Quoted b) (are_calm Quoted quoted) calm in quoted-step b (quoted ++ 34 ∷ t) parts.0 ∙ string-run quoted t parts.1

string-front : (quoted r : List ℕ) → front_of (quoted ++ 34 ∷ 93 ∷ r) (93 ∷ r) 1 ≡ quoted
string-front quoted r =
    let few : (length (quoted ++ 34 ∷ 93 ∷ r) - length (93 ∷ r)) - 1 ≡ length quoted = omega (arith, length-append {A = ℕ}) in
    ap (λ (n : ℕ). take n (quoted ++ 34 ∷ 93 ∷ r)) few ∙ take-front quoted (34 ∷ 93 ∷ r)

-- ---- a tag behind its bracket
abbrev inside : List ℕ → List ℕ → List ℕ
inside name quoted = name ++ 32 ∷ 34 ∷ (quoted ++ 34 ∷ 93 ∷ [])

inside-rest : (name quoted r : List ℕ) → inside name quoted ++ r ≡ name ++ 32 ∷ 34 ∷ (quoted ++ 34 ∷ 93 ∷ r)
inside-rest name quoted r = append_assoc name (32 ∷ 34 ∷ (quoted ++ 34 ∷ 93 ∷ [])) r ∙ ap (λ l. name ++ 32 ∷ 34 ∷ l) (append_assoc quoted (34 ∷ 93 ∷ []) r)

inside-read : (name quoted r : List ℕ) → 1 ≤ length name → are_names name ≡ true → are_calm Quoted quoted ≡ true → tag_at (91 ∷ (inside name quoted ++ r)) ≡ as_tag name quoted r
inside-read [] quoted r some names calm = absurd (omega arith)
inside-read (c ∷ name) quoted r some names calm =
    let first : is_name c ≡ true = first-name c name names in
    ap (λ l. tag_at (91 ∷ l)) (inside-rest (c ∷ name) quoted r) ∙ opened-read c (name ++ 32 ∷ 34 ∷ (quoted ++ 34 ∷ 93 ∷ r)) (name-gap c first)
    ∙ name-read c name (34 ∷ (quoted ++ 34 ∷ 93 ∷ r)) names first ∙ value-read (c ∷ name) (quoted ++ 34 ∷ 93 ∷ r) r (string-run quoted (93 ∷ r) calm)
    ∙ ap (λ q. as_tag (c ∷ name) q r) (string-front quoted r)

inside-modes : (name quoted : List ℕ) → are_names name ≡ true → are_calm Quoted quoted ≡ true → modes Plain (inside name quoted) ≡ Plain
inside-modes name quoted names calm =
    modes-append Plain name (32 ∷ 34 ∷ (quoted ++ 34 ∷ 93 ∷ [])) ∙ ap (λ (m : Mode). modes m (32 ∷ 34 ∷ (quoted ++ 34 ∷ 93 ∷ []))) (names-modes name names)
    ∙ modes-append Quoted quoted (34 ∷ 93 ∷ []) ∙ ap (λ (m : Mode). modes m (34 ∷ 93 ∷ [])) (calm-modes quoted calm)

inside-quiet : (name quoted : List ℕ) → are_names name ≡ true → are_calm Quoted quoted ≡ true → is_quiet (inside name quoted) ≡ true
inside-quiet name quoted names calm =
    quiet-append name (32 ∷ 34 ∷ (quoted ++ 34 ∷ 93 ∷ [])) (names-quiet name names) (quiet-append quoted (34 ∷ 93 ∷ []) (calm-quiet quoted calm) refl)

-- ---- what begins there
place-begins : (mode : Mode) (is_first : Bool) (p name quoted : List ℕ) → IsPlace mode is_first → ((r : List ℕ) → tag_at (91 ∷ (p ++ r)) ≡ as_tag name quoted r) → length p ≤ 65535 → (r : List ℕ)
    → begins mode (91 ∷ (p ++ r)) ≡ tag is_first (suc (length p)) name quoted
place-begins Start is_first p name quoted place reads few r =
    line-begins Start 91 (p ++ r) (inr refl) ∙ ap (λ k. line_mark (is_all 91 (p ++ r)) (91 ∷ take 65535 (p ++ r)) k) (blank-stop 91 (take 65535 (p ++ r)) refl)
    ∙ line-read (is_all 91 (p ++ r)) (91 ∷ take 65535 (p ++ r)) 91 (take 65535 (p ++ r))
    ∙ ap (mark_read true (is_all 91 (p ++ r)) (91 ∷ take 65535 (p ++ r))) (ap tag_at (near-split 65535 p r few) ∙ reads (take (65535 - length p) r))
    ∙ ap (λ (n : ℕ). tag true n name quoted) (split-size (91 ∷ take 65535 (p ++ r)) p (take (65535 - length p) r) (near-split 65535 p r few))
    ∙ ap (λ (f : Bool). tag f (suc (length p)) name quoted) (sym place)
place-begins Plain is_first p name quoted place reads few r =
    plain-begins Plain 91 (p ++ r) (inl refl)
    ∙ ap (mark_read false (is_all 91 (p ++ r)) (91 ∷ take 65535 (p ++ r))) (ap tag_at (near-split 65535 p r few) ∙ reads (take (65535 - length p) r))
    ∙ ap (λ (n : ℕ). tag false n name quoted) (split-size (91 ∷ take 65535 (p ++ r)) p (take (65535 - length p) r) (near-split 65535 p r few))
    ∙ ap (λ (f : Bool). tag f (suc (length p)) name quoted) (sym place)
place-begins Head is_first p name quoted place reads few r = absurd place
place-begins Mark1 is_first p name quoted place reads few r = absurd place
place-begins Mark2 is_first p name quoted place reads few r = absurd place
place-begins Escaped is_first p name quoted place reads few r = absurd place
place-begins Remark is_first p name quoted place reads few r = absurd place
place-begins Braced is_first p name quoted place reads few r = absurd place
place-begins Quoted is_first p name quoted place reads few r = absurd place
place-begins Backslash is_first p name quoted place reads few r = absurd place

place-next : (mode : Mode) (is_first : Bool) → IsPlace mode is_first → next_mode mode 91 ≡ Plain
place-next Start is_first place = refl
place-next Plain is_first place = refl
place-next Head is_first place = absurd place
place-next Mark1 is_first place = absurd place
place-next Mark2 is_first place = absurd place
place-next Escaped is_first place = absurd place
place-next Remark is_first place = absurd place
place-next Braced is_first place = absurd place
place-next Quoted is_first place = absurd place
place-next Backslash is_first place = absurd place

-- ---- bytes of a tag that end no line
tag-stays : (p : List ℕ) (state : FillState) (left : ℕ) (mode : Mode) → left ≡ length p → is_quiet p ≡ true
    → Stays (record { state = state; left = left; mode = mode }) (record { state = with_line_bytes p state; left = 0; mode = modes mode p }) p
tag-stays [] state left mode size quiet =
    subst (λ (n : ℕ). Stays (record { state = state; left = n; mode = mode }) (record { state = state; left = 0; mode = mode }) []) (sym size) (Stays-none (record { state = state; left = 0; mode = mode }))
tag-stays (b ∷ p) state left mode size quiet =
    let more : left ≡ suc (length p) = size ∙ (let e : length (b ∷ p) ≡ suc (length p) = omega arith in e) in
    let here : Point = record { state = state; left = suc (length p); mode = mode } in
    let there : Point = record { state = record state { last = b }; left = length p; mode = next_mode mode b } in
    let goal : Point = record { state = with_line_bytes (b ∷ p) state; left = 0; mode = modes mode (b ∷ p) } in
    let byte : Stays here (behind here b) (b ∷ []) = byte-stays here b refl in
    let first : Stays here there (b ∷ []) =
    subst (λ (t : Bool). Stays here (record { state = record state { last = b; has_return = if t then state.last == 13 else state.has_return }; left = length p; mode = next_mode mode b }) (b ∷ [])) (quiet-first b p quiet) byte in
    let whole : Stays here goal (b ∷ p) = Stays-then here there goal (b ∷ []) p first (tag-stays p (record state { last = b }) (length p) (next_mode mode b) refl (quiet-rest b p quiet)) in
    subst (λ (n : ℕ). Stays (record { state = state; left = n; mode = mode }) goal (b ∷ p)) (sym more) whole

-- ---- a tag is passed on
tag-passed : {S : Type 0} (gives : FourHands → Option (List (List ℕ)) → Type 0) (way : S → Notice → S → Type 0) (wanted : Wanted) (state : FillState) (notes : GameNotes) (s t : S) (mode : Mode) (is_first : Bool) (p name quoted : List ℕ)
    (answers : List (Option Found)) → IsPlace mode is_first → ((r : List ℕ) → tag_at (91 ∷ (p ++ r)) ≡ as_tag name quoted r) → length p ≤ 65535 → is_quiet p ≡ true → modes Plain p ≡ Plain
    → (let mark = tag is_first (suc (length p)) name quoted in
    AreAnswers gives (asked_here (ends state mark) (ask_at is_first wanted state)) answers → Hears way s (told_here (ends state mark) is_first wanted state notes (first_of answers)) t
    → Passed gives way false wanted (record { point = record { state = state; left = 0; mode = mode }; notes = notes; heard = s })
    (record { point = record { state = with_line_bytes (91 ∷ p) (with_mark mark (state_here (ends state mark) state)); left = 0; mode = Plain }; notes = later p (next_notes state mark notes); heard = t })
    (91 ∷ p) [] (text_here (ends state mark) wanted state answers ++ 91 ∷ p))
tag-passed gives way wanted state notes from to mode is_first p name quoted answers place reads few quiet plain right hears =
    let mark = tag is_first (suc (length p)) name quoted in
    let here = ends state mark in
    let text = text_here here wanted state answers in
    let says = told_here here is_first wanted state notes (first_of answers) in
    let s : FillState = with_byte 91 (with_mark mark (state_here here state)) in
    let n : GameNotes = next_notes state mark notes in
    let left : ℕ = suc (length p) - 1 in
    let q : Point = record { state = with_line_bytes p s; left = 0; mode = Plain } in
    let inner : Stays (record { state = s; left = left; mode = Plain }) q p =
    subst (λ (m : Mode). Stays (record { state = s; left = left; mode = Plain }) (record { state = with_line_bytes p s; left = 0; mode = m }) p) plain (tag-stays p s left Plain (omega arith) quiet) in
    record {
      answers = answers;
      asked = asked_here here (ask_at is_first wanted state);
      notices = says;
      right = right;
      over = over-here gives here is_first (ask_at is_first wanted state) wanted state notes answers right;
      hears = hears;
      fills = λ more rest follows.
          (let some = takes gives here (ask_at is_first wanted state) wanted state answers more right in
          filled-byte wanted (answers ++ more) state 0 mode 91 (p ++ rest) mark (place-begins mode is_first p name quoted place reads few rest)
          ∙ ap (λ t. t ++ 91 ∷ filled_from wanted (answers_after here (answers ++ more)) s (marked left (next_mode mode 91) (p ++ rest))) some.text
          ∙ ap (λ a. text ++ 91 ∷ filled_from wanted a s (marked left (next_mode mode 91) (p ++ rest))) some.after
          ∙ ap (λ (m : Mode). text ++ 91 ∷ filled_from wanted more s (marked left m (p ++ rest))) (place-next mode is_first place)
          ∙ ap (λ l. text ++ 91 ∷ l) (inner.fills wanted more rest)
          ∙ sym (append_assoc text (91 ∷ p) (filled_from wanted more q.state (marked_at q rest))));
      asks = λ rest follows.
          asks-byte wanted state 0 mode 91 (p ++ rest) mark (place-begins mode is_first p name quoted place reads few rest)
          ∙ ap (λ (m : Mode). asked_here here (ask_at is_first wanted state) ++ asks_from wanted s (marked left m (p ++ rest))) (place-next mode is_first place)
          ∙ ap (λ l. asked_here here (ask_at is_first wanted state) ++ l) (inner.asks wanted rest);
      tells = λ more rest follows.
          (let some = takes gives here (ask_at is_first wanted state) wanted state answers more right in
          told-byte wanted (answers ++ more) state notes 0 mode 91 (p ++ rest) mark (place-begins mode is_first p name quoted place reads few rest)
          ∙ ap (λ l. l ++ told_from wanted (answers_after here (answers ++ more)) s n (marked left (next_mode mode 91) (p ++ rest))) (some.told is_first notes)
          ∙ ap (λ a. says ++ told_from wanted a s n (marked left (next_mode mode 91) (p ++ rest))) some.after
          ∙ ap (λ (m : Mode). says ++ told_from wanted more s n (marked left m (p ++ rest))) (place-next mode is_first place)
          ∙ ap (λ l. says ++ l) (inner.tells wanted more n rest));
    }

-- what begins at such a tag, whatever follows
pub short-begins : (left : ℕ) (mode : Mode) (is_first : Bool) (text name quoted rest : List ℕ) (count : ℕ) → left ≡ 0 → IsPlace mode is_first → BeginsShort text name quoted rest
    → count ≡ length text - length rest → count ≤ NEAR → (more : List ℕ) → begins_within left mode (text ++ more) ≡ tag is_first count name quoted
short-begins left mode is_first text name quoted rest count outside place short counted few more =
    let p : List ℕ = inside name quoted in
    let size : count ≡ length (91 ∷ p) = counted ∙ front-count text (91 ∷ p) rest short.spelled in
    let long : length (91 ∷ p) ≡ suc (length p) = omega arith in
    let fits : length p ≤ 65535 = omega (arith, size, few, long) in
    ap (λ (n : ℕ). begins_within n mode (text ++ more)) outside
    ∙ ap (begins mode) (ap (λ (l : List ℕ). l ++ more) short.spelled ∙ append_assoc (91 ∷ p) rest more)
    ∙ place-begins mode is_first p name quoted place (λ r. inside-read name quoted r short.some short.names short.calm) fits (rest ++ more)
    ∙ ap (λ (n : ℕ). tag is_first n name quoted) (sym (size ∙ long))

pub PassesTag-none : {S : Type 0} (gives : FourHands → Option (List (List ℕ)) → Type 0) (way : S → Notice → S → Type 0) (old : Filler) (s : S) (text out : List ℕ) → PassesTag gives way old old (notes_of old) s s text 0 out out
PassesTag-none gives way old s text out =
    record { within = omega arith; wanted = refl; added = []; appended = sym (append-nil out); passed = Passed-none gives way old.wanted false (place_of old s) [] }

PassesTag-short : {S : Type 0} (gives : FourHands → Option (List (List ℕ)) → Type 0) (way : S → Notice → S → Type 0) (old ended new : Filler) (s t : S) (is_first : Bool) (text name quoted rest : List ℕ) (count : ℕ) (o0 o1 o2 : List ℕ) → old.left ≡ 0
    → IsPlace old.mode is_first → BeginsShort text name quoted rest → count ≡ length text - length rest → count ≤ NEAR
    → EndsBefore gives way old ended s t (tag is_first count name quoted) o0 o1
    → new.state ≡ with_line_bytes (take count text) (with_mark (tag is_first count name quoted) ended.state) → new.mode ≡ Plain → new.left ≡ ended.left → new.wanted ≡ ended.wanted
    → o2 ≡ o1 ++ take count text
    → PassesTag gives way old new (later (inside name quoted) (next_notes old.state (tag is_first count name quoted) (notes_of old))) s t text count o0 o2
PassesTag-short {S} gives way old ended new s t is_first text name quoted rest count o0 o1 o2 outside place short counted few ends_before states modes_new lefts wanted appended =
    let p : List ℕ = inside name quoted in
    let mark = tag is_first (suc (length p)) name quoted in
    let here = ends old.state mark in
    let n : GameNotes = later p (next_notes old.state mark (notes_of old)) in
    let added : List ℕ = text_here here old.wanted old.state ends_before.answers ++ 91 ∷ p in
    let size : count ≡ length (91 ∷ p) = counted ∙ front-count text (91 ∷ p) rest short.spelled in
    let long : length (91 ∷ p) ≡ suc (length p) = omega arith in
    let fits : length p ≤ 65535 = omega (arith, size, few, long) in
    let bytes : take count text ≡ 91 ∷ p = ap (λ (n : ℕ). take n text) counted ∙ front-taken text (91 ∷ p) rest short.spelled in
    let q : Point = record { state = with_line_bytes (91 ∷ p) (with_mark mark (state_here here old.state)); left = 0; mode = Plain } in
    let there : Place S = record { point = q; notes = n; heard = t } in
    let passed : Passed gives way false old.wanted (record { point = record { state = old.state; left = 0; mode = old.mode }; notes = notes_of old; heard = s }) there (91 ∷ p) [] added =
    tag-passed gives way old.wanted old.state (notes_of old) s t old.mode is_first p name quoted ends_before.answers place (λ r. inside-read name quoted r short.some short.names short.calm) fits
    (inside-quiet name quoted short.names short.calm) (inside-modes name quoted short.names short.calm) ends_before.right ends_before.hears in
    let begun : Passed gives way false old.wanted (place_of old s) there (91 ∷ p) [] added =
    subst (λ (k : ℕ). Passed gives way false old.wanted (record { point = record { state = old.state; left = k; mode = old.mode }; notes = notes_of old; heard = s }) there (91 ∷ p) [] added) (sym outside) passed in
    let arrived : point_of new ≡ q =
    same-point q new
    (states ∙ ap (λ l. with_line_bytes l (with_mark mark ended.state)) bytes ∙ ap (λ (s : FillState). with_line_bytes (91 ∷ p) (with_mark mark s)) ends_before.state)
    (lefts ∙ ends_before.place.left ∙ outside) modes_new in
    let noted : later p (next_notes old.state (tag is_first count name quoted) (notes_of old)) ≡ n =
    ap (λ (k : ℕ). later p (next_notes old.state (tag is_first k name quoted) (notes_of old))) (size ∙ long) in
    record {
      within = omega (arith, counted);
      wanted = wanted ∙ ends_before.place.wanted;
      added = added;
      appended = appended ∙ ap (λ l. o1 ++ l) bytes ∙ ap (λ l. l ++ 91 ∷ p) ends_before.text ∙ append_assoc o0 (text_here here old.wanted old.state ends_before.answers) (91 ∷ p);
      passed = subst (λ (k : GameNotes). Passed gives way false old.wanted (place_of old s) (record { point = point_of new; notes = k; heard = t }) (take count text) [] added) (sym noted)
          (subst (λ (l : List ℕ). Passed gives way false old.wanted (place_of old s) (record { point = point_of new; notes = n; heard = t }) l [] added) (sym bytes)
          (subst (λ (r : Point). Passed gives way false old.wanted (place_of old s) (record { point = r; notes = n; heard = t }) (91 ∷ p) [] added) (sym arrived) begun));
    }

-- ---- by its name's number, and with its string as it stands
pub short-ends : (number : Option ℕ) (name : List ℕ) (state : FillState) → number ≡ known_number name
    → (state.begun && has_name (required_number number) state.names) ≡ (state.begun && has_name (is_required name) state.names)
short-ends number name state is = ap (λ (n : Option ℕ). state.begun && has_name (required_number n) state.names) is

short-told : (number : Option ℕ) (name quoted : List ℕ) (state : FillState) → number ≡ known_number name → are_calm Quoted quoted ≡ true → told number quoted state ≡ with_tag name quoted state
unfolding with_tag
short-told number name quoted state is calm =
    ap (λ (n : Option ℕ). told n quoted state) is ∙ ap (λ (l : List ℕ). told (known_number name) l state) (calm-unescaped quoted calm)

pub PassesTag-told : {S : Type 0} (gives : FourHands → Option (List (List ℕ)) → Type 0) (way : S → Notice → S → Type 0) (old ended new : Filler) (s t : S) (is_first : Bool) (text name quoted rest : List ℕ) (count : ℕ) (number : Option ℕ) (here : Bool)
    (o0 o1 o2 : List ℕ) → old.left ≡ 0 → IsPlace old.mode is_first → BeginsShort text name quoted rest → count ≡ length text - length rest → count ≤ NEAR → number ≡ known_number name
    → here ≡ (old.state.begun && has_name (required_number number) old.state.names) → EndsHere gives way old ended s t here is_first o0 o1
    → new.state ≡ with_line_bytes (take count text) (told number quoted ended.state) → new.mode ≡ Plain → new.left ≡ ended.left → new.wanted ≡ ended.wanted → o2 ≡ o1 ++ take count text
    → PassesTag gives way old new (later (inside name quoted) (next_notes old.state (tag is_first count name quoted) (notes_of old))) s t text count o0 o2
PassesTag-told gives way old ended new s t is_first text name quoted rest count number here o0 o1 o2 outside place short counted few is ends_here ended_here states modes_new lefts wanted appended =
    let mark = tag is_first count name quoted in
    PassesTag-short gives way old ended new s t is_first text name quoted rest count o0 o1 o2 outside place short counted few
    (EndsHere-before gives way old ended s t mark here is_first o0 o1 (ends_here ∙ short-ends number name old.state is) refl ended_here)
    (states ∙ ap (λ (s : FillState). with_line_bytes (take count text) s) (short-told number name quoted ended.state is short.calm)) modes_new lefts wanted appended

-- ---- and what comes out alone behind it
Passed-stays : {S : Type 0} (gives : FourHands → Option (List (List ℕ)) → Type 0) (way : S → Notice → S → Type 0) (wanted : Wanted) (p q : Point) (notes : GameNotes) (s : S) (bytes : List ℕ) → Stays p q bytes
    → Passed gives way false wanted (record { point = p; notes = notes; heard = s }) (record { point = q; notes = later bytes notes; heard = s }) bytes [] bytes
Passed-stays gives way wanted p q notes s bytes stays =
    record {
      answers = [];
      asked = [];
      notices = [];
      right = tt;
      over = omega arith;
      hears = refl;
      fills = λ more rest follows. stays.fills wanted more rest;
      asks = λ rest follows. stays.asks wanted rest;
      tells = λ more rest follows. stays.tells wanted more notes rest;
    }

PassesTag-behind : {S : Type 0} (gives : FourHands → Option (List (List ℕ)) → Type 0) (way : S → Notice → S → Type 0) (old mid taken new : Filler) (notes : GameNotes) (s t : S) (text name quoted rest behind : List ℕ) (count more : ℕ) (o0 o1 o2 : List ℕ)
    → PassesTag gives way old mid notes s t text count o0 (o1 ++ take count text) → BeginsShort text name quoted rest → count ≡ length text - length rest → (takes : Takes mid taken rest behind)
    → more ≡ length text - length behind → new.wanted ≡ taken.wanted → point_of new ≡ point_of taken → o2 ≡ o1 ++ take more text
    → PassesTag gives way old new (later takes.bytes notes) s t text more o0 o2
PassesTag-behind {S} gives way old mid taken new notes s t text name quoted rest behind count more o0 o1 o2 passes short counted takes all wanted arrived appended =
    let p : Place S = place_of old s in
    let m : Place S = record { point = point_of mid; notes = notes; heard = t } in
    let q : Place S = record { point = point_of new; notes = later takes.bytes notes; heard = t } in
    let whole : List ℕ = short_tag name quoted in
    let first : take count text ≡ whole = ap (λ (n : ℕ). take n text) counted ∙ front-taken text whole rest short.spelled in
    let split : text ≡ (whole ++ takes.bytes) ++ behind = short.spelled ∙ ap (λ l. whole ++ l) takes.split ∙ sym (append_assoc whole takes.bytes behind) in
    let bytes : take more text ≡ whole ++ takes.bytes = ap (λ (n : ℕ). take n text) all ∙ front-taken text (whole ++ takes.bytes) behind split in
    let stays : Stays (point_of mid) (point_of new) takes.bytes = subst (λ (r : Point). Stays (point_of mid) r takes.bytes) (sym arrived) takes.stays in
    let begun : Passed gives way false old.wanted p m whole [] passes.added = subst (λ (l : List ℕ). Passed gives way false old.wanted p m l [] passes.added) first passes.passed in
    let passed : Passed gives way false old.wanted p q (whole ++ takes.bytes) [] (passes.added ++ takes.bytes) =
    Passed-then gives way old.wanted false p m q (whole ++ takes.bytes) takes.bytes [] passes.added takes.bytes
    (Passed-more gives way old.wanted p m whole [] takes.bytes passes.added begun) (Passed-stays gives way old.wanted (point_of mid) (point_of new) notes t takes.bytes stays) in
    record {
      within = omega (arith, all);
      wanted = wanted ∙ takes.wanted ∙ passes.wanted;
      added = passes.added ++ takes.bytes;
      appended = appended ∙ ap (λ l. o1 ++ l) (bytes ∙ ap (λ l. l ++ takes.bytes) (sym first)) ∙ sym (append_assoc o1 (take count text) takes.bytes) ∙ ap (λ l. l ++ takes.bytes) passes.appended
          ∙ append_assoc o0 passes.added takes.bytes;
      passed = subst (λ (l : List ℕ). Passed gives way false old.wanted p q l [] (passes.added ++ takes.bytes)) (sym bytes) passed;
    }

-- what is noted behind the tag and these bytes
noted-behind : (old new : Filler) (mark : Begins) (inner bytes : List ℕ) (count : ℕ) → Notes old new mark → count ≡ length (91 ∷ (inner ++ bytes)) → new.passed ≡ min (old.passed + count) (2 ^ 64 - 1)
    → notes_of new ≡ later bytes (later inner (next_notes old.state mark (notes_of old)))
noted-behind old new mark inner bytes count notes size passed =
    let next : GameNotes = next_notes old.state mark (notes_of old) in
    let long : 1 + length (inner ++ bytes) ≡ length (91 ∷ (inner ++ bytes)) = omega arith in
    same-notes new _ notes.number notes.board notes.texts (passed ∙ ap (λ (n : ℕ). min (old.passed + n) (2 ^ 64 - 1)) (size ∙ sym long))
    ∙ sym (later-bytes (inner ++ bytes) next.number next.board next.texts old.passed) ∙ later-then inner bytes next

pub PassesTag-more : {S : Type 0} (gives : FourHands → Option (List (List ℕ)) → Type 0) (way : S → Notice → S → Type 0) (old mid taken new : Filler) (s t : S) (is_first : Bool) (text name quoted rest behind : List ℕ) (count more : ℕ) (o0 o1 o2 : List ℕ)
    → PassesTag gives way old mid (later (inside name quoted) (next_notes old.state (tag is_first count name quoted) (notes_of old))) s t text count o0 (o1 ++ take count text)
    → BeginsShort text name quoted rest → count ≡ length text - length rest → Takes mid taken rest behind
    → more ≡ length text - length behind → new.wanted ≡ taken.wanted → point_of new ≡ point_of taken → o2 ≡ o1 ++ take more text
    → Notes old new (tag is_first count name quoted) → new.passed ≡ min (old.passed + more) (2 ^ 64 - 1) → PassesTag gives way old new (notes_of new) s t text more o0 o2
PassesTag-more gives way old mid taken new s t is_first text name quoted rest behind count more o0 o1 o2 passes short counted takes all wanted arrived appended notes passed =
    let whole : List ℕ = short_tag name quoted in
    let split : text ≡ (whole ++ takes.bytes) ++ behind = short.spelled ∙ ap (λ l. whole ++ l) takes.split ∙ sym (append_assoc whole takes.bytes behind) in
    let size : more ≡ length (whole ++ takes.bytes) = all ∙ front-count text (whole ++ takes.bytes) behind split in
    subst (λ (n : GameNotes). PassesTag gives way old new n s t text more o0 o2) (sym (noted-behind old new (tag is_first count name quoted) (inside name quoted) takes.bytes more notes size passed))
    (PassesTag-behind gives way old mid taken new _ s t text name quoted rest behind count more o0 o1 o2 passes short counted takes all wanted arrived appended)

-- ---- at the front of a window
pub PassesFront-tag : {S : Type 0} (gives : FourHands → Option (List (List ℕ)) → Type 0) (way : S → Notice → S → Type 0) (is_all : Bool) (old new : Filler) (s t : S) (rest : List ℕ) (most count : ℕ) (o0 o1 : List ℕ) → count ≤ most
    → PassesTag gives way old new (notes_of new) s t (take most rest) count o0 o1 → PassesFront gives way is_all old new s t rest (drop count rest) o0 o1
PassesFront-tag gives way is_all old new s t rest most count o0 o1 few passes =
    let bytes : List ℕ = take count (take most rest) in
    let whole : bytes ++ drop count rest ≡ rest = ap (λ l. l ++ drop count rest) (take-of-take count most rest few) ∙ take-append-drop count rest in
    record {
      wanted = passes.wanted;
      text = passes.added;
      appended = passes.appended;
      passed = Passed-any gives way old.wanted is_all (place_of old s) (place_of new t) rest (drop count rest) passes.added
          (subst (λ (l : List ℕ). Passed gives way false old.wanted (place_of old s) (place_of new t) l (drop count rest) passes.added) whole
          (Passed-more gives way old.wanted (place_of old s) (place_of new t) bytes [] (drop count rest) passes.added passes.passed));
    }

pub PassesSome-tag : {S : Type 0} (gives : FourHands → Option (List (List ℕ)) → Type 0) (way : S → Notice → S → Type 0) (is_all : Bool) (old new : Filler) (s t : S) (rest : List ℕ) (most count : ℕ) (o0 o1 : List ℕ) → most ≤ length rest
    → PassesTag gives way old new (notes_of new) s t (take most rest) count o0 o1 → 0 < count → PassesSome gives way is_all old new s t rest most count o0 o1
PassesSome-tag gives way is_all old new s t rest most count o0 o1 room passes some =
    let size : length (take most rest) ≡ most = length-take-le most rest room in
    let within : count ≤ length (take most rest) = passes.within in
    let few : count ≤ most = omega arith in
    record { some = some; within = few; front = PassesFront-tag gives way is_all old new s t rest most count o0 o1 few passes }

-- a byte behind none
pub PassesSome-byte : {S : Type 0} (gives : FourHands → Option (List (List ℕ)) → Type 0) (way : S → Notice → S → Type 0) (is_all : Bool) (old mid new : Filler) (s t u : S) (rest : List ℕ) (most count : ℕ) (o0 o1 o2 : List ℕ) → 0 < most → most ≤ length rest
    → PassesTag gives way old mid (notes_of mid) s t (take most rest) count o0 o1 → count ≤ 0 → PassesFront gives way is_all mid new t u rest (drop 1 rest) o1 o2
    → PassesSome gives way is_all old new s u rest most 1 o0 o2
PassesSome-byte gives way is_all old mid new s t u rest most count o0 o1 o2 some room passes none first =
    let zero_count : count ≡ 0 = omega arith in
    let few : count ≤ most = omega arith in
    record {
      some = omega arith;
      within = omega arith;
      front = PassesFront-then gives way is_all old mid new s t u rest rest (drop 1 rest) o0 o1 o2
          (subst (λ (n : ℕ). PassesFront gives way is_all old mid s t rest (drop n rest) o0 o1) zero_count (PassesFront-tag gives way is_all old mid s t rest most count o0 o1 few passes)) first;
    }

-- ---- what the reader finds
front-whole : (text bytes after : List ℕ) → text ≡ bytes ++ after → front_of text after 0 ≡ bytes
front-whole text bytes after split =
    let none : (length text - length after) - 0 ≡ length text - length after = omega arith in ap (λ (n : ℕ). take n text) none ∙ front-taken text bytes after split

pub short-read : (text inner after opened string last closed rest name quoted : List ℕ) → text ≡ 91 ∷ inner → after ≡ after_name inner → after ≡ 32 ∷ opened → opened ≡ 34 ∷ string
    → last ≡ after_calm Quoted string → last ≡ 34 ∷ closed → closed ≡ 93 ∷ rest → length after < length inner → name ≡ front_of inner after 0 → quoted ≡ front_of string last 0
    → BeginsShort text name quoted rest
short-read text inner after opened string last closed rest name quoted bracket named space quote ended end close some name-is quoted-is =
    let found = name-front inner in
    let inner-split : inner ≡ found.bytes ++ after = found.split ∙ ap (λ l. found.bytes ++ l) (sym named) in
    let calm = calm-front Quoted string in
    let string-split : string ≡ calm.bytes ++ last = calm.split ∙ ap (λ l. calm.bytes ++ l) (sym ended) in
    let name-same : name ≡ found.bytes = name-is ∙ front-whole inner found.bytes after inner-split in
    let quoted-same : quoted ≡ calm.bytes = quoted-is ∙ front-whole string calm.bytes last string-split in
    let longer : length inner ≡ length found.bytes + length after = ap length inner-split ∙ length-append found.bytes after in
    let filled : 1 ≤ length found.bytes = omega arith in
    let string-is : string ≡ quoted ++ 34 ∷ 93 ∷ rest = string-split ∙ ap (λ l. l ++ last) (sym quoted-same) ∙ ap (λ l. quoted ++ l) (end ∙ ap (λ l. 34 ∷ l) close) in
    let inner-is : inner ≡ name ++ 32 ∷ 34 ∷ (quoted ++ 34 ∷ 93 ∷ rest) =
    inner-split ∙ ap (λ l. l ++ after) (sym name-same) ∙ ap (λ l. name ++ l) (space ∙ ap (λ l. 32 ∷ l) (quote ∙ ap (λ l. 34 ∷ l) string-is)) in
    record {
      some = subst (λ (l : List ℕ). 1 ≤ length l) (sym name-same) filled;
      names = ap are_names name-same ∙ found.names;
      calm = ap (are_calm Quoted) quoted-same ∙ calm.calm;
      spelled = bracket ∙ ap (λ l. 91 ∷ l) (inner-is ∙ sym (inside-rest name quoted rest));
    }
