-- Bytes at which nothing begins come out as they are.
use Rattle.std.proofs.Common.{◌≡◌, ◌∙◌, ℕ, zero, suc, ◌==◌, ◌+◌, ◌-◌, ◌^◌, ◌<◌, ◌≤◌, min, Bool, true, false, List, [], ◌∷◌, ◌++◌, length, get_or, take, drop, refl, sym, ap, subst, arith, inl, inr, ◌⊎◌, true≢false, eqb-true, append_assoc, length-append, length-drop, take_all, take-append-drop, Option}
use Rattle.std.specs.Prelude.{◌&&◌, ◌||◌, if◌then◌else◌}
use Rattle.std.proofs.lemmas.Bool.{and_parts, not-true, or_cases}
use Rattle.std.proofs.lemmas.List.{drop-drop, length-take-le}
use mathlib.Core.Bool.{not}
use Rattle.dd_cards.specs.Hands.{FourHands}
use Rattle.dd_file.specs.declared.fill_state.FillState.{FillState}
use Rattle.dd_file.specs.declared.filler.Filler.{Filler}
use Rattle.dd_file.specs.declared.mode.Mode.{Mode}
use Rattle.dd_file.specs.declared.told_texts.TheConstants.{TOLD_BYTES}
use Rattle.dd_file.specs.declared.mode.Mode.TheVariants.{Head, Mark1, Mark2, Start, Plain, Escaped, Remark, Braced, Quoted, Backslash}
use Rattle.dd_file.specs.Filled.{answers_after, ask_at, asked_here, asks_from, filled_from, first_of, state_here, text_here}
use Rattle.dd_file.specs.Games.{next_state, with_byte}
use Rattle.dd_file.specs.Marked.{begins_within, left_within, marked}
use Rattle.dd_file.specs.Marks.{nothing, empty_line, line_mark, mark_at, mark_read}
use Rattle.dd_file.specs.Modes.{is_blank, next_mode}
use Rattle.dd_file.specs.Quiet.{Counts, KeepsCounts, PassesQuiet, PassesSome, Stays, Takes, after_calm, are_calm, is_alone, is_calm, is_idle, is_quiet, is_quiet_within, later, with_line_bytes}
use Rattle.dd_file.specs.Tags.{tag_at}
use Rattle.dd_file.specs.Notes.{board_of, notes_of, texts_of, unknown_of}
use Rattle.dd_file.specs.Notices.{Notice}
use Rattle.dd_file.specs.Told.{GameNotes, TextsOf, notes_behind, one_more, told_from, told_here}
use Rattle.dd_file.specs.Windows.{Passed, PassesFront, Point, marked_at, place_of, point_of}
use Rattle.dd_file.proofs.AgainMarks.{blank-stop, is_all, line-begins, line-read, no-tag}
use Rattle.dd_file.proofs.AgainOver.{plain-nothing}
use Rattle.dd_file.proofs.Calm.{calm-front, front-taken}
use Rattle.dd_file.proofs.Going.{PassesFront-then, asks-byte, filled-byte, told-byte}
use Rattle.dd_file.proofs.Steps.{tail-is}

-- ---- one byte
none-of : (x y z : Bool) → not ((x || y) || z) ≡ true → (x ≡ false) × (y ≡ false) × (z ≡ false)
none-of false false false e = (refl, refl, refl)
none-of true y z e = absurd (true≢false (sym e))
none-of false true z e = absurd (true≢false (sym e))
none-of false false true e = absurd (true≢false (sym e))

start-nothing : (b : ℕ) (r : List ℕ) → is_quiet Start b ≡ true → begins_within 0 Start (b ∷ r) ≡ nothing
start-nothing b r quiet =
    let other = none-of (is_blank b) (b == 10) (b == 91) quiet in
    line-begins Start b r (inr refl) ∙ ap (λ k. line_mark (is_all b r) (b ∷ take 65535 r) k) (blank-stop b (take 65535 r) other.0) ∙ line-read (is_all b r) (b ∷ take 65535 r) b (take 65535 r)
    ∙ ap (λ (t : Bool). if t then empty_line else mark_read true (is_all b r) (b ∷ take 65535 r) (tag_at (b ∷ take 65535 r))) other.1
    ∙ ap (mark_read true (is_all b r) (b ∷ take 65535 r)) (no-tag b (take 65535 r) other.2)

-- nothing begins at a quiet byte, whatever follows
quiet-nothing : (left : ℕ) (mode : Mode) (b : ℕ) → is_quiet_within left mode b ≡ true → (rest : List ℕ) → begins_within left mode (b ∷ rest) ≡ nothing
unfolding mark_at
quiet-nothing (suc more) mode b quiet rest = refl
quiet-nothing zero Head b quiet rest = absurd (true≢false (sym quiet))
quiet-nothing zero Mark1 b quiet rest = absurd (true≢false (sym quiet))
quiet-nothing zero Mark2 b quiet rest = absurd (true≢false (sym quiet))
quiet-nothing zero Start b quiet rest = start-nothing b rest quiet
quiet-nothing zero Plain b quiet rest = plain-nothing b rest (not-true (b == 91) quiet)
quiet-nothing zero Escaped b quiet rest = refl
quiet-nothing zero Remark b quiet rest = refl
quiet-nothing zero Braced b quiet rest = refl
quiet-nothing zero Quoted b quiet rest = refl
quiet-nothing zero Backslash b quiet rest = refl

-- the place behind such a byte
abbrev pub behind : Point → ℕ → Point
behind p b = record { state = with_byte b p.state; left = left_within p.left nothing; mode = next_mode p.mode b }

pub byte-stays : (p : Point) (b : ℕ) → is_quiet_within p.left p.mode b ≡ true → Stays p (behind p b) (b ∷ [])
byte-stays p b quiet =
    record {
      fills = λ wanted answers rest. filled-byte wanted answers p.state p.left p.mode b rest nothing (quiet-nothing p.left p.mode b quiet rest);
      asks = λ wanted rest. asks-byte wanted p.state p.left p.mode b rest nothing (quiet-nothing p.left p.mode b quiet rest);
      tells = λ wanted answers notes rest. told-byte wanted answers p.state notes p.left p.mode b rest nothing (quiet-nothing p.left p.mode b quiet rest);
    }

empty-begins : (b : ℕ) (r : List ℕ) → b ≡ 10 → begins_within 0 Start (b ∷ r) ≡ empty_line
empty-begins b r feed =
    let other : is_blank b ≡ false = ap is_blank feed in
    line-begins Start b r (inr refl) ∙ ap (λ k. line_mark (is_all b r) (b ∷ take 65535 r) k) (blank-stop b (take 65535 r) other) ∙ line-read (is_all b r) (b ∷ take 65535 r) b (take 65535 r)
    ∙ ap (λ (n : ℕ). if n == 10 then empty_line else mark_read true (is_all b r) (b ∷ take 65535 r) (tag_at (b ∷ take 65535 r))) feed

-- an empty line ends no game that hasn't begun
idle-stays : (state : FillState) (begun : Bool) (left : ℕ) (mode : Mode) (b : ℕ) → state.begun ≡ begun → is_idle begun left mode b ≡ true
    → Stays (record { state = state; left = left; mode = mode }) (record { state = with_byte b state; left = left_within left nothing; mode = next_mode mode b }) (b ∷ [])
idle-stays state false zero Start b none idle =
    let starts : (r : List ℕ) → begins_within 0 Start (b ∷ r) ≡ empty_line = λ r. empty-begins b r (eqb-true b 10 idle) in
    record {
      fills = λ wanted answers rest.
          filled-byte wanted answers state 0 Start b rest empty_line (starts rest)
          ∙ ap (λ (t : Bool). text_here t wanted state answers ++ b ∷ filled_from wanted (answers_after t answers) (next_state (state_here t state) empty_line b) (marked 0 (next_mode Start b) rest)) none;
      asks = λ wanted rest.
          asks-byte wanted state 0 Start b rest empty_line (starts rest)
          ∙ ap (λ (t : Bool). asked_here t (ask_at true wanted state) ++ asks_from wanted (next_state (state_here t state) empty_line b) (marked 0 (next_mode Start b) rest)) none;
      tells = λ wanted answers notes rest.
          told-byte wanted answers state notes 0 Start b rest empty_line (starts rest)
          ∙ ap (λ (t : Bool). told_here t true wanted state notes (first_of answers)
          ++ told_from wanted (answers_after t answers) (next_state (state_here t state) empty_line b) (notes_behind t state empty_line notes) (marked 0 (next_mode Start b) rest)) none;
    }
idle-stays state true left mode b none idle = absurd (true≢false (sym idle))
idle-stays state false (suc more) mode b none idle = absurd (true≢false (sym idle))
idle-stays state false zero Head b none idle = absurd (true≢false (sym idle))
idle-stays state false zero Mark1 b none idle = absurd (true≢false (sym idle))
idle-stays state false zero Mark2 b none idle = absurd (true≢false (sym idle))
idle-stays state false zero Plain b none idle = absurd (true≢false (sym idle))
idle-stays state false zero Escaped b none idle = absurd (true≢false (sym idle))
idle-stays state false zero Remark b none idle = absurd (true≢false (sym idle))
idle-stays state false zero Braced b none idle = absurd (true≢false (sym idle))
idle-stays state false zero Quoted b none idle = absurd (true≢false (sym idle))
idle-stays state false zero Backslash b none idle = absurd (true≢false (sym idle))

alone-stays : (p : Point) (b : ℕ) → is_alone p.state.begun p.left p.mode b ≡ true → Stays p (behind p b) (b ∷ [])
alone-stays p b alone = go (or_cases (is_quiet_within p.left p.mode b) (is_idle p.state.begun p.left p.mode b) alone)
  where
    go : (is_quiet_within p.left p.mode b ≡ true) ⊎ (is_idle p.state.begun p.left p.mode b ≡ true) → Stays p (behind p b) (b ∷ [])
    go (inl quiet) = byte-stays p b quiet
    go (inr idle) = idle-stays p.state p.state.begun p.left p.mode b refl idle

-- ---- bytes behind bytes
pub Stays-none : (p : Point) → Stays p p []
Stays-none p = record { fills = λ wanted answers rest. refl; asks = λ wanted rest. refl; tells = λ wanted answers notes rest. refl }

-- what is noted behind bytes and bytes behind them
pub later-then : (a b : List ℕ) (notes : GameNotes) → later (a ++ b) notes ≡ later b (later a notes)
later-then [] b notes = refl
later-then (byte ∷ a) b notes = later-then a b (later (byte ∷ []) notes)

pub Stays-then : (p q r : Point) (a b : List ℕ) → Stays p q a → Stays q r b → Stays p r (a ++ b)
Stays-then p q r a b first second =
    record {
      fills = λ wanted answers rest.
          ap (λ l. filled_from wanted answers p.state (marked_at p l)) (append_assoc a b rest) ∙ first.fills wanted answers (b ++ rest)
          ∙ ap (λ l. a ++ l) (second.fills wanted answers rest) ∙ sym (append_assoc a b (filled_from wanted answers r.state (marked_at r rest)));
      asks = λ wanted rest.
          ap (λ l. asks_from wanted p.state (marked_at p l)) (append_assoc a b rest) ∙ first.asks wanted (b ++ rest) ∙ second.asks wanted rest;
      tells = λ wanted answers notes rest.
          ap (λ l. told_from wanted answers p.state notes (marked_at p l)) (append_assoc a b rest) ∙ first.tells wanted answers notes (b ++ rest)
          ∙ second.tells wanted answers (later a notes) rest ∙ ap (λ n. told_from wanted answers r.state n (marked_at r rest)) (sym (later-then a b notes));
    }

-- ---- calm bytes
pub record IsStill (mode : Mode) (b : ℕ) : Type 0 where
  pub quiet : is_quiet mode b ≡ true
  pub same : next_mode mode b ≡ mode
  pub feed : (b == 10) ≡ false

pub calm-still : (mode : Mode) (b : ℕ) → is_calm mode b ≡ true → IsStill mode b
calm-still Head b calm = absurd (true≢false (sym calm))
calm-still Mark1 b calm = absurd (true≢false (sym calm))
calm-still Mark2 b calm = absurd (true≢false (sym calm))
calm-still Start b calm = absurd (true≢false (sym calm))
calm-still Backslash b calm = absurd (true≢false (sym calm))
calm-still Escaped b calm =
    let feed = not-true (b == 10) calm in record { quiet = refl; same = ap (λ (t : Bool). if t then Start else Escaped) feed; feed = feed }
calm-still Remark b calm =
    let feed = not-true (b == 10) calm in record { quiet = refl; same = ap (λ (t : Bool). if t then Start else Remark) feed; feed = feed }
calm-still Braced b calm =
    let parts = and_parts (not (b == 10)) (not (b == 125)) calm in
    record { quiet = refl; same = ap (λ (t : Bool). if t then Plain else Braced) (not-true (b == 125) parts.1); feed = not-true (b == 10) parts.0 }
calm-still Quoted b calm =
    let parts = and_parts (not (b == 10) && not (b == 34)) (not (b == 92)) calm in
    let first = and_parts (not (b == 10)) (not (b == 34)) parts.0 in
    let feed = not-true (b == 10) first.0 in
    record {
      quiet = refl;
      same = ap (λ (t : Bool). if t then Plain else if b == 92 then Backslash else if b == 10 then Start else Quoted) (not-true (b == 34) first.1)
          ∙ ap (λ (t : Bool). if t then Backslash else if b == 10 then Start else Quoted) (not-true (b == 92) parts.1) ∙ ap (λ (t : Bool). if t then Start else Quoted) feed;
      feed = feed;
    }
calm-still Plain b calm =
    let p4 = and_parts (((not (b == 10) && not (b == 34)) && not (b == 59)) && not (b == 91)) (not (b == 123)) calm in
    let p3 = and_parts ((not (b == 10) && not (b == 34)) && not (b == 59)) (not (b == 91)) p4.0 in
    let p2 = and_parts (not (b == 10) && not (b == 34)) (not (b == 59)) p3.0 in
    let p1 = and_parts (not (b == 10)) (not (b == 34)) p2.0 in
    let feed = not-true (b == 10) p1.0 in
    record {
      quiet = p3.1;
      same = ap (λ (t : Bool). if t then Start else if b == 59 then Remark else if b == 123 then Braced else if b == 34 then Quoted else Plain) feed
          ∙ ap (λ (t : Bool). if t then Remark else if b == 123 then Braced else if b == 34 then Quoted else Plain) (not-true (b == 59) p2.1)
          ∙ ap (λ (t : Bool). if t then Braced else if b == 34 then Quoted else Plain) (not-true (b == 123) p4.1)
          ∙ ap (λ (t : Bool). if t then Quoted else Plain) (not-true (b == 34) p1.1);
      feed = feed;
    }

within-quiet : (left : ℕ) (mode : Mode) (b : ℕ) → is_quiet mode b ≡ true → is_quiet_within left mode b ≡ true
within-quiet zero mode b quiet = quiet
within-quiet (suc more) mode b quiet = refl

-- what is left of a tag behind so many bytes
abbrev left_after : ℕ → List ℕ → ℕ
left_after left [] = left
left_after left (b ∷ bytes) = left_after (left_within left nothing) bytes

within-one : (left : ℕ) → left_within left nothing ≡ left - 1
within-one zero = refl
within-one (suc more) = omega arith

left-after : (left : ℕ) (bytes : List ℕ) → left_after left bytes ≡ left - length bytes
left-after left [] = omega arith
left-after left (b ∷ bytes) =
    let one : left_within left nothing ≡ left - 1 = within-one left in
    let more : left_after (left_within left nothing) bytes ≡ left_within left nothing - length bytes = left-after (left_within left nothing) bytes in omega arith

abbrev behind_calm : Point → List ℕ → Point
behind_calm p bytes = record { state = with_line_bytes bytes p.state; left = left_after p.left bytes; mode = p.mode }

calm-byte : (p : Point) (b : ℕ) → is_calm p.mode b ≡ true → Stays p (behind_calm p (b ∷ [])) (b ∷ [])
calm-byte p b calm =
    let still = calm-still p.mode b calm in
    let next : ℕ = left_within p.left nothing in
    let here : Stays p (behind p b) (b ∷ []) = byte-stays p b (within-quiet p.left p.mode b still.quiet) in
    let alike : Stays p (record { state = with_byte b p.state; left = next; mode = p.mode }) (b ∷ []) =
    subst (λ (m : Mode). Stays p (record { state = with_byte b p.state; left = next; mode = m }) (b ∷ [])) still.same here in
    subst (λ (t : Bool). Stays p (record { state = record p.state { last = b; has_return = if t then p.state.last == 13 else p.state.has_return }; left = next; mode = p.mode }) (b ∷ [])) still.feed alike

calm-stays : (p : Point) (bytes : List ℕ) → are_calm p.mode bytes ≡ true → Stays p (behind_calm p bytes) bytes
calm-stays p [] calm = Stays-none p
calm-stays p (b ∷ bytes) calm =
    let parts = and_parts (is_calm p.mode b) (are_calm p.mode bytes) calm in
    Stays-then p (behind_calm p (b ∷ [])) (behind_calm p (b ∷ bytes)) (b ∷ []) bytes (calm-byte p b parts.0) (calm-stays (behind_calm p (b ∷ [])) bytes parts.1)

-- ---- what was taken in
pub same-point : (p : Point) (new : Filler) → new.state ≡ p.state → new.left ≡ p.left → new.mode ≡ p.mode → point_of new ≡ p
same-point p new states lefts modes =
    ap (λ (s : FillState). (let q : Point = record { state = s; left = new.left; mode = new.mode } in q)) states
    ∙ ap (λ (n : ℕ). (let q : Point = record { state = p.state; left = n; mode = new.mode } in q)) lefts
    ∙ ap (λ (m : Mode). (let q : Point = record { state = p.state; left = p.left; mode = m } in q)) modes

pub KeepsCounts-then : (old mid new : Filler) → KeepsCounts old mid → KeepsCounts mid new → KeepsCounts old new
KeepsCounts-then old mid new first second =
    record { number = second.number ∙ first.number; board = second.board ∙ first.board; unknown = second.unknown ∙ first.unknown; passed = second.passed ∙ first.passed }

pub Takes-none : (old : Filler) (text : List ℕ) → Takes old old text text
Takes-none old text = record { wanted = refl; bytes = []; split = refl; stays = Stays-none (point_of old) }

pub Takes-then : (old mid new : Filler) (t0 t1 t2 : List ℕ) → Takes old mid t0 t1 → Takes mid new t1 t2 → Takes old new t0 t2
Takes-then old mid new t0 t1 t2 first second =
    record {
      wanted = second.wanted ∙ first.wanted;
      bytes = first.bytes ++ second.bytes;
      split = first.split ∙ ap (λ l. first.bytes ++ l) second.split ∙ sym (append_assoc first.bytes second.bytes t2);
      stays = Stays-then (point_of old) (point_of mid) (point_of new) first.bytes second.bytes first.stays second.stays;
    }

pub Takes-shorter : (old new : Filler) (text after : List ℕ) → Takes old new text after → 1 ≤ length after → length (take (length after - 1) (drop 1 after)) < length text
Takes-shorter old new text [] takes some = absurd (omega arith)
Takes-shorter old new text (b ∷ after) takes some =
    let whole : length text ≡ length takes.bytes + length (b ∷ after) = ap length takes.split ∙ length-append takes.bytes (b ∷ after) in
    let rest : length (take (length (b ∷ after) - 1) after) ≡ length after = ap length (tail-is b after) in
    omega (arith, whole, rest)

pub Takes-calm : (old new : Filler) (text bytes after : List ℕ) → after ≡ after_calm old.mode text → bytes ≡ take (length text - length after) text
    → new.state ≡ with_line_bytes bytes old.state → new.left ≡ old.left - length bytes → new.mode ≡ old.mode → new.wanted ≡ old.wanted → Takes old new text after
Takes-calm old new text bytes after rest front states lefts modes wanted =
    let found = calm-front old.mode text in
    let split : text ≡ found.bytes ++ after = found.split ∙ ap (λ l. found.bytes ++ l) (sym rest) in
    let is : bytes ≡ found.bytes = front ∙ front-taken text found.bytes after split in
    let calm : are_calm old.mode bytes ≡ true = ap (are_calm old.mode) is ∙ found.calm in
    record {
      wanted = wanted;
      bytes = bytes;
      split = split ∙ ap (λ l. l ++ after) (sym is);
      stays = subst (λ (p : Point). Stays (point_of old) p bytes)
          (sym (same-point (behind_calm (point_of old) bytes) new states (lefts ∙ sym (left-after old.left bytes)) modes)) (calm-stays (point_of old) bytes calm);
    }

pub Takes-byte : (old new : Filler) (text : List ℕ) → 1 ≤ length text → is_alone old.state.begun old.left old.mode (get_or text 0 0) ≡ true → new.state ≡ with_byte (get_or text 0 0) old.state
    → new.mode ≡ next_mode old.mode (get_or text 0 0) → new.left ≡ old.left - 1 → new.wanted ≡ old.wanted → Takes old new text (take (length text - 1) (drop 1 text))
Takes-byte old new [] some_left quiet states modes lefts wanted = absurd (omega arith)
Takes-byte old new (b ∷ text) some_left quiet states modes lefts wanted =
    record {
      wanted = wanted;
      bytes = b ∷ [];
      split = ap (λ l. b ∷ l) (sym (tail-is b text));
      stays = subst (λ (p : Point). Stays (point_of old) p (b ∷ [])) (sym (same-point (behind (point_of old) b) new states (lefts ∙ sym (within-one old.left)) modes)) (alone-stays (point_of old) b quiet);
    }

pub Takes-next : (old new : Filler) (b : ℕ) (text rest : List ℕ) → old.mode ≡ Plain → is_quiet Plain b ≡ true → text ≡ b ∷ rest → new.state ≡ with_byte b old.state → new.mode ≡ next_mode old.mode b
    → new.left ≡ old.left - 1 → new.wanted ≡ old.wanted → Takes old new text rest
Takes-next old new b text rest plain quiet split states modes lefts wanted =
    record {
      wanted = wanted;
      bytes = b ∷ [];
      split = split;
      stays = subst (λ (p : Point). Stays (point_of old) p (b ∷ [])) (sym (same-point (behind (point_of old) b) new states (lefts ∙ sym (within-one old.left)) modes))
          (byte-stays (point_of old) b (within-quiet old.left old.mode b (ap (λ (m : Mode). is_quiet m b) plain ∙ quiet)));
    }

-- ---- what was passed on
pub take-of-take : (n m : ℕ) (l : List ℕ) → n ≤ m → take n (take m l) ≡ take n l
take-of-take zero m l few = refl
take-of-take (suc n) zero l few = absurd (omega arith)
take-of-take (suc n) (suc m) [] few = refl
take-of-take (suc n) (suc m) (x ∷ l) few = (let less : n ≤ m = omega arith in ap (λ k. x ∷ k) (take-of-take n m l less))

-- ---- what is noted behind so many bytes
-- a count of up to the most goes up by as many
counted-more : (n k : ℕ) → min (min (n + 1) (2 ^ 64 - 1) + k) (2 ^ 64 - 1) ≡ min (n + (1 + k)) (2 ^ 64 - 1)
counted-more n k = grind (arith)

pub later-bytes : (bytes : List ℕ) (number : ℕ) (board : List ℕ) (texts : TextsOf) (count : ℕ)
    → later bytes (record { number = number; board = board; texts = texts; bytes = one_more count })
    ≡ record { number = number; board = board; texts = texts; bytes = min (count + (1 + length bytes)) (2 ^ 64 - 1) }
later-bytes [] number board texts count = ap (λ (n : ℕ). (let g : GameNotes = record { number = number; board = board; texts = texts; bytes = n } in g)) refl
later-bytes (byte ∷ bytes) number board texts count =
    let long : 1 + length bytes ≡ length (byte ∷ bytes) = omega arith in
    later-bytes bytes number board texts (one_more count)
    ∙ ap (λ (n : ℕ). (let g : GameNotes = record { number = number; board = board; texts = texts; bytes = n } in g))
    (counted-more count (1 + length bytes) ∙ ap (λ (n : ℕ). min (count + (1 + n)) (2 ^ 64 - 1)) long)

-- where nothing of the game is told by them
pub later-some : (bytes : List ℕ) (notes : GameNotes) → 0 < length bytes
    → later bytes notes ≡ record { number = notes.number; board = notes.board; texts = notes.texts; bytes = min (notes.bytes + length bytes) (2 ^ 64 - 1) }
later-some [] notes some = absurd (omega arith)
later-some (byte ∷ bytes) notes some =
    let long : 1 + length bytes ≡ length (byte ∷ bytes) = omega arith in
    later-bytes bytes notes.number notes.board notes.texts notes.bytes
    ∙ ap (λ (n : ℕ). (let g : GameNotes = record { number = notes.number; board = notes.board; texts = notes.texts; bytes = min (notes.bytes + n) (2 ^ 64 - 1) } in g)) long

pub same-notes : (new : Filler) (notes : GameNotes) → new.number ≡ notes.number → board_of new ≡ notes.board → unknown_of new ≡ notes.texts → new.passed ≡ notes.bytes → notes_of new ≡ notes
same-notes new notes numbers boards texts bytes =
    ap (λ (n : ℕ). (let g : GameNotes = record { number = n; board = board_of new; texts = unknown_of new; bytes = new.passed } in g)) numbers
    ∙ ap (λ (l : List ℕ). (let g : GameNotes = record { number = notes.number; board = l; texts = unknown_of new; bytes = new.passed } in g)) boards
    ∙ ap (λ (t : TextsOf). (let g : GameNotes = record { number = notes.number; board = notes.board; texts = t; bytes = new.passed } in g)) texts
    ∙ ap (λ (n : ℕ). (let g : GameNotes = record { number = notes.number; board = notes.board; texts = notes.texts; bytes = n } in g)) bytes

later-counts : (old new : Filler) (count : ℕ) (bytes : List ℕ) → length bytes ≡ count → Counts old new count → notes_of new ≡ later bytes (notes_of old)
later-counts old new count [] long counts =
    let none : count ≡ 0 = omega (arith, long) in
    same-notes new (notes_of old) counts.number (ap (λ b. take TOLD_BYTES b.items) counts.board) (ap (λ t. texts_of t) counts.unknown) (counts.none none)
later-counts old new count (byte ∷ bytes) long counts =
    let some : 0 < count = omega (arith, long) in
    let has : 0 < length (byte ∷ bytes) = omega arith in
    same-notes new _ counts.number (ap (λ b. take TOLD_BYTES b.items) counts.board) (ap (λ t. texts_of t) counts.unknown)
    (counts.some some ∙ ap (λ (n : ℕ). min (old.passed + n) (2 ^ 64 - 1)) (sym long)) ∙ sym (later-some (byte ∷ bytes) (notes_of old) has)

pub PassesFront-quiet : {S : Type 0} (gives : FourHands → Option (List (List ℕ)) → Type 0) (way : S → Notice → S → Type 0) (is_all : Bool) (old new : Filler) (s : S) (rest : List ℕ) (most count : ℕ) (out_old out_new : List ℕ) → most ≤ length rest
    → PassesQuiet old new (take most rest) count out_old out_new → Counts old new count → count ≤ most → PassesFront gives way is_all old new s s rest (drop count rest) out_old out_new
PassesFront-quiet {S} gives way is_all old new s rest most count out_old out_new room passes counts few =
    let bytes : List ℕ = take count (take most rest) in
    let whole : bytes ++ drop count rest ≡ rest = ap (λ l. l ++ drop count rest) (take-of-take count most rest few) ∙ take-append-drop count rest in
    let long : length bytes ≡ count = length-take-le count (take most rest) passes.within in
    let p : Point = point_of old in
    let q : Point = point_of new in
    let goes : Passed gives way is_all old.wanted (place_of old s) (record { point = q; notes = later bytes (notes_of old); heard = s }) rest (drop count rest) bytes = record {
      answers = [];
      asked = [];
      notices = [];
      right = tt;
      over = omega arith;
      hears = refl;
      fills = λ more behind follows.
          ap (λ l. filled_from old.wanted more p.state (marked_at p l)) (ap (λ l. l ++ behind) (sym whole) ∙ append_assoc bytes (drop count rest) behind)
          ∙ passes.stays.fills old.wanted more (drop count rest ++ behind);
      asks = λ behind follows.
          ap (λ l. asks_from old.wanted p.state (marked_at p l)) (ap (λ l. l ++ behind) (sym whole) ∙ append_assoc bytes (drop count rest) behind)
          ∙ passes.stays.asks old.wanted (drop count rest ++ behind);
      tells = λ more behind follows.
          ap (λ l. told_from old.wanted more p.state (notes_of old) (marked_at p l)) (ap (λ l. l ++ behind) (sym whole) ∙ append_assoc bytes (drop count rest) behind)
          ∙ passes.stays.tells old.wanted more (notes_of old) (drop count rest ++ behind);
    } in
    record {
      wanted = passes.wanted;
      text = bytes;
      appended = passes.appended;
      passed = subst (λ (n : GameNotes). Passed gives way is_all old.wanted (place_of old s) (record { point = q; notes = n; heard = s }) rest (drop count rest) bytes)
          (sym (later-counts old new count bytes long counts)) goes;
    }

-- behind so many bytes of a window, so many more
pub PassesFront-behind : {S : Type 0} (gives : FourHands → Option (List (List ℕ)) → Type 0) (way : S → Notice → S → Type 0) (is_all : Bool) (old new : Filler) (s t : S) (window : List ℕ) (at count : ℕ) (o0 o1 : List ℕ) → at ≤ length window
    → PassesFront gives way is_all old new s t (take (length window - at) (drop at window)) (drop count (take (length window - at) (drop at window))) o0 o1
    → PassesFront gives way is_all old new s t (drop at window) (drop (at + count) window) o0 o1
PassesFront-behind gives way is_all old new s t window at count o0 o1 within front =
    let all : take (length window - at) (drop at window) ≡ drop at window = take_all (length window - at) (drop at window) (omega (arith, length-drop {A = ℕ})) in
    let whole : PassesFront gives way is_all old new s t (drop at window) (drop count (drop at window)) o0 o1 =
    subst (λ (l : List ℕ). PassesFront gives way is_all old new s t l (drop count l) o0 o1) all front in
    subst (λ (l : List ℕ). PassesFront gives way is_all old new s t (drop at window) l o0 o1) (drop-drop count at window) whole

pub PassesSome-quiet : {S : Type 0} (gives : FourHands → Option (List (List ℕ)) → Type 0) (way : S → Notice → S → Type 0) (is_all : Bool) (old new : Filler) (s : S) (rest : List ℕ) (most count : ℕ) (o0 o1 : List ℕ) → 0 < most → most ≤ length rest
    → PassesQuiet old new (take most rest) count o0 o1 → Counts old new count → most ≤ count → PassesSome gives way is_all old new s s rest most count o0 o1
PassesSome-quiet gives way is_all old new s rest most count o0 o1 some room passes counts all =
    let size : length (take most rest) ≡ most = length-take-le most rest room in
    let within : count ≤ length (take most rest) = passes.within in
    let few : count ≤ most = omega arith in
    record { some = omega arith; within = few; front = PassesFront-quiet gives way is_all old new s rest most count o0 o1 room passes counts few }

-- and more behind it
pub PassesSome-then : {S : Type 0} (gives : FourHands → Option (List (List ℕ)) → Type 0) (way : S → Notice → S → Type 0) (is_all : Bool) (old mid new : Filler) (s t : S) (rest : List ℕ) (most count more : ℕ) (o0 o1 o2 : List ℕ) → most ≤ length rest
    → PassesQuiet old mid (take most rest) count o0 o1 → Counts old mid count → count < most
    → PassesSome gives way is_all mid new s t (take (length rest - count) (drop count rest)) (most - count) more o1 o2 → PassesSome gives way is_all old new s t rest most (count + more) o0 o2
PassesSome-then gives way is_all old mid new s t rest most count more o0 o1 o2 room passes counts under next =
    let few : count ≤ most = omega arith in
    let reached : count ≤ length rest = omega arith in
    let some : 0 < more = next.some in
    let within : more ≤ most - count = next.within in
    record {
      some = omega arith;
      within = omega arith;
      front = PassesFront-then gives way is_all old mid new s s t rest (drop count rest) (drop (count + more) rest) o0 o1 o2
          (PassesFront-quiet gives way is_all old mid s rest most count o0 o1 room passes counts few) (PassesFront-behind gives way is_all mid new s t rest count more o1 o2 reached next.front);
    }
