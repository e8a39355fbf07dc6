-- Lines of plain text, taken in at once.
use Rattle.std.proofs.Common.{◌≡◌, ◌∙◌, ℕ, suc, ◌==◌, ◌+◌, ◌-◌, ◌<◌, ◌≤◌, Bool, true, false, List, [], ◌∷◌, ◌++◌, length, get_or, take, drop, refl, sym, ap, subst, arith, true≢false, append_assoc, length-append}
use Rattle.std.specs.Prelude.{◌&&◌, nat_lt, slice_index_or, if◌then◌else◌}
use Rattle.std.proofs.lemmas.Bool.{and_parts, not-true}
use mathlib.Core.Bool.{not}
use Rattle.dd_file.specs.declared.fill_state.FillState.{FillState}
use Rattle.dd_file.specs.declared.filler.Filler.{Filler}
use Rattle.dd_file.specs.declared.mode.Mode.{Mode}
use Rattle.dd_file.specs.declared.mode.Mode.TheVariants.{Head, Mark1, Mark2, Start, Plain, Escaped, Remark, Braced, Quoted, Backslash}
use Rattle.dd_file.specs.Games.{with_byte}
use Rattle.dd_file.specs.Modes.{next_mode}
use Rattle.dd_file.specs.Quiet.{BeginsLines, EndsLine, IsPlace, Stays, Takes, after_calm, are_calm, are_quiet, begins_plain, is_calm, is_quiet, mode_behind, with_lines}
use Rattle.dd_file.specs.Windows.{Point, point_of}
use Rattle.dd_file.proofs.Calm.{calm-front, front-taken}
use Rattle.dd_file.proofs.Staying.{Stays-none, Stays-then, byte-stays, calm-still, same-point}
use Rattle.dd_file.proofs.Steps.{tail-is}

-- ---- bytes at which nothing begins
abbrev with_bytes : List ℕ → FillState → FillState
with_bytes [] state = state
with_bytes (b ∷ bytes) state = with_bytes bytes (with_byte b state)

quiet-stays : (bytes : List ℕ) (state : FillState) (mode : Mode) → are_quiet mode bytes ≡ true
    → Stays (record { state = state; left = 0; mode = mode }) (record { state = with_bytes bytes state; left = 0; mode = mode_behind mode bytes }) bytes
quiet-stays [] state mode quiet = Stays-none (record { state = state; left = 0; mode = mode })
quiet-stays (b ∷ bytes) state mode quiet =
    let parts = and_parts (is_quiet mode b) (are_quiet (next_mode mode b) bytes) quiet in
    Stays-then (record { state = state; left = 0; mode = mode }) (record { state = with_byte b state; left = 0; mode = next_mode mode b })
    (record { state = with_bytes (b ∷ bytes) state; left = 0; mode = mode_behind mode (b ∷ bytes) }) (b ∷ []) bytes
    (byte-stays (record { state = state; left = 0; mode = mode }) b parts.0) (quiet-stays bytes (with_byte b state) (next_mode mode b) parts.1)

quiet-append : (a b : List ℕ) (mode : Mode) → are_quiet mode a ≡ true → are_quiet (mode_behind mode a) b ≡ true → are_quiet mode (a ++ b) ≡ true
quiet-append [] b mode first second = second
quiet-append (x ∷ a) b mode first second =
    let parts = and_parts (is_quiet mode x) (are_quiet (next_mode mode x) a) first in
    ap (λ (t : Bool). t && are_quiet (next_mode mode x) (a ++ b)) parts.0 ∙ quiet-append a b (next_mode mode x) parts.1 second

mode-append : (a b : List ℕ) (mode : Mode) → mode_behind mode (a ++ b) ≡ mode_behind (mode_behind mode a) b
mode-append [] b mode = refl
mode-append (x ∷ a) b mode = mode-append a b (next_mode mode x)

-- ---- a line
plain-quiet : (bytes : List ℕ) → are_calm Plain bytes ≡ true → are_quiet Plain (bytes ++ 10 ∷ []) ≡ true
plain-quiet [] calm = refl
plain-quiet (b ∷ bytes) calm =
    let parts = and_parts (is_calm Plain b) (are_calm Plain bytes) calm in
    let still = calm-still Plain b parts.0 in
    ap (λ (t : Bool). t && are_quiet (next_mode Plain b) (bytes ++ 10 ∷ [])) still.quiet
    ∙ ap (λ (m : Mode). are_quiet m (bytes ++ 10 ∷ [])) still.same ∙ plain-quiet bytes parts.1

plain-behind : (bytes : List ℕ) → are_calm Plain bytes ≡ true → mode_behind Plain (bytes ++ 10 ∷ []) ≡ Start
plain-behind [] calm = refl
plain-behind (b ∷ bytes) calm =
    let parts = and_parts (is_calm Plain b) (are_calm Plain bytes) calm in
    ap (λ (m : Mode). mode_behind m (bytes ++ 10 ∷ [])) (calm-still Plain b parts.0).same ∙ plain-behind bytes parts.1

-- such a byte goes on as later in a line
first-next : (b : ℕ) → not (b == 37) ≡ true → next_mode Start b ≡ next_mode Plain b
first-next b other = ap (λ (t : Bool). if t then Escaped else next_mode Plain b) (not-true (b == 37) other)

last-two : (b : ℕ) (bytes : List ℕ) → EndsLine (b ∷ (bytes ++ 10 ∷ []))
last-two b [] = record { front = []; byte = b; split = refl }
last-two b (c ∷ bytes) = (let more = last-two c bytes in record { front = b ∷ more.front; byte = more.byte; split = ap (λ l. b ∷ l) more.split })

-- ---- lines
pub lines-none : (text : List ℕ) → BeginsLines text text
lines-none text = record { bytes = []; split = refl; quiet = refl; outside = refl; ended = λ some. absurd (omega arith) }

one-more : (text rest : List ℕ) (lines : BeginsLines text rest) (calm tail : List ℕ) → rest ≡ calm ++ 10 ∷ tail → are_calm Plain calm ≡ true → 1 ≤ length rest
    → begins_plain (get_or rest 0 0) ≡ true → BeginsLines text tail
one-more text rest lines [] tail split calm some plain =
    let feed : begins_plain (get_or rest 0 0) ≡ false = ap (λ (l : List ℕ). begins_plain (get_or l 0 0)) split in absurd (true≢false (sym plain ∙ feed))
one-more text rest lines (b ∷ calm) tail split all some plain =
    let line : List ℕ = b ∷ (calm ++ 10 ∷ []) in
    let first : begins_plain b ≡ true = sym (ap (λ (l : List ℕ). begins_plain (get_or l 0 0)) split) ∙ plain in
    let starts = and_parts (is_quiet Start b) (not (b == 37)) first in
    let parts = and_parts (is_calm Plain b) (are_calm Plain calm) all in
    let next : next_mode Start b ≡ Plain = first-next b starts.1 ∙ (calm-still Plain b parts.0).same in
    let quiet : are_quiet Start line ≡ true =
    ap (λ (t : Bool). t && are_quiet (next_mode Start b) (calm ++ 10 ∷ [])) starts.0 ∙ ap (λ (m : Mode). are_quiet m (calm ++ 10 ∷ [])) next ∙ plain-quiet calm parts.1 in
    let ends : mode_behind Start line ≡ Start = ap (λ (m : Mode). mode_behind m (calm ++ 10 ∷ [])) next ∙ plain-behind calm parts.1 in
    let two = last-two b calm in
    record {
      bytes = lines.bytes ++ line;
      split = lines.split ∙ ap (λ l. lines.bytes ++ l) (split ∙ ap (λ l. b ∷ l) (sym (append_assoc calm (10 ∷ []) tail))) ∙ sym (append_assoc lines.bytes line tail);
      quiet = quiet-append lines.bytes line Start lines.quiet (ap (λ (m : Mode). are_quiet m line) lines.outside ∙ quiet);
      outside = mode-append lines.bytes line Start ∙ ap (λ (m : Mode). mode_behind m line) lines.outside ∙ ends;
      ended = λ any. record {
        front = lines.bytes ++ two.front;
        byte = two.byte;
        split = ap (λ l. lines.bytes ++ l) two.split ∙ sym (append_assoc lines.bytes two.front (two.byte ∷ 10 ∷ []));
      };
    }

-- behind its calm bytes a line ends, and what is left behind that is what a slice pattern leaves
pub lines-more : (text rest after : List ℕ) → BeginsLines text rest → 1 ≤ length rest → begins_plain (get_or rest 0 0) ≡ true → after ≡ after_calm Plain rest → 1 ≤ length after → get_or after 0 0 ≡ 10
    → BeginsLines text (take (length after - 1) (drop 1 after))
lines-more text rest [] lines some plain is left feed = absurd (omega arith)
lines-more text rest (c ∷ after) lines some plain is left feed =
    let front = calm-front Plain rest in
    let split : rest ≡ front.bytes ++ 10 ∷ after = front.split ∙ ap (λ l. front.bytes ++ l) (sym is) ∙ ap (λ (n : ℕ). front.bytes ++ n ∷ after) feed in
    subst (λ (l : List ℕ). BeginsLines text l) (sym (tail-is c after)) (one-more text rest lines front.bytes after split front.calm some plain)

pub lines-shorter : (rest after : List ℕ) → after ≡ after_calm Plain rest → 1 ≤ length after → length (take (length after - 1) (drop 1 after)) < length rest
lines-shorter rest [] is left = absurd (omega arith)
lines-shorter rest (c ∷ after) is left =
    let front = calm-front Plain rest in
    let whole : length rest ≡ length front.bytes + length (c ∷ after) = ap length (front.split ∙ ap (λ l. front.bytes ++ l) (sym is)) ∙ length-append front.bytes (c ∷ after) in
    let size : length (take (length (c ∷ after) - 1) after) ≡ length after = ap length (tail-is c after) in
    omega (arith, whole, size)

-- ---- the game behind them
abbrev ended_so : ℕ → FillState → FillState
ended_so byte state = record state { last = 10; has_return = byte == 13 }

ended-behind : (front : List ℕ) (byte : ℕ) (state : FillState) → with_bytes (front ++ byte ∷ 10 ∷ []) state ≡ ended_so byte state
ended-behind [] byte state = refl
ended-behind (b ∷ front) byte state = ended-behind front byte (with_byte b state)

at-last : (front : List ℕ) (byte : ℕ) → slice_index_or (front ++ byte ∷ 10 ∷ []) (length (front ++ byte ∷ 10 ∷ []) - 2) 0 ≡ byte
at-last [] byte = refl
at-last (b ∷ front) byte =
    let two : 2 ≤ length (front ++ byte ∷ 10 ∷ []) = omega (arith, length-append front (byte ∷ 10 ∷ [])) in
    let e : length (b ∷ (front ++ byte ∷ 10 ∷ [])) - 2 ≡ suc (length (front ++ byte ∷ 10 ∷ []) - 2) = omega (arith, two) in
    ap (λ (n : ℕ). slice_index_or (b ∷ (front ++ byte ∷ 10 ∷ [])) n 0) e ∙ at-last front byte

lines-behind : (bytes : List ℕ) (state : FillState) → (0 < length bytes → EndsLine bytes) → with_lines bytes state ≡ with_bytes bytes state
lines-behind [] state ended = refl
lines-behind (b ∷ bytes) state ended =
    let line = ended (omega arith) in
    let last : List ℕ = line.byte ∷ 10 ∷ [] in
    let long : length (line.front ++ last) ≡ length line.front + 2 = length-append line.front last in
    let P : List ℕ → Type 0 = λ l. with_lines l state ≡ with_bytes l state in
    subst P (sym line.split)
    (ap (λ (t : Bool). if t then state else ended_so (slice_index_or (line.front ++ last) (length (line.front ++ last) - 2) 0) state) (not-short (length (line.front ++ last)) (omega (arith, long)))
    ∙ ap (λ (n : ℕ). ended_so n state) (at-last line.front line.byte) ∙ sym (ended-behind line.front line.byte state))
  where
    not-short : (n : ℕ) → 2 ≤ n → nat_lt n 2 ≡ false
    not-short n most = grind (arith)

pub first-start : (mode : Mode) (is_first : Bool) → IsPlace mode is_first → is_first ≡ true → mode ≡ Start
first-start Start is_first place first = refl
first-start Plain is_first place first = absurd (true≢false (sym first ∙ place))
first-start Head is_first place first = absurd place
first-start Mark1 is_first place first = absurd place
first-start Mark2 is_first place first = absurd place
first-start Escaped is_first place first = absurd place
first-start Remark is_first place first = absurd place
first-start Braced is_first place first = absurd place
first-start Quoted is_first place first = absurd place
first-start Backslash is_first place first = absurd place

pub Takes-lines : (old new : Filler) (text bytes after : List ℕ) → BeginsLines text after → bytes ≡ take (length text - length after) text → old.left ≡ 0 → old.mode ≡ Start
    → new.state ≡ with_lines bytes old.state → new.left ≡ old.left → new.mode ≡ old.mode → new.wanted ≡ old.wanted → Takes old new text after
Takes-lines old new text bytes after lines front none first states lefts modes wanted =
    let is : bytes ≡ lines.bytes = front ∙ front-taken text lines.bytes after lines.split in
    let p : Point = record { state = old.state; left = 0; mode = Start } in
    let q : Point = record { state = with_bytes lines.bytes old.state; left = 0; mode = Start } in
    let stays : Stays p q lines.bytes = subst (λ (m : Mode). Stays p (record { state = with_bytes lines.bytes old.state; left = 0; mode = m }) lines.bytes) lines.outside
    (quiet-stays lines.bytes old.state Start lines.quiet) in
    let arrived : point_of new ≡ q =
    same-point q new (states ∙ ap (λ l. with_lines l old.state) is ∙ lines-behind lines.bytes old.state lines.ended) (lefts ∙ none) (modes ∙ first) in
    record {
      wanted = wanted;
      bytes = lines.bytes;
      split = lines.split;
      stays = subst (λ (r : Point). Stays (point_of old) r lines.bytes) (sym arrived) (subst (λ (r : Point). Stays r q lines.bytes) (sym (same-point p old refl none first)) stays);
    }
