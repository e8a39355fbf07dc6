-- The calm bytes that a text begins with.
use Rattle.std.proofs.Common.{◌≡◌, ◌∙◌, ℕ, suc, ◌+◌, ◌-◌, ◌<◌, ◌≤◌, ◌==◌, Bool, true, false, List, [], ◌∷◌, ◌++◌, length, map, get_or, take, drop, refl, sym, ap, arith, append-nil, length-append}
use Rattle.std.specs.Prelude.{◌&&◌, if◌then◌else◌}
use Rattle.std.proofs.lemmas.Bool.{and_parts, not-true}
use lib.Lanes.{mask_l}
use mathlib.Core.Bool.{not}
use Rattle.dd_file.specs.declared.mode.Mode.{Mode}
use Rattle.dd_file.specs.declared.mode.Mode.TheVariants.{Head, Mark1, Mark2, Start, Plain, Escaped, Remark, Braced, Quoted, Backslash}
use Rattle.dd_file.specs.Modes.{next_mode}
use Rattle.dd_file.specs.Quiet.{after_calm, are_calm, first_set, is_calm, is_stop, last_of}
use Rattle.dd_file.specs.Tags.{after_string, string_at}
use Rattle.dd_file.specs.Values.{unescaped}
use Rattle.dd_file.proofs.Steps.{tail-is}
use Rattle.dd_file.proofs.Stretches.{none-left, stop-left, stop-within}

-- ---- the text after its calm bytes
calm-step : (mode : Mode) (b : ℕ) (text : List ℕ) → is_calm mode b ≡ true → after_calm mode (b ∷ text) ≡ after_calm mode text
unfolding after_calm
calm-step mode b text calm = ap (λ (t : Bool). if t then after_calm mode text else b ∷ text) calm

calm-stop : (mode : Mode) (b : ℕ) (text : List ℕ) → is_calm mode b ≡ false → after_calm mode (b ∷ text) ≡ b ∷ text
unfolding after_calm
calm-stop mode b text calm = ap (λ (t : Bool). if t then after_calm mode text else b ∷ text) calm

pub after_calm-end : (mode : Mode) (text : List ℕ) → length text < 1 → after_calm mode text ≡ text
unfolding after_calm
after_calm-end mode [] none_left = refl
after_calm-end mode (b ∷ text) none_left = absurd (omega arith)

pub after_calm-calm : (mode : Mode) (text : List ℕ) → 1 ≤ length text → is_calm mode (get_or text 0 0) ≡ true → after_calm mode text ≡ after_calm mode (take (length text - 1) (drop 1 text))
after_calm-calm mode [] some_left calm = absurd (omega arith)
after_calm-calm mode (b ∷ text) some_left calm = rw (tail-is b text) (calm-step mode b text calm)

pub after_calm-other : (mode : Mode) (text : List ℕ) → 1 ≤ length text → is_calm mode (get_or text 0 0) ≡ false → after_calm mode text ≡ text
after_calm-other mode [] some_left other = absurd (omega arith)
after_calm-other mode (b ∷ text) some_left other = calm-stop mode b text other

-- ---- the same sixteen bytes at once
module _ (mode : Mode) where
  pub calm-within : (text : List ℕ) (mask : ℕ) → 16 ≤ length text → mask ≡ mask_l (map (is_stop mode) (take 16 text)) → (mask ≡ 0 → ⊥) → first_set mask ≤ length text
  calm-within = stop-within (is_calm mode) (after_calm mode) (calm-step mode) (calm-stop mode)

  pub calm-stopped : (text rest : List ℕ) (mask : ℕ) → 16 ≤ length text → mask ≡ mask_l (map (is_stop mode) (take 16 text)) → (mask ≡ 0 → ⊥) → rest ≡ drop (first_set mask) text
      → rest ≡ after_calm mode text
  calm-stopped = stop-left (is_calm mode) (after_calm mode) (calm-step mode) (calm-stop mode)

  pub calm-through : (text rest : List ℕ) (mask : ℕ) → mask ≡ mask_l (map (is_stop mode) (take 16 text)) → mask ≡ 0 → rest ≡ drop 16 text → after_calm mode rest ≡ after_calm mode text
  calm-through = none-left (is_calm mode) (after_calm mode) (calm-step mode) (calm-stop mode)

-- ---- the calm bytes themselves
pub record CalmFront (mode : Mode) (text after : List ℕ) : Type 0 where
  pub bytes : List ℕ
  pub split : text ≡ bytes ++ after
  pub calm : are_calm mode bytes ≡ true

pub calm-front : (mode : Mode) (text : List ℕ) → CalmFront mode text (after_calm mode text)
calm-front mode [] = record { bytes = []; split = sym (after_calm-end mode [] (omega arith)); calm = refl }
calm-front mode (b ∷ text) = go (is_calm mode b) refl (calm-front mode text)
  where
    go : (t : Bool) → is_calm mode b ≡ t → CalmFront mode text (after_calm mode text) → CalmFront mode (b ∷ text) (after_calm mode (b ∷ text))
    go true calm more =
        record { bytes = b ∷ more.bytes; split = ap (λ l. b ∷ l) more.split ∙ ap (λ l. b ∷ (more.bytes ++ l)) (sym (calm-step mode b text calm)); calm = ap (λ (t : Bool). t && are_calm mode more.bytes) calm ∙ more.calm }
    go false other more = record { bytes = []; split = sym (calm-stop mode b text other); calm = refl }

-- ---- fronts
pub take-front : (bytes after : List ℕ) → take (length bytes) (bytes ++ after) ≡ bytes
take-front [] after = refl
take-front (b ∷ bytes) after = ap (λ l. b ∷ l) (take-front bytes after)

pub front-count : (text bytes after : List ℕ) → text ≡ bytes ++ after → length text - length after ≡ length bytes
front-count text bytes after split =
    let whole : length text ≡ length bytes + length after = ap length split ∙ length-append bytes after in omega arith

pub front-taken : (text bytes after : List ℕ) → text ≡ bytes ++ after → take (length text - length after) text ≡ bytes
front-taken text bytes after split =
    ap (λ (n : ℕ). take n text) (front-count text bytes after split) ∙ ap (λ l. take (length bytes) l) split ∙ take-front bytes after

pub calm-shorter : (mode : Mode) (text after : List ℕ) → after ≡ after_calm mode text → length after ≤ length text
calm-shorter mode text after is =
    let front = calm-front mode text in
    let whole : length text ≡ length front.bytes + length (after_calm mode text) = ap length front.split ∙ length-append front.bytes (after_calm mode text) in
    let size : length after ≡ length (after_calm mode text) = ap length is in
    omega (arith, whole, size)

-- what is left of a text behind its first byte and calm bytes is less
pub calm-behind : (mode : Mode) (text after : List ℕ) → 1 ≤ length text → after ≡ after_calm mode (take (length text - 1) (drop 1 text)) → length after < length text
calm-behind mode [] after some is = absurd (omega arith)
calm-behind mode (b ∷ text) after some is =
    let less : length after ≤ length (take (length (b ∷ text) - 1) text) = calm-shorter mode (take (length (b ∷ text) - 1) text) after is in
    let size : length (take (length (b ∷ text) - 1) text) ≡ length text = ap length (tail-is b text) in
    omega (arith, less, size)

-- the last byte is the one behind which none is left
pub last-of : (bytes : List ℕ) (last : ℕ) → 1 ≤ length bytes → get_or bytes (length bytes - 1) 0 ≡ last_of bytes last
last-of [] last some = absurd (omega arith)
last-of (b ∷ []) last some = refl
last-of (b ∷ (c ∷ bytes)) last some =
    let e : length (b ∷ (c ∷ bytes)) - 1 ≡ suc (length (c ∷ bytes) - 1) = omega arith in
    ap (λ (n : ℕ). get_or (b ∷ (c ∷ bytes)) n 0) e ∙ last-of (c ∷ bytes) b (omega arith)

none-of : (mode : Mode) (text : List ℕ) → ((b : ℕ) → is_calm mode b ≡ false) → text ≡ after_calm mode text
none-of mode [] none = sym (after_calm-end mode [] (omega arith))
none-of mode (b ∷ text) none = sym (calm-stop mode b text (none b))

-- in the other modes no byte is calm
pub none-calm : (mode : Mode) (text : List ℕ) → (mode ≡ Plain → ⊥) → (mode ≡ Escaped → ⊥) → (mode ≡ Remark → ⊥) → (mode ≡ Braced → ⊥) → (mode ≡ Quoted → ⊥) → text ≡ after_calm mode text
none-calm Head text p e r b q = none-of Head text (λ x. refl)
none-calm Mark1 text p e r b q = none-of Mark1 text (λ x. refl)
none-calm Mark2 text p e r b q = none-of Mark2 text (λ x. refl)
none-calm Start text p e r b q = none-of Start text (λ x. refl)
none-calm Backslash text p e r b q = none-of Backslash text (λ x. refl)
none-calm Plain text p e r b q = absurd (p refl)
none-calm Escaped text p e r b q = absurd (e refl)
none-calm Remark text p e r b q = absurd (r refl)
none-calm Braced text p e r b q = absurd (b refl)
none-calm Quoted text p e r b q = absurd (q refl)

-- ---- lines
pub lines-alike : (text : List ℕ) → after_calm Remark text ≡ after_calm Escaped text
unfolding after_calm
lines-alike [] = refl
lines-alike (b ∷ text) = ap (λ l. if not (b == 10) then l else b ∷ text) (lines-alike text)

-- ---- strings
pub quoted-stays : (b : ℕ) → is_calm Quoted b ≡ true → next_mode Quoted b ≡ Quoted
quoted-stays b calm =
    let parts = and_parts (not (b == 10) && not (b == 34)) (not (b == 92)) calm in
    let first = and_parts (not (b == 10)) (not (b == 34)) parts.0 in
    ap (λ (t : Bool). if t then Plain else if b == 92 then Backslash else if b == 10 then Start else Quoted) (not-true (b == 34) first.1)
    ∙ ap (λ (t : Bool). if t then Backslash else if b == 10 then Start else Quoted) (not-true (b == 92) parts.1)
    ∙ ap (λ (t : Bool). if t then Start else Quoted) (not-true (b == 10) first.0)

pub quoted-step : (b : ℕ) (text : List ℕ) → is_calm Quoted b ≡ true → after_string Quoted (b ∷ text) ≡ after_string Quoted text
unfolding after_string
quoted-step b text calm = ap (λ (m : Mode). string_at m text (after_string m text)) (quoted-stays b calm)

-- a string ends where it does behind its calm bytes
pub quoted-calm : (text : List ℕ) → after_string Quoted (after_calm Quoted text) ≡ after_string Quoted text
quoted-calm text = (let front = calm-front Quoted text in over front.bytes (after_calm Quoted text) front.calm ∙ ap (λ l. after_string Quoted l) (sym front.split))
  where
    over : (bytes after : List ℕ) → are_calm Quoted bytes ≡ true → after_string Quoted after ≡ after_string Quoted (bytes ++ after)
    over [] after calm = refl
    over (b ∷ bytes) after calm =
        (let parts = and_parts (is_calm Quoted b) (are_calm Quoted bytes) calm in over bytes after parts.1 ∙ sym (quoted-step b (bytes ++ after) parts.0))

-- a string goes on behind a byte
pub string-quoted : (mode : Mode) (text after : List ℕ) → 1 ≤ length text → next_mode mode (get_or text 0 0) ≡ Quoted → after ≡ after_calm Quoted (take (length text - 1) (drop 1 text))
    → after_string Quoted after ≡ after_string mode text
unfolding after_string
string-quoted mode [] after some is behind = absurd (omega arith)
string-quoted mode (b ∷ text) after some is behind =
    ap (λ l. after_string Quoted l) (behind ∙ ap (after_calm Quoted) (tail-is b text)) ∙ quoted-calm text ∙ ap (λ (m : Mode). string_at m text (after_string m text)) (sym is)

unescaped-step : (b : ℕ) (text : List ℕ) → is_calm Quoted b ≡ true → b ∷ unescaped false text ≡ unescaped false (b ∷ text)
unescaped-step b text calm =
    let parts = and_parts (not (b == 10) && not (b == 34)) (not (b == 92)) calm in
    ap (λ (t : Bool). if t then unescaped true text else b ∷ unescaped false text) (sym (not-true (b == 92) parts.1))

-- and calm bytes stand for themselves
unescaped-over : (bytes after : List ℕ) → are_calm Quoted bytes ≡ true → bytes ++ unescaped false after ≡ unescaped false (bytes ++ after)
unescaped-over [] after calm = refl
unescaped-over (b ∷ bytes) after calm =
    let parts = and_parts (is_calm Quoted b) (are_calm Quoted bytes) calm in
    ap (λ l. b ∷ l) (unescaped-over bytes after parts.1) ∙ unescaped-step b (bytes ++ after) parts.0

pub calm-unescaped : (bytes : List ℕ) → are_calm Quoted bytes ≡ true → bytes ≡ unescaped false bytes
calm-unescaped bytes calm = sym (append-nil bytes) ∙ unescaped-over bytes [] calm ∙ ap (unescaped false) (append-nil bytes)

unescaped-calm : (text : List ℕ) → take (length text - length (after_calm Quoted text)) text ++ unescaped false (after_calm Quoted text) ≡ unescaped false text
unescaped-calm text =
    let front = calm-front Quoted text in
    ap (λ l. l ++ unescaped false (after_calm Quoted text)) (front-taken text front.bytes (after_calm Quoted text) front.split)
    ∙ unescaped-over front.bytes (after_calm Quoted text) front.calm ∙ ap (unescaped false) (sym front.split)

pub unescaped-front : (text rest : List ℕ) (count : ℕ) (front : List ℕ) → rest ≡ after_calm Quoted text → count ≡ length text - length rest → front ≡ take count text
    → front ++ unescaped false rest ≡ unescaped false text
unescaped-front text rest count front after counted is =
    ap (λ l. l ++ unescaped false rest) (is ∙ ap (λ (n : ℕ). take n text) counted)
    ∙ ap (λ l. take (length text - length l) text ++ unescaped false l) after ∙ unescaped-calm text
