-- What begins at a byte of a file begins at it in the filled file.
use Rattle.std.proofs.Common.{◌≡◌, ◌∙◌, ℕ, zero, suc, ◌==◌, ◌-◌, ◌<◌, ◌≤◌, Bool, true, false, List, [], ◌∷◌, ◌++◌, length, take, drop, refl, sym, ap, subst, arith, ◌⊎◌, inl, inr, true≢false, eqb-true, take_all, take-append-drop, append_assoc, length-append, Result, Ok, Err}
use Rattle.std.proofs.lemmas.Bool.Decides.{nat_tests}
use Rattle.std.proofs.lemmas.List.{append_cancel_left}
use Rattle.std.specs.Prelude.{if◌then◌else◌, nat_le}
use Rattle.dd_file.specs.declared.mark.TheConstants.{NEAR}
use Rattle.dd_file.specs.declared.mode.Mode.{Mode}
use Rattle.dd_file.specs.declared.mode.Mode.TheVariants.{Head, Mark1, Mark2, Start, Plain, Escaped, Remark, Braced, Quoted, Backslash}
use Rattle.dd_file.specs.declared.tag_reader.Miss.{Miss}
use Rattle.dd_file.specs.declared.tag_reader.Miss.TheVariants.{NoTag, Ends}
use Rattle.dd_file.specs.Marked.{begins, left_of}
use Rattle.dd_file.specs.Marks.{nothing, empty_line, tag, cut, after_blanks, line_mark, mark_at, mark_read, tag_mark}
use Rattle.dd_file.specs.Modes.{is_blank, next_mode, outside_mode}
use Rattle.dd_file.specs.Tags.{TagParts, ◌>>=◌, after_gap, tag_at}
use Rattle.dd_file.proofs.AgainMiss.{Beside, Fails, byte-first, read_name, tag-beside, tag-steps}
use Rattle.dd_file.proofs.AgainTags.{PartsCut, tag-cut}

-- ---- what is near
pub beside-take : (shut : Bool) (n : ℕ) (mode : Mode) (xs ys : List ℕ) → (shut ≡ true → n ≤ length xs) → Beside false mode xs ys → Beside shut mode (take n xs) (take n ys)
beside-take shut zero mode xs ys room beside = λ e. refl
beside-take shut (suc n) mode [] ys room beside = λ e. (let some : suc n ≤ 0 = room e in absurd (omega arith))
beside-take shut (suc n) mode (x ∷ xs) ys room (inl same) =
    inl (take n same.0, ap (λ l. take (suc n) l) same.1, beside-take shut n (next_mode mode x) xs same.0 (λ e. (let some : suc n ≤ length (x ∷ xs) = room e in omega arith)) same.2)
beside-take shut (suc n) mode (x ∷ xs) ys room (inr put) = inr (put.0, (take n put.1.0, ap (λ l. take (suc n) l) put.1.1))

-- ---- blanks
pub blank-step : (x : ℕ) (a : List ℕ) → is_blank x ≡ true → after_blanks (x ∷ a) ≡ after_blanks a
unfolding after_blanks
blank-step x a blank = ap (λ (t : Bool). if t then after_blanks a else x ∷ a) blank

pub blank-stop : (x : ℕ) (a : List ℕ) → is_blank x ≡ false → after_blanks (x ∷ a) ≡ x ∷ a
unfolding after_blanks
blank-stop x a blank = ap (λ (t : Bool). if t then after_blanks a else x ∷ a) blank

blank-none : after_blanks [] ≡ []
unfolding after_blanks
blank-none = refl

pub outside-blank : (x : ℕ) → is_blank x ≡ true → outside_mode x ≡ Plain
outside-blank x blank = go (x == 10) (x == 59) (x == 123) (x == 34) refl refl refl refl
  where
    go : (a b c d : Bool) → (x == 10) ≡ a → (x == 59) ≡ b → (x == 123) ≡ c → (x == 34) ≡ d
        → (if a then Start else if b then Remark else if c then Braced else if d then Quoted else Plain) ≡ Plain
    go false false false false ea eb ec ed = refl
    go true b c d ea eb ec ed = absurd (true≢false (sym blank ∙ ap is_blank (eqb-true x 10 ea)))
    go false true c d ea eb ec ed = absurd (true≢false (sym blank ∙ ap is_blank (eqb-true x 59 eb)))
    go false false true d ea eb ec ed = absurd (true≢false (sym blank ∙ ap is_blank (eqb-true x 123 ec)))
    go false false false true ea eb ec ed = absurd (true≢false (sym blank ∙ ap is_blank (eqb-true x 34 ed)))

-- the blanks that both begin with, and what follows them
abbrev pub BlankBeside : Bool → List ℕ → List ℕ → List ℕ → Type 0
BlankBeside shut a b [] = shut ≡ true → after_blanks b ≡ []
BlankBeside shut a b (z ∷ c) =
    (blanks : List ℕ) × (d : List ℕ) × (a ≡ blanks ++ z ∷ c) × (b ≡ blanks ++ z ∷ d) × Beside shut (outside_mode z) c d × ((r : List ℕ) → after_blanks (blanks ++ z ∷ r) ≡ z ∷ r)

blanks-beside : (shut : Bool) (a b : List ℕ) → Beside shut Plain a b → BlankBeside shut a b (after_blanks a)
blanks-beside shut [] b beside = rw blank-none (λ e. ap after_blanks (beside e) ∙ blank-none)
blanks-beside shut (x ∷ a) b (inr put) = absurd put.0
blanks-beside shut (x ∷ a) b (inl same) =
    go (is_blank x) refl (λ blank. blanks-beside shut a same.0 (subst (λ (m : Mode). Beside shut m a same.0) (outside-blank x blank) same.2))
  where
    more : is_blank x ≡ true → (u : List ℕ) → BlankBeside shut a same.0 u → BlankBeside shut (x ∷ a) b u
    more blank [] rest = λ e. ap after_blanks same.1 ∙ blank-step x same.0 blank ∙ rest e
    more blank (z ∷ c) rest =
        (x ∷ rest.0, rest.1, ap (λ l. x ∷ l) rest.2, same.1 ∙ ap (λ l. x ∷ l) rest.3, rest.4, λ r. blank-step x (rest.0 ++ z ∷ r) blank ∙ rest.5 r)

    go : (t : Bool) → is_blank x ≡ t → (is_blank x ≡ true → BlankBeside shut a same.0 (after_blanks a)) → BlankBeside shut (x ∷ a) b (after_blanks (x ∷ a))
    go true blank next = rw (blank-step x a blank) (more blank (after_blanks a) (next blank))
    go false blank next = rw (blank-stop x a blank) ([], same.0, refl, same.1, same.2, λ r. blank-stop x r blank)

-- ---- the filled file behind a byte
pub record Behind (mode : Mode) (x : ℕ) (xs ys : List ℕ) : Type 0 where
  pub longer : length xs ≤ length ys
  pub beside : Beside false (next_mode mode x) xs ys
  pub within : (p r : List ℕ) → x ∷ xs ≡ p ++ r → 1 ≤ length p → length p ≤ suc (left_of (begins mode (x ∷ xs))) → (other : List ℕ) × (x ∷ ys ≡ p ++ other)
  pub to_end : length xs < left_of (begins mode (x ∷ xs)) → ys ≡ xs
  pub blank : mode ≡ Head ⊎ mode ≡ Start → is_blank x ≡ true → begins mode (x ∷ xs) ≡ empty_line → after_blanks xs ≡ [] → ys ≡ xs

-- whether all was looked at
abbrev pub is_all : ℕ → List ℕ → Bool
is_all x xs = nat_le (length (x ∷ xs)) NEAR

-- whether there is more
abbrev pub is_more : Bool → Bool
is_more true = false
is_more false = true

all-false : (x : ℕ) (xs ys : List ℕ) → length xs ≤ length ys → is_all x xs ≡ false → is_all x ys ≡ false
all-false x xs ys longer more = grind (arith, nat_tests)

all-take : (x : ℕ) (xs : List ℕ) → is_all x xs ≡ true → take 65535 xs ≡ xs
all-take x xs all = let few : length xs ≤ 65535 = grind (arith, nat_tests) in take_all 65535 xs few

more-room : (x : ℕ) (xs : List ℕ) → is_more (is_all x xs) ≡ true → 65535 ≤ length xs
more-room x xs more = go (is_all x xs) refl more
  where
    go : (t : Bool) → is_all x xs ≡ t → is_more t ≡ true → 65535 ≤ length xs
    go true e f = absurd (true≢false (sym f))
    go false e f = grind (arith, nat_tests)

pub no-tag : (z : ℕ) (a : List ℕ) → (z == 91) ≡ false → tag_at (z ∷ a) ≡ Err NoTag
no-tag z a e = tag-steps (z ∷ a) ∙ ap (λ (r : Result (List ℕ) Miss). r >>= (λ bracket. read_name (after_gap Plain bracket))) (byte-first 91 z a ∙ ap (λ (t : Bool). if t then Ok a else Err NoTag) e)

-- where reading fails in one it fails in the other
fails-other : (shut : Bool) (z : ℕ) (a b : List ℕ) → (z ≡ 91 → Beside shut Plain a b) → Fails shut (tag_at (z ∷ a)) → Fails shut (tag_at (z ∷ b))
fails-other shut z a b beside fails = go (z == 91) refl
  where
    go : (t : Bool) → (z == 91) ≡ t → Fails shut (tag_at (z ∷ b))
    go true e = tag-beside shut z a b (beside (eqb-true z 91 e)) fails
    go false e = subst (Fails shut) (sym (no-tag z b e)) tt

fails-nothing : (first all : Bool) (near : List ℕ) (shut : Bool) (read : Result TagParts Miss) → (shut ≡ true → all ≡ false) → Fails shut read → mark_read first all near read ≡ nothing
fails-nothing first all near shut (Ok parts) more fails = absurd fails
fails-nothing first all near shut (Err NoTag) more fails = refl
fails-nothing first all near shut (Err Ends) more fails = ap (λ (t : Bool). if t then cut (length near) else nothing) (more fails)

pub take-over : (n : ℕ) (p q : List ℕ) → length p ≤ n → take n (p ++ q) ≡ p ++ take (n - length p) q
take-over n [] q room = let e : n ≡ n - 0 = omega arith in ap (λ (k : ℕ). take k q) e
take-over zero (y ∷ p) q room = absurd (omega arith)
take-over (suc n) (y ∷ p) q room =
    let less : length p ≤ n = omega arith in
    let e : n - length p ≡ suc n - length (y ∷ p) = omega arith in
    ap (λ l. y ∷ l) (take-over n p q less) ∙ ap (λ (k : ℕ). y ∷ (p ++ take k q)) e

few-taken : (n : ℕ) (xs : List ℕ) → length (take n xs) ≤ n
few-taken zero xs = omega arith
few-taken (suc n) [] = omega arith
few-taken (suc n) (x ∷ xs) = let few : length (take n xs) ≤ n = few-taken n xs in omega arith

-- behind the blanks a tag, or none
tag-same : (mode : Mode) (x : ℕ) (xs ys : List ℕ) → Behind mode x xs ys → (first : Bool) (blanks : List ℕ) (z : ℕ) (a b : List ℕ)
    → x ∷ take 65535 xs ≡ blanks ++ z ∷ a → x ∷ take 65535 ys ≡ blanks ++ z ∷ b → (z ≡ 91 → Beside (is_more (is_all x xs)) Plain a b)
    → begins mode (x ∷ xs) ≡ mark_read first (is_all x xs) (x ∷ take 65535 xs) (tag_at (z ∷ a))
    → begins mode (x ∷ ys) ≡ mark_read first (is_all x ys) (x ∷ take 65535 ys) (tag_at (z ∷ b)) → begins mode (x ∷ ys) ≡ begins mode (x ∷ xs)
tag-same mode x xs ys h first blanks z a b near near' beside e1 e2 = go (tag_at (z ∷ a)) refl (tag-cut (z ∷ a))
  where
    shut-all : (t : Bool) → is_more t ≡ true → t ≡ false
    shut-all true e = sym e
    shut-all false e = refl

    failed : Fails (is_more (is_all x xs)) (tag_at (z ∷ a)) → begins mode (x ∷ ys) ≡ begins mode (x ∷ xs)
    failed fails =
        e2 ∙ fails-nothing first (is_all x ys) (x ∷ take 65535 ys) (is_more (is_all x xs)) (tag_at (z ∷ b)) (λ e. all-false x xs ys h.longer (shut-all (is_all x xs) e))
        (fails-other (is_more (is_all x xs)) z a b beside fails)
        ∙ sym (e1 ∙ fails-nothing first (is_all x xs) (x ∷ take 65535 xs) (is_more (is_all x xs)) (tag_at (z ∷ a)) (shut-all (is_all x xs)) fails)

    ended : (t : Bool) → is_all x xs ≡ t → tag_at (z ∷ a) ≡ Err Ends → begins mode (x ∷ ys) ≡ begins mode (x ∷ xs)
    ended true all is =
        let mark : begins mode (x ∷ xs) ≡ cut (length (x ∷ take 65535 xs)) = e1 ∙ ap (λ (t : Bool). mark_read first t (x ∷ take 65535 xs) (tag_at (z ∷ a))) all ∙ ap (mark_read first true (x ∷ take 65535 xs)) is in
        let left : left_of (begins mode (x ∷ xs)) ≡ length (x ∷ take 65535 xs) = ap left_of mark in
        let same : length (take 65535 xs) ≡ length xs = ap (λ (l : List ℕ). length l) (all-take x xs all) in
        let less : length xs < left_of (begins mode (x ∷ xs)) = omega arith in
        ap (λ l. begins mode (x ∷ l)) (h.to_end less)
    ended false all is = failed (subst (Fails (is_more (is_all x xs))) (sym is) (ap is_more all))

    go : (read : Result TagParts Miss) → tag_at (z ∷ a) ≡ read → PartsCut tag_at (z ∷ a) read → begins mode (x ∷ ys) ≡ begins mode (x ∷ xs)
    go (Err NoTag) is parts = failed (subst (Fails (is_more (is_all x xs))) (sym is) tt)
    go (Err Ends) is parts = ended (is_all x xs) refl is
    go (Ok parts) is found =
        let p = blanks ++ found.0 ∷ found.1 in
        let mark : begins mode (x ∷ xs) ≡ tag first (length (x ∷ take 65535 xs) - length parts.rest) parts.name parts.quoted = e1 ∙ ap (mark_read first (is_all x xs) (x ∷ take 65535 xs)) is in
        let split : x ∷ take 65535 xs ≡ p ++ parts.rest = near ∙ ap (λ l. blanks ++ l) found.2 ∙ sym (append_assoc blanks (found.0 ∷ found.1) parts.rest) in
        let whole : x ∷ xs ≡ p ++ (parts.rest ++ drop 65535 xs) =
        ap (λ l. x ∷ l) (sym (take-append-drop 65535 xs)) ∙ ap (λ l. l ++ drop 65535 xs) split ∙ append_assoc p parts.rest (drop 65535 xs) in
        let lengths : length (x ∷ take 65535 xs) ≡ length (p ++ parts.rest) = ap (λ (l : List ℕ). length l) split in
        let left : left_of (begins mode (x ∷ xs)) ≡ (length (x ∷ take 65535 xs) - length parts.rest) - 1 = ap left_of mark in
        let some : 1 ≤ length p = omega (arith, length-append {A = ℕ}) in
        let size : length p ≤ suc (left_of (begins mode (x ∷ xs))) = omega (arith, length-append {A = ℕ}) in
        let near-few : length (take 65535 xs) ≤ 65535 = few-taken 65535 xs in
        let few : length p ≤ 65536 = omega (arith, length-append {A = ℕ}) in
        let other = h.within p (parts.rest ++ drop 65535 xs) whole some size in
        let rest = take (65536 - length p) other.0 in
        let split' : x ∷ take 65535 ys ≡ p ++ rest = ap (λ (l : List ℕ). take 65536 l) other.1 ∙ take-over 65536 p other.0 few in
        let read : z ∷ b ≡ found.0 ∷ (found.1 ++ rest) = append_cancel_left blanks (z ∷ b) (found.0 ∷ (found.1 ++ rest)) (sym near' ∙ split' ∙ append_assoc blanks (found.0 ∷ found.1) rest) in
        let lengths' : length (x ∷ take 65535 ys) ≡ length (p ++ rest) = ap (λ (l : List ℕ). length l) split' in
        let sizes : length (x ∷ take 65535 ys) - length rest ≡ length (x ∷ take 65535 xs) - length parts.rest = omega (arith, length-append {A = ℕ}) in
        e2 ∙ ap (mark_read first (is_all x ys) (x ∷ take 65535 ys)) (ap tag_at read ∙ found.3 rest) ∙ ap (λ (n : ℕ). tag first n parts.name parts.quoted) sizes ∙ sym mark

-- ---- the first thing on a line
pub line-begins : (mode : Mode) (x : ℕ) (xs : List ℕ) → mode ≡ Head ⊎ mode ≡ Start → begins mode (x ∷ xs) ≡ line_mark (is_all x xs) (x ∷ take 65535 xs) (after_blanks (x ∷ take 65535 xs))
unfolding mark_at
line-begins mode x xs (inl head) = ap (λ (m : Mode). begins m (x ∷ xs)) head
line-begins mode x xs (inr start) = ap (λ (m : Mode). begins m (x ∷ xs)) start

pub line-read : (all : Bool) (near : List ℕ) (z : ℕ) (a : List ℕ) → line_mark all near (z ∷ a) ≡ (if z == 10 then empty_line else mark_read true all near (tag_at (z ∷ a)))
unfolding line_mark tag_mark
line-read all near z a = refl

line-none : (all : Bool) (near : List ℕ) → line_mark all near [] ≡ (if all then empty_line else nothing)
unfolding line_mark
line-none all near = refl

pub plain-begins : (mode : Mode) (x : ℕ) (xs : List ℕ) → mode ≡ Plain ⊎ (mode ≡ Mark1 ⊎ mode ≡ Mark2) → begins mode (x ∷ xs) ≡ mark_read false (is_all x xs) (x ∷ take 65535 xs) (tag_at (x ∷ take 65535 xs))
unfolding mark_at tag_mark
plain-begins mode x xs (inl plain) = ap (λ (m : Mode). begins m (x ∷ xs)) plain
plain-begins mode x xs (inr (inl plain)) = ap (λ (m : Mode). begins m (x ∷ xs)) plain
plain-begins mode x xs (inr (inr plain)) = ap (λ (m : Mode). begins m (x ∷ xs)) plain

near-beside : (mode : Mode) (x : ℕ) (xs ys : List ℕ) → Behind mode x xs ys → Beside (is_more (is_all x xs)) (next_mode mode x) (take 65535 xs) (take 65535 ys)
near-beside mode x xs ys h = beside-take (is_more (is_all x xs)) 65535 (next_mode mode x) xs ys (more-room x xs) h.beside

-- the next byte stands outside, behind a `[` and behind a blank
next-opened : (mode : Mode) (x : ℕ) → mode ≡ Head ⊎ mode ≡ Start → x ≡ 91 → next_mode mode x ≡ Plain
next-opened mode x (inl head) e = ap (λ (m : Mode). next_mode m x) head ∙ ap (next_mode Head) e
next-opened mode x (inr start) e = ap (λ (m : Mode). next_mode m x) start ∙ ap (next_mode Start) e

pub blank-other : (x y : ℕ) → is_blank x ≡ true → is_blank y ≡ false → (x == y) ≡ false
blank-other x y blank other = go (x == y) refl
  where
    go : (t : Bool) → (x == y) ≡ t → t ≡ false
    go false e = refl
    go true e = absurd (true≢false (sym blank ∙ ap is_blank (eqb-true x y e) ∙ other))

pub next-blank : (mode : Mode) (x : ℕ) → mode ≡ Head ⊎ mode ≡ Start → is_blank x ≡ true → next_mode mode x ≡ Plain
next-blank mode x (inl head) blank =
    ap (λ (m : Mode). next_mode m x) head ∙ ap (λ (t : Bool). if t then Mark1 else if x == 37 then Escaped else outside_mode x) (blank-other x 239 blank refl)
    ∙ ap (λ (t : Bool). if t then Escaped else outside_mode x) (blank-other x 37 blank refl) ∙ outside-blank x blank
next-blank mode x (inr start) blank =
    ap (λ (m : Mode). next_mode m x) start ∙ ap (λ (t : Bool). if t then Escaped else outside_mode x) (blank-other x 37 blank refl) ∙ outside-blank x blank

-- what follows the blanks is there in both
line-first : (mode : Mode) (x : ℕ) (xs ys : List ℕ) → mode ≡ Head ⊎ mode ≡ Start → Behind mode x xs ys → (blanks : List ℕ) (z : ℕ) (a b : List ℕ)
    → x ∷ take 65535 xs ≡ blanks ++ z ∷ a → x ∷ take 65535 ys ≡ blanks ++ z ∷ b → ((r : List ℕ) → after_blanks (blanks ++ z ∷ r) ≡ z ∷ r)
    → (z ≡ 91 → Beside (is_more (is_all x xs)) Plain a b) → begins mode (x ∷ ys) ≡ begins mode (x ∷ xs)
line-first mode x xs ys line h blanks z a b near near' goes beside = go (z == 10) refl
  where
    begun : (l c : List ℕ) → x ∷ take 65535 l ≡ blanks ++ z ∷ c → begins mode (x ∷ l) ≡ (if z == 10 then empty_line else mark_read true (is_all x l) (x ∷ take 65535 l) (tag_at (z ∷ c)))
    begun l c e =
        line-begins mode x l line ∙ ap (λ k. line_mark (is_all x l) (x ∷ take 65535 l) k) (ap after_blanks e ∙ goes c) ∙ line-read (is_all x l) (x ∷ take 65535 l) z c

    go : (t : Bool) → (z == 10) ≡ t → begins mode (x ∷ ys) ≡ begins mode (x ∷ xs)
    go true e =
        begun ys b near' ∙ ap (λ (t : Bool). if t then empty_line else mark_read true (is_all x ys) (x ∷ take 65535 ys) (tag_at (z ∷ b))) e
        ∙ sym (begun xs a near ∙ ap (λ (t : Bool). if t then empty_line else mark_read true (is_all x xs) (x ∷ take 65535 xs) (tag_at (z ∷ a))) e)
    go false e =
        tag-same mode x xs ys h true blanks z a b near near' beside
        (begun xs a near ∙ ap (λ (t : Bool). if t then empty_line else mark_read true (is_all x xs) (x ∷ take 65535 xs) (tag_at (z ∷ a))) e)
        (begun ys b near' ∙ ap (λ (t : Bool). if t then empty_line else mark_read true (is_all x ys) (x ∷ take 65535 ys) (tag_at (z ∷ b))) e)

line-same : (mode : Mode) (x : ℕ) (xs ys : List ℕ) → mode ≡ Head ⊎ mode ≡ Start → Behind mode x xs ys → begins mode (x ∷ ys) ≡ begins mode (x ∷ xs)
line-same mode x xs ys line h = go (is_blank x) refl
  where
    none : (t : Bool) → is_all x xs ≡ t → is_blank x ≡ true → after_blanks (take 65535 xs) ≡ [] → (is_more (is_all x xs) ≡ true → after_blanks (take 65535 ys) ≡ []) → begins mode (x ∷ ys) ≡ begins mode (x ∷ xs)
    none true all blank ends same =
        let mark : begins mode (x ∷ xs) ≡ empty_line = line-begins mode x xs line ∙ ap (λ k. line_mark (is_all x xs) (x ∷ take 65535 xs) k) (blank-step x (take 65535 xs) blank ∙ ends)
        ∙ line-none (is_all x xs) (x ∷ take 65535 xs) ∙ ap (λ (t : Bool). if t then empty_line else nothing) all in
        ap (λ l. begins mode (x ∷ l)) (h.blank line blank mark (sym (ap after_blanks (all-take x xs all)) ∙ ends))
    none false all blank ends same =
        line-begins mode x ys line ∙ ap (λ k. line_mark (is_all x ys) (x ∷ take 65535 ys) k) (blank-step x (take 65535 ys) blank ∙ same (ap is_more all))
        ∙ line-none (is_all x ys) (x ∷ take 65535 ys) ∙ ap (λ (t : Bool). if t then empty_line else nothing) (all-false x xs ys h.longer all)
        ∙ sym (line-begins mode x xs line ∙ ap (λ k. line_mark (is_all x xs) (x ∷ take 65535 xs) k) (blank-step x (take 65535 xs) blank ∙ ends)
        ∙ line-none (is_all x xs) (x ∷ take 65535 xs) ∙ ap (λ (t : Bool). if t then empty_line else nothing) all)

    some : is_blank x ≡ true → (u : List ℕ) → after_blanks (take 65535 xs) ≡ u → BlankBeside (is_more (is_all x xs)) (take 65535 xs) (take 65535 ys) u → begins mode (x ∷ ys) ≡ begins mode (x ∷ xs)
    some blank [] e rest = none (is_all x xs) refl blank e rest
    some blank (z ∷ a) e rest =
        line-first mode x xs ys line h (x ∷ rest.0) z a rest.1 (ap (λ l. x ∷ l) rest.2) (ap (λ l. x ∷ l) rest.3) (λ r. blank-step x (rest.0 ++ z ∷ r) blank ∙ rest.5 r)
        (λ opened. subst (λ (m : Mode). Beside (is_more (is_all x xs)) m a rest.1) (ap outside_mode opened) rest.4)

    go : (t : Bool) → is_blank x ≡ t → begins mode (x ∷ ys) ≡ begins mode (x ∷ xs)
    go true blank =
        some blank (after_blanks (take 65535 xs)) refl
        (blanks-beside (is_more (is_all x xs)) (take 65535 xs) (take 65535 ys)
        (subst (λ (m : Mode). Beside (is_more (is_all x xs)) m (take 65535 xs) (take 65535 ys)) (next-blank mode x line blank) (near-beside mode x xs ys h)))
    go false blank =
        line-first mode x xs ys line h [] x (take 65535 xs) (take 65535 ys) refl refl (λ r. blank-stop x r blank)
        (λ opened. subst (λ (m : Mode). Beside (is_more (is_all x xs)) m (take 65535 xs) (take 65535 ys)) (next-opened mode x line opened) (near-beside mode x xs ys h))

plain-same : (mode : Mode) (x : ℕ) (xs ys : List ℕ) → mode ≡ Plain ⊎ (mode ≡ Mark1 ⊎ mode ≡ Mark2) → (x ≡ 91 → next_mode mode x ≡ Plain) → Behind mode x xs ys → begins mode (x ∷ ys) ≡ begins mode (x ∷ xs)
plain-same mode x xs ys plain opened h =
    tag-same mode x xs ys h false [] x (take 65535 xs) (take 65535 ys) refl refl
    (λ e. subst (λ (m : Mode). Beside (is_more (is_all x xs)) m (take 65535 xs) (take 65535 ys)) (opened e) (near-beside mode x xs ys h)) (plain-begins mode x xs plain) (plain-begins mode x ys plain)

pub mark-same : (mode : Mode) (x : ℕ) (xs ys : List ℕ) → Behind mode x xs ys → begins mode (x ∷ ys) ≡ begins mode (x ∷ xs)
unfolding mark_at
mark-same Head x xs ys h = line-same Head x xs ys (inl refl) h
mark-same Start x xs ys h = line-same Start x xs ys (inr refl) h
mark-same Mark1 x xs ys h = plain-same Mark1 x xs ys (inr (inl refl)) (λ e. ap (next_mode Mark1) e) h
mark-same Mark2 x xs ys h = plain-same Mark2 x xs ys (inr (inr refl)) (λ e. ap (next_mode Mark2) e) h
mark-same Plain x xs ys h = plain-same Plain x xs ys (inl refl) (λ e. ap (next_mode Plain) e) h
mark-same Escaped x xs ys h = refl
mark-same Remark x xs ys h = refl
mark-same Braced x xs ys h = refl
mark-same Quoted x xs ys h = refl
mark-same Backslash x xs ys h = refl
