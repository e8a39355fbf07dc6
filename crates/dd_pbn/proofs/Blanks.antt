-- blanks, gaps and single bytes: what is read stands at the front, and what stands at the front is read
use Rattle.std.proofs.Common.{◌≡◌, ℕ, Bool, true, false, cond, refl, sym, ap, ◌∙◌, arith, List, [], ◌∷◌, ◌++◌, Option, Some, None, inl, inr, eq-eqb}
use Rattle.std.specs.Prelude.{map, ◌==◌}
use Rattle.std.specs.Char.{to_ascii_uppercase}
use Rattle.std.specs.List.{list_all}
use Rattle.std.proofs.lemmas.Bool.{eqb-true, and_parts, and_from, or_cases, cases_Bool}
use Rattle.std.proofs.lemmas.Option.{cond_some}
use Rattle.dd_cards.specs.declared.seat.Seat.{Seat}
use Rattle.dd_pbn.specs.Letters.{seat_letter, is_blank, AreBlanks}
use Rattle.dd_pbn.specs.Values.{IsGap}
use Rattle.dd_pbn.specs.Reading.{◌>>=◌, after_blanks, gap_at, byte_at, letter_at, name_at, seat_of, seat_at}
use Rattle.dd_pbn.proofs.Bytes.{Ends, seat_of-tells, seat_of-letter}

-- the value of a step that did not fail
pub bind-some : {A B : Type 0} (r : Option A) (f : A → Option B) (y : B) → (r >>= f) ≡ Some y → (x : A) × (r ≡ Some x) × (f x ≡ Some y)
bind-some (Some x) f y e = (x, refl, e)
bind-some None f y e = absurd (cc)

-- ---- blanks
-- the text is some blanks, and what is left
pub record BlanksRead (text rest : List ℕ) : Type 0 where
  pub blanks : List ℕ
  pub are : AreBlanks blanks
  pub spelled : text ≡ blanks ++ rest

-- what is passed over is blanks
pub blanks-sound : (text : List ℕ) → BlanksRead text (after_blanks text)
unfolding after_blanks
blanks-sound [] = record { blanks = []; are = refl; spelled = refl }
blanks-sound (byte ∷ text) = go (blanks-sound text) (is_blank byte) refl
  where
    go : BlanksRead text (after_blanks text) → (b : Bool) → is_blank byte ≡ b → BlanksRead (byte ∷ text) (cond b (after_blanks text) (byte ∷ text))
    go more true blank = record { blanks = byte ∷ more.blanks; are = and_from (is_blank byte) (list_all is_blank more.blanks) blank more.are; spelled = ap (λ (t : List ℕ). byte ∷ t) more.spelled }
    go more false solid = record { blanks = []; are = refl; spelled = refl }

-- blanks are passed over
pub blanks-complete : (blanks rest : List ℕ) → AreBlanks blanks → Ends is_blank rest → after_blanks (blanks ++ rest) ≡ rest
unfolding after_blanks
blanks-complete [] [] are ends = refl
blanks-complete [] (byte ∷ rest) are ends = rw (ends, after_blanks) refl
blanks-complete (byte ∷ blanks) rest are ends =
    let parts = and_parts (is_blank byte) (list_all is_blank blanks) are in
    rw (parts.0, after_blanks) (blanks-complete blanks rest parts.1 ends)

-- the same of one or more
pub record GapRead (text rest : List ℕ) : Type 0 where
  pub gap : List ℕ
  pub is : IsGap gap
  pub spelled : text ≡ gap ++ rest

-- what is passed over is a gap
pub gap-sound : (text rest : List ℕ) → gap_at text ≡ Some rest → GapRead text rest
unfolding gap_at
gap-sound [] rest h = absurd (cc)
gap-sound (byte ∷ text) rest h =
    let c = cond_some (is_blank byte) (after_blanks text) rest h in
    let more = blanks-sound text in
    record {
      gap = byte ∷ more.blanks;
      is = (and_from (is_blank byte) (list_all is_blank more.blanks) c.0 more.are, omega arith);
      spelled = ap (λ (t : List ℕ). byte ∷ t) (more.spelled ∙ ap (λ (t : List ℕ). more.blanks ++ t) c.1);
    }

-- a gap is passed over
pub gap-complete : (gap rest : List ℕ) → IsGap gap → Ends is_blank rest → gap_at (gap ++ rest) ≡ Some rest
unfolding gap_at
gap-complete [] rest is ends = absurd (let more = is.1 in omega arith)
gap-complete (byte ∷ blanks) rest is ends =
    let parts = and_parts (is_blank byte) (list_all is_blank blanks) is.0 in
    rw (parts.0, gap_at) (ap Some (blanks-complete blanks rest parts.1 ends))

-- ---- a byte
-- a byte that is read stands at the front
pub byte_at-tells : (byte : ℕ) (text rest : List ℕ) → byte_at byte text ≡ Some rest → text ≡ byte ∷ rest
unfolding byte_at
byte_at-tells byte [] rest h = absurd (cc)
byte_at-tells byte (first ∷ text) rest h =
    let c = cond_some (first == byte) text rest h in
    let same : first ≡ byte = eqb-true first byte c.0 in
    let left : text ≡ rest = c.1 in
    cc

-- a byte at the front is read
pub byte_at-takes : (byte : ℕ) (rest : List ℕ) → byte_at byte (byte ∷ rest) ≡ Some rest
unfolding byte_at
byte_at-takes byte rest = rw (eq-eqb byte byte refl) refl

-- ---- a letter in either case
-- a letter that is read stands at the front, in some case
pub letter_at-tells : (letter : ℕ) (text rest : List ℕ) → letter_at letter text ≡ Some rest → (byte : ℕ) × (to_ascii_uppercase byte ≡ letter) × (text ≡ byte ∷ rest)
unfolding letter_at
letter_at-tells letter [] rest h = absurd (cc)
letter_at-tells letter (first ∷ text) rest h =
    let c = cond_some (to_ascii_uppercase first == letter) text rest h in
    (first, eqb-true (to_ascii_uppercase first) letter c.0, ap (λ (t : List ℕ). first ∷ t) c.1)

-- a letter at the front is read, in either case
pub letter_at-takes : (letter byte : ℕ) (rest : List ℕ) → to_ascii_uppercase byte ≡ letter → letter_at letter (byte ∷ rest) ≡ Some rest
unfolding letter_at
letter_at-takes letter byte rest same = rw (eq-eqb (to_ascii_uppercase byte) letter same, letter_at) refl

-- ---- the name
pub record NameRead (text rest : List ℕ) : Type 0 where
  pub name : List ℕ
  pub named : map to_ascii_uppercase name ≡ 68 ∷ 69 ∷ 65 ∷ 76 ∷ []
  pub spelled : text ≡ name ++ rest

-- four bytes, put together
four : (d e a l : ℕ) (t0 t1 t2 t3 rest : List ℕ) → t0 ≡ d ∷ t1 → t1 ≡ e ∷ t2 → t2 ≡ a ∷ t3 → t3 ≡ l ∷ rest → t0 ≡ (d ∷ e ∷ a ∷ l ∷ []) ++ rest
four d e a l t0 t1 t2 t3 rest e0 e1 e2 e3 = rw (e0, e1, e2, e3) refl

-- a name that is read stands at the front
pub name-sound : (text rest : List ℕ) → name_at text ≡ Some rest → NameRead text rest
unfolding name_at
name-sound text rest h =
    let p1 = letter_at 68 text in
    let p2 = p1 >>= letter_at 69 in
    let p3 = p2 >>= letter_at 65 in
    let s3 = bind-some p3 (letter_at 76) rest h in
    let s2 = bind-some p2 (letter_at 65) s3.0 s3.1 in
    let s1 = bind-some p1 (letter_at 69) s2.0 s2.1 in
    let d = letter_at-tells 68 text s1.0 s1.1 in
    let e = letter_at-tells 69 s1.0 s2.0 s1.2 in
    let a = letter_at-tells 65 s2.0 s3.0 s2.2 in
    let l = letter_at-tells 76 s3.0 rest s3.2 in
    record {
      name = d.0 ∷ e.0 ∷ a.0 ∷ l.0 ∷ [];
      named = rw (d.1, e.1, a.1, l.1) refl;
      spelled = four d.0 e.0 a.0 l.0 text s1.0 s2.0 s3.0 rest d.2 e.2 a.2 l.2;
    }

-- the name at the front is read, in either case
pub name-complete : (name rest : List ℕ) → map to_ascii_uppercase name ≡ 68 ∷ 69 ∷ 65 ∷ 76 ∷ [] → name_at (name ++ rest) ≡ Some rest
unfolding name_at
name-complete [] rest named = absurd (cc)
name-complete (d ∷ []) rest named = absurd (cc)
name-complete (d ∷ e ∷ []) rest named = absurd (cc)
name-complete (d ∷ e ∷ a ∷ []) rest named = absurd (cc)
name-complete (d ∷ e ∷ a ∷ l ∷ x ∷ name) rest named = absurd (cc)
name-complete (d ∷ e ∷ a ∷ l ∷ []) rest named =
    let at_d = letter_at-takes 68 d (e ∷ a ∷ l ∷ rest) (cc) in
    let at_e = letter_at-takes 69 e (a ∷ l ∷ rest) (cc) in
    let at_a = letter_at-takes 65 a (l ∷ rest) (cc) in
    let at_l = letter_at-takes 76 l rest (cc) in
    rw (at_d, at_e, at_a, at_l) refl

-- the name begins with no blank
pub name-solid : (name rest : List ℕ) → map to_ascii_uppercase name ≡ 68 ∷ 69 ∷ 65 ∷ 76 ∷ [] → Ends is_blank (name ++ rest)
name-solid [] rest named = absurd (cc)
name-solid (byte ∷ name) rest named =
    let letter : to_ascii_uppercase byte ≡ 68 = cc in
    elim (cases_Bool (is_blank byte)) [
      | inr solid ↦ solid
      | inl blank ↦ absurd (elim (or_cases (byte == 32) (byte == 9) blank) [
        | inl space ↦ let e : 32 ≡ 68 = ap to_ascii_uppercase (sym (eqb-true byte 32 space)) ∙ letter in omega arith
        | inr tab ↦ let e : 9 ≡ 68 = ap to_ascii_uppercase (sym (eqb-true byte 9 tab)) ∙ letter in omega arith
      ])
    ]

-- ---- the seat
pub record SeatRead (text : List ℕ) (seat : Seat) (rest : List ℕ) : Type 0 where
  pub letter : ℕ
  pub is : to_ascii_uppercase letter ≡ seat_letter seat
  pub spelled : text ≡ letter ∷ rest

-- a seat that is read stands at the front by its letter
pub seat-sound : (text : List ℕ) (read : Seat × List ℕ) → seat_at text ≡ Some read → SeatRead text read.0 read.1
unfolding seat_at
seat-sound [] read h = absurd (cc)
seat-sound (byte ∷ text) read h =
    let s = bind-some (seat_of byte) (λ seat. Some (seat, text)) read h in
    let pair : (s.0, text) ≡ read = cc in
    record {
      letter = byte;
      is = seat_of-tells byte s.0 s.1 ∙ ap (λ (p : Seat × List ℕ). seat_letter p.0) pair;
      spelled = ap (λ (p : Seat × List ℕ). byte ∷ p.1) pair;
    }

-- the letter of a seat at the front is read
pub seat-complete : (letter : ℕ) (seat : Seat) (rest : List ℕ) → to_ascii_uppercase letter ≡ seat_letter seat → seat_at (letter ∷ rest) ≡ Some (seat, rest)
unfolding seat_at
seat-complete letter seat rest is = rw (seat_of-letter letter seat is, seat_at) refl
