-- Where a file has a `[` that begins no tag, it begins none in the filled file.
use Rattle.std.proofs.Common.{◌≡◌, ◌∙◌, ℕ, ◌==◌, Bool, true, false, List, [], ◌∷◌, refl, sym, ap, subst, ◌⊎◌, inl, inr, true≢false, eqb-true, Result, Ok, Err}
use Rattle.std.specs.Prelude.{if◌then◌else◌}
use Rattle.dd_file.specs.declared.mode.Mode.{Mode}
use Rattle.dd_file.specs.declared.mode.Mode.TheVariants.{Head, Mark1, Mark2, Start, Plain, Escaped, Remark, Braced, Quoted, Backslash}
use Rattle.dd_file.specs.declared.tag_reader.Miss.{Miss}
use Rattle.dd_file.specs.declared.tag_reader.Miss.TheVariants.{NoTag, Ends}
use Rattle.dd_file.specs.Modes.{next_mode, outside_mode}
use Rattle.dd_file.specs.Tags.{TagParts, ◌>>=◌, after_gap, after_name, after_string, byte_at, front_of, is_gap, is_name, name_at, string_at, tag_at}

-- ---- the reader's steps
abbrev pub read_end : List ℕ → List ℕ → List ℕ → Result TagParts Miss
read_end name quoted last = byte_at 93 (after_gap Plain last) >>= (λ rest. Ok (record { name = name; quoted = quoted; rest = rest }))

abbrev pub read_string : List ℕ → List ℕ → Result TagParts Miss
read_string name string = after_string Quoted string >>= (λ last. read_end name (front_of string last 1) last)

abbrev pub read_value : List ℕ → List ℕ → Result TagParts Miss
read_value name after = byte_at 34 (after_gap Plain after) >>= (λ string. read_string name string)

abbrev pub read_name : List ℕ → Result TagParts Miss
read_name text = name_at text >>= (λ after. read_value (front_of text after 0) after)

pub tag-steps : (text : List ℕ) → tag_at text ≡ (byte_at 91 text >>= (λ bracket. read_name (after_gap Plain bracket)))
unfolding tag_at
tag-steps text = refl

-- ---- two texts, one with lines put in
abbrev pub IsAtStart : Mode → Type 0
IsAtStart Start = Unit {0}
IsAtStart Head = ⊥
IsAtStart Mark1 = ⊥
IsAtStart Mark2 = ⊥
IsAtStart Plain = ⊥
IsAtStart Escaped = ⊥
IsAtStart Remark = ⊥
IsAtStart Braced = ⊥
IsAtStart Quoted = ⊥
IsAtStart Backslash = ⊥

-- They are the same up to a start of a line, where the other has a `[` put in, or to the end of the first; where it is shut, the other ends there too.
abbrev pub Beside : Bool → Mode → List ℕ → List ℕ → Type 0
Beside shut mode [] b = shut ≡ true → b ≡ []
Beside shut mode (x ∷ a) b = ((c : List ℕ) × (b ≡ x ∷ c) × Beside shut (next_mode mode x) a c) ⊎ (IsAtStart mode × ((c : List ℕ) × (b ≡ 91 ∷ c)))

-- reading that gives no tag, and where it comes to the end of a text that is shut
abbrev pub Fails : {A : Type 0} → Bool → Result A Miss → Type 0
Fails shut (Ok x) = ⊥
Fails shut (Err NoTag) = Unit {0}
Fails shut (Err Ends) = shut ≡ true

-- ---- gaps
abbrev pub IsGapMode : Mode → Type 0
IsGapMode Start = Unit {0}
IsGapMode Plain = Unit {0}
IsGapMode Escaped = Unit {0}
IsGapMode Remark = Unit {0}
IsGapMode Braced = Unit {0}
IsGapMode Head = ⊥
IsGapMode Mark1 = ⊥
IsGapMode Mark2 = ⊥
IsGapMode Quoted = ⊥
IsGapMode Backslash = ⊥

outside-gap : (x : ℕ) → is_gap Plain x ≡ true → IsGapMode (outside_mode x)
outside-gap x gap = go (x == 10) (x == 59) (x == 123) (x == 34) refl
  where
    go : (a b c d : Bool) → (x == 34) ≡ d → IsGapMode (if a then Start else if b then Remark else if c then Braced else if d then Quoted else Plain)
    go true b c d e = tt
    go false true c d e = tt
    go false false true d e = tt
    go false false false false e = tt
    go false false false true e = absurd (true≢false (sym gap ∙ ap (is_gap Plain) (eqb-true x 34 e)))

start-gap : (x : ℕ) → is_gap Start x ≡ true → IsGapMode (next_mode Start x)
start-gap x gap = go (x == 37) (x == 10) (x == 59) (x == 123) (x == 34) refl
  where
    go : (p a b c d : Bool) → (x == 34) ≡ d → IsGapMode (if p then Escaped else if a then Start else if b then Remark else if c then Braced else if d then Quoted else Plain)
    go true a b c d e = tt
    go false true b c d e = tt
    go false false true c d e = tt
    go false false false true d e = tt
    go false false false false false e = tt
    go false false false false true e = absurd (true≢false (sym gap ∙ ap (is_gap Start) (eqb-true x 34 e)))

next-gap : (mode : Mode) (x : ℕ) → IsGapMode mode → is_gap mode x ≡ true → IsGapMode (next_mode mode x)
next-gap Start x is gap = start-gap x gap
next-gap Plain x is gap = outside-gap x gap
next-gap Escaped x is gap = go (x == 10)
  where
    go : (a : Bool) → IsGapMode (if a then Start else Escaped)
    go true = tt
    go false = tt
next-gap Remark x is gap = go (x == 10)
  where
    go : (a : Bool) → IsGapMode (if a then Start else Remark)
    go true = tt
    go false = tt
next-gap Braced x is gap = go (x == 125)
  where
    go : (a : Bool) → IsGapMode (if a then Plain else Braced)
    go true = tt
    go false = tt
next-gap Head x is gap = absurd is
next-gap Mark1 x is gap = absurd is
next-gap Mark2 x is gap = absurd is
next-gap Quoted x is gap = absurd is
next-gap Backslash x is gap = absurd is

-- what comes behind a gap is no `%` at a start
next-other : (mode : Mode) (x : ℕ) → IsGapMode mode → is_gap mode x ≡ false → next_mode mode x ≡ outside_mode x
next-other Plain x is other = refl
next-other Start x is other = go (x == 37) refl
  where
    go : (a : Bool) → (x == 37) ≡ a → (if a then Escaped else outside_mode x) ≡ outside_mode x
    go false e = refl
    go true e = absurd (true≢false (sym (ap (is_gap Start) (eqb-true x 37 e)) ∙ other))
next-other Escaped x is other = absurd (true≢false other)
next-other Remark x is other = absurd (true≢false other)
next-other Braced x is other = absurd (true≢false other)
next-other Head x is other = absurd is
next-other Mark1 x is other = absurd is
next-other Mark2 x is other = absurd is
next-other Quoted x is other = absurd is
next-other Backslash x is other = absurd is

-- behind a gap: the end, the same byte, or the `[` that was put in
abbrev pub BehindGap : Bool → List ℕ → List ℕ → Type 0
BehindGap shut [] b = shut ≡ true → b ≡ []
BehindGap shut (x ∷ a) b = (c : List ℕ) × (b ≡ x ∷ c) × Beside shut (outside_mode x) a c

abbrev pub GapBeside : Bool → List ℕ → List ℕ → Type 0
GapBeside shut a b = BehindGap shut a b ⊎ ((c : List ℕ) × (b ≡ 91 ∷ c))

pub gap-step : (mode : Mode) (x : ℕ) (a : List ℕ) → is_gap mode x ≡ true → after_gap mode (x ∷ a) ≡ after_gap (next_mode mode x) a
unfolding after_gap
gap-step mode x a gap = ap (λ t. if t then after_gap (next_mode mode x) a else x ∷ a) gap

pub gap-stop : (mode : Mode) (x : ℕ) (a : List ℕ) → is_gap mode x ≡ false → after_gap mode (x ∷ a) ≡ x ∷ a
unfolding after_gap
gap-stop mode x a gap = ap (λ t. if t then after_gap (next_mode mode x) a else x ∷ a) gap

pub gap-none : (mode : Mode) → after_gap mode [] ≡ []
unfolding after_gap
gap-none mode = refl

-- `[` is no gap where lines are put in
gap-put : (mode : Mode) (c : List ℕ) → IsAtStart mode → after_gap mode (91 ∷ c) ≡ 91 ∷ c
gap-put Start c is = gap-stop Start 91 c refl
gap-put Head c is = absurd is
gap-put Mark1 c is = absurd is
gap-put Mark2 c is = absurd is
gap-put Plain c is = absurd is
gap-put Escaped c is = absurd is
gap-put Remark c is = absurd is
gap-put Braced c is = absurd is
gap-put Quoted c is = absurd is
gap-put Backslash c is = absurd is

pub gap-beside : (shut : Bool) (mode : Mode) (a b : List ℕ) → IsGapMode mode → Beside shut mode a b → GapBeside shut (after_gap mode a) (after_gap mode b)
gap-beside shut mode [] b is beside = go shut beside
  where
    go : (s : Bool) → (s ≡ true → b ≡ []) → GapBeside s (after_gap mode []) (after_gap mode b)
    go true none = rw (gap-none mode) (inl (λ e. ap (after_gap mode) (none refl) ∙ gap-none mode))
    go false none = rw (gap-none mode) (inl (λ e. absurd (true≢false (sym e))))
gap-beside shut mode (x ∷ a) b is (inr put) =
    inr (put.1.0, ap (after_gap mode) put.1.1 ∙ gap-put mode put.1.0 put.0)
gap-beside shut mode (x ∷ a) b is (inl same) =
    subst (λ (l : List ℕ). GapBeside shut (after_gap mode (x ∷ a)) (after_gap mode l)) (sym same.1)
    (go (is_gap mode x) refl (λ gap. gap-beside shut (next_mode mode x) a same.0 (next-gap mode x is gap) same.2))
  where
    go : (g : Bool) → is_gap mode x ≡ g → (is_gap mode x ≡ true → GapBeside shut (after_gap (next_mode mode x) a) (after_gap (next_mode mode x) same.0))
        → GapBeside shut (after_gap mode (x ∷ a)) (after_gap mode (x ∷ same.0))
    go true gap more = rw (gap-step mode x a gap, gap-step mode x same.0 gap) (more gap)
    go false gap more = rw (gap-stop mode x a gap, gap-stop mode x same.0 gap) (inl (same.0, refl, subst (λ (m : Mode). Beside shut m a same.0) (next-other mode x is gap) same.2))

-- ---- a name
pub outside-name : (x : ℕ) → is_name x ≡ true → outside_mode x ≡ Plain
outside-name x name = go (x == 10) (x == 59) (x == 123) (x == 34) refl refl refl refl
  where
    go : (a b c d : Bool) → (x == 10) ≡ a → (x == 59) ≡ b → (x == 123) ≡ c → (x == 34) ≡ d
        → (if a then Start else if b then Remark else if c then Braced else if d then Quoted else Plain) ≡ Plain
    go false false false false ea eb ec ed = refl
    go true b c d ea eb ec ed = absurd (true≢false (sym name ∙ ap is_name (eqb-true x 10 ea)))
    go false true c d ea eb ec ed = absurd (true≢false (sym name ∙ ap is_name (eqb-true x 59 eb)))
    go false false true d ea eb ec ed = absurd (true≢false (sym name ∙ ap is_name (eqb-true x 123 ec)))
    go false false false true ea eb ec ed = absurd (true≢false (sym name ∙ ap is_name (eqb-true x 34 ed)))

pub name-step : (x : ℕ) (a : List ℕ) → is_name x ≡ true → after_name (x ∷ a) ≡ after_name a
unfolding after_name
name-step x a name = ap (λ t. if t then after_name a else x ∷ a) name

pub name-stop : (x : ℕ) (a : List ℕ) → is_name x ≡ false → after_name (x ∷ a) ≡ x ∷ a
unfolding after_name
name-stop x a name = ap (λ t. if t then after_name a else x ∷ a) name

pub name-none : after_name [] ≡ []
unfolding after_name
name-none = refl

name-beside : (shut : Bool) (a b : List ℕ) → Beside shut Plain a b → Beside shut Plain (after_name a) (after_name b)
name-beside shut [] b beside = rw name-none (λ e. ap after_name (beside e) ∙ name-none)
name-beside shut (x ∷ a) b (inr put) = absurd put.0
name-beside shut (x ∷ a) b (inl same) =
    subst (λ (l : List ℕ). Beside shut Plain (after_name (x ∷ a)) (after_name l)) (sym same.1)
    (go (is_name x) refl (λ name. name-beside shut a same.0 (subst (λ (m : Mode). Beside shut m a same.0) (outside-name x name) same.2)))
  where
    go : (g : Bool) → is_name x ≡ g → (is_name x ≡ true → Beside shut Plain (after_name a) (after_name same.0))
        → Beside shut Plain (after_name (x ∷ a)) (after_name (x ∷ same.0))
    go true name more = rw (name-step x a name, name-step x same.0 name) (more name)
    go false name more = rw (name-stop x a name, name-stop x same.0 name) (inl (same.0, refl, same.2))

-- ---- a string
abbrev pub IsStringMode : Mode → Type 0
IsStringMode Quoted = Unit {0}
IsStringMode Backslash = Unit {0}
IsStringMode Start = ⊥
IsStringMode Plain = ⊥
IsStringMode Escaped = ⊥
IsStringMode Remark = ⊥
IsStringMode Braced = ⊥
IsStringMode Head = ⊥
IsStringMode Mark1 = ⊥
IsStringMode Mark2 = ⊥

abbrev pub IsStringNext : Mode → Type 0
IsStringNext Quoted = Unit {0}
IsStringNext Backslash = Unit {0}
IsStringNext Start = Unit {0}
IsStringNext Plain = Unit {0}
IsStringNext Escaped = ⊥
IsStringNext Remark = ⊥
IsStringNext Braced = ⊥
IsStringNext Head = ⊥
IsStringNext Mark1 = ⊥
IsStringNext Mark2 = ⊥

next-string : (mode : Mode) (x : ℕ) → IsStringMode mode → IsStringNext (next_mode mode x)
next-string Quoted x is = go (x == 34) (x == 92) (x == 10)
  where
    go : (a b c : Bool) → IsStringNext (if a then Plain else if b then Backslash else if c then Start else Quoted)
    go true b c = tt
    go false true c = tt
    go false false true = tt
    go false false false = tt
next-string Backslash x is = go (x == 10)
  where
    go : (a : Bool) → IsStringNext (if a then Start else Quoted)
    go true = tt
    go false = tt
next-string Start x is = absurd is
next-string Plain x is = absurd is
next-string Escaped x is = absurd is
next-string Remark x is = absurd is
next-string Braced x is = absurd is
next-string Head x is = absurd is
next-string Mark1 x is = absurd is
next-string Mark2 x is = absurd is

abbrev pub StringBeside : Bool → Result (List ℕ) Miss → Result (List ℕ) Miss → Type 0
StringBeside shut (Ok a) read = (b : List ℕ) × (read ≡ Ok b) × Beside shut Plain a b
StringBeside shut (Err NoTag) read = read ≡ Err NoTag
StringBeside shut (Err Ends) read = shut ≡ true → read ≡ Err Ends

pub string-none : (mode : Mode) → after_string mode [] ≡ Err Ends
unfolding after_string
string-none mode = refl

pub string-step : (mode : Mode) (x : ℕ) (a : List ℕ) → after_string mode (x ∷ a) ≡ string_at (next_mode mode x) a (after_string (next_mode mode x) a)
unfolding after_string
string-step mode x a = refl

never-start : (mode : Mode) → IsStringMode mode → IsAtStart mode → ⊥
never-start Quoted is start = start
never-start Backslash is start = start
never-start Start is start = is
never-start Plain is start = is
never-start Escaped is start = is
never-start Remark is start = is
never-start Braced is start = is
never-start Head is start = is
never-start Mark1 is start = is
never-start Mark2 is start = is

pub string-beside : (shut : Bool) (mode : Mode) (a b : List ℕ) → IsStringMode mode → Beside shut mode a b → StringBeside shut (after_string mode a) (after_string mode b)
string-beside shut mode [] b is beside = rw (string-none mode) (λ e. ap (after_string mode) (beside e) ∙ string-none mode)
string-beside shut mode (x ∷ a) b is (inr put) = absurd (never-start mode is put.0)
string-beside shut mode (x ∷ a) b is (inl same) =
    subst (λ (l : List ℕ). StringBeside shut (after_string mode (x ∷ a)) (after_string mode l)) (sym same.1)
    (rw (string-step mode x a, string-step mode x same.0)
    (go (next_mode mode x) (next-string mode x is) same.2 (λ further. string-beside shut (next_mode mode x) a same.0 further same.2)))
  where
    go : (m : Mode) → IsStringNext m → Beside shut m a same.0 → (IsStringMode m → StringBeside shut (after_string m a) (after_string m same.0))
        → StringBeside shut (string_at m a (after_string m a)) (string_at m same.0 (after_string m same.0))
    go Plain next beside more = (same.0, refl, beside)
    go Start next beside more = refl
    go Quoted next beside more = more tt
    go Backslash next beside more = more tt
    go Escaped next beside more = absurd next
    go Remark next beside more = absurd next
    go Braced next beside more = absurd next
    go Head next beside more = absurd next
    go Mark1 next beside more = absurd next
    go Mark2 next beside more = absurd next

-- ---- a tag
-- a byte that is looked for behind a gap
pub byte-none : (x : ℕ) → byte_at x [] ≡ Err Ends
unfolding byte_at
byte-none x = refl

pub byte-first : (x y : ℕ) (a : List ℕ) → byte_at x (y ∷ a) ≡ (if y == x then Ok a else Err NoTag)
unfolding byte_at
byte-first x y a = refl

-- by one byte
byte-beside : {A : Type 0} (shut : Bool) (x : ℕ) (f g : List ℕ → Result A Miss) (a b : List ℕ) → (91 == x) ≡ false → GapBeside shut a b
    → ((c d : List ℕ) → Beside shut (outside_mode x) c d → Fails shut (f c) → Fails shut (g d)) → Fails shut (byte_at x a >>= f) → Fails shut (byte_at x b >>= g)
byte-beside shut x f g a b other (inr put) more fails =
    subst (λ l. Fails shut (byte_at x l >>= g)) (sym put.1)
    (subst (λ r. Fails shut (r >>= g)) (sym (byte-first x 91 put.0 ∙ ap (λ (t : Bool). if t then Ok put.0 else Err NoTag) other)) tt)
byte-beside shut x f g [] b other (inl behind) more fails =
    let shuts : shut ≡ true = subst (λ r. Fails shut (r >>= f)) (byte-none x) fails in
    subst (λ l. Fails shut (byte_at x l >>= g)) (sym (behind shuts)) (subst (λ r. Fails shut (r >>= g)) (sym (byte-none x)) shuts)
byte-beside shut x f g (y ∷ a) b other (inl behind) more fails =
    subst (λ l. Fails shut (byte_at x l >>= g)) (sym behind.1)
    (subst (λ r. Fails shut (r >>= g)) (sym (byte-first x y behind.0)) (go (y == x) refl (subst (λ r. Fails shut (r >>= f)) (byte-first x y a) fails)))
  where
    go : (t : Bool) → (y == x) ≡ t → Fails shut ((if t then Ok a else Err NoTag) >>= f) → Fails shut ((if t then Ok behind.0 else Err NoTag) >>= g)
    go true e fails = more a behind.0 (subst (λ (z : ℕ). Beside shut (outside_mode z) a behind.0) (eqb-true y x e) behind.2) fails
    go false e fails = tt

end-beside : (shut : Bool) (name name' quoted quoted' a b : List ℕ) → Beside shut Plain a b → Fails shut (read_end name quoted a) → Fails shut (read_end name' quoted' b)
end-beside shut name name' quoted quoted' a b beside fails =
    byte-beside shut 93 (λ rest. (let r : Result TagParts Miss = Ok (record { name = name; quoted = quoted; rest = rest }) in r))
    (λ rest. (let r : Result TagParts Miss = Ok (record { name = name'; quoted = quoted'; rest = rest }) in r)) (after_gap Plain a) (after_gap Plain b) refl
    (gap-beside shut Plain a b tt beside) (λ c d _ never. absurd never) fails

text-beside : (shut : Bool) (name name' a b : List ℕ) → Beside shut Quoted a b → Fails shut (read_string name a) → Fails shut (read_string name' b)
text-beside shut name name' a b beside fails = go (after_string Quoted a) (after_string Quoted b) (string-beside shut Quoted a b tt beside) fails
  where
    go : (r s : Result (List ℕ) Miss) → StringBeside shut r s → Fails shut (r >>= (λ last. read_end name (front_of a last 1) last))
        → Fails shut (s >>= (λ last. read_end name' (front_of b last 1) last))
    go (Ok last) s is fails =
        subst (λ t. Fails shut (t >>= (λ l. read_end name' (front_of b l 1) l))) (sym is.1)
        (end-beside shut name name' (front_of a last 1) (front_of b is.0 1) last is.0 is.2 fails)
    go (Err NoTag) s is fails = subst (λ t. Fails shut (t >>= (λ l. read_end name' (front_of b l 1) l))) (sym is) tt
    go (Err Ends) s is fails = subst (λ t. Fails shut (t >>= (λ l. read_end name' (front_of b l 1) l))) (sym (is fails)) fails

value-beside : (shut : Bool) (name name' a b : List ℕ) → Beside shut Plain a b → Fails shut (read_value name a) → Fails shut (read_value name' b)
value-beside shut name name' a b beside fails =
    byte-beside shut 34 (read_string name) (read_string name') (after_gap Plain a) (after_gap Plain b) refl (gap-beside shut Plain a b tt beside)
    (λ c d is more. text-beside shut name name' c d is more) fails

pub at-none : name_at [] ≡ Err Ends
unfolding name_at
at-none = refl

pub at-first : (y : ℕ) (a : List ℕ) → name_at (y ∷ a) ≡ (if is_name y then Ok (after_name a) else Err NoTag)
unfolding name_at
at-first y a = refl

pub read-none : read_name [] ≡ Err Ends
read-none = ap (λ (r : Result (List ℕ) Miss). r >>= (λ after. read_value (front_of [] after 0) after)) at-none

pub read-first : (y : ℕ) (a : List ℕ) → read_name (y ∷ a) ≡ ((if is_name y then Ok (after_name a) else Err NoTag) >>= (λ after. read_value (front_of (y ∷ a) after 0) after))
read-first y a = ap (λ (r : Result (List ℕ) Miss). r >>= (λ after. read_value (front_of (y ∷ a) after 0) after)) (at-first y a)

read-beside : (shut : Bool) (a b : List ℕ) → GapBeside shut a b → Fails shut (read_name a) → Fails shut (read_name b)
read-beside shut a b (inr put) fails = subst (λ l. Fails shut (read_name l)) (sym put.1) (subst (Fails shut) (sym (read-first 91 put.0)) tt)
read-beside shut [] b (inl behind) fails =
    let shuts : shut ≡ true = subst (Fails shut) read-none fails in
    subst (λ l. Fails shut (read_name l)) (sym (behind shuts)) (subst (Fails shut) (sym read-none) shuts)
read-beside shut (y ∷ a) b (inl behind) fails =
    subst (λ l. Fails shut (read_name l)) (sym behind.1)
    (subst (Fails shut) (sym (read-first y behind.0)) (go (is_name y) refl (subst (Fails shut) (read-first y a) fails)))
  where
    go : (t : Bool) → is_name y ≡ t → Fails shut ((if t then Ok (after_name a) else Err NoTag) >>= (λ after. read_value (front_of (y ∷ a) after 0) after))
        → Fails shut ((if t then Ok (after_name behind.0) else Err NoTag) >>= (λ after. read_value (front_of (y ∷ behind.0) after 0) after))
    go true name fails =
        value-beside shut (front_of (y ∷ a) (after_name a) 0) (front_of (y ∷ behind.0) (after_name behind.0) 0) (after_name a) (after_name behind.0)
        (name-beside shut a behind.0 (subst (λ (m : Mode). Beside shut m a behind.0) (outside-name y name) behind.2)) fails
    go false name fails = tt

-- The same byte comes first: where no tag begins at it, none does in the other.
pub tag-beside : (shut : Bool) (x : ℕ) (a b : List ℕ) → Beside shut Plain a b → Fails shut (tag_at (x ∷ a)) → Fails shut (tag_at (x ∷ b))
tag-beside shut x a b beside fails =
    subst (Fails shut) (sym (tag-steps (x ∷ b)))
    (subst (λ r. Fails shut (r >>= (λ bracket. read_name (after_gap Plain bracket)))) (sym (byte-first 91 x b))
    (go (x == 91) (subst (λ r. Fails shut (r >>= (λ bracket. read_name (after_gap Plain bracket)))) (byte-first 91 x a) (subst (Fails shut) (tag-steps (x ∷ a)) fails))))
  where
    go : (t : Bool) → Fails shut ((if t then Ok a else Err NoTag) >>= (λ bracket. read_name (after_gap Plain bracket)))
        → Fails shut ((if t then Ok b else Err NoTag) >>= (λ bracket. read_name (after_gap Plain bracket)))
    go true fails = read-beside shut (after_gap Plain a) (after_gap Plain b) (gap-beside shut Plain a b tt beside) fails
    go false fails = tt
