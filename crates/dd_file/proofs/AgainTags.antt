-- A tag is read from its own bytes, whatever follows.
use Rattle.std.proofs.Common.{◌≡◌, ◌∙◌, ℕ, ◌==◌, ◌-◌, ◌≤◌, Bool, true, false, List, [], ◌∷◌, ◌++◌, length, take, refl, sym, ap, subst, arith, append_assoc, length-append, Result, Ok, Err}
use Rattle.std.proofs.lemmas.List.{take-append-le}
use Rattle.std.specs.Prelude.{if◌then◌else◌}
use Rattle.dd_file.specs.declared.mode.Mode.{Mode}
use Rattle.dd_file.specs.declared.mode.Mode.TheVariants.{Head, Mark1, Mark2, Start, Plain, Escaped, Remark, Braced, Quoted, Backslash}
use Rattle.dd_file.specs.declared.tag_reader.Miss.{Miss}
use Rattle.dd_file.specs.declared.tag_reader.Miss.TheVariants.{NoTag}
use Rattle.dd_file.specs.Modes.{next_mode}
use Rattle.dd_file.specs.Tags.{TagParts, ◌>>=◌, after_gap, after_name, after_string, byte_at, front_of, is_gap, is_name, string_at, tag_at}
use Rattle.dd_file.proofs.AgainMiss.{byte-first, byte-none, gap-none, gap-step, gap-stop, name-none, name-step, name-stop, read-first, read-none, read_end, read_name, read_string, read_value, string-none, string-step, tag-steps}

-- the text before the rest doesn't depend on the rest
pub front-is : (s q : List ℕ) (k : ℕ) → front_of (s ++ q) q k ≡ take (length s - k) s
front-is s q k =
    let same : (length (s ++ q) - length q) - k ≡ length s - k = omega (arith, length-append {A = ℕ}) in
    let within : length s - k ≤ length s = omega arith in
    ap (λ (n : ℕ). take n (s ++ q)) same ∙ take-append-le (length s - k) s q within

-- ---- a gap
abbrev pub GapCut : Mode → List ℕ → List ℕ → Type 0
GapCut mode text [] = Unit {0}
GapCut mode text (x ∷ rest) = (gap : List ℕ) × (text ≡ gap ++ x ∷ rest) × ((r : List ℕ) → after_gap mode (gap ++ x ∷ r) ≡ x ∷ r)

pub gap-cut : (mode : Mode) (text : List ℕ) → GapCut mode text (after_gap mode text)
gap-cut mode [] = rw (gap-none mode) tt
gap-cut mode (b ∷ text) = go (is_gap mode b) refl (gap-cut (next_mode mode b) text)
  where
    more : is_gap mode b ≡ true → (rest : List ℕ) → GapCut (next_mode mode b) text rest → GapCut mode (b ∷ text) rest
    more gap [] cut = tt
    more gap (x ∷ rest) cut = (b ∷ cut.0, ap (λ l. b ∷ l) cut.1, λ r. gap-step mode b (cut.0 ++ x ∷ r) gap ∙ cut.2 r)

    go : (g : Bool) → is_gap mode b ≡ g → GapCut (next_mode mode b) text (after_gap (next_mode mode b) text) → GapCut mode (b ∷ text) (after_gap mode (b ∷ text))
    go true gap cut = rw (gap-step mode b text gap) (more gap (after_gap (next_mode mode b) text) cut)
    go false gap cut = rw (gap-stop mode b text gap) ([], refl, λ r. gap-stop mode b r gap)

-- ---- a name
abbrev pub NameCut : List ℕ → List ℕ → Type 0
NameCut text [] = Unit {0}
NameCut text (x ∷ rest) = (name : List ℕ) × (text ≡ name ++ x ∷ rest) × ((r : List ℕ) → after_name (name ++ x ∷ r) ≡ x ∷ r)

name-cut : (text : List ℕ) → NameCut text (after_name text)
name-cut [] = rw name-none tt
name-cut (b ∷ text) = go (is_name b) refl (name-cut text)
  where
    more : is_name b ≡ true → (rest : List ℕ) → NameCut text rest → NameCut (b ∷ text) rest
    more name [] cut = tt
    more name (x ∷ rest) cut = (b ∷ cut.0, ap (λ l. b ∷ l) cut.1, λ r. name-step b (cut.0 ++ x ∷ r) name ∙ cut.2 r)

    go : (g : Bool) → is_name b ≡ g → NameCut text (after_name text) → NameCut (b ∷ text) (after_name (b ∷ text))
    go true name cut = rw (name-step b text name) (more name (after_name text) cut)
    go false name cut = rw (name-stop b text name) ([], refl, λ r. name-stop b r name)

-- ---- a string
abbrev pub StringCut : Mode → List ℕ → Result (List ℕ) Miss → Type 0
StringCut mode text (Err e) = Unit {0}
StringCut mode text (Ok rest) = (string : List ℕ) × (text ≡ string ++ rest) × ((r : List ℕ) → after_string mode (string ++ r) ≡ Ok r)

string-cut : (mode : Mode) (text : List ℕ) → StringCut mode text (after_string mode text)
string-cut mode [] = rw (string-none mode) tt
string-cut mode (b ∷ text) = rw (string-step mode b text) (go (next_mode mode b) refl (string-cut (next_mode mode b) text))
  where
    more : (m : Mode) → next_mode mode b ≡ m → ((t : List ℕ) (s : Result (List ℕ) Miss) → string_at m t s ≡ s) → (read : Result (List ℕ) Miss) → StringCut m text read → StringCut mode (b ∷ text) read
    more m e goes (Err x) cut = tt
    more m e goes (Ok rest) cut = (
      b ∷ cut.0,
      ap (λ l. b ∷ l) cut.1,
      λ r. string-step mode b (cut.0 ++ r) ∙ ap (λ (k : Mode). string_at k (cut.0 ++ r) (after_string k (cut.0 ++ r))) e ∙ goes (cut.0 ++ r) (after_string m (cut.0 ++ r)) ∙ cut.2 r,
    )

    go : (m : Mode) → next_mode mode b ≡ m → StringCut m text (after_string m text) → StringCut mode (b ∷ text) (string_at m text (after_string m text))
    go Plain e cut = (b ∷ [], refl, λ r. string-step mode b r ∙ ap (λ (k : Mode). string_at k r (after_string k r)) e)
    go Start e cut = tt
    go Head e cut = more Head e (λ t s. refl) (after_string Head text) cut
    go Mark1 e cut = more Mark1 e (λ t s. refl) (after_string Mark1 text) cut
    go Mark2 e cut = more Mark2 e (λ t s. refl) (after_string Mark2 text) cut
    go Escaped e cut = more Escaped e (λ t s. refl) (after_string Escaped text) cut
    go Remark e cut = more Remark e (λ t s. refl) (after_string Remark text) cut
    go Braced e cut = more Braced e (λ t s. refl) (after_string Braced text) cut
    go Quoted e cut = more Quoted e (λ t s. refl) (after_string Quoted text) cut
    go Backslash e cut = more Backslash e (λ t s. refl) (after_string Backslash text) cut

-- ---- a tag
abbrev pub as_tag : List ℕ → List ℕ → List ℕ → Result TagParts Miss
as_tag name quoted rest = Ok (record { name = name; quoted = quoted; rest = rest })

-- the tag's bytes, the first of which is there, and that reading finds the same tag in them whatever follows
abbrev pub PartsCut : (List ℕ → Result TagParts Miss) → List ℕ → Result TagParts Miss → Type 0
PartsCut read text (Err e) = Unit {0}
PartsCut read text (Ok parts) =
    (first : ℕ) × (front : List ℕ) × (text ≡ first ∷ (front ++ parts.rest)) × ((r : List ℕ) → read (first ∷ (front ++ r)) ≡ as_tag parts.name parts.quoted r)

first-of : (p : List ℕ) (f : ℕ) → (first : ℕ) × (front : List ℕ) × ((r : List ℕ) → p ++ f ∷ r ≡ first ∷ (front ++ r))
first-of [] f = (f, [], λ r. refl)
first-of (y ∷ p) f = (y, p ++ f ∷ [], λ r. ap (λ l. y ∷ l) (sym (append_assoc p (f ∷ []) r)))

-- bytes that stand before such a text
put-before : (read inner : List ℕ → Result TagParts Miss) (p text rest : List ℕ) (res : Result TagParts Miss) → text ≡ p ++ rest
    → ((f : ℕ) (t r : List ℕ) → rest ≡ f ∷ t → read (p ++ f ∷ r) ≡ inner (f ∷ r)) → PartsCut inner rest res → PartsCut read text res
put-before read inner p text rest (Err e) is goes cut = tt
put-before read inner p text rest (Ok parts) is goes cut =
    let f = cut.0 in
    let fr = cut.1 in
    let split = first-of p f in
    let joined : (r : List ℕ) → split.0 ∷ ((split.1 ++ fr) ++ r) ≡ p ++ f ∷ (fr ++ r) = λ r. ap (λ l. split.0 ∷ l) (append_assoc split.1 fr r) ∙ sym (split.2 (fr ++ r)) in
    (split.0, split.1 ++ fr, is ∙ ap (λ l. p ++ l) cut.2 ∙ sym (joined parts.rest), λ r. ap read (joined r) ∙ goes f (fr ++ parts.rest) (fr ++ r) cut.2 ∙ cut.3 r)

head_of : List ℕ → ℕ
head_of [] = 0
head_of (x ∷ l) = x

pub same-head : (x y : ℕ) (a b : List ℕ) → x ∷ a ≡ y ∷ b → x ≡ y
unfolding head_of
same-head x y a b e = ap head_of e

-- the byte that is looked for
pub byte-found : (x y : ℕ) (r : List ℕ) → (y == x) ≡ true → byte_at x (y ∷ r) ≡ Ok r
byte-found x y r e = byte-first x y r ∙ ap (λ (t : Bool). if t then Ok r else Err NoTag) e

end-cut : (name quoted last : List ℕ) → PartsCut (read_end name quoted) last (read_end name quoted last)
end-cut name quoted last = go (after_gap Plain last) (gap-cut Plain last)
  where
    found : (gap : List ℕ) (c : ℕ) (rest : List ℕ) → last ≡ gap ++ c ∷ rest → ((r : List ℕ) → after_gap Plain (gap ++ c ∷ r) ≡ c ∷ r) → (t : Bool) → (c == 93) ≡ t
        → PartsCut (read_end name quoted) last ((if t then Ok rest else Err NoTag) >>= (λ r. as_tag name quoted r))
    found gap c rest is all true e =
        let split = first-of gap c in (
          split.0,
          split.1,
          is ∙ split.2 rest,
          λ r. ap (read_end name quoted) (sym (split.2 r)) ∙ ap (λ l. byte_at 93 l >>= (λ k. as_tag name quoted k)) (all r) ∙ ap (λ (t : Result (List ℕ) Miss). t >>= (λ k. as_tag name quoted k)) (byte-found 93 c r e),
        )
    found gap c rest is all false e = tt

    go : (u : List ℕ) → GapCut Plain last u → PartsCut (read_end name quoted) last (byte_at 93 u >>= (λ r. as_tag name quoted r))
    go [] cut = rw (byte-none 93) tt
    go (c ∷ rest) cut = rw (byte-first 93 c rest) (found cut.0 c rest cut.1 cut.2 (c == 93) refl)

text-cut : (name text : List ℕ) → PartsCut (read_string name) text (read_string name text)
text-cut name text = go (after_string Quoted text) (string-cut Quoted text)
  where
    go : (s : Result (List ℕ) Miss) → StringCut Quoted text s → PartsCut (read_string name) text (s >>= (λ last. read_end name (front_of text last 1) last))
    go (Err e) cut = tt
    go (Ok last) cut =
        let quoted = front_of text last 1 in
        let same : (r : List ℕ) → front_of (cut.0 ++ r) r 1 ≡ quoted = λ r. front-is cut.0 r 1 ∙ sym (ap (λ l. front_of l last 1) cut.1 ∙ front-is cut.0 last 1) in
        put-before (read_string name) (read_end name quoted) cut.0 text last (read_end name quoted last) cut.1
        (λ f t r e. ap (λ (s : Result (List ℕ) Miss). s >>= (λ l. read_end name (front_of (cut.0 ++ f ∷ r) l 1) l)) (cut.2 (f ∷ r)) ∙ ap (λ q. read_end name q (f ∷ r)) (same (f ∷ r)))
        (end-cut name quoted last)

value-cut : (name text : List ℕ) → PartsCut (read_value name) text (read_value name text)
value-cut name text = go (after_gap Plain text) (gap-cut Plain text)
  where
    found : (gap : List ℕ) (c : ℕ) (rest : List ℕ) → text ≡ gap ++ c ∷ rest → ((r : List ℕ) → after_gap Plain (gap ++ c ∷ r) ≡ c ∷ r) → (t : Bool) → (c == 34) ≡ t
        → PartsCut (read_value name) text ((if t then Ok rest else Err NoTag) >>= (λ r. read_string name r))
    found gap c rest is all true e =
        put-before (read_value name) (read_string name) (gap ++ c ∷ []) text rest (read_string name rest) (is ∙ sym (append_assoc gap (c ∷ []) rest))
        (λ f t r _. ap (read_value name) (append_assoc gap (c ∷ []) (f ∷ r)) ∙ ap (λ l. byte_at 34 l >>= (λ k. read_string name k)) (all (f ∷ r))
        ∙ ap (λ (t : Result (List ℕ) Miss). t >>= (λ k. read_string name k)) (byte-found 34 c (f ∷ r) e))
        (text-cut name rest)
    found gap c rest is all false e = tt

    go : (u : List ℕ) → GapCut Plain text u → PartsCut (read_value name) text (byte_at 34 u >>= (λ r. read_string name r))
    go [] cut = rw (byte-none 34) tt
    go (c ∷ rest) cut = rw (byte-first 34 c rest) (found cut.0 c rest cut.1 cut.2 (c == 34) refl)

read-cut : (text : List ℕ) → PartsCut read_name text (read_name text)
read-cut [] = rw read-none tt
read-cut (y ∷ text) = rw (read-first y text) (go (is_name y) refl)
  where
    found : is_name y ≡ true → (after : List ℕ) → NameCut text after → PartsCut read_name (y ∷ text) (read_value (front_of (y ∷ text) after 0) after)
    found name [] cut = rw (gap-none Plain, byte-none 34) tt
    found name (x ∷ after) cut =
        let p = y ∷ cut.0 in
        let called = front_of (y ∷ text) (x ∷ after) 0 in
        let whole : y ∷ text ≡ p ++ (x ∷ after) = ap (λ l. y ∷ l) cut.1 in
        let same : (q : List ℕ) → front_of (p ++ q) q 0 ≡ called = λ q. front-is p q 0 ∙ sym (ap (λ l. front_of l (x ∷ after) 0) whole ∙ front-is p (x ∷ after) 0) in
        put-before read_name (read_value called) p (y ∷ text) (x ∷ after) (read_value called (x ∷ after)) whole
        (λ f t r e. read-first y (cut.0 ++ f ∷ r)
        ∙ ap (λ (g : Bool). (if g then Ok (after_name (cut.0 ++ f ∷ r)) else Err NoTag) >>= (λ k. read_value (front_of (p ++ f ∷ r) k 0) k)) name
        ∙ ap (λ k. read_value (front_of (p ++ f ∷ r) k 0) k) (subst (λ (z : ℕ). after_name (cut.0 ++ z ∷ r) ≡ z ∷ r) (same-head x f after t e) (cut.2 r))
        ∙ ap (λ n. read_value n (f ∷ r)) (same (f ∷ r)))
        (value-cut called (x ∷ after))

    go : (g : Bool) → is_name y ≡ g → PartsCut read_name (y ∷ text) ((if g then Ok (after_name text) else Err NoTag) >>= (λ after. read_value (front_of (y ∷ text) after 0) after))
    go true name = found name (after_name text) (name-cut text)
    go false name = tt

pub tag-cut : (text : List ℕ) → PartsCut tag_at text (tag_at text)
tag-cut [] = rw (tag-steps [], byte-none 91) tt
tag-cut (b ∷ text) = rw (tag-steps (b ∷ text), byte-first 91 b text) (go (b == 91) refl)
  where
    found : (b == 91) ≡ true → (u : List ℕ) → GapCut Plain text u → PartsCut tag_at (b ∷ text) (read_name u)
    found e [] cut = rw read-none tt
    found e (z ∷ u) cut =
        put-before tag_at read_name (b ∷ cut.0) (b ∷ text) (z ∷ u) (read_name (z ∷ u)) (ap (λ l. b ∷ l) cut.1)
        (λ f t r s. tag-steps (b ∷ (cut.0 ++ f ∷ r)) ∙ ap (λ (k : Result (List ℕ) Miss). k >>= (λ bracket. read_name (after_gap Plain bracket))) (byte-found 91 b (cut.0 ++ f ∷ r) e)
        ∙ ap read_name (subst (λ (x : ℕ). after_gap Plain (cut.0 ++ x ∷ r) ≡ x ∷ r) (same-head z f u t s) (cut.2 r)))
        (read-cut (z ∷ u))

    go : (g : Bool) → (b == 91) ≡ g → PartsCut tag_at (b ∷ text) ((if g then Ok text else Err NoTag) >>= (λ bracket. read_name (after_gap Plain bracket)))
    go true e = found e (after_gap Plain text) (gap-cut Plain text)
    go false e = tt
