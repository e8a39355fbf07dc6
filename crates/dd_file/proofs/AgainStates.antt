-- The game at hand where lines are put in, and what holds of it at each byte of a file.
use Rattle.std.proofs.Common.{◌≡◌, ◌∙◌, ℕ, zero, suc, ◌<◌, ◌==◌, Bool, true, false, List, ◌∷◌, length, take, refl, sym, ap, subst, arith, ◌⊎◌, inl, inr, true≢false, eqb-true, get_or-set_same, get_or-set_other, length-set, Option, None, Some, is_some, Result, Ok, Err}
use Rattle.std.proofs.lemmas.Bool.Decides.{nat_tests}
use Rattle.std.specs.Prelude.{◌&&◌, if◌then◌else◌, nat_lt, slice_index_or, slice_set, option_and_then}
use mathlib.Core.Bool.{not}
use Rattle.dd_cards.specs.Hands.{FourHands}
use Rattle.dd_file.specs.declared.fill_state.Conditions.{Conditions}
use Rattle.dd_file.specs.declared.fill_state.FillState.{FillState}
use Rattle.dd_file.specs.declared.mode.Mode.{Mode}
use Rattle.dd_file.specs.declared.mode.Mode.TheVariants.{Head, Mark1, Mark2, Start, Plain, Escaped, Remark, Braced, Quoted, Backslash}
use Rattle.dd_file.specs.declared.value.Unfit.{Unfit}
use Rattle.dd_file.specs.declared.wanted.Wanted.{Wanted}
use Rattle.dd_file.specs.Filled.{ask_of, ask_with, needs, state_here}
use Rattle.dd_file.specs.Games.{conditions_of, ends, has_name, is_required, lacks, next_state, told, with_mark, with_tag, with_value_of}
use Rattle.dd_file.specs.Kepts.{value_of, with_value}
use Rattle.dd_file.specs.KnownTags.{known_number}
use Rattle.dd_file.specs.Marked.{begins_within}
use Rattle.dd_file.specs.Marks.{Begins, nothing, empty_line, tag, cut, line_mark, mark_read}
use Rattle.dd_file.specs.Modes.{next_mode, outside_mode}
use Rattle.dd_file.specs.Values.{deal_value, dealer_value, text_told, thirteen_in, told_in, unescaped, vulnerable_value}
use Rattle.dd_file.proofs.AgainLines.{names_with, set_where}
use Rattle.dd_file.proofs.AgainMarks.{blank-stop, is_all, line-begins, line-read, no-tag, plain-begins}
use Rattle.dd_file.proofs.AgainMiss.{IsAtStart}
use Rattle.dd_file.proofs.AgainOver.{at_spot, spot}
use Rattle.dd_file.proofs.AgainTagLines.{IsOpen}

-- ---- names
pub set-other : (b : Bool) (n i : ℕ) (names : List Bool) → (i ≡ n → ⊥) → slice_index_or (set_where b n names) i false ≡ slice_index_or names i false
set-other true n i names other = get_or-set_other names n i true false other
set-other false n i names other = refl

pub set-size : (b : Bool) (n : ℕ) (names : List Bool) → length (set_where b n names) ≡ length names
set-size true n names = length-set names n true
set-size false n names = refl

-- a name that was lacking is there
pub set-there : (want there : Bool) (n : ℕ) (names : List Bool) → slice_index_or names n false ≡ there → n < length names
    → (want && not (slice_index_or (set_where (want && not there) n names) n false)) ≡ false
set-there false there n names e room = refl
set-there true true n names e room = ap not e
set-there true false n names e room = ap not (get_or-set_same names n true false room)

needs-none : (tricks score contract table has : Bool) → tricks ≡ false → table ≡ false → (has ≡ true → score ≡ false) → (has ≡ true → contract ≡ false)
    → needs (record { tricks = tricks; score = score; contract = contract; table = table }) has ≡ false
needs-none true score contract table has a b c d = absurd (true≢false a)
needs-none false score contract true has a b c d = absurd (true≢false b)
needs-none false score contract false false a b c d = refl
needs-none false true contract false true a b c d = absurd (true≢false (c refl))
needs-none false false true false true a b c d = absurd (true≢false (d refl))
needs-none false false false false true a b c d = refl

-- with its lines a game needs none
pub needs-filled : (wanted : Wanted) (state : FillState) (has : Bool) (last : ℕ) (had : Bool) (mode : Mode) → length state.names ≡ 19
    → needs (lacks wanted (at_spot state (spot (names_with (lacks wanted state) has state.names) last had 0 mode))) has ≡ false
needs-filled wanted state has last had mode size =
    let k = lacks wanted state in
    let n15 = set_where k.tricks 15 state.names in
    let n16 = set_where (has && k.score) 16 n15 in
    let n17 = set_where (has && k.contract) 17 n16 in
    let s15 : length n15 ≡ 19 = set-size k.tricks 15 state.names ∙ size in
    let s16 : length n16 ≡ 19 = set-size (has && k.score) 16 n15 ∙ s15 in
    let s17 : length n17 ≡ 19 = set-size (has && k.contract) 17 n16 ∙ s16 in
    let there : ℕ → List Bool → Bool = λ i names. slice_index_or names i false in
    let at15 : there 15 (set_where k.table 18 n17) ≡ there 15 n15 =
    set-other k.table 18 15 n17 (λ e. omega arith) ∙ set-other (has && k.contract) 17 15 n16 (λ e. omega arith) ∙ set-other (has && k.score) 16 15 n15 (λ e. omega arith) in
    let at16 : there 16 (set_where k.table 18 n17) ≡ there 16 n16 = set-other k.table 18 16 n17 (λ e. omega arith) ∙ set-other (has && k.contract) 17 16 n16 (λ e. omega arith) in
    let at17 : there 17 (set_where k.table 18 n17) ≡ there 17 n17 = set-other k.table 18 17 n17 (λ e. omega arith) in
    let old16 : there 16 n15 ≡ there 16 state.names = set-other k.tricks 15 16 state.names (λ e. omega arith) in
    let old17 : there 17 n16 ≡ there 17 state.names = set-other (has && k.score) 16 17 n15 (λ e. omega arith) ∙ set-other k.tricks 15 17 state.names (λ e. omega arith) in
    let old18 : there 18 n17 ≡ there 18 state.names =
    set-other (has && k.contract) 17 18 n16 (λ e. omega arith) ∙ set-other (has && k.score) 16 18 n15 (λ e. omega arith) ∙ set-other k.tricks 15 18 state.names (λ e. omega arith) in
    needs-none _ _ _ _ has
    (ap (λ b. wanted.tricks && not b) at15 ∙ set-there wanted.tricks (there 15 state.names) 15 state.names refl (omega arith))
    (set-there wanted.table (there 18 state.names) 18 n17 old18 (omega arith))
    (λ e. ap (λ b. wanted.score && not b) at16 ∙ ap (λ h. wanted.score && not (there 16 (set_where (h && k.score) 16 n15))) e ∙ set-there wanted.score (there 16 state.names) 16 n15 old16 (omega arith))
    (λ e. ap (λ b. wanted.contract && not b) at17 ∙ ap (λ h. wanted.contract && not (there 17 (set_where (h && k.contract) 17 n16))) e ∙ set-there wanted.contract (there 17 state.names) 17 n16 old17 (omega arith))

ask-none : (deal : Result FourHands Unfit) (conditions : Option Conditions) (lacking : Wanted) → needs lacking (is_some conditions) ≡ false → ask_with deal conditions lacking ≡ None
ask-none (Err unfit) conditions lacking none = refl
ask-none (Ok deal) conditions lacking none = ap (λ (t : Bool). if t then Some (record { deal = deal; conditions = conditions }) else None) none

-- and asks nothing
pub ask-filled : (wanted : Wanted) (state : FillState) (has : Bool) (last : ℕ) (had : Bool) (mode : Mode) → length state.names ≡ 19 → has ≡ is_some (conditions_of state)
    → ask_of wanted (at_spot state (spot (names_with (lacks wanted state) has state.names) last had 0 mode)) ≡ None
ask-filled wanted state has last had mode size is =
    let t = at_spot state (spot (names_with (lacks wanted state) has state.names) last had 0 mode) in
    ask-none (thirteen_in (value_of state.deal)) (conditions_of state) (lacks wanted t)
    (ap (λ h. needs (lacks wanted t) h) (sym is) ∙ needs-filled wanted state has last had mode size)

-- the names by which games end are as they were
pub name-kept : (lacking : Wanted) (has : Bool) (names : List Bool) (name : List ℕ) → has_name (is_required name) (names_with lacking has names) ≡ has_name (is_required name) names
name-kept lacking has names name = go (known_number name)
  where
    kept : (number : ℕ) → number < 15 → slice_index_or (names_with lacking has names) number false ≡ slice_index_or names number false
    kept number small =
        set-other lacking.table 18 number _ (λ e. omega arith) ∙ set-other (has && lacking.contract) 17 number _ (λ e. omega arith) ∙ set-other (has && lacking.score) 16 number _ (λ e. omega arith)
        ∙ set-other lacking.tricks 15 number names (λ e. omega arith)

    below : (number : ℕ) → nat_lt number 15 ≡ true → number < 15
    below number e = grind (arith, nat_tests)

    of : (number : ℕ) (t : Bool) → nat_lt number 15 ≡ t → has_name (if t then Some number else None) (names_with lacking has names) ≡ has_name (if t then Some number else None) names
    of number true e = kept number (below number e)
    of number false e = refl

    go : (known : Option ℕ) → has_name (option_and_then (λ number. if nat_lt number 15 then Some number else None) known) (names_with lacking has names)
        ≡ has_name (option_and_then (λ number. if nat_lt number 15 then Some number else None) known) names
    go None = refl
    go (Some number) = of number (nat_lt number 15) refl

-- ---- at each byte
abbrev pub IsFresh : Mode → Type 0
IsFresh Head = Unit {0}
IsFresh Mark1 = Unit {0}
IsFresh Mark2 = Unit {0}
IsFresh Start = ⊥
IsFresh Plain = ⊥
IsFresh Escaped = ⊥
IsFresh Remark = ⊥
IsFresh Braced = ⊥
IsFresh Quoted = ⊥
IsFresh Backslash = ⊥

pub record Sound (mode : Mode) (state : FillState) : Type 0 where
  pub size : length state.names ≡ 19
  pub line : IsAtStart mode → state.begun ≡ true → state.last ≡ 10
  pub free : IsOpen mode → (state.last == 10) ≡ false
  pub fresh : IsFresh mode → state.begun ≡ false

pick-size : (n : ℕ) (a b c : Bool) (p q r t : FillState) → length p.names ≡ n → length q.names ≡ n → length r.names ≡ n → length t.names ≡ n
    → length (if a then p else if b then q else if c then r else t).names ≡ n
pick-size n true b c p q r t x y z w = x
pick-size n false true c p q r t x y z w = y
pick-size n false false true p q r t x y z w = z
pick-size n false false false p q r t x y z w = w

value-size : (number : ℕ) (text : List ℕ) (state : FillState) → length (with_value_of number text state).names ≡ length state.names
value-size number text state =
    pick-size (length state.names) (number == 10) (number == 8) (number == 9)
    (record state { deal = with_value (told_in text) (deal_value (text_told (told_in text) text)) state.deal })
    (record state { dealer = with_value (told_in text) (dealer_value (text_told (told_in text) text)) state.dealer })
    (record state { vulnerable = with_value (told_in text) (vulnerable_value (text_told (told_in text) text)) state.vulnerable }) state refl refl refl refl

told-size : (known : Option ℕ) (text : List ℕ) (state : FillState) → length (told known text state).names ≡ length state.names
told-size None text state = refl
told-size (Some number) text state =
    value-size number text (record state { begun = true; names = slice_set state.names number true }) ∙ length-set state.names number true

mark-size : (mark : Begins) (state : FillState) → length (with_mark mark state).names ≡ length state.names
unfolding with_tag
mark-size nothing state = refl
mark-size empty_line state = refl
mark-size (tag is_first size name quoted) state = told-size (known_number name) (unescaped false quoted) state
mark-size (cut size) state = refl

here-size : (here : Bool) (state : FillState) → length state.names ≡ 19 → length (state_here here state).names ≡ 19
here-size true state size = refl
here-size false state size = size

outside-start : (x : ℕ) → IsAtStart (outside_mode x) → x ≡ 10
outside-start x start = go (x == 10) (x == 59) (x == 123) (x == 34) refl start
  where
    go : (a b c d : Bool) → (x == 10) ≡ a → IsAtStart (if a then Start else if b then Remark else if c then Braced else if d then Quoted else Plain) → x ≡ 10
    go true b c d e is = eqb-true x 10 e
    go false true c d e is = absurd is
    go false false true d e is = absurd is
    go false false false true e is = absurd is
    go false false false false e is = absurd is

feed-start : (x : ℕ) (m : Mode) → (IsAtStart m → ⊥) → IsAtStart (if x == 10 then Start else m) → x ≡ 10
feed-start x m never start = go (x == 10) refl start
  where
    go : (a : Bool) → (x == 10) ≡ a → IsAtStart (if a then Start else m) → x ≡ 10
    go true e is = eqb-true x 10 e
    go false e is = absurd (never is)

next-start : (mode : Mode) (x : ℕ) → IsAtStart (next_mode mode x) → (x ≡ 10) ⊎ ((mode ≡ Mark2) × (x ≡ 191))
next-start Head x start = go (x == 239) (x == 37) start
  where
    go : (a b : Bool) → IsAtStart (if a then Mark1 else if b then Escaped else outside_mode x) → (x ≡ 10) ⊎ ((Head ≡ Mark2) × (x ≡ 191))
    go true b is = absurd is
    go false true is = absurd is
    go false false is = inl (outside-start x is)
next-start Mark1 x start = go (x == 187) start
  where
    go : (a : Bool) → IsAtStart (if a then Mark2 else outside_mode x) → (x ≡ 10) ⊎ ((Mark1 ≡ Mark2) × (x ≡ 191))
    go true is = absurd is
    go false is = inl (outside-start x is)
next-start Mark2 x start = go (x == 191) refl start
  where
    go : (a : Bool) → (x == 191) ≡ a → IsAtStart (if a then Start else outside_mode x) → (x ≡ 10) ⊎ ((Mark2 ≡ Mark2) × (x ≡ 191))
    go true e is = inr (refl, eqb-true x 191 e)
    go false e is = inl (outside-start x is)
next-start Start x start = go (x == 37) start
  where
    go : (a : Bool) → IsAtStart (if a then Escaped else outside_mode x) → (x ≡ 10) ⊎ ((Start ≡ Mark2) × (x ≡ 191))
    go true is = absurd is
    go false is = inl (outside-start x is)
next-start Plain x start = inl (outside-start x start)
next-start Escaped x start = inl (feed-start x Escaped (λ n. n) start)
next-start Remark x start = inl (feed-start x Remark (λ n. n) start)
next-start Braced x start = go (x == 125) start
  where
    go : (a : Bool) → IsAtStart (if a then Plain else Braced) → (x ≡ 10) ⊎ ((Braced ≡ Mark2) × (x ≡ 191))
    go true is = absurd is
    go false is = absurd is
next-start Quoted x start = go (x == 34) (x == 92) start
  where
    go : (a b : Bool) → IsAtStart (if a then Plain else if b then Backslash else if x == 10 then Start else Quoted) → (x ≡ 10) ⊎ ((Quoted ≡ Mark2) × (x ≡ 191))
    go true b is = absurd is
    go false true is = absurd is
    go false false is = inl (feed-start x Quoted (λ n. n) is)
next-start Backslash x start = inl (feed-start x Quoted (λ n. n) start)

outside-fresh : (x : ℕ) → IsFresh (outside_mode x) → ⊥
outside-fresh x fresh = go (x == 10) (x == 59) (x == 123) (x == 34) fresh
  where
    go : (a b c d : Bool) → IsFresh (if a then Start else if b then Remark else if c then Braced else if d then Quoted else Plain) → ⊥
    go true b c d is = is
    go false true c d is = is
    go false false true d is = is
    go false false false true is = is
    go false false false false is = is

feed-fresh : (a : Bool) (m : Mode) → (IsFresh m → ⊥) → IsFresh (if a then Start else m) → ⊥
feed-fresh true m never is = is
feed-fresh false m never is = never is

next-fresh : (mode : Mode) (x : ℕ) → IsFresh (next_mode mode x) → ((mode ≡ Head) × (x ≡ 239)) ⊎ ((mode ≡ Mark1) × (x ≡ 187))
next-fresh Head x fresh = go (x == 239) (x == 37) refl fresh
  where
    go : (a b : Bool) → (x == 239) ≡ a → IsFresh (if a then Mark1 else if b then Escaped else outside_mode x) → ((Head ≡ Head) × (x ≡ 239)) ⊎ ((Head ≡ Mark1) × (x ≡ 187))
    go true b e is = inl (refl, eqb-true x 239 e)
    go false true e is = absurd is
    go false false e is = absurd (outside-fresh x is)
next-fresh Mark1 x fresh = go (x == 187) refl fresh
  where
    go : (a : Bool) → (x == 187) ≡ a → IsFresh (if a then Mark2 else outside_mode x) → ((Mark1 ≡ Head) × (x ≡ 239)) ⊎ ((Mark1 ≡ Mark1) × (x ≡ 187))
    go true e is = inr (refl, eqb-true x 187 e)
    go false e is = absurd (outside-fresh x is)
next-fresh Mark2 x fresh = go (x == 191) fresh
  where
    go : (a : Bool) → IsFresh (if a then Start else outside_mode x) → ((Mark2 ≡ Head) × (x ≡ 239)) ⊎ ((Mark2 ≡ Mark1) × (x ≡ 187))
    go true is = absurd is
    go false is = absurd (outside-fresh x is)
next-fresh Start x fresh = go (x == 37) fresh
  where
    go : (a : Bool) → IsFresh (if a then Escaped else outside_mode x) → ((Start ≡ Head) × (x ≡ 239)) ⊎ ((Start ≡ Mark1) × (x ≡ 187))
    go true is = absurd is
    go false is = absurd (outside-fresh x is)
next-fresh Plain x fresh = absurd (outside-fresh x fresh)
next-fresh Escaped x fresh = absurd (feed-fresh (x == 10) Escaped (λ n. n) fresh)
next-fresh Remark x fresh = absurd (feed-fresh (x == 10) Remark (λ n. n) fresh)
next-fresh Braced x fresh = go (x == 125) fresh
  where
    go : (a : Bool) → IsFresh (if a then Plain else Braced) → ((Braced ≡ Head) × (x ≡ 239)) ⊎ ((Braced ≡ Mark1) × (x ≡ 187))
    go true is = absurd is
    go false is = absurd is
next-fresh Quoted x fresh = go (x == 34) (x == 92) fresh
  where
    go : (a b : Bool) → IsFresh (if a then Plain else if b then Backslash else if x == 10 then Start else Quoted) → ((Quoted ≡ Head) × (x ≡ 239)) ⊎ ((Quoted ≡ Mark1) × (x ≡ 187))
    go true b is = absurd is
    go false true is = absurd is
    go false false is = absurd (feed-fresh (x == 10) Quoted (λ n. n) is)
next-fresh Backslash x fresh = absurd (feed-fresh (x == 10) Quoted (λ n. n) fresh)

-- at the bytes of a byte-order mark nothing begins
head-nothing : (left : ℕ) (xs : List ℕ) → begins_within left Head (239 ∷ xs) ≡ nothing
head-nothing (suc left) xs = refl
head-nothing zero xs =
    line-begins Head 239 xs (inl refl) ∙ ap (λ k. line_mark (is_all 239 xs) (239 ∷ take 65535 xs) k) (blank-stop 239 (take 65535 xs) refl) ∙ line-read (is_all 239 xs) (239 ∷ take 65535 xs) 239 (take 65535 xs)
    ∙ ap (mark_read true (is_all 239 xs) (239 ∷ take 65535 xs)) (no-tag 239 (take 65535 xs) refl)

first-nothing : (left : ℕ) (xs : List ℕ) → begins_within left Mark1 (187 ∷ xs) ≡ nothing
first-nothing (suc left) xs = refl
first-nothing zero xs = plain-begins Mark1 187 xs (inr (inl refl)) ∙ ap (mark_read false (is_all 187 xs) (187 ∷ take 65535 xs)) (no-tag 187 (take 65535 xs) refl)

second-nothing : (left : ℕ) (xs : List ℕ) → begins_within left Mark2 (191 ∷ xs) ≡ nothing
second-nothing (suc left) xs = refl
second-nothing zero xs = plain-begins Mark2 191 xs (inr (inr refl)) ∙ ap (mark_read false (is_all 191 xs) (191 ∷ take 65535 xs)) (no-tag 191 (take 65535 xs) refl)

still : (mark : Begins) (x : ℕ) (state : FillState) → mark ≡ nothing → state.begun ≡ false → (next_state (state_here (ends state mark) state) mark x).begun ≡ false
still mark x state is none = ap (λ m. (next_state (state_here (ends state m) state) m x).begun) is ∙ none

feed-shut : (mode : Mode) → IsOpen (next_mode mode 10) → ⊥
feed-shut Head is = is
feed-shut Mark1 is = is
feed-shut Mark2 is = is
feed-shut Start is = is
feed-shut Plain is = is
feed-shut Escaped is = is
feed-shut Remark is = is
feed-shut Braced is = is
feed-shut Quoted is = is
feed-shut Backslash is = is

pub sound-next : (left : ℕ) (mode : Mode) (x : ℕ) (xs : List ℕ) (state : FillState) → Sound mode state
    → Sound (next_mode mode x) (next_state (state_here (ends state (begins_within left mode (x ∷ xs))) state) (begins_within left mode (x ∷ xs)) x)
sound-next left mode x xs state sound =
    let mark = begins_within left mode (x ∷ xs) in
    record {
      size = mark-size mark (state_here (ends state mark) state) ∙ here-size (ends state mark) state sound.size;
      line = λ start begun. at-line (next-start mode x start) begun;
      free = λ is. not-feed (x == 10) refl is;
      fresh = λ is. (at-fresh (next-fresh mode x is));
    }
  where
    at-line : (x ≡ 10) ⊎ ((mode ≡ Mark2) × (x ≡ 191)) → (next_state (state_here (ends state (begins_within left mode (x ∷ xs))) state) (begins_within left mode (x ∷ xs)) x).begun ≡ true → x ≡ 10
    at-line (inl e) begun = e
    at-line (inr e) begun =
        absurd (true≢false (sym begun ∙ still (begins_within left mode (x ∷ xs)) x state
        (ap (λ (m : Mode). begins_within left m (x ∷ xs)) e.0 ∙ ap (λ (y : ℕ). begins_within left Mark2 (y ∷ xs)) e.1 ∙ second-nothing left xs)
        (sound.fresh (subst IsFresh (sym e.0) tt))))

    not-feed : (t : Bool) → (x == 10) ≡ t → IsOpen (next_mode mode x) → t ≡ false
    not-feed false e is = refl
    not-feed true e is = absurd (feed-shut mode (subst (λ (y : ℕ). IsOpen (next_mode mode y)) (eqb-true x 10 e) is))

    at-fresh : ((mode ≡ Head) × (x ≡ 239)) ⊎ ((mode ≡ Mark1) × (x ≡ 187)) → (next_state (state_here (ends state (begins_within left mode (x ∷ xs))) state) (begins_within left mode (x ∷ xs)) x).begun ≡ false
    at-fresh (inl e) =
        still (begins_within left mode (x ∷ xs)) x state
        (ap (λ (m : Mode). begins_within left m (x ∷ xs)) e.0 ∙ ap (λ (y : ℕ). begins_within left Head (y ∷ xs)) e.1 ∙ head-nothing left xs) (sound.fresh (subst IsFresh (sym e.0) tt))
    at-fresh (inr e) =
        still (begins_within left mode (x ∷ xs)) x state
        (ap (λ (m : Mode). begins_within left m (x ∷ xs)) e.0 ∙ ap (λ (y : ℕ). begins_within left Mark1 (y ∷ xs)) e.1 ∙ first-nothing left xs) (sound.fresh (subst IsFresh (sym e.0) tt))
