-- What is seen where lines are passed over.
use Rattle.std.proofs.Common.{◌≡◌, ◌∙◌, ℕ, suc, ◌==◌, Bool, true, false, List, [], ◌∷◌, ◌++◌, length, take, refl, sym, ap, arith, inl, inr, true≢false, eqb-true, append_assoc}
use Rattle.std.specs.Prelude.{◌&&◌, ◌||◌, if◌then◌else◌, nat_le}
use Rattle.dd_file.specs.declared.fill_state.FillState.{FillState}
use Rattle.dd_file.specs.declared.mode.Mode.{Mode}
use Rattle.dd_file.specs.declared.mode.Mode.TheVariants.{Start, Plain, Escaped, Remark, Braced, Quoted}
use Rattle.dd_file.specs.Games.{ends, next_state}
use Rattle.dd_file.specs.Marked.{Marked, begins_within, left_within, marked}
use Rattle.dd_file.specs.Marks.{Begins, nothing, empty_line, line_mark, mark_read}
use Rattle.dd_file.specs.Modes.{is_blank, next_mode, outside_mode}
use Rattle.dd_file.specs.Tags.{tag_at}
use Rattle.dd_file.proofs.AgainMarks.{blank-stop, is_all, line-begins, line-read, no-tag, plain-begins}

-- a place in a game that has begun: what may change before it ends
pub record Spot : Type 0 where
  pub names : List Bool
  pub last : ℕ
  pub has_return : Bool
  pub left : ℕ
  pub mode : Mode

-- the game at hand there
abbrev pub at_spot : FillState → Spot → FillState
at_spot state spot =
    record { begun = true; names = spot.names; deal = state.deal; dealer = state.dealer; vulnerable = state.vulnerable; last = spot.last; has_return = spot.has_return }

abbrev pub spot : List Bool → ℕ → Bool → ℕ → Mode → Spot
spot names last has_return left mode = record { names = names; last = last; has_return = has_return; left = left; mode = mode }

-- what is seen of the games of marked bytes, from a game at hand on: nothing, at a byte before which none ends
pub record Walk (X : Type 0) : Type 0 where
  pub seen : FillState → Marked → X
  pub step : (state : FillState) (left : ℕ) (mode : Mode) (b : ℕ) (rest : List ℕ) (mark : Begins) → begins_within left mode (b ∷ rest) ≡ mark → ends state mark ≡ false
      → seen state (marked left mode (b ∷ rest)) ≡ seen (next_state state mark b) (marked (left_within left mark) (next_mode mode b) rest)

-- nothing is seen over these bytes, whatever follows
abbrev pub Goes : {X : Type 0} → Walk X → FillState → List ℕ → Spot → Spot → Type 0
Goes walk state p s t =
    (r : List ℕ) → walk.seen (at_spot state s) (marked s.left s.mode (p ++ r)) ≡ walk.seen (at_spot state t) (marked t.left t.mode r)

pub goes-then : {X : Type 0} (walk : Walk X) (state : FillState) (p q : List ℕ) (s t u : Spot) → Goes walk state p s t → Goes walk state q t u → Goes walk state (p ++ q) s u
goes-then walk state p q s t u first second = λ r. ap (λ l. walk.seen (at_spot state s) (marked s.left s.mode l)) (append_assoc p q r) ∙ first (q ++ r) ∙ second r

-- ---- one byte at which nothing begins
abbrev pub return_after : ℕ → ℕ → Bool → Bool
return_after byte last has_return = (if byte == 10 then last == 13 else has_return)

pub goes-byte : {X : Type 0} (walk : Walk X) (state : FillState) (b : ℕ) (s : Spot) → ((r : List ℕ) → begins_within s.left s.mode (b ∷ r) ≡ nothing)
    → Goes walk state (b ∷ []) s (spot s.names b (return_after b s.last s.has_return) (left_within s.left nothing) (next_mode s.mode b))
goes-byte walk state b s none = λ r. walk.step (at_spot state s) s.left s.mode b r nothing (none r) refl

-- ---- bytes of a tag
abbrev pub modes : Mode → List ℕ → Mode
modes mode [] = mode
modes mode (b ∷ p) = modes (next_mode mode b) p

abbrev pub last_of : ℕ → List ℕ → ℕ
last_of last [] = last
last_of last (b ∷ p) = last_of b p

-- no line ends in it
abbrev pub is_quiet : List ℕ → Bool
is_quiet [] = true
is_quiet (b ∷ p) = (if b == 10 then false else is_quiet p)

pub quiet-first : (b : ℕ) (p : List ℕ) → is_quiet (b ∷ p) ≡ true → (b == 10) ≡ false
quiet-first b p quiet = go (b == 10) quiet
  where
    go : (t : Bool) → (if t then false else is_quiet p) ≡ true → t ≡ false
    go true e = sym e
    go false e = refl

pub quiet-rest : (b : ℕ) (p : List ℕ) → is_quiet (b ∷ p) ≡ true → is_quiet p ≡ true
quiet-rest b p quiet = go (b == 10) quiet
  where
    go : (t : Bool) → (if t then false else is_quiet p) ≡ true → is_quiet p ≡ true
    go true e = absurd (true≢false (sym e))
    go false e = e

pub quiet-append : (p q : List ℕ) → is_quiet p ≡ true → is_quiet q ≡ true → is_quiet (p ++ q) ≡ true
quiet-append [] q first second = second
quiet-append (b ∷ p) q first second =
    ap (λ (t : Bool). if t then false else is_quiet (p ++ q)) (quiet-first b p first) ∙ quiet-append p q (quiet-rest b p first) second

pub modes-append : (mode : Mode) (p q : List ℕ) → modes mode (p ++ q) ≡ modes (modes mode p) q
modes-append mode [] q = refl
modes-append mode (b ∷ p) q = modes-append (next_mode mode b) p q

pub last-append : (last : ℕ) (p q : List ℕ) → last_of last (p ++ q) ≡ last_of (last_of last p) q
last-append last [] q = refl
last-append last (b ∷ p) q = last-append b p q

pub goes-within : {X : Type 0} (walk : Walk X) (state : FillState) (p : List ℕ) (s : Spot) → s.left ≡ length p → is_quiet p ≡ true
    → Goes walk state p s (spot s.names (last_of s.last p) s.has_return 0 (modes s.mode p))
goes-within walk state [] s left quiet = λ r. ap (λ (n : ℕ). walk.seen (at_spot state s) (marked n s.mode r)) left
goes-within walk state (b ∷ p) s left quiet =
    let here : Spot = spot s.names s.last s.has_return (suc (length p)) s.mode in
    let size : s.left ≡ suc (length p) = left ∙ (let e : length (b ∷ p) ≡ suc (length p) = omega arith in e) in
    let next : Spot = spot s.names b s.has_return (length p) (next_mode s.mode b) in
    λ r. ap (λ (n : ℕ). walk.seen (at_spot state s) (marked n s.mode (b ∷ (p ++ r)))) size
    ∙ goes-byte walk state b here (λ q. refl) (p ++ r)
    ∙ ap (λ (t : Bool). walk.seen (at_spot state (spot s.names b (if t then s.last == 13 else s.has_return) (length p) (next_mode s.mode b))) (marked (length p) (next_mode s.mode b) (p ++ r)))
    (quiet-first b p quiet)
    ∙ goes-within walk state p next refl (quiet-rest b p quiet) r

-- ---- bytes of rows
-- a space, a digit or a capital letter
abbrev pub is_data : ℕ → Bool
is_data b = ((b == 32) || (nat_le 48 b && nat_le b 57)) || (nat_le 65 b && nat_le b 90)

abbrev pub are_data : List ℕ → Bool
are_data [] = true
are_data (b ∷ p) = (if is_data b then are_data p else false)

pub data-other : (b c : ℕ) → is_data b ≡ true → is_data c ≡ false → (b == c) ≡ false
data-other b c good bad = go (b == c) refl
  where
    go : (t : Bool) → (b == c) ≡ t → t ≡ false
    go false e = refl
    go true e = absurd (true≢false (sym good ∙ ap is_data (eqb-true b c e) ∙ bad))

outside-data : (b : ℕ) → is_data b ≡ true → outside_mode b ≡ Plain
outside-data b good =
    ap (λ (t : Bool). if t then Start else if b == 59 then Remark else if b == 123 then Braced else if b == 34 then Quoted else Plain) (data-other b 10 good refl)
    ∙ ap (λ (t : Bool). if t then Remark else if b == 123 then Braced else if b == 34 then Quoted else Plain) (data-other b 59 good refl)
    ∙ ap (λ (t : Bool). if t then Braced else if b == 34 then Quoted else Plain) (data-other b 123 good refl) ∙ ap (λ (t : Bool). if t then Quoted else Plain) (data-other b 34 good refl)

pub data-first : (b : ℕ) (p : List ℕ) → are_data (b ∷ p) ≡ true → is_data b ≡ true
data-first b p good = go (is_data b) good
  where
    go : (t : Bool) → (if t then are_data p else false) ≡ true → t ≡ true
    go true e = refl
    go false e = e

pub data-rest : (b : ℕ) (p : List ℕ) → are_data (b ∷ p) ≡ true → are_data p ≡ true
data-rest b p good = go (is_data b) good
  where
    go : (t : Bool) → (if t then are_data p else false) ≡ true → are_data p ≡ true
    go true e = e
    go false e = absurd (true≢false (sym e))

pub data-append : (p q : List ℕ) → are_data p ≡ true → are_data q ≡ true → are_data (p ++ q) ≡ true
data-append [] q first second = second
data-append (b ∷ p) q first second =
    ap (λ (t : Bool). if t then are_data (p ++ q) else false) (data-first b p first) ∙ data-append p q (data-rest b p first) second

-- outside nothing begins but at a `[`
pub plain-nothing : (b : ℕ) (r : List ℕ) → (b == 91) ≡ false → begins_within 0 Plain (b ∷ r) ≡ nothing
plain-nothing b r other = plain-begins Plain b r (inl refl) ∙ ap (mark_read false (is_all b r) (b ∷ take 65535 r)) (no-tag b (take 65535 r) other)

pub goes-data : {X : Type 0} (walk : Walk X) (state : FillState) (p : List ℕ) (names : List Bool) (last : ℕ) (has_return : Bool) → are_data p ≡ true
    → Goes walk state p (spot names last has_return 0 Plain) (spot names (last_of last p) has_return 0 Plain)
goes-data walk state [] names last has_return good = λ r. refl
goes-data walk state (b ∷ p) names last has_return good =
    let first : is_data b ≡ true = data-first b p good in
    λ r. goes-byte walk state b (spot names last has_return 0 Plain) (λ q. plain-nothing b q (data-other b 91 first refl)) (p ++ r)
    ∙ ap (λ (t : Bool). walk.seen (at_spot state (spot names b (if t then last == 13 else has_return) 0 (outside_mode b))) (marked 0 (outside_mode b) (p ++ r))) (data-other b 10 first refl)
    ∙ ap (λ (m : Mode). walk.seen (at_spot state (spot names b has_return 0 m)) (marked 0 m (p ++ r))) (outside-data b first)
    ∙ goes-data walk state p names b has_return (data-rest b p good) r

-- a row's first letter
start-nothing : (b : ℕ) (r : List ℕ) → is_data b ≡ true → (b == 32) ≡ false → begins_within 0 Start (b ∷ r) ≡ nothing
start-nothing b r good space =
    let other : is_blank b ≡ false = rw (space, data-other b 9 good refl, data-other b 11 good refl, data-other b 12 good refl, data-other b 13 good refl) refl in
    line-begins Start b r (inr refl) ∙ ap (λ k. line_mark (is_all b r) (b ∷ take 65535 r) k) (blank-stop b (take 65535 r) other) ∙ line-read (is_all b r) (b ∷ take 65535 r) b (take 65535 r)
    ∙ ap (λ (t : Bool). if t then empty_line else mark_read true (is_all b r) (b ∷ take 65535 r) (tag_at (b ∷ take 65535 r))) (data-other b 10 good refl)
    ∙ ap (mark_read true (is_all b r) (b ∷ take 65535 r)) (no-tag b (take 65535 r) (data-other b 91 good refl))

pub goes-row : {X : Type 0} (walk : Walk X) (state : FillState) (b : ℕ) (p : List ℕ) (names : List Bool) (last : ℕ) (has_return : Bool) → is_data b ≡ true → (b == 32) ≡ false → are_data p ≡ true
    → Goes walk state (b ∷ p) (spot names last has_return 0 Start) (spot names (last_of b p) has_return 0 Plain)
goes-row walk state b p names last has_return first space good =
    λ r. goes-byte walk state b (spot names last has_return 0 Start) (λ q. start-nothing b q first space) (p ++ r)
    ∙ ap (λ (t : Bool). walk.seen (at_spot state (spot names b (if t then last == 13 else has_return) 0 (next_mode Start b))) (marked 0 (next_mode Start b) (p ++ r))) (data-other b 10 first refl)
    ∙ ap (λ (m : Mode). walk.seen (at_spot state (spot names b has_return 0 m)) (marked 0 m (p ++ r)))
    (ap (λ (t : Bool). if t then Escaped else outside_mode b) (data-other b 37 first refl) ∙ outside-data b first)
    ∙ goes-data walk state p names b has_return good r
