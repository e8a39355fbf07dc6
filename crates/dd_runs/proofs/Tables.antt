-- What the entries of the shards and the cells of the front tell holds.
use Rattle.std.proofs.Common.{◌≡◌, ℕ, ◌+◌, arith, sym, ap, ◌∙◌, subst, List, [], ◌∷◌, ◌++◌, Contains, Some, None, Option, inl, inr}
use Rattle.dd_play.specs.Board.{Board, IsBoard}
use Rattle.dd_play.specs.Value.{leaders_tricks}
use Rattle.dd_rank.specs.Alike.{AreAlike}
use Rattle.dd_rank.specs.Depths.{Covers, FourDepths, depth_in}
use Rattle.dd_rank.proofs.CallerLemmas.{covers-chain}
use Rattle.dd_shard.specs.Entries.{Entries, Entry, IsSound, Looks, Notes, Pair, PutsFirst, Told, cover_of, most_pairs, narrowed_pair, pair_at, told_by}
use Rattle.dd_rank.specs.Cover.{IsSameCover}
use Rattle.dd_table.specs.Front.{Exact, Gets, IsExact, Sets}
use Rattle.dd_runs.specs.Steps.{HoldsFor, IsWithin, exact}
use Rattle.dd_runs.proofs.Lists.{Contains-cons, Contains-middle, Contains-take, beside}

-- ---- shards

-- each pair of each entry is sound
abbrev pub AllSound : List Entry → Type 0
AllSound list = (e : Entry) → Contains list e → (x : Pair) → Contains e.pairs x → IsSound x

abbrev pub PairsSound : List Pair → Type 0
PairsSound pairs = (x : Pair) → Contains pairs x → IsSound x

-- an entry that goes to the front, where its pairs are sound again
to-front : (old new : List Entry) (before after : Entry) (front back : List Entry) → old ≡ front ++ before ∷ back → new ≡ after ∷ front ++ back → (PairsSound before.pairs → PairsSound after.pairs)
    → AllSound old → AllSound new
to-front old new before after front back was is keeps good e has =
    let old-has : (d : Entry) → Contains (front ++ before ∷ back) d → Contains old d = λ d h. subst (λ (q : List Entry). Contains q d) (sym was) h in
    elim (Contains-cons after (front ++ back) e (subst (λ (q : List Entry). Contains q e) is has)) [
      | inl same ↦ subst (λ (d : Entry). PairsSound d.pairs) same (keeps (good before (old-has before (Contains-middle front before back))))
      | inr there ↦ good e (old-has e (beside front before back e there))
    ]

-- a look leaves what is sound
pub look-sound : (p : Board) (answer : Option Told) (old new : Entries) → Looks p answer old new → AllSound old.list → AllSound new.list
look-sound p answer old new l good = elim l.looked [
  | inl found ↦ (let moved = found.1.moved in to-front old.list new.list found.0 found.0 moved.0 moved.1 moved.2 moved.3 (λ sound. sound) good)
  | inr missed ↦ subst AllSound (sym missed.2) good
]

-- what a cover covers at its own depths, a cover of it covers too
chained : (x y : Pair) (q : Board) → IsSameCover (cover_of y) (cover_of x) → Covers x.board (depth_in x.depths) q → Covers y.board (depth_in y.depths) q
chained x y q same covers =
    let first = same.1 in
    let then : Covers x.board (depth_in y.depths) q = subst (λ (d : FourDepths). Covers x.board (depth_in d) q) same.0 covers in
    (first.0 + then.0, covers-chain (depth_in y.depths) first.0 then.0 y.board x.board q first.1 then.1)

-- the pair that tells is sound, so what it tells holds
told-holds : (x : Pair) (p : Board) (told : Told) → IsSound x → told ≡ told_by x → Covers x.board (depth_in x.depths) p → IsBoard p → IsWithin told (leaders_tricks p) × HoldsFor p told
told-holds x p told sound is covers board = subst (λ (t : Told). IsWithin t (leaders_tricks p) × HoldsFor p t) (sym is) (
  sound p board covers,
  λ q valid further. sound q valid (covers.0 + further.0, covers-chain (depth_in x.depths) covers.0 further.0 x.board p q covers.1 further.1),
)

-- what a look is answered holds of the position asked, and of each position that it covers
pub look-holds : (p : Board) (told : Told) (old new : Entries) → IsBoard p → Looks p (Some told) old new → AllSound old.list → IsWithin told (leaders_tricks p) × HoldsFor p told
look-holds p told old new board l good = elim l.looked [
  | inl found ↦ (
      let e = found.0 in
      let moved = found.1.moved in
      let tells = found.2 in
      let there : Contains old.list e = subst (λ (q : List Entry). Contains q e) (sym moved.2) (Contains-middle moved.0 e moved.1) in
      let one : Contains e.pairs tells.1 = subst (λ (q : List Pair). Contains q tells.1) (sym tells.3) (Contains-middle tells.0 tells.1 tells.2) in
      told-holds tells.1 p told (good e there tells.1 one) tells.6 tells.5 board)
  | inr missed ↦ absurd (let no : Some told ≡ None = missed.1 in cc)
]

-- a pair with the bounds of another of its cover
narrowed-sound : (x y : Pair) → IsSameCover (cover_of y) (cover_of x) → IsSound x → IsSound y → IsSound (narrowed_pair x y)
narrowed-sound x y same a b q board covers =
    let mine = a q board covers in
    let others = b q board (chained x y q same covers) in
    (omega arith, omega arith)

-- a sound pair goes first
puts-sound : (x : Pair) (old new : List Pair) → IsSound x → PutsFirst x old new → PairsSound old → PairsSound new
puts-sound x old new sound puts good z has = elim puts [
  | inl again ↦ (
      let y = again.1 in
      let was : (d : Pair) → Contains (again.0 ++ y ∷ again.2) d → Contains old d = λ d h. subst (λ (l : List Pair). Contains l d) (sym again.3) h in
      let is-sound : IsSound y = good y (was y (Contains-middle again.0 y again.2)) in
      elim (Contains-cons (narrowed_pair x y) (again.0 ++ again.2) z (subst (λ (l : List Pair). Contains l z) again.6 has)) [
        | inl first ↦ subst IsSound first (narrowed-sound x y again.5 sound is-sound)
        | inr there ↦ good z (was z (beside again.0 y again.2 z there))
      ])
  | inr fresh ↦ elim (Contains-cons x old z (Contains-take most_pairs (x ∷ old) z (subst (λ (l : List Pair). Contains l z) fresh.1 has))) [
    | inl first ↦ subst IsSound first sound
    | inr there ↦ good z there
  ]
]

-- a note of what holds leaves what is sound
pub note-sound : (p : Board) (told : Told) (old new : Entries) → HoldsFor p told → Notes p told old new → AllSound old.list → AllSound new.list
note-sound p told old new holds n good = elim n.noted [
  | inl known ↦ (
      let e = known.0 in
      let moved = known.2.moved in
      to-front old.list new.list e (record { shape = e.shape; pairs = known.1 }) moved.0 moved.1 moved.2 moved.3 (λ sound. puts-sound (pair_at p told) e.pairs known.1 holds known.3 sound) good)
  | inr added ↦ λ e has. (
      let first : Entry = record { shape = _; pairs = pair_at p told ∷ [] } in
      elim (Contains-cons first old.list e (Contains-take old.limit (first ∷ old.list) e (subst (λ (q : List Entry). Contains q e) added.1 has))) [
        | inl same ↦ subst (λ (d : Entry). PairsSound d.pairs) same (λ x one. elim (Contains-cons (pair_at p told) [] x one) [
          | inl is ↦ subst IsSound is holds
          | inr none ↦ absurd (let h = none.1 in omega arith)
        ])
        | inr there ↦ good e there
      ])
]

-- ---- the front

-- alike positions have one value
abbrev pub AlikeLaw : Type 0
AlikeLaw = (p q : Board) → IsBoard p → IsBoard q → AreAlike p q → leaders_tricks q ≡ leaders_tricks p

-- a cell that was set, or not, still tells the value
pub set-exact : AlikeLaw → (p : Board) (value : ℕ) (old new : Option Exact) → IsBoard p → value ≡ leaders_tricks p → Sets (exact p value) old new → ((e : Exact) → old ≡ Some e → IsExact e)
    → (e : Exact) → new ≡ Some e → IsExact e
set-exact alike p value None new board is s good e now = elim s [
  | inl took ↦ (
      let same : exact p value ≡ e = (let both : Some (exact p value) ≡ Some e = sym took ∙ now in cc) in
      subst IsExact same (λ q valid like. alike p q board valid like ∙ sym is))
  | inr stays ↦ absurd (let both : None ≡ Some e = sym stays ∙ now in cc)
]
set-exact alike p value (Some d) new board is s good e now =
    let same : d ≡ e = (let both : Some d ≡ Some e = sym s ∙ now in cc) in
    good e (ap Some same)

-- what a get is answered is the value of the position asked
pub get-exact : (p : Board) (value : ℕ) (held : Option Exact) → IsBoard p → Gets p (Some value) held → ((e : Exact) → held ≡ Some e → IsExact e) → value ≡ leaders_tricks p
get-exact p value held board g good = g.3 ∙ sym (good g.0 g.1 p board g.2)
