-- The names of tags, one after another.
use Rattle.std.proofs.Common.{◌≡◌, ◌∙◌, ℕ, suc, ◌<◌, ◌≤◌, ◌+◌, [], List, Bool, Option, Some, true, false, refl, sym, ap, length, take, drop, get_or}
use Rattle.std.specs.Prelude.{◌==◌, option_and_then}
use Rattle.std.proofs.Math.Seq.{drop-cons, take-suc}
use Rattle.std.proofs.Math.ListN.{drop_of_length-le}
use Rattle.std.proofs.Math.Numerals.{add-one}
use Rattle.std.proofs.lemmas.Bool.{eqb-true}
use Rattle.std.proofs.lemmas.List.{take_all}
use Rattle.dd_file.specs.declared.wanted.Wanted.{Wanted}
use Rattle.dd_streams.specs.Tags.{named_in, with_tag}

-- at a comma the name has ended
pub named-comma : (wanted : Wanted) (rest : List ℕ) (at : ℕ) → at < length rest → get_or rest at 0 ≡ 44
    → named_in wanted (take at rest) (drop at rest) ≡ option_and_then (λ more. named_in more [] (drop (suc at) rest)) (with_tag (take at rest) wanted)
unfolding named_in
named-comma wanted rest at within comma = rw (drop-cons rest at 0 within, named_in, comma) refl

-- at another byte it goes on
pub named-more : (wanted : Wanted) (rest : List ℕ) (at : ℕ) → at < length rest → (get_or rest at 0 ≡ 44 → ⊥)
    → named_in wanted (take at rest) (drop at rest) ≡ named_in wanted (take (suc at) rest) (drop (suc at) rest)
unfolding named_in
named-more wanted rest at within other = go (get_or rest at 0 == 44) refl
  where
    go : (b : Bool) → (get_or rest at 0 == 44) ≡ b → named_in wanted (take at rest) (drop at rest) ≡ named_in wanted (take (suc at) rest) (drop (suc at) rest)
    go true is = absurd (other (eqb-true (get_or rest at 0) 44 is))
    go false is = rw (drop-cons rest at 0 within, named_in, is, take-suc rest at 0 within) refl

-- the same in the words of a loop
pub more-named : (whole : Option Wanted) (wanted : Wanted) (rest : List ℕ) (at : ℕ) → at < length rest → (get_or rest at 0 ≡ 44 → ⊥)
    → whole ≡ named_in wanted (take at rest) (drop at rest) → whole ≡ named_in wanted (take (at + 1) rest) (drop (at + 1) rest)
more-named whole wanted rest at within other is = rw (add-one at) (is ∙ named-more wanted rest at within other)

pub comma-named : (whole : Option Wanted) (wanted more : Wanted) (rest : List ℕ) (at : ℕ) → at < length rest → get_or rest at 0 ≡ 44 → with_tag (take at rest) wanted ≡ Some more
    → whole ≡ named_in wanted (take at rest) (drop at rest) → whole ≡ named_in more [] (drop (at + 1) rest)
comma-named whole wanted more rest at within comma is before =
    before ∙ named-comma wanted rest at within comma ∙ ap (option_and_then (λ next. named_in next [] (drop (suc at) rest))) is ∙ ap (λ n. named_in more [] (drop n rest)) (sym (add-one at))

-- at the end there is one more
pub named-end : (wanted : Wanted) (rest : List ℕ) (at : ℕ) → length rest ≤ at → named_in wanted (take at rest) (drop at rest) ≡ with_tag rest wanted
unfolding named_in
named-end wanted rest at over = rw (drop_of_length-le rest over, take_all at rest over, named_in) refl
