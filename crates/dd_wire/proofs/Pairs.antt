-- The cards played, as pairs of whole numbers.
use Rattle.std.proofs.Common.{◌≡◌, ℕ, zero, suc, ◌+◌, ◌<◌, ◌≤◌, Bool, refl, sym, ap, ◌∙◌, arith, List, [], ◌∷◌, ◌++◌, length, take, get_or, Option, Some, None}
use Rattle.std.specs.Prelude.{◌&&◌, nat_lt}
use Rattle.std.proofs.lemmas.List.{take_more}
use Rattle.serde_json.specs.declared.value.Value.{Value}
use Rattle.serde_json.specs.View.{items_view}
use Rattle.dd_cards.specs.PlayingCard.{PlayingCard}
use Rattle.dd_cards.specs.Ranks.{is_rank}
use Rattle.dd_pbn.specs.Reading.{◌>>=◌}
use Rattle.dd_wire.specs.Reading.{pair_in, ArePlayed, ReadsPlayed}
use Rattle.dd_wire.specs.Requests.{pair_of, pairs_of}

-- fewer than two values are no pair, and nor are more
pub pair_of-short : (values : List Value) → length values < 2 → pair_of (items_view values) ≡ None
pair_of-short [] h = refl
pair_of-short (suit ∷ []) h = refl
pair_of-short (suit ∷ rank ∷ values) h = absurd (omega arith)

pub pair_of-long : (values : List Value) → 3 ≤ length values → pair_of (items_view values) ≡ None
pair_of-long [] h = absurd (omega arith)
pair_of-long (suit ∷ []) h = absurd (omega arith)
pair_of-long (suit ∷ rank ∷ []) h = absurd (omega arith)
pair_of-long (suit ∷ rank ∷ other ∷ values) h = refl

-- ---- one pair after another
-- pairs are those of the first value and of the rest
step-some : (first : Option (ℕ × ℕ)) (rest : Option (List (ℕ × ℕ))) (pairs : List (ℕ × ℕ)) → (first >>= (λ pair. rest >>= (λ more. Some (pair ∷ more)))) ≡ Some pairs
    → (pair : ℕ × ℕ) × (more : List (ℕ × ℕ)) × (first ≡ Some pair) × (rest ≡ Some more) × (pairs ≡ pair ∷ more)
step-some None rest pairs is = absurd (cc)
step-some (Some pair) None pairs is = absurd (cc)
step-some (Some pair) (Some more) pairs is = (pair, more, refl, refl, cc)

-- and there are none where the rest has none
step-none : (first : Option (ℕ × ℕ)) (rest : Option (List (ℕ × ℕ))) → rest ≡ None → (first >>= (λ pair. rest >>= (λ more. Some (pair ∷ more)))) ≡ None
step-none None rest none = refl
step-none (Some pair) rest none = rw none refl

-- they are these where it is this pair and the rest are these
pairs-cons : (first : Option (ℕ × ℕ)) (rest : Option (List (ℕ × ℕ))) (pair : ℕ × ℕ) (more : List (ℕ × ℕ)) → first ≡ Some pair → rest ≡ Some more
    → (first >>= (λ p. rest >>= (λ ps. Some (p ∷ ps)))) ≡ Some (pair ∷ more)
pairs-cons first rest pair more is are = rw (is, are) refl

-- the pairs of one value more
pub pairs-append : (values : List Value) (value : Value) (pairs : List (ℕ × ℕ)) (pair : ℕ × ℕ) → pairs_of (items_view values) ≡ Some pairs → pair_in value ≡ Some pair
    → pairs_of (items_view (values ++ value ∷ [])) ≡ Some (pairs ++ pair ∷ [])
pairs-append [] value pairs pair are is = let none : [] ≡ pairs = cc in rw (is, ← none) refl
pairs-append (v ∷ values) value pairs pair are is =
    let (p, more, first, rest, all) = step-some (pair_in v) (pairs_of (items_view values)) pairs are in
    pairs-cons (pair_in v) (pairs_of (items_view (values ++ value ∷ []))) p (more ++ pair ∷ []) first (pairs-append values value more pair rest is)
    ∙ ap (λ (ps : List (ℕ × ℕ)). Some (ps ++ pair ∷ [])) (sym all)

-- a value that is no pair is among no pairs
pub pairs-none : (values : List Value) (i : ℕ) (value : Value) → i < length values → pair_in (get_or values i value) ≡ None → pairs_of (items_view values) ≡ None
pairs-none [] i value within none = absurd (omega arith)
pairs-none (v ∷ values) zero value within none = rw none refl
pairs-none (v ∷ values) (suc i) value within none = step-none (pair_in v) (pairs_of (items_view values)) (pairs-none values i value (omega arith) none)

-- ---- pairs that are cards
-- is it the pair of a card?
abbrev pub is_card : ℕ × ℕ → Bool
is_card pair = nat_lt pair.0 4 && is_rank pair.1

-- ---- as they are read
-- one more
pub reads-more : (values : List Value) (i : ℕ) (value : Value) (pair : ℕ × ℕ) (old new : Option (List PlayingCard)) → i < length values → value ≡ get_or values i value → pair_in value ≡ Some pair
    → ((pairs : List (ℕ × ℕ)) → ArePlayed old pairs → ArePlayed new (pairs ++ pair ∷ []))
    → ReadsPlayed (pairs_of (items_view (take i values))) old → ReadsPlayed (pairs_of (items_view (take (i + 1) values))) new
reads-more values i value pair old new within here is more before =
    record {
      pairs = before.pairs ++ pair ∷ [];
      are = ap (λ (vs : List Value). pairs_of (items_view vs)) (take_more values i value within ∙ ap (λ (v : Value). take i values ++ v ∷ []) (sym here)) ∙ pairs-append (take i values) value before.pairs pair before.are is;
      played = more before.pairs before.played;
    }
