-- To be believed: a holding is seen as the list of its ranks, highest first.
use Rattle.std.specs.Prelude.{ℕ, zero, suc, ◌+◌, ◌≤◌, Bool, ◌||◌, ◌&&◌, ◌==◌, nat_le, List, [], ◌∷◌, filter}
use Rattle.std.specs.List.{list_any}

-- the number of a rank: 2 to 10, jack 11, queen 12, king 13, ace 14
abbrev pub IsRank : ℕ → Type 0
IsRank r = (2 ≤ r) × (r ≤ 14)

-- is it the number of a rank?
abbrev pub is_rank : ℕ → Bool
is_rank r = nat_le 2 r && nat_le r 14

-- the k lowest ranks, highest first
unfoldable pub lowest_ranks : ℕ → List ℕ
lowest_ranks zero = []
lowest_ranks (suc k) = (k + 2) ∷ lowest_ranks k

-- the thirteen ranks, from the ace, 14, down to the two
unfoldable pub all_ranks : List ℕ
all_ranks = lowest_ranks 13

-- is the rank in the list?
abbrev pub has_rank : List ℕ → ℕ → Bool
has_rank ranks r = list_any (λ q. q == r) ranks

-- the same ranks and r
abbrev pub with_rank : List ℕ → ℕ → List ℕ
with_rank ranks r = filter (λ q. (q == r) || has_rank ranks q) all_ranks
