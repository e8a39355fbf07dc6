-- To be believed: bit r of a mask stands for the rank r.
use Rattle.std.specs.Prelude.{◌≡◌, ℕ, ◌+◌, ◌<◌, ◌^◌, ◌%◌, ◌==◌, Bool, List, [], ◌∷◌, filter}
use Rattle.std.specs.Int.{bit_at}
use Rattle.dd_cards.specs.Ranks.{all_ranks}

-- bits 2 to 14 stand for the ranks, and no other bit is set
abbrev pub IsMask : ℕ → Type 0
IsMask m = (m < 2 ^ 15) × (m % 4 ≡ 0)

-- is the rank's bit set?
abbrev pub in_mask : ℕ → ℕ → Bool
in_mask m r = bit_at m r == 1

-- the ranks whose bits are set
unfoldable pub ranks_of : ℕ → List ℕ
ranks_of m = filter (in_mask m) all_ranks

-- the mask of these ranks
abbrev pub mask_of : List ℕ → ℕ
mask_of [] = 0
mask_of (r ∷ ranks) = 2 ^ r + mask_of ranks
