-- A tournament: of keys in places the one that comes first.
use Rattle.std.specs.Prelude.{◌≡◌, ℕ, ◌+◌, ◌*◌, ◌<◌, ◌≤◌, ◌&&◌, ◌||◌, Bool, List, length, nat_eq, nat_lt, slice_get, slice_set, Option, None, Some, option_map, unwrap_or, if◌then◌else◌}

-- the key at this place, if it has one
abbrev pub key_at : {X : Type 0} → List (Option X) → ℕ → Option X
key_at keys place = unwrap_or (slice_get keys place) None

-- the keys with another one at this place, if there is a place
abbrev pub with_key : List (Option ℕ) → Option ℕ → Option ℕ → List (Option ℕ)
with_key keys None key = keys
with_key keys (Some place) key = slice_set keys place key

-- the first of all keys: none is less, and of equal ones it has the first place
pub record IsFirstKey (keys : List (Option ℕ)) (key place : ℕ) : Type 0 where
  pub there : key_at keys place ≡ Some key
  pub least : (i k : ℕ) → key_at keys i ≡ Some k → (key ≤ k) × (key ≡ k → place ≤ i)

-- a key with its place
abbrev pub own_entry : List (Option ℕ) → ℕ → Option (ℕ × ℕ)
own_entry keys place = option_map (λ key. (key, place)) (key_at keys place)

-- one entry comes before another: by its key, and then by its place
abbrev pub comes_before : ℕ × ℕ → ℕ × ℕ → Bool
comes_before one other =
    nat_lt one.0 other.0 || (nat_eq one.0 other.0 && nat_lt one.1 other.1)

-- of two entries the one that comes first
abbrev pub earlier : Option (ℕ × ℕ) → Option (ℕ × ℕ) → Option (ℕ × ℕ)
earlier None b = b
earlier (Some a) None = Some a
earlier (Some a) (Some b) = (if comes_before b a then Some b else Some a)

-- who wins at a place: of its own entry and the winners of the two places below it
abbrev pub winner_at : List (Option ℕ) → List (Option (ℕ × ℕ)) → ℕ → Option (ℕ × ℕ)
winner_at keys winners i =
    earlier (own_entry keys i) (earlier (key_at winners (2 * i + 1)) (key_at winners (2 * i + 2)))

-- the winner at this place is right
abbrev pub IsWon : List (Option ℕ) → List (Option (ℕ × ℕ)) → ℕ → Type 0
IsWon keys winners i = i < length keys → key_at winners i ≡ winner_at keys winners i

pub record IsTournament (keys : List (Option ℕ)) (winners : List (Option (ℕ × ℕ))) : Type 0 where
  pub as_many : length winners ≡ length keys
  pub won : (i : ℕ) → IsWon keys winners i
