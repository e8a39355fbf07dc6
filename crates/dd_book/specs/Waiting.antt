-- The places that wait, by their owners.
use Rattle.std.specs.Prelude.{◌≡◌, ℕ, ◌<◌, ◌≤◌, ◌&&◌, Bool, true, false, nat_eq, Option, None, Some, if◌then◌else◌}
use Rattle.std.specs.declared.cmp.Ordering.{Ordering}
use Rattle.std.specs.Ordering.{nat_cmp, ordering_then}
use Rattle.std.specs.BTreeSet.{BTreeSet, contains}

-- by owner and then by place
abbrev pub pair_cmp : ℕ × ℕ → ℕ × ℕ → Ordering
pair_cmp a b = ordering_then (nat_cmp a.0 b.0) (nat_cmp a.1 b.1)

-- the set has this place of this owner
abbrev pub has_place : BTreeSet (ℕ × ℕ) → ℕ → ℕ → Bool
has_place waiting owner place = contains pair_cmp waiting (owner, place)

-- this place of this owner is in the set or not, and the others are as they were
abbrev pub SetsOnly : BTreeSet (ℕ × ℕ) → BTreeSet (ℕ × ℕ) → ℕ → ℕ → Bool → Type 0
SetsOnly old new owner place b =
    (o p : ℕ) → has_place new o p ≡ (if nat_eq o owner && nat_eq p place then b else has_place old o p)

-- the first place of an owner, of those that wait
abbrev pub IsFirstOf : (ℕ → ℕ → Bool) → ℕ → ℕ → Type 0
IsFirstOf waits owner place =
    (waits owner place ≡ true) × ((p : ℕ) → p < place → waits owner p ≡ false)

-- the first place of an owner from this one on, of those that wait
abbrev pub IsFirstFrom : (ℕ → ℕ → Bool) → ℕ → ℕ → ℕ → Type 0
IsFirstFrom waits owner from place =
    (from ≤ place) × (waits owner place ≡ true) × ((p : ℕ) → from ≤ p → p < place → waits owner p ≡ false)

-- the first place of this owner in the set from that one on, if there is one
abbrev pub IsNextPlace : BTreeSet (ℕ × ℕ) → ℕ → ℕ → Option ℕ → Type 0
IsNextPlace waiting owner from None = (place : ℕ) → from ≤ place → has_place waiting owner place ≡ false
IsNextPlace waiting owner from (Some place) = IsFirstFrom (has_place waiting) owner from place

-- the first place of this owner in the set, if it has one
abbrev pub IsFirstPlace : BTreeSet (ℕ × ℕ) → ℕ → Option ℕ → Type 0
IsFirstPlace waiting owner None = (place : ℕ) → has_place waiting owner place ≡ false
IsFirstPlace waiting owner (Some place) = IsFirstOf (has_place waiting) owner place
