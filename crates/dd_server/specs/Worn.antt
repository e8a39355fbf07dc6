-- To be believed: when a run is worn, and when a server is crowded.
use Rattle.std.specs.Prelude.{◌≡◌, ℕ, ◌+◌, ◌-◌, ◌/◌, Bool, true, false, Option, IsSomeAnd, nat_le}
use Rattle.dd_book.specs.Limits.{LimitsOf}
use Rattle.dd_desk.specs.declared.tally.Tally.{Tally}
use Rattle.dd_wire.specs.declared.want.Want.{Want}
use Rattle.dd_wire.specs.declared.want.Want.TheVariants.{Submit, Cancel, Fetch, Stop}
use Rattle.dd_server.specs.declared.roster.TheConstants.{MOST_RUNS}

-- three quarters of the events that a run may have stand in its journal, the last of them at this place
abbrev pub are_events_used : LimitsOf → ℕ → Bool
are_events_used limits place = nat_le (limits.events - limits.events / 4) (place + 1)

-- of the events that a run may have no more than the last quarter is left
abbrev pub are_few_left : LimitsOf → ℕ → Bool
are_few_left limits left = nat_le left (limits.events / 4)

-- no more than the last quarter is left or more is, as this tells, by what a look saw
pub record SeesFewLeft (limits : LimitsOf) (saw : Tally → Type 0) (few : Bool) : Type 0 where
  pub tally : Tally
  pub seen : saw tally
  pub sees : few ≡ are_few_left limits tally.events_left

-- a run of these limits is used up at least where no more than the last quarter of its events is left, as a look saw
pub record SeesUsedUp (limits : LimitsOf) (saw : Tally → Type 0) (used_up : Bool) : Type 0 where
  pub few : Bool
  pub seen : SeesFewLeft limits saw few
  pub sees : few ≡ true → used_up ≡ true

-- nor does a run take more connections whose desk has no more than that free for new jobs, beside what is reserved for those
-- that it has, as a look saw
pub record SeesFewFree (limits : LimitsOf) (saw : ℕ → Type 0) (used_up : Bool) : Type 0 where
  pub free : ℕ
  pub seen : saw free
  pub sees : are_few_left limits free ≡ true → used_up ≡ true

-- fifteen sixteenths of the passes that a run may give were given
abbrev pub are_passes_used : LimitsOf → ℕ → Bool
are_passes_used limits passes = nat_le (limits.passes - limits.passes / 16) passes

-- nor one that has given as many, as a look saw
pub record SeesFewPasses (limits : LimitsOf) (saw : ℕ → Type 0) (used_up : Bool) : Type 0 where
  pub given : ℕ
  pub seen : saw given
  pub sees : are_passes_used limits given ≡ true → used_up ≡ true

-- half of the passes that a run may give were given
abbrev pub are_half_given : LimitsOf → ℕ → Bool
are_half_given limits passes = nat_le (limits.passes - limits.passes / 2) passes

-- whose last event has this place knows that the run is worn: the event stands in the last quarter
abbrev pub KnowsWorn : LimitsOf → Option ℕ → Type 0
KnowsWorn limits place = IsSomeAnd place (λ p. are_events_used limits p ≡ true)

-- a submit is wanted
abbrev pub is_submit : Want → Bool
is_submit (Submit asked) = true
is_submit (Cancel job) = false
is_submit (Fetch job) = false
is_submit Stop = false

-- as many runs serve as may
abbrev pub is_crowded : ℕ → Bool
is_crowded live = nat_le MOST_RUNS live
