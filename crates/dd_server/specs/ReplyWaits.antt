-- To be believed: how long replies may wait for their client.
use Rattle.std.specs.Prelude.{ℕ, ◌-◌, Bool, true, false, min}

-- in nanoseconds: a reply in all; and all replies after a stop
abbrev pub reply_wait : ℕ
reply_wait = 60000000000

abbrev pub last_wait : ℕ
last_wait = 10000000000

-- what there is of a wait in a run that is stopped or not
abbrev pub held : Bool → ℕ → ℕ
held true left = min left last_wait
held false left = left

-- What is left of a wait after a call that waited so long, in a run that is stopped or not, and that sent the reply to its end or
-- not. A reply that is out leaves the next one the whole wait, but after a stop.
abbrev pub left_after : Bool → Bool → ℕ → ℕ → ℕ
left_after false true left waited = reply_wait
left_after false false left waited = left - waited
left_after true out left waited = held true left - waited
