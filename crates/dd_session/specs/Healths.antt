-- To be believed: how a run is, as a port shows it.
use Rattle.std.specs.Prelude.{◌≡◌, ℕ}
use Rattle.dd_book.specs.Limits.{LimitsOf}
use Rattle.dd_desk.specs.Looks.{SeesTally}
use Rattle.dd_wire.specs.declared.health.Health.{Health}

-- A run of these limits and with so many workers: so many events have still room in its journal, and so many of its jobs are
-- open, after a journal that one thread could have made; and so many are its workers.
pub record IsHealth (limits : LimitsOf) (workers : ℕ) (health : Health) : Type 0 where
  pub sees : SeesTally limits (record { events_left = health.events_left; open_jobs = health.jobs })
  pub has : health.workers ≡ workers
