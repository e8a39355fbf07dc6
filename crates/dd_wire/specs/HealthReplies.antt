-- To be believed: the text of the reply that tells how a run is.
use Rattle.std.specs.Prelude.{ℕ, List, ◌++◌, codes, decimal}
use Rattle.dd_wire.specs.declared.health.Health.{Health}

-- {"events_left":e,"jobs":j,"workers":w}
abbrev pub health_text : Health → List ℕ
health_text health =
    codes "{\"events_left\":" ++ decimal health.events_left ++ codes ",\"jobs\":" ++ decimal health.jobs
    ++ codes ",\"workers\":" ++ decimal health.workers ++ codes "}"
