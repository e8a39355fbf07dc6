-- What the pointer that C holds owns: a box with a cache, or nothing.
use base.Fml.{Fml, ftrue}
use denote.RawPtr.{Ptr}
use Rattle.std.specs.Prelude.{Option, Some, None}
use Rattle.std.specs.Box.Ownership.{box_owns}
use Rattle.libc.specs.Heap.{chunk}
use Rattle.ddserve_c.specs.contracts.solver_cache.SolverCache.{the_row}

abbrev pub kept_owns : Ptr → Option the_row.Denot → Fml
kept_owns at None = ftrue
kept_owns at (Some cache) = box_owns chunk the_row at cache
