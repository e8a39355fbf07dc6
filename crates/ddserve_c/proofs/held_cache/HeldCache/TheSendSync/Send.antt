-- The cache may go to another thread, and so may the pointer to it.
use base.Shift.{Keyless}
use denote.Memory.{lone}
use denote.Param.Send.{IsSend, AllSend, owning_send, struct_send, sendable}
use denote.RawPtr.{Ptr}
use denote.Struct.Owning.{shape, fields, to}
use denote.Struct.Struct.{exits_of}
use mir.Raw.{raw}
use Rattle.ddserve_c.proofs.solver_cache.SolverCache.TheSendSync.{the_send as cache}
use Rattle.ddserve_c.specs.Kept.{kept_owns}
use Rattle.ddserve_c.specs.contracts.held_cache.HeldCache.{the_row, the_type}
use Rattle.ddserve_c.specs.contracts.solver_cache.SolverCache.{the_row as R}
use Rattle.libc.specs.Heap.{chunk-Keyless}
use Rattle.std.specs.Prelude.{Option, Some, None}
use Rattle.std_alloc.proofs.SendSync.{quiet, lies}

kept : (p : Ptr) (k : Option R.Denot) → Keyless (kept_owns p k)
kept p None = tt
kept p (Some x) = (lies R cache p x, chunk-Keyless (raw (lone R.mir)) p)

pub send : IsSend the_row
send =
    let all : AllSend (fields the_type) = (search sendable, tt) in
    owning_send the_type all (λ d. kept d.at d.kept)
    (λ k. quiet (to the_type) (exits_of k (fields the_type)) ((struct_send (shape the_type) all).leaving k))
