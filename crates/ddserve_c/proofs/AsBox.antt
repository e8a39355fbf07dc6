-- The parts own what a box at the same types owns.
use mir.Syntax.{impl, tnil, dnil}
use mathlib.Core.List.{[]}
use denote.Signature.{Slot, plain}
use Rattle.std_alloc.proofs.BoxSteps.Form.{Bx}
use Rattle.std_heap.specs.contracts.Global as Heap
use Rattle.std_heap.specs.contracts.GlobalAllocator.TheImpl.{ghosts, dict}
use Rattle.std_heap.proofs.Global.TheLaws as heap
use Rattle.ddserve_c.specs.contracts.solver_cache.SolverCache as Cache
use Rattle.ddserve_c.proofs.solver_cache.SolverCache.TheLaws as cache
use Rattle.ddserve_c.specs.contracts.box_parts.BoxParts as Parts
use Rattle.ddserve_c.specs.contracts.held_cache.HeldCache as Held

abbrev pub E : Bx
E = record { row = Cache.the_row; laws = cache.the_row_laws; al = record { row = Heap.the_row; laws = heap.the_row_laws; g = ghosts; d = dict; drops = impl [] tnil dnil } }

abbrev pub FromParts : Slot 0
FromParts = plain (λ _. Parts.the_row Cache.the_row Heap.the_row ghosts)

abbrev pub FromHeld : Slot 0
FromHeld = plain (λ _. Held.the_row)

abbrev pub FromGlobal : Slot 0
FromGlobal = plain (λ _. Heap.the_row)
