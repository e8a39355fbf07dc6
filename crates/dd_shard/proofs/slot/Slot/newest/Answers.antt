use Rattle.dd_shard.proofs.Slots.{newest-seen}
use Rattle.dd_shard.proofs.slot.Slot.newest.Goals as goal

pub returns : goal.returns
returns c =
    rw (← c.self.view_is, ← c.deref.ensures.0) (newest-seen c.as_ref.result c.deref.result.now c.in_ok-last.field-0.now (rw c.deref.ensures.0 c.self.invariant) c.in_ok-last.ensures.item.3.0 c.in_ok-last.ensures.item.1 c.as_ref.ensures.value)
