-- `link_slots` frees each slot from the last to the first. Assumes nothing.
use Rattle.pool.proofs.Chains.{linked-none, linked-more}
use Rattle.pool.proofs.link_slots.Goals as goal

pub loop-s-init : goal.loop-s-init
loop-s-init c = linked-none c.args.slots.now

pub loop-s-preserved : goal.loop-s-preserved
loop-s-preserved c =
    rw c.free_slot.ensures (linked-more c.loop-s.invariant c.loop-s-test.true)
