-- `link_slots` frees each slot from the last to the first. The loop's invariant: the slots after `s` are chained, and
-- `next` is the first of them. Assumes nothing.
use Rattle.pool.proofs.Chains.{Linked}
use Rattle.pool.proofs.link_slots.Given as goal

abbrev pub invariant-loop-s : goal.invariant-loop-s
invariant-loop-s l = Linked l.initial.slots l.slots l.next l.s
