-- The loop's invariant: the next hit is the one that was to be found at the start. The measure is the number of entries
-- pending. Assumes nothing.
use lib.ListN.{take}
use Rattle.interval.specs.Interval.{range_of}
use Rattle.rules.specs.Steps.{Pending}
use Rattle.walk.specs.Walk.{Stands, entries_at}
use Rattle.walk.proofs.Seeking.{Seeks}
use Rattle.walk.proofs.next.Given as goal

abbrev pub invariant-loop-place : goal.invariant-loop-place
invariant-loop-place l =
    (p : Pending) → Stands l.slots l.initial.stack l.initial.place p → Seeks l.slots l.stack l.place (range_of l.query) p

abbrev pub decreases-loop-place : goal.decreases-loop-place
decreases-loop-place l = entries_at l.slots (take l.place.pending l.stack)
