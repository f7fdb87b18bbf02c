-- `feed` is the rules' feed: each turn of the loop is one of its turns. The measure is what is left of the bytes.
-- Assumes nothing.
use Prim.Native.Nat.{◌≤◌, ◌-◌}
use mathlib.Core.Path.{◌≡◌}
use lib.ListN.{length}
use Rattle.rules.specs.Pool.{Pool, Holds}
use Rattle.record.proofs.Feeding.{Goes}
use Rattle.record.proofs.feed.Given as goal

abbrev pub invariant-loop-rest : goal.invariant-loop-rest
invariant-loop-rest l =
    (length l.words ≡ length l.initial.words)
    × (length l.rest ≤ length l.bytes)
    × (l.records ≤ length l.bytes - length l.rest)
    × ((p : Pool) → Holds l.initial.words p → Goes l.initial.words l.words l.bytes l.rest (length l.bytes - length l.rest) l.records p)

abbrev pub decreases-loop-rest : goal.decreases-loop-rest
decreases-loop-rest l = length l.rest
