-- `chain` walks along the free chain. The loop's invariant: the slots from k on, as many as there are turns left, are
-- chained exactly where all from the first one on were. Assumes nothing.
use Prim.Native.Nat.{◌-◌}
use Rattle.sound.proofs.Chains.{Turned}
use Rattle.sound.proofs.chain.Given as goal

abbrev pub invariant-loop : goal.invariant-loop
invariant-loop l = Turned l.slots l.initial.marks l.first l.n l.marks l.k (l.n - l.counter)
