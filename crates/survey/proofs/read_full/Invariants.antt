-- `read_full` reads no more than there is room for. The measure is the number of bytes that are left. Assumes nothing.
use Rattle.std.specs.Prelude.{length, ◌-◌, ◌≡◌, ◌≤◌}
use Rattle.survey.proofs.read_full.Given as goal

abbrev pub invariant-loop-done : goal.invariant-loop-done
invariant-loop-done g l = (l.done ≤ length l.bytes) × (length l.bytes ≡ length l.initial.bytes)

abbrev pub decreases-loop-done : goal.decreases-loop-done
decreases-loop-done g l = length l.initial.bytes - l.done
