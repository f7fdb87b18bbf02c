-- `Interval::from_inclusive` answers the range one longer, and none for the largest number. Assumes nothing.
use borrow.Author.Tests.{lt-ltb, le-ltb}
use native.Mathlib.Omega.{arith}
use Prim.Native.Nat.{◌+◌}
use Rattle.rules.specs.Limits.{beyond}
use Rattle.rules.specs.Range.{range_to}
use Rattle.interval.proofs.Interval.from_inclusive.Goals as goal

pub returns-in_err-end : goal.returns-in_err-end
unfolding range_to
returns-in_err-end c =
    let past = c.in_err-end.ensures in
    rw (c.from_residual.ensures, le-ltb (c.args.last + 1) beyond (omega (arith, past)))

pub returns : goal.returns
unfolding range_to
returns c =
    let within = c.in_ok-end.ensures in
    rw (within.1, lt-ltb (c.args.last + 1) beyond within.0)
