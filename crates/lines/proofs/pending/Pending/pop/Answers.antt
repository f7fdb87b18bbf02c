-- The slot that is taken leaves 0 behind. Assumes nothing.
use Rattle.std.proofs.Common.{rules, arith, ◌<◌}
use Rattle.lines.proofs.Arrays.{listed_less}
use Rattle.lines.proofs.pending.Pending.pop.Goals as goal

pub invariant_of-self : goal.invariant_of-self
invariant_of-self c =
    let count = c.self.inside.count in
    let some : 0 < count = search rules in
    listed_less 32 count c.self.inside.slots c.self.invariant _ (omega (arith, some))
