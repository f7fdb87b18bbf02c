-- The slot is written where there was 0, and is of the list then. Assumes nothing.
use Rattle.std.proofs.Common.{arith, ◌<◌, ◌+◌}
use Rattle.lines.proofs.Arrays.{listed_more, listed_set}
use Rattle.lines.proofs.pending.Pending.push.Goals as goal

pub invariant_of-self : goal.invariant_of-self
invariant_of-self c =
    let count = c.self.inside.count in
    let room : count < 32 = omega (arith, c.self.invariant.fits, c.self.invariant.whole, c.if-self-eq-ROOM.false) in
    let behind : count < count + 1 = omega arith in
    listed_set 32 (count + 1) c.self.inside.slots (listed_more 32 count c.self.inside.slots c.self.invariant room) count c.args.slot behind
