-- `start` leaves only the root pending, if there is one. Assumes nothing.
use mathlib.Core.Path.{sym, ap, ◌∙◌}
use lib.ListN.{length, length-set}
use Rattle.walk.proofs.Stack.{starts}
use Rattle.walk.proofs.start.Goals as goal

pub returns : goal.returns
returns c ss t h =
    let left = c.leave-pending.ensures in
    rw (left.0, left.1)
    (starts _ h (sym (length-set c.args.stack.now 0 c.args.root) ∙ ap length (sym left.0) ∙ c.leave-pending.array_long))
