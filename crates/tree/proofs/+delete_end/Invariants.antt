-- The measure is the stored height. Assumes nothing.
use Rattle.node.specs.Node.{levels_at}
use Rattle.tree.proofs.+delete_end.Given as goal

abbrev pub decreases-delete_end : goal.decreases-delete_end
decreases-delete_end l = levels_at l.slots.now l.k
