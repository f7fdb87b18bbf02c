-- The measure is the stored height. Assumes nothing.
use Rattle.node.specs.Node.{levels_at}
use Rattle.tree.proofs.+delete.Given as goal

abbrev pub decreases-delete : goal.decreases-delete
decreases-delete l = levels_at l.slots.now l.k
