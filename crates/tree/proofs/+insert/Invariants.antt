-- The measure is the stored height. Assumes nothing.
use Rattle.node.specs.Node.{levels_at}
use Rattle.tree.proofs.+insert.Given as goal

abbrev pub decreases-insert : goal.decreases-insert
decreases-insert l = levels_at l.slots.now l.k
