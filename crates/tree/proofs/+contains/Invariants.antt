-- The measure is the stored height. Assumes nothing.
use Rattle.node.specs.Node.{levels_at}
use Rattle.tree.proofs.+contains.Given as goal

abbrev pub decreases-contains : goal.decreases-contains
decreases-contains l = levels_at l.slots.now l.k
