-- `tree` finds a tree in a slot, or that there is none, and `subtree` does the same. The loop's invariant: what is judged
-- of the rest decides the whole. Its measure is what the slot says of its height, which falls from each slot to its
-- children. The functions' measures are twice that, and one more for `subtree`. Assumes nothing.
use Prim.Native.Nat.{◌+◌, ◌*◌}
use Rattle.node.specs.Node.{levels_at}
use Rattle.sound.proofs.Spine.{Spine}
use Rattle.sound.proofs.+subtree_tree.Given as goal

abbrev pub decreases-subtree : goal.decreases-subtree
decreases-subtree l = 2 * levels_at l.slots.now l.k + 1

abbrev pub decreases-tree : goal.decreases-tree
decreases-tree l = 2 * levels_at l.slots.now l.root

abbrev pub invariant-tree-loop-marks : goal.invariant-tree-loop-marks
invariant-tree-loop-marks l = Spine l.slots l.initial.marks l.root l.from l.after l.marks l.k l.before

abbrev pub decreases-tree-loop-marks : goal.decreases-tree-loop-marks
decreases-tree-loop-marks l = levels_at l.slots l.k
