-- `mend_from` mends, and compares the heights before and after. Assumes nothing.
use Rattle.node.proofs.Trees.{at_root}
use Rattle.settle.proofs.Changed.{root-small, settles_read}
use Rattle.settle.proofs.mend_from.Goals as goal

pub since-requires : goal.since-requires
since-requires c =
    let p = c.requires.1 in
    let done = c.mend-root.ensures p.0 p.1 p.2 p.3 p.4 in
    ((at_root done.rooted).inside, root-small done)

pub returns : goal.returns
returns c e t u h tall =
    settles_read (c.mend-root.ensures e t u h tall) (rw c.height-height.ensures at c.since.ensures)
