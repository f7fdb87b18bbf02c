-- `delete_here` leaves what closes the place of the entry, and compares the heights before and after. Assumes nothing.
use mathlib.Core.Path.{◌∙◌}
use Rattle.node.proofs.Trees.{at_root}
use Rattle.settle.proofs.Changed.{root-small, settles_read}
use Rattle.tree.proofs.Removing.{pair_below}
use Rattle.tree.proofs.delete_here.Goals as goal

pub close-root-requires : goal.close-root-requires
close-root-requires c =
    let p = c.requires in
    (p.1, p.2, pair_below c.child-left.ensures c.child-right.ensures p.3)

pub since-requires : goal.since-requires
since-requires c =
    let p = c.requires in
    let done = c.close-root.ensures p.1 p.2 (pair_below c.child-left.ensures c.child-right.ensures p.3) in
    ((at_root done.rooted).inside, root-small done)

pub returns : goal.returns
returns c e t u p =
    let was = c.height-height.ensures ∙ (at_root p.rooted).levels_is in
    settles_read (c.close-root.ensures t u (pair_below c.child-left.ensures c.child-right.ensures p))
    (rw was at c.since.ensures)
