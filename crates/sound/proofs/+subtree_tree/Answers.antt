-- `tree` finds a tree in a slot, or that there is none, and `subtree` does the same. The loop's invariant: what is judged
-- of the rest decides the whole. Its measure is what the slot says of its height, which falls from each slot to its
-- children. The functions' measures are twice that, and one more for `subtree`. Assumes nothing.
use native.Mathlib.Omega.{arith}
use Rattle.sound.specs.Claims.{Parent}
use Rattle.sound.proofs.Verdict.{Passed, passes, judged_here, judged_left, left_falls, right_falls, ready_left}
use Rattle.sound.proofs.Spine.{spine_on}
use Rattle.sound.proofs.+subtree_tree.Goals as goal

pub tree-returns-then-not-claim-fits : goal.tree-returns-then-not-claim-fits
tree-returns-then-not-claim-fits t c =
    let parent : Parent c.args.slots.now c.loop-marks.k = c.has_children.ensures.accepted c.loop-marks-test.true in
    let spine = c.loop-marks.invariant in
    spine.rest
    (judged_here parent.from_one spine.ready c.claim.ensures.was c.fits.ensures c.if-not-claim-fits.true)

pub tree-subtree-requires : goal.tree-subtree-requires
tree-subtree-requires t c =
    let low = (c.has_children.ensures.accepted c.loop-marks-test.true).from_one in
    let spine = c.loop-marks.invariant in
    let passed : Passed c.args.slots.now c.loop-marks.marks c.loop-marks.k =
    passes c.claim.ensures.was c.fits.ensures c.if-not-claim-fits.false in (
      left_falls low spine.ready passed c.left.ensures (omega (arith, spine.no_higher, c.decreases)),
      ready_left low spine.ready passed c.claim.ensures.left c.left.ensures,
    )

pub tree-returns-then-not-subtree : goal.tree-returns-then-not-subtree
tree-returns-then-not-subtree t c =
    let low = (c.has_children.ensures.accepted c.loop-marks-test.true).from_one in
    let spine = c.loop-marks.invariant in
    spine.rest
    (judged_left low spine.ready c.claim.ensures.left c.left.ensures
    (rw c.if-not-subtree.true at c.subtree.ensures))

pub tree-loop-marks-smaller : goal.tree-loop-marks-smaller
tree-loop-marks-smaller t c =
    let low = (c.has_children.ensures.accepted c.loop-marks-test.true).from_one in
    let passed : Passed c.args.slots.now c.loop-marks.marks c.loop-marks.k =
    passes c.claim.ensures.was c.fits.ensures c.if-not-claim-fits.false in
    right_falls low c.loop-marks.invariant.ready passed c.right-k.ensures.0

pub tree-loop-marks-preserved : goal.tree-loop-marks-preserved
tree-loop-marks-preserved t c =
    let low = (c.has_children.ensures.accepted c.loop-marks-test.true).from_one in
    let passed : Passed c.args.slots.now c.loop-marks.marks c.loop-marks.k =
    passes c.claim.ensures.was c.fits.ensures c.if-not-claim-fits.false in
    spine_on low c.loop-marks.invariant passed c.claim.ensures.left c.left.ensures c.right-k.ensures.0
    (rw c.if-not-subtree.false at c.subtree.ensures)
