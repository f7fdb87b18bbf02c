-- `delete_end` leaves the tree without its outermost entry, and answers that entry's slot. The measure is the stored
-- height. Assumes nothing.
use Prim.Native.Nat.{ℕ}
use native.Mathlib.Omega.{arith}
use mathlib.Core.Path.{◌≡◌, refl}
use Rattle.balance.specs.Sides.{side_of}
use Rattle.balance.proofs.Sides.{far-from-other}
use Rattle.balance.proofs.Rotated.{far_child}
use Rattle.settle.proofs.Changed.{told_still}
use Rattle.tree.proofs.Shedding.{far_small, sheds_last, goes_out, end_there, hangs_shed, lowered_above, discounts_above, discounted_above}
use Rattle.tree.proofs.+delete_end.Goals as goal
use Rattle.tree.proofs.+delete_end.Goals.{After-child-far}

far_is : (t : ℕ) (c : After-child-far t)
    → c.child-far.result ≡ far_child (side_of c.args.side) c.args.slots.now c.args.k
far_is t c = far-from-other (side_of c.args.side) _ _ c.opposite.ensures c.child-far.ensures

pub moved-requires : goal.moved-requires
moved-requires t c =
    let f = (goal.at.moved-requires t c).After-child-far in
    let p = c.requires in
    far_small (side_of c.args.side) c.child-near.ensures (far_is t f) p.0 p.1.rooted p.2

pub returns-then-near-eq0 : goal.returns-then-near-eq0
returns-then-near-eq0 t c u p tall =
    let f = (goal.at.returns-then-near-eq0 t c).After-child-far in
    sheds_last (side_of c.args.side) c.child-near.ensures (far_is t f) u p tall c.if-near-eq0.true c.moved.ensures

pub delete_end-below-requires : goal.delete_end-below-requires
delete_end-below-requires t c =
    let p = c.requires in
    let out = goes_out (side_of c.args.side) c.child-near.ensures refl p.0 p.1 p.2 c.if-near-eq0.false in
    (rw (← c.decreases) out.0, out.1)

pub word-end-requires : goal.word-end-requires
word-end-requires t c =
    let p = c.requires in
    (end_there (side_of c.args.side) c.child-near.ensures refl c.if-near-eq0.false c.delete_end-below.ensures p.0 p.1 p.2, omega arith)

pub count-requires : goal.count-requires
count-requires t c =
    let p = c.requires in
    discounts_above (side_of c.args.side) c.child-near.ensures refl c.if-near-eq0.false c.delete_end-below.ensures c.word-end.ensures (told_still c.is_still.ensures c.if-is_still.true) p.0 p.1 p.2

pub returns-then-is_still : goal.returns-then-is_still
returns-then-is_still t c u p tall =
    discounted_above (side_of c.args.side) c.child-near.ensures refl c.if-near-eq0.false c.delete_end-below.ensures c.word-end.ensures (told_still c.is_still.ensures c.if-is_still.true) u p tall
    c.count.ensures c.still.ensures

pub over-top-requires : goal.over-top-requires
over-top-requires t c =
    let p = c.requires in
    rw c.root.ensures
    (hangs_shed (side_of c.args.side) c.child-near.ensures refl c.if-near-eq0.false c.delete_end-below.ensures c.word-end.ensures p.0 p.1 p.2)

pub returns : goal.returns
returns t c u p tall =
    lowered_above (side_of c.args.side) c.child-near.ensures refl c.if-near-eq0.false c.delete_end-below.ensures c.word-end.ensures u p tall
    (rw c.root.ensures at c.over-top.ensures)
