-- `straighten` turns the child on the side where the rules do. Assumes nothing.
use mathlib.Core.Path.{◌≡◌}
use Rattle.balance.specs.Sides.{side_of}
use Rattle.balance.proofs.Sides.{far-from-other}
use Rattle.balance.proofs.Rotated.{far_child}
use Rattle.balance.proofs.Mended.{outer_inside, inner_inside, turnable, turned, straight_yet}
use Rattle.balance.proofs.straighten.Goals as goal
use Rattle.balance.proofs.straighten.Goals.{After-child-inner}

inner_is : (d : After-child-inner)
    → let a = d.args in d.child-inner.result ≡ far_child (side_of a.side) a.slots.now a.a
inner_is d = far-from-other (side_of d.args.side) _ _ d.opposite-turned.ensures d.child-inner.ensures

pub height-requires : goal.height-requires
height-requires c =
    let d = (goal.at.height-requires c).After-child-inner in
    let p = c.requires in
    outer_inside (side_of c.args.side) (inner_is d) c.child-outer.ensures p.0 p.1 p.2

pub height-requires-2 : goal.height-requires-2
height-requires-2 c =
    let d = (goal.at.height-requires-2 c).After-child-inner in
    let p = c.requires in
    inner_inside (side_of c.args.side) (inner_is d) c.child-outer.ensures p.0 p.1 p.2

pub rotate-requires : goal.rotate-requires
rotate-requires c =
    let d = (goal.at.rotate-requires c).After-child-inner in
    let p = c.requires in
    turnable (side_of c.args.side) (inner_is d) c.child-outer.ensures p.0 p.1 p.2
    (rw (c.height.ensures, c.height-2.ensures) at c.if-height.true)

pub returns-then-height : goal.returns-then-height
returns-then-height c t p tall =
    let d = (goal.at.returns-then-height c).After-child-inner in
    turned (side_of c.args.side) (inner_is d) c.child-outer.ensures t p tall
    (rw (c.height.ensures, c.height-2.ensures) at c.if-height.true)
    (rw c.opposite-turned.ensures at c.rotate.ensures)

pub returns : goal.returns
returns c t p tall =
    let d = (goal.at.returns c).After-child-inner in
    straight_yet (side_of c.args.side) (inner_is d) c.child-outer.ensures t p tall
    (rw (c.height.ensures, c.height-2.ensures) at c.if-height.false)
