-- `rotate` stores the lifted tree. Assumes nothing.
use mathlib.Core.Path.{◌≡◌}
use Rattle.balance.specs.Sides.{side_of}
use Rattle.balance.proofs.Sides.{far-from-other}
use Rattle.balance.proofs.Rotated.{far_child, first_join, second_join, both_joins}
use Rattle.balance.proofs.rotate.Goals as goal
use Rattle.balance.proofs.rotate.Goals.{After-child-inner}

inner_is : (d : After-child-inner)
    → let a = d.args in d.child-inner.result ≡ far_child (side_of a.side) a.slots.now a.a
inner_is d = far-from-other (side_of d.args.side) _ _ d.opposite.ensures d.child-inner.ensures

pub join-requires : goal.join-requires
join-requires c =
    let d = (goal.at.join-requires c).After-child-inner in
    let p = c.requires in
    first_join (side_of c.args.side) (inner_is d) c.child-outer.ensures p.0 p.1 p.2 p.3 p.4

pub join-requires-2 : goal.join-requires-2
join-requires-2 c =
    let d = (goal.at.join-requires-2 c).After-child-inner in
    let p = c.requires in
    second_join (side_of c.args.side) (inner_is d) c.child-outer.ensures p.0 p.1 p.2 p.3 p.4 c.join.ensures

pub returns : goal.returns
returns c e t u h tall =
    let d = (goal.at.returns c).After-child-inner in
    both_joins (side_of c.args.side) (inner_is d) c.child-outer.ensures e t u h tall c.join.ensures c.join-2.ensures
