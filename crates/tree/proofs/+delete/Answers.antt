-- `delete` leaves the rules' tree and answers the slot of the entry that went, or nothing changed where the range was not
-- there. The measure is the stored height. Assumes nothing.
use Prim.Native.Nat.{ℕ}
use mathlib.Core.Path.{refl, sym}
use Rattle.rules.specs.Range.{Range}
use Rattle.rules.specs.Balance.{Side}
use Rattle.interval.specs.Interval.{range_of}
use Rattle.balance.specs.Sides.{side_of}
use Rattle.balance.proofs.Rotated.{far_child}
use Rattle.settle.proofs.Changed.{told_still}
use Rattle.tree.proofs.Hanging.{way-told, Turn}
use Rattle.tree.proofs.Removing.{from-none, goes_itself, looks_below, absent_below, hangs_gone, lowered_above, discounts_above, discounted_above}
use Rattle.tree.proofs.+delete.Goals as goal
use Rattle.tree.proofs.+delete.Goals.{After-child-child}

pub returns-then-k-eq0 : goal.returns-then-k-eq0
returns-then-k-eq0 t c u p = rw c.still.ensures (from-none (range_of c.args.range) u c.if-k-eq0.true p.rooted)

pub returns-in-None : goal.returns-in-None
returns-in-None t c u p =
    goes_itself (range_of c.args.range) u p c.if-k-eq0.false (sym c.in-None.ensures) c.delete_here-top.ensures

abbrev side : (t : ℕ) → After-child-child t → Side
side t d = side_of d.in-Some.side

abbrev sought : (t : ℕ) → After-child-child t → Range
sought t d = range_of d.args.range

-- the way that the order sends the search
turn : (t : ℕ) (d : After-child-child t)
    → let a = d.args in Turn (side t d) (sought t d) a.slots.now a.k d.child-child.result (far_child (side t d) a.slots.now a.k)
turn t d =
    record {
      there = d.if-k-eq0.false;
      near_is = d.child-child.ensures;
      far_is = refl;
      way_is = way-told d.in-Some.side d.in-Some.ensures;
    }

pub delete-below-requires : goal.delete-below-requires
delete-below-requires t c =
    let d = (goal.at.delete-below-requires t c).After-child-child in
    let p = c.requires in
    let down = looks_below (sought t d) (turn t d) p.0 p.1 in
    (rw (← c.decreases) down.0, down.1)

pub returns-then-slot-eq0 : goal.returns-then-slot-eq0
returns-then-slot-eq0 t c u p =
    let d = (goal.at.returns-then-slot-eq0 t c).After-child-child in
    absent_below (sought t d) (turn t d) u p c.if-slot-eq0.true c.delete-below.ensures

pub count-requires : goal.count-requires
count-requires t c =
    let d = (goal.at.count-requires t c).After-child-child in
    let p = c.requires in
    let kept = told_still c.is_still.ensures c.if-is_still.true in
    discounts_above (sought t d) (turn t d) c.if-slot-eq0.false c.delete-below.ensures kept p.0 p.1

pub returns-then-is_still : goal.returns-then-is_still
returns-then-is_still t c u p =
    let d = (goal.at.returns-then-is_still t c).After-child-child in
    let kept = told_still c.is_still.ensures c.if-is_still.true in
    discounted_above (sought t d) (turn t d) c.if-slot-eq0.false c.delete-below.ensures kept u p
    c.count.ensures c.still-then-is_still.ensures

pub over-top-requires : goal.over-top-requires
over-top-requires t c =
    let d = (goal.at.over-top-requires t c).After-child-child in
    let p = c.requires in
    rw c.root.ensures (hangs_gone (sought t d) (turn t d) c.if-slot-eq0.false c.delete-below.ensures p.0 p.1)

pub returns : goal.returns
returns t c u p =
    let d = (goal.at.returns t c).After-child-child in
    lowered_above (sought t d) (turn t d) c.if-slot-eq0.false c.delete-below.ensures u p
    (rw c.root.ensures at c.over-top.ensures)
