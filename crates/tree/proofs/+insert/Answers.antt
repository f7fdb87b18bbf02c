-- `insert` leaves the rules' tree, or nothing changed where the range was there. The measure is the stored height.
-- Assumes nothing.
use Prim.Native.Nat.{ℕ}
use mathlib.Core.Path.{refl, sym}
use Rattle.rules.specs.Tree.{Entry}
use Rattle.rules.specs.Balance.{Side}
use Rattle.node.specs.Node.{entry}
use Rattle.balance.specs.Sides.{side_of}
use Rattle.balance.proofs.Rotated.{far_child}
use Rattle.settle.proofs.Changed.{told_still}
use Rattle.tree.proofs.Hanging.{way-told, Turn}
use Rattle.tree.proofs.Inserting.{into_none, into_there, goes_down, there_below, hangs, raised_above, counts_above, counted_above}
use Rattle.tree.proofs.+insert.Goals as goal
use Rattle.tree.proofs.+insert.Goals.{After-child-child}

pub returns-then-k-eq0 : goal.returns-then-k-eq0
returns-then-k-eq0 t c u p =
    let a = c.args in
    into_none (entry a.new a.range.start a.range.end a.value) u c.if-k-eq0.true p c.new.ensures c.moved.ensures

pub returns-in_err-side : goal.returns-in_err-side
returns-in_err-side t c u p =
    let a = c.args in
    rw c.from_residual.ensures
    (into_there (entry a.new a.range.start a.range.end a.value) u c.if-k-eq0.false p (sym c.in_err-side.ensures))

abbrev side : (t : ℕ) → After-child-child t → Side
side t d = side_of d.in_ok-side.side

-- the entry that is to be put in
abbrev added : (t : ℕ) → After-child-child t → Entry
added t d = let a = d.args in entry a.new a.range.start a.range.end a.value

-- the way that the order sends it
turn : (t : ℕ) (d : After-child-child t)
    → let a = d.args in Turn (side t d) (added t d).range a.slots.now a.k d.child-child.result (far_child (side t d) a.slots.now a.k)
turn t d =
    record {
      there = d.if-k-eq0.false;
      near_is = d.child-child.ensures;
      far_is = refl;
      way_is = way-told d.in_ok-side.side d.in_ok-side.ensures;
    }

pub insert-requires : goal.insert-requires
insert-requires t c =
    let d = (goal.at.insert-requires t c).After-child-child in
    let p = c.requires in
    let down = goes_down (added t d) (turn t d) p.0 p.1 in
    (rw (← c.decreases) down.0, down.1)

pub returns-in_err-below : goal.returns-in_err-below
returns-in_err-below t c u p =
    let d = (goal.at.returns-in_err-below t c).After-child-child in
    rw c.from_residual-in_err-below.ensures (there_below (added t d) (turn t d) u p c.in_err-below.ensures)

pub count-requires : goal.count-requires
count-requires t c =
    let d = (goal.at.count-requires t c).After-child-child in
    let p = c.requires in
    let kept = told_still c.is_still.ensures c.if-is_still.true in
    counts_above (added t d) (turn t d) c.in_ok-below.ensures kept p.0 p.1

pub returns-then-is_still : goal.returns-then-is_still
returns-then-is_still t c u p =
    let d = (goal.at.returns-then-is_still t c).After-child-child in
    let kept = told_still c.is_still.ensures c.if-is_still.true in
    counted_above (added t d) (turn t d) c.in_ok-below.ensures kept u p c.count.ensures c.still.ensures

pub over-requires : goal.over-requires
over-requires t c =
    let d = (goal.at.over-requires t c).After-child-child in
    let p = c.requires in
    rw c.root.ensures (hangs (added t d) (turn t d) c.in_ok-below.ensures p.0 p.1)

pub returns : goal.returns
returns t c u p =
    let d = (goal.at.returns t c).After-child-child in
    raised_above (added t d) (turn t d) c.in_ok-below.ensures u p (rw c.root.ensures at c.over.ensures)
