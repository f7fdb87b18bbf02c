-- `contains` answers whether the rules' `find` finds the range. The measure is the stored height. Assumes nothing.
use Prim.Native.Nat.{ℕ}
use mathlib.Core.Path.{refl, sym}
use Rattle.rules.specs.Range.{Range}
use Rattle.rules.specs.Balance.{Side}
use Rattle.interval.specs.Interval.{range_of}
use Rattle.balance.specs.Sides.{side_of}
use Rattle.balance.proofs.Rotated.{far_child}
use Rattle.tree.proofs.Hanging.{way-told, Turn}
use Rattle.tree.proofs.Containing.{none-there, is_there, there_in_child, seeks_below}
use Rattle.tree.proofs.+contains.Goals as goal
use Rattle.tree.proofs.+contains.Goals.{After-child}

pub returns-then-k-eq0 : goal.returns-then-k-eq0
returns-then-k-eq0 t c u p = none-there (range_of c.args.range) u c.if-k-eq0.true p

pub returns-in-None : goal.returns-in-None
returns-in-None t c u p = is_there (range_of c.args.range) u c.if-k-eq0.false p (sym c.in-None.ensures)

abbrev side : (t : ℕ) → After-child t → Side
side t d = side_of d.in-Some.side

-- the range that is looked for
abbrev sought : (t : ℕ) → After-child t → Range
sought t d = range_of d.args.range

-- the way that the order sends the search
turn : (t : ℕ) (d : After-child t)
    → let a = d.args in Turn (side t d) (sought t d) a.slots.now a.k d.child.result (far_child (side t d) a.slots.now a.k)
turn t d =
    record {
      there = d.if-k-eq0.false;
      near_is = d.child.ensures;
      far_is = refl;
      way_is = way-told d.in-Some.side d.in-Some.ensures;
    }

pub contains-requires : goal.contains-requires
contains-requires t c =
    let d = (goal.at.contains-requires t c).After-child in
    let p = c.requires in
    let down = seeks_below (sought t d) (turn t d) p.0 p.1 in
    (rw (← c.decreases) down.0, down.1)

pub returns-in-Some : goal.returns-in-Some
returns-in-Some t c u p =
    let d = (goal.at.returns-in-Some t c).After-child in
    there_in_child (sought t d) (turn t d) u p c.contains.ensures
