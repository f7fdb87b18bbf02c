-- `Interval::intersect` answers the shared range of document 01, where there is one. Assumes nothing.
use mathlib.Core.Bool.{Bool, true, false, cond}
use mathlib.Core.Path.{◌≡◌, refl}
use Rattle.std.specs.Bool.{then_some}
use Rattle.std.proofs.Math.Option.{some, none}
use Rattle.rules.specs.Range.{overlaps, intersect}
use Rattle.interval.specs.Interval.{range_of, found_of}
use Rattle.interval.specs.declared.Interval.{Interval}
use Rattle.interval.proofs.Interval.intersect.Goals as goal

-- the range where the test says so
found : (t : Bool) (i : Interval) → found_of (then_some t i) ≡ cond t (some (range_of i)) none
found true i = refl
found false i = refl

pub returns : goal.returns
unfolding intersect overlaps
returns c =
    rw (c.then_some.ensures, found c.is_valid.result _, c.is_valid.ensures, c.max-start.ensures, c.min-end.ensures)
