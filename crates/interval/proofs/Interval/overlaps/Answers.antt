-- `Interval::overlaps` answers the overlap of document 01. Assumes nothing.
use Rattle.rules.specs.Range.{overlaps}
use Rattle.interval.proofs.Tested.{each_below}
use Rattle.interval.proofs.Interval.overlaps.Goals as goal

pub returns : goal.returns
unfolding overlaps
returns c =
    let a = c.args in
    each_below a.self.start a.self.end a.other.start a.other.end
