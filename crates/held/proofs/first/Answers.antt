-- `first` has the slot that the step from the root hit, which is the first of all hits. Assumes nothing.
use Rattle.rules.specs.Steps.{at_start}
use Rattle.interval.specs.Interval.{range_of}
use Rattle.held.proofs.Earliest.{first_found}
use Rattle.held.proofs.first.Goals as goal

pub returns : goal.returns
returns c t h =
    let made = c.new.ensures in
    let turned = c.next.ensures.steps.2 (at_start t) (rw made.0 (made.2 t h)) in
    rw (← first_found (range_of c.args.query) h, ← made.0, ← made.1) turned.hits
