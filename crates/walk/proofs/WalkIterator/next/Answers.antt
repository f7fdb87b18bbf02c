-- `next` of a walk gives the hit that the function `next` finds, and has less to come then. Assumes nothing.
use Rattle.interval.specs.Interval.{range_of}
use Rattle.walk.proofs.Going.{goes_on}
use Rattle.walk.proofs.Seeking.{next_less, hit-pending}
use Rattle.walk.proofs.WalkIterator.next.Goals as goal

pub returns-clause-goes : goal.returns-clause-goes
returns-clause-goes c =
    let stands = c.requires.1 in
    let left = c.next-after.ensures c.requires.0 stands in
    let q = range_of c.args.self.now.query in
    goes_on c.next-after.result.hit (λ some. ((_, left.stands), next_less q stands left (hit-pending q stands left some)))
