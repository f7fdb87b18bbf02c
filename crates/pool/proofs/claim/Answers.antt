-- `claim` stores the header. Assumes nothing.
use Rattle.pool.proofs.Changed.{claimed}
use Rattle.pool.proofs.claim.Goals as goal

pub returns : goal.returns
returns c =
    let start = c in
    rw c.set_header.ensures
    (claimed start.args.words.now start.args.top start.args.next start.requires.0)
