-- `header` is the test of the header. Assumes nothing.
use borrow.Author.Tests.{le-leb, lt-leb}
use Rattle.clauses.specs.Slot.{header_here}
use Rattle.clauses.proofs.header.Goals as goal

pub returns-then-count-root : goal.returns-then-count-root
unfolding header_here
returns-then-count-root c = rw (lt-leb _ _ c.if-count-root.true)

pub returns : goal.returns
unfolding header_here
returns c = rw (le-leb _ _ c.if-count-root.false)
    (rw (c.height.ensures, c.size.ensures))
