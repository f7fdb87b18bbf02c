-- `zeros` is the test of a free slot. Assumes nothing.
use Rattle.clauses.specs.Slot.{zeros_here}
use Rattle.clauses.proofs.zeros.Goals as goal

pub returns : goal.returns
unfolding zeros_here
returns c =
    rw (
      c.word-5.ensures,
      c.word-4.ensures,
      c.word-3.ensures,
      c.word-2.ensures,
      c.word.ensures,
    )
