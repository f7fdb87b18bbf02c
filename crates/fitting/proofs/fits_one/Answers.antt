-- `fits_one` is the test of a slot over its only child. Assumes nothing.
use Rattle.fitting.proofs.Exact.{exact_one}
use Rattle.fitting.proofs.fits_one.Goals as goal

pub returns : goal.returns
returns c =
    rw (
      c.word-3.ensures,
      c.high-2.ensures,
      c.high.ensures,
      c.low-2.ensures,
      c.low.ensures,
      c.max-max.ensures,
      c.word-2.ensures,
      c.word.ensures,
      c.word-below.ensures,
      c.word-shape.ensures,
    )
    (exact_one c.args.slots.now c.args.k c.requires.1)
