-- `fits_both` is the test of a slot over two children. Assumes nothing.
use Rattle.fitting.proofs.Exact.{exact_both}
use Rattle.fitting.proofs.fits_both.Goals as goal

pub returns : goal.returns
returns c =
    rw (
      c.max.ensures,
      c.word-4.ensures,
      c.word-3.ensures,
      c.is_shape_over.ensures,
      c.max-below.ensures,
      c.word-2.ensures,
      c.word.ensures,
      c.word-right.ensures,
      c.word-left.ensures,
      c.word-shape.ensures,
    )
    (exact_both c.args.slots.now c.args.k c.requires.1 c.requires.2)
