-- `is_shape_over` is the test of a shape over two others. Assumes nothing.
use mathlib.Core.Path.{refl}
use Rattle.fitting.specs.Fits.{exact_shape}
use Rattle.fitting.proofs.is_shape_over.Goals as goal

pub returns : goal.returns
unfolding exact_shape
returns c =
    rw (
      c.high-3.ensures,
      c.high-2.ensures,
      c.high.ensures,
      c.max.ensures,
      c.low.ensures,
      c.low-b.ensures,
      c.low-a.ensures,
    )
    refl
