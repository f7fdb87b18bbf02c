-- `fits_alone` is the test of a slot without children. Assumes nothing.
use mathlib.Core.Path.{◌∙◌}
use native.Mathlib.Omega.{arith}
use Rattle.fitting.proofs.Exact.{exact_none}
use Rattle.fitting.proofs.Nodes.{exact_fits}
use Rattle.fitting.proofs.fits_alone.Goals as goal

pub returns : goal.returns
returns c =
    let links = c.requires.1 in
    rw (c.word-3.ensures, c.word-2.ensures, c.pack.ensures, c.word.ensures)
    (exact_none c.args.slots.now c.args.k
    ∙ exact_fits c.args.slots.now c.args.k {l = 0} {r = 0} (omega (arith, links))
    (omega (arith, links)) (omega arith, omega arith))
