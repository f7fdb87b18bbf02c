-- `set_header` stores the first three words. Assumes nothing.
use mathlib.Core.Path.{refl}
use Rattle.pool.specs.Around.{with_header}
use Rattle.pool.proofs.set_header.Goals as goal

pub returns : goal.returns
unfolding with_header
returns c = refl
