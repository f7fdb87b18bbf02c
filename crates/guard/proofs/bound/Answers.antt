-- `bound` reads a host's number as an end. Assumes nothing.
use mathlib.Core.Path.{refl}
use borrow.Author.Tests.{eq-eqb, ne_eqb}
use Rattle.guard.proofs.bound.Goals as goal

pub returns-then-included-eq0 : goal.returns-then-included-eq0
returns-then-included-eq0 c = rw (eq-eqb c.args.included 0 c.if-included-eq0.true) refl

pub returns-else-included-eq0 : goal.returns-else-included-eq0
returns-else-included-eq0 c = rw (ne_eqb c.args.included 0 c.if-included-eq0.false) refl
