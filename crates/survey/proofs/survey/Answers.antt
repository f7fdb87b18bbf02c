-- `survey` is safe: the words hold a pool before each turn. Assumes nothing.
use mathlib.Core.Path.{refl}
use Rattle.rules.specs.Pool.{capacity, right_length}
use Rattle.survey.proofs.Holding.{formatted}
use Rattle.survey.proofs.survey.Goals as goal

pub format-requires : goal.format-requires
unfolding right_length capacity
format-requires g c = rw c.told-words refl

pub loop-init : goal.loop-init
loop-init g c = formatted c.args.words.now c.told-words c.format.ensures
