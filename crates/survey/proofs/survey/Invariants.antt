-- `survey` is safe: the words hold a pool before each turn. Assumes nothing.
use Rattle.survey.specs.Ready.{Ready}
use Rattle.survey.proofs.survey.Given as goal

abbrev pub invariant-loop : goal.invariant-loop
invariant-loop g l = Ready l.words
