-- `set_words` changes three words of a slot. Assumes nothing.
use mathlib.Core.Path.{refl}
use Rattle.node.specs.Node.{with_words}
use Rattle.node.proofs.set_words.Goals as goal

pub returns : goal.returns
unfolding with_words
returns c = refl
