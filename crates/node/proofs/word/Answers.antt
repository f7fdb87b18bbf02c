-- `word` reads a word of a slot. Assumes nothing.
use mathlib.Core.Path.{refl}
use Rattle.rules.specs.Stored.{slot_word}
use Rattle.node.proofs.word.Goals as goal

pub returns : goal.returns
unfolding slot_word
returns c = refl
