-- `format` formats a pool of a right length, and refuses any other with 10. Assumes nothing.
use mathlib.Core.Path.{refl, sym, ◌∙◌}
use Rattle.rules.specs.Entries.{format}
use Rattle.hindraloha.proofs.format.Goals as goal

pub format-requires : goal.format-requires
format-requires c = sym c.is_right_length.ensures ∙ c.if-not-is_right_length.false

pub returns-then-not-is_right_length : goal.returns-then-not-is_right_length
unfolding format
returns-then-not-is_right_length c = rw (sym c.is_right_length.ensures ∙ c.if-not-is_right_length.true) refl

pub returns : goal.returns
unfolding format
returns c = rw (sym c.is_right_length.ensures ∙ c.if-not-is_right_length.false, c.format.ensures) refl
