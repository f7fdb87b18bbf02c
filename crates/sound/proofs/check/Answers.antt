-- `check` answers the number of document 01: 10 for a wrong length, 0 where a pool is held, else 11. Assumes nothing.
use mathlib.Core.Path.{sym, ◌∙◌}
use Rattle.sound.proofs.Answers.{length-number, passed_number, failed_number}
use Rattle.sound.proofs.check.Goals as goal

pub returns-then-not-is_right_length : goal.returns-then-not-is_right_length
returns-then-not-is_right_length c =
    length-number c.args.words.now
    (sym c.is_right_length.ensures ∙ c.if-not-is_right_length.true)

pub is_sound-requires : goal.is_sound-requires
is_sound-requires c = sym c.is_right_length.ensures ∙ c.if-not-is_right_length.false

pub returns-then-not-is_sound : goal.returns-then-not-is_sound
returns-then-not-is_sound c =
    failed_number c.args.words.now
    (sym c.is_right_length.ensures ∙ c.if-not-is_right_length.false)
    c.is_sound.ensures
    c.if-not-is_sound.true

pub returns : goal.returns
returns c =
    passed_number c.args.words.now
    (sym c.is_right_length.ensures ∙ c.if-not-is_right_length.false)
    c.is_sound.ensures
    c.if-not-is_sound.false
