-- `write` of words writes three of them as a row, where there is room. Assumes nothing.
use mathlib.Core.Path.{sym}
use Rattle.rows.proofs.Lines.{no_room, some_room}
use Rattle.rows.proofs.U64Row.write.Goals as goal

pub returns-then-at-rows : goal.returns-then-at-rows
returns-then-at-rows c =
    sym (some_room _ _ _ _ _ c.if-at-rows.true)

pub returns-else-at-rows : goal.returns-else-at-rows
returns-else-at-rows c = sym (no_room _ _ _ _ _ c.if-at-rows.false)
