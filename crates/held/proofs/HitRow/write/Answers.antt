-- `write` of records writes one as a row, where there is room. Assumes nothing.
use Rattle.held.proofs.Records.{written, not_written}
use Rattle.held.proofs.HitRow.write.Goals as goal

pub returns-then-n-rows : goal.returns-then-n-rows
returns-then-n-rows c = written c.args.n c.args.rows.now _ c.if-n-rows.true

pub returns-else-n-rows : goal.returns-else-n-rows
returns-else-n-rows c = not_written c.args.n c.args.rows.now _ _ _ c.if-n-rows.false
