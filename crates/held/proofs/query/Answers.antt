-- `query` fills the records whose words are the rows. Assumes nothing.
use mathlib.Core.Path.{sym, ◌∙◌}
use Rattle.rules.specs.Query.{hits}
use Rattle.interval.specs.Interval.{range_of}
use Rattle.held.proofs.Records.{rows_are_records, words_tell}
use Rattle.held.proofs.query.Goals as goal

pub returns : goal.returns
returns c t h =
    let told = c.query.ensures t h in
    (told.0, words_tell _ _ (told.1 ∙ sym (rows_are_records (hits (range_of c.args.query) t) c.args.rows.now)))
