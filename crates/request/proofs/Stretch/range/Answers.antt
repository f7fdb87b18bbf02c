-- `Stretch::range` answers the range that is named, where there is one. Assumes nothing.
use mathlib.Core.Path.{ap}
use Rattle.std.specs.Prelude.{Ok}
use Rattle.rules.specs.Range.{range_to}
use Rattle.request.proofs.Stretch.range.Goals as goal

pub returns-in-Excluded : goal.returns-in-Excluded
unfolding range_to
returns-in-Excluded c = rw c.in-Excluded.is (ap (λ r. Ok (record { start = r.start; end = r.end })) c.new.ensures)
