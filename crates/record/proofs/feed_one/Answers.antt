-- `feed_one` is one turn of the rules' feed. Assumes nothing.
use mathlib.Core.Path.{◌≡◌}
use Rattle.rules.specs.Record.{whole, feed_kinds, reads}
use Rattle.request.specs.Requests.{request_of}
use Rattle.request.proofs.Refused.{passed_on}
use Rattle.record.proofs.Feeding.{turned_on, turned_off}
use Rattle.record.proofs.feed_one.Goals as goal
use Rattle.record.proofs.feed_one.Goals.{In_ok-record}

-- what was read
read : (d : In_ok-record) → reads feed_kinds d.args.bytes.now ≡ whole (request_of d.in_ok-record.record.request) d.in_ok-record.record.taken
read d = let is = rw d.in_ok-record.was at d.read_in_feed.ensures in cc

pub returns-in_err-edit : goal.returns-in_err-edit
returns-in_err-edit c p h there =
    rw (passed_on c.from_residual-in_err-edit.result c.from_residual-in_err-edit.ensures.1 (λ f same. same))
    (turned_off c.args.bytes.now _ h there (read (goal.at.returns-in_err-edit c).In_ok-record) _ (rw c.in_err-edit.was at c.edit.ensures p h))

pub returns : goal.returns
returns c p h there =
    turned_on c.args.bytes.now _ h there (read (goal.at.returns c).In_ok-record) _ (rw c.in_ok-edit.was at c.edit.ensures p h)
