-- `apply` answers what the rules do with what was read. Assumes nothing.
use mathlib.Core.Path.{◌≡◌}
use Rattle.rules.specs.Record.{whole, kinds, reads}
use Rattle.request.specs.Requests.{request_of}
use Rattle.request.proofs.Refused.{passed_on}
use Rattle.record.proofs.Hitless.{unless_query}
use Rattle.record.proofs.Applying.{asked_done, asked_refused, edited_done, edited_refused}
use Rattle.record.proofs.apply.Goals as goal
use Rattle.record.proofs.apply.Goals.{In_ok-record}

-- what was read
read : (d : In_ok-record) → reads kinds d.args.bytes.now ≡ whole (request_of d.in_ok-record.record.request) d.in_ok-record.record.taken
read d = let is = rw d.in_ok-record.was at d.read.ensures in cc

pub returns-in_err-hits : goal.returns-in_err-hits
returns-in_err-hits c p h =
    rw (passed_on c.from_residual-in_err-hits.result c.from_residual-in_err-hits.ensures.1 (λ f same. same), read (goal.at.returns-in_err-hits c).In_ok-record, c.in-Query.is)
    (asked_refused h _ _ _ _ c.args.rows.now _ (rw c.in_err-hits.was at c.list.ensures))

pub returns-in-Query : goal.returns-in-Query
returns-in-Query c p h =
    rw (read (goal.at.returns-in-Query c).In_ok-record, c.in-Query.is)
    (asked_done h _ _ _ _ c.args.rows.now (rw c.in_ok-hits.was at c.list.ensures))

pub returns-in_err-outcome : goal.returns-in_err-outcome
returns-in_err-outcome c p h =
    rw (passed_on c.from_residual-in_err-outcome.result c.from_residual-in_err-outcome.ensures.1 (λ f same. same), read (goal.at.returns-in_err-outcome c).In_ok-record)
    (edited_refused _ _ p _ (unless_query _ c.in_ok-record.record.request p c.in_default.not-Query) _ (rw c.in_err-outcome.was at c.edit.ensures p h))

pub returns : goal.returns
returns c p h =
    rw (read (goal.at.returns c).In_ok-record)
    (edited_done _ _ p _ (unless_query _ c.in_ok-record.record.request p c.in_default.not-Query) _ (rw c.in_ok-outcome.was at c.edit.ensures p h))
