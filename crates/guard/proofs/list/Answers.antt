-- `list` answers the query of any words: the check first, then the sound pool's answer. Assumes nothing.
use Rattle.request.proofs.Refused.{passed_on}
use Rattle.guard.proofs.Guarded.{passed, query_refused}
use Rattle.guard.proofs.list.Goals as goal

pub returns-in_err-check : goal.returns-in_err-check
returns-in_err-check g c =
    rw (passed_on c.from_residual.result c.from_residual.ensures.1 (λ f same. same))
    (query_refused c.args.pool.now c.check.ensures c.in_err-check.was _ _ _ (g.R.Row.words c.args.rows.now))

pub list-requires : goal.list-requires
list-requires g c = passed c.args.pool.now c.check.ensures c.in_ok-check.was
