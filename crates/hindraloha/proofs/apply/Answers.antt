-- `apply` is the rules' apply: the check first, then what the sound pool does with the record. Assumes nothing.
use Rattle.request.proofs.Refused.{passed_on}
use Rattle.guard.proofs.Guarded.{passed}
use Rattle.rules.specs.Pool.{Pool, Holds}
use Rattle.hindraloha.proofs.Answering.{apply_refused_whole, apply_served}
use Rattle.hindraloha.proofs.apply.Goals as goal
use Rattle.hindraloha.proofs.apply.Goals.{In_ok-check}

-- the pool that passed the check
held : (d : In_ok-check) → (p : Pool) × Holds d.args.pool.now p
held d = passed d.args.pool.now d.check.ensures d.in_ok-check.was

pub returns-in_err-check : goal.returns-in_err-check
returns-in_err-check c =
    rw (passed_on c.from_residual.result c.from_residual.ensures.1 (λ f same. same))
    (apply_refused_whole c.args.pool.now c.check.ensures c.in_err-check.was c.args.bytes.now c.args.rows.now)

pub apply-requires : goal.apply-requires
apply-requires c = held (goal.at.apply-requires c).In_ok-check

pub returns : goal.returns
returns c =
    let pool = held (goal.at.returns c).In_ok-check in
    apply_served pool.1 c.args.bytes.now c.args.rows.now (c.apply.ensures pool.0 pool.1)
