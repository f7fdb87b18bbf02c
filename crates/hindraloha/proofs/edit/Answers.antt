-- `edit` is the rules' entry for a request: the check first, then the sound pool's answer. Assumes nothing.
use Rattle.request.proofs.Refused.{passed_on}
use Rattle.guard.proofs.Guarded.{passed}
use Rattle.rules.specs.Pool.{Pool, Holds}
use Rattle.request.specs.Requests.{request_of}
use Rattle.hindraloha.proofs.Answering.{edit_refused, edit_served}
use Rattle.hindraloha.proofs.edit.Goals as goal
use Rattle.hindraloha.proofs.edit.Goals.{In_ok-check}

-- the pool that passed the check
held : (d : In_ok-check) → (p : Pool) × Holds d.args.pool.now p
held d = passed d.args.pool.now d.check.ensures d.in_ok-check.was

pub returns-in_err-check : goal.returns-in_err-check
returns-in_err-check c =
    rw (passed_on c.from_residual.result c.from_residual.ensures.1 (λ f same. same))
    (edit_refused c.args.pool.now c.check.ensures c.in_err-check.was (request_of c.args.request))

pub edit-requires : goal.edit-requires
edit-requires c = held (goal.at.edit-requires c).In_ok-check

pub returns : goal.returns
returns c =
    let pool = held (goal.at.returns c).In_ok-check in
    edit_served pool.1 (request_of c.args.request) (c.edit.ensures pool.0 pool.1)
