-- `size` tells the live count. Assumes nothing.
use Rattle.request.proofs.Refused.{passed_on}
use Rattle.guard.proofs.Guarded.{passed}
use Rattle.rules.specs.Pool.{Pool, Holds}
use Rattle.query.proofs.Asking.{header_in}
use Rattle.hindraloha.proofs.Telling.{size_refused, size_told}
use Rattle.hindraloha.proofs.size.Goals as goal
use Rattle.hindraloha.proofs.size.Goals.{In_ok-check}

-- the pool that passed the check
held : (d : In_ok-check) → (p : Pool) × Holds d.args.pool.now p
held d = passed d.args.pool.now d.check.ensures d.in_ok-check.was

pub returns-in_err-check : goal.returns-in_err-check
returns-in_err-check c =
    rw (passed_on c.from_residual.result c.from_residual.ensures.1 (λ f same. same))
    (size_refused c.args.pool.now c.check.ensures c.in_err-check.was)

pub live-requires : goal.live-requires
live-requires c = header_in (held (goal.at.live-requires c).In_ok-check).1

pub returns : goal.returns
returns c = size_told (held (goal.at.returns c).In_ok-check).1 _ c.live.ensures
