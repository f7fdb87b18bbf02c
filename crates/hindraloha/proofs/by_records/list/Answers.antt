-- `list` answers the query by records: the check first, then the walk, whose records are the rows. Assumes nothing.
use mathlib.Core.Path.{ap, ◌∙◌}
use Rattle.rules.specs.Pool.{Pool, Holds}
use Rattle.walk.proofs.Sound.{holds-walkable}
use Rattle.request.proofs.Refused.{passed_on}
use Rattle.request.proofs.Ranged.{range_known, no_range_answered}
use Rattle.query.proofs.Asking.{header_in, past_end, listed}
use Rattle.guard.proofs.Guarded.{passed, query_refused}
use Rattle.held.specs.Records.{words_of}
use Rattle.held.proofs.Records.{rows_are_records}
use Rattle.hindraloha.proofs.by_records.list.Goals as goal
use Rattle.hindraloha.proofs.by_records.list.Goals.{In_ok-check}

-- the pool that passed the check
held : (d : In_ok-check) → (p : Pool) × Holds d.args.pool.now p
held d = passed d.args.pool.now d.check.ensures d.in_ok-check.was

pub returns-in_err-check : goal.returns-in_err-check
returns-in_err-check c =
    rw (passed_on c.from_residual.result c.from_residual.ensures.1 (λ f same. same))
    (query_refused c.args.pool.now c.check.ensures c.in_err-check.was _ _ _ (words_of c.args.rows.now))

pub returns-in_err-range : goal.returns-in_err-range
returns-in_err-range c =
    let pool = held (goal.at.returns-in_err-range c).In_ok-check in
    let past = no_range_answered c.from_residual-in_err-range.result c.range.ensures c.in_err-range.was c.from_residual-in_err-range.ensures.1 (λ f same. same) in
    rw past.1 (past_end pool.1 _ _ _ past.0 (words_of c.args.rows.now))

pub slots-requires : goal.slots-requires
slots-requires c = header_in (held (goal.at.slots-requires c).In_ok-check).1

pub root-requires : goal.root-requires
root-requires c = header_in (held (goal.at.root-requires c).In_ok-check).1

pub query-requires : goal.query-requires
query-requires c =
    let pool = held (goal.at.query-requires c).In_ok-check in
    rw (c.slots.ensures, c.root.ensures) (pool.0.tree, holds-walkable pool.1)

pub returns : goal.returns
returns c =
    let pool = held (goal.at.returns c).In_ok-check in
    let told = (rw (c.slots.ensures, c.root.ensures) at c.query.ensures) pool.0.tree (holds-walkable pool.1) in
    listed pool.1 _ _ _ (words_of c.args.rows.now) (range_known c.range.ensures c.in_ok-range.was)
    (told.0, ap words_of told.1 ∙ rows_are_records _ c.args.rows.now)
