-- `list` answers the query of a sound pool. Assumes nothing.
use Rattle.walk.proofs.Sound.{holds-walkable}
use Rattle.request.proofs.Ranged.{range_known, no_range_answered}
use Rattle.query.proofs.Asking.{header_in, past_end, listed}
use Rattle.query.proofs.list.Goals as goal

pub returns-in_err-range : goal.returns-in_err-range
returns-in_err-range g c =
    let past = no_range_answered c.from_residual.result c.range.ensures c.in_err-range.was c.from_residual.ensures.1 (λ f same. same) in
    rw past.1 (past_end c.requires.1 _ _ _ past.0 (g.R.Row.words c.args.rows.now))

pub slots-requires : goal.slots-requires
slots-requires g c = header_in c.requires.1

pub root-requires : goal.root-requires
root-requires g c = header_in c.requires.1

pub query-requires : goal.query-requires
query-requires g c = rw (c.slots.ensures, c.root.ensures) (c.requires.0.tree, holds-walkable c.requires.1)

pub returns : goal.returns
returns g c =
    let walkable = holds-walkable c.requires.1 in
    listed c.requires.1 _ _ _ (g.R.Row.words c.args.rows.now) (range_known c.range.ensures c.in_ok-range.was)
    ((rw (c.slots.ensures, c.root.ensures) at c.query.ensures) c.requires.0.tree walkable)
