-- The entry is the rules' feed: the check once, then the records. Assumes nothing.
use Rattle.guard.proofs.Guarded.{passed}
use Rattle.rules.specs.Pool.{Pool, Holds}
use Rattle.hindraloha.proofs.Answering.{feed_refused, feed_served_whole}
use Rattle.hindraloha.proofs.hindraloha_feed.Goals as goal
use Rattle.hindraloha.proofs.hindraloha_feed.Goals.{In-Ok}

-- the pool that passed the check
held : (d : In-Ok) → (p : Pool) × Holds d.args.pool.now p
held d = passed d.args.pool.now d.check.ensures d.in-Ok.is

pub feed-requires : goal.feed-requires
feed-requires c = held (goal.at.feed-requires c).In-Ok

pub returns-in-Ok : goal.returns-in-Ok
returns-in-Ok c =
    let pool = held (goal.at.returns-in-Ok c).In-Ok in
    feed_served_whole pool.1 c.args.bytes.now (c.feed.ensures pool.0 pool.1)

pub returns-in-Err : goal.returns-in-Err
returns-in-Err c =
    rw c.from.ensures (feed_refused c.args.pool.now c.check.ensures c.in-Err.is c.args.bytes.now)
