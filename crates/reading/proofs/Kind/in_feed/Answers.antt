-- `Kind::in_feed` finds the kinds of a feed's table. Assumes nothing.
use mathlib.Core.Path.{refl}
use Rattle.reading.proofs.Found.{but_queries}
use Rattle.reading.proofs.Kind.in_feed.Goals as goal

pub returns-in-Query : goal.returns-in-Query
returns-in-Query c = rw (c.in_ok-kind.ensures.0, c.in-Query.is) (refl, refl)

pub returns-in_default : goal.returns-in_default
returns-in_default c =
    let found = c.in_ok-kind.ensures in (found.0, rw found.0 (but_queries c.in_ok-kind.kind c.in_default.not-Query))
