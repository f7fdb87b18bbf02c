-- The loop's invariant: what is counted and written are the first hits, and the others are those of the trees that are
-- pending in the walk. Assumes nothing.
use mathlib.Core.Path.{◌≡◌}
use Rattle.interval.specs.Interval.{range_of}
use Rattle.rules.specs.Tree.{Tree}
use Rattle.walk.specs.Walk.{Walkable}
use Rattle.rows.proofs.Listing.{Walks}
use Rattle.rows.proofs.query.Given as goal

abbrev pub invariant-loop-k : goal.invariant-loop-k
invariant-loop-k g l =
    let words = g.R.Row.words in
    let w = l.k-iterator in
    (w.slots.now ≡ l.slots)
    × (w.query ≡ l.fn.query)
    × ((t : Tree) → Walkable l.slots l.root t
    → Walks w.slots.now w.stack.now w.place (range_of w.query) t (words l.initial.rows) (words l.rows) l.count)
