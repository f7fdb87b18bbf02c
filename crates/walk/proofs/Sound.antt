-- A sound pool can be walked, from the root in its header over the slots after it. Assumes nothing.
use Prim.Native.Nat.{ℕ}
use mathlib.Core.List.{List}
use lib.ListN.{length, get_or, drop}
use Rattle.rules.specs.Limits.{header_words}
use Rattle.rules.specs.Pool.{Pool, Holds, capacity}
use Rattle.rules.proofs.Height.{levels-bound}
use Rattle.rules.proofs.Once.{good-says}
use Rattle.rules.proofs.Stored.{holds-rooted}
use Rattle.node.proofs.Few.{few-entries}
use Rattle.walk.specs.Walk.{Walkable}

pub holds-walkable :
    {ws : List ℕ} {p : Pool} → Holds ws p → Walkable (drop header_words ws) (get_or ws 0 0) p.tree
holds-walkable {ws} {p} h =
    let good = good-says (capacity (length ws)) p h.is_good in
    let rooted = holds-rooted h in
    record {
      rooted = rooted;
      in_order = good.in_order;
      low = levels-bound p.tree good.even (few-entries rooted);
    }
