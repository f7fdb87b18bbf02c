-- `query` counts all hits and writes their rows. Assumes nothing.
use Prim.Native.Nat.{◌≤◌}
use mathlib.Core.Path.{refl, ◌∙◌, ap}
use native.Mathlib.Omega.{arith}
use Rattle.rules.specs.Limits.{most_slots}
use Rattle.rows.proofs.Lines.{hit-within, counted}
use Rattle.rows.proofs.Listing.{walk_start, walk_few, walk_on, walk_end}
use Rattle.rows.proofs.query.Goals as goal
use Rattle.rows.proofs.query.Goals.{In-Some}

pub loop-k-init : goal.loop-k-init
loop-k-init g c =
    rw c.into_iter-k-iterator.ensures.into_iter_gives (refl, refl, λ t h. walk_start _ h (c.start-place.ensures _ t h))

-- no more are counted than there can be
few : (g : _) (c : In-Some g) → c.loop-k.count ≤ most_slots
few g c =
    let pre = c.requires in
    walk_few (c.loop-k.invariant.2 pre.0 pre.1) {k = c.args.root} (rw c.loop-k.invariant.0 pre.1)

pub write_row-requires : goal.write_row-requires
write_row-requires g c =
    let pre = c.requires in
    let w = c.loop-k.invariant.2 pre.0 pre.1 in
    let left = c.in-Some.ensures.steps.3 w.on w.stands in
    (rw c.loop-k.invariant.0 at (hit-within left.hits), few g (goal.at.write_row-requires g c).In-Some)

pub overflow_add-count : goal.overflow_add-count
overflow_add-count g c = let most = few g (goal.at.overflow_add-count g c).In-Some in record { fits = omega arith }

pub loop-k-preserved : goal.loop-k-preserved
loop-k-preserved g c =
    let on = c.loop-k.invariant in
    let steps = c.in-Some.ensures.steps in (
      ap (λ s. s.now) steps.0 ∙ on.0,
      steps.1 ∙ on.1,
      λ t h.
          let w = on.2 t h in
          let left = steps.3 w.on w.stands in
          rw (steps.0, steps.1) (walk_on w left (counted _ _ left.hits (rw on.0 c.write_row.ensures))),
    )

pub returns : goal.returns
returns g c t h =
    let on = c.loop-k.invariant in
    let w = on.2 t h in
    rw on.1 at (walk_end w (c.in-None.ensures.steps.3 w.on w.stands))
