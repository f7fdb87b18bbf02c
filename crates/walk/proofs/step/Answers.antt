-- `step` finds at the latest pending node what the rules' step finds there, and leaves it on the stack. Assumes nothing.
use Prim.Native.Nat.{◌-◌}
use native.Mathlib.Omega.{arith}
use Rattle.rules.specs.Steps.{Pending, step}
use Rattle.rules.specs.Stored.{Within}
use Rattle.interval.specs.Interval.{range_of}
use Rattle.walk.specs.Walk.{Stands}
use Rattle.walk.specs.Inside.{Leads}
use Rattle.walk.proofs.Looking.{Latest, Read, take-latest, within, left_found, passed, skipped, seen}
use Rattle.walk.proofs.Stack.{few_pending}
use Rattle.walk.proofs.Taking.{nothing, one_room, room_above, none_waits, stands_below, one_taken, both_taken}
use Rattle.walk.proofs.step.Goals as goal
use Rattle.walk.proofs.step.Goals.{Else-place-eq0, After-word-links, After-low-left, Then-query-start, After-high-right}

pub returns-then-place-eq0 : goal.returns-then-place-eq0
returns-then-place-eq0 c p h = nothing _ h c.if-place-eq0.true

-- the latest of the nodes that are pending
here : (c : Else-place-eq0) → let a = c.args in Latest a.slots.now a.stack.now (a.place.pending - 1) a.place.top c.requires.0
here c = take-latest c.requires.1 c.if-place-eq0.false

pub below-others-requires : goal.below-others-requires
below-others-requires c = omega (arith, few_pending c.requires.1.pends)

-- it stands in a slot of these words
at_top : (c : Else-place-eq0) → Within c.args.slots.now c.args.place.top
at_top c = within (here c)

pub word-start-requires : goal.word-start-requires
word-start-requires c = (at_top (goal.at.word-start-requires c).Else-place-eq0, omega arith)

pub word-max-requires : goal.word-max-requires
word-max-requires c = (at_top (goal.at.word-max-requires c).Else-place-eq0, omega arith)

pub word-links-requires : goal.word-links-requires
word-links-requires c = (at_top (goal.at.word-links-requires c).Else-place-eq0, omega arith)

-- the words that are read at it
read : (c : After-word-links)
    → Read c.args.slots.now c.args.place.top c.word-start.result c.word-max.result c.word-links.result
read c = record { start_read = c.word-start.ensures; max_read = c.word-max.ensures; links_read = c.word-links.ensures }

pub returns-then-max-query : goal.returns-then-max-query
returns-then-max-query c p h =
    let at = goal.at.returns-then-max-query c in
    rw c.below-others.ensures
    (none_waits (passed _ (take-latest h c.if-place-eq0.false) (read at.After-word-links) c.if-max-query.true)
    (λ o below. stands_below below))

pub leave_child-with_left-requires : goal.leave_child-with_left-requires
leave_child-with_left-requires c some =
    let at = goal.at.leave_child-with_left-requires c in
    rw c.below-others.ensures
    (one_room (left_found (here at.Else-place-eq0) (read at.After-word-links) c.low-left.ensures).1)

pub returns-then-query-start : goal.returns-then-query-start
returns-then-query-start c p h =
    let at = goal.at.returns-then-query-start c in
    rw (c.leave_child-with_left.ensures.0, c.leave_child-with_left.ensures.1, c.below-others.ensures)
    (one_taken
    (skipped _ (take-latest h c.if-place-eq0.false) (read at.After-word-links) c.if-max-query.false c.if-query-start.true
    c.low-left.ensures))

pub hit_at-hit-requires : goal.hit_at-hit-requires
hit_at-hit-requires c = at_top (goal.at.hit_at-hit-requires c).Else-place-eq0

-- where nothing is skipped
sees :
    (c : After-high-right) {p : Pending} → let a = c.args in
    Stands a.slots.now a.stack.now a.place p
    → Leads a.slots.now a.stack.now (a.place.pending - 1) c.low-left.result c.high-right.result c.hit_at-hit.result
    (step (range_of a.query) p)
sees c h =
    seen _ (take-latest h c.if-place-eq0.false) (read (goal.at.After-high-right c).After-word-links) c.if-max-query.false
    c.if-query-start.false
    c.low-left.ensures
    c.high-right.ensures
    c.hit_at-hit.ensures

pub leave_child-with_both-requires : goal.leave_child-with_both-requires
leave_child-with_both-requires c some =
    let at = goal.at.leave_child-with_both-requires c in
    rw (c.leave_child-with_left.ensures.1, c.below-others.ensures)
    (room_above (sees at.After-high-right c.requires.1) some)

pub returns : goal.returns
returns c p h =
    let at = goal.at.returns c in
    rw (
      c.leave_child-with_both.ensures.0,
      c.leave_child-with_both.ensures.1,
      c.leave_child-with_left.ensures.0,
      c.leave_child-with_left.ensures.1,
      c.below-others.ensures,
    )
    (both_taken (sees at.After-high-right h))
