-- `next` steps until one hits or nothing is pending. Assumes nothing.
use mathlib.Core.Path.{sym, ◌∙◌}
use native.Mathlib.Omega.{arith}
use Rattle.walk.proofs.Seeking.{seek_start, seek_over, seek_on, seek_hit, seek_less}
use Rattle.walk.proofs.next.Goals as goal

pub loop-place-init : goal.loop-place-init
loop-place-init c p h = seek_start h

pub step-after-requires : goal.step-after-requires
step-after-requires c =
    let start = c.requires in
    let s = c.loop-place.invariant start.0 start.1 in
    (s.on, s.stands)

pub returns-then-is_some : goal.returns-then-is_some
returns-then-is_some c p h =
    seek_hit c.step-after.ensures (c.loop-place.invariant p h) (sym c.is_some.ensures ∙ c.if-is_some.true)

pub loop-place-smaller : goal.loop-place-smaller
loop-place-smaller c =
    let pre = c.requires in
    seek_less c.step-after.ensures (c.loop-place.invariant pre.0 pre.1) c.loop-place-test.true

pub loop-place-preserved : goal.loop-place-preserved
loop-place-preserved c p h =
    seek_on c.step-after.ensures (c.loop-place.invariant p h) (sym c.is_some.ensures ∙ c.if-is_some.false)

pub returns : goal.returns
returns c p h = seek_over (c.loop-place.invariant p h) (omega arith)
