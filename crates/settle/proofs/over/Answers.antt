-- `over` leaves the balanced tree, by one of four ways. Assumes nothing.
use mathlib.Core.Path.{refl}
use native.Mathlib.Omega.{arith}
use Rattle.balance.specs.Sides.{side_of}
use Rattle.balance.proofs.Sides.{far-from-other, hung-turned}
use Rattle.settle.proofs.Changed.{hung_over, fits, when_too_high, when_too_low, mended_near, mended_far, level_stays, moved_stays, stays_level, stays_moved}
use Rattle.settle.proofs.over.Goals as goal

pub mend_from-requires : goal.mend_from-requires
mend_from-requires g c =
    let x = c.args in
    let s = side_of x.side in
    let p = c.requires in
    let b_is = far-from-other s _ _ c.opposite.ensures c.child-b.ensures in
    let o = g.met.C.Change.over s x.slots.now x.k x.a x.end p.0 p.1 p.2 p.3 p.4 in
    let high = when_too_high (c.in-TooHigh.ensures s x.end p.0 p.1 p.2 p.3 p.4 b_is) in
    ((fits s o b_is).at.inside, (p.0, p.2, p.3, hung_over s o b_is, omega arith))

pub mend_from-requires-in-TooLow : goal.mend_from-requires-in-TooLow
mend_from-requires-in-TooLow g c =
    let x = c.args in
    let s = side_of x.side in
    let p = c.requires in
    let b_is = far-from-other s _ _ c.opposite.ensures c.child-b.ensures in
    let o = g.met.C.Change.over s x.slots.now x.k x.a x.end p.0 p.1 p.2 p.3 p.4 in
    let high = when_too_low (c.in-TooLow.ensures s x.end p.0 p.1 p.2 p.3 p.4 b_is) in
    ((fits s o b_is).at.inside, (p.0, p.3, p.2, hung-turned (hung_over s o b_is), omega arith))

pub write-requires : goal.write-requires
write-requires g c =
    let x = c.args in
    let s = side_of x.side in
    let p = c.requires in
    let b_is = far-from-other s _ _ c.opposite.ensures c.child-b.ensures in
    let o = g.met.C.Change.over s x.slots.now x.k x.a x.end p.0 p.1 p.2 p.3 p.4 in
    let stood = c.in-Level.ensures s x.end p.0 p.1 p.2 p.3 p.4 b_is in
    (s, x.a, p.0, p.1, p.2, p.3, p.4, level_stays s o b_is c.links.ensures stood)

pub write-requires-in-Moved : goal.write-requires-in-Moved
write-requires-in-Moved g c =
    let x = c.args in
    let s = side_of x.side in
    let p = c.requires in
    let b_is = far-from-other s _ _ c.opposite.ensures c.child-b.ensures in
    let o = g.met.C.Change.over s x.slots.now x.k x.a x.end p.0 p.1 p.2 p.3 p.4 in
    let stood = c.in-Moved.ensures s x.end p.0 p.1 p.2 p.3 p.4 b_is in
    (s, x.a, p.0, p.1, p.2, p.3, p.4, moved_stays s o b_is c.links-in-Moved.ensures stood)

pub returns-in-TooHigh : goal.returns-in-TooHigh
returns-in-TooHigh g c e t u v p =
    let x = c.args in
    let s = side_of x.side in
    let b_is = far-from-other s _ _ c.opposite.ensures c.child-b.ensures in
    let o = g.met.C.Change.over s x.slots.now x.k x.a x.end e t u v p in
    mended_near s o b_is (when_too_high (c.in-TooHigh.ensures s x.end e t u v p b_is)) c.mend_from.ensures

pub returns-in-TooLow : goal.returns-in-TooLow
returns-in-TooLow g c e t u v p =
    let x = c.args in
    let s = side_of x.side in
    let b_is = far-from-other s _ _ c.opposite.ensures c.child-b.ensures in
    let o = g.met.C.Change.over s x.slots.now x.k x.a x.end e t u v p in
    mended_far s o b_is (when_too_low (c.in-TooLow.ensures s x.end e t u v p b_is)) c.opposite-in-TooLow.ensures
    c.mend_from-in-TooLow.ensures

pub returns-in-Level : goal.returns-in-Level
returns-in-Level g c e t u v p =
    let x = c.args in
    let s = side_of x.side in
    let b_is = far-from-other s _ _ c.opposite.ensures c.child-b.ensures in
    let o = g.met.C.Change.over s x.slots.now x.k x.a x.end e t u v p in
    let stays = level_stays s o b_is c.links.ensures (c.in-Level.ensures s x.end e t u v p b_is) in
    stays_level s o b_is stays refl (c.write.ensures s x.a e t u v p stays) c.still.ensures

pub returns-in-Moved : goal.returns-in-Moved
returns-in-Moved g c e t u v p =
    let x = c.args in
    let s = side_of x.side in
    let b_is = far-from-other s _ _ c.opposite.ensures c.child-b.ensures in
    let o = g.met.C.Change.over s x.slots.now x.k x.a x.end e t u v p in
    let stays = moved_stays s o b_is c.links-in-Moved.ensures (c.in-Moved.ensures s x.end e t u v p b_is) in
    stays_moved s o b_is stays refl (c.write-in-Moved.ensures s x.a e t u v p stays) c.moved.ensures
