-- `count` writes what the change below leaves of the node. Assumes nothing.
use mathlib.Core.Path.{refl}
use Rattle.balance.proofs.Rotated.{near_child}
use Rattle.settle.specs.Settling.{Stays}
use Rattle.settle.proofs.Changed.{kept_stays, stays_level}
use Rattle.settle.proofs.count.Goals as goal

pub returns : goal.returns
returns g c s e t u v p level =
    let x = c.args in
    let ss = x.slots.now in
    let a = near_child s ss x.k in
    let o = g.met.C.Change.over s ss x.k a x.end e t u v p in
    let stays : Stays s ss x.k a c.word.result 0 t u v = rw c.word.ensures (kept_stays s o level) in
    stays_level s o refl stays refl (c.write.ensures s a e t u v p stays) refl
