-- `Gain::write` leaves the node joined. Assumes nothing.
use Prim.Native.Nat.{◌+◌}
use mathlib.Core.Path.{◌≡◌}
use native.Mathlib.Omega.{arith}
use Rattle.rules.specs.Limits.{half}
use Rattle.rules.specs.Stored.{slot_word}
use Rattle.settle.proofs.Gained.{writes, wrote}
use Rattle.settle.proofs.GainChange.write.Goals as goal

pub overflow_add-shape : goal.overflow_add-shape
overflow_add-shape c =
    let p = c.requires in
    let room = (writes p.0 p.6 p.7).2 in
    let was = c.word-2.ensures in
    let more = c.pack.ensures in
    record { fits = omega arith }

pub returns : goal.returns
returns c s a e t u v g stays =
    let x = c.args in
    let shape : c.word-2.result + c.pack.result ≡ slot_word x.slots.now x.k 5 + half + x.levels =
    omega (arith, c.word-2.ensures, c.pack.ensures)
    in
    wrote s g stays (rw (c.set_words.ensures, shape, c.max-max.ensures, c.word.ensures))
