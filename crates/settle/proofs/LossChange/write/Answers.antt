-- `Loss::write` leaves the node joined. Assumes nothing.
use Prim.Native.Nat.{◌-◌}
use mathlib.Core.Path.{◌≡◌}
use native.Mathlib.Omega.{arith}
use Rattle.rules.specs.Limits.{half}
use Rattle.rules.specs.Stored.{slot_word}
use Rattle.settle.proofs.Lost.{writes, wrote}
use Rattle.settle.proofs.LossChange.write.Goals as goal

pub max_without-max-requires : goal.max_without-max-requires
max_without-max-requires c =
    let p = c.requires in
    let ok = writes p.0 p.6 p.7 in
    rw (c.low.ensures, c.high.ensures) (ok.0, ok.1, ok.2)

pub returns : goal.returns
returns c s a e t u v g stays =
    let x = c.args in
    let shape : c.word.result - c.pack.result ≡ slot_word x.slots.now x.k 5 - half - x.levels =
    omega (arith, c.word.ensures, c.pack.ensures)
    in
    wrote s g stays
    (rw (c.set_words.ensures, shape, c.max_without-max.ensures, c.high.ensures, c.low.ensures))
