-- `Gain::standing` answers how the node stands. Assumes nothing.
use native.Mathlib.Omega.{arith}
use Rattle.settle.proofs.Gained.{as_high, stands_too_high, one_higher}
use Rattle.settle.proofs.GainChange.standing.Goals as goal

pub returns-then-levels-height : goal.returns-then-levels-height
returns-then-levels-height c s end e t u v g b_is =
    as_high s g b_is (rw (c.height-levels.ensures, c.height.ensures) at c.if-levels-height.true)

pub returns-then-height-levels : goal.returns-then-height-levels
returns-then-height-levels c s end e t u v g b_is =
    let a = c.height-levels.ensures in
    let b = c.height-2.ensures in
    let more = c.if-height-levels.true in
    stands_too_high s g b_is (omega arith)

pub returns : goal.returns
returns c s end e t u v g b_is =
    let a = c.height-levels.ensures in
    let k = c.height.ensures in
    let b = c.height-2.ensures in
    let least = c.if-levels-height.false in
    let most = c.if-height-levels.false in
    one_higher s g b_is (omega arith) (omega arith)
