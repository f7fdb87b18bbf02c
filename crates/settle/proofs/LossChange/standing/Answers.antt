-- `Loss::standing` answers how the node stands. Assumes nothing.
use native.Mathlib.Omega.{arith}
use Rattle.settle.proofs.Lost.{stands_too_low, one_lower, as_high}
use Rattle.settle.proofs.LossChange.standing.Goals as goal

pub returns-then-levels-other : goal.returns-then-levels-other
returns-then-levels-other c s end e t u v g b_is =
    let a = c.height-levels.ensures in
    let b = c.height-other.ensures in
    let less = c.if-levels-other.true in
    stands_too_low s g b_is (omega arith)

pub returns-then-max-height : goal.returns-then-max-height
returns-then-max-height c s end e t u v g b_is =
    let a = c.height-levels.ensures in
    let b = c.height-other.ensures in
    let k = c.height.ensures in
    let both = c.max.ensures in
    let high = c.if-levels-other.false in
    let less = c.if-max-height.true in
    one_lower s g b_is (omega arith) (omega arith)

pub returns : goal.returns
returns c s end e t u v g b_is =
    let a = c.height-levels.ensures in
    let b = c.height-other.ensures in
    let k = c.height.ensures in
    let both = c.max.ensures in
    let high = c.if-levels-other.false in
    let least = c.if-max-height.false in
    as_high s g b_is (omega arith) (omega arith)
