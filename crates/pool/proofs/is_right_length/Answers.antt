-- `is_right_length` makes the rules' test; below four words there is no header. Assumes nothing.
use Prim.Native.Nat.{◌+◌, ◌*◌}
use mathlib.Core.Path.{refl}
use native.Mathlib.Omega.{arith}
use borrow.Author.Tests.{ne_eqb}
use Rattle.rules.specs.Limits.{header_words, slot_words}
use Rattle.rules.specs.Pool.{capacity, right_length}
use Rattle.pool.proofs.is_right_length.Goals as goal

pub returns-then-n-lt-HEADER_WORDS : goal.returns-then-n-lt-HEADER_WORDS
unfolding right_length
returns-then-n-lt-HEADER_WORDS c =
    let n = c.args.n in
    rw (ne_eqb n (header_words + slot_words * capacity n) (λ e. omega arith)) refl

pub returns : goal.returns
unfolding right_length capacity
returns c = refl
