-- `tree_height` tells the height in the root's shape, and -1 where there is no root. Assumes nothing.
use Rattle.request.proofs.Refused.{passed_on}
use Rattle.guard.proofs.Guarded.{passed}
use Rattle.rules.specs.Pool.{Pool, Holds}
use Prim.Native.Nat.{ℕ, ◌%◌}
use mathlib.Core.Path.{◌≡◌, ap, ◌∙◌}
use native.Mathlib.Omega.{arith}
use lib.ListN.{drop}
use mir.Syntax.{w64}
use mir.ValLaws.{to_z_pos}
use Rattle.rules.specs.Limits.{header_words, half}
use Rattle.rules.specs.Stored.{slot_word}
use Rattle.query.proofs.Asking.{header_in}
use Rattle.hindraloha.proofs.Telling.{height_refused, no_height_told, height_told, root_there}
use Rattle.hindraloha.proofs.tree_height.Goals as goal
use Rattle.hindraloha.proofs.tree_height.Goals.{In_ok-check}

-- the pool that passed the check
held : (d : In_ok-check) → (p : Pool) × Holds d.args.pool.now p
held d = passed d.args.pool.now d.check.ensures d.in_ok-check.was

pub returns-in_err-check : goal.returns-in_err-check
returns-in_err-check c =
    rw (passed_on c.from_residual.result c.from_residual.ensures.1 (λ f same. same))
    (height_refused c.args.pool.now c.check.ensures c.in_err-check.was)

pub root-root-requires : goal.root-root-requires
root-root-requires c = header_in (held (goal.at.root-root-requires c).In_ok-check).1

pub returns-then-root-eq0 : goal.returns-then-root-eq0
returns-then-root-eq0 c =
    no_height_told (held (goal.at.returns-then-root-eq0 c).In_ok-check).1 _ c.root-root.ensures c.if-root-eq0.true

pub slots-requires : goal.slots-requires
slots-requires c = header_in (held (goal.at.slots-requires c).In_ok-check).1

pub word-shape-requires : goal.word-shape-requires
word-shape-requires c =
    (rw c.slots.ensures (root_there (held (goal.at.word-shape-requires c).In_ok-check).1 _ c.root-root.ensures c.if-root-eq0.false), omega arith)

pub returns : goal.returns
returns c =
    let word = rw c.slots.ensures at c.word-shape.ensures in
    let low : c.low.result ≡ slot_word (drop header_words c.args.pool.now) c.root-root.result 5 % half = c.low.ensures ∙ ap (λ (w : ℕ). w % half) word in
    rw (to_z_pos w64 c.low.result (omega arith)) (height_told (held (goal.at.returns c).In_ok-check).1 _ c.root-root.ensures c.if-root-eq0.false _ low)
