-- `chain` walks along the free chain. Assumes nothing.
use Prim.Native.Nat.{◌*◌, ◌+◌, ◌-◌, ◌≤◌}
use mathlib.Core.Path.{◌≡◌}
use native.Mathlib.Omega.{arith}
use lib.ListN.{length}
use Rattle.rules.specs.Limits.{slot_words}
use Rattle.sound.proofs.Chains.{turn_on, turn_in, turn_out, turn_not, turn_through}
use Rattle.sound.proofs.chain.Goals as goal
use Rattle.sound.proofs.chain.Goals.{Else-k-count}

-- past the first test k is a slot
in-turn : (c : Else-k-count) → (1 ≤ c.loop.k) × (slot_words * c.loop.k ≤ length c.args.slots.now)
in-turn c = turn_in c.requires.0 c.loop.invariant c.if-k-count.false

pub returns-then-k-count : goal.returns-then-k-count
returns-then-k-count c = turn_out c.requires.0 c.loop.invariant (omega (arith, c.loop-test.true)) c.if-k-count.true

pub returns-then-not-claim-zeros : goal.returns-then-not-claim-zeros
returns-then-not-claim-zeros c =
    turn_not c.requires.0 c.loop.invariant (in-turn (goal.at.returns-then-not-claim-zeros c).Else-k-count).0
    (rw (← c.claim.ensures.was, ← c.zeros.ensures) c.if-not-claim-zeros.true)

pub loop-preserved : goal.loop-preserved
loop-preserved c =
    let turn = in-turn (goal.at.loop-preserved c).Else-k-count in
    let fewer : c.args.n - c.loop.counter - 1 ≡ c.args.n - (c.loop.counter + 1) = omega arith in
    rw (c.claim.ensures.left, c.word-k.ensures, ← fewer)
    (turn_on c.requires.0 c.loop.invariant turn.0 turn.1 (omega (arith, c.loop-test.true))
    (rw (← c.claim.ensures.was, ← c.zeros.ensures) c.if-not-claim-zeros.false))

pub returns : goal.returns
returns c = turn_through c.requires.0 c.loop.invariant (omega (arith, c.loop-test.false))
