-- `tip` looks at none by the order around it, and at a slot without children by its words and the order on both sides.
-- Assumes nothing.
use Prim.Native.Nat.{◌≤◌}
use mathlib.Core.Path.{◌≡◌, sym, ◌∙◌}
use native.Mathlib.Omega.{arith}
use Rattle.rules.specs.Stored.{slot_word}
use Rattle.sound.proofs.Parents.{childless}
use Rattle.sound.proofs.Verdict.{Passed, passes, judged_none, judged_here, judged_first, judged_second}
use Rattle.sound.proofs.tip.Goals as goal
use Rattle.sound.proofs.tip.Goals.{Else-k-eq0, Else-not-claim-fits_alone}

pub returns-then-k-eq0 : goal.returns-then-k-eq0
returns-then-k-eq0 c = judged_none c.requires.0 c.if-k-eq0.true c.in_order.ensures

-- past the first test k is a slot, and it has no children
alone : (c : Else-k-eq0)
    → let start = c in
    (1 ≤ start.args.k) × (slot_word start.args.slots.now start.args.k 4 ≡ 0)
alone c =
    let low : 1 ≤ c.args.k = omega (arith, c.if-k-eq0.false) in
    (low, childless low c.requires.1)

pub returns-then-not-claim-fits_alone : goal.returns-then-not-claim-fits_alone
returns-then-not-claim-fits_alone c =
    judged_here (alone (goal.at.returns-then-not-claim-fits_alone c).Else-k-eq0).0 c.requires.0 c.claim.ensures.was
    c.fits_alone.ensures c.if-not-claim-fits_alone.true

-- past the second one it passed
alone-passed : (c : Else-not-claim-fits_alone)
    → let start = c in
    Passed start.args.slots.now start.args.marks.now start.args.k
alone-passed c =
    passes c.claim.ensures.was c.fits_alone.ensures
    c.if-not-claim-fits_alone.false

pub returns-then-not-in_order : goal.returns-then-not-in_order
returns-then-not-in_order c =
    let here = alone (goal.at.returns-then-not-in_order c).Else-k-eq0 in
    judged_first here.0 c.requires.0 (alone-passed (goal.at.returns-then-not-in_order c).Else-not-claim-fits_alone) here.1
    c.claim.ensures.left (sym c.if-not-in_order.true ∙ c.in_order-2.ensures)

pub returns : goal.returns
returns c =
    let here = alone (goal.at.returns c).Else-k-eq0 in
    judged_second here.0 c.requires.0 (alone-passed (goal.at.returns c).Else-not-claim-fits_alone) here.1
    c.claim.ensures.left (sym c.if-not-in_order.false ∙ c.in_order-2.ensures)
    c.in_order-3.ensures
