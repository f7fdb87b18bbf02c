-- `balance` stores the balanced tree: the factor chooses the case. Assumes nothing.
use mathlib.Core.Path.{◌≡◌, sym, ◌∙◌}
use Prim.Native.Nat.{ℕ, ◌<◌, ◌≤◌}
use native.Mathlib.Omega.{arith}
use Rattle.node.specs.Node.{levels_at, factor}
use Rattle.node.specs.declared.Factor.{Factor}
use Rattle.node.proofs.Halves.{apart_low}
use Rattle.balance.proofs.Sides.{hung-turned}
use Rattle.balance.proofs.Chosen.{ready, right_too_high, balanced_right, left_too_high, balanced_left, balanced_yet}
use Rattle.balance.proofs.balance.Goals as goal
use Rattle.balance.proofs.balance.Goals.{After-low-2, After-balance_factor}

-- more than one level is one at least
some_level : {a b : ℕ} → a < b → 1 ≤ b
some_level h = omega arith

pub shape_below-left-requires : goal.shape_below-left-requires
shape_below-left-requires c = let ok = ready c.requires.3 in (ok.left_in, ok.left_low)

pub shape_below-right-requires : goal.shape_below-right-requires
shape_below-right-requires c = let ok = ready c.requires.3 in (ok.right_in, ok.right_low)

left_is : (d : After-low-2) → let a = d.args in d.low.result ≡ levels_at a.slots.now a.l
left_is d =
    d.low.ensures ∙ apart_low _ d.shape_below-left.ensures (ready d.requires.3).left_low

right_is : (d : After-low-2) → let a = d.args in d.low-2.result ≡ levels_at a.slots.now a.r
right_is d = d.low-2.ensures ∙ apart_low _ d.shape_below-right.ensures (ready d.requires.3).right_low

-- so the factor that was told is the factor of these
known : (d : After-balance_factor) {f : Factor} → d.balance_factor.result ≡ f
    → let a = d.args in factor (levels_at a.slots.now a.l) (levels_at a.slots.now a.r) ≡ f
known d told = rw (← left_is d.before, ← right_is d.before) (sym d.balance_factor.ensures ∙ told)

pub returns-in-BelowMinusOne : goal.returns-in-BelowMinusOne
returns-in-BelowMinusOne c e t u h =
    let told = known (goal.at.returns-in-BelowMinusOne c).After-balance_factor c.in-BelowMinusOne.is in
    balanced_right h told (c.mend.ensures e u t (hung-turned h) (some_level (right_too_high h told)))

pub returns-in-AboveOne : goal.returns-in-AboveOne
returns-in-AboveOne c e t u h =
    let told = known (goal.at.returns-in-AboveOne c).After-balance_factor c.in-AboveOne.is in
    balanced_left h told (c.mend-in-AboveOne.ensures e t u h (some_level (left_too_high h told)))

pub returns-in-Between : goal.returns-in-Between
returns-in-Between c e t u h =
    let told = known (goal.at.returns-in-Between c).After-balance_factor c.in-Between.is in
    balanced_yet h told (c.update_over.ensures e t u h)
