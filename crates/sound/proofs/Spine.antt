-- Down the right side of a tree, slot by slot: once a slot is claimed and fits and its left side is judged, whatever is
-- judged of its right side decides the whole. Assumes nothing.
use Prim.Native.Nat.{ℕ, ◌≤◌}
use mathlib.Core.Bool.{Bool, true}
use mathlib.Core.List.{List}
use mathlib.Core.Path.{◌≡◌}
use native.Mathlib.Omega.{arith}
use lib.ListN.{set}
use Rattle.node.specs.Node.{levels_at}
use Rattle.fitting.specs.Fits.{left_in, right_in}
use Rattle.sound.specs.Claims.{Ready, Judged}
use Rattle.sound.proofs.Verdict.{Passed, ready_right, right_falls, judged_right}

-- what is left to be judged from slot k on, where slot `root` was to be judged
pub record Spine (ss ms : List ℕ) (root from after : ℕ) (now : List ℕ) (k before : ℕ) : Type 0 where
  pub ready : Ready ss now k before after
  pub no_higher : levels_at ss k ≤ levels_at ss root
  pub rest : {left : List ℕ} {passed : Bool} → Judged ss k before after now left passed
      → Judged ss root from after ms left passed

-- at the root all is left
pub spine_whole : {ss ms : List ℕ} {root from after : ℕ} → Ready ss ms root from after
    → Spine ss ms root from after ms root from
spine_whole ready = record { ready = ready; no_higher = omega arith; rest = λ j. j }

-- a turn goes on to the right
pub spine_on : {ss ms now mid end : List ℕ} {root from after k before l r : ℕ} → 1 ≤ k
    → Spine ss ms root from after now k before → Passed ss now k → mid ≡ set now k 1 → l ≡ left_in ss k
    → r ≡ right_in ss k → Judged ss l before k mid end true → Spine ss ms root from after end r k
spine_on low spine passed is_mid is-left is_right on_left =
    record {
      ready = ready_right low spine.ready passed on_left is_right;
      no_higher = omega (arith, spine.no_higher, right_falls low spine.ready passed is_right);
      rest = λ j. spine.rest (judged_right low spine.ready passed is_mid is-left is_right on_left j);
    }
