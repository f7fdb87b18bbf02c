-- Which case of `balance` a factor chooses. Assumes nothing.
use Prim.Native.Nat.{ℕ, suc, ◌*◌, ◌≤◌, ◌<◌}
use mathlib.Core.List.{List}
use mathlib.Core.Logic.{⊎_elim}
use mathlib.Core.Path.{◌≡◌}
use native.Mathlib.Omega.{arith}
use lib.ListN.{length}
use borrow.Author.Tests.{lt-ltb, le-ltb}
use Rattle.rules.specs.Limits.{slot_words, half}
use Rattle.rules.specs.Tree.{Entry, Tree, node, levels}
use Rattle.rules.specs.Balance.{left, right, mend, balance}
use Rattle.rules.specs.Stored.{Left}
use Rattle.rules.proofs.Tests.{lt_cases}
use Rattle.node.specs.Node.{levels_at, factor, Hung}
use Rattle.node.specs.declared.Factor.{Factor}
use Rattle.node.specs.declared.Factor.TheVariants.{BelowMinusOne, Between, AboveOne}
use Rattle.node.proofs.Trees.{at_root}

-- how two heights stand, by the factor that says so
data Leans (l r : ℕ) : Factor → Type 0 where
  to_right : suc l < r → Leans l r BelowMinusOne
  to_left : suc r < l → Leans l r AboveOne
  even : l ≤ suc r → r ≤ suc l → Leans l r Between

leans : (l r : ℕ) → Leans l r (factor l r)
leans l r =
    ⊎_elim (λ p. rw p.1 (to_right p.0))
    (λ p. ⊎_elim (λ q. rw (p.1, q.1) (to_left q.0)) (λ q. rw (p.1, q.1) (even q.0 p.0)) (lt_cases (suc r) l))
    (lt_cases (suc l) r)

leans_right : {l r : ℕ} → Leans l r BelowMinusOne → suc l < r
leans_right (to_right p) = p

leans_left : {l r : ℕ} → Leans l r AboveOne → suc r < l
leans_left (to_left p) = p

leans_neither : {l r : ℕ} → Leans l r Between → (l ≤ suc r) × (r ≤ suc l)
leans_neither (even p q) = (p, q)

-- the children's slots and heights, as the calls of `balance` ask them
pub record Ready (ss : List ℕ) (l r : ℕ) : Type 0 where
  pub left_in : slot_words * l ≤ length ss
  pub right_in : slot_words * r ≤ length ss
  pub left_low : levels_at ss l < half
  pub right_low : levels_at ss r < half

pub ready : {ss : List ℕ} {k l r : ℕ} {e : Entry} {t u : Tree} → Hung ss k l r e t u → Ready ss l r
ready h =
    let a = at_root h.left in
    let b = at_root h.right in
    record { left_in = a.inside; right_in = b.inside; left_low = omega arith; right_low = omega arith }

module _ {ss : List ℕ} {k l r : ℕ} {e : Entry} {t u : Tree} (h : Hung ss k l r e t u) where
  -- how the stored heights stand, of the trees
  lean : {f : Factor} → factor (levels_at ss l) (levels_at ss r) ≡ f → Leans (levels t) (levels u) f
  lean f =
      rw (f, (at_root h.left).levels_is, (at_root h.right).levels_is) at (leans (levels_at ss l) (levels_at ss r))

  -- below -1: the right child comes up
  pub right_too_high : factor (levels_at ss l) (levels_at ss r) ≡ BelowMinusOne → suc (levels t) < levels u
  right_too_high f = leans_right (lean f)

  pub balanced_right : {after : List ℕ} {top : ℕ} → factor (levels_at ss l) (levels_at ss r) ≡ BelowMinusOne
      → Left ss after top (mend right e u t)
      → Left ss after top (balance e t u)
  unfolding balance
  balanced_right f done = rw (lt-ltb (suc (levels t)) (levels u) (right_too_high f)) done

  -- above 1: the left one
  pub left_too_high : factor (levels_at ss l) (levels_at ss r) ≡ AboveOne → suc (levels u) < levels t
  left_too_high f = leans_left (lean f)

  pub balanced_left : {after : List ℕ} {top : ℕ} → factor (levels_at ss l) (levels_at ss r) ≡ AboveOne
      → Left ss after top (mend left e t u)
      → Left ss after top (balance e t u)
  unfolding balance
  balanced_left f done =
      let high = left_too_high f in
      rw (le-ltb (suc (levels t)) (levels u) (omega arith), lt-ltb (suc (levels u)) (levels t) high) done

  -- between: neither
  pub balanced_yet : {after : List ℕ} {top : ℕ} → factor (levels_at ss l) (levels_at ss r) ≡ Between
      → Left ss after top (node e t u)
      → Left ss after top (balance e t u)
  unfolding balance
  balanced_yet f done =
      let close = leans_neither (lean f) in
      rw (le-ltb (suc (levels t)) (levels u) (omega arith), le-ltb (suc (levels u)) (levels t) (omega arith)) done
