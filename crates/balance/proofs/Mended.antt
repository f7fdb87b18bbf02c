-- The double case: what the calls of `straighten` and `mend` are given, and what they leave. Assumes nothing.
use Prim.Native.Nat.{ℕ, ◌+◌, ◌*◌, ◌≤◌, ◌<◌}
use mathlib.Core.List.{List, [], ◌∷◌, map}
use mathlib.Core.Logic.{⊎_elim}
use mathlib.Core.Path.{◌≡◌, ap, ◌∙◌}
use native.Mathlib.Omega.{arith}
use lib.ListN.{length}
use borrow.Author.Tests.{lt-ltb, le-ltb}
use Rattle.rules.specs.Limits.{slot_words}
use Rattle.rules.specs.Tree.{Entry, Tree, leaf, node, levels}
use Rattle.rules.specs.Balance.{Side, near, far, other, join, lift, straight, mend}
use Rattle.rules.specs.Pool.{times, slots}
use Rattle.rules.specs.Stored.{Rooted, Left}
use Rattle.rules.proofs.Tests.{lt_cases}
use Rattle.rules.proofs.Times.{times-one}
use Rattle.rules.proofs.Inorder.{entries-lift, entries-straight}
use Rattle.node.specs.Node.{levels_at, Hung}
use Rattle.node.proofs.Trees.{AtNode, at-node, at_root, kept_refl, bears-kept, rooted-kept, left-then}
use Rattle.balance.proofs.Sides.{times-join, times_sides, rooted-near, rooted-far}
use Rattle.balance.proofs.Rotated.{near_child, far_child}

-- a rotation keeps the slots, and so does straightening
times-lift : (x : ℕ) (s : Side) (e : Entry) (t u : Tree)
    → times x (slots (lift s e t u)) ≡ times x (e.slot ∷ []) + (times x (slots t) + times x (slots u))
times-lift x s e t u =
    ap (λ (es : List Entry). times x (map (λ (f : Entry). f.slot) es)) (entries-lift s e t u) ∙ times-join x s e t u

times-straight : (x : ℕ) (s : Side) (t : Tree) → times x (slots (straight s t)) ≡ times x (slots t)
times-straight x s t = ap (λ (es : List Entry). times x (map (λ (f : Entry). f.slot) es)) (entries-straight s t)

-- what is lifted is a node
tall-join : (s : Side) (e : Entry) (t u : Tree) → 1 ≤ levels (join s e t u)
tall-join s e t u = omega arith

tall-lift : (s : Side) (e : Entry) (t u : Tree) → 1 ≤ levels (lift s e t u)
tall-lift s e leaf u = tall-join s e leaf u
tall-lift s e (node f l r) u = tall-join s f (near s l r) (join s e (far s l r) u)

pub tall-straight : (s : Side) (t : Tree) → 1 ≤ levels t → 1 ≤ levels (straight s t)
tall-straight s leaf tall = tall
tall-straight s (node f l r) tall =
    ⊎_elim (λ p. rw p.1 (tall-lift (other s) f (far s l r) (near s l r))) (λ p. rw p.1 tall)
    (lt_cases (levels (near s l r)) (levels (far s l r)))

-- what a rotation promises of a call, and asks
abbrev pub Rotates : Side → List ℕ → List ℕ → ℕ → ℕ → ℕ → ℕ → Type 0
Rotates s ss after k a b top = (e : Entry) (t u : Tree) → Hung ss k a b e t u → 1 ≤ levels t → Left ss after top (lift s e t u)

abbrev pub Rotatable : List ℕ → ℕ → ℕ → ℕ → Type 0
Rotatable ss k a b = (e : Entry) × (t : Tree) × (u : Tree) × Hung ss k a b e t u × (1 ≤ levels t)

-- Straightening the child a on the side: its children on the side and on the other are `outer` and `inner`.
module _ (s : Side) {ss : List ℕ} {a inner outer : ℕ} (inner_is : inner ≡ far_child s ss a) (outer_is : outer ≡ near_child s ss a) where
  inner_tree : {f : Entry} {l r : Tree} → AtNode ss a f l r → Rooted ss inner (far s l r)
  inner_tree p = rw inner_is (rooted-far s p.left p.right)

  outer_tree : {f : Entry} {l r : Tree} → AtNode ss a f l r → Rooted ss outer (near s l r)
  outer_tree p = rw outer_is (rooted-near s p.left p.right)

  pub outer_inside : (t : Tree) → Rooted ss a t → 1 ≤ levels t → slot_words * outer ≤ length ss
  outer_inside leaf p tall = absurd (omega arith)
  outer_inside (node f l r) p tall = (at_root (outer_tree (at-node p))).inside

  pub inner_inside : (t : Tree) → Rooted ss a t → 1 ≤ levels t → slot_words * inner ≤ length ss
  inner_inside leaf p tall = absurd (omega arith)
  inner_inside (node f l r) p tall = (at_root (inner_tree (at-node p))).inside

  -- the inner subtree, where it is the higher one, may be turned up
  hung_inner : {f : Entry} {l r : Tree} → AtNode ss a f l r → Hung ss a inner outer f (far s l r) (near s l r)
  hung_inner {f} {l} {r} p =
      record {
        bears = p.bears;
        slot_is = p.slot_is;
        left = inner_tree p;
        right = outer_tree p;
        once = λ x. omega (arith, p.once x, times_sides x s l r);
      }

  higher : {f : Entry} {l r : Tree} → AtNode ss a f l r → levels_at ss outer < levels_at ss inner
      → levels (near s l r) < levels (far s l r)
  higher p h = let i = at_root (inner_tree p) in let o = at_root (outer_tree p) in omega arith

  pub turnable : (t : Tree) → Rooted ss a t → 1 ≤ levels t → levels_at ss outer < levels_at ss inner
      → Rotatable ss a inner outer
  turnable leaf p tall h = absurd (omega arith)
  turnable (node f l r) p tall h =
      let at = at-node p in
      (f, far s l r, near s l r, hung_inner at, (let more = higher at h in omega arith))

  pub turned : {after : List ℕ} {top : ℕ} (t : Tree) → Rooted ss a t → 1 ≤ levels t
      → levels_at ss outer < levels_at ss inner
      → Rotates (other s) ss after a inner outer top
      → Left ss after top (straight s t)
  turned leaf p tall h rotates = absurd (omega arith)
  turned (node f l r) p tall h rotates =
      let at = at-node p in
      let more = higher at h in
      rw (lt-ltb (levels (near s l r)) (levels (far s l r)) more)
      (rotates f (far s l r) (near s l r) (hung_inner at) (omega arith))

  -- and else all stays
  pub straight_yet : (t : Tree) → Rooted ss a t → 1 ≤ levels t → levels_at ss inner ≤ levels_at ss outer
      → Left ss ss a (straight s t)
  straight_yet leaf p tall h = absurd (omega arith)
  straight_yet (node f l r) p tall h =
      let at = at-node p in
      let i = at_root (inner_tree at) in
      let o = at_root (outer_tree at) in
      rw (le-ltb (levels (near s l r)) (levels (far s l r)) (omega arith)) (record { rooted = p; kept = kept_refl })

-- Mending: the straightened child is hung in its place.
module _ (s : Side) {ss between : List ℕ} {k a b top : ℕ} {e : Entry} {t u : Tree} (h : Hung ss k a b e t u)
    (straightened : Left ss between top (straight s t)) where
  pub mendable : Hung between k top b e (straight s t) u
  mendable =
      record {
        bears =
            bears-kept straightened.kept (omega (arith, times-straight e.slot s t, h.once e.slot, times-one e.slot))
            h.bears;
        slot_is = h.slot_is;
        left = straightened.rooted;
        right = rooted-kept straightened.kept (λ x p. omega (arith, times-straight x s t, h.once x)) h.right;
        once = λ x. omega (arith, times-straight x s t, h.once x);
      }

  pub mended : {after : List ℕ} {risen : ℕ} → 1 ≤ levels t → Rotates s between after k top b risen
      → Left ss after risen (mend s e t u)
  mended tall rotates =
      left-then straightened (rotates e (straight s t) u mendable (tall-straight s t tall))
      (λ x absent. omega (arith, times-lift x s e (straight s t) u))
