-- The two sides of a node in its slot: these laws split on the side, so that no other need. Assumes nothing.
use Prim.Native.Nat.{ℕ, ◌+◌}
use mathlib.Core.List.{List, [], ◌∷◌}
use mathlib.Core.Path.{◌≡◌, refl, ap, ◌∙◌}
use native.Mathlib.Omega.{arith}
use Rattle.rules.specs.Tree.{Entry, Tree}
use Rattle.rules.specs.Balance.{Side, left, right, near, far, other, join}
use Rattle.rules.specs.Pool.{times, slots}
use Rattle.rules.specs.Stored.{Rooted}
use Rattle.node.specs.Node.{Hung}
use Rattle.rules.proofs.Times.{times-node}

-- a node's slots, and those of two trees, whichever stands on which side
pub times-join : (x : ℕ) (s : Side) (e : Entry) (t u : Tree)
    → times x (slots (join s e t u)) ≡ times x (e.slot ∷ []) + (times x (slots t) + times x (slots u))
times-join x left e t u = times-node x e t u
times-join x right e t u = omega (arith, times-node x e u t)

pub times_sides : (x : ℕ) (s : Side) (l r : Tree)
    → times x (slots (near s l r)) + times x (slots (far s l r)) ≡ times x (slots l) + times x (slots r)
times_sides x left l r = refl
times_sides x right l r = omega arith

-- two trees hung the other way round
pub hung-turned : {ss : List ℕ} {k a b : ℕ} {e : Entry} {t u : Tree} → Hung ss k a b e t u → Hung ss k b a e u t
hung-turned h =
    record {
      bears = h.bears;
      slot_is = h.slot_is;
      left = h.right;
      right = h.left;
      once = λ x. omega (arith, h.once x);
    }

-- of two rooted trees, the one on the side
pub rooted-near : (s : Side) {ss : List ℕ} {a b : ℕ} {t u : Tree} → Rooted ss a t → Rooted ss b u
    → Rooted ss (near s a b) (near s t u)
rooted-near left p q = p
rooted-near right p q = q

-- the near one of the other side is the far one
near-other : {A : Type 0} (s : Side) (a b : A) → near (other s) a b ≡ far s a b
near-other left a b = refl
near-other right a b = refl

-- of two rooted trees, the one on the other side
pub rooted-far : (s : Side) {ss : List ℕ} {a b : ℕ} {t u : Tree} → Rooted ss a t → Rooted ss b u
    → Rooted ss (far s a b) (far s t u)
rooted-far left p q = q
rooted-far right p q = p

-- what was asked for on the opposite side is the far one
pub far-from-other : {x : ℕ} (s : Side) {t : Side} (a b : ℕ) → t ≡ other s → x ≡ near t a b → x ≡ far s a b
far-from-other s a b q p = p ∙ ap (λ (t : Side). near t a b) q ∙ near-other s a b
