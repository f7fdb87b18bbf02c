-- A rotation stores the lifted tree: what its two joins are given, and what they leave. Assumes nothing.
use Prim.Native.Nat.{ℕ, ◌+◌, ◌%◌, ◌/◌, ◌≤◌}
use mathlib.Core.List.{List, [], ◌∷◌}
use mathlib.Core.Path.{◌≡◌}
use native.Mathlib.Omega.{arith}
use Rattle.rules.specs.Limits.{half}
use Rattle.rules.specs.Tree.{Entry, Tree, leaf, node, levels}
use Rattle.rules.specs.Balance.{Side, near, far, join, lift}
use Rattle.rules.specs.Pool.{times, slots}
use Rattle.rules.specs.Stored.{slot_word, Left}
use Rattle.rules.proofs.Times.{times-node, times-one}
use Rattle.node.proofs.Trees.{AtNode, at-node, bears-kept, rooted-kept, left-then}
use Rattle.node.specs.Node.{Hung}
use Rattle.balance.proofs.Sides.{times-join, times_sides, rooted-near, rooted-far}

-- the words of a slot's links, as its children on the side and on the other
abbrev pub near_child : Side → List ℕ → ℕ → ℕ
near_child s ss k = near s (slot_word ss k 4 % half) (slot_word ss k 4 / half)

abbrev pub far_child : Side → List ℕ → ℕ → ℕ
far_child s ss k = far s (slot_word ss k 4 % half) (slot_word ss k 4 / half)

module _ (s : Side) {ss : List ℕ} {k a b : ℕ} {e f : Entry} {l r u : Tree} (h : Hung ss k a b e (node f l r) u) where
  risen : AtNode ss a f l r
  risen = at-node h.left

  -- no slot is counted twice among the parts
  parts_once : (x : ℕ) → times x (e.slot ∷ []) + ((times x (f.slot ∷ []) + (times x (slots (near s l r)) + times x (slots (far s l r)))) + times x (slots u)) ≤ 1
  parts_once x = omega (arith, h.once x, times-node x f l r, times_sides x s l r)

  -- what the first join is given: the inner subtree goes over to the one that goes down
  sinking : {inner : ℕ} → inner ≡ far_child s ss a → Hung ss k inner b e (far s l r) u
  sinking is =
      rw is
      (record {
        bears = h.bears;
        slot_is = h.slot_is;
        left = rooted-far s risen.left risen.right;
        right = h.right;
        once = λ x. omega (arith, parts_once x);
      })

  module _ {between : List ℕ} (sunk : Left ss between k (join s e (far s l r) u)) where
    -- what the second join is given
    rising : {outer : ℕ} → outer ≡ near_child s ss a → Hung between a outer k f (near s l r) (join s e (far s l r) u)
    rising is =
        rw is
        (record {
          bears =
              bears-kept sunk.kept
              (omega (arith, times-join f.slot s e (far s l r) u, parts_once f.slot, times-one f.slot))
              risen.bears;
          slot_is = risen.slot_is;
          left =
              rooted-kept sunk.kept
              (λ x p. omega (arith, times-join x s e (far s l r) u, parts_once x))
              (rooted-near s risen.left risen.right);
          right = sunk.rooted;
          once = λ x. omega (arith, parts_once x, times-join x s e (far s l r) u);
        })

    -- and what both leave
    rotated : {after : List ℕ} → Left between after a (join s f (near s l r) (join s e (far s l r) u))
        → Left ss after a (lift s e (node f l r) u)
    rotated up =
        left-then sunk up
        (λ x none. omega (arith, times-join x s f (near s l r) (join s e (far s l r) u)))

-- what a join promises of a call
abbrev pub Joins : Side → List ℕ → List ℕ → ℕ → ℕ → ℕ → Type 0
Joins s ss after k a b = (e : Entry) (t u : Tree) → Hung ss k a b e t u → Left ss after k (join s e t u)

-- and asks
abbrev pub Joinable : List ℕ → ℕ → ℕ → ℕ → Type 0
Joinable ss k a b = (e : Entry) × (t : Tree) × (u : Tree) × Hung ss k a b e t u

-- The same for whatever tree is on the side, where there is one.
module _ (s : Side) {ss : List ℕ} {k a b : ℕ} where
  module _ {inner outer : ℕ} (inner_is : inner ≡ far_child s ss a) (outer_is : outer ≡ near_child s ss a) where
    pub first_join : (e : Entry) (t u : Tree) → Hung ss k a b e t u → 1 ≤ levels t → Joinable ss k inner b
    first_join e leaf u h tall = absurd (omega arith)
    first_join e (node f l r) u h tall = (e, far s l r, u, sinking s h inner_is)

    pub second_join : {between : List ℕ} (e : Entry) (t u : Tree) → Hung ss k a b e t u → 1 ≤ levels t
        → Joins s ss between k inner b
        → Joinable between a outer k
    second_join e leaf u h tall first = absurd (omega arith)
    second_join e (node f l r) u h tall first = (
      f,
      near s l r,
      join s e (far s l r) u,
      rising s h (first e (far s l r) u (sinking s h inner_is)) outer_is,
    )

    pub both_joins : {between after : List ℕ} (e : Entry) (t u : Tree) → Hung ss k a b e t u → 1 ≤ levels t
        → Joins s ss between k inner b
        → Joins s between after a outer k
        → Left ss after a (lift s e t u)
    both_joins e leaf u h tall first second = absurd (omega arith)
    both_joins e (node f l r) u h tall first second =
        let sunk = first e (far s l r) u (sinking s h inner_is) in
        rotated s h sunk (second f (near s l r) (join s e (far s l r) u) (rising s h sunk outer_is))
