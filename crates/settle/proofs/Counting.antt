-- A node's child has one entry more, or one less: what `gain` and `lose` write into its slot is what an update would.
-- Assumes nothing.
use Prim.Native.Nat.{ℕ, ◌+◌, ◌*◌, max}
use mathlib.Core.List.{List}
use mathlib.Core.Logic.{⊎_elim}
use mathlib.Core.Path.{◌≡◌, refl, ◌∙◌}
use native.Mathlib.Omega.{arith}
use Rattle.rules.specs.Limits.{half}
use Rattle.rules.specs.Tree.{Entry, Tree, node, levels, size, max_end}
use Rattle.rules.specs.Stored.{slot_word}
use Rattle.rules.proofs.Tests.{eq_cases}
use Rattle.rules.proofs.Counted.{OneMore}
use Rattle.node.specs.Node.{max_at, Hung}
use Rattle.node.proofs.Trees.{at_root}
use Rattle.node.proofs.Updated.{Given}
use Rattle.settle.specs.Settling.{max_without}

-- the larger of an old max m and a new end n is the new max y; and an old max that is not the end that went stays
put_in : (n : ℕ) {m x y : ℕ} → m ≡ x → y ≡ max n x → max m n ≡ y
put_in n p q = omega arith

kept-max : (n : ℕ) {m x y : ℕ} → m ≡ y → y ≡ max n x → (m ≡ n → ⊥) → m ≡ x
kept-max n p q other = omega (arith, other)

-- the max over both children, as it is read
max_read : {ss : List ℕ} {k l r : ℕ} {e : Entry} {a b : Tree} → Hung ss k l r e a b
    → max_end (node e a b) ≡ max (slot_word ss k 1) (max (max_at ss l) (max_at ss r))
max_read {ss} {k} {e = e} h =
    let la = (at_root h.left).max_is in
    let rb = (at_root h.right).max_is in
    let ends : slot_word ss k 1 ≡ e.range.end = rw (← h.slot_is) h.bears.end_word in
    omega arith

-- The entry e in slot k, now over the trees a and b; over c and d it had the max that is still in the slot.
module _ {ss : List ℕ} {k l r links shape : ℕ} {e : Entry} {a b : Tree} (n : ℕ) (h : Hung ss k l r e a b) (c d : Tree)
    (max_was : slot_word ss k 3 ≡ max_end (node e c d))
    (links_is : links ≡ l + half * r)
    (shape_is : shape ≡ max (levels a) (levels b) + half * size (node e a b)) where
  pub gained : OneMore n (node e c d) (node e a b) → Given ss k l r (max (slot_word ss k 3) n) links shape
  gained more =
      let la = at_root h.left in
      let rb = at_root h.right in
      record {
        max_is = put_in n max_was more.max_is ∙ max_read h;
        links_is = links_is;
        shape_is = shape_is ∙ rw (la.levels_is, rb.levels_is, la.size_is, rb.size_is) (omega arith);
      }

  pub lost : OneMore n (node e a b) (node e c d) → Given ss k l r (max_without ss k l r n) links shape
  lost less =
      let la = at_root h.left in
      let rb = at_root h.right in
      record {
        max_is =
            ⊎_elim
            (λ same. rw same.1 refl)
            (λ other. rw other.1 (kept-max n max_was less.max_is other.0 ∙ max_read h))
            (eq_cases (slot_word ss k 3) n);
        links_is = links_is;
        shape_is = shape_is ∙ rw (la.levels_is, rb.levels_is, la.size_is, rb.size_is) (omega arith);
      }
