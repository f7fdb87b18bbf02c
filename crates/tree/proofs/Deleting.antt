-- The place of an entry that goes: what closes it, and which slot a delete takes off. Assumes nothing.
use Prim.Native.Nat.{ℕ, ◌+◌, ◌≤◌}
use mathlib.Core.List.{List, [], ◌∷◌, map, map-append}
use mathlib.Core.Option.{some}
use mathlib.Core.Path.{◌≡◌, refl, sym, ap, ◌∙◌}
use native.Mathlib.Omega.{arith}
use Rattle.rules.specs.Range.{Range}
use Rattle.rules.specs.Tree.{Entry, Tree, leaf, node, levels, entries}
use Rattle.rules.specs.Balance.{left, balance}
use Rattle.rules.specs.Edit.{find, delete, shed, outermost, close}
use Rattle.rules.specs.Pool.{times, slots}
use Rattle.rules.specs.Stored.{Left}
use Rattle.rules.proofs.Times.{times-append, times-node, times-one}
use Rattle.rules.proofs.Order.{same-equal}
use Rattle.rules.proofs.Inorder.{entries-close}
use Rattle.rules.proofs.Counted.{found_not_none, found-one}
use Rattle.rules.proofs.Ways.{Down, no_tree, at_root, to_left, to_right, down}
use Rattle.node.specs.Node.{Hung}
use Rattle.node.proofs.Trees.{kept_refl, bears-kept, rooted-kept, left-then}
use Rattle.tree.specs.Edits.{Standing, Sheds, Pair}
use Rattle.settle.specs.Settling.{root_of}
use Rattle.tree.specs.declared.Removed.{Removed}
use Rattle.tree.proofs.Hanging.{times-balance, not_none, not_node}
use Rattle.tree.proofs.Shedding.{times_ended, bears-end}

-- what closes the gap has the slots of both subtrees
pub times-close : (x : ℕ) (t u : Tree) → times x (slots (close t u)) ≡ times x (slots t) + times x (slots u)
times-close x t u =
    ap (λ (es : List Entry). times x (map (λ (f : Entry). f.slot) es)) (entries-close t u)
    ∙ ap (times x) (map-append (λ (f : Entry). f.slot) (entries t) (entries u))
    ∙ times-append x (slots t) (slots u)

-- with no left child, the right child takes the place
pub close-right : {ss : List ℕ} {a b : ℕ} (t u : Tree) → Pair ss a b t u → a ≡ 0 → Left ss ss b (close t u)
close-right leaf u p h = record { rooted = p.right.rooted; kept = kept_refl }
close-right (node e l r) u p h = absurd (not_node p.left h)

-- else with no right child, the left does
pub close-left : {ss : List ℕ} {a b : ℕ} (t u : Tree) → Pair ss a b t u → (a ≡ 0 → ⊥) → b ≡ 0 → Left ss ss a (close t u)
close-left leaf u p h k = absurd (not_none p.left h)
close-left (node e l r) leaf p h k = record { rooted = p.left; kept = kept_refl }
close-left (node e l r) (node f c d) p h k = absurd (not_node p.right.rooted k)

-- with both, the smallest entry of the right one is installed
module _ {ss between : List ℕ} {a b : ℕ} {least : Removed} where
  installs : (t : Tree) (f : Entry) (c d : Tree) → Pair ss a b t (node f c d) → Sheds left least ss between (node f c d)
      → Hung between least.slot a (root_of least.top) (outermost left f (node f c d)) t (shed left (node f c d))
  installs t f c d p shorter =
      let u = node f c d in
      let last = outermost left f u in
      let gone : (x : ℕ) → times x (last.slot ∷ []) + (times x (slots t) + times x (slots (shed left u))) ≤ 1 =
      λ x. omega (arith, p.once x, times_ended x left u (omega arith))
      in
      record {
        bears =
            bears-kept shorter.settles.left.kept (omega (arith, gone last.slot, times-one last.slot))
            (bears-end left f c d p.right.rooted.stored);
        slot_is = sym shorter.slot_is;
        left = rooted-kept shorter.settles.left.kept (λ x h. omega (arith, gone x)) p.left;
        right = shorter.settles.left.rooted;
        once = gone;
      }

  pub close_hangs : (t u : Tree) → Pair ss a b t u → (a ≡ 0 → ⊥) → (b ≡ 0 → ⊥)
      → ((v : Tree) → Standing ss b v → 1 ≤ levels v → Sheds left least ss between v)
      → (e : Entry) × (v : Tree) × (w : Tree) × Hung between least.slot a (root_of least.top) e v w
  close_hangs t leaf p h k sheds = absurd (not_none p.right.rooted k)
  close_hangs t (node f c d) p h k sheds = (
    outermost left f (node f c d),
    t,
    shed left (node f c d),
    installs t f c d p (sheds (node f c d) p.right (omega arith)),
  )

  pub close_both : {after : List ℕ} {top : ℕ} (t u : Tree) → Pair ss a b t u → (a ≡ 0 → ⊥) → (b ≡ 0 → ⊥)
      → ((v : Tree) → Standing ss b v → 1 ≤ levels v → Sheds left least ss between v)
      → ((e : Entry) (v w : Tree) → Hung between least.slot a (root_of least.top) e v w → Left between after top (balance e v w))
      → Left ss after top (close t u)
  close_both leaf u p h k sheds balanced = absurd (not_none p.left h)
  close_both (node e l r) leaf p h k sheds balanced = absurd (not_none p.right.rooted k)
  close_both (node e l r) (node f c d) p h k sheds balanced =
      let shorter = sheds (node f c d) p.right (omega arith) in
      left-then shorter.settles.left
      (balanced (outermost left f (node f c d)) (node e l r) (shed left (node f c d)) (installs (node e l r) f c d p shorter))
      (λ x absent. omega (arith, times-balance x (outermost left f c) (node e l r) (shed left (node f c d))))

-- a delete takes the slot of the entry that it finds, whatever the order of the tree
removed_along : (y : ℕ) (k : Range) {t : Tree} {e : Entry} → Down k t → find k t ≡ some e
    → times y (slots t) ≡ times y (e.slot ∷ []) + times y (slots (delete k t))
removed_along y k {e = e} no_tree h = absurd (found_not_none {x = e} h refl)
removed_along y k {e = e} (at_root {e = f} {l} {r} p) h =
    let one : f ≡ e = found-one (rw p refl) h in
    rw p (omega (arith, times-node y f l r, times-close y l r, ap (λ (g : Entry). times y (g.slot ∷ [])) one))
removed_along y k (to_left {e = f} {l} {r} p d) h =
    let deeper = removed_along y k d (rw p at h) in
    rw p (omega (arith, times-balance y f (delete k l) r, times-node y f l r))
removed_along y k (to_right {e = f} {l} {r} p d) h =
    let deeper = removed_along y k d (rw p at h) in
    rw p (omega (arith, times-balance y f l (delete k r), times-node y f l r))

pub times_deleted : (y : ℕ) (k : Range) (t : Tree) {e : Entry} → find k t ≡ some e
    → times y (slots t) ≡ times y (e.slot ∷ []) + times y (slots (delete k t))
times_deleted y k t h = removed_along y k (down k t) h

-- what is found has that very range
found_along : (k : Range) {t : Tree} {x : Entry} → Down k t → find k t ≡ some x → k ≡ x.range
found_along k {x = x} no_tree h = absurd (found_not_none {x = x} h refl)
found_along k {x = x} (at_root {e = f} p) h =
    let one : f ≡ x = found-one (rw p refl) h in
    same-equal k f.range p ∙ ap (λ (e : Entry). e.range) one
found_along k (to_left p d) h = found_along k d (rw p at h)
found_along k (to_right p d) h = found_along k d (rw p at h)

pub found-range : (k : Range) (t : Tree) {x : Entry} → find k t ≡ some x → k ≡ x.range
found-range k t h = found_along k (down k t) h
