-- A child was changed by a call: it is hung in its place again and balanced. For either side, and for every edit.
-- Assumes nothing.
use Prim.Native.Nat.{ℕ, suc, ◌+◌, ◌*◌, ◌%◌, ◌/◌, ◌≤◌, ◌<◌, max}
use mathlib.Core.List.{List, [], ◌∷◌, map}
use mathlib.Core.Path.{◌≡◌, refl, sym, ap, subst, ◌∙◌}
use native.Mathlib.Omega.{arith}
use Rattle.rules.specs.Limits.{slot_words, half}
use Rattle.rules.specs.Range.{Range, range, Order, less, more, order}
use Rattle.rules.specs.Tree.{Entry, Tree, leaf, node, levels, size, max_end}
use Rattle.rules.specs.Balance.{Side, left, right, near, far, join, balance, balanced_join}
use Rattle.rules.specs.Edit.{find}
use Rattle.rules.specs.Pool.{times, slots}
use Rattle.rules.specs.Stored.{slot_word, Rooted, Left}
use Rattle.rules.proofs.Times.{times-node, times-one}
use Rattle.rules.proofs.Inorder.{entries-balance}
use Rattle.node.specs.Node.{levels_at, Hung}
use Rattle.node.proofs.Trees.{AtNode, at-node, at_root, bears-kept, rooted-kept, left-then}
use Rattle.balance.proofs.Sides.{times_sides, rooted-near, rooted-far}
use Rattle.balance.proofs.Rotated.{near_child, far_child}
use Rattle.settle.specs.Settling.{differs, root_of, Settles, Over}
use Rattle.settle.proofs.Changed.{slot_kept, level_kept}
use Rattle.rules.proofs.Balanced.{Close, Balanced, both, Close_sides, of_near, balanced→Balanced, Balanced→balanced}
use Rattle.balance.specs.declared.Side as code
use Rattle.balance.specs.declared.Side.TheVariants.{Left as OnLeft, Right as OnRight}
use Rattle.balance.specs.Sides.{side_of}
use Rattle.settle.specs.declared.Settled.{Settled}
use Rattle.tree.specs.Edits.{way_of, Standing}
use Rattle.std.specs.Prelude.{Some}

-- which way the order sends a search
abbrev pub way : Side → Order
way left = less
way right = more

-- find goes that way
pub find-way : (s : Side) (k : Range) (e : Entry) (l r : Tree) → order k e.range ≡ way s
    → find k (near s l r) ≡ find k (node e l r)
find-way left k e l r p = rw p refl
find-way right k e l r p = rw p refl

-- a balanced tree has the slots of its parts
pub times-balance : (x : ℕ) (e : Entry) (l r : Tree)
    → times x (slots (balance e l r)) ≡ times x (e.slot ∷ []) + (times x (slots l) + times x (slots r))
times-balance x e l r =
    ap (λ (es : List Entry). times x (map (λ (f : Entry). f.slot) es)) (entries-balance e l r) ∙ times-node x e l r

pub times-balanced_join : (x : ℕ) (s : Side) (e : Entry) (t u : Tree)
    → times x (slots (balanced_join s e t u)) ≡ times x (e.slot ∷ []) + (times x (slots t) + times x (slots u))
times-balanced_join x left e t u = times-balance x e t u
times-balanced_join x right e t u = omega (arith, times-balance x e u t)

-- a slot that is not none holds a node, and none holds no tree
pub not_none : {ss : List ℕ} {k : ℕ} → Rooted ss k leaf → (k ≡ 0 → ⊥) → ⊥
not_none p h = h (sym p.rooted)

pub not_node : {ss : List ℕ} {k : ℕ} {e : Entry} {l r : Tree} → Rooted ss k (node e l r) → k ≡ 0 → ⊥
not_node p h = let at = (at-node p).at in omega arith

-- the range that was read in a node's slot is its entry's
pub range-read : {ss : List ℕ} {k : ℕ} {e : Entry} {l r : Tree} → AtNode ss k e l r
    → range (slot_word ss k 0) (slot_word ss k 1) ≡ e.range
range-read {ss} {k} {e} p =
    let begins : slot_word ss k 0 ≡ e.range.start = rw (← p.slot_is) p.bears.start_word in
    let ends : slot_word ss k 1 ≡ e.range.end = rw (← p.slot_is) p.bears.end_word in
    λ i. record { start = begins i; end = ends i }

-- a node is its children joined, seen from a side
pub join_sides : (s : Side) (e : Entry) (l r : Tree) → node e l r ≡ join s e (near s l r) (far s l r)
join_sides left e l r = refl
join_sides right e l r = refl

shape_sides : (s : Side) (l r : Tree)
    → max (levels l) (levels r) + half * suc (size l + size r)
    ≡ max (levels (near s l r)) (levels (far s l r)) + half * suc (size (near s l r) + size (far s l r))
shape_sides left l r = refl
shape_sides right l r =
    let turned : max (levels r) (levels l) ≡ max (levels l) (levels r) = omega arith in
    rw turned (omega arith)

-- a balanced node's children, seen from a side
pub parts : (s : Side) {e : Entry} {l r : Tree} → Balanced (node e l r) → Close (near s l r) (far s l r) × Balanced (near s l r)
parts s (both c p q) = (Close_sides s c, of_near Balanced s p q)

-- A node, its child a on the side and its child b on the other.
module _ (s : Side) {ss : List ℕ} {k a b : ℕ} {e : Entry} {l r : Tree} (p : AtNode ss k e l r)
    (a_is : a ≡ near_child s ss k) (b_is : b ≡ far_child s ss k) where
  pub near_rooted : Rooted ss a (near s l r)
  near_rooted = rw a_is (rooted-near s p.left p.right)

  pub far_rooted : Rooted ss b (far s l r)
  far_rooted = rw b_is (rooted-far s p.left p.right)

  -- no slot is counted twice among the three
  pub parts_once : (x : ℕ) → times x (e.slot ∷ []) + (times x (slots (near s l r)) + times x (slots (far s l r))) ≤ 1
  parts_once x = omega (arith, p.once x, times_sides x s l r)

  -- The child on the side is now the tree t, rooted in `below`, whose slots are none of the others'.
  module _ {between : List ℕ} {below : ℕ} {t : Tree} (changed : Left ss between below t)
      (apart : (x : ℕ) → times x (e.slot ∷ []) + (times x (slots t) + times x (slots (far s l r))) ≤ 1) where
    pub beside : Hung between k below b e t (far s l r)
    beside =
        record {
          bears = bears-kept changed.kept (omega (arith, apart e.slot, times-one e.slot)) p.bears;
          slot_is = p.slot_is;
          left = changed.rooted;
          right = rooted-kept changed.kept (λ x h. omega (arith, apart x)) far_rooted;
          once = apart;
        }

    -- the words of the node's own slot are what they were
    word_kept : (i : ℕ) → i < slot_words → slot_word between k i ≡ slot_word ss k i
    word_kept i small =
        rw (← p.slot_is)
        (changed.kept.same e.slot i p.bears.at.from_one small (omega (arith, apart e.slot, times-one e.slot)))

    near_yet : a ≡ near_child s between k
    near_yet = rw (word_kept 4 (omega arith)) a_is

    -- an answer that is the old child's slot: it is in its place, and as high as it was
    module _ (n : ℕ) (low : below ≡ n % half) (kept : n ≡ a) where
      small : a < half
      small = let fits = (at_root near_rooted).small in omega arith

      pub in_place : below ≡ near_child s between k
      in_place = low ∙ slot_kept small kept ∙ near_yet

      pub as_high : n / half ≡ differs (levels (near s l r)) (levels t) → levels t ≡ levels (near s l r)
      as_high moved = level_kept small kept (levels (near s l r)) (levels t) moved

    -- so the node stands over the changed child
    pub over_yet : Close (near s l r) (far s l r) → Over s between k below e (near s l r) t (far s l r)
    over_yet c =
        record {
          hung = rw (word_kept 4 (omega arith), ← b_is) beside;
          max_was = word_kept 3 (omega arith) ∙ rw (← p.slot_is) p.links.max_word ∙ ap max_end (join_sides s e l r);
          shape_was = word_kept 5 (omega arith) ∙ rw (← p.slot_is) p.links.shape_word ∙ shape_sides s l r;
          low = c.low;
          high = c.high;
        }

    -- and what both calls leave
    pub settled : {after : List ℕ} {top : ℕ} → Left between after top (balanced_join s e t (far s l r))
        → Left ss after top (balanced_join s e t (far s l r))
    settled done = left-then changed done (λ x absent. omega (arith, times-balanced_join x s e t (far s l r)))

    pub resettled : {after : List ℕ} {top : Settled} {w : Tree}
        → Settles top between after (levels (join s e (near s l r) (far s l r))) (balanced_join s e t (far s l r))
        → balanced_join s e t (far s l r) ≡ w
        → Settles top ss after (levels (node e l r)) w
    resettled {after} {top} up whole =
        record {
          left = subst (λ (u : Tree). Left ss after (root_of top) u) whole (settled up.left);
          moved_is =
              up.moved_is
              ∙ ap (λ (y : Tree). differs (levels y) (levels (balanced_join s e t (far s l r)))) (sym (join_sides s e l r))
              ∙ ap (λ (y : Tree). differs (levels (node e l r)) (levels y)) whole;
        }

-- a child of a tree that stands does, too
pub standing-near : (s : Side) {ss : List ℕ} {k a b : ℕ} {e : Entry} {l r : Tree} → a ≡ near_child s ss k → b ≡ far_child s ss k
    → Standing ss k (node e l r)
    → Standing ss a (near s l r)
standing-near s {e = e} {l} {r} a_is b_is p =
    record {
      rooted = near_rooted s (at-node p.rooted) a_is b_is;
      is_balanced = Balanced→balanced (parts s (balanced→Balanced (node e l r) p.is_balanced)).1;
    }

-- the height falls from a node to its child on the side
pub falls : (s : Side) {ss : List ℕ} {k a : ℕ} {e : Entry} {l r : Tree} → Rooted ss k (node e l r)
    → Rooted ss a (near s l r)
    → levels_at ss a < levels_at ss k
falls left p q = let whole = at_root p in let part = at_root q in omega arith
falls right p q = let whole = at_root p in let part = at_root q in omega arith

-- At the node in slot k the order sends a search for a range to the child a on the side; b is the child on the other.
pub record Turn (s : Side) (key : Range) (ss : List ℕ) (k a b : ℕ) : Type 0 where
  pub there : k ≡ 0 → ⊥
  pub near_is : a ≡ near_child s ss k
  pub far_is : b ≡ far_child s ss k
  pub way_is : order key (range (slot_word ss k 0) (slot_word ss k 1)) ≡ way s

-- the range of the node is one that the search turns at
pub turns : {s : Side} {key : Range} {ss : List ℕ} {k a b : ℕ} {e : Entry} {l r : Tree} → Turn s key ss k a b
    → AtNode ss k e l r
    → order key e.range ≡ way s
turns w at = rw (range-read at) at w.way_is

-- what was told of the order, by a side to which it sends a search
pub way-told : {o : Order} (s : code.Side) → way_of (Some s) ≡ o → o ≡ way (side_of s)
way-told OnLeft q = sym q
way-told OnRight q = sym q
