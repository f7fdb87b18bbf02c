-- The removal of the outermost entry on a side, in slots: what its calls are given, and what they leave. Assumes nothing.
use Prim.Native.Nat.{ℕ, ◌+◌, ◌≤◌, ◌<◌}
use mathlib.Core.List.{List, [], ◌∷◌}
use mathlib.Core.Path.{◌≡◌, refl, sym, ap, subst, ◌∙◌}
use native.Mathlib.Omega.{arith}
use Rattle.rules.specs.Limits.{half}
use Rattle.rules.specs.Tree.{Entry, Tree, leaf, node, levels}
use Rattle.rules.specs.Balance.{Side, left, right, near, far, join, balanced_join}
use Rattle.rules.specs.Edit.{shed, outermost}
use Rattle.rules.specs.Pool.{times, slots}
use Rattle.rules.specs.Stored.{slot_word, Within, Bears, Stored, live, Kept, Rooted, Left}
use Rattle.rules.proofs.Times.{times-cons, times-one}
use Rattle.rules.proofs.Balanced.{balanced→Balanced, levels_sides}
use Rattle.rules.proofs.Edits.{Shrunk-shed}
use Rattle.rules.proofs.Counted.{OneMore, shed-less}
use Rattle.rules.proofs.Searching.{times_shed}
use Rattle.node.specs.Node.{levels_at}
use Rattle.node.proofs.Trees.{at-node, at_root, kept_refl, within-kept}
use Rattle.settle.specs.Settling.{root_of, still, moved, Settles, Losing}
use Rattle.settle.specs.declared.Settled.{Settled}
use Rattle.settle.proofs.Changed.{settles_moved}
use Rattle.balance.proofs.Rotated.{near_child, far_child}
use Rattle.tree.specs.Edits.{end_slot, Standing, Sheds}
use Rattle.tree.specs.declared.Removed.{Removed}
use Rattle.tree.proofs.Hanging.{parts, not_none, near_rooted, far_rooted, parts_once, in_place, as_high, over_yet, resettled, standing-near, falls}

-- a slot that is not none holds a tree of some levels, and none holds none
pub tall-there : {ss : List ℕ} {k : ℕ} (t : Tree) → Rooted ss k t → (k ≡ 0 → ⊥) → 1 ≤ levels t
tall-there leaf p h = absurd (not_none p h)
tall-there (node e l r) p h = omega arith

no_levels : {ss : List ℕ} {k : ℕ} (t : Tree) → Rooted ss k t → k ≡ 0 → levels t ≡ 0
no_levels leaf p h = refl
no_levels (node e l r) p h = absurd (let at = (at-node p).at in omega arith)

-- with no child on the side, the other child is left
shed-last : (s : Side) (e : Entry) (l r : Tree) → levels (near s l r) ≡ 0
    → (far s l r ≡ shed s (node e l r)) × (e.slot ≡ end_slot s (node e l r))
shed-last left e leaf r h = (refl, refl)
shed-last left e (node f a b) r h = absurd (omega arith)
shed-last right e l leaf h = (refl, refl)
shed-last right e l (node f a b) h = absurd (omega arith)

-- else the outermost entry is the child's
shed-more : (s : Side) (e : Entry) (l r : Tree) → 1 ≤ levels (near s l r)
    → (balanced_join s e (shed s (near s l r)) (far s l r) ≡ shed s (node e l r)) × (end_slot s (near s l r) ≡ end_slot s (node e l r))
shed-more left e leaf r h = absurd (omega arith)
shed-more left e (node f a b) r h = (refl, refl)
shed-more right e l leaf h = absurd (omega arith)
shed-more right e l (node f a b) h = (refl, refl)

-- the slot of the outermost entry is taken off, and no other
pub times_ended : (x : ℕ) (s : Side) (t : Tree) → 1 ≤ levels t
    → times x (slots t) ≡ times x (end_slot s t ∷ []) + times x (slots (shed s t))
times_ended x s leaf h = absurd (omega arith)
times_ended x s (node e l r) h =
    times_shed s e l r x ∙ times-cons x (outermost s e (node e l r)).slot (slots (shed s (node e l r)))

-- the outermost entry is in its slot
pub bears-end : {ss : List ℕ} (s : Side) (e : Entry) (l r : Tree) → Stored ss (node e l r) → Bears ss (outermost s e (node e l r))
bears-end left e leaf r (live b links p q) = b
bears-end left e (node f a c) r (live b links p q) = bears-end left f a c p
bears-end right e l leaf (live b links p q) = b
bears-end right e l (node f a c) (live b links p q) = bears-end right f a c q

-- that end is read in its slot
shed-one : {ss : List ℕ} (s : Side) (t : Tree) → Stored ss t → 1 ≤ levels t → OneMore (slot_word ss (end_slot s t) 1) (shed s t) t
shed-one s leaf p tall = absurd (omega arith)
shed-one s (node e l r) p tall = rw (bears-end s e l r p).end_word (shed-less s e l r)

end-within : {ss : List ℕ} (s : Side) (t : Tree) → Stored ss t → 1 ≤ levels t → Within ss (end_slot s t)
end-within s leaf p tall = absurd (omega arith)
end-within s (node e l r) p tall = (bears-end s e l r p).at

-- and is still there when the entry has gone
end_kept : {ss between : List ℕ} {k : ℕ} (s : Side) (t : Tree) → Rooted ss k t → 1 ≤ levels t → Kept (slots (shed s t)) ss between
    → slot_word between (end_slot s t) 1 ≡ slot_word ss (end_slot s t) 1
end_kept s t p tall kept =
    let x = end_slot s t in
    kept.same x 1 (end-within s t p.stored tall).from_one (omega arith)
    (omega (arith, times_ended x s t tall, p.distinct.once x, times-one x))

module _ (s : Side) {ss : List ℕ} {k a b : ℕ} (a_is : a ≡ near_child s ss k) (b_is : b ≡ far_child s ss k) where
  -- with no child on the side nothing is written
  pub far_small : (t : Tree) → Rooted ss k t → 1 ≤ levels t → b < half
  far_small leaf p tall = absurd (omega arith)
  far_small (node e l r) p tall = let small = (at_root (far_rooted s (at-node p) a_is b_is)).small in omega arith

  pub sheds_last : {top : Settled} (t : Tree) → Standing ss k t → 1 ≤ levels t → a ≡ 0 → top ≡ moved b
      → Sheds s (record { top = top; slot = k }) ss ss t
  sheds_last leaf p tall h is = absurd (omega arith)
  sheds_last (node e l r) p tall h is =
      let at = at-node p.rooted in
      let none = no_levels (near s l r) (near_rooted s at a_is b_is) h in
      let last = shed-last s e l r none in
      record {
        settles =
            settles_moved
            (subst (λ (u : Tree). Left ss ss b u) last.0 (record { rooted = far_rooted s at a_is b_is; kept = kept_refl }))
            (λ z. let whole = ap levels last.0 ∙ z in let sides = levels_sides s e l r in omega arith)
            is;
        slot_is = sym at.slot_is ∙ last.1;
      }

  child_stands : {e : Entry} {l r : Tree} → Standing ss k (node e l r) → Standing ss a (near s l r)
  child_stands p = standing-near s a_is b_is p

  -- else the child on the side is shed
  pub goes_out : (t : Tree) → Standing ss k t → 1 ≤ levels t → (a ≡ 0 → ⊥)
      → (levels_at ss a < levels_at ss k) × ((u : Tree) × Standing ss a u × (1 ≤ levels u))
  goes_out leaf p tall h = absurd (omega arith)
  goes_out (node e l r) p tall h =
      let child = child_stands p in
      (falls s p.rooted child.rooted, (near s l r, child, tall-there (near s l r) child.rooted h))

  -- no slot of the parts is counted twice after that
  apart_out : {e : Entry} {l r : Tree} → Rooted ss k (node e l r) → 1 ≤ levels (near s l r)
      → (x : ℕ) → times x (e.slot ∷ []) + (times x (slots (shed s (near s l r))) + times x (slots (far s l r))) ≤ 1
  apart_out {e} {l} {r} p tall x =
      omega (arith, times_ended x s (near s l r) tall, parts_once s (at-node p) a_is b_is x)

  module _ {between : List ℕ} {below : Removed} (there : a ≡ 0 → ⊥)
      (done : (u : Tree) → Standing ss a u → 1 ≤ levels u → Sheds s below ss between u) where
    tall_near : {e : Entry} {l r : Tree} → Standing ss k (node e l r) → 1 ≤ levels (near s l r)
    tall_near {l = l} {r} p = tall-there (near s l r) (child_stands p).rooted there

    shorter : {e : Entry} {l r : Tree} → Standing ss k (node e l r) → Sheds s below ss between (near s l r)
    shorter {l = l} {r} p = done (near s l r) (child_stands p) (tall_near p)

    -- the slot of the entry that went may be read
    pub end_there : (t : Tree) → Standing ss k t → 1 ≤ levels t → Within between below.slot
    end_there leaf p tall = absurd (omega arith)
    end_there (node e l r) p tall =
        rw (shorter p).slot_is
        (within-kept (shorter p).settles.left.kept
        (end-within s (near s l r) (child_stands p).rooted.stored (tall_near p)))

    module _ {end : ℕ} (end_is : end ≡ slot_word between below.slot 1) where
      -- the child has one entry less
      loses : {e : Entry} {l r : Tree} → Standing ss k (node e l r)
          → Losing s between k (root_of below.top) end e (near s l r) (shed s (near s l r)) (far s l r)
      loses {e} {l} {r} p =
          let child = (child_stands p).rooted in
          let less = shorter p in
          let sides = parts s (balanced→Balanced (node e l r) p.is_balanced) in
          let sinks = Shrunk-shed s sides.1 in
          let read : end ≡ slot_word ss (end_slot s (near s l r)) 1 =
          end_is ∙ ap (λ (x : ℕ). slot_word between x 1) less.slot_is
          ∙ end_kept s (near s l r) child (tall_near p) less.settles.left.kept
          in
          let one = shed-one s (near s l r) child.stored (tall_near p) in
          record {
            over = over_yet s (at-node p.rooted) a_is b_is less.settles.left (apart_out p.rooted (tall_near p)) sides.0;
            size_is = one.size_is;
            max_is = rw read one.max_is;
            least = let least = sinks.least in omega arith;
            most = let most = sinks.most in omega arith;
          }

      -- what is left where the node over the child is settled
      lifts : {after : List ℕ} {top : Settled} {e : Entry} {l r : Tree} → Standing ss k (node e l r)
          → Settles top between after (levels (join s e (near s l r) (far s l r))) (balanced_join s e (shed s (near s l r)) (far s l r))
          → Sheds s (record { top = top; slot = below.slot }) ss after (node e l r)
      lifts {e = e} {l} {r} p up =
          let less = shorter p in
          let whole = shed-more s e l r (tall_near p) in
          record {
            settles = resettled s (at-node p.rooted) a_is b_is less.settles.left (apart_out p.rooted (tall_near p)) up whole.0;
            slot_is = less.slot_is ∙ whole.1;
          }

      -- the child is another one, or as high as another: the node is lowered
      pub hangs_shed : (t : Tree) → Standing ss k t → 1 ≤ levels t
          → (e : Entry) × (u : Tree) × (v : Tree) × (y : Tree) × Losing s between k (root_of below.top) end e u v y
      hangs_shed leaf p tall = absurd (omega arith)
      hangs_shed (node e l r) p tall = (e, near s l r, shed s (near s l r), far s l r, loses p)

      pub lowered_above : {after : List ℕ} {top : Settled} (t : Tree) → Standing ss k t → 1 ≤ levels t
          → ((e : Entry) (u v y : Tree) → Losing s between k (root_of below.top) end e u v y
          → Settles top between after (levels (join s e u y)) (balanced_join s e v y))
          → Sheds s (record { top = top; slot = below.slot }) ss after t
      lowered_above leaf p tall lowered = absurd (omega arith)
      lowered_above (node e l r) p tall lowered =
          lifts p (lowered e (near s l r) (shed s (near s l r)) (far s l r) (loses p))

      -- the child kept its slot and its height: the entry is taken off the count
      module _ (kept : below.top.word ≡ a) where
        loses_kept : {e : Entry} {l r : Tree} → Standing ss k (node e l r)
            → Losing s between k (near_child s between k) end e (near s l r) (shed s (near s l r)) (far s l r)
            × (levels (shed s (near s l r)) ≡ levels (near s l r))
        loses_kept p =
            let at = at-node p.rooted in
            let less = (shorter p).settles in
            let apart = apart_out p.rooted (tall_near p) in (
              rw (in_place s at a_is b_is less.left apart below.top.word refl kept) at (loses p),
              as_high s at a_is b_is less.left apart below.top.word refl kept less.moved_is,
            )

        pub discounts_above : (t : Tree) → Standing ss k t → 1 ≤ levels t
            → (z : Side) × (e : Entry) × (u : Tree) × (v : Tree) × (y : Tree) × Losing z between k (near_child z between k) end e u v y × (levels v ≡ levels u)
        discounts_above leaf p tall = absurd (omega arith)
        discounts_above (node e l r) p tall =
            let g = loses_kept p in (s, e, near s l r, shed s (near s l r), far s l r, g.0, g.1)

        pub discounted_above : {after : List ℕ} {top : Settled} (t : Tree) → Standing ss k t → 1 ≤ levels t
            → ((z : Side) (e : Entry) (u v y : Tree) → Losing z between k (near_child z between k) end e u v y → levels v ≡ levels u
            → Settles (still k) between after (levels (join z e u y)) (balanced_join z e v y))
            → top ≡ still k
            → Sheds s (record { top = top; slot = below.slot }) ss after t
        discounted_above leaf p tall discounted is = absurd (omega arith)
        discounted_above (node e l r) p tall discounted is =
            let g = loses_kept p in rw is (lifts p (discounted s e (near s l r) (shed s (near s l r)) (far s l r) g.0 g.1))
