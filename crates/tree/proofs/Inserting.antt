-- An insert in slots: what each of its calls is given, and what they leave. Assumes nothing.
use Prim.Native.Nat.{ℕ, ◌+◌, ◌≤◌, ◌<◌}
use mathlib.Core.List.{List, [], ◌∷◌}
use mathlib.Core.Option.{none}
use mathlib.Core.Path.{◌≡◌, refl, sym, ◌∙◌}
use mathlib.Core.Logic.{⊎_elim}
use native.Mathlib.Omega.{arith}
use Rattle.rules.specs.Range.{range, same, order}
use Rattle.rules.specs.Tree.{Entry, Tree, leaf, node, levels}
use Rattle.rules.specs.Balance.{Side, left, right, near, far, join, balanced_join}
use Rattle.rules.specs.Edit.{find, insert}
use Rattle.rules.specs.Pool.{times, slots}
use Rattle.rules.specs.Stored.{slot_word, Left}
use Rattle.rules.proofs.Tests.{eq_cases}
use Rattle.rules.proofs.Times.{times-node, times-apart, times-most-once}
use Rattle.rules.proofs.Ways.{Down, no_tree, to_left, to_right, down}
use Rattle.rules.proofs.Ways as ways
use Rattle.node.specs.Node.{levels_at}
use Rattle.node.proofs.Trees.{at-node}
use Rattle.settle.proofs.Changed.{settles_moved}
use Rattle.balance.proofs.Sides.{times_sides}
use Rattle.tree.specs.Edits.{Inserting, Inserts}
use Rattle.settle.specs.Settling.{root_of, still, moved, Settles, Gaining}
use Rattle.settle.specs.declared.Settled.{Settled}
use Rattle.std.specs.Prelude.{Some, None}
use Rattle.rules.proofs.Balanced.{balanced→Balanced}
use Rattle.rules.proofs.Edits.{Grown-insert}
use Rattle.rules.proofs.Counted.{found_not_none, insert-more}
use Rattle.balance.proofs.Rotated.{near_child}
use Rattle.tree.proofs.Hanging.{parts, way, find-way, times-balance, not_none, not_node, range-read, parts_once, in_place, as_high, over_yet, resettled, standing-near, falls, Turn, turns}

-- an insert of a new range adds its slot, whatever the order of the tree
added_along : (y : ℕ) (x : Entry) {t : Tree} → Down x.range t → find x.range t ≡ none
    → times y (slots (insert x t)) ≡ times y (x.slot ∷ []) + times y (slots t)
added_along y x no_tree h = omega arith
added_along y x (ways.at_root {e} p) h = absurd (found_not_none {x = e} (rw p refl) h)
added_along y x (to_left {e} {l} {r} p d) h =
    let deeper = added_along y x d (rw p at h) in
    rw p (omega (arith, times-balance y e (insert x l) r, times-node y e l r))
added_along y x (to_right {e} {l} {r} p d) h =
    let deeper = added_along y x d (rw p at h) in
    rw p (omega (arith, times-balance y e l (insert x r), times-node y e l r))

pub times_inserted : (y : ℕ) (x : Entry) (t : Tree) → find x.range t ≡ none
    → times y (slots (insert x t)) ≡ times y (x.slot ∷ []) + times y (slots t)
times_inserted y x t h = added_along y x (down x.range t) h

-- the way that the order sends a search is the way of insert
insert-way : (s : Side) (x e : Entry) (l r : Tree) → order x.range e.range ≡ way s
    → balanced_join s e (insert x (near s l r)) (far s l r) ≡ insert x (node e l r)
insert-way left x e l r p = rw p refl
insert-way right x e l r p = rw p refl

-- where there is no tree, the new node is the tree
pub into_none : {ss after : List ℕ} {k : ℕ} (x : Entry) (t : Tree) → k ≡ 0 → Inserting ss k x.slot t
    → Left ss after x.slot (node x leaf leaf)
    → {r : Settled} → r ≡ moved x.slot
    → Inserts (Some r) ss after x t
into_none x leaf h p made is = (refl, settles_moved made (λ z. omega arith) is)
into_none x (node e l r) h p made is = absurd (not_node p.standing.rooted h)

-- "an equal range keeps the old value and the new one is dropped"
pub into_there : {ss : List ℕ} {k : ℕ} (x : Entry) (t : Tree) → (k ≡ 0 → ⊥) → Inserting ss k x.slot t
    → order x.range (range (slot_word ss k 0) (slot_word ss k 1)) ≡ same
    → Inserts None ss ss x t
into_there x leaf h p o = absurd (not_none p.standing.rooted h)
into_there x (node e l r) h p o =
    let equal : order x.range e.range ≡ same = rw (range-read (at-node p.standing.rooted)) at o in
    ((e, rw equal refl), refl)

-- Down into the child a on the side, whose other child is b.
module _ (x : Entry) {s : Side} {ss : List ℕ} {k a b : ℕ} (w : Turn s x.range ss k a b) where
  inserting_near : {e : Entry} {l r : Tree} → Inserting ss k x.slot (node e l r) → Inserting ss a x.slot (near s l r)
  inserting_near {e} {l} {r} p =
      record {
        standing = standing-near s w.near_is w.far_is p.standing;
        within = p.within;
        absent = let none = p.absent in omega (arith, times-node x.slot e l r, times_sides x.slot s l r);
      }

  -- the insert into the child may be called
  pub goes_down : (t : Tree) → Inserting ss k x.slot t
      → (levels_at ss a < levels_at ss k) × ((u : Tree) × Inserting ss a x.slot u)
  goes_down leaf p = absurd (not_none p.standing.rooted w.there)
  goes_down (node e l r) p =
      let below = inserting_near p in
      (falls s p.standing.rooted below.standing.rooted, (near s l r, below))

  -- the range was there below
  pub there_below : {between : List ℕ} (t : Tree) → Inserting ss k x.slot t
      → ((u : Tree) → Inserting ss a x.slot u → Inserts None ss between x u)
      → Inserts None ss between x t
  there_below leaf p done = absurd (not_none p.standing.rooted w.there)
  there_below (node e l r) p done =
      let found = done (near s l r) (inserting_near p) in
      ((found.0.0, sym (find-way s x.range e l r (turns w (at-node p.standing.rooted))) ∙ found.0.1), found.1)

  -- no slot of the parts is counted twice after the insert below
  apart_below : {e : Entry} {l r : Tree} → Inserting ss k x.slot (node e l r) → find x.range (near s l r) ≡ none
      → (y : ℕ) → times y (e.slot ∷ []) + (times y (slots (insert x (near s l r))) + times y (slots (far s l r))) ≤ 1
  apart_below {e} {l} {r} p new y =
      let more = times_inserted y x (near s l r) new in
      let once = parts_once s (at-node p.standing.rooted) w.near_is w.far_is y in
      ⊎_elim
      (λ here.
      let absent = rw (← here.0) at p.absent in
      omega (arith, times-node y e l r, times_sides y s l r, times-most-once y x.slot))
      (λ other. omega (arith, times-apart y x.slot other.0))
      (eq_cases y x.slot)

  module _ {between : List ℕ} {below : Settled}
      (done : (u : Tree) → Inserting ss a x.slot u → Inserts (Some below) ss between x u) where
    put_below : {e : Entry} {l r : Tree} → Inserting ss k x.slot (node e l r)
        → (find x.range (near s l r) ≡ none) × Settles below ss between (levels (near s l r)) (insert x (near s l r))
    put_below {l = l} {r} p = done (near s l r) (inserting_near p)

    -- the child has one more entry
    gains : {e : Entry} {l r : Tree} → Inserting ss k x.slot (node e l r)
        → Gaining s between k (root_of below) x.range.end e (near s l r) (insert x (near s l r)) (far s l r)
    gains {e} {l} {r} p =
        let at = at-node p.standing.rooted in
        let told = put_below p in
        let changed = told.1.left in
        let apart = apart_below p told.0 in
        let sides = parts s (balanced→Balanced (node e l r) p.standing.is_balanced) in
        let more = insert-more x (near s l r) told.0 in
        let rise = Grown-insert x sides.1 in
        record {
          over = over_yet s at w.near_is w.far_is changed apart sides.0;
          size_is = more.size_is;
          max_is = more.max_is;
          least = let least = rise.least in omega arith;
          most = let most = rise.most in omega arith;
        }

    -- what is left where the node over the child is settled
    lifts : {after : List ℕ} {top : Settled} {e : Entry} {l r : Tree} → Inserting ss k x.slot (node e l r)
        → Settles top between after (levels (join s e (near s l r) (far s l r))) (balanced_join s e (insert x (near s l r)) (far s l r))
        → Inserts (Some top) ss after x (node e l r)
    lifts {e = e} {l} {r} p up =
        let at = at-node p.standing.rooted in
        let told = put_below p in (
          sym (find-way s x.range e l r (turns w at)) ∙ told.0,
          resettled s at w.near_is w.far_is told.1.left (apart_below p told.0) up (insert-way s x e l r (turns w at)),
        )

    -- the child is another one, or as high as another: the node is raised
    pub hangs : (t : Tree) → Inserting ss k x.slot t
        → (e : Entry) × (u : Tree) × (v : Tree) × (y : Tree) × Gaining s between k (root_of below) x.range.end e u v y
    hangs leaf p = absurd (not_none p.standing.rooted w.there)
    hangs (node e l r) p = (e, near s l r, insert x (near s l r), far s l r, gains p)

    pub raised_above : {after : List ℕ} {top : Settled} (t : Tree) → Inserting ss k x.slot t
        → ((e : Entry) (u v y : Tree) → Gaining s between k (root_of below) x.range.end e u v y
        → Settles top between after (levels (join s e u y)) (balanced_join s e v y))
        → Inserts (Some top) ss after x t
    raised_above leaf p raised = absurd (not_none p.standing.rooted w.there)
    raised_above (node e l r) p raised = lifts p (raised e (near s l r) (insert x (near s l r)) (far s l r) (gains p))

    -- the child kept its slot and its height: the entry is counted
    module _ (kept : below.word ≡ a) where
      gains_kept : {e : Entry} {l r : Tree} → Inserting ss k x.slot (node e l r)
          → Gaining s between k (near_child s between k) x.range.end e (near s l r) (insert x (near s l r)) (far s l r)
          × (levels (insert x (near s l r)) ≡ levels (near s l r))
      gains_kept p =
          let at = at-node p.standing.rooted in
          let told = put_below p in
          let apart = apart_below p told.0 in (
            rw (in_place s at w.near_is w.far_is told.1.left apart below.word refl kept) at (gains p),
            as_high s at w.near_is w.far_is told.1.left apart below.word refl kept told.1.moved_is,
          )

      pub counts_above : (t : Tree) → Inserting ss k x.slot t
          → (z : Side) × (e : Entry) × (u : Tree) × (v : Tree) × (y : Tree) × Gaining z between k (near_child z between k) x.range.end e u v y × (levels v ≡ levels u)
      counts_above leaf p = absurd (not_none p.standing.rooted w.there)
      counts_above (node e l r) p =
          let g = gains_kept p in (s, e, near s l r, insert x (near s l r), far s l r, g.0, g.1)

      pub counted_above : {after : List ℕ} {top : Settled} (t : Tree) → Inserting ss k x.slot t
          → ((z : Side) (e : Entry) (u v y : Tree) → Gaining z between k (near_child z between k) x.range.end e u v y → levels v ≡ levels u
          → Settles (still k) between after (levels (join z e u y)) (balanced_join z e v y))
          → top ≡ still k
          → Inserts (Some top) ss after x t
      counted_above leaf p counted is = absurd (not_none p.standing.rooted w.there)
      counted_above (node e l r) p counted is =
          let g = gains_kept p in rw is (lifts p (counted s e (near s l r) (insert x (near s l r)) (far s l r) g.0 g.1))
