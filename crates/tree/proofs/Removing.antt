-- A delete goes down by the order and settles on its way up: what each call is given and leaves. Assumes nothing.
use Prim.Native.Nat.{ℕ, ◌+◌, ◌≤◌, ◌<◌, max}
use mathlib.Core.List.{List, [], ◌∷◌}
use mathlib.Core.Option.{none, some}
use mathlib.Core.Path.{◌≡◌, refl, sym, ap, ◌∙◌}
use native.Mathlib.Omega.{arith}
use Rattle.rules.specs.Range.{Range, range, same, order}
use Rattle.rules.specs.Tree.{Entry, Tree, leaf, node, levels, max_end}
use Rattle.rules.specs.Balance.{Side, left, right, near, far, join, balanced_join}
use Rattle.rules.specs.Edit.{find, delete, close}
use Rattle.rules.specs.Pool.{times, slots}
use Rattle.rules.specs.Stored.{slot_word, Rooted}
use Rattle.node.specs.Node.{levels_at}
use Rattle.node.proofs.Trees.{AtNode, at-node}
use Rattle.balance.proofs.Rotated.{near_child, far_child}
use Rattle.tree.specs.Edits.{Standing, Pair, Deletes}
use Rattle.tree.specs.declared.Removed.{Removed}
use Rattle.rules.proofs.Balanced.{balanced→Balanced}
use Rattle.rules.proofs.Edits.{Shrunk-delete}
use Rattle.rules.proofs.Counted.{delete-less}
use Rattle.settle.specs.Settling.{root_of, still, Settles, Losing}
use Rattle.settle.specs.declared.Settled.{Settled}
use Rattle.tree.proofs.Hanging.{parts, way, find-way, not_none, not_node, range-read, near_rooted, parts_once, in_place, as_high, over_yet, resettled, standing-near, falls, Turn, turns}
use Rattle.tree.proofs.Deleting.{times_deleted, found-range}

-- the way that the order sends a search is the way of delete
delete-way : (s : Side) (k : Range) (e : Entry) (l r : Tree) → order k e.range ≡ way s
    → balanced_join s e (delete k (near s l r)) (far s l r) ≡ delete k (node e l r)
delete-way left k e l r p = rw p refl
delete-way right k e l r p = rw p refl

-- the rules' tree is left
goes : {r : Removed} {ss after : List ℕ} {key : Range} {t : Tree} {e : Entry} → 1 ≤ r.slot → find key t ≡ some e
    → e.slot ≡ r.slot
    → Settles r.top ss after (levels t) (delete key t)
    → Deletes r ss after key t
goes {e = e} from_one found is done = record { absent = λ h. absurd (omega arith); gone = λ h. ((e, found, is), done) }

-- nothing changed
stays : {ss after : List ℕ} {key : Range} {t : Tree} → find key t ≡ none → after ≡ ss
    → Deletes (record { top = still 0; slot = 0 }) ss after key t
stays found kept = record { absent = λ h. (found, kept, refl); gone = λ h. absurd (h refl) }

-- in no tree there is nothing
pub from-none : {ss : List ℕ} {k : ℕ} (key : Range) (t : Tree) → k ≡ 0 → Rooted ss k t
    → Deletes (record { top = still 0; slot = 0 }) ss ss key t
from-none key leaf h p = stays refl refl
from-none key (node e l r) h p = absurd (not_node p h)

-- The entry in slot k itself goes, and what closes its place is left.
module _ {ss : List ℕ} {k a b : ℕ} (a_is : a ≡ near_child left ss k) (b_is : b ≡ far_child left ss k) where
  pub pair_below : {e : Entry} {l r : Tree} → Standing ss k (node e l r) → Pair ss a b l r
  pair_below {e} {l} {r} p =
      let at = at-node p.rooted in
      record {
        left = near_rooted left at a_is b_is;
        right = standing-near right b_is a_is p;
        once = λ x. omega (arith, at.once x);
      }

pub goes_itself : (key : Range) {ss after : List ℕ} {k : ℕ} {top : Settled} (t : Tree) → Standing ss k t → (k ≡ 0 → ⊥)
    → order key (range (slot_word ss k 0) (slot_word ss k 1)) ≡ same
    → ((e : Entry) (l r : Tree) → Standing ss k (node e l r) → Settles top ss after (levels (node e l r)) (close l r))
    → Deletes (record { top = top; slot = k }) ss after key t
goes_itself key leaf p h o closed = absurd (not_none p.rooted h)
goes_itself key (node e l r) p h o closed =
    let at = at-node p.rooted in
    let equal : order key e.range ≡ same = rw (range-read at) at o in
    goes {e = e} at.at.from_one (rw equal refl) at.slot_is (rw equal (closed e l r p))

-- Down into the child a on the side, whose other child is b.
module _ (key : Range) {s : Side} {ss : List ℕ} {k a b : ℕ} (w : Turn s key ss k a b) where
  below_stands : {e : Entry} {l r : Tree} → Standing ss k (node e l r) → Standing ss a (near s l r)
  below_stands p = standing-near s w.near_is w.far_is p

  pub looks_below : (t : Tree) → Standing ss k t → (levels_at ss a < levels_at ss k) × ((u : Tree) × Standing ss a u)
  looks_below leaf p = absurd (not_none p.rooted w.there)
  looks_below (node e l r) p =
      let child = below_stands p in
      (falls s p.rooted child.rooted, (near s l r, child))

  pub absent_below : {between : List ℕ} {below : Removed} (t : Tree) → Standing ss k t → below.slot ≡ 0
      → ((u : Tree) → Standing ss a u → Deletes below ss between key u)
      → Deletes below ss between key t
  absent_below leaf p is done = absurd (not_none p.rooted w.there)
  absent_below (node e l r) p is done =
      let looked = (done (near s l r) (below_stands p)).absent is in
      let absent = sym (find-way s key e l r (turns w (at-node p.rooted))) ∙ looked.0 in
      record { absent = λ h. (absent, looked.1, looked.2); gone = λ h. absurd (h is) }

  apart_gone : {e f : Entry} {l r : Tree} → AtNode ss k e l r → find key (near s l r) ≡ some f
      → (x : ℕ) → times x (e.slot ∷ []) + (times x (slots (delete key (near s l r))) + times x (slots (far s l r))) ≤ 1
  apart_gone {l = l} {r} at found x =
      omega (arith, times_deleted x key (near s l r) found, parts_once s at w.near_is w.far_is x)

  module _ {between : List ℕ} {below : Removed} (answered : below.slot ≡ 0 → ⊥)
      (done : (u : Tree) → Standing ss a u → Deletes below ss between key u) where
    went : {e : Entry} {l r : Tree} → Standing ss k (node e l r)
        → ((f : Entry) × (find key (near s l r) ≡ some f) × (f.slot ≡ below.slot)) × Settles below.top ss between (levels (near s l r)) (delete key (near s l r))
    went {l = l} {r} p = (done (near s l r) (below_stands p)).gone answered

    -- the child has one entry less
    loses : {e : Entry} {l r : Tree} → Standing ss k (node e l r)
        → Losing s between k (root_of below.top) key.end e (near s l r) (delete key (near s l r)) (far s l r)
    loses {e} {l} {r} p =
        let at = at-node p.rooted in
        let told = went p in
        let sides = parts s (balanced→Balanced (node e l r) p.is_balanced) in
        let sinks = Shrunk-delete key sides.1 in
        let one = delete-less key (near s l r) told.0.1 in
        let ends : key.end ≡ told.0.0.range.end = ap (λ (x : Range). x.end) (found-range key (near s l r) told.0.1) in
        record {
          over = over_yet s at w.near_is w.far_is told.1.left (apart_gone at told.0.1) sides.0;
          size_is = one.size_is;
          max_is = one.max_is ∙ ap (λ (x : ℕ). max x (max_end (delete key (near s l r)))) (sym ends);
          least = let least = sinks.least in omega arith;
          most = let most = sinks.most in omega arith;
        }

    -- what is left where the node over the child is settled
    lifts : {after : List ℕ} {top : Settled} {e : Entry} {l r : Tree} → Standing ss k (node e l r)
        → Settles top between after (levels (join s e (near s l r) (far s l r))) (balanced_join s e (delete key (near s l r)) (far s l r))
        → Deletes (record { top = top; slot = below.slot }) ss after key (node e l r)
    lifts {e = e} {l} {r} p up =
        let at = at-node p.rooted in
        let told = went p in
        let found = sym (find-way s key e l r (turns w at)) ∙ told.0.1 in
        record {
          absent = λ h. absurd (answered h);
          gone = λ h. (
            (told.0.0, found, told.0.2),
            resettled s at w.near_is w.far_is told.1.left (apart_gone at told.0.1) up (delete-way s key e l r (turns w at)),
          );
        }

    -- the child is another one, or as high as another: the node is lowered
    pub hangs_gone : (t : Tree) → Standing ss k t
        → (e : Entry) × (u : Tree) × (v : Tree) × (y : Tree) × Losing s between k (root_of below.top) key.end e u v y
    hangs_gone leaf p = absurd (not_none p.rooted w.there)
    hangs_gone (node e l r) p = (e, near s l r, delete key (near s l r), far s l r, loses p)

    pub lowered_above : {after : List ℕ} {top : Settled} (t : Tree) → Standing ss k t
        → ((e : Entry) (u v y : Tree) → Losing s between k (root_of below.top) key.end e u v y
        → Settles top between after (levels (join s e u y)) (balanced_join s e v y))
        → Deletes (record { top = top; slot = below.slot }) ss after key t
    lowered_above leaf p lowered = absurd (not_none p.rooted w.there)
    lowered_above (node e l r) p lowered =
        lifts p (lowered e (near s l r) (delete key (near s l r)) (far s l r) (loses p))

    -- the child kept its slot and its height: the entry is taken off the count
    module _ (kept : below.top.word ≡ a) where
      loses_kept : {e : Entry} {l r : Tree} → Standing ss k (node e l r)
          → Losing s between k (near_child s between k) key.end e (near s l r) (delete key (near s l r)) (far s l r)
          × (levels (delete key (near s l r)) ≡ levels (near s l r))
      loses_kept p =
          let at = at-node p.rooted in
          let told = went p in
          let apart = apart_gone at told.0.1 in (
            rw (in_place s at w.near_is w.far_is told.1.left apart below.top.word refl kept) at (loses p),
            as_high s at w.near_is w.far_is told.1.left apart below.top.word refl kept told.1.moved_is,
          )

      pub discounts_above : (t : Tree) → Standing ss k t
          → (z : Side) × (e : Entry) × (u : Tree) × (v : Tree) × (y : Tree) × Losing z between k (near_child z between k) key.end e u v y × (levels v ≡ levels u)
      discounts_above leaf p = absurd (not_none p.rooted w.there)
      discounts_above (node e l r) p =
          let g = loses_kept p in (s, e, near s l r, delete key (near s l r), far s l r, g.0, g.1)

      pub discounted_above : {after : List ℕ} {top : Settled} (t : Tree) → Standing ss k t
          → ((z : Side) (e : Entry) (u v y : Tree) → Losing z between k (near_child z between k) key.end e u v y → levels v ≡ levels u
          → Settles (still k) between after (levels (join z e u y)) (balanced_join z e v y))
          → top ≡ still k
          → Deletes (record { top = top; slot = below.slot }) ss after key t
      discounted_above leaf p discounted is = absurd (not_none p.rooted w.there)
      discounted_above (node e l r) p discounted is =
          let g = loses_kept p in rw is (lifts p (discounted s e (near s l r) (delete key (near s l r)) (far s l r) g.0 g.1))
