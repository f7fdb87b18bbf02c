-- A node whose child on a side has one entry more: how it stands then, and that what is written leaves it joined. Assumes
-- nothing.
use Prim.Native.Nat.{ℕ, suc, ◌+◌, ◌*◌, ◌≤◌, ◌<◌, max}
use mathlib.Core.List.{List}
use mathlib.Core.Logic.{⊎_elim}
use mathlib.Core.Path.{◌≡◌, refl}
use native.Mathlib.Omega.{arith}
use Rattle.rules.specs.Limits.{half}
use Rattle.rules.specs.Tree.{Entry, Tree, levels, size}
use Rattle.rules.specs.Balance.{Side, left, right, near, far, join, balanced_join}
use Rattle.rules.specs.Stored.{slot_word, Within, Left}
use Rattle.rules.proofs.Tests.{eq_cases}
use Rattle.rules.proofs.Counted.{more-beside}
use Rattle.node.specs.Node.{levels_at, with_links, Hung}
use Rattle.node.proofs.Trees.{at_root}
use Rattle.node.proofs.Updated.{updated}
use Rattle.balance.proofs.Rotated.{near_child, far_child}
use Rattle.settle.specs.Settling.{differs, still, moved, Stands, level, moved_too, too_high, Stays, Settles, Gaining}
use Rattle.settle.specs.declared.Settled.{Settled}
use Rattle.settle.specs.declared.Standing.TheVariants.{Level, Moved, TooHigh}
use Rattle.settle.proofs.Changed.{hung_sides, hung_over, fits, height_read, moved_stays, kept_stays, stays_level, stays_moved}
use Rattle.settle.proofs.Counting.{gained}

-- the numbers of levels t and v before, and u in the place of t
stands_level : {t u v : ℕ} → t ≤ suc v → v ≤ suc t → t ≤ u → u < suc (max t v) → Stands t u v Level
stands_level a b c d = level (omega arith) (omega arith) (omega arith)

stands_moved : {t u v : ℕ} → t ≤ u → u ≤ suc t → suc (max t v) ≤ u → u ≤ suc v → Stands t u v Moved
stands_moved a b c d = moved_too (omega arith) (omega arith) (λ e. omega arith)

-- the levels that are written
risen : {t u by : ℕ} (v : ℕ) → t ≤ u → u ≤ suc t → by ≡ differs (max t v) (max u v) → max u v ≡ max t v + by
risen {t} {u} {by} v a b is =
    ⊎_elim (λ p. let none : differs (max t v) (max u v) ≡ 0 = rw p.1 refl in omega (arith, p.0))
    (λ p. let one : differs (max t v) (max u v) ≡ 1 = rw p.1 refl in let other = p.0 in omega (arith, other))
    (eq_cases (max t v) (max u v))

-- the shape over the children, seen from a side
shape_sides : (s : Side) (t u v : Tree) (more : ℕ) {w : ℕ} → w ≡ max (levels t) (levels v) + half * suc (size t + size v)
    → size u ≡ suc (size t)
    → max (levels u) (levels v) ≡ max (levels t) (levels v) + more
    → w + half + more ≡ max (levels (near s u v)) (levels (far s u v)) + half * suc (size (near s u v) + size (far s u v))
shape_sides left t u v more p q r = omega arith
shape_sides right t u v more p q r =
    let turned : max (levels v) (levels u) ≡ max (levels u) (levels v) = omega arith in
    rw turned (omega arith)

module _ (s : Side) {ss : List ℕ} {k a end : ℕ} {e : Entry} {t u v : Tree} (g : Gaining s ss k a end e t u v) where
  -- how it stands, by the levels that are read
  module _ {b : ℕ} (b_is : b ≡ far_child s ss k) where
    hung : Hung ss k a b e u v
    hung = hung_over s g.over b_is

    pub as_high : levels_at ss a < levels_at ss k → Stands (levels t) (levels u) (levels v) Level
    as_high less =
        let now = rw ((at_root hung.left).levels_is, height_read s g.over b_is) at less in
        stands_level g.over.low g.over.high g.least now

    pub stands_too_high : suc (levels_at ss b) < levels_at ss a → Stands (levels t) (levels u) (levels v) TooHigh
    stands_too_high more =
        too_high (rw ((at_root hung.left).levels_is, (at_root hung.right).levels_is) at more)

    pub one_higher : levels_at ss k ≤ levels_at ss a → levels_at ss a ≤ suc (levels_at ss b)
        → Stands (levels t) (levels u) (levels v) Moved
    one_higher least most =
        let low = rw ((at_root hung.left).levels_is, height_read s g.over b_is) at least in
        let high = rw ((at_root hung.left).levels_is, (at_root hung.right).levels_is) at most in
        stands_moved g.least g.most low high

  -- what a write is given and leaves
  module _ {links by : ℕ} (stays : Stays s ss k a links by t u v) where
    rises : max (levels u) (levels v) ≡ max (levels t) (levels v) + by
    rises = risen (levels v) g.least g.most stays.by_is

    pub writes : Within ss k × (by < half) × (slot_word ss k 5 + half + by < half * half)
    writes =
        let ok = fits s g.over refl in
        let h = hung refl in
        let au = at_root h.left in
        let bv = at_root h.right in
        let least = g.least in
        let most = g.most in
        let shape = g.over.shape_was in
        let more = g.size_is in
        let few = ok.few in
        let left_size = au.size_is in
        let right_size = bv.size_is in
        let left_low = au.low in
        let right_low = bv.low in
        let up = rises in
        (ok.at, omega arith, omega arith)

    pub wrote : {after : List ℕ}
        → after ≡ with_links ss k (max (slot_word ss k 3) end) links (slot_word ss k 5 + half + by)
        → Left ss after k (join s e u v)
    wrote is =
        let h = hung_sides s (hung refl) in
        rw is
        (updated h
        (gained end h (near s t v) (far s t v) g.over.max_was stays.links_is
        (shape_sides s t u v by g.over.shape_was g.size_is rises)
        (more-beside s e v (record { size_is = g.size_is; max_is = g.max_is }))))

  -- one level higher, with these links: the balanced tree is left
  pub higher_up : {b links : ℕ} (b_is : b ≡ far_child s ss k) → links ≡ near s a b + half * far s a b
      → levels_at ss k ≤ levels_at ss a → levels_at ss a ≤ suc (levels_at ss b)
      → {r : Settled} {after : List ℕ}
      → after ≡ with_links ss k (max (slot_word ss k 3) end) links (slot_word ss k 5 + half + 1)
      → r ≡ moved k
      → Settles r ss after (levels (join s e t v)) (balanced_join s e u v)
  higher_up b_is links_are least most is top =
      let stays = moved_stays s g.over b_is links_are (one_higher b_is least most) in
      stays_moved s g.over b_is stays refl (wrote stays is) top

-- where the child kept its slot and its height, the links are what they were
pub counted : {s : Side} {ss : List ℕ} {k end : ℕ} {e : Entry} {t u v : Tree} → Gaining s ss k (near_child s ss k) end e t u v
    → {after : List ℕ} → levels u ≡ levels t
    → after ≡ with_links ss k (max (slot_word ss k 3) end) (slot_word ss k 4) (slot_word ss k 5 + half + 0)
    → Settles (still k) ss after (levels (join s e t v)) (balanced_join s e u v)
counted {s = s} g same is =
    let stays = kept_stays s g.over same in
    stays_level s g.over refl stays refl (wrote s g stays is) refl
