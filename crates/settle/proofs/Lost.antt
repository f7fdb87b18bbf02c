-- A node whose child on a side has one entry less: how it stands then, and that what is written leaves it joined. Assumes
-- nothing.
use Prim.Native.Nat.{ℕ, suc, ◌+◌, ◌-◌, ◌*◌, ◌%◌, ◌/◌, ◌≤◌, ◌<◌, max}
use mathlib.Core.List.{List}
use mathlib.Core.Logic.{⊎_elim}
use mathlib.Core.Path.{◌≡◌, refl}
use native.Mathlib.Omega.{arith}
use lib.ListN.{length}
use Rattle.rules.specs.Limits.{slot_words, half}
use Rattle.rules.specs.Tree.{Entry, Tree, levels, size}
use Rattle.rules.specs.Balance.{Side, left, right, near, far, join, balanced_join}
use Rattle.rules.specs.Stored.{slot_word, Within, Left}
use Rattle.rules.proofs.Tests.{eq_cases}
use Rattle.rules.proofs.Counted.{more-beside}
use Rattle.node.specs.Node.{levels_at, with_links, Hung}
use Rattle.node.proofs.Trees.{at_root}
use Rattle.node.proofs.Updated.{updated}
use Rattle.balance.proofs.Rotated.{near_child, far_child}
use Rattle.settle.specs.Settling.{differs, still, moved, max_without, Stands, level, moved_too, too_low, Stays, Settles, Losing}
use Rattle.settle.specs.declared.Settled.{Settled}
use Rattle.settle.specs.declared.Standing.TheVariants.{Level, Moved, TooLow}
use Rattle.settle.proofs.Changed.{hung_sides, hung_over, fits, height_read, moved_stays, kept_stays, stays_level, stays_moved}
use Rattle.settle.proofs.Counting.{lost}

-- the halves of links to the two sides
links-low : (s : Side) (a b : ℕ) → a < half → b < half → (near s a b + half * far s a b) % half ≡ near s a b
links-low left a b p q = omega arith
links-low right a b p q = omega arith

links-high : (s : Side) (a b : ℕ) → a < half → b < half → (near s a b + half * far s a b) / half ≡ far s a b
links-high left a b p q = omega arith
links-high right a b p q = omega arith

inside-near : (s : Side) (a b n : ℕ) → slot_words * a ≤ n → slot_words * b ≤ n → slot_words * near s a b ≤ n
inside-near left a b n p q = p
inside-near right a b n p q = q

inside-far : (s : Side) (a b n : ℕ) → slot_words * a ≤ n → slot_words * b ≤ n → slot_words * far s a b ≤ n
inside-far left a b n p q = q
inside-far right a b n p q = p

-- the numbers of levels t and v before, and u in the place of t
stands_level : {t u v : ℕ} → t ≤ suc v → u ≤ t → v ≤ suc u → suc (max t v) ≤ suc (max u v) → Stands t u v Level
stands_level a b c d = level (omega arith) (omega arith) (omega arith)

stands_moved : {t u v : ℕ} → t ≤ suc v → u ≤ t → v ≤ suc u → suc (max u v) < suc (max t v) → Stands t u v Moved
stands_moved a b c d = moved_too (omega arith) (omega arith) (λ e. omega arith)

-- the levels that are written
sunk : {t u by : ℕ} (v : ℕ) → u ≤ t → t ≤ suc u → by ≡ differs (max t v) (max u v) → max u v + by ≡ max t v
sunk {t} {u} {by} v a b is =
    ⊎_elim (λ p. let none : differs (max t v) (max u v) ≡ 0 = rw p.1 refl in omega (arith, p.0))
    (λ p. let one : differs (max t v) (max u v) ≡ 1 = rw p.1 refl in let other = p.0 in omega (arith, other))
    (eq_cases (max t v) (max u v))

-- the shape over the children, seen from a side
shape_sides : (s : Side) (t u v : Tree) (less : ℕ) {w : ℕ} → w ≡ max (levels t) (levels v) + half * suc (size t + size v)
    → size t ≡ suc (size u)
    → max (levels u) (levels v) + less ≡ max (levels t) (levels v)
    → w - half - less ≡ max (levels (near s u v)) (levels (far s u v)) + half * suc (size (near s u v) + size (far s u v))
shape_sides left t u v less p q r = omega arith
shape_sides right t u v less p q r =
    let turned : max (levels v) (levels u) ≡ max (levels u) (levels v) = omega arith in
    rw turned (omega arith)

module _ (s : Side) {ss : List ℕ} {k a end : ℕ} {e : Entry} {t u v : Tree} (g : Losing s ss k a end e t u v) where
  -- how it stands, by the levels that are read
  module _ {b : ℕ} (b_is : b ≡ far_child s ss k) where
    hung : Hung ss k a b e u v
    hung = hung_over s g.over b_is

    pub stands_too_low : suc (levels_at ss a) < levels_at ss b → Stands (levels t) (levels u) (levels v) TooLow
    stands_too_low less =
        too_low (rw ((at_root hung.left).levels_is, (at_root hung.right).levels_is) at less)

    pub one_lower : levels_at ss b ≤ suc (levels_at ss a) → suc (max (levels_at ss a) (levels_at ss b)) < levels_at ss k
        → Stands (levels t) (levels u) (levels v) Moved
    one_lower high less =
        let close = rw ((at_root hung.left).levels_is, (at_root hung.right).levels_is) at high in
        let low = rw ((at_root hung.left).levels_is, (at_root hung.right).levels_is, height_read s g.over b_is) at less in
        stands_moved g.over.low g.most close low

    pub as_high : levels_at ss b ≤ suc (levels_at ss a) → levels_at ss k ≤ suc (max (levels_at ss a) (levels_at ss b))
        → Stands (levels t) (levels u) (levels v) Level
    as_high high least =
        let close = rw ((at_root hung.left).levels_is, (at_root hung.right).levels_is) at high in
        let low = rw ((at_root hung.left).levels_is, (at_root hung.right).levels_is, height_read s g.over b_is) at least in
        stands_level g.over.low g.most close low

  -- what a write is given and leaves
  module _ {links by : ℕ} (stays : Stays s ss k a links by t u v) where
    low_is : links % half ≡ near s a (far_child s ss k)
    low_is = let ok = fits s g.over refl in rw stays.links_is (links-low s a (far_child s ss k) ok.left_small ok.right_small)

    high_is : links / half ≡ far s a (far_child s ss k)
    high_is = let ok = fits s g.over refl in rw stays.links_is (links-high s a (far_child s ss k) ok.left_small ok.right_small)

    sinks : max (levels u) (levels v) + by ≡ max (levels t) (levels v)
    sinks = sunk (levels v) g.most g.least stays.by_is

    pub writes : Within ss k × (slot_words * (links % half) ≤ length ss) × (slot_words * (links / half) ≤ length ss)
        × (by < half) × (half + by ≤ slot_word ss k 5)
    writes =
        let ok = fits s g.over refl in
        let shape = g.over.shape_was in
        let less = g.size_is in
        let few : by ≤ 1 = let down = sinks in let least = g.least in let most = g.most in omega arith in
        let taken : half + by ≤ slot_word ss k 5 = omega arith in
        rw (low_is, high_is)
        (ok.at, inside-near s a _ _ ok.left_in ok.right_in, inside-far s a _ _ ok.left_in ok.right_in, omega arith, taken)

    pub wrote : {after : List ℕ}
        → after ≡ with_links ss k (max_without ss k (links % half) (links / half) end) links (slot_word ss k 5 - half - by)
        → Left ss after k (join s e u v)
    wrote is =
        let h = hung_sides s (hung refl) in
        rw (is, low_is, high_is)
        (updated h
        (lost end h (near s t v) (far s t v) g.over.max_was stays.links_is
        (shape_sides s t u v by g.over.shape_was g.size_is sinks)
        (more-beside s e v (record { size_is = g.size_is; max_is = g.max_is }))))

  -- one level lower, with these links: the balanced tree is left
  pub lower_down : {b links : ℕ} (b_is : b ≡ far_child s ss k) → links ≡ near s a b + half * far s a b
      → levels_at ss b ≤ suc (levels_at ss a) → suc (max (levels_at ss a) (levels_at ss b)) < levels_at ss k
      → {r : Settled} {after : List ℕ}
      → after ≡ with_links ss k (max_without ss k (links % half) (links / half) end) links (slot_word ss k 5 - half - 1)
      → r ≡ moved k
      → Settles r ss after (levels (join s e t v)) (balanced_join s e u v)
  lower_down b_is links_are high less is top =
      let stays = moved_stays s g.over b_is links_are (one_lower b_is high less) in
      stays_moved s g.over b_is stays refl (wrote stays is) top

-- where the child kept its slot and its height, the links are what they were
pub discounted : {s : Side} {ss : List ℕ} {k end : ℕ} {e : Entry} {t u v : Tree} → Losing s ss k (near_child s ss k) end e t u v
    → {after : List ℕ} → levels u ≡ levels t
    → after ≡ with_links ss k (max_without ss k (slot_word ss k 4 % half) (slot_word ss k 4 / half) end) (slot_word ss k 4) (slot_word ss k 5 - half - 0)
    → Settles (still k) ss after (levels (join s e t v)) (balanced_join s e u v)
discounted {s = s} g same is =
    let stays = kept_stays s g.over same in
    stays_level s g.over refl stays refl (wrote s g stays is) refl
