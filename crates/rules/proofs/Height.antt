-- A balanced tree of few entries is low: document 01, "With n entries the height is at most the largest h whose least
-- count N(h) is at most n: N(0)=1, N(1)=2, N(h)=N(h-1)+N(h-2)+1." Levels are counted instead of the height, one more
-- than it. Assumes nothing.
use Prim.Native.Nat.{ℕ, zero, suc, ◌+◌, ◌≤◌, ◌<◌, max, zero-le}
use mathlib.Core.Bool.{true}
use mathlib.Core.Logic.{⊎_elim}
use mathlib.Core.Path.{◌≡◌, refl, ap}
use native.Mathlib.Nat.{le_of_eq, le_of_lt, le_antisymm, lt_of_le_of_lt, eq-or-lt_of_le, max-eq_left, max-eq_right}
use native.Mathlib.Bridge.{le_by_compare, IsLe}
use native.Mathlib.Omega.{arith}
use borrow.Author.Tests.{leb-true}
use Rattle.rules.specs.Limits.{most_slots, most_pending}
use Rattle.rules.specs.Tree.{Entry, Tree, leaf, node, levels, size}
use Rattle.rules.specs.Pool.{balanced}
use Rattle.rules.proofs.Tests.{le_cases, and_true}

-- the fewest entries of a balanced tree of n levels: `least (suc h)` is 01's N(h)
unfoldable pub least : ℕ → ℕ
least zero = 0
least (suc zero) = 1
least (suc (suc n)) = suc (least (suc n) + least n)

-- "N(15)=2,583 and N(16)=4,180"
pub least_computed : (least 16 ≡ 2583) × (least 17 ≡ 4180)
unfolding least
least_computed = (refl, refl)

least_step : (n : ℕ) → least n ≤ least (suc n)
unfolding least
least_step zero = omega arith
least_step (suc n) = omega arith

-- more levels need more entries
pub least_up : (m n : ℕ) → m ≤ n → least m ≤ least n
least_up m zero h = le_of_eq (ap least (le_antisymm h zero-le))
least_up m (suc n) h =
    ⊎_elim (λ (same : m ≡ suc n). le_of_eq (ap least same))
    (λ (less : m < suc n). omega (arith, least_up m n (omega arith), least_step n))
    (eq-or-lt_of_le h)

-- a node with b levels below it on one side, and on the other at most one less
least-node : (a b : ℕ) → b ≤ suc a → least (suc b) ≤ suc (least a + least b)
unfolding least
least-node a zero h = omega arith
least-node a (suc b) h = omega (arith, least_up b a (omega arith))

-- the same with either side the higher one
least-join : (a b : ℕ) → a ≤ suc b → b ≤ suc a → least (suc (max a b)) ≤ suc (least a + least b)
least-join a b p q =
    ⊎_elim (λ t. rw (max-eq_right t.0) (least-node a b q))
    (λ f. rw (max-eq_left (le_of_lt f.0)) (omega (arith, least-node b a p)))
    (le_cases a b)

-- what balance says of a node
balanced_parts :
    (e : Entry) (l r : Tree) → balanced (node e l r) ≡ true
    → (levels l ≤ suc (levels r)) × (levels r ≤ suc (levels l)) × (balanced l ≡ true) × (balanced r ≡ true)
balanced_parts e l r h =
    let p = and_true _ _ h in
    let f = and_true _ _ p.0 in
    let b = and_true _ _ p.1 in
    (leb-true _ _ f.0, leb-true _ _ f.1, b.0, b.1)

-- a balanced tree has as many entries as its levels need
pub least_size : (t : Tree) → balanced t ≡ true → least (levels t) ≤ size t
unfolding least
least_size leaf h = omega arith
least_size (node e l r) h =
    let p = balanced_parts e l r h in
    omega (arith, least-join (levels l) (levels r) p.0 p.1, least_size l p.2, least_size r p.3)

-- so it has no more levels than its entries allow
pub levels_at-most : (t : Tree) (n : ℕ) → balanced t ≡ true → size t < least (suc n) → levels t ≤ n
levels_at-most t n b few =
    ⊎_elim (λ y. y.0) (λ f. absurd (omega (arith, few, least_size t b, least_up (suc n) (levels t) f.0)))
    (le_cases (levels t) n)

-- a tree of one level more than the limit on pending nodes has more entries than a pool has slots
too_many : most_slots < least (suc most_pending)
unfolding least IsLe
too_many = le_by_compare (suc most_slots) (least (suc most_pending)) tt

-- "so 4,095 entries give height 15 at most and 16 pending nodes", of the limits by their names
pub levels-bound : (t : Tree) → balanced t ≡ true → size t ≤ most_slots → levels t ≤ most_pending
levels-bound t b s = levels_at-most t most_pending b (lt_of_le_of_lt s too_many)
