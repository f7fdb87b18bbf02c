-- The test of one slot, as facts of its words. Assumes nothing.
use Prim.Native.Nat.{ℕ, ◌+◌, ◌*◌, ◌%◌, ◌/◌, ◌≤◌, max}
use mathlib.Core.Bool.{Bool, true, false, ◌||◌}
use mathlib.Core.List.{List}
use mathlib.Core.Path.{◌≡◌, refl, ◌∙◌}
use native.Mathlib.Omega.{arith}
use lib.Dec.{ltb}
use lib.ListN.{length}
use borrow.Author.Tests.{eqb-true, eq-eqb, leb-true, le-leb, le-ltb, ltb-false}
use Rattle.rules.specs.Limits.{slot_words, half}
use Rattle.rules.specs.Stored.{slot_word}
use Rattle.rules.proofs.Tests.{and_true, true_and}
use Rattle.node.specs.Node.{levels_at, size_at, max_at}
use Rattle.fitting.proofs.Exact.{exact_turned}
use Rattle.fitting.specs.Fits.{left_in, right_in, exact_height, exact_size, exact_max, exact_over, fits_here}

-- the words of slot k are right over its children
pub record Fitting (ss : List ℕ) (k : ℕ) : Type 0 where
  pub left_at : slot_words * left_in ss k ≤ length ss
  pub right_at : slot_words * right_in ss k ≤ length ss
  pub left_low : levels_at ss (left_in ss k) ≤ levels_at ss (right_in ss k) + 1
  pub right_low : levels_at ss (right_in ss k) ≤ levels_at ss (left_in ss k) + 1
  pub height_is : slot_word ss k 5 % half ≡ max (levels_at ss (left_in ss k)) (levels_at ss (right_in ss k))
  pub size_is : slot_word ss k 5 / half ≡ size_at ss (left_in ss k) + size_at ss (right_in ss k) + 1
  pub max_is : slot_word ss k 3
      ≡ max (slot_word ss k 1) (max (max_at ss (left_in ss k)) (max_at ss (right_in ss k)))

-- a slot that passes the test
pub fits-says : (ss : List ℕ) (k : ℕ) → fits_here ss k ≡ true → Fitting ss k
unfolding fits_here exact_over exact_height exact_size exact_max
fits-says ss k h =
    let both = and_true _ _ h in
    let ends = and_true _ _ both.0 in
    let exact = and_true _ _ both.1 in
    let shape = and_true _ _ exact.0 in
    let height = and_true _ _ shape.0 in
    let factor = and_true _ _ height.0 in
    record {
      left_at = leb-true _ _ ends.0;
      right_at = leb-true _ _ ends.1;
      left_low = leb-true _ _ factor.0;
      right_low = leb-true _ _ factor.1;
      height_is = eqb-true _ _ height.1;
      size_is = eqb-true _ _ shape.1;
      max_is = eqb-true _ _ exact.1;
    }

-- and one that must pass it
pub says-fits : {ss : List ℕ} {k : ℕ} → Fitting ss k → fits_here ss k ≡ true
unfolding fits_here exact_over exact_height exact_size exact_max
says-fits f =
    true_and (true_and (le-leb _ _ f.left_at) (le-leb _ _ f.right_at))
    (true_and
    (true_and (true_and (true_and (le-leb _ _ f.left_low) (le-leb _ _ f.right_low)) (eq-eqb _ _ f.height_is))
    (eq-eqb _ _ f.size_is))
    (eq-eqb _ _ f.max_is))

-- where a child is neither a slot nor none, the slot does not pass; where both are, the rest of the test is left
both_false : (a b : Bool) → a || b ≡ false → (a ≡ false) × (b ≡ false)
both_false true b h = (h, cc)
both_false false b h = (refl, h)

pub within-words : {n l r : ℕ} → ltb n l || ltb n r ≡ false → (l ≤ n) × (r ≤ n)
within-words {n} {l} {r} h =
    let both = both_false (ltb n l) (ltb n r) h in
    (ltb-false n l both.0, ltb-false n r both.1)

module _ (ss : List ℕ) (k : ℕ) {l r : ℕ} (left : l ≡ left_in ss k) (right : r ≡ right_in ss k) where
  pub beyond_words : ltb (length ss) (slot_words * l) || ltb (length ss) (slot_words * r) ≡ true
      → false ≡ fits_here ss k
  beyond_words h = go (fits_here ss k) refl
    where
      go : (b : Bool) → fits_here ss k ≡ b → false ≡ b
      go false e = refl
      go true e =
          let f = fits-says ss k e in
          let none_beyond : ltb (length ss) (slot_words * l) || ltb (length ss) (slot_words * r) ≡ false =
          rw (
            le-ltb (length ss) (slot_words * l) (omega (arith, left, f.left_at)),
            le-ltb (length ss) (slot_words * r) (omega (arith, right, f.right_at)),
          )
          refl
          in cc

  pub exact_fits : (slot_words * l ≤ length ss) × (slot_words * r ≤ length ss) → exact_over ss k l r ≡ fits_here ss k
  unfolding fits_here
  exact_fits both =
      let one = le-leb (slot_words * l) (length ss) both.0 in
      let two = le-leb (slot_words * r) (length ss) both.1 in
      cc

  -- where one child is none, what is exact over the other alone decides
  pub only_left : r ≡ 0 → (slot_words * l ≤ length ss) × (slot_words * r ≤ length ss)
      → exact_over ss k l 0 ≡ fits_here ss k
  only_left none both = rw none at (exact_fits both)

  pub only_right : l ≡ 0 → (slot_words * l ≤ length ss) × (slot_words * r ≤ length ss)
      → exact_over ss k r 0 ≡ fits_here ss k
  only_right none both = exact_turned ss k r 0 ∙ (rw none at (exact_fits both))
