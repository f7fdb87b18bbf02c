-- What is exact in a slot over its children, by how many it has: none, one on either side, or both. Assumes nothing.
use Prim.Native.Nat.{ℕ, suc, ◌+◌, ◌*◌, ◌%◌, ◌/◌, max}
use mathlib.Core.Bool.{◌&&◌, and-true, and-false, and_comm}
use mathlib.Core.List.{List}
use mathlib.Core.Logic.{⊎_elim}
use mathlib.Core.Path.{◌≡◌, refl}
use native.Mathlib.Nat.{add_comm, max_comm, max-zero, add-zero}
use native.Mathlib.Omega.{arith}
use lib.Dec.{leb, eqb}
use borrow.Author.Tests.{le-leb, lt-leb, ne_eqb}
use Rattle.rules.specs.Limits.{half}
use Rattle.rules.specs.Stored.{slot_word, Within}
use Rattle.rules.proofs.Tests.{le_cases, eq_cases}
use Rattle.node.specs.Node.{levels_at, size_at, max_at}
use Rattle.fitting.specs.Fits.{exact_height, exact_size, exact_shape, exact_max, exact_over}

-- heights compare as the levels do
suc-leb : (a b : ℕ) → leb a (b + 1) ≡ leb (suc a) (suc b + 1)
suc-leb a b =
    ⊎_elim (λ y. rw (y.1, le-leb (suc a) (suc b + 1) (omega (arith, y.0))) refl)
    (λ n. rw (n.1, lt-leb (suc a) (suc b + 1) (omega (arith, n.0))) refl)
    (le_cases a (b + 1))

suc-max : (a b : ℕ) → max a b + 1 ≡ max (suc a) (suc b)
suc-max a b = omega arith

-- the factor lets an only child have height 0 only, and the height above it is 1
one-high : (h a : ℕ) → eqb h 1 && eqb a 0 ≡ (leb (suc a) (0 + 1) && leb 0 (suc a + 1)) && eqb h (max (suc a) 0)
one-high h a =
    ⊎_elim (λ y. rw y.0 (and-true (eqb h 1)))
    (λ n. rw (n.1, lt-leb (suc a) (0 + 1) (omega (arith, n.0))) (and-false (eqb h 1)))
    (eq_cases a 0)

-- a word is that of height 0 and size 1 where its halves are these
two_halves : (w : ℕ) → eqb w (0 + half * 1) ≡ eqb (w % half) 0 && eqb (w / half) 1
two_halves w =
    ⊎_elim (λ y. rw y.0 refl)
    (λ n. rw n.1 (⊎_elim (λ y. rw (y.1, ne_eqb (w / half) 1 (λ z. n.0 (omega (arith, y.0, z)))) refl)
    (λ m. rw m.1 refl) (eq_cases (w % half) 0)))
    (eq_cases w (0 + half * 1))

module _ (ss : List ℕ) (k : ℕ) where
  -- it makes no difference which child is on which side
  pub exact_turned : (l r : ℕ) → exact_over ss k l r ≡ exact_over ss k r l
  unfolding exact_over exact_height exact_size exact_max
  exact_turned l r =
      rw (
        and_comm (leb (levels_at ss l) (levels_at ss r + 1)) (leb (levels_at ss r) (levels_at ss l + 1)),
        max_comm (levels_at ss l) (levels_at ss r),
        add_comm (size_at ss l) (size_at ss r),
        max_comm (max_at ss l) (max_at ss r),
      )
      refl

  -- over two children
  pub exact_both : {l r : ℕ} → Within ss l → Within ss r
      → exact_shape (slot_word ss k 5) (slot_word ss l 5) (slot_word ss r 5)
      && eqb (slot_word ss k 3) (max (slot_word ss k 1) (max (slot_word ss l 3) (slot_word ss r 3)))
      ≡ exact_over ss k l r
  unfolding exact_shape exact_over exact_height exact_size exact_max
  exact_both {l} {r} left right =
      let a = slot_word ss l 5 % half in
      let b = slot_word ss r 5 % half in
      rw (
        suc-leb a b,
        suc-leb b a,
        suc-max a b,
        ne_eqb l 0 (λ z. omega (arith, left.from_one)),
        ne_eqb r 0 (λ z. omega (arith, right.from_one)),
      )
      refl

  -- over one
  pub exact_one : {c : ℕ} → Within ss c
      → ((eqb (slot_word ss k 5 % half) 1 && eqb (slot_word ss c 5 % half) 0)
      && eqb (slot_word ss k 5 / half) (slot_word ss c 5 / half + 1))
      && eqb (slot_word ss k 3) (max (slot_word ss k 1) (slot_word ss c 3))
      ≡ exact_over ss k c 0
  unfolding exact_over exact_height exact_size exact_max
  exact_one {c} child =
      rw (
        one-high (slot_word ss k 5 % half) (slot_word ss c 5 % half),
        ne_eqb c 0 (λ z. omega (arith, child.from_one)),
        add-zero (slot_word ss c 5 / half),
        max-zero (slot_word ss c 3),
      )
      refl

  -- over none
  pub exact_none : eqb (slot_word ss k 5) (0 + half * 1) && eqb (slot_word ss k 3) (slot_word ss k 1)
      ≡ exact_over ss k 0 0
  unfolding exact_over exact_height exact_size exact_max
  exact_none = rw (two_halves (slot_word ss k 5), max-zero (slot_word ss k 1)) refl
