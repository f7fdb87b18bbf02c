-- What tests of plain numbers say of the order and the overlap of ranges. Assumes nothing.
use Prim.Native.Nat.{ℕ, max, min}
use mathlib.Core.Bool.{Bool, true, false, ◌&&◌}
use mathlib.Core.Logic.{⊎_elim}
use mathlib.Core.Path.{◌≡◌, refl, sym}
use native.Mathlib.Omega.{arith}
use lib.Dec.{ltb, eqb}
use borrow.Author.Tests.{lt-ltb, le-ltb, eq-eqb, ne_eqb, ltb-true}
use Rattle.rules.specs.Range.{range, order, order_numbers, then, is_less, is_same}
use Rattle.rules.proofs.Order.{Stands, below, level, above, numbers}
use Rattle.rules.proofs.Tests.{lt_cases, and_true}

module _ (a b c d : ℕ) where
  -- where the starts are equal, the ends say which range comes before
  pub by_ends : a ≡ c → ltb b d ≡ is_less (order (range a b) (range c d))
  unfolding order
  by_ends equal = go (numbers a c) (numbers b d)
    where
      go : Stands a c → Stands b d → ltb b d ≡ is_less (then (order_numbers a c) (order_numbers b d))
      go (below p q) _ = absurd (omega arith)
      go (above p q) _ = absurd (omega arith)
      go (level p q) (below x y) = rw (q, y, lt-ltb b d x) refl
      go (level p q) (level x y) = rw (q, y, le-ltb b d (omega arith)) refl
      go (level p q) (above x y) = rw (q, y, le-ltb b d (omega arith)) refl

  -- and where they are not, the starts
  pub by_starts : (a ≡ c → ⊥) → ltb a c ≡ is_less (order (range a b) (range c d))
  unfolding order
  by_starts other = go (numbers a c)
    where
      go : Stands a c → ltb a c ≡ is_less (then (order_numbers a c) (order_numbers b d))
      go (below p q) = rw (q, lt-ltb a c p) refl
      go (level p q) = absurd (other p)
      go (above p q) = rw (q, le-ltb a c (omega arith)) refl

  -- two ranges are the same where both numbers are
  pub by_both : (eqb a c && eqb b d) ≡ is_same (order (range a b) (range c d))
  unfolding order
  by_both = go (numbers a c) (numbers b d)
    where
      go : Stands a c → Stands b d
          → (eqb a c && eqb b d) ≡ is_same (then (order_numbers a c) (order_numbers b d))
      go (below p q) _ = rw (q, ne_eqb a c (λ e. omega arith)) refl
      go (above p q) _ = rw (q, ne_eqb a c (λ e. omega arith)) refl
      go (level p q) (below x y) = rw (q, y, eq-eqb a c p, ne_eqb b d (λ e. omega arith)) refl
      go (level p q) (level x y) = rw (q, y, eq-eqb a c p, eq-eqb b d x) refl
      go (level p q) (above x y) = rw (q, y, eq-eqb a c p, ne_eqb b d (λ e. omega arith)) refl

  -- the larger start is below the smaller end exactly where each start is below each end
  pub each_below : (((ltb a b && ltb a d) && ltb c b) && ltb c d) ≡ ltb (max a c) (min b d)
  each_below = go (((ltb a b && ltb a d) && ltb c b) && ltb c d) refl
    where
      go : (t : Bool) → (((ltb a b && ltb a d) && ltb c b) && ltb c d) ≡ t → t ≡ ltb (max a c) (min b d)
      go true e =
          let four = and_true _ _ e in
          let three = and_true _ _ four.0 in
          let two = and_true _ _ three.0 in
          sym
          (lt-ltb (max a c) (min b d)
          (omega
          (arith, ltb-true a b two.0, ltb-true a d two.1, ltb-true c b three.1, ltb-true c d four.1)))
      go false e =
          ⊎_elim
          (λ t.
          let apart = t.0 in
          let all : (((ltb a b && ltb a d) && ltb c b) && ltb c d) ≡ true =
          rw (lt-ltb a b (omega arith), lt-ltb a d (omega arith), lt-ltb c b (omega arith), lt-ltb c d (omega arith)) refl
          in absurd (let z : ◌≡◌ {A = ℕ} 0 1 = cc in omega arith))
          (λ f. sym f.1)
          (lt_cases (max a c) (min b d))
