-- The derived comparisons of `Interval` answer the order of document 01. Assumes nothing.
use Prim.Native.Nat.{ℕ}
use mathlib.Core.Path.{◌≡◌, refl, ap, ◌∙◌}
use native.Mathlib.Omega.{arith}
use borrow.Author.Tests.{lt-ltb, le-ltb, eq-eqb, ne_eqb}
use Rattle.std.specs.declared.cmp.Ordering.{Ordering}
use Rattle.std.specs.declared.cmp.Ordering.TheVariants.{Less, Equal, Greater}
use Rattle.std.specs.Prelude.{Some}
use Rattle.std.specs.Ordering.{nat_cmp, ordering_then, partial_ordering_then, is_some_and, is_lt, partial_lt}
use Rattle.rules.specs.Range.{order, order_numbers, then, is_less, is_same}
use Rattle.rules.proofs.Order.{Stands, below, level, above, numbers}
use Rattle.interval.specs.Interval.{range_of, order_of}
use Rattle.interval.specs.declared.Interval.{Interval}
use Rattle.interval.specs.contracts.IntervalOrd.TheImpl as ord
use Rattle.interval.specs.contracts.IntervalPartialOrd.TheImpl as partial
use Rattle.interval.specs.contracts.IntervalPartialEq.TheImpl as equal
use Rattle.interval.proofs.Tested.{by_both}

-- how two numbers compare
numbers_compared : (a b : ℕ) → order_of (nat_cmp a b) ≡ order_numbers a b
numbers_compared a b = go (numbers a b)
  where
    go : Stands a b → order_of (nat_cmp a b) ≡ order_numbers a b
    go (below p q) = rw (q, lt-ltb a b p) refl
    go (level p q) = rw (q, le-ltb a b (omega arith), eq-eqb a b p) refl
    go (above p q) = rw (q, le-ltb a b (omega arith), ne_eqb a b (λ e. omega arith)) refl

-- the first order, and where it is the same the second
then_compared : (o p : Ordering) → order_of (ordering_then o p) ≡ then (order_of o) (order_of p)
then_compared Less p = refl
then_compared Equal p = refl
then_compared Greater p = refl

-- the same of `partial_cmp`, whose answer is always there
less_of_both : (o p : Ordering)
    → is_some_and is_lt (partial_ordering_then (Some o) (Some p)) ≡ is_lt (ordering_then o p)
less_of_both Less p = refl
less_of_both Equal p = refl
less_of_both Greater p = refl

-- whether the first comes before the second
less_compared : (o : Ordering) → is_lt o ≡ is_less (order_of o)
less_compared Less = refl
less_compared Equal = refl
less_compared Greater = refl

-- `cmp` answers the order
pub compared : (i j : Interval) → order_of (ord.cmp-value.it i j) ≡ order (range_of i) (range_of j)
unfolding order
compared i j =
    rw (then_compared (nat_cmp i.start j.start) (nat_cmp i.end j.end), numbers_compared i.start j.start, numbers_compared i.end j.end)

-- `<` answers whether the first comes before the second
pub before : (i j : Interval) → partial_lt partial.partial_cmp-value.it i j ≡ is_less (order (range_of i) (range_of j))
before i j =
    less_of_both (nat_cmp i.start j.start) (nat_cmp i.end j.end)
    ∙ less_compared (ord.cmp-value.it i j)
    ∙ ap is_less (compared i j)

-- `==` answers whether both numbers are equal
pub same : (i j : Interval) → equal.eq-value.it i j ≡ is_same (order (range_of i) (range_of j))
same i j = by_both i.start i.end j.start j.end
