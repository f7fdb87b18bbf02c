-- Ranges: document 01, "Tree rules", first two sentences, and interval.rs of the crate.
use Rattle.std.specs.Prelude.{ℕ, ◌+◌, min, max, Bool, true, false, cond, ltb}
use Rattle.std.proofs.Math.Option.{Option, none, some}
use Rattle.rules.specs.Limits.{beyond}

-- start..end
pub record Range : Type 0 where
  pub start : ℕ
  pub end : ℕ

abbrev pub range : ℕ → ℕ → Range
range a b = record { start = a; end = b }

pub data Order : Type 0 where
  less same more : Order

-- how two numbers stand
unfoldable pub order_numbers : ℕ → ℕ → Order
order_numbers a b = cond (ltb a b) less (cond (ltb b a) more same)

-- the first order, and where it is the same the second
abbrev pub then : Order → Order → Order
then less o = less
then same o = o
then more o = more

-- one of three, by an order
abbrev pub choose {ℓ} : {A : Type ℓ} → Order → A → A → A → A
choose less a b c = a
choose same a b c = b
choose more a b c = c

-- "Ranges are ordered by start, then by end. Two are equal when both numbers are."
unfoldable pub order : Range → Range → Order
order r s = then (order_numbers r.start s.start) (order_numbers r.end s.end)

-- whether the first of two comes before the second
abbrev pub is_less : Order → Bool
is_less less = true
is_less same = false
is_less more = false

-- whether two are equal
abbrev pub is_same : Order → Bool
is_same less = false
is_same same = true
is_same more = false

-- `is_valid` of the crate: the start is below the end. "Empty and inverted ranges may be stored."
abbrev pub is_valid : Range → Bool
is_valid r = ltb r.start r.end

-- "the larger start" and "the smaller end" of two ranges
abbrev pub shared : Range → Range → Range
shared r s = range (max r.start s.start) (min r.end s.end)

-- "Two ranges overlap when the larger start is strictly below the smaller end."
unfoldable pub overlaps : Range → Range → Bool
overlaps r s = is_valid (shared r s)

-- `intersect` of the crate: the shared range where they overlap
unfoldable pub intersect : Range → Range → Option Range
intersect r s = cond (overlaps r s) (some (shared r s)) none

-- "Insert, delete and query take the end either excluded or included, as the crate's ranges do."
pub data End : Type 0 where
  excluded included : End

-- start..end, or none: "12 | included end is 2^64 - 1"
unfoldable pub range_to : End → ℕ → ℕ → Option Range
range_to excluded a b = some (range a b)
range_to included a b = cond (ltb (b + 1) beyond) (some (range a (b + 1))) none
