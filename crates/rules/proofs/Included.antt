-- Ends of ranges: document 01, "Insert, delete and query take the end either excluded or included". An included end is
-- the number below an excluded one, whatever the start is, and one that has no number above it names no range.
-- Assumes nothing.
use Prim.Native.Nat.{ℕ, ◌+◌, ◌<◌}
use mathlib.Core.Option.{none, some}
use mathlib.Core.Path.{◌≡◌, refl}
use native.Mathlib.Omega.{arith}
use borrow.Author.Tests.{lt-ltb, le-ltb}
use Rattle.rules.specs.Limits.{beyond}
use Rattle.rules.specs.Range.{range, excluded, included, range_to}

-- an excluded end is taken as it is: "Empty and inverted ranges may be stored."
pub as_given : (a b : ℕ) → range_to excluded a b ≡ some (range a b)
unfolding range_to
as_given a b = refl

-- an included end is the excluded one that is one more: "9. P: included 5..9 stores 5..10"
pub one_more-excluded : (a b : ℕ) → b + 1 < beyond → range_to included a b ≡ range_to excluded a (b + 1)
unfolding range_to
one_more-excluded a b h = rw (lt-ltb (b + 1) beyond h)

-- "12 | included end is 2^64 - 1"
pub none_above : (a b : ℕ) → (b + 1 < beyond → ⊥) → range_to included a b ≡ none
unfolding range_to
none_above a b h = rw (le-ltb (b + 1) beyond (omega arith))
