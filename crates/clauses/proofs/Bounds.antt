-- The entries in two slots as bounds, and whether they are in strict order. Assumes nothing.
use Prim.Native.Nat.{ℕ}
use mathlib.Core.Bool.{true, ◌&&◌}
use mathlib.Core.List.{List, [], ◌∷◌, ◌++◌}
use mathlib.Core.Logic.{⊎_elim}
use mathlib.Core.Path.{◌≡◌, refl}
use borrow.Author.Tests.{ne_eqb}
use Rattle.rules.specs.Range.{Range, Order, less, same, more, range, order, is_less}
use Rattle.rules.specs.Pool.{ascending}
use Rattle.rules.specs.Held.{entry_at}
use Rattle.rules.specs.Stored.{slot_word}
use Rattle.rules.proofs.Tests.{eq_cases}
use Rattle.interval.specs.Interval.{range_of}
use Rattle.interval.specs.declared.Interval.{Interval}
use Rattle.clauses.specs.Slot.{bound}

-- the entry in a slot is a bound, and none is none
pub bound_some : (ss : List ℕ) (k : ℕ) → (k ≡ 0 → ⊥) → bound ss k ≡ entry_at ss k ∷ []
unfolding bound
bound_some ss k h = rw (ne_eqb k 0 h) refl

pub bound-none : (ss : List ℕ) → bound ss 0 ≡ []
unfolding bound
bound-none ss = refl

-- one bound alone is in order
alone : (ss : List ℕ) (k : ℕ) → true ≡ ascending (bound ss k)
unfolding bound
alone ss k = ⊎_elim (λ y. rw y.1 refl) (λ n. rw n.1 refl) (eq_cases k 0)

-- whatever comes after none, or before it, is in order
pub after_none : (ss : List ℕ) (a b : ℕ) → a ≡ 0 → true ≡ ascending (bound ss a ++ bound ss b)
after_none ss a b is = rw (is, bound-none ss) (alone ss b)

pub before-none : (ss : List ℕ) (a b : ℕ) → (a ≡ 0 → ⊥) → b ≡ 0 → true ≡ ascending (bound ss a ++ bound ss b)
before-none ss a b some is = rw (is, bound-none ss, bound_some ss a some) refl

-- else the order of the two ranges decides
decided_by : (o : Order) (r s : Range) → o ≡ order r s → is_less o ≡ is_less (order r s) && true
decided_by less r s h = rw (← h) refl
decided_by same r s h = rw (← h) refl
decided_by more r s h = rw (← h) refl

pub compared : (ss : List ℕ) (a b : ℕ) {i j : Interval} → (a ≡ 0 → ⊥) → (b ≡ 0 → ⊥)
    → range_of i ≡ range (slot_word ss a 0) (slot_word ss a 1)
    → range_of j ≡ range (slot_word ss b 0) (slot_word ss b 1)
    → is_less (order (range_of i) (range_of j)) ≡ ascending (bound ss a ++ bound ss b)
compared ss a b {i} {j} some-a some-b first second =
    rw (bound_some ss a some-a, bound_some ss b some-b)
    (decided_by (order (range_of i) (range_of j)) (range (slot_word ss a 0) (slot_word ss a 1))
    (range (slot_word ss b 0) (slot_word ss b 1)) (cc))
