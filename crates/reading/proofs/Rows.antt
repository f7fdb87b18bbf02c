-- The rows of the table of kinds by their numbers: which length each fixes. Assumes nothing.
use Prim.Native.Nat.{ℕ, zero, suc, ◌+◌, ◌≤◌, ◌<◌}
use mathlib.Core.Logic.{⊎_elim}
use mathlib.Core.Option.{Option}
use mathlib.Core.Path.{◌≡◌}
use native.Mathlib.Omega.{arith}
use Rattle.rules.proofs.Tests.{eq_cases}
use Rattle.reading.specs.Reading.{row, fixed_length}

-- n rows, from row a on, fix this length
abbrev Fixing : Option ℕ → ℕ → ℕ → Type 0
Fixing l a zero = Unit {0}
Fixing l a (suc n) = (l ≡ fixed_length (row a)) × Fixing l (suc a) n

-- so each of them does
pub fixing : (l : Option ℕ) (a n : ℕ) → Fixing l a n → (k : ℕ) → a ≤ k → k < a + n →
    l ≡ fixed_length (row k)
fixing l a zero r k p q = absurd (omega arith)
fixing l a (suc n) r k p q =
    ⊎_elim
    (λ t. rw t.0 r.0)
    (λ t. let other = t.0 in fixing l (suc a) n r.1 k (omega arith) (omega arith))
    (eq_cases k a)
