-- Slots that are all of them: the slots of a chain are slots of these words, and c slots of c, none twice, are each one
-- once. Assumes nothing.
use Prim.Native.Nat.{ℕ, ◌≤◌, ◌<◌}
use mathlib.Core.List.{List, ◌∷◌}
use mathlib.Core.Logic.{⊎_elim}
use mathlib.Core.Path.{◌≡◌}
use native.Mathlib.Omega.{arith}
use lib.ListN.{length}
use Rattle.rules.specs.Pool.{times}
use Rattle.rules.specs.Stored.{Within, Chained, ends, goes_on}
use Rattle.rules.proofs.Tests.{eq_cases, le_cases}
use Rattle.rules.proofs.Times.{times-apart, times-cons}
use Rattle.node.proofs.Few.{Inside, few}

-- each slot of a chain is one of these words
inside-chain : {ss : List ℕ} (x : ℕ) (xs : List ℕ) → Within ss x → Inside ss xs → Inside ss (x ∷ xs)
inside-chain x xs at rest =
    record {
      slot_in = λ s h.
          ⊎_elim (λ y. rw y.0 (at.from_one, at.inside))
          (λ n. rest.slot_in s (omega (arith, times-cons s x xs, times-apart s x n.0)))
          (eq_cases s x);
    }

pub chained-inside : {ss xs : List ℕ} → Chained ss xs → Inside ss xs
chained-inside ends = record { slot_in = λ s h. absurd (omega arith) }
chained-inside (goes_on {s = x} {xs = xs} f c) = inside-chain x xs f.at (chained-inside c)

-- c slots of 1 to c, none twice, are all of them
pub all_once : (c s : ℕ) (xs : List ℕ) → ((u : ℕ) → times u xs ≤ 1) → ((u : ℕ) → 1 ≤ times u xs → (1 ≤ u) × (u ≤ c))
    → length xs ≡ c → 1 ≤ s → s ≤ c → times s xs ≡ 1
all_once c s xs once in_range long low high =
    ⊎_elim (λ y. omega (arith, y.0, once s))
    (λ n. absurd (omega (arith, few c (s ∷ xs) (once_more n.0) (range_more n.0))))
    (le_cases 1 (times s xs))
  where
    once_more : times s xs < 1 → (u : ℕ) → times u (s ∷ xs) ≤ 1
    once_more absent u =
        ⊎_elim
        (λ y. let none_yet : times u xs < 1 = rw y.0 absent in rw y.1 (omega (arith, none_yet)))
        (λ n. omega (arith, once u, times-cons u s xs, times-apart u s n.0))
        (eq_cases u s)

    range_more : times s xs < 1 → (u : ℕ) → 1 ≤ times u (s ∷ xs) → (1 ≤ u) × (u ≤ c)
    range_more absent u h =
        ⊎_elim (λ y. omega (arith, y.0))
        (λ n. in_range u (omega (arith, times-cons u s xs, times-apart u s n.0)))
        (eq_cases u s)
