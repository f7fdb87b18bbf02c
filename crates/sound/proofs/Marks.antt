-- The marks of claimed slots: what a claim adds to them, and what it leaves unclaimed. Assumes nothing.
use Prim.Native.Nat.{ℕ, ◌+◌, ◌≤◌}
use mathlib.Core.List.{List, [], ◌∷◌}
use mathlib.Core.Logic.{⊎_elim}
use mathlib.Core.Path.{◌≡◌, ◌∙◌}
use native.Mathlib.Omega.{arith}
use lib.ListN.{get_or, set, replicate, length-set, length-replicate, get_or-replicate, get_or-eq_default}
use lib.Seq.{get_or-set_same, get_or-set_other}
use Rattle.rules.specs.Limits.{most_slots}
use Rattle.rules.specs.Pool.{times}
use Rattle.rules.proofs.Tests.{eq_cases, lt_cases}
use Rattle.rules.proofs.Times.{times-one, times-apart}
use Rattle.sound.specs.Claims.{Flags, Unclaimed, Claimed}

-- a slot that was not claimed is marked once by its claim, and no other is marked
module _ (ms : List ℕ) (k : ℕ) (flags : Flags ms) (small : k ≤ most_slots) where
  marked : (s : ℕ) → get_or ms k 0 ≡ 0 → get_or (set ms k 1) s 0 ≡ get_or ms s 0 + times s (k ∷ [])
  marked s free =
      ⊎_elim
      (λ y. rw y.0 (omega (arith, get_or-set_same ms k 1 0 (omega (arith, flags.long)), times-one k)))
      (λ n. omega (arith, get_or-set_other ms k s 1 0 n.0, times-apart s k n.0))
      (eq_cases s k)

  flagged : (s : ℕ) → get_or (set ms k 1) s 0 ≤ 1
  flagged s =
      ⊎_elim
      (λ y. rw y.0 (omega (arith, get_or-set_same ms k 1 0 (omega (arith, flags.long)))))
      (λ n. omega (arith, get_or-set_other ms k s 1 0 n.0, flags.flag s))
      (eq_cases s k)

  pub claim_flags : Flags (set ms k 1)
  claim_flags = record { long = simp length-set flags.long; flag = flagged }

  pub claim_one : get_or ms k 0 ≡ 0 → Claimed (k ∷ []) ms (set ms k 1)
  claim_one free = record { flags = claim_flags; adds = λ s. marked s free }

-- no claim adds none
pub claim_none : {ms : List ℕ} → Flags ms → Claimed [] ms ms
claim_none flags = record { flags = flags; adds = λ s. omega arith }

-- what was unclaimed together with what is claimed now, is so still
pub unclaimed-before : {xs ys zs ms after : List ℕ} → Claimed xs ms after
    → ((s : ℕ) → times s xs + times s ys ≤ times s zs) → Unclaimed ms zs → Unclaimed after ys
unclaimed-before c both u = record { once = λ s. omega (arith, c.adds s, both s, u.once s) }

-- marks of zeros only: none is claimed
pub blank : (n s : ℕ) → get_or {A = ℕ} (replicate n 0) s 0 ≡ 0
blank n s =
    ⊎_elim (λ y. get_or-replicate n s 0 0 y.0)
    (λ f. get_or-eq_default (replicate n 0) 0 (omega (arith, length-replicate {A = ℕ} n 0, f.0)))
    (lt_cases s n)

pub blank-flags : (n : ℕ) → n ≡ most_slots + 1 → Flags (replicate n 0)
blank-flags n is = record { long = length-replicate {A = ℕ} n 0 ∙ is; flag = λ s. omega (arith, blank n s) }
