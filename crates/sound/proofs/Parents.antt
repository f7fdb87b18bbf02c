-- Which slots have children: those whose links are not zero. Assumes nothing.
use Prim.Native.Nat.{ℕ, ◌≤◌}
use mathlib.Core.Bool.{not}
use mathlib.Core.List.{List}
use mathlib.Core.Logic.{⊎_elim}
use mathlib.Core.Path.{◌≡◌}
use native.Mathlib.Omega.{arith}
use lib.Dec.{eqb}
use borrow.Author.Tests.{eqb-true, eqb-false, not-true, not-false}
use Rattle.rules.specs.Stored.{slot_word}
use Rattle.rules.proofs.Tests.{eq_cases}
use Rattle.sound.specs.Claims.{Decides, Parent}

module _ {ss : List ℕ} {k : ℕ} (low : 1 ≤ k) where
  -- the links word decides
  pub links_decide : {links : ℕ} → links ≡ slot_word ss k 4 → Decides (Parent ss k) (not (eqb links 0))
  links_decide {links} is =
      record {
        accepted = λ yes.
            record {
              from_one = low;
              linked = omega (arith, is, eqb-false links 0 (not-true (eqb links 0) yes));
            };
        refused = λ failed p. omega (arith, is, p.linked, eqb-true links 0 (not-false (eqb links 0) failed));
      }

  -- and where there is no child, it is zero
  pub childless : (Parent ss k → ⊥) → slot_word ss k 4 ≡ 0
  childless none =
      ⊎_elim (λ y. y.0) (λ n. absurd (none (record { from_one = low; linked = omega (arith, n.0) })))
      (eq_cases (slot_word ss k 4) 0)
