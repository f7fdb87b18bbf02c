-- Tests that decide: none both passes and fails, and one that fails where nothing is so decides. Assumes nothing.
use Prim.Native.Nat.{ℕ}
use mathlib.Core.Bool.{Bool, true, false}
use mathlib.Core.Path.{◌≡◌, refl}
use native.Mathlib.Omega.{arith}
use Rattle.sound.specs.Claims.{Decides}

-- a test does not both pass and fail
pub not_both : {b : Bool} → b ≡ true → b ≡ false → ⊥
not_both p q = let z : ◌≡◌ {A = ℕ} 0 1 = cc in omega arith

-- what is not so is decided by a test that fails
pub refuted : {P : Type 0} → (P → ⊥) → Decides P false
refuted h = record { accepted = λ passed. absurd (not_both passed refl); refused = λ failed p. h p }
