-- What the number of a check says: 0 exactly where a pool is held, 10 exactly where the length is wrong, 11 else.
-- Document 01, "10 | pool length isn't 4 + 6c", "11 | pool isn't sound". Assumes nothing.
use Prim.Native.Nat.{ℕ}
use mathlib.Core.Bool.{Bool, true, false}
use mathlib.Core.List.{List}
use mathlib.Core.Logic.{◌↔◌}
use mathlib.Core.Option.{Option, none, some}
use mathlib.Core.Path.{◌≡◌, refl, sym}
use native.Mathlib.Omega.{arith}
use lib.ListN.{length}
use Rattle.rules.specs.Pool.{Pool, right_length, Holds}
use Rattle.rules.specs.Held.{held}
use Rattle.rules.specs.Entries.{check}
use Rattle.rules.proofs.Held.{holds-held, held-holds, held_none}
use Rattle.sound.specs.Claims.{Decides, IsSound}

-- the number by the length and by what is held
wrong_is : (ws : List ℕ) → right_length (length ws) ≡ false → check ws ≡ 10
unfolding check
wrong_is ws wrong = rw wrong refl

module _ (ws : List ℕ) (right : right_length (length ws) ≡ true) where
  sound_is : {p : Pool} → held ws ≡ some p → check ws ≡ 0
  unfolding check
  sound_is is = rw (right, is) refl

  unsound_is : held ws ≡ none → check ws ≡ 11
  unfolding check
  unsound_is is = rw (right, is) refl

-- so a check has come to one of three
data Answered (ws : List ℕ) : Type 0 where
  wrong_length : right_length (length ws) ≡ false → check ws ≡ 10 → Answered ws
  unsound : right_length (length ws) ≡ true → held ws ≡ none → check ws ≡ 11 → Answered ws
  sound : {p : Pool} → Holds ws p → check ws ≡ 0 → Answered ws

answered : (ws : List ℕ) → Answered ws
answered ws = by_length (right_length (length ws)) refl
  where
    by_held : right_length (length ws) ≡ true → (o : Option Pool) → held ws ≡ o → Answered ws
    by_held right none is = unsound right is (unsound_is ws right is)
    by_held right (some p) is = sound (held-holds ws p is) (sound_is ws right is)

    by_length : (b : Bool) → right_length (length ws) ≡ b → Answered ws
    by_length false is = wrong_length is (wrong_is ws is)
    by_length true is = by_held is (held ws) refl

-- "Sound means" that some pool is held: the check's 0 says so, and only it
pub sound_exactly : (ws : List ℕ) → check ws ≡ 0 ↔ IsSound ws
sound_exactly ws = (λ is. found is (answered ws), λ h. sound_is ws h.1.right (holds-held h.1))
  where
    found : check ws ≡ 0 → Answered ws → IsSound ws
    found is (wrong_length wrong ten) = absurd (omega arith)
    found is (unsound right not-held eleven) = absurd (omega arith)
    found is (sound {p} holds zero) = (p, holds)

-- what 10 and 11 say
pub wrong_exactly : (ws : List ℕ) → check ws ≡ 10 ↔ right_length (length ws) ≡ false
wrong_exactly ws = (λ is. found is (answered ws), wrong_is ws)
  where
    found : check ws ≡ 10 → Answered ws → right_length (length ws) ≡ false
    found is (wrong_length wrong ten) = wrong
    found is (unsound right not-held eleven) = absurd (omega arith)
    found is (sound holds zero) = absurd (omega arith)

pub unsound_exactly : (ws : List ℕ) → check ws ≡ 11 ↔ (right_length (length ws) ≡ true) × (held ws ≡ none)
unsound_exactly ws = (λ is. found is (answered ws), λ h. unsound_is ws h.0 h.1)
  where
    found : check ws ≡ 11 → Answered ws → (right_length (length ws) ≡ true) × (held ws ≡ none)
    found is (wrong_length wrong ten) = absurd (omega arith)
    found is (unsound right not-held eleven) = (right, not-held)
    found is (sound holds zero) = absurd (omega arith)

-- the number from the decision
module _ (ws : List ℕ) (right : right_length (length ws) ≡ true) {passed : Bool} (decides : Decides (IsSound ws) passed)
  where
    pub passed_number : passed ≡ true → 0 ≡ check ws
    passed_number is = sym (sound_is ws right (holds-held (decides.accepted is).1))

    pub failed_number : passed ≡ false → 11 ≡ check ws
    failed_number is = sym (unsound_is ws right ((held_none ws).1 (λ p h. decides.refused is (p, h))))

pub length-number : (ws : List ℕ) → right_length (length ws) ≡ false → 10 ≡ check ws
length-number ws wrong = sym (wrong_is ws wrong)
