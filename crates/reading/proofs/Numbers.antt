-- Little-endian numbers byte by byte and half by half, and why a number of metres or links fits a word. Assumes nothing.
use Prim.Native.Nat.{ℕ, ◌+◌, ◌*◌, ◌^◌, ◌≤◌, ◌<◌}
use mathlib.Core.List.{List, [], ◌∷◌}
use mathlib.Core.Path.{◌≡◌, refl, ap, ◌∙◌}
use native.Mathlib.Omega.{arith}
use native.Mathlib.Nat.{mul-le-mul, add-zero}
use lib.ListN.{get_or, drop}
use lib.Seq.{get_or-drop, drop-drop}
use Rattle.rules.specs.Record.{metre, little_endian, u32_at, u64_at}

-- the number of the first four bytes
four_bytes : (bs : List ℕ) →
    little_endian 4 bs ≡ get_or bs 0 0 + 256 * (get_or bs 1 0 + 256 * (get_or bs 2 0 + 256 * get_or bs 3 0))
four_bytes [] = refl
four_bytes (a ∷ []) = refl
four_bytes (a ∷ b ∷ []) = refl
four_bytes (a ∷ b ∷ c ∷ []) = refl
four_bytes (a ∷ b ∷ c ∷ d ∷ bs) = ap (λ x. a + 256 * (b + 256 * (c + 256 * x))) (add-zero d)

-- the number of the first eight bytes: the first four are its lower half
lower_half : (a b c d n : ℕ) →
    a + 256 * (b + 256 * (c + 256 * (d + 256 * n)))
    ≡ a + 256 * (b + 256 * (c + 256 * (d + 256 * 0))) + 4294967296 * n
lower_half a b c d n = omega arith

eight_bytes : (bs : List ℕ) → little_endian 8 bs ≡ little_endian 4 bs + 4294967296 * little_endian 4 (drop 4 bs)
eight_bytes [] = refl
eight_bytes (a ∷ []) = omega arith
eight_bytes (a ∷ b ∷ []) = omega arith
eight_bytes (a ∷ b ∷ c ∷ []) = omega arith
eight_bytes (a ∷ b ∷ c ∷ d ∷ bs) = lower_half a b c d (little_endian 4 bs)

-- the same of a number that begins at a place of a body
pub u32_by_bytes : (at : ℕ) (body : List ℕ) →
    u32_at at body
    ≡ get_or body at 0 + 256 * (get_or body (at + 1) 0 + 256 * (get_or body (at + 2) 0 + 256 * get_or body (at + 3) 0))
u32_by_bytes at body = four_bytes (drop at body) ∙ simp (get_or-drop, add-zero)

pub u64_by_halves : (at : ℕ) (body : List ℕ) → u64_at at body ≡ u32_at at body + 4294967296 * u32_at (at + 4) body
u64_by_halves at body = rw (← drop-drop 4 at body) (eight_bytes (drop at body))

-- a u32 in units of a metre at most fits a word
pub product_fits : (factor n : ℕ) → factor ≤ metre → n < 4294967296 → factor * n < 2 ^ 64
product_fits factor n h k = omega (arith, mul-le-mul h k)
