-- What a query of a sound pool answers: its range is refused, or its tree is walked. Assumes nothing.
use Prim.Native.Nat.{ℕ, ◌≤◌}
use mathlib.Core.List.{List}
use mathlib.Core.Option.{none, some}
use mathlib.Core.Path.{◌≡◌, refl, ◌∙◌}
use native.Mathlib.Omega.{arith}
use lib.ListN.{length}
use Rattle.std.specs.Prelude.{Ok}
use Rattle.rules.specs.Limits.{header_words}
use Rattle.rules.specs.Range.{Range, End, range_to}
use Rattle.rules.specs.Pool.{Pool, Holds}
use Rattle.rules.specs.Request.{serve}
use Rattle.rules.specs.Query.{hits}
use Rattle.rules.specs.Entries.{query, rows_into}
use Rattle.rules.proofs.Held.{holds-held}
use Rattle.rules.proofs.Lengths.{roomy}
use Rattle.request.specs.declared.Refusal.TheVariants.{PastEnd}
use Rattle.query.specs.Answers.{queried_of}
use Rattle.std.specs.Prelude.{Err}

-- the header of a held pool is there
pub header_in : {ws : List ℕ} {p : Pool} → Holds ws p → header_words ≤ length ws
header_in {ws} h = let room = roomy (length ws) h.right in omega arith

module _ {ws : List ℕ} {p : Pool} (h : Holds ws p) (d : End) (a b : ℕ) where
  -- it is refused where its included end is past the last number
  pub past_end : range_to d a b ≡ none → (run : List ℕ) → queried_of (Err PastEnd) run ≡ query d a b ws run
  unfolding query serve
  past_end beyond run = rw (h.right, holds-held h, beyond) refl

  -- else what is walked is what it answers: the count, and the rows in the run
  pub listed : {q : Range} {n : ℕ} (run : List ℕ) {written : List ℕ} → range_to d a b ≡ some q
      → (n ≡ length (hits q p.tree)) × (written ≡ rows_into (hits q p.tree) run)
      → queried_of (Ok n) written ≡ query d a b ws run
  unfolding query serve
  listed run ranged is = (λ i. queried_of (Ok (is.0 i)) (is.1 i)) ∙ rw (h.right, holds-held h, ranged) refl
