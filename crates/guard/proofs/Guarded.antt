-- What an entry answers goes by the check: a pool that is refused, and a sound one. Assumes nothing.
use Prim.Native.Nat.{ℕ}
use mathlib.Core.Bool.{Bool, true, false, cond}
use mathlib.Core.List.{List}
use mathlib.Core.Option.{Option, none, some}
use mathlib.Core.Path.{◌≡◌, refl, sym, ap, ◌∙◌}
use lib.ListN.{length}
use Rattle.std.specs.Prelude.{Result, Ok, Err}
use Rattle.rules.specs.Pool.{Pool, Holds, capacity, right_length}
use Rattle.rules.specs.Held.{held}
use Rattle.rules.specs.Range.{End}
use Rattle.rules.specs.Request.{querying, serve, is_refusal}
use Rattle.rules.specs.Entries.{guarded, sound_only, check, query, rows_into}
use Rattle.rules.proofs.Held.{holds-held}
use Rattle.request.specs.Answers.{refusal_number, zero_or_refusal}
use Rattle.request.specs.declared.Refusal.{Refusal}
use Rattle.request.proofs.Refused.{is_refused}
use Rattle.sound.proofs.Answers.{sound_exactly}
use Rattle.query.specs.Answers.{queried_of}

-- the number n of a check, and the test whether it is a refusal
module _ (ws : List ℕ) {n : ℕ} {tested : Bool} (is : n ≡ check ws) (test : tested ≡ is_refusal n) where
  by_check : is_refusal (check ws) ≡ tested
  by_check = sym (ap is_refusal is) ∙ sym test

  -- a pool that the check refuses is refused with its number
  pub refused_whole : {A : Type 0} → tested ≡ true → (refused : ℕ → A) (answer : ℕ → Pool → A)
      → refused n ≡ guarded ws refused answer
  unfolding check
  refused_whole {A} h refused answer =
      ap refused is ∙ go (right_length (length ws)) (held ws) (by_check ∙ h)
    where
      go : (r : Bool) (o : Option Pool) → is_refusal (cond r (sound_only o (λ n. n) (λ p. 0)) 10) ≡ true
          → refused (cond r (sound_only o (λ n. n) (λ p. 0)) 10)
          ≡ cond r (sound_only o refused (answer (capacity (length ws)))) (refused 10)
      go false o h = refl
      go true none h = refl
      go true (some p) h = cc

-- the answer r of a check
module _ (ws : List ℕ) {B : Type 0} {r : Result B Refusal} (is : zero_or_refusal r ≡ check ws) where
  -- a pool that is refused is refused with the refusal's number
  pub refused_by : {A : Type 0} {e : Refusal} → r ≡ Err e → (refused : ℕ → A) (answer : ℕ → Pool → A)
      → refused (refusal_number e) ≡ guarded ws refused answer
  refused_by {A} {e} err refused answer =
      refused_whole ws (sym (ap zero_or_refusal err) ∙ is) refl (is_refused e) refused answer

  -- a pool that passes is held
  pub passed : {b : B} → r ≡ Ok b → (p : Pool) × Holds ws p
  passed ok = (sound_exactly ws).0 (sym is ∙ ap zero_or_refusal ok)

  -- a query of a refused pool counts nothing and leaves the run
  pub query_refused : {e : Refusal} → r ≡ Err e → (d : End) (a b : ℕ) (run : List ℕ) → queried_of (Err e) run ≡ query d a b ws run
  unfolding query
  query_refused err d a b run =
      refused_by err (λ m. record { number = m; count = 0; run = run })
      (λ c p.
      record {
        number = (serve c (querying d a b) p).number;
        count = length (serve c (querying d a b) p).hits;
        run = rows_into (serve c (querying d a b) p).hits run;
      })

-- a sound pool is answered
pub answered : {A : Type 0} {ws : List ℕ} {p : Pool} (refused : ℕ → A) (answer : ℕ → Pool → A) → Holds ws p
    → answer (capacity (length ws)) p ≡ guarded ws refused answer
answered refused answer h = rw (h.right, holds-held h) refl
