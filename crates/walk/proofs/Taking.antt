-- A step on the stack: the children that it found are left pending in place of the node that it took, left before right,
-- each if there is one. There is room for both. Assumes nothing.
use Prim.Native.Nat.{ℕ, suc, ◌<◌}
use mathlib.Core.List.{List, [], ◌∷◌}
use mathlib.Core.Logic.{⊎_elim}
use mathlib.Core.Path.{◌≡◌, refl}
use native.Mathlib.Omega.{arith}
use lib.ListN.{set}
use Rattle.std.specs.Prelude.{Option as Maybe, None}
use Rattle.rules.specs.Limits.{most_pending}
use Rattle.rules.specs.Range.{Range}
use Rattle.rules.specs.Steps.{Pending, Step, step}
use Rattle.rules.proofs.Tests.{eq_cases}
use Rattle.walk.specs.declared.Place.{Place}
use Rattle.walk.specs.Walk.{Pends, Stands, no_hit, Leaves}
use Rattle.walk.specs.Inside.{Leads, leads, place_below, place_with, stack_with}
use Rattle.walk.proofs.Stack.{none_left, some_left, none_fits, slot_room, left_latest, left_none}

-- with nothing pending a step does nothing
pub nothing :
    {ss stack : List ℕ} {place : Place} {p : Pending} (q : Range) → Stands ss stack place p → place.pending ≡ 0
    → Leaves ss stack (record { place = place; hit = None }) (step q p)
nothing {p = []} q s z = record { stands = s; hits = no_hit }
nothing {p = t ∷ p} q s z = let counted = s.pends.counted in absurd (omega arith)

module _ {ss stack : List ℕ} {n left right : ℕ} {hit : Maybe ℕ} where
  -- without the latest there is room for one
  pub one_room : {s : Step} → Leads ss stack n left right hit s → n < most_pending
  one_room (leads below x y h) = let fits = x.fits in omega arith

  -- where the right child is left pending, there is room for it above the left one
  pub latest_room : {s : Step} → Leads ss stack n left right hit s → (right ≡ 0 → ⊥) → suc n < most_pending
  latest_room (leads below x y h) = slot_room y

  -- both children are left pending, the right one as the latest
  pub both_wait :
      {s : Step} → Leads ss stack n left right hit s → (left ≡ 0 → ⊥) → (right ≡ 0 → ⊥)
      → Leaves ss (set (set stack n left) (suc n) right) (record { place = record { pending = suc (suc n); top = right }; hit = hit }) s
  both_wait (leads below x y h) some_left some_right =
      record {
        stands = left_latest y some_right (omega arith) (left_latest x some_left (omega arith) below).pends;
        hits = h;
      }

  -- where there is no left child, the right one is the only one
  pub right_alone : {s : Step} → Leads ss stack n left right hit s → left ≡ 0 → Leads ss stack n right 0 hit s
  right_alone (leads below x y h) no-left = rw (left_none x no-left) (leads below y (none_fits x) h)

module _ {ss stack : List ℕ} {n : ℕ} {hit : Maybe ℕ} where
  -- the only child is left pending, as the latest
  pub one_waits :
      {k : ℕ} {s : Step} → Leads ss stack n k 0 hit s → (k ≡ 0 → ⊥)
      → Leaves ss (set stack n k) (record { place = record { pending = suc n; top = k }; hit = hit }) s
  one_waits (leads below x y h) some =
      record { stands = rw (left_none y refl) (left_latest x some (omega arith) below); hits = h }

  -- no child is, and the walk stands where it stands with those below
  pub none_waits :
      {place : Place} {s : Step} → Leads ss stack n 0 0 hit s
      → ((p : Pending) → Pends ss stack n p → Stands ss stack place p)
      → Leaves ss stack (record { place = place; hit = hit }) s
  none_waits (leads below x y h) stands =
      record { stands = rw (left_none y refl, left_none x refl) (stands _ below); hits = h }

-- the latest of those below is read from the stack
pub stands_below : {ss stack : List ℕ} {n : ℕ} {p : Pending} → Pends ss stack n p → Stands ss stack (place_below stack n) p
stands_below {n = n} h =
    ⊎_elim (λ z. rw z.1 (none_left h z.0)) (λ s. rw s.1 (some_left h s.0)) (eq_cases n 0)

module _ {ss stack : List ℕ} {n : ℕ} {hit : Maybe ℕ} where
  -- one child is left pending, if there is one
  pub one_taken :
      {k : ℕ} {s : Step} → Leads ss stack n k 0 hit s
      → Leaves ss (stack_with stack (place_below stack n) k) (record { place = place_with (place_below stack n) k; hit = hit }) s
  one_taken {k} d =
      ⊎_elim (λ z. rw z.1 (none_waits (rw z.0 at d) (λ p h. stands_below h))) (λ s. rw s.1 (one_waits d s.0)) (eq_cases k 0)

  -- above the left child there is room for the right one
  pub room_above :
      {left right : ℕ} {s : Step} → Leads ss stack n left right hit s → (right ≡ 0 → ⊥)
      → (place_with (place_below stack n) left).pending < most_pending
  room_above {left} d some =
      ⊎_elim (λ z. rw z.1 (one_room d)) (λ s. rw s.1 (latest_room d some)) (eq_cases left 0)

  -- both are, each if there is one
  pub both_taken :
      {left right : ℕ} {s : Step} → Leads ss stack n left right hit s
      → let first = place_with (place_below stack n) left in
      Leaves ss (stack_with (stack_with stack (place_below stack n) left) first right)
      (record { place = place_with first right; hit = hit }) s
  both_taken {left} {right} d =
      ⊎_elim
      (λ z. rw z.1 (one_taken (rw z.0 at d)))
      (λ s. rw s.1
      (⊎_elim (λ z. rw z.1 (one_waits (right_alone d z.0) s.0)) (λ f. rw f.1 (both_wait d f.0 s.0)) (eq_cases left 0)))
      (eq_cases right 0)
