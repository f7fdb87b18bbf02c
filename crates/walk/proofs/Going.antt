-- A walk as an iterator: it goes on where a call that gives an item leaves it where it may be called, with less to come.
-- Assumes nothing.
use Prim.Native.Nat.{ℕ, ◌<◌}
use mathlib.Core.Bool.{true}
use mathlib.Core.Path.{◌≡◌, refl}
use Rattle.std.specs.Prelude.{Option, Some, None, is_some}
use Rattle.std.specs.Iterator.{at_most, MakesProgress}

pub goes_on :
    {S A : Type 0} {can : S → Type 0} {left : S → ℕ} {s t : S} (r : Option A)
    → (is_some r ≡ true → can t × (left t < left s)) → MakesProgress can (λ z. at_most (left z)) s r t
goes_on None f = record { on = λ _. tt; keeps = tt; rests = λ _. tt }
goes_on (Some x) f = let on = f refl in record { on = λ _. (on.0, tt, on.1); keeps = on.0; rests = λ _. tt }
