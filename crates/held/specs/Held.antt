-- What a walk that keeps hold of its pool promises: which pending trees of the rules its stack holds, and what it hit.
use Rattle.std.specs.Prelude.{List, [], ◌∷◌, ℕ, Option as Maybe}
use Rattle.std.proofs.Math.Option.{Option, none, some}
use Rattle.rules.specs.Tree.{Entry}
use Rattle.rules.specs.Steps.{Pending, Step}
use Rattle.walk.specs.Walk.{Stands, Hit}
use Rattle.held.specs.declared.Stack.{Stack}

-- the stack holds the pending trees, and says the slot of the latest
abbrev pub Waiting : List ℕ → Stack → Pending → Type 0
Waiting ss s p = Stands ss s.nodes s.place p

-- the stack holds the trees pending after the step, and says the slot of the latest; `hit` is what the step hit
pub record Turned (ss : List ℕ) (s : Stack) (hit : Maybe ℕ) (after : Step) : Type 0 where
  pub waits : Waiting ss s after.pending
  pub hits : Hit ss hit after.hit

-- the first of the hits, if there is one
abbrev pub first_of : List Entry → Option Entry
first_of [] = none
first_of (e ∷ es) = some e
