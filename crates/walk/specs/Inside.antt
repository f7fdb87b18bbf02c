-- What the functions inside a walk promise each other: what a step has found at a node, and where the walk stands with it.
use Rattle.std.specs.Prelude.{ℕ, suc, ◌+◌, ◌-◌, ◌≤◌, cond, List, ◌≡◌, eqb, get_or, set, Option as Maybe}
use Rattle.std.proofs.Math.Option.{Option}
use Rattle.rules.specs.Limits.{most_pending}
use Rattle.rules.specs.Tree.{Entry, Tree, levels, root}
use Rattle.rules.specs.Steps.{Pending, Step, leave}
use Rattle.rules.specs.Stored.{Stored}
use Rattle.walk.specs.declared.Place.{Place}
use Rattle.walk.specs.Walk.{Pends, Hit}

-- a tree, or none, with its root in slot k, that fits on the stack above n others, and so above fewer
pub record Fitting (ss : List ℕ) (n k : ℕ) (t : Tree) : Type 0 where
  pub stored : Stored ss t
  pub slot_is : k ≡ root t
  pub fits : levels t + n ≤ most_pending

-- What a step has found, which took the latest pending node from above n others: the slots of the children that it leaves
-- pending, left before right, each a tree or none, which fit on the stack above one more, and what it hit.
pub data Leads (ss stack : List ℕ) (n left right : ℕ) (hit : Maybe ℕ) : Step → Type 0 where
  leads :
      {l r : Tree} {p : Pending} {o : Option Entry} → Pends ss stack n p → Fitting ss (suc n) left l
      → Fitting ss (suc n) right r → Hit ss hit o
      → Leads ss stack n left right hit (record { hit = o; pending = leave r (leave l p) })

-- the place on the first n words of the stack
abbrev pub place_below : List ℕ → ℕ → Place
place_below stack n = record { pending = n; top = cond (eqb n 0) 0 (get_or stack (n - 1) 0) }

-- the place with a child in slot k pending above the others, if there is one, and the stack then
abbrev pub place_with : Place → ℕ → Place
place_with others k = cond (eqb k 0) others (record { pending = suc others.pending; top = k })

abbrev pub stack_with : List ℕ → Place → ℕ → List ℕ
stack_with stack others k = cond (eqb k 0) stack (set stack others.pending k)
