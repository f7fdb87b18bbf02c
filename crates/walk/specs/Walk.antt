-- What a walk promises: which pending trees of the rules its stack holds, what it hit, and which tree it can walk.
use Rattle.std.specs.Prelude.{ℕ, zero, suc, ◌+◌, ◌*◌, ◌/◌, ◌≤◌, true, List, [], ◌∷◌, ◌++◌, ◌≡◌, length, take, Option as Maybe, Some, None}
use Rattle.std.proofs.Math.Option.{Option, none, some}
use Rattle.rules.specs.Limits.{most_slots, most_pending, slot_words, half}
use Rattle.rules.specs.Range.{Range}
use Rattle.rules.specs.Tree.{Entry, Tree, levels, entries, root}
use Rattle.rules.specs.Pool.{ascending}
use Rattle.rules.specs.Steps.{Pending, Step, step, Each, total}
use Rattle.rules.specs.Stored.{slot_word, Bears, Stored, Rooted}
use Rattle.walk.specs.declared.Place.{Place}
use Rattle.walk.specs.declared.After.{After}

-- the slots of pending trees as a stack has them, the latest last
abbrev pub stack_of : Pending → List ℕ
stack_of [] = []
stack_of (t ∷ p) = stack_of p ++ root t ∷ []

-- and of these the last, the slot of the latest pending tree: 0 where none is pending
abbrev pub top_of : Pending → ℕ
top_of [] = 0
top_of (t ∷ p) = root t

-- a pending tree is stored, and as many words as it has levels fit on the stack above those pending before it
pub record Waits (ss : List ℕ) (t : Tree) (before : Pending) : Type 0 where
  pub stored : Stored ss t
  pub fits : levels t + length before ≤ most_pending

-- The stack's first words, `count` of them, are the slots of the pending trees, the latest last; each of these is a
-- node, is stored in the slots of a pool, and fits.
pub record Pends (ss stack : List ℕ) (count : ℕ) (p : Pending) : Type 0 where
  pub room : length ss ≤ slot_words * most_slots
  pub long : length stack ≡ most_pending
  pub counted : count ≡ length p
  pub on_stack : take count stack ≡ stack_of p
  pub each : Each (Waits ss) p

-- Where a walk stands: the stack holds the pending trees, and `top` is the slot of the latest. By `on_stack` that is the
-- last of the stack's first words.
pub record Stands (ss stack : List ℕ) (place : Place) (p : Pending) : Type 0 where
  pub pends : Pends ss stack place.pending p
  pub top_is : place.top ≡ top_of p

-- what is said of a hit: that there is none, or the slot that holds the entry hit
pub data Hit (ss : List ℕ) : Maybe ℕ → Option Entry → Type 0 where
  no_hit : Hit ss None none
  hit_in : {e : Entry} → Bears ss e → Hit ss (Some e.slot) (some e)

-- the stack holds the nodes pending after the step, and the answer says their number, the latest's slot and what the step
-- hit
pub record Leaves (ss stack : List ℕ) (a : After) (s : Step) : Type 0 where
  pub stands : Stands ss stack a.place s.pending
  pub hits : Hit ss a.hit s.hit

-- a step that hit, or else what follows it
abbrev pub until_hit : Option Entry → Pending → Step → Step
until_hit none p after = after
until_hit (some e) p after = record { hit = some e; pending = p }

-- n steps, and none after a hit
abbrev pub next_within : ℕ → Range → Pending → Step
next_within zero q p = record { hit = none; pending = p }
next_within (suc n) q p = until_hit (step q p).hit (step q p).pending (next_within n q (step q p).pending)

-- The next hit: steps until one hits or nothing is pending. Each takes an entry at least, so as many as there are
-- entries pending are enough.
unfoldable pub next : Range → Pending → Step
next q p = next_within (total p) q p

-- the entries of the trees in these slots, counted by the slots' shapes
abbrev pub entries_at : List ℕ → List ℕ → ℕ
entries_at ss [] = 0
entries_at ss (k ∷ ks) = slot_word ss k 5 / half + entries_at ss ks

-- a tree that can be walked: it is stored with its root in slot k, in order, and no higher than the stack has room for
pub record Walkable (ss : List ℕ) (k : ℕ) (t : Tree) : Type 0 where
  pub rooted : Rooted ss k t
  pub in_order : ascending (entries t) ≡ true
  pub low : levels t ≤ most_pending
