-- What the steps of the check find of a tree and of a free chain, and what the marks of claimed slots say. Nothing here
-- is needed to read what the check promises.
use Rattle.std.specs.Prelude.{ℕ, ◌+◌, ◌*◌, ◌≤◌, Bool, true, false, List, ◌++◌, ◌≡◌, length, get_or}
use Rattle.rules.specs.Limits.{most_slots, most_pending, slot_words}
use Rattle.rules.specs.Tree.{Tree, entries}
use Rattle.rules.specs.Pool.{Pool, Holds, ascending, balanced, slots, times, first}
use Rattle.rules.specs.Stored.{slot_word, Rooted, Chained}
use Rattle.node.specs.Node.{levels_at}
use Rattle.clauses.specs.Slot.{bound}

-- "Sound means" that some pool is held
abbrev pub IsSound : List ℕ → Type 0
IsSound ws = (p : Pool) × Holds ws p

-- a test passes exactly where something is so
pub record Decides (P : Type 0) (passed : Bool) : Type 0 where
  pub accepted : passed ≡ true → P
  pub refused : passed ≡ false → P → ⊥

-- these words are no more than a pool's
pub record Room (ss : List ℕ) : Type 0 where
  pub room : length ss ≤ slot_words * most_slots

-- a mark for each slot number, claimed once at most
pub record Flags (ms : List ℕ) : Type 0 where
  pub long : length ms ≡ most_slots + 1
  pub flag : (s : ℕ) → get_or ms s 0 ≤ 1

-- none of these slots is claimed, and none stands there twice
pub record Unclaimed (ms xs : List ℕ) : Type 0 where
  pub once : (s : ℕ) → get_or ms s 0 + times s xs ≤ 1

-- these slots, and no others, have been claimed
pub record Claimed (xs ms after : List ℕ) : Type 0 where
  pub flags : Flags after
  pub adds : (s : ℕ) → get_or after s 0 ≡ get_or ms s 0 + times s xs

-- a tree rooted in slot k, in strict order between the entries in two slots, all factors from -1 to 1
pub record Grown (ss : List ℕ) (k before after : ℕ) (t : Tree) : Type 0 where
  pub rooted : Rooted ss k t
  pub even : balanced t ≡ true
  pub in_order : ascending (bound ss before ++ (entries t ++ bound ss after)) ≡ true

-- slot k is there and has a child
pub record Parent (ss : List ℕ) (k : ℕ) : Type 0 where
  pub from_one : 1 ≤ k
  pub linked : 1 ≤ slot_word ss k 4

-- what a look at slot k may rely on: it is a slot or none, and not too high
pub record Ready (ss ms : List ℕ) (k before after : ℕ) : Type 0 where
  pub room : Room ss
  pub flags : Flags ms
  pub at : slot_words * k ≤ length ss
  pub before_at : slot_words * before ≤ length ss
  pub after_at : slot_words * after ≤ length ss
  pub low : levels_at ss k ≤ most_pending

-- what it finds: such a tree, now claimed, or that there is none
pub record Judged (ss : List ℕ) (k before after : ℕ) (ms left : List ℕ) (passed : Bool) : Type 0 where
  pub accepted : passed ≡ true → ((t : Tree) × Grown ss k before after t × Claimed (slots t) ms left)
  pub refused : passed ≡ false → (t : Tree) → Grown ss k before after t → Unclaimed ms (slots t) → ⊥

-- n free slots from slot k on, none of them claimed
pub record Chain (ss ms : List ℕ) (k n : ℕ) : Type 0 where
  pub chain : List ℕ
  pub chained : Chained ss chain
  pub from : first chain ≡ k
  pub long : length chain ≡ n
  pub unclaimed : Unclaimed ms chain
